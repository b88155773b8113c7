-- What the part of a handshake has of all that was done with an end, and what acts without a datagram leave as it is.
use Rattle.std.proofs.Common.{◌≡◌, ◌⊎◌, inl, inr, ℕ, List, [], ◌∷◌, ◌++◌, refl, sym, ap, ◌∙◌, subst, append-nil, append_assoc}
use Rattle.qh_converse.specs.Parts.{IsShakeOf}
use Rattle.qh_converse.specs.Parts.IsShakeOf.{none as no_shake, came, went, other as other_act}
use Rattle.qh_spec.proofs.Members.{in_left, in_right, in_split}
use Rattle.qh_spec.proofs.PacketLaws.{not_initial}
use Rattle.qh_spec.proofs.PartLaws.{out_more}
use Rattle.qh_spec.proofs.TranscriptLaws.{handed_in-append, handed_out-append}
use Rattle.qh_spec.specs.Datagram.{IsInitialForm}
use Rattle.qh_spec.specs.Lists.{In}
use Rattle.qh_spec.specs.Parted.{AreShort, IsPartOf, IsShort}
use Rattle.qh_spec.specs.Parted.IsPartOf.{same as same_act}
use Rattle.qh_spec.specs.Transcript.{Act, HandedIn, HandedOut, Wrote, Finished, Reset, Stopped, ReadBytes, ReadEnd, ReadReset, in_of, out_of, handed_in, handed_out}

-- ---- datagrams of the part

pub handed_in_more : (t : List Act) (d : List ℕ) → handed_in (t ++ HandedIn d ∷ []) ≡ handed_in t ++ d ∷ []
handed_in_more t d = handed_in-append t (HandedIn d ∷ [])

pub handed_in_still : (t : List Act) (a : Act) → in_of a ≡ [] → handed_in (t ++ a ∷ []) ≡ handed_in t
handed_in_still t a quiet = handed_in-append t (a ∷ []) ∙ ap (λ (z : List (List ℕ)). handed_in t ++ (z ++ [])) quiet ∙ append-nil (handed_in t)

-- each datagram that was handed in was handed in to the handshake
pub shake_in : (u t : List Act) → IsShakeOf u t → handed_in u ≡ handed_in t
shake_in u t no_shake = refl
shake_in u t (came shake whole d p) = handed_in_more shake d ∙ ap (λ (z : List (List ℕ)). z ++ d ∷ []) (shake_in shake whole p) ∙ sym (handed_in_more whole d)
shake_in u t (went shake whole d alone p) = handed_in_still shake (HandedOut d) refl ∙ shake_in shake whole p ∙ sym (handed_in_still whole (HandedOut d) refl)
shake_in u t (other_act shake whole a quiet short p) = shake_in shake whole p ∙ sym (handed_in_still whole a quiet)

pub is_handed_out : (a : Act) (d : List ℕ) → In d (out_of a) → a ≡ HandedOut d
is_handed_out (HandedIn g) d i = absurd i
is_handed_out (HandedOut g) d i = elim i [ inl e ↦ ap HandedOut e | inr n ↦ absurd n ]
is_handed_out (Wrote stream bytes) d i = absurd i
is_handed_out (Finished stream) d i = absurd i
is_handed_out (Reset stream code) d i = absurd i
is_handed_out (Stopped stream code) d i = absurd i
is_handed_out (ReadBytes stream offset bytes) d i = absurd i
is_handed_out (ReadEnd stream) d i = absurd i
is_handed_out (ReadReset stream code) d i = absurd i

pub out_kept : (d : List ℕ) (t : List Act) (a : Act) → In d (handed_out t) → In d (handed_out (t ++ a ∷ []))
out_kept d t a i = subst (λ (z : List (List ℕ)). In d z) (sym (handed_out-append t (a ∷ []))) (in_left d (handed_out t) (handed_out (a ∷ [])) i)

pub out_last : (d : List ℕ) (t : List Act) (g : List ℕ) → In d (g ∷ []) → In d (handed_out (t ++ HandedOut g ∷ []))
out_last d t g i = subst (λ (z : List (List ℕ)). In d z) (sym (handed_out-append t (HandedOut g ∷ []))) (in_right d (handed_out t) (g ∷ []) i)

-- each datagram that was handed out was handed out by the handshake, or begins with a short header
pub shake_out : (u t : List Act) → IsShakeOf u t → (d : List ℕ) → In d (handed_out t) → In d (handed_out u) ⊎ IsShort d
shake_out u t no_shake d i = absurd i
shake_out u t (came shake whole g p) d i =
    elim (out_more d whole (HandedIn g) [] refl i) [
      | inl h ↦ elim (shake_out shake whole p d h) [ inl x ↦ inl (out_kept d shake (HandedIn g) x) | inr s ↦ inr s ]
      | inr h ↦ absurd h
    ]
shake_out u t (went shake whole g alone p) d i =
    elim (out_more d whole (HandedOut g) (g ∷ []) refl i) [
      | inl h ↦ elim (shake_out shake whole p d h) [ inl x ↦ inl (out_kept d shake (HandedOut g) x) | inr s ↦ inr s ]
      | inr h ↦ inl (out_last d shake g h)
    ]
shake_out u t (other_act shake whole a quiet short p) d i =
    elim (out_more d whole a (out_of a) refl i) [
      | inl h ↦ shake_out shake whole p d h
      | inr h ↦ inr (short d (is_handed_out a d h))
    ]

-- no Initial packet begins what begins with a short header
pub short_behind : (d : List ℕ) → IsShort d → (front rest body : List ℕ) (first : ℕ) → d ≡ front ++ rest → IsInitialForm front first body → ⊥
short_behind d s front rest body first e i = not_initial d front rest first body e i s.1

-- ---- what was handed out begins with short headers

pub short_in : (t : List Act) (d : List ℕ) → AreShort t → AreShort (t ++ HandedIn d ∷ [])
short_in t d p x i = elim (out_more x t (HandedIn d) [] refl i) [ inl h ↦ p x h | inr h ↦ absurd h ]

pub short_out : (t : List Act) (d : List ℕ) → IsShort d → AreShort t → AreShort (t ++ HandedOut d ∷ [])
short_out t d s p x i =
    elim (out_more x t (HandedOut d) (d ∷ []) refl i) [
      | inl h ↦ p x h
      | inr h ↦ elim h [ inl e ↦ subst (λ (z : List ℕ). IsShort z) e s | inr n ↦ absurd n ]
    ]

-- ---- acts without a datagram

pub record IsQuiet (a : Act) : Type 0 where
  pub into : in_of a ≡ []
  pub out : out_of a ≡ []

abbrev pub AreQuiet : List Act → Type 0
AreQuiet [] = Unit {0}
AreQuiet (a ∷ acts) = IsQuiet a × AreQuiet acts

pub both_quiet : (u v : List Act) → AreQuiet u → AreQuiet v → AreQuiet (u ++ v)
both_quiet [] v p q = q
both_quiet (a ∷ u) v p q = (p.0, both_quiet u v p.1 q)

pub not_out : (a : Act) → IsQuiet a → (d : List ℕ) → a ≡ HandedOut d → ⊥
not_out a q d e = let f : d ∷ [] ≡ [] = sym (ap out_of e) ∙ q.out in cc

quiet_out : (acts : List Act) → AreQuiet acts → handed_out acts ≡ []
quiet_out [] p = refl
quiet_out (a ∷ acts) p = ap (λ (z : List (List ℕ)). z ++ handed_out acts) p.0.out ∙ quiet_out acts p.1

-- what each quiet act carries on all carry on
pub all_quiet : (P : List Act → List Act → Type 0) → ((u t : List Act) (a : Act) → IsQuiet a → P u t → P (u ++ a ∷ []) (t ++ a ∷ []))
    → (acts u t : List Act) → AreQuiet acts → P u t → P (u ++ acts) (t ++ acts)
all_quiet P step [] u t q p = subst (λ (z : List Act). P (u ++ []) z) (sym (append-nil t)) (subst (λ (z : List Act). P z t) (sym (append-nil u)) p)
all_quiet P step (a ∷ acts) u t q p =
    subst (λ (z : List Act). P (u ++ a ∷ acts) z) (append_assoc t (a ∷ []) acts)
    (subst (λ (z : List Act). P z ((t ++ a ∷ []) ++ acts)) (append_assoc u (a ∷ []) acts)
    (all_quiet P step acts (u ++ a ∷ []) (t ++ a ∷ []) q.1 (step u t a q.0 p)))

pub shake_quiet : (acts u t : List Act) → AreQuiet acts → IsShakeOf u t → IsShakeOf u (t ++ acts)
shake_quiet acts u t q p =
    all_quiet (λ (_ whole : List Act). IsShakeOf u whole) (λ _ whole a quiet s. other_act u whole a quiet.into (λ d e. absurd (not_out a quiet d e)) s) acts [] t q p

pub part_quiet : (acts u t : List Act) → AreQuiet acts → IsPartOf u t → IsPartOf (u ++ acts) (t ++ acts)
part_quiet acts u t q p = all_quiet (λ (part whole : List Act). IsPartOf part whole) (λ part whole a quiet s. same_act part whole a quiet.into s) acts u t q p

pub short_quiet : (acts t : List Act) → AreQuiet acts → AreShort t → AreShort (t ++ acts)
short_quiet acts t q p x i =
    elim (in_split x (handed_out t) (handed_out acts) (subst (λ (z : List (List ℕ)). In x z) (handed_out-append t acts) i)) [
      | inl h ↦ p x h
      | inr h ↦ absurd (subst (λ (z : List (List ℕ)). In x z) (quiet_out acts q) h)
    ]
