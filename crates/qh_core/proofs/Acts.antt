-- What one datagram more that is handed in or out leaves of all that was done.
use Rattle.std.proofs.Common.{◌≡◌, ◌⊎◌, ℕ, List, [], ◌∷◌, ◌++◌, refl, sym, ap, subst, ◌∙◌, inl, inr}
use Rattle.qh_core.proofs.Handed.{never_empty}
use Rattle.qh_core.specs.Follows.{HasComing, HasFrame, HasNumber}
use Rattle.qh_spec.proofs.Members.{in_left, in_last}
use Rattle.qh_spec.proofs.TranscriptLaws.{handed_in-append}
use Rattle.qh_spec.specs.Lists.{In}
use Rattle.qh_spec.specs.QuicFrames.{QuicFrame}
use Rattle.qh_spec.specs.Transcript.{Act, HandedIn, HandedOut, handed_in}
use Rattle.qh_spec.specs.declared.sides.Side.{Side}
use Rattle.qh_streams.specs.declared.frames.StreamFrame.{StreamFrame}

-- ---- where an act stands

heads : {X : Type 0} (x y : X) (xs ys : List X) → x ∷ xs ≡ y ∷ ys → (x ≡ y) × (xs ≡ ys)
heads x y xs ys e = (cc, cc)

-- an act is the last one, or stands before it
pub last_or_before : (t before after : List Act) (a b : Act) → t ++ a ∷ [] ≡ before ++ b ∷ after → ((before ≡ t) × (a ≡ b)) ⊎ ((rest : List Act) × (t ≡ before ++ b ∷ rest))
last_or_before [] [] after a b e = inl (refl, (heads a b [] after e).0)
last_or_before [] (x ∷ before) after a b e = absurd (never_empty before after b (sym (heads a x [] (before ++ b ∷ after) e).1))
last_or_before (x ∷ t) [] after a b e = inr (t, ap (λ (y : Act). y ∷ t) (heads x b (t ++ a ∷ []) after e).0)
last_or_before (x ∷ t) (y ∷ before) after a b e =
    let parts = heads x y (t ++ a ∷ []) (before ++ b ∷ after) e in
    elim (last_or_before t before after a b parts.1) [
      | inl last ↦ inl (ap (λ (z : List Act). y ∷ z) last.0 ∙ ap (λ (z : Act). z ∷ t) (sym parts.0), last.1)
      | inr r ↦ inr (r.0, ap (λ (z : Act). z ∷ t) parts.0 ∙ ap (λ (z : List Act). y ∷ z) r.1)
    ]

pub one_datagram : (d e : List ℕ) → HandedOut d ≡ HandedOut e → d ≡ e
one_datagram d e same = cc

-- ---- what was handed in, with one datagram more

one_in : (t : List Act) (d : List ℕ) → handed_in (t ++ HandedIn d ∷ []) ≡ handed_in t ++ d ∷ []
one_in t d = handed_in-append t (HandedIn d ∷ [])

pub in_last_act : (t : List Act) (d : List ℕ) → In d (handed_in (t ++ HandedIn d ∷ []))
in_last_act t d = subst (λ (z : List (List ℕ)). In d z) (sym (one_in t d)) (in_last d (handed_in t))

module _ (k : ℕ) (xs ys : List (List ℕ)) (among : (d : List ℕ) → In d xs → In d ys) (side : Side) where
  frame_among : (f : QuicFrame) → HasFrame k xs side f → HasFrame k ys side f
  frame_among f q = record { datagram = q.datagram; among = among q.datagram q.among; packet = q.packet; has = q.has; space_is = q.space_is; sender_is = q.sender_is; frame_among = q.frame_among }

  coming_among : (f : StreamFrame) → HasComing k xs side f → HasComing k ys side f
  coming_among f q = record { frame = q.frame; is = q.is; has = frame_among _ q.has }

  number_among : (n : ℕ) → HasNumber k xs side n → HasNumber k ys side n
  number_among n q = record { datagram = q.datagram; among = among q.datagram q.among; packet = q.packet; has = q.has; space_is = q.space_is; sender_is = q.sender_is; number_is = q.number_is }

among_more : (t : List Act) (d x : List ℕ) → In x (handed_in t) → In x (handed_in (t ++ HandedIn d ∷ []))
among_more t d x is = subst (λ (z : List (List ℕ)). In x z) (sym (one_in t d)) (in_left x (handed_in t) (d ∷ []) is)

pub coming_before : (k : ℕ) (side : Side) (t : List Act) (d : List ℕ) (f : StreamFrame) → HasComing k (handed_in t) side f → HasComing k (handed_in (t ++ HandedIn d ∷ [])) side f
coming_before k side t d f q = coming_among k (handed_in t) (handed_in (t ++ HandedIn d ∷ [])) (among_more t d) side f q

pub number_before : (k : ℕ) (side : Side) (t : List Act) (d : List ℕ) (n : ℕ) → HasNumber k (handed_in t) side n → HasNumber k (handed_in (t ++ HandedIn d ∷ [])) side n
number_before k side t d n q = number_among k (handed_in t) (handed_in (t ++ HandedIn d ∷ [])) (among_more t d) side n q
