-- Acts that hand no datagram in or out leave what was handed in and out.
use Rattle.std.proofs.Common.{◌≡◌, List, [], ◌∷◌, ◌++◌, length, ℕ, ◌+◌, ◌≤◌, sym, ap, subst, ◌∙◌, arith}
use Rattle.std.proofs.lemmas.List.{append-nil, length-append}
use Rattle.qh_core.specs.Follows.{HasFrame, reset_frame}
use Rattle.qh_spec.proofs.TranscriptLaws.{handed_in-append, handed_out-append, written-append}
use Rattle.qh_spec.specs.Transcript.{Act, HandedOut, handed_in, handed_out, written}
use Rattle.qh_spec.specs.declared.sides.Side.{Side}

pub record HandNothing (u : List Act) : Type 0 where
  pub into : handed_in u ≡ []
  pub out : handed_out u ≡ []

pub same_in : (t u : List Act) → handed_in u ≡ [] → handed_in (t ++ u) ≡ handed_in t
same_in t u none = handed_in-append t u ∙ ap (λ (z : List (List ℕ)). handed_in t ++ z) none ∙ append-nil (handed_in t)

pub same_out : (t u : List Act) → handed_out u ≡ [] → handed_out (t ++ u) ≡ handed_out t
same_out t u none = handed_out-append t u ∙ ap (λ (z : List (List ℕ)). handed_out t ++ z) none ∙ append-nil (handed_out t)

-- ---- a datagram that was handed out before or after acts that hand none out was handed out before them

pub never_empty : {X : Type 0} (xs ys : List X) (x : X) → xs ++ x ∷ ys ≡ [] → ⊥
never_empty [] ys x e = cc
never_empty (y ∷ xs) ys x e = cc

is_there : (before after : List Act) (d : List ℕ) → handed_out (before ++ HandedOut d ∷ after) ≡ [] → ⊥
is_there before after d none = never_empty (handed_out before) (handed_out after) d (sym (handed_out-append before (HandedOut d ∷ after)) ∙ none)

front : (a b : Act) (t u : List Act) → a ∷ t ≡ b ∷ u → (a ≡ b) × (t ≡ u)
front a b t u e = (cc, cc)

pub before_those : (t u before after : List Act) (d : List ℕ) → handed_out u ≡ [] → t ++ u ≡ before ++ HandedOut d ∷ after → (rest : List Act) × (t ≡ before ++ HandedOut d ∷ rest)
before_those [] u before after d none e = absurd (is_there before after d (sym (ap handed_out e) ∙ none))
before_those (a ∷ t) u [] after d none e = (t, ap (λ (b : Act). b ∷ t) (front a (HandedOut d) (t ++ u) after e).0)
before_those (a ∷ t) u (b ∷ before) after d none e =
    let parts = front a b (t ++ u) (before ++ HandedOut d ∷ after) e in
    let r = before_those t u before after d none parts.1 in
    (r.0, ap (λ (b : Act). b ∷ t) parts.0 ∙ ap (λ (t : List Act). b ∷ t) r.1)

-- ---- final sizes

-- what was written on a stream stays
pub written_on : (t u : List Act) (id size : ℕ) → size ≤ length (written t id) → size ≤ length (written (t ++ u) id)
written_on t u id size below =
    let whole : length (written (t ++ u) id) ≡ length (written t id) + length (written u id) = ap length (written-append t u id) ∙ length-append (written t id) (written u id) in
    omega (arith, below, whole)

-- the final sizes that were handed out are still no more than was written
pub resets_on : (k : ℕ) (side : Side) (t u : List Act) → handed_out u ≡ [] → ((id code size : ℕ) → HasFrame k (handed_out t) side (reset_frame id code size) → size ≤ length (written t id))
    → (id code size : ℕ) → HasFrame k (handed_out (t ++ u)) side (reset_frame id code size) → size ≤ length (written (t ++ u) id)
resets_on k side t u none before id code size has =
    written_on t u id size (before id code size (subst (λ (z : List (List ℕ)). HasFrame k z side (reset_frame id code size)) (same_out t u none) has))
