-- A buffer that grows step by step still has its old front.
use Rattle.std.proofs.Common.{◌≡◌, ℕ, List, ◌++◌, length, take, drop, refl, sym, ap, ◌∙◌, Result, Ok, Err, append_assoc}
use Rattle.std.specs.Prelude.{OnOk, OnErr}
use Rattle.std.proofs.lemmas.List.{take_at, take-append-drop}
use Rattle.qh_h3wire.specs.Grown.{HasGrown}

pub grown_on : (old mid new x : List ℕ) → mid ≡ old ++ x → HasGrown mid new → HasGrown old new
grown_on old mid new x e g =
    let whole : new ≡ old ++ (x ++ drop (length mid) new) =
    sym (take-append-drop (length mid) new) ∙ ap (λ (z : List ℕ). z ++ drop (length mid) new) (g ∙ e) ∙ append_assoc old x (drop (length mid) new) in
    ap (take (length old)) whole ∙ take_at old (x ++ drop (length mid) new) (length old) refl

pub grown_at_err : {T E : Type 0} (r : Result T E) (old mid new x : List ℕ) → mid ≡ old ++ x → HasGrown mid new → OnErr r (HasGrown old new)
grown_at_err (Ok t) old mid new x e g = tt
grown_at_err (Err f) old mid new x e g = grown_on old mid new x e g

pub at_ok : {T E P : Type 0} (r : Result T E) → P → OnOk r P
at_ok (Ok t) p = p
at_ok (Err e) p = tt
