-- Bytes that are written one after another.
use Rattle.std.proofs.Common.{◌≡◌, ℕ, List, ◌++◌, length, take, drop, refl, sym, ap, ◌∙◌, Result, Ok, Err, append_assoc}
use Rattle.std.specs.Prelude.{OnErr}
use Rattle.std.proofs.lemmas.List.{take_at, take-append-drop}
use Rattle.qh_qpack.specs.Grown.{HasGrown}

grown_more : (old mid new x : List ℕ) → mid ≡ old ++ x → HasGrown mid new → HasGrown old new
grown_more old mid new x e g =
    let whole : new ≡ old ++ (x ++ drop (length mid) new) =
    sym (take-append-drop (length mid) new) ∙ ap (λ (z : List ℕ). z ++ drop (length mid) new) (g ∙ e) ∙ append_assoc old x (drop (length mid) new) in
    ap (take (length old)) whole ∙ take_at old (x ++ drop (length mid) new) (length old) refl

pub err_grown : {T E : Type 0} (r : Result T E) (old mid new x : List ℕ) → mid ≡ old ++ x → HasGrown mid new → OnErr r (HasGrown old new)
err_grown (Ok t) old mid new x e g = tt
err_grown (Err f) old mid new x e g = grown_more old mid new x e g
