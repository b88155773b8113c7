-- What a stateless reset is, by the test of its last bytes.
use Rattle.std.proofs.Common.{◌≡◌, ℕ, Bool, true, false, List, Option, Some, ◌≤◌, length, sym, ◌∙◌, subst}
use Rattle.std.proofs.lemmas.Bool.Decides.{Decides-eqb}
use Rattle.std.proofs.lemmas.Slice.Eq.{ends_is}
use Rattle.std.specs.List.{ends_with}
use Rattle.std.specs.Prelude.{◌==◌}
use Rattle.qh_base.specs.declared.shared.ResetToken.{ResetToken}
use Rattle.qh_conn.specs.Incoming.{is_reset_by}

pub reset_yes : (o : Option ResetToken) (token : ResetToken) (d : List ℕ) (r : Bool) → o ≡ Some token → 21 ≤ length d → r ≡ ends_with (λ a b. a == b) d token.0 → r ≡ true → is_reset_by o d
reset_yes o token d r e long value is = subst (λ (x : Option ResetToken). is_reset_by x d) (sym e) (long, (_, (ends_is Decides-eqb d token.0 r value).0 is))

pub reset_no : (o : Option ResetToken) (token : ResetToken) (d : List ℕ) (r : Bool) → o ≡ Some token → r ≡ ends_with (λ a b. a == b) d token.0 → r ≡ false → is_reset_by o d → ⊥
reset_no o token d r e value is reset =
    let s = subst (λ (x : Option ResetToken). is_reset_by x d) e reset in
    let z : true ≡ false = sym ((ends_is Decides-eqb d token.0 r value).1 s.1.0 s.1.1) ∙ is in cc
