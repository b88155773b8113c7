use Rattle.std.proofs.Common.{◌≡◌, ℕ, ◌+◌, ◌*◌, ◌%◌, ◌^◌, List, Option, IfSome, subst, ◌∙◌, ap}
use Rattle.endpoint_rows.proofs.Counts.{id_made}
use Rattle.endpoint_rows.proofs.kit.counted.Goals as goal

pub returns : goal.returns
returns c =
    let a = c.args in
    let q : (x : List ℕ) × IfSome c.new.result (λ id. id ≡ x) = (_, c.new.ensures.found) in
    let P : Option (List ℕ) → Type 0 = λ o. IfSome o (λ id. id ≡ q.0) in
    let is : c.unwrap.result ≡ q.0 = subst P c.unwrap.ensures q.1 in
    let word = ap (λ (m : ℕ). 2 ^ 56 * m + a.number % 2 ^ 56) c.from.ensures in
    is ∙ id_made a.len a.mark a.number _ c.to_be_bytes.result c.to_be_bytes.ensures word
