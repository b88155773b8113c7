use Rattle.std.proofs.Common.{◌≡◌, ℕ, ◌-◌, List, ◌∷◌, length, take, drop, replicate, Option, IfSome, subst, ◌∙◌, ap, arith}
use Rattle.std.proofs.lemmas.Slice.{take-put_mid}
use Rattle.qh_generator.proofs.Ids.{id_written}
use Rattle.qh_generator.proofs.counting.counted.Goals as goal

pub returns : goal.returns
returns c =
    let len = c.args.len in
    let q : (x : List ℕ) × IfSome c.new.result (λ id. id ≡ x) = (_, c.new.ensures.found) in
    let P : Option (List ℕ) → Type 0 = λ o. IfSome o (λ id. id ≡ q.0) in
    let is : c.unwrap.result ≡ q.0 = subst P c.unwrap.ensures q.1 in
    let rest = c.copy_from_slice.new.self in
    let done = c.copy_from_slice.ensures.after ∙ ap (λ (z : List ℕ). take 7 (drop 1 z)) c.to_be_bytes.ensures in
    let size : length rest ≡ 7 = ap (λ (z : List ℕ). length z) done in
    let front = take-put_mid (len - 7) (len - (len - 7)) (c.args.mark ∷ replicate 19 0) rest len (omega (arith, size, c.requires.room)) (omega (arith, c.requires.short)) in
    id_written len c.args.mark c.args.counter rest c.unwrap.result c.requires.room c.requires.short c.requires.counter (is ∙ front) done
