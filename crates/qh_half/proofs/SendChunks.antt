-- What is taken of chunks, in front of what is left in them.
use Rattle.std.proofs.Common.{◌≡◌, ℕ, ◌+◌, ◌-◌, ◌<◌, ◌≤◌, List, [], ◌∷◌, ◌++◌, length, get_or, take, drop, min, refl, sym, ap, ◌∙◌, arith, inl, inr, append_assoc, length-append, set}
use Prim.Native.Nat.{suc}
use Rattle.std.specs.List.{concat}
use Rattle.std.proofs.lemmas.Bool.{cases_lt}
use Rattle.std.proofs.lemmas.List.{at_drop_more, take-append-le, drop-append-le, take_all, append-nil, drop_all, length-take-le, set_split}
use Rattle.std.proofs.Math.Seq.{take-append-add, drop-append-add, drop-nil}
use Rattle.qh_half.specs.Send.{chunks_after}

-- the first bytes of a chunk and of those behind it
take_parts : (n : ℕ) (chunk rest : List ℕ) → take n (chunk ++ rest) ≡ take (min (length chunk) n) chunk ++ take (n - min (length chunk) n) rest
take_parts n chunk rest = elim (cases_lt n (length chunk)) [
  | inl within ↦
      let least : min (length chunk) n ≡ n = omega arith in
      let none : n - n ≡ 0 = omega arith in
      rw (least, none) (take-append-le n chunk rest (omega arith) ∙ sym (append-nil (take n chunk)))
  | inr past ↦
      let least : min (length chunk) n ≡ length chunk = omega arith in
      let size : n ≡ length chunk + (n - length chunk) = omega arith in
      rw (least, take_all (length chunk) chunk (omega arith))
      (ap (λ (m : ℕ). take m (chunk ++ rest)) size ∙ take-append-add chunk rest (n - length chunk))
]

-- a copy of one more chunk
pub copy_more : (chunks : List (List ℕ)) (i left : ℕ) (bytes next all : List ℕ) → i < length chunks → next ≡ get_or chunks i next
    → bytes ++ take left (concat (drop i chunks)) ≡ all
    → (bytes ++ take (min (length next) left) next) ++ take (left - min (length next) left) (concat (drop (i + 1) chunks)) ≡ all
copy_more chunks i left bytes next all within same so_far =
    let rest : List ℕ = concat (drop (i + 1) chunks) in
    let front : concat (drop i chunks) ≡ next ++ rest = at_drop_more concat chunks i next within ∙ ap (λ (l : List ℕ). l ++ rest) (sym same) in
    append_assoc bytes (take (min (length next) left) next) (take (left - min (length next) left) rest)
    ∙ ap (λ (l : List ℕ). bytes ++ l) (sym (take_parts left next rest) ∙ ap (take left) (sym front)) ∙ so_far

-- a copy of one more chunk, or of as much of it as there is room for
pub copied_more : (chunks : List (List ℕ)) (i count : ℕ) (bytes next new all : List ℕ) → i < length chunks → next ≡ get_or chunks i next → length bytes ≤ count
    → new ≡ bytes ++ take (min (length next) (count - length bytes)) next
    → bytes ++ take (count - length bytes) (concat (drop i chunks)) ≡ all
    → (length new ≤ count) × (new ++ take (count - length new) (concat (drop (i + 1) chunks)) ≡ all)
copied_more chunks i count bytes next new all within same fits is so_far =
    let left = count - length bytes in
    let m = min (length next) left in
    let part : length (take m next) ≡ m = length-take-le m next (omega arith) in
    let size : length new ≡ length bytes + m = ap (λ (l : List ℕ). length l) is ∙ length-append bytes (take m next) ∙ ap (λ (n : ℕ). length bytes + n) part in
    let rest : count - length new ≡ left - m = omega (arith, size) in
    (omega (arith, size), rw (rest, is) (copy_more chunks i left bytes next all within same so_far))

chunks_after_none : (chunks : List (List ℕ)) → chunks_after 0 chunks ≡ chunks
chunks_after_none [] = refl
chunks_after_none (chunk ∷ chunks) =
    let none : 0 - length chunk ≡ 0 = omega arith in
    rw none (ap (λ (rest : List (List ℕ)). chunk ∷ rest) (chunks_after_none chunks))

-- the chunks once the next keeps some of its bytes
pub split_there : (chunks all : List (List ℕ)) (i left : ℕ) (chunk : List ℕ) → i < length chunks → chunk ≡ get_or chunks i chunk → left < length chunk
    → take i chunks ++ chunks_after left (drop i chunks) ≡ all → set chunks i (drop left chunk) ≡ all
split_there chunks all i left chunk within same less so_far =
    let rest : List (List ℕ) = drop (i + 1) chunks in
    let none : left - length chunk ≡ 0 = omega arith in
    let next : i + 1 ≡ suc i = omega arith in
    let here : chunks_after left (drop i chunks) ≡ drop left chunk ∷ rest =
    at_drop_more (chunks_after left) chunks i chunk within
    ∙ ap (λ (c : List ℕ). drop left c ∷ chunks_after (left - length c) rest) (sym same)
    ∙ ap (λ (n : ℕ). drop left chunk ∷ chunks_after n rest) none
    ∙ ap (λ (r : List (List ℕ)). drop left chunk ∷ r) (chunks_after_none rest) in
    set_split chunks i (drop left chunk) within
    ∙ ap (λ (n : ℕ). take i chunks ++ drop left chunk ∷ drop n chunks) (sym next)
    ∙ ap (λ (r : List (List ℕ)). take i chunks ++ r) (sym here) ∙ so_far

drop_parts : (n : ℕ) (chunk rest : List ℕ) → drop n (chunk ++ rest) ≡ drop n chunk ++ drop (n - length chunk) rest
drop_parts n chunk rest = elim (cases_lt n (length chunk)) [
  | inl within ↦
      let none : n - length chunk ≡ 0 = omega arith in
      rw none (drop-append-le n chunk rest (omega arith))
  | inr past ↦
      let size : n ≡ length chunk + (n - length chunk) = omega arith in
      rw (drop_all n chunk past) (ap (λ (m : ℕ). drop m (chunk ++ rest)) size ∙ drop-append-add chunk rest (n - length chunk))
]

-- what is left of chunks are their last bytes
pub concat-chunks_after : (chunks : List (List ℕ)) (n : ℕ) → concat (chunks_after n chunks) ≡ drop n (concat chunks)
concat-chunks_after [] n = sym (drop-nil n)
concat-chunks_after (chunk ∷ chunks) n = ap (λ (l : List ℕ). drop n chunk ++ l) (concat-chunks_after chunks (n - length chunk)) ∙ sym (drop_parts n chunk (concat chunks))
