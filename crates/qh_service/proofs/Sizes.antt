-- Sizes of sections: sums that stop at a top, and the least size of a request's section.
use Rattle.std.proofs.Common.{◌≡◌, ℕ, ◌+◌, min, List, [], ◌∷◌, length, map, ap, ◌∙◌, arith}
use Rattle.std.specs.Prelude.{fold}
use Rattle.std.proofs.lemmas.List.Sums.{sum_by-cons}
use Rattle.http_header.specs.FieldValue.{FieldValue}
use Rattle.qh_spec.specs.Fields.{Field}
use Rattle.qh_spec.specs.Size.{section_size}

abbrev pub field_of : List ℕ × FieldValue → Field
field_of p = record { name = p.0; value = p.1.bytes }

abbrev pub size_of : Field → ℕ
size_of f = length f.name + length f.value + 32

-- a sum that stops at t after each field is the sum, stopped at t
fold_sizes : (t a : ℕ) (ps : List (List ℕ × FieldValue))
    → fold (λ n p. min t (n + min t (length p.0 + length p.1.bytes + 32))) (min t a) ps ≡ min t (a + section_size (map field_of ps))
fold_sizes t a [] = omega arith
fold_sizes t a (p ∷ ps) =
    let s = length p.0 + length p.1.bytes + 32 in
    let step : min t (min t a + min t s) ≡ min t (a + s) = omega arith in
    let rest = fold_sizes t (a + s) ps in
    rw step (rest ∙ ap (min t) (omega (arith, sum_by-cons size_of (field_of p) (map field_of ps))))

pub fold_sizes_all : (t : ℕ) (ps : List (List ℕ × FieldValue))
    → fold (λ n p. min t (n + min t (length p.0 + length p.1.bytes + 32))) 0 ps ≡ min t (section_size (map field_of ps))
fold_sizes_all t ps =
    let none : 0 ≡ min t 0 = omega arith in
    let same : 0 + section_size (map field_of ps) ≡ section_size (map field_of ps) = omega arith in
    rw (← same) (ap (λ (a : ℕ). fold (λ n p. min t (n + min t (length p.0 + length p.1.bytes + 32))) a ps) none ∙ fold_sizes t 0 ps)
