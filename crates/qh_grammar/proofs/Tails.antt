-- What may follow an authority.
use Rattle.std.proofs.Common.{◌≡◌, ℕ, ◌<◌, Bool, List, [], ◌∷◌, length, codes, IsTrue, IsFalse, refl, ap, inl, inr, arith}
use Rattle.std.proofs.lemmas.Bool.{cases_Bool}
use Rattle.http_uri.specs.Grammar.{EndsAuthority, IsPathInput, without_fragment}
use Rattle.qh_grammar.specs.Uri.{IsSomeTail}

pub empty_tail : (text : List ℕ) → length text ≡ 0 → IsSomeTail text
empty_tail [] e = (codes "/", inl (refl, refl))
empty_tail (b ∷ bs) e = absurd (omega arith)

pub tail_of_path : (text : List ℕ) → EndsAuthority text → 0 < length text → IsPathInput text → IsSomeTail text
tail_of_path text ends some p = (without_fragment text, inr (ends some, p, refl))

pub path_of_tail : (text : List ℕ) → 0 < length text → IsSomeTail text → IsPathInput text
path_of_tail text some (kept, inl e) = absurd (omega (arith, ap length e.0))
path_of_tail text some (kept, inr p) = p.1

-- a test that is true of each path is true of each tail
pub path_tested : (text : List ℕ) (b : Bool) → 0 < length text → (IsFalse b → ¬ (IsPathInput text)) → IsSomeTail text → IsTrue b
path_tested text b some never tail =
    elim (cases_Bool b) [
      | inl t ↦ t
      | inr other ↦ absurd (never other (path_of_tail text some tail))
    ]
