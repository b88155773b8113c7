-- Which sends a text means.
use Rattle.std.proofs.Common.{◌≡◌, ◌≢◌, ℕ, List, ◌∷◌, ◌++◌, codes, decimal, Option, Some, None, MatchOption, refl, sym, ◌∙◌, arith}
use Rattle.qh_spec.specs.declared.link.Select.{Select}
use Rattle.qh_spec.specs.ScriptLine.{IsSelect, one, all, each}
use Rattle.qh_script.specs.Line.{HasNoSpace, SplitsFirst, IsNumber, IsNoPositive}
use Rattle.qh_script.proofs.Spaces.{no_space_within, no_space_literal, first_same}
use Rattle.qh_script.proofs.Decimals.{decimal_no_space, same_number}

no_one : (text : List ℕ) → HasNoSpace text → text ≢ codes "all" → IsNoPositive text → (which : Select) → IsSelect text which → ⊥
no_one text s a p _ (one k e l b) = p k (e, omega arith) l b
no_one text s a p _ (all e) = a e
no_one text s a p _ (each m e l b) = no_space_within (codes "each") (decimal m) (rw e at s)

no_each : (text word behind : List ℕ) → SplitsFirst text word behind → text ≢ codes "all" → (word ≡ codes "each" → IsNoPositive behind) → (which : Select) → IsSelect text which → ⊥
no_each text word behind s a p _ (one k e l b) =
    let is : decimal k ≡ word ++ (32 ∷ behind) = sym e ∙ s.0 in
    no_space_within word behind (rw is at (decimal_no_space k (omega arith)))
no_each text word behind s a p _ (all e) = a e
no_each text word behind s a p _ (each m e l b) =
    let same = first_same word behind (codes "each") (decimal m) s.1 (no_space_literal (codes "each") refl) (sym s.0 ∙ e) in
    p same.0 m (same.1, omega arith) l b

pub from_one : (text : List ℕ) → HasNoSpace text → text ≢ codes "all" → (r : Option Select) → MatchOption r (IsNoPositive text) (IsSelect text) → MatchOption r ((which : Select) → IsSelect text which → ⊥) (IsSelect text)
from_one text s a None h = no_one text s a h
from_one text s a (Some x) h = h

pub from_each : (text word behind : List ℕ) → SplitsFirst text word behind → text ≢ codes "all" → (r : Option Select) → MatchOption r (word ≡ codes "each" → IsNoPositive behind) (IsSelect (word ++ (codes " " ++ behind)))
    → MatchOption r ((which : Select) → IsSelect text which → ⊥) (IsSelect text)
from_each text word behind s a None h = no_each text word behind s a h
from_each text word behind s a (Some x) h = rw (s.0) h

-- none, but not nothing
pub no_positive_zero : (text : List ℕ) (n : ℕ) → n ≡ 0 → IsNumber text n → IsNoPositive text
no_positive_zero text n z is m im l b = omega (arith, same_number m n im.1 is.1 (sym im.0 ∙ is.0))
