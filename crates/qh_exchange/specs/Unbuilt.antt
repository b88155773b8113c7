-- The lines of a script that aren't carried out yet (own).
use Rattle.std.specs.Prelude.{◌≡◌, ℕ, ◌+◌, ◌==◌, not, bytes_eq, Bool, true, List, [], ◌∷◌, ◌++◌, length, take, codes}
use Rattle.std.specs.List.{AllByRecursion, list_any, prefix_len}
use Rattle.qh_spec.specs.Lines.{lines}

-- the first words of these lines
abbrev pub unbuilt_words : List (List ℕ)
unbuilt_words = codes "retry" ∷ codes "forge" ∷ codes "grease" ∷ []

-- what stands before the first space
abbrev pub first_word : List ℕ → List ℕ
first_word line = take (prefix_len (λ (b : ℕ). not (b == 32)) line) line

abbrev pub is_unbuilt_word : List ℕ → Bool
is_unbuilt_word word = list_any (λ (unbuilt : List ℕ). bytes_eq unbuilt word) unbuilt_words

-- the line begins with one of these words
abbrev pub IsUnbuiltLine : List ℕ → Type 0
IsUnbuiltLine line = is_unbuilt_word (first_word line) ≡ true

-- the n-th line of the text, counted from 1, is the first of these
pub record IsUnbuiltAt (text : List ℕ) (n : ℕ) : Type 0 where
  pub front : List (List ℕ)
  pub line : List ℕ
  pub rest : List (List ℕ)
  pub is : lines text ≡ front ++ line ∷ rest
  pub built : AllByRecursion (λ (l : List ℕ). IsUnbuiltLine l → ⊥) front
  pub unbuilt : IsUnbuiltLine line
  pub count : n ≡ length front + 1
