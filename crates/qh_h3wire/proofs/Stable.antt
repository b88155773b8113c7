-- A name that isn't refused is one: it is a test of bytes.
use Rattle.std.proofs.Common.{◌≡◌, ℕ, ◌≤◌, Bool, true, false, List, length, get_or, sym, ◌∙◌, inl, inr, arith}
use Rattle.std.specs.Prelude.{bytes_eq}
use Rattle.std.proofs.lemmas.Bool.{cases_Bool, cases_lt}
use Rattle.std.proofs.lemmas.Slice.Eq.{bytes_eq-Decides}
use Rattle.http_header.specs.FieldName.{IsHeaderName}
use Rattle.http_header.specs.Token.{is_token_byte, AllPass, IsToken, lowercase}

pass : (test : ℕ → Bool) (bytes : List ℕ) → ((AllPass test bytes → ⊥) → ⊥) → AllPass test bytes
pass test bytes n k d l =
    elim (cases_Bool (test (get_or bytes k d))) [
      | inl t ↦ t
      | inr f ↦ absurd (n (λ all. let both : true ≡ false = sym (all k d l) ∙ f in cc))
    ]

at_most : (m n : ℕ) → ((m ≤ n → ⊥) → ⊥) → m ≤ n
at_most m n h = elim (cases_lt n m) [ inl more ↦ absurd (h (λ few. omega arith)) | inr few ↦ few ]

is_token : (bytes : List ℕ) → ((IsToken bytes → ⊥) → ⊥) → IsToken bytes
is_token bytes n = (at_most 1 (length bytes) (λ m. n (λ t. m t.0)), pass is_token_byte bytes (λ m. n (λ t. m t.1)))

pub is_name : (bytes : List ℕ) → ((IsHeaderName bytes → ⊥) → ⊥) → IsHeaderName bytes
is_name bytes n = (
  (is_token bytes (λ m. n (λ t. m t.0.0)), at_most (length bytes) 65535 (λ m. n (λ t. m t.0.1))),
  elim (cases_Bool (bytes_eq (lowercase bytes) bytes)) [
    | inl t ↦ (bytes_eq-Decides (lowercase bytes) bytes).0 t
    | inr f ↦ absurd (n (λ t. let same : bytes_eq (lowercase bytes) bytes ≡ true = (bytes_eq-Decides (lowercase bytes) bytes).1 t.1 in let both : true ≡ false = sym same ∙ f in cc))
  ],
)
