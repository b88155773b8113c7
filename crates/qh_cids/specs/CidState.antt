-- The connection ids that an end issued (RFC 9000, sections 5.1.1 and 19.16).
use Rattle.std.specs.Prelude.{ℕ, ◌+◌, ◌<◌, ◌≤◌, ◌^◌, ◌==◌, not, zero, suc, List, [], ◌∷◌, ◌++◌, filter, All}
use Rattle.std.specs.List.Sorted.{IsStrictlyIncreasing}

-- the length of each id, how many sequences were issued, from 0 on, and those of them that weren't retired, rising
pub record PlainState : Type 0 where
  pub id_len : ℕ
  pub issued : ℕ
  pub active : List ℕ

-- what holds at any time: the active sequences rise, each was issued, and each that was issued fits into a frame
pub record IsState (s : PlainState) : Type 0 where
  pub rising : IsStrictlyIncreasing s.active
  pub were_issued : All (λ sequence. sequence < s.issued) s.active
  pub fitting : s.issued ≤ 2 ^ 62

-- so many sequences from the first on
abbrev pub sequences_from : ℕ → ℕ → List ℕ
sequences_from first zero = []
sequences_from first (suc n) = sequences_from first n ++ (first + n) ∷ []

-- those other than this one
abbrev pub without : ℕ → List ℕ → List ℕ
without sequence = filter (λ other. not (other == sequence))
