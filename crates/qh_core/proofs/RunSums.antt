-- Ends on streams that differ, each within what was written on its stream, come in sum to no more than all that was written.
use Rattle.std.proofs.Common.{◌≡◌, ℕ, ◌+◌, ◌≤◌, ◌==◌, true, false, List, [], ◌∷◌, length, length-append, refl, sym, subst, arith, inl, inr}
use Rattle.std.proofs.lemmas.Bool.Decides.{eqb_tells}
use Rattle.std.proofs.lemmas.List.Sums.{sum_by-cons}
use Rattle.std.specs.Prelude.{map, sum_by}
use Rattle.qh_spec.specs.Lists.{In, Distinct}
use Rattle.qh_spec.specs.Transcript.{Act, HandedIn, HandedOut, Wrote, Finished, Reset, Stopped, ReadBytes, ReadEnd, ReadReset, written}
use Rattle.qh_transcript.specs.Within.{written_in_all}

-- a stream, and an offset on it
abbrev End : Type 0
End = ℕ × ℕ

abbrev streams_of : List End → List ℕ
streams_of ends = map (λ (e : End). e.0) ends

-- how many bytes were written on the stream
abbrev count_at : List Act → End → ℕ
count_at t e = length (written t e.0)

below : (g h : End → ℕ) (ends : List End) → ((end : End) → In end ends → g end ≤ h end) → sum_by g ends ≤ sum_by h ends
below g h [] each = omega arith
below g h (r ∷ rs) each =
    let first = each r (inl refl) in
    let rest = below g h rs (λ end is. each end (inr is)) in
    let left = sum_by-cons g r rs in
    let right = sum_by-cons h r rs in
    omega (arith, first, rest, left, right)

wrote_here : (s : ℕ) (bytes : List ℕ) (t : List Act) (r : End) → (s == r.0) ≡ true → count_at (Wrote s bytes ∷ t) r ≡ length bytes + count_at t r
wrote_here s bytes t r here = rw here (length-append bytes (written t r.0))

wrote_apart : (s : ℕ) (bytes : List ℕ) (t : List Act) (r : End) → (s == r.0) ≡ false → count_at (Wrote s bytes ∷ t) r ≡ count_at t r
wrote_apart s bytes t r apart = rw apart refl

others_wrote : (s : ℕ) (bytes : List ℕ) (t : List Act) (ends : List End) → (In s (streams_of ends) → ⊥) → sum_by (count_at (Wrote s bytes ∷ t)) ends ≡ sum_by (count_at t) ends
others_wrote s bytes t [] none = refl
others_wrote s bytes t (r ∷ rs) none =
    let rest = others_wrote s bytes t rs (λ is. none (inr is)) in
    let new = sum_by-cons (count_at (Wrote s bytes ∷ t)) r rs in
    let old = sum_by-cons (count_at t) r rs in
    elim (eqb_tells s r.0) [
      | inl here ↦ absurd (none (inl (sym here.1)))
      | inr apart ↦ let first = wrote_apart s bytes t r apart.0 in omega (arith, first, rest, new, old)
    ]

one_wrote : (s : ℕ) (bytes : List ℕ) (t : List Act) (ends : List End) → Distinct (streams_of ends) → sum_by (count_at (Wrote s bytes ∷ t)) ends ≤ length bytes + sum_by (count_at t) ends
one_wrote s bytes t [] apart = omega arith
one_wrote s bytes t (r ∷ rs) apart =
    let new = sum_by-cons (count_at (Wrote s bytes ∷ t)) r rs in
    let old = sum_by-cons (count_at t) r rs in
    elim (eqb_tells s r.0) [
      | inl here ↦
          let first = wrote_here s bytes t r here.0 in
          let rest = others_wrote s bytes t rs (subst (λ (k : ℕ). In k (streams_of rs) → ⊥) (sym here.1) apart.0) in
          omega (arith, first, rest, new, old)
      | inr away ↦
          let first = wrote_apart s bytes t r away.0 in
          let rest = one_wrote s bytes t rs apart.1 in
          omega (arith, first, rest, new, old)
    ]

none_wrote : (ends : List End) → sum_by (count_at []) ends ≡ 0
none_wrote [] = refl
none_wrote (r ∷ rs) = let rest = none_wrote rs in let all = sum_by-cons (count_at []) r rs in omega (arith, rest, all)

all_wrote : (t : List Act) (ends : List End) → Distinct (streams_of ends) → sum_by (count_at t) ends ≤ written_in_all t
all_wrote [] ends apart = let none = none_wrote ends in omega (arith, none)
all_wrote (Wrote s bytes ∷ t) ends apart =
    let rest = all_wrote t ends apart in
    let first = one_wrote s bytes t ends apart in
    omega (arith, first, rest)
all_wrote (HandedIn d ∷ t) ends apart = let rest : sum_by (count_at (HandedIn d ∷ t)) ends ≤ written_in_all t = all_wrote t ends apart in omega (arith, rest)
all_wrote (HandedOut d ∷ t) ends apart = let rest : sum_by (count_at (HandedOut d ∷ t)) ends ≤ written_in_all t = all_wrote t ends apart in omega (arith, rest)
all_wrote (Finished s ∷ t) ends apart = let rest : sum_by (count_at (Finished s ∷ t)) ends ≤ written_in_all t = all_wrote t ends apart in omega (arith, rest)
all_wrote (Reset s code ∷ t) ends apart = let rest : sum_by (count_at (Reset s code ∷ t)) ends ≤ written_in_all t = all_wrote t ends apart in omega (arith, rest)
all_wrote (Stopped s code ∷ t) ends apart = let rest : sum_by (count_at (Stopped s code ∷ t)) ends ≤ written_in_all t = all_wrote t ends apart in omega (arith, rest)
all_wrote (ReadBytes s offset bytes ∷ t) ends apart = let rest : sum_by (count_at (ReadBytes s offset bytes ∷ t)) ends ≤ written_in_all t = all_wrote t ends apart in omega (arith, rest)
all_wrote (ReadEnd s ∷ t) ends apart = let rest : sum_by (count_at (ReadEnd s ∷ t)) ends ≤ written_in_all t = all_wrote t ends apart in omega (arith, rest)
all_wrote (ReadReset s code ∷ t) ends apart = let rest : sum_by (count_at (ReadReset s code ∷ t)) ends ≤ written_in_all t = all_wrote t ends apart in omega (arith, rest)

pub sum_within : (t : List Act) (ends : List End) → Distinct (streams_of ends) → ((end : End) → In end ends → end.1 ≤ length (written t end.0))
    → sum_by (λ (e : End). e.1) ends ≤ written_in_all t
sum_within t ends apart each =
    let each_below = below (λ (e : End). e.1) (count_at t) ends each in
    let all = all_wrote t ends apart in
    omega (arith, each_below, all)
