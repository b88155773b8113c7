-- What is left of ranges when the least of them go.
use Rattle.std.proofs.Common.{◌≡◌, ℕ, zero, suc, ◌-◌, ◌<◌, ◌≤◌, ◌==◌, ◌^◌, Bool, true, false, ◌&&◌, ◌||◌, nat_le, List, [], ◌∷◌, length, take, drop, Option, Some, None, MatchOption, sym, ap, ◌∙◌, arith, inl, inr, length-drop}
use Rattle.std.proofs.lemmas.Bool.{cases_lt, cases_eq, le-leb, lt-leb, eq-eqb, ne_eqb, or_cases, both_ways, false_from_ne_true}
use Rattle.std.specs.declared.ops.Range.{Range}
use Rattle.qh_buffers.specs.Ranges.{PlainRange, is_in, has, AreApart, start_behind}
use Rattle.qh_buffers.proofs.RangeLaws.{has_cut, none_below, none_behind, apart_take, apart_drop, apart_lower}
use Rattle.qh_recovery.specs.PendingAcks.{IsJoined, AreFew, last_ranges}
use Rattle.qh_recovery.proofs.Window.{one, one_is, one_has}

one_eq : (n k : ℕ) → is_in (one n) k ≡ (k == n)
one_eq n k =
    elim (cases_eq k n) [
      | inl e ↦ one_has n k (sym e) ∙ sym (eq-eqb k n e)
      | inr ne ↦ false_from_ne_true (is_in (one n) k) (λ h. ne (sym (one_is n k h))) ∙ sym (ne_eqb k n ne)
    ]

module _ (rs : List PlainRange) (i : ℕ) (apart : AreApart 0 rs) where
  -- the end of the last range that goes
  abbrev pub bound_at : ℕ
  bound_at = start_behind 0 (take i rs) - 1

  gone : (k : ℕ) → bound_at ≤ k → has (take i rs) k ≡ false
  gone k h = none_behind (take i rs) 0 k (apart_take rs i 0 apart) (omega arith)

  left : (k : ℕ) → k < start_behind 0 (take i rs) → has (drop i rs) k ≡ false
  left k h = none_below (drop i rs) (start_behind 0 (take i rs)) k (apart_drop rs i 0 apart) h

  cut_numbers : (k : ℕ) → has (drop i rs) k ≡ (nat_le bound_at k && has rs k)
  cut_numbers k =
      elim (cases_lt k bound_at) [
        | inl low ↦ rw (lt-leb bound_at k low) (left k (omega arith))
        | inr high ↦ rw (le-leb bound_at k high) (sym (has_cut rs i k ∙ rw (gone k high)))
      ]

  cut_whole : 0 < bound_at → has rs bound_at ≡ false
  cut_whole some = has_cut rs i bound_at ∙ rw (gone bound_at (omega arith), left bound_at (omega arith))

-- the bound if none goes
bound_none : (rs : List PlainRange) (i : ℕ) (apart : AreApart 0 rs) → 0 < bound_at rs i apart → 0 < i
bound_none rs zero apart h = absurd (omega arith)
bound_none rs (suc i) apart h = omega arith

pub joined_last : (old mid : List PlainRange) (n : ℕ) → AreApart 0 mid → ((k : ℕ) → has mid k ≡ (is_in (one n) k || has old k)) → (bound : ℕ) × IsJoined old (last_ranges mid) n bound
joined_last old mid n apart numbers =
    let i : ℕ = length mid - 32 in
    let b : ℕ = bound_at mid i apart in
    let with : (k : ℕ) → has mid k ≡ (k == n || has old k) = λ k. numbers k ∙ ap (λ (t : Bool). t || has old k) (one_eq n k) in (
      b,
      record {
        numbers = λ k. cut_numbers mid i apart k ∙ ap (λ (t : Bool). nat_le b k && t) (with k);
        apart = apart_lower (drop i mid) 0 (start_behind 0 (take i mid)) (omega arith) (apart_drop mid i 0 apart);
        few = omega (arith, length-drop i mid);
        needed = λ some. omega (arith, length-drop i mid, bound_none mid i apart some);
        whole = λ some. sym (with b) ∙ cut_whole mid i apart some;
      },
    )

pub few_last : (old mid : List PlainRange) (n : ℕ) → AreApart 0 mid → AreFew old → n < 2 ^ 62 → ((k : ℕ) → has mid k ≡ (is_in (one n) k || has old k)) → AreFew (last_ranges mid)
few_last old mid n apart few small numbers =
    let i : ℕ = length mid - 32 in
    let sub : (k : ℕ) → has (drop i mid) k ≡ true → has mid k ≡ true = λ k h. elim (cases_lt k (bound_at mid i apart)) [
      | inl low ↦ absurd (both_ways (has (drop i mid) k) (cut_numbers mid i apart k ∙ rw (lt-leb (bound_at mid i apart) k low)) h)
      | inr high ↦ sym (cut_numbers mid i apart k ∙ rw (le-leb (bound_at mid i apart) k high)) ∙ h
    ] in
    record {
      few = omega (arith, length-drop i mid);
      below = λ k h. elim (or_cases (is_in (one n) k) (has old k) (sym (numbers k) ∙ sub k h)) [
        | inl here ↦ omega (arith, one_is n k here, small)
        | inr there ↦ few.below k there
      ];
    }

-- the least range goes if there are more than 32
pub last_step : (r : PlainRange) (rs : List PlainRange) → 32 < length (r ∷ rs) → last_ranges (r ∷ rs) ≡ last_ranges rs
last_step r rs h =
    let e : length (r ∷ rs) - 32 ≡ suc (length rs - 32) = omega arith in
    ap (λ (i : ℕ). drop i (r ∷ rs)) e

pub least_goes : (old new : List PlainRange) (o : Option (Range ℕ)) → 32 < length old → MatchOption o ((old ≡ []) × (new ≡ [])) (λ r. old ≡ record { start = r.start; end = r.end } ∷ new) → last_ranges new ≡ last_ranges old
least_goes old new None h none = ap last_ranges (none.1 ∙ sym none.0)
least_goes old new (Some r) h split =
    let s : PlainRange = record { start = r.start; end = r.end } in
    sym (ap last_ranges split ∙ last_step s new (omega (arith, ap (λ (rs : List PlainRange). length rs) split)))
