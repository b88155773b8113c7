-- Which bytes a read gives, and what is left.
use Rattle.std.proofs.Common.{◌≡◌, ◌⊎◌, ℕ, ◌+◌, ◌-◌, ◌<◌, ◌≤◌, ◌^◌, Bool, true, false, ◌&&◌, ◌||◌, List, [], ◌∷◌, length, take, if◌then◌else◌, Option, None, is_some, refl, sym, ap, ◌∙◌, subst, arith, inl, inr, nat_lt, nat_le, Result, Ok, Err}
use Rattle.std.specs.Prelude.{OnErr}
use Rattle.std.proofs.lemmas.Bool.{cases_lt, cases_Bool, both_ways, false≢true, or_cases}
use Rattle.qh_buffers.specs.declared.assembler.Chunk.{Chunk}
use Rattle.qh_buffers.specs.Ranges.{PlainRange, is_in, has, count_of, front_of, AreApart}
use Rattle.qh_buffers.specs.Assembler.{byte_in, waits_in, chunk_at, all_bytes, run_of, first_of, after_front, is_over, AreInOrder, IsKept, IsGiven, IsFrontPiece, HasNext}
use Rattle.qh_buffers.proofs.RangeLaws.{inside, before, behind}
use Rattle.qh_buffers.proofs.RangeCounts.{count_added, front_has, in_start, in_end}
use Rattle.qh_buffers.proofs.ChunkLaws.{none_below, order_lower, waits_at, inside as byte_inside}
use Rattle.qh_buffers.proofs.ChunkRuns.{IsRun, IsFront, run_is, head_is, order_raise, waits_below, front_length, front_byte, rest_in_order, rest_byte}

-- the bytes that a read gives
pub record IsNext (given : List PlainRange) (cs : List Chunk) (max : ℕ) (ordered : Bool) (at n : ℕ) : Type 0 where
  pub some : 0 < n
  pub few : n ≤ max
  pub front : IsFront cs at n
  pub from_front : ordered ≡ true → at ≡ front_of given
  pub longest : ordered ≡ true → (n ≡ max) ⊎ (byte_in cs (at + n) ≡ None)

first_offset : (cs : List Chunk) (at n : ℕ) → IsFront cs at n → 0 < n → (chunk_at cs 0).offset ≡ at
first_offset [] at n front some = absurd (false≢true (front.waits at (omega arith) (omega arith)))
first_offset (c ∷ cs) at n front some = head_is c cs at n front some

first_front : (cs : List Chunk) (max : ℕ) → AreInOrder 0 cs → 0 < first_of max cs → IsFront cs (chunk_at cs 0).offset (first_of max cs)
first_front [] max order some = absurd (omega arith)
first_front (c ∷ cs) max order some = record {
  in_order = (omega arith, order.1, order.2, order.3);
  waits = λ k low high. waits_at (c ∷ cs) 0 k (omega arith) low (omega arith);
}

first_few : (cs : List Chunk) (max : ℕ) → first_of max cs ≤ max
first_few [] max = omega arith
first_few (c ∷ cs) max = omega arith

module _ (given : List PlainRange) (cs : List Chunk) (read max : ℕ) (kept : IsKept given cs read) where
  pub ordered_run : IsRun cs (front_of given) max (run_of (front_of given) max cs)
  ordered_run = run_is cs (front_of given) max (order_raise cs 0 (front_of given) kept.in_order (λ k h. kept.exclusive k (front_has given k h)))

  pub none_ordered : 0 < max → run_of (front_of given) max cs ≡ 0 → byte_in cs (front_of given) ≡ None
  none_ordered room none =
      elim ordered_run.stops [
        | inl all ↦ absurd (omega arith)
        | inr stop ↦
            let e : front_of given + run_of (front_of given) max cs ≡ front_of given = omega arith in
            subst (λ (k : ℕ). byte_in cs k ≡ None) e stop
      ]

  next_is : (ordered : Bool) (n : ℕ) → (ordered ≡ true → n ≡ run_of (front_of given) max cs) → (ordered ≡ false → n ≡ first_of max cs) → 0 < n → IsNext given cs max ordered (chunk_at cs 0).offset n
  next_is true n run first some =
      let e : run_of (front_of given) max cs ≡ n = sym (run refl) in
      let is_run : IsRun cs (front_of given) max n = subst (λ (m : ℕ). IsRun cs (front_of given) max m) e ordered_run in
      let front : IsFront cs (front_of given) n = record { in_order = order_raise cs 0 (front_of given) kept.in_order (λ k h. kept.exclusive k (front_has given k h)); waits = is_run.waits } in
      let at = first_offset cs (front_of given) n front some in
      rw at (record { some = some; few = is_run.few; front = front; from_front = λ _. refl; longest = λ _. is_run.stops })
  next_is false n run first some =
      let e : first_of max cs ≡ n = sym (first refl) in
      record {
        some = some;
        few = omega (arith, first_few cs max);
        front = subst (λ (m : ℕ). IsFront cs (chunk_at cs 0).offset m) e (first_front cs max kept.in_order (omega arith));
        from_front = λ h. absurd (false≢true h);
        longest = λ h. absurd (false≢true h);
      }

  -- the same at the offset of the first piece
  pub next_at : (ordered : Bool) (at n : ℕ) → at ≡ (chunk_at cs 0).offset → (ordered ≡ true → n ≡ run_of (front_of given) max cs) → (ordered ≡ false → n ≡ first_of max cs) → 0 < n → IsNext given cs max ordered at n
  next_at ordered at n is run least some =
      subst (λ (k : ℕ). IsNext given cs max ordered k n) (sym is) (next_is ordered n run least some)

  module _ (ordered : Bool) (at n : ℕ) (next : IsNext given cs max ordered at n) where
    abbrev pub range : PlainRange
    range = record { start = at; end = at + n }

    -- its last byte lies below 2 ^ 62
    pub range_end : at + n ≤ 2 ^ 62
    range_end =
        omega (arith, waits_below cs at (at + n - 1) next.front.in_order (next.front.waits (at + n - 1) (omega (arith, next.some)) (omega (arith, next.some))), next.some)

    -- no byte that waits was given
    lacks : (k : ℕ) → is_in range k ≡ true → has given k ≡ false
    lacks k h =
        elim (cases_Bool (has given k)) [
          | inl had ↦ absurd (both_ways (waits_in cs k) (ap (λ (o : Option ℕ). is_some o) (kept.exclusive k had)) (next.front.waits k (in_start range k h) (in_end range k h)))
          | inr none ↦ none
        ]

    taken : (k : ℕ) → k < at + n → byte_in (after_front n cs) k ≡ None
    taken k h = none_below (after_front n cs) (at + n) k (rest_in_order cs at n next.front) h

    module _ (given' : List PlainRange) (apart : AreApart 0 given') (added : (k : ℕ) → has given' k ≡ (is_in range k || has given k)) where
      below : (k : ℕ) → has given' k ≡ true → k < 2 ^ 62
      below k h =
          elim (or_cases (is_in range k) (has given k) (sym (added k) ∙ h)) [
            | inl now ↦ omega (arith, in_end range k now, range_end)
            | inr earlier ↦ kept.below k earlier
          ]

      counts : (count_of given' ≡ count_of given + (at + n - at)) × (count_of given' ≤ 2 ^ 62)
      counts = count_added given given' range (2 ^ 62) kept.apart apart (omega (arith, next.some)) added lacks below

      pub counted : count_of given' ≡ count_of given + length (take n (all_bytes cs))
      counted = omega (arith, counts.0, front_length cs at n next.front)

      pub read_fits : read + n ≤ 2 ^ 62
      read_fits = omega (arith, kept.counted, counts.0, counts.1)

      pub kept_after : IsKept given' (after_front n cs) (read + n)
      kept_after = record {
        apart = apart;
        below = below;
        counted = omega (arith, kept.counted, counts.0);
        in_order = order_lower (after_front n cs) 0 (at + n) (omega arith) (rest_in_order cs at n next.front);
        exclusive = λ k h. elim (cases_lt k (at + n)) [
          | inl under ↦ taken k under
          | inr past ↦ rest_byte cs at n k next.front past ∙ kept.exclusive k (sym (added k ∙ rw (behind range k past)) ∙ h)
        ];
      }

      abbrev pub piece : Chunk
      piece = record { offset = at; bytes = take n (all_bytes cs) }

      size : length (take n (all_bytes cs)) ≡ n
      size = front_length cs at n next.front

      over_is : (k : ℕ) → is_over piece k ≡ is_in range k
      over_is k = ap (λ (m : ℕ). nat_le at k && nat_lt k (at + m)) size

      left : (k : ℕ) → byte_in (after_front n cs) k ≡ (if is_in range k then None else byte_in cs k)
      left k =
          elim (cases_lt k at) [
            | inl low ↦ rw (before range k low) (taken k (omega arith) ∙ sym (none_below cs at k next.front.in_order low))
            | inr above ↦ elim (cases_lt k (at + n)) [
              | inl under ↦ rw (inside range k above under) (taken k under)
              | inr past ↦ rw (behind range k past) (rest_byte cs at n k next.front past)
            ]
          ]

      pub gives : IsGiven (record { given = given; chunks = cs }) (record { given = given'; chunks = after_front n cs }) max piece
      gives = record {
        some = rw size next.some;
        few = rw size next.few;
        waited = λ k h.
            let now : is_in range k ≡ true = sym (over_is k) ∙ h in
            let low = in_start range k now in
            let high = in_end range k now in
            front_byte cs at n k next.front low high ∙ sym (byte_inside piece k low (rw size high));
        new_ones = λ k h. lacks k (sym (over_is k) ∙ h);
        bytes_are = λ k. left k ∙ ap (λ (t : Bool). if t then None else byte_in cs k) (sym (over_is k));
        given_are = λ k. added k ∙ ap (λ (t : Bool). t || has given k) (sym (over_is k));
      }

      pub front_piece : ordered ≡ true → IsFrontPiece (record { given = given; chunks = cs }) max piece
      front_piece h = record {
        offset_is = next.from_front h;
        longest = rw size (next.longest h);
      }

-- a read that gives a byte finds it
pub finds_next : {given : List PlainRange} {cs : List Chunk} {max at n : ℕ} {ordered : Bool} → IsNext given cs max ordered at n → HasNext (record { given = given; chunks = cs }) ordered
finds_next {given = given} {cs = cs} {at = at} next =
    let here = next.front.waits at (omega arith) (omega (arith, next.some)) in
    record {
      waits = λ none. false≢true (sym (ap is_some (none at)) ∙ here);
      next = λ ordered none. false≢true (sym (ap is_some none) ∙ ap (λ (k : ℕ). is_some (byte_in cs k)) (sym (next.from_front ordered)) ∙ here);
    }

pub at_err : {T E : Type 0} (r : Result T E) (P : Type 0) → P → OnErr r P
at_err (Ok x) P p = tt
at_err (Err e) P p = p
