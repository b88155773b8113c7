-- The bytes that stand in front without a gap: how many, which, and what is left without them.
use Rattle.std.proofs.Common.{◌≡◌, ◌⊎◌, ℕ, ◌+◌, ◌-◌, ◌<◌, ◌≤◌, ◌^◌, true, cond, List, [], ◌∷◌, ◌++◌, zero, suc, length, get_or, take, drop, Option, Some, None, is_some, add-zero, refl, sym, ap, ◌∙◌, subst, arith, inl, inr, nat_le}
use Rattle.std.proofs.lemmas.Bool.{cases_lt, cases_eq, both_ways, false≢true, eq-eqb, ne_eqb, le-leb, lt-leb, lt-ltb, le-ltb, or_right}
use Rattle.std.proofs.lemmas.List.{append_assoc, length-append, length-take-le, take-append-le, length-drop, get_or-drop, get_or-take, at_drop_more, get_or_append_left, get_or-append-add}
use Rattle.std.proofs.Math.Seq.{take-append-add}
use Rattle.qh_buffers.specs.declared.assembler.Chunk.{Chunk}
use Rattle.qh_buffers.specs.Assembler.{byte_of, byte_in, or_byte, end_of, waits_in, chunk_at, all_bytes, run_of, after_front, AreInOrder}
use Rattle.qh_buffers.proofs.ChunkLaws.{inside, before, behind, none_below, some_or, order_lower, waits_at}

-- a copy of one more piece
pub copy_more : (cs : List Chunk) (i n : ℕ) (bytes next all : List ℕ) → i < length cs → next ≡ (chunk_at cs i).bytes → length bytes ≤ n → length next < n - length bytes
    → bytes ++ take (n - length bytes) (all_bytes (drop i cs)) ≡ all → (bytes ++ next) ++ take (n - (length bytes + length next)) (all_bytes (drop (i + 1) cs)) ≡ all
copy_more cs i n bytes next all within same fits less so_far =
    let rest : List ℕ = all_bytes (drop (i + 1) cs) in
    let m : ℕ = n - (length bytes + length next) in
    let front : all_bytes (drop i cs) ≡ next ++ rest = at_drop_more all_bytes cs i (record { offset = 0; bytes = [] }) within ∙ ap (λ (l : List ℕ). l ++ rest) (sym same) in
    let size : n - length bytes ≡ length next + m = omega arith in
    let taken : take (n - length bytes) (all_bytes (drop i cs)) ≡ next ++ take m rest = rw (front, size) (take-append-add next rest m) in
    append_assoc bytes next (take m rest) ∙ ap (λ (l : List ℕ). bytes ++ l) (sym taken) ∙ so_far

-- no byte waits at an offset of 2 ^ 62 or more
pub waits_below : (cs : List Chunk) (low k : ℕ) → AreInOrder low cs → waits_in cs k ≡ true → k < 2 ^ 62
waits_below [] low k order h = cc
waits_below (c ∷ cs) low k order h =
    elim (cases_lt k (end_of c)) [
      | inl under ↦ omega (arith, order.2)
      | inr past ↦ waits_below cs (end_of c) k order.3 (sym (ap (λ (o : Option ℕ). is_some (or_byte o (byte_in cs k))) (behind c k past)) ∙ h)
    ]

-- where no byte waits before an offset the pieces begin there or later
pub order_raise : (cs : List Chunk) (low at : ℕ) → AreInOrder low cs → ((k : ℕ) → k < at → byte_in cs k ≡ None) → AreInOrder at cs
order_raise [] low at order none = tt
order_raise (c ∷ cs) low at order none =
    elim (cases_lt c.offset at) [
      | inl early ↦
          let some = waits_at (c ∷ cs) 0 c.offset (omega arith) (omega arith) (omega (arith, order.1)) in
          absurd (both_ways (waits_in (c ∷ cs) c.offset) (ap (λ (o : Option ℕ). is_some o) (none c.offset early)) some)
      | inr late ↦ (late, order.1, order.2, order.3)
    ]

-- the run from an offset on
pub record IsRun (cs : List Chunk) (at max n : ℕ) : Type 0 where
  pub few : n ≤ max
  pub waits : (k : ℕ) → at ≤ k → k < at + n → waits_in cs k ≡ true
  pub stops : (n ≡ max) ⊎ (byte_in cs (at + n) ≡ None)

none_at : (cs : List Chunk) (at max : ℕ) → byte_in cs at ≡ None → IsRun cs at max 0
none_at cs at max none = record {
  few = omega arith;
  waits = λ k low high. absurd (omega arith);
  stops = inr (rw add-zero none);
}

-- the first piece has all of them
within_first : (c : Chunk) (cs : List Chunk) (max : ℕ) → max ≤ length c.bytes → IsRun (c ∷ cs) c.offset max max
within_first c cs max fits = record {
  few = omega arith;
  waits = λ k low high. waits_at (c ∷ cs) 0 k (omega arith) low (omega arith);
  stops = inl refl;
}

-- the first piece has some, and the others go on
beyond_first : (c : Chunk) (cs : List Chunk) (max n : ℕ) → length c.bytes < max → IsRun cs (end_of c) (max - length c.bytes) n → IsRun (c ∷ cs) c.offset max (length c.bytes + n)
beyond_first c cs max n less later = record {
  few = omega (arith, later.few);
  waits = λ k low high. elim (cases_lt k (end_of c)) [
    | inl under ↦ waits_at (c ∷ cs) 0 k (omega arith) low under
    | inr past ↦ some_or (byte_of c k) (byte_in cs k) ∙ or_right (is_some (byte_of c k)) (waits_in cs k) (later.waits k past (omega arith))
  ];
  stops = elim later.stops [
    | inl all ↦ inl (omega arith)
    | inr none ↦
        let at : c.offset + (length c.bytes + n) ≡ end_of c + n = omega arith in
        inr (rw at (rw (behind c (end_of c + n) (omega arith)) none))
  ];
}

pub run_is : (cs : List Chunk) (at max : ℕ) → AreInOrder at cs → IsRun cs at max (run_of at max cs)
run_is [] at max order = none_at [] at max refl
run_is (c ∷ cs) at max order =
    elim (cases_eq c.offset at) [
      | inl same ↦
          let later = run_is cs (end_of c) (max - length c.bytes) order.3 in
          rw (eq-eqb c.offset at same)
          (subst (λ (k : ℕ). IsRun (c ∷ cs) k max (cond (nat_le max (length c.bytes)) max (length c.bytes + run_of (end_of c) (max - length c.bytes) cs))) same
          (elim (cases_lt (length c.bytes) max) [
            | inl less ↦ rw (lt-leb max (length c.bytes) less) (beyond_first c cs max (run_of (end_of c) (max - length c.bytes) cs) less later)
            | inr fits ↦ rw (le-leb max (length c.bytes) fits) (within_first c cs max fits)
          ]))
      | inr other ↦
          rw (ne_eqb c.offset at other) (none_at (c ∷ cs) at max (none_below (c ∷ cs) (at + 1) at (omega (arith, order.0, other), order.1, order.2, order.3) (omega arith)))
    ]

-- the first n bytes stand without a gap from an offset on
pub record IsFront (cs : List Chunk) (at n : ℕ) : Type 0 where
  pub in_order : AreInOrder at cs
  pub waits : (k : ℕ) → at ≤ k → k < at + n → waits_in cs k ≡ true

pub head_is : (c : Chunk) (cs : List Chunk) (at n : ℕ) → IsFront (c ∷ cs) at n → 0 < n → c.offset ≡ at
head_is c cs at n front some =
    elim (cases_lt at c.offset) [
      | inl gap ↦ absurd (both_ways (waits_in (c ∷ cs) at) (ap (λ (o : Option ℕ). is_some o) (none_below (c ∷ cs) (at + 1) at (omega arith, front.in_order.1, front.in_order.2, front.in_order.3) (omega arith))) (front.waits at (omega arith) (omega arith)))
      | inr none ↦ omega (arith, front.in_order.0)
    ]

tail_front : (c : Chunk) (cs : List Chunk) (at n : ℕ) → IsFront (c ∷ cs) at n → length c.bytes ≤ n → IsFront cs (end_of c) (n - length c.bytes)
tail_front c cs at n front less =
    let same = head_is c cs at n front (omega (arith, front.in_order.1)) in
    record {
      in_order = front.in_order.3;
      waits = λ k low high.
          sym (ap (λ (o : Option ℕ). is_some (or_byte o (byte_in cs k))) (behind c k low)) ∙ front.waits k (omega arith) (omega arith);
    }

-- a copy of the front is as long as it should be, and has the bytes that wait
pub front_length : (cs : List Chunk) (at n : ℕ) → IsFront cs at n → length (take n (all_bytes cs)) ≡ n
front_length [] at zero front = refl
front_length [] at (suc n) front = absurd (false≢true (front.waits at (omega arith) (omega arith)))
front_length (c ∷ cs) at n front =
    elim (cases_lt n (length c.bytes)) [
      | inl less ↦ rw (take-append-le n c.bytes (all_bytes cs) (omega arith)) (length-take-le n c.bytes (omega arith))
      | inr all ↦
          let m : ℕ = n - length c.bytes in
          let size : n ≡ length c.bytes + m = omega arith in
          let later = front_length cs (end_of c) m (tail_front c cs at n front all) in
          ap (λ (k : ℕ). length (take k (c.bytes ++ all_bytes cs))) size ∙ ap (λ (l : List ℕ). length l) (take-append-add c.bytes (all_bytes cs) m) ∙ length-append c.bytes (take m (all_bytes cs)) ∙ omega (arith, later)
    ]

pub front_byte : (cs : List Chunk) (at n k : ℕ) → IsFront cs at n → at ≤ k → k < at + n → byte_in cs k ≡ Some (get_or (take n (all_bytes cs)) (k - at) 0)
front_byte [] at n k front low high = absurd (false≢true (front.waits k low high))
front_byte (c ∷ cs) at n k front low high =
    let same = head_is c cs at n front (omega arith) in
    let all : List ℕ = c.bytes ++ all_bytes cs in
    let taken : get_or (take n all) (k - at) 0 ≡ get_or all (k - at) 0 = get_or-take n all (k - at) 0 (omega arith) in
    elim (cases_lt k (end_of c)) [
      | inl under ↦
          let place : k - c.offset ≡ k - at = omega arith in
          let byte : get_or c.bytes (k - c.offset) 0 ≡ get_or (take n all) (k - at) 0 =
          ap (λ (i : ℕ). get_or c.bytes i 0) place ∙ sym (taken ∙ get_or_append_left c.bytes (all_bytes cs) 0 (k - at) (omega arith)) in
          ap (λ (o : Option ℕ). or_byte o (byte_in cs k)) (inside c k (omega arith) under) ∙ ap (λ (b : ℕ). Some b) byte
      | inr past ↦
          let m : ℕ = n - length c.bytes in
          let j : ℕ = k - end_of c in
          let later : byte_in cs k ≡ Some (get_or (take m (all_bytes cs)) j 0) = front_byte cs (end_of c) m k (tail_front c cs at n front (omega arith)) past (omega arith) in
          let place : k - at ≡ length c.bytes + j = omega arith in
          let byte : get_or (take m (all_bytes cs)) j 0 ≡ get_or (take n all) (k - at) 0 =
          get_or-take m (all_bytes cs) j 0 (omega arith) ∙ sym (taken ∙ ap (λ (i : ℕ). get_or all i 0) place ∙ get_or-append-add c.bytes (all_bytes cs) j 0) in
          ap (λ (o : Option ℕ). or_byte o (byte_in cs k)) (behind c k past) ∙ later ∙ ap (λ (b : ℕ). Some b) byte
    ]

-- what is left without the front
pub rest_in_order : (cs : List Chunk) (at n : ℕ) → IsFront cs at n → AreInOrder (at + n) (after_front n cs)
rest_in_order [] at n front = tt
rest_in_order (c ∷ cs) at n front =
    elim (cases_lt n (length c.bytes)) [
      | inl less ↦
          let d = length-drop n c.bytes in
          let e : c.offset + n + length (drop n c.bytes) ≡ end_of c = omega arith in
          rw (lt-ltb n (length c.bytes) less) (omega (arith, front.in_order.0), omega arith, rw e front.in_order.2, rw e front.in_order.3)
      | inr all ↦
          let same = head_is c cs at n front (omega (arith, front.in_order.1)) in
          let m : ℕ = n - length c.bytes in
          let place : end_of c + m ≡ at + n = omega arith in
          rw (le-ltb n (length c.bytes) all) (subst (λ (k : ℕ). AreInOrder k (after_front m cs)) place (rest_in_order cs (end_of c) m (tail_front c cs at n front all)))
    ]

left_byte : (c : Chunk) (cs : List Chunk) (at n k : ℕ) → IsFront (c ∷ cs) at n → n < length c.bytes → at + n ≤ k → byte_of (record { offset = c.offset + n; bytes = drop n c.bytes }) k ≡ byte_of c k
left_byte c cs at n k front less past =
    let rest : Chunk = record { offset = c.offset + n; bytes = drop n c.bytes } in
    let d = length-drop n c.bytes in
    elim (cases_lt k (c.offset + n)) [
      | inl low ↦
          let early : k < c.offset = elim (cases_lt 0 n) [
            | inl some ↦ let same = head_is c cs at n front some in absurd (omega arith)
            | inr none ↦ omega arith
          ] in
          before rest k low ∙ sym (before c k early)
      | inr on ↦ elim (cases_lt k (end_of c)) [
        | inl under ↦
            let place : n + (k - (c.offset + n)) ≡ k - c.offset = omega arith in
            inside rest k on (omega arith)
            ∙ ap (λ (b : ℕ). Some b) (get_or-drop n c.bytes (k - (c.offset + n)) 0 ∙ ap (λ (i : ℕ). get_or c.bytes i 0) place)
            ∙ sym (inside c k (omega arith) under)
        | inr out ↦ behind rest k (omega arith) ∙ sym (behind c k out)
      ]
    ]

pub rest_byte : (cs : List Chunk) (at n k : ℕ) → IsFront cs at n → at + n ≤ k → byte_in (after_front n cs) k ≡ byte_in cs k
rest_byte [] at n k front past = refl
rest_byte (c ∷ cs) at n k front past =
    elim (cases_lt n (length c.bytes)) [
      | inl less ↦ rw (lt-ltb n (length c.bytes) less) (ap (λ (o : Option ℕ). or_byte o (byte_in cs k)) (left_byte c cs at n k front less past))
      | inr all ↦
          let same = head_is c cs at n front (omega (arith, front.in_order.1)) in
          let m : ℕ = n - length c.bytes in
          rw (le-ltb n (length c.bytes) all)
          (rest_byte cs (end_of c) m k (tail_front c cs at n front all) (omega arith) ∙ sym (ap (λ (o : Option ℕ). or_byte o (byte_in cs k)) (behind c k (omega arith))))
    ]

-- one whole piece less in front
pub popped : (cs : List Chunk) (first : Chunk) (left : ℕ) → first ≡ get_or cs 0 first → length first.bytes ≤ left → AreInOrder 0 cs
    → AreInOrder 0 (drop 1 cs) × (after_front (left - length first.bytes) (drop 1 cs) ≡ after_front left cs)
popped [] first left same fits order = (tt, refl)
popped (c ∷ cs) first left same fits order =
    let size = ap (λ (p : Chunk). length p.bytes) same in
    (order_lower cs 0 (end_of c) (omega arith) order.3, rw (le-ltb left (length c.bytes) (omega arith)) (ap (λ (n : ℕ). after_front (left - n) cs) size))
