-- How much the next read gives at most.
use Rattle.std.proofs.Common.{◌≡◌, ℕ, ◌+◌, ◌-◌, ◌<◌, ◌≤◌, true, List, [], ◌∷◌, length, Option, None, is_some, ap, ◌∙◌, refl, arith, inl, inr}
use Rattle.std.proofs.lemmas.Bool.{cases_lt, cases_eq, both_ways, false≢true, eq-eqb, ne_eqb, le-leb, lt-leb, lt-ltb}
use Rattle.qh_buffers.specs.declared.assembler.Chunk.{Chunk}
use Rattle.qh_buffers.specs.Ranges.{PlainRange, front_of}
use Rattle.qh_buffers.specs.Assembler.{PlainAssembler, byte_of, byte_in, waits_in, end_of, chunk_at, run_of, is_over, AreInOrder, IsKept, IsGiven, IsLeastPiece}
use Rattle.qh_buffers.proofs.ChunkLaws.{inside, none_below, waits_at}
use Rattle.qh_buffers.proofs.ChunkRuns.{IsRun, run_is}
use Rattle.qh_buffers.proofs.AssemblerReads.{ordered_run}

-- a run has at most as many bytes as are asked for, whatever the order of the pieces is
pub run_few : (cs : List Chunk) (at max : ℕ) → run_of at max cs ≤ max
run_few [] at max = omega arith
run_few (c ∷ cs) at max =
    elim (cases_eq c.offset at) [
      | inl same ↦
          rw (eq-eqb c.offset at same)
          (elim (cases_lt (length c.bytes) max) [
            | inl less ↦ rw (lt-leb max (length c.bytes) less) (omega (arith, run_few cs (end_of c) (max - length c.bytes)))
            | inr fits ↦ rw (le-leb max (length c.bytes) fits) (omega arith)
          ])
      | inr other ↦ rw (ne_eqb c.offset at other) (omega arith)
    ]

-- the bytes of a piece that is given wait
given_waits : (cs : List Chunk) (c : Chunk) (k : ℕ) → ((j : ℕ) → is_over c j ≡ true → byte_in cs j ≡ byte_of c j) → c.offset ≤ k → k < end_of c → waits_in cs k ≡ true
given_waits cs c k waited low high =
    ap (λ (o : Option ℕ). is_some o) (waited k (rw (le-leb c.offset k low, lt-ltb k (end_of c) high) refl) ∙ inside c k low high)

-- no piece that a read gives from the offset of a run on has more bytes than the run
no_longer : (cs : List Chunk) (at max n : ℕ) (c : Chunk) → IsRun cs at max n → c.offset ≡ at → length c.bytes ≤ max → ((k : ℕ) → is_over c k ≡ true → byte_in cs k ≡ byte_of c k) → length c.bytes ≤ n
no_longer cs at max n c run same few waited =
    elim (cases_lt n (length c.bytes)) [
      | inl less ↦ elim run.stops [
        | inl all ↦ absurd (omega arith)
        | inr none ↦ absurd (both_ways (waits_in cs (at + n)) (ap (λ (o : Option ℕ). is_some o) none) (given_waits cs c (at + n) waited (omega arith) (omega arith)))
      ]
      | inr fits ↦ fits
    ]

first_order : (cs : List Chunk) → AreInOrder 0 cs → AreInOrder (chunk_at cs 0).offset cs
first_order [] order = tt
first_order (c ∷ cs) order = (omega arith, order.1, order.2, order.3)

-- the first offset at which a byte waits is that of the first piece
least_offset : (cs : List Chunk) (at : ℕ) → AreInOrder 0 cs → waits_in cs at ≡ true → ((k : ℕ) → k < at → byte_in cs k ≡ None) → at ≡ (chunk_at cs 0).offset
least_offset [] at order some least = absurd (false≢true some)
least_offset (c ∷ cs) at order some least =
    elim (cases_lt at c.offset) [
      | inl early ↦ absurd (both_ways (waits_in (c ∷ cs) at) (ap (λ (o : Option ℕ). is_some o) (none_below (c ∷ cs) c.offset at (omega arith, order.1, order.2, order.3) early)) some)
      | inr on ↦ elim (cases_lt c.offset at) [
        | inl late ↦
            let first = waits_at (c ∷ cs) 0 c.offset (omega arith) (omega arith) (omega (arith, order.1)) in
            absurd (both_ways (waits_in (c ∷ cs) c.offset) (ap (λ (o : Option ℕ). is_some o) (least c.offset late)) first)
        | inr same ↦ omega arith
      ]
    ]

module _ (given : List PlainRange) (cs : List Chunk) (read max : ℕ) (kept : IsKept given cs read) where
  abbrev pub held : PlainAssembler
  held = record { given = given; chunks = cs }

  pub front_waits : (n : ℕ) → n ≡ run_of (front_of given) max cs → (k : ℕ) → k < n → waits_in cs (front_of given + k) ≡ true
  front_waits n is k less =
      let run = ordered_run given cs read max kept in
      run.waits (front_of given + k) (omega arith) (omega arith)

  pub front_longest : (n : ℕ) → n ≡ run_of (front_of given) max cs → (new : PlainAssembler) (c : Chunk) → IsGiven held new max c → c.offset ≡ front_of given → length c.bytes ≤ n
  front_longest n is new c gives same =
      let most = no_longer cs (front_of given) max (run_of (front_of given) max cs) c (ordered_run given cs read max kept) same gives.few gives.waited in
      omega (arith, is, most)

  pub least_longest : (n : ℕ) → n ≡ run_of (chunk_at cs 0).offset max cs → (new : PlainAssembler) (c : Chunk) → IsGiven held new max c → IsLeastPiece held c → length c.bytes ≤ n
  least_longest n is new c gives least =
      let at : ℕ = (chunk_at cs 0).offset in
      let first = given_waits cs c c.offset gives.waited (omega arith) (omega (arith, gives.some)) in
      let same = least_offset cs c.offset kept.in_order first least in
      let most = no_longer cs at max (run_of at max cs) c (run_is cs at max (first_order cs kept.in_order)) same gives.few gives.waited in
      omega (arith, is, most)
