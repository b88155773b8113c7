-- What a read leaves in a receiving half.
use Rattle.std.proofs.Common.{◌≡◌, ℕ, ◌<◌, ◌≤◌, Bool, true, false, not, ◌||◌, ◌&&◌, length, MatchBool, Option, Some, None, MatchOption, is_some, Err, if◌then◌else◌, refl, sym, ap, ◌∙◌, inl, inr, subst}
use Rattle.std.proofs.lemmas.Bool.{cases_Bool, cases_lt, or_cases, both_ways}
use Rattle.qh_buffers.specs.declared.assembler.Chunk.{Chunk}
use Rattle.qh_buffers.specs.Ranges.{count_of}
use Rattle.qh_buffers.specs.Assembler.{PlainAssembler, byte_of, end_of, is_over, to_give, was_given, read_to, IsGiven, IsLeastPiece, HasNothing, HasNext}
use Rattle.qh_buffers.proofs.RangeCounts.{in_start, in_end}
use Rattle.qh_buffers.proofs.ChunkLaws.{inside}
use Rattle.qh_half.specs.declared.fault.ReadFault.TheVariants.{Memory}
use Rattle.qh_half.specs.Recv.{PlainRecv, IsRecv, IsReadAnswer, WantsMemory, WaitsForMore, ReadsAtMost, with_order}
use Rattle.qh_half.specs.Recv.IsReadAnswer.{memory}

-- a piece has a byte at each of its offsets
has_byte : (c : Chunk) (k : ℕ) → is_over c k ≡ true → is_some (byte_of c k) ≡ true
has_byte c k h =
    ap (λ (o : Option ℕ). is_some o) (inside c k (in_start (record { start = c.offset; end = end_of c }) k h) (in_end (record { start = c.offset; end = end_of c }) k h))

pub none_either : (t : Bool) (o : Option ℕ) → o ≡ None → (if t then None else o) ≡ None
none_either true o h = refl
none_either false o h = h

module _ (r : PlainRecv) (ok : IsRecv r) (new : PlainAssembler) (max : ℕ) where
  given_below : (c : Chunk) → IsGiven r.assembler new max c → (k : ℕ) → was_given new k ≡ true → k < r.end
  given_below c given k h =
      elim (or_cases (is_over c k) (was_given r.assembler k) (sym (given.given_are k) ∙ h)) [
        | inl now ↦ elim (cases_lt k r.end) [
          | inl under ↦ under
          | inr past ↦
              let none : byte_of c k ≡ None = sym (given.waited k now) ∙ ok.waiting k past in
              absurd (both_ways (is_some (byte_of c k)) (ap (λ (o : Option ℕ). is_some o) none) (has_byte c k now))
        ]
        | inr earlier ↦ ok.given k earlier
      ]

  -- what was given lies below the end
  pub below_after : (o : Option Chunk) → (o ≡ None → new ≡ r.assembler) → MatchOption o (Unit {0}) (IsGiven r.assembler new max) → (k : ℕ) → was_given new k ≡ true → k < r.end
  below_after None none some k h = ok.given k (rw (none refl) at h)
  below_after (Some c) none some k h = given_below c some k h

  waiting_after : (o : Option Chunk) → (o ≡ None → new ≡ r.assembler) → MatchOption o (Unit {0}) (IsGiven r.assembler new max) → (k : ℕ) → r.end ≤ k → to_give new k ≡ None
  waiting_after None none some k h = rw (none refl) (ok.waiting k h)
  waiting_after (Some c) none some k h = some.bytes_are k ∙ none_either (is_over c k) (to_give r.assembler k) (ok.waiting k h)

  pub recv_after : (o : Option Chunk) → (o ≡ None → new ≡ r.assembler) → MatchOption o (Unit {0}) (IsGiven r.assembler new max) → count_of new.given ≤ r.end → IsRecv (record r { assembler = new })
  recv_after o none some counted = record {
    limit = ok.limit;
    bound = ok.bound;
    read = counted;
    given = below_after o none some;
    waiting = waiting_after o none some;
    size = ok.size;
  }

-- a read that memory lacks for leaves all as it was, and no reset came
pub nothing_read : (old new : PlainRecv) (max_length : ℕ) → IsReadAnswer old new max_length (Err Memory) → (new ≡ old) × WantsMemory old max_length
nothing_read old new max_length (memory wants same) = (same, wants)

-- whatever the order that was marked
pub wants_unmarked : (old new : PlainRecv) (is_unordered : Bool) (max_length : ℕ) → new ≡ record old { is_unordered = is_unordered } → WantsMemory new max_length → WantsMemory old max_length
wants_unmarked old new is_unordered max_length e w = record { asked = w.asked; not_reset = rw e at w.not_reset; waits = rw e at w.waits }

-- what a read may give waits, in the order that is marked
pub next_waits : (r : PlainRecv) → HasNext r.assembler (not r.is_unordered) → WaitsForMore r → ⊥
next_waits r has none = elim (cases_Bool r.is_unordered) [
  | inl unordered ↦ has.waits (subst (λ (b : Bool). MatchBool b (HasNothing r.assembler) ((to_give r.assembler (read_to r.assembler) ≡ None) × (was_given r.assembler (read_to r.assembler) ≡ false))) unordered none)
  | inr ordered ↦
      has.next (ap not ordered) (subst (λ (b : Bool). MatchBool b (HasNothing r.assembler) ((to_give r.assembler (read_to r.assembler) ≡ None) × (was_given r.assembler (read_to r.assembler) ≡ false))) ordered none).0
]

-- what doesn't wait for a read that is to begin doesn't wait when it is begun
pub waits_begun : (old new : PlainRecv) (ordered is_unordered : Bool) → new ≡ record old { is_unordered = is_unordered } → is_unordered ≡ (old.is_unordered || not ordered)
    → WaitsForMore (with_order old ordered) → WaitsForMore new
waits_begun old new ordered is_unordered e is waits = rw (e, is) waits

-- a read in order: it is begun so, and no unordered one was
marked_in_order : (ordered unordered : Bool) → (unordered || not ordered) ≡ not (ordered && not unordered)
marked_in_order true true = refl
marked_in_order true false = refl
marked_in_order false true = refl
marked_in_order false false = refl

-- what bounds the pieces that the assembler gives in this order bounds what a read gives
pub reads_at_most : (r : PlainRecv) (ordered in_order : Bool) (max n : ℕ) → in_order ≡ (ordered && not r.is_unordered)
    → (in_order ≡ true → (new : PlainAssembler) → (c : Chunk) → IsGiven r.assembler new max c → c.offset ≡ read_to r.assembler → length c.bytes ≤ n)
    → (in_order ≡ false → (new : PlainAssembler) → (c : Chunk) → IsGiven r.assembler new max c → IsLeastPiece r.assembler c → length c.bytes ≤ n)
    → ReadsAtMost r ordered max n
reads_at_most r ordered in_order max n is front least new c read =
    let marked : (r.is_unordered || not ordered) ≡ not in_order = marked_in_order ordered r.is_unordered ∙ ap not (sym is) in
    elim (cases_Bool in_order) [
      | inl on ↦ front on new.assembler c read.given (read.front (marked ∙ ap not on)).offset_is
      | inr off ↦ least off new.assembler c read.given (read.least (marked ∙ ap not off))
    ]
