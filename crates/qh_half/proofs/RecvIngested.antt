-- What a piece that came leaves in a receiving half.
use Rattle.std.proofs.Common.{◌≡◌, ℕ, ◌+◌, ◌-◌, ◌≤◌, ◌^◌, min, Bool, true, false, Option, Some, None, if◌then◌else◌, refl, ap, ◌∙◌, arith, inl, inr}
use Rattle.std.proofs.lemmas.Bool.{cases_Bool}
use Rattle.qh_buffers.specs.declared.assembler.Chunk.{Chunk}
use Rattle.qh_buffers.specs.Assembler.{PlainAssembler, byte_of, or_byte, end_of, to_give, was_given, IsInserted}
use Rattle.qh_buffers.proofs.ChunkLaws.{behind}
use Rattle.qh_half.specs.declared.recv.RecvState.{RecvState}
use Rattle.qh_half.specs.declared.recv.RecvState.TheVariants.{Recv, ResetRecvd}
use Rattle.qh_half.specs.Recv.{PlainRecv, IsRecv, final_size, with_size, keeps_bytes, passes_limit, contradicts, contradicts_size, ingest_fault}
use Rattle.qh_half.proofs.RecvReads.{none_either}

-- nothing that isn't refused passes the limit or contradicts the size
admitted : (r : PlainRecv) (to : ℕ) (fin : Bool) (received max_data : ℕ) → ingest_fault r to fin received max_data ≡ None → (to ≤ r.sent_max_stream_data) × (contradicts_size r to fin ≡ false)
admitted r to fin received max_data none =
    elim (cases_Bool (passes_limit r received max_data to)) [
      | inl passes ↦ let fault = rw passes at none in cc
      | inr within ↦ elim (cases_Bool (contradicts_size r to fin)) [
        | inl other ↦ let fault = rw (within, other) at none in cc
        | inr fits ↦ (grind (arith, within), fits)
      ]
    ]

-- the offset behind the piece, if it isn't refused
pub end_exact : (r : PlainRecv) (to end : ℕ) (fin : Bool) (received max_data : ℕ) → IsRecv r → to ≡ min end (2 ^ 64 - 1) → ingest_fault r to fin received max_data ≡ None → to ≡ end
end_exact r to end fin received max_data ok to_is none =
    let fits = admitted r to fin received max_data none in
    omega (arith, fits.0, ok.bound)

size_known : (known : Option ℕ) (end to : ℕ) (fin : Bool) (n : ℕ) → ((m : ℕ) → known ≡ Some m → end ≤ m) → contradicts known end to fin ≡ false → known ≡ Some n → end + (to - end) ≤ n
size_known None end to fin n size fits h = cc
size_known (Some m) end to fin n size fits h = let least : end ≤ m = size m refl in grind (arith, fits, h)

size_new : (known : Option ℕ) (end to : ℕ) → ((m : ℕ) → known ≡ Some m → end ≤ m) → contradicts known end to true ≡ false → end + (to - end) ≤ to
size_new None end to size fits = grind (arith, fits)
size_new (Some m) end to size fits = let least : end ≤ m = size m refl in grind (arith, fits)

size_after : (state : RecvState) (end to : ℕ) (fin : Bool) (n : ℕ) → ((m : ℕ) → final_size state ≡ Some m → end ≤ m) → contradicts (final_size state) end to fin ≡ false
    → final_size (if fin then with_size to state else state) ≡ Some n → end + (to - end) ≤ n
size_after state end to false n size fits h = size_known (final_size state) end to false n size fits h
size_after (Recv known) end to true n size fits h = let new = size_new known end to size fits in grind (arith, new, h)
size_after (ResetRecvd m code) end to true n size fits h = size_known (Some m) end to true n size fits h

module _ (r : PlainRecv) (ok : IsRecv r) (new : PlainAssembler) (c : Chunk) (fin : Bool) (to : ℕ) (to_is : to ≡ end_of c) (wanted : keeps_bytes r ≡ true → IsInserted r.assembler new c) (dropped : keeps_bytes r ≡ false → new ≡ r.assembler) where
  given_same : new.given ≡ r.assembler.given
  given_same =
      elim (cases_Bool (keeps_bytes r)) [
        | inl kept ↦ (wanted kept).given_is
        | inr not_kept ↦ ap (λ (a : PlainAssembler). a.given) (dropped not_kept)
      ]

  none_behind : (k : ℕ) → r.end + (to - r.end) ≤ k → to_give new k ≡ None
  none_behind k h =
      elim (cases_Bool (keeps_bytes r)) [
        | inl kept ↦
            (wanted kept).bytes_are k
            ∙ none_either (was_given r.assembler k) (or_byte (to_give r.assembler k) (byte_of c k)) (rw (ok.waiting k (omega arith)) (behind c k (omega arith)))
        | inr not_kept ↦ rw (dropped not_kept) (ok.waiting k (omega arith))
      ]

  pub recv_ingested : (received max_data : ℕ) (state : RecvState) → ingest_fault r to fin received max_data ≡ None → state ≡ (if fin then with_size to r.state else r.state)
      → IsRecv (record r { assembler = new; end = r.end + (to - r.end); state = state })
  recv_ingested received max_data state none state_is =
      let fits = admitted r to fin received max_data none in
      record {
        limit = omega (arith, ok.limit, fits.0);
        bound = ok.bound;
        read = rw given_same (omega (arith, ok.read));
        given = λ k h. omega (arith, ok.given k (rw given_same at h));
        waiting = none_behind;
        size = λ n h. size_after r.state r.end to fin n ok.size fits.1 (rw state_is at h);
      }
