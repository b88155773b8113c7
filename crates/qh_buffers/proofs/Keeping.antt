-- What holds of a send buffer's fields goes on to hold.
use Rattle.std.proofs.Common.{◌≡◌, ℕ, ◌+◌, ◌^◌, ◌<◌, ◌≤◌, List, [], ◌∷◌, ◌++◌, length, take, ap, arith}
use Rattle.qh_buffers.specs.declared.send_buffer.Mark.TheVariants.{Sent}
use Rattle.qh_buffers.specs.declared.send_buffer.Piece.{Piece}
use Rattle.qh_buffers.specs.declared.send_buffer.segments.Segment.{Segment}
use Rattle.qh_buffers.specs.SendBuffer.{PlainSendBuffer, pieces_end}
use Rattle.qh_buffers.specs.SendState.{first_queued, sent_again, Joined, held, Keeps}
use Rattle.qh_buffers.proofs.ChangedPieces.{rises-push, pieces_end-push, first_queued-push, is_first_acked-push, rises-sent_again, pieces_end-sent_again, is_first_acked-sent_again}
use Rattle.qh_buffers.proofs.Segments.{joined-push, held-push}

pub keeps_written : (a e n i : ℕ) (ss : List Segment) (ps : List Piece) (xs : List ℕ) → Keeps a e ss ps i → n ≡ length xs → 0 < n → e + n < 2 ^ 62
    → Keeps a (e + n) (ss ++ record { end = e + n; bytes = xs } ∷ []) ps i
keeps_written a e n i ss ps xs keeps len some small = record {
  joined = rw len (joined-push ss a e xs keeps.joined (omega arith));
  rises = keeps.rises;
  is_first_owed = keeps.is_first_owed;
  within = omega (arith, keeps.within);
  small = small;
  is_next = keeps.is_next;
}

pub view_written : (a e n : ℕ) (ss : List Segment) (ps : List Piece) (xs : List ℕ) → Joined a ss e → n ≡ length xs
    → ◌≡◌ {A = PlainSendBuffer} (record { start = a; bytes = held a (ss ++ record { end = e + n; bytes = xs } ∷ []); pieces = ps }) (record { start = a; bytes = held a ss ++ xs; pieces = ps })
view_written a e n ss ps xs joined len =
    rw len (ap (λ (bs : List ℕ). let v : PlainSendBuffer = record { start = a; bytes = bs; pieces = ps } in v) (held-push ss a e xs joined))

pub keeps_new : (a e i to : ℕ) (ss : List Segment) (ps : List Piece) → Keeps a e ss ps i → first_queued ps ≡ length ps → pieces_end a ps < to → to ≤ e
    → Keeps a e ss (ps ++ record { end = to; mark = Sent } ∷ []) (i + 1)
keeps_new a e i to ss ps keeps none low high = record {
  joined = keeps.joined;
  rises = rises-push ps (record { end = to; mark = Sent }) a keeps.rises low;
  is_first_owed = is_first_acked-push ps to keeps.is_first_owed;
  within = omega (arith, pieces_end-push ps (record { end = to; mark = Sent }) a);
  small = keeps.small;
  is_next = omega (arith, keeps.is_next, first_queued-push ps to none);
}

pub keeps_lost : (a e i j to : ℕ) (ss : List Segment) (ps : List Piece) → Keeps a e ss ps i → pieces_end a (take i ps) < to → j ≡ first_queued (sent_again to i ps)
    → Keeps a e ss (sent_again to i ps) j
keeps_lost a e i j to ss ps keeps low next = record {
  joined = keeps.joined;
  rises = rises-sent_again ps a to i keeps.rises low;
  is_first_owed = is_first_acked-sent_again ps to i keeps.is_first_owed;
  within = omega (arith, keeps.within, pieces_end-sent_again ps a to i);
  small = keeps.small;
  is_next = next;
}
