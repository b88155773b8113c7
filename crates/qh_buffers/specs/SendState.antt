-- How the sender of a stream keeps what it holds: the pieces in order, and the writer's segments whole.
use Rattle.std.specs.Prelude.{◌≡◌, ℕ, ◌+◌, ◌-◌, ◌^◌, ◌<◌, ◌≤◌, nat_lt, nat_le, Bool, true, false, ◌&&◌, not, List, [], ◌∷◌, ◌++◌, length, drop, Some, if◌then◌else◌}
use Prim.Native.Nat.{zero, suc}
use Rattle.qh_buffers.specs.declared.send_buffer.Mark.{Mark}
use Rattle.qh_buffers.specs.declared.send_buffer.Mark.TheVariants.{Sent, Queued, Acked}
use Rattle.qh_buffers.specs.declared.send_buffer.Piece.{Piece}
use Rattle.qh_buffers.specs.declared.send_buffer.segments.Segment.{Segment}
use Rattle.qh_buffers.specs.SendBuffer.{pieces_end, is_acked_mark}

-- each element ends behind the one before it
abbrev pub Rises : {X : Type 0} → (end_of : X → ℕ) → ℕ → List X → Type 0
Rises end_of start [] = Unit {0}
Rises end_of start (x ∷ xs) = (start < end_of x) × Rises end_of (end_of x) xs

abbrev pub piece_end : Piece → ℕ
piece_end p = p.end

abbrev pub segment_end : Segment → ℕ
segment_end s = s.end

abbrev pub is_queued_mark : Mark → Bool
is_queued_mark Queued = true
is_queued_mark _ = false

-- the place of the first piece that is to be sent again, or how many pieces there are
abbrev pub first_queued : List Piece → ℕ
first_queued [] = 0
first_queued (p ∷ ps) = if is_queued_mark p.mark then 0 else suc (first_queued ps)

-- a mark that changes to another, where it isn't `Acked`
abbrev pub marked : (to mark : Mark) → Mark
marked to Acked = Acked
marked to _ = to

-- the mark changes so where the piece lies between two offsets
abbrev pub mark_between : Mark → (from to : ℕ) → Piece → Piece
mark_between m from to p =
    record { end = p.end; mark = if nat_lt from p.end && nat_le p.end to then marked m p.mark else p.mark }

-- a piece between two offsets isn't acknowledged
abbrev pub is_owed : (from to : ℕ) → Piece → Bool
is_owed from to p = (nat_lt from p.end && nat_le p.end to) && not (is_acked_mark (Some p.mark))

abbrev pub is_first_acked : List Piece → Bool
is_first_acked [] = false
is_first_acked (p ∷ ps) = is_acked_mark (Some p.mark)

-- the pieces from the first that isn't acknowledged on, and the offset at which they begin
abbrev pub unacked_pieces : List Piece → List Piece
unacked_pieces [] = []
unacked_pieces (p ∷ ps) = if is_acked_mark (Some p.mark) then unacked_pieces ps else p ∷ ps

abbrev pub acked_to : ℕ → List Piece → ℕ
acked_to start [] = start
acked_to start (p ∷ ps) = if is_acked_mark (Some p.mark) then acked_to p.end ps else start

-- The piece at a place is sent again, up to an offset: where it goes on behind it the rest stays queued.
abbrev pub sent_again : (to place : ℕ) → List Piece → List Piece
sent_again to place [] = []
sent_again to zero (p ∷ ps) =
    if nat_lt to p.end then record { end = to; mark = Sent } ∷ p ∷ ps else record { end = p.end; mark = Sent } ∷ ps
sent_again to (suc place) (p ∷ ps) = p ∷ sent_again to place ps

-- the segments have the bytes from one offset on to before another
abbrev pub Joined : (from : ℕ) → List Segment → (to : ℕ) → Type 0
Joined from [] to = from ≡ to
Joined from (s ∷ ss) to = (from < s.end) × (s.end ≤ from + length s.bytes) × Joined s.end ss to

-- the bytes of a segment from an offset on
abbrev pub bytes_from : ℕ → Segment → List ℕ
bytes_from from s = drop (length s.bytes - (s.end - from)) s.bytes

-- the bytes of the segments from an offset on
abbrev pub held : ℕ → List Segment → List ℕ
held from [] = []
held from (s ∷ ss) = bytes_from from s ++ held s.end ss

-- the segments from the first on that ends behind an offset
abbrev pub segments_behind : ℕ → List Segment → List Segment
segments_behind offset [] = []
segments_behind offset (s ∷ ss) = if nat_le s.end offset then segments_behind offset ss else s ∷ ss

-- what holds of a buffer's fields at every moment
pub record Keeps (start end : ℕ) (segments : List Segment) (pieces : List Piece) (resend_from : ℕ) : Type 0 where
  pub joined : Joined start segments end
  pub rises : Rises piece_end start pieces
  pub is_first_owed : is_first_acked pieces ≡ false
  pub within : pieces_end start pieces ≤ end
  pub small : end < 2 ^ 62
  pub is_next : resend_from ≡ first_queued pieces
