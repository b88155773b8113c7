-- A limit that was announced to the peer in a MAX frame (RFC 9000, section 4).
use Rattle.std.specs.Prelude.{ℕ, ◌==◌, nat_lt, Bool, ◌&&◌, ◌||◌, not, if◌then◌else◌}
use Rattle.qh_buffers.specs.declared.send_buffer.Mark.TheVariants.{Acked}
use Rattle.qh_halves.specs.declared.limit.AnnouncedLimit.{AnnouncedLimit}
use Rattle.qh_half.specs.Recv.{is_queued_mark, is_acked_mark}
use Rattle.qh_buffers.specs.SendBuffer.{lost_mark}

-- it is to be announced: it exceeds the last one, or the frame with that one is lost
abbrev pub is_due : AnnouncedLimit → (limit : ℕ) → Bool
is_due a limit = is_queued_mark a.mark || nat_lt a.value limit

abbrev pub acked_at : (value : ℕ) → AnnouncedLimit → AnnouncedLimit
acked_at value a = record a { mark = (if value == a.value then Acked else a.mark) }

abbrev pub lost_at : (value : ℕ) → AnnouncedLimit → AnnouncedLimit
lost_at value a = record a { mark = (if value == a.value then lost_mark a.mark else a.mark) }

-- the frame with this value is still to be acknowledged
abbrev pub owes_value : AnnouncedLimit → (value : ℕ) → Bool
owes_value a value = value == a.value && not (is_acked_mark a.mark)
