-- What is told to a call of values that the book doesn't have.
use Rattle.std.specs.Prelude.{◌≡◌, Bool, true, false, is_some}
use Rattle.qh_book.specs.Forms.{MayReply as MayReplyBy}
use Rattle.qh_book.specs.declared.call.Call.{Call}
use Rattle.qh_book.specs.declared.call.Call.TheVariants as call
use Rattle.qh_book.specs.declared.call.Getter.{Getter}
use Rattle.qh_book.specs.declared.call.Getter.TheVariants as getter
use Rattle.qh_book.specs.declared.reply.Reply.{Reply}
use Rattle.qh_handles.specs.declared.told.Told.{Told}
use Rattle.qh_handles.specs.declared.told.Told.TheVariants as told

-- these calls may have to wait
abbrev pub IsPolled : Call → Type 0
IsPolled call.Connecting = Unit {0}
IsPolled call.HandshakeData = Unit {0}
IsPolled (call.Open dir) = Unit {0}
IsPolled (call.Accept dir) = Unit {0}
IsPolled (call.Read id max_length is_ordered) = Unit {0}
IsPolled (call.Write id payload) = Unit {0}
IsPolled (call.Stopped id) = Unit {0}
IsPolled (call.ReceivedReset id) = Unit {0}
IsPolled call.ReadDatagram = Unit {0}
IsPolled (call.SendDatagram payload wait) = wait ≡ true
IsPolled call.Closed = Unit {0}
IsPolled other = ⊥

-- it is a turn of the driver
abbrev pub IsDrive : Call → Type 0
IsDrive (call.Drive now) = Unit {0}
IsDrive other = ⊥

-- the value is of the kind that the call asks for
abbrev pub is_of_getter : {D : Type 0} → Getter → Told D → Bool
is_of_getter getter.Rtt (told.Rtt span) = true
is_of_getter getter.MinRtt (told.MinRtt span) = true
is_of_getter getter.Stats (told.Stats stats) = true
is_of_getter getter.CongestionState (told.CongestionState state) = true
is_of_getter getter.HandshakeData (told.HandshakeData d) = true
is_of_getter other value = false

-- the data themselves, where a call waits for them
abbrev pub is_there : {D : Type 0} → Told D → Bool
is_there (told.HandshakeData d) = is_some d
is_there other = false

abbrev pub is_of : {D : Type 0} → Call → Told D → Bool
is_of call.HandshakeData value = is_there value
is_of (call.Get g) value = is_of_getter g value
is_of other value = false

-- the reply has a form that the call may have
abbrev pub MayReply : {D : Type 0} → Call → Reply (Told D) → Type 0
MayReply c r = MayReplyBy (λ d value. is_of d value ≡ true) c r
