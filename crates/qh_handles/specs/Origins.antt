-- Where an answer comes from: a reply, want of memory before the call was made, or nowhere, if no call answers so.
use Rattle.std.specs.Prelude.{◌≡◌, ◌⊎◌}
use Rattle.qh_base.specs.declared.connection_error.ConnectionError.{ConnectionError}
use Rattle.qh_base.specs.declared.connection_error.ConnectionError.TheVariants as lost
use Rattle.qh_book.specs.declared.reply.Reply.{Reply}
use Rattle.qh_book.specs.declared.reply.Reply.TheVariants as reply
use Rattle.qh_handles.specs.declared.error.ReadError.{ReadError}
use Rattle.qh_handles.specs.declared.error.ReadError.TheVariants as read
use Rattle.qh_handles.specs.declared.error.ResetError.{ResetError}
use Rattle.qh_handles.specs.declared.error.ResetError.TheVariants as reset
use Rattle.qh_handles.specs.declared.error.SendDatagramError.{SendDatagramError}
use Rattle.qh_handles.specs.declared.error.SendDatagramError.TheVariants as datagram
use Rattle.qh_handles.specs.declared.error.StoppedError.{StoppedError}
use Rattle.qh_handles.specs.declared.error.StoppedError.TheVariants as stopped
use Rattle.qh_handles.specs.declared.error.WriteError.{WriteError}
use Rattle.qh_handles.specs.declared.error.WriteError.TheVariants as write

pub data Origin (T : Type 0) : Type 0 where
  replied : Reply T → Origin T
  wanting : Origin T
  nowhere : Origin T

-- this holds of the reply, or that where memory was wanting
abbrev pub IsFrom : {T : Type 0} → Origin T → (Reply T → Type 0) → Type 0 → Type 0
IsFrom (replied r) P Q = P r
IsFrom wanting P Q = Q
IsFrom nowhere P Q = ⊥

abbrev pub read_origin : {T : Type 0} → ReadError → Origin T
read_origin (read.Reset code) = replied (reply.Reset code)
read_origin (read.ConnectionLost e) = replied (reply.ConnectionLost e)
read_origin read.ClosedStream = replied reply.ClosedStream
read_origin read.IllegalOrderedRead = replied reply.IllegalOrderedRead
read_origin read.ZeroRttRejected = nowhere
read_origin read.Memory = wanting

abbrev pub reset_origin : {T : Type 0} → ResetError → Origin T
reset_origin (reset.ConnectionLost e) = replied (reply.ConnectionLost e)
reset_origin reset.ZeroRttRejected = nowhere
reset_origin reset.Memory = wanting

abbrev pub stopped_origin : {T : Type 0} → StoppedError → Origin T
stopped_origin (stopped.ConnectionLost e) = replied (reply.ConnectionLost e)
stopped_origin stopped.ZeroRttRejected = nowhere
stopped_origin stopped.Memory = wanting

abbrev pub write_origin : {T : Type 0} → WriteError → Origin T
write_origin (write.Stopped code) = replied (reply.Stopped code)
write_origin (write.ConnectionLost e) = replied (reply.ConnectionLost e)
write_origin write.ClosedStream = replied reply.ClosedStream
write_origin write.ZeroRttRejected = nowhere
write_origin write.Memory = wanting

abbrev pub datagram_origin : {T : Type 0} → SendDatagramError → Origin T
datagram_origin datagram.UnsupportedByPeer = replied reply.UnsupportedByPeer
datagram_origin datagram.Disabled = replied reply.Disabled
datagram_origin datagram.TooLarge = replied reply.TooLarge
datagram_origin (datagram.ConnectionLost e) = replied (reply.ConnectionLost e)
datagram_origin datagram.Memory = wanting

-- the connection is lost by this error, or it is want of memory for the call
abbrev pub IsLostBy : {T : Type 0} → ConnectionError → (Reply T → Type 0) → Type 0 → Type 0
IsLostBy e P Q = P (reply.ConnectionLost e) ⊎ ((e ≡ lost.Memory) × Q)
