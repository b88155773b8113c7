-- Which kinds of I/O errors the errors of streams are.
use Rattle.std.specs.declared.io.ErrorKind.{ErrorKind}
use Rattle.std.specs.declared.io.ErrorKind.TheVariants as kind
use Rattle.qh_handles.specs.declared.error.ReadError.{ReadError}
use Rattle.qh_handles.specs.declared.error.ReadError.TheVariants as read
use Rattle.qh_handles.specs.declared.error.ResetError.{ResetError}
use Rattle.qh_handles.specs.declared.error.ResetError.TheVariants as reset
use Rattle.qh_handles.specs.declared.error.StoppedError.{StoppedError}
use Rattle.qh_handles.specs.declared.error.StoppedError.TheVariants as stopped
use Rattle.qh_handles.specs.declared.error.WriteError.{WriteError}
use Rattle.qh_handles.specs.declared.error.WriteError.TheVariants as write

abbrev pub read_kind : ReadError → ErrorKind
read_kind (read.Reset code) = kind.ConnectionReset
read_kind (read.ConnectionLost e) = kind.NotConnected
read_kind read.ClosedStream = kind.NotConnected
read_kind read.IllegalOrderedRead = kind.InvalidInput
read_kind read.ZeroRttRejected = kind.ConnectionReset
read_kind read.Memory = kind.OutOfMemory

abbrev pub reset_kind : ResetError → ErrorKind
reset_kind (reset.ConnectionLost e) = kind.NotConnected
reset_kind reset.ZeroRttRejected = kind.ConnectionReset
reset_kind reset.Memory = kind.OutOfMemory

abbrev pub stopped_kind : StoppedError → ErrorKind
stopped_kind (stopped.ConnectionLost e) = kind.NotConnected
stopped_kind stopped.ZeroRttRejected = kind.ConnectionReset
stopped_kind stopped.Memory = kind.OutOfMemory

abbrev pub write_kind : WriteError → ErrorKind
write_kind (write.Stopped code) = kind.ConnectionReset
write_kind (write.ConnectionLost e) = kind.NotConnected
write_kind write.ClosedStream = kind.NotConnected
write_kind write.ZeroRttRejected = kind.ConnectionReset
write_kind write.Memory = kind.OutOfMemory
