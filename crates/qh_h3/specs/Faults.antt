-- Faults of a frame stream that come of its stream.
use Rattle.qh_h3.specs.declared.frame.error.FrameStreamError.{FrameStreamError}
use Rattle.qh_h3.specs.declared.frame.error.FrameStreamError.TheVariants.{Quic, Memory}
use Rattle.qh_h3.specs.declared.quic.error.StreamErrorIncoming.{StreamErrorIncoming}
use Rattle.qh_h3.specs.declared.quic.error.StreamErrorIncoming.TheVariants as fault

abbrev pub quic_fault : StreamErrorIncoming → FrameStreamError
quic_fault fault.Memory = Memory
quic_fault e = Quic e

-- it isn't want of memory
abbrev pub IsFault : StreamErrorIncoming → Type 0
IsFault fault.Memory = ⊥
IsFault e = Unit {0}
