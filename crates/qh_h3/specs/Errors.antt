-- How errors of a connection are answered (own; RFC 9114, section 8).
use Rattle.std.specs.Prelude.{ℕ, Bool, true, false, ◌==◌, Option, Some, None}
use Rattle.qh_spec.specs.Codes as codes
use Rattle.qh_base.specs.declared.code.Code.{Code}
use Rattle.qh_h3.specs.declared.error.ConnectionError.{ConnectionError}
use Rattle.qh_h3.specs.declared.error.ConnectionError.TheVariants as ended
use Rattle.qh_h3.specs.declared.error.ErrorOrigin.{ErrorOrigin}
use Rattle.qh_h3.specs.declared.error.ErrorOrigin.TheVariants.{Internal, Quic}
use Rattle.qh_h3.specs.declared.error.LocalError.TheVariants.{Application}
use Rattle.qh_h3.specs.declared.error.StreamError.{StreamError}
use Rattle.qh_h3.specs.declared.error.StreamError.TheVariants as failed
use Rattle.qh_h3.specs.declared.quic.error.ConnectionErrorIncoming.TheVariants as lost
use Rattle.qh_h3.specs.declared.quic.error.StreamErrorIncoming.{StreamErrorIncoming}
use Rattle.qh_h3.specs.declared.quic.error.StreamErrorIncoming.TheVariants as fault

-- the error that counts, as it is answered
abbrev pub connection_error : ErrorOrigin → ConnectionError
connection_error (Internal e) = ended.Local (Application e.code e.message)
connection_error (Quic lost.Timeout) = ended.Timeout
connection_error (Quic lost.Memory) = ended.Memory
connection_error (Quic e) = ended.Remote e

-- an end with H3_NO_ERROR
abbrev pub ended_well : ConnectionError → Bool
ended_well (ended.Local (Application code reason)) = code.0 == codes.h3_no_error
ended_well (ended.Remote (lost.ApplicationClose code)) = code == codes.h3_no_error
ended_well e = false

abbrev pub stream_ended_well : StreamError → Bool
stream_ended_well (failed.StreamError code reason) = code.0 == codes.h3_no_error
stream_ended_well (failed.ConnectionError e) = ended_well e
stream_ended_well e = false

-- what a stream's call answers once the seat knows this error; without one memory was wanted
abbrev pub stream_answer : Option ErrorOrigin → StreamError
stream_answer (Some e) = failed.ConnectionError (connection_error e)
stream_answer None = failed.Memory

-- the connection's error in a stream's, if it is one that counts; want of memory isn't
abbrev pub origin_of : StreamErrorIncoming → Option ErrorOrigin
origin_of (fault.ConnectionErrorIncoming lost.Memory) = None
origin_of (fault.ConnectionErrorIncoming e) = Some (Quic e)
origin_of e = None

-- the answer to another fault of the stream
abbrev pub plain_answer : StreamErrorIncoming → StreamError
plain_answer (fault.StreamTerminated code) = failed.RemoteTerminate record { 0 = code }
plain_answer (fault.Unknown f) = failed.Undefined f
plain_answer e = failed.Memory
