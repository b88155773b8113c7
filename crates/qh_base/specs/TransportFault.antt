-- A fault against the transport protocol that an end found.
use Rattle.std.specs.Prelude.{◌≡◌, ℕ, [], Option}
use Rattle.qh_base.specs.declared.transport_error.TransportError.{TransportError}

-- the error has the code, names the type of the frame if one is known, and has no reason phrase
pub record IsFault (code : ℕ) (frame : Option ℕ) (e : TransportError) : Type 0 where
  pub code_is : e.code.0 ≡ code
  pub frame_is : e.frame ≡ frame
  pub reason_is : e.reason ≡ []
