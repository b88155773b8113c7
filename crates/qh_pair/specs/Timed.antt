-- The idle time of an end: its own until it is greeted, and then the one in force (RFC 9000, section 10.1).
use Rattle.std.specs.Prelude.{◌≡◌, ◌⊎◌, true, Option, Some, None}
use Rattle.qh_base.specs.declared.time.Span.{Span}
use Rattle.qh_converse.specs.Settled.{idle_of, milliseconds}
use Rattle.qh_core.specs.Inner.{is_open}
use Rattle.qh_hello.specs.declared.transport_parameters.TransportParameters.{TransportParameters}
use Rattle.qh_pair.specs.Ends.{End}

-- it is the idle time of this end's own, or what the peer's hello makes of that
abbrev pub IsIdleOf : (own : Option Span) → End → Option Span → Type 0
IsIdleOf own c idle = (idle ≡ own) ⊎ ((p : TransportParameters) × (c.handshake.peer ≡ Some p) × (idle ≡ idle_of (milliseconds own) p.max_idle_timeout))

-- an end that is open runs by such an idle time: by its own exactly if it isn't greeted
pub record IsTimedBy (own : Option Span) (c : End) : Type 0 where
  pub said : c.handshake.parameters.max_idle_timeout ≡ milliseconds own
  pub ungreeted : is_open c.core.state ≡ true → c.handshake.peer ≡ None → c.core.idle.timeout ≡ own
  pub greeted : (p : TransportParameters) → is_open c.core.state ≡ true → c.handshake.peer ≡ Some p → c.core.idle.timeout ≡ idle_of (milliseconds own) p.max_idle_timeout
