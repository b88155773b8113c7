-- What is told of a connection.
use Rattle.std.specs.Prelude.{◌≡◌, ◌⊎◌, Bool, true, false, Option, Some, None}
use Rattle.qh_base.specs.declared.connection_error.ConnectionError.{ConnectionError}
use Rattle.qh_core.specs.Inner.{with_streams}
use Rattle.qh_core.specs.declared.event.EndpointEvent.{EndpointEvent}
use Rattle.qh_core.specs.declared.event.EndpointEvent.TheVariants as endpoint
use Rattle.qh_core.specs.declared.event.Event.{Event}
use Rattle.qh_core.specs.declared.event.Event.TheVariants.{ConnectionLost, Stream}
use Rattle.qh_core.specs.declared.inner.Inner.{Inner}
use Rattle.qh_core.specs.declared.state.State.{State}
use Rattle.qh_core.specs.declared.state.State.TheVariants.{Drained}
use Rattle.qh_streams.specs.Streams.{PlainStreams, IsPolled}
use Rattle.qh_streams.specs.declared.frames.StreamEvent.{StreamEvent}

-- nothing is sent or taken any more
abbrev pub is_drained : State → Bool
is_drained Drained = true
is_drained other = false

module _ {S : Type 0} where
  -- what is told to the application next: what happened to streams, and then, once, that the connection is lost, and why
  pub data IsPolledEvent (old new : Inner S) : Option Event → Type 0 where
    stream : (e : StreamEvent) → IsPolled old.space.streams new.space.streams (Some e) → new ≡ with_streams old new.space.streams → IsPolledEvent old new (Some (Stream e))
    lost : (mid : PlainStreams) (error : ConnectionError) → IsPolled old.space.streams mid None → old.error ≡ Some error → old.is_lost_told ≡ false
        → new ≡ record (with_streams old mid) { is_lost_told = true } → IsPolledEvent old new (Some (ConnectionLost error))
    none : IsPolled old.space.streams new.space.streams None → (old.error ≡ None) ⊎ (old.is_lost_told ≡ true) → new ≡ with_streams old new.space.streams → IsPolledEvent old new None

  -- what is told to the endpoint: once, that the connection is drained
  pub data IsDrainedTold (old new : Inner S) : Option EndpointEvent → Type 0 where
    drained : is_drained old.state ≡ true → old.is_drained_told ≡ false → new ≡ record old { is_drained_told = true } → IsDrainedTold old new (Some endpoint.Drained)
    none : (is_drained old.state ≡ false) ⊎ (old.is_drained_told ≡ true) → new ≡ old → IsDrainedTold old new None
