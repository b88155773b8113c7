-- What holds of a connection still holds once it ended, and behind the frames of a packet.
use Rattle.std.proofs.Common.{◌≡◌, ℕ, Bool, true, false, List, Option, Some, None, refl, sym, ap, ◌∙◌, subst}
use Rattle.std.proofs.lemmas.Bool.{both_ways}
use Rattle.qh_base.specs.declared.connection_error.ConnectionError.{ConnectionError}
use Rattle.qh_base.specs.declared.connection_error.ConnectionError.TheVariants as error
use Rattle.qh_base.specs.declared.time.Moment.{Moment}
use Rattle.qh_base.specs.declared.transport_error.TransportError.{TransportError}
use Rattle.qh_core.specs.Inner.{IsConnection, AreOf, is_open}
use Rattle.qh_core.specs.Receiving.{AreFramesTaken, GoesOnWith, IsDrainingFrom, IsFaulted}
use Rattle.qh_core.specs.Receiving.AreFramesTaken.{none, more, closed, refused}
use Rattle.qh_core.specs.declared.inner.Inner.{Inner}
use Rattle.qh_core.specs.declared.state.State.{State}
use Rattle.qh_core.specs.declared.state.State.TheVariants.{Closed, Draining}
use Rattle.qh_frame.specs.declared.frame.Frame.{Frame}
use Rattle.qh_frame.specs.declared.frame.Frame.TheVariants as kind
use Rattle.qh_history.specs.Standing.{SameEnd}
use Rattle.qh_history.proofs.SameEnd.{frame as frame_keeps_end}
use Rattle.qh_space.specs.Receiving.{IsFrameTaken, IsClosedBy}
use Rattle.qh_space.specs.Receiving.IsFrameTaken.{passive, streams, ack, challenge, close}
use Rattle.qh_space.specs.declared.data_space.DataSpace.{DataSpace}
use Rattle.qh_spec.specs.declared.sides.Side.{Side}
use Rattle.qh_streams.specs.declared.frames.PeerLimits.{PeerLimits}

-- ---- the frames of a packet

-- they leave the space that of the same end
pub frames_keep_end : (now : ℕ) (bytes : List ℕ) (old new : DataSpace) (taken : List Frame) (end : Option ConnectionError) → AreFramesTaken now bytes old new taken end → SameEnd old new
frames_keep_end now bytes old new taken end (none _) = (refl, refl)
frames_keep_end now bytes old new taken end (more _ rest f _ mid _ later _ b free step t) =
    let first = frame_keeps_end now old mid f None step in
    let last = frames_keep_end now rest mid new later end t in
    (last.0 ∙ first.0, last.1 ∙ first.1)
frames_keep_end now bytes old new taken end (closed _ rest f _ _ e b free step) = frame_keeps_end now old new f (Some e) step
frames_keep_end now bytes old new taken end (refused _ rest f _ e b n r) = (refl, refl)

-- the errors of this end's that no packet brings: want of memory, and the idle time's end
abbrev own_error : (memory : Bool) → ConnectionError
own_error true = error.Memory
own_error false = error.TimedOut

not_closed_by : (memory : Bool) (f : Frame) → IsClosedBy f (Some (own_error memory)) → ⊥
not_closed_by memory kind.Padding h = cc
not_closed_by memory kind.Ping h = cc
not_closed_by memory (kind.Ack a) h = cc
not_closed_by memory (kind.ResetStream id code size) h = cc
not_closed_by memory (kind.StopSending id code) h = cc
not_closed_by memory (kind.Crypto offset payload) h = cc
not_closed_by memory (kind.NewToken token) h = cc
not_closed_by memory (kind.Stream stream) h = cc
not_closed_by memory (kind.MaxData limit) h = cc
not_closed_by memory (kind.MaxStreamData id limit) h = cc
not_closed_by memory (kind.MaxStreams dir count) h = cc
not_closed_by memory (kind.DataBlocked limit) h = cc
not_closed_by memory (kind.StreamDataBlocked id limit) h = cc
not_closed_by memory (kind.StreamsBlocked dir count) h = cc
not_closed_by memory (kind.NewConnectionId sequence prior id token) h = cc
not_closed_by memory (kind.RetireConnectionId sequence) h = cc
not_closed_by memory (kind.PathChallenge bytes) h = cc
not_closed_by memory (kind.PathResponse bytes) h = cc
not_closed_by true (kind.ConnectionClose code frame reason) h = h
not_closed_by false (kind.ConnectionClose code frame reason) h = h
not_closed_by true (kind.ApplicationClose code reason) h = h
not_closed_by false (kind.ApplicationClose code reason) h = h
not_closed_by memory kind.HandshakeDone h = cc
not_closed_by memory (kind.Datagram payload has_length) h = cc

frame_not_by : (memory : Bool) (now : ℕ) (old new : DataSpace) (f : Frame) (end : Option ConnectionError) → IsFrameTaken now old new f end → end ≡ Some (own_error memory) → ⊥
frame_not_by memory now old new f end (passive _ _ _) h = cc
frame_not_by memory now old new f end (streams _ _ _ _ _) h = cc
frame_not_by memory now old new f end (ack _ _) h = cc
frame_not_by memory now old new f end (challenge _ _) h = cc
frame_not_by memory now old new f end (close _ e is _) h = not_closed_by memory f (subst (λ (o : Option ConnectionError). IsClosedBy f o) h is)

not_refused_by : (memory : Bool) (e : TransportError) → ◌≡◌ {A = Option ConnectionError} (Some (error.TransportError e)) (Some (own_error memory)) → ⊥
not_refused_by true e h = cc
not_refused_by false e h = cc

frames_not_by : (memory : Bool) (now : ℕ) (bytes : List ℕ) (old new : DataSpace) (taken : List Frame) (end : Option ConnectionError) → AreFramesTaken now bytes old new taken end
    → end ≡ Some (own_error memory) → ⊥
frames_not_by memory now bytes old new taken end (none _) h = cc
frames_not_by memory now bytes old new taken end (more _ rest f _ mid _ later _ b free step t) h = frames_not_by memory now rest mid new later end t h
frames_not_by memory now bytes old new taken end (closed _ rest f _ _ e b free step) h = frame_not_by memory now old new f (Some e) step h
frames_not_by memory now bytes old new taken end (refused _ rest f _ e b n r) h = not_refused_by memory e h

-- no packet ends a connection for want of memory
pub not_for_memory : (now : ℕ) (bytes : List ℕ) (old new : DataSpace) (taken : List Frame) (end : Option ConnectionError) → AreFramesTaken now bytes old new taken end → end ≡ Some error.Memory → ⊥
not_for_memory now bytes old new taken end t h = frames_not_by true now bytes old new taken end t h

-- nor because nothing came
pub not_for_time : (now : ℕ) (bytes : List ℕ) (old new : DataSpace) (taken : List Frame) (end : Option ConnectionError) → AreFramesTaken now bytes old new taken end → end ≡ Some error.TimedOut → ⊥
not_for_time now bytes old new taken end t h = frames_not_by false now bytes old new taken end t h

-- ---- the connection

pub same_of : (side : Side) (peer : PeerLimits) (old new : DataSpace) → SameEnd old new → AreOf side peer old.streams → AreOf side peer new.streams
same_of side peer old new same h = record { side_is = same.0 ∙ h.side_is; peer_is = same.1 ∙ h.peer_is; said = h.said }

module _ {S : Type 0} where
  -- it ended, and not for want of memory
  pub ended_whole : (old new : Inner S) (state : State) (e : ConnectionError) → IsConnection old → is_open state ≡ false → (e ≡ error.Memory → ⊥)
      → new ≡ record old { state = state; error = Some e } → IsConnection new
  ended_whole old new state e h shut named same = subst (λ (c : Inner S). IsConnection c) (sym same) (record {
    space = h.space;
    of = h.of;
    not_lost = λ opened. let both : true ≡ false = sym opened ∙ shut in cc;
    lost = λ _. refl;
    drained = λ memory. absurd (named (let is : ◌≡◌ {A = Option ConnectionError} (Some e) (Some error.Memory) = memory in cc));
    no_half = λ memory. absurd (named (let is : ◌≡◌ {A = Option ConnectionError} (Some e) (Some error.Memory) = memory in cc));
  })

  pub faulted_whole : (now : Moment) (e : TransportError) (old new : Inner S) → IsConnection old → IsFaulted now e old new → IsConnection new
  faulted_whole now e old new h f = ended_whole old new (Closed f.reason true f.closed.until) (error.TransportError e) h refl (λ same. cc) f.closed.rest_is

  -- it ended with this error, and nothing else changed
  pub record IsEndedWith (e : ConnectionError) (old new : Inner S) : Type 0 where
    pub state : State
    pub shut : is_open state ≡ false
    pub rest_is : new ≡ record old { state = state; error = Some e }

  by_draining : (now : Moment) (e : ConnectionError) (old new : Inner S) → IsDrainingFrom now e old new → IsEndedWith e old new
  by_draining now e old new d = record { state = Draining d.until; shut = refl; rest_is = d.rest_is }

  -- whichever error it is
  pub ended_with : (now : Moment) (e : ConnectionError) (old new : Inner S) → GoesOnWith now (Some e) old new → IsEndedWith e old new
  ended_with now (error.TransportError e) old new f = record { state = Closed f.reason true f.closed.until; shut = refl; rest_is = f.closed.rest_is }
  ended_with now error.VersionMismatch old new d = by_draining now _ old new d
  ended_with now (error.ConnectionClosed said) old new d = by_draining now _ old new d
  ended_with now (error.ApplicationClosed said) old new d = by_draining now _ old new d
  ended_with now error.Reset old new d = by_draining now _ old new d
  ended_with now error.TimedOut old new d = by_draining now _ old new d
  ended_with now error.LocallyClosed old new d = by_draining now _ old new d
  ended_with now error.CidsExhausted old new d = by_draining now _ old new d
  ended_with now error.Memory old new d = by_draining now _ old new d

  -- whichever way it goes on behind the frames of a packet
  pub goes_on_whole : (now : Moment) (end : Option ConnectionError) (old new : Inner S) → IsConnection old → (end ≡ Some error.Memory → ⊥) → GoesOnWith now end old new → IsConnection new
  goes_on_whole now None old new h named same = subst (λ (c : Inner S). IsConnection c) (sym same) h
  goes_on_whole now (Some e) old new h named on =
      let end = ended_with now e old new on in
      ended_whole old new end.state e h end.shut (λ same. named (ap Some same)) end.rest_is

  -- an open connection goes on as it was, since none of the frames closed it or was refused
  pub goes_on_open : (now : Moment) (end : Option ConnectionError) (old new : Inner S) → GoesOnWith now end old new → is_open new.state ≡ true → (end ≡ None) × (new ≡ old)
  goes_on_open now None old new same opened = (refl, same)
  goes_on_open now (Some e) old new on opened =
      let end = ended_with now e old new on in
      absurd (both_ways (is_open new.state) (ap (λ (c : Inner S). is_open c.state) end.rest_is ∙ end.shut) opened)

  -- however it goes on behind the frames, its space is as they left it
  pub goes_on_space : (now : Moment) (end : Option ConnectionError) (old new : Inner S) → GoesOnWith now end old new → new.space ≡ old.space
  goes_on_space now None old new same = ap (λ (c : Inner S). c.space) same
  goes_on_space now (Some e) old new on = ap (λ (c : Inner S). c.space) (ended_with now e old new on).rest_is

  -- an error that is no fault of the peer's
  pub goes_on_draining : (now : Moment) (e : ConnectionError) (old new : Inner S) → ((f : TransportError) → e ≡ error.TransportError f → ⊥) → IsDrainingFrom now e old new → GoesOnWith now (Some e) old new
  goes_on_draining now (error.TransportError e) old new other d = absurd (other e refl)
  goes_on_draining now error.VersionMismatch old new other d = d
  goes_on_draining now (error.ConnectionClosed said) old new other d = d
  goes_on_draining now (error.ApplicationClosed said) old new other d = d
  goes_on_draining now error.Reset old new other d = d
  goes_on_draining now error.TimedOut old new other d = d
  goes_on_draining now error.LocallyClosed old new other d = d
  goes_on_draining now error.CidsExhausted old new other d = d
  goes_on_draining now error.Memory old new other d = d
