-- What a connection stands to at first, and what it still stands to where only other parts of it change than its streams.
use Rattle.std.proofs.Common.{◌≡◌, Bool, true, false, List, [], Option, Some, None, refl, sym, subst, inl, inr}
use Rattle.std.proofs.lemmas.Bool.{cases_Bool, false≢true}
use Rattle.qh_base.specs.declared.connection_error.ConnectionError.{ConnectionError}
use Rattle.qh_base.specs.declared.connection_error.ConnectionError.TheVariants.{Memory}
use Rattle.qh_base.specs.declared.time.Moment.{Moment}
use Rattle.qh_core.specs.Event.{IsDrainedTold, IsPolledEvent}
use Rattle.qh_core.specs.Event.IsDrainedTold.{drained, none as not_drained}
use Rattle.qh_core.specs.Event.IsPolledEvent.{stream, lost, none as nothing}
use Rattle.qh_core.specs.Follows.{Follows}
use Rattle.qh_core.specs.Inner.{HasNoHalf, IsConnection, IsSameEnd, is_open, with_streams}
use Rattle.qh_core.specs.Receiving.{IsClosedWith}
use Rattle.qh_core.specs.declared.event.EndpointEvent.{EndpointEvent}
use Rattle.qh_core.specs.declared.event.Event.{Event}
use Rattle.qh_core.specs.declared.idle.IdleTimer.{IdleTimer}
use Rattle.qh_core.specs.declared.inner.Inner.{Inner}
use Rattle.qh_core.specs.declared.state.Close.{Close}
use Rattle.qh_core.specs.declared.state.State.{State}
use Rattle.qh_core.specs.declared.state.State.TheVariants.{Closed}
use Rattle.qh_core.specs.declared.stats.UdpStats.{UdpStats}
use Rattle.qh_core.proofs.Followed.{same_end, unchanged}
use Rattle.qh_core.proofs.Handed.{never_empty}
use Rattle.qh_core.proofs.QuietCalls.{polled_call}
use Rattle.qh_core.proofs.StreamsGo.{quiet_follows}
use Rattle.qh_history.proofs.WithinLimits as limits
use Rattle.qh_history.specs.Standing.{Stands}
use Rattle.qh_recovery.specs.Accepted.{Remembers}
use Rattle.qh_space.specs.Space.{AreUnused}
use Rattle.qh_space.specs.declared.data_space.DataSpace.{DataSpace}
use Rattle.qh_spec.specs.Transcript.{Act, HandedOut}
use Rattle.qh_streams.proofs.StreamsPolled.{told_out}
use Rattle.qh_streams.specs.Streams.{PlainStreams, IsPolled}
use Rattle.qh_streams.specs.declared.frames.PeerLimits.{PeerLimits}
use Rattle.qh_streams.specs.declared.frames.StreamEvent.{StreamEvent}

-- ---- at first

none_some : {X H : Type 0} (o : Option H) (h : H) → o ≡ None → o ≡ Some h → X
none_some o h none some = absurd (cc)

first_stands : (s : DataSpace) → HasNoHalf s.streams → Stands s [] [] []
first_stands s none = record {
  out = record {
    halves = λ id h is live. none_some _ h (rw none.send refl) is;
    runs = λ run is. absurd is;
    unopened = λ id closed. (rw none.send refl, refl, refl);
  };
  into = record {
    halves = λ id r is. none_some _ r (rw none.recv refl) is;
    pieces = λ id piece is. absurd is;
    end = λ id told. absurd (false≢true told);
    unopened = λ id closed. (rw none.recv refl, refl, refl);
  };
}

module _ {S : Type 0} where
  pub first_follows : (c : Inner S) (peer : PeerLimits) → c.space.datagram_receive ≡ c.config.datagram_receive → HasNoHalf c.space.streams → AreUnused c.space.streams peer → Remembers [] c.space.dedup → IsConnection c → Follows c []
  unfolding Follows
  first_follows c peer datagrams none unused remembers p = record {
    space = c.space;
    is_space = inr refl;
    of = p.of;
    datagrams = datagrams;
    sent = [];
    came = [];
    is_sent = λ run has. absurd has.among;
    has_come = λ run is. absurd is;
    stands = first_stands c.space none;
    given = [];
    gave = λ f is. absurd is;
    within = limits.fresh c.space peer unused;
    resets = λ id code size has. absurd has.among;
    each_within = λ before after d e. absurd (never_empty before after (HandedOut d) (sym e));
    accepted = [];
    remembers = remembers;
    numbers = λ n is. absurd is;
  }

  -- ---- other parts change

  pub others_follow : (c : Inner S) (idle : IdleTimer) (state : State) (error : Option ConnectionError) (is_lost_told is_drained_told : Bool) (sent received : UdpStats) (t : List Act)
      → (c.error ≡ Some Memory → error ≡ Some Memory) → Follows c t
      → Follows (record c { idle = idle; state = state; error = error; is_lost_told = is_lost_told; is_drained_told = is_drained_told; udp_tx = sent; udp_rx = received }) t
  unfolding Follows
  others_follow c idle state error is_lost_told is_drained_told sent received t failed f = unchanged c _ t (same_end refl refl refl refl) refl failed f

  pub same_follows : (c d : Inner S) (t : List Act) → d ≡ c → Follows c t → Follows d t
  same_follows c d t e f = subst (λ (d : Inner S). Follows d t) (sym e) f

  pub closed_follows : (c d : Inner S) (now : Moment) (reason : Close) (error : ConnectionError) (t : List Act) → IsClosedWith now reason error c d → c.error ≡ None → Follows c t → Follows d t
  closed_follows c d now reason error t closed none f = same_follows _ d t closed.rest_is
      (others_follow c c.idle (Closed reason true closed.until) (Some error) c.is_lost_told c.is_drained_told c.udp_tx c.udp_rx t (λ failed. none_some c.error Memory none failed) f)

  -- this end closes, where it is open
  pub close_follows : (c d : Inner S) (now : Moment) (reason : Close) (error : ConnectionError) (t : List Act) → (is_open c.state ≡ true → IsClosedWith now reason error c d) → (is_open c.state ≡ false → d ≡ c)
      → IsConnection c → Follows c t → Follows d t
  close_follows c d now reason error t closed kept p f = elim (cases_Bool (is_open c.state)) [
    | inl open_now ↦ closed_follows c d now reason error t (closed open_now) (p.not_lost open_now) f
    | inr shut ↦ same_follows c d t (kept shut) f
  ]

  -- ---- what is told

  told_follows : (c : Inner S) (new : PlainStreams) (o : Option StreamEvent) (t : List Act) → IsPolled c.space.streams new o → IsConnection c → Follows c t → Follows (with_streams c new) t
  told_follows c new o t polled p f = quiet_follows c new t (polled_call c.space.streams new o polled (told_out c.space.streams new o polled)) p f

  pub polled_follows : (c d : Inner S) (o : Option Event) (t : List Act) → IsPolledEvent c d o → IsConnection c → Follows c t → Follows d t
  polled_follows c d _ t (stream e polled rest) p f = same_follows _ d t rest (told_follows c d.space.streams (Some e) t polled p f)
  polled_follows c d _ t (lost mid error polled is untold rest) p f = same_follows _ d t rest
      (others_follow (with_streams c mid) c.idle c.state c.error true c.is_drained_told c.udp_tx c.udp_rx t (λ e. e) (told_follows c mid None t polled p f))
  polled_follows c d _ t (nothing polled why rest) p f = same_follows _ d t rest (told_follows c d.space.streams None t polled p f)

  pub polled_end : (c d : Inner S) (o : Option Event) → IsPolledEvent c d o → IsSameEnd c d
  polled_end c d _ (stream e polled rest) = rw rest (record { side = refl; local_id = refl; remote_length = refl; config = refl })
  polled_end c d _ (lost mid error polled is untold rest) = rw rest (record { side = refl; local_id = refl; remote_length = refl; config = refl })
  polled_end c d _ (nothing polled why rest) = rw rest (record { side = refl; local_id = refl; remote_length = refl; config = refl })

  pub drained_follows : (c d : Inner S) (o : Option EndpointEvent) (t : List Act) → IsDrainedTold c d o → Follows c t → Follows d t
  drained_follows c d _ t (drained is untold rest) f = same_follows _ d t rest (others_follow c c.idle c.state c.error c.is_lost_told true c.udp_tx c.udp_rx t (λ e. e) f)
  drained_follows c d _ t (not_drained why same) f = same_follows c d t same f

  pub drained_end : (c d : Inner S) (o : Option EndpointEvent) → IsDrainedTold c d o → IsSameEnd c d
  drained_end c d _ (drained is untold rest) = rw rest (record { side = refl; local_id = refl; remote_length = refl; config = refl })
  drained_end c d _ (not_drained why same) = rw same (record { side = refl; local_id = refl; remote_length = refl; config = refl })
