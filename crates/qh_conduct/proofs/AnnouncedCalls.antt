-- How the connection stands to the datagrams behind the calls that hand none out.
use Rattle.std.proofs.Common.{◌≡◌, ◌⊎◌, ℕ, ◌==◌, nat_le, Bool, true, false, List, [], ◌∷◌, ◌++◌, length, Option, Some, None, refl, sym, ap, subst, ◌∙◌, arith, inl, inr}
use Rattle.std.specs.Prelude.{MatchBool, ◌||◌}
use Rattle.std.proofs.lemmas.Bool.{and_parts, both_ways, cases_Bool, eqb-true, or_cases}
use Rattle.std.proofs.lemmas.List.{append-nil}
use Rattle.qh_base.specs.declared.connection_error.ConnectionError.{ConnectionError}
use Rattle.qh_base.specs.declared.connection_error.ConnectionError.TheVariants.{LocallyClosed}
use Rattle.qh_base.specs.declared.time.Moment.{Moment}
use Rattle.qh_buffers.specs.Ranges.{has}
use Rattle.qh_conduct.proofs.ConnectionGoesOn.{Goes, carried, come_on, quiet}
use Rattle.qh_conduct.proofs.SpaceGoesOn.{aged_go, frames_go, probed_go, space_on}
use Rattle.qh_conduct.proofs.StreamsGoOn.{GoOn, same_go}
use Rattle.qh_conduct.proofs.StreamsReceive.{call_go, polled_go}
use Rattle.qh_conduct.proofs.TurnedAside.{IsAside}
use Rattle.qh_conduct.specs.Announced.{Announced, HasAnnounced, HasComeWith, IsOver, TakesTags}
use Rattle.qh_conduct.specs.Calls.{IsCall}
use Rattle.qh_core.proofs.Acts.{in_last_act}
use Rattle.qh_core.proofs.Ends.{ended_with}
use Rattle.qh_core.proofs.Handed.{same_in, same_out}
use Rattle.qh_core.specs.Event.{IsDrainedTold, IsPolledEvent}
use Rattle.qh_core.specs.Event.IsDrainedTold.{drained as drain_told, none as no_drain_told}
use Rattle.qh_core.specs.Event.IsPolledEvent.{stream, lost, none as nothing}
use Rattle.qh_core.specs.Follows.{event_acts}
use Rattle.qh_core.specs.Inner.{is_open, with_streams}
use Rattle.qh_core.specs.Receiving.{GoesOnWith, IsClosedWith, IsDatagramTaken, IsEventTaken, IsOpenedBy, IsPacketHandled, IsPacketTaken, received}
use Rattle.qh_core.specs.Receiving.IsDatagramTaken.{dropped, handled, told_again, closed_too, draining, drained}
use Rattle.qh_core.specs.Receiving.IsPacketHandled.{repeated, empty, faulty, unnoted, taken}
use Rattle.qh_core.specs.Sending.{NothingIsSent}
use Rattle.qh_core.specs.Timers.{IsTimedOut, restarted}
use Rattle.qh_core.specs.Timers.IsTimedOut.{idle, recovery, closed, draining as draining_over, waits, drained as drained_still}
use Rattle.qh_core.specs.declared.event.ConnectionEvent.{ConnectionEvent}
use Rattle.qh_core.specs.declared.event.ConnectionEvent.TheVariants.{Datagram, Close}
use Rattle.qh_core.specs.declared.event.EndpointEvent.{EndpointEvent}
use Rattle.qh_core.specs.declared.event.Event.{Event}
use Rattle.qh_core.specs.declared.inner.Inner.{Inner}
use Rattle.qh_core.specs.declared.state.Close.{Close as CloseReason}
use Rattle.qh_core.specs.declared.state.State.{State}
use Rattle.qh_core.specs.declared.state.State.TheVariants.{Closed, Draining, Drained}
use Rattle.qh_packet.proofs.Packets.{has_packet}
use Rattle.qh_space.specs.declared.data_space.DataSpace.{DataSpace}
use Rattle.qh_spec.proofs.Members.{in_left}
use Rattle.qh_spec.proofs.TranscriptLaws.{handed_in-append}
use Rattle.qh_spec.specs.Link.{other}
use Rattle.qh_spec.specs.Lists.{In}
use Rattle.qh_spec.specs.QuicFrames.{QuicFrame, AreQuicFrames}
use Rattle.qh_spec.specs.Transcript.{Act, HandedIn, handed_in, handed_out}
use Rattle.qh_spec.specs.declared.sides.Side.{Side}
use Rattle.qh_spec.specs.declared.sides.Space.{Space}
use Rattle.qh_streams.specs.Streams.{PlainStreams}

in_more : (t : List Act) (d x : List ℕ) → In x (handed_in t) → In x (handed_in (t ++ HandedIn d ∷ []))
in_more t d x is = subst (λ (l : List (List ℕ)). In x l) (sym (handed_in-append t (HandedIn d ∷ []))) (in_left x (handed_in t) (d ∷ []) is)

pub drained_open : (s : State) → s ≡ Drained → is_open s ≡ true → ⊥
drained_open s is open_now = both_ways (is_open s) (ap is_open is) open_now

module _ {S : Type 0} where
  -- ---- steps that leave the space as it was, but for its streams

  -- so the connection stands to the same datagrams, over or not
  pub record IsQuietStep (old new : Inner S) : Type 0 where
    pub side : new.side ≡ old.side
    pub local_id : new.local_id ≡ old.local_id
    pub remote_length : length new.remote_id ≡ length old.remote_id
    pub config : new.config ≡ old.config
    pub streams : GoOn old.space.streams new.space.streams
    pub next : new.space.next_number ≡ old.space.next_number
    pub acks : new.space.acks ≡ old.space.acks
    pub receives : new.space.datagram_receive ≡ old.space.datagram_receive
    pub shut : is_open old.state ≡ false → is_open new.state ≡ false
    pub over : IsOver old → IsOver new

  goes_by : (old new : Inner S) → IsQuietStep old new → Goes old new
  goes_by old new q = record { side = q.side; local_id = q.local_id; remote_length = q.remote_length; config = q.config; streams = q.streams; next = let same = q.next in omega (arith, same); shut = q.shut }

  stands_on : (old new : Inner S) (t u : List Act) → IsQuietStep old new → handed_out u ≡ handed_out t → ((d : List ℕ) → In d (handed_in t) → In d (handed_in u)) → IsOver old ⊎ Announced old t → IsOver new ⊎ Announced new u
  stands_on old new t u q out among (inl over) = inl (q.over over)
  stands_on old new t u q out among (inr p) = inr (quiet old new t u (goes_by old new q) out among (ap (λ a. a.ranges) q.acks) p)

  -- the streams alone, or other parts that don't matter here
  pub streams_step : (old new : Inner S) (s : PlainStreams) → GoOn old.space.streams s → new.side ≡ old.side → new.local_id ≡ old.local_id → length new.remote_id ≡ length old.remote_id → new.config ≡ old.config → new.space ≡ record old.space { streams = s } → new.state ≡ old.state → new.error ≡ old.error
      → IsQuietStep old new
  streams_step old new s go side local_id remote_length config space state error = record {
    side = side;
    local_id = local_id;
    remote_length = remote_length;
    config = config;
    streams = subst (λ (x : DataSpace). GoOn old.space.streams x.streams) (sym space) go;
    next = ap (λ (x : DataSpace). x.next_number) space;
    acks = ap (λ (x : DataSpace). x.acks) space;
    receives = ap (λ (x : DataSpace). x.datagram_receive) space;
    shut = λ no. ap is_open state ∙ no;
    over = λ is. (error ∙ is.0, state ∙ is.1);
  }

  pub with_step : (old new : Inner S) → GoOn old.space.streams new.space.streams → new ≡ with_streams old new.space.streams → IsQuietStep old new
  with_step old new go e = streams_step old new new.space.streams go (ap (λ (c : Inner S). c.side) e) (ap (λ (c : Inner S). c.local_id) e) (ap (λ (c : Inner S). length c.remote_id) e) (ap (λ (c : Inner S). c.config) e) (ap (λ (c : Inner S). c.space) e)
      (ap (λ (c : Inner S). c.state) e) (ap (λ (c : Inner S). c.error) e)

  pub same_step : (old new : Inner S) → new ≡ old → IsQuietStep old new
  same_step old new e = streams_step old new old.space.streams (same_go old.space.streams) (ap (λ (c : Inner S). c.side) e) (ap (λ (c : Inner S). c.local_id) e) (ap (λ (c : Inner S). length c.remote_id) e) (ap (λ (c : Inner S). c.config) e) (ap (λ (c : Inner S). c.space) e)
      (ap (λ (c : Inner S). c.state) e) (ap (λ (c : Inner S). c.error) e)

  -- ---- calls

  pub called : (old new : Inner S) (t u : List Act) → IsCall old.space.streams new.space.streams → new ≡ with_streams old new.space.streams → handed_in u ≡ [] → handed_out u ≡ [] → HasAnnounced old t → HasAnnounced new (t ++ u)
  unfolding HasAnnounced
  called old new t u call e into out p =
      stands_on old new t (t ++ u) (with_step old new (call_go old.space.streams new.space.streams call) e) (same_out t u out)
      (λ d is. subst (λ (l : List (List ℕ)). In d l) (sym (same_in t u into)) is) p

  pub polled_step : (old new : Inner S) (o : Option Event) → IsPolledEvent old new o → IsQuietStep old new
  polled_step old new _ (stream e polled rest) = with_step old new (polled_go old.space.streams new.space.streams (Some e) polled) rest
  polled_step old new _ (lost mid error polled is untold rest) = streams_step old new mid (polled_go old.space.streams mid None polled) (ap (λ (c : Inner S). c.side) rest) (ap (λ (c : Inner S). c.local_id) rest)
      (ap (λ (c : Inner S). length c.remote_id) rest) (ap (λ (c : Inner S). c.config) rest) (ap (λ (c : Inner S). c.space) rest) (ap (λ (c : Inner S). c.state) rest) (ap (λ (c : Inner S). c.error) rest)
  polled_step old new _ (nothing polled why rest) = with_step old new (polled_go old.space.streams new.space.streams None polled) rest

  pub polled : (old new : Inner S) (o : Option Event) (t : List Act) → IsPolledEvent old new o → HasAnnounced old t → HasAnnounced new t
  unfolding HasAnnounced
  polled old new o t is p = stands_on old new t t (polled_step old new o is) refl (λ d among. among) p

  pub drained_step : (old new : Inner S) (o : Option EndpointEvent) → IsDrainedTold old new o → IsQuietStep old new
  drained_step old new _ (drain_told is untold rest) = streams_step old new old.space.streams (same_go old.space.streams) (ap (λ (c : Inner S). c.side) rest) (ap (λ (c : Inner S). c.local_id) rest)
      (ap (λ (c : Inner S). length c.remote_id) rest) (ap (λ (c : Inner S). c.config) rest) (ap (λ (c : Inner S). c.space) rest) (ap (λ (c : Inner S). c.state) rest) (ap (λ (c : Inner S). c.error) rest)
  drained_step old new _ (no_drain_told why rest) = same_step old new rest

  pub told_drained : (old new : Inner S) (o : Option EndpointEvent) (t : List Act) → IsDrainedTold old new o → HasAnnounced old t → HasAnnounced new t
  unfolding HasAnnounced
  told_drained old new o t is p = stands_on old new t t (drained_step old new o is) refl (λ d among. among) p

  -- ---- nothing is sent

  pub none_sent : (old new : Inner S) (t : List Act) → NothingIsSent old new → HasAnnounced old t → HasAnnounced new t
  none_sent old new t is p = subst (λ (c : Inner S). HasAnnounced c t) (sym is.0) p

  -- ---- what is due

  -- another state, and maybe another error
  pub ended_step : (old new : Inner S) (state : State) (error : Option ConnectionError) → new.side ≡ old.side → new.local_id ≡ old.local_id → length new.remote_id ≡ length old.remote_id → new.config ≡ old.config → new.space ≡ old.space → new.state ≡ state → is_open state ≡ false
      → (IsOver old → IsOver new) → IsQuietStep old new
  ended_step old new state error side local_id remote_length config space state_is shut over = record {
    side = side;
    local_id = local_id;
    remote_length = remote_length;
    config = config;
    streams = subst (λ (x : DataSpace). GoOn old.space.streams x.streams) (sym space) (same_go old.space.streams);
    next = ap (λ (x : DataSpace). x.next_number) space;
    acks = ap (λ (x : DataSpace). x.acks) space;
    receives = ap (λ (x : DataSpace). x.datagram_receive) space;
    shut = λ no. ap is_open state_is ∙ shut;
    over = over;
  }

  pub timed_step : (now : ℕ) (old new : Inner S) → IsTimedOut now old new → IsQuietStep old new
  timed_step now old new (idle up due e) = ended_step old new Drained None (ap (λ (c : Inner S). c.side) e) (ap (λ (c : Inner S). c.local_id) e) (ap (λ (c : Inner S). length c.remote_id) e) (ap (λ (c : Inner S). c.config) e) (ap (λ (c : Inner S). c.space) e)
      (ap (λ (c : Inner S). c.state) e) refl (λ over. absurd (drained_open old.state over.1 up))
  timed_step now old new (recovery mid up not_due aged probed e) =
      let go = space_on old.space mid new.space (aged_go now old.space mid aged) (probed_go now mid new.space probed) in
      record {
        side = ap (λ (c : Inner S). c.side) e;
        local_id = ap (λ (c : Inner S). c.local_id) e;
        remote_length = ap (λ (c : Inner S). length c.remote_id) e;
        config = ap (λ (c : Inner S). c.config) e;
        streams = go.streams;
        next = go.next;
        acks = go.acks;
        receives = go.receives;
        shut = λ no. ap (λ (c : Inner S). is_open c.state) e ∙ no;
        over = λ is. (ap (λ (c : Inner S). c.error) e ∙ is.0, ap (λ (c : Inner S). c.state) e ∙ is.1);
      }
  timed_step now old new (closed reason is_due until is by_now e) = ended_step old new Drained None (ap (λ (c : Inner S). c.side) e) (ap (λ (c : Inner S). c.local_id) e) (ap (λ (c : Inner S). length c.remote_id) e) (ap (λ (c : Inner S). c.config) e) (ap (λ (c : Inner S). c.space) e)
      (ap (λ (c : Inner S). c.state) e) refl (λ over. (ap (λ (c : Inner S). c.error) e ∙ over.0, ap (λ (c : Inner S). c.state) e))
  timed_step now old new (draining_over until is by_now e) = ended_step old new Drained None (ap (λ (c : Inner S). c.side) e) (ap (λ (c : Inner S). c.local_id) e) (ap (λ (c : Inner S). length c.remote_id) e) (ap (λ (c : Inner S). c.config) e) (ap (λ (c : Inner S). c.space) e)
      (ap (λ (c : Inner S). c.state) e) refl (λ over. (ap (λ (c : Inner S). c.error) e ∙ over.0, ap (λ (c : Inner S). c.state) e))
  timed_step now old new (waits moment is before e) = same_step old new e
  timed_step now old new (drained_still is e) = same_step old new e

  pub timed_out : (now : ℕ) (old new : Inner S) (t : List Act) → IsTimedOut now old new → HasAnnounced old t → HasAnnounced new t
  unfolding HasAnnounced
  timed_out now old new t is p = stands_on old new t t (timed_step now old new is) refl (λ d among. among) p

  -- ---- a handshake beside it

  pub aside_step : (old new : Inner S) → IsAside old new → IsQuietStep old new
  aside_step old new a = record {
    side = a.same.side;
    local_id = a.same.local_id;
    remote_length = a.same.remote_length;
    config = a.same.config;
    streams = subst (λ (x : DataSpace). GoOn old.space.streams x.streams) (sym a.space) (same_go old.space.streams);
    next = ap (λ (x : DataSpace). x.next_number) a.space;
    acks = ap (λ (x : DataSpace). x.acks) a.space;
    receives = ap (λ (x : DataSpace). x.datagram_receive) a.space;
    shut = λ no. elim (cases_Bool (is_open new.state)) [ inl up ↦ absurd (both_ways (is_open old.state) no (a.opens up)) | inr down ↦ down ];
    over = λ over. let stays = a.drained over.1 in (stays.1 ∙ over.0, stays.0);
  }

  pub aside_announced : (old new : Inner S) (t : List Act) → IsAside old new → HasAnnounced old t → HasAnnounced new t
  unfolding HasAnnounced
  aside_announced old new t a p = stands_on old new t t (aside_step old new a) refl (λ d among. among) p

  -- ---- what comes

  -- all that doesn't matter here
  record IsEnded (old new : Inner S) : Type 0 where
    side : new.side ≡ old.side
    local_id : new.local_id ≡ old.local_id
    remote_length : length new.remote_id ≡ length old.remote_id
    config : new.config ≡ old.config
    space : new.space ≡ old.space

  pub closes_step : (now : Moment) (reason : CloseReason) (error : ConnectionError) (old new : Inner S) → is_open old.state ≡ true → IsClosedWith now reason error old new → IsQuietStep old new
  closes_step now reason error old new up c =
      let e = c.rest_is in
      ended_step old new (Closed reason true c.until) None (ap (λ (c : Inner S). c.side) e) (ap (λ (c : Inner S). c.local_id) e) (ap (λ (c : Inner S). length c.remote_id) e) (ap (λ (c : Inner S). c.config) e) (ap (λ (c : Inner S). c.space) e)
      (ap (λ (c : Inner S). c.state) e) refl (λ over. absurd (drained_open old.state over.1 up))

  behind_frames : (now : Moment) (end : Option ConnectionError) (old new : Inner S) → GoesOnWith now end old new → IsEnded old new
  behind_frames now None old new e = rw e (record { side = refl; local_id = refl; remote_length = refl; config = refl; space = refl })
  behind_frames now (Some e) old new on = rw (ended_with now e old new on).rest_is (record { side = refl; local_id = refl; remote_length = refl; config = refl; space = refl })

  -- ---- a packet that is taken

  module _ (accepts : Side → Space → ℕ → List ℕ → Bool) (tags : TakesTags accepts) where
    number_came : (old : Inner S) (t : List Act) (d : List ℕ) (number : ℕ) (bytes : List ℕ) (fs : List QuicFrame) → IsOpenedBy accepts old d number bytes → AreQuicFrames bytes fs → HasComeWith old (handed_in (t ++ HandedIn d ∷ [])) number
    number_came old t d number bytes fs opened are =
        let o = opened.is in
        record {
          datagram = d;
          among = in_last_act t d;
          packet = _;
          has = has_packet (length old.local_id) d o.packet (other old.side) opened.expected number fs o.is.fits o.is.whole (tags (other old.side) number o.packet.tag o.is_number o.accepted) o.expanded
              (subst (λ (b : List ℕ). AreQuicFrames b fs) (sym o.frames_are) are);
          space_is = refl;
          sender_is = refl;
          number_is = refl;
        }

    packet_stands : (now : Moment) (number : ℕ) (bytes d : List ℕ) (old new : Inner S) (t : List Act) → is_open old.state ≡ true → IsOpenedBy accepts old d number bytes → IsPacketTaken now number bytes old new
        → Announced old t → Announced new (t ++ HandedIn d ∷ [])
    packet_stands now number bytes d old new t up opened a p =
        let end = behind_frames now a.end (record old { space = a.space; idle = restarted now old.idle }) new a.goes_on in
        let go = frames_go now.0 bytes a.mid a.space a.taken a.end a.are_taken in
        let same_streams : a.mid.streams ≡ old.space.streams = ap (λ (s : DataSpace). s.streams) a.accepted.rest_is in
        let same_next : a.mid.next_number ≡ old.space.next_number = ap (λ (s : DataSpace). s.next_number) a.accepted.rest_is in
        let goes : Goes old new = record {
          side = end.side;
          local_id = end.local_id;
          remote_length = end.remote_length;
          config = end.config;
          streams = subst (λ (s : DataSpace). GoOn old.space.streams s.streams) (sym end.space) (subst (λ (s : PlainStreams). GoOn s a.space.streams) same_streams go.streams);
          next = let after = ap (λ (s : DataSpace). s.next_number) end.space in let later = go.next in omega (arith, after, later, same_next);
          shut = λ no. absurd (both_ways (is_open old.state) no up);
        } in
        let ranges : new.space.acks.ranges ≡ a.mid.acks.ranges = ap (λ (s : DataSpace). s.acks.ranges) end.space ∙ ap (λ x. x.ranges) go.acks in
        let u = t ++ HandedIn d ∷ [] in
        carried old new t u goes (same_out t (HandedIn d ∷ []) refl) (in_more t d)
        (λ n there. elim (or_cases (n == number) (has old.space.acks.ranges n) (and_parts (nat_le a.accepted.bound n) (n == number || has old.space.acks.ranges n) (sym (a.accepted.joined.numbers n) ∙ (rw ranges at there))).1) [
          | inl this ↦ come_on old new (handed_in u) (handed_in u) n goes (λ d is. is) (subst (λ (m : ℕ). HasComeWith old (handed_in u) m) (sym (eqb-true n number this)) (number_came old t d number bytes a.surveyed.frames opened a.surveyed.are))
          | inr before ↦ come_on old new (handed_in t) (handed_in u) n goes (in_more t d) (p.acks n before)
        ]) p

    unmoved : (old new : Inner S) (t : List Act) (d : List ℕ) → IsQuietStep old new → IsOver old ⊎ Announced old t → IsOver new ⊎ Announced new (t ++ HandedIn d ∷ [])
    unmoved old new t d step p = stands_on old new t (t ++ HandedIn d ∷ []) step (same_out t (HandedIn d ∷ []) refl) (in_more t d) p

    handled_stands : (now : Moment) (number : ℕ) (bytes d : List ℕ) (old new : Inner S) (t : List Act) → is_open old.state ≡ true → IsOpenedBy accepts old d number bytes → IsPacketHandled now number bytes old new
        → IsOver old ⊎ Announced old t → IsOver new ⊎ Announced new (t ++ HandedIn d ∷ [])
    handled_stands now number bytes d old new t up opened (repeated is e) p = unmoved old new t d (same_step old new e) p
    handled_stands now number bytes d old new t up opened (empty fault is no_byte says f) p = unmoved old new t d (closes_step now f.reason _ old new up f.closed) p
    handled_stands now number bytes d old new t up opened (faulty fault kind is at says f) p = unmoved old new t d (closes_step now f.reason _ old new up f.closed) p
    handled_stands now number bytes d old new t up opened (unnoted fault eliciting is read at f) p = unmoved old new t d (closes_step now f.reason _ old new up f.closed) p
    handled_stands now number bytes d old new t up opened (taken is a) (inl over) = absurd (drained_open old.state over.1 up)
    handled_stands now number bytes d old new t up opened (taken is a) (inr p) = inr (packet_stands now number bytes d old new t up opened a p)

    -- the connection was closed, and goes on so
    closed_step : (old new : Inner S) (before after : State) → old.state ≡ before → (before ≡ Drained → ⊥) → new ≡ record old { state = after } → is_open after ≡ false → IsQuietStep old new
    closed_step old new before after is other e shut = ended_step old new after None (ap (λ (c : Inner S). c.side) e) (ap (λ (c : Inner S). c.local_id) e) (ap (λ (c : Inner S). length c.remote_id) e) (ap (λ (c : Inner S). c.config) e) (ap (λ (c : Inner S). c.space) e)
        (ap (λ (c : Inner S). c.state) e) shut (λ over. absurd (other (sym is ∙ over.1)))

    datagram_stands : (now : Moment) (d : List ℕ) (old new : Inner S) (t : List Act) → IsDatagramTaken accepts now d old new → IsOver old ⊎ Announced old t → IsOver new ⊎ Announced new (t ++ HandedIn d ∷ [])
    datagram_stands now d old new t (dropped up none e) p = unmoved old new t d (same_step old new e) p
    datagram_stands now d old new t (handled number bytes up opened h) p = handled_stands now number bytes d old new t up opened h p
    datagram_stands now d old new t (told_again reason is_due until is none e) p = unmoved old new t d (closed_step old new (Closed reason is_due until) (Closed reason true until) is (λ same. cc) e refl) p
    datagram_stands now d old new t (closed_too reason is_due until is brings e) p = unmoved old new t d (closed_step old new (Closed reason is_due until) (Draining until) is (λ same. cc) e refl) p
    datagram_stands now d old new t (draining until is e) p = unmoved old new t d (same_step old new e) p
    datagram_stands now d old new t (drained is e) p = unmoved old new t d (same_step old new e) p

    -- what is counted doesn't matter here
    counted_step : (old : Inner S) (event : ConnectionEvent) → IsQuietStep old (received event old)
    counted_step old (Datagram now remote payload) = streams_step old (received (Datagram now remote payload) old) old.space.streams (same_go old.space.streams) refl refl refl refl refl refl refl
    counted_step old (Close now code reason) = same_step old old refl

    closes_stands : (up : Bool) (now : Moment) (reason : CloseReason) (old new : Inner S) (t : List Act) → is_open old.state ≡ up → MatchBool up (IsClosedWith now reason LocallyClosed old new) (new ≡ old)
        → IsOver old ⊎ Announced old t → IsOver new ⊎ Announced new t
    closes_stands true now reason old new t up c p = stands_on old new t t (closes_step now reason LocallyClosed old new up c) refl (λ d is. is) p
    closes_stands false now reason old new t up e p = stands_on old new t t (same_step old new e) refl (λ d is. is) p

    pub event_stands : (event : ConnectionEvent) (old new : Inner S) (t : List Act) → IsEventTaken accepts event old new → HasAnnounced old t → HasAnnounced new (t ++ event_acts event)
    unfolding HasAnnounced
    event_stands (Datagram now remote payload) old new t came p =
        let c : Inner S = received (Datagram now remote payload) old in
        datagram_stands now payload c new t came (stands_on old c t t (counted_step old (Datagram now remote payload)) refl (λ d is. is) p)
    event_stands (Close now code reason) old new t came p =
        subst (λ (u : List Act). IsOver new ⊎ Announced new u) (sym (append-nil t)) (closes_stands (is_open old.state) now _ old new t refl came p)
