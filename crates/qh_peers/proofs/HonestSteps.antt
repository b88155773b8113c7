-- An honest end that is open stays so by what is done with it beside handing in a datagram.
use Rattle.std.proofs.Common.{◌≡◌, ◌≤◌, ◌^◌, ℕ, min, true, false, List, [], ◌∷◌, ◌++◌, length, drop, Option, None, Some, refl, sym, ap, subst, ◌∙◌, inl, inr, append-nil}
use Rattle.std.specs.Option.{option_map}
use Rattle.std.specs.Prelude.{IfSome}
use Rattle.std.proofs.Math.Nat.{min-eq_left}
use Rattle.qh_base.specs.declared.path.Transmit.{Transmit}
use Rattle.qh_base.specs.declared.shared.ResetToken.{ResetToken}
use Rattle.qh_base.specs.declared.time.Moment.{Moment}
use Rattle.qh_conn.specs.Items.{streams_taken}
use Rattle.qh_conn.specs.Outgoing.{IsDataTransmitted}
use Rattle.qh_conn.specs.Parameters.{IsSaid, parameters_of, token_if_server, with_key}
use Rattle.qh_conn.specs.Same.{IsSameConnection}
use Rattle.qh_conn.specs.Telling.{IsEndpointTold, IsTold}
use Rattle.qh_conn.specs.declared.config.ConnConfig.{ConnConfig}
use Rattle.qh_conn.specs.declared.connection.Connection.{Connection}
use Rattle.qh_conn.specs.declared.event.Event.{Event}
use Rattle.qh_control.specs.declared.event.EndpointEvent.{EndpointEvent}
use Rattle.qh_control.specs.declared.items.ConnectionItem.{ConnectionItem}
use Rattle.qh_converse.proofs.ShortDatagrams.{short_made}
use Rattle.qh_converse.specs.Settled.{milliseconds, peer_limits}
use Rattle.qh_core.specs.Config.{bounded, peer_of}
use Rattle.qh_core.specs.Event.{IsDrainedTold, IsPolledEvent}
use Rattle.qh_core.specs.Inner.{is_open}
use Rattle.qh_core.specs.Sending.{AreFramesMade, IsDatagramMade}
use Rattle.qh_core.specs.Timers.{IsTimedOut as IsCoreTimedOut}
use Rattle.qh_core.specs.declared.event.EndpointEvent.{EndpointEvent as CoreEndpointEvent}
use Rattle.qh_core.specs.declared.event.Event.{Event as CoreEvent}
use Rattle.qh_core.specs.declared.inner.Inner.{Inner}
use Rattle.qh_core.specs.declared.state.State.{State}
use Rattle.qh_handshake.proofs.NoCloses.{fewer_silent}
use Rattle.qh_handshake.specs.Sends.{NeverCloses}
use Rattle.qh_hello.specs.declared.transport_parameters.TransportParameters.{TransportParameters}
use Rattle.qh_packet.specs.Session.{SealsTag}
use Rattle.qh_peers.proofs.EndGreeted.{short_no_initial}
use Rattle.qh_peers.specs.Ends.{SaysItsOwn}
use Rattle.qh_spec.proofs.Members.{in_split}
use Rattle.qh_spec.proofs.TranscriptLaws.{handed_out-append}
use Rattle.qh_spec.specs.Lists.{In}
use Rattle.qh_spec.specs.Parted.{IsShort}
use Rattle.qh_spec.specs.Transcript.{Act, HandedOut, handed_out}
use Rattle.qh_spec.specs.declared.sides.Side.{Side}
use Rattle.qh_spec.specs.declared.sides.Side.TheVariants.{Client, Server}
use Rattle.qh_streams.specs.declared.frames.PeerLimits.{PeerLimits}
use Rattle.qh_streams.specs.declared.frames.StreamLimits.{StreamLimits}
use Rattle.qh_token.specs.Reset.{reset_token_of}

-- ---- what it says

module _ {S : Type 0} (key : S → List ℕ) where
  pub says_on : (old new : Connection S) → IsSameConnection key old new → SaysItsOwn old → SaysItsOwn new
  says_on old new s w = record {
    fits = subst (λ (l : StreamLimits). (l.max_bidi ≤ 2 ^ 60) × (l.max_uni ≤ 2 ^ 60)) (sym s.limits) w.fits;
    limits = ap peer_limits s.handshake.parameters ∙ w.limits ∙ ap peer_of (sym s.limits);
    datagrams = ap (λ (p : TransportParameters). p.max_datagram_frame_size) s.handshake.parameters ∙ w.datagrams ∙ ap (option_map (λ (most : ℕ). min most 1200)) (sym s.receives);
    idle = ap (λ (p : TransportParameters). p.max_idle_timeout) s.handshake.parameters ∙ w.idle ∙ ap (λ (c : ConnConfig). milliseconds c.idle) (sym s.config);
    ids = ap (λ (p : TransportParameters). p.active_connection_id_limit) s.handshake.parameters ∙ w.ids;
    token = subst (λ (id : List ℕ). IfSome new.handshake.parameters.stateless_reset_token (λ (k : ResetToken). k.0 ≡ reset_token_of id)) (sym s.handshake.local_id)
        (subst (λ (p : TransportParameters). IfSome p.stateless_reset_token (λ (k : ResetToken). k.0 ≡ reset_token_of old.handshake.local_id)) (sym s.handshake.parameters) w.token);
  }

with_key_says : (side : Side) (key_id : List ℕ) (p : TransportParameters) → (peer_limits (with_key side key_id p) ≡ peer_limits p) × ((with_key side key_id p).max_datagram_frame_size ≡ p.max_datagram_frame_size)
    × ((with_key side key_id p).max_idle_timeout ≡ p.max_idle_timeout) × ((with_key side key_id p).stateless_reset_token ≡ p.stateless_reset_token)
    × ((with_key side key_id p).active_connection_id_limit ≡ p.active_connection_id_limit)
with_key_says Client key_id p = (refl, refl, refl, refl, refl)
with_key_says Server key_id p = (refl, refl, refl, refl, refl)

token_of : (side : Side) (token : ResetToken) (id : List ℕ) → token.0 ≡ reset_token_of id → IfSome (token_if_server side token) (λ (k : ResetToken). k.0 ≡ reset_token_of id)
token_of Client token id is = tt
token_of Server token id is = is

-- its limits with these counts of streams
abbrev with_counts : StreamLimits → (max_bidi max_uni : ℕ) → PeerLimits
with_counts l max_bidi max_uni = record { max_data = bounded l.receive_window; bidi_local = bounded l.stream_window; bidi_remote = bounded l.stream_window; uni = bounded l.stream_window; max_bidi = max_bidi; max_uni = max_uni }

counted_limits : (c : ConnConfig) (side : Side) (id : List ℕ) (token : ResetToken) → (c.limits.max_bidi ≤ 2 ^ 60) × (c.limits.max_uni ≤ 2 ^ 60) → peer_limits (parameters_of c side id token) ≡ peer_of c.limits
counted_limits c side id token fits =
    ap (λ (n : ℕ). with_counts c.limits n (min c.limits.max_uni (2 ^ 60))) (min-eq_left fits.0) ∙ ap (λ (n : ℕ). with_counts c.limits c.limits.max_bidi n) (min-eq_left fits.1)

module _ {S : Type 0} where
  pub says_what : (config : ConnConfig) (side : Side) (key_id : List ℕ) (c : Connection S) → IsSaid config side c.handshake.local_id key_id c.handshake.parameters → c.config ≡ config → c.core.config.limits ≡ config.limits
      → c.core.config.datagram_receive ≡ config.datagram_receive → (config.limits.max_bidi ≤ 2 ^ 60) × (config.limits.max_uni ≤ 2 ^ 60) → SaysItsOwn c
  says_what config side key_id c s is limits receives fits =
      let own = parameters_of config side c.handshake.local_id s.token in
      let w = with_key_says side key_id own in
      record {
        fits = subst (λ (l : StreamLimits). (l.max_bidi ≤ 2 ^ 60) × (l.max_uni ≤ 2 ^ 60)) (sym limits) fits;
        limits = ap peer_limits s.is ∙ w.0 ∙ counted_limits config side c.handshake.local_id s.token fits ∙ ap peer_of (sym limits);
        datagrams = ap (λ (p : TransportParameters). p.max_datagram_frame_size) s.is ∙ w.1 ∙ ap (option_map (λ (most : ℕ). min most 1200)) (sym receives);
        idle = ap (λ (p : TransportParameters). p.max_idle_timeout) s.is ∙ w.2 ∙ ap (λ (z : ConnConfig). milliseconds z.idle) (sym is);
        ids = ap (λ (p : TransportParameters). p.active_connection_id_limit) s.is ∙ w.4;
        token = subst (λ (o : Option ResetToken). IfSome o (λ (k : ResetToken). k.0 ≡ reset_token_of c.handshake.local_id)) (sym (ap (λ (p : TransportParameters). p.stateless_reset_token) s.is ∙ w.3))
            (token_of side s.token c.handshake.local_id s.token_is);
      }

-- ---- what it closes

-- a datagram with a short header says no close of the handshake
pub short_silent : (side : Side) (t : List Act) (d : List ℕ) → IsShort d → NeverCloses side t → NeverCloses side (t ++ HandedOut d ∷ [])
short_silent side t d short never id_length f has closes =
    elim (in_split has.of.datagram (handed_out t) (d ∷ []) (subst (λ (z : List (List ℕ)). In has.of.datagram z) (handed_out-append t (HandedOut d ∷ [])) has.of.among)) [
      | inl before ↦ never id_length f (record {
        of = record { datagram = has.of.datagram; among = before; packet = has.of.packet; has = has.of.has; space_is = has.of.space_is; sender_is = has.of.sender_is };
        frame_among = has.frame_among;
      }) closes
      | inr (inl same) ↦ short_no_initial id_length has.of.packet has.of.datagram (subst (λ (z : List ℕ). IsShort z) same short) has.of.has has.of.space_is
      | inr (inr none) ↦ none
    ]

pub same_silent : (side : Side) (t acts : List Act) → handed_out acts ≡ [] → NeverCloses side t → NeverCloses side (t ++ acts)
same_silent side t acts quiet never =
    let same : handed_out (t ++ acts) ≡ handed_out t = handed_out-append t acts ∙ ap (λ (z : List (List ℕ)). handed_out t ++ z) quiet ∙ append-nil (handed_out t) in
    fewer_silent side t (t ++ acts) (λ d is. subst (λ (z : List (List ℕ)). In d z) same is) never

-- ---- whether it is open, and why it isn't

module _ {S : Type 0} where
  pub record IsAsOpen (old new : Inner S) : Type 0 where
    pub up : is_open new.state ≡ true
    pub error : new.error ≡ old.error

  as_open : (old new to : Inner S) → new ≡ to → is_open to.state ≡ true → to.error ≡ old.error → IsAsOpen old new
  as_open old new to is up same = record { up = ap (λ (z : Inner S). is_open z.state) is ∙ up; error = ap (λ (z : Inner S). z.error) is ∙ same }

  frames_as : (now : Moment) (old new : Inner S) (before frames : List ℕ) → is_open old.state ≡ true → AreFramesMade now old new before frames → IsAsOpen old new
  frames_as now old new before frames up (AreFramesMade.packet _ _ is) = as_open old new _ is up refl
  frames_as now old new before frames up (AreFramesMade.control _ _ is) = as_open old new _ is up refl
  frames_as now old new before frames up (AreFramesMade.close _ _ was _ _) = let z : true ≡ false = sym up ∙ ap (λ (z : State). is_open z) was in cc

  made_as : (sealed : SealsTag) (now : Moment) (old new : Inner S) (before after : List ℕ) (t : Transmit) → is_open old.state ≡ true → IsDatagramMade sealed now old new before after t → IsAsOpen old new
  made_as sealed now old new before after t up made = frames_as now old new _ made.bytes.frames up made.bytes.made

  taken_as : (log : Option (List ConnectionItem)) (old core : Inner S) → IsAsOpen old core → IsAsOpen old (streams_taken log core)
  taken_as None old core a = a
  taken_as (Some items) old core a = record { up = a.up; error = a.error }

  by_core : (old : Inner S) (new to : Connection S) → new ≡ to → IsAsOpen old to.core → IsAsOpen old new.core
  by_core old new to is a = subst (λ (z : Connection S). IsAsOpen old z.core) (sym is) a

  -- a datagram that is handed out
  pub record IsSentSo (old new : Connection S) (d : List ℕ) : Type 0 where
    pub as_open : IsAsOpen old.core new.core
    pub short : IsShort d

  pub data_sent : (sealed : SealsTag) (now : Moment) (old new : Connection S) (before after : List ℕ) (t : Transmit) → is_open old.core.state ≡ true → IsDataTransmitted sealed now old new before after t
      → IsSentSo old new (drop (length before) after)
  data_sent sealed now old new before after t up (IsDataTransmitted.of_core made _ _ is) =
      record { as_open = by_core old.core new _ is (made_as sealed now old.core new.core before after t up made); short = short_made sealed now old.core new.core before after t made }
  data_sent sealed now old new before after t up (IsDataTransmitted.control sent s _ _ _ is) =
      record { as_open = by_core old.core new _ is (made_as sealed now old.core new.core before after sent.transmit up s.made); short = short_made sealed now old.core new.core before after sent.transmit s.made }
  data_sent sealed now old new before after t up (IsDataTransmitted.datagrams sent frames core _ _ s _ _ is) =
      record {
        as_open = by_core old.core new _ is (taken_as old.control.log old.core core (made_as sealed now old.core core before after sent.transmit up s.made));
        short = short_made sealed now old.core core before after sent.transmit s.made;
      }

  -- ---- moments and events

  pub timed_as : (now : ℕ) (old new : Inner S) → is_open new.state ≡ true → IsCoreTimedOut now old new → IsAsOpen old new
  timed_as now old new up (IsCoreTimedOut.idle _ _ is) = let z : true ≡ false = sym up ∙ ap (λ (z : Inner S). is_open z.state) is in cc
  timed_as now old new up (IsCoreTimedOut.recovery _ _ _ _ _ is) = record { up = up; error = ap (λ (z : Inner S). z.error) is }
  timed_as now old new up (IsCoreTimedOut.closed _ _ _ _ _ is) = let z : true ≡ false = sym up ∙ ap (λ (z : Inner S). is_open z.state) is in cc
  timed_as now old new up (IsCoreTimedOut.draining _ _ _ is) = let z : true ≡ false = sym up ∙ ap (λ (z : Inner S). is_open z.state) is in cc
  timed_as now old new up (IsCoreTimedOut.waits _ _ _ is) = record { up = up; error = ap (λ (z : Inner S). z.error) is }
  timed_as now old new up (IsCoreTimedOut.drained _ is) = record { up = up; error = ap (λ (z : Inner S). z.error) is }

  polled_as : (old new : Inner S) (told : Option CoreEvent) → is_open old.state ≡ true → IsPolledEvent old new told → IsAsOpen old new
  polled_as old new _ up (IsPolledEvent.stream _ _ is) = as_open old new _ is up refl
  polled_as old new _ up (IsPolledEvent.lost _ _ _ _ _ is) = as_open old new _ is up refl
  polled_as old new _ up (IsPolledEvent.none _ _ is) = as_open old new _ is up refl

  pub told_as : (old new : Connection S) (told : Option Event) → is_open old.core.state ≡ true → IsTold old new told → IsAsOpen old.core new.core
  told_as old new _ up (IsTold.handshake_data _ is) = by_core old.core new _ is (record { up = up; error = refl })
  told_as old new _ up (IsTold.connected _ _ is) = by_core old.core new _ is (record { up = up; error = refl })
  told_as old new _ up (IsTold.received _ _ _ is) = by_core old.core new _ is (record { up = up; error = refl })
  told_as old new _ up (IsTold.unblocked _ _ _ _ is) = by_core old.core new _ is (record { up = up; error = refl })
  told_as old new _ up (IsTold.of_core told _ _ _ _ polled _) = polled_as old.core new.core told up polled

  drained_as : (old new : Inner S) (told : Option CoreEndpointEvent) → is_open old.state ≡ true → IsDrainedTold old new told → IsAsOpen old new
  drained_as old new _ up (IsDrainedTold.drained _ _ is) = as_open old new _ is up refl
  drained_as old new _ up (IsDrainedTold.none _ is) = as_open old new _ is up refl

  pub endpoint_as : (old new : Connection S) (told : Option EndpointEvent) → is_open old.core.state ≡ true → IsEndpointTold old new told → IsAsOpen old.core new.core
  endpoint_as old new _ up (IsEndpointTold.control _ _ is) = by_core old.core new _ is (record { up = up; error = refl })
  endpoint_as old new _ up (IsEndpointTold.of_core told _ drained _) = drained_as old.core new.core told up drained
