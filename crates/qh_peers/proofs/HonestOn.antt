-- How an honest end goes on.
use Rattle.std.proofs.Common.{◌≡◌, ℕ, ◌≤◌, ◌^◌, min, true, false, List, [], ◌∷◌, ◌++◌, length, drop, IfSome, refl, sym, ap, subst, ◌∙◌}
use Rattle.std.specs.Option.{option_map}
use Rattle.qh_base.specs.declared.shared.ResetToken.{ResetToken}
use Rattle.qh_base.specs.declared.path.Transmit.{Transmit}
use Rattle.qh_base.specs.declared.time.Moment.{Moment}
use Rattle.qh_conn.specs.Incoming.{AreIdsIssued}
use Rattle.qh_conn.specs.Outgoing.{IsStill, IsTransmitted}
use Rattle.qh_conn.specs.Whole.{IsWhole, Stands}
use Rattle.qh_conn.specs.declared.config.ConnConfig.{ConnConfig}
use Rattle.qh_conn.specs.declared.connection.Connection.{Connection}
use Rattle.qh_control.specs.declared.control.ControlState.{ControlState}
use Rattle.qh_control.specs.declared.event.IssuedCid.{IssuedCid}
use Rattle.qh_converse.specs.Settled.{milliseconds, peer_limits}
use Rattle.qh_core.specs.Config.{peer_of}
use Rattle.qh_core.specs.Inner.{is_open, with_streams}
use Rattle.qh_core.specs.Made.{AcceptsTags, MakesTagsOf}
use Rattle.qh_core.specs.declared.config.ConnConfig.{ConnConfig as CoreConfig}
use Rattle.qh_core.specs.declared.inner.Inner.{Inner}
use Rattle.qh_core.specs.declared.state.State.{State}
use Rattle.qh_handshake.proofs.NoCloses.{made_silent}
use Rattle.qh_handshake.specs.Handshake.{IsHandshake}
use Rattle.qh_handshake.specs.Sends.{NeverCloses}
use Rattle.qh_handshake.specs.declared.handshake.Handshake.{Handshake}
use Rattle.qh_packet.specs.Session.{MakesTags, SealsTag}
use Rattle.qh_peers.proofs.HonestSteps.{IsAsOpen, data_sent, short_silent}
use Rattle.qh_peers.specs.Ends.{IsHonestEnd, SaysItsOwn}
use Rattle.qh_peers.specs.Ids.{HasSameIds, KeepsFewIds}
use Rattle.qh_spec.specs.Transcript.{Act, HandedOut}
use Rattle.qh_spec.specs.declared.sides.Side.{Side}
use Rattle.qh_token.specs.Reset.{reset_token_of}

module _ {S : Type 0} where
  -- ---- a datagram that is handed out

  pub record IsSentOn (old new : Connection S) (t : List Act) (d : List ℕ) : Type 0 where
    pub as_open : IsAsOpen old.core new.core
    pub silent : NeverCloses old.core.side (t ++ HandedOut d ∷ [])

  pub sent_on : (sealed : SealsTag) (now : Moment) (old new : Connection S) (before after : List ℕ) (transmit : Transmit) (t : List Act) → MakesTags sealed → old.core.side ≡ old.handshake.side → IsHandshake old.handshake
      → is_open old.core.state ≡ true → IsTransmitted sealed now old new before after transmit → NeverCloses old.core.side t → IsSentOn old new t (drop (length before) after)
  sent_on sealed now old new before after transmit t makes side whole up (IsTransmitted.initial _ made is _) never = record {
    as_open = record { up = ap (λ (z : Connection S). is_open z.core.state) is ∙ up; error = ap (λ (z : Connection S). z.core.error) is };
    silent = subst (λ (s : Side). NeverCloses s (t ++ HandedOut (drop (length before) after) ∷ [])) (sym side)
        (made_silent sealed now before after old.handshake new.handshake transmit.size t makes whole made (subst (λ (s : Side). NeverCloses s t) side never));
  }
  sent_on sealed now old new before after transmit t makes side whole up (IsTransmitted.close _ _ _ _ was _ _ _ _) never = let z : true ≡ false = sym up ∙ ap (λ (z : State). is_open z) was in cc
  sent_on sealed now old new before after transmit t makes side whole up (IsTransmitted.data_packet _ _ sent) never =
      let s = data_sent sealed now old new before after transmit up sent in
      record { as_open = s.as_open; silent = short_silent old.core.side t (drop (length before) after) s.short never }

  -- ---- what nothing changes but the queue, or the streams

  pub queue_says : (c new : Connection S) → IsStill c new → SaysItsOwn c → SaysItsOwn new
  queue_says c new s w = subst (λ (z : Connection S). SaysItsOwn z) (sym s.rest_is) (record { fits = w.fits; limits = w.limits; datagrams = w.datagrams; idle = w.idle; ids = w.ids; token = w.token })

  pub queue_open : (c new : Connection S) → IsStill c new → is_open c.core.state ≡ true → IsAsOpen c.core new.core
  queue_open c new s up = record { up = ap (λ (z : Connection S). is_open z.core.state) s.rest_is ∙ up; error = ap (λ (z : Connection S). z.core.error) s.rest_is }

  pub control_says : (c new : Connection S) (control : ControlState) → new ≡ record c { control = control } → SaysItsOwn c → SaysItsOwn new
  control_says c new control is w =
      subst (λ (z : Connection S). SaysItsOwn z) (sym is) (record { fits = w.fits; limits = w.limits; datagrams = w.datagrams; idle = w.idle; ids = w.ids; token = w.token })

  -- by its config, its hello and the config of its 1-RTT packets
  pub kept_says : (c new : Connection S) → new.config ≡ c.config → new.handshake ≡ c.handshake → new.core.config ≡ c.core.config → SaysItsOwn c → SaysItsOwn new
  kept_says c new config shake core w = record {
    fits = subst (λ (z : CoreConfig). (z.limits.max_bidi ≤ 2 ^ 60) × (z.limits.max_uni ≤ 2 ^ 60)) (sym core) w.fits;
    limits = ap (λ (h : Handshake). peer_limits h.parameters) shake ∙ w.limits ∙ ap (λ (z : CoreConfig). peer_of z.limits) (sym core);
    datagrams = ap (λ (h : Handshake). h.parameters.max_datagram_frame_size) shake ∙ w.datagrams ∙ ap (λ (z : CoreConfig). option_map (λ (most : ℕ). min most 1200) z.datagram_receive) (sym core);
    idle = ap (λ (h : Handshake). h.parameters.max_idle_timeout) shake ∙ w.idle ∙ ap (λ (z : ConnConfig). milliseconds z.idle) (sym config);
    ids = ap (λ (h : Handshake). h.parameters.active_connection_id_limit) shake ∙ w.ids;
    token = subst (λ (h : Handshake). IfSome h.parameters.stateless_reset_token (λ (k : ResetToken). k.0 ≡ reset_token_of h.local_id)) (sym shake) w.token;
  }

  pub issued_open : (ids : List IssuedCid) (c new : Connection S) → AreIdsIssued ids c new → is_open c.core.state ≡ true → IsAsOpen c.core new.core
  issued_open ids c new (AreIdsIssued.announced _ e) up = record { up = ap (λ (z : Connection S). is_open z.core.state) e ∙ up; error = ap (λ (z : Connection S). z.core.error) e }
  issued_open ids c new (AreIdsIssued.late _ e) up = record { up = ap (λ (z : Connection S). is_open z.core.state) e ∙ up; error = ap (λ (z : Connection S). z.core.error) e }

  pub streams_says : (c : Connection S) (core : Inner S) → core ≡ with_streams c.core core.space.streams → SaysItsOwn c → SaysItsOwn (record c { core = core })
  streams_says c core is w =
      subst (λ (z : Inner S). SaysItsOwn (record c { core = z })) (sym is) (record { fits = w.fits; limits = w.limits; datagrams = w.datagrams; idle = w.idle; ids = w.ids; token = w.token })

  -- it stays whole
  pub streams_whole : (c : Connection S) (core : Inner S) → core ≡ with_streams c.core core.space.streams → IsWhole c → IsWhole (record c { core = core })
  streams_whole c core is w = subst (λ (z : Inner S). IsWhole (record c { core = z })) (sym is) (record {
    sound = record { handshake = w.sound.handshake; side_is = w.sound.side_is; id_is = w.sound.id_is; as_long = w.sound.as_long; sendable = w.sound.sendable; ungreeted = w.sound.ungreeted; connected = w.sound.connected };
    current = w.current;
    client = w.client;
  })

  pub streams_open : (c : Connection S) (core : Inner S) → core ≡ with_streams c.core core.space.streams → is_open c.core.state ≡ true → IsAsOpen c.core core
  streams_open c core is up = record { up = ap (λ (z : Inner S). is_open z.state) is ∙ up; error = ap (λ (z : Inner S). z.error) is }

  pub streams_ids : (c : Connection S) (core : Inner S) → core ≡ with_streams c.core core.space.streams → HasSameIds c (record c { core = core })
  streams_ids c core is = record {
    greeted = λ known. known;
    side = ap (λ (z : Inner S). z.side) is;
    local_id = ap (λ (z : Inner S). z.local_id) is;
    remote_length = ap (λ (z : Inner S). length z.remote_id) is;
    state = ap (λ (z : Inner S). z.state) is;
    ids = refl;
    own_ids = refl;
    id_limit = refl;
    waiting = refl;
    sent = refl;
  }

module _ {S : Type 0} (accepts : AcceptsTags S) (sealed : MakesTagsOf S) where
  pub honest : (hello : List ℕ) (c new : Connection S) (t u : List Act) → IsHonestEnd accepts sealed hello c t → IsWhole new → Stands accepts sealed hello new u → SaysItsOwn new → KeepsFewIds new u
      → NeverCloses c.core.side u → new.core.side ≡ c.core.side → IsAsOpen c.core new.core → IsHonestEnd accepts sealed hello new u
  honest hello c new t u h whole stands says few silent side a = record {
    whole = whole;
    stands = stands;
    says = says;
    few = few;
    silent = subst (λ (s : Side). NeverCloses s u) (sym side) silent;
    up = a.up;
    not_lost = a.error ∙ h.not_lost;
  }
