-- How an attempt is accepted, or isn't.
use Rattle.std.proofs.Common.{◌≡◌, ◌⊎◌, inl, inr, ℕ, true, List, [], ◌∷◌, ◌++◌, length, Option, Some, None, Result, Ok, Err, IfOk, IfErr, OnOk, OnErr, refl, sym, ap, ◌∙◌, subst}
use Rattle.std.specs.Option.{unwrap_or}
use Rattle.qh_attempts.specs.declared.attempt.KeptDatagram.{KeptDatagram}
use Rattle.qh_base.specs.declared.connection_error.ConnectionError.TheVariants.{CidsExhausted, Memory}
use Rattle.qh_base.specs.declared.memory.Memory.{Memory as Want}
use Rattle.qh_base.specs.declared.path.Transmit.{Transmit}
use Rattle.qh_base.specs.declared.time.Moment.{Moment}
use Rattle.qh_conn.specs.Incoming.{IsDatagramHandled, IsOver, counted_at}
use Rattle.qh_conn.specs.Unread.{HasFailed, IsOverOf, IsUnread}
use Rattle.qh_conn.specs.declared.connection.Connection.{Connection}
use Rattle.qh_connections.specs.Connections.{AreExhausted, IsConnectionAdded, IsConnectionRemoved, meta_at}
use Rattle.qh_connections.specs.Ids.{AreNoneFresh}
use Rattle.qh_control.specs.declared.event.EndpointEvent.{EndpointEvent}
use Rattle.qh_core.specs.Inner.{is_open}
use Rattle.qh_endpoint.specs.Accepting.{AreHanded, IsAccepted, IsAdmitted, IsCutOff, IsHanded, IsLost, IsNotAccepted, IsReady, IsStale, IsWelcome, exhausted, failed, more, none, none_fresh, settings_of, unanswered, unclosed}
use Rattle.qh_endpoint.specs.Closed.{IsClosed, IsClosedFrom, IsUnclosed, refused, reply_to}
use Rattle.qh_endpoint.specs.Endpoint.{PlainEndpoint}
use Rattle.qh_endpoint.specs.declared.accepting.AcceptError.{AcceptError}
use Rattle.qh_endpoint.specs.declared.incoming.Waiting.{Waiting}
use Rattle.qh_handshake.specs.Incoming.{SessionView}
use Rattle.qh_kit.specs.declared.config.ServerConfig.{ServerConfig}
use Rattle.qh_routes.specs.ConnectionMeta.{PlainMeta}
use Rattle.qh_routes.specs.Routes.{issued_count}
use Rattle.qh_routes.specs.declared.connection_handle.ConnectionHandle.{ConnectionHandle}
use Rattle.qh_spec.specs.declared.sides.Side.TheVariants.{Server}

module _ {K G R T S : Type 0} (cid_len : G → ℕ) (validates : G → List ℕ → Type 0) (given : G → List (List ℕ)) (v : SessionView S) (server : ServerConfig) (w : Waiting) (now : Moment) where
  abbrev pub NotAccepted : (old new : PlainEndpoint K G R T) (written : List ℕ) → AcceptError → Type 0
  NotAccepted old new written e = IsNotAccepted cid_len validates given v server w now old new written e

  -- what was answered where ids are exhausted
  pub exhausted_of : (sent : Result Transmit Want) (e : AcceptError) (old new : PlainEndpoint K G R T) (written : List ℕ)
      → IfOk sent (λ t. e ≡ record { cause = CidsExhausted; response = Some t }) → IfErr sent (λ x. e ≡ record { cause = Memory; response = None })
      → (IsStale server w now → ⊥) → AreExhausted (cid_len old.connections.ids) (issued_count old.connections.routes)
      → OnOk sent (IsClosed {S = S} cid_len validates given v.key v.sealed w.first.destination w.first.source refused old new written) → IfOk sent (λ t. t ≡ reply_to w.addresses (length written)) → OnErr sent (IsUnclosed given old new written)
      → NotAccepted old new written e
  exhausted_of (Ok t) e old new written is is_err fresh full closed transmit left =
      subst (λ (z : AcceptError). NotAccepted old new written z) (sym (is ∙ ap (λ (z : Transmit). record { cause = CidsExhausted; response = Some z }) transmit)) (exhausted fresh full closed)
  exhausted_of (Err x) e old new written is is_err fresh full closed transmit left =
      subst (λ (z : AcceptError). NotAccepted old new written z) (sym is_err)
      (unclosed fresh full left)

  -- where no id is fresh
  pub none_fresh_of : (sent : Result Transmit Want) (e : AcceptError) (old mid new : PlainEndpoint K G R T) (written : List ℕ) (session : S)
      → IfOk sent (λ t. e ≡ record { cause = CidsExhausted; response = Some t }) → IfErr sent (λ x. e ≡ record { cause = Memory; response = None })
      → IsWelcome cid_len validates given v server w now old session → AreNoneFresh old.connections.routes (given old.connections.ids) (given mid.connections.ids)
      → mid ≡ record old { kit = mid.kit; connections = record old.connections { ids = mid.connections.ids } }
      → OnOk sent (IsClosedFrom {S = S} cid_len validates given v.key v.sealed w.first.destination w.first.destination w.first.source refused mid new written) → IfOk sent (λ t. t ≡ reply_to w.addresses (length written)) → OnErr sent (written ≡ [])
      → new ≡ record mid { kit = new.kit } → NotAccepted old new written e
  none_fresh_of (Ok t) e old mid new written session is is_err welcome no_id mid_is closed transmit unwritten rest =
      subst (λ (z : AcceptError). NotAccepted old new written z) (sym (is ∙ ap (λ (z : Transmit). record { cause = CidsExhausted; response = Some z }) transmit)) (none_fresh mid session welcome no_id mid_is closed)
  none_fresh_of (Err x) e old mid new written session is is_err welcome no_id mid_is closed transmit unwritten rest =
      subst (λ (z : AcceptError). NotAccepted old new written z) (sym is_err) (unanswered mid session welcome no_id mid_is rest unwritten)

  module _ (old mid after : PlainEndpoint K G R T) (local_id : List ℕ) (handle : ConnectionHandle) (before : Connection S) (session : S) (admitted : IsAdmitted cid_len validates given v server w now old mid local_id session)
      (added : IsConnectionAdded mid.connections after.connections handle Server w.first.destination local_id w.addresses) (ids : after.connections.ids ≡ mid.connections.ids) (rest : after ≡ record mid { connections = after.connections })
      (ready : IsReady v server w local_id session before) where
    pub accepted_of : (new : PlainEndpoint K G R T) (datagrams : List KeptDatagram) (made : ConnectionHandle) (connection : Connection S)
        → (made ≡ handle) × (first : Connection S) × IsHanded v w.received_at w.datagram before first × (first.core.error ≡ None) × AreHanded v datagrams first connection → new ≡ after
        → IsAccepted cid_len validates given v server w now datagrams old new made connection
    accepted_of new datagrams made connection (same, first, handed, lives, others) is =
        subst (λ (z : PlainEndpoint K G R T). IsAccepted cid_len validates given v server w now datagrams old z made connection) (sym is)
        (record {
          local_id = local_id;
          mid = mid;
          session = session;
          admitted = admitted;
          added = subst (λ (z : ConnectionHandle). IsConnectionAdded mid.connections after.connections z Server w.first.destination local_id w.addresses) (sym same) added;
          first = first;
          begun = record { before = before; ready = ready; handed = handed };
          lives = lives;
          handed = others;
          rest = rest;
          ids = ids;
        })

    pub failed_of : (new : PlainEndpoint K G R T) (written : List ℕ) (e : AcceptError)
        → ((m : PlainMeta) → meta_at after.connections handle ≡ Some m → (first : Connection S) × (gone : PlainEndpoint K G R T) × IsHanded v w.received_at w.datagram before first
        × IsConnectionRemoved after.connections gone.connections handle m × (gone.connections.ids ≡ after.connections.ids) × (gone ≡ record after { connections = gone.connections })
        × IsLost cid_len validates given v w first gone new written e)
        → NotAccepted old new written e
    failed_of new written e lost =
        let is = lost _ added.meta.there in
        let gone = is.1 in
        failed local_id session mid gone is.0 e admitted (record { before = before; ready = ready; handed = is.2 })
        (record { handle = handle; between = after.connections; meta = _; added = added; removed = is.3 }) (is.4 ∙ ids)
        (subst (λ (z : PlainEndpoint K G R T). gone ≡ record z { connections = gone.connections }) rest is.5) is.6

-- a datagram was taken, or memory was wanting for it
pub taken_or_cut : {S A E : Type 0} (v : SessionView S) (now : Moment) (datagram : List ℕ) (old new : Connection S) (r : Result A E) → OnOk r (IsDatagramHandled v now datagram old new)
    → OnErr r (is_open old.core.state ≡ true) → OnErr r (IsOver new) → OnErr r ((told : List EndpointEvent) × IsOverOf told (counted_at (length datagram) old) new) → OnErr r ((mid : Connection S) × IsUnread v now datagram (counted_at (length datagram) old) mid × HasFailed mid new)
    → IsDatagramHandled v now datagram old new ⊎ IsCutOff v now datagram old new
taken_or_cut v now datagram old new (Ok a) ok wanting err same unread = inl ok
taken_or_cut v now datagram old new (Err x) ok wanting err same unread = inr (record { was_open = wanting; over = err; same_end = same; mid = unread.0; unread = unread.1; failed = unread.2 })

-- one more is handed in behind the others
pub handed_push : {S : Type 0} (v : SessionView S) (ds : List KeptDatagram) (d : KeptDatagram) (a c e : Connection S) → AreHanded v ds a c → IsHanded v d.now d.payload c e → AreHanded v (ds ++ d ∷ []) a e
handed_push v [] d a c e (none x) h = more d [] a e e h (none e)
handed_push v (x ∷ xs) d a c e (more x' xs' a' mid c' first rest) h = more x (xs ++ d ∷ []) a mid e first (handed_push v xs d mid c e rest h)

-- the settings that are used
pub settings_are : (o : Option ServerConfig) (w : Waiting) → unwrap_or o w.server ≡ settings_of o w
settings_are None w = refl
settings_are (Some server) w = refl
