-- How an end that announces few ids stands as it goes on: what few ids depend on is the same, or it closed.
use Rattle.std.proofs.Common.{◌≡◌, ◌≢◌, ◌⊎◌, ℕ, ◌<◌, ◌^◌, Bool, true, false, List, [], ◌∷◌, ◌++◌, length, is_some, Option, Some, None, refl, sym, ap, subst, ◌∙◌, inl, inr, arith}
use Rattle.std.specs.Prelude.{MatchBool}
use Rattle.std.proofs.lemmas.Bool.{both_ways}
use Rattle.std.proofs.lemmas.List.{append-nil}
use Rattle.std.proofs.lemmas.List.Elements.{All-nil}
use Rattle.std.specs.declared.net.socket_addr.SocketAddr.{SocketAddr}
use Rattle.qh_base.specs.declared.time.Moment.{Moment}
use Rattle.qh_base.specs.declared.transport_error.TransportError.{TransportError}
use Rattle.qh_cids.specs.declared.cid_queue.RemoteCid.{RemoteCid}
use Rattle.qh_conn.specs.Incoming.{AreIdsIssued, IsCloseCalled}
use Rattle.qh_conn.specs.Outgoing.{IsStill}
use Rattle.qh_conn.specs.Parameters.{first_control}
use Rattle.qh_conn.specs.Telling.{IsEndpointTold, IsHandshakeTimed, IsTimedOut, IsTold}
use Rattle.qh_conn.specs.declared.config.ConnConfig.{ConnConfig}
use Rattle.qh_conn.specs.declared.connection.Connection.{Connection}
use Rattle.qh_conn.specs.declared.event.Event.{Event}
use Rattle.qh_control.specs.Control.{with_all_issued}
use Rattle.qh_control.specs.Queue.{AreLost, PlainQueue}
use Rattle.qh_control.specs.declared.control.ControlState.{ControlState}
use Rattle.qh_control.specs.declared.event.EndpointEvent.{EndpointEvent}
use Rattle.qh_control.specs.declared.event.IssuedCid.{IssuedCid}
use Rattle.qh_core.specs.Event.{IsDrainedTold, IsPolledEvent}
use Rattle.qh_core.specs.Inner.{is_open}
use Rattle.qh_core.specs.Receiving.{IsCloseOf, IsFaulted}
use Rattle.qh_core.specs.Timers.{IsTimedOut as IsCoreTimedOut}
use Rattle.qh_core.specs.declared.control.ControlFrame.TheVariants as sending
use Rattle.qh_core.specs.declared.event.EndpointEvent.{EndpointEvent as CoreEndpointEvent}
use Rattle.qh_core.specs.declared.event.Event.{Event as CoreEvent}
use Rattle.qh_core.specs.declared.inner.Inner.{Inner}
use Rattle.qh_core.specs.declared.state.Close.{Close}
use Rattle.qh_core.specs.declared.state.Close.TheVariants.{Application, Connection as OfTransport}
use Rattle.qh_core.specs.declared.state.State.{State}
use Rattle.qh_core.specs.declared.state.State.TheVariants.{Closed, Drained, Draining, Established}
use Rattle.qh_handshake.proofs.GoingOn.{timed_out_goes}
use Rattle.qh_handshake.specs.GoesOn.{GoesOn}
use Rattle.qh_handshake.specs.declared.handshake.Handshake.{Handshake}
use Rattle.qh_hello.specs.declared.transport_parameters.TransportParameters.{TransportParameters}
use Rattle.qh_peers.proofs.IdControls.{holds_queue, holds_same, issued_all, lost_holds, more_say}
use Rattle.qh_peers.proofs.IdFrames.{token_none}
use Rattle.qh_peers.specs.Ids.{HasCode, HasSameIds, HaveOwnTokens, HoldsFewIds, IsFewId, KeepsFewIds, SayFewIds}
use Rattle.qh_recovery.specs.SentPackets.{packet_at}
use Rattle.qh_spec.proofs.TranscriptLaws.{handed_out-append}
use Rattle.qh_spec.specs.Transcript.{Act, handed_out}
use Rattle.qh_spec.specs.declared.sides.Side.{Side}

-- ---- states

pub open_code : (s : State) → is_open s ≡ true → HasCode s
open_code Established up = tt
open_code (Closed reason is_due until) up = let z : false ≡ true = up in cc
open_code (Draining until) up = let z : false ≡ true = up in cc
open_code Drained up = let z : false ≡ true = up in cc

pub shut_open : (s : State) (P : Type 0) → is_open s ≡ false → is_open s ≡ true → P
shut_open s P shut up = absurd (both_ways (is_open s) shut up)

transport_code : (reason : Close) (is_due : Bool) (until : Moment) (e : TransportError) → IsCloseOf e reason → HasCode (Closed reason is_due until)
transport_code reason is_due until e is = subst (λ (r : Close). HasCode (Closed r is_due until)) (sym is.reason_is) tt

-- the same reason, whether it is to be said or not
pub said_again : (reason : Close) (first second : Bool) (until : Moment) → HasCode (Closed reason first until) → HasCode (Closed reason second until)
said_again (Application a) first second until code = code
said_again (OfTransport c) first second until code = tt

-- an end that was greeted still is
pub kept_greeted : (old new : Option TransportParameters) → ((p : TransportParameters) → old ≡ Some p → new ≡ Some p) → is_some old ≡ true → is_some new ≡ true
kept_greeted None new keeps was = let z : false ≡ true = was in cc
kept_greeted (Some p) new keeps was = ap is_some (keeps p refl)

pub goes_greeted : (old new : Handshake) → GoesOn old new → is_some old.peer ≡ true → is_some new.peer ≡ true
goes_greeted old new goes was = kept_greeted old.peer new.peer goes.peer was

-- ---- what was said

none_more : (t u : List Act) → handed_out u ≡ [] → handed_out (t ++ u) ≡ handed_out t
none_more t u none = handed_out-append t u ∙ ap (λ (ds : List (List ℕ)). handed_out t ++ ds) none ∙ append-nil (handed_out t)

first_holds : (config : ConnConfig) (local_id remote_id : List ℕ) (remote : SocketAddr) (room : ℕ) → HoldsFewIds (length local_id) (first_control config local_id remote_id remote room)
first_holds config local_id remote_id remote room = record {
  peers = record { none_retired = refl; active = record { below = omega arith; token = tt }; waiting = All-nil IsFewId; rising = tt; others = All-nil (λ (cid : RemoteCid). cid.sequence ≢ 0) };
  id_len = refl;
  none_gone = refl;
  few = omega arith;
  limit = omega arith;
  waiting = tt;
  sent = tt;
}

timed_greeted : (now : ℕ) (up : Bool) (old new : Handshake) → IsHandshakeTimed now up old new → is_some old.peer ≡ true → is_some new.peer ≡ true
timed_greeted now up old new (IsHandshakeTimed.lives is timed) was = goes_greeted old new (timed_out_goes now old new timed) was
timed_greeted now up old new (IsHandshakeTimed.shut is same) was = ap (λ (h : Handshake). is_some h.peer) same ∙ was

still_up : (old new : State) → (new ≡ old) ⊎ (new ≡ Drained) → is_open new ≡ true → is_open old ≡ true
still_up old new (inl same) up = sym (ap is_open same) ∙ up
still_up old new (inr down) up = let z : false ≡ true = sym (ap is_open down) ∙ up in cc

still_code : (old new : State) → (new ≡ old) ⊎ (new ≡ Drained) → HasCode old → HasCode new
still_code old new (inl same) code = subst (λ (s : State). HasCode s) (sym same) code
still_code old new (inr down) code = subst (λ (s : State). HasCode s) (sym down) tt

lost_if : (k : ℕ) (b : Bool) (is_out : ℕ → Bool) (s : ControlState) (q : PlainQueue) → MatchBool b (AreLost is_out s.queue q) (q ≡ s.queue) → b ≡ true → HoldsFewIds k s → HoldsFewIds k (record s { queue = q })
lost_if k true is_out s q lost up h = lost_holds k is_out s q lost h
lost_if k false is_out s q lost up h = let z : false ≡ true = up in cc

module _ {S : Type 0} where
  pub faulted_code : (now : Moment) (e : TransportError) (old new : Inner S) → IsFaulted now e old new → HasCode new.state
  faulted_code now e old new f =
      subst (λ (s : State). HasCode s) (sym (ap (λ (c : Inner S). c.state) f.closed.rest_is)) (transport_code f.reason true f.closed.until e f.says)

  -- what holds of an end that goes on as the same one, and hands nothing out
  pub record IsSameEnd (old new : Connection S) : Type 0 where
    pub greeted : is_some old.handshake.peer ≡ true → is_some new.handshake.peer ≡ true
    pub side : new.core.side ≡ old.core.side
    pub local_id : new.core.local_id ≡ old.core.local_id
    pub remote_length : is_some old.handshake.peer ≡ true → length new.core.remote_id ≡ length old.core.remote_id

  pub keeps_on : (old new : Connection S) (t u : List Act) → IsSameEnd old new → handed_out u ≡ [] → (is_open new.core.state ≡ true → HoldsFewIds (length old.core.local_id) new.control) → HasCode new.core.state → KeepsFewIds old t
      → KeepsFewIds new (t ++ u)
  keeps_on old new t u same none holds code k = record {
    holds = λ up. subst (λ (id : List ℕ). HoldsFewIds (length id) new.control) (sym same.local_id) (holds up);
    code = code;
    said = λ n long.
        subst (λ (ds : List (List ℕ)). SayFewIds (length new.core.local_id) n ds new.core.side) (sym (none_more t u none))
        (subst (λ (side : Side). SayFewIds (length new.core.local_id) n (handed_out t) side) (sym same.side)
        (subst (λ (id : List ℕ). SayFewIds (length id) n (handed_out t) old.core.side) (sym same.local_id)
        (k.said n (λ was. long (same.greeted was) ∙ same.remote_length was))));
  }

  -- the same where nothing is added
  pub keeps_still : (old new : Connection S) (t : List Act) → IsSameEnd old new → (is_open new.core.state ≡ true → HoldsFewIds (length old.core.local_id) new.control) → HasCode new.core.state → KeepsFewIds old t → KeepsFewIds new t
  keeps_still old new t same holds code k = subst (λ (u : List Act). KeepsFewIds new u) (append-nil t) (keeps_on old new t [] same refl holds code k)

  -- ---- calls

  pub fresh : (c : Connection S) (config : ConnConfig) (local_id remote_id : List ℕ) (remote : SocketAddr) (room : ℕ) → c.control ≡ first_control config local_id remote_id remote room → c.core.local_id ≡ local_id
      → c.core.state ≡ Established → KeepsFewIds c []
  fresh c config local_id remote_id remote room control id state = record {
    holds = λ _. subst (λ (s : ControlState). HoldsFewIds (length c.core.local_id) s) (sym control)
        (subst (λ (own : List ℕ). HoldsFewIds (length own) (first_control config local_id remote_id remote room)) (sym id) (first_holds config local_id remote_id remote room));
    code = subst (λ (s : State). HasCode s) (sym state) tt;
    said = λ n long f has. absurd has.among;
  }

  same_end : (old new : Connection S) → HasSameIds old new → IsSameEnd old new
  same_end old new same = record { greeted = same.greeted; side = same.side; local_id = same.local_id; remote_length = λ _. same.remote_length }

  pub still : (old new : Connection S) (t u : List Act) → handed_out u ≡ [] → HasSameIds old new → KeepsFewIds old t → KeepsFewIds new (t ++ u)
  still old new t u none same k =
      keeps_on old new t u (same_end old new same) none
      (λ up. holds_same (length old.core.local_id) old.control new.control same.ids same.own_ids same.id_limit same.waiting same.sent (k.holds (sym (ap is_open same.state) ∙ up)))
      (subst (λ (s : State). HasCode s) (sym same.state) k.code) k

  pub stays : (old new : Connection S) (t : List Act) → HasSameIds old new → KeepsFewIds old t → KeepsFewIds new t
  stays old new t same k = subst (λ (u : List Act). KeepsFewIds new u) (append-nil t) (still old new t [] refl same k)

  pub same_ids : (c : Connection S) → HasSameIds c c
  same_ids c = record { greeted = λ was. was; side = refl; local_id = refl; remote_length = refl; state = refl; ids = refl; own_ids = refl; id_limit = refl; waiting = refl; sent = refl }

  pub same_by : (old new to : Connection S) → new ≡ to → HasSameIds old to → HasSameIds old new
  same_by old new to is same = subst (λ (c : Connection S). HasSameIds old c) (sym is) same

  -- nothing was sent
  pub unsent : (old new : Connection S) (t : List Act) → IsStill old new → KeepsFewIds old t → KeepsFewIds new t
  unsent old new t s k =
      stays old new t (same_by old new (record old { control = record old.control { queue = new.control.queue } }) s.rest_is (record {
        greeted = λ was. was;
        side = refl;
        local_id = refl;
        remote_length = refl;
        state = refl;
        ids = refl;
        own_ids = refl;
        id_limit = refl;
        waiting = s.queue.waiting;
        sent = s.queue.sent;
      })) k

  -- what the end of the 1-RTT packets was told of changed nothing that matters
  record IsSameCore (old new : Inner S) : Type 0 where
    side : new.side ≡ old.side
    local_id : new.local_id ≡ old.local_id
    remote_id : new.remote_id ≡ old.remote_id
    state : new.state ≡ old.state

  core_by : (old new to : Inner S) → new ≡ to → IsSameCore old to → IsSameCore old new
  core_by old new to is same = subst (λ (c : Inner S). IsSameCore old c) (sym is) same

  with_core : (c : Connection S) (core : Inner S) → IsSameCore c.core core → HasSameIds c (record c { core = core })
  with_core c core same = record {
    greeted = λ was. was;
    side = same.side;
    local_id = same.local_id;
    remote_length = ap length same.remote_id;
    state = same.state;
    ids = refl;
    own_ids = refl;
    id_limit = refl;
    waiting = refl;
    sent = refl;
  }

  polled_same : (old new : Inner S) (told : Option CoreEvent) → IsPolledEvent old new told → IsSameCore old new
  polled_same old new _ (IsPolledEvent.stream e is same) = core_by old new _ same (record { side = refl; local_id = refl; remote_id = refl; state = refl })
  polled_same old new _ (IsPolledEvent.lost mid error is was untold same) = core_by old new _ same (record { side = refl; local_id = refl; remote_id = refl; state = refl })
  polled_same old new _ (IsPolledEvent.none is why same) = core_by old new _ same (record { side = refl; local_id = refl; remote_id = refl; state = refl })

  drained_same : (old new : Inner S) (told : Option CoreEndpointEvent) → IsDrainedTold old new told → IsSameCore old new
  drained_same old new _ (IsDrainedTold.drained is untold same) = core_by old new _ same (record { side = refl; local_id = refl; remote_id = refl; state = refl })
  drained_same old new _ (IsDrainedTold.none why same) = core_by old new _ same (record { side = refl; local_id = refl; remote_id = refl; state = refl })

  same_flags : (c : Connection S) (ready connected : Bool) → HasSameIds c (record c { is_data_due = ready; is_connected_due = connected })
  same_flags c ready connected = record { greeted = λ was. was; side = refl; local_id = refl; remote_length = refl; state = refl; ids = refl; own_ids = refl; id_limit = refl; waiting = refl; sent = refl }

  same_dues : (c : Connection S) (received unblocked : Bool) → HasSameIds c (record c { control = record c.control { is_datagram_due = received; is_unblocked_due = unblocked } })
  same_dues c received unblocked = record { greeted = λ was. was; side = refl; local_id = refl; remote_length = refl; state = refl; ids = refl; own_ids = refl; id_limit = refl; waiting = refl; sent = refl }

  told_same : (old new : Connection S) (told : Option Event) → IsTold old new told → HasSameIds old new
  told_same old new _ (IsTold.handshake_data due is) = same_by old new _ is (same_flags old false old.is_connected_due)
  told_same old new _ (IsTold.connected due c is) = same_by old new _ is (same_flags old old.is_data_due false)
  told_same old new _ (IsTold.received due c r is) = same_by old new _ is (same_dues old false old.control.is_unblocked_due)
  told_same old new _ (IsTold.unblocked due c r u is) = same_by old new _ is (same_dues old old.control.is_datagram_due false)
  told_same old new _ (IsTold.of_core told due c r u is same) = same_by old new _ same (with_core old new.core (polled_same old.core new.core told is))

  pub told : (old new : Connection S) (o : Option Event) (t : List Act) → IsTold old new o → KeepsFewIds old t → KeepsFewIds new t
  told old new o t is k = stays old new t (told_same old new o is) k

  endpoint_same : (old new : Connection S) (told : Option EndpointEvent) → IsEndpointTold old new told → HasSameIds old new
  endpoint_same old new _ (IsEndpointTold.control told first is) =
      same_by old new _ is (record { greeted = λ was. was; side = refl; local_id = refl; remote_length = refl; state = refl; ids = refl; own_ids = refl; id_limit = refl; waiting = refl; sent = refl })
  endpoint_same old new _ (IsEndpointTold.of_core told none is same) = same_by old new _ same (with_core old new.core (drained_same old.core new.core told is))

  pub endpoint_told : (old new : Connection S) (o : Option EndpointEvent) (t : List Act) → IsEndpointTold old new o → KeepsFewIds old t → KeepsFewIds new t
  endpoint_told old new o t is k = stays old new t (endpoint_same old new o is) k

  -- ids are announced
  issued_on : (ids : List IssuedCid) (old new : Connection S) (t : List Act) → is_open old.core.state ≡ true → new ≡ record old { control = with_all_issued old.control ids } → HaveOwnTokens ids → KeepsFewIds old t → KeepsFewIds new t
  issued_on ids old new t up is own k =
      subst (λ (c : Connection S). KeepsFewIds c t) (sym is)
      (keeps_still old (record old { control = with_all_issued old.control ids }) t (record { greeted = λ was. was; side = refl; local_id = refl; remote_length = λ _. refl })
      (λ _. issued_all (length old.core.local_id) old.control ids own (k.holds up)) k.code k)

  pub issued : (ids : List IssuedCid) (old new : Connection S) (t : List Act) → HaveOwnTokens ids → AreIdsIssued ids old new → KeepsFewIds old t → KeepsFewIds new t
  issued ids old new t own (AreIdsIssued.announced up is) k = issued_on ids old new t up is own k
  issued ids old new t own (AreIdsIssued.late shut is) k = subst (λ (c : Connection S). KeepsFewIds c t) (sym is) k

  -- the application closes
  pub closed : (now : Moment) (code : ℕ) (reason : List ℕ) (old new : Connection S) (t : List Act) → code < 2 ^ 62 → IsCloseCalled now code reason old new → KeepsFewIds old t → KeepsFewIds new t
  closed now code reason old new t small (IsCloseCalled.closed up c is) k =
      subst (λ (z : Connection S). KeepsFewIds z t) (sym is)
      (keeps_still old (record old { core = new.core }) t
      (record {
        greeted = λ was. was;
        side = ap (λ (z : Inner S). z.side) c.rest_is;
        local_id = ap (λ (z : Inner S). z.local_id) c.rest_is;
        remote_length = λ _. ap (λ (z : Inner S). length z.remote_id) c.rest_is;
      })
      (λ still_up. shut_open new.core.state _ (ap (λ (z : Inner S). is_open z.state) c.rest_is) still_up)
      (subst (λ (s : State). HasCode s) (sym (ap (λ (z : Inner S). z.state) c.rest_is)) small) k)
  closed now code reason old new t small (IsCloseCalled.kept shut is) k = subst (λ (c : Connection S). KeepsFewIds c t) (sym is) k

  -- a token waits
  pub queued : (old new : Connection S) (token : List ℕ) (t : List Act)
      → new ≡ record old { control = record old.control { queue = record old.control.queue { waiting = old.control.queue.waiting ++ sending.NewToken token ∷ [] } } } → KeepsFewIds old t → KeepsFewIds new t
  queued old new token t is k =
      let n = length old.core.local_id in
      let control : ControlState = record old.control { queue = record old.control.queue { waiting = old.control.queue.waiting ++ sending.NewToken token ∷ [] } } in
      subst (λ (c : Connection S). KeepsFewIds c t) (sym is)
      (keeps_still old (record old { control = control }) t (record { greeted = λ was. was; side = refl; local_id = refl; remote_length = λ _. refl })
      (λ up. let h = k.holds up in holds_queue n old.control control refl refl refl (more_say n old.control.queue.waiting (sending.NewToken token ∷ []) h.waiting (token_none n token, tt)) h.sent h) k.code k)

  -- ---- what is due

  record IsTimedSo (old new : Inner S) : Type 0 where
    side : new.side ≡ old.side
    local_id : new.local_id ≡ old.local_id
    remote_id : new.remote_id ≡ old.remote_id
    state : (new.state ≡ old.state) ⊎ (new.state ≡ Drained)

  timed_by : (old new to : Inner S) → new ≡ to → IsTimedSo old to → IsTimedSo old new
  timed_by old new to is so = subst (λ (c : Inner S). IsTimedSo old c) (sym is) so

  timed_so : (now : ℕ) (old new : Inner S) → IsCoreTimedOut now old new → IsTimedSo old new
  timed_so now old new (IsCoreTimedOut.idle up due is) = timed_by old new _ is (record { side = refl; local_id = refl; remote_id = refl; state = inr refl })
  timed_so now old new (IsCoreTimedOut.recovery mid up none lost probed is) = timed_by old new _ is (record { side = refl; local_id = refl; remote_id = refl; state = inl refl })
  timed_so now old new (IsCoreTimedOut.closed reason due until was ends is) = timed_by old new _ is (record { side = refl; local_id = refl; remote_id = refl; state = inr refl })
  timed_so now old new (IsCoreTimedOut.draining until was ends is) = timed_by old new _ is (record { side = refl; local_id = refl; remote_id = refl; state = inr refl })
  timed_so now old new (IsCoreTimedOut.waits moment ends before is) = timed_by old new _ is (record { side = refl; local_id = refl; remote_id = refl; state = inl refl })
  timed_so now old new (IsCoreTimedOut.drained was is) = timed_by old new _ is (record { side = refl; local_id = refl; remote_id = refl; state = inl refl })

  timed_on : (now : ℕ) (old : Connection S) (h : Handshake) (core : Inner S) (q : PlainQueue) (t : List Act) → IsHandshakeTimed now (is_open old.core.state) old.handshake h → IsTimedSo old.core core
      → MatchBool (is_open core.state) (AreLost (λ (number : ℕ). is_some (packet_at core.space.sent number)) old.control.queue q) (q ≡ old.control.queue) → KeepsFewIds old t
      → KeepsFewIds (record old { handshake = h; core = core; control = record old.control { queue = q } }) t
  timed_on now old h core q t hand so lost k =
      keeps_still old (record old { handshake = h; core = core; control = record old.control { queue = q } }) t
      (record { greeted = λ was. timed_greeted now (is_open old.core.state) old.handshake h hand was; side = so.side; local_id = so.local_id; remote_length = λ _. ap length so.remote_id })
      (λ up. lost_if (length old.core.local_id) (is_open core.state) _ old.control q lost up (k.holds (still_up old.core.state core.state so.state up)))
      (still_code old.core.state core.state so.state k.code) k

  pub timed_out : (now : ℕ) (old new : Connection S) (t : List Act) → IsTimedOut now old new → KeepsFewIds old t → KeepsFewIds new t
  timed_out now old new t out k =
      subst (λ (c : Connection S). KeepsFewIds c t) (sym out.rest_is) (timed_on now old new.handshake new.core new.control.queue t out.handshake (timed_so now old.core new.core out.core) out.lost k)
