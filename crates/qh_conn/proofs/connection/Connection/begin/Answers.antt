use Rattle.std.proofs.Common.{◌≡◌, ◌≤◌, ◌++◌, ◌∷◌, [], ℕ, true, false, Option, None, Some, is_some, length, rules, sym, ap, subst, ◌∙◌}
use Rattle.std.specs.Prelude.{IfSome}
use Rattle.qh_conn.proofs.Begun.{begins, begun_as, begun_by, begun_goes, begun_rest, begun_settled, begun_sound, early_sound, new_arrived, new_unused, started_current, unstarted_goes}
use Rattle.qh_conn.proofs.InFed.{core_only, hears_fails, read_fails}
use Rattle.qh_conn.proofs.LogKept.{current_by, same_goes, self_flags, flags_by}
use Rattle.qh_conn.proofs.Noted.{any_err}
use Rattle.qh_conn.specs.Greeting.{control_greeted, with_early}
use Rattle.qh_conn.specs.Hearing.{FailsTo}
use Rattle.qh_conn.specs.Items.{IsLogCurrent, streams_logged}
use Rattle.qh_conn.specs.Whole.{IsSound}
use Rattle.qh_conn.specs.declared.connection.Connection.{Connection}
use Rattle.qh_control.specs.Control.{IsSendable}
use Rattle.qh_control.specs.Items.{logged}
use Rattle.qh_control.specs.declared.control.ControlState.{ControlState}
use Rattle.qh_control.specs.declared.items.ConnectionItem.TheVariants as item
use Rattle.qh_converse.proofs.MidDatagram.{greets}
use Rattle.qh_converse.specs.Settled.{datagram_of}
use Rattle.qh_core.specs.Inner.{with_space, with_streams}
use Rattle.qh_core.specs.declared.inner.Inner.{Inner}
use Rattle.qh_spec.specs.Transcript.{HandedIn}
use Rattle.qh_spec.specs.declared.sides.Side.{Side}
use Rattle.qh_conn.proofs.SameParts.{begun_same, space_same, started_same}
use Rattle.qh_conn.proofs.Same.{both_same, control_by, control_rest, greeted_own, own_by, same_control, same_flags, same_then}
use Rattle.std.proofs.Common.{refl}
use Rattle.qh_conn.proofs.LogKept.{logged_on}
use Rattle.qh_conn.specs.Greeting.{no_early}
use Rattle.qh_conn.specs.Unread.{IsGreetingCut}
use Rattle.qh_conn.proofs.connection.Connection.begin.Goals as goal

pub returns-clause-core : goal.returns-clause-core
returns-clause-core g c =
    let self = c.args.self.now in
    let core = c.greet-2.new.self in
    let e = c.greet-2.ensures in
    let more = item.MaxDatagramSize c.and_then-datagram.result ∷ [] in
    let is : core ≡ begun_as self.core c.args.peer self.handshake core.space = search rules in
    let early : c.set_early.new.self.core ≡ with_streams (with_space core (streams_logged (logged self.control.log more) core.space)) (with_early self.early (streams_logged (logged self.control.log more) core.space).streams) = search rules in
    begun_by c.args.peer self.handshake self.early self.control.log more self.core core c.set_early.new.self.core e.space e.ping is early

pub log_streams-requires-clause-unused : goal.log_streams-requires-clause-unused
log_streams-requires-clause-unused g c = new_unused _ _ c.greet-2.new.self.space c.greet-2.ensures.space

pub log_streams-requires-clause-arrived : goal.log_streams-requires-clause-arrived
log_streams-requires-clause-arrived g c = new_arrived _ _ c.greet-2.new.self.space c.greet-2.ensures.space

pub log_streams-requires-clause-off : goal.log_streams-requires-clause-off
log_streams-requires-clause-off g c = c.greet-2.ensures.space.log

pub returns-clause-rest : goal.returns-clause-rest
returns-clause-rest g c =
    let self = c.args.self.now in
    let core = c.greet-2.new.self in
    let on = c.log_streams.new.self in
    let set = c.set_early.new.self in
    let control : c.greet.new.self ≡ record (control_greeted self.control self.handshake.remote_id c.args.peer) { log = logged self.control.log (item.MaxDatagramSize (datagram_of c.args.peer.max_datagram_frame_size) ∷ []) } = search rules in
    ap (λ (z : Connection _). record z { is_data_due = true }) (core_only on set _ c.set_early.ensures.value)
    ∙ begun_rest self c.greet.new.self core set.core on c.args.peer control (c.greet-2.ensures.space.of.peer_is ∙ ap (λ (z : Inner _). z.config.peer) c.greet-2.ensures.rest ∙ c.peer_limits.ensures) c.in_ok-log_streams.ensures.ok

pub returns-clause-current : goal.returns-clause-current
returns-clause-current g c =
    let self = c.args.self.now in
    let on = c.log_streams.new.self in
    let set = c.set_early.new.self in
    let is = c.set_early.ensures.value in
    let mid : Connection _ = begins self c.greet.new.self c.greet-2.new.self in
    current_by on (record set { is_data_due = true }) (λ up. ap (λ (z : Connection _). is_some z.control.log) (sym is) ∙ up) (ap (λ (z : Connection _). z.handshake.peer) is) (ap (λ (z : Connection _). z.core.space.log) is)
    (subst (λ (z : Connection _). IsLogCurrent z) (sym c.in_ok-log_streams.ensures.ok) (started_current mid (λ none. let z : None ≡ Some c.args.peer = sym none ∙ c.requires.greeted in cc)))

pub returns-clause-log : goal.returns-clause-log
returns-clause-log g c =
    let self = c.args.self.now in
    let set = c.set_early.new.self in
    let is = c.set_early.ensures.value in
    let on = c.in_ok-log_streams.ensures.ok in
    let first = c.greet-2.ensures.rest in
    begun_goes self (record set { is_data_due = true }) c.args.peer (returns-clause-rest g c)
    (record {
      lost = ap (λ (z : Connection _). z.core.is_lost_told) is ∙ (ap (λ (z : Connection _). z.core.is_lost_told) on ∙ ap (λ (z : Inner _). z.is_lost_told) first);
      drained = ap (λ (z : Connection _). z.core.is_drained_told) is ∙ (ap (λ (z : Connection _). z.core.is_drained_told) on ∙ ap (λ (z : Inner _). z.is_drained_told) first);
    })

pub returns-in_err-greet-clause-log : goal.returns-in_err-greet-clause-log
returns-in_err-greet-clause-log g c =
    let self = c.args.self.now in
    let is = ap (λ (z : ControlState). record self { control = z }) c.in_err-greet.ensures.err in
    ([], same_goes self (record self { control = c.greet.new.self }) (flags_by self _ self is (self_flags self)) (ap (λ (z : ControlState). z.log) c.in_err-greet.ensures.err))

pub returns-in_err-log_streams-clause-log : goal.returns-in_err-log_streams-clause-log
returns-in_err-log_streams-clause-log g c =
    let self = c.args.self.now in
    let first = c.greet-2.ensures.rest in
    unstarted_goes self c.log_streams.new.self c.greet.new.self c.greet-2.new.self _ c.in_err-log_streams.ensures.err (ap (λ (z : ControlState). z.log) c.in_ok-greet.ensures.ok)
    (record { lost = ap (λ (z : Inner _). z.is_lost_told) first; drained = ap (λ (z : Inner _). z.is_drained_told) first })

pub returns-clause-hears : goal.returns-clause-hears
returns-clause-hears g c = λ accepts sealed m client hello d before t r none.
    let self = c.args.self.now in
    let core = c.greet-2.new.self in
    let e = c.greet-2.ensures in
    let is : core ≡ begun_as self.core c.args.peer self.handshake core.space = search rules in
    let s = begun_settled self.core core c.args.peer self.handshake core.space is in
    c.set_early.ensures.hears accepts sealed hello d self.handshake m t
    (c.log_streams.ensures.hears accepts sealed hello d self.handshake m t
    (greets accepts sealed r.takes r.now d r.rest hello before self.handshake r.retried r.learned r.end self.core core self.is_connected m t c.args.peer r.named r.taken none c.requires.greeted e.space e.follows
    s.0 s.1 (ap (λ (z : Inner _). z.side) e.rest) (ap (λ (z : Inner _). z.local_id) e.rest) client r.stood))

pub returns-in_err-greet-clause-fails : goal.returns-in_err-greet-clause-fails
returns-in_err-greet-clause-fails g c =
    any_err _ c.from_residual.result (λ accepts sealed hello d before t r none. read_fails accepts sealed hello before t d c.args.self.now (λ _. c.requires.first.0) r)

pub returns-in_err-log_streams-clause-fails : goal.returns-in_err-log_streams-clause-fails
returns-in_err-log_streams-clause-fails g c =
    let self = c.args.self.now in
    let core = c.greet-2.new.self in
    let e = c.greet-2.ensures in
    let is : core ≡ begun_as self.core c.args.peer self.handshake core.space = search rules in
    let s = begun_settled self.core core c.args.peer self.handshake core.space is in
    let mid : Connection _ = record self { control = c.greet.new.self; core = core } in
    any_err _ c.from_residual-in_err-log_streams.result (λ accepts sealed hello d before t r none.
    subst (λ (z : Connection _). FailsTo accepts sealed hello z (t ++ HandedIn d ∷ [])) (sym c.in_err-log_streams.ensures.err)
    (hears_fails accepts sealed hello mid t d
    (greets accepts sealed r.takes r.now d r.rest hello before self.handshake r.retried r.learned r.end self.core core self.is_connected self.is_connected t c.args.peer r.named r.taken none c.requires.greeted e.space e.follows
    s.0 s.1 (ap (λ (z : Inner _). z.side) e.rest) (ap (λ (z : Inner _). z.local_id) e.rest)
    (λ k. let z : true ≡ false = sym k ∙ c.requires.first.0 in cc) r.stood)))

pub returns-in_err-log_streams-clause-sound : goal.returns-in_err-log_streams-clause-sound
returns-in_err-log_streams-clause-sound g c =
    let s = c.requires.sound in
    let e = c.greet-2.ensures.rest in
    let bound : IfSome c.and_then-datagram.result (λ most. most ≤ 1140) = search rules in
    let sendable : IsSendable c.greet-2.new.self.side c.greet-2.new.self.config.peer_datagram c.greet.new.self =
    subst (λ (z : Side). IsSendable z c.greet-2.new.self.config.peer_datagram c.greet.new.self) (sym (ap (λ (z : Inner _). z.side) e))
    (subst (λ (z : Option ℕ). IsSendable c.args.self.now.core.side z c.greet.new.self) (sym (ap (λ (z : Inner _). z.config.peer_datagram) e))
    (c.in_ok-greet.ensures.sendable c.args.self.now.core.side c.requires.first.1 bound)) in
    c.log_streams.ensures.sound
    (begun_sound c.args.self.now c.greet.new.self c.greet-2.new.self c.args.peer s (ap (λ (z : Inner _). z.side) e) (ap (λ (z : Inner _). z.local_id) e)
    (ap (λ (z : Inner _). length z.remote_id) e ∙ sym (ap (λ (z : ControlState). length z.ids.active.id) c.in_ok-greet.ensures.ok)) sendable c.requires.greeted c.requires.first.0)

pub returns-clause-sound : goal.returns-clause-sound
returns-clause-sound g c =
    let s = c.requires.sound in
    let e = c.greet-2.ensures.rest in
    let bound : IfSome c.and_then-datagram.result (λ most. most ≤ 1140) = search rules in
    let sendable : IsSendable c.greet-2.new.self.side c.greet-2.new.self.config.peer_datagram c.greet.new.self =
    subst (λ (z : Side). IsSendable z c.greet-2.new.self.config.peer_datagram c.greet.new.self) (sym (ap (λ (z : Inner _). z.side) e))
    (subst (λ (z : Option ℕ). IsSendable c.args.self.now.core.side z c.greet.new.self) (sym (ap (λ (z : Inner _). z.config.peer_datagram) e))
    (c.in_ok-greet.ensures.sendable c.args.self.now.core.side c.requires.first.1 bound)) in
    subst (λ (z : Connection _). IsSound (record z { is_data_due = true })) (sym c.set_early.ensures.value)
    (early_sound c.log_streams.new.self _
    (c.log_streams.ensures.sound
    (begun_sound c.args.self.now c.greet.new.self c.greet-2.new.self c.args.peer s (ap (λ (z : Inner _). z.side) e) (ap (λ (z : Inner _). z.local_id) e)
    (ap (λ (z : Inner _). length z.remote_id) e ∙ sym (ap (λ (z : ControlState). length z.ids.active.id) c.in_ok-greet.ensures.ok)) sendable c.requires.greeted c.requires.first.0)))

pub returns-in_err-greet-clause-same : goal.returns-in_err-greet-clause-same
returns-in_err-greet-clause-same g c = λ before none p.
    let self = c.args.self.now in
    both_same g.S.Session.key before self _ p (same_control g.S.Session.key self c.greet.new.self (control_by self.control c.greet.new.self self.control c.in_err-greet.ensures.err (control_rest self.control)))

pub returns-in_err-log_streams-clause-same : goal.returns-in_err-log_streams-clause-same
returns-in_err-log_streams-clause-same g c = λ before none p.
    let self = c.args.self.now in
    same_then g.S.Session.key before (record self { control = c.greet.new.self; core = c.greet-2.new.self }) c.log_streams.new.self c.in_err-log_streams.ensures.err
    (begun_same g.S.Session.key before self c.greet.new.self c.greet-2.new.self _ _ _ _ _ _ none p (own_by self.control c.greet.new.self _ c.in_ok-greet.ensures.ok (greeted_own self.control)) c.greet-2.ensures.rest)

pub returns-clause-same : goal.returns-clause-same
returns-clause-same g c = λ before none p.
    let self = c.args.self.now in
    let mid : Connection _ = record self { control = c.greet.new.self; core = c.greet-2.new.self } in
    let on = c.log_streams.new.self in
    let set = c.set_early.new.self in
    let began = begun_same g.S.Session.key before self c.greet.new.self c.greet-2.new.self _ _ _ _ _ _ none p (own_by self.control c.greet.new.self _ c.in_ok-greet.ensures.ok (greeted_own self.control)) c.greet-2.ensures.rest in
    both_same g.S.Session.key before set _
    (both_same g.S.Session.key before on set (both_same g.S.Session.key before mid on began (started_same g.S.Session.key mid on c.in_ok-log_streams.ensures.ok)) (space_same g.S.Session.key on set _ c.set_early.ensures.value))
    (same_flags g.S.Session.key set true set.is_connected_due set.is_control_next set.is_lost_logged)

pub returns-in_err-greet-clause-cut : goal.returns-in_err-greet-clause-cut
returns-in_err-greet-clause-cut g c =
    let self = c.args.self.now in
    any_err _ c.from_residual.result (λ now. IsGreetingCut.untold c.in_err-greet.ensures.wanting (ap (λ (z : ControlState). record self { control = z }) c.in_err-greet.ensures.err))

pub returns-in_err-log_streams-clause-cut : goal.returns-in_err-log_streams-clause-cut
returns-in_err-log_streams-clause-cut g c =
    let self = c.args.self.now in
    let core = c.greet-2.new.self in
    let e = c.greet-2.ensures in
    let more = item.MaxDatagramSize (datagram_of c.args.peer.max_datagram_frame_size) ∷ [] in
    let is : core ≡ begun_as self.core c.args.peer self.handshake core.space = search rules in
    let control : c.greet.new.self ≡ record (control_greeted self.control self.handshake.remote_id c.args.peer) { log = logged self.control.log more } = search rules in
    let on = sym (logged_on self.control.log more) ∙ (ap (λ (z : ControlState). is_some z.log) (sym control) ∙ c.in_err-log_streams.ensures.wanting) in
    any_err _ c.from_residual-in_err-log_streams.result (λ now.
    subst (λ (z : Connection _). IsGreetingCut now c.args.peer self z) (sym c.in_err-log_streams.ensures.err)
    (IsGreetingCut.unlogged on (begun_by c.args.peer self.handshake no_early None [] self.core core core e.space e.ping is refl)
    (ap (λ (z : ControlState). record self { core = core; control = z }) control)))
