use Rattle.std.proofs.Common.{◌++◌, refl, sym, subst, OnErr}
use Rattle.qh_conn.proofs.InSound.{issued_long, issued_unlogged, on_ok, safe_of, sound_control, whole_control}
use Rattle.qh_conn.proofs.LogKept.{ended_without, same_goes}
use Rattle.qh_conn.proofs.OutCarries.{nothing_more}
use Rattle.qh_conn.specs.Incoming.{acts_of, counted_at}
use Rattle.qh_conn.specs.Items.{EndsLogBy}
use Rattle.qh_conn.specs.declared.connection.Connection.{Connection}
use Rattle.qh_conn.specs.declared.event.ConnectionEvent.{ConnectionEvent}
use Rattle.qh_converse.specs.Converses.{Converses}
use Rattle.qh_conn.proofs.SameParts.{issued_stay, settled_after}
use Rattle.qh_conn.proofs.Same.{same_control, same_self}
use Rattle.std.specs.Prelude.{List, ◌<◌, length, take}
use Rattle.std.proofs.Common.{◌≡◌, ℕ, [], ap}
use Rattle.std.proofs.lemmas.Result.{on_err_weaker}
use Rattle.qh_conn.proofs.Over.{err_as, err_both, issued_by}
use Rattle.qh_conn.specs.Unread.{AreIdsCut, HasFailed, IsEventUnread, IsOverBy, IsUnread}
use Rattle.qh_control.specs.Control.{with_all_issued}
use Rattle.qh_control.specs.declared.control.ControlState.{ControlState}
use Rattle.qh_control.specs.declared.event.IssuedCid.{IssuedCid}
use Rattle.qh_conn.proofs.connection.Connection.handle_event.Goals as goal

pub settled-requires-clause-safe : goal.settled-requires-clause-safe
settled-requires-clause-safe g c =
    let issued = c.issue-issued in
    safe_of _ (sound_control c.args.self.now issued.new.self c.requires.sound (issued.ensures.sendable c.args.self.now.core.side)
    (issued_long issued.result c.args.self.now.control issued.new.self c.as_slice-in-NewIdentifiers.result.now issued.ensures.ok issued.ensures.err))

pub settled-requires-clause-whole : goal.settled-requires-clause-whole
settled-requires-clause-whole g c =
    let issued = c.issue-issued in
    on_ok _ _ (λ _. whole_control c.args.self.now issued.new.self c.requires (issued.ensures.sendable c.args.self.now.core.side)
    (issued_long issued.result c.args.self.now.control issued.new.self c.as_slice-in-NewIdentifiers.result.now issued.ensures.ok issued.ensures.err)
    (issued_unlogged issued.result c.args.self.now.control issued.new.self c.as_slice-in-NewIdentifiers.result.now issued.ensures.ok issued.ensures.err)) issued.result issued.ensures.ok

pub returns-else-is_closed-clause-carries : goal.returns-else-is_closed-clause-carries
returns-else-is_closed-clause-carries g c = λ named hello t p.
    let new = c.settled.new.self in
    subst (λ (z : ConnectionEvent). Converses g.S.Session.accepts g.S.Session.sealed hello new.handshake new.core new.is_connected (t ++ acts_of z)) (sym c.in-NewIdentifiers.is)
    (nothing_more g.S.Session.accepts g.S.Session.sealed hello new.handshake new.core new.is_connected t (c.settled.ensures.stands g.S.Session.accepts g.S.Session.sealed hello t p))

pub returns-then-is_closed-clause-same : goal.returns-then-is_closed-clause-same
returns-then-is_closed-clause-same g c = same_self g.S.Session.key c.args.self.now

pub returns-else-is_closed-clause-same : goal.returns-else-is_closed-clause-same
returns-else-is_closed-clause-same g c =
    let self = c.args.self.now in
    let issued = c.issue-issued in
    settled_after g.S.Session.key issued.result self (record self { control = issued.new.self }) c.settled.new.self
    (same_control g.S.Session.key self issued.new.self (issued_stay issued.result self.control issued.new.self c.as_slice-in-NewIdentifiers.result.now issued.ensures.ok issued.ensures.err)) c.settled.ensures.ok c.settled.ensures.same

pub returns-in-Rebind-clause-same : goal.returns-in-Rebind-clause-same
returns-in-Rebind-clause-same g c = same_self g.S.Session.key c.args.self.now

pub returns-else-is_closed-clause-log : goal.returns-else-is_closed-clause-log
returns-else-is_closed-clause-log g c =
    let self = c.args.self.now in
    let issued = c.issue-issued in
    let log = issued_unlogged issued.result self.control issued.new.self c.as_slice-in-NewIdentifiers.result.now issued.ensures.ok issued.ensures.err in
    let mid : Connection _ = record self { control = issued.new.self } in
    let goes = same_goes self mid (record { connected = refl; due = refl; data_due = λ due. due; lost_logged = refl; told = record { lost = refl; drained = refl } }) log in
    let new : Connection _ = c.settled.new.self in
    subst (λ (z : ConnectionEvent). OnErr c.settled.result (EndsLogBy z self new)) (sym c.in-NewIdentifiers.is)
    (ended_without issued.result c.settled.result self mid new c.settled.ensures.value c.requires.current goes c.settled.ensures.log)

module _ {S : Type 0} where
  ids_cut : (old : Connection S) (new : ControlState) (ids all : List IssuedCid) → ids ≡ all → (count : _) × (count < length ids) × (new ≡ with_all_issued old.control (take count ids)) → AreIdsCut all old (record old { control = new })
  ids_cut old new ids all same e =
      subst (λ (z : List IssuedCid). AreIdsCut z old (record old { control = new })) same (record { count = e.0; fewer = e.1; rest_is = ap (λ (z : ControlState). record old { control = z }) e.2 })

pub returns-else-is_closed-clause-unread : goal.returns-else-is_closed-clause-unread
returns-else-is_closed-clause-unread g c =
    let self = c.args.self.now in
    let issued = c.issue-issued in
    let mid : Connection _ = record self { control = issued.new.self } in
    let new : Connection _ = c.settled.new.self in
    subst (λ (z : ConnectionEvent). OnErr c.settled.result ((m : Connection _) × IsEventUnread (record { name = g.S.Session.name; knows = g.S.Session.knows; key = g.S.Session.key; sealed = g.S.Session.sealed; accepts = g.S.Session.accepts }) z self m × HasFailed m new)) (sym c.in-NewIdentifiers.is)
    (err_as _ issued.result c.settled.result c.settled.ensures.value
    (err_both issued.result (λ e failed. (mid, ids_cut self issued.new.self c.as_slice-in-NewIdentifiers.result.now _ c.as_slice-in-NewIdentifiers.ensures.value e, failed)) issued.ensures.err c.settled.ensures.failed))

pub returns-else-is_closed-clause-over : goal.returns-else-is_closed-clause-over
returns-else-is_closed-clause-over g c =
    let self = c.args.self.now in
    let issued = c.issue-issued in
    let log = issued_unlogged issued.result self.control issued.new.self c.as_slice-in-NewIdentifiers.result.now issued.ensures.ok issued.ensures.err in
    let mid : Connection _ = record self { control = issued.new.self } in
    let goes = same_goes self mid (record { connected = refl; due = refl; data_due = λ due. due; lost_logged = refl; told = record { lost = refl; drained = refl } }) log in
    let new : Connection _ = c.settled.new.self in
    subst (λ (z : ConnectionEvent). OnErr c.settled.result (IsOverBy z self new)) (sym c.in-NewIdentifiers.is)
    (err_as _ issued.result c.settled.result c.settled.ensures.value
    (issued_by g.S.Session.key _ issued.result self mid new
    (on_err_weaker issued.result (λ e. ids_cut self issued.new.self c.as_slice-in-NewIdentifiers.result.now _ c.as_slice-in-NewIdentifiers.ensures.value e) issued.ensures.err) c.settled.ensures.failed
    (on_err_weaker issued.result (λ ends. ends self [] c.requires.current goes) c.settled.ensures.log) (returns-else-is_closed-clause-same g c)))

pub returns-in-Datagram-clause-unread : goal.returns-in-Datagram-clause-unread
returns-in-Datagram-clause-unread g c =
    let self = c.args.self.now in
    let new : Connection _ = c.handle_datagram.new.self in
    let r = c.handle_datagram.result in
    subst (λ (z : ConnectionEvent). OnErr r ((m : Connection _) × IsEventUnread (record { name = g.S.Session.name; knows = g.S.Session.knows; key = g.S.Session.key; sealed = g.S.Session.sealed; accepts = g.S.Session.accepts }) z self m × HasFailed m new)) (sym c.in-Datagram.is)
    (subst (λ (d : List ℕ). OnErr r ((m : Connection _) × IsUnread (record { name = g.S.Session.name; knows = g.S.Session.knows; key = g.S.Session.key; sealed = g.S.Session.sealed; accepts = g.S.Session.accepts }) c.in-Datagram.now d (counted_at (length d) self) m × HasFailed m new)) c.as_slice.ensures c.handle_datagram.ensures.unread)
