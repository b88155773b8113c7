use Rattle.std.proofs.Common.{[], refl, ap}
use Rattle.qh_conn.proofs.CoreLog.{timed_log, timed_told}
use Rattle.qh_conn.proofs.LogKept.{core_goes, goes_both, same_goes, flags_by}
use Rattle.qh_conn.proofs.OutKeys.{shut_of}
use Rattle.qh_conn.proofs.OutWhole.{handshake_whole}
use Rattle.qh_conn.specs.declared.connection.Connection.{Connection}
use Rattle.qh_converse.proofs.MadeOpens.{locally_opens}
use Rattle.qh_converse.proofs.MidDatagram.{stays}
use Rattle.qh_core.proofs.MadeEnds.{timeout_made}
use Rattle.qh_core.proofs.MadeTogether.{one_step}
use Rattle.qh_core.specs.Inner.{is_open}
use Rattle.qh_core.specs.Made.{IsMadeLocally}
use Rattle.qh_conn.proofs.connection.Connection.time_ends.Goals as goal

pub returns-clause-stands : goal.returns-clause-stands
returns-clause-stands g c = λ accepts sealed hello t p.
    let mid = c.time_handshake.new.self in
    let new = c.handle_timeout.new.self in
    let e = c.handle_timeout.ensures in
    stays accepts sealed hello mid.handshake mid.core new mid.is_connected t (timeout_made c.args.now.0 mid.core new e.done e.kept e.follows e.same_end)
    (c.time_handshake.ensures.stands accepts sealed hello t p)

pub returns-clause-whole : goal.returns-clause-whole
returns-clause-whole g c =
    let mid = c.time_handshake.new.self in
    let new = c.handle_timeout.new.self in
    let e = c.handle_timeout.ensures in
    let w = c.time_handshake.ensures.whole in
    handshake_whole mid mid.handshake new w w.sound.handshake refl refl refl (λ z. z) e.same_end
    (shut_of (is_open mid.core.state) (is_open new.state)
    (locally_opens mid.core new [] (one_step IsMadeLocally mid.core new [] (timeout_made c.args.now.0 mid.core new e.done e.kept e.follows e.same_end)))) (timed_log c.args.now.0 mid.core new e.done)

pub returns-clause-log : goal.returns-clause-log
returns-clause-log g c =
    let self = c.args.self.now in
    let mid = c.time_handshake.new.self in
    let new = c.handle_timeout.new.self in
    let is = c.time_handshake.ensures.rest in
    let first = same_goes self mid (flags_by self mid _ is (record { connected = refl; due = refl; data_due = λ due. due; lost_logged = refl; told = record { lost = refl; drained = refl } })) (ap (λ (z : Connection _). z.control.log) is) in
    goes_both [] [] self mid (record mid { core = new }) first (core_goes mid new (timed_told c.args.now.0 mid.core new c.handle_timeout.ensures.done))
