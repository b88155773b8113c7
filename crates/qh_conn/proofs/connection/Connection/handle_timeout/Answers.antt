use Rattle.std.proofs.Common.{◌≡◌, [], Bool, true, false, ℕ, refl, ap, subst}
use Rattle.std.specs.Prelude.{MatchBool, is_some}
use Rattle.qh_conn.proofs.OutKeys.{closed_of, open_of}
use Rattle.qh_conn.proofs.InSound.{sound_queue}
use Rattle.qh_conn.proofs.LogKept.{goes_both, same_goes}
use Rattle.qh_conn.specs.Telling.{IsHandshakeTimed, IsTimedOut}
use Rattle.qh_conn.specs.Whole.{IsWhole}
use Rattle.qh_conn.specs.declared.connection.Connection.{Connection}
use Rattle.qh_control.specs.Queue.{AreLost, PlainQueue, StaySendable}
use Rattle.qh_core.specs.Inner.{is_open}
use Rattle.qh_core.specs.Timers.{IsTimedOut as IsCoreTimedOut}
use Rattle.qh_recovery.specs.SentPackets.{packet_at}
use Rattle.qh_conn.proofs.SameParts.{timed_same}
use Rattle.qh_conn.proofs.Same.{both_same, control_kept, same_control, same_dropped}
use Rattle.qh_conn.proofs.Over.{timed_over}
use Rattle.qh_conn.specs.Unread.{HasFailed}
use Rattle.qh_conn.proofs.connection.Connection.handle_timeout.Goals as goal

pick_shut : (A B : Type 0) (b : Bool) → b ≡ false → B → MatchBool b A B
pick_shut A B false e x = x
pick_shut A B true e x = let z : true ≡ false = e in cc

pick_open : (A B : Type 0) (b : Bool) → b ≡ true → A → MatchBool b A B
pick_open A B true e x = x
pick_open A B false e x = let z : false ≡ true = e in cc

timed : {S : Type 0} (now : ℕ) (old mid : Connection S) (q : PlainQueue) → IsHandshakeTimed now (is_open old.core.state) old.handshake mid.handshake → IsCoreTimedOut now old.core mid.core
    → mid ≡ record old { handshake = mid.handshake; core = mid.core }
    → MatchBool (is_open mid.core.state) (AreLost (λ (number : ℕ). is_some (packet_at mid.core.space.sent number)) mid.control.queue q) (q ≡ mid.control.queue)
    → IsTimedOut now old (record mid { control = record mid.control { queue = q } })
timed now old mid q handshake core rest lost = record {
  handshake = handshake;
  core = core;
  lost = subst (λ (z : PlainQueue). MatchBool (is_open mid.core.state) (AreLost (λ (number : ℕ). is_some (packet_at mid.core.space.sent number)) z q) (q ≡ z))
      (ap (λ (z : Connection _). z.control.queue) rest) lost;
  rest_is = ap (λ (z : Connection _). record z { control = record z.control { queue = q } }) rest;
}

queue_whole : {S : Type 0} (c : Connection S) (q : PlainQueue) → IsWhole c → StaySendable c.control.queue q → IsWhole (record c { control = record c.control { queue = q } })
queue_whole c q w keeps = record { sound = sound_queue c q w.sound keeps; current = w.current; client = w.client }

pub returns-then-is_closed-clause-ok : goal.returns-then-is_closed-clause-ok
returns-then-is_closed-clause-ok g c =
    let e = c.time_ends.ensures in
    let mid = c.time_ends.new.self in
    timed c.args.now.0 c.args.self.now mid mid.control.queue e.handshake e.core e.rest
    (pick_shut _ _ (is_open mid.core.state) (closed_of (is_open mid.core.state) c.is_closed.result c.is_closed.ensures c.if-is_closed.true) refl)

pub returns-clause-ok : goal.returns-clause-ok
returns-clause-ok g c =
    let e = c.time_ends.ensures in
    let mid = c.time_ends.new.self in
    timed c.args.now.0 c.args.self.now mid c.on_lost.new.self e.handshake e.core e.rest
    (pick_open _ _ (is_open mid.core.state) (open_of (is_open mid.core.state) c.is_closed.result c.is_closed.ensures c.if-is_closed.false) c.in-Ok.ensures.ok)

pub returns-clause-whole : goal.returns-clause-whole
returns-clause-whole g c = queue_whole c.time_ends.new.self c.on_lost.new.self c.time_ends.ensures.whole c.on_lost.ensures.sendable

pub returns-then-is_closed-clause-same : goal.returns-then-is_closed-clause-same
returns-then-is_closed-clause-same g c =
    let e = c.time_ends.ensures in
    timed_same g.S.Session.key c.args.now.0 c.args.self.now c.time_ends.new.self e.handshake e.core e.rest

pub returns-clause-same : goal.returns-clause-same
returns-clause-same g c =
    let e = c.time_ends.ensures in
    let mid = c.time_ends.new.self in
    both_same g.S.Session.key c.args.self.now mid _ (timed_same g.S.Session.key c.args.now.0 c.args.self.now mid e.handshake e.core e.rest)
    (same_control g.S.Session.key mid (record mid.control { queue = c.on_lost.new.self }) (control_kept mid.control refl))

pub returns-in_default-clause-same : goal.returns-in_default-clause-same
returns-in_default-clause-same g c =
    let e = c.time_ends.ensures in
    let mid = c.time_ends.new.self in
    let lost : Connection _ = record mid { control = record mid.control { queue = c.on_lost.new.self } } in
    let timed = both_same g.S.Session.key c.args.self.now mid lost (timed_same g.S.Session.key c.args.now.0 c.args.self.now mid e.handshake e.core e.rest)
    (same_control g.S.Session.key mid (record mid.control { queue = c.on_lost.new.self }) (control_kept mid.control refl)) in
    both_same g.S.Session.key c.args.self.now _ c.fail.new.self (both_same g.S.Session.key c.args.self.now lost _ timed (same_dropped g.S.Session.key lost)) (c.fail.ensures.same g.S.Session.key)

pub returns-in_default-clause-log : goal.returns-in_default-clause-log
returns-in_default-clause-log g c =
    let self = c.args.self.now in
    let mid = c.time_ends.new.self in
    let lost : Connection _ = record mid { control = record mid.control { queue = c.on_lost.new.self } } in
    let queued = same_goes mid lost (record { connected = refl; due = refl; data_due = λ due. due; lost_logged = refl; told = record { lost = refl; drained = refl } }) refl in
    c.fail.ensures.log self [] c.requires.current (goes_both [] [] self mid lost c.time_ends.ensures.log queued)

pub returns-in_default-clause-unread : goal.returns-in_default-clause-unread
returns-in_default-clause-unread g c =
    let e = c.time_ends.ensures in
    let mid = c.time_ends.new.self in (
      mid,
      record { handshake = e.handshake; core = e.core; up = open_of (is_open mid.core.state) c.is_closed.result c.is_closed.ensures c.if-is_closed.false; rest_is = e.rest },
      subst (λ (z : PlainQueue). HasFailed (record mid { control = record mid.control { queue = z } }) c.fail.new.self) c.in_default.ensures.err c.fail.ensures.failed,
    )

pub returns-in_default-clause-over : goal.returns-in_default-clause-over
returns-in_default-clause-over g c =
    let unread = returns-in_default-clause-unread g c in
    timed_over g.S.Session.key c.args.now.0 c.args.self.now unread.0 c.fail.new.self unread.1 unread.2 (returns-in_default-clause-same g c) (returns-in_default-clause-log g c)
