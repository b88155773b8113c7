use Rattle.std.proofs.Common.{Err, Ok, refl}
use Rattle.futures.specs.declared.task.Poll.TheVariants as polls
use Rattle.qh_core.specs.Event.{is_drained}
use Rattle.qh_handles.specs.Turns.{IsFull}
use Rattle.qh_handles.specs.declared.told.Told.{Told as AToldValue}
use Rattle.qh_handshake.specs.Incoming.{SessionView}
use Rattle.qh_quinn.proofs.Heard.{hears_still}
use Rattle.qh_quinn.proofs.Turns.{ends_fault, ends_rest, goes_on_sent, sends_all, turned, woken_on}
use Rattle.qh_quinn.proofs.inner.StateInner.turn.Goals as goal

pub wake_answered-requires : goal.wake_answered-requires
wake_answered-requires g c =
    let a = c.advance-sent.ensures.advanced in
    (c.take_up-done.ensures.taken c.args.self.now c.requires a.1.same a.1.brings a.1.ended c.is_emptied-was_emptied.ensures).state

pub returns-in-Err-clause-turned : goal.returns-in-Err-clause-turned
returns-in-Err-clause-turned g c =
    let a = c.advance-sent.ensures.advanced in
    let v : SessionView g.row.S.Denot = record { name = g.S.Session.name; knows = g.S.Session.knows; key = g.S.Session.key; sealed = g.S.Session.sealed; accepts = g.S.Session.accepts } in
    let h = c.in-Err.ensures in
    let w = c.wake_answered.new.self in (
      a.0,
      turned (AToldValue g.row.S-HandshakeData.Denot) v c.advance-sent.result (Err c.in-Err.fault) (polls.Ready (Err c.in-Err.fault)) c.args.now c.args.part.now.is_held a.0 c.args.self.now c.advance-sent.new.self c.take_up-done.new.self w w a.1 a.3 a.4 a.5
          (record {
            taken = h.taken c.args.self.now c.requires a.1.same a.1.brings a.1.ended c.is_emptied-was_emptied.ensures;
            other = h.other;
            failed = h.failed;
            stands = h.stands;
            rest = h.rest;
            wakes = c.wake_answered.ensures.settled;
            woken = c.wake_answered.ensures.rest;
            left = refl;
          })
          (ends_fault c.in-Err.fault (Err c.in-Err.fault) (is_drained w.connection.core.state) refl)
          h.heeded (λ calm same. h.error calm c.args.self.now same c.is_emptied-was_emptied.ensures)
          (woken_on c.advance-sent.new.self c.take_up-done.new.self w w (h.taken c.args.self.now c.requires a.1.same a.1.brings a.1.ended c.is_emptied-was_emptied.ensures).state h.woken c.wake_answered.ensures.woken refl),
      a.2,
      λ ready is. cc,
    )

pub returns-in-Ok-clause-turned : goal.returns-in-Ok-clause-turned
returns-in-Ok-clause-turned g c =
    let a = c.advance-sent.ensures.advanced in
    let v : SessionView g.row.S.Denot = record { name = g.S.Session.name; knows = g.S.Session.knows; key = g.S.Session.key; sealed = g.S.Session.sealed; accepts = g.S.Session.accepts } in
    let h = c.in-Ok.ensures in
    let w = c.wake_answered.new.self in
    let r = c.rest.ensures in (
      a.0,
      turned (AToldValue g.row.S-HandshakeData.Denot) v c.advance-sent.result (Ok tt) c.rest.result c.args.now c.args.part.now.is_held a.0 c.args.self.now c.advance-sent.new.self c.take_up-done.new.self w c.rest.new.self a.1 a.3 a.4 a.5
          (record {
            taken = h.taken c.args.self.now c.requires a.1.same a.1.brings a.1.ended c.is_emptied-was_emptied.ensures;
            other = h.other;
            failed = h.failed;
            stands = h.stands;
            rest = h.rest;
            wakes = c.wake_answered.ensures.settled;
            woken = c.wake_answered.ensures.rest;
            left = r.same;
          })
          (ends_rest c.rest.result (Ok tt) (is_drained w.connection.core.state) refl (λ e. (r.drained e).0) (λ e. (r.waits e).0))
          h.heeded (λ calm same. h.error calm c.args.self.now same c.is_emptied-was_emptied.ensures)
          (woken_on c.advance-sent.new.self c.take_up-done.new.self w c.rest.new.self (h.taken c.args.self.now c.requires a.1.same a.1.brings a.1.ended c.is_emptied-was_emptied.ensures).state h.woken c.wake_answered.ensures.woken r.same),
      a.2,
      λ ready is.
          goes_on_sent c.advance-sent.result (Ok tt) c.rest.result c.args.self.now c.advance-sent.new.self c.take_up-done.new.self w c.rest.new.self (IsFull c.advance-sent.new.part.keeps_going a.0)
          (record {
            taken = h.taken c.args.self.now c.requires a.1.same a.1.brings a.1.ended c.is_emptied-was_emptied.ensures;
            other = h.other;
            failed = h.failed;
            stands = h.stands;
            rest = h.rest;
            wakes = c.wake_answered.ensures.settled;
            woken = c.wake_answered.ensures.rest;
            left = r.same;
          })
          (ends_rest c.rest.result (Ok tt) (is_drained w.connection.core.state) refl (λ e. (r.drained e).0) (λ e. (r.waits e).0)) (a.6 ready refl) is,
    )

pub returns-in-Ok-clause-sent : goal.returns-in-Ok-clause-sent
returns-in-Ok-clause-sent g c =
    let a = c.advance-sent.ensures.advanced in
    let h = c.in-Ok.ensures in
    let w = c.wake_answered.new.self in
    let r = c.rest.ensures in
    λ free ready.
    sends_all c.advance-sent.result (Ok tt) c.rest.result c.advance-sent.new.part.keeps_going c.args.self.now c.advance-sent.new.self c.take_up-done.new.self w c.rest.new.self
    (record {
      taken = h.taken c.args.self.now c.requires a.1.same a.1.brings a.1.ended c.is_emptied-was_emptied.ensures;
      other = h.other;
      failed = h.failed;
      stands = h.stands;
      rest = h.rest;
      wakes = c.wake_answered.ensures.settled;
      woken = c.wake_answered.ensures.rest;
      left = r.same;
    })
    (ends_rest c.rest.result (Ok tt) (is_drained w.connection.core.state) refl (λ e. (r.drained e).0) (λ e. (r.waits e).0)) (c.advance-sent.ensures.sent free ready)

pub returns-in-Ok-clause-heard : goal.returns-in-Ok-clause-heard
returns-in-Ok-clause-heard g c = λ is still. hears_still c.rest.new.self.driver c.args.cx.now c.advance-sent.new.cx c.rest.new.cx c.advance-sent.ensures.kept (c.rest.ensures.heard is still)
