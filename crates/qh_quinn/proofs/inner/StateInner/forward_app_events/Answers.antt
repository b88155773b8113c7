use Rattle.std.proofs.Common.{◌≡◌, refl, sym, ap, ◌∙◌, Bool, true, Some, None}
use Rattle.qh_quinn.proofs.Tellings.{data_told, tell_on, told_due, told_less, told_woken, untold, unwoken, woken_by}
use Rattle.qh_quinn.proofs.WaitingLists.{nudged_calls}
use Rattle.qh_quinn.specs.Telling.{AreTold}
use Rattle.qh_quinn.specs.Waiting.{interests_in, nudged_if}
use Rattle.qh_quinn.specs.declared.inner.StateInner.{StateInner}
use Rattle.qh_quinn.proofs.inner.StateInner.forward_app_events.Goals as goal

pub loop-event-init : goal.loop-event-init
loop-event-init g c = record { told = AreTold.none c.args.self.now.is_connected c.args.self.now.connection; whole = c.requires; waiting = refl; woken = refl; rest = refl }

pub loop-event-smaller-in-Connected : goal.loop-event-smaller-in-Connected
loop-event-smaller-in-Connected g c = told_less c.loop-event.self.connection c.poll.new.self (Some c.in-Some.event) c.in-Some.ensures.told refl

pub loop-event-preserved-in-Connected : goal.loop-event-preserved-in-Connected
loop-event-preserved-in-Connected g c =
    let l = c.loop-event in
    record {
      told = tell_on c.args.self.now.is_connected c.args.self.now.connection l.self.is_connected l.self.connection c.poll.new.self (Some c.in-Some.event) l.invariant.told c.in-Some.ensures.told c.in-Some.ensures.stands true (rw c.in-Connected.is refl);
      whole = c.in-Some.ensures.whole;
      waiting = l.invariant.waiting;
      woken = let e : woken_by (Some c.in-Some.event) l.self.waiting.items ≡ l.self.waiting.items = rw c.in-Connected.is refl in
          ap (nudged_if c.poll.new.self.is_data_due) (sym e) ∙ told_woken l.self.connection c.poll.new.self (Some c.in-Some.event) l.self.waiting.items c.in-Some.ensures.told ∙ l.invariant.woken;
      rest = ap (λ (z : StateInner _). record z { connection = c.poll.new.self; is_connected = true }) l.invariant.rest;
    }

pub loop-event-smaller-in-HandshakeDataReady : goal.loop-event-smaller-in-HandshakeDataReady
loop-event-smaller-in-HandshakeDataReady g c = told_less c.loop-event.self.connection c.poll.new.self (Some c.in-Some.event) c.in-Some.ensures.told refl

pub loop-event-preserved-in-HandshakeDataReady : goal.loop-event-preserved-in-HandshakeDataReady
loop-event-preserved-in-HandshakeDataReady g c =
    let l = c.loop-event in
    record {
      told = tell_on c.args.self.now.is_connected c.args.self.now.connection l.self.is_connected l.self.connection c.poll.new.self (Some c.in-Some.event) l.invariant.told c.in-Some.ensures.told c.in-Some.ensures.stands l.self.is_connected (rw c.in-HandshakeDataReady.is refl);
      whole = c.in-Some.ensures.whole;
      waiting = ap interests_in c.nudge_handshake.ensures ∙ nudged_calls true l.self.waiting.items ∙ l.invariant.waiting;
      woken = let e : woken_by (Some c.in-Some.event) l.self.waiting.items ≡ nudged_if true l.self.waiting.items = rw c.in-HandshakeDataReady.is refl in
          ap (nudged_if c.poll.new.self.is_data_due) (c.nudge_handshake.ensures ∙ sym e) ∙ told_woken l.self.connection c.poll.new.self (Some c.in-Some.event) l.self.waiting.items c.in-Some.ensures.told ∙ l.invariant.woken;
      rest = ap (λ (z : StateInner _). record z { connection = c.poll.new.self; waiting = c.nudge_handshake.new.waiting }) l.invariant.rest;
    }

pub loop-event-smaller : goal.loop-event-smaller
loop-event-smaller g c = told_less c.loop-event.self.connection c.poll.new.self (Some c.in-Some.event) c.in-Some.ensures.told refl

pub loop-event-preserved : goal.loop-event-preserved
loop-event-preserved g c =
    let l = c.loop-event in
    let e = c.in-Some.event in
    record {
      told = tell_on c.args.self.now.is_connected c.args.self.now.connection l.self.is_connected l.self.connection c.poll.new.self (Some e) l.invariant.told c.in-Some.ensures.told c.in-Some.ensures.stands l.self.is_connected (sym (untold e c.in_default-event.not-Connected l.self.is_connected));
      whole = c.in-Some.ensures.whole;
      waiting = l.invariant.waiting;
      woken = ap (nudged_if c.poll.new.self.is_data_due) (sym (unwoken e c.in_default-event.not-HandshakeDataReady l.self.waiting.items)) ∙ told_woken l.self.connection c.poll.new.self (Some e) l.self.waiting.items c.in-Some.ensures.told ∙ l.invariant.woken;
      rest = ap (λ (z : StateInner _). record z { connection = c.poll.new.self }) l.invariant.rest;
    }

pub returns-clause-told : goal.returns-clause-told
returns-clause-told g c =
    let l = c.loop-event in
    tell_on c.args.self.now.is_connected c.args.self.now.connection l.self.is_connected l.self.connection c.poll.new.self None l.invariant.told c.in_default.ensures.told c.in_default.ensures.stands l.self.is_connected refl

pub returns-clause-woken : goal.returns-clause-woken
returns-clause-woken g c =
    let l = c.loop-event in
    sym (ap (λ (d : Bool). nudged_if d l.self.waiting.items) (data_told l.self.connection c.poll.new.self None c.in_default.ensures.told refl)) ∙ l.invariant.woken

pub returns-clause-due : goal.returns-clause-due
returns-clause-due g c = told_due c.loop-event.self.connection c.poll.new.self None c.in_default.ensures.told refl
