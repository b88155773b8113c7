use Rattle.std.proofs.Common.{ap, ◌∙◌, Bool}
use Rattle.qh_quinn.proofs.TakenUp.{error_kept, failed_out, heeded_on, stands_on, taken_up}
use Rattle.qh_quinn.specs.Waiting.{nudged_if}
use Rattle.qh_quinn.specs.declared.inner.StateInner.{StateInner}
use Rattle.qh_quinn.proofs.inner.StateInner.take_up.Goals as goal

pub returns-clause-taken : goal.returns-clause-taken
returns-clause-taken g c =
    let h = c.heed-done.ensures in
    let f = c.forward_app_events.ensures in
    let k = c.keep_loss.ensures in
    λ first state same brought ended was.
    taken_up c.times_bring.ensures.told c.events_bring.ensures.both c.args.now c.args.sent c.heed-done.result first c.args.self.now c.heed-done.new.self c.forward_app_events.new.self c.keep_loss.new.self c.has_failed.result c.args.was_emptied state same brought ended was
    (record { other = h.other; drained = h.drained; failed = h.failed; faulted = h.faulted; brings = h.brings }) c.has_failed.ensures
    (record {
      tells = f.told;
      whole = f.whole;
      due = f.due;
      waiting = f.waiting;
      rest = f.rest;
      lives = c.is_owed.ensures.open;
      lost = c.is_owed.ensures.closed;
      loss = (k.failed, k.other);
      kept = k.rest;
    })

pub returns-clause-failed : goal.returns-clause-failed
returns-clause-failed g c =
    let h = c.heed-done.ensures in
    let f = c.forward_app_events.ensures in
    failed_out c.args.now c.args.sent c.heed-done.result c.args.self.now c.heed-done.new.self c.forward_app_events.new.self c.keep_loss.new.self (record { other = h.other; drained = h.drained; failed = h.failed; faulted = h.faulted; brings = h.brings }) f.told f.rest c.keep_loss.ensures.rest

pub returns-clause-heeded : goal.returns-clause-heeded
returns-clause-heeded g c =
    let h = c.heed-done.ensures in
    let k = c.keep_loss.ensures in
    heeded_on c.args.now c.args.sent c.heed-done.result c.args.self.now c.heed-done.new.self c.forward_app_events.new.self c.keep_loss.new.self c.has_failed.result c.args.was_emptied
    (record { other = h.other; drained = h.drained; failed = h.failed; faulted = h.faulted; brings = h.brings }) c.has_failed.ensures c.forward_app_events.ensures.told (k.failed, k.other) k.rest

pub returns-clause-error : goal.returns-clause-error
returns-clause-error g c =
    let h = c.heed-done.ensures in
    let k = c.keep_loss.ensures in
    λ calm first before was.
    error_kept c.args.now c.args.sent c.heed-done.result first c.args.self.now c.heed-done.new.self c.forward_app_events.new.self c.keep_loss.new.self c.has_failed.result c.args.was_emptied
    (record { other = h.other; drained = h.drained; failed = h.failed; faulted = h.faulted; brings = h.brings }) c.has_failed.ensures c.forward_app_events.ensures.rest (k.failed, k.other) k.rest calm before was

pub returns-clause-stands : goal.returns-clause-stands
returns-clause-stands g c = stands_on c.args.self.now c.heed-done.new.self c.forward_app_events.new.self c.keep_loss.new.self c.heed-done.ensures.stands c.forward_app_events.ensures.told c.keep_loss.ensures.rest

pub returns-clause-woken : goal.returns-clause-woken
returns-clause-woken g c =
    let h = c.heed-done.new.self in
    let same = c.heed-done.ensures.same in
    ap (λ (z : StateInner _). z.waiting.items) c.keep_loss.ensures.rest ∙ c.forward_app_events.ensures.woken ∙ ap (λ (d : Bool). nudged_if d h.waiting.items) same.1 ∙ ap (λ (v : _). nudged_if c.args.self.now.connection.is_data_due v.items) same.0
