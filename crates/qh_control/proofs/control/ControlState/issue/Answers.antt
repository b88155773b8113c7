use Rattle.std.proofs.Common.{take, sym, ap, ◌∙◌}
use Rattle.qh_control.specs.Control.{with_all_issued, with_issued}
use Rattle.qh_control.specs.declared.control.ControlState.{ControlState}
use Rattle.qh_control.specs.declared.event.IssuedCid.{IssuedCid}
use Rattle.qh_control.proofs.Kept.{with_all_more}
use Rattle.qh_control.proofs.control.ControlState.issue.Goals as goal

pub returns-in_err-issue_one-clause-sendable : goal.returns-in_err-issue_one-clause-sendable
returns-in_err-issue_one-clause-sendable c = λ side peer may. c.issue_one.ensures.sendable side peer (c.loop-id.invariant.may side peer may)

pub loop-id-preserved : goal.loop-id-preserved
loop-id-preserved c = record {
  so_far = c.in_ok-issue_one.ensures.ok ∙ ap (λ (s : ControlState). with_issued s c.id-item.result) c.loop-id.invariant.so_far
      ∙ ap (λ (cid : IssuedCid). with_issued (with_all_issued c.args.self.now (take c.loop-id.id-index c.args.ids.now)) cid) c.id-item.is
      ∙ sym (with_all_more c.args.self.now c.args.ids.now c.loop-id.id-index c.id-item.result c.loop-id-test.true);
  may = λ side peer may. c.issue_one.ensures.sendable side peer (c.loop-id.invariant.may side peer may);
}
