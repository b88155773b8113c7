use Rattle.std.proofs.Common.{◌≡◌, take}
use Rattle.qh_control.specs.Control.{KeepsSendable, with_all_issued}
use Rattle.qh_spec.specs.declared.sides.Side.{Side}
use Rattle.qh_control.proofs.control.ControlState.issue.Given as goal

abbrev pub invariant-loop-id : goal.invariant-loop-id
invariant-loop-id l = record {
  so_far : l.self ≡ with_all_issued l.fn.self (take l.id-index l.ids);
  may : (side : Side) → KeepsSendable side l.fn.self l.self;
}
