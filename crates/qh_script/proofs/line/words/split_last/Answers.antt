use Rattle.std.proofs.Common.{◌≡◌, ◌+◌, ◌-◌, arith}
use Rattle.qh_script.proofs.Spaces.{no_space_before, parted, back_has_none}
use Rattle.qh_script.proofs.line.words.split_last.Goals as goal

pub returns-then-text-at-eq32 : goal.returns-then-text-at-eq32
returns-then-text-at-eq32 c =
    let e : c.loop-at.at ≡ (c.loop-at.at - 1) + 1 = omega arith in (
      parted c.args.text.now (c.loop-at.at - 1) (omega arith) c.if-text-at-eq32.true,
      back_has_none c.args.text.now (c.loop-at.at - 1) ((c.loop-at.at - 1) + 1) (omega arith) (rw (← e) c.loop-at.invariant.none),
    )

pub loop-at-preserved : goal.loop-at-preserved
loop-at-preserved c =
    let e : c.loop-at.at ≡ (c.loop-at.at - 1) + 1 = omega arith in
    record {
      within = omega arith;
      none = no_space_before c.args.text.now (c.loop-at.at - 1) (omega arith) (rw (← e) c.loop-at.invariant.none) c.if-text-at-eq32.false;
    }
