use Rattle.std.proofs.Common.{◌≡◌, ℕ, None, take, nat_cmp, if◌then◌else◌}
use Rattle.std.specs.BTreeMap.{get, IsOrdered}
use Rattle.qh_buffers.specs.Assembler.{is_end}
use Rattle.qh_buffers.proofs.assembler.map.withdraw.Given as goal

abbrev pub invariant-loop-gap : goal.invariant-loop-gap
invariant-loop-gap l = record {
  ordered : IsOrdered nat_cmp l.chunks;
  pieces : (k : ℕ) → get nat_cmp l.chunks k ≡ (if is_end (take l.gap-index l.gaps) k then None else get nat_cmp l.fn.chunks k);
}
