use Rattle.std.proofs.Common.{◌≡◌, ◌<◌, ◌^◌, ◌++◌}
use Rattle.qh_spec.specs.PrefixInteger.{continued_within}
use Rattle.qh_qpack.specs.Grown.{HasGrown}
use Rattle.qh_qpack.proofs.prefix_int.encode_continued.Given as goal

-- what is written and what is left to write are the whole
abbrev pub invariant-loop-left : goal.invariant-loop-left
invariant-loop-left l = record {
  bound : l.left < 2 ^ 63;
  whole : l.out.items ++ continued_within 9 l.left ≡ l.fn.out.items ++ continued_within 9 l.fn.value;
  grown : HasGrown l.fn.out.items l.out.items;
}

abbrev pub decreases-loop-left : goal.decreases-loop-left
decreases-loop-left l = l.left
