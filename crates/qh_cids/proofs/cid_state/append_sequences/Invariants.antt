use Rattle.std.proofs.Common.{◌≡◌, ◌++◌, length}
use Rattle.qh_cids.specs.CidState.{sequences_from}
use Rattle.qh_cids.proofs.cid_state.append_sequences.Given as goal

abbrev pub invariant-loop-i : goal.invariant-loop-i
invariant-loop-i l = record {
  items : l.active.items ≡ l.fn.active.items ++ sequences_from l.first l.i;
  held : l.held ≡ length l.fn.active.items;
}
