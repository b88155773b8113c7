use Rattle.std.proofs.Common.{◌≡◌, ◌<◌, length, None, refl, sym, ap, arith}
use Rattle.std.proofs.lemmas.Bool.{ltb-true}
use Rattle.std.proofs.lemmas.List.{get_or_read_under}
use Rattle.qh_halves.specs.Winners.{leaf}
use Rattle.qh_halves.proofs.WinnerTrees.{root_wins}
use Rattle.qh_halves.proofs.pending.winner_tree.WinnerTree.first.Goals as goal

pub returns-in-Some : goal.returns-in-Some
returns-in-Some c =
    let nodes = c.self.inside.nodes.items in
    let root = c.in-Some.ensures.lookup in
    let within = ltb-true 1 (length c.deref.result.now) (sym root.0) in
    let more : 1 < length nodes = omega (arith, within, ap length c.deref.ensures.value) in
    let read = rw c.deref.ensures.value at root.1 in
    let is : c.in-Some.root.now ≡ leaf nodes 1 = get_or_read_under nodes 1 (length nodes) c.in-Some.root.now None read more refl in
    rw (sym c.self.view_is, is) (root_wins nodes c.self.invariant more)
