use Rattle.std.proofs.Common.{◌≡◌, ◌+◌, ◌*◌, ◌/◌, length, List, None, sym, ap, ap₂, ◌∙◌, refl, arith}
use Rattle.std.proofs.lemmas.List.{length-drop, get_or_read_under}
use Rattle.qh_halves.specs.Winners.{Leaf, places, winner}
use Rattle.qh_halves.proofs.WinnerTrees.{begun, risen, ended, same_leaf, settled}
use Rattle.qh_halves.proofs.pending.winner_tree.WinnerTree.set.Goals as goal

pub index_mut-requires : goal.index_mut-requires
index_mut-requires c =
    let nodes = c.self.inside.nodes in
    omega (arith, c.requires, ap (λ (l : List Leaf). length l) c.self.view_is, length-drop (places nodes.items) nodes.items, c.self.invariant.even, c.len.ensures, nodes.ok)

pub loop-node-init : goal.loop-node-init
loop-node-init c =
    let nodes = c.self.inside.nodes in
    let at : c.len.result / 2 ≡ places nodes.items = omega (arith, c.len.ensures, nodes.ok) in
    rw (at, sym c.self.view_is) (begun nodes.items c.args.place c.args.stream c.self.invariant (rw c.self.view_is c.requires))

pub invariant_of-self : goal.invariant_of-self
invariant_of-self c = ended _ _ _ _ c.loop-node.invariant c.loop-node-test.false

pub index-requires : goal.index-requires
index-requires c = omega (arith, c.loop-node.invariant.within, c.loop-node.invariant.even, c.loop-node.self-inside.nodes.ok)

pub index-requires-in-loop-node : goal.index-requires-in-loop-node
index-requires-in-loop-node c = omega (arith, c.loop-node.invariant.within, c.loop-node.invariant.even, c.loop-node.self-inside.nodes.ok)

pub index_mut-requires-in-loop-node : goal.index_mut-requires-in-loop-node
index_mut-requires-in-loop-node c = omega (arith, c.loop-node.invariant.within, c.loop-node.invariant.even, c.loop-node.self-inside.nodes.ok)

pub loop-node-preserved : goal.loop-node-preserved
loop-node-preserved c =
    let nodes = c.loop-node.self-inside.nodes.items in
    let up = c.loop-node.node / 2 in
    let left = get_or_read_under nodes (2 * up) (length nodes) c.index.result.now None c.index.ensures (omega (arith, c.loop-node.invariant.within, c.loop-node.invariant.even)) refl in
    let right = get_or_read_under nodes (2 * up + 1) (length nodes) c.index-in-loop-node.result.now None c.index-in-loop-node.ensures (omega (arith, c.loop-node.invariant.within, c.loop-node.invariant.even)) refl in
    risen _ _ _ _ _ c.winner-first.result c.loop-node.invariant c.loop-node-test.true refl (c.winner-first.ensures ∙ ap₂ winner left right)

pub returns : goal.returns
returns c = c.loop-node.invariant.leaves_are

pub invariant_of-self-then-eq : goal.invariant_of-self-then-eq
invariant_of-self-then-eq c =
    let nodes = c.loop-node.self-inside.nodes.items in
    let up = c.loop-node.node / 2 in
    let left = get_or_read_under nodes (2 * up) (length nodes) c.index.result.now None c.index.ensures (omega (arith, c.loop-node.invariant.within, c.loop-node.invariant.even)) refl in
    let right = get_or_read_under nodes (2 * up + 1) (length nodes) c.index-in-loop-node.result.now None c.index-in-loop-node.ensures (omega (arith, c.loop-node.invariant.within, c.loop-node.invariant.even)) refl in
    let here = get_or_read_under nodes up (length nodes) c.index-in-loop-node-2.result.now None c.index-in-loop-node-2.ensures (omega (arith, c.loop-node.invariant.within, c.loop-node.invariant.even)) refl in
    let same = same_leaf c.index-in-loop-node-2.result.now c.winner-first.result (sym c.eq.ensures ∙ c.if-eq.true) in
    settled _ _ up _ _ c.loop-node.invariant refl (sym here ∙ same ∙ c.winner-first.ensures ∙ ap₂ winner left right)
