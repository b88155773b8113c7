use Rattle.std.proofs.Common.{◌∙◌, sym}
use Rattle.qh_buffers.specs.SendState.{piece_end}
use Rattle.qh_buffers.proofs.Pieces.{rises_sorted}
use Rattle.qh_buffers.proofs.HandedOut.{owed_from, none_owed_from}
use Rattle.qh_buffers.proofs.send_buffer.SendBuffer.owes.Goals as goal

pub owes-requires-clause-sorted : goal.owes-requires-clause-sorted
owes-requires-clause-sorted c = rises_sorted piece_end c.self.inside.pieces.items c.self.inside.start c.self.invariant.rises

pub returns-clause-some : goal.returns-clause-some
returns-clause-some c = λ owes.
    rw (← c.self.view_is)
    (owed_from c.self.inside.pieces.items c.self.inside.start c.args.offsets.start c.args.offsets.end c.self.invariant.rises (sym c.owes.ensures ∙ owes))

pub returns-clause-none : goal.returns-clause-none
returns-clause-none c = λ owes.
    let span = rw (← c.self.view_is) at c.requires in
    rw (← c.self.view_is)
    (none_owed_from c.self.inside.pieces.items c.self.inside.start c.args.offsets.start c.args.offsets.end c.self.invariant.rises span.is_cut_from span.is_cut_to (sym c.owes.ensures ∙ owes))
