use Rattle.std.proofs.Common.{arith, ◌∙◌, sym}
use Rattle.qh_buffers.specs.SendState.{piece_end, held}
use Rattle.qh_buffers.proofs.Pieces.{rises_sorted}
use Rattle.qh_buffers.proofs.QueuedPieces.{first_queued-requeued}
use Rattle.qh_buffers.proofs.Acknowledged.{keeps_requeued, is_queued_again, nothing_queued_again}
use Rattle.qh_buffers.proofs.HandedOut.{none_owed_from}
use Rattle.qh_buffers.proofs.send_buffer.SendBuffer.retransmit.Goals as goal

pub owes-requires-clause-sorted : goal.owes-requires-clause-sorted
owes-requires-clause-sorted c = rises_sorted piece_end c.self.inside.pieces.items c.self.inside.start c.self.invariant.rises

pub returns-then-not-owes : goal.returns-then-not-owes
returns-then-not-owes c =
    let s = c.self.inside in
    let span = rw (← c.self.view_is) at c.requires in
    rw (← c.self.view_is)
    (nothing_queued_again s.start c.args.offsets.start c.args.offsets.end (held s.start s.segments.items) s.pieces.items
    (none_owed_from s.pieces.items s.start c.args.offsets.start c.args.offsets.end c.self.invariant.rises span.is_cut_from span.is_cut_to (sym c.owes.ensures ∙ c.if-not-owes.true)))

pub mark_between-first-requires-clause-sorted : goal.mark_between-first-requires-clause-sorted
mark_between-first-requires-clause-sorted c = rises_sorted piece_end c.self.inside.pieces.items c.self.inside.start c.self.invariant.rises

pub next_queued-self-inside-requires : goal.next_queued-self-inside-requires
next_queued-self-inside-requires c =
    rw c.mark_between-first.ensures.marks
    (first_queued-requeued c.args.offsets.start c.args.offsets.end c.min.result c.self.inside.pieces.items (omega (arith, c.min.ensures, c.self.invariant.is_next))
    (λ j d h. c.mark_between-first.ensures.first j d (omega arith) (omega (arith, c.min.ensures))))

pub invariant_of-self : goal.invariant_of-self
invariant_of-self c =
    let s = c.self.inside in
    keeps_requeued s.start c.args.offsets.start c.args.offsets.end s.end s.resend_from c.next_queued-self-inside.result s.segments.items s.pieces.items c.mark_between-first.new.pieces.items c.self.invariant c.mark_between-first.ensures.marks c.next_queued-self-inside.ensures

pub returns : goal.returns
returns c =
    let s = c.self.inside in
    let span = rw (← c.self.view_is) at c.requires in
    rw (← c.self.view_is)
    (is_queued_again s.start c.args.offsets.start c.args.offsets.end (held s.start s.segments.items) s.pieces.items c.mark_between-first.new.pieces.items c.self.invariant.rises c.mark_between-first.ensures.marks span)
