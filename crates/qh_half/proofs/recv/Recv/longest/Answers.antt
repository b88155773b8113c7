use Rattle.std.proofs.Common.{◌≡◌, ◌&&◌, not, refl, ◌∙◌}
use Rattle.qh_half.specs.Recv.{PlainRecv}
use Rattle.qh_half.proofs.RecvReads.{reads_at_most}
use Rattle.qh_half.proofs.recv.Recv.longest.Goals as goal
use Rattle.qh_half.proofs.recv.Recv.longest.Goals.{then-ordered, else-ordered}

pub returns-clause-enough : goal.returns-clause-enough
returns-clause-enough c =
    let s = c.self.inside in
    let r : PlainRecv = record { assembler = s.assembler; end = s.end; sent_max_stream_data = s.sent_max_stream_data; state = s.state; is_stopped = s.is_stopped; is_given = s.is_given; is_unordered = s.is_unordered; limit_mark = s.limit_mark; stop_frame = s.stop_frame } in
    rw (← c.self.view_is) (reads_at_most r c.args.ordered c.if-ordered.longest c.args.max_length c.longest.result (elim c.if-ordered.branch [
      | then-ordered w ↦ rw (w.longest-is, w.if-ordered.true) refl
      | else-ordered w ↦ rw (w.longest-is, w.if-ordered.false) refl
    ]) c.longest.ensures.in_order c.longest.ensures.least)

pub returns-clause-waits : goal.returns-clause-waits
returns-clause-waits c =
    let s = c.self.inside in
    let e : c.if-ordered.longest ≡ (c.args.ordered && not s.is_unordered) = elim c.if-ordered.branch [
      | then-ordered w ↦ rw (w.longest-is, w.if-ordered.true) refl
      | else-ordered w ↦ rw (w.longest-is, w.if-ordered.false) refl
    ] in
    rw (← c.self.view_is) (λ is. c.longest.ensures.waits (e ∙ is))
