use Rattle.qh_half.specs.Recv.{PlainRecv}
use Rattle.qh_half.proofs.RecvReads.{below_after, recv_after, next_waits}
use Rattle.qh_buffers.proofs.AssemblerReads.{at_err}
use Rattle.qh_half.proofs.recv.Recv.give_bytes.Goals as goal

pub counts_below-requires : goal.counts_below-requires
counts_below-requires c =
    let s = c.self.inside in
    let r : PlainRecv = record { assembler = s.assembler; end = s.end; sent_max_stream_data = s.sent_max_stream_data; state = s.state; is_stopped = s.is_stopped; is_given = s.is_given; is_unordered = s.is_unordered; limit_mark = s.limit_mark; stop_frame = s.stop_frame } in
    below_after r c.self.invariant c.read.new.self c.args.max_length c.in_ok-piece.piece c.in_ok-piece.ensures.none c.in_ok-piece.ensures.some

pub invariant_of-self-2 : goal.invariant_of-self-2
invariant_of-self-2 c =
    let s = c.self.inside in
    let r : PlainRecv = record { assembler = s.assembler; end = s.end; sent_max_stream_data = s.sent_max_stream_data; state = s.state; is_stopped = s.is_stopped; is_given = s.is_given; is_unordered = s.is_unordered; limit_mark = s.limit_mark; stop_frame = s.stop_frame } in
    recv_after r c.self.invariant c.read.new.self c.args.max_length c.in_ok-piece.piece c.in_ok-piece.ensures.none c.in_ok-piece.ensures.some c.counts_below.ensures

pub returns-in_err-piece-clause-waits : goal.returns-in_err-piece-clause-waits
returns-in_err-piece-clause-waits c = at_err c.from_residual.result _ (rw (← c.self.view_is) c.in_err-piece.ensures.lacks.waits)

pub returns-in_err-piece-clause-lacks : goal.returns-in_err-piece-clause-lacks
returns-in_err-piece-clause-lacks c =
    let s = c.self.inside in
    let r : PlainRecv = record { assembler = s.assembler; end = s.end; sent_max_stream_data = s.sent_max_stream_data; state = s.state; is_stopped = s.is_stopped; is_given = s.is_given; is_unordered = s.is_unordered; limit_mark = s.limit_mark; stop_frame = s.stop_frame } in
    at_err c.from_residual.result _ (rw (← c.self.view_is) (next_waits r c.in_err-piece.ensures.lacks))
