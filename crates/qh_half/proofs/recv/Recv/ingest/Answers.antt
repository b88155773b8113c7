use Rattle.std.proofs.Common.{◌≡◌, true, false, None, sym, ap, ◌∙◌}
use Rattle.qh_buffers.specs.Assembler.{end_of, IsInserted}
use Rattle.qh_half.specs.Recv.{PlainRecv, ingest_fault, keeps_bytes}
use Rattle.qh_half.proofs.RecvIngested.{end_exact, recv_ingested}
use Rattle.qh_half.proofs.recv.Recv.ingest.Goals as goal

pub invariant_of-self-2 : goal.invariant_of-self-2
invariant_of-self-2 c =
    let s = c.self.inside in
    let r : PlainRecv = record { assembler = s.assembler; end = s.end; sent_max_stream_data = s.sent_max_stream_data; state = s.state; is_stopped = s.is_stopped; is_given = s.is_given; is_unordered = s.is_unordered; limit_mark = s.limit_mark; stop_frame = s.stop_frame } in
    let to = c.end_of-to.result in
    let fault : c.ingest_fault.result ≡ ingest_fault r to c.args.fin c.args.received c.args.max_data =
    c.ingest_fault.ensures ∙ ap (λ (x : PlainRecv). ingest_fault x to c.args.fin c.args.received c.args.max_data) (sym c.self.view_is) in
    let none : ingest_fault r to c.args.fin c.args.received c.args.max_data ≡ None = sym fault ∙ c.in_default.is in
    let kept : c.keeps_bytes-is_kept.result ≡ keeps_bytes r = c.keeps_bytes-is_kept.ensures ∙ ap keeps_bytes (sym c.self.view_is) in
    let exact = end_exact r to (end_of c.args.piece) c.args.fin c.args.received c.args.max_data c.self.invariant c.end_of-to.ensures none in
    let wanted : keeps_bytes r ≡ true → IsInserted s.assembler c.keep.new.assembler c.args.piece = λ h. c.in_ok-keep.ensures.wanted (kept ∙ h) in
    let dropped : keeps_bytes r ≡ false → c.keep.new.assembler ≡ s.assembler = λ h. c.in_ok-keep.ensures.dropped (kept ∙ h) in
    rw c.saturating_sub-fresh.ensures
    (recv_ingested r c.self.invariant c.keep.new.assembler c.args.piece c.args.fin to exact wanted dropped c.args.received c.args.max_data c.ingested-self-inside.result none c.ingested-self-inside.ensures)
