use Rattle.std.proofs.Common.{◌-◌, ◌++◌, List, ℕ, take, arith, ap}
use Rattle.std.proofs.lemmas.Result.{IfOk-equal}
use Rattle.qh_buffers.specs.SendBuffer.{PlainSendBuffer, taken_to}
use Rattle.qh_buffers.specs.SendState.{segment_end}
use Rattle.qh_buffers.proofs.Pieces.{rises_sorted}
use Rattle.qh_buffers.proofs.Segments.{joined_rises, joined-behind, held-behind, length-held}
use Rattle.qh_buffers.proofs.send_buffer.SendBuffer.put.Goals as goal

pub put-requires-clause-sorted : goal.put-requires-clause-sorted
put-requires-clause-sorted c =
    let s = c.self.inside in
    rises_sorted segment_end s.segments.items s.start (joined_rises s.segments.items s.start s.end c.self.invariant.joined)

pub put-requires-clause-joined : goal.put-requires-clause-joined
put-requires-clause-joined c =
    let s = c.self.inside in
    let reach = ap taken_to c.self.view_is in
    let first = ap (λ (v : PlainSendBuffer). v.start) c.self.view_is in
    let len = length-held s.segments.items s.start s.end c.self.invariant.joined in
    (s.end, joined-behind s.segments.items s.start c.args.offsets.start s.end c.self.invariant.joined (omega (arith, first)) (omega (arith, reach, len)), omega (arith, reach, len))

pub returns-clause-ok : goal.returns-clause-ok
returns-clause-ok c =
    let s = c.self.inside in
    let reach = ap taken_to c.self.view_is in
    let first = ap (λ (v : PlainSendBuffer). v.start) c.self.view_is in
    let len = length-held s.segments.items s.start s.end c.self.invariant.joined in
    let bytes = held-behind s.segments.items s.start c.args.offsets.start s.end c.self.invariant.joined (omega (arith, first)) (omega (arith, reach, len)) in
    rw (← c.self.view_is)
    (IfOk-equal c.put.result _ _ _ c.put.ensures.ok (ap (λ (xs : List ℕ). c.args.out.now.items ++ take (c.args.offsets.end - c.args.offsets.start) xs) bytes))
