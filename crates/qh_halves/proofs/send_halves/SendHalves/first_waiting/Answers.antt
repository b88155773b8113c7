use Rattle.std.proofs.Common.{ap}
use Rattle.qh_halves.specs.SendHalves.{PlainSendHalves}
use Rattle.qh_halves.proofs.FirstWaiting.{none_waits, next_is, skipped}
use Rattle.qh_halves.proofs.send_halves.SendHalves.first_waiting.Goals as goal

pub returns-then-waits_in-clause-some : goal.returns-then-waits_in-clause-some
returns-then-waits_in-clause-some c =
    let s = c.loop-first.self-inside in
    let same = ap (λ (v : PlainSendHalves). v.halves) c.loop-first.invariant.same in
    next_is c.args.self.now s.pending s.max_data s.data_sent s.unacked_data c.loop-first.invariant.kept c.in-Some.first c.in-Some.ensures (rw same at (c.waits_in.ensures.some c.if-waits_in.true))

pub returns-clause-none : goal.returns-clause-none
returns-clause-none c =
    let s = c.loop-first.self-inside in
    λ e. none_waits c.args.self.now s.pending s.max_data s.data_sent s.unacked_data c.loop-first.invariant.kept c.in_default.ensures

pub loop-first-preserved : goal.loop-first-preserved
loop-first-preserved c =
    let s = c.loop-first.self-inside in
    let same = ap (λ (v : PlainSendHalves). v.halves) c.loop-first.invariant.same in
    record {
      same = c.loop-first.invariant.same;
      kept = skipped c.args.self.now s.pending s.max_data s.data_sent s.unacked_data c.loop-first.invariant.kept c.remove.new.self c.in-Some.first.id (rw same at (c.waits_in.ensures.none c.if-waits_in.false)) c.remove.ensures.waits c.remove.ensures.room;
    }
