use Rattle.std.proofs.Common.{refl, sym}
use Rattle.std.proofs.lemmas.Result.{IfErr-weaker}
use Rattle.qh_halves.proofs.RecvSteps.{begun_keeps}
use Rattle.qh_halves.proofs.RecvHalvesStepped.{are_kept}
use Rattle.qh_halves.proofs.MapWritten.{same_written}
use Rattle.qh_halves.proofs.recv_halves.RecvHalves.begin_read.Goals as goal

pub returns-clause-fault : goal.returns-clause-fault
returns-clause-fault c =
    let half = c.in-Some.ensures in
    let written = c.get_mut.follows.holds c.begin_read.new.self in
    rw (← c.self.view_is)
    (IfErr-weaker c.begin_read.result _ _ (λ e fault. let same = same_written _ c.args.id _ _ (sym half.value) _ written.0 fault.1 in (rw (sym half.value) fault.0, rw same refl)) c.begin_read.ensures.fault)

pub invariant_of-self-2 : goal.invariant_of-self-2
invariant_of-self-2 c =
    let half = c.in-Some.ensures in
    let next = c.begin_read.new.self in
    let written = c.get_mut.follows.holds next in
    let kept = begun_keeps c.in-Some.half.now next c.args.ordered c.self.inside.stream_window c.begin_read.result c.begin_read.ensures.ok c.begin_read.ensures.fault in
    are_kept _ _ _ _ _ _ c.args.id c.in-Some.half.now next c.self.invariant (sym half.value) written.0 kept.0 kept.1
