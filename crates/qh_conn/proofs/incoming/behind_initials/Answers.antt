use Rattle.std.proofs.Common.{refl}
use Rattle.qh_spec.specs.Parted.{EndsWith}
use Rattle.qh_conn.proofs.incoming.behind_initials.Goals as goal

pub loop-form-preserved : goal.loop-form-preserved
loop-form-preserved c = λ tail ends.
    let found = c.in-Some.ensures.found in
    c.loop-form.invariant tail (EndsWith.behind found.front c.in-Some.form.rest.now c.loop-form.rest.now c.in-Some.form.first c.in-Some.form.body.now found.whole found.form ends)

pub returns-clause-ends : goal.returns-clause-ends
returns-clause-ends c = c.loop-form.invariant c.loop-form.rest.now (EndsWith.here c.loop-form.rest.now refl)
