use Rattle.std.proofs.Common.{subst}
use Rattle.qh_core.proofs.FrameSteps.{first_read, refused_first, unrefused}
use Rattle.qh_core.specs.Receiving.{IsFaulted}
use Rattle.qh_core.specs.Receiving.StopsUnrefused.{here}
use Rattle.qh_core.specs.declared.inner.Inner.{Inner}
use Rattle.qh_space.specs.declared.data_space.DataSpace.{DataSpace}
use Rattle.qh_core.proofs.inner.Inner.refuse_unnoted.Goals as goal

pub returns-in_default-clause-wanting : goal.returns-in_default-clause-wanting
returns-in_default-clause-wanting g c = absurd (first_read c.args.frames.now c.requires.valid.0 c.requires.valid.1 c.in_default.ensures.none)

pub returns-in-Err-Transport-clause-ok : goal.returns-in-Err-Transport-clause-ok
returns-in-Err-Transport-clause-ok g c = (
  c.in-Err-Transport.error,
  refused_first c.args.now.0 c.args.frames.now c.in-Ok.field-0-1.now c.args.self.now.space c.in-Ok.frame c.in-Err-Transport.field-0 c.in-Err-Transport.error
      c.in-Ok.ensures.found c.in-Ok.ensures.kind c.in-Err-Transport.ensures.fault c.in-Err-Transport.field-0-is,
  subst (λ (s : DataSpace). IsFaulted c.args.now c.in-Err-Transport.error (record c.args.self.now { space = s }) c.close_by_fault.new.self) c.in-Err-Transport.ensures.err c.close_by_fault.ensures,
)

pub returns-in-Err-Memory-clause-wanting : goal.returns-in-Err-Memory-clause-wanting
returns-in-Err-Memory-clause-wanting g c =
    here c.args.frames.now c.in-Ok.field-0-1.now c.in-Ok.frame c.args.self.now.space c.in-Ok.ensures.found
    (unrefused c.args.self.now.space c.in-Ok.frame c.in-Err-Memory.field-0 c.in-Err-Memory.ensures.fault c.in-Err-Memory.field-0-is)

pub returns-in-Ok-take_frame-clause-wanting : goal.returns-in-Ok-take_frame-clause-wanting
returns-in-Ok-take_frame-clause-wanting g c = here c.args.frames.now c.in-Ok.field-0-1.now c.in-Ok.frame c.args.self.now.space c.in-Ok.ensures.found c.in-Ok-take_frame.ensures.taken
