use Rattle.std.proofs.Common.{refl}
use Rattle.qh_core.specs.declared.state.Close.TheVariants.{Connection}
use Rattle.qh_core.proofs.inner.Inner.close_by_fault.Goals as goal

pub returns : goal.returns
returns g c = record {
  reason = Connection (record { code = c.args.error.code; frame = c.args.error.frame; reason = c.copied.result });
  says = record {
    close = record { code = c.args.error.code; frame = c.args.error.frame; reason = c.copied.result };
    reason_is = refl;
    code_is = refl;
    frame_is = refl;
    text_is = c.copied.ensures;
  };
  closed = c.close_with.ensures;
}
