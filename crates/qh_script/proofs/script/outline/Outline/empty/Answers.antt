use Rattle.std.proofs.Common.{refl, ◌∙◌}
use Rattle.qh_spec.proofs.ScriptRows.{default_fits}
use Rattle.qh_script.proofs.script.outline.Outline.empty.Goals as goal

pub returns : goal.returns
returns c = record {
  count = refl;
  config = c.default_with.ensures ∙ rw c.new.ensures.items refl;
  versions = default_fits.versions;
}
