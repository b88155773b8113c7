use Rattle.std.proofs.Common.{◌∙◌}
use Rattle.std.proofs.lemmas.List.{take_all}
use Rattle.qh_base.proofs.text.Reason.copied.Goals as goal

pub returns : goal.returns
returns c = c.of.ensures ∙ take_all 128 _ c.bytes.ensures.short ∙ c.bytes.ensures.value
