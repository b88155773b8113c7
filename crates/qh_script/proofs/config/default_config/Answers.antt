use Rattle.std.proofs.Common.{refl, sym, subst, ◌∙◌}
use Rattle.qh_spec.specs.Config.{PlainConfig, Fits, default_config}
use Rattle.qh_spec.proofs.ScriptRows.{default_fits}
use Rattle.qh_script.proofs.config.default_config.Goals as goal

pub returns-clause-default : goal.returns-clause-default
unfolding default_config
returns-clause-default c = c.default_with.ensures ∙ rw c.in_ok-versions.ensures.items refl

pub returns-clause-fits : goal.returns-clause-fits
unfolding default_config
returns-clause-fits c =
    subst (λ (x : PlainConfig). Fits x) (sym (c.default_with.ensures ∙ rw c.in_ok-versions.ensures.items refl)) default_fits
