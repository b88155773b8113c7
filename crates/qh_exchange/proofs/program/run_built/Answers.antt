use Rattle.std.proofs.Common.{refl}
use Rattle.qh_spec.proofs.ScriptLaws.{not_both}
use Rattle.qh_exchange.specs.Program.{TextEnds, unbuilt, ran}
use Rattle.qh_exchange.proofs.Endings.{ends_by}
use Rattle.qh_exchange.proofs.program.run_built.Goals as goal

pub returns-in-Some : goal.returns-in-Some
returns-in-Some c =
    ends_by (TextEnds c.args.text.now _ _ _) c.bare.result _ _ c.bare.ensures.text c.bare.ensures.last
    (unbuilt c.in-Some.field-0 c.in-Some.ensures (λ m r. absurd (not_both c.args.text.now _ m c.requires.script r)) (record { link_is = refl; served_none = c.requires.served }))

pub returns-in-None : goal.returns-in-None
returns-in-None c = ran _ _ _ c.requires.script c.in-None.ensures c.run_script.ensures
