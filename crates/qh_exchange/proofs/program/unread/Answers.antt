use Rattle.qh_spec.proofs.ScriptLaws.{not_both}
use Rattle.qh_exchange.specs.Program.{TextEnds, unbuilt, wanting}
use Rattle.qh_exchange.proofs.Endings.{ends_by}
use Rattle.qh_exchange.proofs.program.unread.Goals as goal

pub returns-in-Some : goal.returns-in-Some
returns-in-Some c = λ before link served same.
    ends_by (TextEnds c.args.text.now before link served) c.bare.result _ _ c.bare.ensures.text c.bare.ensures.last
    (unbuilt c.in-Some.field-0 c.in-Some.ensures (λ m r. absurd (not_both c.args.text.now _ m c.requires.1 r)) same)

pub returns-in-None : goal.returns-in-None
returns-in-None c = λ before link served same.
    ends_by (TextEnds c.args.text.now before link served) c.bare-in-None.result _ _ c.bare-in-None.ensures.text c.bare-in-None.ensures.last
    (wanting c.requires.0 c.requires.1 c.in-None.ensures same)
