use Rattle.std.proofs.Common.{arith}
use Rattle.qh_spec.proofs.ScriptLaws.{refused_one}
use Rattle.qh_exchange.specs.Program.{TextEnds, refused, unbuilt}
use Rattle.qh_exchange.proofs.Endings.{ends_by, one_unbuilt}
use Rattle.qh_exchange.proofs.program.refusal.Goals as goal

pub returns-in-Some : goal.returns-in-Some
returns-in-Some c = λ before link served same.
    ends_by (TextEnds c.args.text.now before link served) c.bare.result _ _ c.bare.ensures.text c.bare.ensures.last
    (unbuilt c.in-Some.unbuilt c.in-Some.ensures
    (λ m r. let e = refused_one c.args.text.now m c.args.number r c.requires in let l = c.if-unbuilt-number.true in omega (arith, e, l)) same)

pub returns-in-Some-2 : goal.returns-in-Some-2
returns-in-Some-2 c = λ before link served same.
    ends_by (TextEnds c.args.text.now before link served) c.bare-in-Some-2.result _ _ c.bare-in-Some-2.ensures.text c.bare-in-Some-2.ensures.last
    (refused c.args.number c.requires
    (λ m u. let e = one_unbuilt c.args.text.now m c.in-Some.unbuilt u c.in-Some.ensures in let l = c.if-unbuilt-number.false in omega (arith, e, l)) same)

pub returns-in-None : goal.returns-in-None
returns-in-None c = λ before link served same.
    ends_by (TextEnds c.args.text.now before link served) c.bare-in-None.result _ _ c.bare-in-None.ensures.text c.bare-in-None.ensures.last
    (refused c.args.number c.requires (λ m u. absurd (c.in-None.ensures m u)) same)
