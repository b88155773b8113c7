use Rattle.std.proofs.Common.{map, refl, sym, subst}
use Rattle.std.specs.Prelude.{string_bytes}
use Rattle.qh_script.specs.declared.command.Command.{Command}
use Rattle.qh_script.specs.Command.{plain_command}
use Rattle.qh_exchange.specs.Program.{Ends, usage, unbuilt_words}
use Rattle.qh_exchange.proofs.Endings.{ends_by, IsOther, other_make, other_workers}
use Rattle.qh_exchange.proofs.program.ending_of.Goals as goal

pub returns-in-None-clause-ends : goal.returns-in-None-clause-ends
returns-in-None-clause-ends g c =
    ends_by (Ends (map string_bytes c.args.words.now) (g.S.Source.left c.args.source.now) (g.S.Source.left c.args.source.now) (g.S.Source.faults c.args.source.now) (g.S.Source.faults c.args.source.now) c.args.bench.now.link c.args.bench.now.link c.args.bench.now.service)
    c.bare-in-None.result _ _ c.bare-in-None.ensures.text c.bare-in-None.ensures.last (usage c.in-None.ensures refl refl (record { link_is = refl; served_none = c.requires }))

pub returns-in-Some-Make-clause-ends : goal.returns-in-Some-Make-clause-ends
returns-in-Some-Make-clause-ends g c =
    let other = subst (λ (k : Command). IsOther (plain_command k)) (sym c.in-Some-Make.field-0-is) other_make in
    ends_by (Ends (map string_bytes c.args.words.now) (g.S.Source.left c.args.source.now) (g.S.Source.left c.args.source.now) (g.S.Source.faults c.args.source.now) (g.S.Source.faults c.args.source.now) c.args.bench.now.link c.args.bench.now.link c.args.bench.now.service)
    c.bare.result _ _ c.bare.ensures.text c.bare.ensures.last (unbuilt_words _ c.in-Some-Make.ensures other.0 other.1 refl refl (record { link_is = refl; served_none = c.requires }))

pub returns-in-Some-Workers-clause-ends : goal.returns-in-Some-Workers-clause-ends
returns-in-Some-Workers-clause-ends g c =
    let other = subst (λ (k : Command). IsOther (plain_command k)) (sym c.in-Some-Workers.field-0-is) other_workers in
    ends_by (Ends (map string_bytes c.args.words.now) (g.S.Source.left c.args.source.now) (g.S.Source.left c.args.source.now) (g.S.Source.faults c.args.source.now) (g.S.Source.faults c.args.source.now) c.args.bench.now.link c.args.bench.now.link c.args.bench.now.service)
    c.bare-in-Some-Workers.result _ _ c.bare-in-Some-Workers.ensures.text c.bare-in-Some-Workers.ensures.last (unbuilt_words _ c.in-Some-Workers.ensures other.0 other.1 refl refl (record { link_is = refl; served_none = c.requires }))
