use Rattle.std.proofs.Common.{List, ℕ, inl, refl, subst, sym}
use Rattle.qh_exchange.specs.Program.{Ends, read, read_fault, unread}
use Rattle.qh_exchange.specs.Reading.{IsInput}
use Rattle.qh_exchange.proofs.Endings.{ends_by, at_some, at_none}
use Rattle.qh_exchange.proofs.program.run_exchange.Goals as goal

pub returns-in-Ok-Some : goal.returns-in-Ok-Some
returns-in-Ok-Some g c = λ words w.
    let input = at_some _ _ c.in-Ok-Some.text c.in-Ok-Some.field-0-is c.in-Ok-Some.ensures.text in
    let same = subst (λ (z : List ℕ). IsInput (g.S.Source.left c.args.source.now) (g.S.Source.left c.read_text.new.source) z) (sym c.deref.ensures.value) input.0 in
    read c.deref.result.now _ _ w same input.1 c.run_text.ensures

pub returns-in-Ok-None : goal.returns-in-Ok-None
returns-in-Ok-None g c = λ words w.
    let rose = at_none _ _ c.in-Ok-None.field-0-is c.in-Ok-None.ensures.fault in
    ends_by (Ends words (g.S.Source.left c.args.source.now) (g.S.Source.left c.read_text.new.source) (g.S.Source.faults c.args.source.now) (g.S.Source.faults c.read_text.new.source) c.args.bench.now.link c.args.bench.now.link
    c.args.bench.now.service)
    c.bare.result _ _ c.bare.ensures.text c.bare.ensures.last (read_fault (inl w) rose (record { link_is = refl; served_none = c.requires }))

pub returns-in-Err : goal.returns-in-Err
returns-in-Err g c = λ words w.
    let u = c.in-Err.ensures.unread in
    ends_by (Ends words (g.S.Source.left c.args.source.now) (g.S.Source.left c.read_text.new.source) (g.S.Source.faults c.args.source.now) (g.S.Source.faults c.read_text.new.source) c.args.bench.now.link c.args.bench.now.link
    c.args.bench.now.service)
    c.bare-in-Err.result _ _ c.bare-in-Err.ensures.text c.bare-in-Err.ensures.last (unread u.0 (inl w) u.1 u.2 u.3 (record { link_is = refl; served_none = c.requires }))
