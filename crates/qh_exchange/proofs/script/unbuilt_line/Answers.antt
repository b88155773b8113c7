use Rattle.std.proofs.Common.{ap, sym, ◌∙◌}
use Rattle.std.proofs.lemmas.Bool.{false≢true}
use Rattle.qh_exchange.specs.Unbuilt.{is_unbuilt_word}
use Rattle.qh_exchange.proofs.Unbuilt.{seen_more, seen_found, seen_all, no_length}
use Rattle.qh_exchange.proofs.script.unbuilt_line.Goals as goal

pub returns-then-is_unbuilt : goal.returns-then-is_unbuilt
returns-then-is_unbuilt c =
    seen_found c.args.text.now c.loop-rest.rest.now c.cut_line.result.0.now c.cut_line.result.1.now c.loop-rest.number c.loop-rest.invariant c.cut_line.ensures.cut
    (ap is_unbuilt_word (sym c.first_word.ensures) ∙ sym c.if-is_unbuilt.ensures)

pub loop-rest-preserved : goal.loop-rest-preserved
loop-rest-preserved c =
    seen_more c.args.text.now c.loop-rest.rest.now c.cut_line.result.0.now c.cut_line.result.1.now c.loop-rest.number c.loop-rest.invariant c.cut_line.ensures.cut
    c.cut_line.ensures.shorter
    (λ u. false≢true (c.if-is_unbuilt.ensures ∙ ap is_unbuilt_word c.first_word.ensures ∙ u))

pub returns : goal.returns
returns c = seen_all c.args.text.now c.loop-rest.rest.now c.loop-rest.number c.loop-rest.invariant (no_length _ (sym c.loop-rest-test.false ∙ c.is_empty.ensures))
