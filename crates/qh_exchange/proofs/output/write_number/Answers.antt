use Rattle.std.proofs.Common.{◌++◌, ◌∙◌}
use Rattle.std.specs.Prelude.{decimal}
use Rattle.qh_spec.specs.Report.{newline}
use Rattle.qh_exchange.proofs.Pieces.{written_as, cut_first, then_second}
use Rattle.qh_exchange.proofs.output.write_number.Goals as goal

pub returns-then-not-write_text : goal.returns-then-not-write_text
returns-then-not-write_text g c =
    cut_first c.args.word.now (decimal c.args.number ++ newline) _ _ _ _ _ c.if-not-write_text.true (written_as _ _ _ _ _ _ _ c.as_bytes.ensures.value c.write_text.ensures)

pub returns-then-not-write_text-2 : goal.returns-then-not-write_text-2
returns-then-not-write_text-2 g c =
    then_second c.args.word.now (decimal c.args.number ++ newline) _ _ _ _ _ _ _ _ c.if-not-write_text.false
    (written_as _ _ _ _ _ _ _ c.as_bytes.ensures.value c.write_text.ensures)
    (cut_first (decimal c.args.number) newline _ _ _ _ _ c.if-not-write_text-2.true
    (written_as _ _ _ _ _ _ _ (c.as_bytes-2.ensures.value ∙ c.format.ensures.text) c.write_text-2.ensures))

pub returns : goal.returns
returns g c =
    then_second c.args.word.now (decimal c.args.number ++ newline) _ _ _ _ _ _ _ _ c.if-not-write_text.false
    (written_as _ _ _ _ _ _ _ c.as_bytes.ensures.value c.write_text.ensures)
    (then_second (decimal c.args.number) newline _ _ _ _ _ _ _ _ c.if-not-write_text-2.false
    (written_as _ _ _ _ _ _ _ (c.as_bytes-2.ensures.value ∙ c.format.ensures.text) c.write_text-2.ensures)
    (written_as _ _ _ _ _ _ _ c.as_bytes-3.ensures.value c.write_text-3.ensures))
