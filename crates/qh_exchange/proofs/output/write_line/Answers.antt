use Rattle.std.proofs.Common.{sym, ap, ◌∙◌}
use Rattle.qh_exchange.specs.Ending.{error_line, line_of, unlisted_line}
use Rattle.qh_exchange.proofs.Pieces.{written_as, written_nothing, cut_first, then_second}
use Rattle.qh_exchange.proofs.output.write_line.Goals as goal

pub returns-in-Done : goal.returns-in-Done
returns-in-Done g c = written_as _ _ _ _ _ _ _ (ap line_of (sym c.in-Done.is)) (written_nothing _ _)

pub returns-in-Unknown : goal.returns-in-Unknown
returns-in-Unknown g c = written_as _ _ _ _ _ _ _ (c.as_bytes.ensures.value ∙ ap line_of (sym c.in-Unknown.is)) c.write_text.ensures

pub returns-then-not-write_text : goal.returns-then-not-write_text
returns-then-not-write_text g c =
    written_as _ _ _ _ _ _ _ (ap line_of (sym c.in-Unlisted.is))
    (cut_first unlisted_line (error_line c.in-Unlisted.error) _ _ _ _ _ c.if-not-write_text.true
    (written_as _ _ _ _ _ _ _ c.as_bytes-in-Unlisted.ensures.value c.write_text-in-Unlisted.ensures))

pub returns-else-not-write_text : goal.returns-else-not-write_text
returns-else-not-write_text g c =
    written_as _ _ _ _ _ _ _ (ap line_of (sym c.in-Unlisted.is))
    (then_second unlisted_line (error_line c.in-Unlisted.error) _ _ _ _ _ _ _ _ c.if-not-write_text.false
    (written_as _ _ _ _ _ _ _ c.as_bytes-in-Unlisted.ensures.value c.write_text-in-Unlisted.ensures) c.write_error-in-Unlisted.ensures)
