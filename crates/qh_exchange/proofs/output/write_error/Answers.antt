use Rattle.std.proofs.Common.{sym, ap, ◌∙◌}
use Rattle.qh_exchange.specs.Ending.{error_line}
use Rattle.qh_exchange.proofs.Pieces.{written_as}
use Rattle.qh_exchange.proofs.output.write_error.Goals as goal

pub returns-in-OutOfRounds : goal.returns-in-OutOfRounds
returns-in-OutOfRounds g c =
    written_as _ _ _ _ _ _ _ (c.as_bytes-in-OutOfRounds.ensures.value ∙ ap error_line (sym c.in-OutOfRounds.is)) c.write_text-in-OutOfRounds.ensures
