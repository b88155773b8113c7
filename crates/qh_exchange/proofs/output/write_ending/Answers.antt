use Rattle.std.proofs.Common.{ℕ, refl, sym, subst}
use Rattle.qh_exchange.specs.Ending.{line_of, status_of, text_of}
use Rattle.qh_exchange.specs.Reading.{IsWritten}
use Rattle.qh_exchange.proofs.Pieces.{written_as, cut_first, then_second, written_eleven, written_status}
use Rattle.qh_exchange.proofs.output.write_ending.Goals as goal

pub returns-then-not-write_text : goal.returns-then-not-write_text
returns-then-not-write_text g c =
    written_eleven _ _ _ _ _ _ _ refl
    (cut_first c.args.ending.now.text.items (line_of c.args.ending.now.last) _ _ _ _ _ c.if-not-write_text.true
    (written_as _ _ _ _ _ _ _ c.deref.ensures.value c.write_text.ensures))

pub returns-then-not-write_line : goal.returns-then-not-write_line
returns-then-not-write_line g c =
    written_eleven _ _ _ _ _ _ _ c.if-not-write_line.true
    (then_second c.args.ending.now.text.items (line_of c.args.ending.now.last) _ _ _ _ _ _ _ _ c.if-not-write_text.false
    (written_as _ _ _ _ _ _ _ c.deref.ensures.value c.write_text.ensures) c.write_line.ensures)

pub returns : goal.returns
returns g c =
    subst
    (λ (z : ℕ). IsWritten (status_of c.args.ending.now.last) (text_of c.args.ending.now) (g.K.Sink.written c.args.sink.now) (g.K.Sink.written c.write_line.new.sink)
    (g.K.Sink.faults c.args.sink.now) (g.K.Sink.faults c.write_line.new.sink) z)
    (sym c.status.ensures)
    (written_status _ _ _ _ _ _ _ c.if-not-write_line.false
    (then_second c.args.ending.now.text.items (line_of c.args.ending.now.last) _ _ _ _ _ _ _ _ c.if-not-write_text.false
    (written_as _ _ _ _ _ _ _ c.deref.ensures.value c.write_text.ensures) c.write_line.ensures))
