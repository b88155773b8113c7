use Rattle.std.proofs.Common.{◌==◌, refl, sym}
use Rattle.qh_book.specs.declared.call.Call.TheVariants as call
use Rattle.qh_book.specs.declared.reply.Reply.TheVariants as reply
use Rattle.qh_quinn.proofs.CallParts.{undone}
use Rattle.qh_quinn.proofs.CallReads.{ended_shut, read_none}
use Rattle.qh_quinn.proofs.CallStreams.{gives_none, reads_nothing, unread_shut, unread_unheld}
use Rattle.qh_quinn.proofs.ShutReads.{off, read_shut, unheld}
use Rattle.qh_quinn.proofs.inner.StateInner.read.Goals as goal

pub returns-in_default-clause-value : goal.returns-in_default-clause-value
returns-in_default-clause-value g c =
    let a = c.args in
    unheld (call.Read a.id a.max_length a.is_ordered) reply.ClosedStream a.self.now a.id.0 c.requires (sym c.in_default.ensures) (λ b off. c.emptied_shown.ensures.unheld_read b a.id a.max_length a.is_ordered off)

pub returns-then-not-reader-clause-value : goal.returns-then-not-reader-clause-value
returns-then-not-reader-clause-value g c =
    let s = c.args.self.now in
    let a = c.args in
    read_shut a.id a.max_length a.is_ordered c.read_shut.result s c.in-Some.reader c.requires (sym c.in-Some.ensures) (off _ c.if-not-reader.true)
    (λ b p held page shut some. c.emptied_shown.ensures.shut_read b a.id a.max_length a.is_ordered p held page shut some) (λ b p held page shut. c.emptied_shown.ensures.shut_nothing b a.id a.is_ordered p 0 held page shut) c.read_shut.ensures

pub returns-in_default-clause-calls : goal.returns-in_default-clause-calls
returns-in_default-clause-calls g c =
    let s = c.args.self.now in
    let a = c.args in
    undone {T = g.row.T.Denot} (call.Read a.id a.max_length a.is_ordered) reply.ClosedStream s s refl (λ b shown. refl)
    (reads_nothing {T = g.row.T.Denot} a.id.0 a.max_length a.is_ordered s s reply.ClosedStream tt (unread_unheld s a.id.0 (sym c.in_default.ensures)) refl)

pub returns-then-not-reader-clause-calls : goal.returns-then-not-reader-clause-calls
returns-then-not-reader-clause-calls g c =
    let s = c.args.self.now in
    let a = c.args in
    let shut = off c.in-Some.reader.is_open c.if-not-reader.true in
    read_none {T = g.row.T.Denot} a.id a.max_length a.is_ordered c.read_shut.result reply.Ended (a.max_length == 0) s s c.read_shut.ensures refl
    (λ b shown. ended_shut s a.id.0 c.in-Some.reader (sym c.in-Some.ensures) shut b shown)
    (reads_nothing {T = g.row.T.Denot} a.id.0 a.max_length a.is_ordered s s c.read_shut.result (gives_none {T = g.row.T.Denot} c.read_shut.result reply.Ended (a.max_length == 0) c.read_shut.ensures tt) (unread_shut s a.id.0 c.in-Some.reader (sym c.in-Some.ensures) shut) refl)
