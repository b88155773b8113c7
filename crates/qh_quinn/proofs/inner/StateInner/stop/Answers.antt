use Rattle.std.proofs.Common.{refl, sym}
use Rattle.qh_book.specs.declared.call.Call.TheVariants as call
use Rattle.qh_book.specs.declared.reply.Reply.TheVariants as reply
use Rattle.qh_quinn.proofs.CallParts.{undone}
use Rattle.qh_quinn.proofs.CallStreams.{stops_nothing, unread_shut, unread_unheld}
use Rattle.qh_quinn.proofs.ShutReads.{off, shut, unheld}
use Rattle.qh_quinn.proofs.inner.StateInner.stop.Goals as goal

pub returns-in_default-clause-value : goal.returns-in_default-clause-value
returns-in_default-clause-value g c =
    let a = c.args in
    unheld (call.Stop a.id a.code) reply.ClosedStream a.self.now a.id.0 c.requires (sym c.in_default.ensures) (λ b off. c.emptied_shown.ensures.unheld_stop b a.id a.code off)

pub returns-then-not-reader-clause-value : goal.returns-then-not-reader-clause-value
returns-then-not-reader-clause-value g c =
    let a = c.args in
    shut (call.Stop a.id a.code) reply.ClosedStream a.self.now a.id.0 c.in-Some.reader c.requires (sym c.in-Some.ensures) (off _ c.if-not-reader.true)
    (λ b p held page shut code. c.emptied_shown.ensures.shut_stop b a.id a.code p held page shut)

pub returns-in_default-clause-calls : goal.returns-in_default-clause-calls
returns-in_default-clause-calls g c =
    let s = c.args.self.now in
    let a = c.args in
    undone {T = g.row.T.Denot} (call.Stop a.id a.code) reply.ClosedStream s s refl (λ b shown. refl) (stops_nothing a.id.0 s s a.code (unread_unheld s a.id.0 (sym c.in_default.ensures)) refl)

pub returns-then-not-reader-clause-calls : goal.returns-then-not-reader-clause-calls
returns-then-not-reader-clause-calls g c =
    let s = c.args.self.now in
    let a = c.args in
    undone {T = g.row.T.Denot} (call.Stop a.id a.code) reply.ClosedStream s s refl (λ b shown. refl) (stops_nothing a.id.0 s s a.code (unread_shut s a.id.0 c.in-Some.reader (sym c.in-Some.ensures) (off c.in-Some.reader.is_open c.if-not-reader.true)) refl)
