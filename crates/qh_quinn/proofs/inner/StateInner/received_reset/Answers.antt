use Rattle.std.proofs.Common.{refl, sym, ap, ◌∙◌, Bool, None}
use Rattle.qh_book.specs.declared.call.Call.TheVariants as call
use Rattle.qh_book.specs.declared.reply.Reply.TheVariants as reply
use Rattle.qh_quinn.proofs.CallParts.{undone}
use Rattle.qh_quinn.proofs.CallReads.{carries_same, reset_quiet}
use Rattle.qh_quinn.proofs.CallStreams.{takes_nothing, unasked, unread_shut, unread_unheld, unread_wanting}
use Rattle.qh_quinn.proofs.ShutReads.{reset_lost, shut, unheld}
use Rattle.qh_quinn.proofs.inner.StateInner.received_reset.Goals as goal
use Rattle.qh_quinn.specs.Acting.{lost_or_pending}
use Rattle.qh_quinn.specs.Readers.{code_of}

pub returns-in_default-clause-value : goal.returns-in_default-clause-value
returns-in_default-clause-value g c =
    let a = c.args in
    unheld (call.ReceivedReset a.id) (reply.Code None) a.self.now a.id.0 c.requires (sym c.in_default.ensures) (λ b off. c.emptied_shown.ensures.unheld_reset b a.id off)

pub returns-then-not-reader-clause-value : goal.returns-then-not-reader-clause-value
returns-then-not-reader-clause-value g c =
    let a = c.args in
    shut (call.ReceivedReset a.id) (reply.Code None) a.self.now a.id.0 c.in-Some.reader c.requires (sym c.in-Some.ensures) c.if-not-reader.true
    (λ b p held page shut code. c.emptied_shown.ensures.shut_none b a.id p held page shut (code ∙ ap (λ (w : Bool). code_of w c.in-Some.reader) (sym c.is_emptied-is_emptied.ensures) ∙ sym c.in_default-code.ensures))

pub returns-then-is_emptied-clause-value : goal.returns-then-is_emptied-clause-value
returns-then-is_emptied-clause-value g c =
    let a = c.args in
    reset_lost a.id c.closed_or_waits.result a.self.now c.in-Some.reader c.requires (sym c.is_emptied-is_emptied.ensures ∙ c.if-is_emptied.true) (sym c.in-Some.ensures) c.if-not-reader.false c.closed_or_waits.ensures
    (λ b p e held page none error. c.emptied_shown.ensures.reset_lost b a.id p e held page none error)

pub returns-in_default-clause-calls : goal.returns-in_default-clause-calls
returns-in_default-clause-calls g c =
    let s = c.args.self.now in
    let a = c.args in
    undone {T = g.row.T.Denot} (call.ReceivedReset a.id) (reply.Code None) s s refl (λ b shown. refl)
    (takes_nothing {T = g.row.T.Denot} a.id.0 s s (reply.Code None) (unasked s a.id.0 (unread_unheld s a.id.0 (sym c.in_default.ensures))) refl)

pub returns-then-not-reader-clause-calls : goal.returns-then-not-reader-clause-calls
returns-then-not-reader-clause-calls g c =
    let s = c.args.self.now in
    let a = c.args in
    undone {T = g.row.T.Denot} (call.ReceivedReset a.id) (reply.Code None) s s refl (λ b shown. refl)
    (takes_nothing {T = g.row.T.Denot} a.id.0 s s (reply.Code None) (unasked s a.id.0 (unread_shut s a.id.0 c.in-Some.reader (sym c.in-Some.ensures) c.if-not-reader.true)) refl)

pub returns-then-is_emptied-clause-calls : goal.returns-then-is_emptied-clause-calls
returns-then-is_emptied-clause-calls g c =
    let a = c.args in
    let s = a.self.now in
    reset_quiet {T = g.row.T.Denot} a.id c.closed_or_waits.result s s s.connection s.error c.closed_or_waits.ensures refl (carries_same s.connection s.connection refl)
    (λ e. takes_nothing {T = g.row.T.Denot} a.id.0 s s (lost_or_pending e) (unasked s a.id.0 (unread_wanting s a.id.0 (sym c.is_emptied-is_emptied.ensures ∙ c.if-is_emptied.true))) refl)
