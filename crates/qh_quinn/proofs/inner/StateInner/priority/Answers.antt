use Rattle.std.proofs.Common.{◌≡◌, ℤ, sym, subst, ◌∙◌, to_z, of_z, w32, rules}
use Rattle.qh_book.specs.declared.call.Call.TheVariants as call
use Rattle.qh_book.specs.declared.reply.Reply.TheVariants as reply
use Rattle.qh_quinn.proofs.Sends.{send_gone, told}
use Rattle.qh_quinn.proofs.Writes.{priority_told}
use Rattle.qh_quinn.specs.Acting.{IsAnswered}
use Rattle.qh_quinn.proofs.inner.StateInner.priority.Goals as goal

pub returns-in-Ok : goal.returns-in-Ok
returns-in-Ok g c =
    let s = c.args.self.now in
    let now : to_z w32 (of_z w32 c.in-Ok.priority) ≡ c.in-Ok.priority = search rules in
    subst (λ (n : ℤ). IsAnswered {T = g.row.T.Denot} (call.Priority c.args.id) (reply.Priority n) s s) (sym now)
    (told (call.Priority c.args.id) (reply.Priority c.in-Ok.priority) s c.requires
    (λ notes b shown.
    priority_told g.row.T.Denot s.connection notes b c.args.id c.in-Ok.priority (shown.connection.live (sym c.is_emptied.ensures ∙ c.if-is_emptied.false)) c.in-Ok.ensures.1 (λ streams. c.sends_told_shown.ensures.priority s.connection.core.space.streams notes b c.args.id streams)))

pub returns-in-Err : goal.returns-in-Err
returns-in-Err g c =
    let s = c.args.self.now in
    told (call.Priority c.args.id) reply.ClosedStream s c.requires
    (λ notes b shown.
    let live = shown.connection.live (sym c.is_emptied.ensures ∙ c.if-is_emptied.false) in
    c.sends_told_shown.ensures.priority_gone s.connection.core.space.streams notes b c.args.id live.streams (send_gone s.connection notes b c.args.id.0 live c.in-Err.ensures))
