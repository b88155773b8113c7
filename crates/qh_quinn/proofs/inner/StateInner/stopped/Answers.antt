use Rattle.std.proofs.Common.{refl, sym, ◌∙◌, Some, None}
use Rattle.qh_book.specs.declared.call.Call.TheVariants as call
use Rattle.qh_book.specs.declared.reply.Reply.TheVariants as reply
use Rattle.qh_quinn.proofs.Moving.{never_none}
use Rattle.qh_quinn.proofs.Sends.{lost_or_waits, send_gone, told}
use Rattle.qh_quinn.proofs.Writes.{half_there, stop_unknown}
use Rattle.qh_quinn.proofs.inner.StateInner.stopped.Goals as goal

pub returns-then-is_emptied : goal.returns-then-is_emptied
returns-then-is_emptied g c =
    let s = c.args.self.now in
    let wanting = sym c.is_emptied.ensures ∙ c.if-is_emptied.true in
    lost_or_waits (call.Stopped c.args.id) c.closed_or_waits.result s c.requires c.closed_or_waits.ensures (λ notes b e shown has error. (stop_unknown s notes b c.args.id.0 e shown wanting error, error, refl))
    (λ notes b shown none error. absurd (never_none s notes b c.requires shown wanting none))

pub returns-in-Ok-None : goal.returns-in-Ok-None
returns-in-Ok-None g c =
    let s = c.args.self.now in
    let calm = sym c.is_emptied.ensures ∙ c.if-is_emptied.false in
    let half = half_there _ None c.in-Ok-None.ensures.ok.1 (rw c.in-Ok-None.field-0-is at c.in-Ok-None.ensures.code) in
    lost_or_waits (call.Stopped c.args.id) c.closed_or_waits-in-Ok-None.result s c.requires c.closed_or_waits-in-Ok-None.ensures
    (λ notes b e shown has error. c.sends_told_shown.ensures.stop_lost s.connection.core.space.streams notes b c.args.id (shown.connection.live calm).streams half.0 half.1 e half.2 error)
    (λ notes b shown none error. c.sends_told_shown.ensures.stop_waits s.connection.core.space.streams notes b c.args.id (shown.connection.live calm).streams half.0 half.1 half.2 error)

pub returns-in-Ok-Some : goal.returns-in-Ok-Some
returns-in-Ok-Some g c =
    let s = c.args.self.now in
    let calm = sym c.is_emptied.ensures ∙ c.if-is_emptied.false in
    let half = half_there _ (Some c.in-Ok-Some.code) c.in-Ok-Some.ensures.ok.1 (rw c.in-Ok-Some.field-0-is at c.in-Ok-Some.ensures.code) in
    told (call.Stopped c.args.id) (reply.Code (Some c.in-Ok-Some.code)) s c.requires
    (λ notes b shown. c.sends_told_shown.ensures.stop s.connection.core.space.streams notes b c.args.id (shown.connection.live calm).streams half.0 half.1 c.in-Ok-Some.code half.2)

pub returns-in-Err : goal.returns-in-Err
returns-in-Err g c =
    let s = c.args.self.now in
    let calm = sym c.is_emptied.ensures ∙ c.if-is_emptied.false in
    told (call.Stopped c.args.id) (reply.Code None) s c.requires
    (λ notes b shown.
    let live = shown.connection.live calm in
    c.sends_told_shown.ensures.stop_gone s.connection.core.space.streams notes b c.args.id live.streams live.kept (send_gone s.connection notes b c.args.id.0 live c.in-Err.ensures.code))
