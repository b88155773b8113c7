use Rattle.std.proofs.Common.{refl, sym, ◌∙◌, None}
use Rattle.qh_book.specs.declared.call.Call.TheVariants as call
use Rattle.qh_book.specs.declared.reply.Reply.TheVariants as reply
use Rattle.qh_halves.specs.SendHalves.{IsResetWith}
use Rattle.qh_quinn.proofs.Sends.{sends_at, was_reset}
use Rattle.qh_quinn.proofs.Writes.{on_streams, refused_as, reset_refused}
use Rattle.qh_quinn.proofs.CallParts.{undone, woken_at}
use Rattle.qh_quinn.proofs.CallStreams.{send_changed}
use Rattle.qh_quinn.proofs.inner.StateInner.reset.Goals as goal

pub returns-in-Ok-clause-value : goal.returns-in-Ok-clause-value
returns-in-Ok-clause-value g c =
    let s = c.args.self.now in
    let e = c.in-Ok.ensures in
    let to = c.reset.new.self in
    let on = on_streams s.connection to (record s.connection.core.space.streams { send = to.core.space.streams.send }) e.ok.1 e.rest in
    sends_at (call.Reset c.args.id c.args.code) reply.Done s c.wake.new.self to None c.requires (sym c.is_emptied.ensures ∙ c.if-is_emptied.false) e.greeted c.wake.ensures on.0 e.whole
    (λ notes b shown streams. was_reset b c.args.id to.core.space.streams notes c.args.code (c.writes_shown.ensures.reset s.connection.core.space.streams to.core.space.streams notes b c.args.id streams on.1 c.args.code e.ok.0))

pub returns-in-Err-clause-value : goal.returns-in-Err-clause-value
returns-in-Err-clause-value g c =
    let s = c.args.self.now in
    let fault = c.in-Err.ensures.fault in
    refused_as (call.Reset c.args.id c.args.code) reply.ClosedStream s _ c.reset.new.self c.requires (sym c.is_emptied.ensures ∙ c.if-is_emptied.false) refl fault.1
    (λ notes b live. c.refusals_shown.ensures.reset s.connection.core.space.streams notes b c.args.id live.streams c.args.code (reset_refused s.connection notes b c.args.id.0 live fault.0))

pub returns-in-Ok-clause-calls : goal.returns-in-Ok-clause-calls
returns-in-Ok-clause-calls g c =
    let s = c.args.self.now in
    let e = c.in-Ok.ensures in
    let to = c.reset.new.self in
    woken_at (call.Reset c.args.id c.args.code) reply.Done s c.wake.new.self to c.wake.ensures (λ b shown. e.carries) (send_changed s.connection to e.rest (IsResetWith c.args.code) c.args.id.0 0 e.ok.0 e.ok.1)

pub returns-in-Err-clause-calls : goal.returns-in-Err-clause-calls
returns-in-Err-clause-calls g c =
    let s = c.args.self.now in
    let same = c.in-Err.ensures.fault.1 in
    undone (call.Reset c.args.id c.args.code) reply.ClosedStream s (record s { connection = c.reset.new.self }) same (λ b shown. refl) same
