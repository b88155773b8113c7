use Rattle.std.proofs.Common.{refl, sym, ◌∙◌, None}
use Rattle.qh_book.specs.declared.call.Call.TheVariants as call
use Rattle.qh_book.specs.declared.reply.Reply.TheVariants as reply
use Rattle.qh_half.specs.declared.fault.FinishFault.TheVariants as finish
use Rattle.qh_halves.specs.SendHalves.{Finishes}
use Rattle.qh_quinn.proofs.Sends.{finished, sends_at}
use Rattle.qh_quinn.proofs.Writes.{finish_refused, on_streams}
use Rattle.qh_quinn.proofs.CallParts.{undone}
use Rattle.qh_quinn.proofs.CallSends.{finished_calls, needless_calls}
use Rattle.qh_quinn.proofs.CallStreams.{send_changed}
use Rattle.qh_quinn.proofs.inner.StateInner.finish.Goals as goal

pub returns-in-Ok-clause-value : goal.returns-in-Ok-clause-value
returns-in-Ok-clause-value g c =
    let s = c.args.self.now in
    let e = c.in-Ok.ensures in
    let to = c.finish.new.self in
    let on = on_streams s.connection to (record s.connection.core.space.streams { send = to.core.space.streams.send }) e.ok.1 e.rest in
    sends_at (call.Finish c.args.id) reply.Done s c.wake.new.self to None c.requires (sym c.is_emptied.ensures ∙ c.if-is_emptied.false) e.greeted c.wake.ensures on.0 e.whole
    (λ notes b shown streams. finished b c.args.id to.core.space.streams notes (c.writes_shown.ensures.finished s.connection.core.space.streams to.core.space.streams notes b c.args.id streams on.1 e.ok.0))

pub returns-in-Err-Stopped-clause-value : goal.returns-in-Err-Stopped-clause-value
returns-in-Err-Stopped-clause-value g c =
    let s = c.args.self.now in
    finish_refused c.args.id (finish.Stopped c.in-Err-Stopped.field-0-0) s _ c.finish.new.self c.requires (sym c.is_emptied.ensures ∙ c.if-is_emptied.false) refl (rw c.in-Err-Stopped.field-0-is at c.in-Err-Stopped.ensures.fault)
    (λ notes b streams is. c.refusals_shown.ensures.finish s.connection.core.space.streams notes b c.args.id streams (finish.Stopped c.in-Err-Stopped.field-0-0) is)

pub returns-in-Err-ClosedStream-clause-value : goal.returns-in-Err-ClosedStream-clause-value
returns-in-Err-ClosedStream-clause-value g c =
    let s = c.args.self.now in
    finish_refused c.args.id finish.ClosedStream s _ c.finish.new.self c.requires (sym c.is_emptied.ensures ∙ c.if-is_emptied.false) refl (rw c.in-Err-ClosedStream.field-0-is at c.in-Err-ClosedStream.ensures.fault)
    (λ notes b streams is. c.refusals_shown.ensures.finish s.connection.core.space.streams notes b c.args.id streams finish.ClosedStream is)

pub returns-in-Ok-clause-calls : goal.returns-in-Ok-clause-calls
returns-in-Ok-clause-calls g c =
    let s = c.args.self.now in
    let e = c.in-Ok.ensures in
    let to = c.finish.new.self in
    finished_calls c.args.id s c.wake.new.self to c.refusals_shown.ensures.half (sym c.is_emptied.ensures ∙ c.if-is_emptied.false) c.wake.ensures
    (send_changed s.connection to e.rest Finishes c.args.id.0 0 e.ok.0 e.ok.1) e.carries

pub returns-in-Err-Stopped-clause-calls : goal.returns-in-Err-Stopped-clause-calls
returns-in-Err-Stopped-clause-calls g c =
    let s = c.args.self.now in
    let fault = rw c.in-Err-Stopped.field-0-is at c.in-Err-Stopped.ensures.fault in
    needless_calls c.args.id c.in-Err-Stopped.field-0-0 s (record s { connection = c.finish.new.self }) c.refusals_shown.ensures.half (sym c.is_emptied.ensures ∙ c.if-is_emptied.false) fault.1 fault.0

pub returns-in-Err-ClosedStream-clause-calls : goal.returns-in-Err-ClosedStream-clause-calls
returns-in-Err-ClosedStream-clause-calls g c =
    let s = c.args.self.now in
    let same = c.in-Err-ClosedStream.ensures.fault.1 in
    undone (call.Finish c.args.id) reply.ClosedStream s (record s { connection = c.finish.new.self }) same (λ b shown. refl) same
