use Rattle.std.proofs.Common.{refl, sym, ◌∙◌, None}
use Rattle.std.specs.Prelude.{take}
use Rattle.qh_book.specs.declared.call.Call.TheVariants as call
use Rattle.qh_book.specs.declared.reply.Reply.TheVariants as reply
use Rattle.qh_halves.specs.SendHalves.{Takes}
use Rattle.qh_quinn.proofs.Moving.{calm_if_none}
use Rattle.qh_quinn.proofs.Sends.{sends_at, written}
use Rattle.qh_quinn.proofs.Writes.{on_streams, write_answers}
use Rattle.qh_quinn.proofs.CallParts.{woken_at}
use Rattle.qh_quinn.proofs.CallSends.{write_calls}
use Rattle.qh_quinn.proofs.CallStreams.{send_changed}
use Rattle.qh_quinn.proofs.inner.StateInner.write.Goals as goal

pub returns-in-Ok-clause-value : goal.returns-in-Ok-clause-value
returns-in-Ok-clause-value g c =
    let s = c.args.self.now in
    let e = c.in-Ok.ensures in
    let to = c.write.new.self in
    let none = sym c.in_default.ensures in
    let on = on_streams s.connection to (record s.connection.core.space.streams { send = to.core.space.streams.send }) e.ok.2 e.rest in
    sends_at (call.Write c.args.id c.args.payload.now) (reply.Count c.in-Ok.count) s c.wake.new.self to None c.requires (calm_if_none s c.requires none) e.greeted c.wake.ensures on.0 e.whole
    (λ notes b shown streams.
    written b c.args.id to.core.space.streams notes c.args.payload.now c.in-Ok.count
    (c.writes_shown.ensures.written s.connection.core.space.streams to.core.space.streams notes b c.args.id streams on.1 c.args.payload.now c.in-Ok.count (shown.error ∙ none) e.taken e.count e.ok.1))

pub returns-in-Err-clause-value : goal.returns-in-Err-clause-value
returns-in-Err-clause-value g c =
    let s = c.args.self.now in
    let e = c.in-Err.ensures in
    let none = sym c.in_default.ensures in
    write_answers c.args.id c.args.payload.now c.in-Err.fault c.refused_write.result s _ c.write.new.self c.requires none refl e.rest e.whole e.fault
    (λ notes b streams error fault. c.refusals_shown.ensures.write s.connection.core.space.streams notes b c.args.id streams c.args.payload.now c.in-Err.fault error fault) c.untold_shown.ensures.told c.refused_write.ensures

pub returns-in-Ok-clause-calls : goal.returns-in-Ok-clause-calls
returns-in-Ok-clause-calls g c =
    let s = c.args.self.now in
    let e = c.in-Ok.ensures in
    let to = c.write.new.self in
    let n = c.in-Ok.count in
    woken_at (call.Write c.args.id c.args.payload.now) (reply.Count n) s c.wake.new.self to c.wake.ensures (λ b shown. e.carries)
    (record { count = e.count; change = send_changed s.connection to e.rest (Takes (take n c.args.payload.now)) c.args.id.0 n e.ok.1 e.ok.2 })

pub returns-in-Err-clause-calls : goal.returns-in-Err-clause-calls
returns-in-Err-clause-calls g c =
    let s = c.args.self.now in
    let e = c.in-Err.ensures in
    write_calls c.args.id c.args.payload.now c.in-Err.fault c.refused_write.result s (record s { connection = c.write.new.self }) e.rest e.fault e.carries c.refused_write.ensures
