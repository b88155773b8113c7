use Rattle.std.proofs.Common.{◌≡◌, refl, sym, ◌∙◌, to_z, of_z, w32, rules}
use Rattle.qh_book.specs.declared.call.Call.TheVariants as call
use Rattle.qh_book.specs.declared.reply.Reply.TheVariants as reply
use Rattle.qh_halves.specs.SendHalves.{HasPriority}
use Rattle.qh_quinn.proofs.Sends.{send_gone, sends_at, was_set}
use Rattle.qh_quinn.proofs.Writes.{on_streams, refused_as}
use Rattle.qh_quinn.proofs.CallParts.{quiet, undone}
use Rattle.qh_quinn.proofs.CallStreams.{send_changed}
use Rattle.qh_quinn.proofs.inner.StateInner.set_priority.Goals as goal

pub returns-in-Ok-clause-value : goal.returns-in-Ok-clause-value
returns-in-Ok-clause-value g c =
    let s = c.args.self.now in
    let e = c.in-Ok.ensures in
    let now : to_z w32 (of_z w32 c.args.priority) ≡ c.args.priority = search rules in
    let ok = rw now at e.ok in
    let to = c.set_priority.new.self in
    let on = on_streams s.connection to (record s.connection.core.space.streams { send = to.core.space.streams.send }) e.ok.1 e.rest in
    sends_at (call.SetPriority c.args.id c.args.priority) reply.Done s _ to s.driver c.requires (sym c.is_emptied.ensures ∙ c.if-is_emptied.false) e.greeted refl on.0 e.whole
    (λ notes b shown streams. was_set b c.args.id to.core.space.streams notes c.args.priority (c.writes_shown.ensures.priority s.connection.core.space.streams to.core.space.streams notes b c.args.id streams on.1 c.args.priority ok.0))

pub returns-in-Err-clause-value : goal.returns-in-Err-clause-value
returns-in-Err-clause-value g c =
    let s = c.args.self.now in
    let fault = c.in-Err.ensures.fault in
    refused_as (call.SetPriority c.args.id c.args.priority) reply.ClosedStream s _ c.set_priority.new.self c.requires (sym c.is_emptied.ensures ∙ c.if-is_emptied.false) refl fault.1
    (λ notes b live. c.sends_told_shown.ensures.set_gone s.connection.core.space.streams notes b c.args.id live.streams c.args.priority (send_gone s.connection notes b c.args.id.0 live fault.0))

pub returns-in-Ok-clause-calls : goal.returns-in-Ok-clause-calls
returns-in-Ok-clause-calls g c =
    let s = c.args.self.now in
    let e = c.in-Ok.ensures in
    let to = c.set_priority.new.self in
    let now : to_z w32 (of_z w32 c.args.priority) ≡ c.args.priority = search rules in
    let ok = rw now at e.ok in
    quiet (call.SetPriority c.args.id c.args.priority) reply.Done s (record s { connection = to }) e.stands (λ b. refl) (λ sends. sends) (send_changed s.connection to e.rest (HasPriority c.args.priority) c.args.id.0 0 ok.0 ok.1)

pub returns-in-Err-clause-calls : goal.returns-in-Err-clause-calls
returns-in-Err-clause-calls g c =
    let s = c.args.self.now in
    let same = c.in-Err.ensures.fault.1 in
    undone (call.SetPriority c.args.id c.args.priority) reply.ClosedStream s (record s { connection = c.set_priority.new.self }) same (λ b shown. refl) same
