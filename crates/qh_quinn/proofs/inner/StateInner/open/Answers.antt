use Rattle.std.proofs.Common.{refl, sym, ap, ◌∙◌, Option, Some, false, if◌then◌else◌}
use Rattle.qh_book.specs.Opening.{held_by_opener}
use Rattle.qh_quinn.proofs.Moving.{calm_if_none, moved, onward}
use Rattle.qh_quinn.proofs.OpenCalls.{opens, stays_err, stays_roomy}
use Rattle.qh_quinn.specs.Readers.{new_reader}
use Rattle.qh_quinn.specs.declared.readers.Reader.{Reader}
use Rattle.qh_quinn.proofs.CallParts.{quiet}
use Rattle.qh_book.specs.declared.call.Call.TheVariants as call
use Rattle.qh_book.specs.declared.reply.Reply.TheVariants as reply
use Rattle.qh_quinn.proofs.inner.StateInner.open.Goals as goal

pub returns-in_err-reserve-clause-value : goal.returns-in_err-reserve-clause-value
returns-in_err-reserve-clause-value g c = stays_err _ c.from_residual.result _ _ c.from_residual.ensures.0 (stays_roomy c.args.self.now (record c.args.self.now { readers = c.reserve.new.self }) c.requires refl c.reserve.ensures.same)

pub returns-clause-value : goal.returns-clause-value
returns-clause-value g c =
    let s = c.args.self.now in
    let to = c.open.new.self in
    let e = c.in_ok-id.ensures in
    let none = sym c.in_default.ensures in
    let some = rw c.in-Some-2.is at e.some in
    let id = c.in-Some-2.id in
    opens s (record s { connection = to; handles = c.in-Some-handles_with.handles; readers = c.hold_opened.new.held }) c.args.dir id c.requires (calm_if_none s c.requires none) (rw c.in-Some-2.is at e.greeted)
    (moved s (record s { connection = to; handles = c.in-Some-handles_with.handles; readers = c.hold_opened.new.held }) (onward s.connection to some.4 e.rest) refl) e.whole c.in-Some-handles_with.ensures
    (λ k. c.hold_opened.ensures k ∙ ap (λ (o : Option Reader). if held_by_opener c.args.dir id.0 (λ j. false) k then Some new_reader else o) (c.reserve.ensures.same k))
    (λ notes b shown streams. c.opens_shown.ensures.opened s.connection.core.space.streams to.core.space.streams notes b id c.args.dir streams (shown.error ∙ none) some.3 some.1 some.2)

pub returns-clause-calls : goal.returns-clause-calls
returns-clause-calls g c =
    let s = c.args.self.now in
    let to = c.open.new.self in
    let e = c.in_ok-id.ensures in
    let some = rw c.in-Some-2.is at e.some in
    let id = c.in-Some-2.id in
    quiet (call.Open c.args.dir) (reply.Opened id) s (record s { connection = to; handles = c.in-Some-handles_with.handles; readers = c.hold_opened.new.held }) e.stands (λ b. refl) (λ sends. sends)
    (record { is_next = some.1; permitted = some.2; opened = some.3; rest = onward s.connection to some.4 e.rest })
