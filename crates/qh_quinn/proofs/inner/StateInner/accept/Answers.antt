use Rattle.std.proofs.Common.{refl, sym, ap, ◌∙◌, ◌==◌, subst, Option, Some, if◌then◌else◌}
use Rattle.qh_book.specs.declared.call.Call.TheVariants as call
use Rattle.qh_core.specs.Inner.{with_streams}
use Rattle.qh_quinn.proofs.Moving.{moved}
use Rattle.qh_quinn.proofs.OpenCalls.{accepts, lost_or_waits_roomy, none_to_accept, stays_err, stays_roomy}
use Rattle.qh_conn.specs.declared.connection.Connection.{Connection}
use Rattle.qh_quinn.proofs.Writes.{on_streams}
use Rattle.qh_quinn.specs.Acting.{IsAnswered}
use Rattle.qh_quinn.specs.Readers.{new_reader}
use Rattle.qh_quinn.specs.declared.readers.Reader.{Reader}
use Rattle.qh_streams.specs.Streams.{counts_of, is_two_way, with_accepted, with_counts}
use Rattle.qh_quinn.proofs.CallParts.{quiet, undone}
use Rattle.qh_book.specs.declared.reply.Reply.TheVariants as reply
use Rattle.qh_quinn.proofs.CallStreams.{accepts_none, core_is}
use Rattle.qh_quinn.proofs.inner.StateInner.accept.Goals as goal

pub returns-in_err-reserve-clause-value : goal.returns-in_err-reserve-clause-value
returns-in_err-reserve-clause-value g c = stays_err _ c.from_residual.result _ _ c.from_residual.ensures.0 (stays_roomy c.args.self.now (record c.args.self.now { readers = c.reserve.new.self }) c.requires refl c.reserve.ensures.same)

pub returns-in_default-accept-clause-value : goal.returns-in_default-accept-clause-value
returns-in_default-accept-clause-value g c =
    let s = c.args.self.now in
    let dir = c.args.dir in
    let calm = sym c.is_emptied.ensures ∙ c.if-is_emptied.false in
    let none = c.in_default-accept.ensures.none refl in
    let result = c.closed_or_waits-in_default-accept.result in
    subst (λ (x : Connection _). IsAnswered (call.Accept dir) result s (record s { connection = x; readers = c.reserve.new.self })) (sym none.1)
    (lost_or_waits_roomy (call.Accept dir) result s (record s { readers = c.reserve.new.self }) c.requires refl c.reserve.ensures.same c.closed_or_waits-in_default-accept.ensures
    (λ notes b e shown has. let live = shown.connection.live calm in c.opens_shown.ensures.accept_lost s.connection.core.space.streams notes b dir e live.streams has (none_to_accept s.connection notes b dir live none.0))
    (λ notes b shown waits kept. let live = shown.connection.live calm in c.opens_shown.ensures.accept_waits s.connection.core.space.streams notes b dir live.streams kept (none_to_accept s.connection notes b dir live none.0)))

pub returns-clause-value : goal.returns-clause-value
returns-clause-value g c =
    let s = c.args.self.now in
    let to = c.accept.new.self in
    let e = c.in-Some-accept.ensures in
    let id = c.in-Some-accept.id in
    let dir = c.args.dir in
    let streams = s.connection.core.space.streams in
    let new = record s { connection = to; handles = c.in-Some.handles; readers = c.hold.new.self } in
    let on = on_streams s.connection to (with_counts streams (is_two_way dir) (with_accepted (counts_of streams (is_two_way dir)))) e.some.2 e.rest in
    accepts s new dir id c.requires (sym c.is_emptied.ensures ∙ c.if-is_emptied.false) e.greeted (moved s new on.0 refl) e.whole c.in-Some.ensures
    (λ k. c.hold.ensures k ∙ ap (λ (o : Option Reader). if k == id.0 then Some new_reader else o) (c.reserve.ensures.same k))
    (λ notes b shown held. c.opens_shown.ensures.accepted streams to.core.space.streams notes b id dir held on.1 e.some.0 e.some.1)

pub returns-clause-calls : goal.returns-clause-calls
returns-clause-calls g c =
    let s = c.args.self.now in
    let to = c.accept.new.self in
    let e = c.in-Some-accept.ensures in
    let streams = s.connection.core.space.streams in
    quiet (call.Accept c.args.dir) (reply.Opened c.in-Some-accept.id) s (record s { connection = to; handles = c.in-Some.handles; readers = c.hold.new.self }) e.stands (λ b. refl) (λ sends. sends)
    (record { is_next = e.some.0; came = e.some.1; is = core_is s.connection to e.rest (with_streams s.connection.core (with_counts streams (is_two_way c.args.dir) (with_accepted (counts_of streams (is_two_way c.args.dir))))) e.some.2 })

pub returns-then-is_emptied-clause-calls : goal.returns-then-is_emptied-clause-calls
returns-then-is_emptied-clause-calls g c =
    let s = c.args.self.now in
    let a = c.args in
    undone (call.Accept a.dir) c.closed_or_waits.result s (record s { readers = c.reserve.new.self }) refl (λ b shown. refl) (accepts_none a.dir c.closed_or_waits.result s.error s.connection s.connection c.closed_or_waits.ensures refl)

pub returns-in_default-accept-clause-calls : goal.returns-in_default-accept-clause-calls
returns-in_default-accept-clause-calls g c =
    let s = c.args.self.now in
    let to = c.accept.new.self in
    let a = c.args in
    let result = c.closed_or_waits-in_default-accept.result in
    let same = (c.in_default-accept.ensures.none refl).1 in
    undone (call.Accept a.dir) result s (record s { connection = to; readers = c.reserve.new.self }) same (λ b shown. refl) (accepts_none a.dir result s.error s.connection to c.closed_or_waits-in_default-accept.ensures same)
