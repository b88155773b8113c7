use Rattle.std.proofs.Common.{refl, sym, subst, true, ◌∙◌}
use Rattle.qh_book.specs.declared.call.Call.TheVariants as call
use Rattle.qh_book.specs.declared.reply.Reply.TheVariants as reply
use Rattle.qh_quinn.proofs.DatagramCalls.{datagram_answers, sent_steps, waits_steps}
use Rattle.qh_quinn.proofs.StatesKept.{calm_unlost, rest_self}
use Rattle.qh_quinn.specs.Acting.{IsAnswered}
use Rattle.qh_quinn.specs.declared.inner.StateInner.{StateInner}
use Rattle.qh_quinn.proofs.CallDatagrams.{queued}
use Rattle.qh_quinn.proofs.CallParts.{nothing_more, quiet, woken_at}
use Rattle.qh_quinn.proofs.inner.StateInner.send_datagram.Goals as goal

pub returns-in-Ok-clause-value : goal.returns-in-Ok-clause-value
returns-in-Ok-clause-value g c =
    let s = c.args.self.now in
    let e = c.in-Ok.ensures in
    let none = sym c.kept_error.ensures ∙ c.in_default.is in
    subst (λ (z : StateInner _). IsAnswered (call.SendDatagram c.args.payload c.args.wait) reply.Done s z) (sym c.wake.ensures)
    (datagram_answers s _ (call.SendDatagram c.args.payload c.args.wait) reply.Done (record s.connection.control.datagrams { outgoing = c.send_datagram.new.self.control.datagrams.outgoing }) c.requires e.whole (rest_self s)
    (calm_unlost s c.requires none) e.stayed
    (sent_steps c.datagrams_shown.ensures.queued c.datagrams_shown.ensures.pushed s c.args.payload c.args.wait c.send_datagram.new.self.control.datagrams.outgoing none e.kept e.dropped e.taken))

pub returns-in-Err-Blocked-clause-value : goal.returns-in-Err-Blocked-clause-value
returns-in-Err-Blocked-clause-value g c =
    let s = c.args.self.now in
    let e = c.in-Err-Blocked.ensures in
    let none = sym c.kept_error.ensures ∙ c.in_default.is in
    datagram_answers s _ (call.SendDatagram c.args.payload c.args.wait) reply.Pending (record s.connection.control.datagrams { is_send_blocked = true }) c.requires e.whole (rest_self s) (calm_unlost s c.requires none)
    (e.blocked c.in-Err-Blocked.field-0-0 c.in-Err-Blocked.field-0-is)
    (waits_steps c.datagram_refusals_shown.ensures.waits s c.args.payload c.args.wait c.in-Err-Blocked.field-0 c.in-Err-Blocked.field-0-0 none c.in-Err-Blocked.field-0-is e.refused)

pub returns-in-Ok-clause-calls : goal.returns-in-Ok-clause-calls
returns-in-Ok-clause-calls g c =
    let s = c.args.self.now in
    let e = c.in-Ok.ensures in
    let to = c.send_datagram.new.self in
    woken_at (call.SendDatagram c.args.payload c.args.wait) reply.Done s c.wake.new.self to c.wake.ensures (λ b shown. nothing_more s.connection to e.stands)
    (queued c.args.payload c.args.wait s.connection to e.stayed (λ waits. (e.kept waits).1) e.dropped)

pub returns-in-Err-Blocked-clause-calls : goal.returns-in-Err-Blocked-clause-calls
returns-in-Err-Blocked-clause-calls g c =
    let s = c.args.self.now in
    let e = c.in-Err-Blocked.ensures in
    let to = c.send_datagram.new.self in
    quiet (call.SendDatagram c.args.payload c.args.wait) reply.Pending s (record s { connection = to }) e.stands (λ b. refl) (λ sends. sends)
    (e.blocked c.in-Err-Blocked.field-0-0 c.in-Err-Blocked.field-0-is)
