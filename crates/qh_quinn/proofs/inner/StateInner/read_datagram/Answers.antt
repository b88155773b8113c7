use Rattle.std.proofs.Common.{refl, sym, ◌∙◌}
use Rattle.qh_book.specs.declared.call.Call.TheVariants as call
use Rattle.qh_book.specs.declared.reply.Reply.TheVariants as reply
use Rattle.qh_quinn.proofs.DatagramCalls.{datagram_answers}
use Rattle.qh_quinn.proofs.StatesKept.{rest_self}
use Rattle.qh_shown.specs.Connections.{bounds_of}
use Rattle.qh_quinn.proofs.CallDatagrams.{received_none}
use Rattle.qh_quinn.proofs.CallParts.{quiet, undone}
use Rattle.qh_quinn.proofs.inner.StateInner.read_datagram.Goals as goal

pub returns-in-Some-clause-value : goal.returns-in-Some-clause-value
returns-in-Some-clause-value g c =
    let s = c.args.self.now in
    let e = c.recv_datagram.ensures in
    datagram_answers s _ call.ReadDatagram (reply.Datagram c.in-Some.payload) (record s.connection.control.datagrams { incoming = c.recv_datagram.new.self.control.datagrams.incoming }) c.requires e.whole (rest_self s)
    (sym c.is_emptied.ensures ∙ c.if-is_emptied.false) e.rest
    (λ b shown error. c.datagrams_shown.ensures.read s.connection.control.datagrams (record s.connection.control.datagrams { incoming = c.recv_datagram.new.self.control.datagrams.incoming }) (bounds_of s.connection.control) b c.in-Some.payload shown c.in-Some.ensures.some refl)

pub returns-in-Some-clause-calls : goal.returns-in-Some-clause-calls
returns-in-Some-clause-calls g c =
    let s = c.args.self.now in
    let e = c.recv_datagram.ensures in
    quiet call.ReadDatagram (reply.Datagram c.in-Some.payload) s (record s { connection = c.recv_datagram.new.self }) e.stands (λ b. refl) (λ sends. sends) (record { oldest = c.in-Some.ensures.some; rest = e.rest })

pub returns-then-is_emptied-clause-calls : goal.returns-then-is_emptied-clause-calls
returns-then-is_emptied-clause-calls g c =
    let s = c.args.self.now in
    undone call.ReadDatagram c.closed_or_waits.result s s refl (λ b shown. refl) (received_none c.closed_or_waits.result s.error s.connection s.connection c.closed_or_waits.ensures refl)

pub returns-in-None-clause-calls : goal.returns-in-None-clause-calls
returns-in-None-clause-calls g c =
    let s = c.args.self.now in
    let to = c.recv_datagram.new.self in
    let same = (c.in-None.ensures.none refl).1 in
    let result = c.closed_or_waits-in-None.result in
    undone call.ReadDatagram result s (record s { connection = to }) same (λ b shown. refl) (received_none result s.error s.connection to c.closed_or_waits-in-None.ensures same)
