use Rattle.std.proofs.Common.{refl}
use Rattle.qh_book.specs.declared.call.Call.TheVariants as call
use Rattle.qh_book.specs.declared.call.Getter.TheVariants as getter
use Rattle.qh_book.specs.declared.reply.Reply.TheVariants as reply
use Rattle.qh_quinn.proofs.StatesKept.{replies}
use Rattle.qh_quinn.proofs.ValueCalls.{datagram_room_is}
use Rattle.qh_quinn.proofs.inner.StateInner.value.Goals as goal

pub returns-in-DatagramSendBufferSpace-clause-value : goal.returns-in-DatagramSendBufferSpace-clause-value
returns-in-DatagramSendBufferSpace-clause-value g c =
    let s = c.args.self.now in
    let e = c.datagram_room.ensures in
    rw c.in-DatagramSendBufferSpace.is (replies s (call.Get getter.DatagramSendBufferSpace) (reply.Number c.datagram_room.result) c.requires (λ b shown. (datagram_room_is s b shown c.datagram_room.result e.live e.emptied, refl)))
