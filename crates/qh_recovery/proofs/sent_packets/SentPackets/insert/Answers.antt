use Rattle.std.proofs.Common.{sym, ◌∙◌, arith}
use Rattle.qh_recovery.proofs.SentLists.{appended, appended_bytes, appended_frames}
use Rattle.qh_recovery.proofs.sent_packets.SentPackets.insert.Goals as goal

pub invariant_of-self-2 : goal.invariant_of-self-2
invariant_of-self-2 g c =
    let next = rw (sym c.self.view_is) at c.requires in
    let sum = appended_bytes c.self.inside.packets.entries c.args.number c.args.packet next in
    let count = appended_frames c.self.inside.packets.entries c.args.number c.args.packet next in
    rw c.in_ok-insert.ensures.entries (
      omega (arith, sum, c.self.invariant.0, c.in-Some.ensures),
      omega (arith, count, c.self.invariant.1, c.len.ensures, c.args.packet.frames.ok.0, c.in-Some-checked_add.ensures),
    )

pub returns-clause-ok : goal.returns-clause-ok
returns-clause-ok g c =
    let next = rw (sym c.self.view_is) at c.requires in
    rw (sym c.self.view_is) (c.in_ok-insert.ensures.entries ∙ appended c.self.inside.packets.entries c.args.number c.args.packet next)
