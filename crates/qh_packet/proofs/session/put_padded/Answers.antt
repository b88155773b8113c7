use Rattle.std.proofs.Common.{◌++◌, ap, append_assoc}
use Rattle.qh_packet.proofs.Sessions.{pads}
use Rattle.qh_packet.proofs.session.put_padded.Goals as goal

pub returns-clause-items : goal.returns-clause-items
returns-clause-items g c =
    let front = rw c.unwrap.ensures at c.try_extend_from_slice.ensures.ok in
    let back = rw c.unwrap-2.ensures at c.try_extend_from_slice-2.ensures.ok in
    rw (back, front, c.min-kept.ensures, append_assoc) (ap (λ xs. c.args.tag.now.items ++ xs) (pads c.args.size c.args.bytes.now c.requires.short))
