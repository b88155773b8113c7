use Rattle.std.proofs.Common.{append_assoc}
use Rattle.qh_packet.proofs.session.tag_of.Goals as goal

pub returns-clause-value : goal.returns-clause-value
returns-clause-value c =
    let all = rw c.unwrap-2.ensures at c.into_inner.ensures.ok in
    let number = rw c.unwrap.ensures at c.try_extend_from_slice.ensures.ok in
    rw (all, c.push-4.ensures.items, c.put_padded-2.ensures.items, c.push-3.ensures.items, number, c.push-2.ensures.items, c.push.ensures.items, c.put_padded.ensures.items, c.new-tag.ensures)
    (rw (c.after_16.ensures, c.space_byte.ensures, c.side_byte.ensures, c.to_be_bytes.ensures, c.bytes-id.ensures.value) (simp append_assoc))
