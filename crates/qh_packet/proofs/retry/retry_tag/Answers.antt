use Rattle.qh_packet.proofs.retry.retry_tag.Goals as goal

pub returns : goal.returns
returns c =
    let all = rw c.unwrap.ensures at c.into_inner.ensures.ok in
    rw (all, c.put_padded.ensures.items, c.push-2.ensures.items, c.push.ensures.items, c.new-tag.ensures, c.bytes-id.ensures.value)
