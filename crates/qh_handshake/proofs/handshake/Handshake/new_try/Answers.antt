use Rattle.std.proofs.Common.{ap, arith, length}
use Rattle.qh_handshake.proofs.Retried.{not_true, on_err, retry_for, same_retry}
use Rattle.qh_handshake.proofs.handshake.Handshake.new_try.Goals as goal
use Rattle.qh_handshake.proofs.handshake.Handshake.new_try.Goals.{then-not-is_for-via-then-not-is_for, then-not-is_for-via-else-not-is_for+then-is_empty, then-not-is_for-via-else-not-is_for+else-is_empty+then-packet-gt-MAX_TOKEN}
use Rattle.qh_packet.specs.Retry.{retry_tag_of}

pub returns-in_default-clause-none : goal.returns-in_default-clause-none
returns-in_default-clause-none c = λ _ s source token may r. c.in_default.ensures.none r.destination source token (retry_tag_of c.args.self.now.original_id) r.is

pub returns-then-not-is_for-clause-none : goal.returns-then-not-is_for-clause-none
returns-then-not-is_for-clause-none c = λ _ s source token may r.
    let packet = c.in-Some.packet in
    let same = same_retry c.args.datagram.now packet.destination.now packet.source.now packet.token.now packet.tag.now r.destination source token (retry_tag_of c.args.self.now.original_id) c.in-Some.ensures.found r.is in
    let size = ap length same.0 in
    elim c.then-not-is_for.branch [
      | then-not-is_for-via-then-not-is_for w ↦ not_true c.is_for.result w.if-not-is_for.true (c.is_for.ensures.1 same.1)
      | then-not-is_for-via-else-not-is_for+then-is_empty w ↦ grind (arith, w.if-is_empty.true, w.is_empty.ensures, r.some, size)
      | then-not-is_for-via-else-not-is_for+else-is_empty+then-packet-gt-MAX_TOKEN w ↦ omega (arith, w.if-packet-gt-MAX_TOKEN.true, r.few, size)
    ]

pub returns-in_err-token-clause-wanting : goal.returns-in_err-token-clause-wanting
returns-in_err-token-clause-wanting c =
    let packet = c.in-Some.packet in
    let may = c.may_retry.ensures.yes c.if-not-may_retry.false in
    on_err c.from_residual.result (
      may.0,
      packet.source.now,
      packet.token.now,
      may.1,
      retry_for c.args.self.now c.args.datagram.now packet.destination.now packet.source.now packet.token.now packet.tag.now c.in-Some.ensures.found (c.is_for.ensures.0 c.if-not-is_for.false) c.if-is_empty.ensures
          (omega (arith, c.if-packet-gt-MAX_TOKEN.false)),
    )
