use Rattle.std.proofs.Common.{◌++◌, length, ap, arith, length-append}
use Rattle.qh_base.proofs.CountedBytes.{at_none}
use Rattle.qh_packet.proofs.LongHeaders.{same_header}
use Rattle.qh_packet.proofs.retry.RetryPacket.read.Goals as goal

pub returns-in_err-header-clause-none : goal.returns-in_err-header-clause-none
returns-in_err-header-clause-none c =
    at_none c.from_residual.result (λ destination source token tag r. c.in_err-header.ensures.none r.first 1 destination source (token ++ tag) r.header)

pub returns-then-header-lt-RETRY_TAG_LEN-clause-none : goal.returns-then-header-lt-RETRY_TAG_LEN-clause-none
returns-then-header-lt-RETRY_TAG_LEN-clause-none c = λ destination source token tag r.
    let same = same_header c.args.bytes.now r.first 1 destination source (token ++ tag) c.in_ok-header.header.first c.in_ok-header.header.version c.in_ok-header.header.destination.now c.in_ok-header.header.source.now
    c.in_ok-header.header.rest.now r.header c.in_ok-header.ensures.found in
    omega (arith, ap length same.same_rest, length-append token tag, r.tag_length, c.if-header-lt-RETRY_TAG_LEN.true)
