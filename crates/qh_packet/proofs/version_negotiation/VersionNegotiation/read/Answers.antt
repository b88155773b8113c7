use Rattle.std.proofs.Common.{length, ap, arith}
use Rattle.qh_base.proofs.CountedBytes.{at_none}
use Rattle.qh_packet.proofs.LongHeaders.{same_header}
use Rattle.qh_packet.proofs.Surveys.{is_empty}
use Rattle.qh_packet.proofs.version_negotiation.VersionNegotiation.read.Goals as goal
use Rattle.qh_packet.proofs.version_negotiation.VersionNegotiation.read.Goals.{then-header-ne0-via-then-header-ne0, then-header-ne0-via-else-header-ne0+then-is_empty, then-header-ne0-via-else-header-ne0+else-is_empty+then-header-ne0-2}

pub returns-in_err-header-clause-none : goal.returns-in_err-header-clause-none
returns-in_err-header-clause-none c = at_none c.from_residual.result (λ destination source listed v. c.in_err-header.ensures.none v.first 0 destination source listed v.header)

pub returns-then-header-ne0-clause-none : goal.returns-then-header-ne0-clause-none
returns-then-header-ne0-clause-none c = λ destination source listed v.
    let same = same_header c.args.bytes.now v.first 0 destination source listed c.in_ok-header.header.first c.in_ok-header.header.version c.in_ok-header.header.destination.now c.in_ok-header.header.source.now
    c.in_ok-header.header.rest.now v.header c.in_ok-header.ensures.found in
    let size = ap length same.same_rest in
    let zero = same.same_version in
    let some = v.some in
    let fours = v.fours in
    elim c.then-header-ne0.branch [
      | then-header-ne0-via-then-header-ne0 w ↦ let h = w.if-header-ne0.true in omega (arith, zero, h)
      | then-header-ne0-via-else-header-ne0+then-is_empty w ↦ let e = ap length (is_empty c.in_ok-header.header.rest.now w.if-is_empty.ensures) in omega (arith, size, some, e)
      | then-header-ne0-via-else-header-ne0+else-is_empty+then-header-ne0-2 w ↦ let h = w.if-header-ne0-2.true in omega (arith, size, fours, h)
    ]
