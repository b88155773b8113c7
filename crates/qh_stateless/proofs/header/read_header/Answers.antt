use Rattle.std.proofs.Common.{ℕ, List, get_or, ap, arith}
use Rattle.qh_stateless.proofs.Headers.{no_long}
use Rattle.qh_stateless.proofs.OfLong.{fault_there, header_there}
use Rattle.qh_stateless.proofs.header.read_header.Goals as goal

pub returns-in-Some-read_long-clause-header : goal.returns-in-Some-read_long-clause-header
returns-in-Some-read_long-clause-header c =
    header_there c.args.local_id_len c.args.versions.now c.args.grease_quic_bit c.args.datagram.now c.in-Some-read_long.long c.in-Some-read_long.ensures.found c.of_long.result c.of_long.ensures.header

pub returns-in-Some-read_long-clause-fault : goal.returns-in-Some-read_long-clause-fault
returns-in-Some-read_long-clause-fault c =
    fault_there c.args.local_id_len c.args.versions.now c.args.grease_quic_bit c.args.datagram.now c.in-Some-read_long.long c.in-Some-read_long.ensures.found c.of_long.result c.of_long.ensures.fault

pub returns-in-None-read_long-clause-fault : goal.returns-in-None-read_long-clause-fault
returns-in-None-read_long-clause-fault c =
    let first = ap (λ (z : List ℕ). get_or z 0 0) c.in-Some.ensures.cases.0 in
    let high = c.if-first-lt128.false in
    no_long c.args.local_id_len c.args.versions.now c.args.grease_quic_bit c.args.datagram.now (omega (arith, first, high)) c.in-None-read_long.ensures.none
