use Rattle.qh_plain.proofs.CarriedReads.{bytes_found, bytes_there, ends_found, ends_there}
use Rattle.qh_plain.proofs.carried.carried.Goals as goal

pub returns-clause-bytes_found : goal.returns-clause-bytes_found
returns-clause-bytes_found c =
    rw (c.in_ok-bytes.ensures, c.deref.ensures.value) (bytes_found c.args.id_length c.args.datagrams.now c.args.sender c.args.stream c.in_ok-runs.runs.items c.in_ok-runs.ensures.found)

pub returns-clause-bytes_all : goal.returns-clause-bytes_all
returns-clause-bytes_all c =
    rw (c.in_ok-bytes.ensures, c.deref.ensures.value) (bytes_there c.args.id_length c.args.datagrams.now c.args.sender c.args.stream c.in_ok-runs.runs.items c.in_ok-runs.ensures.all)

pub returns-clause-ends_found : goal.returns-clause-ends_found
returns-clause-ends_found c =
    rw (c.in_ok-ends.ensures, c.deref-2.ensures.value) (ends_found c.args.id_length c.args.datagrams.now c.args.sender c.args.stream c.in_ok-runs.runs.items c.in_ok-runs.ensures.found)

pub returns-clause-ends_all : goal.returns-clause-ends_all
returns-clause-ends_all c =
    rw (c.in_ok-ends.ensures, c.deref-2.ensures.value) (ends_there c.args.id_length c.args.datagrams.now c.args.sender c.args.stream c.in_ok-runs.runs.items c.in_ok-runs.ensures.all)
