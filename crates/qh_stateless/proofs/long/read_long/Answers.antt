use Rattle.qh_base.proofs.CountedBytes.{at_none}
use Rattle.qh_stateless.proofs.Headers.{long_source}
use Rattle.qh_stateless.proofs.long.read_long.Goals as goal

pub returns-in_err-source-clause-none : goal.returns-in_err-source-clause-none
returns-in_err-source-clause-none c = at_none c.from_residual-in_err-source.result (λ first version destination source rest h.
    c.in_err-source.ensures.none source rest
    (long_source c.args.grease c.args.datagram.now first version destination source rest c.in_ok-first.first c.in_ok-first.version c.in_ok-first.rest.now c.in_ok-destination.destination.now c.in_ok-destination.rest.now h
    c.in_ok-first.ensures.found c.in_ok-destination.ensures.found.0)
    h.source_fits)
