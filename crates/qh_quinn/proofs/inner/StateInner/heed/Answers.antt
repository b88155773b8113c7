use Rattle.qh_quinn.proofs.inner.StateInner.heed.Goals as goal

pub returns-clause-faulted : goal.returns-clause-faulted
returns-clause-faulted g c = λ _ lives. (c.socket_fault.result, c.close_by_fault.ensures.faulted, c.socket_fault.ensures)

pub returns-clause-brings : goal.returns-clause-brings
returns-clause-brings g c =
    let e = c.close_by_fault.ensures in
    λ _ lives. c.closes_shown.ensures.faulted c.args.now c.socket_fault.result c.args.self.now.connection c.close_by_fault.new.self e.faulted e.rest lives
