use Rattle.qh_endpoint.proofs.endpoint.Endpoint.refuse.Goals as goal

pub returns-clause-left : goal.returns-clause-left
returns-clause-left g c =
    let t = c.take-waiting.ensures in
    (t.0, c.take-waiting.new.self, t.1, rw t.2 at (rw c.error_of-error.ensures at c.initial_close.ensures.closed), rw t.2 at c.initial_close.ensures.transmit, c.initial_close.ensures.err)
