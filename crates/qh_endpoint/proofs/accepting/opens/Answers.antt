use Rattle.std.proofs.Common.{refl}
use Rattle.qh_endpoint.proofs.accepting.opens.Goals as goal

pub returns-in-None-clause-refused : goal.returns-in-None-clause-refused
returns-in-None-clause-refused g c = λ is. c.in-None.ensures.none refl
