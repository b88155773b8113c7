use Rattle.qh_plain.proofs.meanings.head.means_head.Goals as goal

pub returns-in-Request : goal.returns-in-Request
returns-in-Request c = rw c.in-Request.is c.means_request.ensures
