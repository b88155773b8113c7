use Rattle.qh_message.proofs.Spelled.{trailers_mean}
use Rattle.qh_message.proofs.read.trailers_in.Goals as goal

pub returns-in-Some-2-clause-found : goal.returns-in-Some-2-clause-found
returns-in-Some-2-clause-found c =
    rw c.in-Some.is
    (trailers_mean c.in-Some.section.items c.in-Some-2.header c.into_fields.result (rw (c.in-Some-2.is, c.as_slice.ensures.value) at c.in_ok-header.ensures.found) c.into_fields.ensures)
