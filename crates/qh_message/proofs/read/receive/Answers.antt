use Rattle.std.proofs.lemmas.Result.{IfOk-weaker}
use Rattle.qh_plain.proofs.Spelled.{no_spelling}
use Rattle.qh_message.proofs.Spelled.{none_received}
use Rattle.qh_message.proofs.read.receive.Goals as goal

pub returns-in-None-clause-none : goal.returns-in-None-clause-none
returns-in-None-clause-none c = λ m s room. no_spelling c.args.bytes.now m (rw c.in-None.is at c.in_ok-parts.ensures.none) s

pub returns-in-Some-clause-none : goal.returns-in-Some-clause-none
returns-in-Some-clause-none c =
    IfOk-weaker c.received_parts.result _ _ (λ o h. none_received o c.args.bytes.now c.in-Some.parts (rw c.in-Some.is at c.in_ok-parts.ensures.found) h) c.received_parts.ensures.none
