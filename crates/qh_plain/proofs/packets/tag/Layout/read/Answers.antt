use Rattle.std.proofs.Common.{drop, take, arith, length-drop}
use Rattle.std.proofs.lemmas.List.{length-take-le}
use Rattle.std.proofs.lemmas.Nat.{be_bytes_8}
use Rattle.qh_plain.proofs.TagReads.{laid_out, front_bytes}
use Rattle.qh_plain.proofs.packets.tag.Layout.read.Goals as goal

pub returns-clause-found : goal.returns-clause-found
returns-clause-found c =
    laid_out c.args.bytes.now c.number_of.result (omega arith) (omega arith) c.number_of.ensures.bound (
    be_bytes_8 (take 8 (drop 18 c.args.bytes.now)) c.number_of.result (length-take-le 8 (drop 18 c.args.bytes.now) (omega (arith, length-drop 18 c.args.bytes.now)))
    (front_bytes 8 18 c.args.bytes.now (λ i. omega (arith, c.type_inv.bytes i))) c.number_of.ensures.value
    )
