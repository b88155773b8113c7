use Rattle.std.proofs.Common.{◌∙◌, arith}
use Rattle.qh_hello.proofs.Puts.{map_ok, number_put}
use Rattle.qh_spec.proofs.HelloWritten.{varint_length}
use Rattle.qh_hello.proofs.write.put_number.Goals as goal

pub number-requires-2 : goal.number-requires-2
number-requires-2 c = let few = varint_length c.args.n in let size = c.size.ensures in omega (arith, few, size)

pub returns : goal.returns
returns c =
    map_ok c.put_varint-3.result c.put_varint-3.ensures.ok
    (number_put c.args.out.now.items c.put_varint.new.out.items c.put_varint-2.new.out.items c.put_varint-3.new.out.items c.args.id c.args.n c.number.result c.number-2.result
    c.number.ensures (c.number-2.ensures ∙ c.size.ensures) c.in_ok-put_varint.ensures.ok c.in_ok-put_varint-2.ensures.ok)
