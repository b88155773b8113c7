use Rattle.qh_hello.proofs.Puts.{bytes_put}
use Rattle.qh_hello.proofs.write.put_bytes.Goals as goal

pub returns : goal.returns
returns c =
    bytes_put c.args.out.now.items c.put_varint.new.out.items c.put_varint-2.new.out.items c.extend_from_slice.new.self.items c.args.value.now c.args.id c.number.result c.number-2.result
    c.number.ensures c.number-2.ensures c.in_ok-put_varint.ensures.ok c.in_ok-put_varint-2.ensures.ok c.in_ok-extend_from_slice.ensures.items
