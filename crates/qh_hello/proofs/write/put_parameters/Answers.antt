use Rattle.qh_hello.proofs.Puts.{map_ok, all_put}
use Rattle.qh_hello.proofs.write.put_parameters.Goals as goal

pub returns : goal.returns
returns c =
    map_ok c.put_last.result c.put_last.ensures
    (all_put c.args.out.now.items c.put_first.new.out.items c.put_limits.new.out.items c.put_last.new.out.items c.args.parameters.now c.in_ok-put_first.ensures c.in_ok-put_limits.ensures)
