use Rattle.qh_frame.proofs.FramesWritten.{map_ok, ping_put}
use Rattle.qh_frame.proofs.put.put_ping.Goals as goal

pub returns-clause-ok : goal.returns-clause-ok
returns-clause-ok c = map_ok c.put_numbers.result c.put_numbers.ensures.ok (ping_put c.args.out.now.items c.put_numbers.new.out.items)
