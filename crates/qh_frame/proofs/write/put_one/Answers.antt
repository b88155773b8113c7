use Rattle.qh_frame.proofs.FramesWritten.{map_ok, one_put}
use Rattle.qh_frame.proofs.write.put_one.Goals as goal

pub returns-clause-ok : goal.returns-clause-ok
returns-clause-ok c = map_ok c.put_numbers.result c.put_numbers.ensures.ok (one_put c.args.out.now.items c.put_numbers.new.out.items c.args.kind c.into_inner-a.result c.args.a c.requires.small c.requires.shape c.into_inner-a.ensures.value c.into_inner-a.ensures.bound)
