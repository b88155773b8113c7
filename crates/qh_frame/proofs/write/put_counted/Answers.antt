use Rattle.qh_frame.proofs.FramesWritten.{map_ok, counted_put}
use Rattle.qh_frame.proofs.write.put_counted.Goals as goal

pub returns-clause-ok : goal.returns-clause-ok
returns-clause-ok c = map_ok c.put_text.result c.put_text.ensures.ok (counted_put c.args.out.now.items c.put_text.new.out.items c.args.kind c.args.text.now c.requires.small c.requires.shape c.requires.short)
