use Rattle.qh_frame.proofs.FramesWritten.{map_ok, two_counted_put}
use Rattle.qh_frame.proofs.write.put_two_counted.Goals as goal

pub returns-clause-ok : goal.returns-clause-ok
returns-clause-ok c = map_ok c.put_text.result c.put_text.ensures.ok (two_counted_put c.args.out.now.items c.put_text.new.out.items c.args.kind c.into_inner-a.result c.into_inner-b.result c.args.a c.args.b c.args.text.now c.requires.small c.requires.shape c.into_inner-a.ensures.value c.into_inner-b.ensures.value c.into_inner-a.ensures.bound c.into_inner-b.ensures.bound c.requires.short)
