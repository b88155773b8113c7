use Rattle.qh_frame.proofs.FramesWritten.{map_ok, path_put}
use Rattle.qh_frame.proofs.put.put_path_response.Goals as goal

pub returns-clause-ok : goal.returns-clause-ok
returns-clause-ok c = map_ok c.put_text.result c.put_text.ensures.ok (path_put c.args.out.now.items c.put_text.new.out.items c.args.bytes.now c.told-bytes)
