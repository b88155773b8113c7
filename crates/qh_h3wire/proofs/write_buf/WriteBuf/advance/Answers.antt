use Rattle.std.proofs.Common.{sym}
use Rattle.bytes.proofs.Chunks.{drop-append_min}
use Rattle.qh_h3wire.proofs.write_buf.WriteBuf.advance.Goals as goal

pub returns : goal.returns
returns c =
    rw (← c.self.view_is, c.advance.ensures, c.advance-2.ensures, c.min-of_head.ensures, c.len.ensures.value) (sym (drop-append_min c.self.inside.head c.self.inside.payload c.args.n))
