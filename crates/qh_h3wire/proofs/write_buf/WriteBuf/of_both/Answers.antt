use Rattle.std.proofs.Common.{◌≡◌, ℕ, List, ◌++◌, ◌∙◌}
use Rattle.std.proofs.lemmas.Result.{IfOk-weaker}
use Rattle.qh_spec.specs.Varint.{varint}
use Rattle.qh_h3wire.specs.FrameBytes.{frame_bytes}
use Rattle.qh_h3wire.proofs.WriteBufs.{both_is}
use Rattle.qh_h3wire.proofs.write_buf.WriteBuf.of_both.Goals as goal

pub returns : goal.returns
returns c =
    let number : c.unwrap.result ≡ c.args.ty.0 = rw c.unwrap.ensures at c.from_u64.ensures.found in
    let first : c.put_varint.new.out.items ≡ varint c.args.ty.0 = rw (number, c.new-head.ensures.items) at c.in_ok-put_varint.ensures.ok in
    IfOk-weaker c.of_parts.result _ (λ (b : List ℕ). b ≡ varint c.args.ty.0 ++ frame_bytes c.args.frame)
    (λ b is. is ∙ both_is c.append_head.new.out.items c.put_varint.new.out.items (varint c.args.ty.0) c.into_shared.result c.args.frame first c.in_ok-append_head.ensures.ok c.into_shared.ensures)
    c.of_parts.ensures
