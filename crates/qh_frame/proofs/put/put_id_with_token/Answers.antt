use Rattle.std.proofs.Common.{arith}
use Rattle.qh_frame.proofs.FramesWritten.{appended, new_id_put}
use Rattle.qh_frame.proofs.put.put_id_with_token.Goals as goal

pub returns-clause-ok : goal.returns-clause-ok
returns-clause-ok c =
    new_id_put c.args.out.now.items c.put_text.new.out.items c.extend_from_slice.new.self.items c.into_inner-sequence.result c.into_inner-prior.result c.args.sequence c.args.retire_prior_to c.len.result
    c.args.id c.bytes.result.now c.args.token.now c.into_inner-sequence.ensures.value c.into_inner-prior.ensures.value c.into_inner-sequence.ensures.bound c.into_inner-prior.ensures.bound
    c.len.ensures.value c.bytes.ensures.value (omega (arith, c.len.ensures.value, c.len.ensures.short)) c.told-token c.in_ok-put_text.ensures.ok
    (appended c.extend_from_slice.result c.put_text.new.out.items c.extend_from_slice.new.self.items c.args.token.now c.if-is_err.ensures.value c.extend_from_slice.ensures.items)
