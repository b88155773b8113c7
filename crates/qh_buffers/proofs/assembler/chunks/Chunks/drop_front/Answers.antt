use Rattle.std.proofs.Common.{sym, ◌∙◌, arith, inr}
use Rattle.qh_buffers.proofs.QueuedChunks.{none_stored, is_some_length, after_in_order}
use Rattle.qh_buffers.proofs.assembler.chunks.Chunks.drop_front.Goals as goal

pub invariant_of-self-2 : goal.invariant_of-self-2
invariant_of-self-2 c =
    let queue = c.self.inside.queue.items in
    let es = c.self.inside.map.entries in
    record {
      in_order = rw (c.give_back.ensures, c.drop_front-2.ensures) (after_in_order queue 0 c.args.length c.self.invariant.in_order);
      stored = c.self.invariant.stored;
      one = inr (none_stored queue es c.self.invariant (omega (arith, c.self.inside.queue.ok.0, is_some_length c.self.inside.queue.len (sym c.is_empty.ensures ∙ c.if-is_empty.false))));
    }
