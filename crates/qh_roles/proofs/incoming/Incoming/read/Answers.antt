use Rattle.std.proofs.Common.{◌++◌, Ok, Err, ◌∙◌, refl}
use Rattle.std.proofs.lemmas.Result.{err_from_is_err_and}
use Rattle.qh_roles.proofs.Stirred.{stirred_after}
use Rattle.qh_roles.proofs.StepLaws.{then_reads}
use Rattle.qh_roles.specs.declared.incoming.ReadState.TheVariants as reading
use Rattle.qh_roles.proofs.incoming.Incoming.read.Goals as goal

pub returns-in_err-state-clause-reads : goal.returns-in_err-state-clause-reads
returns-in_err-state-clause-reads g c = λ start before t f w.
    let so_far = c.loop-piece.invariant.reads start before t f w in
    let e = err_from_is_err_and c.from_residual.result c.from_residual.ensures.1 in
    rw (e.1, e.2) (then_reads start before (Err c.in_err-state.field-0.0) c.loop-piece.self c.read_piece.new.self c.loop-piece.connection c.read_piece.new.connection t c.read_piece.ensures.same so_far
    (c.in_err-state.ensures.reads start before (t ++ so_far.acts) so_far.follows so_far.is))

pub returns-in-Some-clause-reads : goal.returns-in-Some-clause-reads
returns-in-Some-clause-reads g c = λ start before t f w.
    let so_far = c.loop-piece.invariant.reads start before t f w in
    let h = rw c.in-Some.is at c.in_ok-state.ensures in
    then_reads start before (Ok c.in-Some.state) c.loop-piece.self c.read_piece.new.self c.loop-piece.connection c.read_piece.new.connection t c.read_piece.ensures.same so_far
    (h.reads start before (t ++ so_far.acts) so_far.follows so_far.is)

pub returns-in_err-state-clause-memory : goal.returns-in_err-state-clause-memory
returns-in_err-state-clause-memory g c =
    let e = err_from_is_err_and c.from_residual.result c.from_residual.ensures.1 in
    rw e.1 (λ none. c.in_err-state.ensures.memory (rw (← c.loop-piece.invariant.same) at (c.loop-piece.invariant.still none)))

pub loop-piece-preserved : goal.loop-piece-preserved
loop-piece-preserved g c = record {
  same = c.read_piece.ensures.same ∙ c.loop-piece.invariant.same;
  stirred = stirred_after c.args.connection.now c.loop-piece.connection c.read_piece.new.connection c.loop-piece.invariant.stirred c.read_piece.ensures.stirred;
  none_arrived = c.read_piece.ensures.none_arrived ∙ c.loop-piece.invariant.none_arrived;
  unwritten = c.read_piece.ensures.unwritten ∙ c.loop-piece.invariant.unwritten;
  more = λ none.
      let h = rw c.in_default.is at c.in_ok-state.ensures in
      c.loop-piece.invariant.more (rw c.loop-piece.invariant.same at (h.more refl (rw (← c.loop-piece.invariant.same) at none)));
  still = λ none.
      let h = rw c.in_default.is at c.in_ok-state.ensures in
      absurd (h.given refl (rw (← c.loop-piece.invariant.same) at (c.loop-piece.invariant.still none)));
  given = λ some none.
      let h = rw c.in_default.is at c.in_ok-state.ensures in
      h.given refl (rw (← c.loop-piece.invariant.same) at (c.loop-piece.invariant.still none));
  reads = λ start before t f w.
      let so_far = c.loop-piece.invariant.reads start before t f w in
      let h = rw c.in_default.is at c.in_ok-state.ensures in
      then_reads start before (Ok reading.Blocked) c.loop-piece.self c.read_piece.new.self c.loop-piece.connection c.read_piece.new.connection t c.read_piece.ensures.same so_far
      (h.reads start before (t ++ so_far.acts) so_far.follows so_far.is);
}

pub returns-clause-reads : goal.returns-clause-reads
returns-clause-reads g c = λ start before t f w.
    let so_far = c.loop-piece.invariant.reads start before t f w in
    record { acts = so_far.acts; on = so_far.on; untouched = so_far.untouched; follows = so_far.follows; is = tt }
