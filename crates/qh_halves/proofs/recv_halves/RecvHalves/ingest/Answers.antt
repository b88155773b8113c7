use Rattle.std.proofs.Common.{◌+◌, false, length, refl, sym, inl, inr, arith}
use Rattle.std.proofs.lemmas.Result.{err_from_is_err_and}
use Rattle.qh_halves.proofs.RecvSteps.{due_at_piece, received_within}
use Rattle.qh_halves.proofs.MapWritten.{same_written}
use Rattle.qh_halves.proofs.RecvHalvesStepped.{room_for, are_settled, stepped}
use Rattle.qh_halves.proofs.recv_halves.RecvHalves.ingest.Goals as goal

pub settle-requires : goal.settle-requires
settle-requires c =
    let half = c.in-Some.ensures in
    room_for _ _ _ _ _ c.self.invariant c.args.id _ (sym half.value)

pub invariant_of-self-2 : goal.invariant_of-self-2
invariant_of-self-2 c =
    let half = c.in-Some.ensures in
    let was = c.in-Some.half.now in
    let next = c.ingest.new.self in
    let fresh = c.in_ok-fresh.fresh in
    let taken = c.in_ok-fresh.ensures.ok in
    let written = c.get_mut.follows.holds next in
    are_settled _ _ _ _ _ c.self.invariant c.args.id was next (sym half.value) _ _ _ false c.is_done-is_done.result written.0 c.is_done-is_done.ensures c.settle.ensures
    (c.self.inside.received + fresh)
    (λ undone frame. inr (due_at_piece was next c.args.piece c.args.fin fresh c.self.inside.stream_window taken frame))
    (received_within was (c.args.piece.offset + length c.args.piece.bytes) next.end fresh c.args.fin c.self.inside.received c.self.inside.announced.value c.in_ok-fresh.ensures.taken taken.end_is taken.fresh_is c.self.invariant.received_below)

pub returns-in_err-fresh-clause-fault : goal.returns-in_err-fresh-clause-fault
returns-in_err-fresh-clause-fault c =
    let half = c.in-Some.ensures in
    let p = err_from_is_err_and c.from_residual.result c.from_residual.ensures.1 in
    rw (p.1, p.2, ← c.self.view_is, ← half.value) c.in_err-fresh.ensures.fault

pub returns-in_err-fresh-clause-err : goal.returns-in_err-fresh-clause-err
returns-in_err-fresh-clause-err c =
    let half = c.in-Some.ensures in
    let p = err_from_is_err_and c.from_residual.result c.from_residual.ensures.1 in
    let written = c.get_mut.follows.holds c.ingest.new.self in
    let same = same_written _ c.args.id _ _ (sym half.value) _ written.0 c.in_err-fresh.ensures.err in
    rw (p.1, same) c.self.view_is

pub returns-clause-ok : goal.returns-clause-ok
returns-clause-ok c =
    let half = c.in-Some.ensures in
    let next = c.ingest.new.self in
    let written = c.get_mut.follows.holds next in
    rw (← c.self.view_is)
    (inl
    (record {
      fresh = c.in_ok-fresh.fresh;
      step = stepped _ _ c.args.id c.in_ok-fresh.fresh c.in-Some.half.now next _ _ _ _ false c.is_done-is_done.result _ _ (sym half.value) c.in_ok-fresh.ensures.ok written.0 c.is_done-is_done.ensures c.settle.ensures refl
          (omega (arith, c.saturating_add-self-inside.ensures, c.counted-before.ensures.counted, c.counted-after.ensures.counted));
    }))
