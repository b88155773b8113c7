use Rattle.std.proofs.Common.{sym}
use Rattle.qh_halves.proofs.RecvHalvesStepped.{room_for}
use Rattle.qh_halves.proofs.recv_halves.RecvHalves.lose_max_stream_data.Goals as goal

pub insert-requires : goal.insert-requires
insert-requires c =
    let half = c.in-Some.ensures in
    rw c.due_entry.ensures (room_for _ _ _ _ _ c.self.invariant c.args.id _ (sym half.value))
