use Rattle.std.proofs.Common.{sym}
use Rattle.qh_quinn.proofs.CallRecvEnds.{recv_ends_called, turn_kept, unheld_called}
use Rattle.qh_quinn.proofs.RecvEnds.{recv_ends, unheld_ends}
use Rattle.qh_quinn.proofs.inner.StateInner.end_recv.Goals as goal

pub end_reader-requires : goal.end_reader-requires
end_reader-requires g c = c.end_reading.ensures.changed.state

pub end_handle-requires : goal.end_handle-requires
end_handle-requires g c = c.end_reader.ensures.changed.state

pub returns-in_default-clause-changed : goal.returns-in_default-clause-changed
returns-in_default-clause-changed g c = unheld_ends c.args.self.now c.args.id.0 c.requires (sym c.in_default.ensures)

pub returns-clause-changed : goal.returns-clause-changed
returns-clause-changed g c =
    recv_ends c.args.self.now c.end_reading.new.self c.end_reader.new.self c.end_handle.new.self c.args.id.0 c.in-Some.reader (sym c.in-Some.ensures) c.end_reading.ensures.changed c.end_reader.ensures.changed c.end_handle.ensures.changed

pub returns-in_default-clause-calls : goal.returns-in_default-clause-calls
returns-in_default-clause-calls g c = unheld_called c.args.self.now c.args.id (sym c.in_default.ensures)

pub returns-clause-calls : goal.returns-clause-calls
returns-clause-calls g c =
    let e = c.end_reading.ensures in
    recv_ends_called c.args.self.now c.end_reading.new.self c.end_reader.new.self c.end_handle.new.self c.args.id c.in-Some.reader (sym c.in-Some.ensures)
    (record { changed = e.changed; carries = e.carries; half = e.half; lost = e.lost; wakes = e.wakes; handles = e.counts.0; error = e.counts.1; last_turn = turn_kept c.args.self.now c.end_reading.new.self e.rest })
    c.end_reader.ensures.changed c.end_reader.ensures.same c.end_handle.ensures.calls c.end_handle.ensures.awake
