use Rattle.std.proofs.Common.{◌≡◌, None, sym, ◌∙◌}
use Rattle.qh_halves.specs.Seats.{seat_in}
use Rattle.qh_halves.proofs.PendingSeats.{seated_left, room_left, waits_left, room_without, waits_without}
use Rattle.qh_halves.proofs.pending.PendingStreamsQueue.leave.Goals as goal

none : (c : goal.In_default) → seat_in c.self.inside.seats.entries c.args.id ≡ None
none c = sym c.remove.ensures.value ∙ c.in_default.is

pub returns-in_default-clause-room : goal.returns-in_default-clause-room
returns-in_default-clause-room c k = rw (c.in_default.ensures.unchanged, sym c.self.view_is) (room_without c.self.inside.tree c.self.inside.seats.entries c.args.id (none c) k)

pub returns-in_default-clause-waits : goal.returns-in_default-clause-waits
returns-in_default-clause-waits c k = rw (c.in_default.ensures.unchanged, sym c.self.view_is) (waits_without c.self.inside.tree c.self.inside.seats.entries c.args.id (none c) k)

pub invariant_of-self-2 : goal.invariant_of-self-2
invariant_of-self-2 c =
    let s = c.self.inside in
    rw c.set.ensures
    (seated_left s.seats.entries s.ids s.tree c.self.invariant c.args.id c.in-Some.place (sym c.remove.ensures.value ∙ c.in-Some.is) c.remove.new.self.entries c.remove-2.new.self c.remove.ensures.ordered
    c.remove.ensures.updates.0 c.remove-2.ensures.updates)

pub returns-clause-room : goal.returns-clause-room
returns-clause-room c k =
    let s = c.self.inside in
    rw (c.set.ensures, sym c.self.view_is)
    (room_left s.seats.entries s.ids s.tree c.self.invariant c.args.id c.in-Some.place (sym c.remove.ensures.value ∙ c.in-Some.is) c.remove.new.self.entries c.remove-2.new.self c.remove.ensures.ordered
    c.remove.ensures.updates.0 c.remove-2.ensures.updates k)

pub returns-clause-waits : goal.returns-clause-waits
returns-clause-waits c k =
    let s = c.self.inside in
    rw (c.set.ensures, sym c.self.view_is)
    (waits_left s.seats.entries s.ids s.tree c.self.invariant c.args.id c.in-Some.place (sym c.remove.ensures.value ∙ c.in-Some.is) c.remove.new.self.entries c.remove-2.new.self c.remove.ensures.ordered
    c.remove.ensures.updates.0 c.remove-2.ensures.updates k)
