use Rattle.std.proofs.Common.{◌≡◌, Some, None, sym, ap, ◌∙◌}
use Rattle.qh_halves.specs.Pending.{PlainPending, waits}
use Rattle.qh_halves.specs.Seats.{seat_in}
use Rattle.qh_halves.proofs.PendingSeats.{seated_set, waits_set, room_set, fewer, waits_without, waits_not, no_stream}
use Rattle.qh_halves.proofs.pending.PendingStreamsQueue.remove.Goals as goal

here : (c : goal.After-set) → seat_in c.self.inside.seats.entries c.args.id ≡ Some c.in-Some.place
here c = sym c.get.ensures.value ∙ sym c.copied.ensures ∙ c.in-Some.is

pub invariant_of-self : goal.invariant_of-self
invariant_of-self c =
    let s = c.self.inside in
    rw c.set.ensures (seated_set s.seats.entries s.ids s.tree c.self.invariant c.args.id c.in-Some.place None (here c) (no_stream c.args.id))

pub returns-in-Some-clause-waits : goal.returns-in-Some-clause-waits
returns-in-Some-clause-waits c k =
    let s = c.self.inside in
    rw (c.set.ensures, sym c.self.view_is) (waits_set s.seats.entries s.ids s.tree c.self.invariant c.args.id c.in-Some.place None (here c) (no_stream c.args.id) k)

pub returns-in-Some-clause-room : goal.returns-in-Some-clause-room
returns-in-Some-clause-room c k =
    let s = c.self.inside in
    rw (c.set.ensures, sym c.self.view_is) (room_set s.seats.entries s.ids s.tree c.self.invariant c.args.id c.in-Some.place None (here c) (no_stream c.args.id) k)

pub returns-in-Some-clause-fewer : goal.returns-in-Some-clause-fewer
returns-in-Some-clause-fewer c priority waited =
    let s = c.self.inside in
    rw (c.set.ensures, sym c.self.view_is) (fewer s.seats.entries s.ids s.tree c.self.invariant c.args.id c.in-Some.place priority (here c) (ap (λ (p : PlainPending). waits p c.args.id) c.self.view_is ∙ waited))

pub returns-in_default-clause-waits : goal.returns-in_default-clause-waits
returns-in_default-clause-waits c k =
    let none : seat_in c.self.inside.seats.entries c.args.id ≡ None = sym c.get.ensures.value ∙ sym c.copied.ensures ∙ c.in_default.is in
    rw (sym c.self.view_is) (waits_without c.self.inside.tree c.self.inside.seats.entries c.args.id none k)

pub returns-in_default-clause-fewer : goal.returns-in_default-clause-fewer
returns-in_default-clause-fewer c priority waited =
    let none : seat_in c.self.inside.seats.entries c.args.id ≡ None = sym c.get.ensures.value ∙ sym c.copied.ensures ∙ c.in_default.is in
    let gone = ap (λ (p : PlainPending). waits p c.args.id) (sym c.self.view_is) ∙ waits_not c.self.inside.tree c.self.inside.seats.entries c.args.id none in
    absurd (cc)
