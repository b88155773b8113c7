use Rattle.std.proofs.Common.{◌≡◌, Some, None, sym, ap, ◌∙◌}
use Rattle.std.proofs.lemmas.Bool.{both_ways}
use Rattle.qh_halves.specs.Pending.{PlainPending, has_room}
use Rattle.qh_halves.specs.Seats.{seat_in}
use Rattle.qh_halves.proofs.PendingSeats.{seated_set, waits_set, room_set, no_room, same_stream}
use Rattle.qh_halves.proofs.pending.PendingStreamsQueue.insert.Goals as goal

here : (c : goal.After-set) → seat_in c.self.inside.seats.entries c.args.stream.id ≡ Some c.in-Some.place
here c = sym c.get.ensures.value ∙ sym c.copied.ensures ∙ c.in-Some.is

pub invariant_of-self : goal.invariant_of-self
invariant_of-self c =
    let s = c.self.inside in
    rw c.set.ensures (seated_set s.seats.entries s.ids s.tree c.self.invariant c.args.stream.id c.in-Some.place (Some c.args.stream) (here c) (λ p e. same_stream c.args.stream p e))

pub returns-in-Some-clause-waits : goal.returns-in-Some-clause-waits
returns-in-Some-clause-waits c k =
    let s = c.self.inside in
    rw (c.set.ensures, sym c.self.view_is) (waits_set s.seats.entries s.ids s.tree c.self.invariant c.args.stream.id c.in-Some.place (Some c.args.stream) (here c) (λ p e. same_stream c.args.stream p e) k)

pub returns-in-Some-clause-room : goal.returns-in-Some-clause-room
returns-in-Some-clause-room c k =
    let s = c.self.inside in
    rw (c.set.ensures, sym c.self.view_is) (room_set s.seats.entries s.ids s.tree c.self.invariant c.args.stream.id c.in-Some.place (Some c.args.stream) (here c) (λ p e. same_stream c.args.stream p e) k)

pub returns-in_default-clause-waits : goal.returns-in_default-clause-waits
returns-in_default-clause-waits c =
    let none : seat_in c.self.inside.seats.entries c.args.stream.id ≡ None = sym c.get.ensures.value ∙ sym c.copied.ensures ∙ c.in_default.is in
    let room = ap (λ (p : PlainPending). has_room p c.args.stream.id) c.self.view_is ∙ c.requires in
    absurd (both_ways _ (no_room c.self.inside.tree c.self.inside.seats.entries c.args.stream.id none) room)
