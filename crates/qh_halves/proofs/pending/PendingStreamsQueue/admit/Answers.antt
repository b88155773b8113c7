use Rattle.std.proofs.Common.{◌≡◌, ◌==◌, ◌||◌, ℕ, Some, None, sym, ap, ◌∙◌, subst}
use Rattle.slab.specs.Slab.{Slab, get, Updates}
use Rattle.qh_halves.specs.Pending.{PlainPending, has_room, waits}
use Rattle.qh_halves.specs.Seats.{seat_in, AreSeated}
use Rattle.qh_halves.proofs.PendingSeats.{unroomed, none_there, seated_ready, seated_put, room_put, waits_put, room_with, shown, shown_same}
use Rattle.qh_halves.proofs.pending.PendingStreamsQueue.admit.Goals as goal

pub returns-then-contains_key-clause-room : goal.returns-then-contains_key-clause-room
returns-then-contains_key-clause-room c k =
    let s = c.self.inside in
    rw (sym c.self.view_is) (room_with s.tree s.seats.entries c.args.id (sym c.contains_key.ensures ∙ c.if-contains_key.true) k)

fresh : (c : goal.After-insert_reserved) → seat_in c.self.inside.seats.entries c.args.id ≡ None
fresh c = none_there (seat_in c.self.inside.seats.entries c.args.id) (sym c.contains_key.ensures ∙ c.if-contains_key.false)

-- what took memory is done
ready : (c : goal.After-insert_reserved) → AreSeated c.self.inside.seats.entries c.reserve.new.self c.reserve-2.new.self
ready c =
    seated_ready c.self.inside.seats.entries c.self.inside.ids c.self.inside.tree c.self.invariant c.reserve.new.self c.reserve-2.new.self
    (λ place. ap (λ (ids : Slab ℕ). get ids place) c.in_ok-reserve.ensures.rest_kept) c.in_ok-reserve-2.ensures.same c.in_ok-reserve-2.ensures.more

given : (c : goal.After-insert_reserved) → Updates c.reserve.new.self c.insert_reserved.new.self c.vacant_key-place.result (Some c.args.id)
given c =
    let P : ℕ → Type 0 = λ place. Updates c.reserve.new.self c.insert_reserved.new.self place (Some c.args.id) in
    subst P (c.insert_reserved.ensures.key ∙ sym c.vacant_key-place.ensures.value) c.insert_reserved.ensures.updates

before : (c : goal.After-insert_reserved) → shown c.reserve-2.new.self c.self.inside.seats.entries ≡ c.args.self.now
before c = shown_same c.self.inside.tree c.reserve-2.new.self c.self.inside.seats.entries c.in_ok-reserve-2.ensures.same ∙ c.self.view_is

pub invariant_of-self-in-Ok : goal.invariant_of-self-in-Ok
invariant_of-self-in-Ok c =
    seated_put c.self.inside.seats.entries c.reserve.new.self c.reserve-2.new.self (ready c) c.args.id c.vacant_key-place.result (fresh c) c.vacant_key-place.ensures.vacant c.in_ok-reserve-2.ensures.room
    c.insert.new.self.entries c.insert_reserved.new.self c.in-Ok.ensures.ordered c.in-Ok.ensures.updates.0 (given c)

pub returns-in-Ok-clause-room : goal.returns-in-Ok-clause-room
returns-in-Ok-clause-room c k =
    room_put c.self.inside.seats.entries c.reserve.new.self c.reserve-2.new.self (ready c) c.args.id c.vacant_key-place.result (fresh c) c.vacant_key-place.ensures.vacant c.in_ok-reserve-2.ensures.room
    c.insert.new.self.entries c.insert_reserved.new.self c.in-Ok.ensures.ordered c.in-Ok.ensures.updates.0 (given c) k
    ∙ ap (λ (p : PlainPending). k == c.args.id || has_room p k) (before c)

pub returns-in-Ok-clause-waits : goal.returns-in-Ok-clause-waits
returns-in-Ok-clause-waits c k =
    waits_put c.self.inside.seats.entries c.reserve.new.self c.reserve-2.new.self (ready c) c.args.id c.vacant_key-place.result (fresh c) c.vacant_key-place.ensures.vacant c.in_ok-reserve-2.ensures.room
    c.insert.new.self.entries c.insert_reserved.new.self c.in-Ok.ensures.ordered c.in-Ok.ensures.updates.0 (given c) k
    ∙ ap (λ (p : PlainPending). waits p k) (before c)

pub returns-in_err-reserve-clause-again : goal.returns-in_err-reserve-clause-again
returns-in_err-reserve-clause-again c = λ had. absurd (unroomed c.self.inside.tree c.self.inside.seats.entries c.args.id c.args.self.now c.contains_key.result c.self.view_is c.contains_key.ensures c.if-contains_key.false had)

pub returns-in_err-reserve-2-clause-again : goal.returns-in_err-reserve-2-clause-again
returns-in_err-reserve-2-clause-again c = λ had. absurd (unroomed c.self.inside.tree c.self.inside.seats.entries c.args.id c.args.self.now c.contains_key.result c.self.view_is c.contains_key.ensures c.if-contains_key.false had)

pub returns-in-Ok-clause-again : goal.returns-in-Ok-clause-again
returns-in-Ok-clause-again c = λ had. absurd (unroomed c.self.inside.tree c.self.inside.seats.entries c.args.id c.args.self.now c.contains_key.result c.self.view_is c.contains_key.ensures c.if-contains_key.false had)

pub returns-in-Err-clause-again : goal.returns-in-Err-clause-again
returns-in-Err-clause-again c = λ had. absurd (unroomed c.self.inside.tree c.self.inside.seats.entries c.args.id c.args.self.now c.contains_key.result c.self.view_is c.contains_key.ensures c.if-contains_key.false had)
