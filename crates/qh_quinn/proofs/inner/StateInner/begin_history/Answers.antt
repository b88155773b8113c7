use Rattle.std.proofs.Common.{◌≡◌, ◌∙◌, arith}
use Rattle.qh_control.specs.Items.{items_of}
use Rattle.qh_quinn.proofs.Beginnings.{first_entry, kept_are, not_off, recorded, taken_state}
use Rattle.qh_quinn.proofs.inner.StateInner.begin_history.Goals as goal
use Rattle.qh_quinn.proofs.inner.StateInner.begin_history.Goals.{in-Some, in-None}

pub returns-clause-state : goal.returns-clause-state
returns-clause-state g c = taken_state c.args.self.now c.take_log.new.self c.take_log.ensures.rest c.take_log.ensures.whole c.requires.state

pub returns-clause-entry : goal.returns-clause-entry
returns-clause-entry g c = λ items logged.
    let s = c.args.self.now in
    let brought = c.match-take_log.brought in
    let kept : items_of brought.items ≡ items =
    elim c.match-take_log.branch [
      | in-Some w ↦ rw w.brought-is (kept_are c.take_log.result w.in-Some.entries s.connection items w.in-Some.is c.take_log.ensures.taken logged)
      | in-None w ↦ not_off c.take_log.result s.connection items w.in-None.is c.take_log.ensures.taken logged
    ]
    in
    first_entry s.last_turn s.error c.kept_error-lost.result items brought.items c.room_for_turn.new.history.entries.items c.push_turn.new.self.entries.items c.push_turn.ensures.entry (c.room_for_turn.ensures.same ∙ c.new.ensures.items) kept c.kept_error-lost.ensures

pub returns-clause-history : goal.returns-clause-history
returns-clause-history g c =
    let s = c.args.self.now in
    let u = c.requires.unused in
    (recorded s c.take_log.new.self c.push_turn.new.self.entries.items u c.take_log.ensures.rest c.take_log.ensures.whole (returns-clause-entry g c u.items u.logged), omega (arith, c.push_turn.ensures.len, c.push_turn.ensures.capacity, c.in_ok-room_for_turn.ensures.room))
