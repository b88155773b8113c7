use Rattle.std.proofs.Common.{◌≡◌, sym, ◌∙◌, arith, to_z, of_z, w32, rules}
use Rattle.qh_halves.specs.SendHalves.{HasPriority}
use Rattle.qh_halves.proofs.HalvesStepped.{room_for, moved_stepped, taken_stepped, is_step, spans_stay}
use Rattle.qh_halves.proofs.HalfSteps.{ranked_is}
use Rattle.qh_halves.proofs.send_halves.SendHalves.set_priority.Goals as goal

pub insert-requires : goal.insert-requires
insert-requires c = room_for c.self.inside c.self.invariant c.args.id c.in-Some.half.now c.set_priority.new.self c.in-Some.ensures.value

pub invariant_of-self-then-waits : goal.invariant_of-self-then-waits
invariant_of-self-then-waits c =
    let now : to_z w32 (of_z w32 c.args.priority) ≡ c.args.priority = search rules in
    let set = rw now at c.in_ok-set_priority.ensures.ok.1 in
    let ranked = ranked_is c.in-Some.half.now c.set_priority.new.self c.args.priority c.in_ok-set_priority.ensures.ok.0 set in
    rw (c.get_mut.follows.holds c.set_priority.new.self).0
    (moved_stepped c.self.inside c.self.invariant c.args.id c.in-Some.half.now c.set_priority.new.self c.in-Some.ensures.value c.insert.new.self _ _ _
    c.insert.ensures.waits c.insert.ensures.room (now ∙ sym ranked.0) ranked.1 (omega (arith, ranked.2)) c.self.invariant.credit)

pub invariant_of-self-else-waits : goal.invariant_of-self-else-waits
invariant_of-self-else-waits c =
    let now : to_z w32 (of_z w32 c.args.priority) ≡ c.args.priority = search rules in
    let set = rw now at c.in_ok-set_priority.ensures.ok.1 in
    let ranked = ranked_is c.in-Some.half.now c.set_priority.new.self c.args.priority c.in_ok-set_priority.ensures.ok.0 set in
    rw (c.get_mut.follows.holds c.set_priority.new.self).0
    (taken_stepped c.self.inside c.self.invariant c.args.id c.in-Some.half.now c.set_priority.new.self c.in-Some.ensures.value c.remove.new.self
    c.remove.ensures.waits c.remove.ensures.room (c.waits.ensures.none c.if-waits.false) ranked.1 ranked.2)

pub returns-then-waits-clause-ok : goal.returns-then-waits-clause-ok
returns-then-waits-clause-ok c =
    let now : to_z w32 (of_z w32 c.args.priority) ≡ c.args.priority = search rules in
    let set = rw now at c.in_ok-set_priority.ensures.ok.1 in
    let ranked = ranked_is c.in-Some.half.now c.set_priority.new.self c.args.priority c.in_ok-set_priority.ensures.ok.0 set in
    rw (sym c.self.view_is)
    (is_step c.self.inside c.self.invariant c.args.id c.in-Some.half.now c.set_priority.new.self c.in-Some.ensures.value (HasPriority c.args.priority) _ _ 0
    (c.get_mut.follows.holds c.set_priority.new.self).0 (omega arith) set ranked.1)

pub returns-else-waits-clause-ok : goal.returns-else-waits-clause-ok
returns-else-waits-clause-ok c =
    let now : to_z w32 (of_z w32 c.args.priority) ≡ c.args.priority = search rules in
    let set = rw now at c.in_ok-set_priority.ensures.ok.1 in
    let ranked = ranked_is c.in-Some.half.now c.set_priority.new.self c.args.priority c.in_ok-set_priority.ensures.ok.0 set in
    rw (sym c.self.view_is)
    (is_step c.self.inside c.self.invariant c.args.id c.in-Some.half.now c.set_priority.new.self c.in-Some.ensures.value (HasPriority c.args.priority) _ _ 0
    (c.get_mut.follows.holds c.set_priority.new.self).0 (omega arith) set ranked.1)

pub returns-then-waits-clause-spans : goal.returns-then-waits-clause-spans
returns-then-waits-clause-spans c k frame span =
    rw (c.get_mut.follows.holds c.set_priority.new.self).0
    (spans_stay c.self.inside c.self.invariant c.args.id c.in-Some.half.now c.set_priority.new.self c.in-Some.ensures.value
    (λ out span. rw c.in_ok-set_priority.ensures.ok.1 span) k frame (rw (sym c.self.view_is) at span))

pub returns-else-waits-clause-spans : goal.returns-else-waits-clause-spans
returns-else-waits-clause-spans c k frame span =
    rw (c.get_mut.follows.holds c.set_priority.new.self).0
    (spans_stay c.self.inside c.self.invariant c.args.id c.in-Some.half.now c.set_priority.new.self c.in-Some.ensures.value
    (λ out span. rw c.in_ok-set_priority.ensures.ok.1 span) k frame (rw (sym c.self.view_is) at span))
