use Rattle.std.proofs.Common.{length, ap, refl, arith}
use Rattle.qh_link.specs.Ways.{ready_to}
use Rattle.qh_spec.specs.declared.link.Event.TheVariants.{Given, Dry}
use Rattle.qh_link.proofs.Kept.{kept_dry, kept_given, next_taken, next_none}
use Rattle.qh_link.proofs.Events.{moments_stay}
use Rattle.qh_link.proofs.Sizes.{taken_is_short}
use Rattle.qh_link.proofs.script.ScriptLinkLink.take.Goals as goal

pub invariant_of-self-in_default : goal.invariant_of-self-in_default
invariant_of-self-in_default c =
    let e = rw c.unwrap.ensures at c.push.ensures.items in
    rw (e, c.try_reserve.ensures.items)
    (kept_dry {v = c.pop.new.self} c.self.invariant c.args.to c.in_default.ensures.none c.in_default.ensures.ready c.in_default.ensures.later)

pub returns-in_default-clause-moments : goal.returns-in_default-clause-moments
returns-in_default-clause-moments c =
    let e = rw c.unwrap.ensures at c.push.ensures.items in
    rw (e, c.try_reserve.ensures.items, ← c.self.view_is) (moments_stay c.self.inside.events.items (Dry c.args.to) refl)

pub returns-in_default-clause-exact : goal.returns-in_default-clause-exact
returns-in_default-clause-exact c =
    rw (← c.self.view_is) (next_none c.self.invariant c.args.to c.in_default.ensures.none)

pub write_front-len-requires : goal.write_front-len-requires
write_front-len-requires c =
    omega (arith, ap length c.deref.ensures, taken_is_short c.self.invariant c.args.to c.in-Some.datagram (ready_to c.pop.new.self c.args.to) (c.in-Some.ensures.ready c.args.to))

pub invariant_of-self-2 : goal.invariant_of-self-2
invariant_of-self-2 c =
    let e = rw c.unwrap-2.ensures at c.push-2.ensures.items in
    rw (e, c.try_reserve.ensures.items)
    (kept_given {v = c.pop.new.self} c.self.invariant c.args.to c.in-Some.datagram c.in-Some.ensures.ready c.in-Some.ensures.later)

pub returns-clause-moments : goal.returns-clause-moments
returns-clause-moments c =
    let e = rw c.unwrap-2.ensures at c.push-2.ensures.items in
    rw (e, c.try_reserve.ensures.items, ← c.self.view_is) (moments_stay c.self.inside.events.items (Given c.args.to c.in-Some.datagram) refl)

pub returns-clause-exact : goal.returns-clause-exact
returns-clause-exact c =
    let n = next_taken c.self.invariant c.args.to c.in-Some.datagram (ready_to c.pop.new.self c.args.to) (c.in-Some.ensures.ready c.args.to) in
    rw (← c.self.view_is, c.write_front-len.ensures.value, c.write_front-len.ensures.front, c.deref.ensures) n
