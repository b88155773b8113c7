use Rattle.std.proofs.Common.{◌≤◌, List, subst, length, inl}
use Rattle.std.proofs.lemmas.Result.{err_from_is_err_and}
use Rattle.qh_conn.specs.Whole.{CarriesOnBy}
use Rattle.qh_packet.proofs.Sessions.{plain_makes, plain_names}
use Rattle.qh_packet.specs.Session.{plain_accepts, plain_sealed}
use Rattle.qh_spec.specs.Transcript.{Act}
use Rattle.qh_pair.specs.Ends.{End}
use Rattle.qh_pair.proofs.EndNext.{Asks, asked_as, asked_first, asked_greetable, asked_honest, asked_leaves, asked_made, failed_made, made_as}
use Rattle.qh_pair.proofs.EndSent.{LeavesOpen}
use Rattle.qh_pair.proofs.EndSounds.{key_short}
use Rattle.qh_pair.proofs.FullTurns.{unset_of}
use Rattle.qh_pair.proofs.ends.has_next.Goals as goal

pub returns-in_err-transmit-clause-made : goal.returns-in_err-transmit-clause-made
returns-in_err-transmit-clause-made c =
    let old : End = c.args.end.now in
    let short : length old.core.session.key_id ≤ 20 = key_short _ _ _ c.key_id.ensures.value c.session.ensures c.key_id.ensures.short in
    let e = c.in_err-transmit.ensures in
    rw (err_from_is_err_and c.from_residual.result c.from_residual.ensures.1).1
    (failed_made old c.poll_transmit.new.self e.same e.whole (e.carries (plain_names old.core.session short) (plain_makes old.core.session short)))

pub returns-in_err-transmit-clause-lost : goal.returns-in_err-transmit-clause-lost
returns-in_err-transmit-clause-lost c = rw (err_from_is_err_and c.from_residual.result c.from_residual.ensures.1).1 (c.in_err-transmit.ensures.err.1 (inl c.requires.open)).error

pub returns-clause-made : goal.returns-clause-made
returns-clause-made c =
    let old : End = c.args.end.now in
    let new : End = c.poll_transmit.new.self in
    let after = c.poll_transmit.new.buf.items in
    let short : length old.core.session.key_id ≤ 20 = key_short _ _ _ c.key_id.ensures.value c.session.ensures c.key_id.ensures.short in
    let e = c.in_ok-transmit.ensures in
    let asks : Asks c.args.now old new after c.is_some.result = asked_as c.args.now old new c.in_ok-transmit.transmit c.is_some.result c.clear.new.self.items after c.is_some.ensures c.clear.ensures.items e.some e.none in
    let l : LeavesOpen c.args.now old new = asked_leaves c.permits.ensures.made c.args.now old new after c.is_some.result c.requires.open asks in
    asked_made c.converses.ensures.lawful_open c.converses.ensures.within_open c.converses.ensures.announced old new after c.is_some.result e.same e.whole l.up
    (subst (λ (z : List Act). CarriesOnBy plain_accepts plain_sealed old new z) (made_as c.in_ok-transmit.transmit c.is_some.result c.clear.new.self.items after c.is_some.ensures c.clear.ensures.items)
    (e.carries (plain_names old.core.session short) (plain_makes old.core.session short)))

pub returns-clause-undisturbed : goal.returns-clause-undisturbed
returns-clause-undisturbed c =
    let e = c.in_ok-transmit.ensures in
    (asked_leaves c.permits.ensures.made c.args.now c.args.end.now c.poll_transmit.new.self _ c.is_some.result c.requires.open
    (asked_as c.args.now c.args.end.now c.poll_transmit.new.self c.in_ok-transmit.transmit c.is_some.result _ _ c.is_some.ensures c.clear.ensures.items e.some e.none)).undisturbed

pub returns-clause-open : goal.returns-clause-open
returns-clause-open c =
    let e = c.in_ok-transmit.ensures in
    (asked_leaves c.permits.ensures.made c.args.now c.args.end.now c.poll_transmit.new.self _ c.is_some.result c.requires.open
    (asked_as c.args.now c.args.end.now c.poll_transmit.new.self c.in_ok-transmit.transmit c.is_some.result _ _ c.is_some.ensures c.clear.ensures.items e.some e.none)).up

pub returns-clause-names : goal.returns-clause-names
returns-clause-names c =
    let e = c.in_ok-transmit.ensures in
    let l : LeavesOpen c.args.now c.args.end.now c.poll_transmit.new.self = asked_leaves c.permits.ensures.made c.args.now c.args.end.now c.poll_transmit.new.self _ c.is_some.result c.requires.open
    (asked_as c.args.now c.args.end.now c.poll_transmit.new.self c.in_ok-transmit.transmit c.is_some.result _ _ c.is_some.ensures c.clear.ensures.items e.some e.none) in
    (l.peer, l.retry, l.remote)

pub returns-clause-told : goal.returns-clause-told
returns-clause-told c =
    let e = c.in_ok-transmit.ensures in
    (asked_leaves c.permits.ensures.made c.args.now c.args.end.now c.poll_transmit.new.self _ c.is_some.result c.requires.open
    (asked_as c.args.now c.args.end.now c.poll_transmit.new.self c.in_ok-transmit.transmit c.is_some.result _ _ c.is_some.ensures c.clear.ensures.items e.some e.none)).told

pub returns-clause-honest : goal.returns-clause-honest
returns-clause-honest c =
    let old : End = c.args.end.now in
    let new : End = c.poll_transmit.new.self in
    let after = c.poll_transmit.new.buf.items in
    let short : length old.core.session.key_id ≤ 20 = key_short _ _ _ c.key_id.ensures.value c.session.ensures c.key_id.ensures.short in
    let e = c.in_ok-transmit.ensures in
    asked_honest c.honest_ends.ensures.sent c.honest_ends.ensures.still c.args.now old new after c.is_some.result short e.same e.whole
    (subst (λ (z : List Act). CarriesOnBy plain_accepts plain_sealed old new z) (made_as c.in_ok-transmit.transmit c.is_some.result c.clear.new.self.items after c.is_some.ensures c.clear.ensures.items)
    (e.carries (plain_names old.core.session short) (plain_makes old.core.session short)))
    (asked_as c.args.now old new c.in_ok-transmit.transmit c.is_some.result c.clear.new.self.items after c.is_some.ensures c.clear.ensures.items e.some e.none)

pub returns-clause-greets : goal.returns-clause-greets
returns-clause-greets c =
    let e = c.in_ok-transmit.ensures in
    asked_greetable c.can_greet.ensures.sent c.initials_sealed.ensures.sent c.args.now c.args.end.now c.poll_transmit.new.self _ c.is_some.result c.requires.whole
    (asked_as c.args.now c.args.end.now c.poll_transmit.new.self c.in_ok-transmit.transmit c.is_some.result _ _ c.is_some.ensures c.clear.ensures.items e.some e.none)

pub returns-clause-first : goal.returns-clause-first
returns-clause-first c =
    let e = c.in_ok-transmit.ensures in
    asked_first c.args.now c.args.end.now c.poll_transmit.new.self _ c.is_some.result c.requires.whole c.requires.open
    (asked_as c.args.now c.args.end.now c.poll_transmit.new.self c.in_ok-transmit.transmit c.is_some.result _ _ c.is_some.ensures c.clear.ensures.items e.some e.none)

pub returns-clause-none : goal.returns-clause-none
returns-clause-none c = λ none. let n = c.in_ok-transmit.ensures.none (unset_of _ _ c.is_some.ensures none) in (n.2, n.1)
