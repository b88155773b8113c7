use Rattle.std.proofs.Common.{◌≤◌, length}
use Rattle.qh_pair.proofs.EndGiven.{given_made, given_takes, on_err, on_ok, plain_view}
use Rattle.qh_pair.proofs.EndHandled.{handled_by}
use Rattle.qh_pair.proofs.EndSounds.{key_short}
use Rattle.qh_pair.specs.Ends.{End}
use Rattle.qh_packet.proofs.Sessions.{plain_names}
use Rattle.qh_pair.proofs.ends.hand_to.Goals as goal

pub returns-clause-made : goal.returns-clause-made
returns-clause-made c =
    let old : End = c.args.end.now in
    let short : length old.core.session.key_id ≤ 20 = key_short _ _ _ c.key_id.ensures.value c.session.ensures c.key_id.ensures.short in
    let e = c.handle_datagram.ensures in
    given_made old c.handle_datagram.new.self c.args.datagram.now e.same e.whole (e.carries (plain_names old.core.session short))

pub returns-clause-undisturbed : goal.returns-clause-undisturbed
returns-clause-undisturbed c = on_ok c.handle_datagram.result _ _ (λ h. handled_by plain_view c.args.now c.args.datagram.now c.args.end.now c.handle_datagram.new.self h) c.handle_datagram.ensures.ok

pub returns-clause-lost : goal.returns-clause-lost
returns-clause-lost c = on_err c.handle_datagram.result _ _ (λ h. h.error) c.handle_datagram.ensures.err

pub returns-clause-two : goal.returns-clause-two
returns-clause-two c =
    let old : End = c.args.end.now in
    let new : End = c.handle_datagram.new.self in
    let short : length old.core.session.key_id ≤ 20 = key_short _ _ _ c.key_id.ensures.value c.session.ensures c.key_id.ensures.short in
    let e = c.handle_datagram.ensures in
    on_ok c.handle_datagram.result _ _
    (λ h. given_takes (record {
      given = c.two_ends.ensures.given;
      restarts = c.two_ends.ensures.restarts;
      made = c.plain_tags-2.ensures.takes;
      can = c.can_greet.ensures.given;
      greets = c.greets.ensures.greets;
      initials = c.initials_sealed.ensures.plain;
    }) c.args.now old new c.args.datagram.now short e.same e.whole (e.carries (plain_names old.core.session short)) h) e.ok
