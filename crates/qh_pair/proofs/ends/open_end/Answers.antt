use Rattle.std.proofs.lemmas.Result.{IfOk-weaker}
use Rattle.qh_pair.proofs.EndNew.{key_of_ok, new_end}
use Rattle.qh_pair.proofs.ends.open_end.Goals as goal

pub returns : goal.returns
returns c =
    let ids = c.ids_from-local.ensures in
    let made = c.new-2.ensures in
    new_end c.honest_ends.ensures.fresh c.can_greet.ensures.fresh c.says_its_own.ensures.said c.converses.ensures.lawful_open c.args.side _ _ c.args.now _ _ _ _ _ c.new-2.result made.whole made.stands made.handshake made.begins made.said made.core
    (IfOk-weaker c.new-2.result _ _ (λ x h. h.0) made.parts) made.control ids.own ids.there c.requires.ids (key_of_ok _ _ c.in_ok-session.ensures)
