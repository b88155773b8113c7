use Rattle.std.proofs.Common.{◌≡◌, ◌+◌, List, [], ◌∷◌, ◌++◌, take, sym, ap, ◌∙◌, subst}
use Rattle.std.proofs.lemmas.List.{take_more}
use Rattle.qh_attempts.specs.declared.attempt.KeptDatagram.{KeptDatagram}
use Rattle.qh_endpoint.proofs.Accepts.{handed_push}
use Rattle.qh_endpoint.specs.Accepting.{AreHanded, none}
use Rattle.qh_endpoint.proofs.accepting.hand_all.Goals as goal

pub loop-datagram-init : goal.loop-datagram-init
loop-datagram-init g c = (c.requires, none c.args.connection.now)

pub loop-datagram-preserved : goal.loop-datagram-preserved
loop-datagram-preserved g c =
    let ds : List KeptDatagram = c.args.datagrams.now in
    let d : KeptDatagram = c.datagram-item.result in
    let i = c.loop-datagram.datagram-index in
    let e : take (i + 1) ds ≡ take i ds ++ d ∷ [] = take_more ds i d c.loop-datagram-test.true ∙ ap (λ (x : KeptDatagram). take i ds ++ x ∷ []) (sym c.datagram-item.is) in (
      c.hand.ensures.whole,
      subst (λ (xs : List KeptDatagram). AreHanded (record { name = g.S.Session.name; knows = g.S.Session.knows; key = g.S.Session.key; sealed = g.S.Session.sealed; accepts = g.S.Session.accepts }) xs c.args.connection.now c.hand.new.connection) (sym e)
          (handed_push (record { name = g.S.Session.name; knows = g.S.Session.knows; key = g.S.Session.key; sealed = g.S.Session.sealed; accepts = g.S.Session.accepts }) (take i ds) d c.args.connection.now c.loop-datagram.connection c.hand.new.connection c.loop-datagram.invariant.1 (rw c.as_slice.ensures at c.hand.ensures.handed)),
    )
