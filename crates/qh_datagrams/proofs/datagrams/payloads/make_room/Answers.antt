use Rattle.std.proofs.Common.{sym, ◌∙◌, arith}
use Rattle.std.proofs.lemmas.Bool.{leb-true}
use Rattle.qh_datagrams.proofs.Rooms.{with_room-all}
use Rattle.qh_datagrams.proofs.datagrams.payloads.make_room.Goals as goal

pub returns-clause-items : goal.returns-clause-items
returns-clause-items c =
    let fits = leb-true _ _ (sym c.fits.ensures ∙ c.loop-waiting-test.false) in
    sym (with_room-all c.args.len c.args.room c.loop-waiting.waiting.items (omega (arith, fits, c.loop-waiting.invariant.left)))
    ∙ c.loop-waiting.invariant.items
