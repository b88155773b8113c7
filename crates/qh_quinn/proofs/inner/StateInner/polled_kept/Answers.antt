use Rattle.qh_quinn.proofs.KeptCalls.{longer, made_kept, unmade_kept}
use Rattle.qh_quinn.specs.Recording.{TellsAt}
use Rattle.qh_quinn.proofs.inner.StateInner.polled_kept.Goals as goal

pub returns-in_err-reply-clause-kept : goal.returns-in_err-reply-clause-kept
returns-in_err-reply-clause-kept g c =
    let e = c.in_err-reply.ensures in
    unmade_kept c.args.self.now c.polled.new.self c.args.history.now c.room.new.history c.requires.state c.requires.kept e.acted e.calls c.room.ensures.same c.room.ensures.kept

pub returns-clause-value : goal.returns-clause-value
returns-clause-value g c =
    let r = c.in_ok-reply.reply in
    let e = c.in_ok-reply.ensures in
    let room = c.in_ok-room.ensures in (
      record { acted = e.acted; calls = e.calls; fits = e.fits },
      longer (TellsAt g.S.Session.knows g.S.Session.name g.S.Session.told c.args.self.now c.args.call) c.args.call c.in_ok-room.room.call r c.told-told.result c.args.history.now.entries.items c.room.new.history.entries.items c.push.new.self.entries.items
          room.call.0 room.same (c.told-told.ensures.again r e.tells) c.push.ensures.entry,
    )

pub returns-clause-kept : goal.returns-clause-kept
returns-clause-kept g c =
    let r = c.in_ok-reply.reply in
    let e = c.in_ok-reply.ensures in
    let room = c.in_ok-room.ensures in
    made_kept c.args.call c.in_ok-room.room.call r c.told-told.result c.args.self.now c.polled.new.self c.args.history.now c.room.new.history c.push.new.self c.requires.no_turn c.requires.kept e.acted e.calls e.fits room.call.0 room.same (λ made. (room.enough r c.polled.new.self made).1)
    c.push.ensures.entry c.push.ensures.len c.push.ensures.capacity
