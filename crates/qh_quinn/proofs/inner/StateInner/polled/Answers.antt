use Rattle.std.proofs.Common.{◌≡◌, List, refl, sym, subst, ◌∙◌, Ok}
use Rattle.std.proofs.lemmas.Option.{same_Some}
use Rattle.qh_book.specs.declared.interest.Interest.{Interest}
use Rattle.qh_book.specs.declared.reply.Reply.TheVariants as reply
use Rattle.qh_quinn.proofs.Acts.{answered_from, fits, never_armed, pending_acts, plain_acts, plain_ready, replied, roomy}
use Rattle.qh_quinn.proofs.CallActs.{call_beside, calls_beside}
use Rattle.qh_quinn.specs.Waiting.{IsHeard, KeepsOthers}
use Rattle.qh_quinn.specs.declared.waiting.Waiting.{Waiting}
use Rattle.qh_quinn.proofs.inner.StateInner.polled.Goals as goal

pub returns-in_default-clause-acted : goal.returns-in_default-clause-acted
returns-in_default-clause-acted g c =
    plain_acts c.pending_registers.ensures.registers c.args.call c.answered.result c.args.self.now c.answered.new.self (sym c.in_default.ensures) c.requires.state c.answered.ensures.value

pub returns-in_default-clause-armed : goal.returns-in_default-clause-armed
returns-in_default-clause-armed g c =
    never_armed c.answered.result _ (plain_ready c.pending_registers.ensures.registers c.args.call c.answered.result c.args.self.now c.answered.new.self (sym c.in_default.ensures) c.requires.state c.answered.ensures.value)

pub returns-in_default-clause-heard : goal.returns-in_default-clause-heard
returns-in_default-clause-heard g c =
    never_armed c.answered.result _ (plain_ready c.pending_registers.ensures.registers c.args.call c.answered.result c.args.self.now c.answered.new.self (sym c.in_default.ensures) c.requires.state c.answered.ensures.value)

pub returns-in_default-clause-fits : goal.returns-in_default-clause-fits
returns-in_default-clause-fits g c =
    fits c.replies_fit.ensures c.args.call c.answered.result c.args.self.now c.answered.new.self c.requires.no_turn c.requires.state c.answered.ensures.fits c.answered.ensures.value

pub returns-in-Pending-clause-acted : goal.returns-in-Pending-clause-acted
returns-in-Pending-clause-acted g c =
    let s = c.args.self.now in
    let mid = c.answered-2.new.self in
    let r = rw c.in-Pending.is at c.in_ok-reply.ensures.value in
    pending_acts c.args.call c.in-Some.interest s mid (record mid { waiting = c.register.new.waiting }) (sym c.in-Some.ensures)
    (record { connection = refl; is_connected = refl; readers = refl; stable_id = refl; error = refl; handles = refl; waits = c.register.ensures.interests })
    (answered_from s (record s { waiting = c.reserve.new.self }) mid c.args.call (Ok reply.Pending) (roomy s (record s { waiting = c.reserve.new.self }) refl c.reserve.ensures.items) r)

pub returns-in-Pending-clause-calls : goal.returns-in-Pending-clause-calls
returns-in-Pending-clause-calls g c =
    let s = c.args.self.now in
    let room = record s { waiting = c.reserve.new.self } in
    let mid = c.answered-2.new.self in
    call_beside c.args.call reply.Pending s room mid (record mid { waiting = c.register.new.waiting }) (roomy s room refl c.reserve.ensures.items) (rw c.in-Pending.is at c.in_ok-reply.ensures.calls)

pub returns-in-Pending-clause-heard : goal.returns-in-Pending-clause-heard
returns-in-Pending-clause-heard g c = λ is i of.
    subst (λ (j : Interest). IsHeard j c.args.cx.now c.register.new.cx c.register.new.waiting.items) (same_Some c.in-Some.interest i (c.in-Some.ensures ∙ of)) c.register.ensures.heard

pub returns-in_default-clause-others : goal.returns-in_default-clause-others
returns-in_default-clause-others g c =
    never_armed c.answered.result _ (plain_ready c.pending_registers.ensures.registers c.args.call c.answered.result c.args.self.now c.answered.new.self (sym c.in_default.ensures) c.requires.state c.answered.ensures.value)

pub returns-in-Pending-clause-others : goal.returns-in-Pending-clause-others
returns-in-Pending-clause-others g c = λ is i of.
    let room = c.reserve.new.self in
    let mid = c.answered-2.new.self.waiting in
    let kept : mid ≡ room = c.in_ok-reply.ensures.waiting c.in-Pending.is in
    let items : mid.items ≡ c.args.self.now.waiting.items = rw kept c.reserve.ensures.items in
    subst (λ (j : Interest). KeepsOthers j c.args.cx.now.turn.task c.args.self.now.waiting.items c.register.new.waiting.items) (same_Some c.in-Some.interest i (c.in-Some.ensures ∙ of))
    (subst (λ (ws : List Waiting). KeepsOthers c.in-Some.interest c.args.cx.now.turn.task ws c.register.new.waiting.items) items c.register.ensures.others)

pub returns-in-Pending-clause-fits : goal.returns-in-Pending-clause-fits
returns-in-Pending-clause-fits g c =
    let s = c.args.self.now in
    let room = record s { waiting = c.reserve.new.self } in
    let mid = c.answered-2.new.self in
    let e = c.in_ok-reply.ensures in
    let r = c.in_ok-reply.reply in
    rw c.in-Pending.is at
    (fits c.replies_fit.ensures c.args.call (Ok r) s mid c.requires.no_turn c.requires.state e.fits (answered_from s room mid c.args.call (Ok r) (roomy s room refl c.reserve.ensures.items) e.value))

pub returns : goal.returns
returns g c =
    let s = c.args.self.now in
    let room = record s { waiting = c.reserve.new.self } in
    let mid = c.answered-2.new.self in
    let e = c.in_ok-reply.ensures in
    let r = c.in_ok-reply.reply in
    let isnt = c.in_default-reply.not-Pending in
    let answered = answered_from s room mid c.args.call (Ok r) (roomy s room refl c.reserve.ensures.items) e.value in
    record {
      acted = replied c.args.call r s mid isnt answered;
      calls = calls_beside c.args.call (Ok r) s room mid (roomy s room refl c.reserve.ensures.items) e.calls;
      armed = λ is. absurd (isnt is);
      heard = λ is. absurd (isnt is);
      others = λ is. absurd (isnt is);
      kept = λ fact held. held;
      fits = fits c.replies_fit.ensures c.args.call (Ok r) s mid c.requires.no_turn c.requires.state e.fits answered;
      free = λ free. refl;
      rest = e.rest;
      tells = e.tells;
    }
