use Rattle.std.proofs.Common.{[], ap, refl, sym, subst, ◌∙◌, inl}
use Rattle.qh_conn.proofs.InFrames.{rest_closed, rest_open}
use Rattle.qh_conn.proofs.InRest.{heard_by, rest_unaccepted}
use Rattle.qh_conn.proofs.InSound.{on_ok, safe_of, sound_queue, whole_queue}
use Rattle.qh_conn.proofs.LogKept.{current_by, followed_goes, frames_current, goes_on}
use Rattle.qh_conn.proofs.Noted.{any_err}
use Rattle.qh_conn.proofs.OutKeys.{closed_of, open_of}
use Rattle.qh_core.specs.Inner.{is_open}
use Rattle.qh_conn.proofs.InHears.{either_way}
use Rattle.qh_conn.proofs.SameParts.{reset_same}
use Rattle.qh_conn.proofs.Same.{both_same, control_kept, renamed_stays, same_control, same_core, same_then}
use Rattle.qh_core.specs.declared.inner.Inner.{Inner}
use Rattle.qh_conn.specs.Items.{IsLogCurrent}
use Rattle.qh_conn.specs.declared.connection.Connection.{Connection}
use Rattle.std.proofs.lemmas.Result.{on_err_weaker}
use Rattle.qh_conn.proofs.InFrames.{rest_cut, rest_lost}
use Rattle.qh_conn.proofs.connection.Connection.take_data.Goals as goal

pub returns-in_default-clause-ok : goal.returns-in_default-clause-ok
returns-in_default-clause-ok g c =
    let n = c.in_ok-accepted.ensures.none c.in_default.is in
    let self = c.args.self.now in
    let mid = c.accept_packet.new.self in
    rest_unaccepted _ c.args.now c.args.datagram.now c.args.rest.now self c.hear_reset.new.self mid.core c.requires.greeted n.0 n.1 (heard_by c.args.now c.args.datagram.now self mid c.hear_reset.new.self n.2 c.hear_reset.ensures.heard)

pub returns-in_default-clause-safe : goal.returns-in_default-clause-safe
returns-in_default-clause-safe g c = safe_of _ (c.hear_reset.ensures.sound c.accept_packet.ensures.sound)

pub returns-in_default-clause-whole : goal.returns-in_default-clause-whole
returns-in_default-clause-whole g c = c.hear_reset.ensures.whole (c.in_ok-accepted.ensures.none c.in_default.is).3

pub returns-then-is_closed-clause-ok : goal.returns-then-is_closed-clause-ok
returns-then-is_closed-clause-ok g c =
    rest_closed _ c.args.now c.args.datagram.now c.args.rest.now c.in-Some.accepted.frames.now c.args.self.now c.accept_packet.new.self c.take_frames.new.self (rw c.in-Some.is at c.in_ok-accepted.ensures.some).0 c.in-Some.accepted.taken c.requires.greeted
    (rw c.in-Some.is at c.in_ok-accepted.ensures.some).1 (rw c.in-Some.is at c.in_ok-accepted.ensures.some).2 c.take_frames.ensures.rest c.in_ok-take_frames.ensures.done
    (closed_of (is_open c.take_frames.new.self.core.state) c.is_closed.result c.is_closed.ensures c.if-is_closed.true)

pub returns-clause-ok : goal.returns-clause-ok
returns-clause-ok g c =
    on_ok _ _ (λ lost. rest_open _ c.args.now c.args.datagram.now c.args.rest.now c.in-Some.accepted.frames.now c.args.self.now c.accept_packet.new.self c.take_frames.new.self c.follow_ids.new.self c.on_lost.new.self
    (rw c.in-Some.is at c.in_ok-accepted.ensures.some).0 c.in-Some.accepted.taken c.requires.greeted (rw c.in-Some.is at c.in_ok-accepted.ensures.some).1 (rw c.in-Some.is at c.in_ok-accepted.ensures.some).2 c.take_frames.ensures.rest
    c.in_ok-take_frames.ensures.done (open_of (is_open c.take_frames.new.self.core.state) c.is_closed.result c.is_closed.ensures c.if-is_closed.false) c.follow_ids.ensures.value lost) c.on_lost.result c.on_lost.ensures.ok

pub returns-clause-safe : goal.returns-clause-safe
returns-clause-safe g c = safe_of _ (sound_queue c.follow_ids.new.self c.on_lost.new.self c.follow_ids.ensures.sound c.on_lost.ensures.sendable)

pub returns-clause-whole : goal.returns-clause-whole
returns-clause-whole g c =
    let be = c.accept_packet.new.self in
    let frames = c.take_frames.new.self in
    let current = frames_current be frames c.take_frames.ensures.rest c.take_frames.ensures.space c.take_frames.ensures.log (rw c.in-Some.is at c.in_ok-accepted.ensures.settled).1 in
    let followed = subst (λ (z : Connection _). IsLogCurrent z) (sym c.follow_ids.ensures.value) (current_by frames (record frames { core = record frames.core { remote_id = frames.control.ids.active.id } }) (λ on. on) refl refl current) in
    on_ok _ _ (λ _. whole_queue c.follow_ids.new.self c.on_lost.new.self c.follow_ids.ensures.sound followed
    (ap (λ x. x.is_connected) c.follow_ids.ensures.value ∙ (ap (λ x. x.is_connected) c.take_frames.ensures.rest ∙ (rw c.in-Some.is at c.in_ok-accepted.ensures.settled).0)) c.on_lost.ensures.sendable) c.on_lost.result c.on_lost.ensures.ok

pub returns-then-is_closed-clause-whole : goal.returns-then-is_closed-clause-whole
returns-then-is_closed-clause-whole g c = record {
  sound = c.take_frames.ensures.sound;
  current = frames_current c.accept_packet.new.self c.take_frames.new.self c.take_frames.ensures.rest c.take_frames.ensures.space c.take_frames.ensures.log (rw c.in-Some.is at c.in_ok-accepted.ensures.settled).1;
  client = λ _ _. inl (ap (λ (z : Connection _). z.is_connected) c.take_frames.ensures.rest ∙ (rw c.in-Some.is at c.in_ok-accepted.ensures.settled).0);
}

pub returns-in_err-accepted-clause-log : goal.returns-in_err-accepted-clause-log
returns-in_err-accepted-clause-log g c = any_err _ c.from_residual.result c.accept_packet.ensures.log

pub returns-in_err-take_frames-clause-log : goal.returns-in_err-take_frames-clause-log
returns-in_err-take_frames-clause-log g c =
    any_err _ c.from_residual-in_err-take_frames.result (goes_on c.args.self.now c.accept_packet.new.self c.take_frames.new.self c.accept_packet.ensures.log c.take_frames.ensures.log)

pub returns-clause-log : goal.returns-clause-log
returns-clause-log g c =
    let self = c.args.self.now in
    let frames = c.take_frames.new.self in
    let goes = goes_on self c.accept_packet.new.self frames c.accept_packet.ensures.log c.take_frames.ensures.log in
    any_err _ c.on_lost.result (goes_on self frames _ goes ([], followed_goes frames c.follow_ids.new.self c.on_lost.new.self c.follow_ids.ensures.value))

pub returns-in_err-accepted-clause-safe : goal.returns-in_err-accepted-clause-safe
returns-in_err-accepted-clause-safe g c = safe_of _ c.accept_packet.ensures.sound

pub returns-in_err-accepted-clause-carries : goal.returns-in_err-accepted-clause-carries
returns-in_err-accepted-clause-carries g c = λ named hello t p.
    either_way g.S.Session.accepts g.S.Session.sealed c.from_residual.result hello c.accept_packet.new.self _ (c.accept_packet.ensures.carries named hello c.args.datagram.now t c.requires.ends p)

pub returns-in_default-clause-carries : goal.returns-in_default-clause-carries
returns-in_default-clause-carries g c = λ named hello t p.
    (c.hear_reset.ensures.stands g.S.Session.accepts g.S.Session.sealed hello _ (c.accept_packet.ensures.carries named hello c.args.datagram.now t c.requires.ends p), tt)

pub returns-in_err-take_frames-clause-carries : goal.returns-in_err-take_frames-clause-carries
returns-in_err-take_frames-clause-carries g c = λ named hello t p.
    either_way g.S.Session.accepts g.S.Session.sealed c.from_residual-in_err-take_frames.result hello c.take_frames.new.self _ (c.take_frames.ensures.stands g.S.Session.accepts g.S.Session.sealed hello _ (c.accept_packet.ensures.carries named hello c.args.datagram.now t c.requires.ends p))

pub returns-then-is_closed-clause-carries : goal.returns-then-is_closed-clause-carries
returns-then-is_closed-clause-carries g c = λ named hello t p.
    (c.take_frames.ensures.stands g.S.Session.accepts g.S.Session.sealed hello _ (c.accept_packet.ensures.carries named hello c.args.datagram.now t c.requires.ends p), tt)

pub returns-clause-carries : goal.returns-clause-carries
returns-clause-carries g c = λ named hello t p.
    either_way g.S.Session.accepts g.S.Session.sealed c.on_lost.result hello (record c.follow_ids.new.self { control = record c.follow_ids.new.self.control { queue = c.on_lost.new.self } }) _
    (c.follow_ids.ensures.stands g.S.Session.accepts g.S.Session.sealed hello _ (c.take_frames.ensures.stands g.S.Session.accepts g.S.Session.sealed hello _ (c.accept_packet.ensures.carries named hello c.args.datagram.now t c.requires.ends p)))

pub returns-in_default-clause-same : goal.returns-in_default-clause-same
returns-in_default-clause-same g c =
    let self = c.args.self.now in
    both_same g.S.Session.key self c.accept_packet.new.self c.hear_reset.new.self c.accept_packet.ensures.same (reset_same g.S.Session.key c.args.now _ c.accept_packet.new.self c.hear_reset.new.self c.hear_reset.ensures.heard)

pub returns-in_err-take_frames-clause-same : goal.returns-in_err-take_frames-clause-same
returns-in_err-take_frames-clause-same g c = both_same g.S.Session.key c.args.self.now c.accept_packet.new.self c.take_frames.new.self c.accept_packet.ensures.same c.take_frames.ensures.same

pub returns-then-is_closed-clause-same : goal.returns-then-is_closed-clause-same
returns-then-is_closed-clause-same g c = both_same g.S.Session.key c.args.self.now c.accept_packet.new.self c.take_frames.new.self c.accept_packet.ensures.same c.take_frames.ensures.same

pub returns-clause-same : goal.returns-clause-same
returns-clause-same g c =
    let self = c.args.self.now in
    let frames = c.take_frames.new.self in
    let followed = c.follow_ids.new.self in
    let core : Inner _ = record frames.core { remote_id = frames.control.ids.active.id } in
    let taken = both_same g.S.Session.key self c.accept_packet.new.self frames c.accept_packet.ensures.same c.take_frames.ensures.same in
    let follows = same_then g.S.Session.key frames (record frames { core = core }) followed c.follow_ids.ensures.value
    (same_core g.S.Session.key frames core (renamed_stays frames.core core frames.control.ids.active.id (sym c.take_frames.ensures.sound.as_long) refl)) in
    both_same g.S.Session.key self followed _ (both_same g.S.Session.key self frames followed taken follows)
    (same_control g.S.Session.key followed (record followed.control { queue = c.on_lost.new.self }) (control_kept followed.control refl))

pub returns-in_err-accepted-clause-unread : goal.returns-in_err-accepted-clause-unread
returns-in_err-accepted-clause-unread g c = any_err _ c.from_residual.result c.in_err-accepted.ensures.unread

pub returns-in_err-take_frames-clause-unread : goal.returns-in_err-take_frames-clause-unread
returns-in_err-take_frames-clause-unread g c =
    any_err _ c.from_residual-in_err-take_frames.result
    (rest_cut _ c.args.now c.args.rest.now c.in-Some.accepted.frames.now c.args.self.now c.accept_packet.new.self c.take_frames.new.self (rw c.in-Some.is at c.in_ok-accepted.ensures.some).0 c.in-Some.accepted.taken
    (rw c.in-Some.is at c.in_ok-accepted.ensures.some).1 (rw c.in-Some.is at c.in_ok-accepted.ensures.some).2 c.take_frames.ensures.rest c.take_frames.ensures.open c.in_err-take_frames.ensures.wanting c.in_err-take_frames.ensures.cut)

pub returns-clause-unread : goal.returns-clause-unread
returns-clause-unread g c =
    on_err_weaker c.on_lost.result (λ still. rest_lost _ c.args.now c.args.rest.now c.in-Some.accepted.frames.now c.args.self.now c.accept_packet.new.self c.take_frames.new.self c.follow_ids.new.self c.on_lost.new.self
    (rw c.in-Some.is at c.in_ok-accepted.ensures.some).0 c.in-Some.accepted.taken (rw c.in-Some.is at c.in_ok-accepted.ensures.some).1 (rw c.in-Some.is at c.in_ok-accepted.ensures.some).2 c.take_frames.ensures.rest c.take_frames.ensures.open
    (open_of (is_open c.take_frames.new.self.core.state) c.is_closed.result c.is_closed.ensures c.if-is_closed.false) c.in_ok-take_frames.ensures.done c.follow_ids.ensures.value still) c.on_lost.ensures.err

pub take_frames-requires-clause-lives : goal.take_frames-requires-clause-lives
take_frames-requires-clause-lives g c = (rw c.in-Some.is at c.in_ok-accepted.ensures.settled).2
