use Rattle.std.proofs.Common.{◌≡◌, ap, false, is_some, rules, subst, sym, true, ◌∙◌}
use Rattle.qh_conn.proofs.CoreLog.{heard_log, shut_log}
use Rattle.qh_conn.proofs.InClosed.{heard_greeted, heard_initial, heard_ungreeted, none_when, with_bytes}
use Rattle.qh_conn.proofs.InSound.{shut_core, shut_heard, shut_taken, sound_counted, taken_anyway}
use Rattle.qh_core.specs.Inner.{is_open}
use Rattle.qh_handshake.specs.Closing.{BringsClose}
use Rattle.qh_conn.proofs.InHears.{counted_hears, hears_still, rest_heard, shut_stands}
use Rattle.qh_converse.proofs.MidDatagram.{unheard}
use Rattle.qh_converse.specs.Converses.{Hears}
use Rattle.qh_core.proofs.MadeEnds.{turned_made}
use Rattle.qh_core.specs.Made.IsTurned.{closed_heard}
use Rattle.qh_core.specs.declared.inner.Inner.{Inner}
use Rattle.qh_packet.specs.Session.{NamesTags}
use Rattle.qh_conn.proofs.connection.Connection.hear_closed.Goals as goal

pub returns-then-brings_close-clause-heard : goal.returns-then-brings_close-clause-heard
returns-then-brings_close-clause-heard g c =
    heard_initial _ c.args.now c.args.datagram.now c.args.self.now c.saturating_add-self.result c.hear_closed.new.self c.saturating_add-self.ensures
    (subst (λ s. BringsClose (g.S.Session.accepts s) c.args.self.now.handshake c.args.datagram.now) c.session.ensures (c.brings_close-brings_close.ensures.yes c.if-brings_close.true)) c.hear_closed.ensures.heard

pub returns-then-brings_close-clause-whole : goal.returns-then-brings_close-clause-whole
returns-then-brings_close-clause-whole g c =
    shut_core (with_bytes c.args.self.now c.saturating_add-self.result c.args.self.now.core) c.hear_closed.new.self (sound_counted c.args.self.now c.saturating_add-self.result c.requires.whole.sound) c.requires.whole.current c.hear_closed.ensures.same_end
    (shut_heard true _ _ c.requires.closed c.hear_closed.ensures.heard) (heard_log true _ c.hear_closed.new.self c.hear_closed.ensures.heard)

pub returns-then-not-is_greeted-clause-heard : goal.returns-then-not-is_greeted-clause-heard
returns-then-not-is_greeted-clause-heard g c =
    let n : is_some c.args.self.now.handshake.peer ≡ false = search rules in
    heard_ungreeted _ c.args.now c.args.datagram.now c.args.self.now c.saturating_add-self.result c.hear_closed-then-not-is_greeted.new.self c.saturating_add-self.ensures
    (λ b. c.brings_close-brings_close.ensures.no c.if-brings_close.false (subst (λ s. BringsClose (g.S.Session.accepts s) c.args.self.now.handshake c.args.datagram.now) (sym c.session.ensures) b))
    (none_when c.args.self.now.handshake.peer n) c.hear_closed-then-not-is_greeted.ensures.heard

pub returns-then-not-is_greeted-clause-whole : goal.returns-then-not-is_greeted-clause-whole
returns-then-not-is_greeted-clause-whole g c =
    shut_core (with_bytes c.args.self.now c.saturating_add-self.result c.args.self.now.core) c.hear_closed-then-not-is_greeted.new.self (sound_counted c.args.self.now c.saturating_add-self.result c.requires.whole.sound)
    c.requires.whole.current c.hear_closed-then-not-is_greeted.ensures.same_end (shut_heard false _ _ c.requires.closed c.hear_closed-then-not-is_greeted.ensures.heard)
    (heard_log false _ c.hear_closed-then-not-is_greeted.new.self c.hear_closed-then-not-is_greeted.ensures.heard)

pub returns-else-not-is_greeted-clause-heard : goal.returns-else-not-is_greeted-clause-heard
returns-else-not-is_greeted-clause-heard g c =
    let yes_ : is_some c.args.self.now.handshake.peer ≡ true = search rules in
    let shut : is_open c.shut_connected.new.self.core.state ≡ false = ap (λ k. is_open k.state) c.shut_connected.ensures.core ∙ c.requires.closed in
    heard_greeted _ c.args.now c.args.datagram.now c.args.self.now c.shut_connected.new.self c.saturating_add-self.result c.handle_datagram.new.self c.behind_initials-rest.result.now c.saturating_add-self.ensures
    (λ b. c.brings_close-brings_close.ensures.no c.if-brings_close.false (subst (λ s. BringsClose (g.S.Session.accepts s) c.args.self.now.handshake c.args.datagram.now) (sym c.session.ensures) b))
    yes_ c.behind_initials-rest.ensures.ends c.behind_initials-rest.ensures.behind c.shut_connected.ensures.connected c.shut_connected.ensures.core
    (taken_anyway _ c.args.now _ _ _ c.handle_datagram.result shut c.handle_datagram.ensures.ok c.handle_datagram.ensures.wanting)

pub returns-else-not-is_greeted-clause-whole : goal.returns-else-not-is_greeted-clause-whole
returns-else-not-is_greeted-clause-whole g c =
    let shut : is_open c.shut_connected.new.self.core.state ≡ false = ap (λ k. is_open k.state) c.shut_connected.ensures.core ∙ c.requires.closed in
    let taken = taken_anyway _ c.args.now _ _ _ c.handle_datagram.result shut c.handle_datagram.ensures.ok c.handle_datagram.ensures.wanting in
    shut_core c.shut_connected.new.self c.handle_datagram.new.self c.shut_connected.ensures.whole.sound c.shut_connected.ensures.whole.current c.handle_datagram.ensures.same_end (shut_taken _ c.args.now _ _ _ shut taken)
    (shut_log _ c.args.now _ _ c.handle_datagram.new.self shut taken)

pub returns-then-brings_close-clause-carries : goal.returns-then-brings_close-clause-carries
returns-then-brings_close-clause-carries g c = λ named hello t p.
    let self = c.args.self.now in
    let d = c.args.datagram.now in
    let e = c.hear_closed.ensures in
    unheard g.S.Session.accepts g.S.Session.sealed hello d (with_bytes self c.saturating_add-self.result self.core).handshake c.hear_closed.new.self self.is_connected t
    (hears_still self.core c.hear_closed.new.self (turned_made self.core c.hear_closed.new.self (closed_heard true c.requires.closed e.heard) e.follows e.same_end) g.S.Session.accepts g.S.Session.sealed hello d _ self.is_connected t
    (counted_hears g.S.Session.accepts g.S.Session.sealed hello self c.saturating_add-self.result t d c.saturating_add-self.ensures p))

pub returns-then-not-is_greeted-clause-carries : goal.returns-then-not-is_greeted-clause-carries
returns-then-not-is_greeted-clause-carries g c = λ named hello t p.
    let self = c.args.self.now in
    let d = c.args.datagram.now in
    let core = c.hear_closed-then-not-is_greeted.new.self in
    let e = c.hear_closed-then-not-is_greeted.ensures in
    unheard g.S.Session.accepts g.S.Session.sealed hello d (with_bytes self c.saturating_add-self.result self.core).handshake core self.is_connected t
    (hears_still self.core core (turned_made self.core core (closed_heard false c.requires.closed e.heard) e.follows e.same_end) g.S.Session.accepts g.S.Session.sealed hello d _ self.is_connected t
    (counted_hears g.S.Session.accepts g.S.Session.sealed hello self c.saturating_add-self.result t d c.saturating_add-self.ensures p))

pub returns-else-not-is_greeted-clause-carries : goal.returns-else-not-is_greeted-clause-carries
returns-else-not-is_greeted-clause-carries g c = λ named hello t p.
    let self = c.args.self.now in
    let d = c.args.datagram.now in
    let bytes = with_bytes self c.saturating_add-self.result self.core in
    let mid = c.shut_connected.new.self in
    let core = c.shut_connected.ensures.core in
    let rest = c.behind_initials-rest in
    let e = c.handle_datagram.ensures in
    let greeted : is_some self.handshake.peer ≡ true = search rules in
    let heard = rest_heard g.S.Session.accepts g.S.Session.sealed c.args.now hello rest.result.now d bytes.handshake mid.core c.handle_datagram.new.self self.is_connected t
    (subst (λ (z : Inner _). NamesTags (g.S.Session.accepts z.session)) (sym core) named) rest.ensures.ends greeted
    (subst (λ (z : Inner _). Hears g.S.Session.accepts g.S.Session.sealed hello bytes.handshake z self.is_connected t d) (sym core) (counted_hears g.S.Session.accepts g.S.Session.sealed hello self c.saturating_add-self.result t d c.saturating_add-self.ensures p))
    c.handle_datagram.result e.ok e.undisturbed e.err e.wanting e.follows e.same_end in
    shut_stands g.S.Session.accepts g.S.Session.sealed (g.S.Session.accepts self.core.session) hello rest.result.now d bytes mid c.handle_datagram.new.self t named rest.ensures.ends c.shut_connected.ensures.connected
    (e.same_end.local_id ∙ ap (λ (z : Inner _). z.local_id) core ∙ c.requires.whole.sound.id_is) heard
