use Rattle.std.proofs.Common.{◌≡◌, ◌∷◌, ◌++◌, [], Option, List, sym, ap, subst, ◌∙◌}
use Rattle.qh_conn.proofs.CoreLog.{datagram_told}
use Rattle.qh_conn.proofs.InHears.{brought_came, brought_lives, rest_heard}
use Rattle.qh_conn.proofs.InSound.{sound_core, whole_core}
use Rattle.qh_conn.proofs.LogKept.{GoesOn, core_goes, goes_on}
use Rattle.qh_conn.proofs.Noted.{accepted_complete, accepted_current, accepted_goes, accepted_stands, any_err, sound_log, unmoved_goes}
use Rattle.qh_conn.proofs.OnStreams.{some_or_none}
use Rattle.qh_conn.proofs.Over.{lent_on}
use Rattle.qh_conn.proofs.Same.{both_same, same_as, same_core, same_then}
use Rattle.qh_conn.proofs.SameParts.{accepted_same, datagram_stays}
use Rattle.qh_conn.specs.Incoming.{connected_if}
use Rattle.qh_conn.specs.Items.{given_back}
use Rattle.qh_conn.specs.Unread.{IsRestUnread}
use Rattle.qh_conn.specs.Whole.{IsWhole, Stands}
use Rattle.qh_conn.specs.declared.connection.Connection.{Connection}
use Rattle.qh_control.specs.Items.{streamed}
use Rattle.qh_control.specs.declared.items.ConnectionItem.{ConnectionItem}
use Rattle.qh_converse.proofs.MidDatagram.{unheard}
use Rattle.qh_core.specs.Event.{is_drained}
use Rattle.qh_space.specs.declared.data_space.DataSpace.{DataSpace}
use Rattle.qh_spec.specs.Transcript.{HandedIn}
use Rattle.qh_conn.proofs.connection.Connection.accept_packet.Goals as goal

pub be_connected-requires-clause-sound : goal.be_connected-requires-clause-sound
be_connected-requires-clause-sound g c =
    let self = c.args.self.now in
    sound_log (record self { core = c.handle_datagram.new.self }) c.lend.new.self (sound_core self c.handle_datagram.new.self c.requires.whole.sound c.handle_datagram.ensures.same_end (λ _. c.requires.open))

-- ---- memory is wanting for the log

pub returns-in_err-entries-clause-unread : goal.returns-in_err-entries-clause-unread
returns-in_err-entries-clause-unread g c =
    let self = c.args.self.now in
    any_err _ c.from_residual.result
    (IsRestUnread.unlogged (lent_on self.control.log c.lend.result _ c.in_err-entries.was c.lend.ensures.free) (ap (λ (z : Option (List ConnectionItem)). given_back z self) c.in_err-entries.ensures.err))

pub returns-in_err-entries-clause-carries : goal.returns-in_err-entries-clause-carries
returns-in_err-entries-clause-carries g c = λ named hello d t ends p.
    let self = c.args.self.now in
    unheard g.S.Session.accepts g.S.Session.sealed hello d self.handshake self.core self.is_connected t p

pub returns-in_err-entries-clause-log : goal.returns-in_err-entries-clause-log
returns-in_err-entries-clause-log g c = unmoved_goes c.args.self.now _ (ap (λ (z : Option (List ConnectionItem)). given_back z c.args.self.now) c.in_err-entries.ensures.err)

pub returns-in_err-entries-clause-sound : goal.returns-in_err-entries-clause-sound
returns-in_err-entries-clause-sound g c = sound_log c.args.self.now c.lend.new.self c.requires.whole.sound

pub returns-in_err-entries-clause-same : goal.returns-in_err-entries-clause-same
returns-in_err-entries-clause-same g c = same_as g.S.Session.key c.args.self.now _ (ap (λ (z : Option (List ConnectionItem)). given_back z c.args.self.now) c.in_err-entries.ensures.err)

-- ---- memory is wanting for the packet

pub returns-in_default-clause-unread : goal.returns-in_default-clause-unread
returns-in_default-clause-unread g c =
    let mid : Connection _ = record c.args.self.now { core = c.handle_datagram.new.self } in
    IsRestUnread.packet c.in_default.ensures.wanting c.in_default.ensures.err (ap (λ (z : Option (List ConnectionItem)). given_back z mid) (c.give_back.ensures ∙ c.in_ok-entries.ensures.ok))

pub returns-in_default-clause-carries : goal.returns-in_default-clause-carries
returns-in_default-clause-carries g c = λ named hello d t ends p.
    let e = c.handle_datagram.ensures in
    let self = c.args.self.now in
    rest_heard g.S.Session.accepts g.S.Session.sealed c.args.now hello c.args.rest.now d self.handshake self.core c.handle_datagram.new.self self.is_connected t named ends c.requires.greeted p
    c.handle_datagram.result e.ok e.undisturbed e.err e.wanting e.follows e.same_end

pub returns-in_default-clause-log : goal.returns-in_default-clause-log
returns-in_default-clause-log g c =
    let self = c.args.self.now in
    let e = c.handle_datagram.ensures in
    let mid : Connection _ = record self { core = c.handle_datagram.new.self } in
    subst (λ (z : Connection _). GoesOn self z) (sym (ap (λ (z : Option (List ConnectionItem)). given_back z mid) (c.give_back.ensures ∙ c.in_ok-entries.ensures.ok)))
    ([], core_goes self c.handle_datagram.new.self (datagram_told _ c.args.now c.args.rest.now _ self.core c.handle_datagram.new.self c.handle_datagram.result e.ok e.err))

pub returns-in_default-clause-sound : goal.returns-in_default-clause-sound
returns-in_default-clause-sound g c =
    let self = c.args.self.now in
    sound_log (record self { core = c.handle_datagram.new.self }) c.give_back.new.self (sound_core self c.handle_datagram.new.self c.requires.whole.sound c.handle_datagram.ensures.same_end (λ _. c.requires.open))

pub returns-in_default-clause-same : goal.returns-in_default-clause-same
returns-in_default-clause-same g c =
    let self = c.args.self.now in
    let e = c.handle_datagram.ensures in
    let mid : Connection _ = record self { core = c.handle_datagram.new.self } in
    same_then g.S.Session.key self mid _ (ap (λ (z : Option (List ConnectionItem)). given_back z mid) (c.give_back.ensures ∙ c.in_ok-entries.ensures.ok))
    (same_core g.S.Session.key self c.handle_datagram.new.self (datagram_stays _ c.args.now c.args.rest.now _ self.core c.handle_datagram.new.self c.handle_datagram.result e.ok e.err))

-- ---- none was accepted

pub returns-in_default-taken-clause-none : goal.returns-in_default-taken-clause-none
returns-in_default-taken-clause-none g c = λ _.
    let self = c.args.self.now in
    let mid : Connection _ = record self { core = c.handle_datagram.new.self } in
    let is = ap (λ (z : Option (List ConnectionItem)). given_back z mid) (c.give_back-in_default-taken.ensures ∙ c.in_ok-entries.ensures.ok) in
    let space = c.in-Ok.ensures.none c.in_default-taken.is in (
      c.in-Ok.ensures.ok,
      space,
      is,
      subst (λ (z : Connection _). IsWhole z) (sym is) (whole_core self c.handle_datagram.new.self c.requires.whole c.handle_datagram.ensures.same_end c.requires.open (ap (λ (z : DataSpace). z.log) space)),
    )

pub returns-in_default-taken-clause-carries : goal.returns-in_default-taken-clause-carries
returns-in_default-taken-clause-carries g c = λ named hello d t ends p.
    let e = c.handle_datagram.ensures in
    let self = c.args.self.now in
    rest_heard g.S.Session.accepts g.S.Session.sealed c.args.now hello c.args.rest.now d self.handshake self.core c.handle_datagram.new.self self.is_connected t named ends c.requires.greeted p
    c.handle_datagram.result e.ok e.undisturbed e.err e.wanting e.follows e.same_end

pub returns-in_default-taken-clause-log : goal.returns-in_default-taken-clause-log
returns-in_default-taken-clause-log g c =
    let self = c.args.self.now in
    let e = c.handle_datagram.ensures in
    let mid : Connection _ = record self { core = c.handle_datagram.new.self } in
    subst (λ (z : Connection _). GoesOn self z) (sym (ap (λ (z : Option (List ConnectionItem)). given_back z mid) (c.give_back-in_default-taken.ensures ∙ c.in_ok-entries.ensures.ok)))
    ([], core_goes self c.handle_datagram.new.self (datagram_told _ c.args.now c.args.rest.now _ self.core c.handle_datagram.new.self c.handle_datagram.result e.ok e.err))

pub returns-in_default-taken-clause-sound : goal.returns-in_default-taken-clause-sound
returns-in_default-taken-clause-sound g c =
    let self = c.args.self.now in
    sound_log (record self { core = c.handle_datagram.new.self }) c.give_back-in_default-taken.new.self
    (sound_core self c.handle_datagram.new.self c.requires.whole.sound c.handle_datagram.ensures.same_end (λ _. c.requires.open))

pub returns-in_default-taken-clause-same : goal.returns-in_default-taken-clause-same
returns-in_default-taken-clause-same g c =
    let self = c.args.self.now in
    let e = c.handle_datagram.ensures in
    let mid : Connection _ = record self { core = c.handle_datagram.new.self } in
    same_then g.S.Session.key self mid _ (ap (λ (z : Option (List ConnectionItem)). given_back z mid) (c.give_back-in_default-taken.ensures ∙ c.in_ok-entries.ensures.ok))
    (same_core g.S.Session.key self c.handle_datagram.new.self (datagram_stays _ c.args.now c.args.rest.now _ self.core c.handle_datagram.new.self c.handle_datagram.result e.ok e.err))

-- ---- memory is wanting to ask for ids

pub returns-in_err-be_connected-clause-unread : goal.returns-in_err-be_connected-clause-unread
returns-in_err-be_connected-clause-unread g c =
    let mid : Connection _ = record c.args.self.now { core = c.handle_datagram.new.self } in
    let w = c.in_err-be_connected.ensures.wanting in
    any_err _ c.from_residual-in_err-be_connected.result
    (IsRestUnread.unasked c.handle_datagram.new.self c.in-Some.accepted.frames.now (rw c.in-Some.is at c.in-Ok.ensures.brings).0 w.1 w.0 w.2
    (c.in_err-be_connected.ensures.err ∙ ap (λ (z : Option (List ConnectionItem)). given_back z mid) c.in_ok-entries.ensures.ok))

pub returns-in_err-be_connected-clause-carries : goal.returns-in_err-be_connected-clause-carries
returns-in_err-be_connected-clause-carries g c = λ named hello d t ends p.
    let e = c.handle_datagram.ensures in
    let self = c.args.self.now in
    let taken = rest_heard g.S.Session.accepts g.S.Session.sealed c.args.now hello c.args.rest.now d self.handshake self.core c.handle_datagram.new.self self.is_connected t named ends c.requires.greeted p
    c.handle_datagram.result e.ok e.undisturbed e.err e.wanting e.follows e.same_end in
    subst (λ (z : Connection _). Stands g.S.Session.accepts g.S.Session.sealed hello z (t ++ HandedIn d ∷ [])) (sym c.in_err-be_connected.ensures.err) taken

pub returns-in_err-be_connected-clause-log : goal.returns-in_err-be_connected-clause-log
returns-in_err-be_connected-clause-log g c =
    let self = c.args.self.now in
    let e = c.handle_datagram.ensures in
    let mid : Connection _ = record self { core = c.handle_datagram.new.self } in
    subst (λ (z : Connection _). GoesOn self z) (sym (c.in_err-be_connected.ensures.err ∙ ap (λ (z : Option (List ConnectionItem)). given_back z mid) c.in_ok-entries.ensures.ok))
    ([], core_goes self c.handle_datagram.new.self (datagram_told _ c.args.now c.args.rest.now _ self.core c.handle_datagram.new.self c.handle_datagram.result e.ok e.err))

pub returns-in_err-be_connected-clause-same : goal.returns-in_err-be_connected-clause-same
returns-in_err-be_connected-clause-same g c =
    let self = c.args.self.now in
    let e = c.handle_datagram.ensures in
    let mid : Connection _ = record self { core = c.handle_datagram.new.self } in
    same_then g.S.Session.key self mid _ (c.in_err-be_connected.ensures.err ∙ ap (λ (z : Option (List ConnectionItem)). given_back z mid) c.in_ok-entries.ensures.ok)
    (same_core g.S.Session.key self c.handle_datagram.new.self (datagram_stays _ c.args.now c.args.rest.now _ self.core c.handle_datagram.new.self c.handle_datagram.result e.ok e.err))

-- ---- one was accepted

pub returns-clause-some : goal.returns-clause-some
returns-clause-some g c =
    let mid : Connection _ = record c.args.self.now { core = c.handle_datagram.new.self } in (
      c.handle_datagram.new.self,
      rw c.in-Some.is at c.in-Ok.ensures.brings,
      c.in_ok-be_connected.ensures.ok ∙ ap (λ (z : Option (List ConnectionItem)). connected_if c.args.now (given_back z mid)) c.in_ok-entries.ensures.ok,
    )

pub returns-clause-settled : goal.returns-clause-settled
unfolding returns-clause-some
returns-clause-settled g c =
    let self = c.args.self.now in
    let mid : Connection _ = record self { core = c.handle_datagram.new.self } in
    let s = returns-clause-some g c in
    let new = c.be_connected.new.self in (
      accepted_complete c.args.now mid new s.2,
      accepted_current c.args.now mid new s.2 (λ none. some_or_none (streamed c.handle_datagram.new.self.space.log ≡ []) self.handshake.peer c.requires.greeted none),
      ap is_drained c.be_connected.ensures.state ∙ brought_lives _ c.args.now c.args.rest.now _ _ c.handle_datagram.new.self s.1.0,
    )

pub returns-clause-carries : goal.returns-clause-carries
unfolding returns-clause-some
returns-clause-carries g c = λ named hello d t ends p.
    let e = c.handle_datagram.ensures in
    let self = c.args.self.now in
    let mid : Connection _ = record self { core = c.handle_datagram.new.self } in
    let s = returns-clause-some g c in
    let taken = rest_heard g.S.Session.accepts g.S.Session.sealed c.args.now hello c.args.rest.now d self.handshake self.core c.handle_datagram.new.self self.is_connected t named ends c.requires.greeted p
    c.handle_datagram.result e.ok e.undisturbed e.err e.wanting e.follows e.same_end in
    let came = brought_came (g.S.Session.accepts self.core.session) c.args.now c.args.rest.now d _ self.core c.handle_datagram.new.self self.handshake.side t named ends e.same_end c.requires.whole.sound.side_is s.1.0 in
    accepted_stands g.S.Session.accepts g.S.Session.sealed hello c.args.now mid c.be_connected.new.self _ s.2 c.be_connected.ensures.made came taken

pub returns-clause-log : goal.returns-clause-log
unfolding returns-clause-some
returns-clause-log g c =
    let self = c.args.self.now in
    let e = c.handle_datagram.ensures in
    let mid : Connection _ = record self { core = c.handle_datagram.new.self } in
    goes_on self mid c.be_connected.new.self ([], core_goes self c.handle_datagram.new.self (datagram_told _ c.args.now c.args.rest.now _ self.core c.handle_datagram.new.self c.handle_datagram.result e.ok e.err))
    (accepted_goes c.args.now mid c.be_connected.new.self (returns-clause-some g c).2)

pub returns-clause-same : goal.returns-clause-same
unfolding returns-clause-some
returns-clause-same g c =
    let self = c.args.self.now in
    let e = c.handle_datagram.ensures in
    let mid : Connection _ = record self { core = c.handle_datagram.new.self } in
    both_same g.S.Session.key self mid c.be_connected.new.self
    (same_core g.S.Session.key self c.handle_datagram.new.self (datagram_stays _ c.args.now c.args.rest.now _ self.core c.handle_datagram.new.self c.handle_datagram.result e.ok e.err))
    (accepted_same g.S.Session.key c.args.now mid c.be_connected.new.self (returns-clause-some g c).2)
