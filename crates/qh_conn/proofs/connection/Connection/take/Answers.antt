use Rattle.std.proofs.Common.{◌≡◌, ◌==◌, ℕ, List, [], None, false, length, true, is_some, ap, refl, rules, subst, sym, ◌∙◌}
use Rattle.qh_base.specs.declared.connection_error.ConnectionError.TheVariants.{Memory}
use Rattle.qh_conn.proofs.InClosed.{none_when}
use Rattle.qh_conn.proofs.InFed.{ended_stands, failing, lost_fails, met_tags, rest_ends, restarted_read}
use Rattle.qh_conn.proofs.InSound.{safe_of, shut_core, sound_idle, unready}
use Rattle.qh_conn.proofs.InTake.{ended_by, still_unready, still_whole, taken_by}
use Rattle.qh_conn.proofs.CoreLog.{ends_log}
use Rattle.qh_conn.proofs.LogKept.{fed_current, fed_goes, goes_on, restarted_current, restarted_goes}
use Rattle.qh_conn.specs.Incoming.{IsRestTaken}
use Rattle.qh_converse.proofs.MidDatagram.{unheard}
use Rattle.qh_packet.proofs.Surveys.{is_empty}
use Rattle.qh_conn.specs.Whole.{IsWhole}
use Rattle.qh_conn.proofs.SameParts.{ended_same, lost_same, met_same}
use Rattle.qh_conn.proofs.Same.{both_same, local_stays, same_dropped, same_rest}
use Rattle.qh_conn.proofs.Noted.{any_err}
use Rattle.qh_conn.proofs.connection.Connection.take.Goals as goal
use Rattle.std.proofs.Common.{Bool}
use Rattle.qh_conn.specs.Incoming.{IsMet}
use Rattle.qh_conn.specs.Unread.{IsUnread}
use Rattle.qh_conn.proofs.connection.Connection.take.Goals.{else-is_greeted-via-then-is_greeted+else-not-is_empty, else-is_greeted-via-else-is_greeted}

pub returns-in-Err : goal.returns-in-Err
returns-in-Err g c =
    let named : c.in-Err.error ≡ Memory → ⊥ = search rules in
    let whole = subst (λ z. IsWhole z) (sym c.end_by.ensures.rest) (shut_core c.feed.new.self c.end_by.new.self.core (c.in-Err.ensures.ended named) (fed_current c.args.self.now c.feed.new.self c.feed.ensures.rest c.feed.ensures.kept c.requires.whole.current) c.end_by.ensures.same_end c.end_by.ensures.closed (ends_log c.args.now c.in-Err.error c.feed.new.self.core c.end_by.new.self.core c.end_by.ensures.ends)) in
    record {
      ok = ended_by _ c.args.now c.args.datagram.now c.args.self.now c.feed.new.self c.end_by.new.self c.in-Err.error c.in-Err.ensures.err named c.end_by.ensures.ends c.end_by.ensures.rest;
      carries = λ from hello t p. (
        ended_stands _ c.args.now c.args.datagram.now hello c.args.self.now c.feed.new.self c.end_by.new.self c.in-Err.error t from c.requires.whole.sound.handshake c.in-Err.ensures.err named c.end_by.ensures.rest c.end_by.ensures.made
            c.end_by.ensures.closed (λ none. (unready c.args.self.now c.requires.whole.sound none).0) p,
        tt,
      );
      safe = safe_of _ whole.sound;
      whole = whole;
      same = both_same g.S.Session.key c.args.self.now c.feed.new.self c.end_by.new.self (ended_same _ c.args.now c.args.datagram.now c.args.self.now c.feed.new.self c.in-Err.error Memory c.in-Err.ensures.err named)
          (same_rest g.S.Session.key c.feed.new.self c.end_by.new.self c.end_by.ensures.rest (local_stays c.feed.new.self.core c.end_by.new.self.core [] c.end_by.ensures.made.0));
      lost = tt;
      unread = tt;
      log = tt;
    }

pub meet-requires-clause-sound : goal.meet-requires-clause-sound
meet-requires-clause-sound g c = sound_idle c.feed.new.self c.restart.new.self c.in-Ok.ensures.sound c.restart.ensures.rest

pub meet-requires-clause-first : goal.meet-requires-clause-first
meet-requires-clause-first g c = λ was.
    still_unready c.args.self.now c.feed.new.self c.restart.new.self (unready c.args.self.now c.requires.whole.sound (none_when c.args.self.now.handshake.peer (sym c.known-known.ensures.is_greeted ∙ was))) c.feed.ensures.rest c.restart.ensures.rest

pub meet-requires-clause-current : goal.meet-requires-clause-current
meet-requires-clause-current g c =
    restarted_current c.feed.new.self c.restart.new.self c.restart.ensures.rest (fed_current c.args.self.now c.feed.new.self c.feed.ensures.rest c.feed.ensures.kept c.requires.whole.current)

pub meet-requires-clause-whole : goal.meet-requires-clause-whole
meet-requires-clause-whole g c = λ was.
    still_whole c.args.self.now c.feed.new.self c.restart.new.self c.requires.whole c.requires.open (sym c.known-known.ensures.is_greeted ∙ was) c.feed.ensures.side c.feed.ensures.rest c.restart.ensures.rest
    (sound_idle c.feed.new.self c.restart.new.self c.in-Ok.ensures.sound c.restart.ensures.rest) (meet-requires-clause-current g c)

pub returns-in-Err-Memory-clause-log : goal.returns-in-Err-Memory-clause-log
returns-in-Err-Memory-clause-log g c = ([], fed_goes c.args.self.now c.feed.new.self c.feed.ensures.rest)

pub returns-in_err-meet-clause-log : goal.returns-in_err-meet-clause-log
returns-in_err-meet-clause-log g c =
    let self = c.args.self.now in
    let fed = c.feed.new.self in
    let again = c.restart.new.self in
    any_err _ c.from_residual.result
    (goes_on self again c.meet.new.self (goes_on self fed again ([], fed_goes self fed c.feed.ensures.rest) ([], restarted_goes fed again c.restart.ensures.rest)) c.meet.ensures.log)

pub returns-in_err-take_data-clause-log : goal.returns-in_err-take_data-clause-log
returns-in_err-take_data-clause-log g c =
    let self = c.args.self.now in
    let fed = c.feed.new.self in
    let again = c.restart.new.self in
    let met = goes_on self again c.meet.new.self (goes_on self fed again ([], fed_goes self fed c.feed.ensures.rest) ([], restarted_goes fed again c.restart.ensures.rest)) c.meet.ensures.log in
    any_err _ c.from_residual-in_err-take_data.result (goes_on self c.meet.new.self c.take_data.new.self met c.in_err-take_data.ensures.log)

pub returns-in_ok-take_data-clause-ok : goal.returns-in_ok-take_data-clause-ok
returns-in_ok-take_data-clause-ok g c =
    taken_by _ c.args.now c.args.datagram.now c.in-Ok.rest.now c.args.self.now c.feed.new.self c.restart.new.self c.meet.new.self c.take_data.new.self c.known-known.result.is_greeted c.in-Ok.ensures.ok
    (c.restart.ensures.restarted c.args.self.now.handshake c.known-known.ensures) c.known-known.ensures.is_greeted c.in_ok-meet.ensures.ok c.in_ok-take_data.ensures.ok

pub returns-else-is_greeted-clause-ok : goal.returns-else-is_greeted-clause-ok
returns-else-is_greeted-clause-ok g c =
    taken_by _ c.args.now c.args.datagram.now c.in-Ok.rest.now c.args.self.now c.feed.new.self c.restart.new.self c.meet.new.self c.meet.new.self c.known-known.result.is_greeted c.in-Ok.ensures.ok
    (c.restart.ensures.restarted c.args.self.now.handshake c.known-known.ensures) c.known-known.ensures.is_greeted c.in_ok-meet.ensures.ok
    (elim c.else-is_greeted.branch [
      | else-is_greeted-via-then-is_greeted+else-not-is_empty w ↦ let none : true ≡ (length c.in-Ok.rest.now == 0) = search rules in IsRestTaken.nothing (is_empty c.in-Ok.rest.now none) refl
      | else-is_greeted-via-else-is_greeted w ↦ let n : is_some c.meet.new.self.handshake.peer ≡ false = search rules in IsRestTaken.ungreeted (none_when c.meet.new.self.handshake.peer n) refl
    ])

some_bytes : (bytes : List ℕ) → false ≡ (length bytes == 0) → bytes ≡ [] → ⊥
some_bytes bytes some none = let z : false ≡ true = some ∙ ap (λ (x : List ℕ). length x == 0) none in cc

pub take_data-requires-clause-ends : goal.take_data-requires-clause-ends
take_data-requires-clause-ends g c =
    let fed = c.in-Ok.ensures.ok in
    rest_ends _ c.args.now c.args.datagram.now c.in-Ok.rest.now c.args.self.now.handshake fed.handshake fed.retried fed.learned None (some_bytes c.in-Ok.rest.now c.if-not-is_empty.ensures) fed.taken

pub returns-in-Err-Memory-clause-carries : goal.returns-in-Err-Memory-clause-carries
returns-in-Err-Memory-clause-carries g c = λ from hello t p.
    let l = c.in-Err-Memory.ensures.lost c.in-Err-Memory.field-0-is in (
      tt,
      lost_fails (record { name = g.S.Session.name; knows = g.S.Session.knows; key = g.S.Session.key; sealed = g.S.Session.sealed; accepts = g.S.Session.accepts }) c.args.now c.args.datagram.now hello
          c.args.self.now c.feed.new.self l.0 t from l.1 l.2 c.feed.ensures.rest (λ none. (unready c.args.self.now c.requires.whole.sound none).0) p,
    )

pub returns-in_err-meet-clause-carries : goal.returns-in_err-meet-clause-carries
returns-in_err-meet-clause-carries g c = λ from hello t p.
    let read = restarted_read _ c.args.now c.args.datagram.now c.in-Ok.rest.now hello c.args.self.now c.feed.new.self c.restart.new.self t from c.requires.whole.sound.handshake c.in-Ok.ensures.ok c.restart.ensures.rest c.restart.ensures.made p in
    failing _ _ c.from_residual.result c.from_residual.ensures.0 (c.in_err-meet.ensures.hears g.S.Session.accepts g.S.Session.sealed hello c.args.datagram.now c.args.self.now.handshake t read c.known-known.ensures.is_greeted).1

pub returns-in_err-take_data-clause-carries : goal.returns-in_err-take_data-clause-carries
returns-in_err-take_data-clause-carries g c = λ from hello t p.
    let read = restarted_read _ c.args.now c.args.datagram.now c.in-Ok.rest.now hello c.args.self.now c.feed.new.self c.restart.new.self t from c.requires.whole.sound.handshake c.in-Ok.ensures.ok c.restart.ensures.rest c.restart.ensures.made p in
    let tags = met_tags _ c.args.now c.args.datagram.now c.in-Ok.rest.now c.args.self.now c.feed.new.self c.restart.new.self c.meet.new.self c.known-known.result.is_greeted
    (some_bytes c.in-Ok.rest.now c.if-not-is_empty.ensures) from c.in-Ok.ensures.ok c.restart.ensures.rest c.in_ok-meet.ensures.ok in
    failing _ _ c.from_residual-in_err-take_data.result c.from_residual-in_err-take_data.ensures.0
    (c.in_err-take_data.ensures.carries tags hello t (c.in_ok-meet.ensures.hears g.S.Session.accepts g.S.Session.sealed hello c.args.datagram.now c.args.self.now.handshake t read c.known-known.ensures.is_greeted).0).1

pub returns-in_ok-take_data-clause-carries : goal.returns-in_ok-take_data-clause-carries
returns-in_ok-take_data-clause-carries g c = λ from hello t p.
    let read = restarted_read _ c.args.now c.args.datagram.now c.in-Ok.rest.now hello c.args.self.now c.feed.new.self c.restart.new.self t from c.requires.whole.sound.handshake c.in-Ok.ensures.ok c.restart.ensures.rest c.restart.ensures.made p in
    let tags = met_tags _ c.args.now c.args.datagram.now c.in-Ok.rest.now c.args.self.now c.feed.new.self c.restart.new.self c.meet.new.self c.known-known.result.is_greeted
    (some_bytes c.in-Ok.rest.now c.if-not-is_empty.ensures) from c.in-Ok.ensures.ok c.restart.ensures.rest c.in_ok-meet.ensures.ok in
    c.in_ok-take_data.ensures.carries tags hello t (c.in_ok-meet.ensures.hears g.S.Session.accepts g.S.Session.sealed hello c.args.datagram.now c.args.self.now.handshake t read c.known-known.ensures.is_greeted).0

pub returns-else-is_greeted-clause-carries : goal.returns-else-is_greeted-clause-carries
returns-else-is_greeted-clause-carries g c = λ from hello t p.
    let read = restarted_read _ c.args.now c.args.datagram.now c.in-Ok.rest.now hello c.args.self.now c.feed.new.self c.restart.new.self t from c.requires.whole.sound.handshake c.in-Ok.ensures.ok c.restart.ensures.rest c.restart.ensures.made p in
    let met = c.meet.new.self in
    (unheard g.S.Session.accepts g.S.Session.sealed hello c.args.datagram.now met.handshake met.core met.is_connected t (c.in_ok-meet.ensures.hears g.S.Session.accepts g.S.Session.sealed hello c.args.datagram.now c.args.self.now.handshake t read c.known-known.ensures.is_greeted).0, tt)

pub returns-in-Err-Memory-clause-lost : goal.returns-in-Err-Memory-clause-lost
returns-in-Err-Memory-clause-lost g c =
    let l = c.in-Err-Memory.ensures.lost c.in-Err-Memory.field-0-is in
    lost_same (record { name = g.S.Session.name; knows = g.S.Session.knows; key = g.S.Session.key; sealed = g.S.Session.sealed; accepts = g.S.Session.accepts }) c.args.now c.args.datagram.now
    c.args.self.now c.feed.new.self l.0 l.1 l.2 c.feed.ensures.rest

pub returns-in_err-meet-clause-lost : goal.returns-in_err-meet-clause-lost
returns-in_err-meet-clause-lost g c =
    let met = met_same _ c.args.now c.args.datagram.now c.in-Ok.rest.now c.args.self.now c.feed.new.self c.restart.new.self c.meet.new.self c.known-known.result.is_greeted c.in-Ok.ensures.ok c.restart.ensures.rest
    c.known-known.ensures.is_greeted c.meet.ensures.same in
    any_err _ c.from_residual.result (both_same g.S.Session.key c.args.self.now c.meet.new.self _ met (same_dropped g.S.Session.key c.meet.new.self))

pub returns-in_err-take_data-clause-lost : goal.returns-in_err-take_data-clause-lost
returns-in_err-take_data-clause-lost g c =
    let met = met_same _ c.args.now c.args.datagram.now c.in-Ok.rest.now c.args.self.now c.feed.new.self c.restart.new.self c.meet.new.self c.known-known.result.is_greeted c.in-Ok.ensures.ok c.restart.ensures.rest
    c.known-known.ensures.is_greeted c.meet.ensures.same in
    let new = c.take_data.new.self in
    any_err _ c.from_residual-in_err-take_data.result
    (both_same g.S.Session.key c.args.self.now new _ (both_same g.S.Session.key c.args.self.now c.meet.new.self new met c.take_data.ensures.same) (same_dropped g.S.Session.key new))

pub returns-in_ok-take_data-clause-same : goal.returns-in_ok-take_data-clause-same
returns-in_ok-take_data-clause-same g c =
    let met = met_same _ c.args.now c.args.datagram.now c.in-Ok.rest.now c.args.self.now c.feed.new.self c.restart.new.self c.meet.new.self c.known-known.result.is_greeted c.in-Ok.ensures.ok c.restart.ensures.rest
    c.known-known.ensures.is_greeted c.meet.ensures.same in
    both_same g.S.Session.key c.args.self.now c.meet.new.self c.take_data.new.self met c.take_data.ensures.same

pub returns-else-is_greeted-clause-same : goal.returns-else-is_greeted-clause-same
returns-else-is_greeted-clause-same g c =
    met_same _ c.args.now c.args.datagram.now c.in-Ok.rest.now c.args.self.now c.feed.new.self c.restart.new.self c.meet.new.self c.known-known.result.is_greeted c.in-Ok.ensures.ok c.restart.ensures.rest
    c.known-known.ensures.is_greeted c.meet.ensures.same

pub returns-in-Err-Memory-clause-unread : goal.returns-in-Err-Memory-clause-unread
returns-in-Err-Memory-clause-unread g c =
    let l = c.in-Err-Memory.ensures.lost c.in-Err-Memory.field-0-is in
    IsUnread.initials l.0 l.1 l.2 c.feed.ensures.rest

pub returns-in_err-meet-clause-unread : goal.returns-in_err-meet-clause-unread
returns-in_err-meet-clause-unread g c =
    let cut = c.in_err-meet.ensures.cut in
    any_err _ c.from_residual.result
    (IsUnread.greeting c.feed.new.self c.restart.new.self c.in-Ok.rest.now cut.1.0 c.in-Ok.ensures.ok (c.restart.ensures.restarted c.args.self.now.handshake c.known-known.ensures) (sym c.known-known.ensures.is_greeted ∙ cut.0) cut.1.1 cut.1.2)

pub returns-in_err-take_data-clause-unread : goal.returns-in_err-take_data-clause-unread
returns-in_err-take_data-clause-unread g c =
    let greeted : is_some c.meet.new.self.handshake.peer ≡ true = search rules in
    any_err _ c.from_residual-in_err-take_data.result
    (IsUnread.behind c.feed.new.self c.restart.new.self c.meet.new.self c.in-Ok.rest.now c.in-Ok.ensures.ok (c.restart.ensures.restarted c.args.self.now.handshake c.known-known.ensures)
    (subst (λ (z : Bool). IsMet c.args.now z c.restart.new.self c.meet.new.self) c.known-known.ensures.is_greeted c.in_ok-meet.ensures.ok) greeted (some_bytes c.in-Ok.rest.now c.if-not-is_empty.ensures) c.in_err-take_data.ensures.unread)
