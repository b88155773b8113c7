use Rattle.std.proofs.Common.{◌≡◌, true, false, is_some, rules}
use Rattle.qh_conn.proofs.Begun.{moved_started, started_whole, unlogged_started}
use Rattle.qh_conn.proofs.InClosed.{none_when}
use Rattle.qh_conn.proofs.InHears.{hears_still}
use Rattle.qh_conn.proofs.Noted.{sound_log, sound_on, started_made, started_state}
use Rattle.qh_converse.proofs.MidDatagram.{stays}
use Rattle.qh_conn.proofs.connection.Connection.log_streams.Goals as goal

pub returns-then-not-is_on-clause-ok : goal.returns-then-not-is_on-clause-ok
returns-then-not-is_on-clause-ok g c =
    let off : is_some c.args.self.now.control.log ≡ false = search rules in
    unlogged_started c.args.self.now (none_when c.args.self.now.control.log off)

pub returns-clause-ok : goal.returns-clause-ok
returns-clause-ok g c =
    let self = c.args.self.now in
    let on : is_some self.control.log ≡ true = search rules in
    moved_started self c.note_in.new.self c.start_log.new.self _ c.lend.new.self c.in_ok-entries.ensures.ok on c.in-Ok.ensures.ok c.note_in.ensures.value

pub returns-clause-hears : goal.returns-clause-hears
returns-clause-hears g c = λ accepts sealed hello d h k t p.
    let core = c.args.self.now.core in
    let mid = c.start_log.new.self in
    let e = c.start_log.ensures in
    hears_still mid c.note_in.new.self.core c.note_in.ensures.made accepts sealed hello d h k t
    (hears_still core mid (started_made c.start_log.result core mid c.requires.unused c.requires.arrived c.requires.off e.ok e.err e.follows e.same_end) accepts sealed hello d h k t p)

pub returns-clause-stands : goal.returns-clause-stands
returns-clause-stands g c = λ accepts sealed hello t p.
    let self = c.args.self.now in
    let mid = c.start_log.new.self in
    let e = c.start_log.ensures in
    c.note_in.ensures.stands accepts sealed hello t
    (stays accepts sealed hello self.handshake self.core mid self.is_connected t
    (started_made c.start_log.result self.core mid c.requires.unused c.requires.arrived c.requires.off e.ok e.err e.follows e.same_end) p)

pub returns-clause-sound : goal.returns-clause-sound
returns-clause-sound g c = λ s.
    let self = c.args.self.now in
    let mid = c.start_log.new.self in
    let e = c.start_log.ensures in
    c.note_in.ensures.sound (sound_log (record self { core = mid }) c.lend.new.self (sound_on self mid s e.same_end (started_state c.start_log.result self.core mid e.ok e.err)))

pub returns-clause-whole : goal.returns-clause-whole
returns-clause-whole g c = λ w. started_whole c.args.self.now c.note_in.new.self (returns-clause-ok g c) w (returns-clause-sound g c w.sound)
