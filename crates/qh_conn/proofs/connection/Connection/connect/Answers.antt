use Rattle.std.proofs.Common.{Option, List, ap, ◌∙◌}
use Rattle.std.proofs.lemmas.Result.{on_err_weaker}
use Rattle.qh_conn.proofs.InHears.{self_made}
use Rattle.qh_conn.proofs.InSound.{on_ok}
use Rattle.qh_conn.proofs.Noted.{any_err, connect_logs, sound_log, unmoved_goes}
use Rattle.qh_conn.proofs.Over.{err_both, lent_on}
use Rattle.qh_conn.proofs.Same.{same_as}
use Rattle.qh_conn.proofs.SameParts.{connect_same}
use Rattle.qh_conn.specs.Greeting.{connected}
use Rattle.qh_conn.specs.Items.{given_back}
use Rattle.qh_conn.specs.Unread.{IsCompletionCut}
use Rattle.qh_control.specs.declared.items.ConnectionItem.{ConnectionItem}
use Rattle.qh_conn.proofs.connection.Connection.connect.Goals as goal

pub connect_in-requires-clause-sound : goal.connect_in-requires-clause-sound
connect_in-requires-clause-sound g c = sound_log c.args.self.now c.lend.new.self c.requires.sound

pub returns-clause-ok : goal.returns-clause-ok
returns-clause-ok g c =
    on_ok _ _ (λ is. is ∙ ap (λ (z : Option (List ConnectionItem)). connected c.args.now (given_back z c.args.self.now)) c.in_ok-entries.ensures.ok) c.connect_in.result c.connect_in.ensures.ok

pub returns-clause-err : goal.returns-clause-err
returns-clause-err g c =
    on_err_weaker c.connect_in.result (λ is. is ∙ ap (λ (z : Option (List ConnectionItem)). given_back z c.args.self.now) c.in_ok-entries.ensures.ok) c.connect_in.ensures.err

pub returns-in_err-entries-clause-err : goal.returns-in_err-entries-clause-err
returns-in_err-entries-clause-err g c = any_err _ c.from_residual.result (ap (λ (z : Option (List ConnectionItem)). given_back z c.args.self.now) c.in_err-entries.ensures.err)

pub returns-in_err-entries-clause-cut : goal.returns-in_err-entries-clause-cut
returns-in_err-entries-clause-cut g c =
    any_err _ c.from_residual.result
    (IsCompletionCut.unlogged (lent_on c.args.self.now.control.log c.lend.result _ c.in_err-entries.was c.lend.ensures.free) (ap (λ (z : Option (List ConnectionItem)). given_back z c.args.self.now) c.in_err-entries.ensures.err))

pub returns-clause-cut : goal.returns-clause-cut
returns-clause-cut g c = err_both c.connect_in.result (λ w is. IsCompletionCut.unasked w.0 w.1 is) c.connect_in.ensures.wanting (returns-clause-err g c)

pub returns-in_err-entries-clause-made : goal.returns-in_err-entries-clause-made
returns-in_err-entries-clause-made g c = self_made c.args.self.now.core

pub returns-in_err-entries-clause-sound : goal.returns-in_err-entries-clause-sound
returns-in_err-entries-clause-sound g c = sound_log c.args.self.now c.lend.new.self c.requires.sound

pub returns-in_err-entries-clause-log : goal.returns-in_err-entries-clause-log
returns-in_err-entries-clause-log g c =
    unmoved_goes c.args.self.now _ (ap (λ (z : Option (List ConnectionItem)). given_back z c.args.self.now) c.in_err-entries.ensures.err)

pub returns-clause-log : goal.returns-clause-log
returns-clause-log g c = connect_logs c.connect_in.result c.args.now c.args.self.now c.connect_in.new.self c.requires.first (returns-clause-ok g c) (returns-clause-err g c)

pub returns-in_err-entries-clause-same : goal.returns-in_err-entries-clause-same
returns-in_err-entries-clause-same g c = same_as g.S.Session.key c.args.self.now _ (ap (λ (z : Option (List ConnectionItem)). given_back z c.args.self.now) c.in_err-entries.ensures.err)

pub returns-clause-same : goal.returns-clause-same
returns-clause-same g c = connect_same g.S.Session.key c.connect_in.result c.args.now c.args.self.now c.connect_in.new.self (returns-clause-ok g c) (returns-clause-err g c)
