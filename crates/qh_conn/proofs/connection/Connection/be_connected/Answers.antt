use Rattle.std.proofs.lemmas.Result.{on_err_weaker}
use Rattle.qh_conn.proofs.InSound.{on_ok}
use Rattle.qh_conn.proofs.Noted.{connected_else, noted_if}
use Rattle.qh_conn.specs.Items.{given_back}
use Rattle.qh_control.specs.Items.{kept_in}
use Rattle.qh_conn.proofs.connection.Connection.be_connected.Goals as goal

pub returns-then-self-clause-ok : goal.returns-then-self-clause-ok
returns-then-self-clause-ok g c = noted_if c.args.now (given_back (kept_in c.args.entries) c.args.self.now) c.note_in.new.self c.args.self.now.is_connected c.if-self.true c.note_in.ensures.value

pub returns-clause-ok : goal.returns-clause-ok
returns-clause-ok g c =
    on_ok _ _ (λ is. connected_else c.args.now (given_back (kept_in c.args.entries) c.args.self.now) c.connect_in.new.self c.args.self.now.is_connected c.if-self.false is) c.connect_in.result c.connect_in.ensures.ok

pub returns-clause-wanting : goal.returns-clause-wanting
returns-clause-wanting g c = on_err_weaker c.connect_in.result (λ w. (c.if-self.false, w.0, w.1)) c.connect_in.ensures.wanting
