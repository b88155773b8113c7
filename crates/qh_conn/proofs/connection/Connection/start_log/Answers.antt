use Rattle.std.proofs.Common.{◌≡◌, false, is_some, rules}
use Rattle.qh_conn.proofs.Begun.{ungreeted_started}
use Rattle.qh_conn.proofs.connection.Connection.start_log.Goals as goal

pub returns-then-not-is_greeted-clause-ok : goal.returns-then-not-is_greeted-clause-ok
returns-then-not-is_greeted-clause-ok g c =
    let unknown : is_some c.args.self.now.handshake.peer ≡ false = search rules in
    ungreeted_started c.args.self.now c.start.new.self c.start.ensures unknown
