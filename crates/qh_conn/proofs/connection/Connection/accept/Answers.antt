use Rattle.std.proofs.lemmas.Option.{IfSome_then}
use Rattle.qh_conn.proofs.OnStreams.{whole_after}
use Rattle.qh_conn.proofs.connection.Connection.accept.Goals as goal

pub returns-clause-stands : goal.returns-clause-stands
returns-clause-stands g c =
    let e = c.accept.ensures in
    λ accepts sealed hello t p. c.still.ensures.streams_stand accepts sealed hello c.args.self.now.handshake c.args.self.now.core c.accept.new.self c.args.self.now.is_connected t
    (c.made.ensures.accept c.args.dir c.accept.result c.args.self.now.core c.accept.new.self (IfSome_then c.accept.result e.some (λ _ h. h.1)) (IfSome_then c.accept.result e.some (λ _ h. h.2)) (λ n. (e.none n).1) e.follows) p

pub returns-clause-whole : goal.returns-clause-whole
returns-clause-whole g c =
    let e = c.accept.ensures in
    whole_after c.args.self.now c.accept.new.self _ c.requires
    (c.made.ensures.accept c.args.dir c.accept.result c.args.self.now.core c.accept.new.self (IfSome_then c.accept.result e.some (λ _ h. h.1)) (IfSome_then c.accept.result e.some (λ _ h. h.2)) (λ n. (e.none n).1) e.follows)
