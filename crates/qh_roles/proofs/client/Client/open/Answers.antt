use Rattle.std.proofs.Common.{Ok}
use Rattle.qh_roles.proofs.Going.{went_still}
use Rattle.qh_roles.proofs.ClientGoes.{goes_after, open_goes}
use Rattle.qh_spec.specs.declared.sides.Dir.TheVariants.{Bi}
use Rattle.qh_roles.proofs.client.Client.open.Goals as goal

pub returns-in_err-begin-clause-goes : goal.returns-in_err-begin-clause-goes
returns-in_err-begin-clause-goes g c =
    open_goes c.args.self.now c.begin.new.self c.args.connection.now c.open.new.self c.in_ok-stream.field-0 c.in-Some.stream c.in-Some.is c.in_ok-stream.ensures.some c.is_owed.ensures.open c.requires.side
    (λ id at opened rest start before t w. went_still start before c.args.connection.now c.open.new.self t w
    (c.made.ensures.open Bi (Ok c.in_ok-stream.field-0) c.args.connection.now c.open.new.self c.in_ok-stream.ensures.some c.in_ok-stream.ensures.none tt c.open.ensures.follows)
    (c.behaves.ensures.opened Bi id c.args.connection.now c.open.new.self t at opened rest (c.open.ensures.follows t w.behaves.follows) w.behaves)) c.begin.ensures.next c.begin.ensures.same c.begin.ensures.asks

pub returns-in_err-poll_stream-clause-goes : goal.returns-in_err-poll_stream-clause-goes
returns-in_err-poll_stream-clause-goes g c =
    goes_after c.args.self.now c.begin.new.self c.poll_stream.new.self c.args.connection.now c.open.new.self c.poll_stream.new.connection
    (open_goes c.args.self.now c.begin.new.self c.args.connection.now c.open.new.self c.in_ok-stream.field-0 c.in-Some.stream c.in-Some.is c.in_ok-stream.ensures.some c.is_owed.ensures.open c.requires.side
    (λ id at opened rest start before t w. went_still start before c.args.connection.now c.open.new.self t w
    (c.made.ensures.open Bi (Ok c.in_ok-stream.field-0) c.args.connection.now c.open.new.self c.in_ok-stream.ensures.some c.in_ok-stream.ensures.none tt c.open.ensures.follows)
    (c.behaves.ensures.opened Bi id c.args.connection.now c.open.new.self t at opened rest (c.open.ensures.follows t w.behaves.follows) w.behaves)) c.begin.ensures.next c.begin.ensures.same c.begin.ensures.asks)
    c.poll_stream.ensures.goes

pub returns-clause-goes : goal.returns-clause-goes
returns-clause-goes g c =
    goes_after c.args.self.now c.begin.new.self c.poll_stream.new.self c.args.connection.now c.open.new.self c.poll_stream.new.connection
    (open_goes c.args.self.now c.begin.new.self c.args.connection.now c.open.new.self c.in_ok-stream.field-0 c.in-Some.stream c.in-Some.is c.in_ok-stream.ensures.some c.is_owed.ensures.open c.requires.side
    (λ id at opened rest start before t w. went_still start before c.args.connection.now c.open.new.self t w
    (c.made.ensures.open Bi (Ok c.in_ok-stream.field-0) c.args.connection.now c.open.new.self c.in_ok-stream.ensures.some c.in_ok-stream.ensures.none tt c.open.ensures.follows)
    (c.behaves.ensures.opened Bi id c.args.connection.now c.open.new.self t at opened rest (c.open.ensures.follows t w.behaves.follows) w.behaves)) c.begin.ensures.next c.begin.ensures.same c.begin.ensures.asks)
    c.poll_stream.ensures.goes
