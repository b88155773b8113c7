use Rattle.std.proofs.Common.{true}
use Rattle.std.proofs.lemmas.Result.{MatchResult-from_both}
use Rattle.qh_core.specs.Follows.{take_acts}
use Rattle.qh_roles.proofs.Calling.{read_in_order}
use Rattle.qh_roles.proofs.Going.{went_on}
use Rattle.qh_roles.proofs.Reading.{none_arrived, taken, unwritten}
use Rattle.qh_roles.proofs.Stirred.{stirred_read}
use Rattle.qh_roles.proofs.incoming.take_piece.Goals as goal

pub returns-clause-stirred : goal.returns-clause-stirred
returns-clause-stirred g c = stirred_read c.args.connection.now c.read.new.self 65536 c.args.stream.0 true c.read.result c.read.ensures.ok c.read.ensures.fault c.read.ensures.rest

pub returns-clause-follows : goal.returns-clause-follows
returns-clause-follows g c = λ start before t w.
    went_on start before c.args.connection.now c.read.new.self t (take_acts c.args.stream.0 c.read.result) w
    (c.made.ensures.read c.args.stream.0 65536 true c.read.result c.args.connection.now c.read.new.self c.read.ensures.ok c.read.ensures.fault c.read.ensures.rest c.read.ensures.follows)
    (c.behaves.ensures.read 65536 true c.args.stream.0 c.read.result c.args.connection.now c.read.new.self t (MatchResult-from_both c.read.result _ _ c.read.ensures.ok c.read.ensures.fault)
    c.read.ensures.rest (c.read.ensures.follows t w.behaves.follows) w.behaves)

pub returns-clause-in_order : goal.returns-clause-in_order
returns-clause-in_order g c = read_in_order c.args.stream.0 c.read.result c.args.connection.now c.read.ensures.in_order

pub returns-clause-none_arrived : goal.returns-clause-none_arrived
returns-clause-none_arrived g c = none_arrived 65536 c.args.stream.0 true c.read.result c.args.connection.now.space.streams c.read.new.self.space.streams c.read.ensures.ok c.read.ensures.fault

pub returns-clause-taken : goal.returns-clause-taken
returns-clause-taken g c = taken c.args.stream.0 c.read.result c.args.connection.now.space.streams c.read.new.self.space.streams c.read.ensures.ok c.read.ensures.fault

pub returns-clause-unwritten : goal.returns-clause-unwritten
returns-clause-unwritten g c = unwritten 65536 c.args.stream.0 true c.read.result c.args.connection.now.space.streams c.read.new.self.space.streams c.read.ensures.ok c.read.ensures.fault
