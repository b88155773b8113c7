use Rattle.std.proofs.Common.{◌≡◌, ◌∷◌, ◌++◌, ◌∙◌, [], List, Some, ap, arith}
use Rattle.std.specs.Option.{option_to_list}
use Rattle.qh_streams.specs.declared.frames.SentFrame.{SentFrame}
use Rattle.qh_streams.proofs.TakenBack.{all_taken, last_is_out, none_taken_yet, one_more_taken, rest_left}
use Rattle.qh_streams.proofs.streams.Streams.take_back.Goals as goal

pub loop-sent-init : goal.loop-sent-init
loop-sent-init c = none_taken_yet c.args.before c.args.self.now c.args.sent.now.items c.requires.within

pub lose-requires : goal.lose-requires
lose-requires c =
    last_is_out c.args.before c.args.self.now c.loop-sent.self c.args.sent.now.items c.loop-sent.sent.items c.pop.new.self.items c.in-Some.frame c.loop-sent.invariant
    (rw c.in-Some.is at c.pop.ensures.items) (omega arith) c.requires.out

pub loop-sent-preserved-in-Some : goal.loop-sent-preserved-in-Some
loop-sent-preserved-in-Some c =
    one_more_taken c.args.before c.args.self.now c.loop-sent.self c.args.sent.now.items c.loop-sent.sent.items c.pop.new.self.items c.in-Some.frame c.loop-sent.invariant
    (rw c.in-Some.is at c.pop.ensures.items) (omega arith) c.lose.new.self c.lose.ensures.lost c.lose.ensures.keeps_out
