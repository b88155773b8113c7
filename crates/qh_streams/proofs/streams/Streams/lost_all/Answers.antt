use Rattle.std.proofs.Common.{rules, sym, ◌∙◌}
use Rattle.std.proofs.lemmas.List.{nil_from_length}
use Rattle.qh_streams.proofs.StreamsSettledAll.{none_lost_yet, next_out, one_more_lost, all_settled}
use Rattle.qh_streams.proofs.streams.Streams.lost_all.Goals as goal

pub loop-frame-init : goal.loop-frame-init
loop-frame-init c = none_lost_yet c.args.self.now c.args.frames.items _ (search rules)

pub lost-requires : goal.lost-requires
lost-requires c = next_out c.in-Some.frame c.next.new.self.rest.items c.loop-frame.invariant c.in-Some.ensures.steps.0 c.requires

pub loop-frame-preserved : goal.loop-frame-preserved
loop-frame-preserved c = one_more_lost c.in-Some.frame c.next.new.self.rest.items c.loop-frame.invariant c.in-Some.ensures.steps.0 c.lost.ensures.lost c.lost.ensures.keeps_out

pub returns-clause-lost : goal.returns-clause-lost
returns-clause-lost c = all_settled c.loop-frame.invariant (nil_from_length _ (sym c.loop-frame.frame-iterator.rest.ok.0 ∙ c.in-None.ensures.steps.0))

pub returns-clause-keeps_out : goal.returns-clause-keeps_out
returns-clause-keeps_out c = c.loop-frame.invariant.keeps_out
