use Rattle.std.proofs.Common.{rules, sym, ◌∙◌}
use Rattle.std.proofs.lemmas.List.{nil_from_length}
use Rattle.qh_streams.proofs.ItemLogs.{none_confirmed_yet, next_room, one_more_confirmed, all_confirmed, room_left}
use Rattle.qh_streams.proofs.StreamsSettledAll.{next_out, all_settled}
use Rattle.qh_streams.proofs.streams.Streams.acked_all.Goals as goal

pub loop-frame-init : goal.loop-frame-init
loop-frame-init c = none_confirmed_yet c.args.self.now c.args.log.now c.args.frames.items _ (search rules)

pub acked_into-requires-clause-out : goal.acked_into-requires-clause-out
acked_into-requires-clause-out c = next_out c.in-Some.frame c.next.new.self.rest.items c.loop-frame.invariant.so_far c.in-Some.ensures.steps.0 c.requires.out

pub acked_into-requires-clause-room : goal.acked_into-requires-clause-room
acked_into-requires-clause-room c = next_room c.in-Some.frame c.next.new.self.rest.items c.loop-frame.invariant c.in-Some.ensures.steps.0 c.requires.room

pub loop-frame-preserved : goal.loop-frame-preserved
loop-frame-preserved c =
    one_more_confirmed c.in-Some.frame c.next.new.self.rest.items c.loop-frame.invariant c.in-Some.ensures.steps.0
    c.acked_into.ensures.acked c.acked_into.ensures.keeps_out c.acked_into.ensures.confirmed c.acked_into.ensures.room

pub returns-clause-acked : goal.returns-clause-acked
returns-clause-acked c = all_settled c.loop-frame.invariant.so_far (nil_from_length _ (sym c.loop-frame.frame-iterator.rest.ok.0 ∙ c.in-None.ensures.steps.0))

pub returns-clause-confirmed : goal.returns-clause-confirmed
returns-clause-confirmed c = all_confirmed c.loop-frame.invariant (nil_from_length _ (sym c.loop-frame.frame-iterator.rest.ok.0 ∙ c.in-None.ensures.steps.0))

pub returns-clause-room : goal.returns-clause-room
returns-clause-room c = room_left c.loop-frame.invariant

pub returns-clause-keeps_out : goal.returns-clause-keeps_out
returns-clause-keeps_out c = c.loop-frame.invariant.so_far.keeps_out
