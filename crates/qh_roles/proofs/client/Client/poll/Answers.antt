use Rattle.std.proofs.Common.{◌∙◌}
use Rattle.qh_roles.proofs.ClientGoes.{goes_after, filter_goes}
use Rattle.qh_roles.proofs.ClientLists.{of_filtered}
use Rattle.qh_roles.specs.ClientSteps.{is_left}
use Rattle.qh_roles.proofs.client.Client.poll.Goals as goal

pub returns-in_err-poll_stream-clause-kept : goal.returns-in_err-poll_stream-clause-kept
returns-in_err-poll_stream-clause-kept g c =
    (goes_after c.args.self.now c.loop-at.self c.poll_stream.new.self c.args.connection.now c.loop-at.connection c.poll_stream.new.connection c.loop-at.invariant.0 c.poll_stream.ensures.goes).kept

pub returns-in_err-poll_stream-clause-asks : goal.returns-in_err-poll_stream-clause-asks
returns-in_err-poll_stream-clause-asks g c =
    (goes_after c.args.self.now c.loop-at.self c.poll_stream.new.self c.args.connection.now c.loop-at.connection c.poll_stream.new.connection c.loop-at.invariant.0 c.poll_stream.ensures.goes).asks

pub loop-at-preserved : goal.loop-at-preserved
loop-at-preserved g c = (
  goes_after c.args.self.now c.loop-at.self c.poll_stream.new.self c.args.connection.now c.loop-at.connection c.poll_stream.new.connection c.loop-at.invariant.0 c.poll_stream.ensures.goes,
  c.poll_stream.ensures.length ∙ c.loop-at.invariant.1,
)

pub returns-in_err-open_all-clause-kept : goal.returns-in_err-open_all-clause-kept
returns-in_err-open_all-clause-kept g c =
    (goes_after c.args.self.now c.loop-at.self c.open_all.new.self c.args.connection.now c.loop-at.connection c.open_all.new.connection c.loop-at.invariant.0 c.open_all.ensures.goes).kept

pub returns-in_err-open_all-clause-asks : goal.returns-in_err-open_all-clause-asks
returns-in_err-open_all-clause-asks g c =
    (goes_after c.args.self.now c.loop-at.self c.open_all.new.self c.args.connection.now c.loop-at.connection c.open_all.new.connection c.loop-at.invariant.0 c.open_all.ensures.goes).asks

pub returns-clause-kept : goal.returns-clause-kept
returns-clause-kept g c =
    rw c.forget_done.ensures (goes_after c.args.self.now c.loop-at.self c.open_all.new.self c.args.connection.now c.loop-at.connection c.open_all.new.connection c.loop-at.invariant.0 c.open_all.ensures.goes).kept

pub returns-clause-asks : goal.returns-clause-asks
returns-clause-asks g c =
    rw c.forget_done.ensures
    (goes_after c.args.self.now c.open_all.new.self _ c.args.connection.now c.open_all.new.connection c.open_all.new.connection
    (goes_after c.args.self.now c.loop-at.self c.open_all.new.self c.args.connection.now c.loop-at.connection c.open_all.new.connection c.loop-at.invariant.0 c.open_all.ensures.goes)
    (filter_goes c.open_all.new.self is_left c.open_all.new.connection)).asks

pub returns-clause-going : goal.returns-clause-going
returns-clause-going g c = rw c.forget_done.ensures (λ r among. (of_filtered is_left c.open_all.new.self.streams r among).1)
