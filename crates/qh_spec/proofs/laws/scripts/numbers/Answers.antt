use Rattle.qh_spec.proofs.ScriptNumbers.{idle_is, idle_refused, endless_is, rtt_is, rtt_unfit, longest_unfit, rtt_refused, step_is, step_refused, rounds_is, rounds_refused}
use Rattle.qh_spec.proofs.laws.scripts.numbers.Goals as goal

pub returns-clause-idle : goal.returns-clause-idle
returns-clause-idle c = idle_is

pub returns-clause-no_idle : goal.returns-clause-no_idle
returns-clause-no_idle c = idle_refused

pub returns-clause-endless : goal.returns-clause-endless
returns-clause-endless c = endless_is

pub returns-clause-rtt : goal.returns-clause-rtt
returns-clause-rtt c = rtt_is

pub returns-clause-long_rtt : goal.returns-clause-long_rtt
returns-clause-long_rtt c = rtt_unfit

pub returns-clause-longest_rtt : goal.returns-clause-longest_rtt
returns-clause-longest_rtt c = longest_unfit

pub returns-clause-no_rtt : goal.returns-clause-no_rtt
returns-clause-no_rtt c = rtt_refused

pub returns-clause-step : goal.returns-clause-step
returns-clause-step c = step_is

pub returns-clause-no_step : goal.returns-clause-no_step
returns-clause-no_step c = step_refused

pub returns-clause-rounds : goal.returns-clause-rounds
returns-clause-rounds c = rounds_is

pub returns-clause-no_rounds : goal.returns-clause-no_rounds
returns-clause-no_rounds c = rounds_refused
