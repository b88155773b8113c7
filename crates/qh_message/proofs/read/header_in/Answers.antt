use Rattle.qh_message.proofs.Spelled.{unreadable}
use Rattle.qh_message.proofs.read.header_in.Goals as goal

pub returns-in_default-clause-none : goal.returns-in_default-clause-none
returns-in_default-clause-none c = λ fields is taken. (rw c.in_default.is at c.in_ok-lines.ensures.none) fields is

pub returns-in_default-error : goal.returns-in_default-error
returns-in_default-error c = record {
  found = tt;
  none = λ fields is taken.
      unreadable c.args.section.now c.in-Some.lines.items fields c.in-Err.error c.in_default-error.not-Memory (rw c.in-Some.is at c.in_ok-lines.ensures.found) c.in-Err.ensures.refused is taken;
}
