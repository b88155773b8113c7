use Rattle.std.proofs.Common.{sym, ap, ◌∙◌, Ok, Err}
use Rattle.qh_transcript.specs.Receiving.{read_acts}
use Rattle.qh_core.proofs.ReaderCalls.{read_call, read_is, read_fault, reads_in_order}
use Rattle.qh_core.proofs.StreamsGo.{called, call_follows}
use Rattle.qh_core.proofs.connection.Connection.read.Goals as goal
use Rattle.qh_core.proofs.connection.Connection.read.Goals.{in-Ok, in-Err}

pub invariant_of-self-2 : goal.invariant_of-self-2
invariant_of-self-2 g c = called c.self.inside.inner c.read.new.self (read_acts c.args.id.0 c.read.result)
    (read_call c.self.inside.inner.space.streams c.read.new.self c.args.id.0 c.args.max_length c.args.ordered c.read.result
    (read_is c.self.inside.inner.space.streams c.read.new.self c.args.id.0 c.args.max_length c.args.ordered c.read.result (sym c.readable_fault.ensures ∙ c.in_default.is) c.read.ensures.answer c.read.ensures.value) c.read.ensures.keeps_out) c.self.invariant

pub returns-clause-ok : goal.returns-clause-ok
returns-clause-ok g c = elim c.match-read.branch [
  | in-Ok w ↦ rw w.result-is (rw (← c.self.view_is) (read_is c.self.inside.inner.space.streams c.read.new.self c.args.id.0 c.args.max_length c.args.ordered (Ok w.in-Ok.chunk) (sym c.readable_fault.ensures ∙ c.in_default.is) w.in-Ok.ensures.answer c.read.ensures.value))
  | in-Err w ↦ rw w.result-is tt
]

pub returns-clause-fault : goal.returns-clause-fault
returns-clause-fault g c = elim c.match-read.branch [
  | in-Ok w ↦ rw w.result-is tt
  | in-Err w ↦ rw w.result-is (rw (← c.self.view_is) (read_is c.self.inside.inner.space.streams c.read.new.self c.args.id.0 c.args.max_length c.args.ordered (Err w.in-Err.fault) (sym c.readable_fault.ensures ∙ c.in_default.is) w.in-Err.ensures.answer c.read.ensures.value))
]

pub returns-clause-lacks : goal.returns-clause-lacks
returns-clause-lacks g c = elim c.match-read.branch [
  | in-Ok w ↦ rw w.result-is tt
  | in-Err w ↦ rw w.result-is (λ e. rw (← c.self.view_is) (w.in-Err.ensures.lacks (ap Err (read_fault e))))
]

pub returns-clause-follows : goal.returns-clause-follows
returns-clause-follows g c = λ t f. elim c.match-read.branch [
  | in-Ok w ↦ rw w.result-is (call_follows c.self.inside.inner c.read.new.self (read_acts c.args.id.0 (Ok w.in-Ok.chunk)) t
      (read_call c.self.inside.inner.space.streams c.read.new.self c.args.id.0 c.args.max_length c.args.ordered (Ok w.in-Ok.chunk)
      (read_is c.self.inside.inner.space.streams c.read.new.self c.args.id.0 c.args.max_length c.args.ordered (Ok w.in-Ok.chunk) (sym c.readable_fault.ensures ∙ c.in_default.is) w.in-Ok.ensures.answer c.read.ensures.value) c.read.ensures.keeps_out) c.self.invariant (rw c.self.view_is f))
  | in-Err w ↦ rw w.result-is (call_follows c.self.inside.inner c.read.new.self (read_acts c.args.id.0 (Err w.in-Err.fault)) t
      (read_call c.self.inside.inner.space.streams c.read.new.self c.args.id.0 c.args.max_length c.args.ordered (Err w.in-Err.fault)
      (read_is c.self.inside.inner.space.streams c.read.new.self c.args.id.0 c.args.max_length c.args.ordered (Err w.in-Err.fault) (sym c.readable_fault.ensures ∙ c.in_default.is) w.in-Err.ensures.answer c.read.ensures.value) c.read.ensures.keeps_out) c.self.invariant (rw c.self.view_is f))
]

pub returns-clause-in_order : goal.returns-clause-in_order
returns-clause-in_order g c = elim c.match-read.branch [
  | in-Ok w ↦ rw w.result-is (rw (← c.self.view_is) (reads_in_order c.self.inside.inner c.read.new.self c.args.id.0 c.args.max_length c.args.ordered w.in-Ok.chunk
      (read_is c.self.inside.inner.space.streams c.read.new.self c.args.id.0 c.args.max_length c.args.ordered (Ok w.in-Ok.chunk) (sym c.readable_fault.ensures ∙ c.in_default.is) w.in-Ok.ensures.answer c.read.ensures.value) c.self.invariant))
  | in-Err w ↦ rw w.result-is tt
]
