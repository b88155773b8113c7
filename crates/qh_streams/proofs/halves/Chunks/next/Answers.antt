use Rattle.std.proofs.Common.{◌≡◌, refl, sym, ap, ◌∙◌}
use Rattle.qh_streams.specs.declared.halves.ChunksState.TheVariants.{Readable}
use Rattle.qh_streams.specs.Halves.{read}
use Rattle.qh_streams.proofs.ChunksRead.{given_again, never_lacks, readable_is, goes_on_at}
use Rattle.qh_streams.proofs.halves.Chunks.next.Goals as goal

pub returns-in-Some-clause-answer : goal.returns-in-Some-clause-answer
returns-in-Some-clause-answer c = given_again c.args.self.now.streams.now c.args.self.now.id.0 c.args.max_length c.args.self.now.state c.in-Some.last (sym c.last_answer.ensures ∙ c.in-Some.is)

pub returns-clause-answer : goal.returns-clause-answer
returns-clause-answer c =
    let readable = readable_is c.args.self.now.state (sym c.last_answer.ensures ∙ c.in_default.is) in
    rw (readable, c.state_after-self.ensures) (read c.next-result.result c.next-result.ensures.answer c.next-result.ensures.value)

pub returns-clause-readable : goal.returns-clause-readable
returns-clause-readable c = λ e.
    let readable = readable_is c.args.self.now.state (sym c.last_answer.ensures ∙ c.in_default.is) in
    goes_on_at c.args.self.now.streams.now.recv c.next-result.new.self.recv c.args.self.now.id.0 c.args.max_length c.next-result.result (c.requires readable) c.next-result.ensures.answer (sym c.state_after-self.ensures ∙ e)

pub returns-in-Some-clause-lacks : goal.returns-in-Some-clause-lacks
returns-in-Some-clause-lacks c = λ lacks waits. never_lacks c.args.self.now.state c.in-Some.last (sym c.last_answer.ensures ∙ c.in-Some.is) lacks
