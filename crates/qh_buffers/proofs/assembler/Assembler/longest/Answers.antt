use Rattle.std.proofs.Common.{◌≡◌, ap, ◌∙◌, arith}
use Rattle.std.proofs.lemmas.Bool.{both_ways}
use Rattle.qh_buffers.specs.Assembler.{chunk_at, run_of}
use Rattle.qh_buffers.specs.Ranges.{front_of}
use Rattle.qh_buffers.proofs.Longest.{run_few, front_waits, front_longest, least_longest}
use Rattle.qh_buffers.proofs.assembler.Assembler.longest.Goals as goal
use Rattle.qh_buffers.proofs.assembler.Assembler.longest.Goals.{then-ordered, else-ordered}

pub returns-clause-few : goal.returns-clause-few
returns-clause-few c = omega (arith, c.run.ensures, run_few c.self.inside.chunks c.if-ordered.offset c.args.max_length)

pub returns-clause-waits : goal.returns-clause-waits
returns-clause-waits c = λ ordered k less.
    let given = c.self.inside.given in
    let cs = c.self.inside.chunks in
    let max = c.args.max_length in
    elim c.if-ordered.branch [
      | then-ordered w ↦
          let is : c.run.result ≡ run_of (front_of given) max cs = c.run.ensures ∙ ap (λ at. run_of at max cs) (w.offset-is ∙ w.front-offset.ensures.value) in
          rw (← c.self.view_is) (front_waits given cs c.self.inside.bytes_read max c.self.invariant c.run.result is k less)
      | else-ordered w ↦ absurd (both_ways c.args.ordered w.if-ordered.false ordered)
    ]

pub returns-clause-in_order : goal.returns-clause-in_order
returns-clause-in_order c = λ ordered new piece gives same.
    let given = c.self.inside.given in
    let cs = c.self.inside.chunks in
    let max = c.args.max_length in
    elim c.if-ordered.branch [
      | then-ordered w ↦
          let is : c.run.result ≡ run_of (front_of given) max cs = c.run.ensures ∙ ap (λ at. run_of at max cs) (w.offset-is ∙ w.front-offset.ensures.value) in
          front_longest given cs c.self.inside.bytes_read max c.self.invariant c.run.result is new piece (rw (← c.self.view_is) at gives) (rw (← c.self.view_is) at same)
      | else-ordered w ↦ absurd (both_ways c.args.ordered w.if-ordered.false ordered)
    ]

pub returns-clause-least : goal.returns-clause-least
returns-clause-least c = λ unordered new piece gives least.
    let given = c.self.inside.given in
    let cs = c.self.inside.chunks in
    let max = c.args.max_length in
    elim c.if-ordered.branch [
      | then-ordered w ↦ absurd (both_ways c.args.ordered unordered w.if-ordered.true)
      | else-ordered w ↦
          let is : c.run.result ≡ run_of (chunk_at cs 0).offset max cs = c.run.ensures ∙ ap (λ at. run_of at max cs) (w.offset-is ∙ w.front_offset-offset.ensures) in
          least_longest given cs c.self.inside.bytes_read max c.self.invariant c.run.result is new piece (rw (← c.self.view_is) at gives) (rw (← c.self.view_is) at least)
    ]
