use Rattle.std.proofs.Common.{◌≤◌, ap, ◌∙◌}
use Rattle.qh_parts.specs.declared.min_max.Sample.{Sample}
use Rattle.qh_parts.specs.MinMax.{with_sample}
use Rattle.qh_parts.proofs.Samples.{with_sample-greatest, with_sample-recent, with_sample-rounds, list_of-with_sample, InOrder-with_sample}
use Rattle.qh_parts.proofs.min_max.MinMax.update_max.Goals as goal

pub invariant_of-self : goal.invariant_of-self
invariant_of-self c =
    let third : c.self.inside.samples.third.round ≤ c.args.round = rw c.self.view_is c.requires in
    rw c.update-self-inside.ensures (InOrder-with_sample _ _ c.self.invariant third)

pub returns-clause-greatest : goal.returns-clause-greatest
returns-clause-greatest c = rw c.update-self-inside.ensures (with_sample-greatest c.self.inside.samples _)

pub returns-clause-recent : goal.returns-clause-recent
returns-clause-recent c = rw c.update-self-inside.ensures (with_sample-recent c.self.inside.samples _)

pub returns-clause-rounds : goal.returns-clause-rounds
returns-clause-rounds c =
    let third : c.self.inside.samples.third.round ≤ c.args.round = rw c.self.view_is c.requires in
    rw c.update-self-inside.ensures (with_sample-rounds c.self.inside.samples _ c.self.invariant third)

pub returns-clause-given : goal.returns-clause-given
returns-clause-given c =
    let sample : Sample = record { round = c.args.round; value = c.args.measurement } in
    list_of-with_sample _ sample _ (c.update-self-inside.ensures ∙ ap (λ s. with_sample s sample) c.self.view_is)
