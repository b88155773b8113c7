use Rattle.std.proofs.Common.{ℕ, ◌<◌, ◌^◌, ◌∙◌, ap, List, length, rules}
use Rattle.qh_generator.specs.Counted.{Counting, first_ids}
use Rattle.qh_generator.specs.Given.{and_id}
use Rattle.qh_generator.proofs.Ids.{id_size, more_ids}
use Rattle.qh_generator.proofs.counting.CountingIdsConnectionIdGenerator.generate_cid.Goals as goal

pub returns-clause-size : goal.returns-clause-size
returns-clause-size c =
    let i = c.self.inside in
    ap (λ (z : List ℕ). length z) c.counted-id.ensures ∙ id_size i.len i.mark i.counter c.self.invariant.room ∙ ap (λ (v : Counting). v.len) c.self.view_is

pub returns-clause-given : goal.returns-clause-given
returns-clause-given c =
    let i = c.self.inside in
    let fits : i.given < 2 ^ 64 = search rules in
    more_ids i.len i.mark i.given i.counter c.saturating_add-self-inside.result c.counted-id.result fits c.self.invariant.counted c.saturating_add-self-inside.ensures c.counted-id.ensures
    ∙ ap (λ (v : Counting). and_id (first_ids v.len v.mark v.given) c.counted-id.result) c.self.view_is
