use Rattle.std.proofs.Common.{rules, ◌∙◌, ◌<◌, ◌^◌, ℕ, List, length, ap}
use Rattle.endpoint_rows.specs.Counted.{is_taken}
use Rattle.endpoint_rows.proofs.Counts.{id_size, id_taken, more_ids}
use Rattle.endpoint_rows.proofs.kit.RowIdsConnectionIdGenerator.generate_cid.Goals as goal

pub returns-clause-given : goal.returns-clause-given
returns-clause-given c =
    let s = c.args.self.now in
    let fits : s.given < 2 ^ 64 = search rules in
    more_ids s.len s.mark s.given c.saturating_add-self.result c.counted-id.result fits c.saturating_add-self.ensures c.counted-id.ensures

pub returns-clause-size : goal.returns-clause-size
returns-clause-size c =
    let s = c.args.self.now in
    ap (λ (z : List ℕ). length z) c.counted-id.ensures ∙ id_size s.len s.mark s.given s.short

pub returns-clause-own : goal.returns-clause-own
returns-clause-own c =
    let s = c.args.self.now in
    let fits : s.mark < 2 ^ 8 = search rules in
    ap (λ (z : List ℕ). is_taken s.is_strict s.mark z) c.counted-id.ensures ∙ id_taken s.is_strict s.len s.mark s.given s.whole fits
