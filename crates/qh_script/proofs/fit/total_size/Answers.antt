use Rattle.std.proofs.Common.{ℕ, ◌+◌, sum_by, take, sym, ap, ◌∙◌}
use Rattle.std.proofs.lemmas.List.Sums.{sum_by_more}
use Rattle.qh_spec.specs.Size.{message_size}
use Rattle.qh_script.proofs.Sums.{saturated-step}
use Rattle.qh_script.proofs.fit.total_size.Goals as goal

pub loop-request-preserved : goal.loop-request-preserved
loop-request-preserved c =
    let before : ℕ = sum_by message_size (take c.loop-request.request-index c.args.requests.now) in
    saturated-step c.loop-request.total c.size.result before (message_size c.request-item.result) (sum_by message_size (take (c.loop-request.request-index + 1) c.args.requests.now)) c.saturating_add-total.result
    c.saturating_add-total.ensures c.loop-request.invariant c.size.ensures
    (sum_by_more message_size c.args.requests.now c.loop-request.request-index c.request-item.result c.loop-request-test.true ∙ ap (λ n. before + n) (ap message_size (sym c.request-item.is)))
