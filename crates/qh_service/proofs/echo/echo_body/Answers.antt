use Rattle.std.proofs.Common.{◌≡◌, [], ◌∷◌, ◌∙◌, ap}
use Rattle.qh_spec.specs.Service.{request_line}
use Rattle.qh_service.proofs.Cuts.{take-append_three}
use Rattle.qh_service.proofs.echo.echo_body.Goals as goal

pub returns : goal.returns
returns c =
    let line : c.as_bytes.result.now ≡ request_line c.args.request.now.head =
    c.as_bytes.ensures.value ∙ c.in_ok-line.ensures ∙ ap request_line c.head.ensures in
    take-append_three c.args.limit (request_line c.args.request.now.head) (10 ∷ []) c.args.request.now.body c.new-body.result.items
    c.push_within.new.body.items c.push_within-2.new.body.items _ c.new-body.ensures.items
    (rw (← line) c.in_ok-push_within.ensures) c.in_ok-push_within-2.ensures (rw (← c.body.ensures) c.in_ok-push_within-3.ensures)
