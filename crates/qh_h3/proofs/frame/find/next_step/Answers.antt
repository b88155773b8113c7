use Rattle.std.proofs.Common.{rules, ◌≡◌, List, refl, sym, ◌∙◌, subst, ℕ}
use Rattle.qh_h3.specs.Finding.{IsHalt}
use Rattle.qh_h3.proofs.Found.{passed_in, found_in, halt_in, skip_step, skip_shorter}
use Rattle.qh_h3.proofs.frame.find.next_step.Goals as goal

pub returns-then-passes-clause-step : goal.returns-then-passes-clause-step
returns-then-passes-clause-step c =
    let d = c.decode-answer.ensures in
    skip_step c.args.of_body c.args.held.now c.advance.new.self c.decode-answer.result.1
    (passed_in c.args.of_body c.decode-answer.result.0 c.as_slice.result.now c.args.held.now c.decode-answer.result.1 c.as_slice.ensures c.in-Ok.frame c.in-Ok.is (sym c.passes.ensures ∙ c.if-passes.true) d.data_len) c.advance.ensures

pub returns-else-passes-clause-step : goal.returns-else-passes-clause-step
returns-else-passes-clause-step c =
    let d = c.decode-answer.ensures in
    found_in c.args.of_body c.decode-answer.result.0 c.as_slice.result.now c.args.held.now c.decode-answer.result.1 c.as_slice.ensures c.advance.new.self c.in-Ok.frame c.in-Ok.is (sym c.passes.ensures ∙ c.if-passes.false) c.advance.ensures d.found d.data_len

pub returns-else-is_short-clause-step : goal.returns-else-is_short-clause-step
returns-else-is_short-clause-step c =
    let d = c.decode-answer.ensures in (
      refl,
      subst (IsHalt c.args.held.now) (sym c.of_frame.ensures)
          (halt_in c.decode-answer.result.0 c.as_slice.result.now c.args.held.now c.decode-answer.result.1 c.as_slice.ensures c.in-Err.error c.in-Err.is (sym c.is_unknown.ensures ∙ c.if-is_unknown.false) (sym c.is_short.ensures ∙ c.if-is_short.false)
          (record { exact = d.exact; malformed = d.malformed; forbidden = d.forbidden; settings = d.settings })),
    )
