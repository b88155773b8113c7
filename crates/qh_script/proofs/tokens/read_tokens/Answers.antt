use Rattle.std.proofs.Common.{◌≡◌, ℕ, ◌+◌, ◌≤◌, false, List, length, Option, None, refl, sym, ap, subst}
use Rattle.std.specs.Option.{option_map}
use Rattle.std.specs.Prelude.{is_some}
use Rattle.std.proofs.lemmas.Result.{err_from_is_err_and}
use Rattle.qh_spec.specs.Lines.{lines}
use Rattle.qh_spec.specs.Script.{max_script}
use Rattle.qh_spec.specs.TokenScript.{TokenScript, empty_tokens, AreTaken, IsTokenRefusedAt, too_long, at_line, unlimited}
use Rattle.qh_spec.proofs.TokenTexts.{all_plain}
use Rattle.qh_script.specs.declared.script.ScriptError.{ScriptError}
use Rattle.qh_script.specs.declared.script.ScriptError.TheVariants.{Refused, Memory}
use Rattle.qh_script.specs.declared.tokens.TokenLimits.{TokenLimits}
use Rattle.qh_script.specs.Tokens.{limits_of, RefusesTokenLines, RefusesTokens}
use Rattle.qh_script.proofs.TokensBehind.{whole}
use Rattle.qh_script.proofs.tokens.read_tokens.Goals as goal

refused_at : (text : List ℕ) (s : TokenScript) (e : ScriptError) → length text ≤ max_script → s ≡ empty_tokens → RefusesTokenLines text s e → RefusesTokens text e
refused_at text s (Refused n) short is p =
    subst (λ (m : ℕ). IsTokenRefusedAt text m) (sym p.count)
    (at_line p.front p.line p.rest p.mid short p.is (subst (λ (t : TokenScript). AreTaken p.front t p.mid) is p.taken) p.refused)
refused_at text s Memory short is p =
    whole text p.end.limits p.end.tokens short (subst (λ (t : TokenScript). AreTaken (lines text) t p.end) is p.taken) p.limited

-- lines that give no limits
unlimited_at : (text : List ℕ) (s t : TokenScript) (o : Option TokenLimits) (n : ℕ) → length text ≤ max_script → s ≡ empty_tokens → AreTaken (lines text) s t
    → n ≡ length (lines text) → option_map limits_of o ≡ t.limits → o ≡ None → IsTokenRefusedAt text (n + 1)
unlimited_at text s t o n short is taken count same none =
    let all = subst (λ (u : TokenScript). AreTaken (lines text) u t) is taken in
    let no : is_some t.limits ≡ false = rw (← same, none) refl in
    let plain = all_plain (lines text) empty_tokens t all (λ e. refl) no in
    subst (λ (m : ℕ). IsTokenRefusedAt text (m + 1)) (sym count)
    (unlimited short (subst (λ (u : TokenScript). AreTaken (lines text) empty_tokens u) plain all))

pub returns-then-text-gt-MAX_SCRIPT-clause-refused :
    goal.returns-then-text-gt-MAX_SCRIPT-clause-refused
returns-then-text-gt-MAX_SCRIPT-clause-refused c = too_long c.if-text-gt-MAX_SCRIPT.true

pub returns-in_err-count-clause-refused : goal.returns-in_err-count-clause-refused
returns-in_err-count-clause-refused c =
    let p = err_from_is_err_and c.from_residual.result c.from_residual.ensures.1 in
    rw (p.1, p.2)
    (refused_at c.args.text.now c.empty-reading.result c.in_err-count.field-0.0 c.if-text-gt-MAX_SCRIPT.false c.empty-reading.ensures c.in_err-count.ensures.refused)

pub returns-in-None-clause-refused : goal.returns-in-None-clause-refused
returns-in-None-clause-refused c =
    unlimited_at c.args.text.now c.empty-reading.result c.take_lines.new.self c.reading.inside.limits c.in_ok-count.count c.if-text-gt-MAX_SCRIPT.false
    c.empty-reading.ensures c.in_ok-count.ensures.taken c.in_ok-count.ensures.count (ap (λ (s : TokenScript). s.limits) c.reading.view_is) c.in-None.is
