-- Commands behind the limits of the log, where memory may have been wanting.
use Rattle.std.proofs.Common.{◌≡◌, ℕ, ◌+◌, ◌<◌, ◌≤◌, Result, IfErr, List, [], ◌∷◌, ◌++◌, length, Option, Some, None, refl, sym, ap, ◌∙◌, subst}
use Rattle.std.proofs.lemmas.Result.{IfErr-weaker}
use Rattle.qh_spec.specs.Lines.{lines}
use Rattle.qh_spec.specs.Script.{max_script}
use Rattle.qh_spec.specs.TokenFilter.{TokenLimits}
use Rattle.qh_spec.specs.TokenLog.{Token}
use Rattle.qh_spec.specs.TokenScript.{TokenLine, Empty, Log, Look, IsTokenLine, TokenScript, empty_tokens, applied, IsTaken, AreTaken, IsTokenScript}
use Rattle.qh_spec.proofs.TokenTexts.{token_line_one}
use Rattle.qh_script.specs.declared.script.ScriptError.{ScriptError}
use Rattle.qh_script.specs.declared.script.ScriptError.TheVariants.{Refused, Memory}
use Rattle.qh_script.specs.declared.script.untaken.Untaken.{Untaken}
use Rattle.qh_script.specs.declared.script.untaken.Untaken.TheVariants as untaken
use Rattle.qh_script.specs.Script.{IsFirstRefused}
use Rattle.qh_script.specs.Tokens.{HasLimits, IsTakenBehind, AreTakenBehind, IsAppliedBehind, IsFaultBehind, RefusesTokenLines, WhenUntaken}
use Rattle.qh_script.proofs.Reading.{Seen, seen_none, seen_more, seen_all, seen_refused, rest_refused, rest_taken}

-- ---- one line

pub look_wants : (t : Token) (s : TokenScript) → HasLimits s → IsAppliedBehind (Look t) s
look_wants t s h = record { next = record s { tokens = s.tokens ++ t ∷ [] }; makes = rw h refl; limited = h }

pub applied_taken : (text : List ℕ) (l : TokenLine) (s : TokenScript) → IsTokenLine text l → IsAppliedBehind l s → IsTakenBehind text s
applied_taken text l s is a = record { next = a.next; taken = record { line = l; is = is; makes = a.makes }; limited = a.limited }

pub empty_taken : (text : List ℕ) → IsTokenLine text Empty → (s : TokenScript) → HasLimits s → IsTakenBehind text s
empty_taken text is s h = record { next = s; taken = record { line = Empty; is = is; makes = refl }; limited = h }

pub look_taken : (text : List ℕ) (t : Token) → IsTokenLine text (Look t) → (s : TokenScript) → HasLimits s → IsTakenBehind text s
look_taken text t is s h = applied_taken text (Look t) s is (look_wants t s h)

pub untaken_by : (text : List ℕ) (l : TokenLine) (s : TokenScript) → IsTokenLine text l → applied l s ≡ None → (t : TokenScript) → IsTaken text s t → ⊥
untaken_by text l s is none t taken =
    let same : l ≡ taken.line = token_line_one text l taken.line is taken.is in
    let both : None ≡ Some t = sym none ∙ ap (λ (m : TokenLine). applied m s) same ∙ taken.makes in
    absurd cc

pub log_untaken : (text : List ℕ) (l : TokenLimits) → IsTokenLine text (Log l) → (s t : TokenScript) → HasLimits s → IsTaken text s t → ⊥
log_untaken text l is s t h = untaken_by text (Log l) s is (rw h refl) t

line_told : (e : Untaken) (text : List ℕ) (l : TokenLine) (s : TokenScript) → IsTokenLine text l → WhenUntaken e (applied l s ≡ None) (IsAppliedBehind l s)
    → WhenUntaken e ((t : TokenScript) → IsTaken text s t → ⊥) (IsTakenBehind text s)
line_told untaken.Refused text l s is told = untaken_by text l s is told
line_told untaken.Memory text l s is told = applied_taken text l s is told

-- the same of an answer
pub line_untaken : {T : Type 0} (r : Result T Untaken) (text : List ℕ) (l : TokenLine) (s : TokenScript) → IsTokenLine text l
    → IfErr r (λ e. WhenUntaken e (applied l s ≡ None) (IsAppliedBehind l s)) → IfErr r (λ e. WhenUntaken e ((t : TokenScript) → IsTaken text s t → ⊥) (IsTakenBehind text s))
line_untaken r text l s is failed =
    IfErr-weaker r (λ e. WhenUntaken e (applied l s ≡ None) (IsAppliedBehind l s)) (λ e. WhenUntaken e ((t : TokenScript) → IsTaken text s t → ⊥) (IsTakenBehind text s))
    (λ e. line_told e text l s is) failed

-- ---- the lines of a text

-- how far they were taken behind a state with limits
pub record SeenBehind (text rest : List ℕ) (s : TokenScript) (count : ℕ) : Type 0 where
  pub now : TokenScript
  pub seen : Seen IsTaken text rest s now count
  pub limited : HasLimits now

pub behind_none : (text : List ℕ) (s : TokenScript) → HasLimits s → SeenBehind text text s 0
behind_none text s h = record { now = s; seen = seen_none IsTaken text s; limited = h }

pub behind_more : (text rest line behind : List ℕ) (s : TokenScript) (n : ℕ) → SeenBehind text rest s n → lines rest ≡ line ∷ lines behind → length behind < length rest
    → ((t : TokenScript) → HasLimits t → IsTakenBehind line t) → SeenBehind text behind s (n + 1)
behind_more text rest line behind s n p cut shorter taken =
    let t : IsTakenBehind line p.now = taken p.now p.limited in
    record { now = t.next; seen = seen_more IsTaken text rest line behind s p.now t.next n p.seen cut shorter t.taken; limited = t.limited }

pub behind_all : (text rest : List ℕ) (s : TokenScript) (n : ℕ) → SeenBehind text rest s n → length rest ≡ 0 → AreTakenBehind text s
behind_all text rest s n p none = record { end = p.now; taken = seen_all IsTaken text rest s p.now n p.seen none; limited = p.limited }

pub behind_refused : (text rest line behind : List ℕ) (s : TokenScript) (n : ℕ) → SeenBehind text rest s n → lines rest ≡ line ∷ lines behind
    → ((t u : TokenScript) → HasLimits t → IsTaken line t u → ⊥) → IsFirstRefused IsTaken text s (n + 1)
behind_refused text rest line behind s n p cut never = seen_refused IsTaken text rest line behind s p.now n p.seen cut (λ u. never p.now u p.limited)

-- behind a line that wanted memory
pub fault_at : (text rest line behind : List ℕ) (old now : TokenScript) (n : ℕ) (e : ScriptError) → Seen IsTaken text rest old now n → lines rest ≡ line ∷ lines behind
    → length behind < length rest → IsTakenBehind line now → ((s : TokenScript) → HasLimits s → IsFaultBehind behind s (n + 1) e) → RefusesTokenLines text old e
fault_at text rest line behind old now n (Refused m) p cut shorter t told =
    let seen = seen_more IsTaken text rest line behind old now t.next n p cut shorter t.taken in
    let f = told t.next t.limited in
    subst (λ (k : ℕ). IsFirstRefused IsTaken text old k) (sym f.2) (rest_refused IsTaken text behind old t.next (n + 1) f.0 seen f.1)
fault_at text rest line behind old now n Memory p cut shorter t told =
    let seen = seen_more IsTaken text rest line behind old now t.next n p cut shorter t.taken in
    let f = told t.next t.limited in
    record { end = f.end; taken = rest_taken IsTaken text behind old t.next f.end (n + 1) seen f.taken; limited = f.limited }

-- a text whose every line is taken, and whose limits are given
pub whole : (text : List ℕ) (o : Option TokenLimits) (tokens : List Token) → length text ≤ max_script → AreTaken (lines text) empty_tokens (record { limits = o; tokens = tokens })
    → HasLimits (record { limits = o; tokens = tokens }) → (limits : TokenLimits) × (ts : List Token) × IsTokenScript text limits ts
whole text None tokens short taken h = absurd cc
whole text (Some l) tokens short taken h = (l, tokens, record { short = short; taken = taken })
