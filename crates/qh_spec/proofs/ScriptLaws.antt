-- A text is one script, or is refused at one line.
use Rattle.std.proofs.Common.{◌≡◌, ℕ, ◌+◌, List, ◌∷◌, ◌++◌, length, Some, refl, sym, ap, ◌∙◌, subst, arith, inl, inr}
use Rattle.std.proofs.lemmas.Bool.{cases_lt}
use Rattle.qh_spec.specs.Config.{Fits}
use Rattle.qh_spec.specs.Lines.{lines}
use Rattle.qh_spec.specs.Script.{Script, empty_script, applied, IsTaken, AreTaken, max_script, IsScript, IsRefusedAt, too_long, at_line, unfit}
use Rattle.qh_spec.specs.ScriptLine.{Line}
use Rattle.qh_spec.proofs.InTurn.{in_turn_one, none_refused, first_refused, lines_judged}
use Rattle.qh_spec.proofs.LineLaws.{line_one}

some_same : (s t : Script) → Some s ≡ Some t → s ≡ t
some_same s t e = cc

-- a line makes one script of a script
pub taken_one : (text : List ℕ) (s t u : Script) → IsTaken text s t → IsTaken text s u → t ≡ u
taken_one text s t u p q =
    let same = line_one text p.line q.line p.is q.is in
    some_same t u (sym p.makes ∙ ap (λ (l : Line). applied l s) same ∙ q.makes)

pub script_one : (text : List ℕ) (s t : Script) → IsScript text s → IsScript text t → s ≡ t
script_one text s t p q = in_turn_one IsTaken taken_one (lines text) empty_script s t p.taken q.taken

at_and_all : (text : List ℕ) (front : List (List ℕ)) (line : List ℕ) (rest : List (List ℕ)) (s t : Script) → lines text ≡ front ++ line ∷ rest → AreTaken front empty_script s
    → ((u : Script) → IsTaken line s u → ⊥) → AreTaken (lines text) empty_script t → ⊥
at_and_all text front line rest s t is p never q =
    none_refused IsTaken taken_one front line rest empty_script s t (subst (λ (ls : List (List ℕ)). AreTaken ls empty_script t) is q) p never

pub refused_one : (text : List ℕ) (i j : ℕ) → IsRefusedAt text i → IsRefusedAt text j → i ≡ j
refused_one text _ _ (too_long h) (too_long k) = refl
refused_one text _ _ (too_long h) (at_line front line rest s short is p never) = absurd (omega arith)
refused_one text _ _ (too_long h) (unfit s short p never) = absurd (omega arith)
refused_one text _ _ (at_line front line rest s short is p never) (too_long k) = absurd (omega arith)
refused_one text _ _ (at_line front line rest s short is p never) (at_line others other more t small at q not) =
    ap (λ (n : ℕ). n + 1) (first_refused IsTaken taken_one front line rest others other more empty_script s t (sym is ∙ at) p never q not)
refused_one text _ _ (at_line front line rest s short is p never) (unfit t small q not) = absurd (at_and_all text front line rest s t is p never q)
refused_one text _ _ (unfit s short p never) (too_long k) = absurd (omega arith)
refused_one text _ _ (unfit s short p never) (at_line front line rest t small is q not) = absurd (at_and_all text front line rest t s is q not p)
refused_one text _ _ (unfit s short p never) (unfit t small q not) = refl

pub not_both : (text : List ℕ) (s : Script) (i : ℕ) → IsScript text s → IsRefusedAt text i → ⊥
not_both text s _ p (too_long h) = let short = p.short in omega arith
not_both text s _ p (at_line front line rest t short is q never) = at_and_all text front line rest t s is q never p.taken
not_both text s _ p (unfit t short q never) = never (subst (λ (u : Script). Fits u.config) (in_turn_one IsTaken taken_one (lines text) empty_script s t p.taken q) p.fits)

-- a text is a script, or is refused
pub judged : (text : List ℕ) → ((s : Script) → IsScript text s → ⊥) → ((i : ℕ) → IsRefusedAt text i → ⊥) → ⊥
judged text none refused =
    elim (cases_lt max_script (length text)) [
      | inl long ↦ refused 0 (too_long long)
      | inr short ↦
          lines_judged IsTaken (lines text) empty_script
          (λ s taken. refused (length (lines text) + 1) (unfit s short taken (λ fits. none s (record { short = short; taken = taken; fits = fits }))))
          (λ front line rest mid is before never. refused (length front + 1) (at_line front line rest mid short is before never))
    ]
