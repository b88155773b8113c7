-- Lines of a script that aren't taken.
use Rattle.std.proofs.Common.{◌≡◌, ◌↔◌, ℕ, ◌+◌, ◌≤◌, Bool, false, IsTrue, Result, OnOk, IfErr, List, length, Some, None, sym, ap, ◌∙◌, subst}
use Rattle.std.proofs.lemmas.Result.{on_ok_weaker, IfErr-weaker}
use Rattle.std.proofs.lemmas.Bool.{false≢true}
use Rattle.qh_spec.specs.Lines.{lines}
use Rattle.qh_spec.specs.Config.{PlainConfig, Fits}
use Rattle.qh_spec.specs.Script.{Script, empty_script, applied, IsTaken, AreTaken, max_script, IsRefusedAt, at_line, unfit}
use Rattle.qh_spec.specs.ScriptLine.{Line}
use Rattle.qh_spec.proofs.LineLaws.{line_one}
use Rattle.qh_script.specs.declared.line.Line.{Line as ReadLine}
use Rattle.qh_script.specs.Line.{StandsFor}
use Rattle.qh_script.specs.Outline.{IsOutlined, MakesOutline, PlainOutline}
use Rattle.qh_script.specs.declared.script.ScriptError.{ScriptError}
use Rattle.qh_script.specs.declared.script.ScriptError.TheVariants.{Refused, Memory}
use Rattle.qh_script.specs.declared.script.untaken.Untaken.{Untaken}
use Rattle.qh_script.specs.Script.{Makes, MakesNone, WhenRefused, RefusesLines, RefusesKnown}
use Rattle.qh_script.proofs.Changes.{refused_weaker}

-- a line that is taken there, or isn't
pub made : (text : List ℕ) (line : ReadLine) (s t : Script) → StandsFor text line → Makes line s t → IsTaken text s t
made text line s t stands m = record { line = m.0; is = (stands.exact m.0).1 m.1; makes = m.2 }

pub unmade : (text : List ℕ) (line : ReadLine) (s t : Script) → StandsFor text line → MakesNone line s → IsTaken text s t → ⊥
unmade text line s t stands n taken =
    let same : n.0 ≡ taken.line = line_one text n.0 taken.line ((stands.exact n.0).1 n.1) taken.is in
    let both : None ≡ Some t = sym n.2 ∙ ap (λ (m : Line). applied m s) same ∙ taken.makes in
    absurd cc

pub made_outline : (text : List ℕ) (line : ReadLine) (s : Script) (o : PlainOutline) → StandsFor text line → MakesOutline line s o → IsOutlined text s o
made_outline text line s o stands m = record { next = m.next; taken = made text line s m.next stands m.makes; outline = m.outline }

-- the same of an answer
pub line_made : {T E : Type 0} (r : Result T E) (text : List ℕ) (line : ReadLine) (s t : Script) → StandsFor text line → OnOk r (Makes line s t) → OnOk r (IsTaken text s t)
line_made r text line s t stands done = on_ok_weaker r (made text line s t stands) done

pub line_unmade : {T : Type 0} (r : Result T Untaken) (text : List ℕ) (line : ReadLine) (s : Script) → StandsFor text line → IfErr r (λ e. WhenRefused e (MakesNone line s))
    → IfErr r (λ e. WhenRefused e ((t : Script) → IsTaken text s t → ⊥))
line_unmade r text line s stands failed =
    IfErr-weaker r (λ e. WhenRefused e (MakesNone line s)) (λ e. WhenRefused e ((t : Script) → IsTaken text s t → ⊥))
    (λ e. refused_weaker e (λ (n : MakesNone line s). λ t. unmade text line s t stands n)) failed

-- The refusals of a text.
pub refused_at : (text : List ℕ) (s : Script) (e : ScriptError) → length text ≤ max_script → s ≡ empty_script → RefusesLines IsTaken text s e → RefusesKnown text e
refused_at text s (Refused n) short is p =
    subst (λ (m : ℕ). IsRefusedAt text m) (sym p.count)
    (at_line p.front p.line p.rest p.mid short p.is (subst (λ (t : Script). AreTaken p.front t p.mid) is p.taken) p.refused)
refused_at text s Memory short is p = tt

pub unfit_at : (text : List ℕ) (s t : Script) (config : PlainConfig) (n : ℕ) (fit : Bool) → length text ≤ max_script → s ≡ empty_script → AreTaken (lines text) s t
    → n ≡ length (lines text) → config ≡ t.config → IsTrue fit ↔ Fits config → fit ≡ false → IsRefusedAt text (n + 1)
unfit_at text s t config n fit short is taken count same means is_false =
    subst (λ (m : ℕ). IsRefusedAt text (m + 1)) (sym count)
    (unfit t short (subst (λ (u : Script). AreTaken (lines text) u t) is taken)
    (λ fits. false≢true (sym is_false ∙ means.1 (subst (λ (c : PlainConfig). Fits c) (sym same) fits))))
