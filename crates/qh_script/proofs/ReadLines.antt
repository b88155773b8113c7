-- Whole lines.
use Rattle.std.proofs.Common.{◌≡◌, ◌≢◌, ℕ, ◌<◌, List, [], ◌∷◌, length, Option, Some, None, MatchOption, refl, sym, ap, ◌∙◌, subst, arith}
use Rattle.qh_spec.specs.ScriptLine as says
use Rattle.qh_spec.specs.ScriptLine.{Line, IsLine, empty, worded, Says}
use Rattle.qh_spec.proofs.LineLaws.{line_one}
use Rattle.qh_script.specs.declared.line.Line.{Line as ReadLine}
use Rattle.qh_script.specs.declared.line.Line.TheVariants as read
use Rattle.qh_script.specs.declared.line.keywords.Keyword.{Keyword}
use Rattle.qh_script.specs.Line.{HasNoSpace, SplitsFirst, Means, StandsFor, Tells, keyword_word}
use Rattle.qh_script.proofs.Spaces.{no_space_within, first_same}
use Rattle.qh_script.proofs.Arguments.{keyword_said, word_no_space}

pub empty_line : (text : List ℕ) → length text ≡ 0 → IsLine text says.Empty
empty_line [] e = empty refl
empty_line (b ∷ bs) e = absurd (omega arith)

pub no_line_spaceless : (text : List ℕ) → 0 < length text → HasNoSpace text → (l : Line) → IsLine text l → ⊥
no_line_spaceless text some h _ (empty e) = omega (arith, ap length e)
no_line_spaceless text some h _ (worded word behind l is s) = no_space_within word behind (rw is at h)

-- the line's word and what stands behind it are those that were split
line_says : (text front back : List ℕ) → 0 < length text → SplitsFirst text front back → (l : Line) → IsLine text l → Says front back l
line_says text front back some t _ (empty e) = absurd (omega (arith, ap length e))
line_says text front back some t _ (worded word behind l is s) =
    let same = first_same front back word behind t.1 (word_no_space word behind l s) (sym t.0 ∙ is) in
    rw (same.0, same.1) s

pub no_line_word : (text front back : List ℕ) → 0 < length text → SplitsFirst text front back → ((k : Keyword) → front ≢ keyword_word k) → (l : Line) → IsLine text l → ⊥
no_line_word text front back some t n l is =
    let k = keyword_said front back l (line_says text front back some t l is) in
    n k.0 k.1

pub is_line : (text front back : List ℕ) (k : Keyword) → SplitsFirst text front back → front ≡ keyword_word k → (l : Line) → Says (keyword_word k) back l → IsLine text l
is_line text front back k t w l s = worded front back l t.0 (rw w s)

pub no_line : (text front back : List ℕ) (k : Keyword) → 0 < length text → SplitsFirst text front back → front ≡ keyword_word k
    → ((l : Line) → Says (keyword_word k) back l → ⊥) → (l : Line) → IsLine text l → ⊥
no_line text front back k some t w never l is = never l (rw w at (line_says text front back some t l is))

-- what is read of a text, where it stands for what the text says
stands : (text : List ℕ) (line : ReadLine) → Tells Means (IsLine text) line → StandsFor text line
stands text line t = record {
  some = (t.meant, t.is);
  exact = λ l. (λ is. subst (λ (m : Line). Means line m) (line_one text t.meant l (t.only t.meant t.is) is) t.is, t.only l);
}

pub empty_stands : (text : List ℕ) → length text ≡ 0 → StandsFor text read.Empty
empty_stands text e =
    stands text read.Empty (record { meant = says.Empty; is = refl; only = λ l same. rw same (empty_line text e) })

pub line_stands : (text front back : List ℕ) (k : Keyword) (o : Option ReadLine) → 0 < length text → SplitsFirst text front back → front ≡ keyword_word k
    → MatchOption o ((l : Line) → Says (keyword_word k) back l → ⊥) (Tells Means (Says (keyword_word k) back))
    → MatchOption o ((l : Line) → IsLine text l → ⊥) (StandsFor text)
line_stands text front back k None some t w never = no_line text front back k some t w never
line_stands text front back k (Some line) some t w h =
    stands text line (record { meant = h.meant; is = h.is; only = λ l m. is_line text front back k t w l (h.only l m) })
