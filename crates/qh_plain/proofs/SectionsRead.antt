-- Lines that are read one after another.
use Rattle.std.proofs.Common.{◌≡◌, ℕ, ◌<◌, ◌==◌, false, List, [], ◌∷◌, ◌++◌, length, refl, sym, ap, ◌∙◌, arith, Option, Some, None, subst, append_assoc, append-nil, length-append}
use Rattle.qh_base.proofs.Varints.{IsBytes}
use Rattle.qh_spec.specs.Fields.{Field}
use Rattle.qh_spec.specs.Section.{IsLine, AreLines}
use Rattle.qh_plain.specs.Sections.{line_at}
use Rattle.qh_plain.proofs.SectionAgain.{line_again, line_some}
use Rattle.qh_plain.proofs.SectionTakes.{line_takes}

-- The lines in front of the rest are those of the fields, and any lines of the bytes begin with them.
pub record LinesRead (bytes rest : List ℕ) (fs : List Field) : Type 0 where
  pub front : List ℕ
  pub whole : bytes ≡ front ++ rest
  pub rest_are : IsBytes rest
  pub are : AreLines front fs
  pub only : (others : List Field) → AreLines bytes others → (later : List Field) × AreLines rest later

pub none_read : (bytes : List ℕ) → IsBytes bytes → LinesRead bytes bytes []
none_read bytes all = record { front = []; whole = refl; rest_are = all; are = refl; only = λ others l. (others, l) }

lines_more : (a l : List ℕ) (fs : List Field) (f : Field) → AreLines a fs → IsLine l f → AreLines (a ++ l) (fs ++ f ∷ [])
lines_more a l [] f e is = (l, [], ap (λ (z : List ℕ). z ++ l) e ∙ sym (append-nil l), is, refl)
lines_more a l (g ∷ fs) f p is = (p.0, p.1 ++ l, ap (λ (z : List ℕ). z ++ l) p.2 ∙ append_assoc p.0 p.1 l, p.3, lines_more p.1 l fs f p.4 is)

-- any lines of the same bytes begin with the same line
same_line : (rest after : List ℕ) (f : Field) (others : List Field) → 0 < length rest → line_at rest ≡ Some (f, after) → AreLines rest others → (later : List Field) × AreLines after later
same_line rest after f [] some e l = let z = ap length l in absurd (omega arith)
same_line rest after f (g ∷ others) some e l =
    let again : line_at rest ≡ Some (g, l.1) = ap line_at l.2 ∙ line_again l.0 l.1 g l.3 in
    let both : ◌≡◌ {A = Option (Field × List ℕ)} (Some (g, l.1)) (Some (f, after)) = sym again ∙ e in
    let pair : ◌≡◌ {A = Field × List ℕ} (g, l.1) (f, after) = cc in
    let left : l.1 ≡ after = ap (λ (z : Field × List ℕ). z.1) pair in
    (others, subst (λ (z : List ℕ). AreLines z others) left l.4)

pub one_read : (bytes rest after : List ℕ) (fs : List Field) (f : Field) → 0 < length rest → line_at rest ≡ Some (f, after) → LinesRead bytes rest fs → LinesRead bytes after (fs ++ f ∷ [])
one_read bytes rest after fs f some e r =
    let l = line_takes rest after f r.rest_are e in
    record {
      front = r.front ++ l.front;
      whole = r.whole ∙ ap (λ (z : List ℕ). r.front ++ z) l.whole ∙ sym (append_assoc r.front l.front after);
      rest_are = l.rest_are;
      are = lines_more r.front l.front fs f r.are l.is;
      only = λ others ls. let o = r.only others ls in same_line rest after f o.0 some e o.1;
    }

pub shorter : (rest after : List ℕ) (f : Field) → IsBytes rest → line_at rest ≡ Some (f, after) → length after < length rest
shorter rest after f are e =
    let l = line_takes rest after f are e in
    let some = line_some l.front f l.is in
    let sizes = ap length l.whole in
    omega (arith, length-append l.front after)

none_line : (rest : List ℕ) (others : List Field) → 0 < length rest → line_at rest ≡ None → AreLines rest others → ⊥
none_line rest [] some e l = let z = ap length l in absurd (omega arith)
none_line rest (g ∷ others) some e l =
    let again : line_at rest ≡ Some (g, l.1) = ap line_at l.2 ∙ line_again l.0 l.1 g l.3 in
    let both : ◌≡◌ {A = Option (Field × List ℕ)} (Some (g, l.1)) None = sym again ∙ e in
    cc

pub no_lines : (bytes rest : List ℕ) (fs : List Field) → 0 < length rest → line_at rest ≡ None → LinesRead bytes rest fs → (others : List Field) → AreLines bytes others → ⊥
no_lines bytes rest fs some e r others l = let o = r.only others l in none_line rest o.0 some e o.1

pub some_of : (xs : List ℕ) → (length xs == 0) ≡ false → 0 < length xs
some_of [] e = cc
some_of (x ∷ xs) e = omega arith
