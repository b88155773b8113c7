-- Bytes have one fault at most, and a section within its limit has none.
use Rattle.std.proofs.Common.{◌≡◌, ◌≢◌, ℕ, ◌+◌, ◌≤◌, ◌==◌, false, if◌then◌else◌, List, [], ◌∷◌, ◌++◌, length, drop, refl, sym, ap, ◌∙◌, arith, inl, inr, Result, Ok, Err, subst, append_assoc, append-nil}
use Rattle.std.specs.Prelude.{◌⊎◌}
use Rattle.std.proofs.lemmas.Bool.{cases_Bool, eqb-true}
use Rattle.std.proofs.lemmas.List.Sums.{sum_by-append}
use Rattle.qh_spec.specs.Fields.{Field}
use Rattle.qh_spec.specs.Section.{AreLines, IsSection}
use Rattle.qh_spec.specs.Size.{section_size}
use Rattle.qh_spec.proofs.SectionLaws.{lines_agree}
use Rattle.qh_qpack.specs.declared.decoder.DecoderError.{DecoderError}
use Rattle.qh_qpack.specs.declared.decoder.DecoderError.TheVariants.{HeaderTooLong, Malformed, Huffman, Dynamic, Memory}
use Rattle.qh_qpack.specs.SectionAt.{line_at}
use Rattle.qh_qpack.specs.SectionFault.{bounded_size, HasHuffman, HasDynamic, BeginsLine, IsLineFault, IsSectionFault, count, base, no_count, no_base, line}
use Rattle.qh_qpack.proofs.LineAgain.{line_again, huffman_again, dynamic_again}

-- lines that go on behind others: what follows the first is the second's lines and what follows those
record GoesOn (x y : List ℕ) (fs gs : List Field) : Type 0 where
  more : List ℕ
  later : List Field
  whole : x ≡ more ++ y
  are : AreLines more later
  fields : gs ≡ fs ++ later

one_goes_on : (a x b y : List ℕ) (fs gs : List Field) → AreLines a fs → AreLines b gs → a ++ x ≡ b ++ y → GoesOn x y fs gs ⊎ GoesOn y x gs fs
one_goes_on a x b y [] gs p q e = inl (record { more = b; later = gs; whole = ap (λ (z : List ℕ). z ++ x) (sym p) ∙ e; are = q; fields = refl })
one_goes_on a x b y (f ∷ fs) [] p q e = inr (record { more = a; later = f ∷ fs; whole = ap (λ (z : List ℕ). z ++ y) (sym q) ∙ sym e; are = p; fields = refl })
one_goes_on a x b y (f ∷ fs) (g ∷ gs) p q e =
    let cut : p.0 ++ (p.1 ++ x) ≡ q.0 ++ (q.1 ++ y) =
    sym (append_assoc p.0 p.1 x) ∙ ap (λ (z : List ℕ). z ++ x) (sym p.2) ∙ e ∙ ap (λ (z : List ℕ). z ++ y) q.2 ∙ append_assoc q.0 q.1 y in
    let same = lines_agree p.0 (p.1 ++ x) q.0 (q.1 ++ y) f g p.3 q.3 cut in
    let first : f ≡ g = same.0 in
    elim (one_goes_on p.1 x q.1 y fs gs p.4 q.4 same.1) [
      | inl r ↦ (let rest : gs ≡ fs ++ r.later = r.fields in inl (record { more = r.more; later = r.later; whole = r.whole; are = r.are; fields = cc }))
      | inr r ↦ (let rest : fs ≡ gs ++ r.later = r.fields in inr (record { more = r.more; later = r.later; whole = r.whole; are = r.are; fields = cc }))
    ]

line_told : (bytes : List ℕ) (f : Field) (l : BeginsLine bytes f) → line_at bytes ≡ Ok (f, l.rest)
line_told bytes f l = ap line_at l.whole ∙ line_again l.line l.rest f l.is_line

not_dynamic : (bytes : List ℕ) (f : Field) → BeginsLine bytes f → HasDynamic bytes → ⊥
not_dynamic bytes f l d = let both : ◌≡◌ {A = Result (Field × List ℕ) DecoderError} (Ok (f, l.rest)) (Err Dynamic) = sym (line_told bytes f l) ∙ dynamic_again bytes d in cc

not_huffman : (bytes : List ℕ) (f : Field) → BeginsLine bytes f → HasHuffman bytes → ⊥
not_huffman bytes f l h = let both : ◌≡◌ {A = Result (Field × List ℕ) DecoderError} (Ok (f, l.rest)) (Err Huffman) = sym (line_told bytes f l) ∙ huffman_again bytes h in cc

not_both : (bytes : List ℕ) → HasDynamic bytes → HasHuffman bytes → ⊥
not_both bytes d h = let both : ◌≡◌ {A = Result (Field × List ℕ) DecoderError} (Err Dynamic) (Err Huffman) = sym (dynamic_again bytes d) ∙ huffman_again bytes h in cc

one_line : (bytes : List ℕ) (f g : Field) → BeginsLine bytes f → BeginsLine bytes g → f ≡ g
one_line bytes f g l m = (lines_agree l.line l.rest m.line m.rest f g l.is_line m.is_line (sym l.whole ∙ m.whole)).0

-- a line that the limit holds has no fault
no_line_fault : (max_size : ℕ) (front : List Field) (bytes : List ℕ) (f : Field) (e : DecoderError) → BeginsLine bytes f → bounded_size (front ++ f ∷ []) ≤ max_size → IsLineFault max_size front bytes e → ⊥
no_line_fault max_size front bytes f Dynamic l within d = not_dynamic bytes f l d
no_line_fault max_size front bytes f Huffman l within h = not_huffman bytes f l h
no_line_fault max_size front bytes f Malformed l within m = m.2 f l
no_line_fault max_size front bytes f (HeaderTooLong size) l within t =
    let same : t.0 ≡ f = one_line bytes t.0 f t.1 l in
    let size_is : size ≡ bounded_size (front ++ f ∷ []) = t.2 ∙ ap (λ (z : Field). bounded_size (front ++ z ∷ [])) same in
    let over = t.3 in
    absurd (omega arith)
no_line_fault max_size front bytes f Memory l within m = m

-- two faults of one line
one_line_fault : (max_size : ℕ) (front : List Field) (bytes : List ℕ) (a b : DecoderError) → IsLineFault max_size front bytes a → IsLineFault max_size front bytes b → a ≡ b
one_line_fault max_size front bytes Memory b p q = absurd p
one_line_fault max_size front bytes Dynamic Memory p q = absurd q
one_line_fault max_size front bytes Dynamic Dynamic p q = refl
one_line_fault max_size front bytes Dynamic Huffman p q = absurd (not_both bytes p q)
one_line_fault max_size front bytes Dynamic Malformed p q = absurd (q.0 p)
one_line_fault max_size front bytes Dynamic (HeaderTooLong size) p q = absurd (not_dynamic bytes q.0 q.1 p)
one_line_fault max_size front bytes Huffman Memory p q = absurd q
one_line_fault max_size front bytes Huffman Dynamic p q = absurd (not_both bytes q p)
one_line_fault max_size front bytes Huffman Huffman p q = refl
one_line_fault max_size front bytes Huffman Malformed p q = absurd (q.1 p)
one_line_fault max_size front bytes Huffman (HeaderTooLong size) p q = absurd (not_huffman bytes q.0 q.1 p)
one_line_fault max_size front bytes Malformed Memory p q = absurd q
one_line_fault max_size front bytes Malformed Dynamic p q = absurd (p.0 q)
one_line_fault max_size front bytes Malformed Huffman p q = absurd (p.1 q)
one_line_fault max_size front bytes Malformed Malformed p q = refl
one_line_fault max_size front bytes Malformed (HeaderTooLong size) p q = absurd (p.2 q.0 q.1)
one_line_fault max_size front bytes (HeaderTooLong size) Memory p q = absurd q
one_line_fault max_size front bytes (HeaderTooLong size) Dynamic p q = absurd (not_dynamic bytes p.0 p.1 q)
one_line_fault max_size front bytes (HeaderTooLong size) Huffman p q = absurd (not_huffman bytes p.0 p.1 q)
one_line_fault max_size front bytes (HeaderTooLong size) Malformed p q = absurd (q.2 p.0 p.1)
one_line_fault max_size front bytes (HeaderTooLong size) (HeaderTooLong size') p q =
    let same : p.0 ≡ q.0 = one_line bytes p.0 q.0 p.1 q.1 in
    ap HeaderTooLong (p.2 ∙ ap (λ (z : Field). bounded_size (front ++ z ∷ [])) same ∙ sym q.2)

bounded_more : (fs : List Field) (f : Field) (gs : List Field) → bounded_size (fs ++ f ∷ []) ≤ bounded_size (fs ++ f ∷ gs)
bounded_more fs f gs =
    let parts : fs ++ f ∷ gs ≡ (fs ++ f ∷ []) ++ gs = sym (append_assoc fs (f ∷ []) gs) in
    let sum : section_size ((fs ++ f ∷ []) ++ gs) ≡ section_size (fs ++ f ∷ []) + section_size gs = sum_by-append (λ (g : Field). length g.name + length g.value + 32) (fs ++ f ∷ []) gs in
    let whole : section_size (fs ++ f ∷ gs) ≡ section_size (fs ++ f ∷ []) + section_size gs = ap section_size parts ∙ sum in
    omega arith

-- lines that go on behind a fault go on by none
stops : (max_size : ℕ) (x y : List ℕ) (fs gs : List Field) (e : DecoderError) (more : List ℕ) (later : List Field) → x ≡ more ++ y → AreLines more later → gs ≡ fs ++ later → bounded_size gs ≤ max_size
    → IsLineFault max_size fs x e → (x ≡ y) × (fs ≡ gs)
stops max_size x y fs gs e more [] w are is within fault = (w ∙ ap (λ (z : List ℕ). z ++ y) are, sym (is ∙ append-nil fs))
stops max_size x y fs gs e more (f ∷ later) w are is within fault =
    let begins : BeginsLine x f = record { line = are.0; rest = are.1 ++ y; whole = w ∙ ap (λ (z : List ℕ). z ++ y) are.2 ∙ append_assoc are.0 are.1 y; is_line = are.3 } in
    let grows = bounded_more fs f later in
    let same : bounded_size gs ≡ bounded_size (fs ++ f ∷ later) = ap bounded_size is in
    absurd (no_line_fault max_size fs x f e begins (omega arith) fault)

-- the line at fault
record LineFault (max_size : ℕ) (bytes : List ℕ) (e : DecoderError) : Type 0 where
  front : List Field
  lines : List ℕ
  rest : List ℕ
  whole : bytes ≡ 0 ∷ 0 ∷ (lines ++ rest)
  are : AreLines lines front
  within : bounded_size front ≤ max_size
  some : rest ≢ []
  fault : IsLineFault max_size front rest e

tails : (a b bytes : List ℕ) → bytes ≡ 0 ∷ 0 ∷ a → bytes ≡ 0 ∷ 0 ∷ b → a ≡ b
tails a b bytes p q = ap (λ (z : List ℕ). drop 2 z) (sym p ∙ q)

same_place : (max_size : ℕ) (x y : List ℕ) (fs gs : List Field) (a b : DecoderError) → (x ≡ y) × (fs ≡ gs) → IsLineFault max_size fs x a → IsLineFault max_size gs y b → a ≡ b
same_place max_size x y fs gs a b same p q =
    one_line_fault max_size gs y a b (subst (λ (z : List Field). IsLineFault max_size z y a) same.1 (subst (λ (z : List ℕ). IsLineFault max_size fs z a) same.0 p)) q

both_lines : (max_size : ℕ) (bytes : List ℕ) (a b : DecoderError) → LineFault max_size bytes a → LineFault max_size bytes b → a ≡ b
both_lines max_size bytes a b p q =
    elim (one_goes_on p.lines p.rest q.lines q.rest p.front q.front p.are q.are (tails (p.lines ++ p.rest) (q.lines ++ q.rest) bytes p.whole q.whole)) [
      | inl g ↦ same_place max_size p.rest q.rest p.front q.front a b (stops max_size p.rest q.rest p.front q.front a g.more g.later g.whole g.are g.fields q.within p.fault) p.fault q.fault
      | inr g ↦ sym (same_place max_size q.rest p.rest q.front p.front b a (stops max_size q.rest p.rest q.front p.front b g.more g.later g.whole g.are g.fields p.within q.fault) q.fault p.fault)
    ]

-- what the first two bytes are
data Start : Type 0 where
  NoCount : Start
  Count : Start
  NoBase : Start
  Base : Start
  Lines : Start

abbrev start_of : List ℕ → Start
start_of [] = NoCount
start_of (b ∷ []) = if b == 0 then NoBase else Count
start_of (b ∷ c ∷ bs) = if b == 0 then (if c == 0 then Lines else Base) else Count

-- and what they tell of the fault
abbrev Told : (max_size : ℕ) → List ℕ → DecoderError → Start → Type 0
Told max_size bytes e NoCount = Malformed ≡ e
Told max_size bytes e Count = Dynamic ≡ e
Told max_size bytes e NoBase = Malformed ≡ e
Told max_size bytes e Base = Dynamic ≡ e
Told max_size bytes e Lines = LineFault max_size bytes e

not_zero : (b : ℕ) → b ≢ 0 → (b == 0) ≡ false
not_zero b n =
    elim (cases_Bool (b == 0)) [
      | inl t ↦ absurd (n (eqb-true b 0 t))
      | inr t ↦ t
    ]

count_start : (b : ℕ) (bs : List ℕ) → b ≢ 0 → start_of (b ∷ bs) ≡ Count
count_start b [] n = let t = not_zero b n in rw t refl
count_start b (c ∷ bs) n = let t = not_zero b n in rw t refl

told : (max_size : ℕ) (bytes : List ℕ) (e : DecoderError) → IsSectionFault max_size bytes e → Told max_size bytes e (start_of bytes)
told max_size bytes e (count b rest w n) = subst (Told max_size bytes Dynamic) (sym (ap start_of w ∙ count_start b rest n)) refl
told max_size bytes e (base b rest w n) =
    let t = not_zero b n in
    let is : start_of (0 ∷ b ∷ rest) ≡ Base = rw t refl in
    subst (Told max_size bytes Dynamic) (sym (ap start_of w ∙ is)) refl
told max_size bytes e (no_count w) = subst (Told max_size bytes Malformed) (sym (ap start_of w)) refl
told max_size bytes e (no_base w) = subst (Told max_size bytes Malformed) (sym (ap start_of w)) refl
told max_size bytes e (line front lines rest fault w are within some at) =
    subst (Told max_size bytes fault) (sym (ap start_of w)) (record { front = front; lines = lines; rest = rest; whole = w; are = are; within = within; some = some; fault = at })

agree : (max_size : ℕ) (bytes : List ℕ) (a b : DecoderError) (s : Start) → Told max_size bytes a s → Told max_size bytes b s → a ≡ b
agree max_size bytes a b NoCount p q = sym p ∙ q
agree max_size bytes a b Count p q = sym p ∙ q
agree max_size bytes a b NoBase p q = sym p ∙ q
agree max_size bytes a b Base p q = sym p ∙ q
agree max_size bytes a b Lines p q = both_lines max_size bytes a b p q

pub one_fault : (max_size : ℕ) (bytes : List ℕ) (a b : DecoderError) → IsSectionFault max_size bytes a → IsSectionFault max_size bytes b → a ≡ b
one_fault max_size bytes a b p q = agree max_size bytes a b (start_of bytes) (told max_size bytes a p) (told max_size bytes b q)

-- a section has none
none_left : (rest : List ℕ) (more : List ℕ) → rest ≢ [] → [] ≡ more ++ rest → ⊥
none_left [] more some e = some refl
none_left (b ∷ rest) [] some e = cc
none_left (b ∷ rest) (c ∷ more) some e = cc

no_fault_in_lines : (max_size : ℕ) (lines : List ℕ) (fields : List Field) (e : DecoderError) → AreLines lines fields → bounded_size fields ≤ max_size → LineFault max_size (0 ∷ 0 ∷ lines) e → ⊥
no_fault_in_lines max_size lines fields e are within p =
    elim (one_goes_on p.lines p.rest lines [] p.front fields p.are are (tails (p.lines ++ p.rest) (lines ++ []) (0 ∷ 0 ∷ lines) p.whole (ap (λ (z : List ℕ). 0 ∷ 0 ∷ z) (sym (append-nil lines))))) [
      | inl g ↦ p.some (stops max_size p.rest [] p.front fields e g.more g.later g.whole g.are g.fields within p.fault).0
      | inr g ↦ none_left p.rest g.more p.some g.whole
    ]

pub no_fault : (max_size : ℕ) (bytes : List ℕ) (fields : List Field) (e : DecoderError) → IsSection bytes fields → bounded_size fields ≤ max_size → IsSectionFault max_size bytes e → ⊥
no_fault max_size bytes fields e s within f =
    let lines : LineFault max_size (0 ∷ 0 ∷ s.0) e = told max_size (0 ∷ 0 ∷ s.0) e (subst (λ (z : List ℕ). IsSectionFault max_size z e) s.1 f) in
    no_fault_in_lines max_size s.0 fields e s.2 within lines
