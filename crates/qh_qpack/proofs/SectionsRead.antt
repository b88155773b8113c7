-- A section that is read line by line.
use Rattle.std.proofs.Common.{◌≡◌, ◌≢◌, ℕ, ◌+◌, ◌<◌, ◌≤◌, ◌==◌, true, false, List, [], ◌∷◌, ◌++◌, length, refl, sym, ap, ◌∙◌, arith, inl, inr, Ok, Err, subst, append_assoc, append-nil, length-append}
use Rattle.std.proofs.lemmas.Bool.{cases_Bool, eqb-true, eq-eqb}
use Rattle.std.proofs.lemmas.List.Sums.{sum_by-append}
use Rattle.qh_base.proofs.Varints.{IsBytes}
use Rattle.qh_spec.specs.Fields.{Field}
use Rattle.qh_spec.specs.Section.{IsLine, AreLines, IsSection}
use Rattle.qh_spec.specs.Size.{section_size}
use Rattle.qh_qpack.specs.declared.decoder.DecoderError.{DecoderError}
use Rattle.qh_qpack.specs.declared.decoder.DecoderError.TheVariants.{HeaderTooLong, Malformed, Huffman, Dynamic, Memory}
use Rattle.qh_qpack.specs.Lines.{size_added}
use Rattle.qh_qpack.specs.SectionAt.{line_at, zero_at, prefix_at}
use Rattle.qh_qpack.specs.SectionFault.{bounded_size, IsLineFault, IsSectionFault, IsSectionWithin, RefusesSection, count, base, no_count, no_base, line}
use Rattle.qh_qpack.specs.SectionReading.{LinesRead}
use Rattle.qh_qpack.proofs.LineAgain.{line_some}
use Rattle.qh_qpack.proofs.LineTakes.{then_ok, line_takes}
use Rattle.qh_qpack.proofs.LineTells.{line_fault}

-- what the first two bytes tell
zero_read : (bytes rest : List ℕ) → zero_at bytes ≡ Ok rest → bytes ≡ 0 ∷ rest
zero_read [] rest h = cc
zero_read (b ∷ bs) rest h =
    elim (cases_Bool (b == 0)) [
      | inl t ↦ let e = rw t at h in let same : bs ≡ rest = cc in let zero : b ≡ 0 = eqb-true b 0 t in cc
      | inr t ↦ let e = rw t at h in cc
    ]

prefix_read : (bytes lines : List ℕ) → prefix_at bytes ≡ Ok lines → bytes ≡ 0 ∷ 0 ∷ lines
prefix_read bytes lines h =
    let step = then_ok (zero_at bytes) zero_at lines h in
    zero_read bytes step.0 step.1 ∙ ap (λ (z : List ℕ). 0 ∷ z) (zero_read step.0 lines step.2)

not_zero : (b : ℕ) → (b == 0) ≡ false → b ≢ 0
not_zero b t e = let u : (b == 0) ≡ true = eq-eqb b 0 e in let wrong : true ≡ false = sym u ∙ t in cc

base_refused : (max_size : ℕ) (bytes bs : List ℕ) (e : DecoderError) → bytes ≡ 0 ∷ bs → zero_at bs ≡ Err e → IsSectionFault max_size bytes e
base_refused max_size bytes [] e w h = let same : Malformed ≡ e = cc in subst (IsSectionFault max_size bytes) same (no_base w)
base_refused max_size bytes (b ∷ bs) e w h =
    elim (cases_Bool (b == 0)) [
      | inl t ↦ let d = rw t at h in cc
      | inr t ↦ let d = rw t at h in let same : Dynamic ≡ e = cc in subst (IsSectionFault max_size bytes) same (base b bs w (not_zero b t))
    ]

pub prefix_refused : (max_size : ℕ) (bytes : List ℕ) (e : DecoderError) → prefix_at bytes ≡ Err e → IsSectionFault max_size bytes e
prefix_refused max_size [] e h = let same : Malformed ≡ e = cc in subst (IsSectionFault max_size []) same (no_count refl)
prefix_refused max_size (b ∷ bs) e h =
    elim (cases_Bool (b == 0)) [
      | inl t ↦ let d : zero_at bs ≡ Err e = rw t at h in base_refused max_size (b ∷ bs) bs e (ap (λ (z : ℕ). z ∷ bs) (eqb-true b 0 t)) d
      | inr t ↦ let d = rw t at h in let same : Dynamic ≡ e = cc in subst (IsSectionFault max_size (b ∷ bs)) same (count b bs refl (not_zero b t))
    ]

pub none_read : (max_size : ℕ) (bytes lines : List ℕ) → prefix_at bytes ≡ Ok lines → LinesRead max_size bytes lines [] 0
none_read max_size bytes lines h = record { front = []; whole = prefix_read bytes lines h; are = refl; sized = refl; within = omega arith }

lines_more : (a l : List ℕ) (fs : List Field) (f : Field) → AreLines a fs → IsLine l f → AreLines (a ++ l) (fs ++ f ∷ [])
lines_more a l [] f e is = (l, [], ap (λ (z : List ℕ). z ++ l) e ∙ sym (append-nil l), is, refl)
lines_more a l (g ∷ fs) f p is = (p.0, p.1 ++ l, ap (λ (z : List ℕ). z ++ l) p.2 ∙ append_assoc p.0 p.1 l, p.3, lines_more p.1 l fs f p.4 is)

pub sized_more : (fs : List Field) (f : Field) → bounded_size (fs ++ f ∷ []) ≡ size_added (bounded_size fs) f
sized_more fs f =
    let sum : section_size (fs ++ f ∷ []) ≡ section_size fs + section_size (f ∷ []) = sum_by-append (λ (g : Field). length g.name + length g.value + 32) fs (f ∷ []) in
    let one : section_size (f ∷ []) ≡ length f.name + length f.value + 32 = omega arith in
    omega arith

-- one more line, whose size the limit holds
pub one_read : (max_size : ℕ) (bytes rest after : List ℕ) (fs : List Field) (size new : ℕ) (f : Field) → IsBytes rest → line_at rest ≡ Ok (f, after) → new ≡ size_added size f → new ≤ max_size
    → LinesRead max_size bytes rest fs size → LinesRead max_size bytes after (fs ++ f ∷ []) new
one_read max_size bytes rest after fs size new f are e n small r =
    let l = line_takes rest after f are e in
    record {
      front = r.front ++ l.front;
      whole = r.whole ∙ ap (λ (z : List ℕ). 0 ∷ 0 ∷ z) (ap (λ (z : List ℕ). r.front ++ z) l.whole ∙ sym (append_assoc r.front l.front after));
      are = lines_more r.front l.front fs f r.are l.is;
      sized = n ∙ ap (λ (z : ℕ). size_added z f) r.sized ∙ sym (sized_more fs f);
      within = small;
    }

-- a measure
pub shorter : (rest after : List ℕ) (f : Field) → IsBytes rest → line_at rest ≡ Ok (f, after) → length after < length rest
shorter rest after f are e =
    let l = line_takes rest after f are e in
    let some = line_some l.front f l.is in
    let sizes = ap length l.whole in
    omega (arith, length-append l.front after)

some_left : (rest : List ℕ) → 0 < length rest → rest ≢ []
some_left rest some e = let none = ap length e in omega arith

-- a line at fault
pub line_refused : (max_size : ℕ) (bytes rest : List ℕ) (fs : List Field) (size : ℕ) (e : DecoderError) → IsBytes rest → 0 < length rest → line_at rest ≡ Err e → LinesRead max_size bytes rest fs size
    → IsSectionFault max_size bytes e
line_refused max_size bytes rest fs size e bytes_are some h r =
    let within = r.within in
    let sized = r.sized in
    line fs r.front rest e r.whole r.are (omega arith) (some_left rest some) (line_fault max_size fs rest e bytes_are h)

-- a line past the limit
pub over_refused : (max_size : ℕ) (bytes rest after : List ℕ) (fs : List Field) (size : ℕ) (f : Field) → IsBytes rest → 0 < length rest → line_at rest ≡ Ok (f, after) → max_size < size_added size f
    → LinesRead max_size bytes rest fs size → IsSectionFault max_size bytes (HeaderTooLong (size_added size f))
over_refused max_size bytes rest after fs size f bytes_are some h over r =
    let within = r.within in
    let sized = r.sized in
    let l = line_takes rest after f bytes_are h in
    line fs r.front rest (HeaderTooLong (size_added size f)) r.whole r.are (omega arith) (some_left rest some)
    (f, record { line = l.front; rest = after; whole = l.whole; is_line = l.is }, ap (λ (z : ℕ). size_added z f) r.sized ∙ sym (sized_more fs f), over)

-- the whole section
pub all_read : (max_size : ℕ) (bytes rest : List ℕ) (fs : List Field) (size : ℕ) → (length rest == 0) ≡ true → LinesRead max_size bytes rest fs size → IsSection bytes fs
all_read max_size bytes [] fs size z r = (r.front, r.whole ∙ ap (λ (z : List ℕ). 0 ∷ 0 ∷ z) (append-nil r.front), r.are)
all_read max_size bytes (b ∷ rest) fs size z r = let none = eqb-true (length (b ∷ rest)) 0 z in absurd (omega arith)

-- and within its limit
pub all_within : (max_size : ℕ) (bytes rest : List ℕ) (fs : List Field) (size : ℕ) → (length rest == 0) ≡ true → LinesRead max_size bytes rest fs size → IsSectionWithin max_size bytes
all_within max_size bytes rest fs size z r =
    let within = r.within in
    let sized = r.sized in
    (fs, all_read max_size bytes rest fs size z r, omega arith)

-- want of memory is no fault
no_memory : (max_size : ℕ) (bytes : List ℕ) (e : DecoderError) → IsSectionFault max_size bytes e → e ≡ Memory → ⊥
no_memory max_size bytes e (count b rest w n) h = cc
no_memory max_size bytes e (base b rest w n) h = cc
no_memory max_size bytes e (no_count w) h = cc
no_memory max_size bytes e (no_base w) h = cc
no_memory max_size bytes e (line front lines rest fault w are within some at) h = subst (IsLineFault max_size front rest) h at

pub refuses : (max_size : ℕ) (bytes : List ℕ) (e : DecoderError) → IsSectionFault max_size bytes e → RefusesSection max_size bytes e
refuses max_size bytes Memory f = absurd (no_memory max_size bytes Memory f refl)
refuses max_size bytes (HeaderTooLong size) f = f
refuses max_size bytes Malformed f = f
refuses max_size bytes Huffman f = f
refuses max_size bytes Dynamic f = f

-- where a section is read on, behind the lines in front of the rest
abbrev pub ReadsOn : (max_size : ℕ) (bytes : List ℕ) (size : ℕ) (rest : List ℕ) (more : ℕ) → Type 0
ReadsOn max_size bytes size rest more =
    (section : List ℕ) (fields : List Field) → LinesRead max_size section bytes fields size → (fs : List Field) × LinesRead max_size section rest fs more
