-- Reading an ACK's ranges step by step, and the counts of its type 03.
use Rattle.std.proofs.Common.{◌≡◌, ℕ, ◌+◌, ◌-◌, ◌<◌, ◌≤◌, suc, true, false, nat_le, List, [], ◌∷◌, Option, Some, None, refl, sym, ap, ◌∙◌, subst, inl, inr, arith, Bool}
use Rattle.std.specs.Prelude.{IsSome, if◌then◌else◌}
use Rattle.std.proofs.lemmas.Bool.{cases_Bool, leb-true, le-leb}
use Rattle.std.proofs.lemmas.Bool.Decides.{leb_tells}
use Rattle.qh_frame.proofs.Shapes.{cases_option}
use Rattle.qh_frame.specs.AckAt.{end_of, behind_counts, numbers_of}
use Rattle.qh_frame.specs.FieldsAt.{number_at, pairs_at, ranges_at}
use Rattle.qh_frame.specs.FrameAt.{fields_at}
use Rattle.qh_frame.specs.Range.{are_ranges}
use Rattle.qh_spec.specs.QuicFrames.{shape_of}

over : (a b : ℕ) → b < a → nat_le a b ≡ false
over a b h = elim (leb_tells a b) [ inl fits ↦ let le = fits.1 in absurd (omega (arith, le, h)) | inr low ↦ low.0 ]

-- where a number is cut, or a range goes below 0, there is no end
pub no_gap : (greatest range k : ℕ) (rest : List ℕ) → number_at rest ≡ None → end_of greatest range (pairs_at (suc k) rest) ≡ None
unfolding end_of
no_gap greatest range k rest e = rw e refl

pub no_range : (greatest range k gap : ℕ) (rest more : List ℕ) → number_at rest ≡ Some (gap, more) → number_at more ≡ None → end_of greatest range (pairs_at (suc k) rest) ≡ None
unfolding end_of
no_range greatest range k gap rest more e f = rw (e, f) refl

pub too_low : (greatest range k gap next : ℕ) (rest more last : List ℕ) → number_at rest ≡ Some (gap, more) → number_at more ≡ Some (next, last) → greatest < 2 + gap + range
    → end_of greatest range (pairs_at (suc k) rest) ≡ None
unfolding end_of are_ranges
too_low greatest range k gap next rest more last e f low =
    elim (cases_option (pairs_at k last)) [
      | inl none ↦ rw (e, f, none) refl
      | inr some ↦ rw (e, f, some.1, over (2 + gap + range) greatest low) refl
    ]

-- one gap with its range
pub one_step : (greatest range k gap next : ℕ) (rest more last : List ℕ) → number_at rest ≡ Some (gap, more) → number_at more ≡ Some (next, last) → 2 + gap + range ≤ greatest
    → end_of greatest range (pairs_at (suc k) rest) ≡ end_of (greatest - (2 + gap + range)) next (pairs_at k last)
unfolding end_of are_ranges
one_step greatest range k gap next rest more last e f fits =
    elim (cases_option (pairs_at k last)) [
      | inl none ↦ rw (e, f, none) refl
      | inr some ↦ rw (e, f, some.1, le-leb (2 + gap + range) greatest fits) refl
    ]

-- the last range
pub last_fits : (greatest range : ℕ) (rest : List ℕ) → range ≤ greatest → end_of greatest range (pairs_at 0 rest) ≡ Some rest
unfolding end_of are_ranges
last_fits greatest range rest fits = rw (le-leb range greatest fits) refl

pub last_too_low : (greatest range : ℕ) (rest : List ℕ) → greatest < range → end_of greatest range (pairs_at 0 rest) ≡ None
unfolding end_of are_ranges
last_too_low greatest range rest low = rw (over range greatest low) refl

-- the same of what is left
pub at_gap : (whole : Option (List ℕ)) (greatest range left k : ℕ) (rest : List ℕ) → whole ≡ end_of greatest range (pairs_at left rest) → left ≡ suc k → None ≡ number_at rest → None ≡ whole
at_gap whole greatest range left k rest all more e = sym (all ∙ ap (λ (n : ℕ). end_of greatest range (pairs_at n rest)) more ∙ no_gap greatest range k rest (sym e))

pub at_range : (whole : Option (List ℕ)) (greatest range left k gap : ℕ) (rest next : List ℕ) → whole ≡ end_of greatest range (pairs_at left rest) → left ≡ suc k → Some (gap, next) ≡ number_at rest
    → None ≡ number_at next → None ≡ whole
at_range whole greatest range left k gap rest next all more e f =
    sym (all ∙ ap (λ (n : ℕ). end_of greatest range (pairs_at n rest)) more ∙ no_range greatest range k gap rest next (sym e) (sym f))

pub at_low : (whole : Option (List ℕ)) (greatest range left k gap more : ℕ) (rest next last : List ℕ) → whole ≡ end_of greatest range (pairs_at left rest) → left ≡ suc k → Some (gap, next) ≡ number_at rest
    → Some (more, last) ≡ number_at next → greatest < 2 + gap + range → None ≡ whole
at_low whole greatest range left k gap more rest next last all one e f low =
    sym (all ∙ ap (λ (n : ℕ). end_of greatest range (pairs_at n rest)) one ∙ too_low greatest range k gap more rest next last (sym e) (sym f) low)

pub at_step : (whole : Option (List ℕ)) (greatest range left k gap more below : ℕ) (rest next last : List ℕ) → whole ≡ end_of greatest range (pairs_at left rest) → left ≡ suc k → Some (gap, next) ≡ number_at rest
    → Some (more, last) ≡ number_at next → below ≡ 2 + gap + range → below ≤ greatest → whole ≡ end_of (greatest - below) more (pairs_at k last)
at_step whole greatest range left k gap more below rest next last all one e f is fits =
    all ∙ ap (λ (n : ℕ). end_of greatest range (pairs_at n rest)) one ∙ one_step greatest range k gap more rest next last (sym e) (sym f) (omega (arith, is, fits))
    ∙ ap (λ (n : ℕ). end_of (greatest - n) more (pairs_at k last)) (sym is)

pub at_last : (whole : Option (List ℕ)) (greatest range left : ℕ) (rest : List ℕ) → whole ≡ end_of greatest range (pairs_at left rest) → left ≡ 0 → range ≤ greatest → Some rest ≡ whole
at_last whole greatest range left rest all none fits = sym (all ∙ ap (λ (n : ℕ). end_of greatest range (pairs_at n rest)) none ∙ last_fits greatest range rest fits)

pub at_last_low : (whole : Option (List ℕ)) (greatest range left : ℕ) (rest : List ℕ) → whole ≡ end_of greatest range (pairs_at left rest) → left ≡ 0 → greatest < range → None ≡ whole
at_last_low whole greatest range left rest all none low = sym (all ∙ ap (λ (n : ℕ). end_of greatest range (pairs_at n rest)) none ∙ last_too_low greatest range rest low)

-- where there is an end, the first range doesn't go below 0
some_true : {A : Type 0} (b : Bool) (x : A) → IsSome (if b then Some x else None) → b ≡ true
some_true true x h = refl
some_true false x h = cc

no_none : {A : Type 0} (o : Option A) → None ≡ o → IsSome o → ⊥
no_none None e h = cc
no_none (Some x) e h = cc

first_fits : (greatest range : ℕ) (numbers : List ℕ) → are_ranges greatest (range ∷ numbers) ≡ true → range ≤ greatest
unfolding are_ranges
first_fits greatest range [] h = leb-true range greatest h
first_fits greatest range (gap ∷ more) h =
    elim (leb_tells (2 + gap + range) greatest) [
      | inl fits ↦ let le = fits.1 in omega (arith, le)
      | inr low ↦ let e = rw low.0 at h in cc
    ]

pub whole_fits : (greatest range pairs : ℕ) (bytes : List ℕ) → IsSome (end_of greatest range (pairs_at pairs bytes)) → range ≤ greatest
unfolding end_of
whole_fits greatest range pairs bytes h =
    elim (cases_option (pairs_at pairs bytes)) [
      | inl none ↦ let e = rw none at h in absurd (no_none {A = List ℕ} None refl e)
      | inr some ↦ let e = rw some.1 at h in first_fits greatest range some.0.0 (some_true (are_ranges greatest (range ∷ some.0.0)) some.0.1 e)
    ]

-- and neither do those below it
pub next_fits : (greatest range pairs k gap next : ℕ) (bytes more last : List ℕ) → pairs ≡ suc k → Some (gap, more) ≡ number_at bytes → Some (next, last) ≡ number_at more
    → IsSome (end_of greatest range (pairs_at pairs bytes)) → (2 + gap + range ≤ greatest) × IsSome (end_of (greatest - (2 + gap + range)) next (pairs_at k last))
next_fits greatest range pairs k gap next bytes more last is e f h =
    elim (leb_tells (2 + gap + range) greatest) [
      | inr low ↦ absurd (no_none _ (at_low (end_of greatest range (pairs_at pairs bytes)) greatest range pairs k gap next bytes more last refl is e f low.1) h)
      | inl fits ↦ (
        fits.1,
        subst (λ (o : Option (List ℕ)). IsSome o) (at_step (end_of greatest range (pairs_at pairs bytes)) greatest range pairs k gap next (2 + gap + range) bytes more last refl is e f refl fits.1) h,
      )
    ]

pub next_numbers : (greatest range pairs k gap next : ℕ) (bytes more last : List ℕ) → pairs ≡ suc k → Some (gap, more) ≡ number_at bytes → Some (next, last) ≡ number_at more
    → IsSome (end_of greatest range (pairs_at k last)) → numbers_of (pairs_at pairs bytes) ≡ gap ∷ (next ∷ numbers_of (pairs_at k last))
unfolding end_of
next_numbers greatest range pairs k gap next bytes more last is e f h =
    elim (cases_option (pairs_at k last)) [
      | inl none ↦ let g = rw none at h in absurd (no_none {A = List ℕ} None refl g)
      | inr some ↦ ap (λ (n : ℕ). numbers_of (pairs_at n bytes)) is ∙ rw (sym e, sym f, some.1) refl
    ]

-- the type 03 is the type 02 with three counts
counts_here : (bytes : List ℕ) → behind_counts (fields_at 2 bytes) ≡ fields_at 3 bytes
unfolding behind_counts fields_at shape_of
counts_here bytes =
    elim (cases_option (number_at bytes)) [
      | inl e ↦ rw e refl
      | inr a ↦ elim (cases_option (number_at a.0.1)) [
        | inl e ↦ rw (a.1, e) refl
        | inr b ↦ elim (cases_option (ranges_at b.0.1)) [
          | inl e ↦ rw (a.1, b.1, e) refl
          | inr d ↦ elim (cases_Bool (are_ranges a.0.0 d.0.0)) [
            | inr f ↦ elim (cases_option (number_at d.0.1)) [
              | inl e ↦ rw (a.1, b.1, d.1, f, e) refl
              | inr g ↦ elim (cases_option (number_at g.0.1)) [
                | inl e ↦ rw (a.1, b.1, d.1, f, g.1, e) refl
                | inr h ↦ elim (cases_option (number_at h.0.1)) [
                  | inl e ↦ rw (a.1, b.1, d.1, f, g.1, h.1, e) refl
                  | inr i ↦ rw (a.1, b.1, d.1, f, g.1, h.1, i.1) (rw f refl)
                ]
              ]
            ]
            | inl t ↦ elim (cases_option (number_at d.0.1)) [
              | inl e ↦ rw (a.1, b.1, d.1, t, e) refl
              | inr g ↦ elim (cases_option (number_at g.0.1)) [
                | inl e ↦ rw (a.1, b.1, d.1, t, g.1, e) refl
                | inr h ↦ elim (cases_option (number_at h.0.1)) [
                  | inl e ↦ rw (a.1, b.1, d.1, t, g.1, h.1, e) refl
                  | inr i ↦ rw (a.1, b.1, d.1, t, g.1, h.1, i.1) (rw t refl)
                ]
              ]
            ]
          ]
        ]
      ]
    ]

pub counts_fields : (kind : ℕ) (bytes : List ℕ) → kind ≡ 3 → behind_counts (fields_at 2 bytes) ≡ fields_at kind bytes
counts_fields kind bytes e = counts_here bytes ∙ ap (λ (k : ℕ). fields_at k bytes) (sym e)
