-- How far each stream reaches, once one of them reaches farther.
use Rattle.std.proofs.Common.{◌≡◌, ◌⊎◌, ℕ, ◌+◌, ◌==◌, false, List, [], ◌∷◌, if◌then◌else◌, refl, sym, ap, subst, ◌∙◌, arith, inl, inr}
use Rattle.std.proofs.lemmas.Bool.{false≢true, eq-eqb}
use Rattle.std.proofs.lemmas.Bool.Decides.{eqb_tells}
use Rattle.qh_conduct.specs.Reached.{AreApart, IsAny, Reaches, end_of, sum_of}
use Rattle.qh_spec.specs.Lists.{In}
use Rattle.qh_streams.specs.declared.frames.StreamFrame.{StreamFrame}

-- ---- one of the frames

pub any_more : {P : StreamFrame → Type 0} (f : StreamFrame) (frames : List StreamFrame) → IsAny P frames → IsAny P (f ∷ frames)
any_more f frames p = record { frame = p.frame; among = inr p.among; is = p.is }

pub any_first : {P : StreamFrame → Type 0} (f : StreamFrame) (frames : List StreamFrame) → P f → IsAny P (f ∷ frames)
any_first f frames is = record { frame = f; among = inl refl; is = is }

-- ---- a stream that reaches farther

abbrev pub with_end : (ends : List (ℕ × ℕ)) → (stream to : ℕ) → List (ℕ × ℕ)
with_end [] stream to = (stream, to) ∷ []
with_end (e ∷ es) stream to = if e.0 == stream then (stream, to) ∷ es else e ∷ with_end es stream to

in_with : (ends : List (ℕ × ℕ)) (stream to : ℕ) (e : ℕ × ℕ) → In e (with_end ends stream to) → ((stream, to) ≡ e) ⊎ In e ends
in_with [] stream to e (inl same) = inl same
in_with [] stream to e (inr none) = absurd none
in_with (x ∷ xs) stream to e is = elim (eqb_tells x.0 stream) [
  | inl here ↦ elim (rw here.0 at is) [
    | inl same ↦ inl same
    | inr there ↦ inr (inr there)
  ]
  | inr apart ↦ elim (rw apart.0 at is) [
    | inl same ↦ inr (inl same)
    | inr there ↦ elim (in_with xs stream to e there) [
      | inl same ↦ inl same
      | inr before ↦ inr (inr before)
    ]
  ]
]

apart_with : (ends : List (ℕ × ℕ)) (stream to : ℕ) → AreApart ends → AreApart (with_end ends stream to)
apart_with [] stream to p = (λ n none. none, tt)
apart_with (x ∷ xs) stream to p = elim (eqb_tells x.0 stream) [
  | inl here ↦ rw here.0 (subst (λ (k : ℕ). (n : ℕ) → In (k, n) xs → ⊥) here.1 p.0, p.1)
  | inr apart ↦ rw apart.0 (
    λ n is. elim (in_with xs stream to (x.0, n) is) [
      | inl same ↦ false≢true (sym apart.0 ∙ eq-eqb x.0 stream (sym (ap (λ (e : ℕ × ℕ). e.0) same)))
      | inr there ↦ p.0 n there
    ],
    apart_with xs stream to p.1,
  )
]

sum_with : (ends : List (ℕ × ℕ)) (stream was fresh : ℕ) → was ≡ end_of ends stream → sum_of (with_end ends stream (was + fresh)) ≡ sum_of ends + fresh
sum_with [] stream was fresh e = omega (arith, e)
sum_with (x ∷ xs) stream was fresh e = elim (eqb_tells x.0 stream) [
  | inl here ↦ let is : was ≡ x.1 = rw here.0 at e in rw here.0 (omega (arith, is))
  | inr apart ↦ let rest = sum_with xs stream was fresh (rw apart.0 at e) in rw apart.0 (omega (arith, rest))
]

here_with : (ends : List (ℕ × ℕ)) (stream to : ℕ) → end_of (with_end ends stream to) stream ≡ to
here_with [] stream to = rw (eq-eqb stream stream refl) refl
here_with (x ∷ xs) stream to = elim (eqb_tells x.0 stream) [
  | inl here ↦ rw here.0 (rw (eq-eqb stream stream refl) refl)
  | inr apart ↦ rw apart.0 (rw apart.0 (here_with xs stream to))
]

other_with : (ends : List (ℕ × ℕ)) (stream to k : ℕ) → (k == stream) ≡ false → end_of (with_end ends stream to) k ≡ end_of ends k
other_with [] stream to k apart = rw (apart_from stream k apart) refl where
  apart_from : (a b : ℕ) → (b == a) ≡ false → (a == b) ≡ false
  apart_from a b e = grind (arith, e)
other_with (x ∷ xs) stream to k apart = elim (eqb_tells x.0 stream) [
  | inl here ↦
      let off : (stream == k) ≡ false = grind (arith, apart) in
      rw here.0 (rw off (rw (ap (λ (n : ℕ). n == k) here.1 ∙ off) refl))
  | inr away ↦ rw away.0 (ap (λ (n : ℕ). if x.0 == k then x.1 else n) (other_with xs stream to k apart))
]

-- One stream reaches farther, by one of these frames, or as far as before.
pub record Grow (frames : List StreamFrame) (ends after : List (ℕ × ℕ)) (stream to fresh : ℕ) : Type 0 where
  pub apart : AreApart after
  pub came : (k n : ℕ) → In (k, n) after → IsAny (Reaches k n) frames
  pub total : sum_of after ≡ sum_of ends + fresh
  pub here : end_of after stream ≡ to
  pub others : (k : ℕ) → (k == stream) ≡ false → end_of after k ≡ end_of ends k

pub grow : (frames : List StreamFrame) (ends : List (ℕ × ℕ)) (stream was to fresh : ℕ) → AreApart ends → ((k n : ℕ) → In (k, n) ends → IsAny (Reaches k n) frames) → was ≡ end_of ends stream
    → to ≡ was + fresh → (fresh ≡ 0) ⊎ IsAny (Reaches stream to) frames → (after : List (ℕ × ℕ)) × Grow frames ends after stream to fresh
grow frames ends stream was to fresh apart came was_is to_is (inl none) = (
  ends,
  record {
    apart = apart;
    came = came;
    total = omega (arith, none);
    here = omega (arith, was_is, to_is, none);
    others = λ k away. refl;
  },
)
grow frames ends stream was to fresh apart came was_is to_is (inr reaches) = (
  with_end ends stream to,
  record {
    apart = apart_with ends stream to apart;
    came = λ k n is. elim (in_with ends stream to (k, n) is) [
      | inl same ↦ subst (λ (e : ℕ × ℕ). IsAny (Reaches e.0 e.1) frames) same reaches
      | inr before ↦ came k n before
    ];
    total = rw to_is (sum_with ends stream was fresh was_is);
    here = here_with ends stream to;
    others = λ k away. other_with ends stream to k away;
  },
)
