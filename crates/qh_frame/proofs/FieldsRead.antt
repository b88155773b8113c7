-- What is spelled as a field is read as it, and what is read is spelled so.
use Rattle.std.proofs.Common.{◌≡◌, ℕ, zero, suc, ◌+◌, ◌*◌, ◌<◌, nat_lt, true, false, List, [], ◌∷◌, ◌++◌, length, take, drop, refl, sym, ap, ◌∙◌, arith, inl, inr, Option, Some, None, subst, length-append}
use Rattle.std.proofs.lemmas.Bool.{cases_lt, lt-ltb, le-ltb}
use Rattle.std.proofs.lemmas.List.{get_or-drop, take-append-drop, take_at, drop_at, length-take-le}
use Rattle.qh_base.specs.Varint.{varint_at}
use Rattle.qh_base.proofs.Varints.{IsBytes, read_spelled, spelled_read}
use Rattle.qh_spec.specs.Varint.{IsVarint}
use Rattle.qh_spec.specs.QuicFrames.{Part, Number, Fixed, Counted, ShortCounted, Left, Ranges, Value, Num, Text, Nums, IsNumber, AreNumbers, IsValue, AreValues}
use Rattle.qh_frame.specs.FieldsAt.{◌>>=◌, number_at, taken_at, counted_at, short_at, pairs_at, ranges_at, value_at, values_at}

-- a step that gave a value
pub bind_some : {A B : Type 0} (r : Option A) (f : A → Option B) (y : B) → (r >>= f) ≡ Some y → (x : A) × (r ≡ Some x) × (f x ≡ Some y)
bind_some None f y h = cc
bind_some (Some x) f y h = (x, refl, h)

-- equal pairs have equal parts
pub firsts : {A B : Type 0} (x y : A × B) → ◌≡◌ {A = Option (A × B)} (Some x) (Some y) → x.0 ≡ y.0
firsts x y h = let e : x ≡ y = cc in ap (λ z. z.0) e

pub seconds : {A B : Type 0} (x y : A × B) → ◌≡◌ {A = Option (A × B)} (Some x) (Some y) → x.1 ≡ y.1
seconds x y h = let e : x ≡ y = cc in ap (λ z. z.1) e

pub number_again : (bytes rest : List ℕ) (n : ℕ) → IsNumber bytes n rest → number_at bytes ≡ Some (n, rest)
unfolding number_at
number_again bytes rest n is =
    ap (λ (b : List ℕ). varint_at b >>= λ found. Some (found.0, drop found.1 b)) is.1
    ∙ rw (spelled_read is.0 rest n is.2, drop_at is.0 rest (length is.0) refl)

rest_bytes : (k : ℕ) (bytes : List ℕ) → IsBytes bytes → IsBytes (drop k bytes)
rest_bytes k bytes are i = let e = get_or-drop k bytes i 0 in omega (arith, are (k + i))

pub number_takes : (bytes : List ℕ) (n : ℕ) (rest : List ℕ) → IsBytes bytes → number_at bytes ≡ Some (n, rest) → IsNumber bytes n rest × IsBytes rest
unfolding number_at
number_takes bytes n rest are h =
    let step = bind_some (varint_at bytes) (λ found. Some (found.0, drop found.1 bytes)) (n, rest) h in
    let reads = read_spelled bytes step.0 are step.1 in
    let n_is : step.0.0 ≡ n = firsts (step.0.0, drop step.0.1 bytes) (n, rest) step.2 in
    let rest_is : drop step.0.1 bytes ≡ rest = seconds (step.0.0, drop step.0.1 bytes) (n, rest) step.2 in (
      (take step.0.1 bytes, sym (take-append-drop step.0.1 bytes) ∙ ap (λ (r : List ℕ). take step.0.1 bytes ++ r) rest_is, subst (IsVarint (take step.0.1 bytes)) n_is reads.spelled),
      subst IsBytes rest_is (rest_bytes step.0.1 bytes are),
    )

pub taken_again : (t rest : List ℕ) (n : ℕ) → length t ≡ n → taken_at n (t ++ rest) ≡ Some (t, rest)
unfolding taken_at
taken_again t rest n l =
    let fits : nat_lt (length (t ++ rest)) n ≡ false = le-ltb (length (t ++ rest)) n (omega (arith, length-append t rest, l)) in
    rw (fits, take_at t rest n l, drop_at t rest n l)

pub taken_takes : (n : ℕ) (bytes t rest : List ℕ) → IsBytes bytes → taken_at n bytes ≡ Some (t, rest) → (bytes ≡ t ++ rest) × (length t ≡ n) × IsBytes rest
unfolding taken_at
taken_takes n bytes t rest are h =
    elim (cases_lt (length bytes) n) [
      | inl short ↦ let s : nat_lt (length bytes) n ≡ true = lt-ltb (length bytes) n short in let e = rw s at h in cc
      | inr fits ↦
          let s : nat_lt (length bytes) n ≡ false = le-ltb (length bytes) n fits in
          let e = rw s at h in
          let t_is : take n bytes ≡ t = firsts (take n bytes, drop n bytes) (t, rest) e in
          let rest_is : drop n bytes ≡ rest = seconds (take n bytes, drop n bytes) (t, rest) e in (
            sym (take-append-drop n bytes) ∙ ap (λ (r : List ℕ). r ++ drop n bytes) t_is ∙ ap (λ (r : List ℕ). t ++ r) rest_is,
            sym (ap length t_is) ∙ length-take-le n bytes fits,
            subst IsBytes rest_is (rest_bytes n bytes are),
          )
    ]

counted_again : (bytes t rest : List ℕ) → IsValue Counted bytes (Text t) rest → counted_at bytes ≡ Some (t, rest)
unfolding counted_at
counted_again bytes t rest is = rw (number_again bytes is.0 (length t) is.1, is.2, taken_again t rest (length t) refl)

counted_takes : (bytes t rest : List ℕ) → IsBytes bytes → counted_at bytes ≡ Some (t, rest) → IsValue Counted bytes (Text t) rest × IsBytes rest
unfolding counted_at
counted_takes bytes t rest are h =
    let step = bind_some (number_at bytes) (λ n. taken_at n.0 n.1) (t, rest) h in
    let count = number_takes bytes step.0.0 step.0.1 are step.1 in
    let text = taken_takes step.0.0 step.0.1 t rest count.1 step.2 in
    ((step.0.1, subst (λ (n : ℕ). IsNumber bytes n step.0.1) (sym text.1) count.0, text.0), text.2)

short_again : (bytes t rest : List ℕ) → IsValue ShortCounted bytes (Text t) rest → short_at bytes ≡ Some (t, rest)
unfolding short_at
short_again bytes t rest is = rw (is.0, taken_again t rest (length t) refl)

short_takes : (bytes t rest : List ℕ) → IsBytes bytes → short_at bytes ≡ Some (t, rest) → IsValue ShortCounted bytes (Text t) rest × IsBytes rest
unfolding short_at
short_takes [] t rest are h = cc
short_takes (n ∷ bytes) t rest are h =
    let text = taken_takes n bytes t rest (λ i. are (suc i)) h in
    let first : n < 256 = are 0 in
    let len = text.1 in
    let whole = text.0 in
    ((let e : n ∷ bytes ≡ length t ∷ (t ++ rest) = ap (λ (m : ℕ). m ∷ bytes) (sym len) ∙ ap (λ (z : List ℕ). length t ∷ z) whole in e, omega (arith, first, len)), text.2)

pairs_again : (n : ℕ) (bytes ns rest : List ℕ) → length ns ≡ 2 * n → AreNumbers bytes ns rest → pairs_at n bytes ≡ Some (ns, rest)
pairs_again zero bytes [] rest l is = rw is refl
pairs_again zero bytes (a ∷ ns) rest l is = absurd (omega (arith, l))
pairs_again (suc n) bytes [] rest l is = absurd (omega (arith, l))
pairs_again (suc n) bytes (a ∷ []) rest l is = absurd (omega (arith, l))
pairs_again (suc n) bytes (a ∷ b ∷ ns) rest l is =
    let gap = number_again bytes is.0 a is.1 in
    let range = number_again is.0 is.2.0 b is.2.1 in
    let more = pairs_again n is.2.0 ns rest (omega (arith, l)) is.2.2 in
    rw (gap, range, more)

pairs_takes : (n : ℕ) (bytes ns rest : List ℕ) → IsBytes bytes → pairs_at n bytes ≡ Some (ns, rest) → AreNumbers bytes ns rest × (length ns ≡ 2 * n) × IsBytes rest
pairs_takes zero bytes ns rest are h =
    let none : [] ≡ ns = firsts ([], bytes) (ns, rest) h in
    let rest_is : bytes ≡ rest = seconds ([], bytes) (ns, rest) h in
    (subst (λ (z : List ℕ). AreNumbers bytes z rest) none rest_is, sym (ap length none), subst IsBytes rest_is are)
pairs_takes (suc n) bytes ns rest are h =
    let gap = bind_some (number_at bytes) _ (ns, rest) h in
    let range = bind_some (number_at gap.0.1) _ (ns, rest) gap.2 in
    let more = bind_some (pairs_at n range.0.1) _ (ns, rest) range.2 in
    let gap_takes = number_takes bytes gap.0.0 gap.0.1 are gap.1 in
    let range_takes = number_takes gap.0.1 range.0.0 range.0.1 gap_takes.1 range.1 in
    let more_takes = pairs_takes n range.0.1 more.0.0 more.0.1 range_takes.1 more.1 in
    let ns_is : gap.0.0 ∷ (range.0.0 ∷ more.0.0) ≡ ns = firsts (gap.0.0 ∷ (range.0.0 ∷ more.0.0), more.0.1) (ns, rest) more.2 in
    let rest_is : more.0.1 ≡ rest = seconds (gap.0.0 ∷ (range.0.0 ∷ more.0.0), more.0.1) (ns, rest) more.2 in
    let len = more_takes.1 in
    let whole : AreNumbers bytes (gap.0.0 ∷ (range.0.0 ∷ more.0.0)) more.0.1 = (gap.0.1, gap_takes.0, (range.0.1, range_takes.0, more_takes.0)) in (
      subst (λ (z : List ℕ). AreNumbers bytes z rest) ns_is (subst (λ (r : List ℕ). AreNumbers bytes (gap.0.0 ∷ (range.0.0 ∷ more.0.0)) r) rest_is whole),
      sym (ap length ns_is) ∙ omega (arith, len),
      subst IsBytes rest_is more_takes.2,
    )

ranges_again : (bytes ns rest : List ℕ) → IsValue Ranges bytes (Nums ns) rest → ranges_at bytes ≡ Some (ns, rest)
unfolding ranges_at
ranges_again bytes [] rest is = absurd (let l = is.4 in omega (arith, l))
ranges_again bytes (n ∷ ns) rest is =
    let numbers = is.3 in
    let l = is.4 in
    let count = number_again bytes is.1 is.0 is.2 in
    let first = number_again is.1 numbers.0 n numbers.1 in
    let more = pairs_again is.0 numbers.0 ns rest (omega (arith, l)) numbers.2 in
    rw (count, first, more)

ranges_takes : (bytes ns rest : List ℕ) → IsBytes bytes → ranges_at bytes ≡ Some (ns, rest) → IsValue Ranges bytes (Nums ns) rest × IsBytes rest
unfolding ranges_at
ranges_takes bytes ns rest are h =
    let count = bind_some (number_at bytes) _ (ns, rest) h in
    let first = bind_some (number_at count.0.1) _ (ns, rest) count.2 in
    let more = bind_some (pairs_at count.0.0 first.0.1) _ (ns, rest) first.2 in
    let count_takes = number_takes bytes count.0.0 count.0.1 are count.1 in
    let first_takes = number_takes count.0.1 first.0.0 first.0.1 count_takes.1 first.1 in
    let more_takes = pairs_takes count.0.0 first.0.1 more.0.0 more.0.1 first_takes.1 more.1 in
    let ns_is : first.0.0 ∷ more.0.0 ≡ ns = firsts (first.0.0 ∷ more.0.0, more.0.1) (ns, rest) more.2 in
    let rest_is : more.0.1 ≡ rest = seconds (first.0.0 ∷ more.0.0, more.0.1) (ns, rest) more.2 in
    let len = more_takes.1 in
    let whole : IsValue Ranges bytes (Nums (first.0.0 ∷ more.0.0)) more.0.1 = (count.0.0, count.0.1, count_takes.0, (first.0.1, first_takes.0, more_takes.0), omega (arith, len)) in (
      subst (λ (z : List ℕ). IsValue Ranges bytes (Nums z) rest) ns_is (subst (λ (r : List ℕ). IsValue Ranges bytes (Nums (first.0.0 ∷ more.0.0)) r) rest_is whole),
      subst IsBytes rest_is more_takes.2,
    )

value_again : (part : Part) (bytes : List ℕ) (v : Value) (rest : List ℕ) → IsValue part bytes v rest → value_at part bytes ≡ Some (v, rest)
value_again Number bytes (Num n) rest is = rw (number_again bytes rest n is) refl
value_again Number bytes (Text t) rest is = absurd is
value_again Number bytes (Nums ns) rest is = absurd is
value_again (Fixed n) bytes (Text t) rest is = rw (is.0, taken_again t rest n is.1) refl
value_again (Fixed n) bytes (Num m) rest is = absurd is
value_again (Fixed n) bytes (Nums ns) rest is = absurd is
value_again Counted bytes (Text t) rest is = rw (counted_again bytes t rest is) refl
value_again Counted bytes (Num m) rest is = absurd is
value_again Counted bytes (Nums ns) rest is = absurd is
value_again ShortCounted bytes (Text t) rest is = rw (short_again bytes t rest is) refl
value_again ShortCounted bytes (Num m) rest is = absurd is
value_again ShortCounted bytes (Nums ns) rest is = absurd is
value_again Left bytes (Text t) rest is = rw (is.0, is.1) refl
value_again Left bytes (Num m) rest is = absurd is
value_again Left bytes (Nums ns) rest is = absurd is
value_again Ranges bytes (Nums ns) rest is = rw (ranges_again bytes ns rest is) refl
value_again Ranges bytes (Num m) rest is = absurd is
value_again Ranges bytes (Text t) rest is = absurd is

-- a value that was read, and what it stands in
abbrev Takes : Part → List ℕ → Value → List ℕ → Type 0
Takes part bytes v rest = IsValue part bytes v rest × IsBytes rest

move : (part : Part) (bytes : List ℕ) (x y : Value × List ℕ) → ◌≡◌ {A = Option (Value × List ℕ)} (Some x) (Some y) → Takes part bytes x.0 x.1 → Takes part bytes y.0 y.1
move part bytes x y h t = let e : x ≡ y = cc in subst (λ (z : Value × List ℕ). Takes part bytes z.0 z.1) e t

pub value_takes : (part : Part) (bytes : List ℕ) (found : Value × List ℕ) → IsBytes bytes → value_at part bytes ≡ Some found → Takes part bytes found.0 found.1
value_takes Number bytes found are h =
    let step = bind_some (number_at bytes) _ found h in
    move Number bytes (Num step.0.0, step.0.1) found step.2 (number_takes bytes step.0.0 step.0.1 are step.1)
value_takes (Fixed n) bytes found are h =
    let step = bind_some (taken_at n bytes) _ found h in
    let t = taken_takes n bytes step.0.0 step.0.1 are step.1 in
    move (Fixed n) bytes (Text step.0.0, step.0.1) found step.2 ((t.0, t.1), t.2)
value_takes Counted bytes found are h =
    let step = bind_some (counted_at bytes) _ found h in
    move Counted bytes (Text step.0.0, step.0.1) found step.2 (counted_takes bytes step.0.0 step.0.1 are step.1)
value_takes ShortCounted bytes found are h =
    let step = bind_some (short_at bytes) _ found h in
    move ShortCounted bytes (Text step.0.0, step.0.1) found step.2 (short_takes bytes step.0.0 step.0.1 are step.1)
value_takes Left bytes found are h = move Left bytes (Text bytes, []) found h ((refl, refl), λ i. omega arith)
value_takes Ranges bytes found are h =
    let step = bind_some (ranges_at bytes) _ found h in
    move Ranges bytes (Nums step.0.0, step.0.1) found step.2 (ranges_takes bytes step.0.0 step.0.1 are step.1)

pub values_again : (parts : List Part) (bytes : List ℕ) (vs : List Value) (rest : List ℕ) → AreValues parts bytes vs rest → values_at parts bytes ≡ Some (vs, rest)
values_again [] bytes [] rest is = rw is refl
values_again [] bytes (v ∷ vs) rest is = absurd is
values_again (part ∷ parts) bytes [] rest is = absurd is
values_again (part ∷ parts) bytes (v ∷ vs) rest is =
    rw (value_again part bytes v is.0 is.1, values_again parts is.0 vs rest is.2) refl

pub values_takes : (parts : List Part) (bytes : List ℕ) (vs : List Value) (rest : List ℕ) → IsBytes bytes → values_at parts bytes ≡ Some (vs, rest) → AreValues parts bytes vs rest
values_takes [] bytes vs rest are h =
    let none : [] ≡ vs = firsts ([], bytes) (vs, rest) h in
    let rest_is : bytes ≡ rest = seconds ([], bytes) (vs, rest) h in
    subst (λ (z : List Value). AreValues [] bytes z rest) none rest_is
values_takes (part ∷ parts) bytes vs rest are h =
    let value = bind_some (value_at part bytes) _ (vs, rest) h in
    let more = bind_some (values_at parts value.0.1) _ (vs, rest) value.2 in
    let takes = value_takes part bytes value.0 are value.1 in
    let rest_are = values_takes parts value.0.1 more.0.0 more.0.1 takes.1 more.1 in
    let vs_is : value.0.0 ∷ more.0.0 ≡ vs = firsts (value.0.0 ∷ more.0.0, more.0.1) (vs, rest) more.2 in
    let rest_is : more.0.1 ≡ rest = seconds (value.0.0 ∷ more.0.0, more.0.1) (vs, rest) more.2 in
    subst (λ (z : List Value). AreValues (part ∷ parts) bytes z rest) vs_is
    (subst (λ (r : List ℕ). AreValues (part ∷ parts) bytes (value.0.0 ∷ more.0.0) r) rest_is (value.0.1, takes.0, rest_are))
