-- A range that comes in among ranges that a map keeps.
use Rattle.std.proofs.Common.{◌≡◌, ℕ, ◌+◌, ◌-◌, ◌<◌, ◌≤◌, Bool, true, false, ◌||◌, List, [], ◌∷◌, ◌++◌, suc, length, max, Some, nat_cmp, Ordering, refl, sym, ap, ◌∙◌, subst, arith, inl, inr, slice_get}
use Rattle.std.specs.BTreeMap.{insert_entry}
use Rattle.std.specs.Map.{keys_of}
use Rattle.std.specs.Ordering.{match_ordering}
use Rattle.std.proofs.lemmas.Bool.{cases_lt, lt-ltb, le-ltb, or_left, or_right, or_from}
use Rattle.qh_buffers.specs.Ranges.{PlainRange, is_in, has, AreApart, IsAdded, start_behind, paired, up_to, before, above, joined}
use Rattle.qh_buffers.proofs.RangeLaws.{inside, before as in_before, behind, has-append, apart_join, apart_lower, behind_le}
use Rattle.qh_buffers.proofs.PairedLists.{Pair, range_of, paired-append, less_is, greater_is, equal_is, Rises, apart_rises, up_to_yes, before_yes, before_no, above_no, none_up_to, none_before, middle_low, before_middle, above_middle}
use Rattle.qh_buffers.proofs.PairedRanges.{has_parted, rises_here, above_apart, up_to_apart, last_low, around, front_apart, rest_apart, has_middle}

-- ---- a range that comes in

pub behind_last : (es : List Pair) (low : ℕ) (f : Pair) → start_behind low (paired (es ++ f ∷ [])) ≡ f.1 + 1
behind_last [] low f = refl
behind_last (e ∷ es) low f = behind_last es (e.1 + 1) f

pub ends_before : (es front : List Pair) (f : Pair) (n : ℕ) → up_to n es ≡ front ++ f ∷ [] → f.1 < n → start_behind 0 (paired (up_to n es)) ≤ n
ends_before es front f n is less =
    omega (arith, ap (λ (l : List Pair). start_behind 0 (paired l)) is, behind_last front 0 f)

joined_apart : (es : List Pair) (low s e : ℕ) → low ≤ s → s < e → AreApart (s + 1) (paired es) → AreApart low (paired (joined s e es))
joined_apart [] low s e above some apart = (above, some, tt)
joined_apart (f ∷ es) low s e above some apart =
    elim (cases_lt e f.0) [
      | inl later ↦ rw (lt-ltb e f.0 later) (above, some, (omega arith, apart.1, apart.2))
      | inr touched ↦ rw (le-ltb e f.0 touched) (joined_apart es low s (max e f.1) above (omega arith) (apart_lower (paired es) (s + 1) (f.1 + 1) (omega (arith, apart.0, apart.1)) apart.2))
    ]

pub joined_more : (es rest : List Pair) (f : Pair) (s e : ℕ) → es ≡ f ∷ rest → f.0 ≤ e → joined s e es ≡ joined s (max e f.1) rest
joined_more es rest f s e is touch = ap (joined s e) is ∙ rw (le-ltb e f.0 touch)

-- two ranges that touch
module _ (a b s e k : ℕ) (low : a ≤ s) (touch : s ≤ b) (some : a < b) (more : s < e) where
  pub both : is_in (range_of (a, max b e)) k ≡ (is_in (range_of (a, b)) k || is_in (range_of (s, e)) k)
  both =
      let l = is_in (range_of (a, b)) k in
      let r = is_in (range_of (s, e)) k in
      elim (cases_lt k a) [
        | inl below ↦ in_before (range_of (a, max b e)) k below ∙ sym (or_from l r (in_before (range_of (a, b)) k below) (in_before (range_of (s, e)) k (omega arith)))
        | inr above ↦ elim (cases_lt k b) [
          | inl first ↦ inside (range_of (a, max b e)) k above (omega arith) ∙ sym (or_left l r (inside (range_of (a, b)) k above first))
          | inr past ↦ elim (cases_lt k e) [
            | inl second ↦ inside (range_of (a, max b e)) k above (omega arith) ∙ sym (or_right l r (inside (range_of (s, e)) k (omega arith) second))
            | inr out ↦ behind (range_of (a, max b e)) k (omega arith) ∙ sym (or_from l r (behind (range_of (a, b)) k past) (behind (range_of (s, e)) k out))
          ]
        ]
      ]

pub or_none : (b : Bool) → (b || false) ≡ b
or_none true = refl
or_none false = refl

or_regroup : (a b c : Bool) → ((a || b) || c) ≡ (a || (b || c))
or_regroup true b c = refl
or_regroup false b c = refl

or_flip : (a b : Bool) → (a || b) ≡ (b || a)
or_flip true true = refl
or_flip true false = refl
or_flip false true = refl
or_flip false false = refl

or_turn : (a b c : Bool) → (a || (b || c)) ≡ (b || (a || c))
or_turn true true c = refl
or_turn true false c = refl
or_turn false b c = refl

joined_has : (es : List Pair) (s e k : ℕ) → s < e → AreApart (s + 1) (paired es) → has (paired (joined s e es)) k ≡ (is_in (range_of (s, e)) k || has (paired es) k)
joined_has [] s e k some apart = refl
joined_has (f ∷ es) s e k some apart =
    elim (cases_lt e f.0) [
      | inl later ↦ rw (lt-ltb e f.0 later)
      | inr touched ↦
          let so = joined_has es s (max e f.1) k (omega arith) (apart_lower (paired es) (s + 1) (f.1 + 1) (omega (arith, apart.0, apart.1)) apart.2) in
          rw (le-ltb e f.0 touched) (so ∙ ap (λ (t : Bool). t || has (paired es) k) (both s e f.0 f.1 k (omega (arith, apart.0)) touched some apart.1)
          ∙ or_regroup (is_in (range_of (s, e)) k) (is_in (range_of f) k) (has (paired es) k))
    ]

pub grown_added : (es front : List Pair) (f : Pair) (s e : ℕ) → AreApart 0 (paired es) → up_to s es ≡ front ++ f ∷ [] → s ≤ f.1 → s < e
    → IsAdded (paired es) (paired (before f.0 es ++ joined f.0 (max f.1 e) (above f.0 es))) (range_of (s, e))
grown_added es front f s e apart is touch some =
    let back : List Pair = above s es in
    let list = around es front f s apart is in
    let a : AreApart 0 (paired (front ++ f ∷ back)) = subst (λ (l : List Pair). AreApart 0 (paired l)) list apart in
    let rises : Rises 0 (front ++ f ∷ back) = apart_rises (front ++ f ∷ back) 0 0 (omega arith) a in
    let rest = rest_apart front back f a in
    let later : AreApart (f.0 + 1) (paired back) = apart_lower (paired back) (f.0 + 1) (f.1 + 1) (omega (arith, rest.1)) rest.2 in
    let new : List Pair = joined f.0 (max f.1 e) back in
    let low = last_low es front [] f s is in
    let parts = ap (λ (l : List Pair). before f.0 l ++ joined f.0 (max f.1 e) (above f.0 l)) list
    ∙ ap (λ (l : List Pair). l ++ joined f.0 (max f.1 e) (above f.0 (front ++ f ∷ back))) (before_middle front back f 0 rises)
    ∙ ap (λ (l : List Pair). front ++ joined f.0 (max f.1 e) l) (above_middle front back f 0 rises) in
    subst (λ (l : List Pair). IsAdded (paired es) (paired l) (range_of (s, e))) (sym parts) (record {
      apart = subst (λ (l : List PlainRange). AreApart 0 l) (sym (paired-append front new)) (apart_join (paired front) (paired new) 0 (front_apart front back f a) (joined_apart back (start_behind 0 (paired front)) f.0 (max f.1 e) rest.0 (omega (arith, rest.1)) later));
      numbers = λ k.
          ap (λ (l : List PlainRange). has l k) (paired-append front new) ∙ has-append (paired front) (paired new) k
          ∙ ap (λ (t : Bool). has (paired front) k || t) (joined_has back f.0 (max f.1 e) k (omega (arith, rest.1)) later
          ∙ ap (λ (t : Bool). t || has (paired back) k) (both f.0 f.1 s e k low touch rest.1 some)
          ∙ ap (λ (t : Bool). t || has (paired back) k) (or_flip (is_in (range_of f) k) (is_in (range_of (s, e)) k))
          ∙ or_regroup (is_in (range_of (s, e)) k) (is_in (range_of f) k) (has (paired back) k))
          ∙ or_turn (has (paired front) k) (is_in (range_of (s, e)) k) (is_in (range_of f) k || has (paired back) k)
          ∙ ap (λ (t : Bool). is_in (range_of (s, e)) k || t) (sym (ap (λ (l : List Pair). has (paired l) k) list ∙ has_middle front back f a k));
    })

-- the last range of all grows
reached_by_all : (front : List Pair) (f : Pair) (low n : ℕ) → Rises low (front ++ f ∷ []) → f.0 ≤ n → up_to n (front ++ f ∷ []) ≡ front ++ f ∷ []
unfolding Rises
reached_by_all [] f low n rises h = up_to_yes n f [] h
reached_by_all (e ∷ front) f low n rises h =
    up_to_yes n e (front ++ f ∷ []) (omega (arith, middle_low front [] f (e.0 + 1) rises.1))
    ∙ ap (λ (l : List Pair). e ∷ l) (reached_by_all front f (e.0 + 1) n rises.1 h)

module _ (es front : List Pair) (f : Pair) (s : ℕ) (apart : AreApart 0 (paired es)) (is : es ≡ front ++ f ∷ []) (low : f.0 ≤ s) where
  last_rises : Rises 0 (front ++ f ∷ [])
  last_rises = subst (λ (l : List Pair). Rises 0 l) is (apart_rises es 0 0 (omega arith) apart)

  last_up_to : up_to s es ≡ front ++ f ∷ []
  last_up_to = ap (up_to s) is ∙ reached_by_all front f 0 s last_rises low

  pub last_added : (e : ℕ) → s ≤ f.1 → s < e → IsAdded (paired es) (paired (front ++ (f.0, max f.1 e) ∷ [])) (range_of (s, e))
  last_added e touch some =
      let end : ℕ = max f.1 e in
      let parts : before f.0 es ++ joined f.0 end (above f.0 es) ≡ front ++ (f.0, end) ∷ [] =
      ap (λ (l : List Pair). before f.0 l ++ joined f.0 end (above f.0 l)) is
      ∙ ap (λ (l : List Pair). l ++ joined f.0 end (above f.0 (front ++ f ∷ []))) (before_middle front [] f 0 last_rises)
      ∙ ap (λ (l : List Pair). front ++ joined f.0 end l) (above_middle front [] f 0 last_rises) in
      subst (λ (l : List Pair). IsAdded (paired es) (paired l) (range_of (s, e))) parts (grown_added es front f s e apart last_up_to touch some)

-- the last entry of a map is written
last_key : (front : List Pair) (f : Pair) (k : ℕ) → slice_get (keys_of (front ++ f ∷ [])) (length (front ++ f ∷ []) - 1) ≡ Some k → k ≡ f.0
last_key [] f k h = cc
last_key (e ∷ []) f k h = cc
last_key (e ∷ g ∷ front) f k h =
    let n : length (e ∷ g ∷ front ++ f ∷ []) - 1 ≡ suc (length (g ∷ front ++ f ∷ []) - 1) = omega arith in
    last_key (g ∷ front) f k (sym (ap (slice_get (keys_of (e ∷ g ∷ front ++ f ∷ []))) n) ∙ h)

put_last : (front : List Pair) (f : Pair) (w low : ℕ) → Rises low (front ++ f ∷ []) → insert_entry nat_cmp (front ++ f ∷ []) f.0 w ≡ front ++ (f.0, w) ∷ []
unfolding Rises
put_last [] f w low rises = ap (λ (o : Ordering). match_ordering o ((f.0, w) ∷ f ∷ []) ((f.0, w) ∷ []) (f ∷ (f.0, w) ∷ [])) (equal_is f.0 f.0 refl)
put_last (e ∷ front) f w low rises =
    let rest = front ++ f ∷ [] in
    let more = insert_entry nat_cmp rest f.0 w in
    ap (λ (o : Ordering). match_ordering o ((f.0, w) ∷ e ∷ rest) ((e.0, w) ∷ rest) (e ∷ more)) (greater_is f.0 e.0 (omega (arith, middle_low front [] f (e.0 + 1) rises.1)))
    ∙ ap (λ (l : List Pair). e ∷ l) (put_last front f w (e.0 + 1) rises.1)

pub last_written : (es front : List Pair) (f : Pair) (k w : ℕ) → AreApart 0 (paired es) → es ≡ front ++ f ∷ [] → slice_get (keys_of es) (length es - 1) ≡ Some k → insert_entry nat_cmp es k w ≡ front ++ (f.0, w) ∷ []
last_written es front f k w apart is there =
    let rises : Rises 0 (front ++ f ∷ []) = subst (λ (l : List Pair). Rises 0 l) is (apart_rises es 0 0 (omega arith) apart) in
    let same : k ≡ f.0 = last_key front f k (subst (λ (l : List Pair). slice_get (keys_of l) (length l - 1) ≡ Some k) is there) in
    ap (λ (l : List Pair). insert_entry nat_cmp l k w) is ∙ ap (λ (n : ℕ). insert_entry nat_cmp (front ++ f ∷ []) n w) same ∙ put_last front f w 0 rises

pub some_last : (es front : List Pair) (f : Pair) → es ≡ front ++ f ∷ [] → 0 < length es
some_last es [] f is = omega (arith, ap length is)
some_last es (e ∷ front) f is = omega (arith, ap length is)

-- a range that is put in, behind those before it and without a touch
pub record IsPutIn (es new : List Pair) (s : ℕ) : Type 0 where
  pub before_is : before s new ≡ up_to s es
  pub above_is : above s new ≡ above s es

put_in_is : (es : List Pair) (low s e : ℕ) → AreApart low (paired es) → start_behind low (paired (up_to s es)) ≤ s → IsPutIn es (insert_entry nat_cmp es s e) s
put_in_is [] low s e apart ends = record {
  before_is = before_no s (s, e) [] (omega arith);
  above_is = above_no s (s, e) [] (omega arith);
}
put_in_is (f ∷ es) low s e apart ends =
    let rest = insert_entry nat_cmp es s e in
    elim (cases_lt s f.0) [
      | inl later ↦
          let put : insert_entry nat_cmp (f ∷ es) s e ≡ (s, e) ∷ f ∷ es = ap (λ (o : Ordering). match_ordering o ((s, e) ∷ f ∷ es) ((f.0, e) ∷ es) (f ∷ rest)) (less_is s f.0 later) in
          let rises : Rises f.0 (f ∷ es) = rises_here f es low (apart_rises (f ∷ es) low low (omega arith) apart) in
          record {
            before_is = ap (before s) put ∙ before_no s (s, e) (f ∷ es) (omega arith) ∙ none_before (f ∷ es) f.0 s rises (omega arith) ∙ sym (none_up_to (f ∷ es) f.0 s rises later);
            above_is = ap (above s) put ∙ above_no s (s, e) (f ∷ es) (omega arith);
          }
      | inr earlier ↦
          let there : start_behind (f.1 + 1) (paired (up_to s es)) ≤ s = subst (λ (l : List Pair). start_behind low (paired l) ≤ s) (up_to_yes s f es earlier) ends in
          let reach : f.1 + 1 ≤ s = omega (arith, there, behind_le (paired (up_to s es)) (f.1 + 1) (up_to_apart es (f.1 + 1) s apart.2)) in
          let put : insert_entry nat_cmp (f ∷ es) s e ≡ f ∷ rest = ap (λ (o : Ordering). match_ordering o ((s, e) ∷ f ∷ es) ((f.0, e) ∷ es) (f ∷ rest)) (greater_is s f.0 (omega (arith, apart.1))) in
          let more = put_in_is es (f.1 + 1) s e apart.2 there in
          record {
            before_is = ap (before s) put ∙ before_yes s f rest (omega (arith, apart.1)) ∙ ap (λ (l : List Pair). f ∷ l) more.before_is ∙ sym (up_to_yes s f es earlier);
            above_is = ap (above s) put ∙ above_no s f rest earlier ∙ more.above_is ∙ sym (above_no s f es earlier);
          }
    ]

pub put_added : (es : List Pair) (s e : ℕ) → AreApart 0 (paired es) → start_behind 0 (paired (up_to s es)) ≤ s → s < e
    → IsAdded (paired es) (paired (before s (insert_entry nat_cmp es s e) ++ joined s e (above s (insert_entry nat_cmp es s e)))) (range_of (s, e))
put_added es s e apart ends some =
    let put = put_in_is es 0 s e apart ends in
    let up : List Pair = up_to s es in
    let back : List Pair = above s es in
    let new : List Pair = joined s e back in
    let later : AreApart (s + 1) (paired back) = above_apart es 0 s apart in
    let parts = ap (λ (l : List Pair). l ++ joined s e (above s (insert_entry nat_cmp es s e))) put.before_is ∙ ap (λ (l : List Pair). up ++ joined s e l) put.above_is in
    subst (λ (l : List Pair). IsAdded (paired es) (paired l) (range_of (s, e))) (sym parts) (record {
      apart = subst (λ (l : List PlainRange). AreApart 0 l) (sym (paired-append up new)) (apart_join (paired up) (paired new) 0 (up_to_apart es 0 s apart) (joined_apart back (start_behind 0 (paired up)) s e ends some later));
      numbers = λ k.
          ap (λ (l : List PlainRange). has l k) (paired-append up new) ∙ has-append (paired up) (paired new) k
          ∙ ap (λ (t : Bool). has (paired up) k || t) (joined_has back s e k some later)
          ∙ or_turn (has (paired up) k) (is_in (range_of (s, e)) k) (has (paired back) k)
          ∙ ap (λ (t : Bool). is_in (range_of (s, e)) k || t) (sym (has_parted es 0 s k (apart_rises es 0 0 (omega arith) apart)));
    })
