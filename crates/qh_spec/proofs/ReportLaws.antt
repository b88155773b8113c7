-- Laws of reports: the order of names, and reports that are computed.
use Rattle.std.proofs.Common.{◌≡◌, inl, inr, ℕ, ◌+◌, ◌^◌, ◌<◌, ◌≤◌, ◌++◌, zero, suc, Bool, true, false, cond, List, [], ◌∷◌, length, get_or, suc-add, refl, sym, ap, ◌∙◌, subst, arith}
use Rattle.std.specs.Prelude.{bytes_eq, sum_by, codes, flat_map}
use Rattle.std.specs.Fmt.{digits}
use Rattle.std.specs.List.Sorted.{IsPermutation, IsSortedBy}
use Rattle.std.specs.Cmp.{IsStrictWeakOrder}
use Rattle.std.specs.Cmp.Lexicographic.{slice_cmp}
use Rattle.std.specs.Ordering.{nat_cmp, is_lt}
use Rattle.std.proofs.lemmas.Bool.{cases_Bool, false≢true}
use Rattle.std.proofs.lemmas.Bool.Decides.{nat_tests}
use Rattle.std.proofs.lemmas.Cmp.{same_from_slice_cmp, nat_list_cmp_total}
use Rattle.std.proofs.lemmas.List.Sorted.{ranks_by, sorted_far, IsPermutation-refl, IsPermutation-cons, IsPermutation-trans, IsPermutation-swap, sum_by-IsPermutation}
use Rattle.std.proofs.lemmas.List.Sums.{sum_by-cons}
use Rattle.std.proofs.lemmas.Slice.Eq.{bytes_eq-Decides}
use Rattle.qh_spec.specs.Lists.{In}
use Rattle.qh_spec.specs.MessageRows.{get_message}
use Rattle.qh_spec.specs.Report.{comes_before, insert_name, in_byte_order, newline, report_of}

-- ---- the order of two names

-- it is std's order of texts
pub before_is : (a b : List ℕ) → is_lt (slice_cmp nat_cmp a b) ≡ comes_before a b
before_is a b =
    same_from_slice_cmp nat_cmp is_lt comes_before refl (λ _ _. refl) (λ _ _. refl) (λ x y xs ys o h. grind (arith, nat_tests)) a b (slice_cmp nat_cmp a b) refl

pub before_weak : IsStrictWeakOrder comes_before
before_weak = subst IsStrictWeakOrder (λ i a b. before_is a b i) (ranks_by nat_list_cmp_total (λ (a : List ℕ). a))

pub before_irreflexive : (a : List ℕ) → comes_before a a ≡ false
before_irreflexive a = elim (cases_Bool (comes_before a a)) [ inl t ↦ before_weak.one_way a a t | inr f ↦ f ]

-- names of which neither is before the other are one
pub neither_before : (a b : List ℕ) → comes_before a b ≡ false → comes_before b a ≡ false → a ≡ b
neither_before [] [] h g = refl
neither_before [] (y ∷ b) h g = absurd (false≢true (sym h))
neither_before (x ∷ a) [] h g = absurd (false≢true (sym g))
neither_before (x ∷ a) (y ∷ b) h g = grind (arith, nat_tests, neither_before a b)

-- ---- lists of names

-- no name of the list is before this one
abbrev pub Follow : List ℕ → List (List ℕ) → Type 0
Follow n [] = Unit {0}
Follow n (m ∷ ms) = (comes_before m n ≡ false) × Follow n ms

-- no name is before one that stands earlier
abbrev pub Ordered : List (List ℕ) → Type 0
Ordered [] = Unit {0}
Ordered (n ∷ ns) = Follow n ns × Ordered ns

-- what follows a name follows each that isn't after it
follow_on : (n m : List ℕ) (ms : List (List ℕ)) → comes_before m n ≡ false → Follow m ms → Follow n ms
follow_on n m [] h f = tt
follow_on n m (k ∷ ms) h f = (before_weak.chain k m n f.0 h, follow_on n m ms h f.1)

follow_insert : (n m : List ℕ) (ms : List (List ℕ)) → comes_before m n ≡ false → Follow n ms → Follow n (insert_name m ms)
follow_insert n m [] h f = (h, tt)
follow_insert n m (k ∷ ms) h f =
    elim (cases_Bool (comes_before m k)) [
      | inl t ↦ rw t (h, f)
      | inr u ↦ rw u (f.0, follow_insert n m ms h f.1)
    ]

ordered_insert : (n : List ℕ) (ms : List (List ℕ)) → Ordered ms → Ordered (insert_name n ms)
ordered_insert n [] o = (tt, tt)
ordered_insert n (m ∷ ms) o =
    elim (cases_Bool (comes_before n m)) [
      | inl t ↦ let after = before_weak.one_way n m t in rw t ((after, follow_on n m ms after o.0), o)
      | inr u ↦ rw u (follow_insert m n ms u o.0, ordered_insert n ms o.1)
    ]

pub ordered_all : (ns : List (List ℕ)) → Ordered (in_byte_order ns)
ordered_all [] = tt
ordered_all (n ∷ ns) = ordered_insert n (in_byte_order ns) (ordered_all ns)

-- ---- the same by places

follow_at : (n : List ℕ) (ms : List (List ℕ)) (k : ℕ) (d : List ℕ) → k < length ms → Follow n ms → comes_before (get_or ms k d) n ≡ false
follow_at n [] k d l f = absurd (omega arith)
follow_at n (m ∷ ms) zero d l f = f.0
follow_at n (m ∷ ms) (suc k) d l f = follow_at n ms k d (omega arith) f.1

far_at : (ns : List (List ℕ)) (k : ℕ) (d : List ℕ) → k + 1 < length ns → Ordered ns → comes_before (get_or ns (k + 1) d) (get_or ns k d) ≡ false
far_at [] k d l o = absurd (omega arith)
far_at (n ∷ ns) zero d l o = follow_at n ns 0 d (omega arith) o.0
far_at (n ∷ ns) (suc k) d l o = rw (suc-add k 1) (far_at ns k d (omega arith) o.1)

pub sorted_from_ordered : (ns : List (List ℕ)) → Ordered ns → IsSortedBy comes_before ns
sorted_from_ordered ns o = λ k d low high. far_at ns k d high o

follow_from : (n : List ℕ) (ms : List (List ℕ)) → ((k : ℕ) → k < length ms → comes_before (get_or ms k n) n ≡ false) → Follow n ms
follow_from n [] far = tt
follow_from n (m ∷ ms) far = (far 0 (omega arith), follow_from n ms (λ k l. far (suc k) (omega arith)))

ordered_from : (ns : List (List ℕ)) → ((i j : ℕ) (d : List ℕ) → i ≤ j → j < length ns → comes_before (get_or ns j d) (get_or ns i d) ≡ false) → Ordered ns
ordered_from [] far = tt
ordered_from (n ∷ ns) far =
    (follow_from n ns (λ k l. far 0 (suc k) n (omega arith) (omega arith)), ordered_from ns (λ i j d h l. far (suc i) (suc j) d (omega arith) (omega arith)))

pub ordered_from_sorted : (ns : List (List ℕ)) → IsSortedBy comes_before ns → Ordered ns
ordered_from_sorted ns s = ordered_from ns (sorted_far comes_before before_weak ns s)

-- ---- the names stay

insert_moves : (n : List ℕ) (ms : List (List ℕ)) → IsPermutation (n ∷ ms) (insert_name n ms)
insert_moves n [] = IsPermutation-refl (n ∷ [])
insert_moves n (m ∷ ms) =
    elim (cases_Bool (comes_before n m)) [
      | inl t ↦ rw t (IsPermutation-refl (n ∷ m ∷ ms))
      | inr u ↦
          let turned : IsPermutation (n ∷ m ∷ ms) (m ∷ n ∷ ms) = IsPermutation-swap (n ∷ m ∷ ms) (m ∷ n ∷ ms) 0 1 (omega arith) (omega arith) refl in
          rw u (IsPermutation-trans (n ∷ m ∷ ms) (m ∷ n ∷ ms) (m ∷ insert_name n ms) turned (IsPermutation-cons m (n ∷ ms) (insert_name n ms) (insert_moves n ms)))
    ]

pub order_moves : (ns : List (List ℕ)) → IsPermutation ns (in_byte_order ns)
order_moves [] = IsPermutation-refl []
order_moves (n ∷ ns) =
    IsPermutation-trans (n ∷ ns) (n ∷ in_byte_order ns) (insert_name n (in_byte_order ns)) (IsPermutation-cons n ns (in_byte_order ns) (order_moves ns)) (insert_moves n (in_byte_order ns))

in_insert : (x n : List ℕ) (ms : List (List ℕ)) → In x (n ∷ ms) → In x (insert_name n ms)
in_insert x n [] h = h
in_insert x n (m ∷ ms) h =
    elim (cases_Bool (comes_before n m)) [
      | inl t ↦ rw t h
      | inr u ↦
          rw u
          (elim h [
            | inl e ↦ inr (in_insert x n ms (inl e))
            | inr r ↦ elim r [ inl e ↦ inl e | inr s ↦ inr (in_insert x n ms (inr s)) ]
          ])
    ]

from_insert : (x n : List ℕ) (ms : List (List ℕ)) → In x (insert_name n ms) → In x (n ∷ ms)
from_insert x n [] h = h
from_insert x n (m ∷ ms) h =
    elim (cases_Bool (comes_before n m)) [
      | inl t ↦ rw t at h
      | inr u ↦
          elim (rw u at h) [
            | inl e ↦ inr (inl e)
            | inr r ↦ elim (from_insert x n ms r) [ inl e ↦ inl e | inr s ↦ inr (inr s) ]
          ]
    ]

pub in_order : (x : List ℕ) (ns : List (List ℕ)) → In x ns → In x (in_byte_order ns)
in_order x [] h = h
in_order x (n ∷ ns) h = in_insert x n (in_byte_order ns) (elim h [ inl e ↦ inl e | inr r ↦ inr (in_order x ns r) ])

pub from_order : (x : List ℕ) (ns : List (List ℕ)) → In x (in_byte_order ns) → In x ns
from_order x [] h = h
from_order x (n ∷ ns) h = elim (from_insert x n (in_byte_order ns) h) [ inl e ↦ inl e | inr r ↦ inr (from_order x ns r) ]

-- ---- there is one order

-- how often the name stands there
abbrev pub times : List ℕ → List (List ℕ) → ℕ
times n ms = sum_by (λ m. cond (bytes_eq m n) 1 0) ms

pub times_cons : (n m : List ℕ) (ms : List (List ℕ)) → times n (m ∷ ms) ≡ cond (bytes_eq m n) 1 0 + times n ms
times_cons n m ms = sum_by-cons (λ (z : List ℕ). cond (bytes_eq z n) 1 0) m ms

times_here : (n : List ℕ) (ms : List (List ℕ)) → times n (n ∷ ms) ≡ 1 + times n ms
times_here n ms = let t : bytes_eq n n ≡ true = (bytes_eq-Decides n n).1 refl in times_cons n n ms ∙ ap (λ (b : Bool). cond b 1 0 + times n ms) t

-- a name that is before one isn't among what follows that
absent : (n m : List ℕ) (ms : List (List ℕ)) → comes_before n m ≡ true → Follow m ms → times n ms ≡ 0
absent n m [] h f = refl
absent n m (k ∷ ms) h f =
    elim (cases_Bool (bytes_eq k n)) [
      | inl t ↦ let same : k ≡ n = (bytes_eq-Decides k n).0 t in absurd (false≢true (sym f.0 ∙ ap (λ (z : List ℕ). comes_before z m) same ∙ h))
      | inr u ↦ times_cons n k ms ∙ ap (λ (b : Bool). cond b 1 0 + times n ms) u ∙ omega (arith, absent n m ms h f.1)
    ]

not_before : (n m : List ℕ) (ns ms : List (List ℕ)) → Follow m ms → times n (n ∷ ns) ≡ times n (m ∷ ms) → comes_before n m ≡ false
not_before n m ns ms f e =
    elim (cases_Bool (comes_before n m)) [
      | inl t ↦
          let none : times n (m ∷ ms) ≡ 0 = absent n m (m ∷ ms) t (before_irreflexive m, f) in
          let here = times_here n ns in
          absurd (omega (arith, e, none, here))
      | inr u ↦ u
    ]

pub one_order : (ns ms : List (List ℕ)) → Ordered ns → Ordered ms → ((n : List ℕ) → times n ns ≡ times n ms) → ns ≡ ms
one_order [] [] o p e = refl
one_order [] (m ∷ ms) o p e = absurd (omega (arith, e m, times_here m ms))
one_order (n ∷ ns) [] o p e = absurd (omega (arith, e n, times_here n ns))
one_order (n ∷ ns) (m ∷ ms) o p e =
    let same : n ≡ m = neither_before n m (not_before n m ns ms p.0 (e n)) (not_before m n ms ns o.0 (sym (e m))) in
    let rest : (k : List ℕ) → times k ns ≡ times k ms =
    λ k. let a = times_cons k n ns in let b = times_cons k m ms in let c = ap {B = ℕ} (λ (z : List ℕ). cond (bytes_eq z k) 1 0) same in omega (arith, a, b, c, e k)
    in
    let tail : ns ≡ ms = one_order ns ms o.1 p.1 rest in
    cc

-- what a sort of the names leaves
pub sorted_is : (ns ms : List (List ℕ)) → IsPermutation ns ms → IsSortedBy comes_before ms → ms ≡ in_byte_order ns
sorted_is ns ms p s =
    one_order ms (in_byte_order ns) (ordered_from_sorted ms s) (ordered_all ns)
    (λ n. let f = λ (z : List ℕ). cond (bytes_eq z n) 1 0 in sum_by-IsPermutation f ns ms p ∙ sym (sum_by-IsPermutation f ns (in_byte_order ns) (order_moves ns)))

-- ---- reports that are computed

-- GET https://a.test/, as it is echoed
abbrev pub get_lines : List (List ℕ)
get_lines =
    codes "entry 0 GET https://a.test/" ∷ codes "body 0" ∷ [] ∷ codes "answer 0 200" ∷ codes "body 20" ∷ codes "GET https://a.test/" ∷ [] ∷ []

pub none_report : (limit : ℕ) → report_of limit [] ≡ codes "ok 0" ++ newline
unfolding digits
none_report limit = refl

pub get_report : report_of (2 ^ 20) (get_message ∷ []) ≡ flat_map (λ line. line ++ newline) (get_lines ++ codes "ok 1" ∷ [])
unfolding digits
get_report = refl

pub get_report_cut : report_of (2 ^ 20) (get_message ∷ []) ≡ flat_map (λ line. line ++ newline) get_lines → ⊥
get_report_cut e =
    let same : flat_map (λ line. line ++ newline) (get_lines ++ codes "ok 1" ∷ []) ≡ flat_map (λ line. line ++ newline) get_lines = sym get_report ∙ e in
    let lengths : length (flat_map (λ line. line ++ newline) (get_lines ++ codes "ok 1" ∷ [])) ≡ length (flat_map (λ line. line ++ newline) get_lines) = ap length same in
    omega (arith, lengths)
