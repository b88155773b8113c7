-- Pieces as a map keeps them, by the offset behind the last byte.
use Rattle.std.proofs.Common.{◌≡◌, ℕ, ◌+◌, ◌-◌, ◌<◌, ◌≤◌, ◌^◌, Bool, true, false, cond, ◌||◌, ◌==◌, if◌then◌else◌, List, [], ◌∷◌, ◌++◌, zero, suc, length, get_or, take, drop, max, slice_get, Option, Some, None, is_some, IsSome, IfSome, Result, Ok, Err, OnOk, OnErr, is_err, nat_cmp, Less, Equal, Greater, Ordering, refl, sym, ap, ◌∙◌, subst, arith, inl, inr, append_assoc}
use Rattle.std.specs.BTreeMap.{insert_entry, is_at}
use Rattle.std.specs.BTreeMap.Range.{range_contains}
use Rattle.std.specs.declared.ops.Bound.TheVariants.{Included, Unbounded}
use Rattle.std.specs.List.{AllByRecursion, filter}
use Rattle.std.specs.List.Sorted.{IsStrictlySortedBy}
use Rattle.std.specs.Map.{keys_of, lookup}
use Rattle.std.specs.declared.ops.Range.{Range}
use Rattle.std.specs.Ordering.{match_ordering}
use Rattle.std.proofs.lemmas.Bool.{cases_lt, cases_Bool, cases_order, both_ways, or_left, or_right, or_from, or_cases, eq-eqb, eqb-true, ne_eqb, le-leb, lt-leb, le-ltb, lt-ltb}
use Rattle.std.proofs.lemmas.List.{take-append-le, take-append-drop, append-nil}
use Rattle.std.proofs.lemmas.List.Folds.{list_any_more, list_any-append}
use Rattle.std.proofs.Math.Seq.{take-append-add}
use Rattle.std.proofs.lemmas.Option.{none-some}
use Rattle.qh_buffers.specs.declared.assembler.Chunk.{Chunk}
use Rattle.qh_buffers.specs.Assembler.{byte_of, byte_in, or_byte, end_of, waits_in, end_behind, pieces, part, parts_of, all_bytes, run_of, after_front, is_end, AreInOrder, AreStored, AreGaps, AreExclusive}
use Rattle.qh_buffers.specs.Ranges.{kept}
use Rattle.qh_buffers.proofs.ChunkParts.{part_inside, part_order, part_end}
use Rattle.qh_buffers.proofs.ChunkLaws.{inside, before, behind, or_none, or_assoc, some_or, in-append, none_below, order_join, order_lower}

abbrev pub Entry : Type 0
Entry = ℕ × List ℕ

abbrev pub piece_of : ℕ × List ℕ → Chunk
piece_of e = record { offset = e.0 - length e.1; bytes = e.1 }

-- a piece is the one that is kept by its end
pub piece_again : (p : Chunk) → piece_of (end_of p, p.bytes) ≡ p
piece_again p =
    let e : (p.offset + length p.bytes) - length p.bytes ≡ p.offset = omega arith in
    ap (λ (o : ℕ). let c : Chunk = record { offset = o; bytes = p.bytes } in c) e

pub stored_order : (es : List Entry) (low : ℕ) → AreStored low es → AreInOrder low (pieces es)
stored_order [] low stored = tt
stored_order (e ∷ es) low stored =
    let end : end_of (piece_of e) ≡ e.0 = omega (arith, stored.0) in
    (omega (arith, stored.0), stored.1, omega (arith, end, stored.2), subst (λ (k : ℕ). AreInOrder k (pieces es)) (sym end) (stored_order es e.0 stored.3))

pub stored_lower : (es : List Entry) (low low' : ℕ) → low ≤ low' → AreStored low' es → AreStored low es
stored_lower [] low low' h stored = tt
stored_lower (e ∷ es) low low' h stored = (omega (arith, stored.0), stored.1, stored.2, stored.3)

less_is : (m n : ℕ) → m < n → nat_cmp m n ≡ Less
less_is m n h = grind (arith, h)

equal_is : (m n : ℕ) → m ≡ n → nat_cmp m n ≡ Equal
equal_is m n h = grind (arith, h)

greater_is : (m n : ℕ) → n < m → nat_cmp m n ≡ Greater
greater_is m n h = grind (arith, h)

keys_above : (es : List Entry) (m low : ℕ) → m ≤ low → AreStored low es → AllByRecursion (λ k. nat_cmp m k ≡ Less) (keys_of es)
keys_above [] m low h stored = tt
keys_above (e ∷ es) m low h stored =
    (less_is m e.0 (omega (arith, stored.0, stored.1)), keys_above es m e.0 (omega (arith, stored.0)) stored.3)

pub stored_sorted : (es : List Entry) (low : ℕ) → AreStored low es → IsStrictlySortedBy nat_cmp (keys_of es)
unfolding IsStrictlySortedBy
stored_sorted [] low stored = tt
stored_sorted (e ∷ es) low stored =
    (keys_above es e.0 e.0 (omega arith) stored.3, stored_sorted es e.0 stored.3)

-- ---- the first piece that ends behind an offset

abbrev ends_behind : ℕ → ℕ → Bool
ends_behind s q = range_contains nat_cmp (Included (s + 1)) Unbounded q

behind_yes : (s q : ℕ) → s < q → ends_behind s q ≡ true
behind_yes s q h = grind (arith, h)

behind_no : (s q : ℕ) → q ≤ s → ends_behind s q ≡ false
behind_no s q h = grind (arith, h)

abbrev found : ℕ → List Entry → List Entry
found s es = filter (λ (e : Entry). range_contains nat_cmp (Included (s + 1)) Unbounded e.0) es

found_first : (s : ℕ) (e : Entry) (es : List Entry) → s < e.0 → found s (e ∷ es) ≡ e ∷ found s es
found_first s e es h = ap (λ (b : Bool). cond b (e ∷ found s es) (found s es)) (behind_yes s e.0 h)

found_later : (s : ℕ) (e : Entry) (es : List Entry) → e.0 ≤ s → found s (e ∷ es) ≡ found s es
found_later s e es h = ap (λ (b : Bool). cond b (e ∷ found s es) (found s es)) (behind_no s e.0 h)

-- there is none
pub none_found : (es : List Entry) (low s k : ℕ) → AreStored low es → found s es ≡ [] → s ≤ k → byte_in (pieces es) k ≡ None
none_found [] low s k stored none h = refl
none_found (e ∷ es) low s k stored none h =
    elim (cases_lt s e.0) [
      | inl later ↦ absurd (let e' = sym (found_first s e es later) ∙ none in cc)
      | inr earlier ↦ rw (behind (piece_of e) k (omega (arith, stored.0))) (none_found es e.0 s k stored.3 (sym (found_later s e es earlier) ∙ none) h)
    ]

pub record IsFound (es : List Entry) (s : ℕ) (f : Entry) : Type 0 where
  pub later : s < f.0
  pub fits : length f.1 ≤ f.0
  pub free : (k : ℕ) → s ≤ k → k < f.0 - length f.1 → byte_in (pieces es) k ≡ None
  pub waits : (k : ℕ) → f.0 - length f.1 ≤ k → k < f.0 → waits_in (pieces es) k ≡ true

found_here : (e : Entry) (es : List Entry) (low s : ℕ) → AreStored low (e ∷ es) → s < e.0 → IsFound (e ∷ es) s e
found_here e es low s stored later = record {
  later = later;
  fits = omega (arith, stored.0);
  free = λ k above under. rw (before (piece_of e) k under) (none_below (pieces es) e.0 k (stored_order es e.0 stored.3) (omega arith));
  waits = λ k above under. rw (inside (piece_of e) k above (omega (arith, stored.0)));
}

found_more : (e f : Entry) (es : List Entry) (s : ℕ) → length e.1 ≤ e.0 → e.0 ≤ s → IsFound es s f → IsFound (e ∷ es) s f
found_more e f es s fits earlier more = record {
  later = more.later;
  fits = more.fits;
  free = λ k above under. rw (behind (piece_of e) k (omega arith)) (more.free k above under);
  waits = λ k above under. some_or (byte_of (piece_of e) k) (byte_in (pieces es) k) ∙ or_right (is_some (byte_of (piece_of e) k)) (waits_in (pieces es) k) (more.waits k above under);
}

pub one_found : (es rest : List Entry) (low s : ℕ) (f : Entry) → AreStored low es → found s es ≡ f ∷ rest → IsFound es s f
one_found [] rest low s f stored some = absurd (cc)
one_found (e ∷ es) rest low s f stored some =
    elim (cases_lt s e.0) [
      | inl later ↦
          let same : e ≡ f = let h : e ∷ found s es ≡ f ∷ rest = sym (found_first s e es later) ∙ some in cc in
          subst (λ (g : Entry). IsFound (e ∷ es) s g) same (found_here e es low s stored later)
      | inr earlier ↦ found_more e f es s (omega (arith, stored.0)) earlier (one_found es rest e.0 s f stored.3 (sym (found_later s e es earlier) ∙ some))
    ]

-- ---- one piece more

or_parts : (o p : Option ℕ) → or_byte o p ≡ None → (o ≡ None) × (p ≡ None)
or_parts None p h = (refl, h)
or_parts (Some b) p h = absurd (none-some b (sym h))

-- a byte that waits isn't lacking
pub waits_not : (cs : List Chunk) (k : ℕ) → waits_in cs k ≡ true → byte_in cs k ≡ None → ⊥
waits_not cs k some none = both_ways (waits_in cs k) (ap (λ (o : Option ℕ). is_some o) none) some

swapped : (old new : Option ℕ) → (is_some new ≡ true → old ≡ None) → or_byte new old ≡ or_byte old new
swapped old None apart = sym (or_none old)
swapped old (Some b) apart = rw (apart refl)

waits_one : (p : Chunk) (k : ℕ) → p.offset ≤ k → k < end_of p → waits_in (p ∷ []) k ≡ true
waits_one p k low high = rw (inside p k low high)

-- a byte that waits in two places
twice : (e : Entry) (es : List Entry) (p : Chunk) (k : ℕ) → length e.1 ≤ e.0 → AreExclusive (pieces (e ∷ es)) (p ∷ []) → e.0 - length e.1 ≤ k → k < e.0 → p.offset ≤ k → k < end_of p → ⊥
twice e es p k fits apart low high low' high' =
    let none = or_parts (byte_of (piece_of e) k) (byte_in (pieces es) k) (apart k (waits_one p k low' high')) in
    none-some _ (sym none.0 ∙ inside (piece_of e) k low (omega arith))

abbrev pub put : List Entry → Chunk → List Entry
put es p = insert_entry nat_cmp es (end_of p) p.bytes

put_before : (e : Entry) (es : List Entry) (p : Chunk) → end_of p < e.0 → put (e ∷ es) p ≡ (end_of p, p.bytes) ∷ e ∷ es
put_before e es p h = ap (λ (o : Ordering). match_ordering o ((end_of p, p.bytes) ∷ e ∷ es) ((e.0, p.bytes) ∷ es) (e ∷ put es p)) (less_is (end_of p) e.0 h)

pub put_behind : (e : Entry) (es : List Entry) (p : Chunk) → e.0 < end_of p → put (e ∷ es) p ≡ e ∷ put es p
put_behind e es p h = ap (λ (o : Ordering). match_ordering o ((end_of p, p.bytes) ∷ e ∷ es) ((e.0, p.bytes) ∷ es) (e ∷ put es p)) (greater_is (end_of p) e.0 h)

pub record IsPut (low : ℕ) (es new : List Entry) (p : Chunk) : Type 0 where
  pub stored : AreStored low new
  pub bytes_are : (k : ℕ) → byte_in (pieces new) k ≡ or_byte (byte_in (pieces es) k) (byte_in (p ∷ []) k)

first_put : (es : List Entry) (low : ℕ) (p : Chunk) → low ≤ p.offset → 0 < length p.bytes → end_of p < 2 ^ 62 → AreStored (end_of p) es → AreExclusive (pieces es) (p ∷ []) → IsPut low es ((end_of p, p.bytes) ∷ es) p
first_put es low p above some fits stored apart = record {
  stored = (omega arith, some, fits, stored);
  bytes_are = λ k.
      ap (λ (c : Chunk). or_byte (byte_of c k) (byte_in (pieces es) k)) (piece_again p)
      ∙ swapped (byte_in (pieces es) k) (byte_of p k) (λ h. apart k (ap (λ (o : Option ℕ). is_some o) (or_none (byte_of p k)) ∙ h))
      ∙ sym (ap (or_byte (byte_in (pieces es) k)) (or_none (byte_of p k)));
}

later_put : (e : Entry) (es new : List Entry) (low : ℕ) (p : Chunk) → AreStored low (e ∷ es) → IsPut e.0 es new p → IsPut low (e ∷ es) (e ∷ new) p
later_put e es new low p stored more = record {
  stored = (stored.0, stored.1, stored.2, more.stored);
  bytes_are = λ k.
      ap (or_byte (byte_of (piece_of e) k)) (more.bytes_are k)
      ∙ sym (or_assoc (byte_of (piece_of e) k) (byte_in (pieces es) k) (byte_in (p ∷ []) k));
}

pub is_put : (es : List Entry) (low : ℕ) (p : Chunk) → low ≤ p.offset → 0 < length p.bytes → end_of p < 2 ^ 62 → AreStored low es → AreExclusive (pieces es) (p ∷ []) → IsPut low es (put es p) p
is_put [] low p above some fits stored apart = first_put [] low p above some fits tt apart
is_put (e ∷ es) low p above some fits stored apart =
    let o : ℕ = e.0 - length e.1 in
    elim (cases_order (end_of p) e.0) [
      | inl same ↦ absurd (twice e es p (e.0 - 1) (omega (arith, stored.0)) apart (omega (arith, stored.1)) (omega (arith, stored.0, stored.1)) (omega arith) (omega (arith, stored.0, stored.1)))
      | inr other ↦ elim other [
        | inl below ↦ elim (cases_lt o (end_of p)) [
          | inl over ↦ absurd (twice e es p (max o p.offset) (omega (arith, stored.0)) apart (omega arith) (omega (arith, stored.0, stored.1)) (omega arith) (omega arith))
          | inr past ↦ subst (λ (l : List Entry). IsPut low (e ∷ es) l p) (sym (put_before e es p below))
              (first_put (e ∷ es) low p above some fits (omega (arith, stored.0), stored.1, stored.2, stored.3) apart)
        ]
        | inr beyond ↦ elim (cases_lt p.offset e.0) [
          | inl over ↦ absurd (twice e es p (e.0 - 1) (omega (arith, stored.0)) apart (omega (arith, stored.1)) (omega arith) (omega arith) (omega arith))
          | inr past ↦ subst (λ (l : List Entry). IsPut low (e ∷ es) l p) (sym (put_behind e es p beyond))
              (later_put e es (put es p) low p stored (is_put es e.0 p past some fits stored.3 (λ k h. (or_parts (byte_of (piece_of e) k) (byte_in (pieces es) k) (apart k h)).1)))
        ]
      ]
    ]

-- ---- the first piece, and the last

pub first_is : {A : Type 0} (xs : List A) (x : A) → slice_get xs 0 ≡ Some x → xs ≡ x ∷ drop 1 xs
first_is [] x h = absurd (cc)
first_is (y ∷ ys) x h = let same : y ≡ x = cc in ap (λ z. z ∷ ys) same

pub first_fits : (es rest : List Entry) (low : ℕ) (e : Entry) → AreStored low es → es ≡ e ∷ rest → length e.1 ≤ e.0
first_fits es rest low e stored is =
    let s : AreStored low (e ∷ rest) = subst (λ (l : List Entry). AreStored low l) is stored in
    omega (arith, s.0)

pub rest_stored : (es rest : List Entry) (low : ℕ) (e : Entry) → AreStored low es → es ≡ e ∷ rest → AreStored 0 rest
rest_stored es rest low e stored is =
    let s : AreStored low (e ∷ rest) = subst (λ (l : List Entry). AreStored low l) is stored in
    stored_lower rest 0 e.0 (omega arith) s.3

pub last_end : (es : List Entry) (low low' : ℕ) (e : Entry) → AreStored low es → slice_get es (length es - 1) ≡ Some e → end_behind low' (pieces es) ≡ e.0
last_end [] low low' e stored h = absurd (cc)
last_end (f ∷ []) low low' e stored h =
    let same : f ≡ e = cc in
    let end : end_of (piece_of f) ≡ f.0 = omega (arith, stored.0) in
    end ∙ ap (λ (g : Entry). g.0) same
last_end (f ∷ g ∷ es) low low' e stored h =
    let n : length (f ∷ g ∷ es) - 1 ≡ suc (length (g ∷ es) - 1) = omega arith in
    last_end (g ∷ es) f.0 (end_of (piece_of f)) e stored.3 (sym (ap (slice_get (f ∷ g ∷ es)) n) ∙ h)

-- ---- a walk from the first piece on

module _ (at left : ℕ) (e : Entry) (rest : List Entry) where
  pub run_stops : (e.0 - length e.1 ≡ at → ⊥) → run_of at left (pieces (e ∷ rest)) ≡ 0
  run_stops other = rw (ne_eqb (e.0 - length e.1) at other)

  pub run_ends : e.0 - length e.1 ≡ at → left ≤ length e.1 → run_of at left (pieces (e ∷ rest)) ≡ left
  run_ends same fits = rw (eq-eqb (e.0 - length e.1) at same, le-leb left (length e.1) fits)

  pub run_goes : length e.1 ≤ e.0 → e.0 - length e.1 ≡ at → length e.1 < left → run_of at left (pieces (e ∷ rest)) ≡ length e.1 + run_of e.0 (left - length e.1) (pieces rest)
  run_goes fits same less =
      let end : end_of (piece_of e) ≡ e.0 = omega arith in
      rw (eq-eqb (e.0 - length e.1) at same, lt-leb left (length e.1) less) (ap (λ (k : ℕ). length e.1 + run_of k (left - length e.1) (pieces rest)) end)

pub copy_goes : (bytes all : List ℕ) (n : ℕ) (next rest : List ℕ) → length next < n - length bytes → bytes ++ take (n - length bytes) (next ++ rest) ≡ all → (bytes ++ next) ++ take (n - (length bytes + length next)) rest ≡ all
copy_goes bytes all n next rest less so_far =
    let m : ℕ = n - (length bytes + length next) in
    let size : n - length bytes ≡ length next + m = omega arith in
    let taken : take (n - length bytes) (next ++ rest) ≡ next ++ take m rest = rw size (take-append-add next rest m) in
    append_assoc bytes next (take m rest) ∙ ap (λ (l : List ℕ). bytes ++ l) (sym taken) ∙ so_far

pub front_of_all : (es rest : List Entry) (e : Entry) (n : ℕ) → es ≡ e ∷ rest → n ≤ length e.1 → take n (all_bytes (pieces es)) ≡ take n e.1
front_of_all es rest e n is fits =
    ap (λ (l : List Entry). take n (all_bytes (pieces l))) is ∙ take-append-le n e.1 (all_bytes (pieces rest)) fits

-- ---- the first pieces are dropped

pub popped_is : (es new : List Entry) (e : Entry) (o : Option Entry) → slice_get es 0 ≡ Some e → IfSome o (λ (p : Entry). es ≡ p ∷ new) → (0 < length es → IsSome o) → es ≡ e ∷ new
popped_is [] new e o first removal some = absurd (cc)
popped_is (f ∷ es) new e None first removal some = absurd (let h = some (omega arith) in cc)
popped_is (f ∷ es) new e (Some p) first removal some =
    let same : f ≡ e = cc in
    removal ∙ ap (λ (g : Entry). g ∷ new) (let q : f ≡ p = cc in sym q ∙ same)

pub none_left : (es : List Entry) (o : Option Entry) (n : ℕ) → o ≡ None → (0 < length es → IsSome o) → after_front n (pieces es) ≡ pieces es
none_left [] o n none some = refl
none_left (e ∷ es) o n none some = absurd (let h = subst (λ (p : Option Entry). IsSome p) none (some (omega arith)) in cc)

pub dropped : (es rest : List Entry) (e : Entry) (left : ℕ) → es ≡ e ∷ rest → length e.1 ≤ left → after_front left (pieces es) ≡ after_front (left - length e.1) (pieces rest)
dropped es rest e left is fits =
    ap (λ (l : List Entry). after_front left (pieces l)) is ∙ rw (le-ltb left (length e.1) fits)

-- ---- parts that are put in, and taken out again

apart_is : (k q : ℕ) → (k ≡ q → ⊥) → is_at (nat_cmp k) q ≡ false
apart_is k q h = grind (arith, h)

key_absent : (es : List Entry) (low q : ℕ) → AreStored low es → 0 < q → byte_in (pieces es) (q - 1) ≡ None → lookup (is_at (nat_cmp q)) es ≡ None
key_absent [] low q stored some none = refl
key_absent (e ∷ es) low q stored some none =
    let parts = or_parts (byte_of (piece_of e) (q - 1)) (byte_in (pieces es) (q - 1)) none in
    elim (cases_order q e.0) [
      | inl same ↦ absurd (none-some _ (sym parts.0 ∙ inside (piece_of e) (q - 1) (omega (arith, stored.0, stored.1)) (omega (arith, stored.0, stored.1))))
      | inr apart ↦ ap (λ (b : Bool). cond b (Some e.1) (lookup (is_at (nat_cmp q)) es)) (apart_is q e.0 (λ same. elim apart [ inl below ↦ omega arith | inr beyond ↦ omega arith ]))
          ∙ key_absent es e.0 q stored.3 some parts.1
    ]

pub gaps_at : (gs : List (Range ℕ)) (low high i : ℕ) (d : Range ℕ) → AreGaps low high gs → i < length gs
    → (low ≤ (get_or gs i d).start) × ((get_or gs i d).start < (get_or gs i d).end) × ((get_or gs i d).end ≤ high)
gaps_at [] low high i d gaps h = absurd (omega arith)
gaps_at (g ∷ gs) low high zero d gaps h = (gaps.0, gaps.1, gaps.2)
gaps_at (g ∷ gs) low high (suc i) d gaps h =
    let later = gaps_at gs g.end high i d gaps.3 (omega arith) in
    (omega (arith, gaps.0, gaps.1, later.0), later.1, later.2)

pub gaps_more : (gs : List (Range ℕ)) (low high : ℕ) (g : Range ℕ) → AreGaps low high gs → low ≤ high → high ≤ g.start → g.start ≤ g.end → AreGaps low g.end (gs ++ kept g)
gaps_more [] low high g gaps order above way =
    elim (cases_lt g.start g.end) [
      | inl some ↦ rw (lt-ltb g.start g.end some) (omega arith, some, omega arith, tt)
      | inr none ↦ rw (le-ltb g.start g.end none) tt
    ]
gaps_more (f ∷ gs) low high g gaps order above way =
    (gaps.0, gaps.1, omega (arith, gaps.2), gaps_more gs f.end high g gaps.3 gaps.2 above way)

pub parts-append : (c : Chunk) (gs hs : List (Range ℕ)) → parts_of c (gs ++ hs) ≡ parts_of c gs ++ parts_of c hs
parts-append c [] hs = refl
parts-append c (g ∷ gs) hs = ap (λ (l : List Chunk). part g.start g.end c ++ l) (parts-append c gs hs) ∙ sym (append_assoc (part g.start g.end c) (parts_of c gs) (parts_of c hs))

parts_kept : (c : Chunk) (g : Range ℕ) → parts_of c (kept g) ≡ part g.start g.end c
parts_kept c g =
    elim (cases_lt g.start g.end) [
      | inl some ↦ let t = lt-ltb g.start g.end some in rw (t, t) (append-nil _)
      | inr none ↦ rw (le-ltb g.start g.end none)
    ]

pub parts_more : (c : Chunk) (gs : List (Range ℕ)) (g : Range ℕ) → parts_of c (gs ++ kept g) ≡ parts_of c gs ++ part g.start g.end c
parts_more c gs g = parts-append c gs (kept g) ∙ ap (λ (l : List Chunk). parts_of c gs ++ l) (parts_kept c g)

module _ (c : Chunk) (fits : end_of c < 2 ^ 62) where
  pub parts_in_order : (gs : List (Range ℕ)) (low : ℕ) → c.offset ≤ low → AreGaps low (end_of c) gs → AreInOrder low (parts_of c gs)
  parts_in_order [] low above gaps = tt
  parts_in_order (g ∷ gs) low above gaps =
      let start : c.offset ≤ g.start = omega (arith, gaps.0) in
      order_join (part g.start g.end c) (parts_of c gs) low (part_order c g.start g.end start gaps.2 low gaps.0 fits)
      (order_lower (parts_of c gs) (end_behind low (part g.start g.end c)) g.end (part_end c g.start g.end start gaps.2 low (omega (arith, gaps.0, gaps.1)))
      (parts_in_order gs g.end (omega (arith, gaps.1)) gaps.3))

  ends_wait : (gs : List (Range ℕ)) (low q : ℕ) → c.offset ≤ low → AreGaps low (end_of c) gs → is_end gs q ≡ true → (0 < q) × (waits_in (parts_of c gs) (q - 1) ≡ true)
  ends_wait [] low q above gaps ends = cc
  ends_wait (g ∷ gs) low q above gaps ends =
      let start : c.offset ≤ g.start = omega (arith, gaps.0) in
      let split = in-append (part g.start g.end c) (parts_of c gs) (q - 1) in
      elim (or_cases (g.end == q) (is_end gs q) ends) [
        | inl here ↦
            let same : g.end ≡ q = eqb-true g.end q here in
            let at : byte_in (part g.start g.end c) (q - 1) ≡ Some (get_or c.bytes (q - 1 - c.offset) 0) =
            part_inside c g.start g.end start gaps.2 (q - 1) (omega (arith, gaps.1)) (omega (arith, gaps.1)) ∙ inside c (q - 1) (omega (arith, gaps.1)) (omega (arith, gaps.1, gaps.2)) in
            let there : byte_in (parts_of c (g ∷ gs)) (q - 1) ≡ Some (get_or c.bytes (q - 1 - c.offset) 0) = split ∙ ap (λ (o : Option ℕ). or_byte o (byte_in (parts_of c gs) (q - 1))) at in
            (omega (arith, gaps.1), ap (λ (o : Option ℕ). is_some o) there)
        | inr later ↦
            let more = ends_wait gs g.end q (omega (arith, gaps.1)) gaps.3 later in
            (more.0, ap (λ (o : Option ℕ). is_some o) split ∙ some_or (byte_in (part g.start g.end c) (q - 1)) (byte_in (parts_of c gs) (q - 1)) ∙ or_right (is_some (byte_in (part g.start g.end c) (q - 1))) (waits_in (parts_of c gs) (q - 1)) more.1)
      ]

  pub fresh_end : (es : List Entry) (gs : List (Range ℕ)) (q : ℕ) → AreStored 0 es → AreGaps c.offset (end_of c) gs → AreExclusive (pieces es) (parts_of c gs) → is_end gs q ≡ true → lookup (is_at (nat_cmp q)) es ≡ None
  fresh_end es gs q stored gaps apart ends =
      let wait = ends_wait gs c.offset q (omega arith) gaps ends in
      key_absent es 0 q stored wait.0 (apart (q - 1) wait.1)

pub first_ends : (gs : List (Range ℕ)) (i q : ℕ) → is_end (take i gs) q ≡ true → is_end gs q ≡ true
first_ends gs i q h =
    ap (λ (l : List (Range ℕ)). is_end l q) (sym (take-append-drop i gs))
    ∙ list_any-append (λ (g : Range ℕ). g.end == q) (take i gs) (drop i gs)
    ∙ or_left (is_end (take i gs) q) (is_end (drop i gs) q) h

at_end : (g k : ℕ) → is_at (nat_cmp g) k ≡ (g == k)
at_end g k = grind arith

module _ (gs : List (Range ℕ)) (i k g : ℕ) (d : Range ℕ) (within : i < length gs) (is : g ≡ (get_or gs i d).end) where
  one_more : is_end (take (i + 1) gs) k ≡ (is_end (take i gs) k || (g == k))
  one_more = list_any_more (λ (r : Range ℕ). r.end == k) gs i d within ∙ ap (λ (n : ℕ). is_end (take i gs) k || (n == k)) (sym is)

  pub withdrawn : {X : Type 0} (new cur old : Option X) → new ≡ cond (is_at (nat_cmp g) k) None cur → cur ≡ (if is_end (take i gs) k then None else old) → new ≡ (if is_end (take (i + 1) gs) k then None else old)
  withdrawn new cur old step so_far =
      let t = one_more in
      elim (cases_Bool (g == k)) [
        | inl here ↦ let a : is_at (nat_cmp g) k ≡ true = at_end g k ∙ here in let o : (is_end (take i gs) k || (g == k)) ≡ true = or_right (is_end (take i gs) k) (g == k) here in rw a at step ∙ sym (rw (t ∙ o))
        | inr other ↦ let a : is_at (nat_cmp g) k ≡ false = at_end g k ∙ other in elim (cases_Bool (is_end (take i gs) k)) [
          | inl gone ↦ let o : (is_end (take i gs) k || (g == k)) ≡ true = or_left (is_end (take i gs) k) (g == k) gone in rw a at step ∙ rw gone at so_far ∙ sym (rw (t ∙ o))
          | inr there ↦ let o : (is_end (take i gs) k || (g == k)) ≡ false = or_from (is_end (take i gs) k) (g == k) there other in rw a at step ∙ rw there at so_far ∙ sym (rw (t ∙ o))
        ]
      ]

  pub still_other : is_end (take (i + 1) gs) k ≡ false → (is_end (take i gs) k ≡ false) × ((g == k) ≡ false)
  still_other h =
      let none : (is_end (take i gs) k || (g == k)) ≡ false = sym one_more ∙ h in
      elim (cases_Bool (is_end (take i gs) k)) [
        | inl gone ↦ absurd (both_ways (is_end (take i gs) k || (g == k)) none (or_left (is_end (take i gs) k) (g == k) gone))
        | inr there ↦ elim (cases_Bool (g == k)) [
          | inl here ↦ absurd (both_ways (is_end (take i gs) k || (g == k)) none (or_right (is_end (take i gs) k) (g == k) here))
          | inr other ↦ (there, other)
        ]
      ]

pub was_ok : {A E : Type 0} {P : Type 0} (r : Result A E) → is_err r ≡ false → OnOk r P → P
was_ok (Ok a) h said = said
was_ok (Err e) h said = absurd (cc)

pub was_err : {A E : Type 0} {P : Type 0} (r : Result A E) → is_err r ≡ true → OnErr r P → P
was_err (Ok a) h said = absurd (cc)
was_err (Err e) h said = said

-- what was put in is taken out again
pub put_back : {X : Type 0} (ends : Bool) (new failed cur old : Option X) → new ≡ (if ends then None else failed) → failed ≡ cur → (ends ≡ false → cur ≡ old) → (ends ≡ true → old ≡ None) → new ≡ old
put_back true new failed cur old gone same kept fresh = gone ∙ sym (fresh refl)
put_back false new failed cur old gone same kept fresh = gone ∙ same ∙ kept refl
