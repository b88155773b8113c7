-- Each kind of step keeps the rule of the closing flag.
use Rattle.std.proofs.Common.{◌≡◌, ◌≢◌, ◌⊎◌, ◌||◌, ℕ, zero, suc, ◌<◌, List, [], ◌∷◌, ◌++◌, length, get_or, set, Bool, true, false, true≢false, refl, sym, ap, ◌∙◌, subst, inl, inr, ⊎_elim, arith, length-append}
use Rattle.std.specs.Prelude.{bit_or}
use mathlib.Core.Option.{none, some, some-ne-none, some-injective}
use native.Mathlib.Decide.{ℕ_discrete}
use mathlib.Core.Logic.{dite}
use lib.ListN.{get_elem?}
use Rattle.atomic_table.specs.Table.{State, Me, Act, step, keeps, stepped, carried_after, Valid, Allows, Splits, Joins, opening}
use Rattle.atomic_table.proofs.Lists.{at_set, at_snoc, at_longer, set_else}
use Rattle.qh_h3.specs.declared.shared_state.flag.Sight.{Sight}
use Rattle.qh_h3.specs.Flag.{Each, WasSet, IsFlag, sight, opened, raised, found, kept, given, both, spent, was_set, looked}

off : false ≡ true → ⊥
off e = true≢false (sym e)

abbrev St : Type 0
St = State ℕ Sight

abbrev M : Type 0
M = Me ℕ Sight

each_other : (P : Sight → Type 0) (views : List Sight) (id : ℕ) (w : Sight) → ((j : ℕ) (u : Sight) → j ≢ id → get_elem? views j ≡ some u → P u) → P w → Each P (set views id w)
each_other P views id w others mine j u e = ⊎_elim (λ (x : (j ≡ id) × (w ≡ u)). subst P x.1 mine) (λ (x : (j ≢ id) × (get_elem? views j ≡ some u)). others j u x.0 x.1) (at_set views id j w u e)

each_set : (P : Sight → Type 0) (views : List Sight) (id : ℕ) (w : Sight) → Each P views → P w → Each P (set views id w)
each_set P views id w others mine = each_other P views id w (λ j u _. others j u) mine

each_snoc : (P : Sight → Type 0) (views : List Sight) (w : Sight) → Each P views → P w → Each P (views ++ w ∷ [])
each_snoc P views w all mine j u e = ⊎_elim (all j u) (λ (x : w ≡ u). subst P x mine) (at_snoc views w u j e)

each_one : (P : Sight → Type 0) (w : Sight) → P w → Each P (w ∷ [])
each_one P w p zero u e = subst P (some-injective w u e) p
each_one P w p (suc j) u e = absurd (some-ne-none u (sym e))

set_at : (views : List Sight) (id : ℕ) (v w : Sight) → get_elem? views id ≡ some v → get_elem? (set views id w) id ≡ some w
set_at [] id v w e = absurd (some-ne-none v (sym e))
set_at (x ∷ xs) zero v w e = refl
set_at (x ∷ xs) (suc i) v w e = set_at xs i v w e

set_length : (views : List Sight) (id : ℕ) (w : Sight) → length (set views id w) ≡ length views
set_length [] id w = refl
set_length (x ∷ xs) zero w = refl
set_length (x ∷ xs) (suc i) w = ap suc (set_length xs i w)

-- of one view the number is 0
only_one : (views : List Sight) (j : ℕ) (v : Sight) → length views ≡ 1 → get_elem? views j ≡ some v → j ≡ 0
only_one [] j v one at = absurd (some-ne-none v (sym at))
only_one (x ∷ []) zero v one at = refl
only_one (x ∷ []) (suc j) v one at = absurd (some-ne-none v (sym at))
only_one (x ∷ y ∷ ys) j v one at = absurd (omega arith)

-- a view that set the flag stays one where another changes, and where it keeps that
still_set : (views : List Sight) (id : ℕ) (v w : Sight) → get_elem? views id ≡ some v → (v.own ≡ true → w.own ≡ true) → WasSet views → WasSet (set views id w)
still_set views id v w at keep h = dite (ℕ_discrete h.0 id)
    (λ e. (id, w, set_at views id v w at, keep (ap (λ (z : Sight). z.own) (some-injective v h.1 (sym at ∙ (ap (λ (k : ℕ). get_elem? views k) (sym e) ∙ h.2))) ∙ h.3)))
    (λ ne. (h.0, h.1, set_else views id h.0 w ne ∙ h.2, h.3))

word_of : (s : St) (r : IsFlag s) → get_or s.words 0 0 ≡ r.word
word_of s r = ap (λ (l : List ℕ). get_or l 0 0) r.words

raised_word : (n : ℕ) → (n ≡ 0) ⊎ (n ≡ 1) → bit_or n 1 ≡ 1
raised_word n h = ⊎_elim (λ (e : n ≡ 0). ap (λ (k : ℕ). bit_or k 1) e) (λ (e : n ≡ 1). ap (λ (k : ℕ). bit_or k 1) e) h

pub raises : (slots id : ℕ) (me : M) → Allows IsFlag slots id me 0 (λ n. bit_or n 1) (was_set (step slots 0 1 0 none) me)
raises slots id me s r _ at _ =
    let v : Sight = me.0 in
    let w : Sight = raised v in
    let one : (r.word ≡ 0) ⊎ (r.word ≡ 1) = ⊎_elim inl (λ (h : (r.word ≡ 1) × WasSet s.views). inr h.0) r.one in
    let new : bit_or (get_or s.words 0 0) 1 ≡ 1 = ap (λ (k : ℕ). bit_or k 1) (word_of s r) ∙ raised_word r.word one in (
      w,
      keeps,
      tt,
      record {
        word = 1;
        words = ap (λ (l : List ℕ). set l 0 (bit_or (get_or s.words 0 0) 1)) r.words ∙ ap (λ (k : ℕ). k ∷ []) new;
        one = inr (refl, (id, w, set_at s.views id v w at, refl));
        seen = λ j u atj on. omega arith;
        saw = each_set (λ u. u.own ≡ true → u.saw ≡ true) s.views id w r.saw (λ _. refl);
        alone = each_set (λ u. u.alone ≡ true → length (set s.views id w) ≡ 1) s.views id w (λ j u atj on. set_length s.views id w ∙ r.alone j u atj on) (λ on. set_length s.views id w ∙ r.alone id v at on);
      },
      refl,
    )

found_own : (n : ℕ) (v : Sight) → (found n v).own ≡ v.own
found_own zero v = refl
found_own (suc n) v = refl

found_alone : (n : ℕ) (v : Sight) → (found n v).alone ≡ v.alone
found_alone zero v = refl
found_alone (suc n) v = refl

found_saw : (n : ℕ) (v : Sight) → (v.saw ≡ true → 0 < n) → (found n v).saw ≡ true → 0 < n
found_saw zero v h e = h e
found_saw (suc n) v h e = omega arith

found_own_saw : (n : ℕ) (v : Sight) → (v.own ≡ true → v.saw ≡ true) → (found n v).own ≡ true → (found n v).saw ≡ true
found_own_saw zero v h e = h e
found_own_saw (suc n) v h e = refl

-- who is alone set the flag, if some view did
alone_set : (views : List Sight) (id : ℕ) (v : Sight) → get_elem? views id ≡ some v → length views ≡ 1 → WasSet views → v.own ≡ true
alone_set views id v at one h =
    let a : id ≡ 0 = only_one views id v one at in
    let b : h.0 ≡ 0 = only_one views h.0 h.1 one h.2 in
    let same : some v ≡ some h.1 = sym at ∙ (ap (λ (k : ℕ). get_elem? views k) (a ∙ sym b) ∙ h.2) in
    ap (λ (z : Sight). z.own) (some-injective v h.1 same) ∙ h.3

pub looks : (slots id : ℕ) (me : M) → Allows IsFlag slots id me 0 (λ n. n) (looked (step slots 0 0 0 none) me)
looks slots id me s r _ at _ =
    let v : Sight = me.0 in
    let n : ℕ = get_or s.words 0 0 in
    let w : Sight = found n v in
    let here : n ≡ r.word = word_of s r in
    let seen_now : v.saw ≡ true → 0 < n = λ on. let h : 0 < r.word = r.seen id v at on in omega arith in (
      w,
      keeps,
      tt,
      record {
        word = n;
        words = ap (λ (l : List ℕ). set l 0 n) r.words;
        one = ⊎_elim (λ (e : r.word ≡ 0). inl (here ∙ e)) (λ (h : (r.word ≡ 1) × WasSet s.views). inr (here ∙ h.0, still_set s.views id v w at (λ on. found_own n v ∙ on) h.1)) r.one;
        seen = each_set (λ u. u.saw ≡ true → 0 < n) s.views id w (λ j u atj on. let h : 0 < r.word = r.seen j u atj on in omega arith) (found_saw n v seen_now);
        saw = each_set (λ u. u.own ≡ true → u.saw ≡ true) s.views id w r.saw (found_own_saw n v (r.saw id v at));
        alone = each_set (λ u. u.alone ≡ true → length (set s.views id w) ≡ 1) s.views id w (λ j u atj on. set_length s.views id w ∙ r.alone j u atj on)
            (λ on. set_length s.views id w ∙ r.alone id v at (sym (found_alone n v) ∙ on));
      },
      (
        refl,
        seen_now,
        r.saw id v at,
        (λ on some_set. ⊎_elim (λ (e : r.word ≡ 0). absurd (omega arith)) (λ (h : (r.word ≡ 1) × WasSet s.views). alone_set s.views id v at (r.alone id v at on) h.1) r.one),
      ),
    )

neither : (a b : Bool) → (a ≡ true → ⊥) → (b ≡ true → a ≡ true) → a ≡ b
neither true b h k = absurd (h refl)
neither false true h k = k refl
neither false false h k = refl

pub finds_alone : (r : ℕ) (v : Sight) → (v.saw ≡ true → 0 < r) → (v.own ≡ true → v.saw ≡ true) → (v.alone ≡ true → 0 < r → v.own ≡ true) → v.alone ≡ true → (found r v).saw ≡ v.own
finds_alone zero v seen saw only on = neither v.saw v.own (λ e. let h = seen e in omega arith) saw
finds_alone (suc n) v seen saw only on = sym (only on (omega arith))

pub finds_stays : (r : ℕ) (v : Sight) → v.saw ≡ true → (found r v).saw ≡ true
finds_stays zero v e = e
finds_stays (suc n) v e = refl

pub splits : (id : ℕ) (v : Sight) → Splits IsFlag id v (kept v) (given v)
splits id v s r at =
    let left : Sight = kept v in
    let right : Sight = given v in
    let vs : List Sight = set s.views id left in
    record {
      word = r.word;
      words = r.words;
      one = ⊎_elim inl (λ (h : (r.word ≡ 1) × WasSet s.views). let t = still_set s.views id v left at (λ on. on) h.1 in inr (h.0, (t.0, t.1, at_longer vs (right ∷ []) t.0 t.1 t.2, t.3))) r.one;
      seen = each_snoc (λ u. u.saw ≡ true → 0 < r.word) vs right (each_set (λ u. u.saw ≡ true → 0 < r.word) s.views id left r.seen (r.seen id v at)) (r.seen id v at);
      saw = each_snoc (λ u. u.own ≡ true → u.saw ≡ true) vs right (each_set (λ u. u.own ≡ true → u.saw ≡ true) s.views id left r.saw (r.saw id v at)) (λ on. absurd (off on));
      alone = each_snoc (λ u. u.alone ≡ true → length (vs ++ right ∷ []) ≡ 1) vs right
          (each_other (λ u. u.alone ≡ true → length (vs ++ right ∷ []) ≡ 1) s.views id left
          (λ j u apart atj on. let one = r.alone j u atj on in absurd (apart (only_one s.views j u one atj ∙ sym (only_one s.views id v one at))))
          (λ on. absurd (off on)))
          (λ on. absurd (off on));
    }

either_own : (a b : Bool) → (a || b) ≡ true → (a ≡ true) ⊎ (b ≡ true)
either_own true b e = inl refl
either_own false b e = inr e

or_left : (a b : Bool) → a ≡ true → (a || b) ≡ true
or_left true b e = refl
or_left false b e = absurd (off e)

or_right : (a b : Bool) → b ≡ true → (a || b) ≡ true
or_right true b e = refl
or_right false b e = e

-- of two views that are joined one set the flag, or a third did
joined_set : (views : List Sight) (id : ℕ) (v : Sight) (other : ℕ) (u : Sight) → get_elem? views id ≡ some v → ¬ (other ≡ id) → get_elem? views other ≡ some u → WasSet views
    → WasSet (set (set views id (both v u)) other spent)
joined_set views id v other u at apart there h = dite (ℕ_discrete h.0 other)
    (λ e. here (or_right v.own u.own (ap (λ (z : Sight). z.own) (some-injective u h.1 (sym there ∙ (ap (λ (k : ℕ). get_elem? views k) (sym e) ∙ h.2))) ∙ h.3)))
    (λ ne. dite (ℕ_discrete h.0 id)
    (λ e. here (or_left v.own u.own (ap (λ (z : Sight). z.own) (some-injective v h.1 (sym at ∙ (ap (λ (k : ℕ). get_elem? views k) (sym e) ∙ h.2))) ∙ h.3)))
    (λ ni. (h.0, h.1, set_else (set views id (both v u)) other h.0 spent ne ∙ (set_else views id h.0 (both v u) ni ∙ h.2), h.3)))
  where
    here : (both v u).own ≡ true → WasSet (set (set views id (both v u)) other spent)
    here on = (id, both v u, set_else (set views id (both v u)) other id spent (λ (e : id ≡ other). apart (sym e)) ∙ set_at views id v (both v u) at, on)

pub joins : (id : ℕ) (v : Sight) (other : ℕ) (u : Sight) → Joins IsFlag id v other u (both v u) spent
joins id v other u s r at apart there =
    let w : Sight = both v u in
    let there' : get_elem? s.views other ≡ some u = sym (set_else s.views id other w apart) ∙ there in
    let vs : List Sight = set s.views id w in
    record {
      word = r.word;
      words = r.words;
      one = ⊎_elim inl (λ (h : (r.word ≡ 1) × WasSet s.views). inr (h.0, joined_set s.views id v other u at apart there' h.1)) r.one;
      seen = each_set (λ z. z.saw ≡ true → 0 < r.word) vs other spent
          (each_set (λ z. z.saw ≡ true → 0 < r.word) s.views id w r.seen (λ on. ⊎_elim (r.seen id v at) (r.seen other u there') (either_own v.saw u.saw on)))
          (λ on. absurd (off on));
      saw = each_set (λ z. z.own ≡ true → z.saw ≡ true) vs other spent
          (each_set (λ z. z.own ≡ true → z.saw ≡ true) s.views id w r.saw (λ on. ⊎_elim (λ (e : v.own ≡ true). or_left v.saw u.saw (r.saw id v at e)) (λ (e : u.own ≡ true). or_right v.saw u.saw (r.saw other u there' e)) (either_own v.own u.own on)))
          (λ on. absurd (off on));
      alone = each_set (λ z. z.alone ≡ true → length (set vs other spent) ≡ 1) vs other spent
          (each_set (λ z. z.alone ≡ true → length (set vs other spent) ≡ 1) s.views id w
          (λ j z atj on. let one = r.alone j z atj on in absurd (apart (only_one s.views other u one there' ∙ sym (only_one s.views id v one at))))
          (λ on. absurd (off on)))
          (λ on. absurd (off on));
    }

pub begins : IsFlag (opening (0 ∷ []) [] opened)
begins = record {
  word = 0;
  words = refl;
  one = inl refl;
  seen = each_one (λ u. u.saw ≡ true → 0 < 0) opened (λ on. absurd (off on));
  saw = each_one (λ u. u.own ≡ true → u.saw ≡ true) opened (λ on. absurd (off on));
  alone = each_one (λ u. u.alone ≡ true → length (opened ∷ []) ≡ 1) opened (λ _. refl);
}
