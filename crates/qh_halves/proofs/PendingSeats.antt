-- What the queue shows of a stream by its place in the tree, and what becomes of it when a place is taken, left or set.
use Rattle.std.proofs.Common.{◌≡◌, ℕ, ℤ, ◌<◌, ◌≤◌, ◌==◌, Bool, true, false, not, ◌&&◌, ◌||◌, cond, List, [], ◌∷◌, map, length, set, Option, Some, None, is_some, MatchOption, if◌then◌else◌, nat_cmp, int_eq, refl, sym, ap, ◌∙◌, arith, inl, inr}
use Rattle.std.specs.BTreeMap.{is_at}
use Rattle.std.specs.List.Sorted.{IsStrictlySortedBy}
use Rattle.std.specs.Map.{set_value, keys_of}
use Rattle.std.specs.Option.{option_map, option_flatten, option_and_then, unwrap_or}
use Rattle.std.proofs.lemmas.Bool.{both_ways, cases_eq, and_right, eq-eqb, ne_eqb, eqb-false, false≢true}
use Rattle.std.proofs.lemmas.Bool.Decides.{eqb_tells}
use Rattle.std.proofs.lemmas.List.{length-set, get_or-set_same, get_or-set_other}
use Rattle.std.proofs.lemmas.Map.{keys-set_value}
use Rattle.std.proofs.lemmas.Map.Entries.{sum_by-set_value}
use Rattle.std.proofs.lemmas.Map.Made.{lookup-map_values}
use Rattle.slab.specs.Slab.{Slab, get, Updates}
use Rattle.qh_halves.specs.declared.pending.PendingStream.{PendingStream}
use Rattle.qh_halves.specs.Pending.{PlainPending, goes_before, stream_in, has_room, waits, waiting, IsFirst}
use Rattle.qh_halves.specs.Seats.{priority_of, priority_at, with_priorities, seat_in, AreSeated}
use Rattle.qh_halves.specs.Winners.{Leaf, leaf, goes_first, IsWinner}
use Rattle.qh_halves.proofs.HalvesRanges.{same_values}
use Rattle.qh_halves.proofs.MapWritten.{at_key, value_written}
use Rattle.qh_halves.proofs.PendingOrder.{is_same, before_otherwise, same_parts}

-- a leaf has one stream, or none
pub same_stream : (s p : PendingStream) → ◌≡◌ {A = Leaf} (Some s) (Some p) → p.id ≡ s.id
same_stream s p e = sym (ap (λ (o : Leaf). (unwrap_or o s).id) e)

pub no_stream : (id : ℕ) (p : PendingStream) → ◌≡◌ {A = Leaf} None (Some p) → p.id ≡ id
no_stream id p e = absurd (cc)

-- what the queue shows
abbrev pub shown : List Leaf → List (ℕ × ℕ) → PlainPending
shown leaves seats = record { streams = with_priorities leaves seats }

-- the priority of the stream that sits there
abbrev sits : List Leaf → Option ℕ → Option ℤ
sits leaves o = option_and_then (λ (place : ℕ). priority_at leaves place) o

room_of : (leaves : List Leaf) (o : Option ℕ) → is_some (option_map (λ (place : ℕ). priority_at leaves place) o) ≡ is_some o
room_of leaves None = refl
room_of leaves (Some place) = refl

flat_of : (leaves : List Leaf) (o : Option ℕ) → option_flatten (option_map (λ (place : ℕ). priority_at leaves place) o) ≡ sits leaves o
flat_of leaves None = refl
flat_of leaves (Some place) = refl

module _ (leaves : List Leaf) (seats : List (ℕ × ℕ)) (k : ℕ) where
  shown_at : stream_in (with_priorities leaves seats) k ≡ option_map (λ (place : ℕ). priority_at leaves place) (seat_in seats k)
  shown_at = lookup-map_values (λ (place : ℕ). priority_at leaves place) (is_at (nat_cmp k)) seats

  pub room_is : has_room (shown leaves seats) k ≡ is_some (seat_in seats k)
  room_is = ap is_some shown_at ∙ room_of leaves (seat_in seats k)

  waits_is : waits (shown leaves seats) k ≡ sits leaves (seat_in seats k)
  waits_is = ap option_flatten shown_at ∙ flat_of leaves (seat_in seats k)

keys_same : (leaves : List Leaf) (seats : List (ℕ × ℕ)) → keys_of (with_priorities leaves seats) ≡ keys_of seats
keys_same leaves [] = refl
keys_same leaves (e ∷ es) = ap (λ (ks : List ℕ). e.0 ∷ ks) (keys_same leaves es)

-- leaves that are the same at each place show the same
pub shown_same : (old new : List Leaf) (seats : List (ℕ × ℕ)) → ((place : ℕ) → leaf new place ≡ leaf old place) → shown new seats ≡ shown old seats
shown_same old new seats same = λ i. record { streams = map (λ (e : ℕ × ℕ). (e.0, priority_of (same e.1 i))) seats }

-- two places are one if the same stream sits there
one_place : (a b k : ℕ) (seat : Option ℕ) → seat ≡ Some a → seat ≡ Some b → a ≡ b
one_place a b k seat e f = ap (λ (o : Option ℕ). unwrap_or o a) (sym e ∙ f)

module _ (seats : List (ℕ × ℕ)) (ids : Slab ℕ) (leaves : List Leaf) (ok : AreSeated seats ids leaves) where
  -- two streams that sit at one place are one
  one_stream : (k id place : ℕ) → seat_in seats k ≡ Some place → seat_in seats id ≡ Some place → k ≡ id
  one_stream k id place a b = one_place k id place (get ids place) (ok.held k place a) (ok.held id place b)

  -- ---- a place is set

  module _ (id place : ℕ) (x : Leaf) (here : seat_in seats id ≡ Some place) (own : (p : PendingStream) → x ≡ Some p → p.id ≡ id) where
    pub seated_set : AreSeated seats ids (set leaves place x)
    seated_set = record {
      sorted = ok.sorted;
      held = ok.held;
      taken = ok.taken;
      within = λ k other e. let inside = ok.within k other e in omega (arith, inside, length-set leaves place x);
      named = λ other p e. elim (cases_eq other place) [
        | inl same ↦
            let now = get_or-set_same leaves place x None (ok.within id place here) in
            let there = rw same at e in
            rw (same, own p (sym now ∙ there)) (ok.held id place here)
        | inr apart ↦ ok.named other p (sym (get_or-set_other leaves place other x None apart) ∙ e)
      ];
    }

    sits_set : (k : ℕ) (seat : Option ℕ) → seat_in seats k ≡ seat → sits (set leaves place x) seat ≡ (if k == id then priority_of x else sits leaves seat)
    sits_set k None e = elim (eqb_tells k id) [
      | inl same ↦ absurd (let mine = rw same.1 at e in cc)
      | inr apart ↦ rw apart.0 refl
    ]
    sits_set k (Some other) e = elim (eqb_tells k id) [
      | inl same ↦
          let one : other ≡ place = one_place other place k (seat_in seats id) (rw same.1 at e) here in
          rw (same.0, one) (ap priority_of (get_or-set_same leaves place x None (ok.within id place here)))
      | inr apart ↦ rw apart.0 (ap priority_of (get_or-set_other leaves place other x None (λ same. eqb-false k id apart.0 (one_stream k id place (rw same at e) here))))
    ]

    pub waits_set : (k : ℕ) → waits (shown (set leaves place x) seats) k ≡ (if k == id then priority_of x else waits (shown leaves seats) k)
    waits_set k =
        waits_is (set leaves place x) seats k ∙ sits_set k (seat_in seats k) refl
        ∙ ap (λ (o : Option ℤ). if k == id then priority_of x else o) (sym (waits_is leaves seats k))

    pub room_set : (k : ℕ) → has_room (shown (set leaves place x) seats) k ≡ has_room (shown leaves seats) k
    room_set k = room_is (set leaves place x) seats k ∙ sym (room_is leaves seats k)

  -- ---- a stream stops to wait

  entry_set : (id place k : ℕ) → seat_in seats id ≡ Some place → (seat : Option ℕ) → seat_in seats k ≡ seat
      → option_map (λ (other : ℕ). priority_at (set leaves place None) other) seat ≡ (if k == id then Some None else option_map (λ (other : ℕ). priority_at leaves other) seat)
  entry_set id place k here None e = elim (eqb_tells k id) [
    | inl same ↦ absurd (let mine = rw same.1 at e in cc)
    | inr apart ↦ rw apart.0 refl
  ]
  entry_set id place k here (Some other) e =
      let is = sits_set id place None here (λ p w. absurd (cc)) k (Some other) e in
      elim (eqb_tells k id) [
        | inl same ↦ rw same.0 (ap (λ (o : Option ℤ). Some o) (rw same.0 at is))
        | inr apart ↦ rw apart.0 (ap (λ (o : Option ℤ). Some o) (rw apart.0 at is))
      ]

  streams_set : (id place : ℕ) (was : Option ℤ) → seat_in seats id ≡ Some place → stream_in (with_priorities leaves seats) id ≡ Some was
      → with_priorities (set leaves place None) seats ≡ set_value (is_at (nat_cmp id)) (with_priorities leaves seats) None
  streams_set id place was here there =
      let old = with_priorities leaves seats in
      let new = with_priorities (set leaves place None) seats in
      same_values new (set_value (is_at (nat_cmp id)) old None) (rw (keys_same (set leaves place None) seats) ok.sorted) (rw (keys-set_value (is_at (nat_cmp id)) old None, keys_same leaves seats) ok.sorted) (λ k.
      shown_at (set leaves place None) seats k ∙ entry_set id place k here (seat_in seats k) refl
      ∙ ap (λ (o : Option (Option ℤ)). if k == id then Some None else o) (sym (shown_at leaves seats k))
      ∙ sym (value_written old id was None there k))

  pub fewer : (id place : ℕ) (priority : ℤ) → seat_in seats id ≡ Some place → waits (shown leaves seats) id ≡ Some priority → waiting (shown (set leaves place None) seats) < waiting (shown leaves seats)
  fewer id place priority here waited =
      let was : priority_at leaves place ≡ Some priority = sym (ap (sits leaves) here) ∙ sym (waits_is leaves seats id) ∙ waited in
      let there : stream_in (with_priorities leaves seats) id ≡ Some (Some priority) = shown_at leaves seats id ∙ ap (option_map (λ (other : ℕ). priority_at leaves other)) here ∙ ap (λ (o : Option ℤ). Some o) was in
      let sum = sum_by-set_value (λ (o : Option ℤ). cond (is_some o) 1 0) (is_at (nat_cmp id)) (with_priorities leaves seats) (Some priority) None there in
      rw (streams_set id place (Some priority) here there) (omega (arith, sum))

  -- ---- a stream leaves

  module _ (id place : ℕ) (here : seat_in seats id ≡ Some place) (seats' : List (ℕ × ℕ)) (ids' : Slab ℕ) (sorted : IsStrictlySortedBy nat_cmp (keys_of seats'))
      (left : (k : ℕ) → seat_in seats' k ≡ cond (is_at (nat_cmp id) k) None (seat_in seats k)) (freed : Updates ids ids' place None) where
    left_is : (k : ℕ) → seat_in seats' k ≡ (if k == id then None else seat_in seats k)
    left_is k = left k ∙ ap (λ (b : Bool). cond b None (seat_in seats k)) (at_key id k)

    still_seated : (k other : ℕ) → seat_in seats' k ≡ Some other → ((k == id) ≡ false) × (seat_in seats k ≡ Some other)
    still_seated k other e = elim (eqb_tells k id) [
      | inl same ↦ absurd (let gone = left_is k ∙ ap (λ (b : Bool). if b then None else seat_in seats k) same.0 in cc)
      | inr apart ↦ (apart.0, sym (left_is k ∙ ap (λ (b : Bool). if b then None else seat_in seats k) apart.0) ∙ e)
    ]

    pub seated_left : AreSeated seats' ids' (set leaves place None)
    seated_left = record {
      sorted = sorted;
      held = λ k other e.
          let was = still_seated k other e in
          freed.others other (λ same. eqb-false k id was.0 (one_stream k id place (rw same at was.1) here)) ∙ ok.held k other was.1;
      taken = λ other k e. elim (cases_eq other place) [
        | inl same ↦ absurd (let gone = freed.changed in let mine = rw same at e in cc)
        | inr apart ↦
            let seat = ok.taken other k (sym (freed.others other apart) ∙ e) in
            left_is k ∙ ap (λ (b : Bool). if b then None else seat_in seats k) (ne_eqb k id (λ same. apart (one_place other place k (seat_in seats id) (rw same at seat) here))) ∙ seat
      ];
      within = λ k other e. let inside = ok.within k other (still_seated k other e).1 in rw length-set inside;
      named = λ other p e. elim (cases_eq other place) [
        | inl same ↦ absurd (let gone = get_or-set_same leaves place None None (ok.within id place here) in let mine = rw same at e in cc)
        | inr apart ↦ freed.others other apart ∙ ok.named other p (sym (get_or-set_other leaves place other None None apart) ∙ e)
      ];
    }

    pub room_left : (k : ℕ) → has_room (shown (set leaves place None) seats') k ≡ (not (k == id) && has_room (shown leaves seats) k)
    room_left k = room_is (set leaves place None) seats' k ∙ ap is_some (left_is k) ∙ (elim (eqb_tells k id) [
      | inl same ↦ rw same.0 refl
      | inr apart ↦ rw apart.0 (sym (room_is leaves seats k))
    ])

    pub waits_left : (k : ℕ) → waits (shown (set leaves place None) seats') k ≡ (if k == id then None else waits (shown leaves seats) k)
    waits_left k = waits_is (set leaves place None) seats' k ∙ ap (sits (set leaves place None)) (left_is k) ∙ (elim (eqb_tells k id) [
      | inl same ↦ rw same.0 refl
      | inr apart ↦
          let as_before = rw apart.0 at (waits_set id place None here (λ p w. absurd (cc)) k) in
          rw apart.0 (sym (waits_is (set leaves place None) seats k) ∙ as_before)
    ])

  -- ---- a stream gets room

  -- what takes memory is done first
  pub seated_ready : (ids' : Slab ℕ) (leaves' : List Leaf) → ((place : ℕ) → get ids' place ≡ get ids place) → ((place : ℕ) → leaf leaves' place ≡ leaf leaves place) → length leaves ≤ length leaves' → AreSeated seats ids' leaves'
  seated_ready ids' leaves' same_ids same more = record {
    sorted = ok.sorted;
    held = λ k place e. same_ids place ∙ ok.held k place e;
    taken = λ place k e. ok.taken place k (sym (same_ids place) ∙ e);
    within = λ k place e. let inside = ok.within k place e in omega (arith, inside, more);
    named = λ place p e. same_ids place ∙ ok.named place p (sym (same place) ∙ e);
  }

  -- at a place that is free none waits
  free_leaf : (place : ℕ) → get ids place ≡ None → (x : Leaf) → leaf leaves place ≡ x → x ≡ None
  free_leaf place free None e = refl
  free_leaf place free (Some p) e = absurd (let taken = ok.named place p e in cc)

  module _ (id place : ℕ) (fresh : seat_in seats id ≡ None) (free : get ids place ≡ None) (inside : place < length leaves) (seats' : List (ℕ × ℕ)) (ids' : Slab ℕ) (sorted : IsStrictlySortedBy nat_cmp (keys_of seats'))
      (put : (k : ℕ) → seat_in seats' k ≡ cond (is_at (nat_cmp id) k) (Some place) (seat_in seats k)) (given : Updates ids ids' place (Some id)) where
    put_is : (k : ℕ) → seat_in seats' k ≡ (if k == id then Some place else seat_in seats k)
    put_is k = put k ∙ ap (λ (b : Bool). cond b (Some place) (seat_in seats k)) (at_key id k)

    -- a place that was taken is another one
    taken_apart : (other k : ℕ) → get ids other ≡ Some k → other ≡ place → ⊥
    taken_apart other k e same = let mine = rw same at e in false≢true (ap is_some (sym free ∙ mine))

    pub seated_put : AreSeated seats' ids' leaves
    seated_put = record {
      sorted = sorted;
      held = λ k other e. elim (eqb_tells k id) [
        | inl same ↦
            let one : other ≡ place = one_place other place k (seat_in seats' k) e (put_is k ∙ ap (λ (b : Bool). if b then Some place else seat_in seats k) same.0) in
            rw (one, same.1) given.changed
        | inr apart ↦
            let was = ok.held k other (sym (put_is k ∙ ap (λ (b : Bool). if b then Some place else seat_in seats k) apart.0) ∙ e) in
            given.others other (taken_apart other k was) ∙ was
      ];
      taken = λ other k e. elim (cases_eq other place) [
        | inl same ↦
            let mine = rw same at e in
            let one : k ≡ id = one_place k id place (get ids' place) mine given.changed in
            rw (same, one) (put_is id ∙ ap (λ (b : Bool). if b then Some place else seat_in seats id) (eq-eqb id id refl))
        | inr apart ↦
            let seat = ok.taken other k (sym (given.others other apart) ∙ e) in
            put_is k ∙ ap (λ (b : Bool). if b then Some place else seat_in seats k) (ne_eqb k id (λ same. let mine = rw same at seat in false≢true (ap is_some (sym fresh ∙ mine)))) ∙ seat
      ];
      within = λ k other e. elim (eqb_tells k id) [
        | inl same ↦
            let one : other ≡ place = one_place other place k (seat_in seats' k) e (put_is k ∙ ap (λ (b : Bool). if b then Some place else seat_in seats k) same.0) in
            rw one inside
        | inr apart ↦ ok.within k other (sym (put_is k ∙ ap (λ (b : Bool). if b then Some place else seat_in seats k) apart.0) ∙ e)
      ];
      named = λ other p e. let was = ok.named other p e in given.others other (taken_apart other p.id was) ∙ was;
    }

    pub room_put : (k : ℕ) → has_room (shown leaves seats') k ≡ (k == id || has_room (shown leaves seats) k)
    room_put k = room_is leaves seats' k ∙ ap is_some (put_is k) ∙ (elim (eqb_tells k id) [
      | inl same ↦ rw same.0 refl
      | inr apart ↦ rw apart.0 (sym (room_is leaves seats k))
    ])

    pub waits_put : (k : ℕ) → waits (shown leaves seats') k ≡ waits (shown leaves seats) k
    waits_put k = waits_is leaves seats' k ∙ ap (sits leaves) (put_is k) ∙ (elim (eqb_tells k id) [
      | inl same ↦ rw (same.0, same.1) (ap priority_of (free_leaf place free (leaf leaves place) refl) ∙ sym (waits_is leaves seats id ∙ ap (sits leaves) fresh))
      | inr apart ↦ rw apart.0 (sym (waits_is leaves seats k))
    ])

  -- ---- the first

  none_of : (place : ℕ) (x : Leaf) → goes_first x None ≡ false → priority_of x ≡ None
  none_of place None e = refl
  none_of place (Some p) e = absurd (false≢true (sym e))

  none_waits : IsWinner leaves None → (k : ℕ) (seat : Option ℕ) → sits leaves seat ≡ None
  none_waits win k None = refl
  none_waits win k (Some place) = none_of place (leaf leaves place) (win.before place)

  -- a stream that waits, and its place
  behind_first : (p : PendingStream) → (k place : ℕ) (priority : ℤ) → seat_in seats k ≡ Some place → (x : Leaf) → leaf leaves place ≡ x → goes_first x (Some p) ≡ false → priority_of x ≡ Some priority → (k == p.id) ≡ false
      → goes_before p (record { priority = priority; id = k }) ≡ true
  behind_first p k place priority seat None at before e apart = absurd (cc)
  behind_first p k place priority seat (Some q) at before e apart =
      let id : q.id ≡ k = one_place q.id k place (get ids place) (ok.named place q at) (ok.held k place seat) in
      let with : q.priority ≡ priority = ap (λ (o : Option ℤ). unwrap_or o q.priority) e in
      let other : is_same q p ≡ false = and_right (int_eq q.priority p.priority) (q.id == p.id) (ap (λ (n : ℕ). n == p.id) id ∙ apart) in
      ap (goes_before p) (sym (same_parts q (record { priority = priority; id = k }) with id)) ∙ before_otherwise q p before other

  behind : (p : PendingStream) → IsWinner leaves (Some p) → (k : ℕ) (priority : ℤ) (seat : Option ℕ) → seat_in seats k ≡ seat → sits leaves seat ≡ Some priority → (k == p.id) ≡ false
      → goes_before p (record { priority = priority; id = k }) ≡ true
  behind p win k priority None at e apart = absurd (cc)
  behind p win k priority (Some place) at e apart = behind_first p k place priority at (leaf leaves place) refl (win.before place) e apart

  pub first_is : (o : Leaf) → IsWinner leaves o → MatchOption o ((k : ℕ) → waits (shown leaves seats) k ≡ None) (IsFirst (shown leaves seats))
  first_is None win = λ k. waits_is leaves seats k ∙ none_waits win k (seat_in seats k)
  first_is (Some p) win =
      let there = win.is_there p refl in
      let seat = ok.taken there.0 p.id (ok.named there.0 p there.1) in
      record {
        is_there = waits_is leaves seats p.id ∙ ap (sits leaves) seat ∙ ap priority_of there.1;
        before = λ k priority e apart. behind p win k priority (seat_in seats k) refl (sym (waits_is leaves seats k) ∙ e) apart;
      }

-- ---- a stream without a place, or with one

module _ (leaves : List Leaf) (seats : List (ℕ × ℕ)) (id : ℕ) where
  pub no_room : seat_in seats id ≡ None → has_room (shown leaves seats) id ≡ false
  no_room none = room_is leaves seats id ∙ ap is_some none

  pub waits_not : seat_in seats id ≡ None → waits (shown leaves seats) id ≡ None
  waits_not none = waits_is leaves seats id ∙ ap (sits leaves) none

  pub waits_without : seat_in seats id ≡ None → (k : ℕ) → waits (shown leaves seats) k ≡ (if k == id then None else waits (shown leaves seats) k)
  waits_without none k = elim (eqb_tells k id) [
    | inl same ↦ rw (same.0, same.1) (waits_not none)
    | inr apart ↦ rw apart.0 refl
  ]

  pub room_without : seat_in seats id ≡ None → (k : ℕ) → has_room (shown leaves seats) k ≡ (not (k == id) && has_room (shown leaves seats) k)
  room_without none k = elim (eqb_tells k id) [
    | inl same ↦ rw (same.0, same.1) (no_room none)
    | inr apart ↦ rw apart.0 refl
  ]

  pub room_with : is_some (seat_in seats id) ≡ true → (k : ℕ) → has_room (shown leaves seats) k ≡ (k == id || has_room (shown leaves seats) k)
  room_with some k = elim (eqb_tells k id) [
    | inl same ↦ rw (same.0, same.1) (room_is leaves seats id ∙ some)
    | inr apart ↦ rw apart.0 refl
  ]

pub none_there : (o : Option ℕ) → is_some o ≡ false → o ≡ None
none_there None e = refl
none_there (Some n) e = absurd (false≢true (sym e))

-- if a look-up finds no place, the stream has no room
pub unroomed : (leaves : List Leaf) (seats : List (ℕ × ℕ)) (id : ℕ) (v : PlainPending) (found : Bool) → shown leaves seats ≡ v → found ≡ is_some (seat_in seats id) → found ≡ false → has_room v id ≡ true → ⊥
unroomed leaves seats id v found v_is found_is none = both_ways (has_room v id) (ap (λ (p : PlainPending). has_room p id) (sym v_is) ∙ room_is leaves seats id ∙ sym found_is ∙ none)
