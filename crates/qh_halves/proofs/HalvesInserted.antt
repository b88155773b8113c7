-- A half is put in for a stream that has none: the entries by a stream's id then, and once it is taken back.
use Rattle.std.proofs.Common.{◌≡◌, ◌⊎◌, ℕ, ℤ, ◌+◌, ◌<◌, ◌==◌, Bool, true, false, not, ◌&&◌, ◌||◌, cond, List, [], ◌∷◌, Option, Some, None, is_some, unwrap_or, if◌then◌else◌, nat_cmp, Ordering, Less, Greater, refl, sym, ap, ◌∙◌, arith, inl, inr}
use Rattle.std.specs.BTreeMap.{is_at, insert_entry}
use Rattle.std.specs.Map.{lookup, remove_entry}
use Rattle.std.specs.Ordering.{match_ordering}
use Rattle.std.proofs.lemmas.Bool.{cases_order, eq-eqb, eqb-true, ne_eqb, false≢true, le-ltb}
use Rattle.std.proofs.lemmas.Bool.Decides.{eqb_tells}
use Rattle.qh_buffers.specs.declared.send_buffer.Mark.TheVariants.{Acked}
use Rattle.qh_buffers.specs.SendBuffer.{waits as byte_waits}
use Rattle.qh_halves.specs.Pending.{PlainPending, has_room, waits}
use Rattle.qh_half.specs.Send.{PlainSend, held, Waits, new_send}
use Rattle.qh_halves.specs.SendHalves.{IsHalf, held_of, half_in, half_priority, unacked, AreSendHalves}

pub at_key : (id k : ℕ) → is_at (nat_cmp id) k ≡ (id == k)
at_key id k = grind arith

less_is : (m n : ℕ) → m < n → nat_cmp m n ≡ Less
less_is m n h = grind (arith, h)

greater_is : (m n : ℕ) → n < m → nat_cmp m n ≡ Greater
greater_is m n h = grind (arith, h)

turned : {X : Type 0} (a b : Bool) (x y z : X) → (a ≡ true → b ≡ true → ⊥) → cond a x (cond b y z) ≡ cond b y (cond a x z)
turned true true x y z apart = absurd (apart refl refl)
turned true false x y z apart = refl
turned false b x y z apart = refl

module _ {X : Type 0} where
  abbrev value_in : List (ℕ × X) → (id : ℕ) → Option X
  value_in es id = lookup (is_at (nat_cmp id)) es

  at_first : (e : ℕ × X) (es : List (ℕ × X)) (id : ℕ) → value_in (e ∷ es) id ≡ (if id == e.0 then Some e.1 else value_in es id)
  at_first e es id = ap (λ (b : Bool). if b then Some e.1 else value_in es id) (at_key id e.0)

  behind : (e : ℕ × X) (es : List (ℕ × X)) (id : ℕ) → (id ≡ e.0 → ⊥) → value_in (e ∷ es) id ≡ value_in es id
  behind e es id apart = at_first e es id ∙ ap (λ (b : Bool). if b then Some e.1 else value_in es id) (ne_eqb id e.0 apart)

  -- where a new entry goes: in front of the first, or behind it
  data Goes (id : ℕ) (v : X) (e : ℕ × X) (es : List (ℕ × X)) : Type 0 where
    front : id < e.0 → insert_entry nat_cmp (e ∷ es) id v ≡ (id, v) ∷ e ∷ es → Goes id v e es
    later : e.0 < id → insert_entry nat_cmp (e ∷ es) id v ≡ e ∷ insert_entry nat_cmp es id v → value_in es id ≡ None → Goes id v e es

  goes : (id : ℕ) (v : X) (e : ℕ × X) (es : List (ℕ × X)) → value_in (e ∷ es) id ≡ None → Goes id v e es
  goes id v e es none =
      let to : Ordering → List (ℕ × X) = λ o. match_ordering o ((id, v) ∷ e ∷ es) ((e.0, v) ∷ es) (e ∷ insert_entry nat_cmp es id v) in
      elim (cases_order id e.0) [
        | inl same ↦
            let some = at_first e es id ∙ ap (λ (b : Bool). if b then Some e.1 else value_in es id) (eq-eqb id e.0 same) in
            absurd (cc)
        | inr apart ↦ elim apart [
          | inl below ↦ front below (ap to (less_is id e.0 below))
          | inr above ↦ later above (ap to (greater_is id e.0 above)) (sym (behind e es id (λ same. omega (arith, same, above))) ∙ none)
        ]
      ]

  -- the value of each key
  pub value_inserted : (es : List (ℕ × X)) (id : ℕ) (v : X) (k : ℕ) → value_in es id ≡ None → value_in (insert_entry nat_cmp es id v) k ≡ (if k == id then Some v else value_in es k)
  value_inserted [] id v k none = at_first (id, v) [] k
  value_inserted (e ∷ es) id v k none =
      let at : List (ℕ × X) → Option X = λ l. value_in l k in
      elim (goes id v e es none) [
        | front below is ↦ ap at is ∙ at_first (id, v) (e ∷ es) k
        | later above is rest ↦
            let others = value_in es k in
            ap at is ∙ at_first e (insert_entry nat_cmp es id v) k
            ∙ ap (λ (o : Option X). if k == e.0 then Some e.1 else o) (value_inserted es id v k rest)
            ∙ turned (k == e.0) (k == id) (Some e.1) (Some v) others (λ a b. omega (arith, above, eqb-true k e.0 a, eqb-true k id b))
            ∙ ap (λ (o : Option X). if k == id then Some v else o) (sym (at_first e es k))
      ]

  -- without it the entries are those before
  pub inserted_removed : (es : List (ℕ × X)) (id : ℕ) (v : X) → value_in es id ≡ None → remove_entry (is_at (nat_cmp id)) (insert_entry nat_cmp es id v) ≡ es
  inserted_removed [] id v none = ap (λ (b : Bool). cond b [] ((id, v) ∷ [])) (at_key id id ∙ eq-eqb id id refl)
  inserted_removed (e ∷ es) id v none =
      let left : List (ℕ × X) → List (ℕ × X) = λ l. remove_entry (is_at (nat_cmp id)) l in
      elim (goes id v e es none) [
        | front below is ↦ ap left is ∙ ap (λ (b : Bool). cond b (e ∷ es) ((id, v) ∷ left (e ∷ es))) (at_key id id ∙ eq-eqb id id refl)
        | later above is rest ↦
            let more = insert_entry nat_cmp es id v in
            ap left is ∙ ap (λ (b : Bool). cond b more (e ∷ left more)) (at_key id e.0 ∙ ne_eqb id e.0 (λ same. omega (arith, same, above)))
            ∙ ap (λ (l : List (ℕ × X)). e ∷ l) (inserted_removed es id v rest)
      ]

pub unacked_inserted : (es : List (ℕ × PlainSend)) (id : ℕ) (h : PlainSend) → half_in es id ≡ None → unacked (insert_entry nat_cmp es id h) ≡ unacked es + held h
unacked_inserted [] id h none = omega arith
unacked_inserted (e ∷ es) id h none = elim (goes id h e es none) [
  | front below is ↦ rw is (omega arith)
  | later above is rest ↦ rw is (omega (arith, unacked_inserted es id h rest))
]

-- a stream that has a half has room
pub room_put : {X : Type 0} (here room : Bool) (x : X) (o : Option X) → room ≡ is_some o → (here || room) ≡ is_some (if here then Some x else o)
room_put true room x o e = refl
room_put false room x o e = e

-- room that is taken and left again
pub room_again : (here room again : Bool) → again ≡ (here || room) → (here ≡ true → room ≡ false) → (not here && again) ≡ room
room_again true room again e fresh = sym (fresh refl)
room_again false room again e fresh = e

-- nothing waits in a new half
new_waits_not : (limit : ℕ) → Waits (new_send limit) → ⊥
new_waits_not limit (inl pending) = false≢true (pending.1 (λ k. ap (λ (b : Bool). byte_waits (if b then Some Acked else None) b) (le-ltb k 0 (omega arith))))
new_waits_not limit (inr reset) = false≢true reset

module _ (es : List (ℕ × PlainSend)) (pending : PlainPending) (max_data data_sent count : ℕ) (ok : AreSendHalves es pending max_data data_sent count) (id limit : ℕ) (none : half_in es id ≡ None) where
  abbrev entries : List (ℕ × PlainSend)
  entries = insert_entry nat_cmp es id (new_send limit)

  new_or_old : (k : ℕ) (h : PlainSend) → half_in entries k ≡ Some h → (h ≡ new_send limit) ⊎ (half_in es k ≡ Some h)
  new_or_old k h e = elim (eqb_tells k id) [
    | inl same ↦
        let here = value_inserted es id (new_send limit) k none ∙ ap (λ (b : Bool). if b then Some (new_send limit) else half_in es k) same.0 in
        inl (ap (λ (o : Option PlainSend). unwrap_or o h) (sym e ∙ here))
    | inr apart ↦ inr (sym (ap (λ (b : Bool). if b then Some (new_send limit) else half_in es k) apart.0) ∙ sym (value_inserted es id (new_send limit) k none) ∙ e)
  ]

  -- the halves with a new one, which has room in the queue
  pub put_in : (new : List (ℕ × PlainSend)) (queue : PlainPending) → new ≡ entries → ((k : ℕ) → waits queue k ≡ waits pending k) → ((k : ℕ) → has_room queue k ≡ (k == id || has_room pending k))
      → AreSendHalves new queue max_data data_sent count
  put_in new queue new_is same room = record {
    live = λ k n there. rw new_is (elim (eqb_tells k id) [
      | inl other ↦ absurd (let is = ok.live k n (sym (same k) ∙ there) in let missing = ap half_priority (ap (half_in es) other.1 ∙ none) in cc)
      | inr apart ↦ ap half_priority (value_inserted es id (new_send limit) k none ∙ ap (λ (b : Bool). if b then Some (new_send limit) else half_in es k) apart.0) ∙ ok.live k n (sym (same k) ∙ there)
    ]);
    listed = λ k h e waiting. elim (new_or_old k h (rw new_is at e)) [
      | inl is ↦ absurd (new_waits_not limit (rw is at waiting))
      | inr old ↦ same k ∙ ok.listed k h old waiting
    ];
    room = λ k. room k ∙ room_put (k == id) (has_room pending k) (new_send limit) (half_in es k) (ok.room k) ∙ ap (λ (o : Option PlainSend). is_some o) (sym (ap (λ (l : List (ℕ × PlainSend)). half_in l k) new_is ∙ value_inserted es id (new_send limit) k none));
    counted = rw new_is (omega (arith, ok.counted, unacked_inserted es id (new_send limit) none));
    undone = λ k h e. elim (new_or_old k h (rw new_is at e)) [
      | inl is ↦ rw is refl
      | inr old ↦ ok.undone k h old
    ];
    credit = ok.credit;
  }

  -- the stream doesn't wait before it has a half
  unwaited : (o : Option ℤ) → waits pending id ≡ o → o ≡ None
  unwaited None e = refl
  unwaited (Some n) e = absurd (let live = ok.live id n e in let missing = ap half_priority none in cc)

  -- the halves as before, if the stream left the queue again
  pub put_back : (new : List (ℕ × PlainSend)) (queue after : PlainPending) → new ≡ es → ((k : ℕ) → waits queue k ≡ waits pending k) → ((k : ℕ) → has_room queue k ≡ (k == id || has_room pending k))
      → ((k : ℕ) → waits after k ≡ (if k == id then None else waits queue k)) → ((k : ℕ) → has_room after k ≡ (not (k == id) && has_room queue k)) → AreSendHalves new after max_data data_sent count
  put_back new queue after new_is same room left room_left =
      let as_before : (k : ℕ) → waits after k ≡ waits pending k = λ k. left k ∙ (elim (eqb_tells k id) [
        | inl here ↦ rw (here.0, here.1) (sym (unwaited (waits pending id) refl))
        | inr apart ↦ rw apart.0 (same k)
      ]) in
      record {
        live = λ k n there. rw new_is (ok.live k n (sym (as_before k) ∙ there));
        listed = λ k h e waiting. as_before k ∙ ok.listed k h (rw new_is at e) waiting;
        room = λ k. room_left k ∙ room_again (k == id) (has_room pending k) (has_room queue k) (room k) (λ here. ap (has_room pending) (eqb-true k id here) ∙ ok.room id ∙ ap (λ (o : Option PlainSend). is_some o) none) ∙ ok.room k ∙ ap (λ (l : List (ℕ × PlainSend)). is_some (half_in l k)) (sym new_is);
        counted = rw new_is ok.counted;
        undone = λ k h e. ok.undone k h (rw new_is at e);
        credit = ok.credit;
      }

-- what is told of it
pub is_put_in : (es : List (ℕ × PlainSend)) (max_data data_sent send_window id limit : ℕ) → half_in es id ≡ None → (new : List (ℕ × PlainSend)) → new ≡ insert_entry nat_cmp es id (new_send limit)
    → IsHalf (record { halves = es; max_data = max_data; data_sent = data_sent; send_window = send_window }) (record { halves = new; max_data = max_data; data_sent = data_sent; send_window = send_window }) id (Some (new_send limit)) 0
is_put_in es max_data data_sent send_window id limit none new new_is = record {
  halves_are = λ k. ap (λ (l : List (ℕ × PlainSend)). half_in l k) new_is ∙ value_inserted es id (new_send limit) k none;
  rest_is = let none : data_sent + 0 ≡ data_sent = omega arith in rw none refl;
  held_is = ap (λ (o : Option PlainSend). unacked new + held_of o) none ∙ (let sum = ap unacked new_is ∙ unacked_inserted es id (new_send limit) none in omega (arith, sum));
}
