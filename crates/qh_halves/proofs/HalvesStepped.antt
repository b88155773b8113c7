-- What a step of one sending half leaves of all that the sending halves keep.
use Rattle.std.proofs.Common.{◌≡◌, ◌⊎◌, ℕ, ℤ, ◌+◌, ◌≤◌, ◌==◌, Bool, true, false, ◌&&◌, not, List, [], ◌∷◌, length, Option, Some, None, is_some, unwrap_or, if◌then◌else◌, refl, sym, ap, ◌∙◌, arith, inl, inr}
use Rattle.std.specs.Option.{IsSome}
use Rattle.std.specs.Ordering.{nat_cmp, eq_by_cmp}
use Rattle.std.specs.BTreeMap.{is_at}
use Rattle.std.specs.Map.{lookup, set_value, remove_entry, keys_of, values_of}
use Rattle.std.specs.List.{sum_by}
use Rattle.std.specs.List.Sorted.{IsStrictlySortedBy}
use Rattle.std.proofs.lemmas.Bool.{cases_Bool, eq-eqb, eqb-true, false≢true}
use Rattle.std.proofs.lemmas.Bool.Decides.{eqb_tells}
use Rattle.std.proofs.lemmas.Cmp.{eq_by_cmp_equiv, nat_cmp_total}
use Rattle.std.proofs.lemmas.Map.{lookup-set_value, lookup-remove_entry, keys-set_value, length-set_value}
use Rattle.std.proofs.lemmas.Map.Steps.{set_value_same}
use Rattle.std.proofs.lemmas.Map.Entries.{sum_by-set_value, sum_by-remove_entry}
use Rattle.std.proofs.lemmas.Map.Keys.{IsDistinct-from_sorted}
use Rattle.std.proofs.lemmas.List.Sums.{sum_by-cons}
use Rattle.qh_halves.specs.declared.send_halves.SendHalves.TheInside.{Inside}
use Rattle.qh_halves.specs.Pending.{PlainPending, has_room, waits}
use Rattle.qh_buffers.specs.declared.send_buffer.Mark.TheVariants.{Sent, Queued, Acked}
use Rattle.qh_half.specs.declared.send.SendState.{SendState}
use Rattle.qh_half.specs.declared.send.SendState.TheVariants.{Ready, DataSent, ResetSent}
use Rattle.qh_half.specs.declared.send.Outgoing.{Outgoing}
use Rattle.qh_half.specs.Send.{PlainSend, is_done, is_done_in, is_reset, held, Waits}
use Rattle.qh_halves.specs.SendHalves.{PlainSendHalves, IsStep, IsLast, IsAbsent, half_is_span, half_in, half_priority, held_of, unacked, AreSendHalves}
use Rattle.qh_halves.proofs.HalvesWithdrawn.{room_left, unacked_removed}

at_key : (id k : ℕ) → is_at (nat_cmp id) k ≡ (k == id)
at_key id k = grind arith

same_key : (id k : ℕ) → is_at (nat_cmp id) k ≡ true → k ≡ id
same_key id k e = elim (eqb_tells k id) [
  | inl same ↦ same.1
  | inr apart ↦ absurd (false≢true (sym apart.0 ∙ sym (at_key id k) ∙ e))
]

one_key : (id x y : ℕ) → is_at (nat_cmp id) x ≡ true → is_at (nat_cmp id) y ≡ eq_by_cmp nat_cmp x y
one_key id x y e = ap (λ (n : ℕ). is_at (nat_cmp n) y) (sym (same_key id x e))

-- the half of each stream, once one was written
half_set : (es : List (ℕ × PlainSend)) (id k : ℕ) (h next : PlainSend) → half_in es id ≡ Some h
    → half_in (set_value (is_at (nat_cmp id)) es next) k ≡ (if k == id then Some next else half_in es k)
half_set es id k h next was =
    let some : IsSome (half_in es id) = rw was refl in
    lookup-set_value (eq_by_cmp_equiv nat_cmp_total) (is_at (nat_cmp id)) (one_key id) k next es some
    ∙ ap (λ (b : Bool). if b then Some next else half_in es k) (at_key id k)

unacked_sum : (es : List (ℕ × PlainSend)) → unacked es ≡ sum_by held (values_of es)
unacked_sum [] = refl
unacked_sum (e ∷ es) = ap (λ (n : ℕ). held e.1 + n) (unacked_sum es) ∙ sym (sum_by-cons held e.1 (values_of es))

pub unacked_set : (es : List (ℕ × PlainSend)) (id : ℕ) (h next : PlainSend) → half_in es id ≡ Some h
    → unacked (set_value (is_at (nat_cmp id)) es next) + held h ≡ unacked es + held next
unacked_set es id h next was =
    let sum = sum_by-set_value held (is_at (nat_cmp id)) es h next was in
    rw (unacked_sum es, unacked_sum (set_value (is_at (nat_cmp id)) es next)) sum

one_fewer : {X : Type 0} (test : ℕ → Bool) (es : List (ℕ × X)) → IsSome (lookup test es) → length (remove_entry test es) + 1 ≡ length es
one_fewer test [] there = absurd (false≢true there)
one_fewer test (e ∷ es) there = elim (cases_Bool (test e.0)) [
  | inl here ↦ rw here (omega arith)
  | inr later ↦ let rest = one_fewer test es (rw later at there) in rw later (omega (arith, rest))
]

-- the bytes that one half holds are among those of all
pub held_within : (es : List (ℕ × PlainSend)) (id : ℕ) (h : PlainSend) → half_in es id ≡ Some h → held h ≤ unacked es
held_within es id h was =
    let sum = rw was at (sum_by-remove_entry held (is_at (nat_cmp id)) es) in
    omega (arith, sum, unacked_sum es)

-- a half that is done holds no bytes
done_holds_none : (state : SendState) (n : ℕ) → is_done_in state n ≡ true → (if is_reset state then 0 else n) ≡ 0
done_holds_none Ready n e = absurd (false≢true e)
done_holds_none (DataSent Sent) n e = absurd (false≢true e)
done_holds_none (DataSent Queued) n e = absurd (false≢true e)
done_holds_none (DataSent Acked) n e = eqb-true n 0 e
done_holds_none (ResetSent code mark) n e = refl

-- The stream waits with this priority, or not; the others wait as before, and the same streams have room.
pub record IsQueueAfter (old new : PlainPending) (id : ℕ) (priority : Option ℤ) : Type 0 where
  pub here : waits new id ≡ priority
  pub others : (k : ℕ) → (k == id) ≡ false → waits new k ≡ waits old k
  pub room_is : (k : ℕ) → has_room new k ≡ has_room old k

-- a stream waits with this priority from now on, or no more
abbrev pub IsWaitSet : (old new : PlainPending) → (id : ℕ) → Option ℤ → Type 0
IsWaitSet old new id priority = (k : ℕ) → waits new k ≡ (if k == id then priority else waits old k)

abbrev pub IsRoomKept : (old new : PlainPending) → Type 0
IsRoomKept old new = (k : ℕ) → has_room new k ≡ has_room old k

set_after : (old new : PlainPending) (id : ℕ) (priority : Option ℤ) → IsWaitSet old new id priority → IsRoomKept old new → IsQueueAfter old new id priority
set_after old new id priority set room_is = record {
  here = set id ∙ ap (λ (b : Bool). if b then priority else waits old id) (eq-eqb id id refl);
  others = λ k apart. set k ∙ ap (λ (b : Bool). if b then priority else waits old k) apart;
  room_is = room_is;
}

-- if a stream has no half nothing changes
pub is_absent : (s : Inside) (id : ℕ) (new : List (ℕ × PlainSend)) → None ≡ half_in s.halves.entries id → new ≡ s.halves.entries
    → IsAbsent (record { halves = s.halves.entries; max_data = s.max_data; data_sent = s.data_sent; send_window = s.send_window })
    (record { halves = new; max_data = s.max_data; data_sent = s.data_sent; send_window = s.send_window }) id
is_absent s id new none same = rw same (record { none = sym none; same = refl })

-- a half that is left as it was changes nothing
pub same_again : (s : Inside) (id : ℕ) (h next : PlainSend) (new : List (ℕ × PlainSend)) → Some h ≡ half_in s.halves.entries id → next ≡ h
    → new ≡ set_value (is_at (nat_cmp id)) s.halves.entries next → new ≡ s.halves.entries
same_again s id h next new was same written = written ∙ ap (λ (x : PlainSend). set_value (is_at (nat_cmp id)) s.halves.entries x) same ∙ set_value_same (is_at (nat_cmp id)) s.halves.entries h (sym was)

-- a half stays, with its priority
pub record GoesOn (h next : PlainSend) : Type 0 where
  pub priority_is : next.priority ≡ h.priority
  pub undone : is_done next ≡ false

module _ (s : Inside) (ok : AreSendHalves s.halves.entries s.pending s.max_data s.data_sent s.unacked_data) (id : ℕ) (h next : PlainSend) (was : Some h ≡ half_in s.halves.entries id) where
  abbrev es : List (ℕ × PlainSend)
  es = s.halves.entries

  abbrev pending : PlainPending
  pending = s.pending

  abbrev written : List (ℕ × PlainSend)
  written = set_value (is_at (nat_cmp id)) es next

  half_here : half_in written id ≡ Some next
  half_here = half_set es id id h next (sym was) ∙ ap (λ (b : Bool). if b then Some next else half_in es id) (eq-eqb id id refl)

  half_apart : (k : ℕ) → (k == id) ≡ false → half_in written k ≡ half_in es k
  half_apart k apart = half_set es id k h next (sym was) ∙ ap (λ (b : Bool). if b then Some next else half_in es k) apart

  half_after : (k : ℕ) (g : PlainSend) → half_in written k ≡ Some g → ((k ≡ id) × (g ≡ next)) ⊎ (((k == id) ≡ false) × (half_in es k ≡ Some g))
  half_after k g e = elim (eqb_tells k id) [
    | inl same ↦ let here = half_here in let there = rw same.1 at e in inl (same.1, cc)
    | inr apart ↦ inr (apart.0, sym (half_apart k apart.0) ∙ e)
  ]

  -- the stream waits in the queue with the priority of its half
  waits_only : (priority : ℤ) → waits pending id ≡ Some priority → priority ≡ h.priority
  waits_only priority is =
      let live = ok.live id priority is in
      let here = ap half_priority (sym was) in
      cc

  -- the stream has room in the queue
  pub room_for : has_room pending id ≡ true
  room_for = ok.room id ∙ ap (λ (o : Option PlainSend). is_some o) (sym was)

  there_still : (k : ℕ) → is_some (half_in es k) ≡ is_some (half_in written k)
  there_still k = elim (eqb_tells k id) [
    | inl same ↦ rw (same.1, half_here, sym was) refl
    | inr apart ↦ ap (λ (o : Option PlainSend). is_some o) (sym (half_apart k apart.0))
  ]

  -- the half stays
  stepped : (queue : PlainPending) (priority : Option ℤ) (sent' count' : ℕ)
      → IsQueueAfter pending queue id priority → ((n : ℤ) → priority ≡ Some n → n ≡ next.priority) → (Waits next → priority ≡ Some next.priority)
      → is_done next ≡ false → count' + held h ≡ s.unacked_data + held next → sent' ≤ s.max_data
      → AreSendHalves written queue s.max_data sent' count'
  stepped queue priority sent' count' after own waiting undone counted credit = record {
    live = λ k n there. elim (eqb_tells k id) [
      | inl same ↦ ap half_priority (ap (λ (k : ℕ). half_in written k) same.1 ∙ half_here) ∙ ap (λ (n : ℤ). Some n) (sym (own n (sym after.here ∙ sym (ap (waits queue) same.1) ∙ there)))
      | inr apart ↦ ap half_priority (half_apart k apart.0) ∙ ok.live k n (sym (after.others k apart.0) ∙ there)
    ];
    listed = λ k g e w. elim (half_after k g e) [
      | inl here ↦ let here_waits = rw here.1 at w in rw (here.0, here.1) (after.here ∙ waiting here_waits)
      | inr apart ↦ after.others k apart.0 ∙ ok.listed k g apart.1 w
    ];
    room = λ k. after.room_is k ∙ ok.room k ∙ there_still k;
    counted = omega (arith, ok.counted, counted, unacked_set es id h next (sym was));
    undone = λ k g e. elim (half_after k g e) [
      | inl here ↦ rw here.1 undone
      | inr apart ↦ ok.undone k g apart.1
    ];
    credit = credit;
  }

  -- the half stays, and the stream waits in the queue from now on
  pub moved_stepped : (queue : PlainPending) (priority : ℤ) (sent' count' : ℕ)
      → IsWaitSet pending queue id (Some priority) → IsRoomKept pending queue
      → priority ≡ next.priority → is_done next ≡ false → count' + held h ≡ s.unacked_data + held next → sent' ≤ s.max_data
      → AreSendHalves written queue s.max_data sent' count'
  moved_stepped queue priority sent' count' put room_is is undone counted credit =
      stepped queue (Some priority) sent' count' (set_after pending queue id (Some priority) put room_is)
      (λ n e. ap (λ (o : Option ℤ). unwrap_or o n) (sym e) ∙ is) (λ w. ap (λ (n : ℤ). Some n) is) undone counted credit

  pub put_stepped : (queue : PlainPending) (priority : ℤ) (sent' count' : ℕ)
      → IsWaitSet pending queue id (Some priority) → IsRoomKept pending queue
      → priority ≡ next.priority → GoesOn h next → count' + held h ≡ s.unacked_data + held next → sent' ≤ s.max_data
      → AreSendHalves written queue s.max_data sent' count'
  put_stepped queue priority sent' count' put room_is is on counted credit = moved_stepped queue priority sent' count' put room_is is on.undone counted credit

  -- the half stays, and nothing waits in it
  pub taken_stepped : (queue : PlainPending)
      → IsWaitSet pending queue id None → IsRoomKept pending queue → (Waits next → ⊥) → is_done next ≡ false → held next ≡ held h
      → AreSendHalves written queue s.max_data s.data_sent s.unacked_data
  taken_stepped queue taken room_is waiting undone same =
      stepped queue None s.data_sent s.unacked_data (set_after pending queue id None taken room_is)
      (λ n e. absurd (cc)) (λ w. absurd (waiting w)) undone (omega (arith, same)) ok.credit

  -- the half stays, with its priority, and nothing waits in it that didn't
  pub kept_stepped : (count' : ℕ) → GoesOn h next → (Waits next → Waits h) → count' + held h ≡ s.unacked_data + held next
      → AreSendHalves written pending s.max_data s.data_sent count'
  kept_stepped count' on waiting counted =
      stepped pending (waits pending id) s.data_sent count' (record { here = refl; others = λ k apart. refl; room_is = λ k. refl })
      (λ n e. waits_only n e ∙ sym on.priority_is)
      (λ w. ok.listed id h (sym was) (waiting w) ∙ ap (λ (n : ℤ). Some n) (sym on.priority_is))
      on.undone counted ok.credit

  -- ---- the half that is done leaves

  half_left : (k : ℕ) → IsStrictlySortedBy nat_cmp (keys_of es) → half_in (remove_entry (is_at (nat_cmp id)) written) k ≡ (if k == id then None else half_in es k)
  half_left k sorted =
      let sorted_still : IsStrictlySortedBy nat_cmp (keys_of written) = rw (keys-set_value (is_at (nat_cmp id)) es next) sorted in
      let others : (if k == id then None else half_in written k) ≡ (if k == id then None else half_in es k) = elim (eqb_tells k id) [
        | inl same ↦ rw same.0 refl
        | inr apart ↦ rw apart.0 (half_apart k apart.0)
      ] in
      lookup-remove_entry (eq_by_cmp_equiv nat_cmp_total) (is_at (nat_cmp id)) (one_key id) k written (IsDistinct-from_sorted nat_cmp (keys_of written) sorted_still)
      ∙ ap (λ (b : Bool). if b then None else half_in written k) (at_key id k) ∙ others

  -- another stream's half is left as it was
  half_stays : (k : ℕ) (g : PlainSend) → IsStrictlySortedBy nat_cmp (keys_of es) → half_in (remove_entry (is_at (nat_cmp id)) written) k ≡ Some g → ((k == id) ≡ false) × (half_in es k ≡ Some g)
  half_stays k g sorted e = elim (eqb_tells k id) [
    | inl same ↦ let none = half_left k sorted ∙ ap (λ (b : Bool). if b then None else half_in es k) same.0 in absurd (cc)
    | inr apart ↦ (apart.0, ap (λ (b : Bool). if b then None else half_in es k) (sym apart.0) ∙ sym (half_left k sorted) ∙ e)
  ]

  -- the bytes that the halves hold, once it left
  unacked_left : is_done next ≡ true → unacked (remove_entry (is_at (nat_cmp id)) written) ≡ unacked written
  unacked_left done =
      let sum = rw half_here at (sum_by-remove_entry held (is_at (nat_cmp id)) written) in
      omega (arith, sum, unacked_sum written, unacked_sum (remove_entry (is_at (nat_cmp id)) written), done_holds_none next.state (length next.buffer.bytes) done)

  pub left_stepped : (left : List (ℕ × PlainSend)) (queue : PlainPending) (count' : ℕ)
      → IsStrictlySortedBy nat_cmp (keys_of es) → left ≡ remove_entry (is_at (nat_cmp id)) written
      → IsWaitSet pending queue id None → ((k : ℕ) → has_room queue k ≡ (not (k == id) && has_room pending k))
      → is_done next ≡ true → count' + held h ≡ s.unacked_data + held next
      → AreSendHalves left queue s.max_data s.data_sent count'
  left_stepped left queue count' sorted left_is taken room_is done counted =
      let out : (k : ℕ) → half_in left k ≡ (if k == id then None else half_in es k) = λ k. ap (λ (l : List (ℕ × PlainSend)). half_in l k) left_is ∙ half_left k sorted in
      record {
        live = λ k n there. elim (eqb_tells k id) [
          | inl same ↦ absurd (let gone = taken k ∙ ap (λ (b : Bool). if b then None else waits pending k) same.0 in cc)
          | inr apart ↦ ap half_priority (out k ∙ ap (λ (b : Bool). if b then None else half_in es k) apart.0)
              ∙ ok.live k n (sym (taken k ∙ ap (λ (b : Bool). if b then None else waits pending k) apart.0) ∙ there)
        ];
        listed = λ k g e w. let stays = half_stays k g sorted (sym (ap (λ (l : List (ℕ × PlainSend)). half_in l k) left_is) ∙ e) in
            taken k ∙ ap (λ (b : Bool). if b then None else waits pending k) stays.0 ∙ ok.listed k g stays.1 w;
        room = λ k. room_is k ∙ room_left (k == id) (has_room pending k) (half_in es k) (ok.room k) ∙ ap (λ (o : Option PlainSend). is_some o) (sym (out k));
        counted = omega (arith, ok.counted, counted, unacked_set es id h next (sym was), unacked_left done, ap unacked left_is);
        undone = λ k g e. ok.undone k g (half_stays k g sorted (sym (ap (λ (l : List (ℕ × PlainSend)). half_in l k) left_is) ∙ e)).1;
        credit = ok.credit;
      }

  -- frames that were out are out afterwards
  pub spans_stay : ((frame : Outgoing) → half_is_span (Some h) frame → half_is_span (Some next) frame) → (k : ℕ) (frame : Outgoing) → half_is_span (half_in es k) frame → half_is_span (half_in written k) frame
  spans_stay stays k frame span = elim (eqb_tells k id) [
    | inl same ↦ rw (same.1, half_here) (stays frame (rw (same.1, sym was) at span))
    | inr apart ↦ rw (half_apart k apart.0) span
  ]

  -- ---- what is told of the step

  abbrev before : PlainSendHalves
  before = record { halves = es; max_data = s.max_data; data_sent = s.data_sent; send_window = s.send_window }

  pub is_step : (P : PlainSend → PlainSend → Type 0) (new : List (ℕ × PlainSend)) (sent n : ℕ)
      → new ≡ written → sent ≡ s.data_sent + n → P h next → is_done next ≡ false → IsStep P before (record before { halves = new; data_sent = sent }) id n
  is_step P new sent n new_is sent_is step undone = record {
    half = h;
    next = next;
    was = sym was;
    step = step;
    is_on = undone;
    is = record {
      halves_are = λ k. rw new_is (half_set es id k h next (sym was));
      rest_is = rw sent_is refl;
      held_is = ap (λ (o : Option PlainSend). unacked new + held_of o) (sym was) ∙ ap (λ (l : List (ℕ × PlainSend)). unacked l + held h) new_is ∙ unacked_set es id h next (sym was);
    };
    count = rw new_is (length-set_value (is_at (nat_cmp id)) es next);
  }

  pub is_last : (P : PlainSend → PlainSend → Type 0) (new : List (ℕ × PlainSend))
      → IsStrictlySortedBy nat_cmp (keys_of es) → new ≡ remove_entry (is_at (nat_cmp id)) written → P h next → is_done next ≡ true → IsLast P before (record before { halves = new }) id
  is_last P new sorted new_is step done = record {
    half = h;
    next = next;
    was = sym was;
    step = step;
    is_done = done;
    is = record {
      halves_are = λ k. rw new_is (half_left k sorted);
      rest_is = let none : s.data_sent + 0 ≡ s.data_sent = omega arith in rw none refl;
      held_is =
          let left = unacked_removed written id next half_here in
          let sum : unacked (remove_entry (is_at (nat_cmp id)) written) + held h ≡ unacked es + 0 = omega (arith, left, unacked_set es id h next (sym was)) in
          ap (λ (o : Option PlainSend). unacked new + held_of o) (sym was) ∙ ap (λ (l : List (ℕ × PlainSend)). unacked l + held h) new_is ∙ sum;
    };
    count =
        let set = length-set_value (is_at (nat_cmp id)) es next in
        let itself : (id == id) ≡ true = eq-eqb id id refl in
        let at_id : half_in written id ≡ Some next = rw itself at (half_set es id id h next (sym was)) in
        let there : IsSome (half_in written id) = ap (λ (o : Option PlainSend). is_some o) at_id in
        rw new_is (one_fewer (is_at (nat_cmp id)) written there ∙ set);
  }
