-- What a step of one receiving half leaves of all that the receiving halves keep.
use Rattle.std.proofs.Common.{◌≡◌, ◌⊎◌, ℕ, ℤ, ◌+◌, ◌<◌, ◌≤◌, ◌^◌, ◌==◌, Bool, true, false, ◌&&◌, ◌||◌, not, List, Option, Some, None, MatchOption, is_some, Result, Err, pos, if◌then◌else◌, refl, sym, ap, ap₂, ◌∙◌, arith, inl, inr}
use Rattle.std.specs.Ordering.{nat_cmp}
use Rattle.std.specs.BTreeMap.{is_at}
use Rattle.std.specs.Map.{set_value}
use Rattle.std.proofs.Math.Bool.{or-false, or-true}
use Rattle.std.proofs.lemmas.Bool.{cases_Bool, eq-eqb, eqb-true, false≢true}
use Rattle.std.proofs.lemmas.Bool.Decides.{eqb_tells}
use Rattle.qh_halves.specs.declared.limit.AnnouncedLimit.{AnnouncedLimit}
use Rattle.qh_halves.specs.Pending.{PlainPending, has_room, waits}
use Rattle.qh_buffers.specs.declared.assembler.Chunk.{Chunk}
use Rattle.qh_half.specs.declared.fault.ReadFault.{ReadFault}
use Rattle.qh_half.specs.declared.fault.ReadFault.TheVariants.{Memory}
use Rattle.qh_half.specs.Recv.IsReadAnswer.{memory as no_memory}
use Rattle.qh_half.specs.Recv.{PlainRecv, IsReadAnswer, WantsMemory, with_order, is_done, is_frame_due, counted}
use Rattle.qh_halves.specs.RecvHalves.{PlainRecvHalves, recv_half_in, recv_at, unless_done, credited_after, AreRecvHalves, Begins, Reads, IsBegunRead, is_wanting, IsRecvStep, IsSettled, IsHalfWritten}
use Rattle.qh_halves.proofs.MapWritten.{value_written}

-- ---- the queue

-- a half that isn't done stands where it stood, and one that is has no room
room_cases : (done here : Bool) (next : PlainRecv) (room : Bool) (o : Option PlainRecv) → room ≡ is_some o → (here ≡ true → is_some o ≡ true)
    → (not (done && here) && room) ≡ is_some (if here then (if done then None else Some next) else o)
room_cases true true next room o e there = refl
room_cases true false next room o e there = e
room_cases false true next room o e there = e ∙ there refl
room_cases false false next room o e there = e

waits_now : (is_due : Bool) (was : Option ℤ) → (is_due ≡ true) ⊎ (was ≡ Some (pos 0)) → (if is_due then Some (pos 0) else was) ≡ Some (pos 0)
waits_now true was w = refl
waits_now false was w = elim w [
  | inl now ↦ absurd (false≢true now)
  | inr before ↦ before
]

pick : (d here : Bool) (next : PlainRecv) (w o : Option PlainRecv) → w ≡ (if here then Some next else o) → (if d && here then None else w) ≡ (if here then (if d then None else Some next) else o)
pick true true next w o e = refl
pick true false next w o e = e
pick false true next w o e = e
pick false false next w o e = e

left_none : (d : Bool) (next r : PlainRecv) → (if d then None else Some next) ≡ Some r → (r ≡ next) × (d ≡ false)
left_none true next r e = absurd (cc)
left_none false next r e = (cc, refl)

-- the stream has room in the queue
pub room_for : (es : List (ℕ × PlainRecv)) (due : PlainPending) (received window : ℕ) (announced : AnnouncedLimit) (ok : AreRecvHalves es due received window announced) (id : ℕ) (h : PlainRecv) → recv_half_in es id ≡ Some h → has_room due id ≡ true
room_for es due received window announced ok id h was = ok.room id ∙ ap (λ (o : Option PlainRecv). is_some o) was

-- the half of each stream, once one was written and left if it is done
pub halves_settled : (es written after : List (ℕ × PlainRecv)) (due queue : PlainPending) (id : ℕ) (h next : PlainRecv) (is_due done : Bool)
    → recv_half_in es id ≡ Some h → written ≡ set_value (is_at (nat_cmp id)) es next → done ≡ is_done next → IsSettled written after due queue id done is_due
    → (k : ℕ) → recv_half_in after k ≡ (if k == id then unless_done next else recv_half_in es k)
halves_settled es written after due queue id h next is_due done was written_is done_is settled k =
    settled.halves_are k
    ∙ pick done (k == id) next (recv_half_in written k) (recv_half_in es k) (ap (λ (l : List (ℕ × PlainRecv)). recv_half_in l k) written_is ∙ value_written es id h next was k)
    ∙ ap (λ (d : Bool). if k == id then (if d then None else Some next) else recv_half_in es k) done_is

module _ (es : List (ℕ × PlainRecv)) (due : PlainPending) (received window : ℕ) (announced : AnnouncedLimit) (ok : AreRecvHalves es due received window announced) (id : ℕ) (h next : PlainRecv) (was : recv_half_in es id ≡ Some h)
    (written after : List (ℕ × PlainRecv)) (queue : PlainPending) (is_due done : Bool) (written_is : written ≡ set_value (is_at (nat_cmp id)) es next) (done_is : done ≡ is_done next) (settled : IsSettled written after due queue id done is_due) where
  half_after : (k : ℕ) → recv_half_in after k ≡ (if k == id then unless_done next else recv_half_in es k)
  half_after = halves_settled es written after due queue id h next is_due done was written_is done_is settled

  half_here : recv_half_in after id ≡ unless_done next
  half_here = half_after id ∙ ap (λ (b : Bool). if b then unless_done next else recv_half_in es id) (eq-eqb id id refl)

  half_apart : (k : ℕ) → (k == id) ≡ false → recv_half_in after k ≡ recv_half_in es k
  half_apart k apart = half_after k ∙ ap (λ (b : Bool). if b then unless_done next else recv_half_in es k) apart

  half_cases : (k : ℕ) (r : PlainRecv) → recv_half_in after k ≡ Some r → ((k ≡ id) × ((r ≡ next) × (is_done next ≡ false))) ⊎ (((k == id) ≡ false) × (recv_half_in es k ≡ Some r))
  half_cases k r e = elim (eqb_tells k id) [
    | inl same ↦ inl (same.1, left_none (is_done next) next r (sym half_here ∙ sym (ap (recv_half_in after) same.1) ∙ e))
    | inr apart ↦ inr (apart.0, sym (half_apart k apart.0) ∙ e)
  ]

  -- after a step of one half the halves are kept as before, if a frame that is due now was due or is marked
  pub are_settled : (received' : ℕ) → (is_done next ≡ false → is_frame_due next window ≡ true → (is_due ≡ true) ⊎ (is_frame_due h window ≡ true)) → received' ≤ announced.value
      → AreRecvHalves after queue received' window announced
  are_settled received' waiting within = record {
    listed = λ k r e frame. elim (half_cases k r e) [
      | inl here ↦
          let frame_here = rw here.1.0 at frame in
          let marked : (is_due ≡ true) ⊎ (waits due id ≡ Some (pos 0)) = elim (waiting here.1.1 frame_here) [
            | inl now ↦ inl now
            | inr before ↦ inr (ok.listed id h was before)
          ] in
          ap (waits queue) here.0 ∙ settled.here (done_is ∙ here.1.1) ∙ waits_now is_due (waits due id) marked
      | inr apart ↦ settled.others k apart.0 ∙ ok.listed k r apart.1 frame
    ];
    room = λ k.
        settled.room_is k
        ∙ room_cases done (k == id) next (has_room due k) (recv_half_in es k) (ok.room k) (λ here. ap (λ (o : Option PlainRecv). is_some o) (ap (recv_half_in es) (eqb-true k id here) ∙ was))
        ∙ ap (λ (o : Option PlainRecv). is_some o) (sym (half_after k ∙ ap (λ (d : Bool). if k == id then (if d then None else Some next) else recv_half_in es k) (sym done_is)));
    undone = λ k r e. elim (half_cases k r e) [
      | inl here ↦ rw here.1.0 here.1.1
      | inr apart ↦ ok.undone k r apart.1
    ];
    received_below = within;
    bound = ok.bound;
  }

-- the step of the half as a step of all
pub stepped : (P : PlainRecv → PlainRecv → Type 0) (old : PlainRecvHalves) (id fresh : ℕ) (h next : PlainRecv) (written after : List (ℕ × PlainRecv)) (due queue : PlainPending) (is_due done : Bool) (received credited : ℕ)
    → recv_at old id ≡ Some h → P h next → written ≡ set_value (is_at (nat_cmp id)) old.halves next → done ≡ is_done next → IsSettled written after due queue id done is_due
    → received ≡ old.received + fresh → credited ≡ credited_after old.credited h next
    → IsRecvStep P old (record old { halves = after; received = received; credited = credited }) id fresh
stepped P old id fresh h next written after due queue is_due done received credited was step written_is done_is settled received_is credited_is = record {
  half = h;
  next = next;
  was = was;
  step = step;
  halves_are = halves_settled old.halves written after due queue id h next is_due done was written_is done_is settled;
  rest_is = ap₂ (λ (m n : ℕ). record old { halves = after; received = m; credited = n }) received_is credited_is;
}

-- ---- a step of a half that isn't done, with the queue as it was

alone : (halves : List (ℕ × PlainRecv)) (due : PlainPending) (id : ℕ) → IsSettled halves halves due due id false false
alone halves due id = record { halves_are = λ k. refl; others = λ k apart. refl; here = λ _. refl; room_is = λ k. refl }

pub are_kept : (es new : List (ℕ × PlainRecv)) (due : PlainPending) (received window : ℕ) (announced : AnnouncedLimit) (id : ℕ) (h next : PlainRecv) → AreRecvHalves es due received window announced
    → recv_half_in es id ≡ Some h → new ≡ set_value (is_at (nat_cmp id)) es next → is_done next ≡ is_done h → (is_frame_due next window ≡ true → is_frame_due h window ≡ true)
    → AreRecvHalves new due received window announced
are_kept es new due received window announced id h next ok was written same waits =
    are_settled es due received window announced ok id h next was new new due false false written (sym (ok.undone id h was) ∙ sym same) (alone new due id) received (λ _ frame. inr (waits frame)) ok.received_below

pub stepped_alone : (P : PlainRecv → PlainRecv → Type 0) (old : PlainRecvHalves) (new : List (ℕ × PlainRecv)) (due : PlainPending) (id : ℕ) → old.credited < 2 ^ 64
    → (w : IsHalfWritten P old.halves new id) → is_done w.next ≡ false → counted w.next ≡ counted w.half → IsRecvStep P old (record old { halves = new }) id 0
stepped_alone P old new due id within w undone counted_is =
    stepped P old id 0 w.half w.next new new due due false false old.received old.credited w.was w.step w.written (sym undone) (alone new due id) (omega arith) (omega (arith, counted_is))

-- ---- a read that begins and gives

as_begun : (here : Bool) (at was o : Option PlainRecv) → o ≡ (if here then at else was) → (m : Option PlainRecv) (mid : Option PlainRecv) → mid ≡ (if here then m else was) → o ≡ (if here then at else mid)
as_begun true at was o e m mid f = e
as_begun false at was o e m mid f = e ∙ sym f

pub begun_read : (old : PlainRecvHalves) (id max : ℕ) (ordered : Bool) (answer : Result (Option Chunk) ReadFault) (h next : PlainRecv) (written after : List (ℕ × PlainRecv)) (due queue : PlainPending) (is_due done : Bool) (credited : ℕ)
    → old.credited < 2 ^ 64 → is_done h ≡ false → recv_at old id ≡ Some h → IsReadAnswer (with_order h ordered) next max answer
    → written ≡ set_value (is_at (nat_cmp id)) old.halves next → done ≡ is_done next → IsSettled written after due queue id done is_due → credited ≡ credited_after old.credited h next
    → IsBegunRead max ordered answer old (record old { halves = after; credited = credited }) id
begun_read old id max ordered answer h next written after due queue is_due done credited within undone was step written_is done_is settled credited_is =
    let marked = with_order h ordered in
    let halves = set_value (is_at (nat_cmp id)) old.halves marked in
    let begun = stepped_alone (Begins ordered) old halves due id within (record { half = h; next = marked; was = was; step = refl; written = refl }) undone refl in
    let none : old.received ≡ old.received + 0 = omega arith in
    record {
      mid = record old { halves = halves };
      begun = begun;
      reads = record {
        half = marked;
        next = next;
        was = value_written old.halves id h marked was id ∙ ap (λ (b : Bool). if b then Some marked else recv_at old id) (eq-eqb id id refl);
        step = step;
        halves_are = λ k. as_begun (k == id) (unless_done next) (recv_at old k) (recv_half_in after k) (halves_settled old.halves written after due queue id h next is_due done was written_is done_is settled k)
            (Some marked) (recv_half_in halves k) (value_written old.halves id h marked was k);
        rest_is = ap₂ (λ (m n : ℕ). record old { halves = after; received = m; credited = n }) none credited_is;
      };
    }

-- a step that leaves the half as it was
still : (P : PlainRecv → PlainRecv → Type 0) (old : PlainRecvHalves) (id : ℕ) (h : PlainRecv) → old.credited < 2 ^ 64 → is_done h ≡ false → recv_at old id ≡ Some h → P h h → IsRecvStep P old old id 0
still P old id h within undone was step =
    let received : old.received ≡ old.received + 0 = omega arith in
    let credited : old.credited ≡ credited_after old.credited h h = omega (arith, within) in
    record {
      half = h;
      next = h;
      was = was;
      step = step;
      halves_are = λ k. elim (eqb_tells k id) [
        | inl same ↦ rw (same.0, undone) (ap (recv_at old) same.1 ∙ was)
        | inr apart ↦ rw apart.0 refl
      ];
      rest_is = ap₂ (λ (m n : ℕ). record old { received = m; credited = n }) received credited;
    }

-- a read that memory lacks for
pub unbegun_read : (old new : PlainRecvHalves) (id max : ℕ) (ordered : Bool) (answer : Result (Option Chunk) ReadFault) (h : PlainRecv) → old.credited < 2 ^ 64 → is_done h ≡ false → recv_at old id ≡ Some h
    → WantsMemory h max → new ≡ old → answer ≡ Err Memory → IsBegunRead max (ordered || is_wanting answer) answer old new id
unbegun_read old new id max ordered answer h within undone was wants same wanting =
    let unmarked : h ≡ with_order h true = ap (λ (b : Bool). record h { is_unordered = b }) (sym (or-false h.is_unordered)) in
    let read : IsBegunRead max true (Err Memory) old old id = record {
      mid = old;
      begun = still (Begins true) old id h within undone was unmarked;
      reads = still (Reads max (Err Memory)) old id h within undone was (no_memory wants refl);
    } in
    rw (wanting, same, or-true ordered) read

-- one that it doesn't lack for begins as it was asked to
pub order_is : (ordered : Bool) (answer : Result (Option Chunk) ReadFault) → is_wanting answer ≡ false → (ordered || is_wanting answer) ≡ ordered
order_is ordered answer some = ap (λ (b : Bool). ordered || b) some ∙ or-false ordered

-- if none waits in the queue no frame is due
pub of_none : {X : Type 0} (o : Option X) (P : Type 0) (Q : X → Type 0) → is_some o ≡ false → MatchOption o P Q → P
of_none None P Q e p = p
of_none (Some x) P Q e q = absurd (cc)

pub none_is_due : (es : List (ℕ × PlainRecv)) (due : PlainPending) (received window : ℕ) (announced : AnnouncedLimit) → AreRecvHalves es due received window announced
    → ((k : ℕ) → waits due k ≡ None) → (k : ℕ) (r : PlainRecv) → recv_half_in es k ≡ Some r → is_frame_due r window ≡ false
none_is_due es due received window announced ok empty k r e = elim (cases_Bool (is_frame_due r window)) [
  | inl frame ↦ let listed = ok.listed k r e frame in let none = empty k in absurd (cc)
  | inr none ↦ none
]
