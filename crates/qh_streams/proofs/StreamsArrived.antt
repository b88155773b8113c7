-- Streams of the peer's arrive, and their arrival is taken back.
use Rattle.std.proofs.Common.{◌≡◌, ℕ, ◌+◌, ◌-◌, ◌*◌, ◌/◌, ◌%◌, ◌<◌, ◌≤◌, ◌==◌, ◌^◌, nat_lt, nat_le, min, Bool, MatchBool, true, false, ◌&&◌, ◌||◌, not, List, [], ◌∷◌, ◌++◌, length, take, length-append, Option, Some, None, is_some, ◌⊎◌, if◌then◌else◌, refl, sym, ap, ◌∙◌, arith, inl, inr}
use Rattle.std.proofs.Math.Seq.{take-append_seam}
use Rattle.std.proofs.lemmas.Bool.{false≢true, cases_Bool, and_parts, eqb-true, leb-true, ltb-false, ltb-true, lt-ltb, le-ltb, le-leb, eqb-false, eq-eqb}
use Rattle.qh_spec.specs.declared.sides.Side.{Side}
use Rattle.qh_spec.specs.declared.sides.Side.TheVariants.{Client, Server}
use Rattle.qh_spec.specs.declared.sides.Dir.{Dir}
use Rattle.qh_spec.specs.declared.sides.Dir.TheVariants.{Bi, Uni}
use Rattle.qh_spec.specs.StreamId.{side_bit, dir_bit}
use Rattle.qh_streams.specs.declared.frames.StreamEvent.{StreamEvent}
use Rattle.qh_halves.specs.declared.counts.StreamCounts.{StreamCounts}
use Rattle.qh_halves.specs.Counts.{AreCounts, is_own, is_bi, index_of, is_in_range}
use Rattle.qh_half.specs.Send.{new_send}
use Rattle.qh_halves.specs.SendHalves.{PlainSendHalves, send_at, unacked, AreAdded}
use Rattle.qh_half.specs.Recv.{new_recv}
use Rattle.qh_halves.specs.RecvHalves.{PlainRecvHalves, recv_at, AreRecvAdded}
use Rattle.qh_streams.specs.Streams.{PlainStreams, AreStreams, AreOpened, IsWithinCount, counts_of, was_opened, is_two_way, first_limit, new_send_half, new_recv_half, arrives_with}
use Rattle.qh_streams.proofs.StreamsOpened.{opened_is, set_here, one_are, other_are}
use Rattle.qh_streams.proofs.StreamsKept.{both_set}

pub two_way_is : (dir : Dir) (id : ℕ) → dir_bit dir ≡ id / 2 % 2 → is_bi id ≡ is_two_way dir
two_way_is Bi id e = grind (arith, e)
two_way_is Uni id e = grind (arith, e)

pub dir_is : (dir : Dir) (b : Bool) → b ≡ is_two_way dir → dir ≡ (if b then Bi else Uni)
dir_is Bi b e = rw e refl
dir_is Uni b e = rw e refl

-- the ids of a range, by their indices
pub range_is : (id arrived first count k : ℕ) → arrived ≤ index_of id → count + arrived ≡ index_of id + 1 → first + 4 * count ≡ id + 4
    → is_in_range first count k ≡ (k % 4 == id % 4 && (nat_le arrived (index_of k) && nat_le (index_of k) (index_of id)))
range_is id arrived first count k below count_is first_is = grind (arith, below, count_is, first_is)

own_case : (b : Bool) (P Q : Type 0) → MatchBool b P Q → b ≡ true → P
own_case true P Q m e = m
own_case false P Q m e = absurd (false≢true e)

other_case : (b : Bool) (P Q : Type 0) → MatchBool b P Q → b ≡ false → Q
other_case false P Q m e = m
other_case true P Q m e = absurd (false≢true (sym e))

-- a stream within the count that isn't there yet is the peer's
pub not_own : (s : PlainStreams) (id : ℕ) → IsWithinCount s id → was_opened s id ≡ false → is_own s.side id ≡ false
not_own s id within closed = elim (cases_Bool (is_own s.side id)) [
  | inl own ↦ absurd (false≢true (sym closed ∙ own_case (is_own s.side id) (was_opened s id ≡ true) (index_of id < (counts_of s (is_bi id)).announced.value) within own))
  | inr other ↦ other
]

-- the streams of a range are to arrive: this one, and those before it that didn't come yet
pub record AreDue (s : PlainStreams) (id : ℕ) (two_way : Bool) (first count : ℕ) : Type 0 where
  pub own : is_own s.side id ≡ false
  pub bi : is_bi id ≡ two_way
  pub below : (counts_of s two_way).arrived ≤ index_of id
  pub announced : index_of id < (counts_of s two_way).announced.value
  pub range : (k : ℕ) → is_in_range first count k ≡ arrives_with s id k

pub are_due : (s : PlainStreams) (id : ℕ) (dir : Dir) (index arrived : ℕ) → IsWithinCount s id → was_opened s id ≡ false → dir_bit dir ≡ id / 2 % 2 → arrived ≡ (counts_of s (is_two_way dir)).arrived → index ≡ index_of id
    → AreDue s id (is_two_way dir) (id - 4 * (index + 1 - arrived - 1)) (index + 1 - arrived)
are_due s id dir index arrived within closed dir_is arrived_is index_is =
    let own = not_own s id within closed in
    let bi = two_way_is dir id dir_is in
    let below = ltb-false (index_of id) (counts_of s (is_two_way dir)).arrived (sym (opened_is s id false (is_two_way dir) own bi) ∙ closed) in
    let known : arrived ≡ (counts_of s (is_bi id)).arrived = arrived_is ∙ ap (λ (b : Bool). (counts_of s b).arrived) (sym bi) in
    record {
      own = own;
      bi = bi;
      below = below;
      announced = rw bi at (other_case (is_own s.side id) (was_opened s id ≡ true) (index_of id < (counts_of s (is_bi id)).announced.value) within own);
      range = λ k. range_is id arrived (id - 4 * (index + 1 - arrived - 1)) (index + 1 - arrived) k (omega (arith, below, arrived_is)) (omega (arith, below, arrived_is, index_is)) (omega (arith, below, arrived_is, index_is))
          ∙ ap (λ (n : ℕ). k % 4 == id % 4 && (nat_le n (index_of k) && nat_le (index_of k) (index_of id))) known;
    }

pub record Arriving (s : PlainStreams) (id : ℕ) (two_way : Bool) (k : ℕ) : Type 0 where
  pub own : is_own s.side k ≡ false
  pub bi : is_bi k ≡ two_way
  pub from : (counts_of s two_way).arrived ≤ index_of k
  pub to : index_of k ≤ index_of id

module _ (s : PlainStreams) (id : ℕ) (two_way : Bool) (own_is : is_own s.side id ≡ false) (bi_is : is_bi id ≡ two_way) where
  pub arriving : (k : ℕ) → arrives_with s id k ≡ true → Arriving s id two_way k
  arriving k there =
      let parts = and_parts (k % 4 == id % 4) (nat_le (counts_of s (is_bi id)).arrived (index_of k) && nat_le (index_of k) (index_of id)) there in
      let bounds = and_parts (nat_le (counts_of s (is_bi id)).arrived (index_of k)) (nat_le (index_of k) (index_of id)) parts.1 in
      let same = eqb-true (k % 4) (id % 4) parts.0 in
      let side : k % 2 ≡ id % 2 = omega (arith, same) in
      let dir : k / 2 % 2 ≡ id / 2 % 2 = omega (arith, same) in
      let from = leb-true (counts_of s (is_bi id)).arrived (index_of k) bounds.0 in record {
        own = ap (λ (n : ℕ). side_bit s.side == n) side ∙ own_is;
        bi = ap (λ (n : ℕ). n == 0) dir ∙ bi_is;
        from = rw bi_is at from;
        to = leb-true (index_of k) (index_of id) bounds.1;
      }

  -- none of those that arrive was there
  pub closed_before : (k : ℕ) → arrives_with s id k ≡ true → was_opened s k ≡ false
  closed_before k there =
      let a = arriving k there in
      opened_is s k false two_way a.own a.bi ∙ le-ltb (index_of k) (counts_of s two_way).arrived a.from

  -- none of a range that is to arrive was there
  pub closed_range : (first count : ℕ) → ((k : ℕ) → is_in_range first count k ≡ arrives_with s id k) → (k : ℕ) → is_in_range first count k ≡ true → was_opened s k ≡ false
  closed_range first count range k inside = closed_before k (sym (range k) ∙ inside)

  -- each of them is there now
  pub open_after : (t : PlainStreams) → t.side ≡ s.side → (counts_of t two_way).arrived ≡ index_of id + 1 → (k : ℕ) → arrives_with s id k ≡ true → was_opened t k ≡ true
  open_after t side_is arrived_is k there =
      let a = arriving k there in
      opened_is t k false two_way (rw side_is a.own) a.bi ∙ lt-ltb (index_of k) (counts_of t two_way).arrived (omega (arith, a.to, arrived_is))

  module _ (limit : ℕ) (limit_is : limit ≡ first_limit s id) where
    same_limit : (k : ℕ) → Arriving s id two_way k → first_limit s k ≡ limit
    same_limit k a =
        ap (λ (b : Bool). if b then (if is_own s.side k then s.peer.bidi_remote else s.peer.bidi_local) else s.peer.uni) (a.bi ∙ sym bi_is)
        ∙ ap (λ (b : Bool). if is_bi id then (if b then s.peer.bidi_remote else s.peer.bidi_local) else s.peer.uni) (a.own ∙ sym own_is) ∙ sym limit_is

    sends : (k : ℕ) → Arriving s id two_way k → new_send_half s k ≡ (if two_way then Some (new_send limit) else None)
    sends k a =
        ap (λ (b : Bool). if b || is_bi k then Some (new_send (first_limit s k)) else None) a.own
        ∙ ap (λ (b : Bool). if b then Some (new_send (first_limit s k)) else None) a.bi ∙ ap (λ (n : ℕ). if two_way then Some (new_send n) else None) (same_limit k a)

    reads : (k : ℕ) → Arriving s id two_way k → new_recv_half s k ≡ Some (new_recv (min s.recv.stream_window (2 ^ 62 - 1)))
    reads k a = ap (λ (b : Bool). if not b || is_bi k then Some (new_recv (min s.recv.stream_window (2 ^ 62 - 1))) else None) a.own

    at_range : {X : Type 0} (a b : Bool) (x y z : X) → a ≡ b → (b ≡ true → y ≡ x) → (if a then x else z) ≡ (if b then y else z)
    at_range a true x y z same is = rw (same, is refl) refl
    at_range a false x y z same is = rw same refl

    send_in : (t : PlainStreams) (first count k : ℕ) (b : Bool) → (b ≡ true → AreAdded s.send t.send first count limit) → (b ≡ false → t.send ≡ s.send) → (is_in_range first count k ≡ true → send_at s.send k ≡ None)
        → send_at t.send k ≡ (if is_in_range first count k then (if b then Some (new_send limit) else None) else send_at s.send k)
    send_in t first count k true added same fresh = (added refl).halves_are k
    send_in t first count k false added same fresh = ap (λ (h : PlainSendHalves). send_at h k) (same refl) ∙ elim (cases_Bool (is_in_range first count k)) [
      | inl inside ↦ fresh inside ∙ rw inside refl
      | inr outside ↦ rw outside refl
    ]

    send_rest_in : (t : PlainStreams) (first count : ℕ) (b : Bool) → (b ≡ true → AreAdded s.send t.send first count limit) → (b ≡ false → t.send ≡ s.send) → t.send ≡ record s.send { halves = t.send.halves }
    send_rest_in t first count true added same = (added refl).rest_is
    send_rest_in t first count false added same = same refl ∙ ap (λ (h : PlainSendHalves). record s.send { halves = h.halves }) (sym (same refl))

    held_in : (t : PlainStreams) (first count : ℕ) (b : Bool) → (b ≡ true → AreAdded s.send t.send first count limit) → (b ≡ false → t.send ≡ s.send) → unacked t.send.halves ≡ unacked s.send.halves
    held_in t first count true added same = (added refl).held_is
    held_in t first count false added same = ap (λ (h : PlainSendHalves). unacked h.halves) (same refl)

    pub are_arrived : (t : PlainStreams) (first count : ℕ) → ((k : ℕ) → is_in_range first count k ≡ arrives_with s id k) → (two_way ≡ true → AreAdded s.send t.send first count limit) → (two_way ≡ false → t.send ≡ s.send)
        → AreRecvAdded s.recv t.recv first count → ((k : ℕ) → is_in_range first count k ≡ true → send_at s.send k ≡ None) → AreOpened s t (arrives_with s id)
    are_arrived t first count range added same read fresh = record {
      send_is = λ k. send_in t first count k two_way added same (fresh k)
          ∙ at_range (is_in_range first count k) (arrives_with s id k) (if two_way then Some (new_send limit) else None) (new_send_half s k) (send_at s.send k) (range k) (λ there. sends k (arriving k there));
      recv_is = λ k. read.halves_are k
          ∙ at_range (is_in_range first count k) (arrives_with s id k) (Some (new_recv (min s.recv.stream_window (2 ^ 62 - 1)))) (new_recv_half s k) (recv_at s.recv k) (range k) (λ there. reads k (arriving k there));
      send_rest = send_rest_in t first count two_way added same;
      recv_rest = read.rest_is;
      held_is = held_in t first count two_way added same;
    }

-- ---- an arrival is taken back

parity : (n k j : ℕ) → n ≤ 1 → (n == k % 2) ≡ false → (n == j % 2) ≡ false → k % 2 ≡ j % 2
parity n k j small a b = omega (arith, small, eqb-false n (k % 2) a, eqb-false n (j % 2) b)

small_bit : (side : Side) → side_bit side ≤ 1
small_bit Client = omega arith
small_bit Server = omega arith

same_bit : (k j : ℕ) → (k / 2 % 2 == 0) ≡ (j / 2 % 2 == 0) → k / 2 % 2 ≡ j / 2 % 2
same_bit k j e = grind (arith, e)

-- streams of the peer's in one direction
same_class : (side : Side) (k id : ℕ) → is_own side k ≡ false → is_own side id ≡ false → is_bi k ≡ is_bi id → k % 4 ≡ id % 4
same_class side k id a b c =
    let low = parity (side_bit side) k id (small_bit side) a b in
    let high = same_bit k id c in
    omega (arith, low, high)

other_direction : (s : PlainStreams) (c : StreamCounts) (a b : Bool) → (a ≡ b) ⊎ (counts_of (both_set s b c) a ≡ counts_of s a)
other_direction s c true true = inl refl
other_direction s c false false = inl refl
other_direction s c true false = inr refl
other_direction s c false true = inr refl

opened_same : (s : PlainStreams) (c : StreamCounts) (a b : Bool) → c.opened ≡ (counts_of s b).opened → (counts_of (both_set s b c) a).opened ≡ (counts_of s a).opened
opened_same s c true true e = e
opened_same s c false false e = e
opened_same s c true false e = refl
opened_same s c false true e = refl

-- the streams that had come before are still there
pub still_there : (s : PlainStreams) (two_way : Bool) (c : StreamCounts) (id : ℕ) → is_own s.side id ≡ false → is_bi id ≡ two_way → c.opened ≡ (counts_of s two_way).opened → index_of id + 1 ≡ (counts_of s two_way).arrived
    → (k : ℕ) → (k % 4 == id % 4 && (nat_le c.arrived (index_of k) && nat_le (index_of k) (index_of id))) ≡ false → was_opened s k ≡ true → was_opened (both_set s two_way c) k ≡ true
still_there s two_way c id own bi opened last k outside was = elim (cases_Bool (is_own s.side k)) [
  | inl here ↦ opened_is (both_set s two_way c) k true (is_bi k) here refl ∙ ap (nat_lt (index_of k)) (opened_same s c (is_bi k) two_way opened) ∙ sym (opened_is s k true (is_bi k) here refl) ∙ was
  | inr there ↦ elim (other_direction s c (is_bi k) two_way) [
    | inl same ↦
        let below = ltb-true (index_of k) (counts_of s two_way).arrived (sym (opened_is s k false two_way there same) ∙ was) in
        let class = eq-eqb (k % 4) (id % 4) (same_class s.side k id there own (same ∙ sym bi)) in
        let before : nat_lt (index_of k) c.arrived ≡ true = elim (cases_Bool (nat_lt (index_of k) c.arrived)) [
          | inl less ↦ less
          | inr more ↦
              let from = le-leb c.arrived (index_of k) (ltb-false (index_of k) c.arrived more) in
              let to = le-leb (index_of k) (index_of id) (omega (arith, below, last)) in
              absurd (false≢true (sym outside ∙ rw (class, from, to) refl))
        ] in
        opened_is (both_set s two_way c) k false two_way there same ∙ ap (λ (x : StreamCounts). nat_lt (index_of k) x.arrived) (set_here s two_way c) ∙ before
    | inr apart ↦ opened_is (both_set s two_way c) k false (is_bi k) there refl ∙ ap (λ (x : StreamCounts). nat_lt (index_of k) x.arrived) apart ∙ sym (opened_is s k false (is_bi k) there refl) ∙ was
  ]
]

-- what is left was there, outside of the range
pub was_left : {X : Type 0} (inside : Bool) (new old : Option X) → new ≡ (if inside then None else old) → is_some new ≡ true → (inside ≡ false) × (is_some old ≡ true)
was_left true new old is there = absurd (false≢true (rw is at there))
was_left false new old is there = (refl, rw is at there)

-- the value at a key, once what was put in is taken out
pub left_again : {X : Type 0} (a b : Bool) (before put now after : Option X) → a ≡ b → now ≡ (if b then put else before) → after ≡ (if a then None else now) → (b ≡ true → before ≡ None) → after ≡ before
left_again a true before put now after same was is none = is ∙ ap (λ (x : Bool). if x then None else now) same ∙ sym (none refl)
left_again a false before put now after same was is none = is ∙ ap (λ (x : Bool). if x then None else now) same ∙ was

-- new halves, an event and counts of one direction are undone
pub undone : (s : PlainStreams) (send : PlainSendHalves) (recv : PlainRecvHalves) (events : List StreamEvent) (b : Bool) (c : StreamCounts)
    → both_set (record (both_set (record s { send = send; recv = recv; events = events }) b c) { send = s.send; recv = s.recv; events = s.events }) b (counts_of s b) ≡ s
undone s send recv events true c = refl
undone s send recv events false c = refl

pub departed : {s : PlainStreams} {capacity after : ℕ} (two_way : Bool) (c : StreamCounts) (id first count : ℕ) (send : PlainSendHalves) (recv : PlainRecvHalves) (events : List StreamEvent) → AreStreams s capacity
    → is_own s.side id ≡ false → is_bi id ≡ two_way → c.opened ≡ (counts_of s two_way).opened → index_of id + 1 ≡ (counts_of s two_way).arrived → AreCounts c
    → ((k : ℕ) → is_in_range first count k ≡ (k % 4 == id % 4 && (nat_le c.arrived (index_of k) && nat_le (index_of k) (index_of id))))
    → ((k : ℕ) → send_at send k ≡ (if is_in_range first count k then None else send_at s.send k)) → ((k : ℕ) → recv_at recv k ≡ (if is_in_range first count k then None else recv_at s.recv k))
    → length events + length send.halves ≤ after → AreStreams (both_set (record s { send = send; recv = recv; events = events }) two_way c) after
departed {s = s} two_way c id first count send recv events ok own bi opened last are range send_left recv_left room = record {
  send_live = λ k there.
      let left = was_left (is_in_range first count k) (send_at send k) (send_at s.send k) (send_left k) there in
      let live = ok.send_live k left.1 in
      (still_there s two_way c id own bi opened last k (sym (range k) ∙ left.0) live.0, live.1);
  recv_live = λ k there.
      let left = was_left (is_in_range first count k) (recv_at recv k) (recv_at s.recv k) (recv_left k) there in
      let live = ok.recv_live k left.1 in
      (still_there s two_way c id own bi opened last k (sym (range k) ∙ left.0) live.0, live.1);
  bi = one_are two_way ok.bi are;
  uni = other_are two_way ok.uni are;
  room = room;
}

-- the last of a list is taken out
pub popped : {X : Type 0} (n : ℕ) (old new front : List X) (x : X) → new ≡ take (n - 1) old → n ≡ length old → old ≡ front ++ x ∷ [] → new ≡ front
popped n old new front x is all ends =
    let longer = ap length ends ∙ length-append front (x ∷ []) in
    is ∙ ap (λ (l : List _). take (n - 1) l) ends ∙ ap (λ (m : ℕ). take m (front ++ x ∷ [])) (omega (arith, all, longer)) ∙ take-append_seam front (x ∷ [])
