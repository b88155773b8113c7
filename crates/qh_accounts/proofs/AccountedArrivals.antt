-- Streams that are opened or arrive.
use Rattle.std.proofs.Common.{◌≡◌, ◌⊎◌, ℕ, ◌+◌, ◌-◌, ◌/◌, ◌%◌, ◌<◌, ◌≤◌, ◌^◌, ◌==◌, min, nat_lt, nat_le, Bool, true, false, ◌&&◌, ◌||◌, not, Option, Some, None, is_some, if◌then◌else◌, refl, sym, ap, ap₂, ◌∙◌, arith, inl, inr}
use Rattle.std.proofs.lemmas.Bool.{false≢true, cases_Bool, eqb-true, le-leb, ltb-true, ltb-false}
use Rattle.qh_spec.specs.StreamId.{stream_id}
use Rattle.qh_spec.specs.declared.sides.Dir.{Dir}
use Rattle.qh_spec.specs.declared.sides.Dir.TheVariants.{Bi, Uni}
use Rattle.qh_spec.specs.declared.sides.Side.{Side}
use Rattle.qh_spec.specs.declared.sides.Side.TheVariants.{Client, Server}
use Rattle.qh_half.specs.Recv.{PlainRecv, is_done as is_recv_done, new_recv}
use Rattle.qh_half.specs.Send.{PlainSend, is_done as is_send_done, new_send}
use Rattle.qh_halves.specs.declared.counts.StreamCounts.{StreamCounts}
use Rattle.qh_halves.specs.Counts.{has_recv, has_send, index_of, is_bi, is_own}
use Rattle.qh_halves.specs.RecvHalves.{recv_at}
use Rattle.qh_halves.specs.SendHalves.{send_at}
use Rattle.qh_streams.specs.Streams.{PlainStreams, AreOpened, HasArrived, IsOpened, Refusal, arrives_with, counts_of, first_limit, id_refusal, is_live, is_two_way, was_opened, with_opened}
use Rattle.qh_streams.proofs.StreamsOpened.{opened_is, own_id}
use Rattle.qh_accounts.specs.Accounts.{AreAccounted, count_first, is_live_at}
use Rattle.qh_accounts.proofs.AccountedLike.{AreRecvUndone, AreSendUndone, alike_accounted, near_same, side_with}
use Rattle.qh_accounts.proofs.AccountedSteps.{none_is_some, some_is}
use Rattle.qh_accounts.proofs.CountFirst.{more_pass, same_count}
use Rattle.qh_accounts.proofs.PeerIds.{peer_id, peer_bi, peer_index, peer_parts, not_own, own_apart, counts_now}

-- ---- new halves

new_recv_undone : (b : Bool) (limit : ℕ) (r : PlainRecv) → (if b then Some (new_recv limit) else None) ≡ Some r → is_recv_done r ≡ false
new_recv_undone true limit r e = rw (← some_is (new_recv limit) r e) refl
new_recv_undone false limit r e = none_is_some _ r e

new_send_undone : (b : Bool) (limit : ℕ) (h : PlainSend) → (if b then Some (new_send limit) else None) ≡ Some h → is_send_done h ≡ false
new_send_undone true limit h e = rw (← some_is (new_send limit) h e) refl
new_send_undone false limit h e = none_is_some _ h e

opened_recv_undone : (old new : PlainStreams) (are_new : ℕ → Bool) → AreOpened old new are_new → AreRecvUndone old.recv → AreRecvUndone new.recv
opened_recv_undone old new are_new p undone k r is = elim (cases_Bool (are_new k)) [
  | inl among ↦ new_recv_undone (has_recv old.side k) (min old.recv.stream_window (2 ^ 62 - 1)) r (sym (rw among at (p.recv_is k)) ∙ is)
  | inr apart ↦ undone k r (sym (rw apart at (p.recv_is k)) ∙ is)
]

opened_send_undone : (old new : PlainStreams) (are_new : ℕ → Bool) → AreOpened old new are_new → AreSendUndone old.send → AreSendUndone new.send
opened_send_undone old new are_new p undone k h is = elim (cases_Bool (are_new k)) [
  | inl among ↦ new_send_undone (has_send old.side k) (first_limit old k) h (sym (rw among at (p.send_is k)) ∙ is)
  | inr apart ↦ undone k h (sym (rw apart at (p.send_is k)) ∙ is)
]

live_apart : (old new : PlainStreams) (are_new : ℕ → Bool) → AreOpened old new are_new → (k : ℕ) → are_new k ≡ false → is_live new k ≡ is_live old k
live_apart old new are_new p k apart =
    let send = rw apart at (p.send_is k) in
    let recv = rw apart at (p.recv_is k) in
    ap₂ (λ (a b : Bool). a || b) (ap is_some send) (ap is_some recv)

or_true : (a b : Bool) → b ≡ true → (a || b) ≡ true
or_true true b e = refl
or_true false b e = e

live_among : (old new : PlainStreams) (are_new : ℕ → Bool) → AreOpened old new are_new → (k : ℕ) → is_own old.side k ≡ false → are_new k ≡ true → is_live new k ≡ true
live_among old new are_new p k other among =
    let recv = rw (among, other) at (p.recv_is k) in
    or_true (is_some (send_at new.send k)) (is_some (recv_at new.recv k)) (ap is_some recv)

-- ---- this end opens a stream

pub opened_accounted : (old new : PlainStreams) (dir : Dir) (id : ℕ) → id ≡ stream_id old.side dir (counts_of old (is_two_way dir)).opened → IsOpened old new id → AreAccounted old → AreAccounted new
opened_accounted old new dir id id_is p a = alike_accounted old new (record {
  side_is = ap (λ (s : PlainStreams). s.side) p.rest_is ∙ side_with _ (is_bi id) _;
  live = λ d n. live_apart old new (λ k. k == id) p.halves (peer_id old.side d n) (own_apart old.side d n id own);
  undone_send = opened_send_undone old new (λ k. k == id) p.halves a.undone_send;
  undone_recv = opened_recv_undone old new (λ k. k == id) p.halves a.undone_recv;
  counts = λ d. rw (ap (λ (s : PlainStreams). counts_of s (is_two_way d)) p.rest_is) (elim (counts_now (record old { send = new.send; recv = new.recv }) (is_bi id) (is_two_way d) (with_opened (counts_of old (is_bi id)))) [
    | inl here ↦ rw (here.1, here.0) (record { closed = refl; arrived = refl; more = omega arith; bound = λ b. b })
    | inr away ↦ rw away.1 (near_same _)
  ]);
}) a where
  own : is_own old.side id ≡ true
  own = rw id_is (own_id old.side dir (counts_of old (is_two_way dir)).opened)

-- ---- streams of the peer's arrive

-- the stream of a frame that isn't refused
pub record IsWithin (s : PlainStreams) (id : ℕ) : Type 0 where
  pub own : is_own s.side id ≡ true → was_opened s id ≡ true
  pub other : is_own s.side id ≡ false → index_of id < (counts_of s (is_bi id)).announced.value

pub not_refused : (s : PlainStreams) (id : ℕ) (has_half : Bool) (frame : ℕ) → id_refusal s id has_half frame ≡ None → IsWithin s id
not_refused s id has_half frame e = record {
  own = λ own. by_own has_half (is_own s.side id) (was_opened s id) _ _ e own;
  other = λ other. ltb-true (index_of id) (counts_of s (is_bi id)).announced.value (by_other has_half (is_own s.side id) (nat_lt (index_of id) (counts_of s (is_bi id)).announced.value) _ _ _ e other);
} where
  refused_not : (X : Type 0) (r : Refusal) → Some r ≡ None → X
  refused_not X r e = absurd (cc)

  by_own : (has own was : Bool) (state : Refusal) (o : Option Refusal) → (if not has then Some state else if own then (if was then None else Some state) else o) ≡ None → own ≡ true → was ≡ true
  by_own false own was state o e is = refused_not _ state e
  by_own true false was state o e is = absurd (false≢true is)
  by_own true true true state o e is = refl
  by_own true true false state o e is = refused_not _ state e

  by_other : (has own low : Bool) (state limit : Refusal) (o : Option Refusal) → (if not has then Some state else if own then o else (if low then None else Some limit)) ≡ None → own ≡ false → low ≡ true
  by_other false own low state limit o e is = refused_not _ state e
  by_other true true low state limit o e is = absurd (false≢true (sym is))
  by_other true false true state limit o e is = refl
  by_other true false false state limit o e is = refused_not _ limit e

same_class : (side : Side) (dir : Dir) (n m : ℕ) → (peer_id side dir n % 4 == peer_id side dir m % 4) ≡ true
same_class Client Bi n m = grind arith
same_class Client Uni n m = grind arith
same_class Server Bi n m = grind arith
same_class Server Uni n m = grind arith

other_class : (side : Side) (dir : Dir) (n id : ℕ) → (is_two_way dir ≡ is_bi id → ⊥) → (peer_id side dir n % 4 == id % 4) ≡ false
other_class side dir n id apart = elim (cases_Bool (peer_id side dir n % 4 == id % 4)) [
  | inl same ↦ absurd (apart (sym (peer_bi side dir n) ∙ same_direction (peer_id side dir n) id (eqb-true (peer_id side dir n % 4) (id % 4) same)))
  | inr other ↦ other
] where
  same_direction : (k id : ℕ) → k % 4 ≡ id % 4 → is_bi k ≡ is_bi id
  same_direction k id same = let high : k / 2 % 2 ≡ id / 2 % 2 = omega (arith, same) in ap (λ (n : ℕ). n == 0) high

early : (n from to : ℕ) → n < from → (nat_le from n && nat_le n to) ≡ false
early n from to low = grind (arith, low)

between : (n from to : ℕ) → from ≤ n → n < to + 1 → (nat_le from n && nat_le n to) ≡ true
between n from to a b = rw (le-leb from n a, le-leb n to (omega (arith, b))) refl

late : (n from to : ℕ) → to < n → (nat_le from n && nat_le n to) ≡ false
late n from to high = grind (arith, high)

module _ (old mid : PlainStreams) (id : ℕ) (p : HasArrived old mid id) (fresh : was_opened old id ≡ false) (other : is_own old.side id ≡ false) (low : index_of id < (counts_of old (is_bi id)).announced.value) (a : AreAccounted old) where
  abbrev before : StreamCounts
  before = counts_of old (is_bi id)

  abbrev after : StreamCounts
  after = record before { arrived = index_of id + 1 }

  halves : AreOpened old mid (arrives_with old id)
  halves = p.halves fresh

  below : before.arrived ≤ index_of id
  below = ltb-false (index_of id) before.arrived (sym (opened_is old id false (is_bi id) other refl) ∙ fresh)

  side_mid : mid.side ≡ old.side
  side_mid = ap (λ (s : PlainStreams). s.side) (p.rest_is fresh) ∙ side_with _ (is_bi id) _

  counts_mid : (dir : Dir) → ((is_two_way dir ≡ is_bi id) × (counts_of mid (is_two_way dir) ≡ after)) ⊎ ((is_two_way dir ≡ is_bi id → ⊥) × (counts_of mid (is_two_way dir) ≡ counts_of old (is_two_way dir)))
  counts_mid dir = rw (ap (λ (s : PlainStreams). counts_of s (is_two_way dir)) (p.rest_is fresh)) (counts_now (record old { send = mid.send; recv = mid.recv; events = _ }) (is_bi id) (is_two_way dir) after)

  -- which streams of its direction arrive
  arrives : (dir : Dir) (n : ℕ) → is_two_way dir ≡ is_bi id → arrives_with old id (peer_id old.side dir n) ≡ (nat_le before.arrived n && nat_le n (index_of id))
  arrives dir n same =
      let is = peer_parts old.side dir id other same in
      let class : (peer_id old.side dir n % 4 == id % 4) ≡ true = ap (λ (x : ℕ). peer_id old.side dir n % 4 == x % 4) is ∙ same_class old.side dir n (index_of id) in
      rw (class, peer_index old.side dir n) refl

  live_before : (dir : Dir) (n : ℕ) → is_two_way dir ≡ is_bi id → n < before.arrived → is_live_at mid dir n ≡ is_live_at old dir n
  live_before dir n same low = rw side_mid (live_apart old mid (arrives_with old id) halves (peer_id old.side dir n) (arrives dir n same ∙ early n before.arrived (index_of id) low))

  live_between : (dir : Dir) (n : ℕ) → is_two_way dir ≡ is_bi id → before.arrived ≤ n → n < index_of id + 1 → is_live_at mid dir n ≡ true
  live_between dir n same from to = rw side_mid (live_among old mid (arrives_with old id) halves (peer_id old.side dir n) (not_own old.side dir n) (arrives dir n same ∙ between n before.arrived (index_of id) from to))

  live_behind : (dir : Dir) (n : ℕ) → is_two_way dir ≡ is_bi id → index_of id < n → is_live_at mid dir n ≡ is_live_at old dir n
  live_behind dir n same high = rw side_mid (live_apart old mid (arrives_with old id) halves (peer_id old.side dir n) (arrives dir n same ∙ late n before.arrived (index_of id) high))

  live_other : (dir : Dir) (n : ℕ) → (is_two_way dir ≡ is_bi id → ⊥) → is_live_at mid dir n ≡ is_live_at old dir n
  live_other dir n apart =
      let class = other_class old.side dir n id apart in
      rw side_mid (live_apart old mid (arrives_with old id) halves (peer_id old.side dir n) (rw class refl))

  here_counted : (dir : Dir) → is_two_way dir ≡ is_bi id → after.closed + count_first (is_live_at mid dir) after.arrived ≡ after.arrived
  here_counted dir same =
      let more = more_pass (is_live_at old dir) (is_live_at mid dir) before.arrived (index_of id + 1) (omega (arith, below)) (λ k low. live_before dir k same low) (λ k from to. live_between dir k same from to) in
      total before.closed (count_first (is_live_at old dir) before.arrived) before.arrived (count_first (is_live_at mid dir) (index_of id + 1)) (index_of id + 1) (rw same at (a.counted dir)) more where
        total : (closed live arrived live_now now : ℕ) → closed + live ≡ arrived → live_now + arrived ≡ live + now → closed + live_now ≡ now
        total closed live arrived live_now now x y = omega (arith, x, y)

  here_arrived : (dir : Dir) (n : ℕ) → is_two_way dir ≡ is_bi id → is_live_at mid dir n ≡ true → n < index_of id + 1
  here_arrived dir n same live = elim (cases_Bool (nat_lt n (index_of id + 1))) [
    | inl inside ↦ ltb-true n (index_of id + 1) inside
    | inr past ↦
        let high : index_of id < n = let h = ltb-false n (index_of id + 1) past in omega (arith, h) in
        let was : n < before.arrived = rw same at (a.arrived dir n (sym (live_behind dir n same high) ∙ live)) in
        omega (arith, was, below)
  ]

  pub came : AreAccounted mid
  came = record {
    counted = λ dir. elim (counts_mid dir) [
      | inl here ↦ let is = here.1 in rw is (here_counted dir here.0)
      | inr away ↦
          let is = away.1 in
          let live = same_count (is_live_at old dir) (is_live_at mid dir) (counts_of old (is_two_way dir)).arrived (λ k low. live_other dir k away.0) in
          rw (is, live) (a.counted dir)
    ];
    within = λ dir. elim (counts_mid dir) [
      | inl here ↦ let is = here.1 in rw is (omega (arith, low))
      | inr away ↦ let is = away.1 in rw is (a.within dir)
    ];
    bound = λ dir. elim (counts_mid dir) [
      | inl here ↦ let is = here.1 in rw is (rw here.0 at (a.bound dir))
      | inr away ↦ let is = away.1 in rw is (a.bound dir)
    ];
    arrived = λ dir n live. elim (counts_mid dir) [
      | inl here ↦ let is = here.1 in rw is (here_arrived dir n here.0 live)
      | inr away ↦ let is = away.1 in rw is (a.arrived dir n (sym (live_other dir n away.0) ∙ live))
    ];
    undone_send = opened_send_undone old mid (arrives_with old id) halves a.undone_send;
    undone_recv = opened_recv_undone old mid (arrives_with old id) halves a.undone_recv;
  }

pub arrived_accounted : (old mid : PlainStreams) (id : ℕ) → HasArrived old mid id → IsWithin old id → AreAccounted old → AreAccounted mid
arrived_accounted old mid id p within a = elim (cases_Bool (was_opened old id)) [
  | inl known ↦ rw (p.known known) a
  | inr fresh ↦
      let other : is_own old.side id ≡ false = elim (cases_Bool (is_own old.side id)) [
        | inl own ↦ absurd (false≢true (sym fresh ∙ within.own own))
        | inr other ↦ other
      ] in
      came old mid id p fresh other (within.other other) a
]
