-- What carries the account of the peer's streams on: if no stream came or closed, if one closed, and if some came.
use Rattle.std.proofs.Common.{◌≡◌, ◌⊎◌, ℕ, ◌+◌, ◌-◌, ◌<◌, ◌≤◌, ◌^◌, ◌==◌, min, Bool, true, false, ◌&&◌, not, Some, refl, sym, ap, ◌∙◌, arith, inl, inr}
use Rattle.std.proofs.lemmas.Bool.{false≢true, cases_Bool, eqb-true}
use Rattle.qh_spec.specs.declared.sides.Dir.{Dir}
use Rattle.qh_half.specs.Recv.{PlainRecv, is_done as is_recv_done}
use Rattle.qh_half.specs.Send.{PlainSend, is_done as is_send_done}
use Rattle.qh_halves.specs.declared.counts.StreamCounts.{StreamCounts}
use Rattle.qh_halves.specs.Counts.{is_own, is_bi, index_of}
use Rattle.qh_halves.specs.RecvHalves.{PlainRecvHalves, recv_at}
use Rattle.qh_halves.specs.SendHalves.{PlainSendHalves, send_at}
use Rattle.qh_streams.specs.Streams.{PlainStreams, counts_of, with_counts, counted_closed, is_two_way, is_live}
use Rattle.qh_streams.proofs.StreamsSettled.{counts_alone}
use Rattle.qh_accounts.specs.Accounts.{AreAccounted, count_first, is_live_at}
use Rattle.qh_accounts.proofs.CountFirst.{none_passes, some_passes, same_count, one_less}
use Rattle.qh_accounts.proofs.PeerIds.{peer_id, not_own, peer_parts, other_dir_apart, other_index_apart, counts_now}

-- no half that is there is done
abbrev pub AreSendUndone : PlainSendHalves → Type 0
AreSendUndone s = (id : ℕ) (h : PlainSend) → send_at s id ≡ Some h → is_send_done h ≡ false

abbrev pub AreRecvUndone : PlainRecvHalves → Type 0
AreRecvUndone s = (id : ℕ) (r : PlainRecv) → recv_at s id ≡ Some r → is_recv_done r ≡ false

-- as many arrived and closed, and the count that was announced didn't fall
pub record IsNear (c d : StreamCounts) : Type 0 where
  pub closed : d.closed ≡ c.closed
  pub arrived : d.arrived ≡ c.arrived
  pub more : c.announced.value ≤ d.announced.value
  pub bound : c.announced.value ≤ 2 ^ 60 → d.announced.value ≤ 2 ^ 60

pub near_same : (c : StreamCounts) → IsNear c c
near_same c = record { closed = refl; arrived = refl; more = omega arith; bound = λ b. b }

-- no stream of the peer's came or closed
pub record AreAlike (old new : PlainStreams) : Type 0 where
  pub side_is : new.side ≡ old.side
  pub live : (dir : Dir) (n : ℕ) → is_live new (peer_id old.side dir n) ≡ is_live old (peer_id old.side dir n)
  pub undone_send : AreSendUndone new.send
  pub undone_recv : AreRecvUndone new.recv
  pub counts : (dir : Dir) → IsNear (counts_of old (is_two_way dir)) (counts_of new (is_two_way dir))

pub alike_accounted : (old new : PlainStreams) → AreAlike old new → AreAccounted old → AreAccounted new
alike_accounted old new alike p = record {
  counted = λ dir.
      let near = alike.counts dir in
      let live = same_count (is_live_at old dir) (is_live_at new dir) (counts_of old (is_two_way dir)).arrived (λ k low. live_is dir k) in
      let was = p.counted dir in
      rw (near.closed, near.arrived, live) was;
  within = λ dir. let near = alike.counts dir in let was = p.within dir in omega (arith, near.arrived, near.more, was);
  bound = λ dir. (alike.counts dir).bound (p.bound dir);
  arrived = λ dir n live.
      let near = alike.counts dir in
      rw near.arrived (p.arrived dir n (sym (live_is dir n) ∙ live));
  undone_send = alike.undone_send;
  undone_recv = alike.undone_recv;
} where
  live_is : (dir : Dir) (n : ℕ) → is_live_at new dir n ≡ is_live_at old dir n
  live_is dir n = rw alike.side_is (alike.live dir n)

-- ---- a stream closes

-- a step of the halves of one stream: they may go, and no other's do
pub record AreStepped (old mid : PlainStreams) (id : ℕ) : Type 0 where
  pub side_is : mid.side ≡ old.side
  pub bi_is : mid.bi ≡ old.bi
  pub uni_is : mid.uni ≡ old.uni
  pub here : is_live mid id ≡ true → is_live old id ≡ true
  pub away : (k : ℕ) → (k == id) ≡ false → is_live mid k ≡ is_live old k
  pub undone_send : AreSendUndone mid.send
  pub undone_recv : AreRecvUndone mid.recv

pub side_with : (s : PlainStreams) (b : Bool) (c : StreamCounts) → (with_counts s b c).side ≡ s.side
side_with s true c = refl
side_with s false c = refl

pub counts_same : (old mid : PlainStreams) → mid.bi ≡ old.bi → mid.uni ≡ old.uni → (b : Bool) → counts_of mid b ≡ counts_of old b
counts_same old mid bi uni true = bi
counts_same old mid bi uni false = uni

-- the count of those that are closed doesn't reach its type's end
one_more : (closed live was arrived announced : ℕ) → closed + was ≡ arrived → was ≡ live + 1 → arrived ≤ announced → announced ≤ 2 ^ 60 → min (2 ^ 64 - 1) (closed + 1) + live ≡ arrived
one_more closed live was arrived announced counted less within bound = omega (arith, counted, less, within, bound)

module _ (old mid : PlainStreams) (id : ℕ) (step : AreStepped old mid id) (p : AreAccounted old) where
  counts_are : (b : Bool) → counts_of mid b ≡ counts_of old b
  counts_are = counts_same old mid step.bi_is step.uni_is

  -- the stream was of this end's, or wasn't there, or is there yet
  none_closed : (not (is_own mid.side id) && (is_live old id && not (is_live mid id))) ≡ false → AreAccounted mid
  none_closed unclosed = alike_accounted old mid (record {
    side_is = step.side_is;
    live = live_is;
    undone_send = step.undone_send;
    undone_recv = step.undone_recv;
    counts = λ dir. rw (counts_are (is_two_way dir)) (near_same _);
  }) p where
    still : (own was is : Bool) → (is ≡ true → was ≡ true) → (not own && (was && not is)) ≡ false → own ≡ false → is ≡ was
    still own true true here unclosed e = refl
    still own false true here unclosed e = sym (here refl)
    still own false false here unclosed e = refl
    still own true false here unclosed e = absurd (false≢true (sym unclosed ∙ rw e refl))

    live_is : (dir : Dir) (n : ℕ) → is_live mid (peer_id old.side dir n) ≡ is_live old (peer_id old.side dir n)
    live_is dir n = elim (cases_Bool (peer_id old.side dir n == id)) [
      | inl same ↦
          let is = eqb-true (peer_id old.side dir n) id same in
          let other : is_own mid.side id ≡ false = rw (step.side_is, ← is) (not_own old.side dir n) in
          rw is (still (is_own mid.side id) (is_live old id) (is_live mid id) step.here unclosed other)
      | inr apart ↦ step.away (peer_id old.side dir n) apart
    ]

  module _ (other : is_own old.side id ≡ false) (was : is_live old id ≡ true) (gone : is_live mid id ≡ false) where
    abbrev before : StreamCounts
    before = counts_of old (is_bi id)

    abbrev after : StreamCounts
    after = record before { closed = min (2 ^ 64 - 1) (before.closed + 1) }

    abbrev new : PlainStreams
    new = with_counts mid (is_bi id) after

    live_new : (k : ℕ) → is_live new k ≡ is_live mid k
    live_new k = let alone = counts_alone mid (is_bi id) after in rw (alone.send_is, alone.recv_is) refl

    side_new : new.side ≡ old.side
    side_new = side_with mid (is_bi id) after ∙ step.side_is

    live_away : (dir : Dir) (n : ℕ) → (peer_id old.side dir n == id) ≡ false → is_live_at new dir n ≡ is_live_at old dir n
    live_away dir n apart = rw side_new (live_new (peer_id old.side dir n) ∙ step.away (peer_id old.side dir n) apart)

    -- in the direction of the stream
    here_counted : (dir : Dir) → is_two_way dir ≡ is_bi id → (after.closed + count_first (is_live_at new dir) before.arrived ≡ before.arrived)
    here_counted dir same =
        let is = peer_parts old.side dir id other same in
        let there : is_live_at old dir (index_of id) ≡ true = ap (is_live old) (sym is) ∙ was in
        let left : is_live_at new dir (index_of id) ≡ false = rw side_new (ap (is_live new) (sym is) ∙ live_new id ∙ gone) in
        let low : index_of id < before.arrived = rw same at (p.arrived dir (index_of id) there) in
        let less = one_less (is_live_at old dir) (is_live_at new dir) before.arrived (index_of id) low there left
        (λ k apart. live_away dir k (ap (λ (x : ℕ). peer_id old.side dir k == x) is ∙ other_index_apart old.side dir k (index_of id) apart)) in
        one_more before.closed (count_first (is_live_at new dir) before.arrived) (count_first (is_live_at old dir) before.arrived) before.arrived before.announced.value
        (rw same at (p.counted dir)) less (rw same at (p.within dir)) (rw same at (p.bound dir))

    live_same : (dir : Dir) (n : ℕ) → is_live_at new dir n ≡ true → is_live_at old dir n ≡ true
    live_same dir n live = elim (cases_Bool (peer_id old.side dir n == id)) [
      | inl same ↦ ap (is_live old) (eqb-true (peer_id old.side dir n) id same) ∙ was
      | inr apart ↦ sym (live_away dir n apart) ∙ live
    ]

    counts_new : (dir : Dir) → ((is_two_way dir ≡ is_bi id) × (counts_of new (is_two_way dir) ≡ after)) ⊎ ((is_two_way dir ≡ is_bi id → ⊥) × (counts_of new (is_two_way dir) ≡ counts_of old (is_two_way dir)))
    counts_new dir = elim (counts_now mid (is_bi id) (is_two_way dir) after) [
      | inl here ↦ inl here
      | inr away ↦ inr (away.0, away.1 ∙ counts_are (is_two_way dir))
    ]

    one_closed : AreAccounted new
    one_closed = record {
      counted = λ dir. elim (counts_new dir) [
        | inl here ↦ let is = here.1 in rw is (here_counted dir here.0)
        | inr away ↦
            let is = away.1 in
            let live = same_count (is_live_at old dir) (is_live_at new dir) (counts_of old (is_two_way dir)).arrived
            (λ k low. live_away dir k (other_dir_apart old.side dir k id (λ e. away.0 (sym e)))) in
            rw (is, live) (p.counted dir)
      ];
      within = λ dir. elim (counts_new dir) [
        | inl here ↦ let is = here.1 in rw is (rw here.0 at (p.within dir))
        | inr away ↦ let is = away.1 in rw is (p.within dir)
      ];
      bound = λ dir. elim (counts_new dir) [
        | inl here ↦ let is = here.1 in rw is (rw here.0 at (p.bound dir))
        | inr away ↦ let is = away.1 in rw is (p.bound dir)
      ];
      arrived = λ dir n live. elim (counts_new dir) [
        | inl here ↦ let is = here.1 in rw is (rw here.0 at (p.arrived dir n (live_same dir n live)))
        | inr away ↦ let is = away.1 in rw is (p.arrived dir n (live_same dir n live))
      ];
      undone_send = let alone = counts_alone mid (is_bi id) after in rw alone.send_is step.undone_send;
      undone_recv = let alone = counts_alone mid (is_bi id) after in rw alone.recv_is step.undone_recv;
    }

-- a stream whose halves made a step, with its count
pub closed_accounted : (old mid : PlainStreams) (id : ℕ) → AreStepped old mid id → AreAccounted old → AreAccounted (counted_closed mid id (is_live old id))
closed_accounted old mid id step p = elim (cases_Bool (not (is_own mid.side id) && (is_live old id && not (is_live mid id)))) [
  | inl closes ↦
      let parts = all_three (is_own mid.side id) (is_live old id) (is_live mid id) closes in
      let closed = one_closed old mid id step p (rw step.side_is at parts.0) parts.1 parts.2 in
      rw (closes, counts_same old mid step.bi_is step.uni_is (is_bi id)) closed
  | inr stays ↦ rw stays (none_closed old mid id step p stays)
] where
  all_three : (own was is : Bool) → (not own && (was && not is)) ≡ true → (own ≡ false) × (was ≡ true) × (is ≡ false)
  all_three true was is e = absurd (false≢true e)
  all_three false true false e = (refl, refl, refl)
  all_three false true true e = absurd (false≢true e)
  all_three false false is e = absurd (false≢true e)

-- ---- what an account says

pub all_closed : (s : PlainStreams) (dir : Dir) → AreAccounted s → ((index : ℕ) → is_live_at s dir index ≡ false) → (counts_of s (is_two_way dir)).closed ≡ (counts_of s (is_two_way dir)).arrived
all_closed s dir a none =
    let live = none_passes (is_live_at s dir) (counts_of s (is_two_way dir)).arrived (λ k low. none k) in
    omega (arith, live, a.counted dir)

pub not_all_closed : (s : PlainStreams) (dir : Dir) (index : ℕ) → AreAccounted s → is_live_at s dir index ≡ true → (counts_of s (is_two_way dir)).closed < (counts_of s (is_two_way dir)).arrived
not_all_closed s dir index a there =
    let live = some_passes (is_live_at s dir) (counts_of s (is_two_way dir)).arrived index (a.arrived dir index there) there in
    omega (arith, live, a.counted dir)
