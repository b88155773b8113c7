-- Streams that are new: of those readers got nothing.
use Rattle.std.proofs.Common.{◌≡◌, ℕ, ◌+◌, ◌==◌, nat_lt, Bool, true, false, not, List, [], length, Option, Some, None, if◌then◌else◌, refl, sym, ap, ◌∙◌, subst, arith, inl, inr}
use Rattle.std.proofs.lemmas.Bool.{false≢true, cases_Bool, eqb-true, ltb-false, lt-ltb, le-ltb}
use Rattle.qh_half.specs.Recv.{PlainRecv, new_recv, final_size}
use Rattle.qh_halves.specs.declared.counts.StreamCounts.{StreamCounts}
use Rattle.qh_halves.specs.Counts.{AreNoFewer, is_own, is_bi, index_of, has_recv}
use Rattle.qh_spec.specs.QuicFrame.{StreamFrame as Run}
use Rattle.qh_spec.specs.StreamId.{stream_id}
use Rattle.qh_spec.specs.Transcript.{Act, pieces_read, joined, ended}
use Rattle.qh_spec.specs.declared.sides.Dir.{Dir}
use Rattle.qh_streams.specs.Streams.{PlainStreams, Refusal, refused, or_refusal, id_refusal, counts_of, with_counts, is_two_way, was_opened, AreOpened, IsOpened, HasArrived, arrives_with}
use Rattle.qh_streams.proofs.StreamsOpened.{own_id, bi_id, index_id, opened_is}
use Rattle.qh_streams.proofs.StreamsArrived.{closed_before, open_after}
use Rattle.qh_streams.proofs.StreamsKept.{AreLater, later_counts, still_opened}
use Rattle.qh_transcript.specs.Receiving.{IsReaderOf, StandsIn}
use Rattle.qh_transcript.proofs.ReceivingLists.{none_some, some_is}

-- ---- a half that is new

new_reader : (came : List Run) (id limit : ℕ) (t : List Act) → pieces_read t id ≡ [] → ended t id ≡ false → IsReaderOf came id t (new_recv limit)
new_reader came id limit t none live =
    let count_is : 0 ≡ length (joined (pieces_read t id)) = ap (λ (ps : List (ℕ × List ℕ)). length (joined ps)) (sym none) in
    record {
      waits = λ k byte e. cc;
      size = λ n e. none_some _ None n refl (ap final_size e);
      count = count_is;
      in_order = λ ordered k. sym (le-ltb k 0 (omega arith)) ∙ ap (λ (n : ℕ). nat_lt k n) count_is;
      ends = λ told. absurd (false≢true (sym live ∙ told));
    }

fresh_reader : (came : List Run) (id limit : ℕ) (t : List Act) (b : Bool) (r : PlainRecv) → (if b then Some (new_recv limit) else None) ≡ Some r → pieces_read t id ≡ [] → ended t id ≡ false → IsReaderOf came id t r
fresh_reader came id limit t true r is none live = subst (λ (x : PlainRecv). IsReaderOf came id t x) (some_is (new_recv limit) r is) (new_reader came id limit t none live)
fresh_reader came id limit t false r is none live = cc

-- Streams got their halves that weren't opened before, and are now.
pub record AddsNew (old new : PlainStreams) (are_new : ℕ → Bool) : Type 0 where
  pub are_opened : AreOpened old new are_new
  pub before : (k : ℕ) → are_new k ≡ true → was_opened old k ≡ false
  pub after : (k : ℕ) → are_new k ≡ true → was_opened new k ≡ true
  pub later : AreLater old new

new_stand : (old new : PlainStreams) (are_new : ℕ → Bool) (came : List Run) (t : List Act) → AddsNew old new are_new → StandsIn old came t → StandsIn new came t
new_stand old new are_new came t p s = record {
  halves = λ k r is. elim (cases_Bool (are_new k)) [
    | inl among ↦ let none = s.unopened k (p.before k among) in fresh_reader came k _ t (has_recv old.side k) r (sym (rw among at (p.are_opened.recv_is k)) ∙ is) none.1 none.2
    | inr apart ↦ s.halves k r (sym (rw apart at (p.are_opened.recv_is k)) ∙ is)
  ];
  pieces = s.pieces;
  end = s.end;
  unopened = λ k closed. elim (cases_Bool (are_new k)) [
    | inl among ↦ absurd (false≢true (sym closed ∙ p.after k among))
    | inr apart ↦ let none = s.unopened k (closed_then k closed) in (rw apart at (p.are_opened.recv_is k) ∙ none.0, none.1, none.2)
  ];
} where
  closed_then : (k : ℕ) → was_opened new k ≡ false → was_opened old k ≡ false
  closed_then k closed = elim (cases_Bool (was_opened old k)) [
    | inl opened ↦ absurd (false≢true (sym closed ∙ still_opened p.later k opened))
    | inr none ↦ none
  ]

-- ---- new counts of one direction

set_side : (s : PlainStreams) (two_way : Bool) (c : StreamCounts) → (with_counts s two_way c).side ≡ s.side
set_side s true c = refl
set_side s false c = refl

set_counts : (s : PlainStreams) (two_way : Bool) (c : StreamCounts) → counts_of (with_counts s two_way c) two_way ≡ c
set_counts s true c = refl
set_counts s false c = refl

later_set : (old mid new : PlainStreams) (two_way : Bool) (c : StreamCounts) → new ≡ with_counts mid two_way c → mid.side ≡ old.side → ((b : Bool) → counts_of mid b ≡ counts_of old b) → AreNoFewer (counts_of old two_way) c → AreLater old new
later_set old mid new two_way c e side_is counts_are more =
    let later = later_counts mid two_way c (rw (counts_are two_way) more) in
    record {
      side_is = ap (λ (s : PlainStreams). s.side) e ∙ later.side_is ∙ side_is;
      counts = λ b. subst (λ (s : PlainStreams). AreNoFewer (counts_of old b) (counts_of s b)) (sym e) (rw (counts_are b) at (later.counts b));
    }

-- ---- a stream that this end opens

pub opened_new : (old new : PlainStreams) (id : ℕ) (dir : Dir) → id ≡ stream_id old.side dir (counts_of old (is_two_way dir)).opened → IsOpened old new id → AddsNew old new (λ k. k == id)
opened_new old new id dir id_is p =
    let own : is_own old.side id ≡ true = rw id_is (own_id old.side dir _) in
    let bi : is_bi id ≡ is_two_way dir = rw id_is (bi_id old.side dir _) in
    let index : index_of id ≡ (counts_of old (is_bi id)).opened = ap index_of id_is ∙ index_id old.side dir _ ∙ ap (λ (b : Bool). (counts_of old b).opened) (sym bi) in
    let mid : PlainStreams = record old { send = new.send; recv = new.recv } in
    let c : StreamCounts = record (counts_of old (is_bi id)) { opened = (counts_of old (is_bi id)).opened + 1 } in
    let side_is : new.side ≡ old.side = ap (λ (s : PlainStreams). s.side) p.rest_is ∙ set_side mid (is_bi id) c in
    let counts_are : (counts_of new (is_bi id)).opened ≡ (counts_of old (is_bi id)).opened + 1 = ap (λ (s : PlainStreams). (counts_of s (is_bi id)).opened) p.rest_is ∙ ap (λ (c : StreamCounts). c.opened) (set_counts mid (is_bi id) c) in
    let closed : was_opened old id ≡ false = opened_is old id true (is_bi id) own refl ∙ le-ltb (index_of id) (counts_of old (is_bi id)).opened (omega (arith, index)) in
    let live : was_opened new id ≡ true = opened_is new id true (is_bi id) (ap (λ (d : _). is_own d id) side_is ∙ own) refl ∙ lt-ltb (index_of id) (counts_of new (is_bi id)).opened (omega (arith, index, counts_are)) in
    record {
      are_opened = p.halves;
      before = λ k same. rw (eqb-true k id same) closed;
      after = λ k same. rw (eqb-true k id same) live;
      later = later_set old mid new (is_bi id) c p.rest_is refl (λ b. refl) (record { opened = omega arith; arrived = omega arith });
    }

pub opened_stand : (old new : PlainStreams) (came : List Run) (t : List Act) (id : ℕ) (dir : Dir) → id ≡ stream_id old.side dir (counts_of old (is_two_way dir)).opened → IsOpened old new id → StandsIn old came t → StandsIn new came t
opened_stand old new came t id dir id_is p = new_stand old new (λ k. k == id) came t (opened_new old new id dir id_is p)

-- ---- streams of the peer's that a frame names

-- a stream of this end's that a frame may name was opened
not_refused : (half own live within : Bool) (frame : ℕ)
    → (if not half then refused 5 frame else if own then (if live then None else refused 5 frame) else (if within then None else refused 4 frame)) ≡ None → live ≡ false → own ≡ false
not_refused false own live within frame ok closed = cc
not_refused true true true within frame ok closed = closed
not_refused true true false within frame ok closed = cc
not_refused true false live within frame ok closed = refl

pub not_own : (s : PlainStreams) (id : ℕ) (half : Bool) (frame : ℕ) → id_refusal s id half frame ≡ None → was_opened s id ≡ false → is_own s.side id ≡ false
not_own s id half frame = not_refused half (is_own s.side id) (was_opened s id) (nat_lt (index_of id) (counts_of s (is_bi id)).announced.value) frame

pub first_refusal : (a b : Option Refusal) → or_refusal a b ≡ None → a ≡ None
first_refusal None b ok = refl
first_refusal (Some r) b ok = ok

pub arrived_new : (old new : PlainStreams) (id : ℕ) → is_own old.side id ≡ false → was_opened old id ≡ false → HasArrived old new id → AddsNew old new (arrives_with old id)
arrived_new old new id own fresh p =
    let below = ltb-false (index_of id) (counts_of old (is_bi id)).arrived (sym (opened_is old id false (is_bi id) own refl) ∙ fresh) in
    let e = p.rest_is fresh in
    let side_is : new.side ≡ old.side = ap (λ (s : PlainStreams). s.side) e ∙ set_side _ (is_bi id) _ in
    let arrived_is : (counts_of new (is_bi id)).arrived ≡ index_of id + 1 = ap (λ (s : PlainStreams). (counts_of s (is_bi id)).arrived) e ∙ ap (λ (c : StreamCounts). c.arrived) (set_counts _ (is_bi id) _) in
    record {
      are_opened = p.halves fresh;
      before = closed_before old id (is_bi id) own refl;
      after = open_after old id (is_bi id) own refl new side_is arrived_is;
      later = later_set old _ new (is_bi id) _ e refl (λ b. refl) (record { opened = omega arith; arrived = omega (arith, below) });
    }

pub arrived_stand : (old new : PlainStreams) (came : List Run) (t : List Act) (id : ℕ) → (was_opened old id ≡ false → is_own old.side id ≡ false) → HasArrived old new id → StandsIn old came t → StandsIn new came t
arrived_stand old new came t id peers p s = elim (cases_Bool (was_opened old id)) [
  | inl known ↦ rw (p.known known) s
  | inr fresh ↦ new_stand old new (arrives_with old id) came t (arrived_new old new id (peers fresh) fresh p) s
]
