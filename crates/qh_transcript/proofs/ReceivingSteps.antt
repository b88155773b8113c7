-- A receiving half goes on, or goes, and what readers got is the same or grows.
use Rattle.std.proofs.Common.{◌≡◌, ◌⊎◌, ℕ, nat_lt, Bool, true, false, ◌&&◌, ◌||◌, not, List, Option, Some, None, if◌then◌else◌, refl, sym, ap, ◌∙◌, inl, inr}
use Rattle.std.proofs.lemmas.Bool.{false≢true, cases_Bool, cases_lt, lt-ltb, le-ltb}
use Rattle.std.proofs.lemmas.Bool.Decides.{eqb_tells}
use Rattle.qh_buffers.specs.Assembler.{PlainAssembler, byte_of, or_byte, to_give, was_given}
use Rattle.qh_buffers.specs.Ranges.{PlainRange, has, count_of}
use Rattle.qh_half.specs.Recv.{PlainRecv, is_closed, is_reset, reset_code, final_size, with_size, keeps_bytes, IsIngested, IsResetBy}
use Rattle.qh_half.specs.declared.recv.RecvState.{RecvState}
use Rattle.qh_half.specs.declared.recv.RecvState.TheVariants.{Recv, ResetRecvd}
use Rattle.qh_halves.specs.RecvHalves.{recv_at, recv_half_in, Begins, Stops, TakesReset}
use Rattle.qh_halves.specs.declared.counts.StreamCounts.{StreamCounts}
use Rattle.qh_halves.specs.Counts.{is_own, is_bi, index_of}
use Rattle.qh_spec.specs.Lists.{In}
use Rattle.qh_spec.specs.QuicFrame.{StreamFrame as Run}
use Rattle.qh_spec.specs.Transcript.{Act}
use Rattle.qh_streams.specs.Streams.{PlainStreams, counts_of, with_counts, is_live, counted_closed, was_opened}
use Rattle.qh_streams.proofs.StreamsTracked.{Goes}
use Rattle.qh_transcript.specs.Receiving.{HasCome, HasEndCome, IsReaderOf, StandsIn}
use Rattle.qh_transcript.proofs.ReceivingLists.{none_some, some_is}

-- ---- which streams were opened

one_counts : (own b : Bool) (before after other : StreamCounts) → after.opened ≡ before.opened → after.arrived ≡ before.arrived
    → (if own then (if b then after else other).opened else (if b then after else other).arrived) ≡ (if own then (if b then before else other).opened else (if b then before else other).arrived)
one_counts true true before after other opened arrived = opened
one_counts true false before after other opened arrived = refl
one_counts false true before after other opened arrived = arrived
one_counts false false before after other opened arrived = refl

two_counts : (own b : Bool) (before after other : StreamCounts) → after.opened ≡ before.opened → after.arrived ≡ before.arrived
    → (if own then (if b then other else after).opened else (if b then other else after).arrived) ≡ (if own then (if b then other else before).opened else (if b then other else before).arrived)
two_counts true true before after other opened arrived = refl
two_counts true false before after other opened arrived = opened
two_counts false true before after other opened arrived = refl
two_counts false false before after other opened arrived = arrived

pub counts_opened : (s : PlainStreams) (two_way : Bool) (c : StreamCounts) → c.opened ≡ (counts_of s two_way).opened → c.arrived ≡ (counts_of s two_way).arrived
    → (k : ℕ) → was_opened (with_counts s two_way c) k ≡ was_opened s k
counts_opened s true c opened arrived k = ap (λ (n : ℕ). nat_lt (index_of k) n) (one_counts (is_own s.side k) (is_bi k) s.bi c s.uni opened arrived)
counts_opened s false c opened arrived k = ap (λ (n : ℕ). nat_lt (index_of k) n) (two_counts (is_own s.side k) (is_bi k) s.uni c s.bi opened arrived)

pub closed_opened : (s : PlainStreams) (id : ℕ) (live : Bool) (k : ℕ) → was_opened (counted_closed s id live) k ≡ was_opened s k
closed_opened s id live k = elim (cases_Bool (not (is_own s.side id) && (live && not (is_live s id)))) [
  | inl e ↦ rw e (counts_opened s (is_bi id) _ refl refl k)
  | inr e ↦ rw e refl
]

-- ---- a half that got no byte and no end but those that came

pub record IsLike (came : List Run) (id : ℕ) (r next : PlainRecv) : Type 0 where
  pub waits : (k byte : ℕ) → to_give next.assembler k ≡ Some byte → (to_give r.assembler k ≡ Some byte) ⊎ HasCome came id k byte
  pub size : (n : ℕ) → next.state ≡ Recv (Some n) → (r.state ≡ Recv (Some n)) ⊎ HasEndCome came id n
  pub given : next.assembler.given ≡ r.assembler.given
  pub order : next.is_unordered ≡ false → r.is_unordered ≡ false
  pub closed : is_closed r ≡ true → is_closed next ≡ true

pub like_reader : (came : List Run) (id : ℕ) (t : List Act) (r next : PlainRecv) → IsLike came id r next → IsReaderOf came id t r → IsReaderOf came id t next
like_reader came id t r next like p = record {
  waits = λ k byte e. elim (like.waits k byte e) [ inl waited ↦ p.waits k byte waited | inr come ↦ come ];
  size = λ n e. elim (like.size n e) [ inl known ↦ p.size n known | inr come ↦ come ];
  count = ap count_of like.given ∙ p.count;
  in_order = λ ordered k. ap (λ (rs : List PlainRange). has rs k) like.given ∙ p.in_order (like.order ordered) k;
  ends = λ told. like.closed (p.ends told);
}

pub like_same : (came : List Run) (id : ℕ) (r next : PlainRecv) → next.assembler ≡ r.assembler → next.state ≡ r.state → next.is_unordered ≡ r.is_unordered
    → (is_closed r ≡ true → is_closed next ≡ true) → IsLike came id r next
like_same came id r next bytes_are state_is order_is closed = record {
  waits = λ k byte e. inl (ap (λ (a : PlainAssembler). to_give a k) (sym bytes_are) ∙ e);
  size = λ n e. inl (sym state_is ∙ e);
  given = ap (λ (a : PlainAssembler). a.given) bytes_are;
  order = λ e. sym order_is ∙ e;
  closed = closed;
}

-- ---- calls

still_in_order : (was ordered : Bool) → (was || not ordered) ≡ false → was ≡ false
still_in_order true ordered e = e
still_in_order false ordered e = refl

pub begun_like : (came : List Run) (id : ℕ) (ordered : Bool) (r next : PlainRecv) → Begins ordered r next → IsLike came id r next
begun_like came id ordered r next e = rw e (record {
  waits = λ k byte w. inl w;
  size = λ n w. inl w;
  given = refl;
  order = λ w. still_in_order r.is_unordered ordered w;
  closed = λ w. w;
})

pub stopped_like : (came : List Run) (id code : ℕ) (r next : PlainRecv) → Stops code r next → IsLike came id r next
stopped_like came id code r next p = record {
  waits = λ k byte e. none_some _ (to_give next.assembler k) byte (p.none k) e;
  size = λ n e. inl (sym (ap (λ (r : PlainRecv). r.state) p.rest_is) ∙ e);
  given = p.given_is;
  order = λ e. sym (ap (λ (r : PlainRecv). r.is_unordered) p.rest_is) ∙ e;
  closed = λ e. ap is_closed p.rest_is;
}

pub told_like : (came : List Run) (id : ℕ) (code : Option ℕ) (r next : PlainRecv) → TakesReset code r next → IsLike came id r next
told_like came id code r next p = rw p.2 (like_same came id r _ refl refl refl (λ closed. absurd (false≢true (sym p.0 ∙ closed))))

-- ---- frames that come

came_or_waited : (given : Bool) (waited here : Option ℕ) (byte : ℕ) → (if given then None else or_byte waited here) ≡ Some byte → (waited ≡ Some byte) ⊎ (here ≡ Some byte)
came_or_waited true waited here byte e = cc
came_or_waited false None here byte e = inr e
came_or_waited false (Some b) here byte e = inl e

piece_come : (came : List Run) (run : Run) → In run came → (k byte : ℕ) → byte_of (record { offset = run.offset; bytes = run.payload }) k ≡ Some byte → HasCome came run.id k byte
piece_come came run there k byte e = elim (cases_lt k run.offset) [
  | inl low ↦ let none = rw (lt-ltb k run.offset low) at e in cc
  | inr from ↦ record { run = run; is = there; stream_is = refl; from = from; byte_is = rw (le-ltb k run.offset from) at e }
]

came_or_known : (fin : Bool) (size n : ℕ) (was : RecvState) → (if fin then with_size size was else was) ≡ Recv (Some n) → (was ≡ Recv (Some n)) ⊎ ((fin ≡ true) × (n ≡ size))
came_or_known false size n was e = inl e
came_or_known true size n (Recv known) e = inr (refl, sym (some_is size n (ap final_size e)))
came_or_known true size n (ResetRecvd at code) e = absurd (false≢true (sym (ap is_reset e)))

pub ingested_like : (came : List Run) (run : Run) (fresh : ℕ) (r next : PlainRecv) → In run came → IsIngested r next (record { offset = run.offset; bytes = run.payload }) run.fin fresh → IsLike came run.id r next
ingested_like came run fresh r next there p = record {
  waits = λ k byte e. elim (cases_Bool (keeps_bytes r)) [
    | inl keeps ↦ elim (came_or_waited (was_given r.assembler k) (to_give r.assembler k) _ byte (sym ((p.bytes_are keeps).bytes_are k) ∙ e)) [
      | inl waited ↦ inl waited
      | inr here ↦ inr (piece_come came run there k byte here)
    ]
    | inr drops ↦ inl (ap (λ (a : PlainAssembler). to_give a k) (sym (p.dropped drops)) ∙ e)
  ];
  size = λ n e. elim (came_or_known run.fin _ n r.state (sym p.state_is ∙ e)) [
    | inl known ↦ inl known
    | inr ends ↦ inr (record { run = run; is = there; stream_is = refl; fin = ends.0; end_is = ends.1 })
  ];
  given = elim (cases_Bool (keeps_bytes r)) [
    | inl keeps ↦ (p.bytes_are keeps).given_is
    | inr drops ↦ ap (λ (a : PlainAssembler). a.given) (p.dropped drops)
  ];
  order = λ e. sym (ap (λ (r : PlainRecv). r.is_unordered) p.rest_is) ∙ e;
  closed = λ e. ap is_closed p.rest_is ∙ e;
}

was_known : (was now : RecvState) (code size n : ℕ) → (reset_code was ≡ None → now ≡ ResetRecvd size code) → ((known : ℕ) → reset_code was ≡ Some known → now ≡ was) → now ≡ Recv (Some n) → was ≡ Recv (Some n)
was_known (Recv known) now code size n again kept e = absurd (false≢true (ap is_reset (sym e ∙ again refl)))
was_known (ResetRecvd at known) now code size n again kept e = sym (kept known refl) ∙ e

pub reset_like : (came : List Run) (id code size fresh : ℕ) (r next : PlainRecv) → IsResetBy r next code size fresh → IsLike came id r next
reset_like came id code size fresh r next p = record {
  waits = λ k byte e. none_some _ (to_give next.assembler k) byte (p.none k) e;
  size = λ n e. inl (was_known r.state next.state code size n p.again p.kept e);
  given = p.given_is;
  order = λ e. sym (ap (λ (r : PlainRecv). r.is_unordered) p.rest_is) ∙ e;
  closed = λ e. ap is_closed p.rest_is ∙ e;
}

-- ---- all halves

pub none_is : {X : Type 0} (o : Option X) → ((x : X) → o ≡ Some x → ⊥) → o ≡ None
none_is None never = refl
none_is (Some x) never = absurd (never x refl)

none_after : {P : PlainRecv → PlainRecv → Type 0} {before after : ℕ → Option PlainRecv} {id : ℕ} → Goes P before after id → (k : ℕ) → before k ≡ None → after k ≡ None
none_after {before = before} {after = after} {id = id} goes k none = elim (eqb_tells k id) [
  | inl same ↦ none_is (after k) (λ next is. let b = goes.here k next same.0 is in none_some ⊥ (before id) b.half (ap before (sym same.1) ∙ none) b.was)
  | inr apart ↦ goes.apart k apart.0 ∙ none
]

-- the halves are the same
pub same_stand : (old new : PlainStreams) (came : List Run) (t : List Act) → new.recv.halves ≡ old.recv.halves → ((k : ℕ) → was_opened new k ≡ was_opened old k) → StandsIn old came t → StandsIn new came t
same_stand old new came t halves_are opened s = record {
  halves = λ id r is. s.halves id r (ap (λ (hs : List (ℕ × PlainRecv)). recv_half_in hs id) (sym halves_are) ∙ is);
  pieces = s.pieces;
  end = s.end;
  unopened = λ k closed. let none = s.unopened k (sym (opened k) ∙ closed) in (ap (λ (hs : List (ℕ × PlainRecv)). recv_half_in hs k) halves_are ∙ none.0, none.1, none.2);
}

-- one half goes on, and readers got nothing
pub like_stand : {P : PlainRecv → PlainRecv → Type 0} {id : ℕ} (old new : PlainStreams) (came : List Run) (t : List Act) → Goes P (recv_at old.recv) (recv_at new.recv) id
    → ((r next : PlainRecv) → P r next → IsLike came id r next) → ((k : ℕ) → was_opened new k ≡ was_opened old k) → StandsIn old came t → StandsIn new came t
like_stand {id = id} old new came t goes like opened s = record {
  halves = λ k next is. elim (eqb_tells k id) [
    | inl same ↦ let b = goes.here k next same.0 is in rw same.1 (like_reader came id t b.half next (like b.half next b.step) (s.halves id b.half b.was))
    | inr apart ↦ s.halves k next (sym (goes.apart k apart.0) ∙ is)
  ];
  pieces = s.pieces;
  end = s.end;
  unopened = λ k closed. let none = s.unopened k (sym (opened k) ∙ closed) in (none_after goes k none.0, none.1, none.2);
}
