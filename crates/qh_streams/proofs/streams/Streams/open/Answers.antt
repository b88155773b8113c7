use Rattle.std.proofs.Common.{Bool, List, nat_lt, subst, ◌≡◌, ◌+◌, ◌==◌, ℕ, true, false, None, refl, sym, ap, ◌∙◌, arith, deque_len, deque_capacity}
use Rattle.std.proofs.lemmas.Bool.{eqb-true, le-ltb, lt-ltb}
use Rattle.qh_streams.specs.declared.frames.StreamEvent.{StreamEvent}
use Rattle.qh_spec.specs.StreamId.{stream_id}
use Rattle.qh_streams.specs.contracts.streams.Streams.{the_view}
use Rattle.qh_halves.specs.Counts.{is_own, is_bi, index_of, AreCounts, AreNoFewer}
use Rattle.qh_halves.specs.declared.counts.StreamCounts.{StreamCounts}
use Rattle.qh_halves.specs.RecvHalves.{recv_at}
use Rattle.qh_streams.specs.Streams.{PlainStreams, AreOpened, is_two_way, counts_of, with_opened, with_counts, was_opened}
use Rattle.qh_streams.proofs.StreamsKept.{halves_kept, send_same, recv_same, both_set, both_are}
use Rattle.qh_streams.proofs.StreamsOpened.{own_id, bi_id, index_id, are_opened, kept_after, out_after, opened_is, no_send_half, no_recv_half, set_here}
use Rattle.qh_streams.proofs.streams.Streams.open.Goals as goal

pub invariant_of-self-in_err-insert_halves : goal.invariant_of-self-in_err-insert_halves
invariant_of-self-in_err-insert_halves c =
    let same = c.in_err-insert_halves.ensures.err in
    let reserved = c.try_reserve.ensures in
    halves_kept c.self.invariant (send_same same.0) (recv_same same.1) refl refl refl (rw (same.0, reserved.items) (omega (arith, reserved.capacity, c.self.invariant.room)))

abbrev before : goal.After-uni-2-1 → PlainStreams
before c = the_view c.self.inside

abbrev counts : (c : goal.After-uni-2-1) → StreamCounts
counts c = record c.counts-counts.result { opened = c.counts-counts.result.opened + 1 }

counts_are : (c : goal.After-uni-2-1) → c.counts-counts.result ≡ counts_of (before c) (is_two_way c.args.dir)
counts_are c = rw (← c.self.view_is) at c.counts-counts.ensures.value

more : (c : goal.After-uni-2-1) → AreNoFewer (counts_of (before c) (is_two_way c.args.dir)) (counts c)
more c = rw (← counts_are c) (record { opened = omega arith; arrived = omega arith })

are : (c : goal.After-uni-2-1) → AreCounts (counts c)
are c = let were = c.counts-counts.ensures.are in record {
  opened = omega (arith, were.opened, c.if-counts.false);
  max_opened = were.max_opened;
  accepted = were.accepted;
  arrived = were.arrived;
  announced = were.announced;
}

abbrev after : goal.After-uni-2-1 → PlainStreams
after c = both_set (record (before c) { send = c.insert_halves.new.send; recv = c.insert_halves.new.recv; events = c.try_reserve.new.self.items }) (is_two_way c.args.dir) (counts c)

own_is : (c : goal.After-uni-2-1) → is_own c.self.inside.side c.new-id.result.0 ≡ true
own_is c = rw c.new-id.ensures (own_id c.self.inside.side c.args.dir c.counts-counts.result.opened)

bi_is : (c : goal.After-uni-2-1) → is_bi c.new-id.result.0 ≡ is_two_way c.args.dir
bi_is c = rw c.new-id.ensures (bi_id c.self.inside.side c.args.dir c.counts-counts.result.opened)

index_is : (c : goal.After-uni-2-1) → index_of c.new-id.result.0 ≡ c.counts-counts.result.opened
index_is c = rw c.new-id.ensures (index_id c.self.inside.side c.args.dir c.counts-counts.result.opened)

not_before : (c : goal.After-uni-2-1) → was_opened (before c) c.new-id.result.0 ≡ false
not_before c = opened_is (before c) c.new-id.result.0 true (is_two_way c.args.dir) (own_is c) (bi_is c)
    ∙ ap (λ (x : StreamCounts). nat_lt (index_of c.new-id.result.0) x.opened) (sym (counts_are c)) ∙ le-ltb _ _ (omega (arith, index_is c))

at_id : (c : goal.After-uni-2-1) (P : ℕ → Type 0) → P c.new-id.result.0 → (k : ℕ) → (k == c.new-id.result.0) ≡ true → P k
at_id c P here k same = subst P (sym (eqb-true k c.new-id.result.0 same)) here

opened : (c : goal.After-uni-2-1) → AreOpened (before c) (after c) (λ k. k == c.new-id.result.0)
opened c =
    let e = c.in_ok-insert_halves.ensures in
    are_opened (before c) (after c) c.new-id.result.0 c.first_limit-limit.result (own_is c) (rw (← c.self.view_is) at c.first_limit-limit.ensures) (no_send_half c.self.invariant c.new-id.result.0 (not_before c)) (no_recv_half c.self.invariant c.new-id.result.0 (not_before c))
    (is_two_way c.args.dir) (bi_is c) e.send e.bi e.uni

now_opened : (c : goal.After-uni-2-1) → was_opened (after c) c.new-id.result.0 ≡ true
now_opened c = opened_is (after c) c.new-id.result.0 true (is_two_way c.args.dir) (own_is c) (bi_is c)
    ∙ ap (λ (x : StreamCounts). nat_lt (index_of c.new-id.result.0) x.opened) (set_here (record (before c) { send = c.insert_halves.new.send; recv = c.insert_halves.new.recv; events = c.try_reserve.new.self.items }) (is_two_way c.args.dir) (counts c))
    ∙ lt-ltb _ _ (omega (arith, index_is c))

rest_is : (c : goal.After-uni-2-1) → after c ≡ with_counts (record (before c) { send = c.insert_halves.new.send; recv = c.insert_halves.new.recv }) (is_bi c.new-id.result.0) (with_opened (counts_of (before c) (is_bi c.new-id.result.0)))
rest_is c =
    let two_way = is_two_way c.args.dir in
    let old = record (before c) { send = c.insert_halves.new.send; recv = c.insert_halves.new.recv } in
    ap (λ (es : List StreamEvent). both_set (record old { events = es }) two_way (counts c)) c.try_reserve.ensures.items ∙ both_are old two_way (counts c)
    ∙ ap (λ (x : StreamCounts). with_counts old two_way (with_opened x)) (counts_are c) ∙ ap (λ (b : Bool). with_counts old b (with_opened (counts_of (before c) b))) (sym (bi_is c))

pub invariant_of-self-2 : goal.invariant_of-self-2
invariant_of-self-2 c =
    let reserved = c.in_ok-try_reserve.ensures in
    rw (c.counts_with.ensures.bi, c.counts_with.ensures.uni, ← c.self.view_is)
    (kept_after (before c) c.insert_halves.new.send c.insert_halves.new.recv c.try_reserve.new.self.items (is_two_way c.args.dir) (counts c) (more c)
    (λ k. k == c.new-id.result.0) (opened c) c.self.invariant (at_id c (λ k. was_opened (after c) k ≡ true) (now_opened c)) (are c)
    (omega (arith, reserved.ok, c.in_ok-insert_halves.ensures.len, c.len.ensures.len, c.try_reserve.new.self.ok.0)))

pub returns-clause-some : goal.returns-clause-some
returns-clause-some c =
    let n = ap (λ (x : StreamCounts). x.opened) (counts_are c) in
    let most = ap (λ (x : StreamCounts). x.max_opened) (counts_are c) in
    rw (c.counts_with.ensures.bi, c.counts_with.ensures.uni, ← c.self.view_is)
    (c.new-id.ensures ∙ ap (λ (i : ℕ). stream_id c.self.inside.side c.args.dir i) n, omega (arith, n, most, c.if-counts.false, c.counts-counts.ensures.are.opened), record { halves = opened c; rest_is = rest_is c })

pub returns-clause-keeps_out : goal.returns-clause-keeps_out
returns-clause-keeps_out c =
    rw (c.counts_with.ensures.bi, c.counts_with.ensures.uni, ← c.self.view_is)
    (out_after (before c) c.insert_halves.new.send c.insert_halves.new.recv c.try_reserve.new.self.items (is_two_way c.args.dir) (counts c) (more c)
    (λ k. k == c.new-id.result.0) (opened c) (at_id c (λ k. was_opened (before c) k ≡ false) (not_before c)))
