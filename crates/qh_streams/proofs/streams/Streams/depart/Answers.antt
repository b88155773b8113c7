use Rattle.std.proofs.Common.{◌≡◌, ℕ, ◌+◌, ◌-◌, ◌*◌, ◌%◌, ◌<◌, ◌≤◌, ◌==◌, ◌&&◌, nat_le, Bool, if◌then◌else◌, true, false, List, [], ◌∷◌, ◌++◌, length, refl, sym, ap, ◌∙◌, arith, deque_len, deque_capacity, subst, inl, inr, min}
use Rattle.std.proofs.lemmas.List.{length-take}
use Rattle.std.proofs.lemmas.Bool.{cases_Bool, false≢true}
use Rattle.qh_streams.specs.contracts.streams.Streams.{the_view}
use Rattle.qh_halves.specs.declared.counts.StreamCounts.{StreamCounts}
use Rattle.qh_halves.specs.Counts.{is_own, is_bi, index_of, is_in_range, AreCounts}
use Rattle.qh_halves.specs.SendHalves.{PlainSendHalves, send_at}
use Rattle.qh_half.specs.Send.{PlainSend}
use Rattle.qh_half.specs.Recv.{PlainRecv}
use Rattle.qh_streams.specs.declared.frames.StreamEvent.{StreamEvent}
use Rattle.qh_streams.specs.declared.frames.StreamEvent.TheVariants.{Opened}
use Rattle.qh_halves.proofs.HalvesRanges.{same_values}
use Rattle.qh_halves.specs.RecvHalves.{PlainRecvHalves, recv_at}
use Rattle.qh_streams.specs.Streams.{PlainStreams, is_two_way, counts_of, was_opened, arrives_with, with_counts, dir_of, new_send_half, new_recv_half, HasArrived, IsSorted}
use Rattle.qh_streams.proofs.StreamsKept.{both_set, both_are}
use Rattle.qh_streams.proofs.StreamsOpened.{opened_is, set_here}
use Rattle.qh_streams.proofs.StreamsArrived.{two_way_is, range_is, departed, left_again, undone, popped, closed_before}
use Rattle.qh_streams.proofs.streams.Streams.depart.Goals as goal

abbrev now : goal.After-uni-2-1 → PlainStreams
now c = the_view c.self.inside

abbrev two_way : goal.After-uni-2-1 → Bool
two_way c = is_two_way c.dir-dir.result

abbrev counts : goal.After-uni-2-1 → StreamCounts
counts c = record c.counts-counts.result { arrived = c.args.arrived }

abbrev count : goal.After-uni-2-1 → ℕ
count c = c.counts-counts.result.arrived - c.args.arrived

abbrev first : goal.After-uni-2-1 → ℕ
first c = c.args.id.0 - 4 * (count c - 1)

counts_are : (c : goal.After-uni-2-1) → c.counts-counts.result ≡ counts_of (now c) (two_way c)
counts_are c = rw (← c.self.view_is) at c.counts-counts.ensures.value

own_is : (c : goal.After-uni-2-1) → is_own c.self.inside.side c.args.id.0 ≡ false
own_is c = rw (← c.self.view_is) at (sym c.is_own.ensures ∙ c.if-is_own.false)

bi_is : (c : goal.After-uni-2-1) → is_bi c.args.id.0 ≡ two_way c
bi_is c = two_way_is c.dir-dir.result c.args.id.0 c.dir-dir.ensures

last_is : (c : goal.After-uni-2-1) → ((counts_of (now c) (two_way c)).accepted ≤ c.args.arrived) × (index_of c.args.id.0 + 1 ≡ (counts_of (now c) (two_way c)).arrived)
last_is c =
    let last = rw (← c.self.view_is) at c.requires.last in
    let known = ap (λ (x : StreamCounts). x.arrived) (counts_are c) in
    let here = rw (bi_is c) at (last (own_is c)) in
    here (omega (arith, known, c.if-counts-arrived.false))

range : (c : goal.After-uni-2-1) (k : ℕ) → is_in_range (first c) (count c) k ≡ (k % 4 == c.args.id.0 % 4 && (nat_le c.args.arrived (index_of k) && nat_le (index_of k) (index_of c.args.id.0)))
range c k =
    let known = ap (λ (x : StreamCounts). x.arrived) (counts_are c) in
    let last = (last_is c).1 in
    range_is c.args.id.0 c.args.arrived (first c) (count c) k (omega (arith, known, last, c.if-counts-arrived.false)) (omega (arith, known, last, c.if-counts-arrived.false)) (omega (arith, known, last, c.if-counts-arrived.false))

pub invariant_of-self : goal.invariant_of-self
invariant_of-self c =
    let were = c.counts-counts.ensures.are in
    let accepted = ap (λ (x : StreamCounts). x.accepted) (counts_are c) in
    let last = last_is c in
    let fewer : length c.pop_back.new.self.items ≤ length c.self.inside.events.items = rw c.pop_back.ensures.rest (omega (arith, length-take (deque_len c.self.inside.events - 1) c.self.inside.events.items)) in
    rw (c.counts_with.ensures.bi, c.counts_with.ensures.uni, ← c.self.view_is)
    (departed (two_way c) (counts c) c.args.id.0 (first c) (count c) c.withdraw_range.new.self c.withdraw_range-2.new.self c.pop_back.new.self.items c.self.invariant (own_is c) (bi_is c)
    (ap (λ (x : StreamCounts). x.opened) (counts_are c)) last.1
    (record { opened = were.opened; max_opened = were.max_opened; accepted = omega (arith, accepted, last.0); arrived = omega (arith, were.arrived, c.if-counts-arrived.false); announced = were.announced })
    (range c) c.withdraw_range.ensures.halves c.withdraw_range-2.ensures.halves (omega (arith, fewer, c.withdraw_range.ensures.len, c.pop_back.ensures.capacity, c.self.invariant.room)))

module _ (c : goal.After-uni-2-1) (before : PlainStreams) (sorted : IsSorted before) (arrived_is : c.args.arrived ≡ (counts_of before (is_bi c.args.id.0)).arrived)
    (has : HasArrived before (now c) c.args.id.0) (closed : was_opened before c.args.id.0 ≡ false) where
  abbrev told : List StreamEvent
  told = before.events ++ Opened (dir_of c.args.id.0) ∷ []

  abbrev with_new : PlainStreams
  with_new = record before { send = c.self.inside.send; recv = c.self.inside.recv; events = told }

  abbrev with_arrived : StreamCounts
  with_arrived = record (counts_of before (two_way c)) { arrived = index_of c.args.id.0 + 1 }

  now_is : now c ≡ both_set with_new (two_way c) with_arrived
  now_is =
      has.rest_is closed ∙ ap (λ (b : Bool). with_counts with_new b (record (counts_of before b) { arrived = index_of c.args.id.0 + 1 })) (bi_is c)
      ∙ sym (both_are with_new (two_way c) with_arrived)

  was_own : is_own before.side c.args.id.0 ≡ false
  was_own = ap (λ (s : PlainStreams). is_own s.side c.args.id.0) (sym now_is) ∙ own_is c

  counts_back : counts c ≡ counts_of before (two_way c)
  counts_back =
      ap (λ (x : StreamCounts). record x { arrived = c.args.arrived }) (counts_are c ∙ ap (λ (s : PlainStreams). counts_of s (two_way c)) now_is ∙ set_here with_new (two_way c) with_arrived)
      ∙ ap (λ (n : ℕ). record (counts_of before (two_way c)) { arrived = n }) (arrived_is ∙ ap (λ (b : Bool). (counts_of before b).arrived) (bi_is c))

  arrives : (k : ℕ) → is_in_range (first c) (count c) k ≡ arrives_with before c.args.id.0 k
  arrives k = range c k ∙ ap (λ (n : ℕ). k % 4 == c.args.id.0 % 4 && (nat_le n (index_of k) && nat_le (index_of k) (index_of c.args.id.0))) arrived_is

  send_back : c.withdraw_range.new.self ≡ before.send
  send_back =
      let w = c.withdraw_range.ensures in
      let left = c.withdraw_range.new.self.halves in
      let opened = has.halves closed in
      let same = same_values left before.send.halves w.sorted sorted.send (λ k.
      left_again (is_in_range (first c) (count c) k) (arrives_with before c.args.id.0 k) (send_at before.send k) (new_send_half before k) (send_at c.self.inside.send k) (send_at c.withdraw_range.new.self k) (arrives k) (opened.send_is k) (w.halves k)
      (λ inside. sorted.no_send k (closed_before before c.args.id.0 (two_way c) was_own (bi_is c) k inside))) in
      w.rest ∙ ap (λ (s : PlainSendHalves). record s { halves = left }) opened.send_rest ∙ ap (λ (l : List (ℕ × PlainSend)). record before.send { halves = l }) same

  recv_back : c.withdraw_range-2.new.self ≡ before.recv
  recv_back =
      let w = c.withdraw_range-2.ensures in
      let left = c.withdraw_range-2.new.self.halves in
      let opened = has.halves closed in
      let same = same_values left before.recv.halves w.sorted sorted.recv (λ k.
      left_again (is_in_range (first c) (count c) k) (arrives_with before c.args.id.0 k) (recv_at before.recv k) (new_recv_half before k) (recv_at c.self.inside.recv k) (recv_at c.withdraw_range-2.new.self k) (arrives k) (opened.recv_is k) (w.halves k)
      (λ inside. sorted.no_recv k (closed_before before c.args.id.0 (two_way c) was_own (bi_is c) k inside))) in
      w.rest ∙ ap (λ (s : PlainRecvHalves). record s { halves = left }) opened.recv_rest ∙ ap (λ (l : List (ℕ × PlainRecv)). record before.recv { halves = l }) same

  events_back : c.pop_back.new.self.items ≡ before.events
  events_back = popped (deque_len c.self.inside.events) c.self.inside.events.items c.pop_back.new.self.items before.events (Opened (dir_of c.args.id.0)) c.pop_back.ensures.rest c.self.inside.events.ok.0 (ap (λ (s : PlainStreams). s.events) now_is)

  all_back : both_set (record (now c) { send = c.withdraw_range.new.self; recv = c.withdraw_range-2.new.self; events = c.pop_back.new.self.items }) (two_way c) (counts c) ≡ before
  all_back =
      let set : PlainStreams → PlainSendHalves → PlainRecvHalves → List StreamEvent → StreamCounts → PlainStreams = λ s send recv events x. both_set (record s { send = send; recv = recv; events = events }) (two_way c) x in
      ap (λ (h : PlainSendHalves). set (now c) h c.withdraw_range-2.new.self c.pop_back.new.self.items (counts c)) send_back
      ∙ ap (λ (h : PlainRecvHalves). set (now c) before.send h c.pop_back.new.self.items (counts c)) recv_back
      ∙ ap (λ (es : List StreamEvent). set (now c) before.send before.recv es (counts c)) events_back
      ∙ ap (λ (x : StreamCounts). set (now c) before.send before.recv before.events x) counts_back
      ∙ ap (λ (s : PlainStreams). set s before.send before.recv before.events (counts_of before (two_way c))) now_is
      ∙ undone before c.self.inside.send c.self.inside.recv told (two_way c) with_arrived

pub returns : goal.returns
returns c before sorted arrived_is has =
    let here = subst (λ (s : PlainStreams). HasArrived before s c.args.id.0) (sym c.self.view_is) has in
    rw (c.counts_with.ensures.bi, c.counts_with.ensures.uni, ← c.self.view_is)
    (elim (cases_Bool (was_opened before c.args.id.0)) [
      | inl was ↦
          let known = ap (λ (x : StreamCounts). x.arrived) (counts_are c ∙ ap (λ (s : PlainStreams). counts_of s (two_way c)) (here.known was)) in
          let same = arrived_is ∙ ap (λ (b : Bool). (counts_of before b).arrived) (bi_is c) in
          absurd (omega (arith, known, same, c.if-counts-arrived.false))
      | inr closed ↦ all_back c before (sorted closed) arrived_is here closed
    ])
