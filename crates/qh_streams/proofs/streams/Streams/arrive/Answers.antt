use Rattle.std.proofs.Common.{◌≡◌, ℕ, ◌+◌, ◌-◌, ◌*◌, ◌<◌, Bool, if◌then◌else◌, true, false, List, [], ◌∷◌, ◌++◌, refl, sym, ap, ◌∙◌, arith, deque_len, deque_capacity}
use Rattle.std.proofs.lemmas.Bool.{false≢true}
use Rattle.qh_spec.specs.declared.sides.Dir.{Dir}
use Rattle.qh_streams.specs.contracts.streams.Streams.{the_view}
use Rattle.qh_streams.specs.declared.frames.StreamEvent.{StreamEvent}
use Rattle.qh_streams.specs.declared.frames.StreamEvent.TheVariants.{Opened}
use Rattle.qh_halves.specs.declared.counts.StreamCounts.{StreamCounts}
use Rattle.qh_halves.specs.Counts.{is_own, is_bi, index_of, is_in_range, AreCounts, AreNoFewer}
use Rattle.qh_streams.specs.Streams.{PlainStreams, AreOpened, is_two_way, dir_of, counts_of, with_counts, was_opened, arrives_with, IsWithinCount}
use Rattle.qh_streams.proofs.StreamsKept.{halves_kept, send_same, recv_same, both_set, both_are}
use Rattle.qh_streams.proofs.StreamsOpened.{no_send_half, no_recv_half, opened_is, kept_after, out_after, set_here}
use Rattle.qh_streams.proofs.StreamsArrived.{dir_is, AreDue, are_due, closed_before, closed_range, open_after, are_arrived}
use Rattle.qh_streams.proofs.streams.Streams.arrive.Goals as goal

due_now : (c : goal.After-insert_ranges-arg-2-1) → AreDue (the_view c.self.inside) c.args.id.0 (is_two_way c.dir-dir.result)
    (c.args.id.0 - 4 * (c.index-arrived.result + 1 - c.counts-counts.result.arrived - 1)) (c.index-arrived.result + 1 - c.counts-counts.result.arrived)
due_now c =
    let counts = rw (← c.self.view_is) at c.counts-counts.ensures.value in
    are_due (the_view c.self.inside) c.args.id.0 c.dir-dir.result c.index-arrived.result c.counts-counts.result.arrived (rw (← c.self.view_is) at c.requires) (rw (← c.self.view_is) at (sym c.was_opened.ensures ∙ c.if-was_opened.false))
    c.dir-dir.ensures (ap (λ (x : StreamCounts). x.arrived) counts) c.index-arrived.ensures

pub insert_ranges-requires-clause-send : goal.insert_ranges-requires-clause-send
insert_ranges-requires-clause-send c =
    let due = due_now c in
    λ k inside. no_send_half c.self.invariant k (closed_range (the_view c.self.inside) c.args.id.0 (is_two_way c.dir-dir.result) due.own due.bi _ _ due.range k inside)

pub insert_ranges-requires-clause-recv : goal.insert_ranges-requires-clause-recv
insert_ranges-requires-clause-recv c =
    let due = due_now c in
    λ k inside. no_recv_half c.self.invariant k (closed_range (the_view c.self.inside) c.args.id.0 (is_two_way c.dir-dir.result) due.own due.bi _ _ due.range k inside)

pub invariant_of-self-in_err-insert_ranges : goal.invariant_of-self-in_err-insert_ranges
invariant_of-self-in_err-insert_ranges c =
    let same = c.in_err-insert_ranges.ensures.err in
    let reserved = c.try_reserve.ensures in
    halves_kept c.self.invariant (send_same same.0) (recv_same same.1) refl refl refl (rw (same.0, reserved.items) (omega (arith, reserved.capacity, c.self.invariant.room)))

abbrev before : goal.After-uni-2-1 → PlainStreams
before c = the_view c.self.inside

abbrev two_way : goal.After-uni-2-1 → Bool
two_way c = is_two_way c.dir-dir.result

abbrev counts : goal.After-uni-2-1 → StreamCounts
counts c = record c.counts-counts.result { arrived = c.index-arrived.result + 1 }

counts_are : (c : goal.After-uni-2-1) → c.counts-counts.result ≡ counts_of (before c) (two_way c)
counts_are c = rw (← c.self.view_is) at c.counts-counts.ensures.value

closed : (c : goal.After-uni-2-1) → was_opened (before c) c.args.id.0 ≡ false
closed c = rw (← c.self.view_is) at (sym c.was_opened.ensures ∙ c.if-was_opened.false)

abbrev count : goal.After-uni-2-1 → ℕ
count c = c.index-arrived.result + 1 - c.counts-counts.result.arrived

abbrev first : goal.After-uni-2-1 → ℕ
first c = c.args.id.0 - 4 * (count c - 1)

due : (c : goal.After-uni-2-1) → AreDue (before c) c.args.id.0 (two_way c) (first c) (count c)
due c =
    are_due (before c) c.args.id.0 c.dir-dir.result c.index-arrived.result c.counts-counts.result.arrived (rw (← c.self.view_is) at c.requires) (closed c)
    c.dir-dir.ensures (ap (λ (x : StreamCounts). x.arrived) (counts_are c)) c.index-arrived.ensures

more : (c : goal.After-uni-2-1) → AreNoFewer (counts_of (before c) (two_way c)) (counts c)
more c =
    let d = due c in
    let was = ap (λ (x : StreamCounts). x.opened) (counts_are c) in
    record { opened = omega (arith, was); arrived = omega (arith, d.below, c.index-arrived.ensures) }

are : (c : goal.After-uni-2-1) → AreCounts (counts c)
are c =
    let were = c.counts-counts.ensures.are in
    let d = due c in
    let arrived = ap (λ (x : StreamCounts). x.arrived) (counts_are c) in
    let announced = ap (λ (x : StreamCounts). x.announced.value) (counts_are c) in
    record {
      opened = were.opened;
      max_opened = were.max_opened;
      accepted = omega (arith, were.accepted, arrived, d.below, c.index-arrived.ensures);
      arrived = omega (arith, d.announced, announced, c.index-arrived.ensures);
      announced = were.announced;
    }

abbrev after : goal.After-uni-2-1 → PlainStreams
after c = both_set (record (before c) { send = c.insert_ranges.new.send; recv = c.insert_ranges.new.recv; events = c.push_back.new.self.items }) (two_way c) (counts c)

opened : (c : goal.After-uni-2-1) → AreOpened (before c) (after c) (arrives_with (before c) c.args.id.0)
opened c =
    let d = due c in
    let e = c.in_ok-insert_ranges.ensures in
    are_arrived (before c) c.args.id.0 (two_way c) d.own d.bi c.first_limit-limit.result (rw (← c.self.view_is) at c.first_limit-limit.ensures) (after c) (first c) (count c) d.range e.bi e.uni e.recv
    (λ k inside. no_send_half c.self.invariant k (closed_range (before c) c.args.id.0 (two_way c) d.own d.bi (first c) (count c) d.range k inside))

-- there is room for the event
has_room : (c : goal.After-uni-2-1) → deque_len c.try_reserve.new.self < deque_capacity c.try_reserve.new.self
has_room c = omega (arith, c.in_ok-try_reserve.ensures.ok)

told : (c : goal.After-uni-2-1) → c.push_back.new.self.items ≡ (before c).events ++ Opened (dir_of c.args.id.0) ∷ []
told c =
    let dir = c.dir-dir.result in
    let event = dir_is dir (is_bi c.args.id.0) (due c).bi in
    let held = c.try_reserve.new.self.items in
    c.push_back.ensures.items ∙ ap (λ (b : Bool). if b then held ++ Opened dir ∷ [] else held) (c.push_back.ensures.succeeds (has_room c))
    ∙ ap (λ (l : List StreamEvent). l ++ Opened dir ∷ []) c.try_reserve.ensures.items ∙ ap (λ (x : Dir). (before c).events ++ Opened x ∷ []) event

pub invariant_of-self-2 : goal.invariant_of-self-2
invariant_of-self-2 c =
    let d = due c in
    let reserved = c.in_ok-try_reserve.ensures in
    let held = deque_len c.try_reserve.new.self in
    let longer = c.push_back.ensures.len ∙ ap (λ (b : Bool). if b then held + 1 else held) (c.push_back.ensures.succeeds (has_room c)) in
    rw (c.counts_with.ensures.bi, c.counts_with.ensures.uni, ← c.self.view_is)
    (kept_after (before c) c.insert_ranges.new.send c.insert_ranges.new.recv c.push_back.new.self.items (two_way c) (counts c) (more c) (arrives_with (before c) c.args.id.0) (opened c) c.self.invariant
    (open_after (before c) c.args.id.0 (two_way c) d.own d.bi (after c) refl (ap (λ (x : StreamCounts). x.arrived) (set_here (record (before c) { send = c.insert_ranges.new.send; recv = c.insert_ranges.new.recv; events = c.push_back.new.self.items }) (two_way c) (counts c)) ∙ ap (λ (n : ℕ). n + 1) c.index-arrived.ensures)) (are c)
    (omega (arith, reserved.ok, c.in_ok-insert_ranges.ensures.len, c.len.ensures.len, c.push_back.new.self.ok.0, longer, c.push_back.ensures.in_place (has_room c))))

rest_is : (c : goal.After-uni-2-1) → after c ≡ with_counts (record (before c) { send = c.insert_ranges.new.send; recv = c.insert_ranges.new.recv; events = (before c).events ++ Opened (dir_of c.args.id.0) ∷ [] }) (is_bi c.args.id.0)
    (record (counts_of (before c) (is_bi c.args.id.0)) { arrived = index_of c.args.id.0 + 1 })
rest_is c =
    let d = due c in
    let old = record (before c) { send = c.insert_ranges.new.send; recv = c.insert_ranges.new.recv; events = (before c).events ++ Opened (dir_of c.args.id.0) ∷ [] } in
    ap (λ (es : List StreamEvent). both_set (record old { events = es }) (two_way c) (counts c)) (told c) ∙ both_are old (two_way c) (counts c)
    ∙ ap (λ (x : StreamCounts). with_counts old (two_way c) (record x { arrived = c.index-arrived.result + 1 })) (counts_are c)
    ∙ ap (λ (b : Bool). with_counts old b (record (counts_of (before c) b) { arrived = c.index-arrived.result + 1 })) (sym d.bi)
    ∙ ap (λ (n : ℕ). with_counts old (is_bi c.args.id.0) (record (counts_of (before c) (is_bi c.args.id.0)) { arrived = n + 1 })) c.index-arrived.ensures

pub returns-clause-ok : goal.returns-clause-ok
returns-clause-ok c =
    rw (c.counts_with.ensures.bi, c.counts_with.ensures.uni, ← c.self.view_is)
    (record { known = λ was. absurd (false≢true (sym (closed c) ∙ was)); halves = λ _. opened c; rest_is = λ _. rest_is c })

pub returns-clause-sorted : goal.returns-clause-sorted
returns-clause-sorted c =
    rw (← c.self.view_is) (λ _. record { send = c.len.ensures.sorted; recv = c.in_ok-insert_ranges.ensures.sorted; no_send = no_send_half c.self.invariant; no_recv = no_recv_half c.self.invariant })

pub returns-clause-keeps_out : goal.returns-clause-keeps_out
returns-clause-keeps_out c =
    let d = due c in
    rw (c.counts_with.ensures.bi, c.counts_with.ensures.uni, ← c.self.view_is)
    (out_after (before c) c.insert_ranges.new.send c.insert_ranges.new.recv c.push_back.new.self.items (two_way c) (counts c) (more c) (arrives_with (before c) c.args.id.0) (opened c)
    (closed_before (before c) c.args.id.0 (two_way c) d.own d.bi))
