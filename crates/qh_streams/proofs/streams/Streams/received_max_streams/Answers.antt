use Rattle.std.proofs.Common.{◌≡◌, ◌<◌, ◌++◌, nat_lt, true, false, refl, sym, ap, ◌∙◌, arith, deque_len, deque_capacity}
use Rattle.std.proofs.lemmas.List.{append-nil}
use Rattle.qh_streams.specs.Streams.{PlainStreams, available_events, is_two_way, counts_of}
use Rattle.qh_streams.specs.Streams.IsReceived.{max_streams}
use Rattle.qh_streams.proofs.StreamsSettled.{seen, pushed}
use Rattle.qh_streams.proofs.StreamsReceived.{at_ok, less_is, not_less}
use Rattle.qh_streams.proofs.streams.Streams.received_max_streams.Goals as goal
use Rattle.qh_streams.proofs.streams.Streams.received_max_streams.Goals.{then-counts-count, else-counts-count}

abbrev told : (c : goal.After-set_counts) → PlainStreams
told c = let s = seen c.self.inside in record s { events = s.events ++ available_events (counts_of s (is_two_way c.args.dir)) c.args.count c.args.dir }

mid_is : (c : goal.After-set_counts) → c.if-counts-count.self ≡ told c
mid_is c =
    let room = at_ok c.try_reserve.result (sym c.is_err.ensures.value ∙ c.if-is_err.false) c.try_reserve.ensures.ok in
    let less : deque_len c.try_reserve.new.self < deque_capacity c.try_reserve.new.self = omega (arith, room) in
    elim c.if-counts-count.branch [
      | then-counts-count w ↦
          let rises : nat_lt (counts_of (seen c.self.inside) (is_two_way c.args.dir)).max_opened c.args.count ≡ true = rw (← c.counts-counts.ensures.value, ← c.into_inner-count.ensures.value) (less_is _ _ w.if-counts-count.true) in
          let events_are = pushed _ _ _ _ w.push_back.ensures.items (w.push_back.ensures.succeeds less) in
          w.self-is ∙ rw (rises, events_are, c.try_reserve.ensures.items) refl
      | else-counts-count w ↦
          let stays : nat_lt (counts_of (seen c.self.inside) (is_two_way c.args.dir)).max_opened c.args.count ≡ false = rw (← c.counts-counts.ensures.value, ← c.into_inner-count.ensures.value) (not_less _ _ w.if-counts-count.false) in
          w.self-is ∙ rw (stays, c.try_reserve.ensures.items, append-nil c.self.inside.events.items) refl
    ]

pub returns-clause-ok : goal.returns-clause-ok
returns-clause-ok c =
    rw (← c.self.view_is)
    (max_streams c.args.dir c.args.count
    (c.set_counts.ensures.value ∙ rw (mid_is c, c.with_max_opened.ensures, c.counts-counts.ensures.value, c.into_inner-count.ensures.value) refl))
