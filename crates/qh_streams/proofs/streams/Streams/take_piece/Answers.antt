use Rattle.std.proofs.Common.{◌≡◌, ◌<◌, ◌++◌, true, refl, sym, ap, ◌∙◌, arith, deque_len, deque_capacity}
use Rattle.std.proofs.lemmas.List.{append-nil}
use Rattle.qh_streams.specs.Streams.{was_opened}
use Rattle.qh_streams.proofs.StreamsKept.{halves_kept, send_same, out_kept, later_same}
use Rattle.qh_streams.proofs.StreamsSettled.{seen, pushed, pushed_length}
use Rattle.qh_streams.proofs.StreamsReceived.{at_ok, piece_kept, readable_are, with_news, is_piece_received}
use Rattle.qh_streams.proofs.streams.Streams.take_piece.Goals as goal
use Rattle.qh_streams.proofs.streams.Streams.take_piece.Goals.{then-is_told, else-is_told}

pub invariant_of-self-then-is_told : goal.invariant_of-self-then-is_told
invariant_of-self-then-is_told c =
    let room = at_ok c.try_reserve.result (sym c.is_err.ensures.value ∙ c.if-is_err.false) c.try_reserve.ensures.ok in
    let less : deque_len c.try_reserve.new.self < deque_capacity c.try_reserve.new.self = omega (arith, room) in
    let same = c.push_back.ensures.in_place less in
    let told = pushed _ _ _ _ c.push_back.ensures.items (c.push_back.ensures.succeeds less) in
    halves_kept c.self.invariant (send_same refl) (piece_kept c.in_default.ensures.ok) refl refl refl
    (omega (arith, room, same, c.len.ensures, c.try_reserve.new.self.ok.0, pushed_length _ _ _ told))

pub invariant_of-self-else-is_told : goal.invariant_of-self-else-is_told
invariant_of-self-else-is_told c =
    let room = at_ok c.try_reserve.result (sym c.is_err.ensures.value ∙ c.if-is_err.false) c.try_reserve.ensures.ok in
    halves_kept c.self.invariant (send_same refl) (piece_kept c.in_default.ensures.ok) refl refl refl (omega (arith, room, c.len.ensures, c.try_reserve.new.self.ok.0))

opened : (c : goal.After-count_closed) → was_opened (seen c.self.inside) c.args.id.0 ≡ true
opened c = rw (← c.self.view_is) at c.requires.opened

mid_is : (c : goal.After-count_closed) → c.if-is_told.self ≡ with_news (seen c.self.inside) c.ingest.new.self c.args.id
mid_is c =
    let room = at_ok c.try_reserve.result (sym c.is_err.ensures.value ∙ c.if-is_err.false) c.try_reserve.ensures.ok in
    let less : deque_len c.try_reserve.new.self < deque_capacity c.try_reserve.new.self = omega (arith, room) in
    let news = readable_are (seen c.self.inside) c.args.id c.is_wanted-is_told.result (opened c) c.is_wanted-is_told.ensures in
    elim c.if-is_told.branch [
      | then-is_told w ↦
          let told = pushed _ _ _ _ w.push_back.ensures.items (w.push_back.ensures.succeeds less) in
          let told_is = rw w.if-is_told.true at news in
          w.self-is ∙ rw (told_is, told, c.try_reserve.ensures.items) refl
      | else-is_told w ↦
          let told_is = rw w.if-is_told.false at news in
          w.self-is ∙ rw (told_is, c.try_reserve.ensures.items, append-nil c.self.inside.events.items) refl
    ]

pub returns-clause-ok : goal.returns-clause-ok
returns-clause-ok c =
    rw (← c.self.view_is)
    (is_piece_received (seen c.self.inside) c.ingest.new.self c.count_closed.new.self c.args.id (opened c)
    (c.count_closed.ensures.value ∙ rw (c.is_live-was_live.ensures, ← c.self.view_is, mid_is c) refl)
    c.args.piece c.args.fin c.in_default.ensures.ok)

pub returns-clause-keeps_out : goal.returns-clause-keeps_out
returns-clause-keeps_out c f out =
    let s = seen c.self.inside in
    c.count_closed.ensures.keeps_out f (rw (mid_is c) (out_kept (later_same s (with_news s c.ingest.new.self c.args.id) refl refl refl) (λ _ _ span. span) f (rw (← c.self.view_is) at out)))
