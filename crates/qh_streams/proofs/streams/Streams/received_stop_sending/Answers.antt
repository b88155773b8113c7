use Rattle.std.proofs.Common.{◌≡◌, ◌<◌, List, ◌++◌, ◌∷◌, [], refl, sym, ap, ◌∙◌, arith, deque_len, deque_capacity}
use Rattle.qh_streams.specs.declared.frames.StreamEvent.{StreamEvent}
use Rattle.qh_streams.specs.declared.frames.StreamEvent.TheVariants.{Stopped}
use Rattle.qh_streams.specs.Streams.{PlainStreams}
use Rattle.qh_streams.specs.Streams.IsReceived.{stop, stopped_before}
use Rattle.qh_streams.proofs.StreamsKept.{halves_kept, send_step, send_same, recv_same}
use Rattle.qh_streams.proofs.StreamsSettled.{seen, pushed, pushed_length}
use Rattle.qh_streams.proofs.StreamsReceived.{at_ok, arrived_at, stepped_out}
use Rattle.qh_streams.proofs.streams.Streams.received_stop_sending.Goals as goal
use Rattle.qh_streams.proofs.streams.Streams.received_stop_sending.Goals.{then-received_stop_sending, else-received_stop_sending}

pub returns-then-is_err-clause-err : goal.returns-then-is_err-clause-err
returns-then-is_err-clause-err c =
    let s = seen c.self.inside in
    c.depart.ensures c.args.self.now c.in_ok-arrived.ensures.sorted c.in_ok-arrived.ensures.count
    (arrived_at c.args.self.now c.arrive.new.self (record s { events = c.try_reserve.new.self.items }) c.args.id.0 c.in_ok-arrived.ensures.ok
    (ap (λ (es : List StreamEvent). record s { events = es }) c.try_reserve.ensures.items ∙ c.self.view_is))

pub returns-then-is_err-clause-keeps_out : goal.returns-then-is_err-clause-keeps_out
returns-then-is_err-clause-keeps_out c f out = rw (returns-then-is_err-clause-err c) out

pub invariant_of-self-then-received_stop_sending : goal.invariant_of-self-then-received_stop_sending
invariant_of-self-then-received_stop_sending c =
    let room = at_ok c.try_reserve.result (sym c.is_err.ensures.value ∙ c.if-is_err.false) c.try_reserve.ensures.ok in
    let less : deque_len c.try_reserve.new.self < deque_capacity c.try_reserve.new.self = omega (arith, room) in
    let same = c.push_back.ensures.in_place less in
    let told = pushed _ _ _ _ c.push_back.ensures.items (c.push_back.ensures.succeeds less) in
    let step = c.received_stop_sending.ensures.first c.if-received_stop_sending.true in
    halves_kept c.self.invariant (send_step step) (recv_same refl) refl refl refl
    (omega (arith, room, same, step.count, c.len.ensures, c.try_reserve.new.self.ok.0, pushed_length _ _ _ told))

pub invariant_of-self-else-received_stop_sending : goal.invariant_of-self-else-received_stop_sending
invariant_of-self-else-received_stop_sending c =
    let room = at_ok c.try_reserve.result (sym c.is_err.ensures.value ∙ c.if-is_err.false) c.try_reserve.ensures.ok in
    let kept = send_same (c.received_stop_sending.ensures.again c.if-received_stop_sending.false).0 in
    halves_kept c.self.invariant kept (recv_same refl) refl refl refl
    (omega (arith, room, kept.count, c.len.ensures, c.try_reserve.new.self.ok.0))

pub returns-clause-ok : goal.returns-clause-ok
returns-clause-ok c =
    let s = seen c.self.inside in
    let arrived = rw (← c.self.view_is) at c.in_ok-arrived.ensures.ok in
    let room = at_ok c.try_reserve.result (sym c.is_err.ensures.value ∙ c.if-is_err.false) c.try_reserve.ensures.ok in
    let less : deque_len c.try_reserve.new.self < deque_capacity c.try_reserve.new.self = omega (arith, room) in
    elim c.if-received_stop_sending.branch [
      | then-received_stop_sending w ↦
          let told = pushed _ _ _ _ w.push_back.ensures.items (w.push_back.ensures.succeeds less) in
          let is : c.if-received_stop_sending.self ≡ record s { send = c.received_stop_sending.new.self; events = s.events ++ Stopped c.args.id c.args.code ∷ [] } =
          w.self-is ∙ rw (told, c.try_reserve.ensures.items) refl in
          rw is (stop s c.args.id c.args.code arrived (c.received_stop_sending.ensures.first w.if-received_stop_sending.true) refl)
      | else-received_stop_sending w ↦
          let again = c.received_stop_sending.ensures.again w.if-received_stop_sending.false in
          let is : c.if-received_stop_sending.self ≡ s = w.self-is ∙ rw (again.0, c.try_reserve.ensures.items) refl in
          rw is (stopped_before c.args.id c.args.code arrived again.1)
    ]

pub returns-clause-keeps_out : goal.returns-clause-keeps_out
returns-clause-keeps_out c f out =
    let s = seen c.self.inside in
    let out_then = rw (← c.self.view_is) at (c.in_ok-arrived.ensures.keeps_out f out) in
    elim c.if-received_stop_sending.branch [
      | then-received_stop_sending w ↦ stepped_out s _ c.if-received_stop_sending.self w.self-is refl refl refl c.received_stop_sending.ensures.spans f out_then
      | else-received_stop_sending w ↦ stepped_out s _ c.if-received_stop_sending.self w.self-is refl refl refl c.received_stop_sending.ensures.spans f out_then
    ]
