use Rattle.std.proofs.Common.{◌≡◌, ◌<◌, refl, sym, ◌∙◌, arith, inl}
use Rattle.qh_halves.specs.SendHalves.{write_limit}
use Rattle.qh_streams.specs.Streams.{none as nothing}
use Rattle.qh_streams.proofs.StreamsPolled.{polling_on, polled_some, polled_none}
use Rattle.qh_streams.proofs.streams.Streams.poll_writable.Goals as goal

pub returns-then-write_limit-eq0 : goal.returns-then-write_limit-eq0
returns-then-write_limit-eq0 c =
    let shut : write_limit c.self.inside.send ≡ 0 = omega (arith, c.write_limit.ensures) in
    rw (← c.self.view_is) (nothing (inl shut) (rw shut refl))

pub returns-then-is_writable : goal.returns-then-is_writable
returns-then-is_writable c =
    let open_now : 0 < write_limit c.self.inside.send = omega (arith, c.write_limit.ensures) in
    polled_some c.loop-id.invariant (record { 0 = c.in-Some.id }) c.pop_first.new.self.keys c.in-Some.ensures.removal (rw (← c.self.view_is) open_now) (sym c.is_writable.ensures ∙ c.if-is_writable.true)

pub loop-id-preserved : goal.loop-id-preserved
loop-id-preserved c = polling_on c.loop-id.invariant c.in-Some.id c.pop_first.new.self.keys c.in-Some.ensures.removal (sym c.is_writable.ensures ∙ c.if-is_writable.false)

pub returns : goal.returns
returns c =
    let open_now : 0 < write_limit c.self.inside.send = omega (arith, c.write_limit.ensures) in
    let variant = rw c.in_default.is at c.pop_first.ensures.variant in
    let unchanged = rw c.in_default.is at c.pop_first.ensures.unchanged in
    polled_none c.loop-id.invariant c.pop_first.new.self.keys variant.1 unchanged (rw (← c.self.view_is) open_now)
