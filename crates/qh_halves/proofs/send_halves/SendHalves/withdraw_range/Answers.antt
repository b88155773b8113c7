use Rattle.std.proofs.Common.{◌≡◌, ℕ, List, sym, ap, ◌∙◌, arith}
use Rattle.qh_half.specs.Send.{PlainSend, new_send}
use Rattle.qh_halves.specs.SendHalves.{PlainSendHalves}
use Rattle.qh_halves.proofs.HalvesRanges.{put_back, none_left}
use Rattle.qh_halves.proofs.send_halves.SendHalves.withdraw_range.Goals as goal

pub returns-then-len-eq0-clause-before : goal.returns-then-len-eq0-clause-before
returns-then-len-eq0-clause-before c before max_data sorted fresh added =
    let now = c.args.self.now.halves in
    let none = none_left now c.args.first c.args.count (sym c.len.ensures.len ∙ c.if-len-eq0.true) in
    let is = put_back before.halves now now (new_send max_data) c.args.first c.args.count sorted c.len.ensures.sorted fresh added.halves_are none in
    added.rest_is ∙ ap (λ (l : List (ℕ × PlainSend)). record before { halves = l }) is

pub returns-clause-before : goal.returns-clause-before
returns-clause-before c before max_data sorted fresh added =
    let left = c.loop-i.self.halves in
    let ends : c.loop-i.i ≡ c.args.count = omega (arith, c.loop-i-test.false, c.loop-i.auto.i-end) in
    let is = put_back before.halves c.args.self.now.halves left (new_send max_data) c.args.first c.args.count sorted c.loop-i.invariant.sorted fresh added.halves_are (rw ends at c.loop-i.invariant.halves) in
    c.loop-i.invariant.rest ∙ ap (λ (s : PlainSendHalves). record s { halves = left }) added.rest_is ∙ ap (λ (l : List (ℕ × PlainSend)). record before { halves = l }) is
