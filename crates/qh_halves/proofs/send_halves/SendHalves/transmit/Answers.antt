use Rattle.std.proofs.Common.{refl, sym, arith}
use Rattle.std.proofs.lemmas.Option.{IfSome_then}
use Rattle.std.proofs.lemmas.Result.{IfOk-weaker, on_err_weaker}
use Rattle.qh_halves.specs.SendHalves.{Gives}
use Rattle.qh_halves.proofs.HalvesStepped.{kept_stepped, taken_stepped, same_again, spans_stay, is_step}
use Rattle.qh_halves.proofs.HalfTransmits.{Sends, sends}
use Rattle.qh_halves.proofs.send_halves.SendHalves.transmit.Goals as goal

sent_all : (c : goal.After-remove) → Sends c.in-Some.half.now c.hand_out-given.new.half
sent_all c =
    let e = c.hand_out-given.ensures in
    sends c.hand_out-given.result c.in-Some.half.now c.hand_out-given.new.half c.args.max_len (c.self.invariant.undone c.args.id c.in-Some.half.now (sym c.in-Some.ensures.value)) e.none e.some e.err

sent_some : (c : goal.Else-not-waits) → Sends c.in-Some.half.now c.hand_out-given.new.half
sent_some c =
    let e = c.hand_out-given.ensures in
    sends c.hand_out-given.result c.in-Some.half.now c.hand_out-given.new.half c.args.max_len (c.self.invariant.undone c.args.id c.in-Some.half.now (sym c.in-Some.ensures.value)) e.none e.some e.err

pub invariant_of-self-then-not-waits : goal.invariant_of-self-then-not-waits
invariant_of-self-then-not-waits c =
    let after = sent_all c in
    rw (c.get_mut.follows.holds c.hand_out-given.new.half).0
    (taken_stepped c.self.inside c.self.invariant c.args.id c.in-Some.half.now c.hand_out-given.new.half c.in-Some.ensures.value c.remove.new.self
    c.remove.ensures.waits c.remove.ensures.room (c.waits.ensures.none c.if-not-waits.true) after.on.undone after.holds)

pub invariant_of-self-else-not-waits : goal.invariant_of-self-else-not-waits
invariant_of-self-else-not-waits c =
    let after = sent_some c in
    rw (c.get_mut.follows.holds c.hand_out-given.new.half).0
    (kept_stepped c.self.inside c.self.invariant c.args.id c.in-Some.half.now c.hand_out-given.new.half c.in-Some.ensures.value c.self.inside.unacked_data after.on after.waited (omega (arith, after.holds)))

pub returns-then-not-waits-clause-none : goal.returns-then-not-waits-clause-none
returns-then-not-waits-clause-none c = IfOk-weaker c.hand_out-given.result _ _ (λ o kept none.
    let same = same_again c.self.inside c.args.id c.in-Some.half.now c.hand_out-given.new.half _ c.in-Some.ensures.value (kept none).0 (c.get_mut.follows.holds c.hand_out-given.new.half).0 in
    rw (same, sym c.self.view_is, sym c.in-Some.ensures.value) (refl, (kept none).1)) c.hand_out-given.ensures.none

pub returns-then-not-waits-clause-err : goal.returns-then-not-waits-clause-err
returns-then-not-waits-clause-err c = on_err_weaker c.hand_out-given.result (λ kept.
    let same = same_again c.self.inside c.args.id c.in-Some.half.now c.hand_out-given.new.half _ c.in-Some.ensures.value kept (c.get_mut.follows.holds c.hand_out-given.new.half).0 in
    rw (same, sym c.self.view_is) refl) c.hand_out-given.ensures.err

pub returns-else-not-waits-clause-err : goal.returns-else-not-waits-clause-err
returns-else-not-waits-clause-err c = on_err_weaker c.hand_out-given.result (λ kept.
    let same = same_again c.self.inside c.args.id c.in-Some.half.now c.hand_out-given.new.half _ c.in-Some.ensures.value kept (c.get_mut.follows.holds c.hand_out-given.new.half).0 in
    rw (same, sym c.self.view_is) refl) c.hand_out-given.ensures.err

pub returns-then-not-waits-clause-spans : goal.returns-then-not-waits-clause-spans
returns-then-not-waits-clause-spans c k frame span =
    rw (c.get_mut.follows.holds c.hand_out-given.new.half).0
    (spans_stay c.self.inside c.self.invariant c.args.id c.in-Some.half.now c.hand_out-given.new.half c.in-Some.ensures.value (sent_all c).spans k frame (rw (sym c.self.view_is) at span))

pub returns-else-not-waits-clause-spans : goal.returns-else-not-waits-clause-spans
returns-else-not-waits-clause-spans c k frame span =
    rw (c.get_mut.follows.holds c.hand_out-given.new.half).0
    (spans_stay c.self.inside c.self.invariant c.args.id c.in-Some.half.now c.hand_out-given.new.half c.in-Some.ensures.value (sent_some c).spans k frame (rw (sym c.self.view_is) at span))

pub returns-then-not-waits-clause-some : goal.returns-then-not-waits-clause-some
returns-then-not-waits-clause-some c = IfOk-weaker c.hand_out-given.result _ _ (λ o given. IfSome_then o given (λ t gives.
    rw (sym c.self.view_is)
    (is_step c.self.inside c.self.invariant c.args.id c.in-Some.half.now c.hand_out-given.new.half c.in-Some.ensures.value (Gives c.args.max_len t) _ _ 0
    (c.get_mut.follows.holds c.hand_out-given.new.half).0 (omega arith) gives (sent_all c).on.undone))) c.hand_out-given.ensures.some

pub returns-else-not-waits-clause-some : goal.returns-else-not-waits-clause-some
returns-else-not-waits-clause-some c = IfOk-weaker c.hand_out-given.result _ _ (λ o given. IfSome_then o given (λ t gives.
    rw (sym c.self.view_is)
    (is_step c.self.inside c.self.invariant c.args.id c.in-Some.half.now c.hand_out-given.new.half c.in-Some.ensures.value (Gives c.args.max_len t) _ _ 0
    (c.get_mut.follows.holds c.hand_out-given.new.half).0 (omega arith) gives (sent_some c).on.undone))) c.hand_out-given.ensures.some
