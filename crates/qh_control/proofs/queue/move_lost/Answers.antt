use Rattle.std.proofs.Common.{◌≡◌, ◌<◌, ◌≤◌, ◌++◌, ◌∷◌, [], ℕ, Bool, false, length, get_or, is_some, vec_capacity, sym, ap, ◌∙◌, arith}
use Rattle.std.specs.Global.{Vec}
use Rattle.qh_recovery.specs.SentPackets.{packet_at}
use Rattle.qh_control.specs.declared.queue.SentControl.{SentControl}
use Rattle.qh_core.specs.declared.control.ControlFrame.{ControlFrame}
use Rattle.qh_control.proofs.Lost.{all_looked_at, get_or_same, has_room, index_within, one_lost, one_stays}
use Rattle.qh_control.proofs.queue.move_lost.Goals.{then-is_out, else-is_out}
use Rattle.qh_control.proofs.queue.move_lost.Goals as goal

pub push_reserved-requires : goal.push_reserved-requires
push_reserved-requires g c =
    let out : ℕ → Bool = λ number. is_some (packet_at c.args.core.now.space.sent number) in
    let within : c.loop.counter < length c.args.sent.now.items = omega (arith, c.loop-test.true, c.len-end.ensures, c.args.sent.now.ok.0) in
    let is_lost : out (get_or c.loop.sent.items c.loop.index c.index.result.now).number ≡ false = ap (λ (s : SentControl). out s.number) (sym c.index.ensures) ∙ sym c.is_out.ensures ∙ c.if-is_out.false in
    let room = has_room out c.loop.counter c.loop.index (vec_capacity c.args.waiting.now) c.args.sent.now.items c.loop.sent.items c.args.waiting.now.items c.loop.waiting.items c.index.result.now within c.loop.invariant.so_far is_lost
    (omega (arith, c.requires, c.args.waiting.now.ok.0)) in
    omega (arith, room, c.loop.waiting.ok.0, c.loop.invariant.capacity)

pub loop-preserved : goal.loop-preserved
loop-preserved g c =
    let out : ℕ → Bool = λ number. is_some (packet_at c.args.core.now.space.sent number) in
    let within : c.loop.counter < length c.args.sent.now.items = omega (arith, c.loop-test.true, c.len-end.ensures, c.args.sent.now.ok.0) in
    elim c.if-is_out.branch [
      | then-is_out w ↦ record {
        so_far = one_stays out c.loop.counter c.loop.index _ c.args.sent.now.items c.loop.sent.items _ c.args.waiting.now.items c.loop.waiting.items _ c.index.result.now within c.loop.invariant.so_far
            (ap (λ (s : SentControl). out s.number) (sym c.index.ensures) ∙ sym c.is_out.ensures ∙ w.if-is_out.true)
            w.index-is (ap (λ (v : Vec SentControl). v.items) w.sent-is) (ap (λ (v : Vec ControlFrame). v.items) w.waiting-is);
        capacity = ap vec_capacity w.waiting-is ∙ c.loop.invariant.capacity;
      }
      | else-is_out w ↦
          let inside = index_within out c.loop.counter c.loop.index c.args.sent.now.items c.loop.sent.items c.args.waiting.now.items c.loop.waiting.items within c.loop.invariant.so_far in
          let removed = w.remove-lost.ensures.value ∙ get_or_same c.loop.sent.items c.loop.index w.remove-lost.result c.index.result.now inside in
          record {
            so_far = one_lost out c.loop.counter c.loop.index _ c.args.sent.now.items c.loop.sent.items _ c.args.waiting.now.items c.loop.waiting.items _ c.index.result.now within c.loop.invariant.so_far
                (ap (λ (s : SentControl). out s.number) (sym c.index.ensures) ∙ sym c.is_out.ensures ∙ w.if-is_out.false)
                (ap (λ (v : Vec SentControl). v.items) w.sent-is ∙ w.remove-lost.ensures.items)
                (ap (λ (v : Vec ControlFrame). v.items) w.waiting-is ∙ w.push_reserved.ensures.items ∙ ap (λ (s : SentControl). c.loop.waiting.items ++ s.frame ∷ []) removed)
                w.index-is;
            capacity = ap vec_capacity w.waiting-is ∙ w.push_reserved.ensures.capacity ∙ c.loop.invariant.capacity;
          }
    ]

pub returns-clause-waiting : goal.returns-clause-waiting
returns-clause-waiting g c =
    let over : length c.args.sent.now.items ≤ c.loop.counter = omega (arith, c.loop-test.false, c.len-end.ensures, c.args.sent.now.ok.0) in
    (all_looked_at (λ number. is_some (packet_at c.args.core.now.space.sent number)) c.loop.counter c.loop.index c.args.sent.now.items c.loop.sent.items c.args.waiting.now.items c.loop.waiting.items over c.loop.invariant.so_far).waiting_is
