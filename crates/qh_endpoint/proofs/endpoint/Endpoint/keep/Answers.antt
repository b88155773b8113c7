use Rattle.std.proofs.Common.{Ok, refl, sym, ap}
use Rattle.qh_endpoint.proofs.Kept.{keeps}
use Rattle.qh_endpoint.proofs.endpoint.Endpoint.keep.Goals as goal

pub returns-clause-ok : goal.returns-clause-ok
returns-clause-ok g c = rw (sym c.self.view_is) (keeps c.args.key c.args.now c.args.remote c.args.payload _ _ c.in_ok-keep.field-0 c.in_ok-keep.ensures.verdict (λ a is there. c.in_ok-keep.ensures.kept a (ap (λ b. Ok b) is) there)
    c.in_ok-keep.ensures.numbered c.in_ok-keep.ensures.len (λ is. c.in_ok-keep.ensures.bytes (ap (λ b. Ok b) is)) (λ is. c.in_ok-keep.ensures.dropped (ap (λ b. Ok b) is)) refl)
