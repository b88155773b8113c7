use Rattle.std.proofs.Common.{◌≡◌, true, false, refl, ◌∙◌}
use Rattle.qh_streams.proofs.StreamsKept.{counts_kept}
use Rattle.qh_streams.proofs.StreamsSettled.{announced_again, none_fewer}
use Rattle.qh_streams.proofs.streams.Streams.set_announced.Goals as goal

pub invariant_of-self : goal.invariant_of-self
invariant_of-self c =
    let counts = c.self.inside.bi in
    let same : c.args.announced.value ≡ counts.announced.value = c.requires ∙ rw (c.in-Bi.is, ← c.self.view_is) refl in
    counts_kept true (record counts { announced = c.args.announced }) c.self.invariant (none_fewer counts c.args.announced) (announced_again counts c.args.announced same c.self.invariant.bi)

pub invariant_of-self-in-Uni : goal.invariant_of-self-in-Uni
invariant_of-self-in-Uni c =
    let counts = c.self.inside.uni in
    let same : c.args.announced.value ≡ counts.announced.value = c.requires ∙ rw (c.in-Uni.is, ← c.self.view_is) refl in
    counts_kept false (record counts { announced = c.args.announced }) c.self.invariant (none_fewer counts c.args.announced) (announced_again counts c.args.announced same c.self.invariant.uni)
