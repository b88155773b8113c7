use Rattle.std.proofs.Common.{drop, ap, ◌∙◌}
use Rattle.std.proofs.lemmas.List.{drop-drop}
use Rattle.qh_datagrams.proofs.datagrams.payloads.Payloads.drop_first.Goals as goal

pub loop-preserved : goal.loop-preserved
loop-preserved c = c.pop.ensures.rest ∙ ap (λ l. drop 1 l) c.loop.invariant ∙ drop-drop 1 c.loop.counter c.args.self.now
