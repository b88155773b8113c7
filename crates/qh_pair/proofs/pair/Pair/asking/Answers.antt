use Rattle.qh_pair.proofs.Asked.{askable, asked}
use Rattle.qh_pair.proofs.pair.Pair.asking.Goals as goal

pub ask-requires-clause-askable : goal.ask-requires-clause-askable
ask-requires-clause-askable c =
    askable _ _ _ _ (λ m v. c.writable.ensures.request _ _ m c.requires.config.sizes.section c.requires.config.sizes.request_body v) c.requires.valid

pub returns : goal.returns
returns c =
    asked _ _ _ _ _ _ c.requires.some c.of_client.ensures.running c.of_client.ensures.ids c.of_client.ensures.limits c.of_client.ensures.value c.in_ok-ask.ensures.ok c.ask.ensures.unused.2
