use Rattle.std.proofs.Common.{ap, ◌∙◌, List, ℕ}
use Rattle.std.specs.List.{concat}
use Rattle.qh_half.proofs.SendChunks.{concat-chunks_after}
use Rattle.qh_half.proofs.send.Send.write_chunks.Goals as goal

pub returns-clause-left : goal.returns-clause-left
returns-clause-left c =
    ap (λ (chunks : List (List ℕ)). concat chunks) c.drop_front-whole.ensures.rest ∙ concat-chunks_after c.args.chunks.now c.in_ok-bytes.bytes
