use Rattle.std.proofs.Common.{List, ℕ, subst, ◌↔◌}
use Rattle.std.specs.Prelude.{IfOk, IsTrue}
use Rattle.qh_plain.specs.Pieces.{MeansMap}
use Rattle.qh_plain.proofs.messages.spelling.means_trailers.Goals as goal

pub returns-in-Some-Some : goal.returns-in-Some-Some
returns-in-Some-Some c =
    rw (c.in-Some-Some.is-0, c.in-Some-Some.is-1)
    (subst (λ (z : List ℕ). IfOk c.means_map.result (λ means. IsTrue means ↔ MeansMap z c.in-Some-Some.map.now)) c.as_slice.ensures.value c.means_map.ensures)
