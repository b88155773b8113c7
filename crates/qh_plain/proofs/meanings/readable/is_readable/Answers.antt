use Rattle.std.proofs.Common.{List, ℕ, subst}
use Rattle.qh_plain.specs.Kinds.{IsKind}
use Rattle.qh_plain.proofs.Readable.{read_as}
use Rattle.qh_plain.proofs.meanings.readable.is_readable.Goals as goal

pub returns : goal.returns
returns c =
    read_as c.args.field.now c.kind_of.result c.has_kind.result (subst (λ (z : List ℕ). IsKind z c.kind_of.result) c.name.ensures c.kind_of.ensures) c.has_kind.ensures
