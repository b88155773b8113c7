use Rattle.std.proofs.Common.{List, ℕ, subst, ◌↔◌}
use Rattle.std.specs.Prelude.{IfOk, IsTrue}
use Rattle.http_uri.specs.Grammar.{IsScheme, IsAuthority, IsPathInput}
use Rattle.qh_plain.proofs.meanings.readable.has_kind.Goals as goal

pub returns-in-Scheme : goal.returns-in-Scheme
returns-in-Scheme c =
    rw c.in-Scheme.is (subst (λ (z : List ℕ). IfOk c.is_scheme.result (λ has. IsTrue has ↔ IsScheme z)) c.value-in-Scheme.ensures c.is_scheme.ensures)

pub returns-in-Authority : goal.returns-in-Authority
returns-in-Authority c =
    rw c.in-Authority.is (subst (λ (z : List ℕ). IfOk c.is_authority.result (λ has. IsTrue has ↔ IsAuthority z)) c.value-in-Authority.ensures c.is_authority.ensures)

pub returns-in-Path : goal.returns-in-Path
returns-in-Path c =
    rw c.in-Path.is (subst (λ (z : List ℕ). IfOk c.is_path.result (λ has. IsTrue has ↔ IsPathInput z)) c.value-in-Path.ensures c.is_path.ensures)
