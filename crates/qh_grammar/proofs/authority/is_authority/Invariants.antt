use Rattle.std.proofs.Common.{ℕ, ◌<◌, take, get_or}
use Rattle.http_uri.specs.Grammar.{MayFollow}
use Rattle.qh_grammar.specs.Authority.{Counts}
use Rattle.qh_grammar.proofs.authority.is_authority.Given as goal

-- each byte so far may stand where it does, and the scan counts them
abbrev pub invariant-loop-b : goal.invariant-loop-b
invariant-loop-b l =
    ((k : ℕ) → k < l.b-index → MayFollow (take k l.text) (get_or l.text k 0)) × Counts (take l.b-index l.text) l.scan
