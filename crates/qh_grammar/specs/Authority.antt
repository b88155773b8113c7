-- What a scan of an authority keeps of the bytes so far.
use Rattle.std.specs.Prelude.{ℕ, List}
use Rattle.http_uri.proofs.AuthorityLemmas.{Tracks}
use Rattle.qh_grammar.specs.declared.authority.Scan.{Scan}

-- the colons and the percent signs since the last `@` or `]`, and whether a bracket was opened and closed
abbrev pub Counts : List ℕ → Scan → Type 0
Counts front s = Tracks front s.colons s.opened s.closed s.has_percent
