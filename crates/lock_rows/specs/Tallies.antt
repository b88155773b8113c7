-- What callers see of a tally.
use Rattle.std.specs.Prelude.{List}
use Rattle.lock_rows.specs.declared.added.Added.{Added}
use Rattle.lock_rows.specs.declared.tally.Tally.{Tally}

-- the calls that made it, in order
abbrev pub calls_of : Tally → List Added
calls_of t = t.calls.items
