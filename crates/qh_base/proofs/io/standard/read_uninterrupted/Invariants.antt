use Rattle.std.specs.Io.KnownBytes.{Keeps}
use Rattle.qh_base.proofs.io.standard.read_uninterrupted.Given as goal

-- a read that was interrupted consumed nothing
abbrev pub invariant-loop-try : goal.invariant-loop-try
invariant-loop-try g l = Keeps (g.R.Read.remaining l.initial.inner) (g.R.Read.remaining l.inner)
