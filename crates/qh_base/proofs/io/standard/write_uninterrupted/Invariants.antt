use Rattle.std.specs.Io.KnownBytes.{Keeps}
use Rattle.qh_base.proofs.io.standard.write_uninterrupted.Given as goal

-- a write that was interrupted appended nothing
abbrev pub invariant-loop-try : goal.invariant-loop-try
invariant-loop-try g l = Keeps (g.W.Write.contents l.initial.inner) (g.W.Write.contents l.inner)
