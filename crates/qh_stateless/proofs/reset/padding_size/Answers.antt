use Rattle.std.proofs.Common.{[], ◌∷◌, refl, arith}
use Rattle.qh_stateless.specs.Reset.{long}
use Rattle.qh_stateless.proofs.reset.padding_size.Goals as goal

pub returns-clause-size : goal.returns-clause-size
returns-clause-size g c = (c.next.result ∷ [], c.next.ensures, long c.next.result (omega (arith, c.if-most-le-IDEAL_MIN_PADDING_LEN.false)) refl refl)
