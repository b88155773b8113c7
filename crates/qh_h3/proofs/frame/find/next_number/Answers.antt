use Rattle.std.proofs.Common.{◌≡◌, refl, subst}
use Rattle.qh_h3.specs.Typed.{HasNoNumber}
use Rattle.qh_h3.proofs.frame.find.next_number.Goals as goal

pub returns-in-None : goal.returns-in-None
returns-in-None c = (refl, subst HasNoNumber c.as_slice.ensures c.in-None.ensures.none)
