use Rattle.std.proofs.Common.{refl}
use Rattle.qh_routes.proofs.laws.removal_is_complete.Goals as goal

pub returns : goal.returns
returns c keys target old new removed all k i = let h = (removed k target).0 i in h.0 (all k h.1, refl)
