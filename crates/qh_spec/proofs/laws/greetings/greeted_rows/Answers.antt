use Rattle.std.proofs.Common.{inl, refl, [], ◌∷◌}
use Rattle.qh_spec.specs.GreetedRows.{carrying_crypto, limit_hello}
use Rattle.qh_spec.specs.declared.sides.Side.TheVariants.{Client}
use Rattle.qh_spec.proofs.GreetedRows.{announced_by_one, halves_greet, half_not, nothing_greets_not, other_frames_not, other_side_not}
use Rattle.qh_spec.proofs.laws.greetings.greeted_rows.Goals as goal

pub returns-clause-row : goal.returns-clause-row
returns-clause-row c = announced_by_one (carrying_crypto Client 0 limit_hello ∷ []) (inl refl)

pub returns-clause-halves : goal.returns-clause-halves
returns-clause-halves c = halves_greet

pub returns-clause-half : goal.returns-clause-half
returns-clause-half c = half_not

pub returns-clause-nothing : goal.returns-clause-nothing
returns-clause-nothing c = nothing_greets_not

pub returns-clause-other_frames : goal.returns-clause-other_frames
returns-clause-other_frames c = other_frames_not

pub returns-clause-other_side : goal.returns-clause-other_side
returns-clause-other_side c = other_side_not
