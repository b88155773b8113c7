use Rattle.std.proofs.Common.{inl, inr, refl, [], ◌∷◌}
use Rattle.qh_spec.specs.GreetedRows.{carrying_crypto, limit_hello, carrying_max_data}
use Rattle.qh_spec.specs.declared.sides.Side.TheVariants.{Client}
use Rattle.qh_spec.proofs.AnnouncedRows.{hello_announces, frame_announced, frame_announces, near_announced, other_limit_not, other_sender_not, first_of_streams}
use Rattle.qh_spec.proofs.laws.greetings.announced_rows.Goals as goal

pub returns-clause-hello : goal.returns-clause-hello
returns-clause-hello c = hello_announces (carrying_crypto Client 0 limit_hello ∷ []) (inl refl)

pub returns-clause-frame : goal.returns-clause-frame
returns-clause-frame c = frame_announced

pub returns-clause-both : goal.returns-clause-both
returns-clause-both c = (hello_announces (carrying_max_data ∷ carrying_crypto Client 0 limit_hello ∷ []) (inr (inl refl)), frame_announces (carrying_max_data ∷ carrying_crypto Client 0 limit_hello ∷ []) (inl refl))

pub returns-clause-near_frame : goal.returns-clause-near_frame
returns-clause-near_frame c = near_announced

pub returns-clause-other_limit : goal.returns-clause-other_limit
returns-clause-other_limit c = other_limit_not

pub returns-clause-other_sender : goal.returns-clause-other_sender
returns-clause-other_sender c = other_sender_not

pub returns-clause-streams : goal.returns-clause-streams
returns-clause-streams c = first_of_streams
