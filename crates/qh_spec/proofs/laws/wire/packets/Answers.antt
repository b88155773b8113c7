use Rattle.qh_spec.proofs.PacketLaws.{tag_is_one, forms_agree, initials_agree, one_packet}
use Rattle.qh_spec.proofs.PacketRows.{two_are, two_only, skipped, version_two_none, forged_is, misnumbered_none}
use Rattle.qh_spec.proofs.laws.wire.packets.Goals as goal

pub returns-clause-tags : goal.returns-clause-tags
returns-clause-tags c = tag_is_one

pub returns-clause-forms : goal.returns-clause-forms
returns-clause-forms c = forms_agree

pub returns-clause-initials : goal.returns-clause-initials
returns-clause-initials c = initials_agree

pub returns-clause-short_header : goal.returns-clause-short_header
returns-clause-short_header c = one_packet

pub returns-clause-two : goal.returns-clause-two
returns-clause-two c = two_are

pub returns-clause-two_only : goal.returns-clause-two_only
returns-clause-two_only c = two_only

pub returns-clause-skipped_row : goal.returns-clause-skipped_row
returns-clause-skipped_row c = skipped

pub returns-clause-near_initial_row : goal.returns-clause-near_initial_row
returns-clause-near_initial_row c = version_two_none

pub returns-clause-row : goal.returns-clause-row
returns-clause-row c = forged_is

pub returns-clause-near_row : goal.returns-clause-near_row
returns-clause-near_row c = misnumbered_none
