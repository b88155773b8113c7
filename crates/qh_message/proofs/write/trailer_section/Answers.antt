use Rattle.qh_message.proofs.Sections.{trailer_section_is}
use Rattle.qh_message.proofs.write.trailer_section.Goals as goal

pub returns-in_ok-section-in-Some : goal.returns-in_ok-section-in-Some
returns-in_ok-section-in-Some c =
    rw (c.in-Some.is, ← c.in_ok-copy_of-in-Some.ensures)
    (trailer_section_is c.in_ok-copy_of-in-Some.field-0 c.in_ok-section-in-Some.section (rw c.trailer.ensures at c.in_ok-section-in-Some.ensures.section) (rw c.trailer.ensures at c.in_ok-section-in-Some.ensures.sendable))
