use Rattle.qh_service.specs.Message.{head_of}
use Rattle.qh_message.proofs.Sections.{head_section_if}
use Rattle.qh_message.proofs.write.head_section.Goals as goal

pub returns : goal.returns
returns c =
    head_section_if _ c.section_of.result (head_of c.args.head.now) c.args.fields.now c.in_ok-header_of.field-0 c.requires c.in_ok-header_of.ensures c.section_of.ensures.section c.section_of.ensures.sendable
