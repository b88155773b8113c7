use Rattle.qh_spec.specs.Section.{section_bytes}
use Rattle.qh_spec.proofs.WrittenSections.{section_written}
use Rattle.qh_qpack.proofs.FaultLaws.{no_fault}
use Rattle.qh_qpack.proofs.WrittenSizes.{section_short}
use Rattle.qh_qpack.proofs.laws.written.Goals as goal

pub returns-clause-section : goal.returns-clause-section
returns-clause-section c = section_written

pub returns-clause-read : goal.returns-clause-read
returns-clause-read c = λ max_size fields e all within. no_fault max_size (section_bytes fields) fields e (section_written fields all) within

pub returns-clause-short : goal.returns-clause-short
returns-clause-short c = λ fields all. section_short fields
