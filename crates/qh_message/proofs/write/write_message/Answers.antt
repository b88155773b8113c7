use Rattle.std.proofs.Common.{Vec, Global, ℕ}
use Rattle.qh_message.proofs.Sections.{written_if, section_fits, last_fits}
use Rattle.qh_message.proofs.write.write_message.Goals as goal

pub frames_of-requires-clause-section : goal.frames_of-requires-clause-section
frames_of-requires-clause-section c = section_fits c.args.message.now _ _ _ c.requires c.in_ok-section.ensures c.head.ensures c.fields.ensures

pub frames_of-requires-clause-last : goal.frames_of-requires-clause-last
frames_of-requires-clause-last c = last_fits c.args.message.now _ _ c.requires c.in_ok-last.ensures c.trailers.ensures

pub returns-clause-spells : goal.returns-clause-spells
returns-clause-spells c =
    written_if _ _ (λ (v : Vec ℕ Global). v.items) c.frames_of.result c.args.message.now _ _ c.in_ok-section.section c.body.result.now c.in_ok-last.last _ c.requires c.in_ok-section.ensures c.head.ensures c.fields.ensures
    c.body.ensures c.in_ok-last.ensures c.trailers.ensures c.frames_of.ensures
