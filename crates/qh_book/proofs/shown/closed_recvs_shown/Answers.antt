use Rattle.qh_book.proofs.ShownStops.{half_page, read_ended, read_nothing, read_unknown, read_unknown_lost, reset_noted, reset_unknown}
use Rattle.qh_book.proofs.shown.closed_recvs_shown.Goals as goal

pub returns-clause-nothing : goal.returns-clause-nothing
returns-clause-nothing g c = λ s notes b id is_ordered offset shown refused. read_nothing g.row.T.Denot s b id shown is_ordered refused offset

pub returns-clause-end : goal.returns-clause-end
returns-clause-end g c = λ s notes b id max_length is_ordered shown refused some. read_ended g.row.T.Denot s b id shown is_ordered refused max_length some

pub returns-clause-closed : goal.returns-clause-closed
returns-clause-closed g c = λ s notes b id max_length is_ordered shown refused some. read_unknown g.row.T.Denot s b id shown is_ordered refused max_length some

pub returns-clause-lost : goal.returns-clause-lost
returns-clause-lost g c = λ s notes b id max_length is_ordered e shown refused some. read_unknown_lost g.row.T.Denot s b id shown is_ordered refused max_length some e

pub returns-clause-code : goal.returns-clause-code
returns-clause-code g c = λ s notes b id code shown held. reset_noted g.row.T.Denot s b id shown held code

pub returns-clause-no_code : goal.returns-clause-no_code
returns-clause-no_code g c = λ s notes b id shown. reset_unknown g.row.T.Denot s b id shown

pub returns-clause-half : goal.returns-clause-half
returns-clause-half g c = λ s notes b id. half_page s b id
