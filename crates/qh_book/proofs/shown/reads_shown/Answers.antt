use Rattle.qh_book.proofs.ShownReads.{blocked_stepped, bytes_read_stepped, end_stepped, illegal_stepped, lost_stepped, nothing_stepped, reset_stepped}
use Rattle.qh_book.proofs.shown.reads_shown.Goals as goal

pub returns-clause-bytes : goal.returns-clause-bytes
returns-clause-bytes g c = λ old mid new notes b id max_length is_ordered live shown held can begins mid_is new_is. bytes_read_stepped old mid new b id max_length is_ordered live shown held can begins mid_is new_is g.row.T.Denot

pub returns-clause-end : goal.returns-clause-end
returns-clause-end g c = λ old mid new notes b id max_length is_ordered live shown held can begins mid_is new_is. end_stepped old mid new b id max_length is_ordered live shown held can begins mid_is new_is g.row.T.Denot

pub returns-clause-reset : goal.returns-clause-reset
returns-clause-reset g c = λ old mid new notes b id max_length is_ordered live shown held can begins mid_is new_is. reset_stepped old mid new b id max_length is_ordered live shown held can begins mid_is new_is g.row.T.Denot

pub returns-clause-blocked : goal.returns-clause-blocked
returns-clause-blocked g c = λ old mid new notes b id max_length is_ordered live shown held can begins mid_is new_is. blocked_stepped old mid new b id max_length is_ordered live shown held can begins mid_is new_is g.row.T.Denot

pub returns-clause-lost : goal.returns-clause-lost
returns-clause-lost g c = λ old mid new notes b id max_length is_ordered live shown held can begins mid_is new_is. lost_stepped old mid new b id max_length is_ordered live shown held can begins mid_is new_is g.row.T.Denot

pub returns-clause-illegal : goal.returns-clause-illegal
returns-clause-illegal g c = λ s notes b id max_length is_ordered shown held refused some. illegal_stepped g.row.T.Denot s b id is_ordered shown held refused max_length some

pub returns-clause-nothing : goal.returns-clause-nothing
returns-clause-nothing g c = λ s notes b id is_ordered offset shown held refused. nothing_stepped g.row.T.Denot s b id is_ordered shown held refused offset
