use Rattle.std.proofs.Common.{refl, ap}
use Rattle.std.specs.Option.{option_map}
use Rattle.qh_book.proofs.ShownEmptied.{none_waits, read_illegal, read_lost, read_nothing, reset_lost, shut_code, shut_none, shut_nothing, shut_read, shut_stop, stop_taken}
use Rattle.qh_book.specs.Pages.{without_waiting}
use Rattle.qh_book.proofs.shown.emptied_shown.Goals as goal

pub returns-clause-error : goal.returns-clause-error
returns-clause-error g c = λ b. refl

pub returns-clause-gone : goal.returns-clause-gone
returns-clause-gone g c = λ b id. (refl, refl)

pub returns-clause-accepted : goal.returns-clause-accepted
returns-clause-accepted g c = none_waits

pub returns-clause-datagrams : goal.returns-clause-datagrams
returns-clause-datagrams g c = λ b. (refl, refl)

pub returns-clause-none : goal.returns-clause-none
returns-clause-none g c = λ b k none. ap (option_map without_waiting) none

pub returns-clause-some : goal.returns-clause-some
returns-clause-some g c = λ b k p is. ap (option_map without_waiting) is

pub returns-clause-read_lost : goal.returns-clause-read_lost
returns-clause-read_lost g c = λ b id max_length is_ordered p e held is. read_lost g.row.T.Denot b id held p is max_length is_ordered e

pub returns-clause-read_illegal : goal.returns-clause-read_illegal
returns-clause-read_illegal g c = λ b id max_length is_ordered p held is. read_illegal g.row.T.Denot b id held p is max_length is_ordered

pub returns-clause-read_nothing : goal.returns-clause-read_nothing
returns-clause-read_nothing g c = λ b id is_ordered p offset held is. read_nothing g.row.T.Denot b id held p is is_ordered offset

pub returns-clause-stop : goal.returns-clause-stop
returns-clause-stop g c = λ b id code p held is. stop_taken g.row.T.Denot b id held p is code

pub returns-clause-reset_lost : goal.returns-clause-reset_lost
returns-clause-reset_lost g c = λ b id p e held is. reset_lost g.row.T.Denot b id held p is e

pub returns-clause-shut_read : goal.returns-clause-shut_read
returns-clause-shut_read g c = λ b id max_length is_ordered p held is shut. shut_read g.row.T.Denot b id held p is shut max_length is_ordered

pub returns-clause-shut_nothing : goal.returns-clause-shut_nothing
returns-clause-shut_nothing g c = λ b id is_ordered p offset held is shut. shut_nothing g.row.T.Denot b id held p is shut is_ordered offset

pub returns-clause-shut_stop : goal.returns-clause-shut_stop
returns-clause-shut_stop g c = λ b id code p held is shut. shut_stop g.row.T.Denot b id held p is shut code

pub returns-clause-shut_code : goal.returns-clause-shut_code
returns-clause-shut_code g c = λ b id p code held is. shut_code g.row.T.Denot b id held p is code

pub returns-clause-shut_none : goal.returns-clause-shut_none
returns-clause-shut_none g c = λ b id p held is shut. shut_none g.row.T.Denot b id held p is shut

pub returns-clause-unheld_read : goal.returns-clause-unheld_read
returns-clause-unheld_read g c = λ b id max_length is_ordered off. rw off (refl, refl)

pub returns-clause-unheld_stop : goal.returns-clause-unheld_stop
returns-clause-unheld_stop g c = λ b id code off. rw off (refl, refl)

pub returns-clause-unheld_reset : goal.returns-clause-unheld_reset
returns-clause-unheld_reset g c = λ b id off. rw off (refl, refl)

pub returns-clause-unheld_end : goal.returns-clause-unheld_end
returns-clause-unheld_end g c = λ b id off. rw off (refl, refl)
