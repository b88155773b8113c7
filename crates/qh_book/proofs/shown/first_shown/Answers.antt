use Rattle.qh_book.proofs.ShownFirst.{anew_shown, first_shown, peer_shown, window_shown}
use Rattle.qh_book.proofs.ShownMarks.{concurrent_shown, receive_window_shown}
use Rattle.qh_book.proofs.shown.first_shown.Goals as goal

pub returns-clause-first : goal.returns-clause-first
returns-clause-first c = first_shown

pub returns-clause-peer : goal.returns-clause-peer
returns-clause-peer c = λ s notes b. peer_shown s b

pub returns-clause-window : goal.returns-clause-window
returns-clause-window c = λ s notes b. window_shown s b

pub returns-clause-concurrent : goal.returns-clause-concurrent
returns-clause-concurrent c = λ s notes b. concurrent_shown s b

pub returns-clause-receive_window : goal.returns-clause-receive_window
returns-clause-receive_window c = λ s notes b. receive_window_shown s b

pub returns-clause-anew : goal.returns-clause-anew
returns-clause-anew c = λ s t notes b. anew_shown s t b
