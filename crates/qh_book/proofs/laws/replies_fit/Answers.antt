use Rattle.std.proofs.Common.{◌≡◌, true}
use Rattle.qh_book.proofs.Fitting.{step_form}
use Rattle.qh_book.proofs.laws.replies_fit.Goals as goal

pub returns : goal.returns
returns g c = λ is_of. step_form (λ d value. is_of d value ≡ true)
