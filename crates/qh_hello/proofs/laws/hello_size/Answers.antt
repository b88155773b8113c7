use Rattle.qh_hello.proofs.Sizes.{hello_size}
use Rattle.qh_hello.proofs.laws.hello_size.Goals as goal

pub returns : goal.returns
returns c = hello_size
