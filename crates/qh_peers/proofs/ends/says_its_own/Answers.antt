use Rattle.qh_peers.proofs.HonestSteps.{says_what}
use Rattle.qh_peers.proofs.ends.says_its_own.Goals as goal

pub returns-clause-said : goal.returns-clause-said
returns-clause-said g c = says_what

pub returns-clause-origin : goal.returns-clause-origin
returns-clause-origin g c = λ original retry validated x w. record { fits = w.fits; limits = w.limits; datagrams = w.datagrams; idle = w.idle; ids = w.ids; token = w.token }

pub returns-clause-borne : goal.returns-clause-borne
returns-clause-borne g c = λ token x w. record { fits = w.fits; limits = w.limits; datagrams = w.datagrams; idle = w.idle; ids = w.ids; token = w.token }
