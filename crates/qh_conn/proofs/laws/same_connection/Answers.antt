use Rattle.qh_conn.proofs.Same.{both_same, locally_stays, same_core, same_of_control, same_self}
use Rattle.qh_conn.proofs.laws.same_connection.Goals as goal

pub returns : goal.returns
returns g c = record {
  same = λ key x. same_self key x;
  both = λ key old mid new p q. both_same key old mid new p q;
  called = λ key x core acts made. same_core key x core (locally_stays x.core core acts made);
  control = λ key x control is. same_of_control key x control is;
}
