use Rattle.std.proofs.Common.{◌≡◌, ◌==◌, ℕ, true, false, ap, sym, ◌∙◌}
use Rattle.std.proofs.lemmas.Bool.Decides.{Decides-eqb}
use Rattle.std.specs.Prelude.{not}
use Rattle.qh_conn.specs.Incoming.{HasHeard}
use Rattle.qh_conn.proofs.connection.Connection.has_heard.Goals as goal

differ : (a b : ℕ) → not (a == b) ≡ true → a ≡ b → ⊥
differ a b apart same = let z : true ≡ false = sym apart ∙ ap not ((Decides-eqb a b).1 same) in cc

pub returns-in-Some-clause-yes : goal.returns-in-Some-clause-yes
returns-in-Some-clause-yes g c = λ before known differs.
    HasHeard.accepted c.in-Some.space c.in-Some.is (λ same. differ c.in-Some.space.packets_accepted c.args.known.packets_accepted differs (same ∙ sym known.packets_accepted))
