use Rattle.qh_peers.proofs.EndGreets.{greets_so}
use Rattle.qh_peers.proofs.ends.greets.Goals as goal

pub returns : goal.returns
returns g c = record {
  greets = λ v now d hc hq x q new tc tq named tags takes e are can among greeting handled. greets_so v hc hq x q tc tq e named tags now d among takes are can greeting new handled;
}
