use Rattle.qh_peers.proofs.EndGreetable.{endpoint_can, fresh_can, given_can, issued_can, peer_can, sent_can, timed_can, told_can}
use Rattle.qh_peers.proofs.RetryTaken.{retry_can}
use Rattle.qh_peers.proofs.ends.can_greet.Goals as goal

pub returns : goal.returns
returns g c = record {
  fresh = fresh_can;
  given = λ v now d hc hq x q new tc tq named tags e among handled can. given_can v hc hq x q tc tq e named tags now d among new handled can;
  retried = λ v now d x new peer r. retry_can v now d r x new peer;
  sent = sent_can;
  timed = timed_can;
  told = told_can;
  endpoint_told = endpoint_can;
  issued = issued_can;
  peer = peer_can;
}
