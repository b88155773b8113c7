use Rattle.qh_peers.proofs.EndRetry.{endpoint_retry, issued_retry, passed_retry, sent_retry, timed_retry, told_retry}
use Rattle.qh_peers.proofs.ends.retry_kept.Goals as goal

pub returns : goal.returns
returns g c = record {
  passed = passed_retry;
  sent = sent_retry;
  timed = timed_retry;
  told = told_retry;
  endpoint_told = endpoint_retry;
  issued = issued_retry;
}
