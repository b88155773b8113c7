use Rattle.qh_stateless.proofs.Headers.{apart, one, unsupported_once}
use Rattle.qh_stateless.proofs.Malformed.{is_malformed, is_wrong}
use Rattle.qh_stateless.proofs.header.datagram_headers.Goals as goal

pub returns-clause-one : goal.returns-clause-one
returns-clause-one c = one

pub returns-clause-apart : goal.returns-clause-apart
returns-clause-apart c = apart

pub returns-clause-unsupported : goal.returns-clause-unsupported
returns-clause-unsupported c = unsupported_once

pub returns-clause-malformed : goal.returns-clause-malformed
returns-clause-malformed c = is_malformed

pub returns-clause-wrong : goal.returns-clause-wrong
returns-clause-wrong c = is_wrong
