use Rattle.std.proofs.Common.{refl}
use Rattle.qh_spec.proofs.HelloWritten.{has_spelling, says_limits, says_idle, says_id_limit, source_value, original_value, retry_value, token_value, says_datagram}
use Rattle.qh_spec.proofs.laws.hellos.greeting.Goals as goal

pub returns-clause-spelling : goal.returns-clause-spelling
returns-clause-spelling c = has_spelling

pub returns-clause-limits : goal.returns-clause-limits
returns-clause-limits c = says_limits

pub returns-clause-idle : goal.returns-clause-idle
returns-clause-idle c = says_idle

pub returns-clause-id_limit : goal.returns-clause-id_limit
returns-clause-id_limit c = says_id_limit

pub returns-clause-source_id : goal.returns-clause-source_id
returns-clause-source_id c = source_value

pub returns-clause-original_id : goal.returns-clause-original_id
returns-clause-original_id c = original_value

pub returns-clause-retry_id : goal.returns-clause-retry_id
returns-clause-retry_id c = retry_value

pub returns-clause-reset_token : goal.returns-clause-reset_token
returns-clause-reset_token c = token_value

pub returns-clause-server_name : goal.returns-clause-server_name
returns-clause-server_name c g = refl

pub returns-clause-datagram : goal.returns-clause-datagram
returns-clause-datagram c = says_datagram
