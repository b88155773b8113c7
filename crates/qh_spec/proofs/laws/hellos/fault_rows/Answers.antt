use Rattle.qh_spec.proofs.HelloFaultRows.{repeated_is, unknown_repeated_is, token_from_client_is, original_from_client_is, bytes_behind_is, no_bytes_is, another_source_is, no_source_is, no_original_is, retry_not_due_is, token_length_is, few_ids_is, many_streams_is}
use Rattle.qh_spec.proofs.HelloNearRows.{long_name_is}
use Rattle.qh_spec.proofs.laws.hellos.fault_rows.Goals as goal

pub returns-clause-long_name : goal.returns-clause-long_name
returns-clause-long_name c = long_name_is

pub returns-clause-repeated : goal.returns-clause-repeated
returns-clause-repeated c = repeated_is

pub returns-clause-unknown_repeated : goal.returns-clause-unknown_repeated
returns-clause-unknown_repeated c = unknown_repeated_is

pub returns-clause-token_from_client : goal.returns-clause-token_from_client
returns-clause-token_from_client c = token_from_client_is

pub returns-clause-original_from_client : goal.returns-clause-original_from_client
returns-clause-original_from_client c = original_from_client_is

pub returns-clause-bytes_behind : goal.returns-clause-bytes_behind
returns-clause-bytes_behind c = bytes_behind_is

pub returns-clause-no_bytes : goal.returns-clause-no_bytes
returns-clause-no_bytes c = no_bytes_is

pub returns-clause-another_source : goal.returns-clause-another_source
returns-clause-another_source c = another_source_is

pub returns-clause-no_source : goal.returns-clause-no_source
returns-clause-no_source c = no_source_is

pub returns-clause-no_original : goal.returns-clause-no_original
returns-clause-no_original c = no_original_is

pub returns-clause-retry_not_due : goal.returns-clause-retry_not_due
returns-clause-retry_not_due c = retry_not_due_is

pub returns-clause-token_length : goal.returns-clause-token_length
returns-clause-token_length c = token_length_is

pub returns-clause-few_ids : goal.returns-clause-few_ids
returns-clause-few_ids c = few_ids_is

pub returns-clause-many_streams : goal.returns-clause-many_streams
returns-clause-many_streams c = many_streams_is
