-- What an end says, of its parameters as the code has them.
use Rattle.std.specs.Prelude.{◌≡◌, ℕ, List, [], ◌∷◌, ◌++◌, Option}
use Rattle.std.specs.Option.{option_map}
use Rattle.qh_base.specs.declared.shared.ResetToken.{ResetToken}
use Rattle.qh_hello.specs.declared.transport_parameters.TransportParameters.{TransportParameters}
use Rattle.qh_spec.specs.ParameterIds as parameter_ids
use Rattle.qh_spec.specs.Hello.{Parameter, Hello, FirstLimits, Greeting, hello_of, number_parameter, bytes_if_some, number_if_some, SaysLimits, SaysIdleTimeout, SaysIdLimit, SaysDatagramSize, SaysSourceId, SaysOriginalId, SaysRetryId, SaysResetToken, SaysServerName}
use Rattle.qh_spec.specs.declared.sides.Side.{Side}
use Rattle.qh_spec.specs.declared.sides.Side.TheVariants.{Client}

-- the bytes of a token
abbrev pub token_of : Option ResetToken → Option (List ℕ)
token_of token = option_map (λ t. t.0) token

abbrev pub limits_of : TransportParameters → FirstLimits
limits_of t = record {
  max_data = t.initial_max_data;
  bidi_local = t.initial_max_stream_data_bidi_local;
  bidi_remote = t.initial_max_stream_data_bidi_remote;
  uni = t.initial_max_stream_data_uni;
  max_bidi = t.initial_max_streams_bidi;
  max_uni = t.initial_max_streams_uni;
}

-- what an end with these parameters says, and with this server name
abbrev pub greeting : Side → (name : List ℕ) → TransportParameters → Greeting
greeting sender name t = record {
  sender = sender;
  server_name = name;
  original_id = t.original_destination_connection_id;
  idle = t.max_idle_timeout;
  reset_token = token_of t.stateless_reset_token;
  limits = limits_of t;
  id_limit = t.active_connection_id_limit;
  source_id = t.initial_source_connection_id;
  retry_id = t.retry_source_connection_id;
  datagram = t.max_datagram_frame_size;
}

-- the parameters of its hello, whoever says it
abbrev pub parameters_of : TransportParameters → List Parameter
parameters_of t = (hello_of (greeting Client [] t)).parameters

-- those before the limits, and those behind them
abbrev pub first_parameters : TransportParameters → List Parameter
first_parameters t =
    bytes_if_some parameter_ids.original_destination_connection_id t.original_destination_connection_id
    ++ (number_parameter parameter_ids.max_idle_timeout t.max_idle_timeout ∷ bytes_if_some parameter_ids.stateless_reset_token (token_of t.stateless_reset_token))

abbrev pub last_parameters : TransportParameters → List Parameter
last_parameters t =
    number_parameter parameter_ids.active_connection_id_limit t.active_connection_id_limit
    ∷ record { id = parameter_ids.initial_source_connection_id; value = t.initial_source_connection_id }
    ∷ (bytes_if_some parameter_ids.retry_source_connection_id t.retry_source_connection_id
    ++ number_if_some parameter_ids.max_datagram_frame_size t.max_datagram_frame_size)

-- the hello says exactly these parameters
pub record SaysParameters (h : Hello) (t : TransportParameters) : Type 0 where
  pub limits : SaysLimits h (limits_of t)
  pub idle : SaysIdleTimeout h t.max_idle_timeout
  pub id_limit : SaysIdLimit h t.active_connection_id_limit
  pub datagram : SaysDatagramSize h t.max_datagram_frame_size
  pub source_id : SaysSourceId h t.initial_source_connection_id
  pub original_id : SaysOriginalId h t.original_destination_connection_id
  pub retry_id : SaysRetryId h t.retry_source_connection_id
  pub reset_token : SaysResetToken h (token_of t.stateless_reset_token)

-- the hello says exactly what the greeting has
pub record SaysGreeting (h : Hello) (g : Greeting) : Type 0 where
  pub sender : h.sender ≡ g.sender
  pub server_name : SaysServerName h g.server_name
  pub limits : SaysLimits h g.limits
  pub idle : SaysIdleTimeout h g.idle
  pub id_limit : SaysIdLimit h g.id_limit
  pub datagram : SaysDatagramSize h g.datagram
  pub source_id : SaysSourceId h g.source_id
  pub original_id : SaysOriginalId h g.original_id
  pub retry_id : SaysRetryId h g.retry_id
  pub reset_token : SaysResetToken h g.reset_token
