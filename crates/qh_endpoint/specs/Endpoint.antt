-- What a contract sees of an endpoint.
use Rattle.std.specs.Prelude.{ℕ, List, Option, map}
use Rattle.qh_attempts.specs.Attempts.{PlainBuffers}
use Rattle.qh_attempts.specs.declared.attempt.BufferLimits.{BufferLimits}
use Rattle.qh_base.specs.declared.time.Moment.{Moment}
use Rattle.qh_connections.specs.Connections.{PlainConnections}
use Rattle.qh_endpoint.specs.declared.incoming.Waiting.{Waiting}
use Rattle.qh_incoming_token.specs.declared.incoming_token.TokenLifetimes.{TokenLifetimes}
use Rattle.qh_kit.specs.declared.config.EndpointConfig.{EndpointConfig}
use Rattle.qh_kit.specs.declared.config.ServerConfig.{ServerConfig}
use Rattle.qh_packet.specs.Version.{number_of}

-- its settings, what it is made with, its connections and routes, the attempts that wait, and when it sent the last stateless reset
pub record PlainEndpoint (K G R T : Type 0) : Type 0 where
  pub config : EndpointConfig
  pub server : Option ServerConfig
  pub kit : K
  pub words : R
  pub token_log : T
  pub connections : PlainConnections G
  pub incoming : PlainBuffers Waiting
  pub last_reset : Option Moment

-- the numbers of its versions
abbrev pub numbers : EndpointConfig → List ℕ
numbers config = map number_of config.versions.items

abbrev pub lifetimes_of : ServerConfig → TokenLifetimes
lifetimes_of s = record { retry = s.retry_token_lifetime; validation = s.validation_lifetime }

abbrev pub limits_of : ServerConfig → BufferLimits
limits_of s = record { incoming_buffer_size = s.incoming_buffer_size; incoming_buffer_size_total = s.incoming_buffer_size_total }
