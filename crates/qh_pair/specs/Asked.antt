-- A pair whose client was asked requests.
use Rattle.std.specs.Prelude.{◌≡◌, ◌≢◌, ℕ, false, List, [], length}
use Rattle.qh_conn.specs.declared.config.ConnConfig.{ConnConfig}
use Rattle.qh_roles.specs.Client.{held}
use Rattle.qh_service.specs.declared.service.Limits.{Limits}
use Rattle.qh_spec.specs.Message.{PlainMessage}
use Rattle.qh_pair.specs.Clock.{IsClocked}
use Rattle.qh_pair.specs.Pair.{PairState, Running}

-- a pair before its first turn, with requests of which none is answered
pub record IsAsked (id_length : ℕ) (config : ConnConfig) (limits : Limits) (requests : List PlainMessage) (p : PairState) : Type 0 where
  pub running : Running p [] []
  pub clocked : IsClocked p []
  pub ids : length p.ids.client ≡ id_length
  pub config_is : p.config ≡ config
  pub limits_are : p.server.limits ≡ limits
  pub asked : p.client.requests ≡ requests
  pub lacks : held p.client.answers ≢ length p.client.requests
  pub going : p.is_over ≡ false
