-- What is written of parameters.
use Rattle.std.specs.Prelude.{◌≡◌, ℕ, List, ◌++◌, flat_map}
use Rattle.qh_spec.specs.Hello.{Parameter, parameter_bytes}

-- the parameters are appended
pub record IsPut (old new : List ℕ) (ps : List Parameter) : Type 0 where
  pub whole : new ≡ old ++ flat_map parameter_bytes ps
