-- The parts of a hello, as they are read.
use Rattle.std.specs.Prelude.{◌≡◌, ℕ, List, [], ◌∷◌, ◌++◌, map}
use Rattle.qh_spec.specs.Hello.{Parameter, AreParameters, Hello, IsHelloOf}
use Rattle.qh_spec.specs.Lists.{Distinct}
use Rattle.qh_spec.specs.QuicFrames.{Counted, Text, IsValue}
use Rattle.qh_spec.specs.declared.sides.Side.{Side}

-- the bytes begin with the length of the value, in any form, and the value, and go on with the rest
abbrev pub IsCounted : (bytes value rest : List ℕ) → Type 0
IsCounted bytes value rest = IsValue Counted bytes (Text value) rest

-- the bytes are this side's hello, with this name and these bytes of its parameters
pub record IsSplit (sender : Side) (bytes name parameter_bytes : List ℕ) (h : Hello) : Type 0 where
  pub is : IsHelloOf sender bytes h
  pub name_is : h.server_name ≡ name
  pub parameters : AreParameters parameter_bytes h.parameters

-- there is a parameter before which no id is repeated
pub record HasDistinctFront (ps : List Parameter) : Type 0 where
  pub front : List Parameter
  pub next : Parameter
  pub rest : List Parameter
  pub whole : ps ≡ front ++ next ∷ rest
  pub distinct : Distinct (map (λ (p : Parameter). p.id) front)

-- the bytes have the form of a hello, whatever they say: a first byte, a name and the bytes of parameters, each behind its
-- length, and nothing else
pub record IsHelloForm (front : List ℕ) : Type 0 where
  pub first : ℕ
  pub behind : List ℕ
  pub name : List ℕ
  pub counted : List ℕ
  pub parameter_bytes : List ℕ
  pub whole : front ≡ first ∷ behind
  pub name_is : IsCounted behind name counted
  pub parameters_are : IsCounted counted parameter_bytes []
