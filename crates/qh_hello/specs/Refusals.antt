-- Why a hello is refused, as the code tells it.
use Rattle.std.specs.Prelude.{ℕ, ◌<◌, ◌≤◌, List, length}
use Rattle.qh_hello.specs.declared.hello.ConnectionIds.{ConnectionIds}
use Rattle.qh_hello.specs.declared.hello.HelloError.{HelloError}
use Rattle.qh_hello.specs.declared.hello.HelloError.TheVariants.{Fault, Memory}
use Rattle.qh_hello.specs.declared.hello.HelloFault.{HelloFault as AFault}
use Rattle.qh_hello.specs.declared.hello.HelloFault.TheVariants as told
use Rattle.qh_hello.specs.Parts.{HasDistinctFront}
use Rattle.qh_spec.specs.Hello.{Hello, IfThere, IsHelloOf}
use Rattle.qh_spec.specs.HelloFaults.{IdsUsed, HelloFault, NotAHello, LongName, RepeatedId, ServerOnly, NotANumber, OtherId, TokenLength, OutOfRange, place_of, Keeps, IsHelloFault}
use Rattle.qh_spec.specs.declared.sides.Side.{Side}

-- the ids that were used
abbrev pub ids_of : ConnectionIds → IdsUsed
ids_of used = record { original = used.original; source = used.source; retry = used.retry }

-- each has at most 20 bytes (RFC 9000, section 17.2)
pub record AreShort (used : IdsUsed) : Type 0 where
  pub original : IfThere (λ (id : List ℕ). length id ≤ 20) used.original
  pub source : length used.source ≤ 20
  pub retry : IfThere (λ (id : List ℕ). length id ≤ 20) used.retry

-- the fault that the code names
abbrev pub fault_of : AFault → HelloFault
fault_of told.NotAHello = NotAHello
fault_of told.LongName = LongName
fault_of told.RepeatedId = RepeatedId
fault_of told.ServerOnly = ServerOnly
fault_of told.NotANumber = NotANumber
fault_of told.OtherId = OtherId
fault_of told.TokenLength = TokenLength
fault_of told.OutOfRange = OutOfRange

-- The bytes have this fault. Memory is needed only to check the ids of a hello of the sender's with a name of at most 255 bytes, at a
-- parameter before which no id is repeated.
abbrev pub IsRefused : Side → IdsUsed → List ℕ → HelloError → Type 0
IsRefused sender used bytes (Fault fault) = IsHelloFault sender used bytes (fault_of fault)
IsRefused sender used bytes Memory = (h : Hello) × IsHelloOf sender bytes h × (length h.server_name ≤ 255) × HasDistinctFront h.parameters

-- the rules from that of ServerOnly on are kept
pub record KeepsLater (used : IdsUsed) (h : Hello) : Type 0 where
  pub server_only : Keeps used h ServerOnly
  pub numbers : Keeps used h NotANumber
  pub ids : Keeps used h OtherId
  pub token : Keeps used h TokenLength
  pub range : Keeps used h OutOfRange

-- this is the first of them that is broken
pub record BreaksLater (used : IdsUsed) (h : Hello) (fault : HelloFault) : Type 0 where
  pub later : place_of RepeatedId < place_of fault
  pub broken : Keeps used h fault → ⊥
  pub below : (rule : HelloFault) → place_of RepeatedId < place_of rule → place_of rule < place_of fault → Keeps used h rule
