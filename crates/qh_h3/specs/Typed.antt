-- The type with which a one-way stream begins (RFC 9114, section 6.2).
use Rattle.std.specs.Prelude.{◌≡◌, ◌+◌, ℕ, Bool, true, List, ◌++◌, take, Option, Some, None, Result, Ok, Err}
use Rattle.futures.specs.declared.task.Poll.{Poll}
use Rattle.futures.specs.declared.task.Poll.TheVariants.{Ready, Pending}
use Rattle.qh_spec.specs.Varint.{IsVarint}
use Rattle.qh_h3.specs.Counts.{Counts}
use Rattle.qh_h3.specs.Frames.{Held, IsCounted, IsTaken}
use Rattle.qh_h3.specs.Streams.{Received, Taken}
use Rattle.qh_h3.specs.declared.frame.error.FrameStreamError.{FrameStreamError}
use Rattle.qh_h3.specs.declared.frame.error.FrameStreamError.TheVariants.{Quic, Memory}

-- no form of a number stands in front of the bytes
abbrev pub HasNoNumber : List ℕ → Type 0
HasNoNumber bytes = (n k : ℕ) → IsVarint (take k bytes) n → ⊥

-- the number in front of the bytes, of which this rest is left
abbrev pub IsNumber : Option ℕ → (bytes rest : List ℕ) → Type 0
IsNumber (Some n) bytes rest = (form : List ℕ) × (bytes ≡ form ++ rest) × IsVarint form n
IsNumber None bytes rest = (rest ≡ bytes) × HasNoNumber bytes

-- a number was looked for in what is held
abbrev pub IsNumberLook : Result (Option ℕ) FrameStreamError → (old new : Held) → Type 0
IsNumberLook (Ok found) old new = IsNumber found old.bytes new.bytes × (new.left ≡ old.left) × (new.is_ended ≡ old.is_ended)
IsNumberLook (Err Memory) old new = new ≡ old
IsNumberLook (Err other) old new = ⊥

-- what was found in the bytes that were held and taken
abbrev pub IsTypeAnswer : Poll (Result (Option ℕ) FrameStreamError) → List ℕ → (new : Held) → Type 0
IsTypeAnswer (Ready (Ok (Some n))) bytes new = IsNumber (Some n) bytes new.bytes
IsTypeAnswer (Ready (Ok None)) bytes new = IsNumber None bytes new.bytes × (new.is_ended ≡ true)
IsTypeAnswer (Ready (Err (Quic e))) bytes new = IsNumber None bytes new.bytes
IsTypeAnswer (Ready (Err Memory)) bytes new = new.bytes ≡ bytes
IsTypeAnswer (Ready (Err other)) bytes new = ⊥
IsTypeAnswer Pending bytes new = IsNumber None bytes new.bytes

-- A call looked for the type: what was held and taken is the type, and what is held.
pub record IsTyped (answer : Poll (Result (Option ℕ) FrameStreamError)) (limit spared : ℕ) (before after : Option Received) (counts_old counts_new : Counts) (old new : Held) : Type 0 where
  pub took : Taken
  pub count : ℕ
  pub taken : IsTaken took count before after old new
  pub is : IsTypeAnswer answer (old.bytes ++ took.bytes) new
  pub left : new.left ≡ old.left
  pub counted : IsCounted spared count answer counts_old counts_new
  pub within : count + spared ≡ limit
