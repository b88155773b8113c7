-- How a connection is closed for its error (RFC 9114, section 8).
use Rattle.std.specs.Prelude.{◌≡◌, ◌⊎◌, ℕ, Bool, true, false, List, [], ◌∷◌, ◌++◌, Option, Some, None, Result, Ok, Err}
use Rattle.futures.specs.declared.task.Poll.{Poll}
use Rattle.futures.specs.declared.task.Poll.TheVariants.{Ready, Pending}
use Rattle.qh_spec.specs.Codes as codes
use Rattle.qh_h3.specs.Connections.{Closing}
use Rattle.qh_h3.specs.Errors.{connection_error}
use Rattle.qh_h3.specs.Known.{Stays}
use Rattle.qh_h3.specs.Seats.{OffersError, Seated, StateId, with_error}
use Rattle.qh_h3.specs.Streams.{told}
use Rattle.qh_h3.specs.declared.error.ConnectionError.{ConnectionError}
use Rattle.qh_h3.specs.declared.error.ConnectionError.TheVariants.{Memory}
use Rattle.qh_h3.specs.declared.error.ErrorOrigin.{ErrorOrigin}
use Rattle.qh_h3.specs.declared.error.ErrorOrigin.TheVariants.{Internal, Quic}
use Rattle.qh_h3.specs.declared.quic.error.ConnectionErrorIncoming.{ConnectionErrorIncoming}
use Rattle.qh_h3.specs.declared.quic.error.ConnectionErrorIncoming.TheVariants as lost

-- a connection, what its handle knows of the shared state, and whether it was closed for the state's error
pub record Closable (C : Type 0) : Type 0 where
  pub conn : C
  pub state : StateId
  pub seat : Seated
  pub is_handled : Bool
  -- an error that memory was wanted for when it was to be told to the state
  pub owed : Option ErrorOrigin

-- the close for an error; a connection that is lost isn't closed
abbrev pub close_of : ErrorOrigin → Option Closing
close_of (Internal e) = Some record { code = e.code.0; reason = e.message }
close_of (Quic (lost.InternalError reason)) = Some record { code = codes.h3_internal_error; reason = reason }
close_of (Quic e) = None

-- one close more, if there is one
abbrev pub closed_with : Option Closing → List Closing → List Closing
closed_with None all = all
closed_with (Some c) all = all ++ c ∷ []

-- The connection ended by this error: it was closed for it before, or it is closed for it now. Without memory for that it isn't.
abbrev pub IsSettled : ErrorOrigin → ConnectionError → (before after : Option (List Closing)) → (old new : Bool) → Type 0
IsSettled e answer before after true new = (answer ≡ connection_error e) × (after ≡ before) × (new ≡ true)
IsSettled e answer before after false true = (answer ≡ connection_error e) × (after ≡ told (closed_with (close_of e)) before)
IsSettled e answer before after false false = (answer ≡ Memory) × (after ≡ before)

-- the same of the error that a handle knows; without one memory was wanted
abbrev pub IsEnded : Option ErrorOrigin → ConnectionError → (before after : Option (List Closing)) → (old new : Bool) → Type 0
IsEnded (Some e) answer before after old new = IsSettled e answer before after old new
IsEnded None answer before after old new = (answer ≡ Memory) × (after ≡ before) × (new ≡ old)

-- want of memory ends no connection
abbrev pub is_wanting : ErrorOrigin → Bool
is_wanting (Quic lost.Memory) = true
is_wanting e = false

-- an error that is owed comes before another
abbrev pub first_owed : Option ErrorOrigin → ErrorOrigin → ErrorOrigin
first_owed None e = e
first_owed (Some owed) e = owed

-- it is owed until the handle knows an error
abbrev pub still_owed : Option ErrorOrigin → ErrorOrigin → Option ErrorOrigin
still_owed None e = Some e
still_owed (Some known) e = None

-- An error was told to the state, and the connection ends with the one that counts. If memory was wanted for it, it is owed.
pub record IsTold {C : Type 0} (e : ErrorOrigin) (answer : ConnectionError) (before after : Option (List Closing)) (old new : Closable C) : Type 0 where
  pub offered : OffersError e old.seat new.seat
  pub ended : IsEnded new.seat.error answer before after old.is_handled new.is_handled
  pub owed : new.owed ≡ still_owed new.seat.error e

-- an error was found; want of memory is none
abbrev pub IsFoundBy : {C : Type 0} → (wanting : Bool) → ErrorOrigin → ConnectionError → (before after : Option (List Closing)) → (old new : Closable C) → Type 0
IsFoundBy true e answer before after old new = (answer ≡ Memory) × (after ≡ before) × (new ≡ old)
IsFoundBy false e answer before after old new = IsTold (first_owed old.owed e) answer before after old new

-- nothing was done but to look
pub record IsSame {C : Type 0} (old new : Closable C) (before after : Option (List Closing)) : Type 0 where
  pub closes : after ≡ before
  pub handled : new.is_handled ≡ old.is_handled
  pub seat : new.seat ≡ with_error old.seat new.seat.error old.seat.own_error
  pub stays : Stays old.seat.error new.seat.error

-- the state has an error, which counts
abbrev pub IsSeen : {C : Type 0} → Option ErrorOrigin → ConnectionError → (before after : Option (List Closing)) → (old new : Closable C) → Type 0
IsSeen None answer before after old new = ⊥
IsSeen (Some e) answer before after old new = IsSettled e answer before after old.is_handled new.is_handled × (new.owed ≡ None) × (new.seat ≡ with_error old.seat new.seat.error old.seat.own_error) × Stays old.seat.error new.seat.error

-- The connection's error was looked for: one that is owed is told, and else the one that the state has counts.
abbrev pub IsLooked : {C : Type 0} → Option ErrorOrigin → Option ConnectionError → (before after : Option (List Closing)) → (old new : Closable C) → Type 0
IsLooked (Some e) (Some answer) before after old new = IsTold e answer before after old new
IsLooked (Some e) None before after old new = ⊥
IsLooked None (Some answer) before after old new = IsSeen new.seat.error answer before after old new
IsLooked None None before after old new = (new.seat.error ≡ None) × (new.owed ≡ None) × IsSame old new before after

-- ---- before HTTP/3 has begun

-- an internal error of the layer below counts as one of this end
abbrev pub own_origin : ConnectionErrorIncoming → ErrorOrigin
own_origin (lost.InternalError reason) = Internal record { code = record { 0 = codes.h3_internal_error }; message = reason }
own_origin e = Quic e

-- the connection was closed for this error, which is answered; without memory for the close it wasn't
abbrev pub IsRaw : ErrorOrigin → ConnectionError → (before after : Option (List Closing)) → Type 0
IsRaw e answer before after = ((answer ≡ connection_error e) × (after ≡ told (closed_with (close_of e)) before)) ⊎ ((answer ≡ Memory) × (after ≡ before))

-- ---- a call of the connection below

module _ {T C : Type 0} where
  -- the connection had ended, and nothing was asked
  pub record IsPast (result : Poll (Result T ConnectionError)) (before after : Option (List Closing)) (old new : Closable C) : Type 0 where
    pub answer : ConnectionError
    pub is : result ≡ Ready (Err answer)
    pub looked : IsLooked old.owed (Some answer) before after old new

  -- No error was known or owed. What was answered below is answered, and its loss ends the connection.
  abbrev pub IsPassed : Poll (Result T ConnectionErrorIncoming) → Poll (Result T ConnectionError) → (before after : Option (List Closing)) → (old new : Closable C) → Type 0
  IsPassed (Ready (Ok x)) result before after old new = (result ≡ Ready (Ok x)) × (new.seat.error ≡ None) × (new.owed ≡ None) × IsSame old new before after
  IsPassed (Ready (Err e)) result before after old new = (answer : ConnectionError) × (seen : Closable C) × (result ≡ Ready (Err answer)) × IsSame old seen before before × (seen.owed ≡ None) × (seen.seat.error ≡ None) × IsFoundBy (is_wanting (Quic e)) (Quic e) answer before after seen new
  IsPassed Pending result before after old new = (result ≡ Pending) × (new.seat.error ≡ None) × (new.owed ≡ None) × IsSame old new before after
