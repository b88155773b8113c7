-- What passes on a stream (own; RFC 9000, section 2).
use Rattle.std.specs.Prelude.{◌≡◌, ◌≢◌, ◌≤◌, ℕ, Bool, true, false, ◌||◌, List, [], ◌++◌, length, take, drop, Option, Some, None, Result, Ok, Err}
use Rattle.futures.specs.declared.task.Poll.{Poll}
use Rattle.futures.specs.declared.task.Poll.TheVariants.{Ready, Pending}

-- ---- what is received

-- what a call took of a stream: bytes, and whether the end
pub record Taken : Type 0 where
  pub bytes : List ℕ
  pub is_ended : Bool

abbrev pub taken : List ℕ → Bool → Taken
taken bytes is_ended = record { bytes = bytes; is_ended = is_ended }

abbrev pub nothing : Taken
nothing = taken [] false

-- first a, and then b
abbrev pub then : Taken → Taken → Taken
then a b = taken (a.bytes ++ b.bytes) (a.is_ended || b.is_ended)

-- all that was done with a receiving half
pub record Received : Type 0 where
  pub bytes : List ℕ
  pub is_ended : Bool
  -- the code of a STOP_SENDING frame that was asked for (RFC 9000, section 19.5)
  pub stopped : Option ℕ

-- a half of which nothing was read
abbrev pub unread : Received
unread = record { bytes = []; is_ended = false; stopped = None }

abbrev pub reading : Taken → Received → Received
reading t r = record r { bytes = r.bytes ++ t.bytes; is_ended = r.is_ended || t.is_ended }

-- a change of what is told, if it is told
abbrev pub told : {T : Type 0} → (T → T) → Option T → Option T
told f None = None
told f (Some x) = Some (f x)

-- what is told is this, if something is told
abbrev pub IsTold : {T : Type 0} → Option T → T → Type 0
IsTold None x = Unit {0}
IsTold (Some y) x = y ≡ x

module _ {E : Type 0} where
  -- what a read took
  abbrev pub taken_by : Poll (Result (Option (List ℕ)) E) → Taken
  taken_by (Ready (Ok (Some piece))) = taken piece false
  taken_by (Ready (Ok None)) = taken [] true
  taken_by (Ready (Err e)) = nothing
  taken_by Pending = nothing

-- ---- what is sent

-- All that was done with a sending half. What was given to it and isn't written waits in it.
pub record Sent : Type 0 where
  pub written : List ℕ
  pub waiting : List ℕ
  pub is_finished : Bool
  -- the code of a RESET_STREAM frame that was asked for (RFC 9000, section 19.4)
  pub reset : Option ℕ

-- a half to which nothing was given
abbrev pub unsent : Sent
unsent = record { written = []; waiting = []; is_finished = false; reset = None }

abbrev pub giving : List ℕ → Sent → Sent
giving bytes s = record s { waiting = bytes }

-- the front of what waits was written
pub record IsWriting (old new : Sent) : Type 0 where
  pub moved : old.written ++ old.waiting ≡ new.written ++ new.waiting
  pub front : List ℕ
  pub written : new.written ≡ old.written ++ front
  pub same : (new.is_finished ≡ old.is_finished) × (new.reset ≡ old.reset)

abbrev pub writing_all : Sent → Sent
writing_all s = record s { written = s.written ++ s.waiting; waiting = [] }

abbrev pub writing : List ℕ → Sent → Sent
writing bytes s = record s { written = s.written ++ bytes }

abbrev pub finishing : Sent → Sent
finishing s = record s { is_finished = true }

abbrev pub resetting : ℕ → Sent → Sent
resetting code s = record s { reset = Some code }

abbrev pub stopping : ℕ → Received → Received
stopping code r = record r { stopped = Some code }

-- both are told or neither is, and this holds of the two
abbrev pub IfTold : {T : Type 0} → (T → T → Type 0) → Option T → Option T → Type 0
IfTold P (Some x) (Some y) = P x y
IfTold P None None = Unit {0}
IfTold P (Some x) None = ⊥
IfTold P None (Some y) = ⊥

-- what waits is told to be nothing
abbrev pub WaitsForNothing : Option Sent → Type 0
WaitsForNothing None = Unit {0}
WaitsForNothing (Some s) = s.waiting ≡ []

module _ {E : Type 0} where
  -- bytes are given if the call answers Ok
  abbrev pub given_by : List ℕ → Result (Unit {0}) E → Option Sent → Option Sent
  given_by bytes (Ok done) s = told (giving bytes) s
  given_by bytes (Err e) s = s

  -- what a call that writes on what waits did
  abbrev pub IsReady : Poll (Result (Unit {0}) E) → Option Sent → Option Sent → Type 0
  IsReady (Ready (Ok done)) old new = new ≡ told writing_all old
  IsReady (Ready (Err e)) old new = IfTold IsWriting old new
  IsReady Pending old new = IfTold (λ x y. IsWriting x y × (y.waiting ≢ [])) old new

  abbrev pub finished_by : Poll (Result (Unit {0}) E) → Option Sent → Option Sent
  finished_by (Ready (Ok done)) s = told finishing s
  finished_by _ s = s

  -- so many bytes of a buffer were written, and no others
  abbrev pub IsWritten : Poll (Result ℕ E) → (buf buf_left : List ℕ) → Option Sent → Option Sent → Type 0
  IsWritten (Ready (Ok n)) buf buf_left old new = (n ≤ length buf) × (buf_left ≡ drop n buf) × (new ≡ told (writing (take n buf)) old)
  IsWritten _ buf buf_left old new = (buf_left ≡ buf) × (new ≡ old)

  -- a change that is made if the call answers Ok
  abbrev pub if_done : {T : Type 0} → (T → T) → Result (Unit {0}) E → Option T → Option T
  if_done f (Ok done) x = told f x
  if_done f (Err e) x = x
