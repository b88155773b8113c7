-- What a socket does with messages (own; quinn and quinn-udp have no contracts). A message is what one call sends or receives: a datagram, or several of
-- one length but for the last.
use Rattle.std.specs.Prelude.{◌≡◌, ◌≤◌, ◌<◌, ℕ, Bool, true, false, List, [], ◌∷◌, ◌++◌, length, take, Option, Some, None, Result, Ok, Err}
use Rattle.std.specs.List.{AllByRecursion}
use Rattle.futures.specs.declared.task.Poll.{Poll}
use Rattle.futures.specs.declared.task.Poll.TheVariants.{Pending, Ready}
use Rattle.qh_base.specs.declared.path.Transmit.{Transmit}
use Rattle.qh_runtime.specs.declared.runtime.IoFault.{IoFault}
use Rattle.qh_runtime.specs.declared.runtime.IoFault.TheVariants.{Failed, Reset, WouldBlock}
use Rattle.qh_runtime.specs.declared.runtime.Message.{Message}
use Rattle.qh_runtime.specs.declared.runtime.OutMessage.{OutMessage}
use Rattle.qh_runtime.specs.declared.runtime.RecvMeta.{RecvMeta}

-- what a receive says of it
abbrev pub meta_of : Message → RecvMeta
meta_of m = record { addr = m.addr; len = length m.bytes; stride = m.stride; dst_ip = m.dst_ip }

-- ---- which faults come where

abbrev pub is_failure : IoFault → Bool
is_failure Failed = true
is_failure other = false

abbrev pub has_failed : {T : Type 0} → Result T IoFault → Bool
has_failed (Ok x) = false
has_failed (Err fault) = is_failure fault

-- the socket takes no message now
abbrev pub has_blocked : {T : Type 0} → Result T IoFault → Bool
has_blocked (Err WouldBlock) = true
has_blocked other = false

abbrev pub poll_failed : {T : Type 0} → Poll (Result T IoFault) → Bool
poll_failed (Ready r) = has_failed r
poll_failed Pending = false

abbrev pub IsAnswerOfSend : IoFault → Type 0
IsAnswerOfSend Reset = ⊥
IsAnswerOfSend other = Unit {0}

abbrev pub IsAnswerOfReceive : IoFault → Type 0
IsAnswerOfReceive WouldBlock = ⊥
IsAnswerOfReceive other = Unit {0}

abbrev pub IsNeither : IoFault → Type 0
IsNeither WouldBlock = ⊥
IsNeither Reset = ⊥
IsNeither other = Unit {0}

-- ---- messages go and come

-- one more was sent, behind the others
abbrev pub with_sent : Transmit → List ℕ → Option (List OutMessage) → Option (List OutMessage)
with_sent transmit bytes None = None
with_sent transmit bytes (Some sent) = Some (sent ++ record { transmit = transmit; bytes = bytes } ∷ [])

-- it was sent exactly if the answer is Ok
abbrev pub IsSent : Transmit → (bytes : List ℕ) → Result (Unit {0}) IoFault → (old new : Option (List OutMessage)) → Type 0
IsSent transmit bytes (Ok done) old new = new ≡ with_sent transmit bytes old
IsSent transmit bytes (Err fault) old new = new ≡ old

-- the oldest one that has room came, and those before it were dropped
pub record IsTaken (room : ℕ) (old new : List Message) (meta : RecvMeta) (buf : List ℕ) : Type 0 where
  pub dropped : List Message
  pub message : Message
  pub before : old ≡ dropped ++ message ∷ new
  pub too_long : AllByRecursion (λ m. room < length m.bytes) dropped
  pub fits : length message.bytes ≤ room
  pub meta_is : meta ≡ meta_of message
  pub bytes_are : take (length message.bytes) buf ≡ message.bytes

-- none has room: all were dropped
pub record IsDry (room : ℕ) (old new : List Message) : Type 0 where
  pub too_long : AllByRecursion (λ m. room < length m.bytes) old
  pub none : new ≡ []

-- what a receive into so many bytes did with the messages that were there
abbrev pub IsReceivedOf : (room : ℕ) → Poll (Result (Unit {0}) IoFault) → (old new : List Message) → RecvMeta → (buf : List ℕ) → Type 0
IsReceivedOf room (Ready (Ok done)) old new meta buf = IsTaken room old new meta buf
IsReceivedOf room (Ready (Err fault)) old new meta buf = new ≡ old
IsReceivedOf room Pending old new meta buf = IsDry room old new

-- the same, of a socket that tells them
abbrev pub IsReceived : (room : ℕ) → Poll (Result (Unit {0}) IoFault) → (old new : Option (List Message)) → RecvMeta → (buf : List ℕ) → Type 0
IsReceived room answer (Some old) (Some new) meta buf = IsReceivedOf room answer old new meta buf
IsReceived room answer (Some old) None meta buf = ⊥
IsReceived room answer None (Some new) meta buf = ⊥
IsReceived room answer None None meta buf = Unit {0}
