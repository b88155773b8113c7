-- How a turn of a driver ends, and what it sends.
use Rattle.std.specs.Prelude.{◌≡◌, ◌⊎◌, ℕ, ◌-◌, ◌^◌, ◌<◌, Bool, true, false, List, ◌++◌, length, Option, Some, None, Result, Ok, Err, if◌then◌else◌}
use Rattle.std.specs.Option.{option_map}
use Rattle.futures.specs.declared.task.Poll.{Poll}
use Rattle.futures.specs.declared.task.Poll.TheVariants.{Ready, Pending}
use Rattle.qh_book.specs.declared.reply.Reply.{Reply}
use Rattle.qh_book.specs.declared.reply.Reply.TheVariants as reply
use Rattle.qh_runtime.specs.Socket.{is_failure, poll_failed}
use Rattle.qh_runtime.specs.declared.runtime.IoFault.{IoFault}
use Rattle.qh_runtime.specs.declared.runtime.OutMessage.{OutMessage}
use Rattle.qh_spec.specs.Fault.{CountsFaults}

-- the book's reply to a turn: the two faults that a turn answers are that the socket failed, and want of memory
abbrev pub turn_reply : {T : Type 0} → Poll (Result (Unit {0}) IoFault) → Reply T
turn_reply Pending = reply.Pending
turn_reply (Ready (Ok done)) = reply.Done
turn_reply (Ready (Err fault)) = if is_failure fault then reply.Failed else reply.Memory

-- a fault that a turn may answer
abbrev pub IsTurnFault : IoFault → Type 0
IsTurnFault IoFault.WouldBlock = ⊥
IsTurnFault IoFault.Reset = ⊥
IsTurnFault other = Unit {0}

-- these messages were sent, behind the others, by a socket that tells them
abbrev pub AreSent : List OutMessage → (old new : Option (List OutMessage)) → Type 0
AreSent out old new = new ≡ option_map (λ (sent : List OutMessage). sent ++ out) old

-- a turn that may have more to send sent as many datagrams as one may (quinn, `MAX_TRANSMIT_DATAGRAMS`)
abbrev pub IsFull : (keeps_going : Bool) → List OutMessage → Type 0
IsFull true out = length out ≡ 20
IsFull false out = Unit {0}

-- neither the socket nor the poller, if there is one, has to be waited for
abbrev pub AreReady : {X P : Type 0} → (X → Type 0) → (P → Type 0) → X → Option P → Type 0
AreReady socket_ready poller_ready socket None = socket_ready socket
AreReady socket_ready poller_ready socket (Some poller) = socket_ready socket × poller_ready poller

-- How often a poller failed: the one that was there, if none was made meanwhile, or else one that was made. `made_old` and `made_new` say how many were made before the turn and after it;
-- that number saturates.
module _ {P : Type 0} (faults : P → ℕ) where
  abbrev pub count_of : Option P → ℕ
  count_of None = 0
  count_of (Some poller) = faults poller

  pub record PollerFailed (made_old made_new : ℕ) (old new : Option P) : Type 0 where
    pub before : ℕ
    pub is_before : ((made_new ≡ made_old) × (before ≡ count_of old)) ⊎ (((made_old < made_new) ⊎ (made_new ≡ 2 ^ 64 - 1)) × (before ≡ 0))
    pub rose : CountsFaults before (count_of new) true

-- a turn that answers that the socket failed has its cause: the count of the socket rose, or that of its poller
abbrev pub HasCause : {P : Type 0} (faults : P → ℕ) → Poll (Result (Unit {0}) IoFault) → (old new : ℕ) → (made_old made_new : ℕ) → (before after : Option P) → Type 0
HasCause faults answer old new made_old made_new before after = poll_failed answer ≡ true → CountsFaults old new true ⊎ PollerFailed faults made_old made_new before after
