-- What the rounds of an exchange leave of its pair.
use Rattle.std.specs.Prelude.{◌≡◌, ◌<◌, ℕ, suc, List, ◌++◌, Option, Some, Result, IfErr, IfOk, length}
use Rattle.qh_roles.specs.Client.{held}
use Rattle.qh_spec.specs.declared.link.Event.{Event}
use Rattle.qh_spec.specs.Honest.{IsHonest}
use Rattle.qh_spec.specs.Record.{PlainEntry}
use Rattle.qh_spec.specs.Turns.{AreWholeTurns}
use Rattle.qh_pair.specs.Errors.{IfOutOfRounds, IfProtocol, IfTimedOut}
use Rattle.qh_pair.specs.Full.{AreFullTurns, EndsInFullTurn}
use Rattle.qh_pair.specs.Pair.{PairState, Running, GoesOn, id_length}
use Rattle.qh_pair.specs.Sound.{EndsFairly}
use Rattle.qh_pair.specs.Turn.{Adds, IsProtocolLoss, WasTimedOut}
use Rattle.qh_pair.specs.declared.error.ExchangeError.{ExchangeError}
use Rattle.qh_pair.specs.declared.error.ExchangeError.TheVariants.{Invalid}

-- exactly so many rounds were made, each a whole turn where the events are told, and a full one, and an answer is missing
pub record IsRunOut (rounds : ℕ) (old p : PairState) (told_before told_after : Option (List Event)) (moments_before moments_after : List ℕ) (served_before : List PlainEntry) : Type 0 where
  pub turns : Adds (AreWholeTurns rounds) told_before told_after
  pub full : (earlier events : List Event) (before entries : List PlainEntry) → Running old events entries → told_before ≡ Some (earlier ++ events) → served_before ≡ before ++ entries
      → Adds (AreFullTurns old.client.requests rounds events) told_before told_after
  pub moments : List ℕ
  pub moments_are : moments_after ≡ moments_before ++ moments
  pub rounds_are : length moments ≡ rounds
  pub last : (n : ℕ) → rounds ≡ suc n → Adds (EndsInFullTurn p) told_before told_after
  pub fewer : held p.client.answers < length p.client.requests

-- the errors that rounds may end by
abbrev pub IsRoundsError : ExchangeError → Type 0
IsRoundsError (Invalid index) = ⊥
IsRoundsError _ = Unit {0}

-- rounds were made, and ended in this way
pub record RoundsMade (rounds : ℕ) (old new : PairState) (told_before told_after : Option (List Event)) (moments_before moments_after : List ℕ) (served_before served_after : List PlainEntry)
    (result : Result (Unit {0}) ExchangeError) : Type 0 where
  pub goes : GoesOn old told_before served_before new told_after served_after
  pub requests : new.client.requests ≡ old.client.requests
  pub config_is : new.config ≡ old.config
  pub ids : new.ids ≡ old.ids
  pub all : IfOk result (λ _. held new.client.answers ≡ length new.client.requests)
  pub out : IfOutOfRounds result (IsRunOut rounds old new told_before told_after moments_before moments_after served_before)
  pub timed_out : IfTimedOut result (WasTimedOut new moments_before moments_after)
  pub lost : IfProtocol result (λ e. IsProtocolLoss e new)
  pub errors : IfErr result IsRoundsError

-- Over an honest link rounds of a pair, whose service recorded what the pair tells, fail for no fault of an end's, and for its idle
-- time only where nothing came for as long.
abbrev pub AreFair : (old : PairState) → (told_before told_after : Option (List Event)) → (served_before : List PlainEntry) → Result (Unit {0}) ExchangeError → Type 0
AreFair old told_before told_after served_before result = (earlier events more : List Event) (before entries : List PlainEntry)
    → Running old events entries → told_before ≡ Some (earlier ++ events) → served_before ≡ before ++ entries → told_after ≡ Some (earlier ++ (events ++ more)) → IsHonest (events ++ more)
    → EndsFairly (id_length old) old.config.idle (events ++ more) result
