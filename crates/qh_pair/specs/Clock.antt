-- The moments of a pair's turns, and how long its ends waited.
use Rattle.std.specs.Prelude.{◌≡◌, ℕ, ◌+◌, ◌≤◌, List, [], ◌∷◌, ◌++◌, Option, Some, None, Result, IfOk}
use Rattle.qh_base.specs.declared.connection_error.ConnectionError.TheVariants as lost
use Rattle.qh_base.specs.declared.time.Span.{Span}
use Rattle.qh_spec.specs.declared.sides.Side.{Side}
use Rattle.qh_spec.specs.declared.sides.Side.TheVariants.{Client, Server}
use Rattle.qh_pair.specs.Ends.{End}
use Rattle.qh_pair.specs.Errors.{IfTimedOut}
use Rattle.qh_pair.specs.Pair.{PairState}
use Rattle.qh_pair.specs.Timed.{IsIdleOf, IsTimedBy}
use Rattle.qh_pair.specs.declared.error.ExchangeError.{ExchangeError}

-- the idle time of an end runs from the first of these moments or later, and didn't end it
pub data IsClockedAt (idle : Option Span) (moments : List ℕ) (c : End) : Type 0 where
  runs : (first : ℕ) (rest : List ℕ) → moments ≡ first ∷ rest → first ≤ c.core.idle.since.0 → IsTimedBy idle c → (c.core.error ≡ Some lost.TimedOut → ⊥)
      → IsClockedAt idle moments c

abbrev pub IsEndClocked : Option Span → List ℕ → Option End → Type 0
IsEndClocked idle moments None = Unit {0}
IsEndClocked idle moments (Some c) = IsClockedAt idle moments c

-- these are the moments of the pair's turns
pub record IsClocked (p : PairState) (moments : List ℕ) : Type 0 where
  pub client : IsEndClocked p.config.idle moments p.client_end
  pub server : IsEndClocked p.config.idle moments p.server_end

-- an idle time is set, and as long passed from the first of the moments to the last
pub record HasPassed (idle : Option Span) (moments : List ℕ) : Type 0 where
  pub span : Span
  pub idle_is : idle ≡ Some span
  pub first : ℕ
  pub rest : List ℕ
  pub begin : moments ≡ first ∷ rest
  pub front : List ℕ
  pub last : ℕ
  pub end : moments ≡ front ++ last ∷ []
  pub passed : first + span.0 ≤ last

-- the end of a side
abbrev pub end_at : Side → PairState → Option End
end_at Client p = p.client_end
end_at Server p = p.server_end

-- the end is lost by its idle time, its own or the one in force, and as long passed from the first of the moments to the last
abbrev pub IsTimedOutAt : (own : Option Span) → (moments : List ℕ) → Option End → Type 0
IsTimedOutAt own moments None = ⊥
IsTimedOutAt own moments (Some c) = (idle : Option Span) × IsIdleOf own c idle × HasPassed idle moments × (c.core.error ≡ Some lost.TimedOut)

-- so it is of one of the ends
pub record HasTimedOut (p : PairState) (moments : List ℕ) : Type 0 where
  pub side : Side
  pub at : IsTimedOutAt p.config.idle moments (end_at side p)

-- a turn went on from these moments of earlier turns: an end that timed out waited as long as its idle time since the pair's first turn
pub record ClocksOn {T : Type 0} (old new : PairState) (before moments after : List ℕ) (result : Result T ExchangeError) : Type 0 where
  pub more : List ℕ
  pub are : after ≡ before ++ (moments ++ more)
  pub clocked : IfOk result (λ _. IsClocked new (moments ++ more))
  pub timed_out : IfTimedOut result (HasTimedOut new (moments ++ more))

abbrev pub RunsByTheClock : {T : Type 0} → (old new : PairState) → (moments_before moments_after : List ℕ) → Result T ExchangeError → Type 0
RunsByTheClock old new moments_before moments_after result = (before moments : List ℕ) → moments_before ≡ before ++ moments → IsClocked old moments
    → ClocksOn old new before moments moments_after result
