-- What a call of a log of used tokens answers, by the log of the definition that it stands for.
use Rattle.std.specs.Prelude.{◌≡◌, true, false, Result, Ok, Err}
use Rattle.qh_spec.specs.TokenFilter.{TokenLimits}
use Rattle.qh_spec.specs.TokenLog.{Token, TokenLog, accepts, checked, taking, turned}
use Rattle.qh_parts.specs.declared.token_log.TokenFault.{TokenFault}
use Rattle.qh_parts.specs.declared.token_log.TokenFault.TheVariants.{Reused, Memory}

-- The call looked at a token: the answer tells whether it counts, and what holds of the next log. Where memory is wanting,
-- a set would have taken the token, and the periods have moved.
abbrev pub IsLooked : TokenLimits → TokenLog → Token → Result (Unit {0}) TokenFault → (TokenLog → Type 0) → Type 0
IsLooked limits l t (Ok done) Next = (accepts limits l t ≡ true) × Next (checked limits l t)
IsLooked limits l t (Err Reused) Next = (accepts limits l t ≡ false) × Next (checked limits l t)
IsLooked limits l t (Err Memory) Next = (accepts limits l t ≡ true) × ((taking l t).is_bits ≡ false) × Next (turned l t)

-- the limits of a log that tells nothing
abbrev pub no_limits : TokenLimits
no_limits = record { max_bytes = 0; k_num = 0 }

-- A call of some log looked at this token: it keeps the limits, and answers for each log of the definition that the log stands
-- for.
abbrev pub IsLook : {L : Type 0} → (L → TokenLimits) → (L → TokenLog → Type 0) → L → Token → Result (Unit {0}) TokenFault → L → Type 0
IsLook limits stands before t result after =
    (limits after ≡ limits before) × ((l : TokenLog) → stands before l → IsLooked (limits before) l t result (stands after))
