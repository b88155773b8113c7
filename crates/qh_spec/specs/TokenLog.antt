-- The log of used tokens (quinn-proto, `bloom_token_log`): which token counts, so that none counts twice while it lives
-- (RFC 9000, section 8.1.4). It keeps two periods, each as long as a token lives, and a filter for each.
use Rattle.std.specs.Prelude.{◌≡◌, ℕ, ◌+◌, ◌-◌, ◌/◌, ◌%◌, ◌^◌, ◌==◌, nat_lt, Bool, true, false, not, if◌then◌else◌}
use Rattle.qh_spec.specs.TokenFilter.{TokenLimits, TokenFilter, empty_filter, refuses, with_fingerprint}

-- when the first period begins, in nanoseconds, and the filters of the tokens that expire in the first and the second
pub record TokenLog : Type 0 where
  pub start : ℕ
  pub first : TokenFilter
  pub second : TokenFilter

abbrev pub empty_log : TokenLog
empty_log = record { start = 0; first = empty_filter; second = empty_filter }

-- a token's nonce, and when it was issued and how long it lives, in nanoseconds
pub record Token : Type 0 where
  pub nonce : ℕ
  pub issued : ℕ
  pub lifetime : ℕ

abbrev pub expiry : Token → ℕ
expiry t = t.issued + t.lifetime

-- the nonce's low 64 bits
abbrev pub fingerprint : Token → ℕ
fingerprint t = t.nonce % 2 ^ 64

-- a token that doesn't live, or that expired before the first period
abbrev pub is_stale : TokenLog → Token → Bool
is_stale l t = if t.lifetime == 0 then true else nat_lt (expiry t) l.start

-- how many lifetimes after the start the token expires
abbrev pub periods : TokenLog → Token → ℕ
periods l t = (expiry t - l.start) / t.lifetime

-- The log with its periods moved so far that the token expires in one of them: the second becomes the first, or both are
-- forgotten.
abbrev pub moved : TokenLog → Token → TokenLog
moved l t =
    if nat_lt (periods l t) 2 then l
    else if periods l t == 2 then record { start = l.start + t.lifetime; first = l.second; second = empty_filter }
    else record { start = expiry t; first = empty_filter; second = empty_filter }

-- whether the token then expires in the second period
abbrev pub is_in_second : TokenLog → Token → Bool
is_in_second l t = if periods l t == 1 then true else periods l t == 2

-- the filter that takes it
abbrev pub taking : TokenLog → Token → TokenFilter
taking l t = if is_in_second l t then (moved l t).second else (moved l t).first

-- the token counts
abbrev pub accepts : TokenLimits → TokenLog → Token → Bool
accepts limits l t = if is_stale l t then false else not (refuses limits (taking l t) (fingerprint t))

-- the log after it looked at a token, before it takes it
abbrev pub turned : TokenLog → Token → TokenLog
turned l t = if is_stale l t then l else moved l t

-- the log with the token's fingerprint taken
abbrev pub with_token : TokenLimits → TokenLog → Token → TokenLog
with_token limits l t =
    if is_in_second l t then record (moved l t) { second = with_fingerprint limits (taking l t) (fingerprint t) }
    else record (moved l t) { first = with_fingerprint limits (taking l t) (fingerprint t) }

-- the log after a token, by whether it counted
abbrev pub checked : TokenLimits → TokenLog → Token → TokenLog
checked limits l t = if accepts limits l t then with_token limits l t else turned l t

-- a later log, after more tokens that live as long, where memory may have been wanting for some
pub data IsLater (limits : TokenLimits) (lifetime : ℕ) (l : TokenLog) : TokenLog → Type 0 where
  now : IsLater limits lifetime l l
  looked : (m : TokenLog) (t : Token) → IsLater limits lifetime l m → t.lifetime ≡ lifetime → IsLater limits lifetime l (checked limits m t)
  wanting : (m : TokenLog) (t : Token) → IsLater limits lifetime l m → t.lifetime ≡ lifetime → IsLater limits lifetime l (turned m t)
