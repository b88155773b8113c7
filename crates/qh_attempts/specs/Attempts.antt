-- The connection attempts that wait at an endpoint, with the datagrams that are kept for each (quinn-proto, `endpoint`, `IncomingBuffer`).
use Rattle.std.specs.Prelude.{◌≡◌, ◌≢◌, ℕ, ◌+◌, ◌<◌, ◌≤◌, is_some, List, length, Option, None, Some, IfOk, IfSome, IsSomeAnd, Result, count_by, option_map, slice_index_or}
use Rattle.std.specs.List.{sum_by}
use Rattle.qh_base.specs.declared.memory.Memory.{Memory}
use Rattle.qh_attempts.specs.declared.attempt.BufferLimits.{BufferLimits}
use Rattle.qh_attempts.specs.declared.attempt.KeptDatagram.{KeptDatagram}
use Rattle.qh_attempts.specs.declared.incoming_buffers.AttemptKey.{AttemptKey}

-- how many bytes datagrams have together
abbrev pub bytes_of : List KeptDatagram → ℕ
bytes_of datagrams = sum_by (λ (d : KeptDatagram). length d.payload) datagrams

-- what the endpoint keeps with an attempt, the datagrams that are kept for it, in the order in which they came, what may be kept, and its number
pub record PlainAttempt (C : Type 0) : Type 0 where
  pub config : C
  pub datagrams : List KeptDatagram
  pub limits : BufferLimits
  pub number : ℕ

-- by each key the attempt that waits, or none, and how many attempts were numbered
pub record PlainBuffers (C : Type 0) : Type 0 where
  pub slots : List (Option (PlainAttempt C))
  pub numbered : ℕ

module _ {C : Type 0} where
  -- how many bytes are kept for an attempt
  abbrev pub bytes_kept : PlainAttempt C → ℕ
  bytes_kept a = bytes_of a.datagrams

  -- so many bytes more may be kept for an attempt, if so many are kept for all: both sums stay within its limits
  abbrev pub HasRoomFor : PlainAttempt C → (size total : ℕ) → Type 0
  HasRoomFor a size total = (bytes_kept a + size ≤ a.limits.incoming_buffer_size) × (total + size ≤ a.limits.incoming_buffer_size_total)

  -- the attempt that waits by a key; none if none does
  abbrev pub attempt_at : PlainBuffers C → (key : ℕ) → Option (PlainAttempt C)
  attempt_at b key = slice_index_or b.slots key None

  -- what the endpoint keeps with it
  abbrev pub config_at : PlainBuffers C → (key : ℕ) → Option C
  config_at b key = option_map (λ a. a.config) (attempt_at b key)

  -- how many attempts wait
  abbrev pub attempt_count : PlainBuffers C → ℕ
  attempt_count b = count_by (λ (o : Option (PlainAttempt C)). is_some o) b.slots

  -- how many bytes are kept for the attempt by a key
  abbrev pub slot_bytes : Option (PlainAttempt C) → ℕ
  slot_bytes None = 0
  slot_bytes (Some a) = bytes_kept a

  -- how many bytes are kept for all attempts that wait: the sum of those that are kept for each
  abbrev pub total_bytes : PlainBuffers C → ℕ
  total_bytes b = sum_by slot_bytes b.slots

  -- the attempt of this number waits by this key
  abbrev pub IsPending : PlainBuffers C → AttemptKey → Type 0
  IsPending b k = IsSomeAnd (attempt_at b k.key) (λ a. a.number ≡ k.number)

  -- an attempt waits by this key, and so many bytes more may be kept for it
  abbrev pub HasRoom : PlainBuffers C → (key size : ℕ) → Type 0
  HasRoom b key size = IsSomeAnd (attempt_at b key) (λ a. HasRoomFor a size (total_bytes b))

  -- one key has this attempt now, or none, and each other key has what it had
  pub record HasInstead (old new : PlainBuffers C) (key : ℕ) (attempt : Option (PlainAttempt C)) : Type 0 where
    pub there : attempt_at new key ≡ attempt
    pub others : (other : ℕ) → other ≢ key → attempt_at new other ≡ attempt_at old other

  -- what holds at any time: the number of each attempt that waits was given, to none but it, and no more bytes are kept for it than its limit says
  pub record AreAttempts (b : PlainBuffers C) : Type 0 where
    pub given : (key : ℕ) (a : PlainAttempt C) → attempt_at b key ≡ Some a → a.number < b.numbered
    pub apart : (key other : ℕ) (a o : PlainAttempt C) → attempt_at b key ≡ Some a → attempt_at b other ≡ Some o → a.number ≡ o.number → key ≡ other
    pub within : (key : ℕ) (a : PlainAttempt C) → attempt_at b key ≡ Some a → bytes_kept a ≤ a.limits.incoming_buffer_size

  -- of the attempts that were numbered before, only those wait later that waited then, by the same keys: none that left comes back
  pub record IsLater (old new : PlainBuffers C) : Type 0 where
    pub numbered : old.numbered ≤ new.numbered
    pub waited : (k : AttemptKey) → k.number < old.numbered → IsPending new k → IsPending old k

  -- an attempt of this number waits
  abbrev pub Waits : PlainBuffers C → (number : ℕ) → Type 0
  Waits b number = (key : ℕ) × (a : PlainAttempt C) × (attempt_at b key ≡ Some a) × (a.number ≡ number)

  -- the name that an attempt was given: if one of its number waits, it waits by its key
  pub record IsName (b : PlainBuffers C) (k : AttemptKey) : Type 0 where
    pub given : k.number < b.numbered
    pub by_key : (key : ℕ) (a : PlainAttempt C) → attempt_at b key ≡ Some a → a.number ≡ k.number → key ≡ k.key

-- this holds of the name that was given, if one was
abbrev pub IfGiven : Result (Option AttemptKey) Memory → (AttemptKey → Type 0) → Type 0
IfGiven result P = IfOk result (λ given. IfSome given P)
