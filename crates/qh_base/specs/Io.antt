-- Sources and sinks: what they answer, and the ones in memory.
use Rattle.std.specs.Prelude.{ℕ, zero, suc, ◌+◌, ◌-◌, ◌^◌, min, ◌==◌, nat_lt, Bool, true, false, ◌&&◌, not, List, ◌++◌, take, drop, length, Option, Some, None, Result, Ok, Err, if◌then◌else◌}
use Rattle.qh_base.specs.declared.io.Failed.{Failed}

-- how many bytes a call read or wrote
abbrev pub moved : Result ℕ Failed → ℕ
moved (Ok n) = n
moved (Err e) = 0

-- a call failed, or wrote nothing of a piece of this length
abbrev pub moves_none : ℕ → Result ℕ Failed → Bool
moves_none len (Ok n) = (n == 0) && not (len == 0)
moves_none len (Err e) = true

-- a source in memory
pub record PlainSource : Type 0 where
  -- the bytes that are left to be read
  pub left : List ℕ
  -- the number of calls up to the one that fails, where one does
  pub fails_in : Option ℕ
  pub faults : ℕ

-- a sink in memory
pub record PlainSink : Type 0 where
  pub written : List ℕ
  -- how many more bytes it takes
  pub room : ℕ
  pub fails_in : Option ℕ
  pub faults : ℕ

-- calls are counted from 1
abbrev pub calls_left : Option ℕ → Option ℕ
calls_left None = None
calls_left (Some zero) = None
calls_left (Some (suc n)) = Some (suc n)

abbrev pub fails_now : Option ℕ → Bool
fails_now None = false
fails_now (Some n) = n == 1

-- the number of calls up to the one that fails, after a call
abbrev pub next_call : Option ℕ → Option ℕ
next_call None = None
next_call (Some n) = if nat_lt 1 n then Some (n - 1) else None

-- a count after one more fault
abbrev pub one_more : ℕ → ℕ
one_more faults = min (2 ^ 64 - 1) (faults + 1)

-- what a read into a slice of this length answers
abbrev pub read_answer : PlainSource → ℕ → Result ℕ Failed
read_answer s len = if fails_now s.fails_in then Err (record {}) else Ok (min (length s.left) len)

abbrev pub after_read : PlainSource → ℕ → PlainSource
after_read s len =
    if fails_now s.fails_in then record { left = s.left; fails_in = next_call s.fails_in; faults = one_more s.faults }
    else record { left = drop (min (length s.left) len) s.left; fails_in = next_call s.fails_in; faults = s.faults }

-- what a write of a piece of this length answers
abbrev pub write_answer : PlainSink → ℕ → Result ℕ Failed
write_answer s len = if fails_now s.fails_in then Err (record {}) else Ok (min len s.room)

abbrev pub after_write : PlainSink → List ℕ → PlainSink
after_write s piece =
    if fails_now s.fails_in then record { written = s.written; room = s.room; fails_in = next_call s.fails_in; faults = one_more s.faults }
    else record {
      written = s.written ++ take (min (length piece) s.room) piece;
      room = s.room - length piece;
      fails_in = next_call s.fails_in;
      faults = (if moves_none (length piece) (Ok (min (length piece) s.room)) then one_more s.faults else s.faults);
    }
