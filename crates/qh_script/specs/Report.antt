-- What is said of a buffer to which not all could be written, and of what was written.
use Rattle.std.specs.Prelude.{◌≡◌, ℕ, ◌+◌, ◌*◌, ◌==◌, List, [], ◌∷◌, ◌++◌, length, take, Option, Some, None, IfSome, if◌then◌else◌}
use Rattle.qh_spec.specs.Echoed.{HasMaps}
use Rattle.qh_spec.specs.Message.{PlainMessage}
use Rattle.qh_spec.specs.Record.{PlainEntry}
use Rattle.qh_spec.specs.Report.{entry_block, answer_block, ok_line}

-- what stood in the buffer still stands at its front
abbrev pub HasGrown : List ℕ → List ℕ → Type 0
HasGrown old new = take (length old) new ≡ old

-- the first entry of a stream
abbrev pub entry_on : (stream : ℕ) → List PlainEntry → Option PlainEntry
entry_on stream [] = None
entry_on stream (e ∷ es) = if e.stream == stream then Some e else entry_on stream es

-- its block, where there is one
abbrev pub entry_blocks : Option PlainEntry → List ℕ
entry_blocks None = []
entry_blocks (Some e) = entry_block e

-- for each answer, from the i-th on, the block of the entry of its stream, and its own behind it
abbrev pub exchange_blocks : (i : ℕ) → List PlainEntry → List PlainMessage → List ℕ
exchange_blocks i entries [] = []
exchange_blocks i entries (a ∷ answers) = entry_blocks (entry_on (4 * i) entries) ++ (answer_block (4 * i) a ++ exchange_blocks (i + 1) entries answers)

-- what is written of an exchange whose record has these entries, in whatever order they were served
abbrev pub report_by : List PlainEntry → List PlainMessage → List ℕ
report_by entries answers = exchange_blocks 0 entries answers ++ ok_line (length answers)

-- for each answer, from the i-th on, the request of the entry of its stream, where there is one, and the answer have maps
abbrev pub HaveMapsFrom : (i : ℕ) → List PlainEntry → List PlainMessage → Type 0
HaveMapsFrom i entries [] = Unit {0}
HaveMapsFrom i entries (a ∷ answers) = IfSome (entry_on (4 * i) entries) (λ e. HasMaps e.request) × HasMaps a × HaveMapsFrom (i + 1) entries answers

abbrev pub HaveMaps : List PlainEntry → List PlainMessage → Type 0
HaveMaps entries answers = HaveMapsFrom 0 entries answers
