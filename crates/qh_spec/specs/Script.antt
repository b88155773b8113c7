-- Scripts: requests, settings and a schedule, line by line (own).
use Rattle.std.specs.Prelude.{◌≡◌, ℕ, zero, suc, ◌+◌, ◌*◌, ◌-◌, ◌%◌, ◌^◌, ◌<◌, ◌≤◌, ◌==◌, nat_lt, min, true, false, List, [], ◌∷◌, ◌++◌, length, unwrap_or, Option, Some, None, option_map, if◌then◌else◌}
use Rattle.http_header.specs.FieldValue.{FieldValue, plain_value}
use Rattle.http_header.specs.HeaderMap.{Entries, append, value_count}
use Rattle.qh_spec.specs.declared.link.Upset.{Upset}
use Rattle.qh_spec.specs.declared.script.Setting.{Setting}
use Rattle.qh_spec.specs.declared.script.Setting.TheVariants.{Section, RequestBody, Response, Cap, Bidi, Window, Idle, Rtt, Rounds, Step}
use Rattle.qh_spec.specs.Config.{PlainConfig, default_config, Fits}
use Rattle.qh_spec.specs.Lines.{lines, InTurn}
use Rattle.qh_spec.specs.Message.{PlainMessage, Request as RequestHead}
use Rattle.qh_spec.specs.ScriptLine.{Line, Empty, Request, Field, Trailer, Body, Fill, Set, RetryOn, GreaseOff, Disturb, IsLine}
use Rattle.qh_spec.specs.Size.{enough_rounds}

-- what the lines so far ask for
pub record Script : Type 0 where
  pub requests : List PlainMessage
  pub config : PlainConfig
  -- how many rounds at most, where a line says it
  pub rounds : Option ℕ
  -- milliseconds from round to round
  pub step : ℕ
  pub schedule : List Upset

-- before the first line
abbrev pub empty_script : Script
empty_script = record { requests = []; config = default_config; rounds = None; step = 10; schedule = [] }

-- a time in milliseconds as nanoseconds, up to the greatest number of 64 bits
abbrev pub from_millis : ℕ → ℕ
from_millis n = min (2 ^ 64 - 1) (n * 1000000)

-- the time of a line `idle`, where 0 is for ever
abbrev pub idle_of : ℕ → Option ℕ
idle_of n = if n == 0 then None else Some (from_millis n)

-- the settings, where a line sets a number
abbrev pub set_config : Setting → ℕ → PlainConfig → PlainConfig
set_config Section n c = record c { max_field_section_size = n }
set_config RequestBody n c = record c { max_request_body = n }
set_config Response n c = record c { max_response_body = n }
set_config Cap n c = record c { max_requests = n }
set_config Bidi n c = record c { max_bidi = n }
set_config Window n c = record c { receive_window = n; stream_window = n }
set_config Idle n c = record c { idle = idle_of n }
set_config Rtt n c = record c { initial_rtt = from_millis n }
set_config Rounds n c = c
set_config Step n c = c

abbrev pub set_rounds : Setting → ℕ → Option ℕ → Option ℕ
set_rounds Rounds n rounds = Some n
set_rounds _ n rounds = rounds

abbrev pub set_step : Setting → ℕ → ℕ → ℕ
set_step Step n step = n
set_step _ n step = step

-- the script, where a line sets a number
abbrev pub set_number : Setting → ℕ → Script → Script
set_number x n s = record s { config = set_config x n s.config; rounds = set_rounds x n s.rounds; step = set_step x n s.step }

-- n bytes from the j-th on, a to z again and again
abbrev pub filling : (j n : ℕ) → List ℕ
filling j zero = []
filling j (suc n) = (97 + j % 26) ∷ filling (j + 1) n

abbrev pub trailers_so_far : PlainMessage → Entries FieldValue
trailers_so_far m = unwrap_or m.trailers []

-- how many fields and trailers a request has so far
abbrev pub field_count : PlainMessage → ℕ
field_count m = value_count m.fields + value_count (trailers_so_far m)

-- a request with 2,000 fields and trailers takes no more
abbrev pub where_room : PlainMessage → PlainMessage → Option PlainMessage
where_room m n = if nat_lt (field_count m) 2000 then Some n else None

abbrev pub with_field : (name value : List ℕ) → PlainMessage → Option PlainMessage
with_field name value m = where_room m (record m { fields = append m.fields name (plain_value value) })

abbrev pub with_trailer : (name value : List ℕ) → PlainMessage → Option PlainMessage
with_trailer name value m = where_room m (record m { trailers = Some (append (trailers_so_far m) name (plain_value value)) })

abbrev pub with_body : List ℕ → PlainMessage → Option PlainMessage
with_body bytes m = Some (record m { body = bytes })

-- the last request changed, where there is one
abbrev pub change_last : (PlainMessage → Option PlainMessage) → List PlainMessage → Option (List PlainMessage)
change_last f [] = None
change_last f (m ∷ []) = option_map (λ (n : PlainMessage). n ∷ []) (f m)
change_last f (m ∷ n ∷ more) = option_map (λ (changed : List PlainMessage). m ∷ changed) (change_last f (n ∷ more))

-- the script with these requests, where there are some
abbrev pub with_requests : Script → Option (List PlainMessage) → Option Script
with_requests s requests = option_map (λ (ms : List PlainMessage). record s { requests = ms }) requests

-- what a line makes of a script; nothing where it isn't taken there
abbrev pub applied : Line → Script → Option Script
applied Empty s = Some s
applied (Request method target) s =
    Some (record s { requests = s.requests ++ record { head = RequestHead method target; fields = []; body = []; trailers = None } ∷ [] })
applied (Field name value) s = with_requests s (change_last (with_field name value) s.requests)
applied (Trailer name value) s = with_requests s (change_last (with_trailer name value) s.requests)
applied (Body text) s = with_requests s (change_last (with_body text) s.requests)
applied (Fill n) s = with_requests s (change_last (with_body (filling 0 n)) s.requests)
applied (Set x n) s = Some (set_number x n s)
applied RetryOn s = Some (record s { config = record s.config { retry = true } })
applied GreaseOff s = Some (record s { config = record s.config { send_grease = false } })
applied (Disturb u) s = Some (record s { schedule = s.schedule ++ u ∷ [] })

-- the text is a line that is taken, and makes t of s
pub record IsTaken (text : List ℕ) (s t : Script) : Type 0 where
  pub line : Line
  pub is : IsLine text line
  pub makes : applied line s ≡ Some t

-- the lines are taken, one after another
abbrev pub AreTaken : List (List ℕ) → Script → Script → Type 0
AreTaken ls s t = InTurn IsTaken ls s t

-- the greatest length of a script, in bytes
abbrev pub max_script : ℕ
max_script = 16777216

-- the text is a script that asks for this
pub record IsScript (text : List ℕ) (s : Script) : Type 0 where
  pub short : length text ≤ max_script
  pub taken : AreTaken (lines text) empty_script s
  pub fits : Fits s.config

-- The line that is refused, counted from 1: the first that isn't taken; 0 for a text that is too long, and one past the
-- lines where the settings don't fit.
pub data IsRefusedAt (text : List ℕ) : ℕ → Type 0 where
  too_long : max_script < length text → IsRefusedAt text 0
  at_line : (front : List (List ℕ)) (line : List ℕ) (rest : List (List ℕ)) (s : Script) → length text ≤ max_script → lines text ≡ front ++ line ∷ rest
      → AreTaken front empty_script s → ((t : Script) → IsTaken line s t → ⊥) → IsRefusedAt text (length front + 1)
  unfit : (s : Script) → length text ≤ max_script → AreTaken (lines text) empty_script s → (Fits s.config → ⊥) → IsRefusedAt text (length (lines text) + 1)

-- how many rounds an exchange of the script has at most: as it says, else as many as are enough, below 2 ^ 48
abbrev pub rounds_of : Script → ℕ
rounds_of s =
    unwrap_or s.rounds (min (2 ^ 48 - 1) (enough_rounds s.config.max_field_section_size s.config.max_response_body s.requests))
