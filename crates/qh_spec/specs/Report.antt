-- What is written of an exchange (own).
use Rattle.std.specs.Prelude.{ℕ, ◌+◌, ◌*◌, nat_lt, ◌==◌, Bool, true, false, List, [], ◌∷◌, ◌++◌, length, codes, decimal, flat_map, Option, Some, None, if◌then◌else◌}
use Rattle.http_header.specs.HeaderMap.{Entries, keys}
use Rattle.http_header.specs.FieldValue.{FieldValue}
use Rattle.qh_spec.specs.Message.{PlainHead, Request, Response, PlainMessage, target_text}
use Rattle.qh_spec.specs.Record.{PlainEntry}
use Rattle.qh_spec.specs.Same.{bytes_under}
use Rattle.qh_spec.specs.Service.{echo}

-- the first is before the second, byte by byte
abbrev pub comes_before : List ℕ → List ℕ → Bool
comes_before [] [] = false
comes_before [] (b ∷ bs) = true
comes_before (a ∷ as_) [] = false
comes_before (a ∷ as_) (b ∷ bs) = if nat_lt a b then true else if a == b then comes_before as_ bs else false

-- the name among names in byte order
abbrev pub insert_name : List ℕ → List (List ℕ) → List (List ℕ)
insert_name n [] = n ∷ []
insert_name n (m ∷ ms) = if comes_before n m then n ∷ m ∷ ms else m ∷ insert_name n ms

-- the names in byte order
abbrev pub in_byte_order : List (List ℕ) → List (List ℕ)
in_byte_order [] = []
in_byte_order (n ∷ ns) = insert_name n (in_byte_order ns)

abbrev pub newline : List ℕ
newline = 10 ∷ []

-- a line for a value: the word, the name, the value
abbrev pub value_line : (word name value : List ℕ) → List ℕ
value_line word name value = word ++ (codes " " ++ (name ++ (codes " " ++ (value ++ newline))))

-- the lines for a name, a line for each value in order
abbrev pub name_lines : (word : List ℕ) → Entries FieldValue → (name : List ℕ) → List ℕ
name_lines word m name = flat_map (value_line word name) (bytes_under m name)

-- the lines for a map, by its names in byte order
abbrev pub map_lines : (word : List ℕ) → Entries FieldValue → List ℕ
map_lines word m = flat_map (name_lines word m) (in_byte_order (keys m))

abbrev pub trailer_lines : Option (Entries FieldValue) → List ℕ
trailer_lines None = []
trailer_lines (Some m) = map_lines (codes "trailer") m

-- METHOD TARGET, or STATUS
abbrev pub head_text : PlainHead → List ℕ
head_text (Request m t) = m ++ (codes " " ++ target_text t)
head_text (Response s) = decimal s

-- the line that says how long the body is, the body, and a newline
abbrev pub body_lines : List ℕ → List ℕ
body_lines body = codes "body " ++ (decimal (length body) ++ (newline ++ (body ++ newline)))

-- a block: a first line, the fields, the body, the trailers
abbrev pub block : (word : List ℕ) (stream : ℕ) → PlainMessage → List ℕ
block word stream m =
    word ++ (codes " " ++ (decimal stream ++ (codes " " ++ (head_text m.head ++ newline))))
    ++ (map_lines (codes "field") m.fields ++ (body_lines m.body ++ trailer_lines m.trailers))

-- the block of an entry of the record
abbrev pub entry_block : PlainEntry → List ℕ
entry_block e = block (codes "entry") e.stream e.request

-- the block of an answer on a stream
abbrev pub answer_block : (stream : ℕ) → PlainMessage → List ℕ
answer_block stream m = block (codes "answer") stream m

-- the blocks of entries, each with that of its answer behind it
abbrev pub blocks : List PlainEntry → List PlainMessage → List ℕ
blocks [] answers = []
blocks (e ∷ es) [] = []
blocks (e ∷ es) (a ∷ answers) = entry_block e ++ (answer_block e.stream a ++ blocks es answers)

-- the last line
abbrev pub ok_line : ℕ → List ℕ
ok_line n = codes "ok " ++ (decimal n ++ newline)

-- what is written of entries, in the order of their streams, and their answers
abbrev pub report : List PlainEntry → List PlainMessage → List ℕ
report entries answers = blocks entries answers ++ ok_line (length answers)

-- the entries of requests from the i-th on, where each is echoed up to a limit
abbrev pub echoed_from : (i limit : ℕ) → List PlainMessage → List PlainEntry
echoed_from i limit [] = []
echoed_from i limit (m ∷ ms) = record { stream = 4 * i; request = m; response = echo limit m } ∷ echoed_from (i + 1) limit ms

-- the answers that echo requests, up to a limit
abbrev pub echoes : (limit : ℕ) → List PlainMessage → List PlainMessage
echoes limit [] = []
echoes limit (m ∷ ms) = echo limit m ∷ echoes limit ms

-- what is written of requests that are echoed, up to a limit
abbrev pub report_of : (limit : ℕ) → List PlainMessage → List ℕ
report_of limit requests = report (echoed_from 0 limit requests) (echoes limit requests)
