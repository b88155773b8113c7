-- What is kept of receiving halves that handles hold, by the ids of their streams.
use Rattle.std.specs.Map.{lookup}
use Rattle.std.specs.Prelude.{◌≡◌, ℕ, ◌<◌, nat_eq, Bool, true, false, ◌&&◌, not, List, Option, Some, None, if◌then◌else◌}
use Rattle.qh_book.specs.Pages.{EndGiven, RecvPage, RecvState, is_open}
use Rattle.qh_book.specs.Shown.{Note}
use Rattle.qh_quinn.specs.declared.readers.Reader.{Reader}

pub record PlainReaders : Type 0 where
  -- each id once
  pub entries : List (ℕ × Reader)
  -- how many more can be kept without memory
  pub spare : ℕ

abbrev pub reader_in : PlainReaders → (id : ℕ) → Option Reader
reader_in r id = lookup (nat_eq id) r.entries

abbrev pub HasRoom : PlainReaders → Type 0
HasRoom r = 0 < r.spare

-- another one in its place, if there is one
abbrev pub with_reader : Reader → Option Reader → Option Reader
with_reader r None = None
with_reader r (Some other) = Some r

abbrev pub new_reader : Reader
new_reader = record { is_open = true; is_unordered = false; code = None; is_told = false; gave_error = false }

-- the code that is known: after want of memory only one that was told
abbrev pub code_of : (is_emptied : Bool) → Reader → Option ℕ
code_of is_emptied r = if is_emptied && not r.is_told then None else r.code

-- what is noted of a half, as the book's laws have it
abbrev pub note_of : (is_emptied : Bool) → Reader → Note
note_of is_emptied r = record { code = code_of is_emptied r; is_told = r.is_told; gave_error = r.gave_error }

-- one whose end was given has no code
abbrev pub is_end_given : RecvState → Bool
is_end_given EndGiven = true
is_end_given other = false

abbrev pub EndsBare : Reader → RecvPage → Type 0
EndsBare r p = is_end_given p.state ≡ true → r.code ≡ None

-- A handle holds the half: what is kept agrees with what is noted of it, and with its page.
abbrev pub HoldsReader : (is_emptied : Bool) → Option Reader → (is_held : Bool) → Note → Option RecvPage → Type 0
HoldsReader is_emptied (Some r) true note (Some p) = (note ≡ note_of is_emptied r) × (is_open p.state ≡ r.is_open) × (p.is_unordered ≡ r.is_unordered) × EndsBare r p
HoldsReader is_emptied None false note page = Unit {0}
HoldsReader is_emptied reader is_held note page = ⊥
