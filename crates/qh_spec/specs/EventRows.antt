-- Events of links and records, for laws that read them (own).
use Rattle.std.specs.Prelude.{ℕ, List, [], ◌∷◌}
use Rattle.qh_spec.specs.declared.sides.Side.TheVariants.{Client, Server}
use Rattle.qh_spec.specs.declared.link.Event.{Event}
use Rattle.qh_spec.specs.declared.link.Event.TheVariants.{Sent, Given, Dry, Round}
use Rattle.qh_spec.specs.MessageRows.{get_message, ok_message}
use Rattle.qh_spec.specs.Record.{PlainEntry}
use Rattle.qh_spec.specs.Transcript.{Act, HandedIn, HandedOut, Wrote, Finished, Reset, ReadBytes, ReadEnd}

-- the client sent a datagram in one round, and the server was given it in the next, a millisecond later
abbrev pub prompt_events : List Event
prompt_events =
    Round 0 ∷ Sent Client (7 ∷ []) ∷ Round 1000000 ∷ Given Server (7 ∷ []) ∷ Dry Server ∷ []

-- the same, with rounds that begin one and two milliseconds past 0
abbrev pub scheduled_events : List Event
scheduled_events =
    Round 1000000 ∷ Sent Client (7 ∷ []) ∷ Round 2000000 ∷ Given Server (7 ∷ []) ∷ Dry Server ∷ []

-- the server was given it in the same round
abbrev pub early_events : List Event
early_events = Round 0 ∷ Sent Client (7 ∷ []) ∷ Given Server (7 ∷ []) ∷ []

-- the client was given what it sent itself
abbrev pub echoed_events : List Event
echoed_events = Sent Client (7 ∷ []) ∷ Given Client (7 ∷ []) ∷ []

-- a turn in which the client was given a datagram and sent one
abbrev pub turn_events : List Event
turn_events = Round 5 ∷ Given Client (7 ∷ []) ∷ Dry Client ∷ Dry Server ∷ Sent Client (8 ∷ []) ∷ []

-- the server asked before the client
abbrev pub turned_events : List Event
turned_events = Round 5 ∷ Dry Server ∷ Dry Client ∷ []

-- GET https://a.test/ on this stream, and its answer
abbrev pub entry_on : (stream : ℕ) → PlainEntry
entry_on stream = record { stream = stream; request = get_message; response = ok_message }

-- bytes were written on two streams and one was finished, another was read to its end, and datagrams passed
abbrev pub some_acts : List Act
some_acts =
    Wrote 0 (1 ∷ 2 ∷ []) ∷ HandedOut (9 ∷ []) ∷ Wrote 4 (3 ∷ []) ∷ Wrote 0 (4 ∷ []) ∷ Finished 0 ∷ HandedIn (8 ∷ [])
    ∷ ReadBytes 4 0 (5 ∷ 6 ∷ []) ∷ ReadBytes 4 2 (7 ∷ []) ∷ ReadEnd 4 ∷ Reset 4 256 ∷ []
