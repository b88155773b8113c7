-- Datagrams that carry a message, and ends that wrote and read it, for laws that read them (own).
use Rattle.std.specs.Prelude.{ℕ, Bool, true, false, List, [], ◌∷◌, ◌++◌, length, if◌then◌else◌}
use Rattle.qh_spec.specs.declared.link.Event.{Event}
use Rattle.qh_spec.specs.declared.link.Event.TheVariants.{Sent, Given}
use Rattle.qh_spec.specs.declared.sides.Side.{Side}
use Rattle.qh_spec.specs.declared.sides.Side.TheVariants.{Client, Server}
use Rattle.qh_spec.specs.declared.sides.Space.TheVariants.{Data}
use Rattle.qh_spec.specs.Datagram.{Packet}
use Rattle.qh_spec.specs.MessageRows.{get_bytes, get_section, ok_bytes}
use Rattle.qh_spec.specs.QuicFrames.{Num, Nums}
use Rattle.qh_spec.specs.StreamId.{side_bit}
use Rattle.qh_spec.specs.Transcript.{Act, HandedIn, HandedOut, Wrote, Finished, ReadBytes, ReadEnd}

-- the type of a STREAM frame with a length and no offset, and with the stream's end or without
abbrev pub stream_type : (fin : Bool) → ℕ
stream_type fin = if fin then 11 else 10

-- a sender's packet 1000 with fewer than 64 bytes from the start of stream 0, and its end or not
abbrev pub carrying : (sender : Side) (fin : Bool) (payload : List ℕ) → List ℕ
carrying sender fin payload =
    67 ∷ 80 ∷ 0 ∷ 0 ∷ 0 ∷ 0 ∷ 0 ∷ 0 ∷ 0 ∷ 0 ∷ 0 ∷ 3 ∷ 232 ∷ stream_type fin ∷ 0 ∷ length payload
    ∷ (payload
    ++ (208 ∷ 0 ∷ 0 ∷ 0 ∷ 0 ∷ 0 ∷ 0 ∷ 0 ∷ 0 ∷ 0 ∷ 0 ∷ 0 ∷ 0 ∷ 0 ∷ 0 ∷ 0
    ∷ 165 ∷ side_bit sender ∷ 0 ∷ 0 ∷ 0 ∷ 0 ∷ 0 ∷ 0 ∷ 3 ∷ 232 ∷ 8 ∷ 0 ∷ 0 ∷ 0 ∷ 0 ∷ 1 ∷ []))

-- the client's with GET https://a.test/, the same without the end, and the server's with status 200
abbrev pub carrying_get : List ℕ
carrying_get = carrying Client true get_bytes

abbrev pub carrying_open_get : List ℕ
carrying_open_get = carrying Client false get_bytes

abbrev pub carrying_ok : List ℕ
carrying_ok = carrying Server true ok_bytes

-- the client wrote GET https://a.test/ and finished the stream, and handed this datagram out
abbrev pub get_acts : List Act
get_acts = Wrote 0 get_bytes ∷ Finished 0 ∷ HandedOut carrying_get ∷ []

-- it was handed in at the server, and there the request was read in two pieces, to its end
abbrev pub got_acts : List Act
got_acts = HandedIn carrying_get ∷ ReadBytes 0 0 (1 ∷ 13 ∷ []) ∷ ReadBytes 0 2 get_section ∷ ReadEnd 0 ∷ []

-- what the link between them told
abbrev pub get_events : List Event
get_events = Sent Client carrying_get ∷ Given Server carrying_get ∷ []

-- and then the answer came
abbrev pub answered_events : List Event
answered_events = get_events ++ Sent Server carrying_ok ∷ Given Client carrying_ok ∷ []

-- the server's packet with an ACK of this number alone
abbrev pub ack_of : ℕ → Packet
ack_of n = record { space = Data; sender = Server; number = 7; frames = record { kind = 2; values = Num n ∷ Num 0 ∷ Nums (0 ∷ []) ∷ [] } ∷ [] }
