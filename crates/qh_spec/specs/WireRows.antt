-- Bytes and what they say, for laws that read them (own).
use Rattle.std.specs.Prelude.{ℕ, true, List, [], ◌∷◌, ◌++◌, codes}
use Rattle.qh_spec.specs.declared.sides.Side.TheVariants.{Client}
use Rattle.qh_spec.specs.declared.sides.Space.TheVariants.{Initial, Data}
use Rattle.qh_spec.specs.Datagram.{Packet}
use Rattle.qh_spec.specs.Fields.{Field}
use Rattle.qh_spec.specs.QuicFrame.{StreamFrame}
use Rattle.qh_spec.specs.QuicFrames.{QuicFrame, Num, Text, Nums}

-- the fields of GET https://a.test/
abbrev pub get_fields : List Field
get_fields =
    record { name = codes ":method"; value = codes "GET" } ∷ record { name = codes ":scheme"; value = codes "https" }
    ∷ record { name = codes ":authority"; value = codes "a.test" } ∷ record { name = codes ":path"; value = codes "/" } ∷ []

-- their section
abbrev pub get_section : List ℕ
get_section = 0 ∷ 0 ∷ 209 ∷ 215 ∷ 80 ∷ 6 ∷ 97 ∷ 46 ∷ 116 ∷ 101 ∷ 115 ∷ 116 ∷ 193 ∷ []

-- a client's packet 1000 with HANDSHAKE_DONE, which anybody can write
abbrev pub forged : List ℕ
forged =
    67 ∷ 80 ∷ 0 ∷ 0 ∷ 0 ∷ 0 ∷ 0 ∷ 0 ∷ 0 ∷ 0 ∷ 0 ∷ 3 ∷ 232 ∷ 30
    ∷ 208 ∷ 0 ∷ 0 ∷ 0 ∷ 0 ∷ 0 ∷ 0 ∷ 0 ∷ 0 ∷ 0 ∷ 0 ∷ 0 ∷ 0 ∷ 0 ∷ 0 ∷ 0
    ∷ 165 ∷ 0 ∷ 0 ∷ 0 ∷ 0 ∷ 0 ∷ 0 ∷ 0 ∷ 3 ∷ 232 ∷ 8 ∷ 0 ∷ 0 ∷ 0 ∷ 0 ∷ 1 ∷ []

-- what it says
abbrev pub forged_packet : Packet
forged_packet = record { space = Data; sender = Client; number = 1000; frames = record { kind = 30; values = [] } ∷ [] }

-- the same bytes, with another number in the header than in the tag
abbrev pub misnumbered : List ℕ
misnumbered =
    67 ∷ 80 ∷ 0 ∷ 0 ∷ 0 ∷ 0 ∷ 0 ∷ 0 ∷ 0 ∷ 0 ∷ 0 ∷ 3 ∷ 231 ∷ 30
    ∷ 208 ∷ 0 ∷ 0 ∷ 0 ∷ 0 ∷ 0 ∷ 0 ∷ 0 ∷ 0 ∷ 0 ∷ 0 ∷ 0 ∷ 0 ∷ 0 ∷ 0 ∷ 0
    ∷ 165 ∷ 0 ∷ 0 ∷ 0 ∷ 0 ∷ 0 ∷ 0 ∷ 0 ∷ 3 ∷ 232 ∷ 8 ∷ 0 ∷ 0 ∷ 0 ∷ 0 ∷ 1 ∷ []

-- a client's Initial packet with a PING
abbrev pub initial_part : List ℕ
initial_part =
    195 ∷ 0 ∷ 0 ∷ 0 ∷ 1 ∷ 8 ∷ 208 ∷ 0 ∷ 0 ∷ 0 ∷ 0 ∷ 0 ∷ 0 ∷ 0 ∷ 8 ∷ 192 ∷ 0 ∷ 0 ∷ 0 ∷ 0 ∷ 0 ∷ 0 ∷ 0 ∷ 0 ∷ 37
    ∷ 0 ∷ 0 ∷ 0 ∷ 7 ∷ 1
    ∷ 208 ∷ 0 ∷ 0 ∷ 0 ∷ 0 ∷ 0 ∷ 0 ∷ 0 ∷ 0 ∷ 0 ∷ 0 ∷ 0 ∷ 0 ∷ 0 ∷ 0 ∷ 0
    ∷ 165 ∷ 0 ∷ 0 ∷ 0 ∷ 0 ∷ 0 ∷ 0 ∷ 0 ∷ 0 ∷ 7 ∷ 8 ∷ 0 ∷ 0 ∷ 0 ∷ 0 ∷ 0 ∷ []

-- what it says
abbrev pub initial_packet : Packet
initial_packet = record { space = Initial; sender = Client; number = 7; frames = record { kind = 1; values = [] } ∷ [] }

-- that and a 1-RTT packet behind it
abbrev pub two_packets : List ℕ
two_packets = initial_part ++ forged

-- an Initial packet by its lengths, without ids and a token, whose body of one byte says nothing
abbrev pub refused_part : List ℕ
refused_part = 192 ∷ 0 ∷ 0 ∷ 0 ∷ 1 ∷ 0 ∷ 0 ∷ 0 ∷ 1 ∷ 77 ∷ []

-- a client's packet 1000 with the end of stream 4: the bytes h and i at 3
abbrev pub carrying_hi : List ℕ
carrying_hi =
    67 ∷ 80 ∷ 0 ∷ 0 ∷ 0 ∷ 0 ∷ 0 ∷ 0 ∷ 0 ∷ 0 ∷ 0 ∷ 3 ∷ 232 ∷ 15 ∷ 4 ∷ 3 ∷ 2 ∷ 104 ∷ 105
    ∷ 208 ∷ 0 ∷ 0 ∷ 0 ∷ 0 ∷ 0 ∷ 0 ∷ 0 ∷ 0 ∷ 0 ∷ 0 ∷ 0 ∷ 0 ∷ 0 ∷ 0 ∷ 0
    ∷ 165 ∷ 0 ∷ 0 ∷ 0 ∷ 0 ∷ 0 ∷ 0 ∷ 0 ∷ 3 ∷ 232 ∷ 8 ∷ 0 ∷ 0 ∷ 0 ∷ 0 ∷ 1 ∷ []

-- what it carries
abbrev pub hi_run : StreamFrame
hi_run = record { id = 4; offset = 3; payload = codes "hi"; fin = true }

-- the same as a frame
abbrev pub hi_frame : QuicFrame
hi_frame = record { kind = 15; values = Num 4 ∷ Num 3 ∷ Text (codes "hi") ∷ [] }

-- an ACK of 8 to 10 and of 4 to 5
abbrev pub ack_bytes : List ℕ
ack_bytes = 2 ∷ 10 ∷ 0 ∷ 1 ∷ 2 ∷ 1 ∷ 1 ∷ []

-- the same as a frame
abbrev pub ack_frame : QuicFrame
ack_frame = record { kind = 2; values = Num 10 ∷ Num 0 ∷ Nums (2 ∷ 1 ∷ 1 ∷ []) ∷ [] }
