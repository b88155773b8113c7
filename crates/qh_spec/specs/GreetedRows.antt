-- Datagrams that carry a hello or a limit, for laws that read them (own).
use Rattle.std.specs.Prelude.{ℕ, ◌+◌, List, [], ◌∷◌, ◌++◌, length}
use Rattle.qh_spec.specs.declared.link.Event.{Event}
use Rattle.qh_spec.specs.declared.link.Event.TheVariants.{Sent, Given}
use Rattle.qh_spec.specs.declared.sides.Side.{Side}
use Rattle.qh_spec.specs.declared.sides.Side.TheVariants.{Client, Server}
use Rattle.qh_spec.specs.Hello.{FirstLimits}
use Rattle.qh_spec.specs.HelloRows.{short_hello, source_bytes, original_bytes}
use Rattle.qh_spec.specs.StreamId.{side_bit}
use Rattle.qh_spec.specs.WireRows.{forged}

-- a sender's Initial packet 7 with fewer than 25 bytes of its hello at an offset below 64
abbrev pub carrying_crypto : (sender : Side) (offset : ℕ) (payload : List ℕ) → List ℕ
carrying_crypto sender offset payload =
    195 ∷ 0 ∷ 0 ∷ 0 ∷ 1 ∷ 8 ∷ 208 ∷ 0 ∷ 0 ∷ 0 ∷ 0 ∷ 0 ∷ 0 ∷ 0 ∷ 8 ∷ 192 ∷ 0 ∷ 0 ∷ 0 ∷ 0 ∷ 0 ∷ 0 ∷ 0 ∷ 0 ∷ (39 + length payload)
    ∷ 0 ∷ 0 ∷ 0 ∷ 7 ∷ 6 ∷ offset ∷ length payload
    ∷ (payload
    ++ (208 ∷ 0 ∷ 0 ∷ 0 ∷ 0 ∷ 0 ∷ 0 ∷ 0 ∷ 0 ∷ 0 ∷ 0 ∷ 0 ∷ 0 ∷ 0 ∷ 0 ∷ 0
    ∷ 165 ∷ side_bit sender ∷ 0 ∷ 0 ∷ 0 ∷ 0 ∷ 0 ∷ 0 ∷ 0 ∷ 7 ∷ 8 ∷ 0 ∷ 0 ∷ 0 ∷ 0 ∷ 0 ∷ []))

-- a client's hello with a limit of 1,000 bytes on all streams, and its two halves
abbrev pub limit_hello : List ℕ
limit_hello = short_hello Client (4 ∷ 2 ∷ 67 ∷ 232 ∷ source_bytes)

abbrev pub first_half : List ℕ
first_half = 1 ∷ 0 ∷ 8 ∷ 4 ∷ []

abbrev pub second_half : List ℕ
second_half = 2 ∷ 67 ∷ 232 ∷ 15 ∷ 2 ∷ 192 ∷ 1 ∷ []

-- the limits that it says
abbrev pub hello_limits : FirstLimits
hello_limits = record { max_data = 1000; bidi_local = 0; bidi_remote = 0; uni = 0; max_bidi = 0; max_uni = 0 }

-- a client's packet 1000 with MAX_DATA of 5,000
abbrev pub carrying_max_data : List ℕ
carrying_max_data =
    67 ∷ 80 ∷ 0 ∷ 0 ∷ 0 ∷ 0 ∷ 0 ∷ 0 ∷ 0 ∷ 0 ∷ 0 ∷ 3 ∷ 232 ∷ 16 ∷ 83 ∷ 136
    ∷ 208 ∷ 0 ∷ 0 ∷ 0 ∷ 0 ∷ 0 ∷ 0 ∷ 0 ∷ 0 ∷ 0 ∷ 0 ∷ 0 ∷ 0 ∷ 0 ∷ 0 ∷ 0
    ∷ 165 ∷ 0 ∷ 0 ∷ 0 ∷ 0 ∷ 0 ∷ 0 ∷ 0 ∷ 3 ∷ 232 ∷ 8 ∷ 0 ∷ 0 ∷ 0 ∷ 0 ∷ 1 ∷ []

-- the same with MAX_DATA of 50
abbrev pub carrying_low_max_data : List ℕ
carrying_low_max_data =
    67 ∷ 80 ∷ 0 ∷ 0 ∷ 0 ∷ 0 ∷ 0 ∷ 0 ∷ 0 ∷ 0 ∷ 0 ∷ 3 ∷ 232 ∷ 16 ∷ 50
    ∷ 208 ∷ 0 ∷ 0 ∷ 0 ∷ 0 ∷ 0 ∷ 0 ∷ 0 ∷ 0 ∷ 0 ∷ 0 ∷ 0 ∷ 0 ∷ 0 ∷ 0 ∷ 0
    ∷ 165 ∷ 0 ∷ 0 ∷ 0 ∷ 0 ∷ 0 ∷ 0 ∷ 0 ∷ 3 ∷ 232 ∷ 8 ∷ 0 ∷ 0 ∷ 0 ∷ 0 ∷ 1 ∷ []

-- the hello with a limit of 1,000 bytes, and a datagram that came with it
abbrev pub hello_and : List ℕ → List (List ℕ)
hello_and datagram = carrying_crypto Client 0 limit_hello ∷ datagram ∷ []

-- a server's hello
abbrev pub answer_hello : List ℕ
answer_hello = short_hello Server (source_bytes ++ original_bytes)

-- both hellos went over, and then the client sent a 1-RTT packet
abbrev pub greeting_events : List Event
greeting_events =
    Sent Client (carrying_crypto Client 0 limit_hello) ∷ Given Server (carrying_crypto Client 0 limit_hello)
    ∷ Sent Server (carrying_crypto Server 0 answer_hello) ∷ Given Client (carrying_crypto Server 0 answer_hello) ∷ Sent Client forged ∷ []
