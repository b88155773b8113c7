-- Which values may stand in a frame, beside their form.
use Rattle.std.specs.Prelude.{ℕ, ◌+◌, ◌-◌, ◌^◌, ◌<◌, ◌≤◌, ◌==◌, ◌&&◌, nat_lt, nat_le, Bool, true, false, MatchBool, List, [], ◌∷◌, length, Option, Some, None, if◌then◌else◌}
use Rattle.qh_spec.specs.Acknowledged.{AreRanges}
use Rattle.qh_spec.specs.FrameTypes as frame_types
use Rattle.qh_spec.specs.FrameViews.{stream_values}
use Rattle.qh_spec.specs.QuicFrame.{StreamFrame, has_bit}
use Rattle.qh_spec.specs.QuicFrames.{QuicFrame, Value, Num, Text, Nums}

-- STREAM: no byte lies from 2 ^ 62 on (RFC 9000, section 19.8)
abbrev pub IsStreamInRange : Option StreamFrame → Type 0
IsStreamInRange None = Unit {0}
IsStreamInRange (Some s) = s.offset + length s.payload < 2 ^ 62

-- CRYPTO: likewise (section 19.6)
abbrev pub IsCryptoInRange : List Value → Type 0
IsCryptoInRange (Num offset ∷ Text payload ∷ more) = offset + length payload < 2 ^ 62
IsCryptoInRange _ = Unit {0}

-- NEW_TOKEN: the token isn't empty (section 19.7)
abbrev pub IsTokenInRange : List Value → Type 0
IsTokenInRange (Text token ∷ more) = 1 ≤ length token
IsTokenInRange _ = Unit {0}

-- ACK: no range goes below 0 (section 19.3.1)
abbrev pub IsAckInRange : List Value → Type 0
IsAckInRange (Num greatest ∷ delay ∷ Nums ranges ∷ more) = AreRanges greatest ranges
IsAckInRange _ = Unit {0}

-- MAX_STREAMS and STREAMS_BLOCKED: each stream has an id (sections 19.11 and 19.14)
abbrev pub IsCountInRange : List Value → Type 0
IsCountInRange (Num count ∷ more) = count ≤ 2 ^ 60
IsCountInRange _ = Unit {0}

-- NEW_CONNECTION_ID: no later id is retired, and this one has 1 to 20 bytes (section 19.15)
abbrev pub IsNewIdInRange : List Value → Type 0
IsNewIdInRange (Num sequence ∷ Num prior ∷ Text id ∷ more) = (prior ≤ sequence) × (1 ≤ length id) × (length id ≤ 20)
IsNewIdInRange _ = Unit {0}

abbrev pub AreInRange : ℕ → List Value → Type 0
AreInRange kind values =
    MatchBool (frame_types.is_stream_type kind) (IsStreamInRange (stream_values (has_bit 1 kind) values))
    (MatchBool (frame_types.is_ack_type kind) (IsAckInRange values)
    (MatchBool (kind == frame_types.crypto) (IsCryptoInRange values)
    (MatchBool (kind == frame_types.new_token) (IsTokenInRange values)
    (MatchBool (frame_types.is_max_streams_type kind) (IsCountInRange values)
    (MatchBool (frame_types.is_streams_blocked_type kind) (IsCountInRange values)
    (MatchBool (kind == frame_types.new_connection_id) (IsNewIdInRange values) (Unit {0})))))))

-- the frame's values may stand in it
abbrev pub IsInRange : QuicFrame → Type 0
IsInRange f = AreInRange f.kind f.values

-- The same as tests.
abbrev pub stream_in_range : Option StreamFrame → Bool
stream_in_range None = true
stream_in_range (Some s) = nat_lt (s.offset + length s.payload) (2 ^ 62)

abbrev pub crypto_in_range : List Value → Bool
crypto_in_range (Num offset ∷ Text payload ∷ more) = nat_lt (offset + length payload) (2 ^ 62)
crypto_in_range _ = true

abbrev pub token_in_range : List Value → Bool
token_in_range (Text token ∷ more) = nat_le 1 (length token)
token_in_range _ = true

unfoldable pub are_ranges : ℕ → List ℕ → Bool
are_ranges greatest [] = false
are_ranges greatest (range ∷ []) = nat_le range greatest
are_ranges greatest (range ∷ gap ∷ more) = nat_le (2 + gap + range) greatest && are_ranges (greatest - (2 + gap + range)) more

abbrev pub ack_in_range : List Value → Bool
ack_in_range (Num greatest ∷ delay ∷ Nums ranges ∷ more) = are_ranges greatest ranges
ack_in_range _ = true

abbrev pub count_in_range : List Value → Bool
count_in_range (Num count ∷ more) = nat_le count (2 ^ 60)
count_in_range _ = true

abbrev pub new_id_in_range : List Value → Bool
new_id_in_range (Num sequence ∷ Num prior ∷ Text id ∷ more) = nat_le prior sequence && (nat_le 1 (length id) && nat_le (length id) 20)
new_id_in_range _ = true

abbrev pub in_range : ℕ → List Value → Bool
in_range kind values =
    if frame_types.is_stream_type kind then stream_in_range (stream_values (has_bit 1 kind) values)
    else if frame_types.is_ack_type kind then ack_in_range values
    else if kind == frame_types.crypto then crypto_in_range values
    else if kind == frame_types.new_token then token_in_range values
    else if frame_types.is_max_streams_type kind then count_in_range values
    else if frame_types.is_streams_blocked_type kind then count_in_range values
    else if kind == frame_types.new_connection_id then new_id_in_range values
    else true
