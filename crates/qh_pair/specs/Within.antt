-- What a side sends in STREAM and RESET_STREAM frames keeps within what its peer announced to it (RFC 9000, sections 4.1, 4.5 and 4.6), told
-- of datagrams alone.
use Rattle.std.specs.Prelude.{◌≡◌, ℕ, ◌+◌, true, List, [], ◌∷◌, ◌++◌, length, map, sum_by, if◌then◌else◌}
use Rattle.qh_core.specs.Follows.{HasFrame, reset_frame}
use Rattle.qh_halves.specs.Counts.{is_bi, is_own, index_of}
use Rattle.qh_spec.specs.Announced.{IsPermitted, Connection, Stream, Count}
use Rattle.qh_spec.specs.Carried.{HasRun}
use Rattle.qh_spec.specs.Link.{other, given_to, sent_by}
use Rattle.qh_spec.specs.Lists.{In, Distinct}
use Rattle.qh_spec.specs.QuicFrame.{StreamFrame as Run}
use Rattle.qh_spec.specs.declared.link.Event.{Event}
use Rattle.qh_spec.specs.declared.sides.Dir.{Dir}
use Rattle.qh_spec.specs.declared.sides.Dir.TheVariants.{Bi, Uni}
use Rattle.qh_spec.specs.declared.sides.Side.{Side}

-- the direction of the streams with such an id (section 2.1)
abbrev pub dir_of : (id : ℕ) → Dir
dir_of id = if is_bi id then Bi else Uni

-- A frame of the sender's in these datagrams takes a stream up to an offset: a STREAM frame up to the end of its bytes, a
-- RESET_STREAM frame up to its final size (RFC 9000, sections 4.1 and 4.5).
pub data TakesTo (id_length : ℕ) (datagrams : List (List ℕ)) (sender : Side) : (id end : ℕ) → Type 0 where
  run : (run : Run) → HasRun id_length datagrams sender run → TakesTo id_length datagrams sender run.id (run.offset + length run.payload)
  reset : (id code size : ℕ) → HasFrame id_length datagrams sender (reset_frame id code size) → TakesTo id_length datagrams sender id size

-- A side that was given these datagrams, and sent those, then sent one with a frame that takes a stream up to an offset. What its peer had
-- announced to it by then permits that. Its own ids have one length, and its peer's another.
pub record IsWithinAnnounced (own_length peer_length : ℕ) (side : Side) (given sent : List (List ℕ)) (datagram : List ℕ) (id end : ℕ) : Type 0 where
  -- as many bytes of that stream
  pub stream_bytes : IsPermitted own_length given (other side) (Stream id) end
  -- Whatever STREAM and RESET_STREAM frames one takes from the datagram and from all that were sent before, one of each stream, as many bytes
  -- of all streams as the offsets up to which they take their streams come to in sum. So do the greatest of these offsets on each stream.
  pub all_bytes : (ends : List (ℕ × ℕ)) → Distinct (map (λ (e : ℕ × ℕ). e.0) ends)
      → ((e : ℕ × ℕ) → In e ends → TakesTo peer_length (sent ++ datagram ∷ []) side e.0 e.1)
      → IsPermitted own_length given (other side) Connection (sum_by (λ (e : ℕ × ℕ). e.1) ends)
  -- as many streams, if this side opens the stream
  pub count : is_own side id ≡ true → IsPermitted own_length given (other side) (Count (dir_of id)) (index_of id + 1)

-- so it is of each STREAM and RESET_STREAM frame of a datagram that a side sent behind these events
abbrev pub KeptWithin : (id_length : ℕ) → Side → (before : List Event) → (datagram : List ℕ) → Type 0
KeptWithin id_length side before datagram = (id end : ℕ) → TakesTo id_length (datagram ∷ []) side id end
    → IsWithinAnnounced id_length id_length side (given_to side before) (sent_by side before) datagram id end
