-- What a connection sends keeps what it announced, and acknowledges what came (RFC 9000, sections 4, 13.1 and 19).
use Rattle.std.specs.Prelude.{◌≡◌, ◌⊎◌, ℕ, ◌^◌, ◌<◌, ◌≤◌, Bool, true, false, List, [], ◌∷◌, length, Some, is_some}
use Rattle.std.specs.List.{AllByRecursion}
use Rattle.qh_base.specs.declared.connection_error.ConnectionError.TheVariants.{Memory}
use Rattle.qh_buffers.specs.Ranges.{has}
use Rattle.qh_core.specs.Control.{MaySend, control_frame}
use Rattle.qh_core.specs.Follows.{HasFrame, HasNumber}
use Rattle.qh_core.specs.Inner.{is_open}
use Rattle.qh_core.specs.Receiving.{is_close}
use Rattle.qh_core.specs.Sending.{close_frame}
use Rattle.qh_core.specs.declared.control.ControlFrame.{ControlFrame}
use Rattle.qh_core.specs.declared.inner.Inner.{Inner}
use Rattle.qh_core.specs.declared.state.Close.{Close}
use Rattle.qh_core.specs.declared.state.State.TheVariants.{Drained}
use Rattle.qh_frame.specs.AckWritten.{AreApart, ack_frame}
use Rattle.qh_frame.specs.Plain.{frame, by_dir}
use Rattle.qh_frame.specs.Range.{IsInRange}
use Rattle.qh_frame.specs.WrittenForm.{stream_form}
use Rattle.qh_frame.specs.declared.ack.AckRange.{AckRange}
use Rattle.qh_half.specs.Recv.{PlainRecv}
use Rattle.qh_halves.specs.Counts.{has_send, has_recv}
use Rattle.qh_halves.specs.RecvHalves.{recv_at}
use Rattle.qh_halves.specs.SendHalves.{send_at}
use Rattle.qh_spec.specs.Acknowledged.{Covers}
use Rattle.qh_spec.specs.Datagram.{Packet, HasPacket}
use Rattle.qh_spec.specs.FrameTypes as frame_types
use Rattle.qh_spec.specs.Link.{other}
use Rattle.qh_spec.specs.Lists.{In}
use Rattle.qh_spec.specs.QuicFrame.{StreamFrame}
use Rattle.qh_spec.specs.QuicFrames.{QuicFrame, Num, Text}
use Rattle.qh_spec.specs.Tag.{IsTag}
use Rattle.qh_spec.specs.Transcript.{Act, handed_in, handed_out}
use Rattle.qh_spec.specs.declared.sides.Dir.{Dir}
use Rattle.qh_spec.specs.declared.sides.Side.{Side}
use Rattle.qh_spec.specs.declared.sides.Space.{Space}
use Rattle.qh_spec.specs.declared.sides.Space.TheVariants.{Data}
use Rattle.qh_streams.specs.Streams.{PlainStreams, counts_of, is_two_way, was_opened}

-- ---- tags

-- a tag that is made for a packet names its sender and its number
abbrev pub MakesTags : (sealed : Side → Space → ℕ → List ℕ) → Type 0
MakesTags sealed = (from : Side) (number : ℕ) → number < 2 ^ 62 → IsTag (sealed from Data number) from Data number

-- and so does each that is taken
abbrev pub TakesTags : (accepts : Side → Space → ℕ → List ℕ → Bool) → Type 0
TakesTags accepts = (from : Side) (number : ℕ) (tag : List ℕ) → number < 2 ^ 62 → accepts from Data number tag ≡ true → IsTag tag from Data number

-- ---- streams

-- the stream was opened, and this end sends on it, or reads it
abbrev pub IsSending : PlainStreams → (id : ℕ) → Type 0
IsSending s id = (was_opened s id ≡ true) × (has_send s.side id ≡ true)

abbrev pub IsReading : PlainStreams → (id : ℕ) → Type 0
IsReading s id = (was_opened s id ≡ true) × (has_recv s.side id ≡ true)

-- the limit of the stream that was announced last, where more may come of it, is no less
abbrev pub IsLimited : PlainStreams → (id limit : ℕ) → Type 0
IsLimited s id limit = (half : PlainRecv) → recv_at s.recv id ≡ Some half → limit ≤ half.sent_max_stream_data

-- Each half is that of a stream that was opened and has such a half; no count of streams that was announced exceeds 2^60.
pub record AreLive (s : PlainStreams) : Type 0 where
  pub send : (id : ℕ) → is_some (send_at s.send id) ≡ true → IsSending s id
  pub recv : (id : ℕ) → is_some (recv_at s.recv id) ≡ true → IsReading s id
  pub counts : (two_way : Bool) → (counts_of s two_way).announced.value ≤ 2 ^ 60

module _ {S : Type 0} where
  -- ---- frames

  -- One of these datagrams came with the number.
  abbrev pub HasComeWith : Inner S → (datagrams : List (List ℕ)) → (number : ℕ) → Type 0
  HasComeWith c datagrams number = HasNumber (length c.local_id) datagrams (other c.side) number

  -- The frame is one that the connection may have sent, where these datagrams came: an ACK has only numbers that came; a limit and
  -- a count is no greater than the one that was announced last; a stream that is named was opened, and has the half that sends such
  -- a frame; a token comes from a server alone, and isn't empty, and a new id retires no later one; a CONNECTION_CLOSE comes only once
  -- the connection is closed.
  pub data IsKeptFrame (c : Inner S) (came : List (List ℕ)) (f : QuicFrame) : Type 0 where
    ping : f ≡ frame frame_types.ping [] → IsKeptFrame c came f
    response : (echoed : List ℕ) → f ≡ frame frame_types.path_response (Text echoed ∷ []) → IsKeptFrame c came f
    ack : (ranges : List AckRange) → f ≡ ack_frame 0 ranges → AreApart ranges → ((n : ℕ) → Covers f n → HasComeWith c came n) → IsKeptFrame c came f
    stream : (run : StreamFrame) → f ≡ stream_form run → IsSending c.space.streams run.id → IsKeptFrame c came f
    reset : (id code size : ℕ) → f ≡ frame frame_types.reset_stream (Num id ∷ Num code ∷ Num size ∷ []) → IsSending c.space.streams id → IsKeptFrame c came f
    stop : (id code : ℕ) → f ≡ frame frame_types.stop_sending (Num id ∷ Num code ∷ []) → IsReading c.space.streams id → IsKeptFrame c came f
    max_data : (limit : ℕ) → f ≡ frame frame_types.max_data (Num limit ∷ []) → limit ≤ c.space.streams.recv.announced.value → IsKeptFrame c came f
    max_stream_data : (id limit : ℕ) → f ≡ frame frame_types.max_stream_data (Num id ∷ Num limit ∷ []) → IsReading c.space.streams id → IsLimited c.space.streams id limit → IsKeptFrame c came f
    max_streams : (dir : Dir) (count : ℕ) → f ≡ frame (by_dir dir frame_types.max_streams_bidi frame_types.max_streams_uni) (Num count ∷ []) → count ≤ (counts_of c.space.streams (is_two_way dir)).announced.value → IsKeptFrame c came f
    control : (g : ControlFrame) → f ≡ control_frame g → MaySend c.side c.config.peer_datagram g → IsKeptFrame c came f
    close : (reason : Close) → f ≡ close_frame reason → is_open c.state ≡ false → IsKeptFrame c came f

  -- ---- datagrams

  abbrev pub packet_of : Inner S → (number : ℕ) → (frames : List QuicFrame) → Packet
  packet_of c number frames = record { space = Data; sender = c.side; number = number; frames = frames }

  -- The datagram is one packet of this end's, with a number that was used and with frames, each as above. It has no other reading.
  pub record IsKeptDatagram (c : Inner S) (came : List (List ℕ)) (datagram : List ℕ) : Type 0 where
    pub number : ℕ
    pub used : number < c.space.next_number
    pub frames : List QuicFrame
    pub some : frames ≡ [] → ⊥
    pub has : HasPacket (length c.remote_id) (packet_of c number frames) datagram
    pub only : (p : Packet) → HasPacket (length c.remote_id) p datagram → p ≡ packet_of c number frames
    pub kept : (f : QuicFrame) → In f frames → IsKeptFrame c came f

  -- The connection stands so to the datagrams: what it has to acknowledge came, and what it handed out is as above.
  pub record Announced (c : Inner S) (t : List Act) : Type 0 where
    pub live : AreLive c.space.streams
    pub acks : (n : ℕ) → has c.space.acks.ranges n ≡ true → HasComeWith c (handed_in t) n
    pub sent : (datagram : List ℕ) → In datagram (handed_out t) → IsKeptDatagram c (handed_in t) datagram

  -- want of memory ended it
  abbrev pub IsOver : Inner S → Type 0
  IsOver c = (c.error ≡ Some Memory) × (c.state ≡ Drained)

-- so the connection stands to all that was done with it, unless want of memory ended it
unfoldable pub HasAnnounced : {S : Type 0} → Inner S → List Act → Type 0
HasAnnounced c t = IsOver c ⊎ Announced c t

-- ---- what that means for whoever takes what was sent

module _ {S : Type 0} where
  -- a datagram that was handed out has the frame
  abbrev pub HasSent : Inner S → List Act → QuicFrame → Type 0
  HasSent c t f = HasFrame (length c.remote_id) (handed_out t) c.side f

  -- The datagram is one packet of this end's, with frames, and their values may stand in them. It has no other reading.
  pub record IsReadable (c : Inner S) (datagram : List ℕ) : Type 0 where
    pub packet : Packet
    pub has : HasPacket (length c.remote_id) packet datagram
    pub only : (p : Packet) → HasPacket (length c.remote_id) p datagram → p ≡ packet
    pub space_is : packet.space ≡ Data
    pub sender_is : packet.sender ≡ c.side
    pub some : packet.frames ≡ [] → ⊥
    pub in_range : AllByRecursion IsInRange packet.frames

  -- Each frame that was sent keeps what was announced, and each number was used.
  pub record SendsAsAnnounced (c : Inner S) (t : List Act) : Type 0 where
    pub datagrams : (datagram : List ℕ) → In datagram (handed_out t) → IsKeptDatagram c (handed_in t) datagram
    pub frames : (f : QuicFrame) → HasSent c t f → IsKeptFrame c (handed_in t) f
    pub limit : (n : ℕ) → HasSent c t (frame frame_types.max_data (Num n ∷ [])) → n ≤ c.space.streams.recv.announced.value
    pub counts : (dir : Dir) (n : ℕ) → HasSent c t (frame (by_dir dir frame_types.max_streams_bidi frame_types.max_streams_uni) (Num n ∷ [])) → (n ≤ (counts_of c.space.streams (is_two_way dir)).announced.value) × (n ≤ 2 ^ 60)
    pub stream_limit : (id n : ℕ) → HasSent c t (frame frame_types.max_stream_data (Num id ∷ Num n ∷ [])) → IsReading c.space.streams id × IsLimited c.space.streams id n
    pub streams : (run : StreamFrame) → HasSent c t (stream_form run) → IsSending c.space.streams run.id
    pub resets : (id code size : ℕ) → HasSent c t (frame frame_types.reset_stream (Num id ∷ Num code ∷ Num size ∷ [])) → IsSending c.space.streams id
    pub stops : (id code : ℕ) → HasSent c t (frame frame_types.stop_sending (Num id ∷ Num code ∷ [])) → IsReading c.space.streams id
    pub acks : (f : QuicFrame) (n : ℕ) → HasSent c t f → Covers f n → HasComeWith c (handed_in t) n
    pub numbers : (n : ℕ) → HasNumber (length c.remote_id) (handed_out t) c.side n → n < c.space.next_number
    pub no_close : is_open c.state ≡ true → (f : QuicFrame) → HasSent c t f → is_close f ≡ false
    pub live : AreLive c.space.streams
