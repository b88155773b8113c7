-- Which datagrams are sent (RFC 9000, sections 10.2, 12.2, 14 and 17.3.1; RFC 9002, section 7).
use Rattle.std.specs.Prelude.{◌≡◌, ℕ, ◌+◌, ◌-◌, ◌^◌, ◌<◌, ◌≤◌, nat_lt, Bool, true, false, List, [], ◌∷◌, ◌++◌, length, take, Option, Some, None, if◌then◌else◌}
use Rattle.qh_base.specs.declared.path.Transmit.{Transmit}
use Rattle.qh_base.specs.declared.time.Moment.{Moment}
use Rattle.qh_core.specs.Config.{bounded}
use Rattle.qh_core.specs.Control.{IsControlMade, control_bytes, fitting}
use Rattle.qh_core.specs.Inner.{is_open, counted}
use Rattle.qh_core.specs.Timers.{sent_at}
use Rattle.qh_core.specs.declared.control.ControlFrame.{ControlFrame}
use Rattle.qh_core.specs.declared.control.ControlSent.{ControlSent}
use Rattle.qh_core.specs.declared.idle.IdleTimer.{IdleTimer}
use Rattle.qh_core.specs.declared.inner.Inner.{Inner}
use Rattle.qh_core.specs.declared.state.Close.{Close}
use Rattle.qh_core.specs.declared.state.Close.TheVariants.{Connection, Application}
use Rattle.qh_core.specs.declared.state.State.{State}
use Rattle.qh_core.specs.declared.state.State.TheVariants.{Closed, Draining, Drained}
use Rattle.qh_frame.specs.FrameBytes.{frame_bytes}
use Rattle.qh_frame.specs.Plain.{frame}
use Rattle.qh_packet.specs.Packet.{header_bytes}
use Rattle.qh_space.specs.Sending.{IsPacketMade, IsQuiet, may_elicit}
use Rattle.qh_space.specs.declared.data_space.DataSpace.{DataSpace}
use Rattle.qh_spec.specs.FrameTypes as frame_types
use Rattle.qh_spec.specs.QuicFrames.{QuicFrame, Num, Text}
use Rattle.qh_spec.specs.declared.sides.Side.{Side}
use Rattle.qh_spec.specs.declared.sides.Space.{Space}
use Rattle.qh_spec.specs.declared.sides.Space.TheVariants.{Data}
use Rattle.qh_streams.specs.Streams.{IsReadBack}

-- the type of the frame at fault, 0 where none is known
abbrev pub fault_type : Option ℕ → ℕ
fault_type None = 0
fault_type (Some kind) = bounded kind

-- the CONNECTION_CLOSE that says the reason (RFC 9000, section 19.19)
abbrev pub close_frame : Close → QuicFrame
close_frame (Connection c) = frame frame_types.connection_close (Num (bounded c.code.0) ∷ Num (fault_type c.frame) ∷ Text c.reason ∷ [])
close_frame (Application a) = frame frame_types.application_close (Num a.error_code ∷ Text a.reason ∷ [])

-- a CONNECTION_CLOSE is to be sent
abbrev pub is_close_due : State → Bool
is_close_due (Closed reason is_due until) = is_due
is_close_due other = false

-- none is to be sent any more
abbrev pub without_close_due : State → State
without_close_due (Closed reason is_due until) = Closed reason false until
without_close_due other = other

-- a CONNECTION_CLOSE that is to be sent is read as that frame, whatever comes behind it
abbrev pub ClosesReadBack : State → Type 0
ClosesReadBack state = (reason : Close) (until : Moment) → state ≡ Closed reason true until → IsReadBack (close_frame reason)

-- the idle time runs from the first ack-eliciting packet on: such a packet is out now that wasn't
abbrev pub idle_after : (now : Moment) → (old new : DataSpace) → IdleTimer → IdleTimer
idle_after now old new t = if nat_lt (length old.sent) (length new.sent) then sent_at now t else t

module _ {S : Type 0} where
  -- the bytes of a datagram around its frames: the header with the peer's id and four bytes of the number, and the tag
  abbrev pub overhead : Inner S → ℕ
  overhead c = length c.remote_id + 37

  -- the 1-RTT packet with the next number and these frames; it fills its datagram
  abbrev pub datagram_of : (sealed : Side → Space → ℕ → List ℕ) → Inner S → (frames : List ℕ) → List ℕ
  datagram_of sealed c frames = header_bytes c.remote_id c.space.next_number ++ (frames ++ sealed c.side Data c.space.next_number)

  -- The frames of the next datagram: while the connection is open those of the space, which have some 1,140 bytes of room, or
  -- frames of the connection's own, and once this end closed, where it is to tell so, a CONNECTION_CLOSE alone.
  pub data AreFramesMade (now : Moment) (old new : Inner S) (before frames : List ℕ) : Type 0 where
    packet : is_open old.state ≡ true → IsPacketMade now.0 (overhead old) (1200 - overhead old) old.space new.space before (before ++ frames)
        → new ≡ record old { space = new.space; idle = idle_after now old.space new.space old.idle; udp_tx = new.udp_tx } → AreFramesMade now old new before frames
    control : is_open old.state ≡ true → IsControlMade now.0 (overhead old) old.side old.config.peer_datagram old.space new.space frames
        → new ≡ record old { space = new.space; idle = idle_after now old.space new.space old.idle; udp_tx = new.udp_tx } → AreFramesMade now old new before frames
    close : (reason : Close) (until : Moment) → old.state ≡ Closed reason true until → frames ≡ frame_bytes (close_frame reason)
        → new ≡ record old { state = Closed reason false until; space = record old.space { next_number = old.space.next_number + 1 }; udp_tx = new.udp_tx } → AreFramesMade now old new before frames

  -- they aren't frames of the connection's own
  abbrev pub AreNotControl : {now : Moment} {old new : Inner S} {before frames : List ℕ} → AreFramesMade now old new before frames → Type 0
  AreNotControl (packet _ _ _) = Unit {0}
  AreNotControl (control _ _ _) = ⊥
  AreNotControl (close _ _ _ _ _) = Unit {0}

  -- these frames were appended to what stands before them in the datagram
  pub record AreFramesPut (now : Moment) (old new : Inner S) (before after : List ℕ) : Type 0 where
    pub frames : List ℕ
    pub after_is : after ≡ before ++ frames
    pub number : old.space.next_number < 2 ^ 62
    pub fits : length frames ≤ 1200 - overhead old
    pub made : AreFramesMade now old new before frames

  -- A datagram of so many bytes, at most 1,200, was appended to a buffer.
  pub record AreBytesMade (sealed : Side → Space → ℕ → List ℕ) (now : Moment) (old new : Inner S) (before after : List ℕ) (size : ℕ) : Type 0 where
    pub frames : List ℕ
    pub after_is : after ≡ before ++ datagram_of sealed old frames
    -- the peer's id has at most 20 bytes (RFC 9000, section 17.2), so that frames have 1,143 bytes of room at least
    pub short : length old.remote_id ≤ 20
    pub number : old.space.next_number < 2 ^ 62
    pub made : AreFramesMade now old new (header_bytes old.remote_id old.space.next_number) frames
    pub size_is : size ≡ length (datagram_of sealed old frames)
    pub fits : size ≤ 1200

  -- it is counted, and goes to the peer
  pub record IsDatagramMade (sealed : Side → Space → ℕ → List ℕ) (now : Moment) (old new : Inner S) (before after : List ℕ) (t : Transmit) : Type 0 where
    pub bytes : AreBytesMade sealed now old new before after t.size
    pub counted_is : new.udp_tx ≡ counted t.size old.udp_tx
    pub destination : t.destination ≡ old.addresses.remote
    pub source : t.src_ip ≡ old.addresses.local_ip

  -- the same of frames that aren't of the connection's own
  abbrev pub ArePut : (now : Moment) → (old new : Inner S) → (before after : List ℕ) → Type 0
  ArePut now old new before after = (put : AreFramesPut now old new before after) × AreNotControl put.made

  -- The datagram that was appended bears what the space has to send, or a CONNECTION_CLOSE, and no frames of the connection's own.
  pub record BearsNoControl (sealed : Side → Space → ℕ → List ℕ) (now : Moment) (old new : Inner S) (before after : List ℕ) : Type 0 where
    pub frames : List ℕ
    pub after_is : after ≡ before ++ datagram_of sealed old frames
    pub made : AreFramesMade now old new (header_bytes old.remote_id old.space.next_number) frames
    pub no_control : AreNotControl made

  -- as many of these frames of the connection's own as have room were appended to what stands before them in the datagram
  pub record AreControlPut (now : Moment) (old new : Inner S) (before after : List ℕ) (frames : List ControlFrame) : Type 0 where
    pub opened : is_open old.state ≡ true
    pub number : old.space.next_number < 2 ^ 62
    pub after_is : after ≡ before ++ control_bytes (take (fitting (1200 - overhead old) frames) frames)
    pub fits : length (control_bytes (take (fitting (1200 - overhead old) frames) frames)) ≤ 1200 - overhead old
    pub packet : IsControlMade now.0 (overhead old) old.side old.config.peer_datagram old.space new.space (control_bytes (take (fitting (1200 - overhead old) frames) frames))
    pub rest_is : new ≡ record old { space = new.space; idle = idle_after now old.space new.space old.idle }

  -- A datagram of so many of these frames, and of so many bytes, was appended to a buffer.
  pub record AreControlAppended (sealed : Side → Space → ℕ → List ℕ) (now : Moment) (old new : Inner S) (before after : List ℕ) (frames : List ControlFrame) (size count : ℕ) : Type 0 where
    pub bytes : AreBytesMade sealed now old new before after size
    pub opened : is_open old.state ≡ true
    pub count_is : count ≡ fitting (1200 - overhead old) frames
    pub some : 0 < count
    pub frames_are : bytes.frames ≡ control_bytes (take count frames)
    pub packet : IsControlMade now.0 (overhead old) old.side old.config.peer_datagram old.space new.space (control_bytes (take count frames))

  -- A datagram was made of as many of these frames of the connection's own as it has room for, from the first on.
  pub record IsControlSent (sealed : Side → Space → ℕ → List ℕ) (now : Moment) (old new : Inner S) (before after : List ℕ) (frames : List ControlFrame) (sent : ControlSent) : Type 0 where
    pub made : IsDatagramMade sealed now old new before after sent.transmit
    pub opened : is_open old.state ≡ true
    pub count_is : sent.count ≡ fitting (1200 - overhead old) frames
    pub some : 0 < sent.count
    pub frames_are : made.bytes.frames ≡ control_bytes (take sent.count frames)
    pub number_is : sent.number ≡ old.space.next_number
    pub packet : IsControlMade now.0 (overhead old) old.side old.config.peer_datagram old.space new.space (control_bytes (take sent.count frames))

  -- frames of the connection's own may be sent now
  abbrev pub MaySendControl : Inner S → Type 0
  MaySendControl c = (is_open c.state ≡ true) × (c.space.next_number < 2 ^ 62) × (c.space.acks.is_due ≡ false) × (may_elicit c.space ≡ true)

  -- Why no frame of the connection's own is sent now.
  pub data IsControlKept (c : Inner S) (frames : List ControlFrame) : Type 0 where
    shut : is_open c.state ≡ false → IsControlKept c frames
    exhausted : c.space.next_number ≡ 2 ^ 62 → IsControlKept c frames
    -- an ACK is due, which goes first
    acknowledging : c.space.acks.is_due ≡ true → IsControlKept c frames
    -- the window is full, and no probe is due
    held : may_elicit c.space ≡ false → IsControlKept c frames
    -- there is none, or the first has no room in a datagram
    unfit : fitting (1200 - overhead c) frames ≡ 0 → IsControlKept c frames

  -- Why nothing is sent: no ACK is due, and nothing waits that may be sent; or no packet number is left; or the connection was
  -- closed, and nothing more is to be told.
  pub data IsSilent (c : Inner S) : Type 0 where
    quiet : is_open c.state ≡ true → IsQuiet c.space → IsSilent c
    exhausted : c.space.next_number ≡ 2 ^ 62 → IsSilent c
    told : (reason : Close) (until : Moment) → c.state ≡ Closed reason false until → IsSilent c
    draining : (until : Moment) → c.state ≡ Draining until → IsSilent c
    drained : c.state ≡ Drained → IsSilent c

  -- nothing is to be sent, and nothing changed
  abbrev pub NothingIsSent : (old new : Inner S) → Type 0
  NothingIsSent old new = (new ≡ old) × IsSilent old
