-- What an ACK, the loss rules and a probe do with packets that are out (RFC 9002, section 6).
use Rattle.std.specs.Prelude.{◌≡◌, ◌↔◌, ℕ, Bool, true, false, not, List, [], ◌∷◌, ◌++◌, length, Option, Some}
use Rattle.std.specs.List.{All, filter}
use Rattle.qh_recovery.specs.SentPackets.{packet_at, IsLost}
use Rattle.qh_recovery.specs.Window.{acked, lost}
use Rattle.qh_recovery.specs.declared.congestion.WindowController.{WindowController}
use Rattle.qh_recovery.specs.declared.sent_packets.SentPacket.{SentPacket}
use Rattle.qh_spec.specs.Acknowledged.{Covers}
use Rattle.qh_spec.specs.Lists.{In, Distinct}
use Rattle.qh_spec.specs.QuicFrames.{QuicFrame}
use Rattle.qh_streams.specs.Items.{logged, AreConfirmed}
use Rattle.qh_streams.specs.Streams.{PlainStreams, AreAcked, AreLost, IsLostFrame, IsSettledFrame}
use Rattle.qh_streams.specs.declared.frames.SentFrame.{SentFrame}
use Rattle.qh_streams.specs.declared.items.Item.{Item}
use Rattle.qh_streams.specs.declared.frames.SentFrame.TheVariants as sent
use Rattle.qh_loss.specs.Owed.{frames_out}
use Rattle.qh_loss.specs.declared.probe.Probe.{Probe}
use Rattle.qh_loss.specs.declared.probe.Probe.TheVariants.{Stream, Others, Ping}

-- just the packets that are so were taken out, each of them once
pub record AreTaken (P : ℕ → SentPacket SentFrame → Type 0) (old new taken : List (ℕ × SentPacket SentFrame)) : Type 0 where
  pub are_so : All (λ e. (packet_at old e.0 ≡ Some e.1) × P e.0 e.1) taken
  pub all : (k : ℕ) (q : SentPacket SentFrame) → packet_at old k ≡ Some q → P k q → In (k, q) taken
  pub once : Distinct taken
  pub left : (k : ℕ) (q : SentPacket SentFrame) → (packet_at new k ≡ Some q) ↔ ((packet_at old k ≡ Some q) × (P k q → ⊥))

-- ---- acknowledgement (RFC 9002, section 5.1 and appendix A.7)

-- the window after these packets are acknowledged, one after another
abbrev pub window_acked : List (ℕ × SentPacket SentFrame) → WindowController → WindowController
window_acked [] c = c
window_acked (e ∷ es) c = window_acked es (acked e.1.size c)

-- The packets that are so are out no more, and their frames are acknowledged.
pub record AreAckTaken (P : ℕ → SentPacket SentFrame → Type 0) (old new : List (ℕ × SentPacket SentFrame)) (streams_old streams_new : PlainStreams) (window_old window_new : WindowController) : Type 0 where
  pub taken : List (ℕ × SentPacket SentFrame)
  pub packets : AreTaken P old new taken
  pub frames : AreAcked streams_old streams_new (frames_out taken)
  pub window : window_new ≡ window_acked taken window_old

-- an ACK came: so it is with the packets that it covers
abbrev pub IsAckTaken : (ack : QuicFrame) (old new : List (ℕ × SentPacket SentFrame)) (streams_old streams_new : PlainStreams) (window_old window_new : WindowController) → Type 0
IsAckTaken ack old new streams_old streams_new window_old window_new = AreAckTaken (λ k q. Covers ack k) old new streams_old streams_new window_old window_new

-- The same, and what that confirms is kept in a log; nothing is kept if it is off.
pub record AreAckConfirmed (P : ℕ → SentPacket SentFrame → Type 0) (old new : List (ℕ × SentPacket SentFrame)) (streams_old streams_new : PlainStreams) (window_old window_new : WindowController)
    (log_old log_new : Option (List Item)) : Type 0 where
  pub taken : AreAckTaken P old new streams_old streams_new window_old window_new
  pub items : List Item
  pub confirmed : AreConfirmed streams_old streams_new (frames_out taken.taken) items
  pub log_is : log_new ≡ logged log_old items

abbrev pub IsAckConfirmed : (ack : QuicFrame) (old new : List (ℕ × SentPacket SentFrame)) (streams_old streams_new : PlainStreams) (window_old window_new : WindowController)
    (log_old log_new : Option (List Item)) → Type 0
IsAckConfirmed ack old new streams_old streams_new window_old window_new log_old log_new =
    AreAckConfirmed (λ k q. Covers ack k) old new streams_old streams_new window_old window_new log_old log_new

-- ---- loss (RFC 9002, section 6.1)

-- the window after these packets are lost, one after another
abbrev pub window_lost : (next_number : ℕ) → List (ℕ × SentPacket SentFrame) → WindowController → WindowController
window_lost next_number [] c = c
window_lost next_number (e ∷ es) c = window_lost next_number es (lost e.0 next_number c)

-- The packets that are lost by now are out no more, and their frames are lost; `count` is how many packets they are.
pub record AreLostTaken (largest_acked now delay next_number : ℕ) (old new : List (ℕ × SentPacket SentFrame)) (streams_old streams_new : PlainStreams)
    (window_old window_new : WindowController) (count : ℕ) : Type 0 where
  pub taken : List (ℕ × SentPacket SentFrame)
  pub packets : AreTaken (IsLost largest_acked now delay) old new taken
  pub frames : AreLost streams_old streams_new (frames_out taken)
  pub window : window_new ≡ window_lost next_number taken window_old
  pub count_is : count ≡ length taken

-- ---- probes (RFC 9002, section 6.2.4)

abbrev pub is_stream : SentFrame → Bool
is_stream (sent.Stream id piece) = true
is_stream other = false

-- the STREAM frames, or the others
abbrev pub is_kind : (stream : Bool) → SentFrame → Bool
is_kind true f = is_stream f
is_kind false f = not (is_stream f)

-- these frames are queued again one after another; whether something of one of them was still to be acknowledged
pub data AreQueuedAgain : (old new : PlainStreams) → List SentFrame → Bool → Type 0 where
  none : (s : PlainStreams) → AreQueuedAgain s s [] false
  owed : (old mid new : PlainStreams) (fs : List SentFrame) (any : Bool) (f : SentFrame) → AreQueuedAgain old mid fs any → IsLostFrame mid new f
      → (IsSettledFrame mid f → ⊥) → AreQueuedAgain old new (fs ++ f ∷ []) true
  settled : (old mid new : PlainStreams) (fs : List SentFrame) (any : Bool) (f : SentFrame) → AreQueuedAgain old mid fs any → IsLostFrame mid new f
      → IsSettledFrame mid f → AreQueuedAgain old new (fs ++ f ∷ []) any

-- the frames that are so, in order
abbrev pub chosen : (SentFrame → Bool) → List SentFrame → List SentFrame
chosen p fs = filter p fs

-- What a probe queues: the STREAM frames of the oldest packet in which one is owed; if there is none, the other frames of the
-- oldest packet; if nothing of them is owed, a PING.
pub data IsProbeQueued (old new : PlainStreams) (packets : List (ℕ × SentPacket SentFrame)) : Probe → Type 0 where
  stream : (mid : PlainStreams) (before after : List (ℕ × SentPacket SentFrame)) (number : ℕ) (packet : SentPacket SentFrame) → packets ≡ before ++ (number, packet) ∷ after
      → AreQueuedAgain old mid (chosen is_stream (frames_out before)) false → AreQueuedAgain mid new (chosen is_stream packet.frames.items) true
      → IsProbeQueued old new packets Stream
  others : (mid : PlainStreams) (number : ℕ) (packet : SentPacket SentFrame) (after : List (ℕ × SentPacket SentFrame)) → packets ≡ (number, packet) ∷ after
      → AreQueuedAgain old mid (chosen is_stream (frames_out packets)) false → AreQueuedAgain mid new (chosen (λ f. not (is_stream f)) packet.frames.items) true
      → IsProbeQueued old new packets Others
  ping : (mid : PlainStreams) (number : ℕ) (packet : SentPacket SentFrame) (after : List (ℕ × SentPacket SentFrame)) → packets ≡ (number, packet) ∷ after
      → AreQueuedAgain old mid (chosen is_stream (frames_out packets)) false → AreQueuedAgain mid new (chosen (λ f. not (is_stream f)) packet.frames.items) false
      → IsProbeQueued old new packets Ping
  nothing : packets ≡ [] → new ≡ old → IsProbeQueued old new packets Ping
