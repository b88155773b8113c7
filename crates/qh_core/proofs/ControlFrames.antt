-- Frames of a connection's own: what they are, and what a packet of them leaves of the space.
use Rattle.std.proofs.Common.{◌≡◌, ◌⊎◌, ℕ, ◌+◌, Bool, true, false, List, [], ◌∷◌, ◌++◌, Option, None, refl, sym, ap, subst, ◌∙◌, inl, inr, arith}
use Rattle.std.proofs.lemmas.Bool.{both_ways}
use Rattle.std.specs.List.{AllByRecursion, list_any}
use Rattle.std.specs.Prelude.{◌||◌, map}
use Rattle.qh_core.proofs.ResetsMade.{has_reset_type}
use Rattle.qh_core.specs.Control.{AreControl, MaySend, control_bytes, control_frame}
use Rattle.qh_core.specs.Inner.{is_open}
use Rattle.qh_core.specs.Receiving.{is_close}
use Rattle.qh_core.specs.Sending.{ClosesReadBack}
use Rattle.qh_core.specs.declared.control.ControlFrame.{ControlFrame}
use Rattle.qh_core.specs.declared.control.ControlFrame.TheVariants.{NewToken, NewConnectionId, RetireConnectionId, Datagram}
use Rattle.qh_core.specs.declared.state.State.{State}
use Rattle.qh_packet.specs.Frames.{is_ack_eliciting}
use Rattle.qh_space.specs.Sending.{IsSentBare}
use Rattle.qh_space.specs.declared.data_space.DataSpace.{DataSpace}
use Rattle.qh_spec.specs.Acknowledged.{Covers}
use Rattle.qh_spec.specs.FrameViews.{stream_of}
use Rattle.qh_spec.specs.Lists.{In}
use Rattle.qh_spec.specs.QuicFrame.{StreamFrame as Run}
use Rattle.qh_spec.specs.QuicFrames.{QuicFrame, AreQuicFrames}
use Rattle.qh_spec.specs.declared.sides.Side.{Side}
use Rattle.qh_streams.specs.Streams.{IsReadBack}
use Rattle.qh_transcript.specs.Sending.{runs_of, some_run}

-- ---- one such frame

pub control_silent : (g : ControlFrame) → stream_of (control_frame g) ≡ None
control_silent (NewToken token) = refl
control_silent (NewConnectionId sequence prior id reset_token) = refl
control_silent (RetireConnectionId sequence) = refl
control_silent (Datagram payload) = refl

pub control_resets_nothing : (g : ControlFrame) → has_reset_type (control_frame g) ≡ false
control_resets_nothing (NewToken token) = refl
control_resets_nothing (NewConnectionId sequence prior id reset_token) = refl
control_resets_nothing (RetireConnectionId sequence) = refl
control_resets_nothing (Datagram payload) = refl

pub control_asks : (g : ControlFrame) → is_ack_eliciting (control_frame g) ≡ true
control_asks (NewToken token) = refl
control_asks (NewConnectionId sequence prior id reset_token) = refl
control_asks (RetireConnectionId sequence) = refl
control_asks (Datagram payload) = refl

pub control_closes_nothing : (g : ControlFrame) → is_close (control_frame g) ≡ false
control_closes_nothing (NewToken token) = refl
control_closes_nothing (NewConnectionId sequence prior id reset_token) = refl
control_closes_nothing (RetireConnectionId sequence) = refl
control_closes_nothing (Datagram payload) = refl

pub control_kind : (g : ControlFrame) → ((control_frame g).kind ≡ 7) ⊎ (((control_frame g).kind ≡ 24) ⊎ (((control_frame g).kind ≡ 25) ⊎ ((control_frame g).kind ≡ 49)))
control_kind (NewToken token) = inl refl
control_kind (NewConnectionId sequence prior id reset_token) = inr (inl refl)
control_kind (RetireConnectionId sequence) = inr (inr (inl refl))
control_kind (Datagram payload) = inr (inr (inr refl))

pub control_covers_nothing : (g : ControlFrame) (n : ℕ) → Covers (control_frame g) n → ⊥
control_covers_nothing (NewToken token) n c = let kind = c.0 in omega (arith, kind)
control_covers_nothing (NewConnectionId sequence prior id reset_token) n c = let kind = c.0 in omega (arith, kind)
control_covers_nothing (RetireConnectionId sequence) n c = let kind = c.0 in omega (arith, kind)
control_covers_nothing (Datagram payload) n c = let kind = c.0 in omega (arith, kind)

-- ---- the frames of a packet

-- the bytes are such frames of this side's, at least one
pub record AreControlFrames (side : Side) (most : Option ℕ) (bytes : List ℕ) : Type 0 where
  pub frames : List QuicFrame
  pub are : AreQuicFrames bytes frames
  pub some : frames ≡ [] → ⊥
  pub all : (q : QuicFrame) → In q frames → (g : ControlFrame) × (q ≡ control_frame g) × MaySend side most g

written_are : (fs : List ControlFrame) → AllByRecursion (λ (f : ControlFrame). IsReadBack (control_frame f)) fs → AreQuicFrames (control_bytes fs) (map control_frame fs)
written_are [] back = refl
written_are (f ∷ fs) back = (control_bytes fs, back.0 (control_bytes fs), written_are fs back.1)

each_sendable : (side : Side) (most : Option ℕ) (fs : List ControlFrame) → AllByRecursion (MaySend side most) fs → (q : QuicFrame) → In q (map control_frame fs) → (g : ControlFrame) × (q ≡ control_frame g) × MaySend side most g
each_sendable side most [] may q is = absurd is
each_sendable side most (f ∷ fs) may q (inl same) = (f, sym same, may.0)
each_sendable side most (f ∷ fs) may q (inr later) = each_sendable side most fs may.1 q later

some_mapped : (fs : List ControlFrame) → (fs ≡ [] → ⊥) → map control_frame fs ≡ [] → ⊥
some_mapped [] some e = some refl
some_mapped (f ∷ fs) some e = absurd (cc)

pub control_frames : (side : Side) (most : Option ℕ) (bytes : List ℕ) → AreControl side most bytes → AreControlFrames side most bytes
control_frames side most bytes c = record {
  frames = map control_frame c.frames;
  are = subst (λ (z : List ℕ). AreQuicFrames z (map control_frame c.frames)) (sym c.bytes_are) (written_are c.frames c.read_back);
  some = some_mapped c.frames c.some;
  all = each_sendable side most c.frames c.sendable;
}

-- what holds of each such frame
pub of_each : (P : QuicFrame → Type 0) (side : Side) (most : Option ℕ) (bytes : List ℕ) (c : AreControlFrames side most bytes) → ((g : ControlFrame) → P (control_frame g)) → (q : QuicFrame) → In q c.frames → P q
of_each P side most bytes c each q is = let g = c.all q is in subst P (sym g.1) (each g.0)

pub silent_runs : (fs : List QuicFrame) → ((q : QuicFrame) → In q fs → stream_of q ≡ None) → runs_of fs ≡ []
silent_runs [] silent = refl
silent_runs (f ∷ fs) silent = ap (λ (o : Option Run). some_run o ++ runs_of fs) (silent f (inl refl)) ∙ silent_runs fs (λ q is. silent q (inr is))

pub control_runs : (side : Side) (most : Option ℕ) (bytes : List ℕ) (c : AreControlFrames side most bytes) → runs_of c.frames ≡ []
control_runs side most bytes c = silent_runs c.frames (of_each (λ (q : QuicFrame). stream_of q ≡ None) side most bytes c control_silent)

asked_by_first : (fs : List QuicFrame) → (fs ≡ [] → ⊥) → ((q : QuicFrame) → In q fs → is_ack_eliciting q ≡ true) → list_any is_ack_eliciting fs ≡ true
asked_by_first [] some asks = absurd (some refl)
asked_by_first (f ∷ fs) some asks = ap (λ (x : Bool). x || list_any is_ack_eliciting fs) (asks f (inl refl))

-- an acknowledgement is asked for
pub control_wants : (side : Side) (most : Option ℕ) (bytes : List ℕ) (c : AreControlFrames side most bytes) → list_any is_ack_eliciting c.frames ≡ true
control_wants side most bytes c = asked_by_first c.frames c.some (of_each (λ (q : QuicFrame). is_ack_eliciting q ≡ true) side most bytes c control_asks)

none_closes : (fs : List QuicFrame) → ((q : QuicFrame) → In q fs → is_close q ≡ false) → list_any is_close fs ≡ false
none_closes [] each = refl
none_closes (f ∷ fs) each = ap (λ (x : Bool). x || list_any is_close fs) (each f (inl refl)) ∙ none_closes fs (λ q is. each q (inr is))

pub control_never_closes : (side : Side) (most : Option ℕ) (bytes : List ℕ) (c : AreControlFrames side most bytes) → list_any is_close c.frames ≡ false
control_never_closes side most bytes c = none_closes c.frames (of_each (λ (q : QuicFrame). is_close q ≡ false) side most bytes c control_closes_nothing)

-- ---- the space behind such a packet

-- all of the space but the packets that are out, the next number, and the counts of probes is as it was
pub record IsRestKept (old new : DataSpace) : Type 0 where
  pub streams : new.streams ≡ old.streams
  pub log : new.log ≡ old.log
  pub datagram_receive : new.datagram_receive ≡ old.datagram_receive
  pub dedup : new.dedup ≡ old.dedup
  pub acks : new.acks ≡ old.acks
  pub largest_acked : new.largest_acked ≡ old.largest_acked
  pub is_ping_due : new.is_ping_due ≡ old.is_ping_due
  pub path_response : new.path_response ≡ old.path_response
  pub rtt : new.rtt ≡ old.rtt
  pub congestion : new.congestion ≡ old.congestion
  pub packets_lost : new.packets_lost ≡ old.packets_lost

module _ (now size : ℕ) (old new : DataSpace) (b : IsSentBare now size old new) where
  pub bare_rest : IsRestKept old new
  bare_rest = record {
    streams = ap (λ (s : DataSpace). s.streams) b.new_is;
    log = ap (λ (s : DataSpace). s.log) b.new_is;
    datagram_receive = ap (λ (s : DataSpace). s.datagram_receive) b.new_is;
    dedup = ap (λ (s : DataSpace). s.dedup) b.new_is;
    acks = ap (λ (s : DataSpace). s.acks) b.new_is;
    largest_acked = ap (λ (s : DataSpace). s.largest_acked) b.new_is;
    is_ping_due = ap (λ (s : DataSpace). s.is_ping_due) b.new_is;
    path_response = ap (λ (s : DataSpace). s.path_response) b.new_is;
    rtt = ap (λ (s : DataSpace). s.rtt) b.new_is;
    congestion = ap (λ (s : DataSpace). s.congestion) b.new_is;
    packets_lost = ap (λ (s : DataSpace). s.packets_lost) b.new_is;
  }

  pub bare_next : new.next_number ≡ old.next_number + 1
  bare_next = ap (λ (s : DataSpace). s.next_number) b.new_is

  pub bare_sent : new.sent ≡ old.sent ++ (old.next_number, b.packet) ∷ []
  bare_sent = ap (λ (s : DataSpace). s.sent) b.new_is

-- ---- the connection around it

-- an open connection has no CONNECTION_CLOSE to send
pub open_reads_back : (state : State) → is_open state ≡ true → ClosesReadBack state
open_reads_back state opened reason until is = absurd (both_ways (is_open state) (ap is_open is) opened)
