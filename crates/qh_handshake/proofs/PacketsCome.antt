-- What a packet does whose tag was accepted.
use Rattle.std.proofs.Common.{◌≡◌, ◌⊎◌, ◌+◌, ℕ, Bool, true, false, List, [], ◌∷◌, Some, None, refl, sym, subst, ◌∙◌, inl, inr}
use Rattle.std.specs.Option.{option_map}
use Rattle.std.specs.Prelude.{◌||◌, IfErr, OnErr, OnOk, Result, Ok, Err, is_err}
use Rattle.qh_base.specs.TransportFault.{IsFault}
use Rattle.qh_base.specs.declared.connection_error.ConnectionError.{ConnectionError}
use Rattle.qh_base.specs.declared.connection_error.ConnectionError.TheVariants.{Memory as Wanting, TransportError as Fault}
use Rattle.qh_base.specs.declared.time.Moment.{Moment}
use Rattle.qh_base.specs.declared.transport_error.TransportError.{TransportError}
use Rattle.qh_frame.specs.FrameAt.{Begins}
use Rattle.qh_frame.specs.Plain.{plain_of}
use Rattle.qh_frame.specs.TypeOf.{named}
use Rattle.qh_frame.specs.declared.frame.Frame.{Frame}
use Rattle.qh_frame.specs.declared.frame.FrameFault.{FrameFault}
use Rattle.qh_handshake.specs.Handshake.{counted}
use Rattle.qh_handshake.specs.Incoming.{AreFramesTaken, IsAccepted, IsFirstRefused, IsNewTo, IsPacketHandled}
use Rattle.qh_handshake.specs.Incoming.IsPacketHandled.{empty, faulty, taken, unnoted}
use Rattle.qh_handshake.specs.Receiving.{frame_refusal}
use Rattle.qh_handshake.specs.Unread.{IsPacketUnread, StopsUnrefused}
use Rattle.qh_handshake.specs.Unread.IsPacketUnread.{stopped, unnoted as unnoted_first}
use Rattle.qh_handshake.specs.declared.initial_space.InitialSpace.{InitialSpace}
use Rattle.qh_packet.specs.Frames.{AreValidFrames, IsFaultyFrame}
use Rattle.qh_packet.specs.declared.frames.PacketFault.{PacketFault}
use Rattle.qh_packet.specs.declared.frames.PacketFault.TheVariants as packet_fault
use Rattle.qh_recovery.specs.Accepted.{Remembers}
use Rattle.qh_recovery.specs.PendingAcks.{IsJoined}
use Rattle.qh_spec.specs.Codes as codes

-- its number is noted where memory wasn't wanting for that
pub noted_by : {E : Type 0} (now : Moment) (number : ℕ) (is_eliciting : Bool) (old mid : InitialSpace) (answer : Result Unit E) → false ≡ is_err answer
    → OnOk answer ((accepted : List ℕ) → Remembers accepted old.dedup → Remembers (number ∷ accepted) mid.dedup) → OnOk answer ((bound : ℕ) × IsJoined old.acks.ranges mid.acks.ranges number bound)
    → OnOk answer (mid.acks.is_due ≡ (old.acks.is_due || is_eliciting)) → OnOk answer (mid ≡ record old { dedup = mid.dedup; acks = mid.acks; last_active = now; packets_accepted = counted (old.packets_accepted + 1) }) → IsAccepted now number is_eliciting old mid
noted_by now number is_eliciting old mid (Ok done) fine remembers acks due rest = record { remembers = remembers; bound = acks.0; acks = acks.1; due = due; rest_is = rest }
noted_by now number is_eliciting old mid (Err e) fine remembers acks due rest = absurd (cc)

-- no frame of it is taken
pub handled_faulty : (now : Moment) (number : ℕ) (frames : List ℕ) (s : InitialSpace) (fault : PacketFault) (e : TransportError) → IsNewTo s number
    → (fault ≡ packet_fault.Empty → frames ≡ []) → ((f : FrameFault) → fault ≡ packet_fault.Frame f → IsFaultyFrame frames f.frame)
    → (fault ≡ packet_fault.Empty → IsFault codes.protocol_violation None e) → ((f : FrameFault) → fault ≡ packet_fault.Frame f → IsFault codes.frame_encoding_error (option_map named f.frame) e)
    → IsPacketHandled now number frames s s (Some (Fault e))
handled_faulty now number frames s packet_fault.Empty e fresh none frame says_none says_frame = empty e fresh (none refl) (says_none refl) refl
handled_faulty now number frames s (packet_fault.Frame f) e fresh none frame says_none says_frame = faulty e f.frame fresh (frame f refl) (says_frame f refl) refl

-- its frames are
pub handled_ok : (now : Moment) (number : ℕ) (frames : List ℕ) (old mid new : InitialSpace) (is_eliciting : Bool) (answer : Result Unit ConnectionError) → IsNewTo old number → AreValidFrames frames is_eliciting
    → IsAccepted now number is_eliciting old mid → OnOk answer (AreFramesTaken now.0 frames mid new None) → OnOk answer (IsPacketHandled now number frames old new None)
handled_ok now number frames old mid new is_eliciting (Ok done) fresh valid accepted t = taken mid is_eliciting None fresh valid accepted t
handled_ok now number frames old mid new is_eliciting (Err e) fresh valid accepted t = tt

-- up to one that ends the connection
pub handled_err : (now : Moment) (number : ℕ) (frames : List ℕ) (old mid new : InitialSpace) (is_eliciting : Bool) (answer : Result Unit ConnectionError) → IsNewTo old number → AreValidFrames frames is_eliciting
    → IsAccepted now number is_eliciting old mid → IfErr answer (λ e. (e ≡ Wanting) ⊎ AreFramesTaken now.0 frames mid new (Some e))
    → IfErr answer (λ e. (e ≡ Wanting) ⊎ IsPacketHandled now number frames old new (Some e))
handled_err now number frames old mid new is_eliciting (Ok done) fresh valid accepted t = tt
handled_err now number frames old mid new is_eliciting (Err e) fresh valid accepted t = elim t [
  | inl wanting ↦ inl wanting
  | inr taken_so ↦ inr (taken mid is_eliciting (Some e) fresh valid accepted taken_so)
]

-- memory is wanting for one of its frames
pub unread_at : (now : Moment) (number : ℕ) (frames : List ℕ) (old mid : InitialSpace) (is_eliciting : Bool) (answer : Result Unit ConnectionError) → IsNewTo old number → AreValidFrames frames is_eliciting
    → IsAccepted now number is_eliciting old mid → IfErr answer (λ e. e ≡ Wanting → StopsUnrefused now.0 frames mid) → IfErr answer (λ e. e ≡ Wanting → IsPacketUnread now number frames old)
unread_at now number frames old mid is_eliciting (Ok u) fresh valid accepted t = tt
unread_at now number frames old mid is_eliciting (Err e) fresh valid accepted t = λ wanting. stopped mid is_eliciting fresh valid accepted (t wanting)

-- ---- memory is wanting to note its number

-- then nothing changed
pub same_unnoted : {E : Type 0} (old mid : InitialSpace) (answer : Result Unit E) → true ≡ is_err answer → OnErr answer (mid ≡ old) → mid ≡ old
same_unnoted old mid (Ok done) failed same = absurd (cc)
same_unnoted old mid (Err e) failed same = same

-- a fault of its first frame ends the connection
pub handled_unnoted : (now : Moment) (number : ℕ) (frames : List ℕ) (old mid new : InitialSpace) (is_eliciting : Bool) (e : ConnectionError) → IsNewTo old number → AreValidFrames frames is_eliciting → mid ≡ old
    → (e ≡ Wanting) ⊎ ((t : TransportError) × (e ≡ Fault t) × IsFirstRefused frames mid t × (new ≡ mid)) → (e ≡ Wanting) ⊎ IsPacketHandled now number frames old new (Some e)
handled_unnoted now number frames old mid new is_eliciting e fresh valid same (inl wanting) = inl wanting
handled_unnoted now number frames old mid new is_eliciting e fresh valid same (inr r) =
    let first = subst (λ (s : InitialSpace). IsFirstRefused frames s r.0) same r.2 in
    inr (subst (λ (x : ConnectionError). IsPacketHandled now number frames old new (Some x)) (sym r.1) (unnoted r.0 is_eliciting fresh valid first (r.3 ∙ same)))

-- else that frame isn't refused
pub unread_unnoted : (now : Moment) (number : ℕ) (frames : List ℕ) (old mid : InitialSpace) (is_eliciting : Bool) (e : ConnectionError) → IsNewTo old number → AreValidFrames frames is_eliciting → mid ≡ old
    → (e ≡ Wanting → (rest : List ℕ) × (f : Frame) × Begins frames (plain_of f) rest × (frame_refusal mid f ≡ None)) → e ≡ Wanting → IsPacketUnread now number frames old
unread_unnoted now number frames old mid is_eliciting e fresh valid same r wanting =
    let first = subst (λ (s : InitialSpace). (rest : List ℕ) × (f : Frame) × Begins frames (plain_of f) rest × (frame_refusal s f ≡ None)) same (r wanting) in
    unnoted_first is_eliciting first.0 first.1 fresh valid first.2 first.3
