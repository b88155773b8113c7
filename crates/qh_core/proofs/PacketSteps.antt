-- What a packet does whose tag was accepted, and what holds of the connection behind its frames.
use Rattle.std.proofs.Common.{◌≡◌, ℕ, Bool, true, false, List, [], ◌∷◌, length, Option, Some, None, refl, sym, ap, subst, ◌∙◌}
use Rattle.qh_base.specs.TransportFault.{IsFault}
use Rattle.std.specs.Option.{option_map}
use Rattle.std.specs.Prelude.{◌||◌, OnOk, Result, Ok, Err, is_err}
use Rattle.qh_base.specs.declared.connection_error.ConnectionError.{ConnectionError}
use Rattle.qh_base.specs.declared.connection_error.ConnectionError.TheVariants.{Memory, TransportError as Fault}
use Rattle.qh_base.specs.declared.time.Moment.{Moment}
use Rattle.qh_base.specs.declared.transport_error.TransportError.{TransportError}
use Rattle.qh_core.specs.Inner.{IsConnection, is_open}
use Rattle.qh_core.specs.Receiving.{AreFramesTaken, GoesOnWith, IsAccepted, IsDatagramTaken, IsFaulted, IsNewTo, IsPacketHandled, IsPacketTaken}
use Rattle.qh_core.specs.Receiving.IsDatagramTaken.{dropped, handled, told_again, closed_too, draining, drained}
use Rattle.qh_core.specs.Receiving.IsPacketHandled.{empty, faulty, unnoted}
use Rattle.qh_core.specs.Timers.{restarted}
use Rattle.qh_core.specs.declared.idle.IdleTimer.{IdleTimer}
use Rattle.qh_core.specs.declared.inner.Inner.{Inner}
use Rattle.qh_core.proofs.Ends.{same_of}
use Rattle.qh_core.proofs.FrameSteps.{HasTaken}
use Rattle.qh_frame.specs.TypeOf.{named}
use Rattle.qh_frame.specs.declared.frame.FrameFault.{FrameFault}
use Rattle.qh_history.specs.Standing.{SameEnd}
use Rattle.qh_packet.specs.Frames.{AreValidFrames, IsFaultyFrame}
use Rattle.qh_packet.specs.declared.frames.PacketFault.{PacketFault}
use Rattle.qh_packet.specs.declared.frames.PacketFault.TheVariants as packet_fault
use Rattle.qh_recovery.specs.Accepted.{Remembers}
use Rattle.qh_recovery.specs.PendingAcks.{IsJoined}
use Rattle.qh_space.specs.Space.{IsSpace}
use Rattle.qh_space.specs.declared.data_space.DataSpace.{DataSpace}
use Rattle.qh_spec.specs.Codes as codes
use Rattle.qh_spec.specs.declared.sides.Side.{Side}
use Rattle.qh_spec.specs.declared.sides.Space.{Space}

-- its number is noted where memory wasn't wanting for that
pub noted_by : {E : Type 0} (number : ℕ) (is_eliciting : Bool) (old mid : DataSpace) (answer : Result Unit E) → false ≡ is_err answer
    → OnOk answer ((accepted : List ℕ) → Remembers accepted old.dedup → Remembers (number ∷ accepted) mid.dedup) → OnOk answer ((bound : ℕ) × IsJoined old.acks.ranges mid.acks.ranges number bound)
    → OnOk answer (mid.acks.is_due ≡ (old.acks.is_due || is_eliciting)) → mid ≡ record old { dedup = mid.dedup; acks = mid.acks } → IsAccepted number is_eliciting old mid
noted_by number is_eliciting old mid (Ok done) fine remembers acks due rest = record { remembers = remembers; bound = acks.0; joined = acks.1; due = due; rest_is = rest }
noted_by number is_eliciting old mid (Err e) fine remembers acks due rest = absurd (cc)

module _ {S : Type 0} where
  -- no frame of it is taken
  pub handled_faulty : (now : Moment) (number : ℕ) (frames : List ℕ) (old new : Inner S) (fault : PacketFault) (e : TransportError) → IsNewTo old.space number
      → (fault ≡ packet_fault.Empty → frames ≡ []) → ((f : FrameFault) → fault ≡ packet_fault.Frame f → IsFaultyFrame frames f.frame)
      → (fault ≡ packet_fault.Empty → IsFault codes.protocol_violation None e) → ((f : FrameFault) → fault ≡ packet_fault.Frame f → IsFault codes.frame_encoding_error (option_map named f.frame) e)
      → IsFaulted now e old new → IsPacketHandled now number frames old new
  handled_faulty now number frames old new packet_fault.Empty e fresh none frame says_none says_frame faulted = empty e fresh (none refl) (says_none refl) faulted
  handled_faulty now number frames old new (packet_fault.Frame f) e fresh none frame says_none says_frame faulted = faulty e f.frame fresh (frame f refl) (says_frame f refl) faulted

  -- an open connection stays whole with another space of its end
  pub spaced_whole : (old : Inner S) (mid new : DataSpace) (idle : IdleTimer) → IsConnection old → is_open old.state ≡ true → mid.streams ≡ old.space.streams → SameEnd mid new → IsSpace new
      → IsConnection (record old { space = new; idle = idle })
  spaced_whole old mid new idle h opened kept same space =
      let not_lost = h.not_lost opened in
      let end : SameEnd old.space new = (same.0 ∙ ap (λ s. s.side) kept, same.1 ∙ ap (λ s. s.peer) kept) in
      record {
        space = space;
        of = same_of old.side old.config.peer old.space new end h.of;
        not_lost = h.not_lost;
        lost = h.lost;
        drained = h.drained;
        no_half = λ memory. absurd (let both : ◌≡◌ {A = Option ConnectionError} None (Some Memory) = sym not_lost ∙ memory in cc);
      }

  -- a packet whose number was noted is taken, so many of its frames
  pub noted_taken : (now : Moment) (number count : ℕ) (frames : List ℕ) (old new : Inner S) (is_eliciting : Bool) (mid space : DataSpace) (end : Option ConnectionError) → AreValidFrames frames is_eliciting
      → IsAccepted number is_eliciting old.space mid → HasTaken now.0 count frames mid space end → GoesOnWith now end (record old { space = space; idle = restarted now old.idle }) new
      → (p : IsPacketTaken now number frames old new) × (count ≡ length p.taken)
  noted_taken now number count frames old new is_eliciting mid space end valid accepted t on =
      (record { is_eliciting = is_eliciting; surveyed = valid; mid = mid; accepted = accepted; space = space; taken = t.0; end = end; are_taken = t.1; goes_on = on }, t.2)

  -- one whose number couldn't be noted is read no farther than its first frame, if that is refused
  pub unnoted_refused : (now : Moment) (number : ℕ) (frames : List ℕ) (old new : Inner S) (is_eliciting : Bool) (mid : DataSpace) → IsNewTo old.space number → AreValidFrames frames is_eliciting → mid ≡ old.space
      → (e : TransportError) × AreFramesTaken now.0 frames mid mid [] (Some (Fault e)) × IsFaulted now e (record old { space = mid }) new → IsPacketHandled now number frames old new
  unnoted_refused now number frames old new is_eliciting mid fresh valid same r =
      let refused = subst (λ (s : DataSpace). (e : TransportError) × AreFramesTaken now.0 frames s s [] (Some (Fault e)) × IsFaulted now e (record old { space = s }) new) same r in
      unnoted refused.0 is_eliciting fresh valid refused.1 refused.2

  -- an end that isn't open takes nothing into its space
  pub closed_space : (accepts : Side → Space → ℕ → List ℕ → Bool) (now : Moment) (datagram : List ℕ) (old new : Inner S) → IsDatagramTaken accepts now datagram old new → is_open old.state ≡ false → new.space ≡ old.space
  closed_space accepts now d old new (dropped up none e) down = ap (λ (c : Inner S). c.space) e
  closed_space accepts now d old new (handled number bytes up opened h) down = absurd (let both : true ≡ false = sym up ∙ down in cc)
  closed_space accepts now d old new (told_again reason is_due until is none e) down = ap (λ (c : Inner S). c.space) e
  closed_space accepts now d old new (closed_too reason is_due until is brings e) down = ap (λ (c : Inner S). c.space) e
  closed_space accepts now d old new (draining until is e) down = ap (λ (c : Inner S). c.space) e
  closed_space accepts now d old new (drained is e) down = ap (λ (c : Inner S). c.space) e
