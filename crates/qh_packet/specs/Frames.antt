-- The frames of a packet, looked at before any is taken (RFC 9000, section 12.4).
use Rattle.std.specs.Prelude.{◌≡◌, ℕ, ◌==◌, Bool, ◌||◌, not, List, [], Option}
use Rattle.std.specs.List.{AllByRecursion, list_any}
use Rattle.qh_frame.specs.FrameAt.{BeginsWithType, HasNoFrame}
use Rattle.qh_frame.specs.Range.{IsInRange}
use Rattle.qh_spec.specs.FrameTypes as frame_types
use Rattle.qh_spec.specs.QuicFrames.{QuicFrame, IsQuicFrame, AreQuicFrames}

-- all but PADDING, ACK and CONNECTION_CLOSE (RFC 9002, section 2)
abbrev pub is_ack_eliciting : QuicFrame → Bool
is_ack_eliciting f = not (f.kind == frame_types.padding || (f.kind == frame_types.ack || (f.kind == frame_types.ack_ecn || (f.kind == frame_types.connection_close || f.kind == frame_types.application_close))))

-- the bytes are these frames, at least one, each with values in range; one of them wants an acknowledgement or none does
pub record AreValidFrames (bytes : List ℕ) (is_eliciting : Bool) : Type 0 where
  pub frames : List QuicFrame
  pub are : AreQuicFrames bytes frames
  pub some : frames ≡ [] → ⊥
  pub in_range : AllByRecursion IsInRange frames
  pub eliciting_is : is_eliciting ≡ list_any is_ack_eliciting frames

-- the bytes begin with frames in range, and go on with the rest
pub data BeginWithFrames : List ℕ → List ℕ → Type 0 where
  none : (rest : List ℕ) → BeginWithFrames rest rest
  more : (bytes mid rest : List ℕ) (f : QuicFrame) → IsQuicFrame bytes f mid → IsInRange f → BeginWithFrames mid rest → BeginWithFrames bytes rest

-- behind frames in range stand bytes that no frame in range begins, and they begin with this type
pub record IsFaultyFrame (bytes : List ℕ) (kind : Option ℕ) : Type 0 where
  pub rest : List ℕ
  pub behind : BeginWithFrames bytes rest
  pub none : HasNoFrame rest
  pub some : rest ≡ [] → ⊥
  pub type_is : BeginsWithType rest kind
