-- The frames that are taken of a packet are those that its bytes are, in the form in which they are written.
use Rattle.std.proofs.Common.{◌≡◌, ℕ, List, [], ◌∷◌, Option, None, refl, ap, ◌∙◌}
use Rattle.std.specs.Prelude.{map}
use Rattle.qh_base.specs.declared.connection_error.ConnectionError.{ConnectionError}
use Rattle.qh_core.specs.Receiving.{AreFramesTaken}
use Rattle.qh_core.specs.Receiving.AreFramesTaken.{none as none_taken, more as more_taken, closed as closed_by, refused as refused_at}
use Rattle.qh_frame.specs.Plain.{plain_of}
use Rattle.qh_frame.specs.WrittenForm.{written_form}
use Rattle.qh_frame.specs.declared.frame.Frame.{Frame}
use Rattle.qh_space.specs.declared.data_space.DataSpace.{DataSpace}
use Rattle.qh_spec.proofs.FrameLaws.{quic_frames_agree}
use Rattle.qh_spec.specs.QuicFrames.{QuicFrame, AreQuicFrames}

-- the bytes are frames whose forms are those that were taken
record AreRead (bytes : List ℕ) (taken : List Frame) : Type 0 where
  frames : List QuicFrame
  are : AreQuicFrames bytes frames
  forms : map written_form frames ≡ map plain_of taken

all_read : (now : ℕ) (bytes : List ℕ) (old new : DataSpace) (taken : List Frame) (end : Option ConnectionError) → AreFramesTaken now bytes old new taken end → end ≡ None → AreRead bytes taken
all_read now bytes old new taken end (none_taken _) open_still = record { frames = []; are = refl; forms = refl }
all_read now bytes old new taken end (more_taken _ rest frame _ mid _ others _ begins free step behind) open_still =
    let r = all_read now rest mid new others end behind open_still in
    record {
      frames = begins.frame ∷ r.frames;
      are = (rest, begins.is, r.are);
      forms = ap (λ (f : QuicFrame). f ∷ map written_form r.frames) begins.form_is ∙ ap (λ (fs : List QuicFrame). plain_of frame ∷ fs) r.forms;
    }
all_read now bytes old new taken end (closed_by _ rest frame _ _ e begins free step) open_still = absurd (cc)
all_read now bytes old new taken end (refused_at _ rest frame _ e begins named fault) open_still = absurd (cc)

-- the frames of the bytes have the forms of those that were taken, where no frame closed and none was refused
pub frames_read : (now : ℕ) (bytes : List ℕ) (old new : DataSpace) (taken : List Frame) (fs : List QuicFrame) → AreFramesTaken now bytes old new taken None → AreQuicFrames bytes fs
    → map written_form fs ≡ map plain_of taken
frames_read now bytes old new taken fs are reading =
    let r = all_read now bytes old new taken None are refl in
    ap (λ (gs : List QuicFrame). map written_form gs) (quic_frames_agree bytes fs r.frames reading r.are) ∙ r.forms
