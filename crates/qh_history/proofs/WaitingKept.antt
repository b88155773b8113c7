-- The space keeps what came of its streams.
use Rattle.std.proofs.Common.{◌≡◌, ℕ, List, [], ◌∷◌, ◌++◌, append-nil, Option, None, sym, subst, ◌∙◌}
use Rattle.qh_base.specs.declared.connection_error.ConnectionError.{ConnectionError}
use Rattle.qh_frame.specs.Plain.{plain_of}
use Rattle.qh_frame.specs.declared.frame.Frame.{Frame}
use Rattle.qh_history.proofs.Carried.{by_frame, by_loss, by_packet, by_probe}
use Rattle.qh_space.specs.Receiving.{IsFrameTaken, IsLossTaken, frame_refusal}
use Rattle.qh_space.specs.Sending.{IsPacketMade}
use Rattle.qh_space.specs.Timers.{IsProbeDue}
use Rattle.qh_space.specs.declared.data_space.DataSpace.{DataSpace}
use Rattle.qh_spec.specs.QuicFrame.{StreamFrame as Run}
use Rattle.qh_streams.specs.Streams.{PlainStreams, IsAckedFrame, IsHandedOver, IsLostFrame}
use Rattle.qh_streams.specs.declared.frames.SentFrame.{SentFrame}
use Rattle.qh_transcript.proofs.ReceivingKept as kept
use Rattle.qh_transcript.proofs.WaitingFrames.{kept_keeps, received_keeps}
use Rattle.qh_transcript.specs.Sending.{runs_of}
use Rattle.qh_transcript.specs.Waiting.{KeepsWhatCame}

module _ (came : List Run) where
  by_lost : (was s : PlainStreams) (f : SentFrame) → IsLostFrame was s f → KeepsWhatCame was came → KeepsWhatCame s came
  by_lost was s f lost = kept_keeps was s came (kept.again was s f lost)

  by_acked : (was s : PlainStreams) (f : SentFrame) → IsAckedFrame was s f → KeepsWhatCame was came → KeepsWhatCame s came
  by_acked was s f acked = kept_keeps was s came (kept.acked was s f acked)

  by_handed : (was s : PlainStreams) (room : ℕ) (f : SentFrame) → IsHandedOver was s room f → KeepsWhatCame was came → KeepsWhatCame s came
  by_handed was s room f next = kept_keeps was s came (kept.handed room was s f next)

pub frame : (now : ℕ) (old new : DataSpace) (frame : Frame) (closed : Option ConnectionError) (came : List Run) → frame_refusal old frame ≡ None
    → IsFrameTaken now old new frame closed → KeepsWhatCame old.streams came → KeepsWhatCame new.streams (came ++ runs_of (plain_of frame ∷ []))
frame now old new f closed came ok taken p =
    let now_came = came ++ runs_of (plain_of f ∷ []) in
    by_frame (λ s. KeepsWhatCame s now_came) (by_lost now_came) (by_acked now_came) now old new f closed
    (λ c of r. rw of.runs (received_keeps old.streams new.streams came c (sym (of.refusal old) ∙ ok) r p))
    (λ none. rw none.runs (subst (λ (z : List Run). KeepsWhatCame old.streams z) (sym (append-nil came)) p)) taken

pub lost : (largest_acked now : ℕ) (old new : DataSpace) (came : List Run) → IsLossTaken largest_acked now old new → KeepsWhatCame old.streams came → KeepsWhatCame new.streams came
lost largest now old new came l = by_loss (λ s. KeepsWhatCame s came) (by_lost came) largest now old new l

pub probe : (old new : DataSpace) (came : List Run) → IsProbeDue old new → KeepsWhatCame old.streams came → KeepsWhatCame new.streams came
probe old new came due = by_probe (λ s. KeepsWhatCame s came) (by_lost came) old new due

pub made : (now overhead room : ℕ) (old new : DataSpace) (before after : List ℕ) (came : List Run) → IsPacketMade now overhead room old new before after
    → KeepsWhatCame old.streams came → KeepsWhatCame new.streams came
made now overhead room old new before after came m = by_packet (λ s. KeepsWhatCame s came) (by_lost came) (by_handed came) now overhead room old new before after m
