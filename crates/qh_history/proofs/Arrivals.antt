-- Frames that come, packets that are lost, and probes: the streams stand to all that was done as before.
use Rattle.std.proofs.Common.{◌≡◌, ℕ, List, [], ◌∷◌, ◌++◌, Option, None, sym, ◌∙◌}
use Rattle.qh_base.specs.declared.connection_error.ConnectionError.{ConnectionError}
use Rattle.qh_frame.specs.Plain.{plain_of}
use Rattle.qh_frame.specs.declared.frame.Frame.{Frame}
use Rattle.qh_history.proofs.Carried.{by_frame, by_loss, by_probe}
use Rattle.qh_history.specs.Standing.{Stands}
use Rattle.qh_space.specs.Receiving.{IsFrameTaken, IsLossTaken, frame_refusal}
use Rattle.qh_space.specs.Timers.{IsProbeDue}
use Rattle.qh_space.specs.declared.data_space.DataSpace.{DataSpace}
use Rattle.qh_spec.proofs.Members.{in_left, in_last}
use Rattle.qh_spec.specs.QuicFrame.{StreamFrame as Run}
use Rattle.qh_spec.specs.Transcript.{Act}
use Rattle.qh_streams.specs.declared.frames.StreamFrame.{StreamFrame}
use Rattle.qh_streams.specs.declared.frames.StreamFrame.TheVariants as coming
use Rattle.qh_transcript.proofs.ReceivingFrames as into
use Rattle.qh_transcript.proofs.ReceivingKept as kept
use Rattle.qh_transcript.proofs.ReceivingLists.{more_stand}
use Rattle.qh_transcript.proofs.SendingArrivals as arrival
use Rattle.qh_transcript.proofs.SendingFrames as out
use Rattle.qh_transcript.specs.Receiving.{StandsIn, IsCarried}
use Rattle.qh_transcript.specs.Sending.{StandsOut, runs_of}
use Rattle.qh_transcript.specs.Waiting.{runs_in}

-- ---- what came grows

more_stands : (s : DataSpace) (sent came more : List Run) (t : List Act) → Stands s sent came t → Stands s sent (came ++ more) t
more_stands s sent came more t p = record { out = p.out; into = more_stand s.streams came (came ++ more) t (λ run. in_left run came more) p.into }

-- ---- packets are lost or acknowledged

pub lost_stands : (largest now : ℕ) (old new : DataSpace) (sent came : List Run) (t : List Act) → IsLossTaken largest now old new → Stands old sent came t → Stands new sent came t
lost_stands largest now old new sent came t l p = record {
  out = by_loss (λ s. StandsOut s sent t) (λ was s f. out.again was s sent t f) largest now old new l p.out;
  into = by_loss (λ s. StandsIn s came t) (λ was s f lost. into.kept_stand was s came t (kept.again was s f lost)) largest now old new l p.into;
}

-- ---- frames that come

-- what a frame brings came
carried : (came : List Run) (c : StreamFrame) → IsCarried (came ++ runs_in c) c
carried came (coming.Stream id offset payload fin) = in_last _ came
carried came (coming.Reset id code size) = tt
carried came (coming.Stop id code) = tt
carried came (coming.MaxData limit) = tt
carried came (coming.MaxStreamData id limit) = tt
carried came (coming.MaxStreams dir count) = tt

pub frame_stands : (now : ℕ) (old new : DataSpace) (frame : Frame) (closed : Option ConnectionError) (sent came : List Run) (t : List Act) → frame_refusal old frame ≡ None
    → IsFrameTaken now old new frame closed → Stands old sent came t → Stands new sent (came ++ runs_of (plain_of frame ∷ [])) t
frame_stands now old new f closed sent came t ok taken s =
    let now_came = came ++ runs_of (plain_of f ∷ []) in
    let p = more_stands old sent came (runs_of (plain_of f ∷ [])) t s in
    record {
      out = by_frame (λ s. StandsOut s sent t) (λ was s f. out.again was s sent t f) (λ was s f. out.acked was s sent t f) now old new f closed
          (λ c of r. arrival.received old.streams new.streams sent t c (sym (of.refusal old) ∙ ok) r p.out) (λ none. p.out) taken;
      into = by_frame (λ s. StandsIn s now_came t) (λ was s f lost. into.kept_stand was s now_came t (kept.again was s f lost)) (λ was s f acked. into.kept_stand was s now_came t (kept.acked was s f acked)) now old new f closed
          (λ c of r. into.received_stand old.streams new.streams now_came t c (sym (of.refusal old) ∙ ok) (rw of.runs (carried came c)) r p.into) (λ none. p.into) taken;
    }

-- ---- probes

pub probe_stands : (old new : DataSpace) (sent came : List Run) (t : List Act) → IsProbeDue old new → Stands old sent came t → Stands new sent came t
probe_stands old new sent came t due p = record {
  out = by_probe (λ s. StandsOut s sent t) (λ was s f. out.again was s sent t f) old new due p.out;
  into = by_probe (λ s. StandsIn s came t) (λ was s f lost. into.kept_stand was s came t (kept.again was s f lost)) old new due p.into;
}
