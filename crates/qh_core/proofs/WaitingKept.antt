-- A connection keeps what came of its streams.
use Rattle.std.proofs.Common.{◌≡◌, ◌⊎◌, ℕ, Bool, true, List, [], ◌∷◌, ◌++◌, append-nil, append_assoc, Option, Some, None, refl, sym, ap, subst, ◌∙◌, inl, inr}
use Rattle.std.specs.Prelude.{map}
use Rattle.qh_base.specs.declared.connection_error.ConnectionError.{ConnectionError}
use Rattle.qh_base.specs.declared.path.Transmit.{Transmit}
use Rattle.qh_base.specs.declared.time.Moment.{Moment}
use Rattle.qh_core.proofs.ControlFrames.{bare_rest}
use Rattle.qh_core.proofs.FramesRead.{frames_read}
use Rattle.qh_core.proofs.Ends.{goes_on_open, goes_on_space}
use Rattle.qh_core.specs.Inner.{is_open}
use Rattle.qh_core.specs.Receiving.{AreFramesTaken, IsDatagramTaken, IsPacketHandled, IsPacketTaken}
use Rattle.qh_core.specs.Receiving.AreFramesTaken.{none as none_taken, more as more_taken, closed as closed_taken, refused as refused_taken}
use Rattle.qh_core.specs.Receiving.IsDatagramTaken.{dropped, handled, told_again, closed_too, draining as in_draining, drained as in_drained}
use Rattle.qh_core.specs.Receiving.IsPacketHandled.{repeated, empty, faulty, unnoted, taken as in_taken}
use Rattle.qh_core.specs.Sending.{AreFramesMade, IsDatagramMade, NothingIsSent}
use Rattle.qh_core.specs.Sending.AreFramesMade.{packet as packet_made, control as control_made, close as close_made}
use Rattle.qh_core.specs.Timers.{AreLostByAge, IsProbed, IsTimedOut}
use Rattle.qh_core.specs.Timers.AreLostByAge.{due as some_lost, not_yet as no_loss}
use Rattle.qh_core.specs.Timers.IsProbed.{due as some_probe, not_yet as no_probe}
use Rattle.qh_core.specs.Timers.IsTimedOut.{idle, recovery, closed as out_closed, draining as out_draining, waits, drained as out_drained}
use Rattle.qh_core.specs.declared.inner.Inner.{Inner}
use Rattle.qh_frame.proofs.WrittenForms.{form_stream}
use Rattle.qh_frame.specs.Plain.{plain_of}
use Rattle.qh_frame.specs.WrittenForm.{written_form}
use Rattle.qh_frame.specs.declared.frame.Frame.{Frame}
use Rattle.qh_history.proofs.WaitingKept as space
use Rattle.qh_space.specs.declared.data_space.DataSpace.{DataSpace}
use Rattle.qh_spec.specs.FrameViews.{stream_of}
use Rattle.qh_spec.specs.QuicFrame.{StreamFrame as Run}
use Rattle.qh_spec.specs.QuicFrames.{QuicFrame, AreQuicFrames}
use Rattle.qh_spec.specs.declared.sides.Side.{Side}
use Rattle.qh_spec.specs.declared.sides.Space.{Space}
use Rattle.qh_streams.specs.Streams.{PlainStreams}
use Rattle.qh_transcript.specs.Sending.{some_run, runs_of}
use Rattle.qh_transcript.specs.Waiting.{KeepsWhatCame}

same_keeps : (old new : PlainStreams) (came : List Run) → new ≡ old → KeepsWhatCame old came → KeepsWhatCame new came
same_keeps old new came same = subst (λ (s : PlainStreams). KeepsWhatCame s came) (sym same)

-- ---- the frames of a packet, one after another

more_came : (came now behind : List Run) → (came ++ (now ++ [])) ++ behind ≡ came ++ (now ++ behind)
more_came came now behind = append_assoc came (now ++ []) behind ∙ ap (λ (runs : List Run). came ++ (runs ++ behind)) (append-nil now)

frames_keep : (now : ℕ) (bytes : List ℕ) (old new : DataSpace) (taken : List Frame) (end : Option ConnectionError) (came : List Run) → AreFramesTaken now bytes old new taken end
    → KeepsWhatCame old.streams came → KeepsWhatCame new.streams (came ++ runs_of (map plain_of taken))
frames_keep now bytes old new taken end came (none_taken _) p = subst (λ (z : List Run). KeepsWhatCame old.streams z) (sym (append-nil came)) p
frames_keep now bytes old new taken end came (more_taken _ rest f _ mid _ behind _ begins ok step later) p =
    let first = came ++ runs_of (plain_of f ∷ []) in
    subst (λ (z : List Run). KeepsWhatCame new.streams z) (more_came came _ (runs_of (map plain_of behind)))
    (frames_keep now rest mid new behind end first later (space.frame now old mid f None came ok step p))
frames_keep now bytes old new taken end came (closed_taken _ rest f _ _ e begins ok step) p = space.frame now old new f (Some e) came ok step p
frames_keep now bytes old new taken end came (refused_taken _ rest f _ e begins named is) p = subst (λ (z : List Run). KeepsWhatCame old.streams z) (sym (append-nil came)) p

-- frames have the same runs in the form in which they are written
form_runs : (fs : List QuicFrame) → runs_of (map written_form fs) ≡ runs_of fs
form_runs [] = refl
form_runs (f ∷ fs) = ap (λ (o : Option Run). some_run o ++ runs_of (map written_form fs)) (form_stream f) ∙ ap (λ (runs : List Run). some_run (stream_of f) ++ runs) (form_runs fs)

-- so where all frames of the bytes are taken, their runs are those that were taken
taken_runs : (now : ℕ) (bytes : List ℕ) (old new : DataSpace) (taken : List Frame) (fs : List QuicFrame) → AreFramesTaken now bytes old new taken None → AreQuicFrames bytes fs
    → runs_of (map plain_of taken) ≡ runs_of fs
taken_runs now bytes old new taken fs all are = ap runs_of (sym (frames_read now bytes old new taken fs all are)) ∙ form_runs fs

-- ---- what is lost by its age, and probes

aged_keeps : (now : ℕ) (old new : DataSpace) (came : List Run) → AreLostByAge now old new → KeepsWhatCame old.streams came → KeepsWhatCame new.streams came
aged_keeps now old new came (some_lost moment largest is before acked lost) = space.lost largest now old new came lost
aged_keeps now old new came (no_loss later same) = same_keeps old.streams new.streams came (ap (λ (s : DataSpace). s.streams) same)

probed_keeps : (now : ℕ) (old new : DataSpace) (came : List Run) → IsProbed now old new → KeepsWhatCame old.streams came → KeepsWhatCame new.streams came
probed_keeps now old new came (some_probe moment is before due) = space.probe old new came due
probed_keeps now old new came (no_probe later same) = same_keeps old.streams new.streams came (ap (λ (s : DataSpace). s.streams) same)

-- ---- the connection

module _ {S : Type 0} where
  streams_keep : (old new c : Inner S) (came : List Run) → new ≡ c → c.space.streams ≡ old.space.streams → KeepsWhatCame old.space.streams came → KeepsWhatCame new.space.streams came
  streams_keep old new c came is same = same_keeps old.space.streams new.space.streams came (ap (λ (c : Inner S). c.space.streams) is ∙ same)

  pub taken_keeps : (now : Moment) (number : ℕ) (frames : List ℕ) (old new : Inner S) (came : List Run) → (p : IsPacketTaken now number frames old new)
      → KeepsWhatCame old.space.streams came → KeepsWhatCame new.space.streams (came ++ runs_of (map plain_of p.taken))
  taken_keeps now number frames old new came t p =
      let begun = same_keeps old.space.streams t.mid.streams came (ap (λ (s : DataSpace). s.streams) t.accepted.rest_is) p in
      let kept = frames_keep now.0 frames t.mid t.space t.taken t.end came t.are_taken begun in
      same_keeps t.space.streams new.space.streams (came ++ runs_of (map plain_of t.taken)) (ap (λ (s : DataSpace). s.streams) (goes_on_space now t.end _ new t.goes_on)) kept

  pub taken_whole : (now : Moment) (number : ℕ) (frames : List ℕ) (old new : Inner S) (fs : List QuicFrame) → (p : IsPacketTaken now number frames old new) → is_open new.state ≡ true
      → AreQuicFrames frames fs → runs_of (map plain_of p.taken) ≡ runs_of fs
  taken_whole now number frames old new fs t opened are =
      let on = goes_on_open now t.end _ new t.goes_on opened in
      let all : AreFramesTaken now.0 frames t.mid t.space t.taken None = subst (λ (end : Option ConnectionError). AreFramesTaken now.0 frames t.mid t.space t.taken end) on.0 t.are_taken in
      taken_runs now.0 frames t.mid t.space t.taken fs all are

  -- a packet is taken, or the space stays as it was
  handled_or_still : (now : Moment) (number : ℕ) (frames : List ℕ) (old new : Inner S) → IsPacketHandled now number frames old new
      → (new.space ≡ old.space) ⊎ ((number : ℕ) × (frames : List ℕ) × IsPacketTaken now number frames old new)
  handled_or_still now number frames old new (repeated before is) = inl (ap (λ (c : Inner S). c.space) is)
  handled_or_still now number frames old new (empty e fresh none fault f) = inl (ap (λ (c : Inner S). c.space) f.closed.rest_is)
  handled_or_still now number frames old new (faulty e kind fresh bad fault f) = inl (ap (λ (c : Inner S). c.space) f.closed.rest_is)
  handled_or_still now number frames old new (unnoted e eliciting fresh read at f) = inl (ap (λ (c : Inner S). c.space) f.closed.rest_is)
  handled_or_still now number frames old new (in_taken fresh t) = inr (number, frames, t)

  pub taken_or_still : (accepts : Side → Space → ℕ → List ℕ → Bool) (now : Moment) (datagram : List ℕ) (old new : Inner S) → IsDatagramTaken accepts now datagram old new
      → (new.space ≡ old.space) ⊎ ((number : ℕ) × (frames : List ℕ) × IsPacketTaken now number frames old new)
  taken_or_still accepts now datagram old new (dropped opened none is) = inl (ap (λ (c : Inner S). c.space) is)
  taken_or_still accepts now datagram old new (handled number frames opened by h) = handled_or_still now number frames old new h
  taken_or_still accepts now datagram old new (told_again reason due until closed none is) = inl (ap (λ (c : Inner S). c.space) is)
  taken_or_still accepts now datagram old new (closed_too reason due until closed brings is) = inl (ap (λ (c : Inner S). c.space) is)
  taken_or_still accepts now datagram old new (in_draining until closed is) = inl (ap (λ (c : Inner S). c.space) is)
  taken_or_still accepts now datagram old new (in_drained closed is) = inl (ap (λ (c : Inner S). c.space) is)

  pub made_keeps : (sealed : Side → Space → ℕ → List ℕ) (now : Moment) (old new : Inner S) (before after : List ℕ) (transmit : Transmit) (came : List Run)
      → IsDatagramMade sealed now old new before after transmit → KeepsWhatCame old.space.streams came → KeepsWhatCame new.space.streams came
  made_keeps sealed now old new before after transmit came made = kept _ _ made.bytes.made where
    kept : (first frames : List ℕ) → AreFramesMade now old new first frames → KeepsWhatCame old.space.streams came → KeepsWhatCame new.space.streams came
    kept first frames (packet_made opened packet is) = space.made _ _ _ old.space new.space _ _ came packet
    kept first frames (control_made opened packet is) = same_keeps old.space.streams new.space.streams came (bare_rest _ _ old.space new.space packet.sent).streams
    kept first frames (close_made reason until closed are is) = streams_keep old new _ came is refl

  pub none_keeps : (old new : Inner S) (came : List Run) → NothingIsSent old new → KeepsWhatCame old.space.streams came → KeepsWhatCame new.space.streams came
  none_keeps old new came n = streams_keep old new old came n.0 refl

  pub timed_out_keeps : (now : ℕ) (old new : Inner S) (came : List Run) → IsTimedOut now old new → KeepsWhatCame old.space.streams came → KeepsWhatCame new.space.streams came
  timed_out_keeps now old new came (idle opened due is) p = streams_keep old new _ came is refl p
  timed_out_keeps now old new came (recovery mid opened early lost probed is) p = probed_keeps now mid new.space came probed (aged_keeps now old.space mid came lost p)
  timed_out_keeps now old new came (out_closed reason due until closed by is) p = streams_keep old new _ came is refl p
  timed_out_keeps now old new came (out_draining until closed by is) p = streams_keep old new _ came is refl p
  timed_out_keeps now old new came (waits moment ends later is) p = streams_keep old new old came is refl p
  timed_out_keeps now old new came (out_drained closed is) p = streams_keep old new old came is refl p
