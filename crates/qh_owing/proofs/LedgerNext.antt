-- The number of the next packet stays where none is made.
use Rattle.std.proofs.Common.{◌≡◌, ℕ, List, Option, Some, None, refl, ap, ◌∙◌}
use Rattle.qh_base.specs.declared.connection_error.ConnectionError.{ConnectionError}
use Rattle.qh_core.specs.Receiving.{AreFramesTaken}
use Rattle.qh_core.specs.Receiving.AreFramesTaken.{none as none_taken, more as more_taken, closed as closed_by, refused as refused_at}
use Rattle.qh_core.specs.Timers.{AreLostByAge, IsProbed}
use Rattle.qh_core.specs.Timers.AreLostByAge.{due as due_lost, not_yet as none_lost}
use Rattle.qh_core.specs.Timers.IsProbed.{due as due_probe, not_yet as no_probe}
use Rattle.qh_frame.specs.declared.frame.Frame.{Frame}
use Rattle.qh_loss.specs.declared.probe.Probe.{Probe}
use Rattle.qh_loss.specs.declared.probe.Probe.TheVariants as probe
use Rattle.qh_space.specs.Receiving.{IsFrameTaken}
use Rattle.qh_space.specs.Receiving.IsFrameTaken.{passive, streams as of_streams, ack as of_ack, challenge, close}
use Rattle.qh_space.specs.Timers.{pings_after}
use Rattle.qh_space.specs.declared.data_space.DataSpace.{DataSpace}

abbrev pub HasSameNext : (old new : DataSpace) → Type 0
HasSameNext old new = new.next_number ≡ old.next_number

frame_next : (now : ℕ) (old new : DataSpace) (f : Frame) (end : Option ConnectionError) → IsFrameTaken now old new f end → HasSameNext old new
frame_next now old new f end (passive _ is e) = ap (λ (s : DataSpace). s.next_number) e
frame_next now old new f end (of_streams _ c is r e) = ap (λ (s : DataSpace). s.next_number) e
frame_next now old new f end (of_ack a r) = ap (λ (s : DataSpace). s.next_number) r.lost.rest_is ∙ ap (λ (s : DataSpace). s.next_number) r.mid_is
frame_next now old new f end (challenge bytes e) = ap (λ (s : DataSpace). s.next_number) e
frame_next now old new f end (close _ error is e) = ap (λ (s : DataSpace). s.next_number) e

pub frames_next : (now : ℕ) (bytes : List ℕ) (old new : DataSpace) (taken : List Frame) (end : Option ConnectionError) → AreFramesTaken now bytes old new taken end → HasSameNext old new
frames_next now bytes old new taken end (none_taken _) = refl
frames_next now bytes old new taken end (more_taken _ rest f _ mid _ later _ begins free one behind) = frames_next now rest mid new later end behind ∙ frame_next now old mid f None one
frames_next now bytes old new taken end (closed_by _ rest f _ _ e begins free one) = frame_next now old new f (Some e) one
frames_next now bytes old new taken end (refused_at _ rest f _ e begins named fault) = refl

pings_next : (p : Probe) (s : DataSpace) → HasSameNext s (pings_after p s)
pings_next probe.Stream s = refl
pings_next probe.Others s = refl
pings_next probe.Ping s = refl

pub aged_next : (now : ℕ) (old new : DataSpace) → AreLostByAge now old new → HasSameNext old new
aged_next now old new (due_lost moment largest is before acked lost) = ap (λ (s : DataSpace). s.next_number) lost.rest_is
aged_next now old new (none_lost later e) = ap (λ (s : DataSpace). s.next_number) e

pub probed_next : (now : ℕ) (old new : DataSpace) → IsProbed now old new → HasSameNext old new
probed_next now old new (due_probe moment is before due) = ap (λ (s : DataSpace). s.next_number) due.rest_is ∙ pings_next due.probe _
probed_next now old new (no_probe later e) = ap (λ (s : DataSpace). s.next_number) e
