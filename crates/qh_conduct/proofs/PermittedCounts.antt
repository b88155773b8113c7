-- How many streams the peer permits, and how many of its own arrived, stays, whatever is sent.
use Rattle.std.proofs.Common.{◌≡◌, ℕ, Bool, true, false, List, refl, ap, ◌∙◌}
use Rattle.qh_base.specs.declared.path.Transmit.{Transmit}
use Rattle.qh_base.specs.declared.time.Moment.{Moment}
use Rattle.qh_conduct.proofs.SpaceGoesOn.{bare_streams}
use Rattle.qh_conduct.specs.Calls.{ToldTheSame}
use Rattle.qh_core.specs.Sending.{AreFramesMade, IsDatagramMade, NothingIsSent}
use Rattle.qh_core.specs.Sending.AreFramesMade.{packet, control, close}
use Rattle.qh_core.specs.declared.inner.Inner.{Inner}
use Rattle.qh_halves.specs.declared.counts.StreamCounts.{StreamCounts}
use Rattle.qh_history.proofs.Carried.{by_packet}
use Rattle.qh_spec.specs.declared.sides.Side.{Side}
use Rattle.qh_spec.specs.declared.sides.Space.{Space}
use Rattle.qh_streams.specs.Streams.{PlainStreams, counts_of, with_counts, IsHandedOver, IsLostFrame}
use Rattle.qh_streams.specs.Streams.IsHandedOver.{stream as stream_handed, reset as reset_handed, stop as stop_handed, max_stream_data as max_stream_data_handed, max_data as max_data_handed, max_streams as max_streams_handed}
use Rattle.qh_streams.specs.Streams.IsLostFrame.{stream as stream_lost, reset as reset_lost, stop as stop_lost, max_stream_data as max_stream_data_lost, max_data as max_data_lost, max_streams as max_streams_lost}
use Rattle.qh_streams.specs.declared.frames.SentFrame.{SentFrame}

-- what the peer says of one direction
abbrev told_of : StreamCounts → ℕ × ℕ
told_of c = (c.max_opened, c.arrived)

abbrev most : PlainStreams → (ℕ × ℕ) × (ℕ × ℕ)
most s = (told_of s.bi, told_of s.uni)

counts_most : (new s : PlainStreams) (two_way : Bool) (c : StreamCounts) → new ≡ with_counts s two_way c → told_of c ≡ told_of (counts_of s two_way) → most new ≡ most s
counts_most new s true c e same = ap most e ∙ ap (λ (x : ℕ × ℕ). (x, told_of s.uni)) same
counts_most new s false c e same = ap most e ∙ ap (λ (x : ℕ × ℕ). (told_of s.bi, x)) same

lost_most : (first old new : PlainStreams) (f : SentFrame) → IsLostFrame old new f → most old ≡ most first → most new ≡ most first
lost_most first old new f (stream_lost id piece step rest) p = ap most rest ∙ p
lost_most first old new f (reset_lost id reset step rest) p = ap most rest ∙ p
lost_most first old new f (stop_lost id code step rest) p = ap most rest ∙ p
lost_most first old new f (max_data_lost limit rest) p = ap most rest ∙ p
lost_most first old new f (max_stream_data_lost id limit step rest) p = ap most rest ∙ p
lost_most first old new f (max_streams_lost dir n rest) p = counts_most new old _ _ rest refl ∙ p

handed_most : (first old new : PlainStreams) (room : ℕ) (f : SentFrame) → IsHandedOver old new room f → most old ≡ most first → most new ≡ most first
handed_most first old new room f (stream_handed id piece next rest) p = ap most rest ∙ p
handed_most first old new room f (reset_handed id reset next rest) p = ap most rest ∙ p
handed_most first old new room f (stop_handed id code step rest) p = ap most rest ∙ p
handed_most first old new room f (max_stream_data_handed id limit step rest) p = ap most rest ∙ p
handed_most first old new room f (max_data_handed limit is due rest) p = ap most rest ∙ p
handed_most first old new room f (max_streams_handed dir n is due rest) p = counts_most new old _ _ rest refl ∙ p

of_both : (old new : PlainStreams) → most new ≡ most old → ToldTheSame old new
of_both old new e true = (ap (λ (x : (ℕ × ℕ) × (ℕ × ℕ)). x.0.0) e, ap (λ (x : (ℕ × ℕ) × (ℕ × ℕ)). x.0.1) e)
of_both old new e false = (ap (λ (x : (ℕ × ℕ) × (ℕ × ℕ)). x.1.0) e, ap (λ (x : (ℕ × ℕ) × (ℕ × ℕ)). x.1.1) e)

module _ {S : Type 0} where
  frames_most : (now : Moment) (old new : Inner S) (before frames : List ℕ) → AreFramesMade now old new before frames → most new.space.streams ≡ most old.space.streams
  frames_most now old new before frames (packet up made e) = by_packet (λ s. most s ≡ most old.space.streams) (lost_most old.space.streams) (handed_most old.space.streams) _ _ _ old.space new.space _ _ made refl
  frames_most now old new before frames (control up made e) = ap most (bare_streams _ _ old.space new.space made.sent)
  frames_most now old new before frames (close reason until is are e) = ap (λ (x : Inner S). most x.space.streams) e

  pub made_permits : (sealed : Side → Space → ℕ → List ℕ) (now : Moment) (old new : Inner S) (before after : List ℕ) (transmit : Transmit) → IsDatagramMade sealed now old new before after transmit
      → ToldTheSame old.space.streams new.space.streams
  made_permits sealed now old new before after transmit m = of_both old.space.streams new.space.streams (frames_most now old new _ m.bytes.frames m.bytes.made)

  pub none_permits : (old new : Inner S) → NothingIsSent old new → ToldTheSame old.space.streams new.space.streams
  none_permits old new n = of_both old.space.streams new.space.streams (ap (λ (x : Inner S). most x.space.streams) n.0)
