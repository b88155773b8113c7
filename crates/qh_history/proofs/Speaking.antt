-- Which frames speak of streams, and what those bring.
use Rattle.std.proofs.Common.{◌≡◌, ◌⊎◌, ◌==◌, false, [], ◌∷◌, Some, None, refl, inl, inr}
use Rattle.qh_base.specs.declared.connection_error.ConnectionError.{ConnectionError}
use Rattle.qh_frame.specs.Plain.{plain_of}
use Rattle.qh_frame.specs.declared.frame.Frame.{Frame}
use Rattle.qh_frame.specs.declared.frame.Frame.TheVariants as kind
use Rattle.qh_space.specs.Receiving.{IsClosedBy, coming_of, frame_refusal, is_passive}
use Rattle.qh_space.specs.declared.data_space.DataSpace.{DataSpace}
use Rattle.qh_spec.specs.declared.sides.Dir.TheVariants.{Bi, Uni}
use Rattle.qh_streams.specs.Streams.{refusal_of}
use Rattle.qh_streams.specs.declared.frames.StreamFrame.{StreamFrame}
use Rattle.qh_streams.specs.declared.frames.StreamFrame.TheVariants as coming
use Rattle.qh_transcript.proofs.SendingFrames.{form_carries}
use Rattle.qh_transcript.specs.Sending.{runs_of}
use Rattle.qh_transcript.specs.Waiting.{runs_in}

-- The frame is this one of streams: the streams refuse it, and nothing else does; it brings that one's run; it is none that does
-- nothing, or closes.
pub record SpeaksOf (f : Frame) (c : StreamFrame) : Type 0 where
  pub is : coming_of f ≡ Some c
  pub refusal : (s : DataSpace) → frame_refusal s f ≡ refusal_of s.streams c
  pub runs : runs_of (plain_of f ∷ []) ≡ runs_in c
  pub active : is_passive f ≡ false
  pub stays : (e : ConnectionError) → IsClosedBy f (Some e) → ⊥

-- The frame speaks of no stream, and brings no run.
pub record IsSilent (f : Frame) : Type 0 where
  pub none : coming_of f ≡ None
  pub runs : runs_of (plain_of f ∷ []) ≡ []

pub speaks : (f : Frame) → ((c : StreamFrame) × SpeaksOf f c) ⊎ IsSilent f
speaks (kind.Stream x) = inl (
  coming.Stream x.id x.offset x.payload.now x.fin,
  record { is = refl; refusal = λ s. refl; runs = rw (form_carries (x.offset == 0) x.fin x.id.0 x.offset x.payload.now refl) refl; active = refl; stays = λ e is. cc },
)
speaks (kind.ResetStream id code size) = inl (coming.Reset id code size, record { is = refl; refusal = λ s. refl; runs = refl; active = refl; stays = λ e is. cc })
speaks (kind.StopSending id code) = inl (coming.Stop id code, record { is = refl; refusal = λ s. refl; runs = refl; active = refl; stays = λ e is. cc })
speaks (kind.MaxData limit) = inl (coming.MaxData limit, record { is = refl; refusal = λ s. refl; runs = refl; active = refl; stays = λ e is. cc })
speaks (kind.MaxStreamData id limit) = inl (coming.MaxStreamData id limit, record { is = refl; refusal = λ s. refl; runs = refl; active = refl; stays = λ e is. cc })
speaks (kind.MaxStreams Bi count) = inl (coming.MaxStreams Bi count, record { is = refl; refusal = λ s. refl; runs = refl; active = refl; stays = λ e is. cc })
speaks (kind.MaxStreams Uni count) = inl (coming.MaxStreams Uni count, record { is = refl; refusal = λ s. refl; runs = refl; active = refl; stays = λ e is. cc })
speaks kind.Padding = inr (record { none = refl; runs = refl })
speaks kind.Ping = inr (record { none = refl; runs = refl })
speaks (kind.Ack a) = inr (record { none = refl; runs = refl })
speaks (kind.Crypto offset payload) = inr (record { none = refl; runs = refl })
speaks (kind.NewToken token) = inr (record { none = refl; runs = refl })
speaks (kind.DataBlocked limit) = inr (record { none = refl; runs = refl })
speaks (kind.StreamDataBlocked id limit) = inr (record { none = refl; runs = refl })
speaks (kind.StreamsBlocked Bi count) = inr (record { none = refl; runs = refl })
speaks (kind.StreamsBlocked Uni count) = inr (record { none = refl; runs = refl })
speaks (kind.NewConnectionId sequence prior id token) = inr (record { none = refl; runs = refl })
speaks (kind.RetireConnectionId sequence) = inr (record { none = refl; runs = refl })
speaks (kind.PathChallenge bytes) = inr (record { none = refl; runs = refl })
speaks (kind.PathResponse bytes) = inr (record { none = refl; runs = refl })
speaks (kind.ConnectionClose code frame_type reason) = inr (record { none = refl; runs = refl })
speaks (kind.ApplicationClose code reason) = inr (record { none = refl; runs = refl })
speaks kind.HandshakeDone = inr (record { none = refl; runs = refl })
speaks (kind.Datagram payload has_length) = inr (record { none = refl; runs = refl })
