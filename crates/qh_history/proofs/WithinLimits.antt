-- The space keeps within the peer's limits.
use Rattle.std.proofs.Common.{◌≡◌, ℕ, ◌≤◌, ◌^◌, min, Bool, true, false, List, [], ◌++◌, Option, Some, None, if◌then◌else◌, refl, sym, ap, subst, ◌∙◌, arith}
use Rattle.qh_base.specs.declared.connection_error.ConnectionError.{ConnectionError}
use Rattle.qh_frame.specs.declared.frame.Frame.{Frame}
use Rattle.qh_history.specs.Standing.{some_coming, comings}
use Rattle.qh_history.proofs.Carried.{by_loss, by_probe, by_frame, by_packet}
use Rattle.qh_space.specs.Receiving.{IsFrameTaken, IsLossTaken, frame_refusal, coming_of}
use Rattle.qh_space.specs.Sending.{IsPacketMade}
use Rattle.qh_space.specs.Space.{AreUnused}
use Rattle.qh_space.specs.Timers.{IsProbeDue}
use Rattle.qh_space.specs.declared.data_space.DataSpace.{DataSpace}
use Rattle.qh_spec.specs.Transcript.{Act, written}
use Rattle.qh_streams.specs.Streams.{PlainStreams, counts_of, was_opened}
use Rattle.qh_streams.specs.declared.frames.PeerLimits.{PeerLimits}
use Rattle.qh_streams.specs.declared.frames.StreamFrame.{StreamFrame}
use Rattle.qh_transcript.proofs.WithinArrivals.{more}
use Rattle.qh_transcript.proofs.WithinFrames as out
use Rattle.qh_transcript.proofs.WithinReceived.{received}
use Rattle.qh_transcript.proofs.WithinStart.{unused}
use Rattle.qh_transcript.specs.Within.{KeepsWithin, first_count}

-- ---- before the first stream

same_below : (n m k : ℕ) → n ≡ m → k ≡ m → n ≤ k
same_below n m k e same = omega (arith, e, same)

least_below : (n first : ℕ) → n ≡ min first (2 ^ 60) → n ≤ first
least_below n first e = omega (arith, e)

first_is : (s : PlainStreams) (peer : PeerLimits) → s.peer ≡ peer → (b : Bool) → first_count s b ≡ (if b then peer.max_bidi else peer.max_uni)
first_is s peer e true = ap (λ (p : PeerLimits). p.max_bidi) e
first_is s peer e false = ap (λ (p : PeerLimits). p.max_uni) e

pub fresh : (s : DataSpace) (peer : PeerLimits) → AreUnused s.streams peer → KeepsWithin s.streams [] []
fresh s peer u = unused s.streams [] [] (record {
  no_half = u.no_send;
  data_sent = u.data_sent;
  max_data = same_below s.streams.send.max_data peer.max_data s.streams.peer.max_data u.max_data (ap (λ (p : PeerLimits). p.max_data) u.peer_is);
  opened = u.opened;
  max_opened = λ b. least_below (counts_of s.streams b).max_opened (first_count s.streams b) (rw (first_is s.streams peer u.peer_is b) (u.max_opened b));
}) (record { bytes = λ id. refl; ends = λ id. refl })

-- ---- each step

maybe_more : (o : Option StreamFrame) (s : PlainStreams) (given : List StreamFrame) (t : List Act) → KeepsWithin s given t → KeepsWithin s (some_coming o ++ given) t
maybe_more None s given t p = p
maybe_more (Some c) s given t p = more s c given t p

pub frame : (now : ℕ) (old new : DataSpace) (frame : Frame) (closed : Option ConnectionError) (given : List StreamFrame) (t : List Act) → frame_refusal old frame ≡ None → IsFrameTaken now old new frame closed
    → ((id : ℕ) → was_opened old.streams id ≡ false → written t id ≡ []) → KeepsWithin old.streams given t → KeepsWithin new.streams (comings frame ++ given) t
frame now old new f closed given t ok taken none p =
    by_frame (λ s. KeepsWithin s (comings f ++ given) t) (λ was s lost. out.again was s (comings f ++ given) t lost) (λ was s acked. out.acked was s (comings f ++ given) t acked)
    now old new f closed
    (λ c of r. subst (λ (o : Option StreamFrame). KeepsWithin new.streams (some_coming o ++ given) t) (sym of.is) (received old.streams new.streams given t c (sym (of.refusal old) ∙ ok) none r p))
    (λ none. maybe_more (coming_of f) old.streams given t p) taken

pub lost : (largest_acked now : ℕ) (old new : DataSpace) (given : List StreamFrame) (t : List Act) → IsLossTaken largest_acked now old new → KeepsWithin old.streams given t → KeepsWithin new.streams given t
lost largest now old new given t l p = by_loss (λ s. KeepsWithin s given t) (λ was s f. out.again was s given t f) largest now old new l p

pub probe : (old new : DataSpace) (given : List StreamFrame) (t : List Act) → IsProbeDue old new → KeepsWithin old.streams given t → KeepsWithin new.streams given t
probe old new given t due p = by_probe (λ s. KeepsWithin s given t) (λ was s f. out.again was s given t f) old new due p

pub made : (now overhead room : ℕ) (old new : DataSpace) (before after : List ℕ) (given : List StreamFrame) (t : List Act) → IsPacketMade now overhead room old new before after
    → KeepsWithin old.streams given t → KeepsWithin new.streams given t
made now overhead room old new before after given t m p =
    by_packet (λ s. KeepsWithin s given t) (λ was s f. out.again was s given t f) (λ was s room f. out.handed was s room f given t) now overhead room old new before after m p
