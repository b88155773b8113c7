-- The limits of all streams are written, one frame of each at most.
use Rattle.std.proofs.Common.{◌≡◌, ◌⊎◌, ℕ, zero, suc, ◌+◌, ◌*◌, ◌-◌, ◌<◌, ◌≤◌, ◌^◌, append_assoc, ◌==◌, Bool, true, false, if◌then◌else◌, ◌||◌, List, [], ◌∷◌, ◌++◌, length, drop, Option, Some, None, Result, Ok, Err, refl, sym, ap, ◌∙◌, arith, inl, inr, subst}
use Rattle.std.specs.List.{list_any}
use Rattle.std.specs.Prelude.{OnErr}
use Rattle.std.proofs.lemmas.Bool.{both_ways}
use Rattle.std.proofs.lemmas.List.{append-nil, length-append}
use Rattle.std.proofs.lemmas.List.Folds.{list_any-append}
use Rattle.qh_frame.proofs.FramesWritten.{varint_one, varint_short}
use Rattle.qh_frame.specs.FrameBytes.{fields_bytes, frame_bytes}
use Rattle.qh_half.specs.Recv.{PlainRecv, is_frame_due, is_limit_due, is_stop_due}
use Rattle.qh_half.specs.Send.{PlainSend, Waits}
use Rattle.qh_halves.specs.Counts.{count_limit}
use Rattle.qh_halves.specs.Limit.{is_due}
use Rattle.qh_halves.specs.RecvHalves.{NoneIsDue, PlainRecvHalves, data_limit, recv_at}
use Rattle.qh_halves.specs.SendHalves.{NoneWaits, PlainSendHalves, send_at}
use Rattle.qh_spec.specs.Lists.{In}
use Rattle.qh_spec.specs.QuicFrames.{Number, Num, Part, QuicFrame, Value, shape_of}
use Rattle.qh_spec.specs.Varint.{varint}
use Rattle.qh_spec.specs.declared.sides.Dir.{Dir}
use Rattle.qh_spec.specs.declared.sides.Dir.TheVariants.{Bi, Uni}
use Rattle.qh_streams.proofs.LimitsTold.{count_of, count_quiet, data_of, data_quiet, handed_count, handed_data, is_told, stays_quiet}
use Rattle.qh_streams.proofs.StreamsInTurn.{come_waits, comes}
use Rattle.qh_streams.proofs.StreamsWritten.{all_out_more, frame_some, kept_all_out, written_more}
use Rattle.qh_streams.specs.Streams.{AreAllOut, AreHanded, AreLimitsIdle, AreLimitsWritten, AreOf, AreShared, AreWritten, IsControlIdle, IsCutShort, IsHandedOver, IsIdle, IsOf, IsOneWritten, IsOut, IsPartWritten, IsPhaseIdle, IsPhaseWritten, IsWrittenBy, KeepsOut, PlainStreams, counts_of, max_frame_header, is_sending, is_single, is_two_way, single_count, written_frame}
use Rattle.qh_streams.specs.Streams.AreHanded.{none as none_handed, more as more_handed}
use Rattle.qh_streams.specs.Streams.AreWritten.{none as none_written, more as more_written}
use Rattle.qh_streams.specs.Streams.IsHandedOver.{stream as stream_handed, reset as reset_handed, stop as stop_handed, max_stream_data as max_stream_data_handed, max_data as max_data_handed, max_streams as max_streams_handed}
use Rattle.qh_streams.specs.Streams.IsOf.{max_data as of_data, max_streams as of_count, stop as of_stop, max_stream_data as of_limit, stream as of_stream, reset as of_reset}
use Rattle.qh_streams.specs.Turns.{WaitsAt}
use Rattle.qh_streams.specs.declared.frames.SentFrame.{SentFrame}
use Rattle.qh_streams.specs.declared.frames.SentFrame.TheVariants as sent
use Rattle.qh_streams.specs.declared.streams.writing.Phase.{Phase}
use Rattle.qh_streams.specs.declared.streams.writing.Phase.TheVariants as phase
use Rattle.qh_streams.proofs.PhasesWritten.{IsShort, all_quiet, any_joined, all_short, all_single, count_frames, data_frames, frames_bytes, idle_still, none_changed, part_joined, part_length, part_out, single_frames, single_joined, some_sending}

-- frames of limits are of no stream
abbrev IsLimit : Phase → Type 0
IsLimit phase.MaxData = Unit {0}
IsLimit (phase.MaxStreams dir) = Unit {0}
IsLimit _ = ⊥

one_limit : (p : Phase) (f : SentFrame) → IsLimit p → IsOf p f → (is_single f ≡ false) × (is_sending f ≡ false)
one_limit p f l (of_data _) = (refl, refl)
one_limit p f l (of_count _ _) = (refl, refl)
one_limit p f l (of_stop _ _) = absurd l
one_limit p f l (of_limit _ _) = absurd l
one_limit p f l (of_stream _ _) = absurd l
one_limit p f l (of_reset _ _) = absurd l

all_limits : (p : Phase) (fs : List SentFrame) → IsLimit p → AreOf p fs → (single_count fs ≡ 0) × (list_any is_sending fs ≡ false)
all_limits p [] l of = (refl, refl)
all_limits p (f ∷ fs) l of =
    let one = one_limit p f l of.0 in
    let later = all_limits p fs l of.1 in
    let counted = later.0 in
    (rw one.0 (omega (arith, counted)), ap (λ (x : Bool). x || list_any is_sending fs) one.1 ∙ later.1)

-- a limit that was told isn't due any more
abbrev IsDoneByOne : Phase → Type 0
IsDoneByOne p = (old new : PlainStreams) (room : ℕ) (f : SentFrame) → IsOf p f → IsHandedOver old new room f → IsPhaseIdle p new

data_done : IsDoneByOne phase.MaxData
data_done old new room f (of_data _) (max_data_handed limit is due rest) = data_quiet old new limit is rest

count_done : (dir : Dir) → IsDoneByOne (phase.MaxStreams dir)
count_done dir old new room f (of_count _ _) (max_streams_handed _ n is due rest) = count_quiet dir old new n is rest

one_done : (p : Phase) → IsDoneByOne p → (room : ℕ) (old new : PlainStreams) (fs : List SentFrame) (bytes : List ℕ) → AreWritten room old new fs bytes → AreOf p fs → length fs ≡ 1
    → IsPhaseIdle p new
one_done p done room old new fs bytes (none_written _ _) of one = absurd (omega (arith, one))
one_done p done room old new fs bytes (more_written _ _ mid _ f [] more first fits back others) of one =
    subst (λ (s : PlainStreams). IsPhaseIdle p s) (sym (none_changed _ mid new [] more others refl).0) (done old mid room f of.0 first)
one_done p done room old new fs bytes (more_written _ _ mid _ f (g ∷ rest) more first fits back others) of one = absurd (omega (arith, one))

-- a phase of one limit left none that is due, or no room
module _ (p : Phase) (room : ℕ) (old new : PlainStreams) (out_old out_new : List ℕ) (sent_old sent_new : List SentFrame) (w : IsPhaseWritten p 1 room old new out_old out_new sent_old sent_new) where
  limit_done : IsDoneByOne p → IsPhaseIdle p new ⊎ (room < length w.part.bytes + max_frame_header + 1)
  limit_done by_one = elim w.done [
    | inl idle ↦ inl idle
    | inr (inl narrow) ↦ inr narrow
    | inr (inr one) ↦ inl (one_done p by_one room old new w.part.frames w.part.bytes w.part.written w.are_of one)
  ]

  limit_bytes : IsShort p 9 → length w.part.bytes ≤ 9
  limit_bytes short =
      let all = all_short p 9 short room old new w.part.frames w.part.bytes w.part.written w.are_of in
      let few = w.few in
      omega (arith, all, few)

module _ (room left last : ℕ) (s0 s1 s2 s3 : PlainStreams) (o0 o1 o2 o3 : List ℕ) (f0 f1 f2 f3 : List SentFrame)
    (a : IsPhaseWritten phase.MaxData 1 room s0 s1 o0 o1 f0 f1)
    (left_is : left ≡ room - (length o1 - length o0)) (keeps_b : KeepsOut s1 s2) (b : IsPhaseWritten (phase.MaxStreams Bi) 1 left s1 s2 o1 o2 f1 f2)
    (last_is : last ≡ room - (length o2 - length o0)) (keeps_c : KeepsOut s2 s3) where
  module _ (c : IsPhaseWritten (phase.MaxStreams Uni) 1 last s2 s3 o2 o3 f2 f3) where
    abbrev two_limits : IsPartWritten room s0 s2 o0 o2 f0 f2
    two_limits = part_joined a.part left_is keeps_b b.part

    a_bytes : length a.part.bytes ≤ 9
    a_bytes = limit_bytes phase.MaxData room s0 s1 o0 o1 f0 f1 a data_frames

    b_bytes : length b.part.bytes ≤ 9
    b_bytes = limit_bytes (phase.MaxStreams Bi) left s1 s2 o1 o2 f1 f2 b (count_frames Bi)

    c_bytes : length c.part.bytes ≤ 9
    c_bytes = limit_bytes (phase.MaxStreams Uni) last s2 s3 o2 o3 f2 f3 c (count_frames Uni)

    abbrev whole : IsPartWritten room s0 s3 o0 o3 f0 f3
    whole = part_joined two_limits last_is keeps_c c.part

    -- the room of each phase
    a_length : length o1 ≡ length o0 + length a.part.bytes
    a_length = part_length a.part

    b_length : length o2 ≡ length o1 + length b.part.bytes
    b_length = part_length b.part

    whole_length : length whole.bytes ≡ length a.part.bytes + length b.part.bytes + length c.part.bytes
    whole_length =
        let outer : length whole.bytes ≡ length (a.part.bytes ++ b.part.bytes) + length c.part.bytes = length-append (a.part.bytes ++ b.part.bytes) c.part.bytes in
        let inner = length-append a.part.bytes b.part.bytes in
        omega (arith, outer, inner)

    abbrev Narrow : Type 0
    Narrow = room < length whole.bytes + max_frame_header + 1

    data_end : IsPhaseIdle phase.MaxData s3 ⊎ Narrow
    data_end = elim (limit_done phase.MaxData room s0 s1 o0 o1 f0 f1 a data_done) [
      | inl idle ↦ inl (idle_still phase.MaxData _ s2 s3 _ _ c.part.written (idle_still phase.MaxData _ s1 s2 _ _ b.part.written idle))
      | inr narrow ↦ let sum = whole_length in inr (omega (arith, narrow, sum))
    ]

    bidi_end : IsPhaseIdle (phase.MaxStreams Bi) s3 ⊎ Narrow
    bidi_end = elim (limit_done (phase.MaxStreams Bi) left s1 s2 o1 o2 f1 f2 b (count_done Bi)) [
      | inl idle ↦ inl (idle_still (phase.MaxStreams Bi) _ s2 s3 _ _ c.part.written idle)
      | inr narrow ↦ let sum = whole_length in let first = a_length in inr (omega (arith, narrow, sum, first, left_is))
    ]

    uni_end : IsPhaseIdle (phase.MaxStreams Uni) s3 ⊎ Narrow
    uni_end = elim (limit_done (phase.MaxStreams Uni) last s2 s3 o2 o3 f2 f3 c (count_done Uni)) [
      | inl idle ↦ inl idle
      | inr narrow ↦ let sum = whole_length in let first = a_length in let second = b_length in inr (omega (arith, narrow, sum, first, second, last_is))
    ]

    all_end : IsPhaseIdle phase.MaxData s3 ⊎ Narrow → IsPhaseIdle (phase.MaxStreams Bi) s3 ⊎ Narrow → IsPhaseIdle (phase.MaxStreams Uni) s3 ⊎ Narrow → AreLimitsIdle s3 ⊎ Narrow
    all_end (inl x) (inl y) (inl z) = inl (x, y, z)
    all_end (inl x) (inl y) (inr narrow) = inr narrow
    all_end (inl x) (inr narrow) z = inr narrow
    all_end (inr narrow) y z = inr narrow

    pub limits_written : AreLimitsWritten room s0 s3 o0 o3 f0 f3
    limits_written = record {
      part = whole;
      short = let sum = whole_length in let x = a_bytes in let y = b_bytes in let z = c_bytes in omega (arith, sum, x, y, z);
      no_single =
          let outer : single_count whole.frames ≡ single_count (a.part.frames ++ b.part.frames) + single_count c.part.frames = single_joined (a.part.frames ++ b.part.frames) c.part.frames in
          let inner = single_joined a.part.frames b.part.frames in
          let x = (all_limits phase.MaxData a.part.frames tt a.are_of).0 in
          let y = (all_limits (phase.MaxStreams Bi) b.part.frames tt b.are_of).0 in
          let z = (all_limits (phase.MaxStreams Uni) c.part.frames tt c.are_of).0 in
          omega (arith, outer, inner, x, y, z);
      no_sending = any_joined (a.part.frames ++ b.part.frames) c.part.frames
          (any_joined a.part.frames b.part.frames (all_limits phase.MaxData a.part.frames tt a.are_of).1 (all_limits (phase.MaxStreams Bi) b.part.frames tt b.are_of).1)
          (all_limits (phase.MaxStreams Uni) c.part.frames tt c.are_of).1;
      send_is =
          all_quiet (phase.MaxStreams Uni) last s2 s3 _ _ tt c.are_of c.part.written
          ∙ (all_quiet (phase.MaxStreams Bi) left s1 s2 _ _ tt b.are_of b.part.written ∙ all_quiet phase.MaxData room s0 s1 _ _ tt a.are_of a.part.written);
      done = all_end data_end bidi_end uni_end;
    }
