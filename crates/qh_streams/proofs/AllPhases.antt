-- All phases: no kind of frame keeps another from being sent.
use Rattle.std.proofs.Common.{◌≡◌, ◌⊎◌, ℕ, zero, suc, ◌+◌, ◌*◌, ◌-◌, ◌<◌, ◌≤◌, ◌^◌, append_assoc, ◌==◌, Bool, true, false, ◌||◌, List, [], ◌∷◌, ◌++◌, length, drop, Option, Some, None, Result, Ok, Err, refl, sym, ap, ◌∙◌, arith, inl, inr, subst}
use Rattle.std.specs.List.{list_any}
use Rattle.std.specs.Prelude.{OnErr}
use Rattle.std.proofs.lemmas.Bool.{both_ways}
use Rattle.std.proofs.lemmas.List.{append-nil, length-append}
use Rattle.std.proofs.lemmas.List.Folds.{list_any-append}
use Rattle.qh_frame.proofs.FramesWritten.{varint_one, varint_short}
use Rattle.qh_frame.specs.FrameBytes.{fields_bytes, frame_bytes}
use Rattle.qh_half.specs.Recv.{PlainRecv, is_frame_due, is_limit_due, is_stop_due}
use Rattle.qh_half.specs.Send.{PlainSend, Waits}
use Rattle.qh_halves.specs.Counts.{count_limit}
use Rattle.qh_halves.specs.Limit.{is_due}
use Rattle.qh_halves.specs.RecvHalves.{NoneIsDue, PlainRecvHalves, data_limit, recv_at}
use Rattle.qh_halves.specs.SendHalves.{NoneWaits, PlainSendHalves, send_at}
use Rattle.qh_spec.specs.Lists.{In}
use Rattle.qh_spec.specs.QuicFrames.{Number, Num, Part, QuicFrame, Value, shape_of}
use Rattle.qh_spec.specs.Varint.{varint}
use Rattle.qh_spec.specs.declared.sides.Dir.{Dir}
use Rattle.qh_spec.specs.declared.sides.Dir.TheVariants.{Bi, Uni}
use Rattle.qh_streams.proofs.LimitsTold.{count_of, count_quiet, data_of, data_quiet, handed_count, handed_data, is_told, stays_quiet}
use Rattle.qh_streams.proofs.StreamsInTurn.{come_waits, comes}
use Rattle.qh_streams.proofs.StreamsWritten.{all_out_more, frame_some, kept_all_out, written_more}
use Rattle.qh_streams.specs.Streams.{AreAllOut, AreHanded, AreLimitsIdle, AreLimitsWritten, AreOf, AreShared, AreWritten, IsControlIdle, IsCutShort, IsHandedOver, IsIdle, IsOf, IsOneWritten, IsOut, IsPartWritten, IsPhaseIdle, IsPhaseWritten, IsWrittenBy, KeepsOut, PlainStreams, counts_of, max_frame_header, is_sending, is_single, is_two_way, single_count, singles_before, written_frame}
use Rattle.qh_streams.specs.Streams.AreHanded.{none as none_handed, more as more_handed}
use Rattle.qh_streams.specs.Streams.AreWritten.{none as none_written, more as more_written}
use Rattle.qh_streams.specs.Streams.IsHandedOver.{stream as stream_handed, reset as reset_handed, stop as stop_handed, max_stream_data as max_stream_data_handed, max_data as max_data_handed, max_streams as max_streams_handed}
use Rattle.qh_streams.specs.Streams.IsOf.{max_data as of_data, max_streams as of_count, stop as of_stop, max_stream_data as of_limit, stream as of_stream, reset as of_reset}
use Rattle.qh_streams.specs.Turns.{WaitsAt}
use Rattle.qh_streams.specs.declared.frames.SentFrame.{SentFrame}
use Rattle.qh_streams.specs.declared.frames.SentFrame.TheVariants as sent
use Rattle.qh_streams.specs.declared.streams.writing.Phase.{Phase}
use Rattle.qh_streams.specs.declared.streams.writing.Phase.TheVariants as phase
use Rattle.qh_streams.proofs.PhasesWritten.{IsShort, all_quiet, all_short, all_single, any_joined, before_joined, none_before, none_sending, none_due_none_written, count_frames, data_frames, frames_bytes, idle_still, none_changed, none_without_room, part_joined, part_length, part_out, single_frames, single_joined, some_sending}

module _ (room second third last : ℕ) (s0 s1 s2 s3 s4 : PlainStreams) (o0 o1 o2 o3 o4 : List ℕ) (f0 f1 f2 f3 f4 : List SentFrame)
    (l : AreLimitsWritten room s0 s1 o0 o1 f0 f1)
    (second_is : second ≡ room - (length o1 - length o0)) (keeps_a : KeepsOut s1 s2) (a : IsPhaseWritten phase.SingleStreams 32 second s1 s2 o1 o2 f1 f2)
    (third_is : third ≡ room - (length o2 - length o0)) (keeps_b : KeepsOut s2 s3) (b : IsPhaseWritten phase.Sending third third s2 s3 o2 o3 f2 f3)
    (last_is : last ≡ room - (length o3 - length o0)) (keeps_c : KeepsOut s3 s4) (c : IsPhaseWritten phase.SingleStreams last last s3 s4 o3 o4 f3 f4) where
  abbrev pub to_two : IsPartWritten room s0 s2 o0 o2 f0 f2
  to_two = part_joined l.part second_is keeps_a a.part

  abbrev pub to_three : IsPartWritten room s0 s3 o0 o3 f0 f3
  to_three = part_joined to_two third_is keeps_b b.part

  abbrev pub to_four : IsPartWritten room s0 s4 o0 o4 f0 f4
  to_four = part_joined to_three last_is keeps_c c.part

  -- lengths
  l_length : length o1 ≡ length o0 + length l.part.bytes
  l_length = part_length l.part

  a_length : length o2 ≡ length o1 + length a.part.bytes
  a_length = part_length a.part

  b_length : length o3 ≡ length o2 + length b.part.bytes
  b_length = part_length b.part

  c_length : length o4 ≡ length o3 + length c.part.bytes
  c_length = part_length c.part

  a_bytes : length a.part.bytes ≤ 544
  a_bytes =
      let all = all_short phase.SingleStreams 17 single_frames second s1 s2 a.part.frames a.part.bytes a.part.written a.are_of in
      let few = a.few in
      omega (arith, all, few)

  abbrev pub Narrow : Type 0
  Narrow = room < length o4 - length o0 + max_frame_header + 1

  -- what isn't due after a phase isn't at the end
  limits_end : AreLimitsIdle s1 → AreLimitsIdle s4
  limits_end idle = (still phase.MaxData idle.0, still (phase.MaxStreams Bi) idle.1, still (phase.MaxStreams Uni) idle.2)
    where
      still : (p : Phase) → IsPhaseIdle p s1 → IsPhaseIdle p s4
      still p quiet = idle_still p _ s3 s4 _ _ c.part.written (idle_still p _ s2 s3 _ _ b.part.written (idle_still p _ s1 s2 _ _ a.part.written quiet))

  limits_or_narrow : AreLimitsIdle s4 ⊎ Narrow
  limits_or_narrow = elim l.done [
    | inl idle ↦ inl (limits_end idle)
    | inr narrow ↦ let x = l_length in let y = a_length in let z = b_length in let w = c_length in inr (omega (arith, narrow, x, y, z, w))
  ]

  sending_or_narrow : NoneWaits s4.send ⊎ Narrow
  sending_or_narrow = elim b.done [
    | inl idle ↦ inl (idle_still phase.Sending _ s3 s4 _ _ c.part.written idle)
    | inr (inl narrow) ↦ let x = l_length in let y = a_length in let z = b_length in let w = c_length in inr (omega (arith, narrow, third_is, x, y, z, w))
    | inr (inr all) ↦
        let x = l_length in let y = a_length in let z = b_length in let w = c_length in
        let each = frames_bytes third s2 s3 b.part.frames b.part.bytes b.part.written in
        inr (omega (arith, all, each, third_is, x, y, z, w))
  ]

  singles_or_narrow : NoneIsDue s4.recv ⊎ Narrow
  singles_or_narrow = elim c.done [
    | inl idle ↦ inl idle
    | inr (inl narrow) ↦ let x = l_length in let y = a_length in let z = b_length in let w = c_length in inr (omega (arith, narrow, last_is, x, y, z, w))
    | inr (inr all) ↦
        let x = l_length in let y = a_length in let z = b_length in let w = c_length in
        let each = frames_bytes last s3 s4 c.part.frames c.part.bytes c.part.written in
        inr (omega (arith, all, each, last_is, x, y, z, w))
  ]

  ends : AreLimitsIdle s4 ⊎ Narrow → NoneWaits s4.send ⊎ Narrow → NoneIsDue s4.recv ⊎ Narrow → IsIdle s4 ⊎ Narrow
  ends (inl limits) (inl sending) (inl singles) = inl (record { none_is_due = singles; max_data = limits.0; max_bidi = limits.1; max_uni = limits.2 }, sending)
  ends (inl limits) (inl sending) (inr narrow) = inr narrow
  ends (inl limits) (inr narrow) singles = inr narrow
  ends (inr narrow) sending singles = inr narrow

  -- nothing is left, or no room
  pub full : IsIdle s4 ⊎ Narrow
  full = ends limits_or_narrow sending_or_narrow singles_or_narrow

  pub all_out : KeepsOut s0 s4 → AreAllOut s0 f0 → AreAllOut s4 f4
  all_out keeps before = part_out to_four keeps before

  -- with 600 bytes
  limits_told : 600 ≤ room → AreLimitsIdle s4
  limits_told wide = elim l.done [
    | inl idle ↦ limits_end idle
    | inr narrow ↦ let short = l.short in absurd (omega (arith, narrow, short, wide))
  ]

  singles_told : 600 ≤ room → (16 ≤ single_count to_four.frames) ⊎ NoneIsDue s4.recv
  singles_told wide = elim a.done [
    | inl idle ↦ inr (idle_still phase.SingleStreams _ s3 s4 _ _ c.part.written (idle_still phase.SingleStreams _ s2 s3 _ _ b.part.written idle))
    | inr (inl narrow) ↦ let short = l.short in let first = l_length in let bytes = a_bytes in absurd (omega (arith, narrow, short, first, bytes, second_is, wide))
    | inr (inr all) ↦
        let outer : single_count to_four.frames ≡ single_count ((l.part.frames ++ a.part.frames) ++ b.part.frames) + single_count c.part.frames = single_joined ((l.part.frames ++ a.part.frames) ++ b.part.frames) c.part.frames in
        let middle = single_joined (l.part.frames ++ a.part.frames) b.part.frames in
        let inner = single_joined l.part.frames a.part.frames in
        let each = all_single a.part.frames a.are_of in
        inl (omega (arith, outer, middle, inner, each, all))
  ]

  -- the sending halves are as they were until the STREAM frames
  send_same : s2.send ≡ s0.send
  send_same = all_quiet phase.SingleStreams second s1 s2 _ _ tt a.are_of a.part.written ∙ l.send_is

  any_behind : list_any is_sending b.part.frames ≡ true → list_any is_sending to_four.frames ≡ true
  any_behind some =
      list_any-append is_sending ((l.part.frames ++ a.part.frames) ++ b.part.frames) c.part.frames
      ∙ ap (λ (x : Bool). x || list_any is_sending c.part.frames)
      (list_any-append is_sending (l.part.frames ++ a.part.frames) b.part.frames ∙ ap (λ (x : Bool). list_any is_sending (l.part.frames ++ a.part.frames) || x) some ∙ or_true (list_any is_sending (l.part.frames ++ a.part.frames)))
    where
      or_true : (x : Bool) → (x || true) ≡ true
      or_true true = refl
      or_true false = refl

  none_sent : 600 ≤ room → b.part.frames ≡ [] → NoneWaits s0.send
  none_sent wide none =
      let same = none_changed third s2 s3 b.part.frames b.part.bytes b.part.written none in
      let short = l.short in let first = l_length in let second_length = a_length in let bytes = a_bytes in let no_bytes = same.1 in
      elim b.done [
        | inl idle ↦ subst (λ (s : PlainSendHalves). NoneWaits s) (ap (λ (s : PlainStreams). s.send) same.0 ∙ send_same) idle
        | inr (inl narrow) ↦ absurd (omega (arith, narrow, no_bytes, short, first, second_length, bytes, third_is, wide))
        | inr (inr all) ↦ let count = ap length none in absurd (omega (arith, all, count, short, first, second_length, bytes, third_is, wide))
      ]

  sending_told : 600 ≤ room → NoneWaits s0.send ⊎ (list_any is_sending to_four.frames ≡ true)
  sending_told wide = elim (some_sending b.part.frames b.are_of) [
    | inl none ↦ inl (none_sent wide none)
    | inr some ↦ inr (any_behind some)
  ]

  -- behind 32 frames of single streams at most
  no_streams : b.part.frames ≡ [] → list_any is_sending to_four.frames ≡ false
  no_streams none =
      any_joined ((l.part.frames ++ a.part.frames) ++ b.part.frames) c.part.frames
      (any_joined (l.part.frames ++ a.part.frames) b.part.frames (any_joined l.part.frames a.part.frames l.no_sending (none_sending a.part.frames a.are_of)) (ap (list_any is_sending) none))
      (none_sending c.part.frames c.are_of)

  first_sends : (fs more : List SentFrame) → AreOf phase.Sending fs → (fs ≡ []) ⊎ (singles_before (fs ++ more) ≡ 0)
  first_sends [] more of = inl refl
  first_sends (f ∷ fs) more of = inr (none_before f (fs ++ more) of.0)

  few_told : list_any is_sending to_four.frames ≡ true → singles_before to_four.frames ≤ 32
  few_told some = elim (first_sends b.part.frames c.part.frames b.are_of) [
    | inl none ↦ absurd (both_ways (list_any is_sending to_four.frames) (no_streams none) some)
    | inr first ↦
        let front = before_joined (l.part.frames ++ a.part.frames) (b.part.frames ++ c.part.frames) in
        let same : singles_before to_four.frames ≡ singles_before ((l.part.frames ++ a.part.frames) ++ (b.part.frames ++ c.part.frames)) = ap singles_before (append_assoc (l.part.frames ++ a.part.frames) b.part.frames c.part.frames) in
        let sum = single_joined l.part.frames a.part.frames in
        let limits = l.no_single in
        let each = all_single a.part.frames a.are_of in
        let few = a.few in
        omega (arith, front, same, sum, limits, each, few, first)
  ]

  shared : 600 ≤ room → AreShared s0 s4 to_four.frames
  shared wide = let idle = limits_told wide in record {
    max_data = λ due. is_told data_of sent.MaxData handed_data room s0 s4 to_four.frames to_four.bytes to_four.written due idle.0;
    max_streams = λ dir due. is_told (count_of dir) (sent.MaxStreams dir) (handed_count dir) room s0 s4 to_four.frames to_four.bytes to_four.written due (of_dir dir idle);
    single = singles_told wide;
    sending = sending_told wide;
    few_before = few_told;
  }
    where
      of_dir : (dir : Dir) → AreLimitsIdle s4 → IsPhaseIdle (phase.MaxStreams dir) s4
      of_dir Bi idle = idle.1
      of_dir Uni idle = idle.2

  -- what goes first is due no more, or there is no room for what follows
  limits_before : ((a.part.frames ≡ []) × (b.part.frames ≡ []) × (c.part.frames ≡ [])) ⊎ AreLimitsIdle s4
  limits_before = elim l.done [
    | inl idle ↦ inr (limits_end idle)
    | inr narrow ↦
        let x = l_length in let y = a_length in let z = b_length in
        inl (
          none_without_room a (omega (arith, narrow, second_is, x)),
          none_without_room b (omega (arith, narrow, third_is, x, y)),
          none_without_room c (omega (arith, narrow, last_is, x, y, z)),
        )
  ]

  singles_before_sending : (length a.part.frames ≡ 32) ⊎ ((NoneIsDue s4.recv × (c.part.frames ≡ [])) ⊎ ((b.part.frames ≡ []) × (c.part.frames ≡ [])))
  singles_before_sending = elim a.done [
    | inl idle ↦
        let then : NoneIsDue s3.recv = idle_still phase.SingleStreams _ s2 s3 _ _ b.part.written idle in
        inr (inl (idle_still phase.SingleStreams _ s3 s4 _ _ c.part.written then, none_due_none_written last s3 s4 c.part.frames c.part.bytes c.part.written c.are_of then))
    | inr (inl narrow) ↦
        let x = l_length in let y = a_length in let z = b_length in
        inr (inr (none_without_room b (omega (arith, narrow, second_is, third_is, x, y)), none_without_room c (omega (arith, narrow, second_is, last_is, x, y, z))))
    | inr (inr all) ↦ inl all
  ]

  sending_before_rest : (c.part.frames ≡ []) ⊎ NoneWaits s4.send
  sending_before_rest = elim b.done [
    | inl idle ↦ inr (idle_still phase.Sending _ s3 s4 _ _ c.part.written idle)
    | inr (inl narrow) ↦ let x = l_length in let y = a_length in let z = b_length in inl (none_without_room c (omega (arith, narrow, third_is, last_is, x, y, z)))
    | inr (inr all) ↦
        let x = l_length in let y = a_length in let z = b_length in
        let each = frames_bytes third s2 s3 b.part.frames b.part.bytes b.part.written in
        inl (none_without_room c (omega (arith, all, each, third_is, last_is, x, y, z)))
  ]

  pub phases_written : IsWrittenBy room s0 s4 o0 o4 f0 f4
  phases_written = record {
    frames = to_four.frames;
    bytes = to_four.bytes;
    written = to_four.written;
    out_is = to_four.out_is;
    sent_is = to_four.sent_is;
    shared = shared;
    in_order = record {
      limits = l.part.frames;
      first = a.part.frames;
      sending = b.part.frames;
      last = c.part.frames;
      are = refl;
      no_single = l.no_single;
      no_sending = l.no_sending;
      first_are = a.are_of;
      few = a.few;
      sending_are = b.are_of;
      last_are = c.are_of;
      limits_first = limits_before;
      singles_first = singles_before_sending;
      sending_first = sending_before_rest;
    };
  }
