-- A MAX frame is written only where its limit rose, or where the frame with the last one was lost.
use Rattle.std.proofs.Common.{◌≡◌, ◌⊎◌, ℕ, ◌+◌, ◌-◌, ◌<◌, ◌≤◌, ◌^◌, ◌==◌, Bool, true, false, ◌&&◌, ◌||◌, List, Option, Some, refl, sym, ap, subst, ◌∙◌, inl, inr, arith}
use Rattle.std.specs.Prelude.{min, max, nat_lt}
use Rattle.std.proofs.lemmas.Bool.{and_right, both_ways, cases_Bool, eqb-true, le-ltb, ltb-true}
use Rattle.qh_buffers.specs.declared.send_buffer.Mark.TheVariants.{Sent}
use Rattle.qh_core.specs.Progress.{Rises, RisesOnStream}
use Rattle.qh_half.specs.Recv.{PlainRecv, bytes_read, counted, is_limit_due, is_queued_mark, limit_of, wants_more}
use Rattle.qh_half.specs.declared.recv.StopFrame.{StopFrame}
use Rattle.qh_halves.specs.Counts.{count_limit}
use Rattle.qh_halves.specs.Limit.{is_due}
use Rattle.qh_halves.specs.RecvHalves.{IsRecvStep, PlainRecvHalves, credited_after, data_limit, recv_at, recv_half_in}
use Rattle.qh_halves.specs.declared.limit.AnnouncedLimit.{AnnouncedLimit}
use Rattle.qh_spec.specs.Lists.{In}
use Rattle.qh_spec.specs.declared.sides.Dir.{Dir}
use Rattle.qh_spec.specs.declared.sides.Dir.TheVariants.{Bi, Uni}
use Rattle.qh_streams.proofs.LimitsTold.{Limit, Told, count_of, data_of, handed_count, handed_data}
use Rattle.qh_streams.proofs.StreamsTracked.{recv_goes}
use Rattle.qh_streams.specs.Streams.{PlainStreams, AreWritten, IsHandedOver, counts_of}
use Rattle.qh_streams.specs.Streams.AreWritten.{none as none_written, more as more_written}
use Rattle.qh_streams.specs.Streams.IsHandedOver.{stream as stream_handed, reset as reset_handed, stop as stop_handed, max_stream_data as max_stream_data_handed, max_data as max_data_handed, max_streams as max_streams_handed}
use Rattle.qh_streams.specs.declared.frames.SentFrame.{SentFrame}

-- it is as it was, or was announced meanwhile
abbrev Stays : Limit → Limit → Type 0
Stays old new = (new ≡ old) ⊎ (is_due new.0 new.1 ≡ false)

stays_on : (first old new : Limit) → Stays first old → Stays old new → Stays first new
stays_on first old new before (inr told) = inr told
stays_on first old new (inl was) (inl is) = inl (is ∙ was)
stays_on first old new (inr told) (inl is) = inr (subst (λ (l : Limit). is_due l.0 l.1 ≡ false) (sym is) told)

-- what is due still was due at first
due_still : (first now : Limit) (limit : ℕ) → Stays first now → limit ≡ now.1 → is_due now.0 limit ≡ true → (limit ≡ first.1) × (is_due first.0 limit ≡ true)
due_still first now limit (inl same) is due =
    (is ∙ ap (λ (l : Limit). l.1) same, subst (λ (l : Limit). is_due l.0 limit ≡ true) same due)
due_still first now limit (inr told) is due = absurd (both_ways (is_due now.0 limit) (ap (is_due now.0) is ∙ told) due)

-- ---- the limits that all streams share

told_stays : (f told : SentFrame) (old new : Limit) → Told f told old new → Stays old new
told_stays f told old new (inl same) = inl same
told_stays f told old new (inr is) = inr is.1

handed_stays : (old new : PlainStreams) (room : ℕ) (f : SentFrame) → IsHandedOver old new room f → Stays (data_of old) (data_of new) × ((dir : Dir) → Stays (count_of dir old) (count_of dir new))
handed_stays old new room f handed = (
  told_stays f _ (data_of old) (data_of new) (handed_data old new room f handed),
  λ dir. told_stays f _ (count_of dir old) (count_of dir new) (handed_count dir old new room f handed),
)

-- ---- the limits of single streams

-- the half is as it was but for its STOP_SENDING frame, or its limit was announced meanwhile
abbrev HalfStays : (window : ℕ) → Option PlainRecv → PlainRecv → Type 0
HalfStays window first half = ((was : PlainRecv) × (first ≡ Some was) × (half ≡ record was { stop_frame = half.stop_frame })) ⊎ (is_limit_due half window ≡ false)

abbrev StreamsStay : (first s : PlainStreams) → Type 0
StreamsStay first s = (id : ℕ) (half : PlainRecv) → recv_at s.recv id ≡ Some half → HalfStays first.recv.stream_window (recv_at first.recv id) half

same_halves : (first old new : PlainStreams) → new.recv.halves ≡ old.recv.halves → StreamsStay first old → StreamsStay first new
same_halves first old new same stay id half is = stay id half (sym (ap (λ (h : List (ℕ × PlainRecv)). recv_half_in h id) same) ∙ is)

one_goes : (first old new : PlainStreams) (id : ℕ) {P : PlainRecv → PlainRecv → Type 0} → IsRecvStep P old.recv new.recv id 0
    → ((half next : PlainRecv) → recv_at old.recv id ≡ Some half → P half next → HalfStays first.recv.stream_window (recv_at first.recv id) next) → StreamsStay first old → StreamsStay first new
one_goes first old new id step here stay k half is = elim (cases_Bool (k == id)) [
  | inl same ↦
      let goes = (recv_goes step).here k half same is in
      subst (λ (n : ℕ). HalfStays first.recv.stream_window (recv_at first.recv n) half) (sym (eqb-true k id same)) (here goes.half half goes.was goes.step)
  | inr apart ↦ stay k half (sym ((recv_goes step).apart k apart) ∙ is)
]

-- a STOP_SENDING frame leaves a half's limit
stop_stays : (window : ℕ) (first : Option PlainRecv) (half next : PlainRecv) (frame : Option StopFrame) → next ≡ record half { stop_frame = frame } → HalfStays window first half → HalfStays window first next
stop_stays window first half next frame e (inl (was, is, same)) = inl (
  was,
  is,
  e ∙ (ap (λ (r : PlainRecv). record r { stop_frame = frame }) same ∙ ap (λ (f : Option StopFrame). record was { stop_frame = f }) (sym (ap (λ (r : PlainRecv). r.stop_frame) e))),
)
stop_stays window first half next frame e (inr told) = inr (ap (λ (r : PlainRecv). is_limit_due r window) e ∙ told)

-- a limit that was announced is due no more
told_now : (window limit : ℕ) (half next : PlainRecv) → limit ≡ limit_of half window → next ≡ record half { sent_max_stream_data = limit; limit_mark = Sent } → is_limit_due next window ≡ false
told_now window limit half next is e =
    let low : max (min (2 ^ 62 - 1) (bytes_read half + window)) limit ≤ limit = omega (arith, is) in
    ap (λ (r : PlainRecv). is_limit_due r window) e ∙ and_right (wants_more half) _ (le-ltb limit (max (min (2 ^ 62 - 1) (bytes_read half + window)) limit) low)

handed_streams : (first old new : PlainStreams) (room : ℕ) (f : SentFrame) → IsHandedOver old new room f → old.recv.stream_window ≡ first.recv.stream_window → StreamsStay first old → StreamsStay first new
handed_streams first old new room f (stream_handed id piece next rest) window stay = same_halves first old new (ap (λ (s : PlainStreams). s.recv.halves) rest) stay
handed_streams first old new room f (reset_handed id reset next rest) window stay = same_halves first old new (ap (λ (s : PlainStreams). s.recv.halves) rest) stay
handed_streams first old new room f (stop_handed id code step rest) window stay =
    one_goes first old new id.0 step (λ half next was gives. stop_stays first.recv.stream_window (recv_at first.recv id.0) half next _ gives.2 (stay id.0 half was)) stay
handed_streams first old new room f (max_stream_data_handed id limit step rest) window stay =
    one_goes first old new id.0 step (λ half next was gives. inr (told_now first.recv.stream_window limit half next (gives.0 ∙ ap (limit_of half) window) gives.2)) stay
handed_streams first old new room f (max_data_handed limit is due rest) window stay = same_halves first old new (ap (λ (s : PlainStreams). s.recv.halves) rest) stay
handed_streams first old new room f (max_streams_handed Bi n is due rest) window stay = same_halves first old new (ap (λ (s : PlainStreams). s.recv.halves) rest) stay
handed_streams first old new room f (max_streams_handed Uni n is due rest) window stay = same_halves first old new (ap (λ (s : PlainStreams). s.recv.halves) rest) stay

handed_window : (old new : PlainStreams) (room : ℕ) (f : SentFrame) → IsHandedOver old new room f → new.recv.stream_window ≡ old.recv.stream_window
handed_window old new room f (stream_handed id piece next rest) = ap (λ (s : PlainStreams). s.recv.stream_window) rest
handed_window old new room f (reset_handed id reset next rest) = ap (λ (s : PlainStreams). s.recv.stream_window) rest
handed_window old new room f (stop_handed id code step rest) = ap (λ (r : PlainRecvHalves). r.stream_window) step.rest_is
handed_window old new room f (max_stream_data_handed id limit step rest) = ap (λ (r : PlainRecvHalves). r.stream_window) step.rest_is
handed_window old new room f (max_data_handed limit is due rest) = ap (λ (s : PlainStreams). s.recv.stream_window) rest
handed_window old new room f (max_streams_handed Bi n is due rest) = ap (λ (s : PlainStreams). s.recv.stream_window) rest
handed_window old new room f (max_streams_handed Uni n is due rest) = ap (λ (s : PlainStreams). s.recv.stream_window) rest

-- what makes a limit due
due_parts : (wanted lost above : Bool) → (wanted && (lost || above)) ≡ true → (wanted ≡ true) × ((lost ≡ true) ⊎ (above ≡ true))
due_parts true true above e = (refl, inl refl)
due_parts true false above e = (refl, inr e)
due_parts false lost above e = absurd (both_ways false refl e)

-- above what was announced it is what was read, and the window
exact_above : (half : PlainRecv) (window limit : ℕ) → limit ≡ limit_of half window → nat_lt half.sent_max_stream_data (limit_of half window) ≡ true
    → (half.sent_max_stream_data < limit) × (limit ≡ min (2 ^ 62 - 1) (bytes_read half + window))
exact_above half window limit is above =
    let greater = ltb-true half.sent_max_stream_data (limit_of half window) above in
    (omega (arith, is, greater), omega (arith, is, greater))

stream_rises : (s : PlainStreams) (id limit : ℕ) (half : PlainRecv) → recv_at s.recv id ≡ Some half → limit ≡ limit_of half s.recv.stream_window → is_limit_due half s.recv.stream_window ≡ true → RisesOnStream s id limit
stream_rises s id limit half there is due =
    let parts = due_parts (wants_more half) (is_queued_mark half.limit_mark) (nat_lt half.sent_max_stream_data (limit_of half s.recv.stream_window)) due in
    record {
      half = half;
      half_is = there;
      limit_is = is;
      wanted = parts.0;
      rises = elim parts.1 [ inl lost ↦ inl lost | inr above ↦ inr (exact_above half s.recv.stream_window limit is above) ];
    }

-- what is due of a half still was due at first
stream_still : (first : PlainStreams) (id limit : ℕ) (half : PlainRecv) → HalfStays first.recv.stream_window (recv_at first.recv id) half
    → limit ≡ limit_of half first.recv.stream_window → is_limit_due half first.recv.stream_window ≡ true → RisesOnStream first id limit
stream_still first id limit half (inl (was, there, same)) is due =
    let window = first.recv.stream_window in
    stream_rises first id limit was there (is ∙ ap (λ (r : PlainRecv). limit_of r window) same) (sym (ap (λ (r : PlainRecv). is_limit_due r window) same) ∙ due)
stream_still first id limit half (inr told) is due = absurd (both_ways (is_limit_due half first.recv.stream_window) told due)

-- ---- frames one after another

-- the limits of these streams are as they were at first, or were announced meanwhile
record LimitsStay (first s : PlainStreams) : Type 0 where
  shared : Stays (data_of first) (data_of s)
  counts : (dir : Dir) → Stays (count_of dir first) (count_of dir s)
  window : s.recv.stream_window ≡ first.recv.stream_window
  streams : StreamsStay first s

one_rises : (first old new : PlainStreams) (room : ℕ) (f : SentFrame) → LimitsStay first old → IsHandedOver old new room f → Rises first f
one_rises first old new room f stay (stream_handed id piece next rest) = tt
one_rises first old new room f stay (reset_handed id reset next rest) = tt
one_rises first old new room f stay (stop_handed id code step rest) = tt
one_rises first old new room f stay (max_stream_data_handed id limit step rest) =
    let gives = step.step in
    stream_still first id.0 limit step.half (stay.streams id.0 step.half step.was) (gives.0 ∙ ap (limit_of step.half) stay.window) (sym (ap (is_limit_due step.half) stay.window) ∙ gives.1)
one_rises first old new room f stay (max_data_handed limit is due rest) = due_still (data_of first) (data_of old) limit stay.shared is due
one_rises first old new room f stay (max_streams_handed Bi n is due rest) = due_still (count_of Bi first) (count_of Bi old) n (stay.counts Bi) is due
one_rises first old new room f stay (max_streams_handed Uni n is due rest) = due_still (count_of Uni first) (count_of Uni old) n (stay.counts Uni) is due

rise_behind : (first : PlainStreams) (room : ℕ) (old new : PlainStreams) (frames : List SentFrame) (bytes : List ℕ) → AreWritten room old new frames bytes → LimitsStay first old
    → (f : SentFrame) → In f frames → Rises first f
rise_behind first room old new frames bytes (none_written _ _) stay f among = absurd among
rise_behind first room old new frames bytes (more_written _ _ mid _ g gs rest handed fits back others) stay f (inl is) =
    subst (λ (x : SentFrame). Rises first x) is (one_rises first old mid room g stay handed)
rise_behind first room old new frames bytes (more_written _ _ mid _ g gs rest handed fits back others) stay f (inr behind) =
    rise_behind first _ mid new gs rest others (record {
      shared = stays_on (data_of first) (data_of old) (data_of mid) stay.shared (handed_stays old mid room g handed).0;
      counts = λ dir. stays_on (count_of dir first) (count_of dir old) (count_of dir mid) (stay.counts dir) ((handed_stays old mid room g handed).1 dir);
      window = handed_window old mid room g handed ∙ stay.window;
      streams = handed_streams first old mid room g handed stay.window stay.streams;
    }) f behind

pub limits_rise : (room : ℕ) (old new : PlainStreams) (frames : List SentFrame) (bytes : List ℕ) → AreWritten room old new frames bytes → (f : SentFrame) → In f frames → Rises old f
limits_rise room old new frames bytes written = rise_behind old room old new frames bytes written (record { shared = inl refl; counts = λ b. inl refl; window = refl; streams = λ id half is. inl (half, is, refl) })
