-- A limit that all streams share is as it was after a frame was handed over, or it was told by that frame and isn't due any more.
use Rattle.std.proofs.Common.{◌≡◌, ◌⊎◌, ℕ, ◌+◌, ◌-◌, ◌<◌, ◌≤◌, ◌^◌, ◌==◌, Bool, true, false, ◌||◌, List, [], ◌∷◌, refl, sym, ap, subst, ◌∙◌, inl, inr, arith}
use Rattle.std.specs.Prelude.{min, max, nat_lt}
use Rattle.std.proofs.lemmas.Bool.{both_ways, le-ltb}
use Rattle.qh_buffers.specs.declared.send_buffer.Mark.TheVariants.{Sent}
use Rattle.qh_half.specs.Recv.{PlainRecv, counted}
use Rattle.qh_halves.specs.Counts.{count_limit}
use Rattle.qh_halves.specs.Limit.{is_due}
use Rattle.qh_halves.specs.RecvHalves.{IsRecvStep, PlainRecvHalves, credited_after, data_limit}
use Rattle.qh_halves.specs.declared.limit.AnnouncedLimit.{AnnouncedLimit}
use Rattle.qh_spec.specs.Lists.{In}
use Rattle.qh_spec.specs.declared.sides.Dir.{Dir}
use Rattle.qh_spec.specs.declared.sides.Dir.TheVariants.{Bi, Uni}
use Rattle.qh_streams.specs.Streams.{PlainStreams, AreWritten, IsHandedOver, counts_of, is_two_way, with_counts}
use Rattle.qh_streams.specs.Streams.AreWritten.{none as none_written, more as more_written}
use Rattle.qh_streams.specs.Streams.IsHandedOver.{stream as stream_handed, reset as reset_handed, stop as stop_handed, max_stream_data as max_stream_data_handed, max_data as max_data_handed, max_streams as max_streams_handed}
use Rattle.qh_streams.specs.declared.frames.SentFrame.{SentFrame}
use Rattle.qh_streams.specs.declared.frames.SentFrame.TheVariants as sent

-- what was announced of a limit, and the limit
abbrev pub Limit : Type 0
Limit = AnnouncedLimit × ℕ

abbrev pub data_of : PlainStreams → Limit
data_of s = (s.recv.announced, data_limit s.recv)

abbrev pub count_of : Dir → PlainStreams → Limit
count_of dir s = ((counts_of s (is_two_way dir)).announced, count_limit (counts_of s (is_two_way dir)))

-- it is as it was, or this frame told it
abbrev pub Told : (f told : SentFrame) → Limit → Limit → Type 0
Told f told old new = (new ≡ old) ⊎ ((f ≡ told) × (is_due new.0 new.1 ≡ false))

credit_kept : (r s : PlainRecvHalves) (id : ℕ) (P : PlainRecv → PlainRecv → Type 0) → ((half next : PlainRecv) → P half next → counted next ≡ counted half) → IsRecvStep P r s id 0
    → (s.announced ≡ r.announced) × (data_limit s ≡ data_limit r)
credit_kept r s id P same step =
    let kept = same step.half step.next step.step in
    let told : s.announced ≡ r.announced = ap (λ (x : PlainRecvHalves). x.announced) step.rest_is in
    let window : s.receive_window ≡ r.receive_window = ap (λ (x : PlainRecvHalves). x.receive_window) step.rest_is in
    let credited : s.credited ≡ credited_after r.credited step.half step.next = ap (λ (x : PlainRecvHalves). x.credited) step.rest_is in
    let value = ap (λ (a : AnnouncedLimit). a.value) told in
    (told, omega (arith, kept, window, credited, value))

both_same : (first now : Limit) → (now.0 ≡ first.0) × (now.1 ≡ first.1) → now ≡ first
both_same first now same = rw (same.0, same.1) refl

-- ---- one frame

-- a limit that was just told isn't due
pub data_quiet : (old new : PlainStreams) (limit : ℕ) → limit ≡ data_limit old.recv → new ≡ record old { recv = record old.recv { announced = record { value = limit; mark = Sent } } }
    → is_due new.recv.announced (data_limit new.recv) ≡ false
data_quiet old new limit is rest =
    let low : max (min (2 ^ 62 - 1) (old.recv.credited + old.recv.receive_window)) limit ≤ limit = omega (arith, is) in
    rw rest (le-ltb limit (max (min (2 ^ 62 - 1) (old.recv.credited + old.recv.receive_window)) limit) low)

pub count_quiet : (dir : Dir) (old new : PlainStreams) (n : ℕ) → n ≡ count_limit (counts_of old (is_two_way dir))
    → new ≡ with_counts old (is_two_way dir) (record (counts_of old (is_two_way dir)) { announced = record { value = n; mark = Sent } })
    → is_due (counts_of new (is_two_way dir)).announced (count_limit (counts_of new (is_two_way dir))) ≡ false
count_quiet Bi old new n is rest =
    let low : max (min (2 ^ 60) (old.bi.closed + old.bi.max_concurrent)) n ≤ n = omega (arith, is) in
    rw rest (le-ltb n (max (min (2 ^ 60) (old.bi.closed + old.bi.max_concurrent)) n) low)
count_quiet Uni old new n is rest =
    let low : max (min (2 ^ 60) (old.uni.closed + old.uni.max_concurrent)) n ≤ n = omega (arith, is) in
    rw rest (le-ltb n (max (min (2 ^ 60) (old.uni.closed + old.uni.max_concurrent)) n) low)

pub handed_data : (old new : PlainStreams) (room : ℕ) (f : SentFrame) → IsHandedOver old new room f → Told f (sent.MaxData (data_limit old.recv)) (data_of old) (data_of new)
handed_data old new room f (stream_handed id piece next rest) = inl (ap data_of rest)
handed_data old new room f (reset_handed id reset next rest) = inl (ap data_of rest)
handed_data old new room f (stop_handed id code step rest) =
    inl (both_same (data_of old) (data_of new) (credit_kept old.recv new.recv id.0 _ (λ half next gives. ap counted gives.2) step))
handed_data old new room f (max_stream_data_handed id limit step rest) =
    inl (both_same (data_of old) (data_of new) (credit_kept old.recv new.recv id.0 _ (λ half next gives. ap counted gives.2) step))
handed_data old new room f (max_data_handed limit is due rest) = inr (ap sent.MaxData is, data_quiet old new limit is rest)
handed_data old new room f (max_streams_handed Bi n is due rest) = inl (ap data_of rest)
handed_data old new room f (max_streams_handed Uni n is due rest) = inl (ap data_of rest)

pub handed_count : (dir : Dir) (old new : PlainStreams) (room : ℕ) (f : SentFrame) → IsHandedOver old new room f
    → Told f (sent.MaxStreams dir (count_limit (counts_of old (is_two_way dir)))) (count_of dir old) (count_of dir new)
handed_count dir old new room f (stream_handed id piece next rest) = inl (ap (count_of dir) rest)
handed_count dir old new room f (reset_handed id reset next rest) = inl (ap (count_of dir) rest)
handed_count dir old new room f (stop_handed id code step rest) = inl (ap (count_of dir) rest)
handed_count dir old new room f (max_stream_data_handed id limit step rest) = inl (ap (count_of dir) rest)
handed_count dir old new room f (max_data_handed limit is due rest) = inl (ap (count_of dir) rest)
handed_count Bi old new room f (max_streams_handed Bi n is due rest) = inr (ap (sent.MaxStreams Bi) is, count_quiet Bi old new n is rest)
handed_count Uni old new room f (max_streams_handed Bi n is due rest) = inl (ap (count_of Uni) rest)
handed_count Bi old new room f (max_streams_handed Uni n is due rest) = inl (ap (count_of Bi) rest)
handed_count Uni old new room f (max_streams_handed Uni n is due rest) = inr (ap (sent.MaxStreams Uni) is, count_quiet Uni old new n is rest)

-- ---- frame after frame

module _ (limit : PlainStreams → Limit) (frame_of : ℕ → SentFrame)
    (handed : (old new : PlainStreams) (room : ℕ) (f : SentFrame) → IsHandedOver old new room f → Told f (frame_of (limit old).1) (limit old) (limit new)) where
  abbrev Due : PlainStreams → Bool
  Due s = is_due (limit s).0 (limit s).1

  quiet_after : (old new : PlainStreams) (f : SentFrame) → Told f (frame_of (limit old).1) (limit old) (limit new) → Due old ≡ false → Due new ≡ false
  quiet_after old new f (inl same) quiet = subst (λ (l : Limit). is_due l.0 l.1 ≡ false) (sym same) quiet
  quiet_after old new f (inr told) quiet = told.1

  -- one that isn't due stays so
  pub stays_quiet : (room : ℕ) (old new : PlainStreams) (fs : List SentFrame) (bytes : List ℕ) → AreWritten room old new fs bytes → Due old ≡ false → Due new ≡ false
  stays_quiet room old new fs bytes (none_written _ _) quiet = quiet
  stays_quiet room old new fs bytes (more_written _ _ mid _ f rest more first fits back others) quiet =
      stays_quiet _ mid new rest more others (quiet_after old mid f (handed old mid room f first) quiet)

  told_by : (old mid : PlainStreams) (f : SentFrame) (rest : List SentFrame) → Told f (frame_of (limit old).1) (limit old) (limit mid) → Due old ≡ true
      → (Due mid ≡ true → In (frame_of (limit mid).1) rest) → In (frame_of (limit old).1) (f ∷ rest)
  told_by old mid f rest (inl same) due later =
      inr (subst (λ (l : Limit). In (frame_of l.1) rest) same (later (subst (λ (l : Limit). is_due l.0 l.1 ≡ true) (sym same) due)))
  told_by old mid f rest (inr told) due later = inl told.0

  -- one that was due and isn't any more was told
  pub is_told : (room : ℕ) (old new : PlainStreams) (fs : List SentFrame) (bytes : List ℕ) → AreWritten room old new fs bytes → Due old ≡ true → Due new ≡ false
      → In (frame_of (limit old).1) fs
  is_told room old new fs bytes (none_written _ _) due quiet = absurd (both_ways (Due old) quiet due)
  is_told room old new fs bytes (more_written _ _ mid _ f rest more first fits back others) due quiet =
      told_by old mid f rest (handed old mid room f first) due (λ still. is_told _ mid new rest more others still quiet)
