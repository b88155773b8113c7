-- Frames that come: an end keeps within the limits that these give, and that frames before them gave.
use Rattle.std.proofs.Common.{◌≡◌, ℕ, ◌≤◌, ◌^◌, ◌==◌, nat_lt, min, max, Bool, true, false, not, List, [], ◌∷◌, ◌++◌, length, Option, Some, None, if◌then◌else◌, refl, sym, ap, subst, ◌∙◌, arith, inl, inr}
use Rattle.std.proofs.lemmas.Bool.{false≢true, eq-eqb}
use Rattle.std.proofs.lemmas.Bool.Decides.{eqb_tells}
use Rattle.qh_spec.specs.declared.sides.Dir.{Dir}
use Rattle.qh_spec.specs.declared.sides.Dir.TheVariants.{Bi, Uni}
use Rattle.qh_spec.specs.Transcript.{Act, written}
use Rattle.qh_buffers.specs.SendBuffer.{taken_to}
use Rattle.qh_half.specs.Send.{PlainSend}
use Rattle.qh_halves.specs.declared.counts.StreamCounts.{StreamCounts}
use Rattle.qh_halves.specs.Counts.{is_own, is_bi, index_of, has_send, has_recv, with_max_opened}
use Rattle.qh_halves.specs.SendHalves.{PlainSendHalves, send_at, IsStoppedWith, HasLimit}
use Rattle.qh_streams.specs.declared.frames.StreamFrame.{StreamFrame}
use Rattle.qh_streams.specs.declared.frames.StreamFrame.TheVariants as coming
use Rattle.qh_streams.specs.Streams.{PlainStreams, Refusal, counts_of, with_counts, was_opened, is_two_way, counted_closed, first_limit, IsReceived, available_events, refused, or_refusal, id_refusal, refusal_of}
use Rattle.qh_streams.specs.Streams.IsReceived.{stream as stream_received, reset as reset_received, stop as stop_received, stopped_before, max_data as max_data_received, max_stream_data as max_stream_data_received, max_streams as max_streams_received}
use Rattle.qh_streams.proofs.StreamsSettled.{counts_alone, closed_alone}
use Rattle.qh_streams.proofs.StreamsTracked.{Goes, step_goes, step_or_absent}
use Rattle.qh_transcript.specs.Within.{KeepsWithin, greatest, stream_given, count_given, first_count}
use Rattle.qh_transcript.proofs.WithinKept.{KeepsTaken, KeepsCounts, KeepsShared, within, kept, changed, step_shared, or_absent_shared, taken_as, at_counts, peer_after}
use Rattle.qh_transcript.proofs.WithinFrames.{closed_set}
use Rattle.qh_base.specs.declared.stream_id.StreamId.{StreamId}
use Rattle.qh_transcript.proofs.WithinArrivals.{more, arrived}

-- a stream of this end's that it never opened is refused
own_known : (has own known within : Bool) (frame : ℕ) → (if not has then refused 5 frame else if own then (if known then None else refused 5 frame) else (if within then None else refused 4 frame)) ≡ None
    → known ≡ false → own ≡ false
own_known false own known within frame e closed = absurd (cc)
own_known true false known within frame e closed = refl
own_known true true true within frame e closed = absurd (false≢true (sym closed))
own_known true true false within frame e closed = absurd (cc)

not_refused : (s : PlainStreams) (id : ℕ) (has : Bool) (frame : ℕ) → id_refusal s id has frame ≡ None → was_opened s id ≡ false → is_own s.side id ≡ false
not_refused s id has frame e closed = own_known has (is_own s.side id) (was_opened s id) (nat_lt (index_of id) (counts_of s (is_bi id)).announced.value) frame e closed

first_none : (a b : Option Refusal) → or_refusal a b ≡ None → a ≡ None
first_none None b e = refl
first_none (Some r) b e = absurd (cc)

-- ---- frames that come

stopped_keeps : (code : ℕ) (h next : PlainSend) → IsStoppedWith code h next → KeepsTaken h next
stopped_keeps code h next e = taken_as h next (ap (λ (h : PlainSend). h.buffer) e.1) (ap (λ (h : PlainSend). h.max_data) e.1)

-- the counts where only halves, events and the streams that wait are others
alike : (mid new s : PlainStreams) → new ≡ s → s.side ≡ mid.side → s.peer ≡ mid.peer → s.bi ≡ mid.bi → s.uni ≡ mid.uni → KeepsCounts mid new
alike mid new s rest side peer bi uni = record {
  side = ap (λ (s : PlainStreams). s.side) rest ∙ side;
  peer = ap (λ (s : PlainStreams). s.peer) rest ∙ peer;
  opened = λ b. ap (λ (s : PlainStreams). (counts_of s b).opened) rest ∙ ap (λ (c : StreamCounts). c.opened) (count_is b);
  max_opened = λ b. ap (λ (s : PlainStreams). (counts_of s b).max_opened) rest ∙ ap (λ (c : StreamCounts). c.max_opened) (count_is b);
} where
  count_is : (b : Bool) → counts_of s b ≡ counts_of mid b
  count_is true = bi
  count_is false = uni

recv_closed : (mid new s : PlainStreams) (frames : List StreamFrame) (t : List Act) (id : ℕ) (live : Bool) → new ≡ counted_closed s id live → KeepsCounts mid s → s.send ≡ mid.send
    → KeepsWithin mid frames t → KeepsWithin new frames t
recv_closed mid new s frames t id live rest c send_is p = kept mid new frames t (closed_set mid new s id live rest c) (ap (λ (s : PlainStreams). s.send) rest ∙ (closed_alone s id live).send_is ∙ send_is) p

max_both : (a b limit : ℕ) → a ≤ b → max a limit ≤ max limit b
max_both a b limit h = omega (arith, h)

data_comes : (old : PlainStreams) (limit : ℕ) (frames : List StreamFrame) (t : List Act) → KeepsWithin old (coming.MaxData limit ∷ frames) t → KeepsWithin old frames t
    → KeepsWithin (record old { send = record old.send { max_data = max old.send.max_data limit } }) (coming.MaxData limit ∷ frames) t
data_comes old limit frames t q p = record {
  all_bytes = q.all_bytes;
  stream_bytes = q.stream_bytes;
  count = q.count;
  max_data = max_both _ _ limit p.max_data;
  taken = q.taken;
  credit = let was = p.credit in omega (arith, was);
  halves = q.halves;
  max_opened = q.max_opened;
}

stream_limit : (id limit bound was : ℕ) → was ≤ bound → max was limit ≤ max (if id == id then limit else 0) bound
stream_limit id limit bound was h = rw (eq-eqb id id refl) (max_both was bound limit h)

stream_data_comes : (old new : PlainStreams) (id : StreamId) (limit : ℕ) (frames : List StreamFrame) (t : List Act) → Goes (HasLimit limit) (send_at old.send) (send_at new.send) id.0
    → KeepsCounts old new → KeepsShared old.send new.send → KeepsWithin old frames t → KeepsWithin new (coming.MaxStreamData id limit ∷ frames) t
stream_data_comes old new id limit frames t goes c s p =
    let f = coming.MaxStreamData id limit in
    let q = more old f frames t p in
    within old new (f ∷ frames) t c.side c.peer s (λ k h is. elim (eqb_tells k id.0) [
      | inl same ↦
          let b = goes.here k h same.0 is in
          let was = p.halves id.0 b.half b.was in
          let taken_is = ap (λ (h : PlainSend). taken_to h.buffer) b.step in
          let limit_is = ap (λ (h : PlainSend). h.max_data) b.step in
          subst (λ (k : ℕ). (taken_to h.buffer ≡ length (written t k)) × (h.max_data ≤ greatest (stream_given k) (first_limit old k) (f ∷ frames))) (sym same.1)
          (taken_is ∙ was.0, rw limit_is (stream_limit id.0 limit _ b.half.max_data was.1))
      | inr apart ↦ q.halves k h (sym (goes.apart k apart.0) ∙ is)
    ]) (λ b. rw (c.opened b) (q.count b)) (λ b. rw (c.max_opened b) (q.max_opened b)) q

min_below : (a n m b : ℕ) → a ≤ b → max a (min n m) ≤ max n b
min_below a n m b h = omega (arith, h)

count_comes : (dir : Dir) (n m : ℕ) (s : PlainStreams) (frames : List StreamFrame) → (counts_of s (is_two_way dir)).max_opened ≤ greatest (count_given (is_two_way dir)) (first_count s (is_two_way dir)) frames
    → max (counts_of s (is_two_way dir)).max_opened (min n m) ≤ greatest (count_given (is_two_way dir)) (first_count s (is_two_way dir)) (coming.MaxStreams dir n ∷ frames)
count_comes Bi n m s frames h = min_below s.bi.max_opened n m _ h
count_comes Uni n m s frames h = min_below s.uni.max_opened n m _ h

counts_come : (old new : PlainStreams) (dir : Dir) (n : ℕ) (frames : List StreamFrame) (t : List Act)
    → new ≡ with_counts (record old { events = old.events ++ available_events (counts_of old (is_two_way dir)) n dir }) (is_two_way dir) (with_max_opened n (counts_of old (is_two_way dir)))
    → KeepsWithin old frames t → KeepsWithin new (coming.MaxStreams dir n ∷ frames) t
counts_come old new dir n frames t rest p =
    let f = coming.MaxStreams dir n in
    let q = more old f frames t p in
    let mid : PlainStreams = record old { events = old.events ++ available_events (counts_of old (is_two_way dir)) n dir } in
    let c = with_max_opened n (counts_of old (is_two_way dir)) in
    let at = peer_after new mid (is_two_way dir) c rest in
    let same : new.send ≡ old.send = ap (λ (s : PlainStreams). s.send) rest ∙ (counts_alone mid (is_two_way dir) c).send_is in
    let shared : KeepsShared old.send new.send = record { max_data = ap (λ (s : PlainSendHalves). s.max_data) same; data_sent = ap (λ (s : PlainSendHalves). s.data_sent) same } in
    within old new (f ∷ frames) t at.0 at.1 shared (λ k h is. q.halves k h (rw same at is))
    (λ b. subst (λ (s : PlainStreams). (counts_of s b).opened ≤ greatest (count_given b) (first_count old b) (f ∷ frames)) (sym rest)
    (at_counts (λ b c. c.opened ≤ greatest (count_given b) (first_count old b) (f ∷ frames)) mid (is_two_way dir) b c (q.count (is_two_way dir)) (q.count b)))
    (λ b. subst (λ (s : PlainStreams). (counts_of s b).max_opened ≤ greatest (count_given b) (first_count old b) (f ∷ frames)) (sym rest)
    (at_counts (λ b c. c.max_opened ≤ greatest (count_given b) (first_count old b) (f ∷ frames)) mid (is_two_way dir) b c (count_comes dir n (2 ^ 60) old frames (p.max_opened (is_two_way dir))) (q.max_opened b))) q

pub received : (old new : PlainStreams) (frames : List StreamFrame) (t : List Act) (f : StreamFrame) → refusal_of old f ≡ None → ((k : ℕ) → was_opened old k ≡ false → written t k ≡ [])
    → IsReceived old new f → KeepsWithin old frames t → KeepsWithin new (f ∷ frames) t
received old new frames t f taken none (stream_received id offset payload fin r) p =
    let mid = arrived old r.mid frames t id.0 (not_refused old id.0 (has_recv old.side id.0) 8 (first_none _ _ taken)) none r.arrived p in
    more new f frames t (recv_closed r.mid new _ frames t id.0 _ r.rest_is (record { side = refl; peer = refl; opened = λ b. refl; max_opened = λ b. refl }) refl mid)
received old new frames t f taken none (reset_received id code size r) p =
    let mid = arrived old r.mid frames t id.0 (not_refused old id.0 (has_recv old.side id.0) 4 (first_none _ _ taken)) none r.arrived p in
    more new f frames t (recv_closed r.mid new _ frames t id.0 _ r.rest_is (record { side = refl; peer = refl; opened = λ b. refl; max_opened = λ b. refl }) refl mid)
received old new frames t f taken none (stop_received mid id code came step e) p =
    more new f frames t (changed mid new frames t (step_goes step) (alike mid new _ e refl refl refl refl) (step_shared step) (stopped_keeps code)
    (arrived old mid frames t id.0 (not_refused old id.0 (has_send old.side id.0) 5 taken) none came p))
received old new frames t f taken none (stopped_before id code came was) p = more new f frames t (arrived old new frames t id.0 (not_refused old id.0 (has_send old.side id.0) 5 taken) none came p)
received old new frames t f taken none (max_data_received limit e) p = subst (λ (s : PlainStreams). KeepsWithin s (f ∷ frames) t) (sym e) (data_comes old limit frames t (more old f frames t p) p)
received old new frames t f taken none (max_stream_data_received mid id limit came step unblocked e) p =
    stream_data_comes mid new id limit frames t (step_or_absent step) (alike mid new _ e refl refl refl refl) (or_absent_shared step)
    (arrived old mid frames t id.0 (not_refused old id.0 (has_send old.side id.0) 17 taken) none came p)
received old new frames t f taken none (max_streams_received dir n e) p = counts_come old new dir n frames t e p
