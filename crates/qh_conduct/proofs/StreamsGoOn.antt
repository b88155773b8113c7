-- What a step of the streams leaves of what was announced: no limit and no count falls, and a half is that of a stream that was
-- opened.
use Rattle.std.proofs.Common.{◌≡◌, ◌⊎◌, ℕ, ◌-◌, ◌≤◌, ◌^◌, Bool, true, false, ◌&&◌, not, ◌++◌, Option, Some, is_some, refl, sym, ap, subst, ◌∙◌, arith, inl, inr}
use Rattle.std.specs.Prelude.{min}
use Rattle.std.proofs.lemmas.Bool.{cases_Bool, false≢true}
use Rattle.std.proofs.lemmas.Bool.Decides.{eqb_tells}
use Rattle.qh_conduct.specs.Announced.{IsReading, IsSending}
use Rattle.qh_half.specs.Recv.{PlainRecv, limit_of}
use Rattle.qh_half.specs.Send.{PlainSend}
use Rattle.qh_halves.specs.Counts.{AreNoFewer, is_bi, is_own}
use Rattle.qh_halves.specs.RecvHalves.{PlainRecvHalves, IsRecvAbsent, IsRecvStep, recv_at}
use Rattle.qh_halves.specs.SendHalves.{PlainSendHalves, IsAbsent, IsStep, send_at}
use Rattle.qh_halves.specs.declared.counts.StreamCounts.{StreamCounts}
use Rattle.qh_halves.specs.declared.limit.AnnouncedLimit.{AnnouncedLimit}
use Rattle.qh_streams.proofs.StreamsKept.{AreLater, AreSendKept, later_counts, later_same, send_same, send_settled, send_step, still_opened}
use Rattle.qh_streams.proofs.StreamsTracked.{recv_goes}
use Rattle.qh_streams.specs.Streams.{PlainStreams, IsAckedFrame, IsHandedOver, IsLostFrame, counted_closed, counts_of, finished_events, is_live, is_two_way, was_opened, with_counts}
use Rattle.qh_streams.specs.Streams.IsHandedOver.{stream as stream_handed, reset as reset_handed, stop as stop_handed, max_stream_data as max_stream_data_handed, max_data as max_data_handed, max_streams as max_streams_handed}
use Rattle.qh_streams.specs.Streams.IsLostFrame.{stream as stream_lost, reset as reset_lost, stop as stop_lost, max_stream_data as max_stream_data_lost, max_data as max_data_lost, max_streams as max_streams_lost}
use Rattle.qh_streams.specs.Streams.IsAckedFrame.{stream as stream_acked, reset as reset_acked, stop as stop_acked, max_stream_data as max_stream_data_acked, max_data as max_data_acked, max_streams as max_streams_acked}
use Rattle.qh_streams.specs.declared.frames.SentFrame.{SentFrame}

-- ---- the receiving halves

-- the half was there before, and its limit didn't fall
abbrev pub WasThere : Option PlainRecv → PlainRecv → Type 0
WasThere before half = (was : PlainRecv) × (before ≡ Some was) × (was.sent_max_stream_data ≤ half.sent_max_stream_data)

pub record AreRecvOn (old new : PlainRecvHalves) : Type 0 where
  pub shared : old.announced.value ≤ new.announced.value
  pub halves : (k : ℕ) (half : PlainRecv) → recv_at new k ≡ Some half → WasThere (recv_at old k) half
  pub window : new.stream_window ≡ old.stream_window

pub recv_same : (old new : PlainRecvHalves) → new.halves ≡ old.halves → old.announced.value ≤ new.announced.value → new.stream_window ≡ old.stream_window → AreRecvOn old new
recv_same old new same more window = record { shared = more; halves = λ k half is. (half, rw same at is, omega arith); window = window }

pub recv_step : {P : PlainRecv → PlainRecv → Type 0} {old new : PlainRecvHalves} {id n : ℕ} → IsRecvStep P old new id n
    → ((half next : PlainRecv) → P half next → half.sent_max_stream_data ≤ next.sent_max_stream_data) → AreRecvOn old new
recv_step {old = old} {new = new} {id = id} step more = record {
  shared = let same = ap (λ (r : PlainRecvHalves). r.announced.value) step.rest_is in omega (arith, same);
  halves = λ k half is. elim (eqb_tells k id) [
    | inl same ↦ let goes = (recv_goes step).here k half same.0 is in rw same.1 (goes.half, goes.was, more goes.half half goes.step)
    | inr apart ↦ (half, sym ((recv_goes step).apart k apart.0) ∙ is, omega arith)
  ];
  window = ap (λ (r : PlainRecvHalves). r.stream_window) step.rest_is;
}

pub recv_none : {old new : PlainRecvHalves} {id : ℕ} → IsRecvAbsent old new id → AreRecvOn old new
recv_none {old = old} {new = new} absent = recv_same old new (ap (λ (r : PlainRecvHalves). r.halves) absent.same) (let same = ap (λ (r : PlainRecvHalves). r.announced.value) absent.same in omega (arith, same))
    (ap (λ (r : PlainRecvHalves). r.stream_window) absent.same)

-- ---- the streams

-- the stream is new, and this end reads it; no less than the first limit was announced
pub record IsNewHalf (old new : PlainStreams) (k : ℕ) (half : PlainRecv) : Type 0 where
  pub before : was_opened old k ≡ false
  pub reads : IsReading new k
  pub limit : min old.recv.stream_window (2 ^ 62 - 1) ≤ half.sent_max_stream_data

-- Streams that were opened stay so; no limit and no count that was announced falls, and no count rises above 2^60; what has a half
-- had one, or is a stream that is new.
pub record GoOn (old new : PlainStreams) : Type 0 where
  pub later : AreLater old new
  pub shared : old.recv.announced.value ≤ new.recv.announced.value
  pub counts : (two_way : Bool) → (counts_of old two_way).announced.value ≤ (counts_of new two_way).announced.value
  pub bound : (two_way : Bool) → (counts_of old two_way).announced.value ≤ 2 ^ 60 → (counts_of new two_way).announced.value ≤ 2 ^ 60
  pub send : (k : ℕ) → is_some (send_at new.send k) ≡ true → (is_some (send_at old.send k) ≡ true) ⊎ IsSending new k
  pub recv : (k : ℕ) (half : PlainRecv) → recv_at new.recv k ≡ Some half → WasThere (recv_at old.recv k) half ⊎ IsNewHalf old new k half
  pub window : new.recv.stream_window ≡ old.recv.stream_window

pub parts_go : (old new : PlainStreams) → new.side ≡ old.side → new.bi ≡ old.bi → new.uni ≡ old.uni → AreSendKept old.send new.send → AreRecvOn old.recv new.recv → GoOn old new
parts_go old new side bi uni send recv = record {
  later = later_same old new side bi uni;
  shared = recv.shared;
  counts = λ two_way. rw (bi, uni) (omega arith);
  bound = λ two_way below. rw (bi, uni) below;
  send = λ k there. inl (send.among k there);
  recv = λ k half is. inl (recv.halves k half is);
  window = recv.window;
}

pub same_go : (s : PlainStreams) → GoOn s s
same_go s = parts_go s s refl refl refl (send_same refl) (recv_same s.recv s.recv refl (omega arith) refl)

pub closed_before : {old new : PlainStreams} → AreLater old new → (k : ℕ) → was_opened new k ≡ false → was_opened old k ≡ false
closed_before {old = old} later k closed = elim (cases_Bool (was_opened old k)) [
  | inl opened ↦ absurd (false≢true (sym closed ∙ still_opened later k opened))
  | inr never ↦ never
]

pub later_on : {first old new : PlainStreams} → AreLater first old → AreLater old new → AreLater first new
later_on before after = record {
  side_is = after.side_is ∙ before.side_is;
  counts = λ two_way.
      let a = before.counts two_way in
      let b = after.counts two_way in
      record { opened = let x = a.opened in let y = b.opened in omega (arith, x, y); arrived = let x = a.arrived in let y = b.arrived in omega (arith, x, y) };
}

pub sending_on : {old new : PlainStreams} → AreLater old new → (k : ℕ) → IsSending old k → IsSending new k
sending_on later k is = (still_opened later k is.0, rw (later.side_is) (is.1))

pub reading_on : {old new : PlainStreams} → AreLater old new → (k : ℕ) → IsReading old k → IsReading new k
reading_on later k is = (still_opened later k is.0, rw (later.side_is) (is.1))

pub go_on : (first old new : PlainStreams) → GoOn old new → GoOn first old → GoOn first new
go_on first old new after before = record {
  later = later_on before.later after.later;
  shared = let a = before.shared in let b = after.shared in omega (arith, a, b);
  counts = λ two_way. let a = before.counts two_way in let b = after.counts two_way in omega (arith, a, b);
  bound = λ two_way below. after.bound two_way (before.bound two_way below);
  send = λ k there. elim (after.send k there) [
    | inl was ↦ elim (before.send k was) [ inl first ↦ inl first | inr is ↦ inr (sending_on after.later k is) ]
    | inr is ↦ inr is
  ];
  recv = λ k half is. elim (after.recv k half is) [
    | inl was ↦ elim (before.recv k was.0 was.1) [
      | inl first ↦ let a = first.2 in let b = was.2 in inl (first.0, first.1, omega (arith, a, b))
      | inr is ↦ inr (record { before = is.before; reads = reading_on after.later k is.reads; limit = let a = is.limit in let b = was.2 in omega (arith, a, b) })
    ]
    | inr is ↦ inr (record {
      before = closed_before before.later k is.before;
      reads = is.reads;
      limit = subst (λ (w : ℕ). min w (2 ^ 62 - 1) ≤ half.sent_max_stream_data) before.window is.limit;
    })
  ];
  window = after.window ∙ before.window;
}

-- ---- one part of them

pub send_go : (old new : PlainStreams) → new ≡ record old { send = new.send } → AreSendKept old.send new.send → GoOn old new
send_go old new e send = parts_go old new (ap (λ (s : PlainStreams). s.side) e) (ap (λ (s : PlainStreams). s.bi) e) (ap (λ (s : PlainStreams). s.uni) e) send
    (let same = ap (λ (s : PlainStreams). s.recv) e in recv_same old.recv new.recv (ap (λ (r : PlainRecvHalves). r.halves) same) (let value = ap (λ (r : PlainRecvHalves). r.announced.value) same in omega (arith, value))
    (ap (λ (r : PlainRecvHalves). r.stream_window) same))

pub recv_go : (old new : PlainStreams) → new ≡ record old { recv = new.recv } → AreRecvOn old.recv new.recv → GoOn old new
recv_go old new e recv = parts_go old new (ap (λ (s : PlainStreams). s.side) e) (ap (λ (s : PlainStreams). s.bi) e) (ap (λ (s : PlainStreams). s.uni) e)
    (send_same (ap (λ (s : PlainStreams). s.send) e)) recv

-- other counts of one direction
pub counts_go : (s : PlainStreams) (two_way : Bool) (c : StreamCounts) → AreNoFewer (counts_of s two_way) c → (counts_of s two_way).announced.value ≤ c.announced.value
    → ((counts_of s two_way).announced.value ≤ 2 ^ 60 → c.announced.value ≤ 2 ^ 60) → GoOn s (with_counts s two_way c)
counts_go s true c later more below = record {
  later = later_counts s true c later;
  shared = omega arith;
  counts = counts_at;
  bound = bound_at;
  send = λ k there. inl there;
  recv = λ k half is. inl (half, is, omega arith);
  window = refl;
} where
  counts_at : (two_way : Bool) → (counts_of s two_way).announced.value ≤ (counts_of (with_counts s true c) two_way).announced.value
  counts_at true = more
  counts_at false = omega arith

  bound_at : (two_way : Bool) → (counts_of s two_way).announced.value ≤ 2 ^ 60 → (counts_of (with_counts s true c) two_way).announced.value ≤ 2 ^ 60
  bound_at true = below
  bound_at false = λ is. is
counts_go s false c later more below = record {
  later = later_counts s false c later;
  shared = omega arith;
  counts = counts_at;
  bound = bound_at;
  send = λ k there. inl there;
  recv = λ k half is. inl (half, is, omega arith);
  window = refl;
} where
  counts_at : (two_way : Bool) → (counts_of s two_way).announced.value ≤ (counts_of (with_counts s false c) two_way).announced.value
  counts_at true = omega arith
  counts_at false = more

  bound_at : (two_way : Bool) → (counts_of s two_way).announced.value ≤ 2 ^ 60 → (counts_of (with_counts s false c) two_way).announced.value ≤ 2 ^ 60
  bound_at true = λ is. is
  bound_at false = below

-- the same but for what counts as closed, accepted or permitted
pub same_counts_go : (s : PlainStreams) (two_way : Bool) (c : StreamCounts) → c.opened ≡ (counts_of s two_way).opened → c.arrived ≡ (counts_of s two_way).arrived
    → c.announced.value ≡ (counts_of s two_way).announced.value → GoOn s (with_counts s two_way c)
same_counts_go s two_way c opened arrived announced =
    counts_go s two_way c (record { opened = omega (arith, opened); arrived = omega (arith, arrived) }) (omega (arith, announced)) (λ below. omega (arith, announced, below))

pub closed_go : (s : PlainStreams) (id : ℕ) (was_live : Bool) → GoOn s (counted_closed s id was_live)
closed_go s id was_live = elim (cases_Bool (not (is_own s.side id) && (was_live && not (is_live s id)))) [
  | inl gone ↦ rw gone (same_counts_go s (is_bi id) _ refl refl refl)
  | inr there ↦ rw there (same_go s)
]

-- a step of a receiving half, and a stream less
pub recv_closed : (old new s : PlainStreams) (id : ℕ) (was_live : Bool) → new ≡ counted_closed s id was_live → GoOn old s → GoOn old new
recv_closed old new s id was_live e go = subst (λ (x : PlainStreams). GoOn old x) (sym e) (go_on old s (counted_closed s id was_live) (closed_go s id was_live) go)

pub step_or_absent : {P : PlainSend → PlainSend → Type 0} {old new : PlainSendHalves} {id n : ℕ} → IsStep P old new id n ⊎ IsAbsent old new id → AreSendKept old new
step_or_absent (inl step) = send_step step
step_or_absent (inr absent) = send_same absent.same

pub recv_or_absent : {P : PlainRecv → PlainRecv → Type 0} {old new : PlainRecvHalves} {id n : ℕ} → IsRecvStep P old new id n ⊎ IsRecvAbsent old new id
    → ((half next : PlainRecv) → P half next → half.sent_max_stream_data ≤ next.sent_max_stream_data) → AreRecvOn old new
recv_or_absent (inl step) more = recv_step step more
recv_or_absent (inr absent) more = recv_none absent

-- the half has the same limit
pub same_limit : (half next : PlainRecv) → next.sent_max_stream_data ≡ half.sent_max_stream_data → half.sent_max_stream_data ≤ next.sent_max_stream_data
same_limit half next e = omega (arith, e)

-- ---- frames that are lost, acknowledged or handed over

-- the limit that all streams share
shared_go : (old new : PlainStreams) (a : AnnouncedLimit) → new ≡ record old { recv = record old.recv { announced = a } } → old.recv.announced.value ≤ a.value → GoOn old new
shared_go old new a e more = subst (λ (s : PlainStreams). GoOn old s) (sym e) (parts_go old (record old { recv = record old.recv { announced = a } }) refl refl refl (send_same refl) (recv_same old.recv (record old.recv { announced = a }) refl more refl))

one_count_go : (old new : PlainStreams) (two_way : Bool) (a : AnnouncedLimit) → new ≡ with_counts old two_way (record (counts_of old two_way) { announced = a }) → (counts_of old two_way).announced.value ≤ a.value
    → ((counts_of old two_way).announced.value ≤ 2 ^ 60 → a.value ≤ 2 ^ 60) → GoOn old new
one_count_go old new two_way a e more below =
    subst (λ (s : PlainStreams). GoOn old s) (sym e) (counts_go old two_way (record (counts_of old two_way) { announced = a }) (record { opened = omega arith; arrived = omega arith }) more below)

pub lost_goes : (old new : PlainStreams) (f : SentFrame) → IsLostFrame old new f → GoOn old new
lost_goes old new f (stream_lost id piece step rest) = send_go old new rest (step_or_absent step)
lost_goes old new f (reset_lost id reset step rest) = send_go old new rest (step_or_absent step)
lost_goes old new f (stop_lost id code step rest) = recv_go old new rest (recv_or_absent step (λ half next e. same_limit half next (ap (λ (r : PlainRecv). r.sent_max_stream_data) e)))
lost_goes old new f (max_data_lost limit rest) = shared_go old new _ rest (omega arith)
lost_goes old new f (max_stream_data_lost id limit step rest) = recv_go old new rest (recv_or_absent step (λ half next e. same_limit half next (ap (λ (r : PlainRecv). r.sent_max_stream_data) e)))
lost_goes old new f (max_streams_lost dir count rest) = one_count_go old new (is_two_way dir) _ rest (omega arith) (λ below. below)

pub acked_goes : (old new : PlainStreams) (f : SentFrame) → IsAckedFrame old new f → GoOn old new
acked_goes old new f (stream_acked id piece finished step rest) =
    let mid : PlainStreams = record old { send = new.send; events = old.events ++ finished_events finished id } in
    recv_closed old new mid id.0 (is_live old id.0) rest (parts_go old mid refl refl refl (send_settled step) (recv_same old.recv old.recv refl (omega arith) refl))
acked_goes old new f (reset_acked id reset gone step rest) =
    let mid : PlainStreams = record old { send = new.send } in
    recv_closed old new mid id.0 (is_live old id.0) rest (parts_go old mid refl refl refl (send_settled step) (recv_same old.recv old.recv refl (omega arith) refl))
acked_goes old new f (stop_acked id code step rest) = recv_go old new rest (recv_or_absent step (λ half next e. same_limit half next (ap (λ (r : PlainRecv). r.sent_max_stream_data) e)))
acked_goes old new f (max_data_acked limit rest) = shared_go old new _ rest (omega arith)
acked_goes old new f (max_stream_data_acked id limit step rest) = recv_go old new rest (recv_or_absent step (λ half next e. same_limit half next (ap (λ (r : PlainRecv). r.sent_max_stream_data) e)))
acked_goes old new f (max_streams_acked dir count rest) = one_count_go old new (is_two_way dir) _ rest (omega arith) (λ below. below)

-- a limit that a half says is no less than the one before
limit_rises : (half next : PlainRecv) (window limit : ℕ) → limit ≡ limit_of half window → next.sent_max_stream_data ≡ limit → half.sent_max_stream_data ≤ next.sent_max_stream_data
limit_rises half next window limit is e = omega (arith, is, e)

pub handed_goes : (old new : PlainStreams) (room : ℕ) (f : SentFrame) → IsHandedOver old new room f → GoOn old new
handed_goes old new room f (stream_handed id piece next rest) = send_go old new rest (send_step next.step)
handed_goes old new room f (reset_handed id reset next rest) = send_go old new rest (send_step next.step)
handed_goes old new room f (stop_handed id code step rest) = recv_go old new rest (recv_step step (λ half next gives. same_limit half next (ap (λ (r : PlainRecv). r.sent_max_stream_data) gives.2)))
handed_goes old new room f (max_stream_data_handed id limit step rest) =
    recv_go old new rest (recv_step step (λ half next gives. limit_rises half next old.recv.stream_window limit gives.0 (ap (λ (r : PlainRecv). r.sent_max_stream_data) gives.2)))
handed_goes old new room f (max_data_handed limit is due rest) = shared_go old new (record { value = limit; mark = _ }) rest (omega (arith, is))
handed_goes old new room f (max_streams_handed dir count is due rest) =
    one_count_go old new (is_two_way dir) (record { value = count; mark = _ }) rest (omega (arith, is)) (λ below. omega (arith, is, below))
