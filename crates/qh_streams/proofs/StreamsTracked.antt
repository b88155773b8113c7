-- What counts as sent stands in a frame that is out: each kind of thing that can be owed has a name, and a step is told by
-- which of them count as sent after it.
use Rattle.std.proofs.Common.{◌≡◌, ◌⊎◌, ℕ, ◌<◌, ◌≤◌, ◌==◌, nat_lt, Bool, true, false, ◌&&◌, List, [], ◌∷◌, Option, Some, None, if◌then◌else◌, refl, sym, ap, ◌∙◌, arith, inl, inr}
use Rattle.std.specs.Option.{option_map}
use Rattle.std.proofs.lemmas.Bool.{false≢true, eq-eqb, eqb-true, lt-ltb, le-ltb, cases_lt, cases_Bool}
use Rattle.std.proofs.lemmas.Bool.Decides.{eqb_tells}
use Rattle.qh_spec.specs.Lists.{In}
use Rattle.qh_spec.specs.declared.sides.Dir.{Dir}
use Rattle.qh_spec.specs.declared.sides.Dir.TheVariants.{Bi, Uni}
use Rattle.qh_buffers.specs.SendBuffer.{lost_mark, PlainSendBuffer, mark_at, is_between, requeued, IsHandedOut, IsQueuedAgain, IsAcknowledged}
use Rattle.qh_buffers.specs.declared.send_buffer.Mark.{Mark}
use Rattle.qh_buffers.specs.declared.send_buffer.Mark.TheVariants.{Sent, Queued, Acked}
use Rattle.qh_streams.specs.declared.frames.SentFrame.{SentFrame}
use Rattle.qh_streams.specs.declared.frames.SentFrame.TheVariants as sent
use Rattle.qh_half.specs.declared.recv.StopFrame.{StopFrame}
use Rattle.qh_half.specs.declared.send.SendState.{SendState}
use Rattle.qh_half.specs.declared.send.SendState.TheVariants.{Ready, DataSent, ResetSent}
use Rattle.qh_half.specs.declared.send.Outgoing.{Outgoing}
use Rattle.qh_half.specs.declared.send.ResetFrame.{ResetFrame}
use Rattle.qh_halves.specs.declared.counts.StreamCounts.{StreamCounts}
use Rattle.qh_halves.specs.declared.limit.AnnouncedLimit.{AnnouncedLimit}
use Rattle.qh_base.specs.declared.stream_id.StreamId.{StreamId}
use Rattle.qh_halves.specs.Limit.{acked_at, lost_at}
use Rattle.qh_half.specs.Send.{PlainSend, is_reset, with_end_sent, with_end_acked, with_end_lost, with_reset_mark, with_reset_lost, IsPieceOut, IsEndOut, IsPieceAcked, IsPieceQueued}
use Rattle.qh_halves.specs.SendHalves.{PlainSendHalves, send_at, IsStep, IsLast, IsAbsent, IsSettledBy, absent, on, done, GivesPiece, GivesReset, IsAcked, IsLost, IsResetAcked, IsResetLost}
use Rattle.qh_half.specs.Recv.{PlainRecv, is_done, acked_stop, lost_stop}
use Rattle.qh_halves.specs.RecvHalves.{PlainRecvHalves, recv_at, unless_done, IsRecvStep, IsRecvAbsent}
use Rattle.qh_streams.specs.Streams.{PlainStreams, counts_of, with_counts, is_two_way, counted_closed}
use Rattle.qh_streams.specs.Tracked.{OneIs, HasByte, HasEnd, HasReset, HasStop, HasStreamLimit, HasDataLimit, HasCount, AreTracked, AreAmong}

-- ---- what can be owed

pub data OfHalf : Type 0 where
  byte : (n : ℕ) → OfHalf
  end : OfHalf
  reset : OfHalf

pub data OfReceiver : Type 0 where
  stop : OfReceiver
  stream_limit : (limit : ℕ) → OfReceiver

pub data Owed : Type 0 where
  sender : (id : ℕ) → OfHalf → Owed
  receiver : (id : ℕ) → OfReceiver → Owed
  data_limit : (limit : ℕ) → Owed
  count : Dir → (n : ℕ) → Owed

abbrev pub HasOfHalf : (id : ℕ) → OfHalf → SentFrame → Type 0
HasOfHalf id (byte n) = HasByte id n
HasOfHalf id end = HasEnd id
HasOfHalf id reset = HasReset id

abbrev pub HasOfReceiver : (id : ℕ) → OfReceiver → SentFrame → Type 0
HasOfReceiver id stop = HasStop id
HasOfReceiver id (stream_limit limit) = HasStreamLimit id limit

abbrev pub Has : Owed → SentFrame → Type 0
Has (sender id o) = HasOfHalf id o
Has (receiver id o) = HasOfReceiver id o
Has (data_limit limit) = HasDataLimit limit
Has (count dir n) = HasCount dir n

-- ---- what counts as sent

abbrev pub is_end_sent : SendState → Bool
is_end_sent (DataSent Sent) = true
is_end_sent _ = false

abbrev pub is_reset_sent : SendState → Bool
is_reset_sent (ResetSent code Sent) = true
is_reset_sent _ = false

abbrev pub is_sent_mark : Mark → Bool
is_sent_mark Sent = true
is_sent_mark _ = false

abbrev pub is_stop_sent : Option StopFrame → Bool
is_stop_sent None = false
is_stop_sent (Some f) = is_sent_mark f.mark

abbrev pub half_sent : PlainSend → OfHalf → Type 0
half_sent h (byte n) = (is_reset h.state ≡ false) × (mark_at h.buffer n ≡ Some Sent)
half_sent h end = is_end_sent h.state ≡ true
half_sent h reset = is_reset_sent h.state ≡ true

abbrev pub receiver_sent : PlainRecv → OfReceiver → Type 0
receiver_sent r stop = is_stop_sent r.stop_frame ≡ true
receiver_sent r (stream_limit limit) = (r.limit_mark ≡ Sent) × (r.sent_max_stream_data ≡ limit)

-- the half of a stream has it
pub record SentBy {H T : Type 0} (S : H → T → Type 0) (at : ℕ → Option H) (id : ℕ) (o : T) : Type 0 where
  pub half : H
  pub is : at id ≡ Some half
  pub sent : S half o

abbrev pub IsSentAt : AnnouncedLimit → ℕ → Type 0
IsSentAt a limit = (a.mark ≡ Sent) × (a.value ≡ limit)

abbrev pub IsSent : PlainStreams → Owed → Type 0
IsSent s (sender id o) = SentBy half_sent (send_at s.send) id o
IsSent s (receiver id o) = SentBy receiver_sent (recv_at s.recv) id o
IsSent s (data_limit limit) = IsSentAt s.recv.announced limit
IsSent s (count dir n) = IsSentAt (counts_of s (is_two_way dir)).announced n

pub end_sent : (state : SendState) → is_end_sent state ≡ true → state ≡ DataSent Sent
end_sent (DataSent Sent) e = refl
end_sent (DataSent Queued) e = absurd (false≢true e)
end_sent (DataSent Acked) e = absurd (false≢true e)
end_sent Ready e = absurd (false≢true e)
end_sent (ResetSent code mark) e = absurd (false≢true e)

pub reset_sent : (state : SendState) (X : Type 0) → is_reset_sent state ≡ true → ((code : ℕ) → state ≡ ResetSent code Sent → X) → X
reset_sent (ResetSent code Sent) X e k = k code refl
reset_sent (ResetSent code Queued) X e k = absurd (false≢true e)
reset_sent (ResetSent code Acked) X e k = absurd (false≢true e)
reset_sent Ready X e k = absurd (false≢true e)
reset_sent (DataSent mark) X e k = absurd (false≢true e)

pub sent_mark : (m : Mark) → is_sent_mark m ≡ true → m ≡ Sent
sent_mark Sent e = refl
sent_mark Queued e = absurd (false≢true e)
sent_mark Acked e = absurd (false≢true e)

pub stop_sent : (f : Option StopFrame) (X : Type 0) → is_stop_sent f ≡ true → ((code : ℕ) → f ≡ Some (record { code = code; mark = Sent }) → X) → X
stop_sent None X e k = absurd (false≢true e)
stop_sent (Some f) X e k = k f.code (ap (λ (m : Mark). Some (record { code = f.code; mark = m })) (sent_mark f.mark e))

-- being tracked, told by what is owed
pub stands : {s : PlainStreams} {fs : List SentFrame} → AreTracked s fs → (o : Owed) → IsSent s o → OneIs (Has o) fs
stands t (sender id (byte n)) w = t.bytes id n w.half w.is w.sent.0 w.sent.1
stands t (sender id end) w = t.ends id w.half w.is (end_sent w.half.state w.sent)
stands {fs = fs} t (sender id reset) w = reset_sent w.half.state (OneIs (HasReset id) fs) w.sent (λ code e. t.resets id code w.half w.is e)
stands {fs = fs} t (receiver id stop) w = stop_sent w.half.stop_frame (OneIs (HasStop id) fs) w.sent (λ code e. t.stops id code w.half w.is e)
stands t (receiver id (stream_limit limit)) w = rw w.sent.1 at (t.stream_limits id w.half w.is w.sent.0)
stands t (data_limit limit) w = rw w.1 at (t.data_limit w.0)
stands t (count dir n) w = rw w.1 at (t.counts dir w.0)

pub tracked : {s : PlainStreams} {fs : List SentFrame} → ((o : Owed) → IsSent s o → OneIs (Has o) fs) → AreTracked s fs
tracked {s = s} all = record {
  bytes = λ id n h is live mark. all (sender id (byte n)) (record { half = h; is = is; sent = (live, mark) });
  ends = λ id h is e. all (sender id end) (record { half = h; is = is; sent = ap is_end_sent e });
  resets = λ id code h is e. all (sender id reset) (record { half = h; is = is; sent = ap is_reset_sent e });
  stops = λ id code r is e. all (receiver id stop) (record { half = r; is = is; sent = ap is_stop_sent e });
  stream_limits = λ id r is mark. all (receiver id (stream_limit r.sent_max_stream_data)) (record { half = r; is = is; sent = (mark, refl) });
  data_limit = λ mark. all (data_limit s.recv.announced.value) (mark, refl);
  counts = λ dir mark. all (count dir (counts_of s (is_two_way dir)).announced.value) (mark, refl);
}

-- ---- the three ways of a step: what is sent after it was so before, or is in a frame; and it isn't in a frame that is gone

abbrev pub Keeps : PlainStreams → PlainStreams → Type 0
Keeps old new = (o : Owed) → IsSent new o → IsSent old o

abbrev pub Adds : PlainStreams → PlainStreams → SentFrame → Type 0
Adds old new f = (o : Owed) → IsSent new o → IsSent old o ⊎ Has o f

abbrev pub Drops : PlainStreams → PlainStreams → SentFrame → Type 0
Drops old new f = (o : Owed) → IsSent new o → IsSent old o × (Has o f → ⊥)

pub keeps_tracked : {old new : PlainStreams} {fs : List SentFrame} → Keeps old new → AreTracked old fs → AreTracked new fs
keeps_tracked keeps t = tracked (λ o w. stands t o (keeps o w))

pub adds_tracked : {old new : PlainStreams} {f : SentFrame} {fs : List SentFrame} → Adds old new f → AreTracked old fs → AreTracked new (f ∷ fs)
adds_tracked adds t = tracked (λ o w. elim (adds o w) [
  | inl before ↦ inr (stands t o before)
  | inr has ↦ inl has
])

pub drops_again : {old new : PlainStreams} {f : SentFrame} {fs : List SentFrame} → Drops old new f → AreTracked old fs → AreTracked new fs
drops_again drops t = tracked (λ o w. stands t o (drops o w).0)

pub drops_tracked : {old new : PlainStreams} {f : SentFrame} {fs : List SentFrame} → Drops old new f → AreTracked old (f ∷ fs) → AreTracked new fs
drops_tracked drops t = tracked (λ o w.
    let went = drops o w in
    elim (stands t o went.0) [
      | inl has ↦ absurd (went.1 has)
      | inr rest ↦ rest
    ])

-- ---- the order of frames doesn't matter

one_in : (P : SentFrame → Type 0) (f : SentFrame) (gs : List SentFrame) → P f → In f gs → OneIs P gs
one_in P f [] p there = there
one_in P f (g ∷ gs) p (inl same) = inl (rw same p)
one_in P f (g ∷ gs) p (inr there) = inr (one_in P f gs p there)

in_frames : (P : SentFrame → Type 0) (fs gs : List SentFrame) → ((f : SentFrame) → In f fs → In f gs) → OneIs P fs → OneIs P gs
in_frames P [] gs among one = absurd one
in_frames P (f ∷ fs) gs among (inl p) = one_in P f gs p (among f (inl refl))
in_frames P (f ∷ fs) gs among (inr one) = in_frames P fs gs (λ g there. among g (inr there)) one

pub any_order : {s : PlainStreams} {fs gs : List SentFrame} → AreAmong fs gs → AreTracked s fs → AreTracked s gs
any_order {fs = fs} {gs = gs} among t = tracked (λ o w. in_frames (Has o) fs gs among (stands t o w))

-- ---- what a frame speaks of

abbrev pub at_sender : (id : ℕ) → Owed → Bool
at_sender id (sender k o) = k == id
at_sender id _ = false

abbrev pub at_receiver : (id : ℕ) → Owed → Bool
at_receiver id (receiver k o) = k == id
at_receiver id _ = false

abbrev pub at_limit : Owed → Bool
at_limit (data_limit limit) = true
at_limit _ = false

abbrev pub same_dir : Dir → Dir → Bool
same_dir Bi Bi = true
same_dir Uni Uni = true
same_dir _ _ = false

abbrev pub at_count : Dir → Owed → Bool
at_count d (count dir n) = same_dir dir d
at_count d _ = false

abbrev pub about : SentFrame → Owed → Bool
about (sent.Stream s piece) = at_sender s.0
about (sent.ResetStream s frame) = at_sender s.0
about (sent.StopSending s code) = at_receiver s.0
about (sent.MaxData value) = at_limit
about (sent.MaxStreamData s value) = at_receiver s.0
about (sent.MaxStreams d value) = at_count d

pub same_self : (d dir : Dir) → d ≡ dir → same_dir dir d ≡ true
same_self Bi dir e = rw (← e) refl
same_self Uni dir e = rw (← e) refl

pub has_about : (f : SentFrame) (o : Owed) → Has o f → about f o ≡ true
has_about (sent.Stream s piece) (sender id (byte n)) h = eq-eqb id s.0 (sym h.0)
has_about (sent.Stream s piece) (sender id end) h = eq-eqb id s.0 (sym h.0)
has_about (sent.Stream s piece) (sender id reset) h = absurd h
has_about (sent.Stream s piece) (receiver id stop) h = absurd h
has_about (sent.Stream s piece) (receiver id (stream_limit l)) h = absurd h
has_about (sent.Stream s piece) (data_limit l) h = absurd h
has_about (sent.Stream s piece) (count dir n) h = absurd h
has_about (sent.ResetStream s frame) (sender id (byte n)) h = absurd h
has_about (sent.ResetStream s frame) (sender id end) h = absurd h
has_about (sent.ResetStream s frame) (sender id reset) h = eq-eqb id s.0 (sym h)
has_about (sent.ResetStream s frame) (receiver id stop) h = absurd h
has_about (sent.ResetStream s frame) (receiver id (stream_limit l)) h = absurd h
has_about (sent.ResetStream s frame) (data_limit l) h = absurd h
has_about (sent.ResetStream s frame) (count dir n) h = absurd h
has_about (sent.StopSending s code) (sender id (byte n)) h = absurd h
has_about (sent.StopSending s code) (sender id end) h = absurd h
has_about (sent.StopSending s code) (sender id reset) h = absurd h
has_about (sent.StopSending s code) (receiver id stop) h = eq-eqb id s.0 (sym h)
has_about (sent.StopSending s code) (receiver id (stream_limit l)) h = absurd h
has_about (sent.StopSending s code) (data_limit l) h = absurd h
has_about (sent.StopSending s code) (count dir n) h = absurd h
has_about (sent.MaxData value) (sender id (byte n)) h = absurd h
has_about (sent.MaxData value) (sender id end) h = absurd h
has_about (sent.MaxData value) (sender id reset) h = absurd h
has_about (sent.MaxData value) (receiver id stop) h = absurd h
has_about (sent.MaxData value) (receiver id (stream_limit l)) h = absurd h
has_about (sent.MaxData value) (data_limit l) h = refl
has_about (sent.MaxData value) (count dir n) h = absurd h
has_about (sent.MaxStreamData s value) (sender id (byte n)) h = absurd h
has_about (sent.MaxStreamData s value) (sender id end) h = absurd h
has_about (sent.MaxStreamData s value) (sender id reset) h = absurd h
has_about (sent.MaxStreamData s value) (receiver id stop) h = absurd h
has_about (sent.MaxStreamData s value) (receiver id (stream_limit l)) h = eq-eqb id s.0 (sym h.0)
has_about (sent.MaxStreamData s value) (data_limit l) h = absurd h
has_about (sent.MaxStreamData s value) (count dir n) h = absurd h
has_about (sent.MaxStreams d value) (sender id (byte n)) h = absurd h
has_about (sent.MaxStreams d value) (sender id end) h = absurd h
has_about (sent.MaxStreams d value) (sender id reset) h = absurd h
has_about (sent.MaxStreams d value) (receiver id stop) h = absurd h
has_about (sent.MaxStreams d value) (receiver id (stream_limit l)) h = absurd h
has_about (sent.MaxStreams d value) (data_limit l) h = absurd h
has_about (sent.MaxStreams d value) (count dir n) h = same_self d dir h.0

pub has_none : (f : SentFrame) (o : Owed) → about f o ≡ false → Has o f → ⊥
has_none f o apart has = false≢true (sym apart ∙ has_about f o has)

-- ---- a half that stays or goes, if the others stay

pub record IsBefore {H : Type 0} (P : H → H → Type 0) (at : ℕ → Option H) (id : ℕ) (next : H) : Type 0 where
  pub half : H
  pub was : at id ≡ Some half
  pub step : P half next

pub record Goes {H : Type 0} (P : H → H → Type 0) (before after : ℕ → Option H) (id : ℕ) : Type 0 where
  pub here : (k : ℕ) (next : H) → (k == id) ≡ true → after k ≡ Some next → IsBefore P before id next
  pub apart : (k : ℕ) → (k == id) ≡ false → after k ≡ before k

some_next : {H : Type 0} (o : Option H) (g next : H) → o ≡ Some g → o ≡ Some next → g ≡ next
some_next o g next a b = cc

pub step_goes : {P : PlainSend → PlainSend → Type 0} {old new : PlainSendHalves} {id n : ℕ} → IsStep P old new id n → Goes P (send_at old) (send_at new) id
step_goes {P = P} s = record {
  here = λ k g e is. let same = some_next _ s.next g (rw e at (s.is.halves_are k)) is in record { half = s.half; was = s.was; step = rw (← same) s.step };
  apart = λ k e. rw e at (s.is.halves_are k);
}

pub last_goes : {P : PlainSend → PlainSend → Type 0} {old new : PlainSendHalves} {id : ℕ} → IsLast P old new id → Goes P (send_at old) (send_at new) id
last_goes s = record {
  here = λ k g e is. let gone = rw e at (s.is.halves_are k) in cc;
  apart = λ k e. rw e at (s.is.halves_are k);
}

pub absent_goes : {H : Type 0} {P : H → H → Type 0} {before after : ℕ → Option H} {id : ℕ} → before id ≡ None → ((k : ℕ) → after k ≡ before k) → Goes P before after id
absent_goes {id = id} none same = record {
  here = λ k g e is. let here = eqb-true k id e in let there = rw here at (same k) in cc;
  apart = λ k e. same k;
}

pub step_or_absent : {P : PlainSend → PlainSend → Type 0} {old new : PlainSendHalves} {id n : ℕ} → IsStep P old new id n ⊎ IsAbsent old new id → Goes P (send_at old) (send_at new) id
step_or_absent (inl step) = step_goes step
step_or_absent (inr a) = absent_goes a.none (λ k. ap (λ (s : PlainSendHalves). send_at s k) a.same)

pub settled_goes : {P : PlainSend → PlainSend → Type 0} {old new : PlainSendHalves} {id : ℕ} {gone : Bool} → IsSettledBy P old new id gone → Goes P (send_at old) (send_at new) id
settled_goes (absent a) = step_or_absent {n = 0} (inr a)
settled_goes (on step) = step_goes step
settled_goes (done last) = last_goes last

unless_some : (b : Bool) (r g : PlainRecv) → (if b then None else Some r) ≡ Some g → r ≡ g
unless_some true r g e = cc
unless_some false r g e = cc

pub recv_goes : {P : PlainRecv → PlainRecv → Type 0} {old new : PlainRecvHalves} {id n : ℕ} → IsRecvStep P old new id n → Goes P (recv_at old) (recv_at new) id
recv_goes s = record {
  here = λ k g e is. let same = unless_some (is_done s.next) s.next g (sym (rw e at (s.halves_are k)) ∙ is) in record { half = s.half; was = s.was; step = rw (← same) s.step };
  apart = λ k e. rw e at (s.halves_are k);
}

pub recv_or_absent : {P : PlainRecv → PlainRecv → Type 0} {old new : PlainRecvHalves} {id n : ℕ} → IsRecvStep P old new id n ⊎ IsRecvAbsent old new id → Goes P (recv_at old) (recv_at new) id
recv_or_absent (inl step) = recv_goes step
recv_or_absent (inr a) = absent_goes a.none (λ k. ap (λ (s : PlainRecvHalves). recv_at s k) a.same)

pub at_half : {H T : Type 0} {S : H → T → Type 0} {P : H → H → Type 0} {before after : ℕ → Option H} {id : ℕ} (R : (k : ℕ) → T → Type 0) → Goes P before after id
    → ((h next : H) (o : T) → before id ≡ Some h → P h next → S next o → R id o)
    → ((k : ℕ) (o : T) → (k == id) ≡ false → SentBy S before k o → R k o)
    → (k : ℕ) (o : T) → SentBy S after k o → R k o
at_half {id = id} R goes here away k o w = elim (eqb_tells k id) [
  | inl same ↦ let b = goes.here k w.half same.0 w.is in rw same.1 (here b.half w.half o b.was b.step w.sent)
  | inr apart ↦ away k o apart.0 (record { half = w.half; is = sym (goes.apart k apart.0) ∙ w.is; sent = w.sent })
]
