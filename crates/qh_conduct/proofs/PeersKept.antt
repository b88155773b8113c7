-- What the frames say that came from the other end: each is one that it may have sent.
use Rattle.std.proofs.Common.{◌≡◌, ℕ, ◌/◌, ◌<◌, ◌≤◌, ◌==◌, List, [], ◌∷◌, length, Option, Some, None, refl, sym, ap, subst, ◌∙◌, arith, inl, inr}
use Rattle.std.proofs.lemmas.Bool.{cases_Bool, eqb-true}
use Rattle.qh_conduct.proofs.FramesSay.{Between, ack_kind, close_kind, control_kind, count_kind, exact_kind, no_control, says_count, says_limit, says_reset, says_stop, says_stream, says_stream_limit}
use Rattle.qh_conduct.proofs.ReachSpaces.{none_is, same_coming}
use Rattle.qh_conduct.specs.Announced.{Announced, IsKeptFrame, IsLimited, IsReading, IsSending}
use Rattle.qh_conduct.specs.Announced.IsKeptFrame.{ping, response, ack, stream, reset, stop, max_data, max_stream_data, max_streams, control, close}
use Rattle.qh_conduct.specs.Reached.{CameIn}
use Rattle.qh_core.specs.Follows.{HasComing, HasFrame, HasNumber}
use Rattle.qh_core.specs.declared.inner.Inner.{Inner}
use Rattle.qh_frame.specs.Plain.{by_dir, frame, plain_of}
use Rattle.qh_frame.specs.WrittenForm.{stream_form}
use Rattle.qh_frame.specs.declared.frame.Frame.{Frame}
use Rattle.qh_frame.specs.declared.frame.Frame.TheVariants as kind
use Rattle.qh_space.specs.Receiving.{coming_of}
use Rattle.qh_spec.specs.Carried.{HasRun}
use Rattle.qh_spec.specs.Datagram.{Packet}
use Rattle.qh_spec.specs.FrameViews.{stream_of}
use Rattle.qh_spec.specs.Lists.{In}
use Rattle.qh_spec.specs.QuicFrame.{StreamFrame as Run}
use Rattle.qh_spec.specs.QuicFrames.{QuicFrame, Num}
use Rattle.qh_spec.specs.Transcript.{Act, handed_in, handed_out}
use Rattle.qh_spec.specs.declared.sides.Side.{Side}
use Rattle.qh_streams.specs.Streams.{counts_of, is_two_way}
use Rattle.qh_streams.specs.declared.frames.StreamFrame.{StreamFrame}
use Rattle.qh_streams.specs.declared.frames.StreamFrame.TheVariants as coming
use Rattle.qh_transcript.proofs.SendingFrames.{form_carries}

-- ---- the form of a frame that speaks of streams

abbrev pub form_of : StreamFrame → QuicFrame
form_of (coming.Stream id offset payload fin) = stream_form (record { id = id.0; offset = offset; payload = payload; fin = fin })
form_of (coming.Reset id code size) = frame 4 (Num id.0 ∷ Num code ∷ Num size ∷ [])
form_of (coming.Stop id code) = frame 5 (Num id.0 ∷ Num code ∷ [])
form_of (coming.MaxData limit) = frame 16 (Num limit ∷ [])
form_of (coming.MaxStreamData id limit) = frame 17 (Num id.0 ∷ Num limit ∷ [])
form_of (coming.MaxStreams dir count) = frame (by_dir dir 18 19) (Num count ∷ [])

pub plain_is : (f : Frame) (c : StreamFrame) → coming_of f ≡ Some c → plain_of f ≡ form_of c
plain_is (kind.Stream s) c is = subst (λ (c : StreamFrame). plain_of (kind.Stream s) ≡ form_of c) (same_coming _ c is) refl
plain_is (kind.ResetStream id code size) c is = subst (λ (c : StreamFrame). plain_of (kind.ResetStream id code size) ≡ form_of c) (same_coming _ c is) refl
plain_is (kind.StopSending id code) c is = subst (λ (c : StreamFrame). plain_of (kind.StopSending id code) ≡ form_of c) (same_coming _ c is) refl
plain_is (kind.MaxData limit) c is = subst (λ (c : StreamFrame). plain_of (kind.MaxData limit) ≡ form_of c) (same_coming _ c is) refl
plain_is (kind.MaxStreamData id limit) c is = subst (λ (c : StreamFrame). plain_of (kind.MaxStreamData id limit) ≡ form_of c) (same_coming _ c is) refl
plain_is (kind.MaxStreams dir count) c is = subst (λ (c : StreamFrame). plain_of (kind.MaxStreams dir count) ≡ form_of c) (same_coming _ c is) refl
plain_is kind.Padding c is = none_is c is
plain_is kind.Ping c is = none_is c is
plain_is (kind.Ack a) c is = none_is c is
plain_is (kind.Crypto offset payload) c is = none_is c is
plain_is (kind.NewToken token) c is = none_is c is
plain_is (kind.DataBlocked limit) c is = none_is c is
plain_is (kind.StreamDataBlocked id limit) c is = none_is c is
plain_is (kind.StreamsBlocked dir count) c is = none_is c is
plain_is (kind.NewConnectionId sequence prior id token) c is = none_is c is
plain_is (kind.RetireConnectionId sequence) c is = none_is c is
plain_is (kind.PathChallenge bytes) c is = none_is c is
plain_is (kind.PathResponse bytes) c is = none_is c is
plain_is (kind.ConnectionClose code frame_type reason) c is = none_is c is
plain_is (kind.ApplicationClose code reason) c is = none_is c is
plain_is kind.HandshakeDone c is = none_is c is
plain_is (kind.Datagram payload has_length) c is = none_is c is

-- a frame that is a STREAM frame has a type of one
stream_type : (q : QuicFrame) (run : Run) → stream_of q ≡ Some run → Between 8 15 q.kind
stream_type q run e = elim (cases_Bool (q.kind / 8 == 1)) [
  | inl is ↦ let eighth = eqb-true (q.kind / 8) 1 is in (omega (arith, eighth), omega (arith, eighth))
  | inr not ↦ let none : ◌≡◌ {A = Option Run} None (Some run) = rw not at e in absurd (cc)
]

same_run : (a b : Run) → Some a ≡ Some b → a ≡ b
same_run a b e = cc

module _ {S : Type 0} (c : Inner S) (came : List (List ℕ)) where
  -- a STREAM frame that it may send is in the form in which it is written
  pub run_form : (q : QuicFrame) (run : Run) → stream_of q ≡ Some run → IsKeptFrame c came q → q ≡ stream_form run
  run_form q run e (ping is) = let a = stream_type q run e in let b = exact_kind q 1 [] is in absurd (omega (arith, a.0, a.1, b.0, b.1))
  run_form q run e (response echoed is) = let a = stream_type q run e in let b = exact_kind q 27 _ is in absurd (omega (arith, a.0, a.1, b.0, b.1))
  run_form q run e (ack ranges is apart all) = let a = stream_type q run e in let b = ack_kind q ranges is in absurd (omega (arith, a.0, a.1, b.0, b.1))
  run_form q run e (stream said is named) =
      let carries : stream_of (stream_form said) ≡ Some said = form_carries (said.offset == 0) said.fin said.id said.offset said.payload refl in
      let same : said ≡ run = same_run said run (sym carries ∙ ap stream_of (sym is) ∙ e) in
      is ∙ ap stream_form same
  run_form q run e (reset id code size is named) = let a = stream_type q run e in let b = exact_kind q 4 _ is in absurd (omega (arith, a.0, a.1, b.0, b.1))
  run_form q run e (stop id code is named) = let a = stream_type q run e in let b = exact_kind q 5 _ is in absurd (omega (arith, a.0, a.1, b.0, b.1))
  run_form q run e (max_data limit is below) = let a = stream_type q run e in let b = exact_kind q 16 _ is in absurd (omega (arith, a.0, a.1, b.0, b.1))
  run_form q run e (max_stream_data id limit is named below) = let a = stream_type q run e in let b = exact_kind q 17 _ is in absurd (omega (arith, a.0, a.1, b.0, b.1))
  run_form q run e (max_streams dir count is below) = let a = stream_type q run e in let b = count_kind q dir count is in absurd (omega (arith, a.0, a.1, b.0, b.1))
  run_form q run e (control g is may) = absurd (no_control 8 15 q.kind (stream_type q run e) (control_kind q g is) (inl (omega arith)) (inr (omega arith)) (omega arith))
  run_form q run e (close reason is shut) = let a = stream_type q run e in let b = close_kind q reason is in absurd (omega (arith, a.0, a.1, b.0, b.1))

  -- what the sender of a frame is bound to by it
  abbrev pub Says : StreamFrame → Type 0
  Says (coming.Stream id offset payload fin) = IsSending c.space.streams id.0
  Says (coming.Reset id code size) = IsSending c.space.streams id.0
  Says (coming.Stop id code) = IsReading c.space.streams id.0
  Says (coming.MaxData limit) = limit ≤ c.space.streams.recv.announced.value
  Says (coming.MaxStreamData id limit) = IsReading c.space.streams id.0 × IsLimited c.space.streams id.0 limit
  Says (coming.MaxStreams dir count) = count ≤ (counts_of c.space.streams (is_two_way dir)).announced.value

  says_form : (f : StreamFrame) → IsKeptFrame c came (form_of f) → Says f
  says_form (coming.Stream id offset payload fin) k = says_stream c came _ (record { id = id.0; offset = offset; payload = payload; fin = fin }) refl k
  says_form (coming.Reset id code size) k = says_reset c came _ id.0 code size refl k
  says_form (coming.Stop id code) k = says_stop c came _ id.0 code refl k
  says_form (coming.MaxData limit) k = says_limit c came _ limit refl k
  says_form (coming.MaxStreamData id limit) k = says_stream_limit c came _ id.0 limit refl k
  says_form (coming.MaxStreams dir count) k = says_count c came _ dir count refl k

-- ---- what came of the datagrams that an end handed out

module _ {S : Type 0} (c : Inner S) (t : List Act) (p : Announced c t) (own : ℕ) (datagrams : List (List ℕ)) (side : Side) (length_is : length c.remote_id ≡ own)
    (among : (d : List ℕ) → In d datagrams → In d (handed_out t)) where
  pub kept_frame : (q : QuicFrame) → HasFrame own datagrams side q → IsKeptFrame c (handed_in t) q
  kept_frame q has =
      let k = p.sent has.datagram (among has.datagram has.among) in
      let same = k.only has.packet (rw length_is has.has) in
      k.kept q (subst (λ (x : Packet). In q x.frames) same has.frame_among)

  pub used_number : (n : ℕ) → HasNumber own datagrams side n → n < c.space.next_number
  used_number n has =
      let k = p.sent has.datagram (among has.datagram has.among) in
      let same = ap (λ (x : Packet). x.number) (k.only has.packet (rw length_is has.has)) in
      let is = has.number_is in
      let used = k.used in
      omega (arith, same, is, used)

  run_frame : (run : Run) → (has : HasRun own datagrams side run) → HasFrame own datagrams side has.frame
  run_frame run has = record { datagram = has.datagram; among = has.among; packet = has.packet; has = has.has; space_is = has.space_is; sender_is = has.sender_is; frame_among = has.frame_among }

  says_run : (run : Run) → HasRun own datagrams side run → IsSending c.space.streams run.id
  says_run run has =
      let k = kept_frame has.frame (run_frame run has) in
      says_stream c (handed_in t) has.frame run (run_form c (handed_in t) has.frame run has.is k) k

  pub says_coming : (f : StreamFrame) → HasComing own datagrams side f → Says c (handed_in t) f
  says_coming f has = says_form c (handed_in t) f (subst (λ (q : QuicFrame). IsKeptFrame c (handed_in t) q) (plain_is has.frame f has.is) (kept_frame (plain_of has.frame) has.has))

  pub says_came : (f : StreamFrame) → CameIn own datagrams side f → Says c (handed_in t) f
  says_came (coming.Stream id offset payload fin) has = says_run _ has
  says_came (coming.Reset id code size) has = says_coming _ has
  says_came (coming.Stop id code) has = says_coming _ has
  says_came (coming.MaxData limit) has = says_coming _ has
  says_came (coming.MaxStreamData id limit) has = says_coming _ has
  says_came (coming.MaxStreams dir count) has = says_coming _ has
