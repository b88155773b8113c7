-- What a step of the connection leaves of how it stands to the datagrams.
use Rattle.std.proofs.Common.{◌≡◌, ℕ, ◌≤◌, true, false, List, length, Option, Some, None, is_some, refl, ap, subst, arith, inl, inr}
use Rattle.std.proofs.lemmas.Bool.{both_ways}
use Rattle.qh_buffers.specs.Ranges.{has}
use Rattle.qh_conduct.proofs.StreamsGoOn.{GoOn, reading_on, sending_on}
use Rattle.qh_conduct.specs.Announced.{Announced, AreLive, HasComeWith, IsKeptDatagram, IsKeptFrame, IsLimited}
use Rattle.qh_conduct.specs.Announced.IsKeptFrame.{ping, response, ack, stream, reset, stop, max_data, max_stream_data, max_streams, control, close}
use Rattle.qh_core.specs.Inner.{is_open}
use Rattle.qh_core.specs.declared.inner.Inner.{Inner}
use Rattle.qh_halves.specs.RecvHalves.{recv_at}
use Rattle.qh_spec.specs.Lists.{In}
use Rattle.qh_spec.specs.QuicFrames.{QuicFrame}
use Rattle.qh_spec.specs.Transcript.{Act, handed_in, handed_out}
use Rattle.qh_streams.specs.Streams.{PlainStreams, is_two_way, was_opened}

-- ---- streams

half_there : {X : Type 0} (o : Option X) → is_some o ≡ true → (x : X) × (o ≡ Some x)
half_there None there = absurd (cc)
half_there (Some x) there = (x, refl)

some_there : {X : Type 0} (o : Option X) (x : X) → o ≡ Some x → is_some o ≡ true
some_there o x e = ap is_some e

pub live_on : (old new : PlainStreams) → GoOn old new → AreLive old → AreLive new
live_on old new go live = record {
  send = λ k there. elim (go.send k there) [ inl was ↦ sending_on go.later k (live.send k was) | inr is ↦ is ];
  recv = λ k there.
      let half = half_there (recv_at new.recv k) there in
      elim (go.recv k half.0 half.1) [ inl was ↦ reading_on go.later k (live.recv k (some_there (recv_at old.recv k) was.0 was.1)) | inr is ↦ is.reads ];
  counts = λ two_way. go.bound two_way (live.counts two_way);
}

limited_on : (old new : PlainStreams) (id limit : ℕ) → GoOn old new → was_opened old id ≡ true → IsLimited old id limit → IsLimited new id limit
limited_on old new id limit go opened below half there = elim (go.recv id half there) [
  | inl was ↦ let a = below was.0 was.1 in let b = was.2 in omega (arith, a, b)
  | inr is ↦ absurd (both_ways (was_opened old id) is.before opened)
]

module _ {S : Type 0} where
  -- It is the same end; its streams go on so, no number is used again, and it isn't open again.
  pub record Goes (old new : Inner S) : Type 0 where
    pub side : new.side ≡ old.side
    pub local_id : new.local_id ≡ old.local_id
    pub remote_length : length new.remote_id ≡ length old.remote_id
    pub config : new.config ≡ old.config
    pub streams : GoOn old.space.streams new.space.streams
    pub next : old.space.next_number ≤ new.space.next_number
    pub shut : is_open old.state ≡ false → is_open new.state ≡ false

  pub come_on : (old new : Inner S) (came more : List (List ℕ)) (n : ℕ) → Goes old new → ((d : List ℕ) → In d came → In d more) → HasComeWith old came n → HasComeWith new more n
  come_on old new came more n go among has =
      let wider : HasComeWith old more n = record { datagram = has.datagram; among = among has.datagram has.among; packet = has.packet; has = has.has; space_is = has.space_is; sender_is = has.sender_is; number_is = has.number_is } in
      rw (go.side, go.local_id) wider

  pub frame_on : (old new : Inner S) (came more : List (List ℕ)) (f : QuicFrame) → Goes old new → ((d : List ℕ) → In d came → In d more) → IsKeptFrame old came f → IsKeptFrame new more f
  frame_on old new came more f go among (ping is) = ping is
  frame_on old new came more f go among (response echoed is) = response echoed is
  frame_on old new came more f go among (ack ranges is apart all) = ack ranges is apart (λ n covers. come_on old new came more n go among (all n covers))
  frame_on old new came more f go among (stream run is named) = stream run is (sending_on go.streams.later run.id named)
  frame_on old new came more f go among (reset id code size is named) = reset id code size is (sending_on go.streams.later id named)
  frame_on old new came more f go among (stop id code is named) = stop id code is (reading_on go.streams.later id named)
  frame_on old new came more f go among (max_data limit is below) = max_data limit is (let rises = go.streams.shared in omega (arith, below, rises))
  frame_on old new came more f go among (max_stream_data id limit is named below) =
      max_stream_data id limit is (reading_on go.streams.later id named) (limited_on old.space.streams new.space.streams id limit go.streams named.0 below)
  frame_on old new came more f go among (max_streams dir count is below) = max_streams dir count is (let rises = go.streams.counts (is_two_way dir) in omega (arith, below, rises))
  frame_on old new came more f go among (control g is may) = control g is (rw (go.side, go.config) may)
  frame_on old new came more f go among (close reason is shut) = close reason is (go.shut shut)

  pub datagram_on : (old new : Inner S) (came more : List (List ℕ)) (d : List ℕ) → Goes old new → ((d : List ℕ) → In d came → In d more) → IsKeptDatagram old came d → IsKeptDatagram new more d
  datagram_on old new came more d go among k = record {
    number = k.number;
    used = let below = k.used in let rises = go.next in omega (arith, below, rises);
    frames = k.frames;
    some = k.some;
    has = rw (go.side, go.remote_length) (k.has);
    only = rw (go.side, go.remote_length) (k.only);
    kept = λ f is. frame_on old new came more f go among (k.kept f is);
  }

  -- so it stands to the datagrams where no more was handed out
  pub carried : (old new : Inner S) (t u : List Act) → Goes old new → handed_out u ≡ handed_out t → ((d : List ℕ) → In d (handed_in t) → In d (handed_in u))
      → ((n : ℕ) → has new.space.acks.ranges n ≡ true → HasComeWith new (handed_in u) n) → Announced old t → Announced new u
  carried old new t u go out among acks p = record {
    live = live_on old.space.streams new.space.streams go.streams p.live;
    acks = acks;
    sent = λ d is. datagram_on old new (handed_in t) (handed_in u) d go among (p.sent d (subst (λ (l : List (List ℕ)). In d l) out is));
  }

  -- and what is to be acknowledged is as before
  pub quiet : (old new : Inner S) (t u : List Act) → Goes old new → handed_out u ≡ handed_out t → ((d : List ℕ) → In d (handed_in t) → In d (handed_in u)) → new.space.acks.ranges ≡ old.space.acks.ranges
      → Announced old t → Announced new u
  quiet old new t u go out among same p = carried old new t u go out among (λ n there. come_on old new (handed_in t) (handed_in u) n go among (p.acks n (rw same at there))) p
