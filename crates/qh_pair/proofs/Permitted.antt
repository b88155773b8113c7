-- What keeps within the limits that an end knows of its peer, keeps within what the peer announced.
use Rattle.std.proofs.Common.{◌≡◌, ◌⊎◌, inl, inr, ◌≤◌, ◌<◌, ◌%◌, ◌/◌, ◌==◌, Bool, true, false, List, [], ◌∷◌, ℕ, zero, suc, Some, refl, ◌∙◌, ap, subst, arith}
use Rattle.std.specs.Prelude.{if◌then◌else◌, max}
use Rattle.std.proofs.lemmas.Bool.{cases_lt, eqb-true}
use Rattle.std.proofs.lemmas.Option.{none-some, same_Some}
use Rattle.qh_base.specs.declared.stream_id.StreamId.{StreamId}
use Rattle.qh_converse.specs.Settled.{peer_limits}
use Rattle.qh_core.specs.Follows.{HasComing, HasFrame}
use Rattle.qh_core.specs.Inner.{AreOf}
use Rattle.qh_frame.specs.Plain.{plain_of}
use Rattle.qh_frame.specs.declared.frame.Frame.{Frame}
use Rattle.qh_frame.specs.declared.frame.Frame.TheVariants as kind
use Rattle.qh_halves.specs.Counts.{is_bi, is_own}
use Rattle.qh_hello.specs.Greetings.{limits_of}
use Rattle.qh_hello.specs.declared.transport_parameters.TransportParameters.{TransportParameters}
use Rattle.qh_space.specs.Receiving.{coming_of}
use Rattle.qh_spec.specs.Announced.{Announces, IsPermitted, Limit, Connection, Stream, Count, first, later, first_limit as first_said, limit_frame}
use Rattle.qh_spec.specs.Hello.{FirstLimits}
use Rattle.qh_spec.specs.Greeted.{AreAnnouncedFirst, HasFrameOf}
use Rattle.qh_spec.specs.Link.{other}
use Rattle.qh_spec.specs.Lists.{In}
use Rattle.qh_spec.specs.QuicFrames.{QuicFrame}
use Rattle.qh_spec.specs.StreamId.{side_bit}
use Rattle.qh_spec.specs.declared.sides.Dir.{Dir}
use Rattle.qh_spec.specs.declared.sides.Dir.TheVariants.{Bi, Uni}
use Rattle.qh_spec.specs.declared.sides.Side.{Side}
use Rattle.qh_spec.specs.declared.sides.Side.TheVariants.{Client, Server}
use Rattle.qh_spec.specs.declared.sides.Space.TheVariants.{Data}
use Rattle.qh_streams.specs.Streams.{PlainStreams, first_limit}
use Rattle.qh_streams.specs.declared.frames.PeerLimits.{PeerLimits}
use Rattle.qh_streams.specs.declared.frames.StreamFrame.{StreamFrame}
use Rattle.qh_streams.specs.declared.frames.StreamFrame.TheVariants as coming
use Rattle.qh_transcript.specs.Within.{count_given, data_given, first_count, greatest, stream_given}

-- ---- the greatest

max_either : (n a b : ℕ) → n ≤ max a b → (n ≤ a) ⊎ (n ≤ b)
max_either n a b h = elim (cases_lt a n) [ inl l ↦ inr (omega (arith, h, l)) | inr le ↦ inl le ]

-- it is the first one, or one that was given
greatest_from : (given : StreamFrame → ℕ) (one : ℕ) (fs : List StreamFrame) (n : ℕ) → n ≤ greatest given one fs → (n ≤ one) ⊎ ((f : StreamFrame) × In f fs × (n ≤ given f))
greatest_from given one [] n h = inl h
greatest_from given one (f ∷ fs) n h = elim (max_either n (given f) (greatest given one fs) h) as (λ _. (n ≤ one) ⊎ ((f2 : StreamFrame) × In f2 (f ∷ fs) × (n ≤ given f2))) [
  | inl a ↦ inr (f, inl refl, a)
  | inr b ↦ elim (greatest_from given one fs n b) as (λ _. (n ≤ one) ⊎ ((f2 : StreamFrame) × In f2 (f ∷ fs) × (n ≤ given f2))) [ inl x ↦ inl x | inr x ↦ inr (x.0, inr x.1, x.2) ]
]

-- ---- frames that came

-- a frame of a 1-RTT packet that one of the datagrams has
of_data : (k : ℕ) (xs : List (List ℕ)) (s : Side) (f : QuicFrame) → HasFrame k xs s f → HasFrameOf k xs s Data f
of_data k xs s f h = record {
  of = record { datagram = h.datagram; among = h.among; packet = h.packet; has = h.has; space_is = h.space_is; sender_is = h.sender_is };
  frame_among = h.frame_among;
}

-- a MAX frame is read as that
abbrev IsLimitFrame : QuicFrame → StreamFrame → Type 0
IsLimitFrame q (coming.MaxData n) = q ≡ limit_frame Connection n
IsLimitFrame q (coming.MaxStreamData id n) = q ≡ limit_frame (Stream id.0) n
IsLimitFrame q (coming.MaxStreams dir n) = q ≡ limit_frame (Count dir) n
IsLimitFrame q _ = Unit {0}

count_frame : (dir : Dir) (n : ℕ) → plain_of (kind.MaxStreams dir n) ≡ limit_frame (Count dir) n
count_frame Bi n = refl
count_frame Uni n = refl

came_as : (g : Frame) (f : StreamFrame) → coming_of g ≡ Some f → IsLimitFrame (plain_of g) f
came_as (kind.MaxData m) f e = subst (λ (z : StreamFrame). IsLimitFrame (plain_of (kind.MaxData m)) z) (same_Some _ f e) refl
came_as (kind.MaxStreamData i l) f e = subst (λ (z : StreamFrame). IsLimitFrame (plain_of (kind.MaxStreamData i l)) z) (same_Some _ f e) refl
came_as (kind.MaxStreams d c) f e = subst (λ (z : StreamFrame). IsLimitFrame (plain_of (kind.MaxStreams d c)) z) (same_Some _ f e) (count_frame d c)
came_as (kind.Stream s) f e = subst (λ (z : StreamFrame). IsLimitFrame (plain_of (kind.Stream s)) z) (same_Some _ f e) tt
came_as (kind.ResetStream i c s) f e = subst (λ (z : StreamFrame). IsLimitFrame (plain_of (kind.ResetStream i c s)) z) (same_Some _ f e) tt
came_as (kind.StopSending i c) f e = subst (λ (z : StreamFrame). IsLimitFrame (plain_of (kind.StopSending i c)) z) (same_Some _ f e) tt
came_as kind.Padding f e = absurd (none-some f e)
came_as kind.Ping f e = absurd (none-some f e)
came_as (kind.Ack a) f e = absurd (none-some f e)
came_as (kind.Crypto o p) f e = absurd (none-some f e)
came_as (kind.NewToken t) f e = absurd (none-some f e)
came_as (kind.DataBlocked l) f e = absurd (none-some f e)
came_as (kind.StreamDataBlocked i l) f e = absurd (none-some f e)
came_as (kind.StreamsBlocked d c) f e = absurd (none-some f e)
came_as (kind.NewConnectionId a b c d) f e = absurd (none-some f e)
came_as (kind.RetireConnectionId s) f e = absurd (none-some f e)
came_as (kind.PathChallenge b) f e = absurd (none-some f e)
came_as (kind.PathResponse b) f e = absurd (none-some f e)
came_as (kind.ConnectionClose a b c) f e = absurd (none-some f e)
came_as (kind.ApplicationClose a b) f e = absurd (none-some f e)
came_as kind.HandshakeDone f e = absurd (none-some f e)
came_as (kind.Datagram p h) f e = absurd (none-some f e)

-- so it announces its limit
announced_by : (k : ℕ) (xs : List (List ℕ)) (s : Side) (limit : Limit) (n : ℕ) (f : StreamFrame) → HasComing k xs s f → ((q : QuicFrame) → IsLimitFrame q f → q ≡ limit_frame limit n) → Announces k xs s limit n
announced_by k xs s limit n f c is = later (of_data k xs s (limit_frame limit n) (subst (λ (z : QuicFrame). HasFrame k xs s z) (is (plain_of c.frame) (came_as c.frame f c.is)) c.has))

-- ---- the limits

module _ (k : ℕ) (xs : List (List ℕ)) (s : Side) (l : FirstLimits) (said : AreAnnouncedFirst k xs s l) where
  by_first : (limit : Limit) (n : ℕ) → n ≤ first_said s l limit → IsPermitted k xs s limit n
  by_first limit n h = record { value = first_said s l limit; announces = first l said refl; within = h }

  by_none : (limit : Limit) (n : ℕ) → n ≤ 0 → IsPermitted k xs s limit n
  by_none limit n h = by_first limit n (omega (arith, h))

  by_data : (f : StreamFrame) (n : ℕ) → HasComing k xs s f → n ≤ data_given f → IsPermitted k xs s Connection n
  by_data (coming.MaxData m) n c h = record { value = m; announces = announced_by k xs s Connection m (coming.MaxData m) c (λ q e. e); within = h }
  by_data (coming.Stream a b d e) n c h = by_none Connection n h
  by_data (coming.Reset a b d) n c h = by_none Connection n h
  by_data (coming.Stop a b) n c h = by_none Connection n h
  by_data (coming.MaxStreamData a b) n c h = by_none Connection n h
  by_data (coming.MaxStreams a b) n c h = by_none Connection n h

  of_stream : (b : Bool) (id : ℕ) (i : StreamId) (m n : ℕ) → (i.0 == id) ≡ b → HasComing k xs s (coming.MaxStreamData i m) → n ≤ (if b then m else 0) → IsPermitted k xs s (Stream id) n
  of_stream true id i m n e c h = record {
    value = m;
    announces = announced_by k xs s (Stream id) m (coming.MaxStreamData i m) c (λ q is. subst (λ (z : ℕ). q ≡ limit_frame (Stream z) m) (eqb-true i.0 id e) is);
    within = h;
  }
  of_stream false id i m n e c h = by_none (Stream id) n h

  by_stream : (id : ℕ) (f : StreamFrame) (n : ℕ) → HasComing k xs s f → n ≤ stream_given id f → IsPermitted k xs s (Stream id) n
  by_stream id (coming.MaxStreamData i m) n c h = of_stream (i.0 == id) id i m n refl c h
  by_stream id (coming.MaxData m) n c h = by_none (Stream id) n h
  by_stream id (coming.Stream a b d e) n c h = by_none (Stream id) n h
  by_stream id (coming.Reset a b d) n c h = by_none (Stream id) n h
  by_stream id (coming.Stop a b) n c h = by_none (Stream id) n h
  by_stream id (coming.MaxStreams a b) n c h = by_none (Stream id) n h

  by_count : (b : Bool) (f : StreamFrame) (n : ℕ) → HasComing k xs s f → n ≤ count_given b f → IsPermitted k xs s (Count (if b then Bi else Uni)) n
  by_count true (coming.MaxStreams Bi m) n c h = record { value = m; announces = announced_by k xs s (Count Bi) m (coming.MaxStreams Bi m) c (λ q e. e); within = h }
  by_count true (coming.MaxStreams Uni m) n c h = by_none (Count Bi) n h
  by_count false (coming.MaxStreams Bi m) n c h = by_none (Count Uni) n h
  by_count false (coming.MaxStreams Uni m) n c h = record { value = m; announces = announced_by k xs s (Count Uni) m (coming.MaxStreams Uni m) c (λ q e. e); within = h }
  by_count true (coming.MaxData m) n c h = by_none (Count Bi) n h
  by_count true (coming.Stream a b d e) n c h = by_none (Count Bi) n h
  by_count true (coming.Reset a b d) n c h = by_none (Count Bi) n h
  by_count true (coming.Stop a b) n c h = by_none (Count Bi) n h
  by_count true (coming.MaxStreamData a b) n c h = by_none (Count Bi) n h
  by_count false (coming.MaxData m) n c h = by_none (Count Uni) n h
  by_count false (coming.Stream a b d e) n c h = by_none (Count Uni) n h
  by_count false (coming.Reset a b d) n c h = by_none (Count Uni) n h
  by_count false (coming.Stop a b) n c h = by_none (Count Uni) n h
  by_count false (coming.MaxStreamData a b) n c h = by_none (Count Uni) n h

  module _ (fs : List StreamFrame) (came : (f : StreamFrame) → In f fs → HasComing k xs s f) where
    pub permitted_data : (n : ℕ) → n ≤ greatest data_given l.max_data fs → IsPermitted k xs s Connection n
    permitted_data n h = elim (greatest_from data_given l.max_data fs n h) as (λ _. IsPermitted k xs s Connection n) [ inl a ↦ by_first Connection n a | inr x ↦ by_data x.0 n (came x.0 x.1) x.2 ]

    pub permitted_stream : (id n : ℕ) → n ≤ greatest (stream_given id) (first_said s l (Stream id)) fs → IsPermitted k xs s (Stream id) n
    permitted_stream id n h = elim (greatest_from (stream_given id) (first_said s l (Stream id)) fs n h) as (λ _. IsPermitted k xs s (Stream id) n) [
      | inl a ↦ by_first (Stream id) n a
      | inr x ↦ by_stream id x.0 n (came x.0 x.1) x.2
    ]

    pub permitted_count : (b : Bool) (n : ℕ) → n ≤ greatest (count_given b) (first_said s l (Count (if b then Bi else Uni))) fs → IsPermitted k xs s (Count (if b then Bi else Uni)) n
    permitted_count b n h = elim (greatest_from (count_given b) (first_said s l (Count (if b then Bi else Uni))) fs n h) as (λ _. IsPermitted k xs s (Count (if b then Bi else Uni)) n) [
      | inl a ↦ by_first (Count (if b then Bi else Uni)) n a
      | inr x ↦ by_count b x.0 n (came x.0 x.1) x.2
    ]

-- ---- the first limits

same_at : (side : Side) (a b r l u : ℕ) → a < 2 → b < 2
    → (if a == 0 then (if side_bit side == b then r else l) else u) ≡ (if a == 1 then u else (if b == side_bit (other side) then l else r))
same_at Client zero zero r l u p q = refl
same_at Client zero (suc zero) r l u p q = refl
same_at Client (suc zero) zero r l u p q = refl
same_at Client (suc zero) (suc zero) r l u p q = refl
same_at Server zero zero r l u p q = refl
same_at Server zero (suc zero) r l u p q = refl
same_at Server (suc zero) zero r l u p q = refl
same_at Server (suc zero) (suc zero) r l u p q = refl
same_at side (suc (suc a)) b r l u p q = absurd (omega (arith, p))
same_at side zero (suc (suc b)) r l u p q = absurd (omega (arith, q))
same_at side (suc zero) (suc (suc b)) r l u p q = absurd (omega (arith, q))

-- the first limit that streams know is the one that the hello says
pub stream_first : (side : Side) (p : TransportParameters) (s : PlainStreams) (id : ℕ) → AreOf side (peer_limits p) s → first_limit s id ≡ first_said (other side) (limits_of p) (Stream id)
stream_first side p s id of =
    ap (λ (z : PeerLimits). if is_bi id then (if is_own s.side id then z.bidi_remote else z.bidi_local) else z.uni) of.peer_is
    ∙ (ap (λ (z : Side). if is_bi id then (if is_own z id then p.initial_max_stream_data_bidi_remote else p.initial_max_stream_data_bidi_local) else p.initial_max_stream_data_uni) of.side_is
    ∙ same_at side (id / 2 % 2) (id % 2) p.initial_max_stream_data_bidi_remote p.initial_max_stream_data_bidi_local p.initial_max_stream_data_uni (omega arith) (omega arith))

count_said : (b : Bool) (s : Side) (p : TransportParameters) → (if b then p.initial_max_streams_bidi else p.initial_max_streams_uni) ≡ first_said s (limits_of p) (Count (if b then Bi else Uni))
count_said true s p = refl
count_said false s p = refl

pub count_first : (side : Side) (p : TransportParameters) (s : PlainStreams) (b : Bool) → AreOf side (peer_limits p) s → first_count s b ≡ first_said (other side) (limits_of p) (Count (if b then Bi else Uni))
count_first side p s b of = ap (λ (z : PeerLimits). if b then z.max_bidi else z.max_uni) of.peer_is ∙ count_said b (other side) p
