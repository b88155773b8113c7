-- What it means for whoever takes what was sent.
use Rattle.std.proofs.Common.{◌≡◌, ◌⊎◌, ℕ, ◌<◌, true, false, List, [], ◌∷◌, length, Some, refl, ap, subst, arith, inl, inr}
use Rattle.std.specs.List.{AllByRecursion}
use Rattle.std.proofs.lemmas.Bool.{both_ways, cases_Bool}
use Rattle.qh_base.specs.declared.connection_error.ConnectionError.TheVariants.{Memory}
use Rattle.qh_conduct.proofs.FramesFit.{frame_fits, handed_fits}
use Rattle.qh_conduct.proofs.FramesSay.{says_ack, says_close, says_count, says_limit, says_reset, says_stop, says_stream, says_stream_limit}
use Rattle.qh_conduct.specs.Announced.{Announced, HasAnnounced, HasSent, IsKeptFrame, IsOver, IsReadable, SendsAsAnnounced, packet_of}
use Rattle.qh_core.specs.Follows.{Follows, HasNumber}
use Rattle.qh_core.specs.Inner.{is_open}
use Rattle.qh_core.specs.Receiving.{is_close}
use Rattle.qh_core.specs.declared.inner.Inner.{Inner}
use Rattle.qh_frame.specs.Range.{IsInRange}
use Rattle.qh_spec.specs.Datagram.{Packet}
use Rattle.qh_spec.specs.Lists.{In}
use Rattle.qh_spec.specs.QuicFrames.{QuicFrame}
use Rattle.qh_spec.specs.Transcript.{Act, handed_in, handed_out}
use Rattle.qh_streams.specs.Streams.{is_two_way}

all_of : (P : QuicFrame → Type 0) (fs : List QuicFrame) → ((f : QuicFrame) → In f fs → P f) → AllByRecursion P fs
all_of P [] all = tt
all_of P (f ∷ fs) all = (all f (inl refl), all_of P fs (λ g is. all g (inr is)))

module _ {S : Type 0} where
  still : (c : Inner S) (t : List Act) → (c.error ≡ Some Memory → ⊥) → IsOver c ⊎ Announced c t → Announced c t
  still c t lives (inl over) = absurd (lives over.0)
  still c t lives (inr p) = p

  module _ (c : Inner S) (t : List Act) (p : Announced c t) where
    sent_frame : (f : QuicFrame) → HasSent c t f → IsKeptFrame c (handed_in t) f
    sent_frame f h =
        let k = p.sent h.datagram h.among in
        k.kept f (subst (λ (q : Packet). In f q.frames) (k.only h.packet h.has) h.frame_among)

    sent_number : (n : ℕ) → HasNumber (length c.remote_id) (handed_out t) c.side n → n < c.space.next_number
    sent_number n h =
        let k = p.sent h.datagram h.among in
        let same : h.packet.number ≡ k.number = ap (λ (q : Packet). q.number) (k.only h.packet h.has) in
        let is = h.number_is in
        let used = k.used in
        omega (arith, same, is, used)

    none_closes : is_open c.state ≡ true → (f : QuicFrame) → HasSent c t f → is_close f ≡ false
    none_closes up f h = elim (cases_Bool (is_close f)) [
      | inl closing ↦ absurd (both_ways (is_open c.state) (says_close c (handed_in t) f closing (sent_frame f h)) up)
      | inr not ↦ not
    ]

    all_sent : SendsAsAnnounced c t
    all_sent = record {
      datagrams = p.sent;
      frames = sent_frame;
      limit = λ n h. says_limit c (handed_in t) _ n refl (sent_frame _ h);
      counts = λ dir n h.
          let below = says_count c (handed_in t) _ dir n refl (sent_frame _ h) in
          let bound = p.live.counts (is_two_way dir) in
          (below, omega (arith, below, bound));
      stream_limit = λ id n h. says_stream_limit c (handed_in t) _ id n refl (sent_frame _ h);
      streams = λ run h. says_stream c (handed_in t) _ run refl (sent_frame _ h);
      resets = λ id code size h. says_reset c (handed_in t) _ id code size refl (sent_frame _ h);
      stops = λ id code h. says_stop c (handed_in t) _ id code refl (sent_frame _ h);
      acks = λ f n h covers. says_ack c (handed_in t) f n covers (sent_frame f h);
      numbers = sent_number;
      no_close = none_closes;
      live = p.live;
    }

    reads : (d : List ℕ) → Follows c t → In d (handed_out t) → IsReadable c d
    reads d follows among =
        let k = p.sent d among in
        record {
          packet = packet_of c k.number k.frames;
          has = k.has;
          only = k.only;
          space_is = refl;
          sender_is = refl;
          some = k.some;
          in_range = all_of IsInRange k.frames (λ f is. frame_fits c (handed_in t) f p.live.counts (handed_fits c t d (packet_of c k.number k.frames) follows among k.has refl refl f is) (k.kept f is));
        }

  pub sends_as_announced : (c : Inner S) (t : List Act) → (c.error ≡ Some Memory → ⊥) → HasAnnounced c t → SendsAsAnnounced c t
  unfolding HasAnnounced
  sends_as_announced c t lives h = all_sent c t (still c t lives h)

  pub is_readable : (c : Inner S) (t : List Act) (d : List ℕ) → (c.error ≡ Some Memory → ⊥) → Follows c t → HasAnnounced c t → In d (handed_out t) → IsReadable c d
  unfolding HasAnnounced
  is_readable c t d lives follows h among = reads c t (still c t lives h) d follows among
