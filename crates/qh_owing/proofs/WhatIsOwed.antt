-- A connection before its first packet, and what one that is open still owes.
use Rattle.std.proofs.Common.{◌≡◌, ◌⊎◌, ℕ, zero, suc, ◌<◌, nat_lt, Bool, true, false, List, [], ◌∷◌, length, slice_get, Option, Some, None, refl, sym, ap, subst, ◌∙◌, inl, inr, arith}
use Rattle.std.proofs.lemmas.Bool.{both_ways, false≢true, lt-ltb}
use Rattle.qh_buffers.specs.SendBuffer.{PlainSendBuffer, is_queued, mark_at, taken_to, waits}
use Rattle.qh_buffers.specs.declared.send_buffer.Mark.{Mark}
use Rattle.qh_buffers.specs.declared.send_buffer.Mark.TheVariants.{Sent, Queued, Acked}
use Rattle.qh_core.specs.Inner.{IsNewSpace, is_open}
use Rattle.qh_core.specs.declared.inner.Inner.{Inner}
use Rattle.qh_half.specs.Send.{PlainSend, is_end_acked, is_end_queued, is_finished, is_reset}
use Rattle.qh_half.specs.declared.send.SendState.{SendState}
use Rattle.qh_half.specs.declared.send.SendState.TheVariants.{Ready, DataSent, ResetSent}
use Rattle.qh_halves.specs.SendHalves.{half_in, send_at}
use Rattle.qh_owing.specs.Owing.{AreInPackets, AreOutCarried, IsByteOut, IsEndOut, IsFrameCarried, IsInPacket, IsByteKept, IsByteToCome, IsConfirmed, IsEndKept, IsEndToCome, KeepsStream, KeepsWhatIsOwed, Owes}
use Rattle.qh_packet.specs.Session.{AcceptsTag}
use Rattle.qh_owing.specs.Owing.AreAccepted.{none as none_at_first}
use Rattle.qh_recovery.specs.SentPackets.{packet_at}
use Rattle.qh_recovery.specs.declared.sent_packets.SentPacket.{SentPacket}
use Rattle.qh_space.specs.declared.data_space.DataSpace.{DataSpace}
use Rattle.qh_spec.specs.Transcript.{Act, finished, was_reset, written}
use Rattle.qh_spec.specs.declared.sides.Side.{Side}
use Rattle.qh_streams.specs.Tracked.{HasByte, HasEnd}
use Rattle.qh_streams.specs.declared.frames.SentFrame.{SentFrame}
use Rattle.qh_streams.specs.declared.frames.SentFrame.TheVariants as sent_frame

get_below : (xs : List ℕ) (k b : ℕ) → slice_get xs k ≡ Some b → k < length xs
get_below [] k b e = absurd (cc)
get_below (x ∷ xs) zero b e = omega arith
get_below (x ∷ xs) (suc k) b e = let low = get_below xs k b e in omega (arith, low)

not_reset : (s : Bool) (reset : Bool) → (s ≡ true → reset ≡ true) → reset ≡ false → s ≡ false
not_reset false reset h not = refl
not_reset true reset h not = absurd (both_ways reset not (h refl))

-- a byte that was taken and isn't acknowledged waits, or counts as sent
waits_or_sent : (v : PlainSendBuffer) (k : ℕ) (m : Option Mark) → mark_at v k ≡ m → k < taken_to v → (mark_at v k ≡ Some Acked → ⊥) → (is_queued v k ≡ true) ⊎ (mark_at v k ≡ Some Sent)
waits_or_sent v k None e below kept = inl (ap (λ (o : Option Mark). waits o (nat_lt k (taken_to v))) e ∙ lt-ltb k (taken_to v) below)
waits_or_sent v k (Some Sent) e below kept = inr e
waits_or_sent v k (Some Queued) e below kept = inl (ap (λ (o : Option Mark). waits o (nat_lt k (taken_to v))) e)
waits_or_sent v k (Some Acked) e below kept = absurd (kept e)

-- an end that isn't acknowledged waits, or counts as sent
end_waits_or_sent : (s : SendState) → is_finished s ≡ true → is_end_acked s ≡ false → (is_end_queued s ≡ true) ⊎ (s ≡ DataSent Sent)
end_waits_or_sent Ready is kept = absurd (false≢true is)
end_waits_or_sent (DataSent Sent) is kept = inr refl
end_waits_or_sent (DataSent Queued) is kept = inl refl
end_waits_or_sent (DataSent Acked) is kept = absurd (false≢true (sym kept))
end_waits_or_sent (ResetSent code mark) is kept = absurd (false≢true is)

module _ (Byte : ℕ → Type 0) (End : Type 0) (s : DataSpace) (stream count : ℕ) (ended reset : Bool) (id_length : ℕ) (side : Side) (t : List Act)
    (owed : AreInPackets s.streams s.sent s.next_number) (out : AreOutCarried id_length side t s.sent) (not : reset ≡ false) where
  byte_out : (k : ℕ) (number : ℕ) (packet : SentPacket SentFrame) (f : SentFrame) → packet_at s.sent number ≡ Some packet → HasByte stream k f → IsFrameCarried id_length side t number f
      → IsByteOut id_length side t s stream k
  byte_out k number packet (sent_frame.Stream id piece) is_out h c =
      let r = c.1 in
      let first = r.from in
      let last = r.to in
      let low = h.1 in
      let high = h.2 in
      record {
        number = number;
        packet = packet;
        is_out = is_out;
        run = r.run;
        has = r.has;
        stream_is = r.stream_is ∙ h.0;
        from = omega (arith, first, low);
        to = omega (arith, last, high);
      }
  byte_out k number packet (sent_frame.ResetStream id reset_frame) is_out h c = absurd h
  byte_out k number packet (sent_frame.StopSending id code) is_out h c = absurd h
  byte_out k number packet (sent_frame.MaxData limit) is_out h c = absurd h
  byte_out k number packet (sent_frame.MaxStreamData id limit) is_out h c = absurd h
  byte_out k number packet (sent_frame.MaxStreams dir count) is_out h c = absurd h

  end_out : (number : ℕ) (packet : SentPacket SentFrame) (f : SentFrame) → packet_at s.sent number ≡ Some packet → HasEnd stream f → IsFrameCarried id_length side t number f
      → IsEndOut id_length side t s stream
  end_out number packet (sent_frame.Stream id piece) is_out h c =
      let r = c.1 in
      record { number = number; packet = packet; is_out = is_out; run = r.run; has = r.has; stream_is = r.stream_is ∙ h.0; fin = r.fin ∙ h.1 }
  end_out number packet (sent_frame.ResetStream id reset_frame) is_out h c = absurd h
  end_out number packet (sent_frame.StopSending id code) is_out h c = absurd h
  end_out number packet (sent_frame.MaxData limit) is_out h c = absurd h
  end_out number packet (sent_frame.MaxStreamData id limit) is_out h c = absurd h
  end_out number packet (sent_frame.MaxStreams dir count) is_out h c = absurd h

  in_byte : (k : ℕ) → IsInPacket (HasByte stream k) s.sent → IsByteOut id_length side t s stream k
  in_byte k q = byte_out k q.number q.packet q.frame q.is_out q.holds (out q.number q.packet q.frame q.is_out q.among)

  in_end : IsInPacket (HasEnd stream) s.sent → IsEndOut id_length side t s stream
  in_end q = end_out q.number q.packet q.frame q.is_out q.holds (out q.number q.packet q.frame q.is_out q.among)

  byte_to_come : (o : Option PlainSend) (k : ℕ) → send_at s.streams.send stream ≡ o → KeepsStream Byte End count ended reset o → k < count → IsByteKept o k → IsByteToCome id_length side t s stream k
  byte_to_come None k is keeps below kept = absurd kept
  byte_to_come (Some h) k is keeps below kept =
      let live = not_reset (is_reset h.state) reset keeps.half.reset_is not in
      let taken = keeps.half.taken in
      record {
        half = h;
        is = is;
        live = live;
        waits_or_out = elim (waits_or_sent h.buffer k (mark_at h.buffer k) refl (omega (arith, taken, below)) kept) [ inl queued ↦ inl queued | inr sent ↦ inr (in_byte k (owed.bytes stream k h is live sent)) ];
      }

  end_to_come : (o : Option PlainSend) → send_at s.streams.send stream ≡ o → KeepsStream Byte End count ended reset o → ended ≡ true → IsEndKept o → IsEndToCome id_length side t s stream
  end_to_come None is keeps was kept = absurd kept
  end_to_come (Some h) is keeps was kept =
      let live = not_reset (is_reset h.state) reset keeps.half.reset_is not in
      record {
        half = h;
        is = is;
        waits_or_out = elim (end_waits_or_sent h.state (keeps.half.end live ∙ was) kept) [ inl queued ↦ inl queued | inr sent ↦ inr (in_end (owed.ends stream h is sent)) ];
      }

-- ---- a half that is gone

none_kept : (X : Type 0) (o : Option PlainSend) (k : ℕ) → o ≡ None → X ⊎ IsByteKept o k → X
none_kept X None k e (inl x) = x
none_kept X None k e (inr there) = absurd there
none_kept X (Some h) k e is = absurd (cc)

none_kept_end : (X : Type 0) (o : Option PlainSend) → o ≡ None → X ⊎ IsEndKept o → X
none_kept_end X None e (inl x) = x
none_kept_end X None e (inr there) = absurd there
none_kept_end X (Some h) e is = absurd (cc)

module _ {S : Type 0} (accepts : AcceptsTag) where
  pub fresh : (c : Inner S) → IsNewSpace c.config c.side c.space → Owes accepts c []
  unfolding Owes
  fresh c is_new =
      let none : (id : ℕ) → send_at c.space.streams.send id ≡ None = λ id. ap (λ (l : List (ℕ × PlainSend)). half_in l id) is_new.no_half.send in (
        [],
        record {
          come = λ p among. absurd among;
          once = tt;
          are = λ up. none_at_first;
          remembers = λ up. is_new.remembers;
          space = λ up. record {
            kept = record {
              streams = λ id. rw (none id) (record { half = tt; bytes = λ not k below. absurd (omega (arith, below)); end = λ not was. absurd (false≢true was) });
              unopened = λ id closed. (none id, refl, refl);
            };
            in_packets = record {
              bytes = λ id n h is live mark. let never = none id in absurd (cc);
              ends = λ id h is e. let never = none id in absurd (cc);
              resets = λ id code h is e. let never = none id in absurd (cc);
              below = λ number q there. let nothing : packet_at [] number ≡ Some q = subst (λ (l : List (ℕ × SentPacket SentFrame)). packet_at l number ≡ Some q) is_new.sent there in absurd (cc);
            };
            out = λ number q f there among. let nothing : packet_at [] number ≡ Some q = subst (λ (l : List (ℕ × SentPacket SentFrame)). packet_at l number ≡ Some q) is_new.sent there in absurd (cc);
          };
        },
      )

  pub still_owed : (c : Inner S) (t : List Act) → is_open c.state ≡ true → Owes accepts c t → KeepsWhatIsOwed accepts c t
  unfolding Owes
  still_owed c t up (accepted, o) =
      let p = o.space up in
      record {
        accepted = accepted;
        are = o.are up;
        come = o.come;
        once = o.once;
        bytes = λ stream offset byte w.
            let below = get_below (written t stream) offset byte w.was_written in
            let keeps = p.kept.streams stream in
            elim (keeps.bytes w.not_reset offset below) [
              | inl a ↦ absurd (w.unacknowledged a.number a.run a.has a.stream_is a.from a.to a.acknowledged)
              | inr kept ↦ byte_to_come _ _ c.space stream (length (written t stream)) (finished t stream) (was_reset t stream) (length c.remote_id) c.side t p.in_packets p.out w.not_reset (send_at c.space.streams.send stream) offset refl keeps below kept
            ];
        ends = λ stream w.
            let keeps = p.kept.streams stream in
            elim (keeps.end w.not_reset w.was_finished) [
              | inl a ↦ absurd (w.unacknowledged a.number a.run a.has a.stream_is a.fin a.acknowledged)
              | inr kept ↦ end_to_come _ _ c.space stream (length (written t stream)) (finished t stream) (was_reset t stream) (length c.remote_id) c.side t p.in_packets p.out w.not_reset (send_at c.space.streams.send stream) refl keeps w.was_finished kept
            ];
        carried = p.out;
      }

  -- a finished stream that wasn't reset, whose half is gone, is confirmed
  pub confirmed : (c : Inner S) (t : List Act) (stream : ℕ) → is_open c.state ≡ true → Owes accepts c t → finished t stream ≡ true → was_reset t stream ≡ false
      → send_at c.space.streams.send stream ≡ None → IsConfirmed accepts c t stream
  unfolding Owes
  confirmed c t stream up (accepted, o) ended kept gone =
      let s = (o.space up).kept.streams stream in
      record {
        accepted = accepted;
        come = o.come;
        bytes = λ k below. none_kept _ (send_at c.space.streams.send stream) k gone (s.bytes kept k below);
        end = none_kept_end _ (send_at c.space.streams.send stream) gone (s.end kept ended);
      }
