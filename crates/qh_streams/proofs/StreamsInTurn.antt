-- Streams are served in order: who gives a frame waited, who waits later waited before, and priorities stay.
use Rattle.std.proofs.Common.{◌≡◌, ℕ, Bool, true, false, List, [], ◌∷◌, Some, None, refl, sym, ap, ◌∙◌, arith, inl, inr}
use Rattle.std.proofs.lemmas.Bool.{false≢true}
use Rattle.std.proofs.lemmas.Bool.Decides.{eqb_tells}
use Rattle.qh_spec.specs.Lists.{In}
use Rattle.qh_half.specs.declared.send.SendState.{SendState}
use Rattle.qh_half.specs.declared.send.SendState.TheVariants.{Ready, DataSent, ResetSent}
use Rattle.qh_streams.specs.declared.frames.SentFrame.{SentFrame}
use Rattle.qh_halves.specs.declared.counts.StreamCounts.{StreamCounts}
use Rattle.qh_halves.specs.declared.send_halves.Transmission.{Transmission}
use Rattle.qh_halves.specs.declared.send_halves.Transmission.TheVariants.{Stream, Reset}
use Rattle.qh_half.specs.Send.{PlainSend, Waits, is_reset, is_end_queued}
use Rattle.qh_halves.specs.SendHalves.{PlainSendHalves, send_at, half_priority, Gives, IsSentNext}
use Rattle.qh_streams.specs.Streams.{PlainStreams, with_counts, IsHandedOver, AreWritten}
use Rattle.qh_streams.specs.Streams.AreWritten.{none as none_written, more as more_written}
use Rattle.qh_streams.specs.Streams.IsHandedOver.{stream as stream_handed, reset as reset_handed, stop as stop_handed, max_stream_data as max_stream_data_handed, max_data as max_data_handed, max_streams as max_streams_handed}
use Rattle.qh_streams.specs.Turns.{sender_of, ComesNotBefore, AreInTurn, WaitsAt, NoneIsPassed}

-- ---- a step of one half

end_is_no_reset : (state : SendState) → is_end_queued state ≡ true → is_reset state ≡ false
end_is_no_reset Ready e = refl
end_is_no_reset (DataSent mark) e = refl
end_is_no_reset (ResetSent code mark) e = absurd (false≢true e)

-- what gives a frame waited
gives_waits : (room : ℕ) (t : Transmission) (h next : PlainSend) → Gives room t h next → Waits h
gives_waits room (Stream out) h next (inl p) = inl (p.not_reset, λ none. absurd (false≢true (sym (none out.offsets.start) ∙ p.bytes_are.queued out.offsets.start (omega arith) p.bytes_are.some)))
gives_waits room (Stream out) h next (inr p) = inl (end_is_no_reset h.state p.queued, λ _. p.queued)
gives_waits room (Reset f) h next p = inr (rw p.0 refl)

gives_priority : (room : ℕ) (t : Transmission) (h next : PlainSend) → Gives room t h next → next.priority ≡ h.priority
gives_priority room (Stream out) h next (inl p) = ap (λ (h : PlainSend). h.priority) p.rest_is
gives_priority room (Stream out) h next (inr p) = ap (λ (h : PlainSend). h.priority) p.new_is
gives_priority room (Reset f) h next p = ap (λ (h : PlainSend). h.priority) p.2

module _ (old new : PlainSendHalves) (room id : ℕ) (t : Transmission) (next : IsSentNext old new room id t) where
  sender_is : WaitsAt old id
  sender_is = record { half = next.step.half; was = next.step.was; waits = gives_waits room t next.step.half next.step.next next.step.step }

  sent_waits : (k : ℕ) → WaitsAt new k → WaitsAt old k
  sent_waits k w = elim (eqb_tells k id) [
    | inl same ↦ rw same.1 sender_is
    | inr apart ↦ record { half = w.half; was = rw apart.0 at (sym (next.step.is.halves_are k)) ∙ w.was; waits = w.waits }
  ]

  sent_priority : (k : ℕ) → half_priority (send_at new k) ≡ half_priority (send_at old k)
  sent_priority k = elim (eqb_tells k id) [
    | inl same ↦ rw (next.step.is.halves_are k, same.0, same.1, next.step.was) (ap Some (gives_priority room t next.step.half next.step.next next.step.step))
    | inr apart ↦ rw (next.step.is.halves_are k, apart.0) refl
  ]

  sent_first : (k : ℕ) → WaitsAt old k → ComesNotBefore old k id
  sent_first k w = elim (eqb_tells k id) [
    | inl same ↦ inl same.1
    | inr apart ↦ inr (rw (next.step.was, w.was) (next.is_first k w.half w.was w.waits apart.0))
  ]

-- ---- a frame that is handed over

counts_send : (s : PlainStreams) (two_way : Bool) (c : StreamCounts) → (with_counts s two_way c).send ≡ s.send
counts_send s true c = refl
counts_send s false c = refl

-- it comes of a half, or the sending halves are as they were
pub data Comes (old new : PlainStreams) (f : SentFrame) : Type 0 where
  of_half : (room id : ℕ) (t : Transmission) → sender_of f ≡ Some id → IsSentNext old.send new.send room id t → Comes old new f
  of_none : sender_of f ≡ None → new.send ≡ old.send → Comes old new f

pub comes : (old new : PlainStreams) (room : ℕ) (f : SentFrame) → IsHandedOver old new room f → Comes old new f
comes old new room f (stream_handed id piece next rest) = of_half _ id.0 (Stream piece) refl next
comes old new room f (reset_handed id reset next rest) = of_half _ id.0 (Reset reset) refl next
comes old new room f (stop_handed id code step rest) = of_none refl (ap (λ (s : PlainStreams). s.send) rest)
comes old new room f (max_stream_data_handed id limit step rest) = of_none refl (ap (λ (s : PlainStreams). s.send) rest)
comes old new room f (max_data_handed limit is due rest) = of_none refl (ap (λ (s : PlainStreams). s.send) rest)
comes old new room f (max_streams_handed dir count is due rest) = of_none refl (ap (λ (s : PlainStreams). s.send) rest ∙ counts_send old _ _)

pub come_waits : (old new : PlainStreams) (f : SentFrame) → Comes old new f → (k : ℕ) → WaitsAt new.send k → WaitsAt old.send k
come_waits old new f (of_half room id t is next) k w = sent_waits old.send new.send room id t next k w
come_waits old new f (of_none is same) k w = rw same at w

come_priority : (old new : PlainStreams) (f : SentFrame) → Comes old new f → (k : ℕ) → half_priority (send_at new.send k) ≡ half_priority (send_at old.send k)
come_priority old new f (of_half room id t is next) k = sent_priority old.send new.send room id t next k
come_priority old new f (of_none is same) k = rw same refl

sender_waits : (old new : PlainStreams) (f : SentFrame) → Comes old new f → (id : ℕ) → sender_of f ≡ Some id → WaitsAt old.send id
sender_waits old new f (of_half room k t is next) id e = let same : k ≡ id = cc in rw (← same) (sender_is old.send new.send room k t next)
sender_waits old new f (of_none is same) id e = cc

come_first : (old new : PlainStreams) (f : SentFrame) → Comes old new f → (id k : ℕ) → sender_of f ≡ Some id → WaitsAt old.send k → ComesNotBefore old.send k id
come_first old new f (of_half room j t is next) id k e w = let same : j ≡ id = cc in rw (← same) (sent_first old.send new.send room j t next k w)
come_first old new f (of_none is same) id k e w = cc

-- ---- frame after frame

waits_before : (room : ℕ) (old new : PlainStreams) (fs : List SentFrame) (bytes : List ℕ) → AreWritten room old new fs bytes → (k : ℕ) → WaitsAt new.send k → WaitsAt old.send k
waits_before room old new fs bytes (none_written _ _) k w = w
waits_before room old new fs bytes (more_written _ _ mid _ f _ rest handed fits back others) k w =
    come_waits old mid f (comes old mid room f handed) k (waits_before _ mid new _ rest others k w)

later_waits : (room : ℕ) (old new : PlainStreams) (fs : List SentFrame) (bytes : List ℕ) → AreWritten room old new fs bytes
    → (g : SentFrame) (k : ℕ) → In g fs → sender_of g ≡ Some k → WaitsAt old.send k
later_waits room old new fs bytes (none_written _ _) g k there e = absurd there
later_waits room old new fs bytes (more_written _ _ mid _ f _ rest handed fits back others) g k (inl same) e =
    sender_waits old mid f (comes old mid room f handed) k (ap sender_of same ∙ e)
later_waits room old new fs bytes (more_written _ _ mid _ f _ rest handed fits back others) g k (inr there) e =
    come_waits old mid f (comes old mid room f handed) k (later_waits _ mid new _ rest others g k there e)

not_before : (a b : PlainSendHalves) → ((k : ℕ) → half_priority (send_at a k) ≡ half_priority (send_at b k)) → (k id : ℕ) → ComesNotBefore a k id → ComesNotBefore b k id
not_before a b same k id (inl e) = inl e
not_before a b same k id (inr e) = inr (rw (← same id, ← same k) e)

in_turn : (a b : PlainSendHalves) → ((k : ℕ) → half_priority (send_at a k) ≡ half_priority (send_at b k)) → (fs : List SentFrame) → AreInTurn a fs → AreInTurn b fs
in_turn a b same [] h = tt
in_turn a b same (f ∷ fs) h = (λ g id k there from to. not_before a b same k id (h.0 g id k there from to), in_turn a b same fs h.1)

pub written_in_turn : (room : ℕ) (old new : PlainStreams) (fs : List SentFrame) (bytes : List ℕ) → AreWritten room old new fs bytes → AreInTurn old.send fs
written_in_turn room old new fs bytes (none_written _ _) = tt
written_in_turn room old new fs bytes (more_written _ _ mid _ f more rest handed fits back others) =
    let from = comes old mid room f handed in (
      λ g id k there from_is to_is. come_first old mid f from id k from_is (come_waits old mid f from k (later_waits _ mid new more rest others g k there to_is)),
      in_turn mid.send old.send (come_priority old mid f from) more (written_in_turn _ mid new more rest others),
    )

pub none_passed : (room : ℕ) (old new : PlainStreams) (fs : List SentFrame) (bytes : List ℕ) → AreWritten room old new fs bytes → NoneIsPassed old.send new.send fs
none_passed room old new fs bytes (none_written _ _) g id k there e w = absurd there
none_passed room old new fs bytes (more_written _ _ mid _ f more rest handed fits back others) g id k (inl same) e w =
    let from = comes old mid room f handed in
    come_first old mid f from id k (ap sender_of same ∙ e) (come_waits old mid f from k (waits_before _ mid new more rest others k w))
none_passed room old new fs bytes (more_written _ _ mid _ f more rest handed fits back others) g id k (inr there) e w =
    not_before mid.send old.send (come_priority old mid f (comes old mid room f handed)) k id (none_passed _ mid new more rest others g id k there e w)
