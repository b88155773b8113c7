-- Calls of a writer: an end keeps within the peer's limits by them.
use Rattle.std.proofs.Common.{◌≡◌, ℕ, ℤ, ◌+◌, ◌-◌, ◌≤◌, List, [], ◌∷◌, ◌++◌, length, min, Some, sym, ap, ◌∙◌, arith, inl, inr}
use Rattle.std.proofs.lemmas.Bool.Decides.{eqb_tells}
use Rattle.std.proofs.lemmas.List.{length-append}
use Rattle.qh_buffers.specs.SendBuffer.{taken_to}
use Rattle.qh_spec.specs.Transcript.{Act, Wrote, Finished, Reset, written}
use Rattle.qh_half.specs.Send.{PlainSend, credit}
use Rattle.qh_halves.specs.SendHalves.{PlainSendHalves, send_at, write_limit, IsStep, Takes, Finishes, IsResetWith, HasPriority}
use Rattle.qh_streams.specs.declared.frames.StreamFrame.{StreamFrame}
use Rattle.qh_streams.specs.Streams.{PlainStreams, first_limit}
use Rattle.qh_streams.proofs.StreamsTracked.{step_goes}
use Rattle.qh_transcript.specs.Within.{KeepsWithin, greatest, stream_given, written_in_all}
use Rattle.qh_transcript.proofs.SendingLists.{wrote_here, wrote_apart, finished_written, reset_nothing}
use Rattle.qh_transcript.proofs.WithinKept.{KeepsTaken, all_behind, restated, others, changed, send_alone, step_shared, taken_as}

-- ---- calls of a writer

finish_keeps : (h next : PlainSend) → Finishes h next → KeepsTaken h next
finish_keeps h next e = taken_as h next (ap (λ (h : PlainSend). h.buffer) e.1) (ap (λ (h : PlainSend). h.max_data) e.1)

reset_keeps : (code : ℕ) (h next : PlainSend) → IsResetWith code h next → KeepsTaken h next
reset_keeps code h next e = taken_as h next (ap (λ (h : PlainSend). h.buffer) e.1) (ap (λ (h : PlainSend). h.max_data) e.1)

priority_keeps : (priority : ℤ) (h next : PlainSend) → HasPriority priority h next → KeepsTaken h next
priority_keeps priority h next e = taken_as h next (ap (λ (h : PlainSend). h.buffer) e) (ap (λ (h : PlainSend). h.max_data) e)

pub finish : (old new : PlainStreams) (frames : List StreamFrame) (t : List Act) (id : ℕ) → IsStep Finishes old.send new.send id 0 → new ≡ record old { send = new.send }
    → KeepsWithin old frames t → KeepsWithin new frames (t ++ Finished id ∷ [])
finish old new frames t id step rest p =
    let all = all_behind t (Finished id ∷ []) in
    restated new frames t (t ++ Finished id ∷ []) (finished_written t id) (omega (arith, all)) (changed old new frames t (step_goes step) (send_alone old new rest) (step_shared step) finish_keeps p)

pub reset : (old new : PlainStreams) (frames : List StreamFrame) (t : List Act) (id code : ℕ) → IsStep (IsResetWith code) old.send new.send id 0 → new ≡ record old { send = new.send }
    → KeepsWithin old frames t → KeepsWithin new frames (t ++ Reset id code ∷ [])
reset old new frames t id code step rest p =
    others new frames t (Reset id code ∷ []) (reset_nothing id code) (changed old new frames t (step_goes step) (send_alone old new rest) (step_shared step) (reset_keeps code) p)

pub prioritized : (old new : PlainStreams) (frames : List StreamFrame) (t : List Act) (id : ℕ) (priority : ℤ) → IsStep (HasPriority priority) old.send new.send id 0 → new ≡ record old { send = new.send }
    → KeepsWithin old frames t → KeepsWithin new frames t
prioritized old new frames t id priority step rest p = changed old new frames t (step_goes step) (send_alone old new rest) (step_shared step) (priority_keeps priority) p

-- within both limits that all streams share, and its own
under_both : (n a b c : ℕ) → n ≤ min (min a b) c → (n ≤ a) × (n ≤ c)
under_both n a b c h = (omega (arith, h), omega (arith, h))

longer : (before more limit bound : ℕ) → more ≤ limit - before → limit ≤ bound → before ≤ bound → before + more ≤ bound
longer before more limit bound fits below was = omega (arith, fits, below, was)

pub wrote : (old new : PlainStreams) (frames : List StreamFrame) (t : List Act) (id taken : ℕ) (bytes : List ℕ) (h : PlainSend) → send_at old.send id ≡ Some h → taken ≡ length bytes
    → taken ≤ credit h (write_limit old.send) → IsStep (Takes bytes) old.send new.send id taken → new ≡ record old { send = new.send } → KeepsWithin old frames t → KeepsWithin new frames (t ++ Wrote id bytes ∷ [])
wrote old new frames t id taken bytes h is taken_is fits step rest p =
    let c = send_alone old new rest in
    let fit = under_both taken (old.send.max_data - old.send.data_sent) _ (h.max_data - taken_to h.buffer) fits in
    let limit = ap (λ (s : PlainSendHalves). s.max_data) step.is.rest_is in
    let sent = ap (λ (s : PlainSendHalves). s.data_sent) step.is.rest_is in
    let goes = step_goes step in
    let half = p.halves id h is in
    let some = all_behind t (Wrote id bytes ∷ []) in
    let all : new.send.data_sent ≡ written_in_all (t ++ Wrote id bytes ∷ []) = omega (arith, some, sent, taken_is, p.taken) in
    let within : old.send.data_sent + taken ≤ old.send.max_data = longer old.send.data_sent taken old.send.max_data old.send.max_data fit.0 (omega arith) p.credit in
    record {
      all_bytes = let most = p.max_data in rw c.peer (omega (arith, all, sent, within, most));
      stream_bytes = λ k. elim (eqb_tells k id) [
        | inl same ↦
            let own = length-append (written t id) bytes in
            let sum = longer (taken_to h.buffer) taken h.max_data (greatest (stream_given id) (first_limit old id) frames) fit.1 half.1 (rw half.0 (p.stream_bytes id)) in
            rw (same.1, c.side, c.peer, wrote_here t id bytes) (omega (arith, own, sum, half.0, taken_is))
        | inr apart ↦ rw (c.side, c.peer, wrote_apart t id k bytes apart.0) (p.stream_bytes k)
      ];
      count = λ b. rw (c.opened b, c.peer) (p.count b);
      max_data = rw (limit, c.peer) p.max_data;
      taken = all;
      credit = rw (sent, limit) within;
      halves = λ k g there. elim (eqb_tells k id) [
        | inl same ↦
            let b = goes.here k g same.0 there in
            let was = p.halves id b.half b.was in
            let held = length-append b.half.buffer.bytes bytes in
            let own = length-append (written t id) bytes in
            rw (same.1, c.side, c.peer, b.step, wrote_here t id bytes) (omega (arith, held, own, was.0), was.1)
        | inr apart ↦ rw (c.side, c.peer, wrote_apart t id k bytes apart.0) (p.halves k g (sym (goes.apart k apart.0) ∙ there))
      ];
      max_opened = λ b. rw (c.max_opened b, c.peer) (p.max_opened b);
    }
