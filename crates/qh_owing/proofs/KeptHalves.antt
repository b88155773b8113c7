-- Steps of a sending half: what wasn't acknowledged before is kept, or is acknowledged by the step.
use Rattle.std.proofs.Common.{◌≡◌, ◌⊎◌, ℕ, ℤ, ◌+◌, ◌-◌, ◌<◌, ◌≤◌, nat_le, nat_lt, Bool, true, false, List, length, Option, Some, None, if◌then◌else◌, refl, sym, ap, subst, ◌∙◌, arith, inl, inr}
use Rattle.std.proofs.lemmas.Bool.{false≢true, and_parts, both_ways, cases_Bool, eqb-true, lt-ltb, le-ltb, ltb-false}
use Rattle.std.proofs.lemmas.List.{length-append}
use borrow.Author.Tests.{leb-true, ltb-true}
use Rattle.qh_buffers.specs.SendBuffer.{PlainSendBuffer, taken_to, mark_at, mark_in, is_queued, is_between, requeued}
use Rattle.qh_buffers.specs.declared.send_buffer.Mark.{Mark}
use Rattle.qh_buffers.specs.declared.send_buffer.Mark.TheVariants.{Sent, Queued, Acked}
use Rattle.qh_half.specs.Send.{PlainSend, IsPieceOut, IsEndOut, IsSentAsTaken, is_done, is_done_in, is_end_acked, is_finished, is_reset, new_send, with_bytes, with_end_acked, with_end_lost, with_end_sent, with_reset_lost, with_reset_mark}
use Rattle.qh_half.specs.declared.send.Outgoing.{Outgoing}
use Rattle.qh_half.specs.declared.send.ResetFrame.{ResetFrame}
use Rattle.qh_half.specs.declared.send.SendState.{SendState}
use Rattle.qh_half.specs.declared.send.SendState.TheVariants.{Ready, DataSent, ResetSent}
use Rattle.qh_halves.specs.SendHalves.{Finishes, GivesPiece, GivesReset, HasLimit, HasPriority, IsAcked, IsLost, IsResetAcked, IsResetLost, IsResetWith, IsStoppedWith}
use Rattle.qh_owing.specs.Owing.{KeepsStream}

-- ---- states

-- it is reset and finished as before, and its end isn't newly acknowledged
pub record IsAlike (s t : SendState) : Type 0 where
  pub reset_is : is_reset t ≡ is_reset s
  pub ended : is_finished t ≡ is_finished s
  pub acked : is_end_acked t ≡ true → is_end_acked s ≡ true

alike : (s : SendState) → IsAlike s s
alike s = record { reset_is = refl; ended = refl; acked = λ e. e }

end_sent : (fin : Bool) (s : SendState) → IsAlike s (if fin then with_end_sent s else s)
end_sent false s = alike s
end_sent true Ready = alike Ready
end_sent true (DataSent Sent) = alike (DataSent Sent)
end_sent true (DataSent Queued) = record { reset_is = refl; ended = refl; acked = λ e. absurd (false≢true e) }
end_sent true (DataSent Acked) = alike (DataSent Acked)
end_sent true (ResetSent code mark) = alike (ResetSent code mark)

end_lost : (fin : Bool) (s : SendState) → IsAlike s (if fin then with_end_lost s else s)
end_lost false s = alike s
end_lost true Ready = alike Ready
end_lost true (DataSent Sent) = record { reset_is = refl; ended = refl; acked = λ e. absurd (false≢true e) }
end_lost true (DataSent Queued) = alike (DataSent Queued)
end_lost true (DataSent Acked) = alike (DataSent Acked)
end_lost true (ResetSent code mark) = alike (ResetSent code mark)

reset_marked : (m : Mark) (s : SendState) → IsAlike s (with_reset_mark m s)
reset_marked m Ready = alike Ready
reset_marked m (DataSent mark) = alike (DataSent mark)
reset_marked m (ResetSent code mark) = record { reset_is = refl; ended = refl; acked = λ e. e }

reset_lost : (s : SendState) → IsAlike s (with_reset_lost s)
reset_lost Ready = alike Ready
reset_lost (DataSent mark) = alike (DataSent mark)
reset_lost (ResetSent code mark) = record { reset_is = refl; ended = refl; acked = λ e. e }

end_acked_alike : (s : SendState) → (is_reset (with_end_acked s) ≡ is_reset s) × (is_finished (with_end_acked s) ≡ is_finished s)
end_acked_alike Ready = (refl, refl)
end_acked_alike (DataSent mark) = (refl, refl)
end_acked_alike (ResetSent code mark) = (refl, refl)

-- ---- steps by which nothing is acknowledged

pub record IsQuiet (h next : PlainSend) : Type 0 where
  pub taken : taken_to next.buffer ≡ taken_to h.buffer
  pub acked : (k : ℕ) → mark_at next.buffer k ≡ Some Acked → mark_at h.buffer k ≡ Some Acked
  pub sent_of : IsSentAsTaken h.buffer → IsSentAsTaken next.buffer
  pub state : IsAlike h.state next.state

same_buffer : (h next : PlainSend) (t : SendState) → next.state ≡ t → next.buffer ≡ h.buffer → IsAlike h.state t → IsQuiet h next
same_buffer h next t state_is same a = record {
  taken = ap taken_to same;
  acked = λ k e. rw same at e;
  sent_of = λ s. rw same s;
  state = rw state_is a;
}

between_parts : (from to k : ℕ) → is_between from to k ≡ true → (from ≤ k) × (k < to)
between_parts from to k e = let p = and_parts (nat_le from k) (nat_lt k to) e in (leb-true from k p.0, ltb-true k to p.1)

-- what waits was taken, where nothing was sent but what was taken
pub waits_before : (v : PlainSendBuffer) (k : ℕ) → IsSentAsTaken v → is_queued v k ≡ true → k < taken_to v
waits_before v k sent waits = elim (cases_Bool (nat_lt k (taken_to v))) [
  | inl low ↦ ltb-true k (taken_to v) low
  | inr high ↦ absurd (both_ways (is_queued v k) (not_waiting high) waits)
] where
  not_waiting : nat_lt k (taken_to v) ≡ false → is_queued v k ≡ false
  not_waiting high = rw (sent k (ltb-false k (taken_to v) high)) high

sent_marks : (b : Bool) (m : Option Mark) → (if b then Some Sent else m) ≡ Some Acked → m ≡ Some Acked
sent_marks true m e = absurd (cc)
sent_marks false m e = e

lost_marks : (b : Bool) (m : Option Mark) → (if b then requeued m else m) ≡ Some Acked → m ≡ Some Acked
lost_marks true None e = absurd (cc)
lost_marks true (Some Sent) e = absurd (cc)
lost_marks true (Some Queued) e = absurd (cc)
lost_marks true (Some Acked) e = refl
lost_marks false m e = e

lost_none : (b : Bool) (m : Option Mark) → m ≡ None → (if b then requeued m else m) ≡ None
lost_none true m e = ap requeued e
lost_none false m e = e

pub priority_quiet : (priority : ℤ) (h next : PlainSend) → HasPriority priority h next → IsQuiet h next
priority_quiet priority h next e = same_buffer h next h.state (ap (λ (h : PlainSend). h.state) e) (ap (λ (h : PlainSend). h.buffer) e) (alike h.state)

pub stopped_quiet : (code : ℕ) (h next : PlainSend) → IsStoppedWith code h next → IsQuiet h next
stopped_quiet code h next p = same_buffer h next h.state (ap (λ (h : PlainSend). h.state) p.1) (ap (λ (h : PlainSend). h.buffer) p.1) (alike h.state)

pub limit_quiet : (limit : ℕ) (h next : PlainSend) → HasLimit limit h next → IsQuiet h next
limit_quiet limit h next e = same_buffer h next h.state (ap (λ (h : PlainSend). h.state) e) (ap (λ (h : PlainSend). h.buffer) e) (alike h.state)

pub gives_reset_quiet : (frame : ResetFrame) (h next : PlainSend) → GivesReset frame h next → IsQuiet h next
gives_reset_quiet frame h next p = same_buffer h next _ (ap (λ (h : PlainSend). h.state) p.2) (ap (λ (h : PlainSend). h.buffer) p.2) (reset_marked Sent h.state)

pub reset_lost_quiet : (h next : PlainSend) → IsResetLost h next → IsQuiet h next
reset_lost_quiet h next e = same_buffer h next _ (ap (λ (h : PlainSend). h.state) e) (ap (λ (h : PlainSend). h.buffer) e) (reset_lost h.state)

pub reset_acked_quiet : (h next : PlainSend) → IsResetAcked h next → IsQuiet h next
reset_acked_quiet h next e = same_buffer h next _ (ap (λ (h : PlainSend). h.state) e) (ap (λ (h : PlainSend). h.buffer) e) (reset_marked Acked h.state)

-- the bytes that are handed out were taken
pub out_within : (h next : PlainSend) (room from to : ℕ) (fin : Bool) → IsPieceOut h next room from to fin → IsSentAsTaken h.buffer → to ≤ taken_to h.buffer
out_within h next room from to fin p sent =
    let some = p.bytes_are.some in
    let last : (to - 1) < taken_to h.buffer = waits_before h.buffer (to - 1) sent (p.bytes_are.queued (to - 1) (omega (arith, some)) (omega (arith, some))) in
    omega (arith, last)

piece_quiet : (room from to : ℕ) (fin : Bool) (h next : PlainSend) → IsPieceOut h next room from to fin → IsQuiet h next
piece_quiet room from to fin h next p =
    let out = p.bytes_are in
    let same : taken_to next.buffer ≡ taken_to h.buffer = rw (out.start_is, out.bytes_are) refl in
    record {
      taken = same;
      acked = λ k e. sent_marks (is_between from to k) (mark_at h.buffer k) (sym (out.marks k) ∙ e);
      sent_of = λ sent k beyond.
          let within = out_within h next room from to fin p sent in
          out.marks k ∙ (elim (cases_Bool (is_between from to k)) [
            | inl b ↦ let parts = between_parts from to k b in let low = parts.1 in absurd (omega (arith, low, within, same, beyond))
            | inr b ↦ ap (λ (x : Bool). if x then Some Sent else mark_at h.buffer k) b ∙ sent k (omega (arith, same, beyond))
          ]);
      state = rw (p.state_is) (end_sent fin h.state);
    }

end_quiet : (from to : ℕ) (fin : Bool) (h next : PlainSend) → IsEndOut h next from to fin → IsQuiet h next
end_quiet from to fin h next p = same_buffer h next _ (ap (λ (h : PlainSend). h.state) p.new_is) (ap (λ (h : PlainSend). h.buffer) p.new_is) (end_sent true h.state)

pub gives_piece_quiet : (room : ℕ) (piece : Outgoing) (h next : PlainSend) → GivesPiece room piece h next → IsQuiet h next
gives_piece_quiet room piece h next (inl p) = piece_quiet room piece.offsets.start piece.offsets.end piece.fin h next p
gives_piece_quiet room piece h next (inr p) = end_quiet piece.offsets.start piece.offsets.end piece.fin h next p

pub lost_quiet : (piece : Outgoing) (h next : PlainSend) → IsLost piece h next → IsQuiet h next
lost_quiet piece h next p = elim (cases_Bool (is_reset h.state)) [
  | inl gone ↦ let same = p.kept gone in same_buffer h next h.state (ap (λ (h : PlainSend). h.state) same) (ap (λ (h : PlainSend). h.buffer) same) (alike h.state)
  | inr live ↦
      let q = p.bytes_are live in
      let same : taken_to next.buffer ≡ taken_to h.buffer = rw (q.start_is, q.bytes_are) refl in
      let from = piece.offsets.start in
      let to = piece.offsets.end in
      record {
        taken = same;
        acked = λ k e. lost_marks (is_between from to k) (mark_at h.buffer k) (sym (q.marks k) ∙ e);
        sent_of = λ sent k beyond. q.marks k ∙ lost_none (is_between from to k) (mark_at h.buffer k) (sent k (omega (arith, same, beyond)));
        state = rw (p.state_is) (end_lost piece.fin h.state);
      }
]

-- ---- what a stream keeps

module _ (Byte : ℕ → Type 0) (End : Type 0) (count : ℕ) (ended reset : Bool) where
  abbrev Keeps : Option PlainSend → Type 0
  Keeps o = KeepsStream Byte End count ended reset o

  quiet_end : (h next : PlainSend) → IsQuiet h next → is_end_acked h.state ≡ false → is_end_acked next.state ≡ false
  quiet_end h next q before = elim (cases_Bool (is_end_acked next.state)) [
    | inl acked ↦ absurd (both_ways (is_end_acked h.state) before (q.state.acked acked))
    | inr not ↦ not
  ]

  pub quiet_keeps : (h next : PlainSend) → IsQuiet h next → Keeps (Some h) → Keeps (Some next)
  quiet_keeps h next q k = record {
    half = record {
      taken = q.taken ∙ k.half.taken;
      sent_of = q.sent_of k.half.sent_of;
      end = λ live. q.state.ended ∙ k.half.end (sym q.state.reset_is ∙ live);
      reset_is = λ gone. k.half.reset_is (sym q.state.reset_is ∙ gone);
    };
    bytes = λ live n below. elim (k.bytes live n below) [ inl acked ↦ inl acked | inr kept ↦ inr (λ e. kept (q.acked n e)) ];
    end = λ live fin. elim (k.end live fin) [ inl acked ↦ inl acked | inr kept ↦ inr (quiet_end h next q kept) ];
  }

  -- a piece is acknowledged, where its bytes and its end are
  pub acked_keeps : (piece : Outgoing) (h next : PlainSend) → IsAcked piece h next → piece.offsets.end ≤ count
      → ((k : ℕ) → piece.offsets.start ≤ k → k < piece.offsets.end → Byte k) → (piece.fin ≡ true → End) → Keeps (Some h) → Keeps (Some next)
  acked_keeps piece h next p within bytes fin k = elim (cases_Bool (is_reset h.state)) [
    | inl gone ↦ subst (λ (g : PlainSend). Keeps (Some g)) (sym (p.kept gone)) k
    | inr live ↦
        let a = p.bytes_are live in
        let from = piece.offsets.start in
        let to = piece.offsets.end in
        let state = acked_state piece.fin h.state in
        record {
          half = record {
            taken = a.taken_is ∙ k.half.taken;
            sent_of = λ n beyond.
                let same = a.taken_is in
                let all = k.half.taken in
                a.marks n ∙ (elim (cases_Bool (is_between from to n)) [
                  | inl b ↦ let low = (between_parts from to n b).1 in absurd (omega (arith, low, within, same, all, beyond))
                  | inr b ↦ ap (λ (x : Bool). if x then Some Acked else mark_at h.buffer n) b ∙ k.half.sent_of n (omega (arith, same, beyond))
                ]);
            end = λ live_now. ap is_finished p.state_is ∙ state.1 ∙ k.half.end live;
            reset_is = λ gone. absurd (both_ways (is_reset h.state) live (sym state.0 ∙ sym (ap is_reset p.state_is) ∙ gone));
          };
          bytes = λ not n below. elim (cases_Bool (is_between from to n)) [
            | inl b ↦ let parts = between_parts from to n b in inl (bytes n parts.0 parts.1)
            | inr b ↦ elim (k.bytes not n below) [
              | inl acked ↦ inl acked
              | inr kept ↦ inr (λ e. kept (sym (ap (λ (x : Bool). if x then Some Acked else mark_at h.buffer n) b) ∙ (sym (a.marks n) ∙ e)))
            ]
          ];
          end = λ not was. elim (cases_Bool piece.fin) [
            | inl e ↦ inl (fin e)
            | inr e ↦ elim (k.end not was) [
              | inl acked ↦ inl acked
              | inr kept ↦ inr (ap is_end_acked (p.state_is ∙ ap (λ (x : Bool). if x then with_end_acked h.state else h.state) e) ∙ kept)
            ]
          ];
        }
  ] where
    acked_state : (f : Bool) (s : SendState) → (is_reset (if f then with_end_acked s else s) ≡ is_reset s) × (is_finished (if f then with_end_acked s else s) ≡ is_finished s)
    acked_state true s = end_acked_alike s
    acked_state false s = (refl, refl)

  done_is : (s : SendState) (n : ℕ) → is_done_in s n ≡ true → ((is_end_acked s ≡ true) × (n ≡ 0)) ⊎ (is_reset s ≡ true)
  done_is Ready n e = absurd (false≢true e)
  done_is (DataSent Sent) n e = absurd (false≢true e)
  done_is (DataSent Queued) n e = absurd (false≢true e)
  done_is (DataSent Acked) n e = inl (refl, eqb-true n 0 e)
  done_is (ResetSent code Sent) n e = absurd (false≢true e)
  done_is (ResetSent code Queued) n e = absurd (false≢true e)
  done_is (ResetSent code Acked) n e = inr refl

  -- a half that is done keeps nothing
  pub gone_keeps : (h : PlainSend) → is_done h ≡ true → Keeps (Some h) → Keeps None
  gone_keeps h done k = elim (done_is h.state (length h.buffer.bytes) done) [
    | inl all ↦ record {
      half = tt;
      bytes = λ not n below. elim (k.bytes not n below) [
        | inl acked ↦ inl acked
        | inr kept ↦
            let empty = all.1 in
            let taken = k.half.taken in
            let low : n < h.buffer.start = omega (arith, empty, taken, below) in
            absurd (kept (ap (λ (b : Bool). if b then Some Acked else mark_in h.buffer.pieces n) (lt-ltb n h.buffer.start low)))
      ];
      end = λ not was. elim (k.end not was) [ inl acked ↦ inl acked | inr kept ↦ absurd (both_ways (is_end_acked h.state) kept all.0) ];
    }
    | inr gone ↦ record {
      half = tt;
      bytes = λ not n below. absurd (both_ways reset not (k.half.reset_is gone));
      end = λ not was. absurd (both_ways reset not (k.half.reset_is gone));
    }
  ]

  -- a half is new, of a stream on which nothing was done
  pub new_keeps : (limit : ℕ) → count ≡ 0 → ended ≡ false → Keeps (Some (new_send limit))
  new_keeps limit none unended = record {
    half = record { taken = sym none; sent_of = λ k from. rw (le-ltb k 0 (omega arith)) refl; end = λ live. sym unended; reset_is = λ e. absurd (false≢true e) };
    bytes = λ not n below. absurd (omega (arith, none, below));
    end = λ not was. absurd (both_ways ended unended was);
  }

-- ---- calls of a writer

module _ (Byte : ℕ → Type 0) (End : Type 0) (count : ℕ) (ended reset : Bool) (h : PlainSend) (k : KeepsStream Byte End count ended reset (Some h)) where
  pub wrote_keeps : (bytes : List ℕ) → KeepsStream Byte End (count + length bytes) ended reset (Some (with_bytes h bytes))
  wrote_keeps bytes =
      let sum = length-append h.buffer.bytes bytes in
      let taken = k.half.taken in
      record {
        half = record { taken = omega (arith, sum, taken); sent_of = λ n beyond. k.half.sent_of n (omega (arith, sum, beyond)); end = k.half.end; reset_is = k.half.reset_is };
        bytes = λ not n below. elim (cases_Bool (nat_lt n count)) [
          | inl low ↦ k.bytes not n (ltb-true n count low)
          | inr high ↦ inr (λ e. let taken = k.half.taken in let beyond = ltb-false n count high in let none = k.half.sent_of n (omega (arith, taken, beyond)) in absurd (cc))
        ];
        end = k.end;
      }

  pub finished_keeps : (next : PlainSend) → Finishes h next → KeepsStream Byte End count true reset (Some next)
  finished_keeps next p = subst (λ (g : PlainSend). KeepsStream Byte End count true reset (Some g)) (sym p.1) (record {
    half = record { taken = k.half.taken; sent_of = k.half.sent_of; end = λ live. refl; reset_is = λ e. absurd (false≢true e) };
    bytes = k.bytes;
    end = λ not was. inr refl;
  })

  pub reset_keeps : (code : ℕ) (next : PlainSend) → IsResetWith code h next → KeepsStream Byte End count ended true (Some next)
  reset_keeps code next p = subst (λ (g : PlainSend). KeepsStream Byte End count ended true (Some g)) (sym p.1) (record {
    half = record { taken = k.half.taken; sent_of = k.half.sent_of; end = λ e. absurd (false≢true (sym e)); reset_is = λ e. refl };
    bytes = λ not. absurd (false≢true (sym not));
    end = λ not. absurd (false≢true (sym not));
  })
