-- With which code a half is reset or stopped, and what a step of one half, and new halves, leave of that.
use Rattle.std.proofs.Common.{◌≡◌, ◌⊎◌, ℕ, ℤ, Bool, true, false, List, Option, Some, None, if◌then◌else◌, refl, sym, ap, ◌∙◌, inl, inr}
use Rattle.std.proofs.lemmas.Bool.{cases_Bool}
use Rattle.std.proofs.lemmas.Bool.Decides.{eqb_tells}
use Rattle.std.specs.Prelude.{Result}
use Rattle.std.specs.Option.{option_map}
use Rattle.qh_arrival.specs.Asked.{IsResetAt, IsStoppedAt}
use Rattle.qh_buffers.specs.declared.assembler.Chunk.{Chunk}
use Rattle.qh_buffers.specs.declared.send_buffer.Mark.{Mark}
use Rattle.qh_buffers.specs.declared.send_buffer.Mark.TheVariants.{Sent, Queued, Acked}
use Rattle.qh_half.specs.Recv.{PlainRecv, IsIngested, IsResetBy, acked_stop, lost_stop, new_recv, new_stop}
use Rattle.qh_half.specs.Recv.IsReadAnswer.{bytes as bytes_read, nothing as nothing_read, end as end_read, reset as reset_read, blocked as none_read, memory as memory_read}
use Rattle.qh_half.specs.Send.{PlainSend, new_send, with_end_acked, with_end_lost, with_end_sent, with_reset_lost, with_reset_mark}
use Rattle.qh_half.specs.declared.fault.ReadFault.{ReadFault}
use Rattle.qh_half.specs.declared.recv.RecvState.{RecvState}
use Rattle.qh_half.specs.declared.recv.RecvState.TheVariants.{Recv, ResetRecvd}
use Rattle.qh_half.specs.declared.recv.StopFrame.{StopFrame}
use Rattle.qh_half.specs.declared.send.Outgoing.{Outgoing}
use Rattle.qh_half.specs.declared.send.ResetFrame.{ResetFrame}
use Rattle.qh_half.specs.declared.send.SendState.{SendState}
use Rattle.qh_half.specs.declared.send.SendState.TheVariants.{Ready, DataSent, ResetSent}
use Rattle.qh_halves.specs.RecvHalves.{Begins, GivesControl, IsLimitAcked, IsLimitLost, IsStopAcked, IsStopLost, Reads, Stops, TakesReset, recv_at}
use Rattle.qh_halves.specs.SendHalves.{Finishes, GivesPiece, GivesReset, HasLimit, HasPriority, IsAcked, IsLost, IsResetAcked, IsResetLost, IsResetWith, IsStoppedWith, Takes, send_at}
use Rattle.qh_halves.specs.declared.recv_halves.StreamControl.TheVariants.{StopSending, MaxStreamData}
use Rattle.qh_streams.proofs.StreamsTracked.{Goes}
use Rattle.qh_streams.specs.Streams.{PlainStreams}
use Rattle.qh_transcript.proofs.ReceivingLists.{some_is}

-- ---- codes of halves

abbrev pub state_code : SendState → Option ℕ
state_code (ResetSent code mark) = Some code
state_code _ = None

abbrev pub frame_code : Option StopFrame → Option ℕ
frame_code None = None
frame_code (Some f) = Some f.code

abbrev pub send_code : PlainSend → Option ℕ
send_code h = state_code h.state

abbrev pub recv_code : PlainRecv → Option ℕ
recv_code r = frame_code r.stop_frame

-- the half has no code but the one that it had before
abbrev pub HasNoNew : {H : Type 0} → (H → Option ℕ) → H → H → Type 0
HasNoNew code_of h next = (code : ℕ) → code_of next ≡ Some code → code_of h ≡ Some code

none_has : (o : Option ℕ) (code : ℕ) → o ≡ None → o ≡ Some code → ⊥
none_has o code none some = cc

-- ---- the halves of streams

module _ {H : Type 0} (code_of : H → Option ℕ) where
  pub record HasCode (at : ℕ → Option H) (k code : ℕ) : Type 0 where
    pub half : H
    pub is : at k ≡ Some half
    pub code_is : code_of half ≡ Some code

  -- what has a code now had it before
  abbrev pub AreCodesOld : (before after : ℕ → Option H) → Type 0
  AreCodesOld before after = (k code : ℕ) → HasCode after k code → HasCode before k code

  pub same_codes : (before after : ℕ → Option H) → ((k : ℕ) → after k ≡ before k) → AreCodesOld before after
  same_codes before after same k code has = record { half = has.half; is = sym (same k) ∙ has.is; code_is = has.code_is }

  pub step_codes : {P : H → H → Type 0} {before after : ℕ → Option H} {id : ℕ} → Goes P before after id → ((h next : H) → P h next → HasNoNew code_of h next) → AreCodesOld before after
  step_codes {id = id} goes keeps k code has = elim (eqb_tells k id) [
    | inl same ↦ let b = goes.here k has.half same.0 has.is in rw same.1 (record { half = b.half; is = b.was; code_is = keeps b.half has.half b.step code has.code_is })
    | inr apart ↦ record { half = has.half; is = sym (goes.apart k apart.0) ∙ has.is; code_is = has.code_is }
  ]

  -- a step that sets the code
  pub set_codes : {P : H → H → Type 0} {before after : ℕ → Option H} {id given : ℕ} → Goes P before after id → ((h next : H) → P h next → (code : ℕ) → code_of next ≡ Some code → code ≡ given)
      → (k code : ℕ) → HasCode after k code → HasCode before k code ⊎ ((k ≡ id) × (code ≡ given))
  set_codes {id = id} goes sets k code has = elim (eqb_tells k id) [
    | inl same ↦ let b = goes.here k has.half same.0 has.is in inr (same.1, sets b.half has.half b.step code has.code_is)
    | inr apart ↦ inl (record { half = has.half; is = sym (goes.apart k apart.0) ∙ has.is; code_is = has.code_is })
  ]

  -- halves that are new have none
  pub new_codes : (before after fresh : ℕ → Option H) (are_new : ℕ → Bool) → ((k : ℕ) → after k ≡ (if are_new k then fresh k else before k)) → ((k : ℕ) (h : H) → fresh k ≡ Some h → code_of h ≡ None) → AreCodesOld before after
  new_codes before after fresh are_new are none k code has = elim (cases_Bool (are_new k)) [
    | inl among ↦ absurd (none_has (code_of has.half) code (none k has.half (sym (rw among at (are k)) ∙ has.is)) has.code_is)
    | inr apart ↦ record { half = has.half; is = sym (rw apart at (are k)) ∙ has.is; code_is = has.code_is }
  ]

-- ---- the same said of streams

reset_state : (s : SendState) (code : ℕ) → state_code s ≡ Some code → (mark : Mark) × (s ≡ ResetSent code mark)
reset_state (ResetSent code mark) given e = (mark, ap (λ (n : ℕ). ResetSent n mark) (some_is code given e))
reset_state Ready given e = absurd (none_has None given refl e)
reset_state (DataSent mark) given e = absurd (none_has None given refl e)

frame_of : (o : Option StopFrame) (code : ℕ) → frame_code o ≡ Some code → (f : StopFrame) × (o ≡ Some f) × (f.code ≡ code)
frame_of None code e = absurd (none_has None code refl e)
frame_of (Some f) code e = (f, refl, some_is f.code code e)

pub reset_has : (s : PlainStreams) (stream code : ℕ) → IsResetAt s stream code → HasCode send_code (send_at s.send) stream code
reset_has s stream code is = record { half = is.half; is = is.is; code_is = ap state_code is.state }

pub has_reset : (s : PlainStreams) (stream code : ℕ) → HasCode send_code (send_at s.send) stream code → IsResetAt s stream code
has_reset s stream code has = let state = reset_state has.half.state code has.code_is in record { half = has.half; is = has.is; mark = state.0; state = state.1 }

pub stop_has : (s : PlainStreams) (stream code : ℕ) → IsStoppedAt s stream code → HasCode recv_code (recv_at s.recv) stream code
stop_has s stream code is = record { half = is.half; is = is.is; code_is = ap frame_code is.frame_is ∙ ap (λ (n : ℕ). Some n) is.code_is }

pub has_stop : (s : PlainStreams) (stream code : ℕ) → HasCode recv_code (recv_at s.recv) stream code → IsStoppedAt s stream code
has_stop s stream code has = let f = frame_of has.half.stop_frame code has.code_is in record { half = has.half; is = has.is; frame = f.0; frame_is = f.1; code_is = f.2 }

-- ---- steps of a sending half

same_send : (h next : PlainSend) → send_code next ≡ send_code h → HasNoNew send_code h next
same_send h next same code is = sym same ∙ is

end_sent : (fin : Bool) (s : SendState) → state_code (if fin then with_end_sent s else s) ≡ state_code s
end_sent false s = refl
end_sent true Ready = refl
end_sent true (DataSent Sent) = refl
end_sent true (DataSent Queued) = refl
end_sent true (DataSent Acked) = refl
end_sent true (ResetSent code mark) = refl

end_lost : (fin : Bool) (s : SendState) → state_code (if fin then with_end_lost s else s) ≡ state_code s
end_lost false s = refl
end_lost true Ready = refl
end_lost true (DataSent Sent) = refl
end_lost true (DataSent Queued) = refl
end_lost true (DataSent Acked) = refl
end_lost true (ResetSent code mark) = refl

end_acked : (fin : Bool) (s : SendState) → state_code (if fin then with_end_acked s else s) ≡ state_code s
end_acked false s = refl
end_acked true Ready = refl
end_acked true (DataSent mark) = refl
end_acked true (ResetSent code mark) = refl

reset_marked : (m : Mark) (s : SendState) → state_code (with_reset_mark m s) ≡ state_code s
reset_marked m Ready = refl
reset_marked m (DataSent mark) = refl
reset_marked m (ResetSent code mark) = refl

lost_marked : (s : SendState) → state_code (with_reset_lost s) ≡ state_code s
lost_marked Ready = refl
lost_marked (DataSent mark) = refl
lost_marked (ResetSent code mark) = refl

pub takes_code : (bytes : List ℕ) (h next : PlainSend) → Takes bytes h next → HasNoNew send_code h next
takes_code bytes h next e = same_send h next (ap send_code e)

pub finish_code : (h next : PlainSend) → Finishes h next → HasNoNew send_code h next
finish_code h next p code is = absurd (none_has (send_code next) code (ap send_code p.1) is)

pub priority_code : (priority : ℤ) (h next : PlainSend) → HasPriority priority h next → HasNoNew send_code h next
priority_code priority h next e = same_send h next (ap send_code e)

pub stopped_code : (reason : ℕ) (h next : PlainSend) → IsStoppedWith reason h next → HasNoNew send_code h next
stopped_code reason h next p = same_send h next (ap send_code p.1)

pub limit_code : (limit : ℕ) (h next : PlainSend) → HasLimit limit h next → HasNoNew send_code h next
limit_code limit h next e = same_send h next (ap send_code e)

pub lost_code : (piece : Outgoing) (h next : PlainSend) → IsLost piece h next → HasNoNew send_code h next
lost_code piece h next p = same_send h next (ap state_code p.state_is ∙ end_lost piece.fin h.state)

pub acked_code : (piece : Outgoing) (h next : PlainSend) → IsAcked piece h next → HasNoNew send_code h next
acked_code piece h next p = same_send h next (ap state_code p.state_is ∙ end_acked piece.fin h.state)

pub reset_lost_code : (h next : PlainSend) → IsResetLost h next → HasNoNew send_code h next
reset_lost_code h next e = same_send h next (ap send_code e ∙ lost_marked h.state)

pub reset_acked_code : (h next : PlainSend) → IsResetAcked h next → HasNoNew send_code h next
reset_acked_code h next e = same_send h next (ap send_code e ∙ reset_marked Acked h.state)

pub gives_code : (room : ℕ) (piece : Outgoing) (h next : PlainSend) → GivesPiece room piece h next → HasNoNew send_code h next
gives_code room piece h next (inl p) = same_send h next (ap state_code p.state_is ∙ end_sent piece.fin h.state)
gives_code room piece h next (inr p) = same_send h next (ap send_code p.new_is ∙ end_sent true h.state)

pub gives_reset_code : (f : ResetFrame) (h next : PlainSend) → GivesReset f h next → HasNoNew send_code h next
gives_reset_code f h next p = same_send h next (ap send_code p.2 ∙ reset_marked Sent h.state)

-- the application's reset sets the code
pub reset_sets : (given : ℕ) (h next : PlainSend) → IsResetWith given h next → (code : ℕ) → send_code next ≡ Some code → code ≡ given
reset_sets given h next p code is = sym (some_is given code (sym (ap send_code p.1) ∙ is))

pub new_send_code : (has : Bool) (limit : ℕ) (h : PlainSend) → (if has then Some (new_send limit) else None) ≡ Some h → send_code h ≡ None
new_send_code true limit h is = sym (ap send_code (some_is (new_send limit) h is))
new_send_code false limit h is = absurd (cc)

-- ---- steps of a receiving half

same_recv : (r next : PlainRecv) → recv_code next ≡ recv_code r → HasNoNew recv_code r next
same_recv r next same code is = sym same ∙ is

acked_frame : (o : Option StopFrame) → frame_code (option_map acked_stop o) ≡ frame_code o
acked_frame None = refl
acked_frame (Some f) = refl

lost_frame : (o : Option StopFrame) → frame_code (option_map lost_stop o) ≡ frame_code o
lost_frame None = refl
lost_frame (Some f) = refl

pub ingested_code : (c : Chunk) (fin : Bool) (fresh : ℕ) (r next : PlainRecv) → IsIngested r next c fin fresh → HasNoNew recv_code r next
ingested_code c fin fresh r next p = same_recv r next (ap recv_code p.rest_is)

pub reset_by_code : (reason size fresh : ℕ) (r next : PlainRecv) → IsResetBy r next reason size fresh → HasNoNew recv_code r next
reset_by_code reason size fresh r next p = same_recv r next (ap recv_code p.rest_is)

pub begins_code : (ordered : Bool) (r next : PlainRecv) → Begins ordered r next → HasNoNew recv_code r next
begins_code ordered r next e = same_recv r next (ap recv_code e)

pub reads_code : (max_length : ℕ) (answer : Result (Option Chunk) ReadFault) (r next : PlainRecv) → Reads max_length answer r next → HasNoNew recv_code r next
reads_code max_length _ r next (bytes_read c some is) = same_recv r next (ap recv_code is.rest_is)
reads_code max_length _ r next (nothing_read none e c empty) = same_recv r next (ap recv_code e)
reads_code max_length _ r next (end_read some waits at_end e) = same_recv r next (ap recv_code e)
reads_code max_length _ r next (reset_read code some is e) = same_recv r next (ap recv_code e)
reads_code max_length _ r next (none_read some waits not_end none e) = same_recv r next (ap recv_code e)
reads_code max_length _ r next (memory_read wants e) = same_recv r next (ap recv_code e)

pub takes_reset_code : (given : Option ℕ) (r next : PlainRecv) → TakesReset given r next → HasNoNew recv_code r next
takes_reset_code given r next p = same_recv r next (ap recv_code p.2)

pub gives_stop_code : (window given : ℕ) (r next : PlainRecv) → GivesControl window (StopSending given) r next → HasNoNew recv_code r next
gives_stop_code window given r next p = same_recv r next (ap recv_code p.2 ∙ sym (ap frame_code p.1))

pub gives_limit_code : (window limit : ℕ) (r next : PlainRecv) → GivesControl window (MaxStreamData limit) r next → HasNoNew recv_code r next
gives_limit_code window limit r next p = same_recv r next (ap recv_code p.2)

pub limit_acked_code : (limit : ℕ) (r next : PlainRecv) → IsLimitAcked limit r next → HasNoNew recv_code r next
limit_acked_code limit r next e = same_recv r next (ap recv_code e)

pub limit_lost_code : (limit : ℕ) (r next : PlainRecv) → IsLimitLost limit r next → HasNoNew recv_code r next
limit_lost_code limit r next e = same_recv r next (ap recv_code e)

pub stop_acked_code : (r next : PlainRecv) → IsStopAcked r next → HasNoNew recv_code r next
stop_acked_code r next e = same_recv r next (ap recv_code e ∙ acked_frame r.stop_frame)

pub stop_lost_code : (r next : PlainRecv) → IsStopLost r next → HasNoNew recv_code r next
stop_lost_code r next e = same_recv r next (ap recv_code e ∙ lost_frame r.stop_frame)

-- the application's stop sets the code
new_frame : (s : RecvState) (given code : ℕ) → frame_code (new_stop s given) ≡ Some code → code ≡ given
new_frame (Recv None) given code e = sym (some_is given code e)
new_frame (Recv (Some size)) given code e = absurd (none_has None code refl e)
new_frame (ResetRecvd size reason) given code e = absurd (none_has None code refl e)

pub stop_sets : (given : ℕ) (r next : PlainRecv) → Stops given r next → (code : ℕ) → recv_code next ≡ Some code → code ≡ given
stop_sets given r next p code is = new_frame r.state given code (sym (ap recv_code p.rest_is) ∙ is)

pub new_recv_code : (has : Bool) (limit : ℕ) (r : PlainRecv) → (if has then Some (new_recv limit) else None) ≡ Some r → recv_code r ≡ None
new_recv_code true limit r is = sym (ap recv_code (some_is (new_recv limit) r is))
new_recv_code false limit r is = absurd (cc)
