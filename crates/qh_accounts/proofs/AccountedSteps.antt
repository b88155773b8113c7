-- Steps of one stream's halves: whether they are there before and after.
use Rattle.std.proofs.Common.{◌≡◌, ◌⊎◌, ℕ, ◌==◌, Bool, true, false, ◌||◌, Option, Some, None, Result, is_some, if◌then◌else◌, refl, sym, ap, ap₂, ◌∙◌, inl, inr}
use Rattle.std.proofs.lemmas.Bool.{cases_Bool}
use Rattle.std.proofs.lemmas.Bool.Decides.{eqb_tells}
use Rattle.qh_buffers.specs.declared.assembler.Chunk.{Chunk}
use Rattle.qh_half.specs.declared.fault.ReadFault.{ReadFault}
use Rattle.qh_half.specs.Send.{PlainSend, is_done as is_send_done}
use Rattle.qh_half.specs.Recv.{PlainRecv, is_done}
use Rattle.qh_halves.specs.RecvHalves.{PlainRecvHalves, recv_at, unless_done, IsRecvAbsent, IsRecvStep, IsBegunRead, Begins, IsLimitAcked, IsLimitLost, IsStopAcked, IsStopLost}
use Rattle.qh_halves.specs.SendHalves.{PlainSendHalves, send_at, IsAbsent, IsSettledBy, IsStep}
use Rattle.qh_halves.specs.SendHalves.IsSettledBy.{absent, on, done}
use Rattle.qh_streams.specs.Streams.{PlainStreams, is_two_way}
use Rattle.qh_accounts.proofs.AccountedLike.{AreAlike, AreStepped, AreSendUndone, AreRecvUndone, counts_same, near_same}
use Rattle.qh_accounts.proofs.PeerIds.{peer_id}

-- ---- one of many halves

one_away : {X : Type 0} (f g : ℕ → Option X) (o : Option X) (id k : ℕ) → g k ≡ (if k == id then o else f k) → (k == id) ≡ false → is_some (g k) ≡ is_some (f k)
one_away f g o id k is apart = let same = rw apart at is in ap is_some same

one_same : {X : Type 0} (f g : ℕ → Option X) (half next : X) (id k : ℕ) → f id ≡ Some half → g k ≡ (if k == id then Some next else f k) → is_some (g k) ≡ is_some (f k)
one_same f g half next id k was is = elim (eqb_tells k id) [
  | inl same ↦ let now = rw same.0 at is in ap is_some now ∙ sym (ap (λ (x : ℕ). is_some (f x)) same.1 ∙ ap is_some was)
  | inr apart ↦ one_away f g (Some next) id k is apart.0
]

pub some_is : {H : Type 0} (a b : H) → Some a ≡ Some b → a ≡ b
some_is a b e = cc

pub none_is_some : {H : Type 0} (X : Type 0) (a : H) → None ≡ Some a → X
none_is_some X a e = absurd (cc)

-- ---- sending halves

-- the same halves are there
pub record AreSendSame (old new : PlainSendHalves) : Type 0 where
  pub same : (k : ℕ) → is_some (send_at new k) ≡ is_some (send_at old k)
  pub undone : AreSendUndone new

-- the half of this stream may go, and no other does
pub record AreSendStepped (old new : PlainSendHalves) (id : ℕ) : Type 0 where
  pub here : is_some (send_at new id) ≡ true → is_some (send_at old id) ≡ true
  pub away : (k : ℕ) → (k == id) ≡ false → is_some (send_at new k) ≡ is_some (send_at old k)
  pub undone : AreSendUndone new

pub same_send : {old new : PlainSendHalves} → new.halves ≡ old.halves → AreSendUndone old → AreSendSame old new
same_send e undone = record { same = λ k. rw e refl; undone = λ k h is. undone k h (rw e at is) }

pub send_same_stepped : {old new : PlainSendHalves} (id : ℕ) → AreSendSame old new → AreSendStepped old new id
send_same_stepped id s = record { here = λ there. sym (s.same id) ∙ there; away = λ k apart. s.same k; undone = s.undone }

-- if one half is another now, or gone, none is done
other_undone : (f g : ℕ → Option PlainSend) (o : Option PlainSend) (h : PlainSend) (id k : ℕ) → ((j : ℕ) (i : PlainSend) → f j ≡ Some i → is_send_done i ≡ false) → (o ≡ Some h → is_send_done h ≡ false)
    → g k ≡ (if k == id then o else f k) → g k ≡ Some h → is_send_done h ≡ false
other_undone f g o h id k undone here is there = elim (cases_Bool (k == id)) [
  | inl same ↦ here (sym (rw same at is) ∙ there)
  | inr apart ↦ undone k h (sym (rw apart at is) ∙ there)
]

pub step_same : {P : PlainSend → PlainSend → Type 0} {old new : PlainSendHalves} {id n : ℕ} → AreSendUndone old → IsStep P old new id n → AreSendSame old new
step_same {old = old} {new = new} {id = id} undone s = record {
  same = λ k. one_same (send_at old) (send_at new) s.half s.next id k s.was (s.is.halves_are k);
  undone = λ k h. other_undone (send_at old) (send_at new) (Some s.next) h id k undone (λ e. rw (← some_is s.next h e) s.is_on) (s.is.halves_are k);
}

pub step_or_same : {P : PlainSend → PlainSend → Type 0} {old new : PlainSendHalves} {id n : ℕ} → AreSendUndone old → IsStep P old new id n ⊎ IsAbsent old new id → AreSendSame old new
step_or_same undone (inl s) = step_same undone s
step_or_same undone (inr a) = same_send (ap (λ (h : PlainSendHalves). h.halves) a.same) undone

pub settled : {P : PlainSend → PlainSend → Type 0} {old new : PlainSendHalves} {id : ℕ} {gone : Bool} → AreSendUndone old → IsSettledBy P old new id gone → AreSendStepped old new id
settled {id = id} undone (absent a) = send_same_stepped id (same_send (ap (λ (h : PlainSendHalves). h.halves) a.same) undone)
settled {id = id} undone (on s) = send_same_stepped id (step_same undone s)
settled {old = old} {new = new} {id = id} undone (done s) = record {
  here = λ there. ap is_some s.was;
  away = λ k apart. one_away (send_at old) (send_at new) None id k (s.is.halves_are k) apart;
  undone = λ k h. other_undone (send_at old) (send_at new) None h id k undone (λ e. none_is_some _ h e) (s.is.halves_are k);
}

-- ---- receiving halves

pub record AreRecvSame (old new : PlainRecvHalves) : Type 0 where
  pub same : (k : ℕ) → is_some (recv_at new k) ≡ is_some (recv_at old k)
  pub undone : AreRecvUndone new

pub record AreRecvStepped (old new : PlainRecvHalves) (id : ℕ) : Type 0 where
  pub here : is_some (recv_at new id) ≡ true → is_some (recv_at old id) ≡ true
  pub away : (k : ℕ) → (k == id) ≡ false → is_some (recv_at new k) ≡ is_some (recv_at old k)
  pub undone : AreRecvUndone new

pub same_recv : {old new : PlainRecvHalves} → new.halves ≡ old.halves → AreRecvUndone old → AreRecvSame old new
same_recv e undone = record { same = λ k. rw e refl; undone = λ k r is. undone k r (rw e at is) }

pub recv_stepped_same : {old new : PlainRecvHalves} (id : ℕ) → AreRecvSame old new → AreRecvStepped old new id
recv_stepped_same id s = record { here = λ there. sym (s.same id) ∙ there; away = λ k apart. s.same k; undone = s.undone }

unless_some : (b : Bool) (n r : PlainRecv) → is_done n ≡ b → (if b then None else Some n) ≡ Some r → is_done r ≡ false
unless_some true n r is e = none_is_some _ r e
unless_some false n r is e = rw (← some_is n r e) is

next_undone : (f g : ℕ → Option PlainRecv) (next r : PlainRecv) (id k : ℕ) → ((j : ℕ) (q : PlainRecv) → f j ≡ Some q → is_done q ≡ false)
    → g k ≡ (if k == id then unless_done next else f k) → g k ≡ Some r → is_done r ≡ false
next_undone f g next r id k undone is there = elim (cases_Bool (k == id)) [
  | inl same ↦ unless_some (is_done next) next r refl (sym (rw same at is) ∙ there)
  | inr apart ↦ undone k r (sym (rw apart at is) ∙ there)
]

pub recv_stepped : {P : PlainRecv → PlainRecv → Type 0} {old new : PlainRecvHalves} {id n : ℕ} → AreRecvUndone old → IsRecvStep P old new id n → AreRecvStepped old new id
recv_stepped {old = old} {new = new} {id = id} undone s = record {
  here = λ there. ap is_some s.was;
  away = λ k apart. one_away (recv_at old) (recv_at new) (unless_done s.next) id k (s.halves_are k) apart;
  undone = λ k r. next_undone (recv_at old) (recv_at new) s.next r id k undone (s.halves_are k);
}

pub recv_stepped_or_none : {P : PlainRecv → PlainRecv → Type 0} {old new : PlainRecvHalves} {id n : ℕ} → AreRecvUndone old → IsRecvStep P old new id n ⊎ IsRecvAbsent old new id → AreRecvStepped old new id
recv_stepped_or_none undone (inl s) = recv_stepped undone s
recv_stepped_or_none {id = id} undone (inr a) = recv_stepped_same id (same_recv (ap (λ (h : PlainRecvHalves). h.halves) a.same) undone)

-- by a step that doesn't end it a half stays
pub recv_kept : {P : PlainRecv → PlainRecv → Type 0} {old new : PlainRecvHalves} {id n : ℕ} → ((r next : PlainRecv) → P r next → is_done next ≡ is_done r) → AreRecvUndone old → IsRecvStep P old new id n
    → AreRecvSame old new
recv_kept {old = old} {new = new} {id = id} keeps undone s =
    let live : is_done s.next ≡ false = keeps s.half s.next s.step ∙ undone id s.half s.was in
    let stays : unless_done s.next ≡ Some s.next = rw live refl in
    record {
      same = λ k. one_same (recv_at old) (recv_at new) s.half s.next id k s.was (s.halves_are k ∙ ap (λ (o : Option PlainRecv). if k == id then o else recv_at old k) stays);
      undone = (recv_stepped undone s).undone;
    }

pub recv_kept_or_none : {P : PlainRecv → PlainRecv → Type 0} {old new : PlainRecvHalves} {id n : ℕ} → ((r next : PlainRecv) → P r next → is_done next ≡ is_done r) → AreRecvUndone old
    → IsRecvStep P old new id n ⊎ IsRecvAbsent old new id → AreRecvSame old new
recv_kept_or_none keeps undone (inl s) = recv_kept keeps undone s
recv_kept_or_none keeps undone (inr a) = same_recv (ap (λ (h : PlainRecvHalves). h.halves) a.same) undone

pub begin_keeps : (ordered : Bool) (r next : PlainRecv) → Begins ordered r next → is_done next ≡ is_done r
begin_keeps ordered r next e = rw e refl

pub limit_acked_keeps : (limit : ℕ) (r next : PlainRecv) → IsLimitAcked limit r next → is_done next ≡ is_done r
limit_acked_keeps limit r next e = rw e refl

pub limit_lost_keeps : (limit : ℕ) (r next : PlainRecv) → IsLimitLost limit r next → is_done next ≡ is_done r
limit_lost_keeps limit r next e = rw e refl

pub stop_acked_keeps : (r next : PlainRecv) → IsStopAcked r next → is_done next ≡ is_done r
stop_acked_keeps r next e = rw e refl

pub stop_lost_keeps : (r next : PlainRecv) → IsStopLost r next → is_done next ≡ is_done r
stop_lost_keeps r next e = rw e refl

-- a read that begins and gives
pub read_stepped : {old new : PlainRecvHalves} {id max_length : ℕ} {ordered : Bool} {answer : Result (Option Chunk) ReadFault} → AreRecvUndone old → IsBegunRead max_length ordered answer old new id → AreRecvStepped old new id
read_stepped {id = id} {ordered = ordered} undone read =
    let begun = recv_kept (begin_keeps ordered) undone read.begun in
    let given = recv_stepped begun.undone read.reads in
    record {
      here = λ there. sym (begun.same id) ∙ given.here there;
      away = λ k apart. given.away k apart ∙ begun.same k;
      undone = given.undone;
    }

-- ---- the streams

pub alike : (old new : PlainStreams) → new.side ≡ old.side → new.bi ≡ old.bi → new.uni ≡ old.uni → AreSendSame old.send new.send → AreRecvSame old.recv new.recv → AreAlike old new
alike old new side_is bi uni send recv = record {
  side_is = side_is;
  live = λ dir n. ap₂ (λ (a b : Bool). a || b) (send.same (peer_id old.side dir n)) (recv.same (peer_id old.side dir n));
  undone_send = send.undone;
  undone_recv = recv.undone;
  counts = λ dir. rw (counts_same old new bi uni (is_two_way dir)) (near_same _);
}

either : (a b c d : Bool) → (a ≡ true → c ≡ true) → (b ≡ true → d ≡ true) → (a || b) ≡ true → (c || d) ≡ true
either true b c d first second e = rw (first refl) refl
either false b true d first second e = refl
either false b false d first second e = second e

pub stepped : (old mid : PlainStreams) (id : ℕ) → mid.side ≡ old.side → mid.bi ≡ old.bi → mid.uni ≡ old.uni → AreSendStepped old.send mid.send id → AreRecvStepped old.recv mid.recv id → AreStepped old mid id
stepped old mid id side_is bi uni send recv = record {
  side_is = side_is;
  bi_is = bi;
  uni_is = uni;
  here = either (is_some (send_at mid.send id)) (is_some (recv_at mid.recv id)) (is_some (send_at old.send id)) (is_some (recv_at old.recv id)) send.here recv.here;
  away = λ k apart. ap₂ (λ (a b : Bool). a || b) (send.away k apart) (recv.away k apart);
  undone_send = send.undone;
  undone_recv = recv.undone;
}
