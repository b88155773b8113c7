-- A call that answers Pending has no other reply, before it and then.
use Rattle.std.proofs.Common.{◌≡◌, ℕ, zero, suc, Bool, true, false, ◌&&◌, ◌||◌, not, length, Option, Some, None, is_some, if◌then◌else◌, refl, sym, ap, ◌∙◌, inl, inr, subst, eq-eqb}
use Rattle.std.proofs.lemmas.Bool.{and_from, cases_Bool, false≢true}
use Rattle.std.proofs.lemmas.Option.{none-some, same_Some}
use Rattle.qh_base.specs.declared.stream_id.StreamId.{StreamId}
use Rattle.qh_book.proofs.Held.{by_held, never_pending}
use Rattle.qh_book.proofs.Registering.{read_interest}
use Rattle.qh_book.proofs.Replies.{is_waiting}
use Rattle.qh_book.proofs.Turns.{others_wait}
use Rattle.qh_book.specs.Book.{Book, with_recv}
use Rattle.qh_book.specs.Interests.{has_next, has_unread_below, interest_of, is_at_end, is_blocked, is_out_of_order, is_same, read_waits, waits, with_interest}
use Rattle.qh_book.specs.Pages.{RecvPage, is_open, open_recv, unread_at}
use Rattle.qh_book.specs.Receiving.{Reads, in_mode}
use Rattle.qh_book.specs.Step.{Allows, Steps}
use Rattle.qh_book.specs.declared.call.Call.{Call}
use Rattle.qh_book.specs.declared.call.Call.TheVariants as call
use Rattle.qh_book.specs.declared.interest.Interest.{Interest}
use Rattle.qh_book.specs.declared.interest.Interest.TheVariants as waiting
use Rattle.qh_book.specs.declared.reply.Reply.{Reply}
use Rattle.qh_book.specs.declared.reply.Reply.TheVariants as reply

-- ---- a reader that waits does so in its mode

same_below : (o : Bool) (p : RecvPage) (end : ℕ) → has_unread_below (in_mode o p) end ≡ has_unread_below p end
same_below o p zero = refl
same_below o p (suc k) = ap (λ (x : Bool). is_some (unread_at p k) || x) (same_below o p k)

same_next : (o : Bool) (p : RecvPage) → has_next (in_mode o p) o ≡ has_next p o
same_next true p = refl
same_next false p = same_below false p p.unread_to

in_order : (o u : Bool) → (o && u) ≡ false → (o && (u || not o)) ≡ false
in_order true true e = absurd (false≢true (sym e))
in_order true false e = refl
in_order false u e = refl

waits_in_mode : (o : Bool) (p : RecvPage) → is_out_of_order p o ≡ false → is_blocked p o ≡ true → read_waits o (Some (in_mode o p)) ≡ true
waits_in_mode o p can blocked = and_from _ _ (ap not (in_order o p.is_unordered can)) (ap (λ (x : Bool). not (is_some p.reset_code) && (not x && not (is_at_end p))) (same_next o p) ∙ blocked)

open_page : (o : Option RecvPage) (p : RecvPage) → open_recv o ≡ Some p → is_open p.state ≡ true
open_page None p is = absurd (none-some p is)
open_page (Some q) p is = cases (is_open q.state) refl is
  where
    cases : (on : Bool) → is_open q.state ≡ on → (if on then Some q else None) ≡ Some p → is_open p.state ≡ true
    cases true up same = ap (λ (x : RecvPage). is_open x.state) (sym (same_Some q p same)) ∙ up
    cases false up none = absurd (none-some p none)

open_put : (b : Book) (id : ℕ) (q : RecvPage) → is_open q.state ≡ true → open_recv ((with_recv b id q).recvs id) ≡ Some q
open_put b id q on = rw (eq-eqb id id refl) (rw on refl)

abbrev Both : (b m : Book) (i : Interest) → Type 0
Both b m i = (waits b i ≡ true) × (waits m i ≡ true)

reads_wait : (T : Type 0) (b m : Book) (id : StreamId) (max_length : ℕ) (o : Bool) (i : Interest) → b.readers id.0 ≡ true → Reads {T = T} b id max_length o reply.Pending m → interest_of (call.Read id max_length o) ≡ Some i → Both b m i
reads_wait T b m id max_length o i held (inl closed) is = absurd closed.1
reads_wait T b m id max_length o i held (inr h) is =
    let r = h.reads in
    let same : waiting.Read id o ≡ i = same_Some (waiting.Read id o) i (sym (read_interest id max_length o r.1) ∙ is) in
    let now : waits b (waiting.Read id o) ≡ true = is_waiting b (waiting.Read id o) r.3 (and_from _ _ held (ap (read_waits o) h.is_page ∙ and_from _ _ (ap not r.0) r.2)) in
    let page : open_recv ((with_recv b id.0 (in_mode o h.page)).recvs id.0) ≡ Some (in_mode o h.page) = open_put b id.0 (in_mode o h.page) (open_page (b.recvs id.0) h.page h.is_page) in
    let later : waits (with_recv b id.0 (in_mode o h.page)) (waiting.Read id o) ≡ true = is_waiting (with_recv b id.0 (in_mode o h.page)) (waiting.Read id o) r.3 (and_from _ _ held (ap (read_waits o) page ∙ waits_in_mode o h.page r.0 r.2)) in
    let then_is : m ≡ with_recv b id.0 (in_mode o h.page) = h.after ∙ ap (with_recv b id.0) r.4 in
    (subst (λ (j : Interest). waits b j ≡ true) same now, subst (λ (j : Interest). waits m j ≡ true) same (rw then_is later))

-- ---- all calls

stays : (b m : Book) (i j : Interest) → Some j ≡ Some i → waits b j ≡ true → m ≡ b → Both b m i
stays b m i j is w same = let now : waits b i ≡ true = subst (λ (k : Interest). waits b k ≡ true) (same_Some j i is) w in (now, rw same now)

module _ (T : Type 0) (b m : Book) where
  allowed_waits : (c : Call) (i : Interest) → Allows {T = T} b c reply.Pending m → interest_of c ≡ Some i → (i ≡ waiting.HandshakeData → ⊥) → Both b m i
  allowed_waits call.Connecting i h is other = stays b m i waiting.Connecting is h.0 h.1
  allowed_waits call.HandshakeData i h is other = absurd (other (sym (same_Some waiting.HandshakeData i is)))
  allowed_waits (call.Open dir) i h is other = stays b m i (waiting.Open dir) is h.0 h.1
  allowed_waits (call.Accept dir) i h is other = stays b m i (waiting.Accept dir) is h.0 h.1
  allowed_waits (call.Read id max_length o) i h is other = elim (cases_Bool (b.readers id.0)) [
    | inl held ↦ reads_wait T b m id max_length o i held (rw held at h) is
    | inr off ↦ never_pending {T = T} reply.ClosedStream refl (rw off at h).0
  ]
  allowed_waits (call.Write id payload) i h is other = stays b m i (waiting.Write id) is h.0 h.1
  allowed_waits (call.Stopped id) i h is other = stays b m i (waiting.Stopped id) is h.0 h.1
  allowed_waits (call.ReceivedReset id) i h is other = by_held (b.readers id.0)
      (λ (x : (waits b (waiting.ReceivedReset id) ≡ true) × (m ≡ b)). stays b m i (waiting.ReceivedReset id) is x.0 x.1)
      (λ (x : (◌≡◌ {A = Reply T} reply.Pending (reply.Code None)) × (m ≡ b)). never_pending {T = T} (reply.Code None) refl x.0) h
  allowed_waits call.ReadDatagram i h is other = stays b m i waiting.ReadDatagram is h.0 h.1
  allowed_waits (call.SendDatagram payload wait) i h is other = stays b m i (waiting.SendDatagram (length payload)) (ap (λ (w : Bool). if w then Some (waiting.SendDatagram (length payload)) else None) (sym h.0) ∙ is) h.1 h.2
  allowed_waits call.Closed i h is other = stays b m i waiting.Closed is h.0 h.1
  allowed_waits c i h is other = absurd (none-some i is)

with_interest_waits : (b : Book) (o : Option Interest) (i : Interest) → waits (with_interest o b) i ≡ waits b i
with_interest_waits b None i = refl
with_interest_waits b (Some j) i = others_wait b (λ k. b.interests k || is_same j k) i

pub pending_waits : (T : Type 0) (b after : Book) (c : Call) (i : Interest) → Steps {T = T} b c reply.Pending after → interest_of c ≡ Some i → (i ≡ waiting.HandshakeData → ⊥) → (waits b i ≡ true) × (waits after i ≡ true)
pending_waits T b after c i s is other =
    let h = allowed_waits T b s.made c i s.allows is other in
    (h.0, rw s.is_after (with_interest_waits s.made (interest_of c) i ∙ h.1))
