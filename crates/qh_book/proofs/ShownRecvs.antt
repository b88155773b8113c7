-- The book shows the receiving halves once one of them is another one.
use Rattle.std.proofs.Common.{◌≡◌, ℕ, zero, suc, ◌+◌, ◌-◌, ◌==◌, ◌^◌, min, Bool, true, false, ◌&&◌, not, Option, Some, None, is_some, if◌then◌else◌, refl, sym, ap, ◌∙◌, arith, inl, inr, subst}
use Rattle.std.proofs.lemmas.Bool.{cases_order, eqb-true, false≢true, le-ltb, lt-ltb}
use Rattle.std.proofs.lemmas.Option.{none-some}
use Rattle.qh_book.specs.Book.{Book, with_recv}
use Rattle.qh_book.specs.Interests.{has_next, has_unread_below, is_at_end, is_size}
use Rattle.qh_book.specs.Pages.{RecvPage, is_open, open_recv, unread_at}
use Rattle.qh_book.specs.Shown.{IsNoted, Note, ShowsHalf, ShowsReading, ShowsRecv, ShowsSend, ShowsStreams, noted, tally_of}
use Rattle.qh_buffers.proofs.RangeCounts.{front_has}
use Rattle.qh_buffers.specs.Assembler.{HasNothing, read_to, to_give, was_given}
use Rattle.qh_half.specs.Recv.{PlainRecv, WaitsForMore, bytes_read, ends_at, final_size, is_at_end as is_half_at_end, is_done, reset_code}
use Rattle.qh_half.specs.declared.recv.RecvState.{RecvState as HalfState}
use Rattle.qh_half.specs.declared.recv.RecvState.TheVariants.{Recv, ResetRecvd}
use Rattle.qh_halves.specs.Counts.{has_recv, has_send, is_bi, is_own}
use Rattle.qh_halves.specs.RecvHalves.{PlainRecvHalves, recv_at}
use Rattle.qh_halves.specs.SendHalves.{PlainSendHalves, send_at, unacked}
use Rattle.qh_spec.specs.declared.sides.Side.{Side}
use Rattle.qh_streams.specs.declared.frames.PeerLimits.{PeerLimits}
use Rattle.qh_streams.specs.Streams.{PlainStreams, counted_closed, counts_of, is_live, with_counts}

-- ---- nothing but the receiving halves changed, and what the book doesn't have

pub record RecvAlone (old new : PlainStreams) : Type 0 where
  pub side : new.side ≡ old.side
  pub send : new.send ≡ old.send
  pub peer : new.peer ≡ old.peer
  pub bi : tally_of new.bi ≡ tally_of old.bi
  pub uni : tally_of new.uni ≡ tally_of old.uni

closed_alone : (s : PlainStreams) (r : PlainRecvHalves) (id : ℕ) (live : Bool) → RecvAlone s (counted_closed (record s { recv = r }) id live)
closed_alone s r id live = cases (not (is_own s.side id) && (live && not (is_live (record s { recv = r }) id))) (is_bi id)
  where
    cases : (more two_way : Bool) → RecvAlone s (if more then with_counts (record s { recv = r }) two_way (record (counts_of (record s { recv = r }) two_way) { closed = min (2 ^ 64 - 1) ((counts_of (record s { recv = r }) two_way).closed + 1) }) else record s { recv = r })
    cases true true = record { side = refl; send = refl; peer = refl; bi = refl; uni = refl }
    cases true false = record { side = refl; send = refl; peer = refl; bi = refl; uni = refl }
    cases false two_way = record { side = refl; send = refl; peer = refl; bi = refl; uni = refl }

pub recv_closed : (old new : PlainStreams) (r : PlainRecvHalves) (id : ℕ) (live : Bool) → new ≡ counted_closed (record old { recv = r }) id live → RecvAlone old new
recv_closed old new r id live is = subst (λ (n : PlainStreams). RecvAlone old n) (sym is) (closed_alone old r id live)

put_one : (before_note after_note : Note) (here : Bool) (n o next : Option PlainRecv) (page : Option RecvPage) (p : RecvPage) → n ≡ (if here then next else o) → ShowsRecv before_note o page → ShowsRecv after_note next (Some p)
    → ShowsRecv (if here then after_note else before_note) n (if here then Some p else page)
put_one before_note after_note true n o next page p is before after = rw is after
put_one before_note after_note false n o next page p is before after = rw is before

no_unread_half : (here : Bool) (n o next : Option PlainRecv) → n ≡ (if here then next else o) → o ≡ None → (here ≡ true → next ≡ None) → n ≡ None
no_unread_half true n o next is before after = is ∙ after refl
no_unread_half false n o next is before after = is ∙ before

some_page : (note : Note) (o : Option PlainRecv) (q : Option RecvPage) → ShowsRecv note o q → is_some o ≡ true → is_some q ≡ true
some_page note None q s there = absurd (false≢true there)
some_page note (Some r) None s there = absurd s
some_page note (Some r) (Some p) s there = refl

put_page : (here : Bool) (o : Option RecvPage) (p : RecvPage) (x : Bool) → is_some o ≡ x → (here ≡ true → is_some o ≡ true) → is_some (if here then Some p else o) ≡ x
put_page true o p x was there = sym (there refl) ∙ was
put_page false o p x was there = was

no_half_there : (o : Option PlainRecv) → is_some o ≡ true → o ≡ None → ⊥
no_half_there o there none = false≢true (sym (ap is_some none) ∙ there)

-- the book once a receiving half is another one, or gone, with what is noted of it then
pub shown_recv : {notes : ℕ → Note} (old new : PlainStreams) (b : Book) (id : ℕ) (next : Option PlainRecv) (p : RecvPage) (note : Note) → ShowsStreams old notes b → RecvAlone old new → ((k : ℕ) → recv_at new.recv k ≡ (if k == id then next else recv_at old.recv k))
    → is_some (recv_at old.recv id) ≡ true → ShowsRecv note next (Some p) → ShowsStreams new (noted notes id note) (with_recv b id p)
shown_recv {notes = notes} old new b id next p note shown alone are there after = record {
  side = shown.side ∙ sym alone.side;
  sends = λ k. subst (λ (s : PlainSendHalves). ShowsSend (send_at s k) (b.sends k)) (sym alone.send) (shown.sends k);
  recvs = λ k. put_one (notes k) note (k == id) (recv_at new.recv k) (recv_at old.recv k) next (b.recvs k) p (are k) (shown.recvs k) after;
  unsent_sides = λ k none. ap (λ (s : PlainSendHalves). send_at s k) alone.send ∙ shown.unsent_sides k (sym (ap (λ (s : Side). has_send s k) alone.side) ∙ none);
  unread_sides = λ k none. let before = shown.unread_sides k (sym (ap (λ (s : Side). has_recv s k) alone.side) ∙ none) in
      no_unread_half (k == id) (recv_at new.recv k) (recv_at old.recv k) next (are k) before (λ here. absurd (no_half_there (recv_at old.recv id) there (subst (λ (n : ℕ). recv_at old.recv n ≡ None) (eqb-true k id here) before)));
  pages = λ k. put_page (k == id) (b.recvs k) p _ (shown.pages k) (λ here. subst (λ (n : ℕ). is_some (b.recvs n) ≡ true) (sym (eqb-true k id here)) (some_page (notes id) (recv_at old.recv id) (b.recvs id) (shown.recvs id) there));
  bi = shown.bi ∙ sym alone.bi;
  uni = shown.uni ∙ sym alone.uni;
  first_bi = shown.first_bi ∙ sym (ap (λ (l : PeerLimits). l.bidi_remote) alone.peer);
  first_uni = shown.first_uni ∙ sym (ap (λ (l : PeerLimits). l.uni) alone.peer);
  credit_to = shown.credit_to ∙ sym (ap (λ (s : PlainSendHalves). s.max_data) alone.send);
  taken = shown.taken ∙ sym (ap (λ (s : PlainSendHalves). s.data_sent) alone.send);
  send_window = shown.send_window ∙ sym (ap (λ (s : PlainSendHalves). s.send_window) alone.send);
  unconfirmed = shown.unconfirmed ∙ sym (ap (λ (s : PlainSendHalves). unacked s.halves) alone.send);
}

-- what was noted stays
pub noted_same : (notes : ℕ → Note) (id : ℕ) → noted notes id (notes id) ≡ notes
noted_same notes id = λ i k. each k (k == id) (eqb-true k id) i
  where
    each : (k : ℕ) (here : Bool) → (here ≡ true → k ≡ id) → (if here then notes id else notes k) ≡ notes k
    each k true same = ap notes (sym (same refl))
    each k false same = refl

pub shown_page : {notes : ℕ → Note} (old new : PlainStreams) (b : Book) (id : ℕ) (next : Option PlainRecv) (p : RecvPage) → ShowsStreams old notes b → RecvAlone old new → ((k : ℕ) → recv_at new.recv k ≡ (if k == id then next else recv_at old.recv k))
    → is_some (recv_at old.recv id) ≡ true → ShowsRecv (notes id) next (Some p) → ShowsStreams new notes (with_recv b id p)
shown_page {notes = notes} old new b id next p shown alone are there after =
    subst (λ (m : ℕ → Note). ShowsStreams new m (with_recv b id p)) (noted_same notes id) (shown_recv old new b id next p (notes id) shown alone are there after)

-- ---- which half is at an id, and its page

pub page_there : (note : Note) (o : Option RecvPage) (r : PlainRecv) → ShowsRecv note (Some r) o → (p : RecvPage) × (o ≡ Some p) × (is_done r ≡ false) × ShowsHalf r.is_stopped note r p
page_there note None r s = absurd s
page_there note (Some p) r s = (p, refl, s.0, s.1)

pub gone_page : (note : Note) (o : Option RecvPage) → ShowsRecv note None o → open_recv o ≡ None
gone_page note None s = refl
gone_page note (Some p) s = rw s.shut refl

open_is : (o : Option RecvPage) (p : RecvPage) → o ≡ Some p → is_open p.state ≡ true → open_recv o ≡ Some p
open_is o p is on = rw is (rw on refl)

shut_is : (o : Option RecvPage) (p : RecvPage) → o ≡ Some p → is_open p.state ≡ false → open_recv o ≡ None
shut_is o p is off = rw is (rw off refl)

-- the page of a half that is read
pub reading_there : (note : Note) (o : Option RecvPage) (r : PlainRecv) → ShowsRecv note (Some r) o → r.is_stopped ≡ false
    → (p : RecvPage) × (open_recv o ≡ Some p) × (is_done r ≡ false) × ShowsReading r p × IsNoted note p
reading_there note o r s off =
    let p = page_there note o r s in
    let half : ShowsHalf false note r p.0 = subst (λ (stopped : Bool). ShowsHalf stopped note r p.0) off p.3 in
    let on : is_open p.0.state ≡ true = ap is_open half.0.state in
    (p.0, open_is o p.0 p.1 on, p.2, half.0, half.1)

pub stopped_there : (note : Note) (o : Option RecvPage) (r : PlainRecv) → ShowsRecv note (Some r) o → r.is_stopped ≡ true → open_recv o ≡ None
stopped_there note o r s up =
    let p = page_there note o r s in
    let half : ShowsHalf true note r p.0 = subst (λ (is : Bool). ShowsHalf is note r p.0) up p.3 in
    shut_is o p.0 p.1 half.shut

-- ---- what can be read

none_below : (p : RecvPage) (end : ℕ) → ((k : ℕ) → unread_at p k ≡ None) → has_unread_below p end ≡ false
none_below p zero none = refl
none_below p (suc k) none = rw (none k) (none_below p k none)

-- in order the next offset is that from which the half gives bytes
pub next_is : (r : PlainRecv) (p : RecvPage) → ShowsReading r p → r.is_unordered ≡ false → was_given r.assembler (read_to r.assembler) ≡ false → p.next ≡ read_to r.assembler
next_is r p s ordered fresh = elim (cases_order p.next (read_to r.assembler)) [
  | inl same ↦ same
  | inr (inl under) ↦ absurd (false≢true (sym (s.next ordered p.next ∙ le-ltb p.next p.next (omega arith)) ∙ (s.was_read p.next ∙ front_has r.assembler.given p.next under)))
  | inr (inr over) ↦ absurd (false≢true (sym fresh ∙ (sym (s.was_read (read_to r.assembler)) ∙ (s.next ordered (read_to r.assembler) ∙ lt-ltb (read_to r.assembler) p.next over))))
]

-- nothing that a read may give waits
pub dry_is : (r : PlainRecv) (p : RecvPage) (is_ordered : Bool) → ShowsReading r p → r.is_unordered ≡ not is_ordered → WaitsForMore r → has_next p is_ordered ≡ false
dry_is r p true s mode waits =
    let w : (to_give r.assembler (read_to r.assembler) ≡ None) × (was_given r.assembler (read_to r.assembler) ≡ false) = rw mode at waits in
    let none : unread_at p p.next ≡ None = ap (unread_at p) (next_is r p s mode w.1) ∙ (s.unread (read_to r.assembler) ∙ w.0) in
    rw none refl
dry_is r p false s mode waits =
    let w : HasNothing r.assembler = rw mode at waits in
    none_below p p.unread_to (λ k. s.unread k ∙ w k)

at_end : (state : HalfState) (read : ℕ) → reset_code state ≡ None → is_size (final_size state) read ≡ ends_at state read
at_end (Recv None) read none = refl
at_end (Recv (Some size)) read none = refl
at_end (ResetRecvd size code) read none = absurd (none-some code (sym none))

pub at_end_is : (r : PlainRecv) (p : RecvPage) → ShowsReading r p → reset_code r.state ≡ None → is_at_end p ≡ is_half_at_end r
at_end_is r p s none = ap (λ (o : Option ℕ). is_size o p.read) s.end ∙ (ap (is_size (final_size r.state)) s.read ∙ at_end r.state (bytes_read r) none)

pub no_reset_at_end : (state : HalfState) (read : ℕ) → ends_at state read ≡ true → reset_code state ≡ None
no_reset_at_end (Recv size) read e = refl
no_reset_at_end (ResetRecvd size code) read e = absurd (false≢true e)
