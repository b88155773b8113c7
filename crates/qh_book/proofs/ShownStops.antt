-- Other calls on receiving halves are steps of the book, and so are reads that are refused.
use Rattle.std.proofs.Common.{◌≡◌, ℕ, ◌<◌, ◌==◌, nat_lt, Bool, true, false, ◌&&◌, ◌||◌, [], Option, Some, None, is_some, if◌then◌else◌, refl, sym, ap, ◌∙◌, inl, subst}
use Rattle.std.proofs.lemmas.Bool.{eqb-true, false≢true}
use Rattle.std.proofs.lemmas.Option.{none-some, same_Some}
use Rattle.qh_base.specs.declared.connection_error.ConnectionError.{ConnectionError}
use Rattle.qh_base.specs.declared.stream_id.StreamId.{StreamId}
use Rattle.qh_book.proofs.ShownRecvs.{RecvAlone, gone_page, noted_same, page_there, reading_there, recv_closed, shown_recv, stopped_there}
use Rattle.qh_book.specs.Book.{Book, with_recv}
use Rattle.qh_book.specs.Pages.{RecvPage, ResetGiven, open_recv}
use Rattle.qh_book.specs.Receiving.{Reads, Stops, TellsReset, code_of, with_stopped}
use Rattle.qh_book.specs.Shown.{IsShut, IsStreamStep, Note, ShowsHalf, ShowsRecv, ShowsSend, ShowsStreams, noted}
use Rattle.qh_book.specs.declared.call.Call.TheVariants as call
use Rattle.qh_book.specs.declared.reply.Reply.TheVariants as reply
use Rattle.qh_half.specs.Recv.{IsStopped, PlainRecv, is_closed, is_done, reset_code, with_reset_given}
use Rattle.qh_half.specs.declared.fault.ReadableFault.{ReadableFault}
use Rattle.qh_half.specs.declared.fault.ReadableFault.TheVariants as readable
use Rattle.qh_halves.specs.Counts.{has_recv, has_send, index_of, is_bi, is_own}
use Rattle.qh_halves.specs.RecvHalves.{IsRecvStep, Stops as HalfStops, TakesReset, half_is_closed, half_readable_fault, is_closed_at, readable_fault_at, recv_at, unless_done}
use Rattle.qh_halves.specs.SendHalves.{PlainSendHalves, send_at, unacked}
use Rattle.qh_spec.specs.declared.sides.Side.{Side}
use Rattle.qh_streams.specs.declared.frames.PeerLimits.{PeerLimits}
use Rattle.qh_streams.specs.Streams.{PlainStreams, counted_closed, counts_of, was_opened as streams_was_opened}

or_parts : (x y : Bool) → (x || y) ≡ false → (x ≡ false) × (y ≡ false)
or_parts true y h = absurd (false≢true (sym h))
or_parts false y h = (refl, h)

-- the receiving halves are as they were
pub shown_same : {notes : ℕ → Note} (old new : PlainStreams) (b : Book) → ShowsStreams old notes b → RecvAlone old new → ((k : ℕ) → recv_at new.recv k ≡ recv_at old.recv k) → ShowsStreams new notes b
shown_same {notes = notes} old new b shown alone are = record {
  side = shown.side ∙ sym alone.side;
  sends = λ k. subst (λ (s : PlainSendHalves). ShowsSend (send_at s k) (b.sends k)) (sym alone.send) (shown.sends k);
  recvs = λ k. subst (λ (o : Option PlainRecv). ShowsRecv (notes k) o (b.recvs k)) (sym (are k)) (shown.recvs k);
  unsent_sides = λ k none. ap (λ (s : PlainSendHalves). send_at s k) alone.send ∙ shown.unsent_sides k (sym (ap (λ (s : Side). has_send s k) alone.side) ∙ none);
  unread_sides = λ k none. are k ∙ shown.unread_sides k (sym (ap (λ (s : Side). has_recv s k) alone.side) ∙ none);
  pages = shown.pages;
  bi = shown.bi ∙ sym alone.bi;
  uni = shown.uni ∙ sym alone.uni;
  first_bi = shown.first_bi ∙ sym (ap (λ (l : PeerLimits). l.bidi_remote) alone.peer);
  first_uni = shown.first_uni ∙ sym (ap (λ (l : PeerLimits). l.uni) alone.peer);
  credit_to = shown.credit_to ∙ sym (ap (λ (s : PlainSendHalves). s.max_data) alone.send);
  taken = shown.taken ∙ sym (ap (λ (s : PlainSendHalves). s.data_sent) alone.send);
  send_window = shown.send_window ∙ sym (ap (λ (s : PlainSendHalves). s.send_window) alone.send);
  unconfirmed = shown.unconfirmed ∙ sym (ap (λ (s : PlainSendHalves). unacked s.halves) alone.send);
}

-- a page is another one, and what is noted of it
pub shown_noted : {notes : ℕ → Note} (s : PlainStreams) (b : Book) (id : ℕ) (p q : RecvPage) (note : Note) → ShowsStreams s notes b → b.recvs id ≡ Some p → ShowsRecv note (recv_at s.recv id) (Some q) → ShowsStreams s (noted notes id note) (with_recv b id q)
shown_noted {notes = notes} s b id p q note shown is after = record {
  side = shown.side;
  sends = shown.sends;
  recvs = λ k. at k (k == id) (eqb-true k id);
  unsent_sides = shown.unsent_sides;
  unread_sides = shown.unread_sides;
  pages = λ k. there k (k == id) (eqb-true k id) ∙ shown.pages k;
  bi = shown.bi;
  uni = shown.uni;
  first_bi = shown.first_bi;
  first_uni = shown.first_uni;
  credit_to = shown.credit_to;
  taken = shown.taken;
  send_window = shown.send_window;
  unconfirmed = shown.unconfirmed;
}
  where
    at : (k : ℕ) (here : Bool) → (here ≡ true → k ≡ id) → ShowsRecv (if here then note else notes k) (recv_at s.recv k) (if here then Some q else b.recvs k)
    at k true same = subst (λ (n : ℕ). ShowsRecv note (recv_at s.recv n) (Some q)) (sym (same refl)) after
    at k false same = shown.recvs k

    there : (k : ℕ) (here : Bool) → (here ≡ true → k ≡ id) → is_some (if here then Some q else b.recvs k) ≡ is_some (b.recvs k)
    there k true same = sym (ap is_some (ap b.recvs (same refl) ∙ is))
    there k false same = refl

pub shown_put : {notes : ℕ → Note} (s : PlainStreams) (b : Book) (id : ℕ) (p q : RecvPage) → ShowsStreams s notes b → b.recvs id ≡ Some p → ShowsRecv (notes id) (recv_at s.recv id) (Some q) → ShowsStreams s notes (with_recv b id q)
shown_put {notes = notes} s b id p q shown is after = subst (λ (m : ℕ → Note). ShowsStreams s m (with_recv b id q)) (noted_same notes id) (shown_noted s b id p q (notes id) shown is after)

-- ---- a stop

stopped_half : (r next : PlainRecv) (code : ℕ) (note : Note) (p : RecvPage) → IsStopped r next code → p.reset_code ≡ note.code → note.is_told ≡ false → ShowsRecv note (unless_done next) (Some (with_stopped p))
stopped_half r next code note p s known untold = cases (is_done next) refl
  where
    up : next.is_stopped ≡ true
    up = ap (λ (x : PlainRecv). x.is_stopped) s.rest_is

    shut_page : IsShut note (with_stopped p)
    shut_page = record { shut = refl; code = known; told = sym untold }

    cases : (done : Bool) → is_done next ≡ done → ShowsRecv note (if done then None else Some next) (Some (with_stopped p))
    cases true is = shut_page
    cases false is = (is, subst (λ (x : Bool). ShowsHalf x note next (with_stopped p)) (sym up) shut_page)

-- a reset that is taken ends the half
gone : (r next : PlainRecv) (code : ℕ) (note : Note) → reset_code r.state ≡ Some code → next ≡ with_reset_given r → (p : RecvPage) → IsShut note p → ShowsRecv note (unless_done next) (Some p)
gone r next code note has is p shut = let none : unless_done next ≡ None = ap unless_done is ∙ (rw has refl) in subst (λ (o : Option PlainRecv). ShowsRecv note o (Some p)) (sym none) shut

module _ {notes : ℕ → Note} (T : Type 0) (old new : PlainStreams) (b : Book) (id : StreamId) (live : Bool) (shown : ShowsStreams old notes b) (held : b.readers id.0 ≡ true) (new_is : new ≡ counted_closed (record old { recv = new.recv }) id.0 live) where
  pub stop_stepped : (code : ℕ) (s : IsRecvStep (HalfStops code) old.recv new.recv id.0 0) → IsStreamStep {T = T} b (call.Stop id code) reply.Done new (noted notes id.0 (record (notes id.0) { code = reset_code s.half.state }))
  stop_stepped code s =
      let off = or_parts s.half.is_stopped s.half.is_given s.step.not_closed in
      let p = reading_there (notes id.0) (b.recvs id.0) s.half (subst (λ (o : Option PlainRecv). ShowsRecv (notes id.0) o (b.recvs id.0)) s.was (shown.recvs id.0)) off.0 in
      record {
        after = with_recv b id.0 (with_stopped p.0);
        allows = rw held (p.0, p.1, refl);
        shows = shown_recv old new b id.0 (unless_done s.next) (with_stopped p.0) (record (notes id.0) { code = reset_code s.half.state }) shown (recv_closed old new new.recv id.0 live new_is) s.halves_are (ap is_some s.was)
            (stopped_half s.half s.next code (record (notes id.0) { code = reset_code s.half.state }) p.0 s.step p.3.reset_code p.4.untold);
        rest = refl;
      }

  -- ---- a reset that is told

  pub told_stepped : (code : ℕ) → IsRecvStep (TakesReset (Some code)) old.recv new.recv id.0 0 → IsStreamStep {T = T} b (call.ReceivedReset id) (reply.Code (Some code)) new (noted notes id.0 (record (notes id.0) { code = Some code; is_told = true }))
  told_stepped code s =
      let off = or_parts s.half.is_stopped s.half.is_given s.step.0 in
      let q = page_there (notes id.0) (b.recvs id.0) s.half (subst (λ (o : Option PlainRecv). ShowsRecv (notes id.0) o (b.recvs id.0)) s.was (shown.recvs id.0)) in
      let half : ShowsHalf false (notes id.0) s.half q.0 = subst (λ (stopped : Bool). ShowsHalf stopped (notes id.0) s.half q.0) off.0 q.3 in
      record {
        after = with_recv b id.0 (record q.0 { state = ResetGiven });
        allows = rw held (q.0, q.1, half.0.reset_code ∙ sym s.step.1, refl);
        shows = shown_recv old new b id.0 (unless_done s.next) (record q.0 { state = ResetGiven }) (record (notes id.0) { code = Some code; is_told = true }) shown (recv_closed old new new.recv id.0 live new_is) s.halves_are (ap is_some s.was)
            (gone s.half s.next code (record (notes id.0) { code = Some code; is_told = true }) (sym s.step.1) s.step.2 (record q.0 { state = ResetGiven }) (record { shut = refl; code = half.0.reset_code ∙ sym s.step.1; told = refl }));
        rest = refl;
      }

  -- the peer's reset came before, and is taken to stop the half
  pub reset_stopped : (error_code code : ℕ) → IsRecvStep (TakesReset (Some code)) old.recv new.recv id.0 0 → IsStreamStep {T = T} b (call.Stop id error_code) reply.Done new (noted notes id.0 (record (notes id.0) { code = Some code }))
  reset_stopped error_code code s =
      let off = or_parts s.half.is_stopped s.half.is_given s.step.0 in
      let p = reading_there (notes id.0) (b.recvs id.0) s.half (subst (λ (o : Option PlainRecv). ShowsRecv (notes id.0) o (b.recvs id.0)) s.was (shown.recvs id.0)) off.0 in
      record {
        after = with_recv b id.0 (with_stopped p.0);
        allows = rw held (p.0, p.1, refl);
        shows = shown_recv old new b id.0 (unless_done s.next) (with_stopped p.0) (record (notes id.0) { code = Some code }) shown (recv_closed old new new.recv id.0 live new_is) s.halves_are (ap is_some s.was)
            (gone s.half s.next code (record (notes id.0) { code = Some code }) (sym s.step.1) s.step.2 (with_stopped p.0) (record { shut = refl; code = p.3.reset_code ∙ sym s.step.1; told = sym p.4.untold }));
        rest = refl;
      }

  same_half : (r next : PlainRecv) → is_closed r ≡ false → None ≡ reset_code r.state → next ≡ with_reset_given r → next ≡ r
  same_half r next open_still none is = let off = or_parts r.is_stopped r.is_given open_still in is ∙ (λ i. record r { is_given = given off.1 i })
    where
      given : r.is_given ≡ false → is_some (reset_code r.state) ≡ r.is_given
      given off = sym (ap is_some none) ∙ sym off

  no_reset : (s : IsRecvStep (TakesReset None) old.recv new.recv id.0 0) → ShowsStreams new notes b × ((p : RecvPage) × (open_recv (b.recvs id.0) ≡ Some p) × (p.reset_code ≡ None))
  no_reset s =
      let off = or_parts s.half.is_stopped s.half.is_given s.step.0 in
      let p = reading_there (notes id.0) (b.recvs id.0) s.half (subst (λ (o : Option PlainRecv). ShowsRecv (notes id.0) o (b.recvs id.0)) s.was (shown.recvs id.0)) off.0 in
      let same = same_half s.half s.next s.step.0 s.step.1 s.step.2 in
      let there : unless_done s.next ≡ recv_at old.recv id.0 = ap unless_done same ∙ (ap (λ (done : Bool). if done then None else Some s.half) p.2 ∙ sym s.was) in
      (shown_same old new b shown (recv_closed old new new.recv id.0 live new_is) (λ k. at k (k == id.0) (eqb-true k id.0) there (s.halves_are k)), (p.0, p.1, p.3.reset_code ∙ sym s.step.1))
    where
      at : (k : ℕ) (here : Bool) → (here ≡ true → k ≡ id.0) → unless_done s.next ≡ recv_at old.recv id.0 → recv_at new.recv k ≡ (if here then unless_done s.next else recv_at old.recv k) → recv_at new.recv k ≡ recv_at old.recv k
      at k true is there are = are ∙ (there ∙ ap (recv_at old.recv) (sym (is refl)))
      at k false is there are = are

  pub untold_stepped : IsRecvStep (TakesReset None) old.recv new.recv id.0 0 → b.error ≡ None → IsStreamStep {T = T} b (call.ReceivedReset id) reply.Pending new notes
  untold_stepped s open_still = let f = no_reset s in record { after = b; allows = rw held (rw open_still (rw f.1.1 (rw f.1.2 refl)), refl); shows = f.0; rest = refl }

  pub lost_stepped : (e : ConnectionError) → IsRecvStep (TakesReset None) old.recv new.recv id.0 0 → b.error ≡ Some e → IsStreamStep {T = T} b (call.ReceivedReset id) (reply.ConnectionLost e) new notes
  lost_stepped e s is = let f = no_reset s in record { after = b; allows = rw held (f.1.0, f.1.1, f.1.2, is, refl); shows = f.0; rest = refl }

-- ---- refusals

is_stopped_there : (note : Note) (r : PlainRecv) (q : Option RecvPage) → ShowsRecv note (Some r) q → is_closed r ≡ true → r.is_stopped ≡ true
is_stopped_there note r q s h = let p = page_there note q r s in stopped r.is_stopped r.is_given h (given r.is_given _ p.2)
  where
    given : (x y : Bool) → (x || y) ≡ false → x ≡ false
    given true y e = absurd (false≢true (sym e))
    given false y e = refl

    stopped : (x y : Bool) → (x || y) ≡ true → y ≡ false → x ≡ true
    stopped true y e off = refl
    stopped false y e off = absurd (false≢true (sym off ∙ e))

closed_page : (note : Note) (o : Option PlainRecv) (q : Option RecvPage) → ShowsRecv note o q → half_is_closed o ≡ true → open_recv q ≡ None
closed_page note None q s h = gone_page note q s
closed_page note (Some r) q s h = stopped_there note q r s (is_stopped_there note r q s h)

-- the code that was noted of it is in its page
closed_code : (note : Note) (o : Option PlainRecv) (q : Option RecvPage) → ShowsRecv note o q → half_is_closed o ≡ true → code_of q ≡ note.code
closed_code note None None s h = sym (ap (λ (x : Note). x.code) s)
closed_code note None (Some p) s h = s.code
closed_code note (Some r) None s h = absurd s
closed_code note (Some r) (Some p) s h =
    let half : ShowsHalf true note r p = subst (λ (is : Bool). ShowsHalf is note r p) (is_stopped_there note r (Some p) s h) s.1 in half.code

pub closed_at : {notes : ℕ → Note} (s : PlainStreams) (b : Book) (id : ℕ) → ShowsStreams s notes b → is_closed_at s.recv id ≡ true → open_recv (b.recvs id) ≡ None
closed_at {notes = notes} s b id shown h = closed_page (notes id) (recv_at s.recv id) (b.recvs id) (shown.recvs id) h

pub stop_refused : {notes : ℕ → Note} (T : Type 0) (s : PlainStreams) (b : Book) (id : StreamId) → ShowsStreams s notes b → is_closed_at s.recv id.0 ≡ true → Stops {T = T} b id reply.ClosedStream b
stop_refused T s b id shown h = (closed_at s b id.0 shown h, refl)

readable_view : (o : Option PlainRecv) (is_ordered : Bool) → half_readable_fault o is_ordered ≡ Some readable.ClosedStream → half_is_closed o ≡ true
readable_view None is_ordered e = refl
readable_view (Some r) is_ordered e = cases (is_closed r) (is_ordered && r.is_unordered) e
  where
    is_illegal : ReadableFault → Bool
    is_illegal readable.IllegalOrderedRead = true
    is_illegal readable.ClosedStream = false

    cases : (c u : Bool) → (if c then Some readable.ClosedStream else if u then Some readable.IllegalOrderedRead else None) ≡ Some readable.ClosedStream → c ≡ true
    cases true u e = refl
    cases false true e = absurd (false≢true (sym (ap is_illegal (same_Some _ _ e))))
    cases false false e = absurd (none-some _ e)

pub read_is_closed : {notes : ℕ → Note} (s : PlainStreams) (b : Book) (id : ℕ) (is_ordered : Bool) → ShowsStreams s notes b → readable_fault_at s.recv id is_ordered ≡ Some readable.ClosedStream → open_recv (b.recvs id) ≡ None
read_is_closed s b id is_ordered shown e = closed_at s b id shown (readable_view (recv_at s.recv id) is_ordered e)

-- the page of a half that can be read, and whether a read of it gave an error
pub half_page : {notes : ℕ → Note} (s : PlainStreams) (b : Book) (id : ℕ) → ShowsStreams s notes b → is_closed_at s.recv id ≡ false → (p : RecvPage) × (open_recv (b.recvs id) ≡ Some p) × (p.gave_error ≡ (notes id).gave_error)
half_page {notes = notes} s b id shown h = at (recv_at s.recv id) (shown.recvs id) h
  where
    at : (o : Option PlainRecv) → ShowsRecv (notes id) o (b.recvs id) → half_is_closed o ≡ false → (p : RecvPage) × (open_recv (b.recvs id) ≡ Some p) × (p.gave_error ≡ (notes id).gave_error)
    at None x off = absurd (false≢true (sym off))
    at (Some r) x off = let p = reading_there (notes id) (b.recvs id) r x (or_parts r.is_stopped r.is_given off).0 in (p.0, p.1, p.4.gave_error)

-- whether the stream of a half that is read was opened
known_page : {notes : ℕ → Note} (s : PlainStreams) (b : Book) (id : ℕ) → ShowsStreams s notes b → is_some (b.recvs id) ≡ (has_recv s.side id && streams_was_opened s id)
known_page s b id shown = shown.pages id ∙ (rw (shown.side, shown.bi, shown.uni) (ap (λ (n : ℕ). has_recv s.side id && nat_lt (index_of id) n) (counts (is_own s.side id) (is_bi id))))
  where
    counts : (own two_way : Bool) → (if own then (if two_way then s.bi.opened else s.uni.opened) else (if two_way then s.bi.arrived else s.uni.arrived)) ≡ (if own then (counts_of s two_way).opened else (counts_of s two_way).arrived)
    counts true true = refl
    counts true false = refl
    counts false true = refl
    counts false false = refl

module _ {notes : ℕ → Note} (T : Type 0) (s : PlainStreams) (b : Book) (id : StreamId) (shown : ShowsStreams s notes b) where
  pub reset_noted : b.readers id.0 ≡ true → (code : ℕ) → is_closed_at s.recv id.0 ≡ true → (notes id.0).code ≡ Some code → IsStreamStep {T = T} b (call.ReceivedReset id) (reply.Code (Some code)) s (noted notes id.0 (record (notes id.0) { is_told = true }))
  reset_noted held code closed known = at (recv_at s.recv id.0) (b.recvs id.0) refl refl
    where
      has : code_of (b.recvs id.0) ≡ Some code
      has = closed_code (notes id.0) (recv_at s.recv id.0) (b.recvs id.0) (shown.recvs id.0) closed ∙ known

      same : (o : Option PlainRecv) (p : RecvPage) → ShowsRecv (notes id.0) o (Some p) → half_is_closed o ≡ true → ShowsRecv (record (notes id.0) { is_told = true }) o (Some (record p { state = ResetGiven }))
      same None p x h = record { shut = refl; code = x.code; told = refl }
      same (Some r) p x h =
          let up = is_stopped_there (notes id.0) r (Some p) x h in
          let half : ShowsHalf true (notes id.0) r p = subst (λ (is : Bool). ShowsHalf is (notes id.0) r p) up x.1 in
          let after : ShowsHalf true (record (notes id.0) { is_told = true }) r (record p { state = ResetGiven }) = record { shut = refl; code = half.code; told = refl } in
          (x.0, subst (λ (is : Bool). ShowsHalf is (record (notes id.0) { is_told = true }) r (record p { state = ResetGiven })) (sym up) after)

      at : (o : Option PlainRecv) (q : Option RecvPage) → recv_at s.recv id.0 ≡ o → b.recvs id.0 ≡ q → IsStreamStep {T = T} b (call.ReceivedReset id) (reply.Code (Some code)) s (noted notes id.0 (record (notes id.0) { is_told = true }))
      at o None half is = absurd (none-some code (rw is at has))
      at o (Some p) half is = record {
        after = with_recv b id.0 (record p { state = ResetGiven });
        allows = rw held (p, is, rw is at has, refl);
        shows = shown_noted s b id.0 p (record p { state = ResetGiven }) (record (notes id.0) { is_told = true }) shown is
            (same (recv_at s.recv id.0) p (subst (λ (q : Option RecvPage). ShowsRecv (notes id.0) (recv_at s.recv id.0) q) is (shown.recvs id.0)) closed);
        rest = refl;
      }

  pub reset_unknown : is_closed_at s.recv id.0 ≡ true → (notes id.0).code ≡ None → TellsReset {T = T} b id (reply.Code None) b
  reset_unknown closed none = (closed_code (notes id.0) (recv_at s.recv id.0) (b.recvs id.0) (shown.recvs id.0) closed ∙ none, closed_at s b id.0 shown closed, refl)

  -- ---- reads of a half that is closed

  module _ (is_ordered : Bool) (refused : readable_fault_at s.recv id.0 is_ordered ≡ Some readable.ClosedStream) where
    pub read_nothing : (offset : ℕ) → Reads {T = T} b id 0 is_ordered (reply.Bytes offset []) b
    read_nothing offset = inl (read_is_closed s b id.0 is_ordered shown refused, (refl, refl), refl)

    module _ (max_length : ℕ) (some : 0 < max_length) where
      pub read_ended : (has_recv s.side id.0 && streams_was_opened s id.0) ≡ true → Reads {T = T} b id max_length is_ordered reply.Ended b
      read_ended known = inl (read_is_closed s b id.0 is_ordered shown refused, (some, known_page s b id.0 shown ∙ known), refl)

      no_page : (has_recv s.side id.0 && streams_was_opened s id.0) ≡ false → b.recvs id.0 ≡ None
      no_page unknown = none_of (b.recvs id.0) (known_page s b id.0 shown ∙ unknown)
        where
          none_of : (o : Option RecvPage) → is_some o ≡ false → o ≡ None
          none_of None h = refl
          none_of (Some p) h = absurd (false≢true (sym h))

      pub read_unknown : (has_recv s.side id.0 && streams_was_opened s id.0) ≡ false → b.error ≡ None → Reads {T = T} b id max_length is_ordered reply.ClosedStream b
      read_unknown unknown none = inl (read_is_closed s b id.0 is_ordered shown refused, (some, no_page unknown, none), refl)

      pub read_unknown_lost : (e : ConnectionError) → (has_recv s.side id.0 && streams_was_opened s id.0) ≡ false → b.error ≡ Some e → Reads {T = T} b id max_length is_ordered (reply.ConnectionLost e) b
      read_unknown_lost e unknown lost = inl (read_is_closed s b id.0 is_ordered shown refused, (some, no_page unknown, lost), refl)
