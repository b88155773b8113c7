-- Halves that are stopped, and resets that are told.
use Rattle.std.proofs.Common.{◌≡◌, ℕ, ◌==◌, Bool, true, false, ◌||◌, Option, Some, None, if◌then◌else◌, refl, sym, ap, ◌∙◌, subst}
use Rattle.std.proofs.lemmas.Bool.{MatchBool-at_true, eq-eqb, false≢true}
use Rattle.std.proofs.lemmas.Option.{same_Some}
use Rattle.qh_base.specs.declared.connection_error.ConnectionError.{ConnectionError}
use Rattle.qh_base.specs.declared.stream_id.StreamId.{StreamId}
use Rattle.qh_book.specs.Book.{Book, with_recv}
use Rattle.qh_book.specs.Pages.{RecvPage, ResetGiven, is_open}
use Rattle.qh_book.specs.Receiving.{Stops, TellsReset, with_stopped}
use Rattle.qh_book.specs.Shown.{IsStreamStep, Note, ShowsStreams, noted}
use Rattle.qh_book.specs.Step.{Allows}
use Rattle.qh_book.specs.declared.call.Call.TheVariants as call
use Rattle.qh_book.specs.declared.reply.Reply.TheVariants as reply
use Rattle.qh_half.specs.Recv.{PlainRecv, is_closed, is_done, reset_code, with_reset_given}
use Rattle.qh_halves.specs.RecvHalves.{IsRecvStep, PlainRecvHalves, Stops as HalfStops, TakesReset, half_is_closed, is_closed_at, recv_at, unless_done}
use Rattle.qh_quinn.proofs.Holding.{IsHeld}
use Rattle.qh_quinn.proofs.Recvs.{IsHeldStep, noted_here, noted_other, open_page}
use Rattle.qh_quinn.proofs.Sends.{IsSendStep}
use Rattle.qh_quinn.specs.declared.readers.Reader.{Reader}
use Rattle.qh_streams.specs.Streams.{PlainStreams}

module _ (T : Type 0) (b : Book) (id : StreamId) (notes : ℕ → Note) (reader : Reader) (h : IsHeld false reader (notes id.0) (b.readers id.0) (b.recvs id.0)) where
  stopped_page : (code : ℕ) (after : Book) → is_open h.p.state ≡ true → Allows {T = T} b (call.Stop id code) reply.Done after → after ≡ with_recv b id.0 (with_stopped h.p)
  stopped_page code after opened allows =
      let made : Stops {T = T} b id reply.Done after = MatchBool-at_true (Stops {T = T} b id reply.Done after) _ h.held allows in
      made.2 ∙ ap (λ (x : RecvPage). with_recv b id.0 (with_stopped x)) (same_Some _ _ (sym made.1 ∙ open_page (b.recvs id.0) h.p h.page_is opened))

  told_page : (code : ℕ) (after : Book) → Allows {T = T} b (call.ReceivedReset id) (reply.Code (Some code)) after → after ≡ with_recv b id.0 (record h.p { state = ResetGiven })
  told_page code after allows =
      let made : TellsReset {T = T} b id (reply.Code (Some code)) after = MatchBool-at_true (TellsReset {T = T} b id (reply.Code (Some code)) after) _ h.held allows in
      made.3 ∙ ap (λ (x : RecvPage). with_recv b id.0 (record x { state = ResetGiven })) (same_Some _ _ (sym made.1 ∙ h.page_is))

module _ {T : Type 0} (b : Book) (id : StreamId) (new : PlainStreams) (notes : ℕ → Note) (reader : Reader) (h : IsHeld false reader (notes id.0) (b.readers id.0) (b.recvs id.0)) where
  -- one is stopped of which the peer's reset is taken, or none came
  pub stop_made : (error_code : ℕ) (code : Option ℕ) → reader.is_open ≡ true → IsStreamStep {T = T} b (call.Stop id error_code) reply.Done new (noted notes id.0 (record (notes id.0) { code = code }))
      → IsHeldStep {T = T} b (call.Stop id error_code) reply.Done id.0 new notes (record reader { is_open = false; code = code })
  stop_made error_code code opened step = record {
    next = noted notes id.0 (record (notes id.0) { code = code });
    step = step;
    q = with_stopped h.p;
    after_is = stopped_page T b id notes reader h error_code step.after (h.opened ∙ opened) step.allows;
    others = noted_other notes id.0 _;
    noted = noted_here notes id.0 _ ∙ ap (λ (n : Note). record n { code = code }) h.note_is;
    opened = refl;
    unordered = h.unordered;
    ended = λ e. absurd (false≢true e);
  }

  -- the reset of one that is read is told
  pub tell_made : (code : ℕ) → IsStreamStep {T = T} b (call.ReceivedReset id) (reply.Code (Some code)) new (noted notes id.0 (record (notes id.0) { code = Some code; is_told = true }))
      → IsHeldStep {T = T} b (call.ReceivedReset id) (reply.Code (Some code)) id.0 new notes (record reader { is_open = false; code = Some code; is_told = true })
  tell_made code step = record {
    next = noted notes id.0 (record (notes id.0) { code = Some code; is_told = true });
    step = step;
    q = record h.p { state = ResetGiven };
    after_is = told_page T b id notes reader h code step.after step.allows;
    others = noted_other notes id.0 _;
    noted = noted_here notes id.0 _ ∙ ap (λ (n : Note). record n { code = Some code; is_told = true }) h.note_is;
    opened = refl;
    unordered = h.unordered;
    ended = λ e. absurd (false≢true e);
  }

  -- that of one that isn't any more
  pub tell_again : (code : ℕ) → is_open h.p.state ≡ false → IsStreamStep {T = T} b (call.ReceivedReset id) (reply.Code (Some code)) new (noted notes id.0 (record (notes id.0) { is_told = true }))
      → IsHeldStep {T = T} b (call.ReceivedReset id) (reply.Code (Some code)) id.0 new notes (record reader { is_told = true })
  tell_again code shut step = record {
    next = noted notes id.0 (record (notes id.0) { is_told = true });
    step = step;
    q = record h.p { state = ResetGiven };
    after_is = told_page T b id notes reader h code step.after step.allows;
    others = noted_other notes id.0 _;
    noted = noted_here notes id.0 _ ∙ ap (λ (n : Note). record n { is_told = true }) h.note_is;
    opened = sym shut ∙ h.opened;
    unordered = h.unordered;
    ended = λ e. absurd (false≢true e);
  }

  -- none came: the call waits, or is lost
  pub tell_waits : IsStreamStep {T = T} b (call.ReceivedReset id) reply.Pending new notes → IsSendStep {T = T} b (call.ReceivedReset id) reply.Pending new notes
  tell_waits step =
      let made : TellsReset {T = T} b id reply.Pending step.after = MatchBool-at_true (TellsReset {T = T} b id reply.Pending step.after) _ h.held step.allows in
      record { step = step; readers = refl; handles = refl; recvs = ap (λ (x : Book). x.recvs) made.1; bi = ap (λ (x : Book). x.bi) made.1; uni = ap (λ (x : Book). x.uni) made.1 }

  pub tell_lost : (e : ConnectionError) → IsStreamStep {T = T} b (call.ReceivedReset id) (reply.ConnectionLost e) new notes → IsSendStep {T = T} b (call.ReceivedReset id) (reply.ConnectionLost e) new notes
  tell_lost e step =
      let made : TellsReset {T = T} b id (reply.ConnectionLost e) step.after = MatchBool-at_true (TellsReset {T = T} b id (reply.ConnectionLost e) step.after) _ h.held step.allows in
      record { step = step; readers = refl; handles = refl; recvs = ap (λ (x : Book). x.recvs) made.4; bi = ap (λ (x : Book). x.bi) made.4; uni = ap (λ (x : Book). x.uni) made.4 }

  -- so the book shows the streams then
  pub untold_shows : (error : Option ConnectionError) → b.error ≡ error → (b.error ≡ None → IsStreamStep {T = T} b (call.ReceivedReset id) reply.Pending new notes)
      → ((e : ConnectionError) → b.error ≡ Some e → IsStreamStep {T = T} b (call.ReceivedReset id) (reply.ConnectionLost e) new notes) → ShowsStreams new notes b
  untold_shows None is waits lost =
      let step = waits is in
      let made : TellsReset {T = T} b id reply.Pending step.after = MatchBool-at_true (TellsReset {T = T} b id reply.Pending step.after) _ h.held step.allows in
      subst (λ (x : Book). ShowsStreams new notes x) made.1 step.shows
  untold_shows (Some e) is waits lost =
      let step = lost e is in
      let made : TellsReset {T = T} b id (reply.ConnectionLost e) step.after = MatchBool-at_true (TellsReset {T = T} b id (reply.ConnectionLost e) step.after) _ h.held step.allows in
      subst (λ (x : Book). ShowsStreams new notes x) made.4 step.shows

-- ---- a half whose reset was asked for, and none came, is as it was

or_left : (x y : Bool) → (x || y) ≡ false → (x ≡ false) × ((x || false) ≡ false)
or_left true y e = absurd (false≢true (sym e))
or_left false y e = (refl, refl)

given_same : (r : PlainRecv) → is_closed r ≡ false → reset_code r.state ≡ None → (is_closed (with_reset_given r) ≡ false) × (is_done (with_reset_given r) ≡ false)
given_same r opened none = let p = or_left r.is_stopped r.is_given opened in (rw none p.1, rw (none, p.0) refl)

pub untold_half : (old mid : PlainRecvHalves) (k : ℕ) (step : IsRecvStep (TakesReset None) old mid k 0) → (recv_at mid k ≡ Some (with_reset_given step.half)) × (is_closed (with_reset_given step.half) ≡ false) × (reset_code (with_reset_given step.half).state ≡ None)
untold_half old mid k step =
    let here : (k == k) ≡ true = eq-eqb k k refl in
    let is : recv_at mid k ≡ unless_done step.next = step.halves_are k ∙ ap (λ (x : Bool). if x then unless_done step.next else recv_at old k) here in
    let none : reset_code step.half.state ≡ None = sym step.step.1 in
    let same = given_same step.half step.step.0 none in
    (is ∙ ap unless_done step.step.2 ∙ ap (λ (x : Bool). if x then None else Some (with_reset_given step.half)) same.1, same.0, none)

pub untold_open : (old mid : PlainRecvHalves) (k : ℕ) → IsRecvStep (TakesReset None) old mid k 0 → is_closed_at mid k ≡ true → ⊥
untold_open old mid k step closed = let h = untold_half old mid k step in false≢true (sym h.1 ∙ sym (ap half_is_closed h.0) ∙ closed)

-- one that is stopped then has no code
pub untold_code : {code : ℕ} (old mid new : PlainRecvHalves) (k : ℕ) → IsRecvStep (TakesReset None) old mid k 0 → (stop : IsRecvStep (HalfStops code) mid new k 0) → reset_code stop.half.state ≡ None
untold_code old mid new k step stop = let h = untold_half old mid k step in ap (λ (x : PlainRecv). reset_code x.state) (same_Some _ _ (sym stop.was ∙ h.0)) ∙ h.2
