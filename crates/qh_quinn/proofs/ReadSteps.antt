-- Reads of a half that is open.
use Rattle.std.proofs.Common.{◌≡◌, ℕ, Bool, true, false, ◌&&◌, ◌||◌, not, List, Option, Some, None, if◌then◌else◌, refl, sym, ap, ◌∙◌, inl, inr, subst}
use Rattle.std.proofs.lemmas.Bool.{false≢true}
use Rattle.std.proofs.lemmas.Option.{none-some, same_Some}
use Rattle.std.specs.Prelude.{MatchBool}
use Rattle.qh_base.specs.declared.connection_error.ConnectionError.{ConnectionError}
use Rattle.qh_base.specs.declared.stream_id.StreamId.{StreamId}
use Rattle.qh_book.specs.Book.{Book, with_recv}
use Rattle.qh_book.specs.Pages.{RecvPage, is_open}
use Rattle.qh_book.specs.Receiving.{Reads, ReadsPage}
use Rattle.qh_book.specs.Shown.{IsStreamStep, Note, noted}
use Rattle.qh_book.specs.Step.{Allows}
use Rattle.qh_book.specs.declared.call.Call.TheVariants as call
use Rattle.qh_book.specs.declared.reply.Reply.{Reply}
use Rattle.qh_book.specs.declared.reply.Reply.TheVariants as reply
use Rattle.qh_half.specs.Recv.{PlainRecv}
use Rattle.qh_half.specs.declared.fault.ReadableFault.TheVariants as readable
use Rattle.qh_halves.specs.RecvHalves.{half_is_closed, half_readable_fault, is_closed_at, readable_fault_at}
use Rattle.qh_quinn.proofs.Holding.{IsHeld, open_bare}
use Rattle.qh_quinn.proofs.Recvs.{IsHeldStep, IsOpenHalf, noted_here, noted_other, open_page}
use Rattle.qh_quinn.specs.Readers.{is_end_given}
use Rattle.qh_quinn.specs.declared.readers.Reader.{Reader}
use Rattle.qh_streams.specs.Streams.{PlainStreams}

-- the page once a read of a half that is open was made
pub record IsPageRead {T : Type 0} (b : Book) (id max_length : ℕ) (is_ordered : Bool) (r : Reply T) (after : Book) (p : RecvPage) : Type 0 where
  pub q : RecvPage
  pub after_is : after ≡ with_recv b id q
  pub reads : ReadsPage b.error p max_length is_ordered r q

-- a half that is open isn't refused as closed
pub not_closed : (s : PlainStreams) (k : ℕ) (note : Note) (p : RecvPage) (o : Bool) → IsOpenHalf s k note p → readable_fault_at s.recv k o ≡ Some readable.ClosedStream → ⊥
not_closed s k note p o half is = at (o && half.half.is_unordered) (sym fault ∙ is)
  where
    fault : readable_fault_at s.recv k o ≡ (if o && half.half.is_unordered then Some readable.IllegalOrderedRead else None)
    fault = ap (λ (x : Option PlainRecv). half_readable_fault x o) half.there ∙ ap (λ (x : Bool). if x then Some readable.ClosedStream else if o && half.half.is_unordered then Some readable.IllegalOrderedRead else None) half.opened

    at : (x : Bool) → (if x then Some readable.IllegalOrderedRead else None) ≡ Some readable.ClosedStream → ⊥
    at true e = cc
    at false e = none-some _ e

pub not_closed_at : (s : PlainStreams) (k : ℕ) (note : Note) (p : RecvPage) → IsOpenHalf s k note p → is_closed_at s.recv k ≡ true → ⊥
not_closed_at s k note p half is = false≢true (sym half.opened ∙ sym (ap half_is_closed half.there) ∙ is)

pub mode_kept : (x y : Bool) (o : Bool) → x ≡ y → (x || not o) ≡ (y || not o)
mode_kept x y o e = ap (λ (z : Bool). z || not o) e

abbrev pub begun : Reader → (is_ordered : Bool) → Reader
begun r is_ordered = record r { is_unordered = r.is_unordered || not is_ordered }

module _ {T : Type 0} (b : Book) (id : StreamId) (max_length : ℕ) (is_ordered : Bool) where
  pub page_read : (r : Reply T) (after : Book) (p : RecvPage) → b.readers id.0 ≡ true → b.recvs id.0 ≡ Some p → is_open p.state ≡ true → Allows b (call.Read id max_length is_ordered) r after → IsPageRead b id.0 max_length is_ordered r after p
  page_read r after p held is opened allows = at (subst (λ (x : Bool). MatchBool x (Reads b id max_length is_ordered r after) ((r ≡ reply.ClosedStream) × (after ≡ b))) held allows)
    where
      at : Reads b id max_length is_ordered r after → IsPageRead b id.0 max_length is_ordered r after p
      at (inl closed) = absurd (none-some p (sym closed.0 ∙ open_page (b.recvs id.0) p is opened))
      at (inr reads) =
          let e : reads.page ≡ p = same_Some _ _ (sym reads.is_page ∙ open_page (b.recvs id.0) p is opened) in
          record { q = reads.left; after_is = reads.after; reads = subst (λ (x : RecvPage). ReadsPage b.error x max_length is_ordered r reads.left) e reads.reads }

  module _ (reader : Reader) (notes : ℕ → Note) (new : PlainStreams) (h : IsHeld false reader (notes id.0) (b.readers id.0) (b.recvs id.0)) (opened : reader.is_open ≡ true) where
    read_page : (r : Reply T) (next : ℕ → Note) (step : IsStreamStep b (call.Read id max_length is_ordered) r new next) → IsPageRead b id.0 max_length is_ordered r step.after h.p
    read_page r next step = page_read r step.after h.p h.held h.page_is (h.opened ∙ opened) step.allows

    pub read_bytes : (offset : ℕ) (bytes : List ℕ) → IsStreamStep {T = T} b (call.Read id max_length is_ordered) (reply.Bytes offset bytes) new notes
        → IsHeldStep {T = T} b (call.Read id max_length is_ordered) (reply.Bytes offset bytes) id.0 new notes (begun reader is_ordered)
    read_bytes offset bytes step = at page.reads
      where
        page : IsPageRead {T = T} b id.0 max_length is_ordered (reply.Bytes offset bytes) step.after h.p
        page = read_page (reply.Bytes offset bytes) notes step

        at : ReadsPage {T = T} b.error h.p max_length is_ordered (reply.Bytes offset bytes) page.q → IsHeldStep {T = T} b (call.Read id max_length is_ordered) (reply.Bytes offset bytes) id.0 new notes (begun reader is_ordered)
        at (inl none) = record {
          next = notes;
          step = step;
          q = page.q;
          after_is = page.after_is;
          others = λ k other. refl;
          noted = h.note_is;
          opened = ap (λ (x : RecvPage). is_open x.state) none.2 ∙ h.opened;
          unordered = ap (λ (x : RecvPage). x.is_unordered) none.2 ∙ mode_kept h.p.is_unordered reader.is_unordered is_ordered h.unordered;
          ended = open_bare (begun reader is_ordered) page.q (ap (λ (x : RecvPage). is_open x.state) none.2 ∙ (h.opened ∙ opened));
        }
        at (inr some) = record {
          next = notes;
          step = step;
          q = page.q;
          after_is = page.after_is;
          others = λ k other. refl;
          noted = h.note_is;
          opened = ap (λ (x : RecvPage). is_open x.state) some.4 ∙ h.opened;
          unordered = ap (λ (x : RecvPage). x.is_unordered) some.4 ∙ mode_kept h.p.is_unordered reader.is_unordered is_ordered h.unordered;
          ended = open_bare (begun reader is_ordered) page.q (ap (λ (x : RecvPage). is_open x.state) some.4 ∙ (h.opened ∙ opened));
        }

    pub read_end : (notes id.0).code ≡ None → IsStreamStep {T = T} b (call.Read id max_length is_ordered) reply.Ended new notes
        → IsHeldStep {T = T} b (call.Read id max_length is_ordered) reply.Ended id.0 new notes (record (begun reader is_ordered) { is_open = false })
    read_end none step =
        let page = read_page reply.Ended notes step in
        record {
          next = notes;
          step = step;
          q = page.q;
          after_is = page.after_is;
          others = λ k other. refl;
          noted = h.note_is;
          opened = ap (λ (x : RecvPage). is_open x.state) page.reads.5;
          unordered = ap (λ (x : RecvPage). x.is_unordered) page.reads.5 ∙ mode_kept h.p.is_unordered reader.is_unordered is_ordered h.unordered;
          ended = λ e. sym (ap (λ (n : Note). n.code) h.note_is) ∙ none;
        }

    pub read_reset : (code : ℕ) → IsStreamStep {T = T} b (call.Read id max_length is_ordered) (reply.Reset code) new (noted notes id.0 (record { code = Some code; is_told = true; gave_error = true }))
        → IsHeldStep {T = T} b (call.Read id max_length is_ordered) (reply.Reset code) id.0 new notes (record (begun reader is_ordered) { is_open = false; code = Some code; is_told = true; gave_error = true })
    read_reset code step =
        let page = read_page (reply.Reset code) _ step in
        record {
          next = noted notes id.0 (record { code = Some code; is_told = true; gave_error = true });
          step = step;
          q = page.q;
          after_is = page.after_is;
          others = noted_other notes id.0 _;
          noted = noted_here notes id.0 _;
          opened = ap (λ (x : RecvPage). is_open x.state) page.reads.3;
          unordered = ap (λ (x : RecvPage). x.is_unordered) page.reads.3 ∙ mode_kept h.p.is_unordered reader.is_unordered is_ordered h.unordered;
          ended = λ e. absurd (false≢true (sym (ap (λ (x : RecvPage). is_end_given x.state) page.reads.3) ∙ e));
        }

    pub read_lost : (e : ConnectionError) → IsStreamStep {T = T} b (call.Read id max_length is_ordered) (reply.ConnectionLost e) new (noted notes id.0 (record (notes id.0) { gave_error = true }))
        → IsHeldStep {T = T} b (call.Read id max_length is_ordered) (reply.ConnectionLost e) id.0 new notes (record (begun reader is_ordered) { gave_error = true })
    read_lost e step =
        let page = read_page (reply.ConnectionLost e) _ step in
        record {
          next = noted notes id.0 (record (notes id.0) { gave_error = true });
          step = step;
          q = page.q;
          after_is = page.after_is;
          others = noted_other notes id.0 _;
          noted = noted_here notes id.0 _ ∙ ap (λ (n : Note). record n { gave_error = true }) h.note_is;
          opened = ap (λ (x : RecvPage). is_open x.state) page.reads.4 ∙ h.opened;
          unordered = ap (λ (x : RecvPage). x.is_unordered) page.reads.4 ∙ mode_kept h.p.is_unordered reader.is_unordered is_ordered h.unordered;
          ended = open_bare (record (begun reader is_ordered) { gave_error = true }) page.q (ap (λ (x : RecvPage). is_open x.state) page.reads.4 ∙ (h.opened ∙ opened));
        }

    pub read_waits : IsStreamStep {T = T} b (call.Read id max_length is_ordered) reply.Pending new notes → IsHeldStep {T = T} b (call.Read id max_length is_ordered) reply.Pending id.0 new notes (begun reader is_ordered)
    read_waits step =
        let page = read_page reply.Pending notes step in
        record {
          next = notes;
          step = step;
          q = page.q;
          after_is = page.after_is;
          others = λ k other. refl;
          noted = h.note_is;
          opened = ap (λ (x : RecvPage). is_open x.state) page.reads.4 ∙ h.opened;
          unordered = ap (λ (x : RecvPage). x.is_unordered) page.reads.4 ∙ mode_kept h.p.is_unordered reader.is_unordered is_ordered h.unordered;
          ended = open_bare (begun reader is_ordered) page.q (ap (λ (x : RecvPage). is_open x.state) page.reads.4 ∙ (h.opened ∙ opened));
        }

    pub read_illegal : IsStreamStep {T = T} b (call.Read id max_length is_ordered) reply.IllegalOrderedRead new (noted notes id.0 (record (notes id.0) { gave_error = true }))
        → IsHeldStep {T = T} b (call.Read id max_length is_ordered) reply.IllegalOrderedRead id.0 new notes (record reader { gave_error = true })
    read_illegal step =
        let page = read_page reply.IllegalOrderedRead _ step in
        record {
          next = noted notes id.0 (record (notes id.0) { gave_error = true });
          step = step;
          q = page.q;
          after_is = page.after_is;
          others = noted_other notes id.0 _;
          noted = noted_here notes id.0 _ ∙ ap (λ (n : Note). record n { gave_error = true }) h.note_is;
          opened = ap (λ (x : RecvPage). is_open x.state) page.reads.2 ∙ h.opened;
          unordered = ap (λ (x : RecvPage). x.is_unordered) page.reads.2 ∙ h.unordered;
          ended = open_bare (record reader { gave_error = true }) page.q (ap (λ (x : RecvPage). is_open x.state) page.reads.2 ∙ (h.opened ∙ opened));
        }
