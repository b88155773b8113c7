-- Calls on a half that a handle holds, once want of memory ended the connection.
use Rattle.std.proofs.Common.{◌≡◌, ℕ, Bool, true, false, ◌&&◌, not, Option, Some, None, if◌then◌else◌, refl, sym, ap, ◌∙◌, subst}
use Rattle.std.proofs.lemmas.Bool.{false≢true}
use Rattle.std.proofs.lemmas.Option.{none-some}
use Rattle.std.specs.Prelude.{MatchBool}
use Rattle.qh_base.specs.declared.connection_error.ConnectionError.{ConnectionError}
use Rattle.qh_book.specs.Book.{Book, with_recv}
use Rattle.qh_book.specs.Pages.{RecvPage, ResetGiven, is_open}
use Rattle.qh_book.specs.Receiving.{in_mode, with_error, with_stopped}
use Rattle.qh_book.specs.Shown.{DatagramBounds, IsShut, Note}
use Rattle.qh_book.specs.Step.{Allows}
use Rattle.qh_book.specs.declared.call.Call.{Call}
use Rattle.qh_book.specs.declared.reply.Reply.{Reply}
use Rattle.qh_quinn.proofs.Holding.{IsHeld, open_bare}
use Rattle.qh_quinn.proofs.Moving.{never_none}
use Rattle.qh_quinn.proofs.ReadSteps.{begun, mode_kept}
use Rattle.qh_quinn.proofs.Recvs.{IsLostStep, lost_open}
use Rattle.qh_quinn.specs.Readers.{code_of, note_of}
use Rattle.qh_quinn.specs.States.{IsState}
use Rattle.qh_quinn.specs.declared.readers.Reader.{Reader}
use Rattle.qh_quinn.specs.declared.inner.StateInner.{StateInner}
use Rattle.qh_shown.specs.Connections.{IsDry, IsEmptied, ShowsLost, is_wanting}

pub code_known : (w : Bool) (r : Reader) (code : ℕ) → code_of w r ≡ Some code → code_of w r ≡ r.code
code_known w r code is = at (w && not r.is_told) is
  where
    at : (x : Bool) → (if x then None else r.code) ≡ Some code → (if x then None else r.code) ≡ r.code
    at true e = absurd (none-some code e)
    at false e = refl

module _ {bounds : DatagramBounds} (b : Book) (id : ℕ) (reader : Reader) (notes : ℕ → Note) (h : IsHeld true reader (notes id) (b.readers id) (b.recvs id)) (e : IsEmptied bounds notes b) where
  pub lost_page : ShowsLost (notes id) (Some h.p)
  lost_page = subst (λ (o : Option RecvPage). ShowsLost (notes id) o) h.page_is (e.recvs id)

  pub dry : reader.is_open ≡ true → IsDry h.p × ((notes id).code ≡ None) × ((notes id).is_told ≡ false)
  dry opened = lost_open (notes id) h.p (h.opened ∙ opened) lost_page

-- a page that is open still
stays_open : (note : Note) (q : RecvPage) → is_open q.state ≡ true → IsDry q → note.code ≡ None → note.is_told ≡ false → ShowsLost note (Some q)
stays_open note q opened d none untold = subst (λ (x : Bool). MatchBool x (IsDry q × (note.code ≡ None) × (note.is_told ≡ false)) (IsShut note q)) (sym opened) (d, none, untold)

module _ {T : Type 0} {bounds : DatagramBounds} (b : Book) (id : ℕ) (reader : Reader) (notes : ℕ → Note) (h : IsHeld true reader (notes id) (b.readers id) (b.recvs id)) (e : IsEmptied bounds notes b) where
  pub lost_nothing : (c : Call) (r : Reply T) (o : Bool) → reader.is_open ≡ true → Allows b c r (with_recv b id (in_mode o h.p)) → IsLostStep {T = T} b c r id (begun reader o)
  lost_nothing c r o opened allows =
      let d = dry b id reader notes h e opened in
      record {
        note = notes id;
        q = in_mode o h.p;
        allows = allows;
        shows = stays_open (notes id) (in_mode o h.p) (h.opened ∙ opened) (record { unread = d.0.unread; end = d.0.end; reset_code = d.0.reset_code }) d.1 d.2;
        noted = h.note_is;
        opened = h.opened;
        unordered = mode_kept h.p.is_unordered reader.is_unordered o h.unordered;
        ended = open_bare (begun reader o) (in_mode o h.p) (h.opened ∙ opened);
      }

  pub lost_illegal : (c : Call) (r : Reply T) → reader.is_open ≡ true → Allows b c r (with_recv b id (with_error h.p)) → IsLostStep {T = T} b c r id (record reader { gave_error = true })
  lost_illegal c r opened allows =
      let d = dry b id reader notes h e opened in
      record {
        note = record (notes id) { gave_error = true };
        q = with_error h.p;
        allows = allows;
        shows = stays_open (record (notes id) { gave_error = true }) (with_error h.p) (h.opened ∙ opened) (record { unread = d.0.unread; end = d.0.end; reset_code = d.0.reset_code }) d.1 d.2;
        noted = ap (λ (n : Note). record n { gave_error = true }) h.note_is;
        opened = h.opened;
        unordered = h.unordered;
        ended = open_bare (record reader { gave_error = true }) (with_error h.p) (h.opened ∙ opened);
      }

  pub lost_read : (c : Call) (r : Reply T) (o : Bool) → reader.is_open ≡ true → Allows b c r (with_recv b id (with_error (in_mode o h.p))) → IsLostStep {T = T} b c r id (record (begun reader o) { gave_error = true })
  lost_read c r o opened allows =
      let d = dry b id reader notes h e opened in
      record {
        note = record (notes id) { gave_error = true };
        q = with_error (in_mode o h.p);
        allows = allows;
        shows = stays_open (record (notes id) { gave_error = true }) (with_error (in_mode o h.p)) (h.opened ∙ opened) (record { unread = d.0.unread; end = d.0.end; reset_code = d.0.reset_code }) d.1 d.2;
        noted = ap (λ (n : Note). record n { gave_error = true }) h.note_is;
        opened = h.opened;
        unordered = mode_kept h.p.is_unordered reader.is_unordered o h.unordered;
        ended = open_bare (record (begun reader o) { gave_error = true }) (with_error (in_mode o h.p)) (h.opened ∙ opened);
      }

  pub lost_stop : (c : Call) (r : Reply T) → reader.is_open ≡ true → Allows b c r (with_recv b id (with_stopped h.p)) → IsLostStep {T = T} b c r id (record reader { is_open = false })
  lost_stop c r opened allows =
      let d = dry b id reader notes h e opened in
      record {
        note = notes id;
        q = with_stopped h.p;
        allows = allows;
        shows = record { shut = refl; code = d.0.reset_code ∙ sym d.1; told = sym d.2 };
        noted = h.note_is;
        opened = refl;
        unordered = h.unordered;
        ended = λ e. absurd (false≢true e);
      }

  pub lost_told : (c : Call) (r : Reply T) (code : ℕ) → code_of true reader ≡ Some code → is_open h.p.state ≡ false → IsShut (notes id) h.p → Allows b c r (with_recv b id (record h.p { state = ResetGiven })) → IsLostStep {T = T} b c r id (record reader { is_told = true })
  lost_told c r code known shut s allows = record {
    note = record (notes id) { is_told = true };
    q = record h.p { state = ResetGiven };
    allows = allows;
    shows = record { shut = refl; code = s.code; told = refl };
    noted = ap (λ (n : Note). record n { is_told = true }) h.note_is ∙ ap (λ (o : Option ℕ). record (note_of true reader) { is_told = true; code = o }) (code_known true reader code known);
    opened = sym shut ∙ h.opened;
    unordered = h.unordered;
    ended = λ e. absurd (false≢true e);
  }

module _ {S : Type 0} where
  -- the error that is kept then
  pub kept_then : (s : StateInner S) → IsState s → is_wanting s.connection ≡ true → (e : ConnectionError) × (s.error ≡ Some e)
  kept_then s state wanting = at s.error refl
    where
      at : (o : Option ConnectionError) → s.error ≡ o → (e : ConnectionError) × (s.error ≡ Some e)
      at (Some e) is = (e, is)
      at None is = absurd (never_none s state.shown.notes state.book state state.shown.shows wanting is)
