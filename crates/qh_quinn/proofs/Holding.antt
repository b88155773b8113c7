-- Receiving halves that handles hold: what a book and the readers of a state have of them.
use Rattle.std.proofs.Common.{◌≡◌, ℕ, ◌==◌, Bool, true, false, Option, Some, None, if◌then◌else◌, refl, sym, ap, ◌∙◌, subst}
use Rattle.std.proofs.lemmas.Bool.{eqb-true, false≢true}
use Rattle.std.specs.Prelude.{IfSome}
use Rattle.qh_book.specs.Book.{Book, with_recv}
use Rattle.qh_book.specs.Pages.{EndGiven, RecvPage, RecvState, is_open}
use Rattle.qh_book.specs.Shown.{Note}
use Rattle.qh_quinn.specs.Readers.{EndsBare, HoldsReader, is_end_given, note_of, reader_in, with_reader, PlainReaders}
use Rattle.qh_quinn.specs.States.{AreUntouched, IsUntouched, is_unaccepted}
use Rattle.qh_quinn.specs.declared.readers.Reader.{Reader}

-- a handle holds the half of this reader
pub record IsHeld (w : Bool) (r : Reader) (note : Note) (is_held : Bool) (page : Option RecvPage) : Type 0 where
  pub held : is_held ≡ true
  pub p : RecvPage
  pub page_is : page ≡ Some p
  pub note_is : note ≡ note_of w r
  pub opened : is_open p.state ≡ r.is_open
  pub unordered : p.is_unordered ≡ r.is_unordered
  pub ended : EndsBare r p

held_in : (w : Bool) (r : Reader) (is_held : Bool) (note : Note) (page : Option RecvPage) → HoldsReader w (Some r) is_held note page → IsHeld w r note is_held page
held_in w r true note (Some p) h = record { held = refl; p = p; page_is = refl; note_is = h.0; opened = h.1; unordered = h.2; ended = h.3 }
held_in w r true note None h = absurd h
held_in w r false note page h = absurd h

pub held_by : (w : Bool) (reader : Option Reader) (r : Reader) (is_held : Bool) (note : Note) (page : Option RecvPage) → reader ≡ Some r → HoldsReader w reader is_held note page → IsHeld w r note is_held page
held_by w reader r is_held note page is h = held_in w r is_held note page (subst (λ (o : Option Reader). HoldsReader w o is_held note page) is h)

unheld_in : (w : Bool) (is_held : Bool) (note : Note) (page : Option RecvPage) → HoldsReader w None is_held note page → is_held ≡ false
unheld_in w false note page h = refl
unheld_in w true note page h = absurd h

pub unheld_by : (w : Bool) (reader : Option Reader) (is_held : Bool) (note : Note) (page : Option RecvPage) → reader ≡ None → HoldsReader w reader is_held note page → is_held ≡ false
unheld_by w reader is_held note page is h = unheld_in w is_held note page (subst (λ (o : Option Reader). HoldsReader w o is_held note page) is h)

pub no_reader_by : (w : Bool) (reader : Option Reader) (is_held : Bool) (note : Note) (page : Option RecvPage) → is_held ≡ false → HoldsReader w reader is_held note page → reader ≡ None
no_reader_by w None is_held note page is h = refl
no_reader_by w (Some r) is_held note page is h = absurd (false≢true (sym is ∙ (held_in w r is_held note page h).held))

pub holds : (w : Bool) (r : Reader) (is_held : Bool) (note : Note) (page : Option RecvPage) → IsHeld w r note is_held page → HoldsReader w (Some r) is_held note page
holds w r is_held note page h =
    subst (λ (x : Bool). HoldsReader w (Some r) x note page) (sym h.held)
    (subst (λ (o : Option RecvPage). HoldsReader w (Some r) true note o) (sym h.page_is) (h.note_is, h.opened, h.unordered, h.ended))

open_unended : (s : RecvState) → is_open s ≡ true → is_end_given s ≡ true → ⊥
open_unended EndGiven opened ended = false≢true opened
open_unended other opened ended = false≢true ended

pub open_bare : (r : Reader) (p : RecvPage) → is_open p.state ≡ true → EndsBare r p
open_bare r p opened = λ ended. absurd (open_unended p.state opened ended)

-- a half that a handle holds gets another page, with another reader and what is noted then
pub readers_put : (w : Bool) (notes after : ℕ → Note) (held new : PlainReaders) (b : Book) (id : ℕ) (r next : Reader) (q : RecvPage) → ((k : ℕ) → HoldsReader w (reader_in held k) (b.readers k) (notes k) (b.recvs k))
    → reader_in held id ≡ Some r → ((k : ℕ) → reader_in new k ≡ (if k == id then with_reader next (reader_in held k) else reader_in held k)) → ((k : ℕ) → (k == id) ≡ false → after k ≡ notes k)
    → after id ≡ note_of w next → is_open q.state ≡ next.is_open → q.is_unordered ≡ next.is_unordered → EndsBare next q → (k : ℕ) → HoldsReader w (reader_in new k) ((with_recv b id q).readers k) (after k) ((with_recv b id q).recvs k)
readers_put w notes after held new b id r next q old there put others noted opened unordered ended k = at (k == id) (eqb-true k id) (put k) (others k)
  where
    on : b.readers id ≡ true
    on = (held_by w (reader_in held id) r (b.readers id) (notes id) (b.recvs id) there (old id)).held

    at : (here : Bool) → (here ≡ true → k ≡ id) → reader_in new k ≡ (if here then with_reader next (reader_in held k) else reader_in held k) → (here ≡ false → after k ≡ notes k) → HoldsReader w (reader_in new k) (b.readers k) (after k) (if here then Some q else b.recvs k)
    at true same is other =
        let e : k ≡ id = same refl in
        let got : reader_in new k ≡ Some next = is ∙ ap (λ (o : Option Reader). with_reader next o) (ap (λ (n : ℕ). reader_in held n) e ∙ there) in
        subst (λ (o : Option Reader). HoldsReader w o (b.readers k) (after k) (Some q)) (sym got)
        (holds w next (b.readers k) (after k) (Some q) (record { held = ap b.readers e ∙ on; p = q; page_is = refl; note_is = ap after e ∙ noted; opened = opened; unordered = unordered; ended = ended }))
    at false same is other =
        subst (λ (o : Option Reader). HoldsReader w o (b.readers k) (after k) (b.recvs k)) (sym is)
        (subst (λ (n : Note). HoldsReader w (reader_in held k) (b.readers k) n (b.recvs k)) (sym (other refl)) (old k))

-- ---- streams that wait to be accepted

pub untouched_put : (b : Book) (id : ℕ) (q : RecvPage) → b.readers id ≡ true → AreUntouched b → AreUntouched (with_recv b id q)
untouched_put b id q held u = record { unheld = u.unheld; page = λ k is. at k (k == id) (eqb-true k id) is }
  where
    at : (k : ℕ) (here : Bool) → (here ≡ true → k ≡ id) → is_unaccepted b k ≡ true → IfSome (if here then Some q else b.recvs k) IsUntouched
    at k true same is = absurd (false≢true (sym (u.unheld k is) ∙ (ap b.readers (same refl) ∙ held)))
    at k false same is = u.page k is

-- nothing of receiving halves changed
pub record SameRecvs (b c : Book) : Type 0 where
  pub side : c.side ≡ b.side
  pub recvs : c.recvs ≡ b.recvs
  pub readers : c.readers ≡ b.readers
  pub bi : c.bi ≡ b.bi
  pub uni : c.uni ≡ b.uni

pub untouched_same : (b c : Book) → SameRecvs b c → AreUntouched b → AreUntouched c
untouched_same b c same u = record {
  unheld = λ k is. ap (λ (f : ℕ → Bool). f k) same.readers ∙ u.unheld k (alike k ∙ is);
  page = λ k is. subst (λ (f : ℕ → Option RecvPage). IfSome (f k) IsUntouched) (sym same.recvs) (u.page k (alike k ∙ is));
}
  where
    alike : (k : ℕ) → is_unaccepted b k ≡ is_unaccepted c k
    alike k = rw (same.side, same.bi, same.uni) refl
