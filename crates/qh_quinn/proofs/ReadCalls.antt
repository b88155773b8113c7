-- Reads of the connection, as the state makes them.
use Rattle.std.proofs.Common.{◌≡◌, ◌⊎◌, ℕ, ◌<◌, Bool, true, false, ◌||◌, Option, Some, None, is_some, refl, sym, ap, ◌∙◌, inl, inr, subst, arith}
use Rattle.std.proofs.lemmas.Bool.{false≢true}
use Rattle.qh_book.specs.Book.{Book}
use Rattle.qh_book.specs.Pages.{RecvPage, is_open}
use Rattle.qh_book.specs.Shown.{Note}
use Rattle.qh_half.specs.declared.fault.ReadableFault.TheVariants as readable
use Rattle.qh_halves.specs.RecvHalves.{Begins, IsRecvStep, PlainRecvHalves, is_closed_at, readable_fault_at}
use Rattle.qh_quinn.proofs.Moving.{greeted_by}
use Rattle.qh_quinn.proofs.ReadSteps.{not_closed, not_closed_at}
use Rattle.qh_quinn.proofs.Recvs.{IsOpenHalf, holder, lost_open, read_at}
use Rattle.qh_quinn.specs.Readers.{code_of, reader_in}
use Rattle.qh_quinn.specs.States.{IsState, ShowsWith}
use Rattle.qh_quinn.specs.declared.readers.Reader.{Reader}
use Rattle.qh_quinn.specs.declared.inner.StateInner.{StateInner}
use Rattle.qh_shown.specs.Connections.{ShowsLost, is_wanting}

or_none : (o : Bool) → (o || false) ≡ o
or_none true = refl
or_none false = refl

-- memory didn't lack: the order is the one that was asked for
pub begun_in : (o : Bool) (old mid : PlainRecvHalves) (id : ℕ) → IsRecvStep (Begins (o || false)) old mid id 0 → IsRecvStep (Begins o) old mid id 0
begun_in o old mid id step = subst (λ (x : Bool). IsRecvStep (Begins x) old mid id 0) (or_none o) step

pub above : (n : ℕ) → (n ≡ 0 → ⊥) → 0 < n
above n e = omega arith

pub other_one : {B : Type 0} (x : Bool) → x ≡ true → (x ≡ false) ⊎ B → B
other_one x is (inl u) = absurd (false≢true (sym u ∙ is))
other_one x is (inr u) = u

module _ {S : Type 0} (s : StateInner S) (id : ℕ) (reader : Reader) (state : IsState s) (there : reader_in s.readers id ≡ Some reader) where
  pub greeted_if_held : is_wanting s.connection ≡ false → is_some s.connection.handshake.peer ≡ true
  greeted_if_held calm =
      let shown = state.shown.shows in
      let h = holder state.shown.notes s state.book id reader shown there in
      greeted_by s.connection state.shown.notes state.book id h.p (shown.connection.live calm) h.page_is

  half_if_held : (calm : is_wanting s.connection ≡ false) → reader.is_open ≡ true → IsOpenHalf s.connection.core.space.streams id (state.shown.notes id) (holder state.shown.notes s state.book id reader state.shown.shows there).p
  half_if_held calm opened =
      let shown = state.shown.shows in
      let h = holder state.shown.notes s state.book id reader shown there in
      read_at state.shown.notes s.connection.core.space.streams state.book id h.p (shown.connection.live calm).streams h.page_is (h.opened ∙ opened)

  -- one that is read isn't closed
  pub never_closed : (o : Bool) → is_wanting s.connection ≡ false → reader.is_open ≡ true → readable_fault_at s.connection.core.space.streams.recv id o ≡ Some readable.ClosedStream → ⊥
  never_closed o calm opened fault = not_closed s.connection.core.space.streams id _ _ o (half_if_held calm opened) fault

  pub never_closed_at : is_wanting s.connection ≡ false → reader.is_open ≡ true → is_closed_at s.connection.core.space.streams.recv id ≡ true → ⊥
  never_closed_at calm opened closed = not_closed_at s.connection.core.space.streams id _ _ (half_if_held calm opened) closed

  -- nor is the code of its reset known
  pub code_unknown : is_wanting s.connection ≡ false → reader.is_open ≡ true → reader.code ≡ None
  code_unknown calm opened =
      let h = holder state.shown.notes s state.book id reader state.shown.shows there in
      ap (λ (w : Bool). code_of w reader) (sym calm) ∙ sym (ap (λ (n : Note). n.code) h.note_is) ∙ (half_if_held calm opened).noted.none

  -- one whose code is known isn't read
  pub known_shut : (notes : ℕ → Note) (b : Book) (p : RecvPage) (code : ℕ) → ShowsWith notes s b → b.recvs id ≡ Some p → (notes id).code ≡ Some code → is_open p.state ≡ false
  known_shut notes b p code shown page known = at (is_open p.state) refl
    where
      none_known : (notes id).code ≡ None → ⊥
      none_known none = let z : None ≡ Some code = sym none ∙ known in cc

      at : (x : Bool) → is_open p.state ≡ x → x ≡ false
      at false e = refl
      at true e = absurd (by (is_wanting s.connection) refl)
        where
          by : (w : Bool) → is_wanting s.connection ≡ w → ⊥
          by true wanting = none_known (lost_open (notes id) p e (subst (λ (o : Option RecvPage). ShowsLost (notes id) o) page ((shown.connection.emptied wanting).recvs id))).1
          by false calm = none_known (read_at notes s.connection.core.space.streams b id p (shown.connection.live calm).streams page e).noted.none
