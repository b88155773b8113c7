-- What comes to a receiving half: bytes, the end, a reset.
use Rattle.std.proofs.Common.{◌≡◌, ℕ, ◌+◌, ◌-◌, ◌≤◌, nat_lt, max, Bool, true, false, ◌||◌, not, List, length, Option, Some, None, is_some, if◌then◌else◌, refl, sym, ap, ◌∙◌, arith, subst}
use Rattle.std.proofs.lemmas.Bool.{false≢true, le-ltb, ltb-false}
use Rattle.std.proofs.lemmas.Option.{none-some, slice_get_past}
use Rattle.qh_book.specs.Pages.{RecvPage, unread_at, with_end, with_reset_by_peer, with_run, without_unread}
use Rattle.qh_book.specs.Shown.{ShowsReading}
use Rattle.qh_buffers.specs.Assembler.{IsInserted, PlainAssembler, byte_of, or_byte, to_give, was_given}
use Rattle.qh_buffers.specs.Ranges.{PlainRange, count_of, has}
use Rattle.qh_buffers.specs.declared.assembler.Chunk.{Chunk}
use Rattle.qh_half.specs.Recv.{IsIngested, IsResetBy, PlainRecv, final_size, is_reset, keeps_bytes, reset_code, with_size}
use Rattle.qh_half.specs.declared.recv.RecvState.{RecvState as HalfState}
use Rattle.qh_half.specs.declared.recv.RecvState.TheVariants.{Recv, ResetRecvd}

-- ---- the bytes of a page once more came

past_piece : (c : Chunk) (k : ℕ) → c.offset + length c.bytes ≤ k → byte_of c k ≡ None
past_piece c k far = let low : c.offset ≤ k = omega (arith, far) in rw (le-ltb k c.offset low) (slice_get_past c.bytes (k - c.offset) (omega (arith, far)))

past_page : (p : RecvPage) (k : ℕ) → p.unread_to ≤ k → unread_at p k ≡ None
past_page p k far = rw (le-ltb k p.unread_to far) refl

within : (low given : Bool) (o byte : Option ℕ) → (low ≡ false → (o ≡ None) × (byte ≡ None)) → (if low then (if given then None else or_byte o byte) else None) ≡ (if given then None else or_byte o byte)
within true given o byte far = refl
within false true o byte far = refl
within false false o byte far = let f = far refl in rw (f.0, f.1) refl

page_run : RecvPage → Chunk → RecvPage
page_run p c = record p { unread = λ k. if p.was_read k then None else or_byte (unread_at p k) (byte_of c k); unread_to = max p.unread_to (c.offset + length c.bytes) }

run_at : (p : RecvPage) (c : Chunk) (k : ℕ) → unread_at (page_run p c) k ≡ (if p.was_read k then None else or_byte (unread_at p k) (byte_of c k))
unfolding page_run
run_at p c k = within (nat_lt k (max p.unread_to (c.offset + length c.bytes))) (p.was_read k) (unread_at p k) (byte_of c k)
    (λ far. let high : max p.unread_to (c.offset + length c.bytes) ≤ k = ltb-false k _ far in (past_page p k (omega (arith, high)), past_piece c k (omega (arith, high))))

-- ---- the state of a half

kept_size : (fin : Bool) (size : ℕ) (state : HalfState) → is_some (reset_code state) ≡ true → (if fin then with_size size state else state) ≡ state
kept_size true size (Recv known) has = absurd (false≢true has)
kept_size true size (ResetRecvd s code) has = refl
kept_size false size state has = refl

new_size : (fin : Bool) (size : ℕ) (state : HalfState) → reset_code state ≡ None → (final_size (if fin then with_size size state else state) ≡ (if fin then Some size else final_size state)) × (reset_code (if fin then with_size size state else state) ≡ None)
new_size true size (Recv known) none = (refl, refl)
new_size true size (ResetRecvd s code) none = absurd (none-some code (sym none))
new_size false size state none = (refl, none)

is_reset_code : (state : HalfState) → is_reset state ≡ is_some (reset_code state)
is_reset_code (Recv size) = refl
is_reset_code (ResetRecvd size code) = refl

-- ---- bytes, and the end with them

abbrev pub page_with : (fin : Bool) → Chunk → RecvPage → RecvPage
page_with true c p = with_end (c.offset + length c.bytes) (with_run c p)
page_with false c p = with_run c p

module _ (r next : PlainRecv) (p : RecvPage) (c : Chunk) (fin : Bool) (fresh : ℕ) (off : r.is_stopped ≡ false) (shown : ShowsReading r p) (g : IsIngested r next c fin fresh) where
  rest : next ≡ record r { assembler = next.assembler; end = next.end; state = next.state }
  rest = g.rest_is

  -- after a reset nothing is kept
  after_reset : (code : ℕ) → reset_code r.state ≡ Some code → ShowsReading next (page_with fin c p)
  after_reset code was = subst (λ (q : RecvPage). ShowsReading next q) (sym page) (record {
    state = shown.state;
    unread = λ k. shown.unread k ∙ ap (λ (a : PlainAssembler). to_give a k) (sym same);
    next = λ ordered. shown.next (sym (ap (λ (x : PlainRecv). x.is_unordered) rest) ∙ ordered);
    was_read = λ k. shown.was_read k ∙ ap (λ (a : PlainAssembler). was_given a k) (sym same);
    read = shown.read ∙ ap (λ (a : PlainAssembler). count_of a.given) (sym same);
    end = shown.end ∙ ap final_size (sym state);
    reset_code = shown.reset_code ∙ ap reset_code (sym state);
    dry = shown.dry;
    is_unordered = shown.is_unordered ∙ sym (ap (λ (x : PlainRecv). x.is_unordered) rest);
  })
    where
      has_code : is_some (reset_code r.state) ≡ true
      has_code = ap is_some was

      dropped : keeps_bytes r ≡ false
      dropped = ap (λ (x : Bool). not (r.is_stopped || x)) (is_reset_code r.state ∙ has_code) ∙ none r.is_stopped
        where
          none : (x : Bool) → not (x || true) ≡ false
          none true = refl
          none false = refl

      same : next.assembler ≡ r.assembler
      same = g.dropped dropped

      state : next.state ≡ r.state
      state = g.state_is ∙ kept_size fin (c.offset + length c.bytes) r.state has_code

      page_code : is_some p.reset_code ≡ true
      page_code = ap is_some shown.reset_code ∙ has_code

      run_is : with_run c p ≡ p
      run_is = rw page_code refl

      page_at : (f : Bool) → page_with f c p ≡ p
      page_at true = ap (with_end (c.offset + length c.bytes)) run_is ∙ (rw page_code refl)
      page_at false = run_is

      page : page_with fin c p ≡ p
      page = page_at fin

  before_reset : reset_code r.state ≡ None → ShowsReading next (page_with fin c p)
  unfolding page_run
  before_reset was = subst (λ (q : RecvPage). ShowsReading next q) (sym page) (record {
    state = shown.state;
    unread = λ k. run_at p c k ∙ (bytes k ∙ sym (inserted.bytes_are k));
    next = λ ordered. shown.next (sym (ap (λ (x : PlainRecv). x.is_unordered) rest) ∙ ordered);
    was_read = λ k. shown.was_read k ∙ ap (λ (l : List PlainRange). has l k) (sym inserted.given_is);
    read = shown.read ∙ ap (λ (l : List PlainRange). count_of l) (sym inserted.given_is);
    end = end_is;
    reset_code = shown.reset_code ∙ (was ∙ (sym size.1 ∙ ap reset_code (sym g.state_is)));
    dry = λ has. absurd (false≢true (sym page_code ∙ has));
    is_unordered = shown.is_unordered ∙ sym (ap (λ (x : PlainRecv). x.is_unordered) rest);
  })
    where
      kept : keeps_bytes r ≡ true
      kept = ap (λ (x : Bool). not (x || is_reset r.state)) off ∙ ap not (is_reset_code r.state ∙ ap is_some was)

      inserted : IsInserted r.assembler next.assembler c
      inserted = g.bytes_are kept

      size : (final_size (if fin then with_size (c.offset + length c.bytes) r.state else r.state) ≡ (if fin then Some (c.offset + length c.bytes) else final_size r.state)) × (reset_code (if fin then with_size (c.offset + length c.bytes) r.state else r.state) ≡ None)
      size = new_size fin (c.offset + length c.bytes) r.state was

      page_code : is_some p.reset_code ≡ false
      page_code = ap is_some (shown.reset_code ∙ was)

      run_is : with_run c p ≡ page_run p c
      run_is = rw page_code refl

      page_at : (f : Bool) → page_with f c p ≡ record (page_run p c) { end = (if f then Some (c.offset + length c.bytes) else p.end) }
      page_at true = ap (with_end (c.offset + length c.bytes)) run_is ∙ (rw page_code refl)
      page_at false = run_is

      page : page_with fin c p ≡ record (page_run p c) { end = (if fin then Some (c.offset + length c.bytes) else p.end) }
      page = page_at fin

      end_is : (if fin then Some (c.offset + length c.bytes) else p.end) ≡ final_size next.state
      end_is = ap (λ (o : Option ℕ). if fin then Some (c.offset + length c.bytes) else o) shown.end ∙ (sym size.0 ∙ ap final_size (sym g.state_is))

      bytes : (k : ℕ) → (if p.was_read k then None else or_byte (unread_at p k) (byte_of c k)) ≡ (if was_given r.assembler k then None else or_byte (to_give r.assembler k) (byte_of c k))
      bytes k = rw (shown.was_read k, shown.unread k) refl

  pub shown_run : ShowsReading next (page_with fin c p)
  shown_run = cases (reset_code r.state) refl
    where
      cases : (o : Option ℕ) → reset_code r.state ≡ o → ShowsReading next (page_with fin c p)
      cases (Some code) is = after_reset code is
      cases None is = before_reset is

-- ---- a reset

module _ (r next : PlainRecv) (p : RecvPage) (code size fresh : ℕ) (shown : ShowsReading r p) (g : IsResetBy r next code size fresh) where
  again : (known : ℕ) → reset_code r.state ≡ Some known → ShowsReading next (with_reset_by_peer code size p)
  again known was = subst (λ (q : RecvPage). ShowsReading next q) (sym page) (record {
    state = shown.state;
    unread = λ k. shown.dry page_code k ∙ sym (g.none k);
    next = λ ordered. shown.next (sym (ap (λ (x : PlainRecv). x.is_unordered) g.rest_is) ∙ ordered);
    was_read = λ k. shown.was_read k ∙ ap (λ (l : List PlainRange). has l k) (sym g.given_is);
    read = shown.read ∙ ap (λ (l : List PlainRange). count_of l) (sym g.given_is);
    end = shown.end ∙ ap final_size (sym (g.kept known was));
    reset_code = shown.reset_code ∙ ap reset_code (sym (g.kept known was));
    dry = shown.dry;
    is_unordered = shown.is_unordered ∙ sym (ap (λ (x : PlainRecv). x.is_unordered) g.rest_is);
  })
    where
      page_code : is_some p.reset_code ≡ true
      page_code = ap is_some (shown.reset_code ∙ was)

      page : with_reset_by_peer code size p ≡ p
      page = rw page_code refl

  first : reset_code r.state ≡ None → ShowsReading next (with_reset_by_peer code size p)
  first was = subst (λ (q : RecvPage). ShowsReading next q) (sym page) (record {
    state = shown.state;
    unread = λ k. nothing (nat_lt k 0) ∙ sym (g.none k);
    next = λ ordered. shown.next (sym (ap (λ (x : PlainRecv). x.is_unordered) g.rest_is) ∙ ordered);
    was_read = λ k. shown.was_read k ∙ ap (λ (l : List PlainRange). has l k) (sym g.given_is);
    read = shown.read ∙ ap (λ (l : List PlainRange). count_of l) (sym g.given_is);
    end = sym (ap final_size (g.again was));
    reset_code = sym (ap reset_code (g.again was));
    dry = λ has k. nothing (nat_lt k 0);
    is_unordered = shown.is_unordered ∙ sym (ap (λ (x : PlainRecv). x.is_unordered) g.rest_is);
  })
    where
      nothing : (low : Bool) → ◌≡◌ {A = Option ℕ} (if low then None else None) None
      nothing true = refl
      nothing false = refl

      page_code : is_some p.reset_code ≡ false
      page_code = ap is_some (shown.reset_code ∙ was)

      page : with_reset_by_peer code size p ≡ record (without_unread p) { end = Some size; reset_code = Some code }
      page = rw page_code refl

  pub shown_reset : ShowsReading next (with_reset_by_peer code size p)
  shown_reset = cases (reset_code r.state) refl
    where
      cases : (o : Option ℕ) → reset_code r.state ≡ o → ShowsReading next (with_reset_by_peer code size p)
      cases (Some known) is = again known is
      cases None is = first is
