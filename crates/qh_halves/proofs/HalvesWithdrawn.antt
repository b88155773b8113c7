-- A half is taken out: what the sending halves keep then.
use Rattle.std.proofs.Common.{◌≡◌, ℕ, ℤ, ◌+◌, ◌==◌, Bool, true, false, not, ◌&&◌, List, [], ◌∷◌, Option, Some, None, is_some, cond, if◌then◌else◌, nat_cmp, refl, sym, ap, ◌∙◌, arith, inl, inr}
use Rattle.std.specs.BTreeMap.{is_at}
use Rattle.std.specs.Map.{remove_entry, values_of}
use Rattle.std.specs.List.{sum_by}
use Rattle.std.proofs.lemmas.Bool.Decides.{eqb_tells}
use Rattle.std.proofs.lemmas.List.Sums.{sum_by-cons}
use Rattle.std.proofs.lemmas.Map.Entries.{sum_by-remove_entry}
use Rattle.qh_halves.specs.Pending.{PlainPending, has_room, waits}
use Rattle.qh_half.specs.Send.{PlainSend, held}
use Rattle.qh_halves.specs.SendHalves.{half_in, half_priority, unacked, AreSendHalves}
use Rattle.qh_halves.proofs.MapWritten.{at_key}

unacked_sum : (es : List (ℕ × PlainSend)) → unacked es ≡ sum_by held (values_of es)
unacked_sum [] = refl
unacked_sum (e ∷ es) = ap (λ (n : ℕ). held e.1 + n) (unacked_sum es) ∙ sym (sum_by-cons held e.1 (values_of es))

-- the stream that leaves has no room, and the others have it as before
pub room_left : {X : Type 0} (here room : Bool) (o : Option X) → room ≡ is_some o → (not here && room) ≡ is_some (if here then None else o)
room_left true room o e = refl
room_left false room o e = e

-- the bytes that a half holds are among those of all
pub unacked_removed : (es : List (ℕ × PlainSend)) (id : ℕ) (h : PlainSend) → half_in es id ≡ Some h → unacked (remove_entry (is_at (nat_cmp id)) es) + held h ≡ unacked es
unacked_removed es id h was =
    let sum = rw was at (sum_by-remove_entry held (is_at (nat_cmp id)) es) in
    omega (arith, sum, unacked_sum es, unacked_sum (remove_entry (is_at (nat_cmp id)) es))

module _ (es new : List (ℕ × PlainSend)) (pending queue : PlainPending) (max_data data_sent count : ℕ) (ok : AreSendHalves es pending max_data data_sent count) (id : ℕ) (h : PlainSend) (was : half_in es id ≡ Some h)
    (out : (k : ℕ) → half_in new k ≡ cond (is_at (nat_cmp id) k) None (half_in es k))
    (taken : (k : ℕ) → waits queue k ≡ (if k == id then None else waits pending k)) (room_is : (k : ℕ) → has_room queue k ≡ (not (k == id) && has_room pending k)) where
  out_is : (k : ℕ) → half_in new k ≡ (if k == id then None else half_in es k)
  out_is k = out k ∙ ap (λ (b : Bool). cond b None (half_in es k)) (at_key id k)

  old_half : (k : ℕ) (g : PlainSend) → half_in new k ≡ Some g → ((k == id) ≡ false) × (half_in es k ≡ Some g)
  old_half k g e = elim (eqb_tells k id) [
    | inl same ↦ absurd (let gone = out_is k ∙ ap (λ (b : Bool). if b then None else half_in es k) same.0 in cc)
    | inr apart ↦ (apart.0, sym (out_is k ∙ ap (λ (b : Bool). if b then None else half_in es k) apart.0) ∙ e)
  ]

  old_wait : (k : ℕ) (n : ℤ) → waits queue k ≡ Some n → ((k == id) ≡ false) × (waits pending k ≡ Some n)
  old_wait k n e = elim (eqb_tells k id) [
    | inl same ↦ absurd (let gone = taken k ∙ ap (λ (b : Bool). if b then None else waits pending k) same.0 in cc)
    | inr apart ↦ (apart.0, sym (taken k ∙ ap (λ (b : Bool). if b then None else waits pending k) apart.0) ∙ e)
  ]

  -- the other halves, without it
  pub withdrawn : (count' : ℕ) → new ≡ remove_entry (is_at (nat_cmp id)) es → count' + held h ≡ count → AreSendHalves new queue max_data data_sent count'
  withdrawn count' new_is counted = record {
    live = λ k n there. let old = old_wait k n there in ap half_priority (out_is k ∙ ap (λ (b : Bool). if b then None else half_in es k) old.0) ∙ ok.live k n old.1;
    listed = λ k g e waiting. let old = old_half k g e in taken k ∙ ap (λ (b : Bool). if b then None else waits pending k) old.0 ∙ ok.listed k g old.1 waiting;
    room = λ k. room_is k ∙ room_left (k == id) (has_room pending k) (half_in es k) (ok.room k) ∙ ap (λ (o : Option PlainSend). is_some o) (sym (out_is k));
    counted = rw new_is (omega (arith, counted, ok.counted, unacked_removed es id h was));
    undone = λ k g e. ok.undone k g (old_half k g e).1;
    credit = ok.credit;
  }
