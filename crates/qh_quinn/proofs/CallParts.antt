-- What a call does to the connection: nothing, or nothing that is said to the peer, or what the driver is woken for; and two calls one after another.
use Rattle.std.proofs.Common.{◌≡◌, List, [], ◌++◌, None, refl, sym, subst, inl, inr, append_assoc}
use Rattle.std.proofs.lemmas.List.{append-nil}
use Rattle.qh_book.specs.Book.{Book}
use Rattle.qh_book.specs.declared.call.Call.{Call}
use Rattle.qh_book.specs.declared.reply.Reply.{Reply}
use Rattle.qh_conn.specs.Whole.{CarriesOn, Stands, StandsStill}
use Rattle.qh_conn.specs.declared.connection.Connection.{Connection}
use Rattle.qh_quinn.specs.Calls.{IsCallOf, IsCalled, IsSending, call_acts}
use Rattle.qh_quinn.specs.States.{Shows}
use Rattle.qh_quinn.specs.declared.inner.StateInner.{StateInner}
use Rattle.qh_spec.specs.Transcript.{Act}

module _ {S : Type 0} where
  -- it stands as before: nothing is added
  pub nothing_more : (old new : Connection S) → StandsStill old new → CarriesOn old new []
  nothing_more old new still = λ accepts sealed hello t before. subst (λ (u : List Act). Stands accepts sealed hello new u) (sym (append-nil t)) (still accepts sealed hello t before)

  pub stands_same : (old new : Connection S) → new ≡ old → StandsStill old new
  stands_same old new same = λ accepts sealed hello t before. subst (λ (x : Connection S). Stands accepts sealed hello x t) (sym same) before

  -- one after another
  pub in_order : (old mid new : Connection S) (x y : List Act) → CarriesOn old mid x → CarriesOn mid new y → CarriesOn old new (x ++ y)
  in_order old mid new x y one two = λ accepts sealed hello t before.
      subst (λ (u : List Act). Stands accepts sealed hello new u) (append_assoc t x y) (two accepts sealed hello (t ++ x) (one accepts sealed hello t before))

  pub and_no_more : (old mid new : Connection S) (x : List Act) → CarriesOn old mid x → CarriesOn mid new [] → CarriesOn old new x
  and_no_more old mid new x one two = subst (λ (u : List Act). CarriesOn old new u) (append-nil x) (in_order old mid new x [] one two)

  pub carries_as : (old new : Connection S) (x y : List Act) → x ≡ y → CarriesOn old new y → CarriesOn old new x
  carries_as old new x y same carries = subst (λ (u : List Act). CarriesOn old new u) (sym same) carries

  -- ---- a call of which little is said

  -- nothing is done with the connection
  pub undone : {T : Type 0} (c : Call) (r : Reply T) (old new : StateInner S) → new.connection ≡ old.connection → ((b : Book) → Shows old b → call_acts b c r ≡ []) → IsCalled c r old new → IsCallOf c r old new
  undone c r old new same none called = record {
    carries = λ b shown. carries_as old.connection new.connection (call_acts b c r) [] (none b shown) (nothing_more old.connection new.connection (stands_same old.connection new.connection same));
    called = called;
    wakes = λ sends. inl same;
  }

  -- nothing is said to the peer, and there is nothing to send
  pub quiet : {T : Type 0} (c : Call) (r : Reply T) (old new : StateInner S) → StandsStill old.connection new.connection → ((b : Book) → call_acts b c r ≡ []) → (IsSending c r → ⊥) → IsCalled c r old new → IsCallOf c r old new
  quiet c r old new still none isnt called = record {
    carries = λ b shown. carries_as old.connection new.connection (call_acts b c r) [] (none b) (nothing_more old.connection new.connection still);
    called = called;
    wakes = λ sends. absurd (isnt sends);
  }

  -- the driver is woken
  pub woken : {T : Type 0} (c : Call) (r : Reply T) (old new : StateInner S) → new.driver ≡ None → ((b : Book) → Shows old b → CarriesOn old.connection new.connection (call_acts b c r)) → IsCalled c r old new → IsCallOf c r old new
  woken c r old new driver carries called = record { carries = carries; called = called; wakes = λ sends. inr driver }

  pub woken_at : {T : Type 0} (c : Call) (r : Reply T) (old new : StateInner S) (to : Connection S) → new ≡ record old { connection = to; driver = None } → ((b : Book) → Shows old b → CarriesOn old.connection to (call_acts b c r))
      → IsCalled c r old (record old { connection = to; driver = None }) → IsCallOf c r old new
  woken_at c r old new to is carries called = subst (λ (z : StateInner S). IsCallOf c r old z) (sym is) (woken c r old (record old { connection = to; driver = None }) refl carries called)
