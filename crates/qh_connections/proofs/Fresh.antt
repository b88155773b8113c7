-- An id that a source gives is issued if the routes say so.
use Rattle.std.proofs.Common.{ℕ, Bool, true, false, List, Option, Some, None, inl, inr}
use Rattle.std.specs.Prelude.{IfSome}
use Rattle.std.proofs.lemmas.List.Elements.{All-weaker}
use Rattle.qh_connections.specs.Ids.{AreNoneFresh, AreNoneFreshBut, IsFreshBut, IsFreshId, IsIssued, IsTaken}
use Rattle.qh_generator.specs.Fresh.{AreIssued, IsFresh}
use Rattle.qh_routes.specs.Routes.{Routes}

if_some : {A : Type 0} (P Q : A → Type 0) → ((x : A) → P x → Q x) → (o : Option A) → IfSome o P → IfSome o Q
if_some P Q f None h = tt
if_some P Q f (Some x) h = f x h

module _ (routes : Routes) (answers : List ℕ → Bool → Type 0) (yes : (id : List ℕ) → answers id true → IsIssued routes id) (no : (id : List ℕ) → answers id false → IsIssued routes id → ⊥) (old new : List (List ℕ)) where
  pub fresh_here : (found : Option (List ℕ)) → IfSome found (IsFresh answers old new) → IfSome found (IsFreshId routes old new)
  fresh_here found h =
      if_some (IsFresh answers old new) (IsFreshId routes old new)
      (λ id f. record { drawn = f.issued; few = f.few; all_issued = All-weaker (λ other. answers other true) (IsIssued routes) yes f.issued f.answered; free = no id f.free; given = f.given }) found h

  pub none_here : AreIssued answers old new → AreNoneFresh routes old new
  none_here a = record { drawn = a.issued; all = a.all; all_issued = All-weaker (λ other. answers other true) (IsIssued routes) yes a.issued a.answered; given = a.given }

module _ (routes : Routes) (other : List ℕ) (answers : List ℕ → Bool → Type 0) (yes : (id : List ℕ) → answers id true → IsTaken routes other id) (no : (id : List ℕ) → answers id false → IsTaken routes other id → ⊥) (old new : List (List ℕ)) where
  pub fresh_but : (found : Option (List ℕ)) → IfSome found (IsFresh answers old new) → IfSome found (IsFreshBut routes other old new)
  fresh_but found h =
      if_some (IsFresh answers old new) (IsFreshBut routes other old new)
      (λ id f. record { drawn = f.issued; few = f.few; all_taken = All-weaker (λ it. answers it true) (IsTaken routes other) yes f.issued f.answered; free = λ i. no id f.free (inl i); unchosen = λ i. no id f.free (inr (inl i)); apart = λ e. no id f.free (inr (inr e)); given = f.given }) found h

  pub none_but : AreIssued answers old new → AreNoneFreshBut routes other old new
  none_but a = record { drawn = a.issued; all = a.all; all_taken = All-weaker (λ it. answers it true) (IsTaken routes other) yes a.issued a.answered; given = a.given }
