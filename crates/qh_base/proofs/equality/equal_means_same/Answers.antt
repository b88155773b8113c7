use Rattle.std.proofs.Common.{◌≡◌, ℕ, Bool, true, false, ◌==◌, ◌&&◌, List, length, take, replicate, ◌-◌, bytes_eq, refl, sym, ap, ◌∙◌}
use Rattle.std.proofs.lemmas.Bool.{eqb-true, eq-eqb}
use Rattle.std.proofs.lemmas.List.{take_at}
use Rattle.std.proofs.lemmas.Slice.Eq.{bytes_eq-Decides}
use Rattle.qh_base.specs.ConnectionId.{zero_padded}
use Rattle.qh_base.proofs.equality.equal_means_same.Goals as goal

both : (p q : Bool) → (p && q) ≡ true → (p ≡ true) × (q ≡ true)
both true q e = (refl, e)
both false q e = cc

joined : (p q : Bool) → p ≡ true → q ≡ true → (p && q) ≡ true
joined p q e f = rw (e, f)

front : (a : List ℕ) → take (length a) (zero_padded a) ≡ a
front a = take_at a (replicate (20 - length a) 0) (length a) refl

pub returns-clause-connection_id : goal.returns-clause-connection_id
returns-clause-connection_id c = λ a b. (
  λ e.
      let parts = both (length a == length b) (bytes_eq (zero_padded a) (zero_padded b)) e in
      let lengths = eqb-true (length a) (length b) parts.0 in
      let bytes = (bytes_eq-Decides (zero_padded a) (zero_padded b)).0 parts.1 in
      sym (front a) ∙ ap (take (length a)) bytes ∙ ap (λ (n : ℕ). take n (zero_padded b)) lengths ∙ front b,
  λ e. joined (length a == length b) (bytes_eq (zero_padded a) (zero_padded b)) (eq-eqb (length a) (length b) (ap length e)) ((bytes_eq-Decides (zero_padded a) (zero_padded b)).1 (ap zero_padded e)),
)
