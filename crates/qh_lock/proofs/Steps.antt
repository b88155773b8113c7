-- Each kind of step keeps the rule, as the calls ask for it.
use Rattle.std.proofs.Common.{◌≡◌, ℕ, ◌+◌, ◌<◌, ◌^◌, eqb, List, [], ◌∷◌, length, true, false, Option, Some, None, sym, ap, ◌∙◌, subst}
use mathlib.Core.Option.{none, some, some-injective}
use lib.ListN.{get_elem?}
use prog.Atomic.{either}
use Rattle.atomic_table.specs.Table.{State, Me, rest, step, Allows, Splits, Joins, opening, Final, Seen}
use Rattle.qh_lock.specs.declared.view.View.{View}
use Rattle.qh_lock.specs.Places.{times, once_below, StartsWith}
use Rattle.qh_lock.specs.Turns.{opened, waiting, entered, kept_half, given_half, both, spent, compared, drawn, InTurn, IsIdle, looked, published}
use Rattle.qh_lock.specs.Seats.{IsSettled, IsHolding}
use Rattle.qh_lock.proofs.Cores.{Core, core_of, rule_of}
use Rattle.qh_lock.proofs.Moves as moves

module _ {T E : Type 0} where
  pub idle_of : (m : Me (Option T) (View E)) → IsSettled m → m.0.ticket ≡ None → IsIdle m
  idle_of m settled blank = let h = subst (IsHolding m) blank settled in (blank, h.0, h.1)

  pub holding_of : (m : Me (Option T) (View E)) (t : ℕ) → IsSettled m → m.0.ticket ≡ Some t → (m.0.turn ≡ true) × (m.1 ≡ (0, None) ∷ [])
  holding_of m t settled ticket = subst (IsHolding m) ticket settled

module _ {S V : Type 0} (P Q : State S V → Type 0) (to : (s : State S V) → P s → Q s) (from : (s : State S V) → Q s → P s) where
  allows_by : (slots id : ℕ) (me : Me S V) (i : ℕ) (f : ℕ → ℕ) (then : ℕ → Me S V → Type 0) → Allows P slots id me i f then → Allows Q slots id me i f then
  allows_by slots id me i f then a s q long at small = let r = a s (from s q) long at small in (r.0, r.1, r.2, to _ r.3, r.4)

  final_by : (id : ℕ) (v : V) (ws : List ℕ) (xs : List S) → Final (Seen Q id v) ws xs → Final (Seen P id v) ws xs
  final_by id v ws xs h = (h.0, (from h.0 h.1.0, h.1.1), h.2, h.3, h.4)

module _ {T E : Type 0} (history : T → List E) (ready : T → Type 0) where
  abbrev M : Type 0
  M = Me (Option T) (View E)

  abbrev Rule : State (Option T) (View E) → Type 0
  Rule = InTurn history ready

  pub draws : (slots id : ℕ) (me : M) (old new : ℕ) → new ≡ old + 1 → 0 < me.0.parts → me.0.ticket ≡ None → me.0.turn ≡ false
      → Allows Rule slots id me 0 (λ n. either (eqb n old) new n) (drawn (step slots 0 old new none) me)
  draws slots id me old new up live blank no_turn = allows_by (Core history ready) Rule (rule_of history ready) (core_of history ready) slots id me 0 (λ n. either (eqb n old) new n) (drawn (step slots 0 old new none) me) (moves.draws history ready slots id me old new up live blank no_turn)

  pub looks : (slots id : ℕ) (me : M) (t : ℕ) → 0 < me.0.parts → me.0.ticket ≡ Some t → me.0.turn ≡ false
      → Allows Rule slots id me 1 (λ n. n) (looked history ready (step slots 1 0 0 none) me)
  looks slots id me t live ticket no_turn = allows_by (Core history ready) Rule (rule_of history ready) (core_of history ready) slots id me 1 (λ n. n) (looked history ready (step slots 1 0 0 none) me) (moves.looks history ready slots id me t live ticket no_turn)

  pub publishes : (slots id : ℕ) (me : M) (v : View E) (x : T) (t new : ℕ) → me ≡ (v, (0, Some x) ∷ []) → new ≡ t + 1 → 0 < v.parts → v.ticket ≡ Some t → v.turn ≡ true → StartsWith (history x) v.seen → ready x
      → Allows Rule slots id me 1 (λ _. new) (λ _. published history ready (step slots 1 new 0 none) me new)
  publishes slots id me v x t new is up live ticket on longer good =
      allows_by (Core history ready) Rule (rule_of history ready) (core_of history ready) slots id me 1 (λ _. new) (λ _. published history ready (step slots 1 new 0 none) me new) (moves.publishes_as history ready slots id me v x t new is up live ticket on longer good)

  pub splits : (id : ℕ) (m : M) → 1 < m.0.parts → Splits Rule id m.0 (kept_half m.0) (given_half m.0)
  splits id m enough s r at = rule_of history ready _ (moves.splits history ready id m.0 enough s (core_of history ready s r) at)

  pub joins : (id : ℕ) (m : M) (other : ℕ) (n : M) → IsIdle m → IsIdle n → 0 < m.0.parts → Joins Rule id m.0 other n.0 (both m.0 n.0) spent
  joins id m other n idle idle' live s r at apart there = rule_of history ready _ (moves.joins history ready id m.0 other n.0 idle.0 idle.1 idle'.0 idle'.1 live s (core_of history ready s r) at apart there)

  pub settles : (slots id : ℕ) (me : M) → me.0.turn ≡ false → Allows Rule slots id me 0 (λ n. n) (compared (step slots 0 0 0 none) me)
  settles slots id me no_turn = allows_by (Core history ready) Rule (rule_of history ready) (core_of history ready) slots id me 0 (λ n. n) (compared (step slots 0 0 0 none) me) (moves.settles history ready slots id me no_turn)

  pub begins : (x : T) → ready x → Rule (opening (0 ∷ 0 ∷ []) (Some x ∷ []) (opened (history x)))
  begins x good = rule_of history ready _ (moves.begins history ready x good)

  -- at the end, where one seat has all parts and no turn, the value is at home, and the seat has seen its history and owns each place
  pub ends : (m : M) (id : ℕ) (ws : List ℕ) (xs : List (Option T)) (found : Option T) → IsIdle m → m.0.parts ≡ 2 ^ 64 → Final (Seen Rule id m.0) ws xs → get_elem? xs 0 ≡ some found
      → (x : T) × (found ≡ Some x) × (history x ≡ m.0.seen) × ready x × ((n : ℕ) → times n m.0.own ≡ once_below n (length m.0.seen))
  ends m id ws xs found idle all fin at =
      let e = moves.ends history ready m.0 id ws xs idle.0 idle.1 all (final_by (Core history ready) Rule (rule_of history ready) (core_of history ready) id m.0 ws xs fin) in
      (e.0, some-injective _ _ (sym at ∙ e.1), e.2, e.3, e.4)

  first_carried : (a b : Option T) (xs ys : List (ℕ × Option T)) → ◌≡◌ {A = List (ℕ × Option T)} ((0, a) ∷ xs) ((0, b) ∷ ys) → a ≡ b
  first_carried a b xs ys e = ap head_or e
    where
      head_or : List (ℕ × Option T) → Option T
      head_or [] = None
      head_or (p ∷ ps) = p.1

  pub same_value : (x y : T) → Some x ≡ Some y → x ≡ y
  same_value x y e = cc

  pub no_value : (x : T) → ◌≡◌ {A = Option T} (Some x) None → ⊥
  no_value x e = cc

  -- a look that finds one's own ticket finds the value, and its whole history is seen
  pub found_value : (v : View E) (m m' : M) (t r : ℕ) → m ≡ (waiting v t, []) → r ≡ t → looked history ready (step 1 1 0 0 none) m r m'
      → (x : T) × (m'.0 ≡ entered (waiting v t) (history x)) × (m'.1 ≡ (0, Some x) ∷ []) × StartsWith (history x) v.seen × ready x
  found_value v m m' t r drew hit told =
      let a = told.0 (ap (λ (z : M). z.0.ticket) drew ∙ ap Some (sym hit)) in (
        a.0,
        ap (λ (z : M). z.0) a.1 ∙ ap (λ (z : M). entered z.0 (history a.0)) drew,
        ap (λ (z : M). z.1) a.1 ∙ ap (λ (z : M). (0, Some a.0) ∷ z.1) drew,
        subst (λ (z : M). StartsWith (history a.0) z.0.seen) drew a.2,
        a.3,
      )

  -- the exchange with the empty slot takes it
  pub taken : (v : View E) (m m' m'' : M) (t r : ℕ) (found : Option T) → m ≡ (waiting v t, []) → r ≡ t → looked history ready (step 1 1 0 0 none) m r m' → m'.1 ≡ (0, found) ∷ rest m'.1 → m'' ≡ (m'.0, (0, None) ∷ rest m'.1)
      → (x : T) × (found ≡ Some x) × (m'' ≡ (entered (waiting v t) (history x), (0, None) ∷ [])) × StartsWith (history x) v.seen × ready x
  taken v m m' m'' t r found drew hit told out left =
      let f = found_value v m m' t r drew hit told in
      (f.0, first_carried found (Some f.0) (rest m'.1) [] (sym out ∙ f.2), left ∙ (λ i. (f.1 i, (0, None) ∷ rest (f.2 i))), f.3, f.4)
