-- In a tree of winners the root is served first, and a leaf that is set makes the nodes above it stale one after another.
use Rattle.std.proofs.Common.{◌≡◌, ◌⊎◌, ℕ, zero, suc, ◌+◌, ◌-◌, ◌*◌, ◌/◌, ◌<◌, ◌≤◌, true, false, List, length, set, drop, Some, None, refl, sym, ap, ap₂, ◌∙◌, arith, inl, inr}
use Rattle.std.proofs.lemmas.Bool.{cases_Bool, cases_lt, cases_eq, both_ways, false_from_ne_true, false≢true}
use Rattle.std.specs.Option.{option_eq}
use Rattle.std.proofs.lemmas.List.{length-set, get_or-set_same, get_or-set_other, get_or-drop, get_or_past, drop-set-lt, drop-set-add, length-drop}
use Rattle.qh_halves.specs.declared.pending.PendingStream.{PendingStream}
use Rattle.qh_halves.specs.contracts.pending.PendingStreamPartialEq.TheImpl.{eq-value as same_value}
use Rattle.qh_halves.specs.Pending.{goes_before}
use Rattle.qh_halves.specs.Winners.{Leaf, leaf, goes_first, winner, IsWinner, places, leaves_of, IsWon, IsTree}
use Rattle.qh_halves.proofs.PendingOrder.{is_same, before_trans, before_otherwise, not_before_itself, not_both_before, same_is}

-- ---- the order of leaves

not_behind : (p q r : PendingStream) → goes_before r q ≡ false → goes_before q p ≡ false → goes_before r p ≡ true → ⊥
not_behind p q r rq qp rp = elim (cases_Bool (is_same r q)) [
  | inl same ↦ both_ways (goes_before q p) qp (ap (λ (x : PendingStream). goes_before x p) (sym (same_is r q same)) ∙ rp)
  | inr apart ↦ both_ways (goes_before q p) qp (before_trans q r p (before_otherwise r q rq apart) rp)
]

-- of three leaves
still_first : (a b c : Leaf) → goes_first b a ≡ false → goes_first c b ≡ false → goes_first c a ≡ false
still_first a b None ba cb = refl
still_first a None (Some r) ba cb = absurd (false≢true (sym cb))
still_first None (Some q) (Some r) ba cb = absurd (false≢true (sym ba))
still_first (Some p) (Some q) (Some r) ba cb = false_from_ne_true (goes_before r p) (not_behind p q r cb ba)

first_itself : (a : Leaf) → goes_first a a ≡ false
first_itself None = refl
first_itself (Some p) = not_before_itself p

first_of_two : (p q : PendingStream) → (goes_first (Some p) (winner (Some p) (Some q)) ≡ false) × (goes_first (Some q) (winner (Some p) (Some q)) ≡ false) × ((winner (Some p) (Some q) ≡ Some p) ⊎ (winner (Some p) (Some q) ≡ Some q))
first_of_two p q = elim (cases_Bool (goes_before q p)) [
  | inl behind ↦ rw behind (false_from_ne_true (goes_before p q) (λ h. not_both_before p q h behind), not_before_itself q, inr refl)
  | inr front ↦ rw front (not_before_itself p, front, inl refl)
]

left_loses : (a b : Leaf) → goes_first a (winner a b) ≡ false
left_loses None b = refl
left_loses (Some p) None = not_before_itself p
left_loses (Some p) (Some q) = (first_of_two p q).0

right_loses : (a b : Leaf) → goes_first b (winner a b) ≡ false
right_loses None b = first_itself b
right_loses (Some p) None = refl
right_loses (Some p) (Some q) = (first_of_two p q).1

one_of_two : (a b : Leaf) → (winner a b ≡ a) ⊎ (winner a b ≡ b)
one_of_two None b = inr refl
one_of_two (Some p) None = inl refl
one_of_two (Some p) (Some q) = (first_of_two p q).2

-- ---- the root

halves : (j : ℕ) → (j ≡ 2 * (j / 2)) ⊎ (j ≡ 2 * (j / 2) + 1)
halves j = elim (cases_lt (2 * (j / 2)) j) [
  | inl odd ↦ inr (omega (arith, odd))
  | inr even ↦ inl (omega (arith, even))
]

module _ (nodes : List Leaf) (tree : IsTree nodes) where
  -- none goes before the winner above it
  under : (j : ℕ) → 1 < j → j < length nodes → goes_first (leaf nodes j) (leaf nodes (j / 2)) ≡ false
  under j above within =
      let i = j / 2 in
      let won = tree.won i (omega (arith, above)) (omega (arith, within, tree.even)) in
      elim (halves j) [
        | inl left ↦ ap₂ goes_first (ap (leaf nodes) left) won ∙ left_loses (leaf nodes (2 * i)) (leaf nodes (2 * i + 1))
        | inr right ↦ ap₂ goes_first (ap (leaf nodes) right) won ∙ right_loses (leaf nodes (2 * i)) (leaf nodes (2 * i + 1))
      ]

  root_first : (fuel j : ℕ) → j ≤ fuel → 0 < j → j < length nodes → goes_first (leaf nodes j) (leaf nodes 1) ≡ false
  root_first zero j small above within = absurd (omega (arith, small, above))
  root_first (suc fuel) zero small above within = absurd (omega (arith, above))
  root_first (suc fuel) (suc zero) small above within = first_itself (leaf nodes 1)
  root_first (suc fuel) (suc (suc k)) small above within =
      let j = suc (suc k) in
      still_first (leaf nodes 1) (leaf nodes (j / 2)) (leaf nodes j) (root_first fuel (j / 2) (omega (arith, small)) (omega arith) (omega (arith, within))) (under j (omega arith) within)

  -- a stream that stands in a node stands at a place
  at_place : (fuel j : ℕ) (p : PendingStream) → length nodes ≤ j + fuel → 0 < j → j < length nodes → leaf nodes j ≡ Some p → (place : ℕ) × (leaf (leaves_of nodes) place ≡ Some p)
  at_place zero j p near above within here = absurd (omega (arith, near, within))
  at_place (suc fuel) j p near above within here =
      let i = 2 * j in
      elim (cases_lt j (places nodes)) [
        | inr behind ↦
            let n : places nodes + (j - places nodes) ≡ j = omega (arith, behind) in
            (j - places nodes, get_or-drop (places nodes) nodes (j - places nodes) None ∙ ap (leaf nodes) n ∙ here)
        | inl inner ↦
            let won = tree.won j above inner in
            elim (one_of_two (leaf nodes i) (leaf nodes (i + 1))) [
              | inl left ↦ at_place fuel i p (omega (arith, near, above)) (omega (arith, above)) (omega (arith, inner, tree.even)) (sym left ∙ sym won ∙ here)
              | inr right ↦ at_place fuel (i + 1) p (omega (arith, near, above)) (omega (arith, above)) (omega (arith, inner, tree.even)) (sym right ∙ sym won ∙ here)
            ]
      ]

  pub root_wins : 1 < length nodes → IsWinner (leaves_of nodes) (leaf nodes 1)
  root_wins some = record {
    is_there = λ p here. at_place (length nodes) 1 p (omega arith) (omega arith) some here;
    before = λ place. ap (λ (o : Leaf). goes_first o (leaf nodes 1)) (get_or-drop (places nodes) nodes place None) ∙ placed place;
  }
    where
      placed : (place : ℕ) → goes_first (leaf nodes (places nodes + place)) (leaf nodes 1) ≡ false
      placed place =
          let j = places nodes + place in
          elim (cases_lt j (length nodes)) [
            | inl within ↦ root_first j j (omega arith) (omega (arith, some)) within
            | inr past ↦ ap (λ (o : Leaf). goes_first o (leaf nodes 1)) (get_or_past nodes j None past)
          ]

-- ---- a leaf is set

-- only the node above this one may be stale
pub record IsRisen (nodes : List Leaf) (node count : ℕ) (leaves : List Leaf) : Type 0 where
  pub above : 0 < node
  pub within : node < length nodes
  pub len : length nodes ≡ count
  pub even : length nodes ≡ 2 * places nodes
  pub won : (i : ℕ) → 0 < i → i < places nodes → (i ≡ node / 2 → ⊥) → IsWon nodes i
  pub leaves_are : leaves_of nodes ≡ leaves

-- a node is written: the winners below it are as they were
kept_won : (nodes : List Leaf) (node i : ℕ) (x : Leaf) → IsWon nodes i → (i ≡ node → ⊥) → (2 * i ≡ node → ⊥) → (2 * i + 1 ≡ node → ⊥) → IsWon (set nodes node x) i
kept_won nodes node i x won a b c = rw (get_or-set_other nodes node i x None a, get_or-set_other nodes node (2 * i) x None b, get_or-set_other nodes node (2 * i + 1) x None c) won

pub begun : (nodes : List Leaf) (place : ℕ) (x : Leaf) → IsTree nodes → place < length (leaves_of nodes)
    → IsRisen (set nodes (places nodes + place) x) (places nodes + place) (length (set nodes (places nodes + place) x)) (set (leaves_of nodes) place x)
begun nodes place x tree at =
    let node = places nodes + place in
    let len = length-set nodes node x in
    let left = length-drop (places nodes) nodes in
    let same : places (set nodes node x) ≡ places nodes = omega (arith, len) in
    record {
      above = omega (arith, at, left, tree.even);
      within = omega (arith, at, left, tree.even, len);
      len = refl;
      even = omega (arith, len, tree.even);
      won = λ i positive inner apart. kept_won nodes node i x (tree.won i positive (omega (arith, inner, len))) (λ e. omega (arith, e, inner, len)) (λ e. apart (omega (arith, e))) (λ e. apart (omega (arith, e)));
      leaves_are = ap (λ (n : ℕ). drop n (set nodes node x)) same ∙ drop-set-add (places nodes) nodes place x;
    }

pub risen : (nodes : List Leaf) (node up count : ℕ) (leaves : List Leaf) (x : Leaf) → IsRisen nodes node count leaves → 1 < node → up ≡ node / 2
    → x ≡ winner (leaf nodes (2 * up)) (leaf nodes (2 * up + 1)) → IsRisen (set nodes up x) up count leaves
risen nodes node up count leaves x was more up_is x_is =
    let len = length-set nodes up x in
    let same : places (set nodes up x) ≡ places nodes = omega (arith, len) in
    let inner : up < places nodes = omega (arith, was.within, was.even, more, up_is) in
    let positive : 0 < up = omega (arith, more, up_is) in
    record {
      above = positive;
      within = omega (arith, len, inner);
      len = omega (arith, len, was.len);
      even = omega (arith, len, was.even);
      won = λ i above below apart. elim (cases_eq i up) [
        | inl here ↦ rw here (get_or-set_same nodes up x None (omega (arith, inner)) ∙ x_is ∙ sym (ap₂ winner (get_or-set_other nodes up (2 * up) x None (λ e. omega (arith, e, positive))) (get_or-set_other nodes up (2 * up + 1) x None (λ e. omega (arith, e, positive)))))
        | inr there ↦ kept_won nodes up i x (was.won i above (omega (arith, below, len)) (λ e. there (e ∙ sym up_is))) there (λ e. apart (omega (arith, e))) (λ e. apart (omega (arith, e)))
      ];
      leaves_are = ap (λ (n : ℕ). drop n (set nodes up x)) same ∙ drop-set-lt (places nodes) nodes up x inner ∙ was.leaves_are;
    }

pub ended : (nodes : List Leaf) (node count : ℕ) (leaves : List Leaf) → IsRisen nodes node count leaves → node ≤ 1 → IsTree nodes
ended nodes node count leaves was root = record {
  even = was.even;
  won = λ i above inner. was.won i above inner (λ e. omega (arith, e, above, root));
}

-- leaves that compare equal are the same
pub same_leaf : (a b : Leaf) → option_eq same_value.it a b ≡ true → a ≡ b
same_leaf None None e = refl
same_leaf None (Some q) e = absurd (cc)
same_leaf (Some p) None e = absurd (cc)
same_leaf (Some p) (Some q) e = ap (λ (x : PendingStream). Some x) (same_is p q e)

-- the node above had the winner of its children already
pub settled : (nodes : List Leaf) (node up count : ℕ) (leaves : List Leaf) → IsRisen nodes node count leaves → up ≡ node / 2 → IsWon nodes up → IsTree nodes
settled nodes node up count leaves was up_is here = record {
  even = was.even;
  won = λ i above inner. elim (cases_eq i up) [
    | inl same ↦ rw same here
    | inr other ↦ was.won i above inner (λ e. other (e ∙ sym up_is))
  ];
}
