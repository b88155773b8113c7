-- The streams that wait, each at its place, as a tree in which each node has the one of its two children that is served
-- first.
use Rattle.std.specs.Prelude.{◌≡◌, ℕ, ◌+◌, ◌*◌, ◌/◌, ◌<◌, Bool, true, false, List, length, drop, slice_index_or, Option, Some, None, if◌then◌else◌}
use Rattle.qh_halves.specs.declared.pending.PendingStream.{PendingStream}
use Rattle.qh_halves.specs.Pending.{goes_before}

-- no stream, or one that waits
abbrev pub Leaf : Type 0
Leaf = Option PendingStream

-- what stands at a place, none past the last
abbrev pub leaf : List Leaf → (place : ℕ) → Leaf
leaf leaves place = slice_index_or leaves place None

-- the first is a stream, and the other is none or one that is served later
abbrev pub goes_first : Leaf → Leaf → Bool
goes_first None b = false
goes_first (Some p) None = true
goes_first (Some p) (Some q) = goes_before p q

-- the one that is served first
abbrev pub winner : Leaf → Leaf → Leaf
winner None b = b
winner (Some p) None = Some p
winner (Some p) (Some q) = if goes_before q p then Some q else Some p

-- it stands at a place, if it is one, and none that goes first stands at any
pub record IsWinner (leaves : List Leaf) (o : Leaf) : Type 0 where
  pub is_there : (p : PendingStream) → o ≡ Some p → (place : ℕ) × (leaf leaves place ≡ Some p)
  pub before : (place : ℕ) → goes_first (leaf leaves place) o ≡ false

-- ---- how the tree is kept: the leaves behind the inner nodes, of which the first is the root and the one at 0 isn't used

abbrev pub places : List Leaf → ℕ
places nodes = length nodes / 2

abbrev pub leaves_of : List Leaf → List Leaf
leaves_of nodes = drop (places nodes) nodes

abbrev pub IsWon : List Leaf → (i : ℕ) → Type 0
IsWon nodes i = leaf nodes i ≡ winner (leaf nodes (2 * i)) (leaf nodes (2 * i + 1))

pub record IsTree (nodes : List Leaf) : Type 0 where
  pub even : length nodes ≡ 2 * places nodes
  pub won : (i : ℕ) → 0 < i → i < places nodes → IsWon nodes i
