-- The id in use stays as long as it is, whatever ids come.
use Rattle.std.proofs.Common.{◌≡◌, ℕ, Bool, true, false, List, [], ◌∷◌, length, filter, refl, nat_lt, nat_le, if◌then◌else◌}
use Rattle.std.proofs.lemmas.List.Elements.{All-head, All-tail}
use Rattle.std.specs.Prelude.{All, ⊤}
use Rattle.qh_cids.specs.CidQueue.{Handled, IsQueue, MayWait, PlainCids, added, gone, raised, settled, succeeded, with_cid}
use Rattle.qh_cids.specs.declared.cid_queue.RemoteCid.{RemoteCid}

-- the id in use has this length
abbrev IsLong : ℕ → Handled → Type 0
IsLong k h = length h.cids.active.id ≡ k

-- each has it
abbrev AreLong : ℕ → List RemoteCid → Type 0
AreLong k [] = ⊤
AreLong k (cid ∷ cids) = (length cid.id ≡ k) × AreLong k cids

by_test : (b : Bool) (k : ℕ) (h g : Handled) → (b ≡ true → IsLong k h) → (b ≡ false → IsLong k g) → IsLong k (if b then h else g)
by_test true k h g first second = first refl
by_test false k h g first second = second refl

either : (b : Bool) (k : ℕ) (xs ys : List RemoteCid) → AreLong k xs → AreLong k ys → AreLong k (if b then xs else ys)
either true k xs ys x y = x
either false k xs ys x y = y

from_all : (q : PlainCids) (cids : List RemoteCid) → All (MayWait q) cids → AreLong (length q.active.id) cids
from_all q [] each = cc
from_all q (cid ∷ cids) each = ((All-head (MayWait q) cid cids each).as_long, from_all q cids (All-tail (MayWait q) cid cids each))

long_filter : (p : RemoteCid → Bool) (k : ℕ) (cids : List RemoteCid) → AreLong k cids → AreLong k (filter p cids)
long_filter p k [] each = each
long_filter p k (cid ∷ cids) each = either (p cid) k (cid ∷ filter p cids) (filter p cids) (each.0, long_filter p k cids each.1) (long_filter p k cids each.1)

long_with : (new : RemoteCid) (k : ℕ) (cids : List RemoteCid) → length new.id ≡ k → AreLong k cids → AreLong k (with_cid new cids)
long_with new k [] here each = (here, each)
long_with new k (cid ∷ cids) here each = either (nat_lt new.sequence cid.sequence) k (new ∷ cid ∷ cids) (cid ∷ with_cid new cids) (here, each) (each.0, long_with new k cids here each.1)

long_succeeded : (k : ℕ) (q : PlainCids) (cids : List RemoteCid) (retired : List ℕ) → length q.active.id ≡ k → AreLong k cids → IsLong k (succeeded q cids retired)
long_succeeded k q [] retired here each = here
long_succeeded k q (first ∷ later) retired here each = each.0

long_settled : (k : ℕ) (q : PlainCids) (retired : List ℕ) → length q.active.id ≡ k → AreLong k q.waiting → IsLong k (settled q retired)
long_settled k q retired here each =
    by_test (nat_lt q.active.sequence q.retire_prior_to) k (succeeded q q.waiting retired) (record { cids = q; retired = retired; has_new_active = false })
    (λ _. long_succeeded k q q.waiting retired here each) (λ _. here)

-- ids below a sequence are to be retired, and others beside them
pub long_raised : (q : PlainCids) (n : ℕ) (retired : List ℕ) → IsQueue q → length (settled (raised n q) retired).cids.active.id ≡ length q.active.id
long_raised q n retired sound =
    long_settled (length q.active.id) (raised n q) retired refl (long_filter (λ cid. nat_le n cid.sequence) (length q.active.id) q.waiting (from_all q q.waiting sound.each))

-- another is added, which is as long
pub long_added : (q : PlainCids) (n : ℕ) (cid : RemoteCid) → length cid.id ≡ length q.active.id → IsQueue q → length (settled (added cid (raised n q)) (gone n q)).cids.active.id ≡ length q.active.id
long_added q n cid same sound =
    let k = length q.active.id in
    long_settled k (added cid (raised n q)) (gone n q) refl
    (long_with cid k (raised n q).waiting same (long_filter (λ cid. nat_le n cid.sequence) k q.waiting (from_all q q.waiting sound.each)))
