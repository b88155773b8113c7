-- The places of a seat's own entries lie below the length of what it has seen.
use Rattle.std.proofs.Common.{◌≡◌, ℕ, suc, ◌+◌, ◌<◌, ◌≤◌, List, [], ◌∷◌, ◌++◌, length, drop, ap, ◌∙◌, arith, length-append}
use Rattle.qh_lock.specs.Places.{places, new_places, StartsWith, longer, AreBelow, AreAbove, IsAscending}
use Rattle.qh_lock.proofs.Counts.{drop_front, starts_length, longer_length}

below_more : (k m : ℕ) (xs : List ℕ) → k ≤ m → AreBelow k xs → AreBelow m xs
below_more k m [] le h = tt
below_more k m (x ∷ xs) le h = (omega (arith, h.0), below_more k m xs le h.1)

pub below_append : (k : ℕ) (xs ys : List ℕ) → AreBelow k xs → AreBelow k ys → AreBelow k (xs ++ ys)
below_append k [] ys p q = q
below_append k (x ∷ xs) ys p q = (p.0, below_append k xs ys p.1 q)

above_append : (x : ℕ) (xs : List ℕ) (k : ℕ) → AreAbove x xs → x < k → AreAbove x (xs ++ k ∷ [])
above_append x [] k p l = (l, tt)
above_append x (y ∷ ys) k p l = (p.0, above_append x ys k p.1 l)

pub ascends_on : (own : List ℕ) (front : ℕ) → AreBelow front own → IsAscending own → IsAscending (own ++ front ∷ [])
ascends_on [] front below up = (tt, tt)
ascends_on (x ∷ xs) front below up = (above_append x xs front up.0 below.0, ascends_on xs front below.1 up.1)

module _ {E : Type 0} where
  below_places : (k m : ℕ) (xs : List E) → k + length xs ≤ m → AreBelow m (places k xs)
  below_places k m [] le = tt
  below_places k m (x ∷ xs) le = (omega arith, below_places (suc k) m xs (omega arith))

  pub below_first : (h : List E) → AreBelow (length h) (places 0 h)
  below_first h = below_places 0 (length h) h (omega arith)

  pub below_seen : (h seen : List E) (own : List ℕ) → StartsWith h seen → AreBelow (length seen) own → AreBelow (length h) own
  below_seen h seen own starts below = below_more (length seen) (length h) own (starts_length h seen starts) below

  pub below_after : (h seen : List E) (own : List ℕ) → StartsWith h seen → AreBelow (length seen) own → AreBelow (length h) (own ++ new_places seen h)
  below_after h seen own starts below =
      let rest_is : drop (length seen) h ≡ starts.0 = ap (drop (length seen)) starts.1 ∙ drop_front seen starts.0 in
      let long : length h ≡ length seen + length starts.0 = ap length starts.1 ∙ length-append seen starts.0 in
      below_append (length h) own (new_places seen h) (below_seen h seen own starts below)
      (below_places (length seen) (length h) (drop (length seen) h) (let same : length (drop (length seen) h) ≡ length starts.0 = ap length rest_is in omega arith))

  pub below_joined : (s t : List E) (xs ys : List ℕ) → AreBelow (length s) xs → AreBelow (length t) ys → AreBelow (length (longer s t)) (xs ++ ys)
  below_joined s t xs ys p q = let long = longer_length s t in
      below_append (length (longer s t)) xs ys (below_more (length s) _ xs long.0 p) (below_more (length t) _ ys long.1 q)
