-- Pieces that stand in order: at which offsets their bytes are, and what a cut of the list leaves.
use Rattle.std.proofs.Common.{◌≡◌, ℕ, zero, suc, ◌-◌, ◌<◌, ◌≤◌, ◌^◌, true, ◌||◌, List, [], ◌∷◌, ◌++◌, length, get_or, take, drop, Option, Some, None, is_some, refl, sym, ap, ◌∙◌, subst, arith}
use Rattle.std.proofs.lemmas.Bool.{lt-ltb, le-ltb, or_right}
use Rattle.std.proofs.lemmas.List.{take-append-drop}
use Rattle.std.proofs.lemmas.Option.{slice_get-get_or, slice_get_past}
use Rattle.qh_buffers.specs.declared.assembler.Chunk.{Chunk}
use Rattle.qh_buffers.specs.Assembler.{byte_of, byte_in, or_byte, end_of, waits_in, end_behind, chunk_at, AreInOrder}

-- the byte of a piece, by cases
pub inside : (c : Chunk) (k : ℕ) → c.offset ≤ k → k < end_of c → byte_of c k ≡ Some (get_or c.bytes (k - c.offset) 0)
inside c k low high = rw (le-ltb k c.offset low) (slice_get-get_or c.bytes (k - c.offset) 0 (omega arith))

pub before : (c : Chunk) (k : ℕ) → k < c.offset → byte_of c k ≡ None
before c k h = rw (lt-ltb k c.offset h)

pub behind : (c : Chunk) (k : ℕ) → end_of c ≤ k → byte_of c k ≡ None
behind c k h = rw (le-ltb k c.offset (omega arith)) (slice_get_past c.bytes (k - c.offset) (omega arith))

pub or_none : (o : Option ℕ) → or_byte o None ≡ o
or_none None = refl
or_none (Some b) = refl

pub or_assoc : (o p q : Option ℕ) → or_byte (or_byte o p) q ≡ or_byte o (or_byte p q)
or_assoc None p q = refl
or_assoc (Some b) p q = refl

pub some_or : (o p : Option ℕ) → is_some (or_byte o p) ≡ (is_some o || is_some p)
some_or None p = refl
some_or (Some b) p = refl

pub in-append : (cs ds : List Chunk) (k : ℕ) → byte_in (cs ++ ds) k ≡ or_byte (byte_in cs k) (byte_in ds k)
in-append [] ds k = refl
in-append (c ∷ cs) ds k = ap (or_byte (byte_of c k)) (in-append cs ds k) ∙ sym (or_assoc (byte_of c k) (byte_in cs k) (byte_in ds k))

pub waits-append : (cs ds : List Chunk) (k : ℕ) → waits_in (cs ++ ds) k ≡ (waits_in cs k || waits_in ds k)
waits-append cs ds k = ap (λ (o : Option ℕ). is_some o) (in-append cs ds k) ∙ some_or (byte_in cs k) (byte_in ds k)

pub none_below : (cs : List Chunk) (low k : ℕ) → AreInOrder low cs → k < low → byte_in cs k ≡ None
none_below [] low k order h = refl
none_below (c ∷ cs) low k order h =
    rw (before c k (omega (arith, order.0)), none_below cs (end_of c) k order.3 (omega (arith, order.0)))

pub end_le : (cs : List Chunk) (low : ℕ) → AreInOrder low cs → low ≤ end_behind low cs
end_le [] low order = omega arith
end_le (c ∷ cs) low order = omega (arith, order.0, end_le cs (end_of c) order.3)

pub none_behind : (cs : List Chunk) (low k : ℕ) → AreInOrder low cs → end_behind low cs ≤ k → byte_in cs k ≡ None
none_behind [] low k order h = refl
none_behind (c ∷ cs) low k order h =
    rw (behind c k (omega (arith, end_le cs (end_of c) order.3)), none_behind cs (end_of c) k order.3 h)

pub order_front : (cs ds : List Chunk) (low : ℕ) → AreInOrder low (cs ++ ds) → AreInOrder low cs
order_front [] ds low order = tt
order_front (c ∷ cs) ds low order = (order.0, order.1, order.2, order_front cs ds (end_of c) order.3)

pub order_rest : (cs ds : List Chunk) (low : ℕ) → AreInOrder low (cs ++ ds) → AreInOrder (end_behind low cs) ds
order_rest [] ds low order = order
order_rest (c ∷ cs) ds low order = order_rest cs ds (end_of c) order.3

pub order_join : (cs ds : List Chunk) (low : ℕ) → AreInOrder low cs → AreInOrder (end_behind low cs) ds → AreInOrder low (cs ++ ds)
order_join [] ds low order rest = rest
order_join (c ∷ cs) ds low order rest = (order.0, order.1, order.2, order_join cs ds (end_of c) order.3 rest)

pub order_take : (cs : List Chunk) (i low : ℕ) → AreInOrder low cs → AreInOrder low (take i cs)
order_take cs i low order =
    order_front (take i cs) (drop i cs) low (subst (λ (ds : List Chunk). AreInOrder low ds) (sym (take-append-drop i cs)) order)

pub order_lower : (cs : List Chunk) (low low' : ℕ) → low ≤ low' → AreInOrder low' cs → AreInOrder low cs
order_lower [] low low' h order = tt
order_lower (c ∷ cs) low low' h order = (omega (arith, order.0), order.1, order.2, order.3)

-- the piece at an index
pub order_at : (cs : List Chunk) (i low : ℕ) → AreInOrder low cs → i < length cs → (low ≤ (chunk_at cs i).offset) × (0 < length (chunk_at cs i).bytes) × (end_of (chunk_at cs i) < 2 ^ 62)
order_at [] i low order h = absurd (omega arith)
order_at (c ∷ cs) zero low order h = (order.0, order.1, order.2)
order_at (c ∷ cs) (suc i) low order h =
    let later = order_at cs i (end_of c) order.3 (omega arith) in
    (omega (arith, order.0, later.0), later.1, later.2)

pub waits_at : (cs : List Chunk) (i k : ℕ) → i < length cs → (chunk_at cs i).offset ≤ k → k < end_of (chunk_at cs i) → waits_in cs k ≡ true
waits_at [] i k h low high = absurd (omega arith)
waits_at (c ∷ cs) zero k h low high = rw (inside c k low high)
waits_at (c ∷ cs) (suc i) k h low high =
    some_or (byte_of c k) (byte_in cs k) ∙ or_right (is_some (byte_of c k)) (waits_in cs k) (waits_at cs i k (omega arith) low high)
