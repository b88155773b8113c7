-- The pieces of a stream: their order, where they are cut, and what is at an offset.
use Rattle.std.proofs.Common.{◌≡◌, ℕ, ◌-◌, ◌<◌, ◌≤◌, true, false, cond, List, [], ◌∷◌, length, map, take, get_or, refl, ap, ◌∙◌, arith, inl, inr, ◌⊎◌, Option, Some, nat_lt, nat_le}
use Prim.Native.Nat.{zero, suc}
use Rattle.std.specs.List.Sorted.{IsNonDecreasingBy}
use Rattle.std.proofs.lemmas.Bool.{le-ltb, lt-ltb, le-leb, lt-leb, and_from, and_left, and_right}
use Rattle.qh_spec.specs.Lists.{In}
use Rattle.qh_buffers.specs.declared.send_buffer.Mark.{Mark}
use Rattle.qh_buffers.specs.declared.send_buffer.Mark.TheVariants.{Acked}
use Rattle.qh_buffers.specs.declared.send_buffer.Piece.{Piece}
use Rattle.qh_buffers.specs.SendBuffer.{pieces_end, mark_in, is_between}
use Rattle.qh_buffers.specs.SendState.{Rises, piece_end}

-- an offset at which no piece is cut in two
abbrev pub Cut : ℕ → List Piece → ℕ → Type 0
Cut start ps k = (k ≤ start) ⊎ In k (map (λ (p : Piece). p.end) ps)

-- what was done with the byte at an offset
abbrev pub mark_from : ℕ → List Piece → ℕ → Option Mark
mark_from start ps k = cond (nat_lt k start) (Some Acked) (mark_in ps k)

-- the pieces rise
pub end_rises : (ps : List Piece) (a : ℕ) → Rises piece_end a ps → a ≤ pieces_end a ps
end_rises [] a rises = omega arith
end_rises (p ∷ ps) a rises = let rest = end_rises ps p.end rises.1 in omega (arith, rises.0)

pub take_rises : (ps : List Piece) (a i : ℕ) → Rises piece_end a ps → a ≤ pieces_end a (take i ps)
take_rises ps a zero rises = omega arith
take_rises [] a (suc i) rises = omega arith
take_rises (p ∷ ps) a (suc i) rises = let rest = take_rises ps p.end i rises.1 in omega (arith, rises.0)

pub end_above : {X : Type 0} (n : X → ℕ) (xs : List X) (a j : ℕ) (d : X) → Rises n a xs → j < length xs → a < n (get_or xs j d)
end_above n [] a j d rises h = absurd (omega arith)
end_above n (x ∷ xs) a zero d rises h = rises.0
end_above n (x ∷ xs) a (suc j) d rises h = let rest = end_above n xs (n x) j d rises.1 (omega arith) in omega (arith, rises.0)

pub rises_sorted : {X : Type 0} (n : X → ℕ) (xs : List X) (a : ℕ) → Rises n a xs → IsNonDecreasingBy n xs
rises_sorted n [] a rises i j d order h = absurd (omega arith)
rises_sorted n (x ∷ xs) a rises zero zero d order h = omega arith
rises_sorted n (x ∷ xs) a rises zero (suc j) d order h = let rest = end_above n xs (n x) j d rises.1 (omega arith) in omega arith
rises_sorted n (x ∷ xs) a rises (suc i) zero d order h = absurd (omega arith)
rises_sorted n (x ∷ xs) a rises (suc i) (suc j) d order h = rises_sorted n xs (n x) rises.1 i j d (omega arith) (omega arith)

-- cuts
pub cut_above : (ps : List Piece) (a k : ℕ) → Rises piece_end a ps → In k (map (λ (p : Piece). p.end) ps) → a < k
cut_above [] a k rises h = absurd h
cut_above (p ∷ ps) a k rises h = elim h [
  | inl same ↦ omega (arith, rises.0, same)
  | inr later ↦ let rest = cut_above ps p.end k rises.1 later in omega (arith, rises.0)
]

pub cut_later : (p : Piece) (ps : List Piece) (a k : ℕ) → a < p.end → Cut a (p ∷ ps) k → Cut p.end ps k
cut_later p ps a k first h = elim h [
  | inl below ↦ inl (omega arith)
  | inr at ↦ elim at [ inl same ↦ inl (omega (arith, same)) | inr later ↦ inr later ]
]

-- a cut isn't inside the first piece
pub cut_sides : (p : Piece) (ps : List Piece) (a k : ℕ) → Rises piece_end a (p ∷ ps) → Cut a (p ∷ ps) k → (k ≤ a) ⊎ (p.end ≤ k)
cut_sides p ps a k rises h = elim h [
  | inl below ↦ inl below
  | inr at ↦ elim at [ inl same ↦ inr (omega (arith, same)) | inr later ↦ inr (let rest = cut_above ps p.end k rises.1 later in omega arith) ]
]

pub end_is_cut : (ps : List Piece) (a : ℕ) → Rises piece_end a ps → Cut a ps (pieces_end a ps)
end_is_cut [] a rises = inl (omega arith)
end_is_cut (p ∷ ps) a rises = elim (end_is_cut ps p.end rises.1) [
  | inl low ↦ let rest = end_rises ps p.end rises.1 in inr (inl (omega arith))
  | inr at ↦ inr (inr at)
]

pub take_is_cut : (ps : List Piece) (a i : ℕ) → Rises piece_end a ps → Cut a ps (pieces_end a (take i ps))
take_is_cut ps a zero rises = inl (omega arith)
take_is_cut [] a (suc i) rises = inl (omega arith)
take_is_cut (p ∷ ps) a (suc i) rises = elim (take_is_cut ps p.end i rises.1) [
  | inl low ↦ let rest = take_rises ps p.end i rises.1 in inr (inl (omega arith))
  | inr at ↦ inr (inr at)
]

-- the test of a range
pub between_true : (a b k : ℕ) → a ≤ k → k < b → is_between a b k ≡ true
between_true a b k low high = and_from (nat_le a k) (nat_lt k b) (le-leb a k low) (lt-ltb k b high)

pub between_low : (a b k : ℕ) → k < a → is_between a b k ≡ false
between_low a b k h = and_left (nat_le a k) (nat_lt k b) (lt-leb a k h)

pub between_high : (a b k : ℕ) → b ≤ k → is_between a b k ≡ false
between_high a b k h = and_right (nat_le a k) (nat_lt k b) (le-ltb k b h)

-- the first piece has the bytes up to its end
pub mark_first : (p : Piece) (ps : List Piece) (k : ℕ) → k < p.end → mark_in (p ∷ ps) k ≡ Some p.mark
mark_first p ps k h = rw (lt-ltb k p.end h)

pub mark_later : (p : Piece) (ps : List Piece) (k : ℕ) → p.end ≤ k → mark_in (p ∷ ps) k ≡ mark_in ps k
mark_later p ps k h = rw (le-ltb k p.end h)

-- where a piece begins
pub begin_after : (ps : List Piece) (a i : ℕ) (d : Piece) → i < length ps → (get_or ps i d).end ≡ pieces_end a (take (suc i) ps)
begin_after [] a i d h = absurd (omega arith)
begin_after (p ∷ ps) a zero d h = refl
begin_after (p ∷ ps) a (suc i) d h = begin_after ps p.end i d (omega arith)

pub begin_read : (ps : List Piece) (a i : ℕ) (x : Piece) → (i ≡ 0 → ⊥) → i ≤ length ps → x ≡ get_or ps (i - 1) x → x.end ≡ pieces_end a (take i ps)
begin_read ps a i x some h is =
    let back : suc (i - 1) ≡ i = omega arith in
    ap (λ (p : Piece). p.end) is ∙ begin_after ps a (i - 1) x (omega arith) ∙ ap (λ (n : ℕ). pieces_end a (take n ps)) back
