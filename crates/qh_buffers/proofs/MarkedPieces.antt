-- What marking the pieces between two offsets leaves, and whether one of them is owed.
use Rattle.std.proofs.Common.{◌≡◌, ℕ, ◌-◌, ◌<◌, ◌≤◌, Bool, true, false, cond, ◌&&◌, not, List, [], ◌∷◌, length, map, get_or, refl, sym, ap, ◌∙◌, arith, inl, inr, ◌⊎◌, Option, Some, nat_lt, nat_le}
use Prim.Native.Nat.{suc}
use Rattle.std.specs.List.{list_any}
use Rattle.std.proofs.lemmas.Bool.{cases_lt, cases_Bool, le-ltb, lt-ltb, le-leb, lt-leb, leb-true, ltb-true, and_from, and_parts, and_left, and_right, or_cases, or_parts, not-true, not-false, false≢true}
use Rattle.qh_buffers.specs.declared.send_buffer.Mark.{Mark}
use Rattle.qh_buffers.specs.declared.send_buffer.Mark.TheVariants.{Sent, Queued, Acked}
use Rattle.qh_buffers.specs.declared.send_buffer.Piece.{Piece}
use Rattle.qh_buffers.specs.SendBuffer.{pieces_end, mark_in, is_acked_mark, is_between, requeued}
use Rattle.qh_buffers.specs.SendState.{Rises, piece_end, marked, mark_between, is_owed, is_first_acked}
use Rattle.qh_buffers.proofs.Pieces.{Cut, cut_later, cut_sides, between_true, between_low, between_high, mark_first, mark_later}

-- marks between two cuts
same_mark : (f : Option Mark → Option Mark) (m : Mark) (p : Piece) (a from to k : ℕ) → ((x : Mark) → f (Some x) ≡ Some (marked m x))
    → (from ≤ a) ⊎ (p.end ≤ from) → (to ≤ a) ⊎ (p.end ≤ to) → a ≤ k → k < p.end
    → Some (mark_between m from to p).mark ≡ cond (is_between from to k) (f (Some p.mark)) (Some p.mark)
same_mark f m p a from to k each low high above below = elim low [
  | inr later ↦
      let t : (nat_lt from p.end && nat_le p.end to) ≡ false = and_left (nat_lt from p.end) (nat_le p.end to) (le-ltb from p.end later) in
      let u : is_between from to k ≡ false = between_low from to k (omega arith) in
      rw (t, u)
  | inl before ↦ elim high [
    | inl earlier ↦
        let t : (nat_lt from p.end && nat_le p.end to) ≡ false = and_right (nat_lt from p.end) (nat_le p.end to) (lt-leb p.end to (omega arith)) in
        let u : is_between from to k ≡ false = between_high from to k (omega arith) in
        rw (t, u)
    | inr within ↦
        let t : (nat_lt from p.end && nat_le p.end to) ≡ true = and_from (nat_lt from p.end) (nat_le p.end to) (lt-ltb from p.end (omega arith)) (le-leb p.end to within) in
        let u : is_between from to k ≡ true = between_true from to k (omega arith) (omega arith) in
        rw (t, u) (sym (each p.mark))
  ]
]

pub mark_in-marked : (f : Option Mark → Option Mark) (m : Mark) (ps : List Piece) (a from to k : ℕ) → ((x : Mark) → f (Some x) ≡ Some (marked m x))
    → Rises piece_end a ps → Cut a ps from → Cut a ps to → a ≤ k
    → mark_in (map (mark_between m from to) ps) k ≡ cond (is_between from to k) (f (mark_in ps k)) (mark_in ps k)
mark_in-marked f m [] a from to k each rises low high above = elim high [
  | inl before ↦ rw (between_high from to k (omega arith))
  | inr none ↦ absurd none
]
mark_in-marked f m (p ∷ ps) a from to k each rises low high above =
    elim (cases_lt k p.end) [
      | inl first ↦
          mark_first (mark_between m from to p) (map (mark_between m from to) ps) k first
          ∙ same_mark f m p a from to k each (cut_sides p ps a from rises low) (cut_sides p ps a to rises high) above first
          ∙ ap (λ (o : Option Mark). cond (is_between from to k) (f o) o) (sym (mark_first p ps k first))
      | inr later ↦
          mark_later (mark_between m from to p) (map (mark_between m from to) ps) k later
          ∙ mark_in-marked f m ps p.end from to k each rises.1 (cut_later p ps a from rises.0 low) (cut_later p ps a to rises.0 high) later
          ∙ ap (λ (o : Option Mark). cond (is_between from to k) (f o) o) (sym (mark_later p ps k later))
    ]

pub acked_each : (x : Mark) → Some Acked ≡ Some (marked Acked x)
acked_each Sent = refl
acked_each Queued = refl
acked_each Acked = refl

pub requeued_each : (x : Mark) → requeued (Some x) ≡ Some (marked Queued x)
requeued_each Sent = refl
requeued_each Queued = refl
requeued_each Acked = refl

-- ends stay
pub ends-marked : (m : Mark) (from to : ℕ) (ps : List Piece) → map (λ (p : Piece). p.end) (map (mark_between m from to) ps) ≡ map (λ (p : Piece). p.end) ps
ends-marked m from to [] = refl
ends-marked m from to (p ∷ ps) = ap (λ (xs : List ℕ). p.end ∷ xs) (ends-marked m from to ps)

pub rises-marked : (m : Mark) (from to a : ℕ) (ps : List Piece) → Rises piece_end a ps → Rises piece_end a (map (mark_between m from to) ps)
rises-marked m from to a [] rises = tt
rises-marked m from to a (p ∷ ps) rises = (rises.0, rises-marked m from to p.end ps rises.1)

pub pieces_end-marked : (m : Mark) (from to a : ℕ) (ps : List Piece) → pieces_end a (map (mark_between m from to) ps) ≡ pieces_end a ps
pieces_end-marked m from to a [] = refl
pieces_end-marked m from to a (p ∷ ps) = pieces_end-marked m from to p.end ps

pub cut-marked : (m : Mark) (from to a k : ℕ) (ps : List Piece) → Cut a ps k → Cut a (map (mark_between m from to) ps) k
cut-marked m from to a k ps h = rw (ends-marked m from to ps) h

still_not_acked : (x : Mark) → is_acked_mark (Some x) ≡ false → is_acked_mark (Some (marked Queued x)) ≡ false
still_not_acked Sent h = refl
still_not_acked Queued h = refl
still_not_acked Acked h = h

pub is_first_acked-requeued : (from to : ℕ) (ps : List Piece) → is_first_acked ps ≡ false → is_first_acked (map (mark_between Queued from to) ps) ≡ false
is_first_acked-requeued from to [] h = refl
is_first_acked-requeued from to (p ∷ ps) h = elim (cases_Bool (nat_lt from p.end && nat_le p.end to)) [
  | inl t ↦ rw t (still_not_acked p.mark h)
  | inr t ↦ rw t h
]

-- whether some piece of a span isn't acknowledged
pub owed_byte : (ps : List Piece) (a from to : ℕ) → Rises piece_end a ps → list_any (is_owed from to) ps ≡ true
    → (k : ℕ) × (a ≤ k) × (from ≤ k) × (k < to) × (is_acked_mark (mark_in ps k) ≡ false)
owed_byte [] a from to rises h = absurd (false≢true h)
owed_byte (p ∷ ps) a from to rises h = elim (or_cases (is_owed from to p) (list_any (is_owed from to) ps) h) [
  | inl here ↦
      let parts = and_parts (nat_lt from p.end && nat_le p.end to) (not (is_acked_mark (Some p.mark))) here in
      let ends = and_parts (nat_lt from p.end) (nat_le p.end to) parts.0 in
      let low : from < p.end = ltb-true from p.end ends.0 in
      let high : p.end ≤ to = leb-true p.end to ends.1 in
      let inside : p.end - 1 < p.end = omega (arith, rises.0) in
      (p.end - 1, omega (arith, rises.0), omega arith, omega arith, rw (mark_first p ps (p.end - 1) inside) (not-true (is_acked_mark (Some p.mark)) parts.1))
  | inr later ↦
      let w = owed_byte ps p.end from to rises.1 later in
      (w.0, omega (arith, w.1, rises.0), w.2, w.3, rw (mark_later p ps w.0 w.1) w.4)
]

pub none_owed : (ps : List Piece) (a from to k : ℕ) → Rises piece_end a ps → Cut a ps from → Cut a ps to → list_any (is_owed from to) ps ≡ false
    → a ≤ k → from ≤ k → k < to → is_acked_mark (mark_in ps k) ≡ true
none_owed [] a from to k rises low high h above fk kt = elim high [ inl before ↦ absurd (omega arith) | inr none ↦ absurd none ]
none_owed (p ∷ ps) a from to k rises low high h above fk kt =
    let parts = or_parts (is_owed from to p) (list_any (is_owed from to) ps) h in
    elim (cases_lt k p.end) [
      | inl first ↦
          let starts : from < p.end = omega arith in
          let stops : p.end ≤ to = elim (cut_sides p ps a to rises high) [ inl before ↦ absurd (omega arith) | inr behind ↦ behind ] in
          let both : (nat_lt from p.end && nat_le p.end to) ≡ true = and_from (nat_lt from p.end) (nat_le p.end to) (lt-ltb from p.end starts) (le-leb p.end to stops) in
          rw (mark_first p ps k first) (not-false (is_acked_mark (Some p.mark)) (rw both at parts.0))
      | inr later ↦ rw (mark_later p ps k later) (none_owed ps p.end from to k rises.1 (cut_later p ps a from rises.0 low) (cut_later p ps a to rises.0 high) parts.1 later fk kt)
    ]

-- pieces outside of a span keep their marks
pub unmarked : (m : Mark) (from to : ℕ) (p : Piece) → (p.end ≤ from) ⊎ (to < p.end) → mark_between m from to p ≡ p
unmarked m from to p h = elim h [
  | inl before ↦ rw (and_left (nat_lt from p.end) (nat_le p.end to) (le-ltb from p.end before))
  | inr behind ↦ rw (and_right (nat_lt from p.end) (nat_le p.end to) (lt-leb p.end to behind))
]

pub not_owed : (from to : ℕ) (p : Piece) → (p.end ≤ from) ⊎ (to < p.end) → is_owed from to p ≡ false
not_owed from to p h = elim h [
  | inl before ↦ rw (and_left (nat_lt from p.end) (nat_le p.end to) (le-ltb from p.end before))
  | inr behind ↦ rw (and_right (nat_lt from p.end) (nat_le p.end to) (lt-leb p.end to behind))
]

pub map_same : {X : Type 0} (f : X → X) (xs : List X) → ((j : ℕ) (d : X) → j < length xs → f (get_or xs j d) ≡ get_or xs j d) → map f xs ≡ xs
map_same f [] h = refl
map_same f (x ∷ xs) h = rw (h 0 x (omega arith), map_same f xs (λ j d l. h (suc j) d (omega arith)))

pub none_any : {X : Type 0} (test : X → Bool) (xs : List X) → ((j : ℕ) (d : X) → j < length xs → test (get_or xs j d) ≡ false) → list_any test xs ≡ false
none_any test [] h = refl
none_any test (x ∷ xs) h = rw (h 0 x (omega arith)) (none_any test xs (λ j d l. h (suc j) d (omega arith)))
