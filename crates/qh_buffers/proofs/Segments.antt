-- What changes of the segments of a stream leave of its bytes.
use Rattle.std.proofs.Common.{◌≡◌, ℕ, ◌+◌, ◌-◌, ◌<◌, ◌≤◌, List, [], ◌∷◌, ◌++◌, length, length-take, length-drop, length-append, append_assoc, take, drop, get_or, refl, sym, ap, ◌∙◌, arith, inl, inr, ◌==◌}
use Prim.Native.Nat.{zero, suc}
use Rattle.std.specs.List.{AllWithin}
use Rattle.std.proofs.Math.Seq.{take-append-add, drop-append-add}
use Rattle.std.proofs.lemmas.Bool.{cases_lt, le-leb, lt-leb, eq-eqb, ne_eqb}
use Rattle.std.proofs.lemmas.List.{take-append-le, drop-append-le, drop-drop, drop_all, drop_more, take_all, append-nil}
use Rattle.qh_buffers.specs.declared.send_buffer.segments.Segment.{Segment}
use Rattle.qh_buffers.specs.SendState.{Rises, segment_end, Joined, bytes_from, held, segments_behind}

take_both : (n : ℕ) (xs ys : List ℕ) → take n (xs ++ ys) ≡ take n xs ++ take (n - length xs) ys
take_both n xs ys = elim (cases_lt n (length xs)) [
  | inl part ↦
      let none : n - length xs ≡ 0 = omega arith in
      take-append-le n xs ys (omega arith) ∙ sym (ap (λ (m : ℕ). take n xs ++ take m ys) none ∙ append-nil (take n xs))
  | inr whole ↦
      let parts : length xs + (n - length xs) ≡ n = omega arith in
      ap (λ (m : ℕ). take m (xs ++ ys)) (sym parts) ∙ take-append-add xs ys (n - length xs)
      ∙ ap (λ (zs : List ℕ). zs ++ take (n - length xs) ys) (sym (take_all n xs whole))
]

drop_past : (n : ℕ) (xs ys : List ℕ) → length xs ≤ n → drop n (xs ++ ys) ≡ drop (n - length xs) ys
drop_past n xs ys h =
    let parts : length xs + (n - length xs) ≡ n = omega arith in
    ap (λ (m : ℕ). drop m (xs ++ ys)) (sym parts) ∙ drop-append-add xs ys (n - length xs)

pub joined_order : (ss : List Segment) (a to : ℕ) → Joined a ss to → a ≤ to
joined_order [] a to h = omega arith
joined_order (s ∷ ss) a to h = let rest = joined_order ss s.end to h.2 in omega (arith, h.0)

pub joined_rises : (ss : List Segment) (a to : ℕ) → Joined a ss to → Rises segment_end a ss
joined_rises [] a to h = tt
joined_rises (s ∷ ss) a to h = (h.0, joined_rises ss s.end to h.2)

-- a segment has as many bytes from an offset on
pub length-bytes_from : (s : Segment) (a : ℕ) → s.end ≤ a + length s.bytes → length (bytes_from a s) ≡ s.end - a
length-bytes_from s a h = omega (arith, length-drop (length s.bytes - (s.end - a)) s.bytes)

pub length-held : (ss : List Segment) (a to : ℕ) → Joined a ss to → a + length (held a ss) ≡ to
length-held [] a to h = omega arith
length-held (s ∷ ss) a to h =
    omega (arith, length-append (bytes_from a s) (held s.end ss), length-bytes_from s a h.1, length-held ss s.end to h.2, h.0)

-- a segment that joins at the end
pub joined-push : (ss : List Segment) (a to : ℕ) (xs : List ℕ) → Joined a ss to → 0 < length xs → Joined a (ss ++ record { end = to + length xs; bytes = xs } ∷ []) (to + length xs)
joined-push [] a to xs h some = (omega arith, omega arith, refl)
joined-push (s ∷ ss) a to xs h some = (h.0, h.1, joined-push ss s.end to xs h.2 some)

pub held-push : (ss : List Segment) (a to : ℕ) (xs : List ℕ) → Joined a ss to → held a (ss ++ record { end = to + length xs; bytes = xs } ∷ []) ≡ held a ss ++ xs
held-push [] a to xs h =
    let none : length xs - (to + length xs - a) ≡ 0 = omega arith in
    ap (λ (n : ℕ). drop n xs ++ []) none ∙ append-nil xs
held-push (s ∷ ss) a to xs h = ap (λ (ys : List ℕ). bytes_from a s ++ ys) (held-push ss s.end to xs h.2) ∙ sym (append_assoc (bytes_from a s) (held s.end ss) xs)

-- segments that are let go
pub joined-behind : (ss : List Segment) (a b to : ℕ) → Joined a ss to → a ≤ b → b ≤ to → Joined b (segments_behind b ss) to
joined-behind [] a b to h low high = omega arith
joined-behind (s ∷ ss) a b to h low high = elim (cases_lt b s.end) [
  | inl inside ↦ rw (lt-leb s.end b inside) (inside, omega (arith, h.1), h.2)
  | inr past ↦ rw (le-leb s.end b past) (joined-behind ss s.end b to h.2 past high)
]

pub held-behind : (ss : List Segment) (a b to : ℕ) → Joined a ss to → a ≤ b → b ≤ to → held b (segments_behind b ss) ≡ drop (b - a) (held a ss)
held-behind [] a b to h low high = sym (drop_all (b - a) [] (omega arith))
held-behind (s ∷ ss) a b to h low high =
    let part = length-bytes_from s a h.1 in
    elim (cases_lt b s.end) [
      | inl inside ↦
          let at : length s.bytes - (s.end - a) + (b - a) ≡ length s.bytes - (s.end - b) = omega (arith, h.0, h.1) in
          rw (lt-leb s.end b inside)
          (ap (λ (n : ℕ). drop n s.bytes ++ held s.end ss) (sym at)
          ∙ ap (λ (xs : List ℕ). xs ++ held s.end ss) (sym (drop-drop (b - a) (length s.bytes - (s.end - a)) s.bytes))
          ∙ sym (drop-append-le (b - a) (bytes_from a s) (held s.end ss) (omega arith)))
      | inr past ↦
          let at : b - a - length (bytes_from a s) ≡ b - s.end = omega (arith, h.0) in
          rw (le-leb s.end b past)
          (held-behind ss s.end b to h.2 past high
          ∙ ap (λ (n : ℕ). drop n (held s.end ss)) (sym at)
          ∙ sym (drop_past (b - a) (bytes_from a s) (held s.end ss) (omega (arith, h.0))))
    ]

pub behind_at : (ss : List Segment) (b i : ℕ) → i ≤ length ss → AllWithin (λ s. segment_end s ≤ b) ss 0 i → AllWithin (λ s. b < segment_end s) ss i (length ss)
    → segments_behind b ss ≡ drop i ss
behind_at [] b zero some low high = refl
behind_at [] b (suc i) some low high = refl
behind_at (s ∷ ss) b zero some low high = rw (lt-leb s.end b (high 0 s (omega arith) (omega arith)))
behind_at (s ∷ ss) b (suc i) some low high =
    rw (le-leb s.end b (low 0 s (omega arith) (omega arith)))
    (behind_at ss b i (omega arith) (λ k d l h. low (suc k) d (omega arith) (omega arith)) (λ k d l h. high (suc k) d (omega arith) (omega arith)))

-- a step of copying: the segment at a place, and the rest
pub segment_left : (ss : List Segment) (a to i : ℕ) → Joined a (drop i ss) to → a < to → i < length ss
segment_left ss a to i h some = elim (cases_lt i (length ss)) [
  | inl inside ↦ inside
  | inr past ↦
      let e : a ≡ to = rw (drop_all i ss past) at h in
      absurd (omega arith)
]

pub joined_step : (ss : List Segment) (a to i : ℕ) (s : Segment) → i < length ss → s ≡ get_or ss i s → Joined a (drop i ss) to
    → (a < s.end) × (s.end ≤ a + length s.bytes) × Joined s.end (drop (i + 1) ss) to
joined_step ss a to i s some is h =
    let e : drop i ss ≡ s ∷ drop (i + 1) ss = drop_more ss i s some ∙ ap (λ (x : Segment). x ∷ drop (i + 1) ss) (sym is) in
    rw e at h

pub held_step : (ss : List Segment) (a end i : ℕ) (s : Segment) → i < length ss → s ≡ get_or ss i s → s.end ≤ a + length s.bytes → a ≤ s.end
    → take (end - a) (held a (drop i ss)) ≡ take (end - a) (bytes_from a s) ++ take (end - s.end) (held s.end (drop (i + 1) ss))
held_step ss a end i s some is long order =
    let e : drop i ss ≡ s ∷ drop (i + 1) ss = drop_more ss i s some ∙ ap (λ (x : Segment). x ∷ drop (i + 1) ss) (sym is) in
    let left : end - a - length (bytes_from a s) ≡ end - s.end = omega (arith, length-bytes_from s a long) in
    ap (λ (xs : List Segment). take (end - a) (held a xs)) e
    ∙ take_both (end - a) (bytes_from a s) (held s.end (drop (i + 1) ss))
    ∙ ap (λ (n : ℕ). take (end - a) (bytes_from a s) ++ take n (held s.end (drop (i + 1) ss))) left

-- how many bytes a step copies
pub step_len : (s : Segment) (a end : ℕ) → a ≤ s.end → s.end ≤ a + length s.bytes → length (take (end - a) (bytes_from a s)) + (end - s.end) ≤ end - a
step_len s a end order long =
    omega (arith, length-take (end - a) (bytes_from a s), length-bytes_from s a long)

-- what a step leaves, where it copied
pub copied_step : (out old all part rest new : List ℕ) → out ++ all ≡ old → all ≡ part ++ rest → new ≡ out ++ part → new ++ rest ≡ old
copied_step out old all part rest new before split copied = rw (copied, append_assoc) (ap (λ (xs : List ℕ). out ++ xs) (sym split) ∙ before)

pub none_held : (ss : List Segment) (a to : ℕ) → Joined a ss to → (to == a) ≡ (length (held a ss) == 0)
none_held ss a to h =
    let len = length-held ss a to h in
    elim (cases_lt a to) [
      | inl some ↦ ne_eqb to a (omega arith) ∙ sym (ne_eqb (length (held a ss)) 0 (omega arith))
      | inr none ↦ eq-eqb to a (omega arith) ∙ sym (eq-eqb (length (held a ss)) 0 (omega arith))
    ]
