-- Steps of the functions over the pieces of a stream, and over its segments.
use Rattle.std.proofs.Common.{◌≡◌, ℕ, ◌+◌, ◌-◌, ◌<◌, ◌≤◌, true, false, ◌&&◌, List, [], ◌∷◌, ◌++◌, length, map, length-take, length-drop, get_or-take, get_or-drop, take-append-drop, take, drop, get_or, set, refl, sym, ap, ◌∙◌, arith, inl, inr, nat_lt, nat_le}
use Prim.Native.Nat.{zero, suc}
use Rattle.std.specs.List.{insert, list_any, AllWithin}
use Rattle.std.proofs.lemmas.Bool.{cases_lt, le-ltb, lt-ltb, le-leb, and_from, and_right}
use Rattle.std.proofs.lemmas.List.{map-append, length-map, length-take-le, get_or-append_right}
use Rattle.std.proofs.lemmas.List.Edits.{map_over_more}
use Rattle.qh_spec.specs.Lists.{In}
use Rattle.qh_buffers.specs.declared.send_buffer.Mark.{Mark}
use Rattle.qh_buffers.specs.declared.send_buffer.Mark.TheVariants.{Sent, Acked}
use Rattle.qh_buffers.specs.declared.send_buffer.Piece.{Piece}
use Rattle.qh_buffers.specs.SendState.{piece_end, marked, mark_between, sent_again, is_owed}
use Rattle.qh_buffers.proofs.MarkedPieces.{unmarked, map_same, not_owed, none_any}

pub sent_again_part : (ps : List Piece) (to i : ℕ) (x : Piece) → i < length ps → x ≡ get_or ps i x → to < x.end
    → insert ps i (record { end = to; mark = Sent }) ≡ sent_again to i ps
sent_again_part [] to i x some is part = absurd (omega arith)
sent_again_part (p ∷ ps) to zero x some is part =
    let e : to < p.end = rw is at part in rw (lt-ltb to p.end e)
sent_again_part (p ∷ ps) to (suc i) x some is part = ap (λ (qs : List Piece). p ∷ qs) (sent_again_part ps to i x (omega arith) is part)

pub sent_again_whole : (ps : List Piece) (to i : ℕ) (x y : Piece) → i < length ps → x ≡ get_or ps i x → y ≡ get_or ps i y → x.end ≤ to
    → set ps i (record { end = y.end; mark = Sent }) ≡ sent_again to i ps
sent_again_whole [] to i x y some is also whole = absurd (omega arith)
sent_again_whole (p ∷ ps) to zero x y some is also whole =
    let e : p.end ≤ to = rw is at whole in rw (also, le-ltb to p.end e)
sent_again_whole (p ∷ ps) to (suc i) x y some is also whole = ap (λ (qs : List Piece). p ∷ qs) (sent_again_whole ps to i x y (omega arith) is also whole)

-- the marks of the pieces before a place were changed: at the start, one more, and at the end
pub marks_none : (m : Mark) (from to : ℕ) (ps : List Piece) (i : ℕ) → AllWithin (λ p. piece_end p ≤ from) ps 0 i
    → ps ≡ map (mark_between m from to) (take i ps) ++ drop i ps
marks_none m from to ps i before =
    sym (ap (λ (xs : List Piece). xs ++ drop i ps) (map_same (mark_between m from to) (take i ps) (λ j d h.
    let low : j < i = omega (arith, length-take i ps) in
    rw (get_or-take i ps j d low) (unmarked m from to (get_or ps j d) (inl (before j d (omega arith) low)))))
    ∙ take-append-drop i ps)

pub marks_more : (m : Mark) (from to : ℕ) (ps qs : List Piece) (i : ℕ) (x : Piece) (y : Mark) → i < length ps → from < piece_end (get_or ps i x) → piece_end (get_or ps i x) ≤ to
    → qs ≡ map (mark_between m from to) (take i ps) ++ drop i ps → x ≡ get_or qs i x → y ≡ marked m x.mark
    → set qs i (record { end = x.end; mark = y }) ≡ map (mark_between m from to) (take (i + 1) ps) ++ drop (i + 1) ps
marks_more m from to ps qs i x y some low high is read changed =
    let front_len : length (map (mark_between m from to) (take i ps)) ≡ i = length-map (take i ps) (mark_between m from to) ∙ length-take-le i ps (omega arith) in
    let here : i + (i - i) ≡ i = omega arith in
    let same : x ≡ get_or ps i x = read ∙ ap (λ (xs : List Piece). get_or xs i x) is
    ∙ get_or-append_right (map (mark_between m from to) (take i ps)) (drop i ps) i i x front_len (omega arith)
    ∙ get_or-drop i ps (i - i) x ∙ ap (λ (n : ℕ). get_or ps n x) here in
    let ends : x.end ≡ (get_or ps i x).end = ap piece_end same in
    let inside : (nat_lt from x.end && nat_le x.end to) ≡ true = and_from (nat_lt from x.end) (nat_le x.end to) (lt-ltb from x.end (omega arith)) (le-leb x.end to (omega arith)) in
    let is_marked : record { end = x.end; mark = y } ≡ mark_between m from to x = rw (inside, changed) in
    ap (set qs i) is_marked ∙ map_over_more (mark_between m from to) ps qs i x some is read

pub marks_all : (m : Mark) (from to : ℕ) (ps : List Piece) (i : ℕ) → AllWithin (λ p. to < piece_end p) ps i (length ps)
    → map (mark_between m from to) (take i ps) ++ drop i ps ≡ map (mark_between m from to) ps
marks_all m from to ps i behind =
    ap (λ (xs : List Piece). map (mark_between m from to) (take i ps) ++ xs) (sym (map_same (mark_between m from to) (drop i ps) (λ j d h.
    let high : i + j < length ps = omega (arith, length-drop i ps) in
    rw (get_or-drop i ps j d) (unmarked m from to (get_or ps (i + j) d) (inr (behind (i + j) d (omega arith) high))))))
    ∙ sym (map-append (mark_between m from to) (take i ps) (drop i ps))
    ∙ ap (map (mark_between m from to)) (take-append-drop i ps)

-- no piece between two offsets is owed, where those at the places from first to behind are acknowledged
pub none_owed_at : (from to : ℕ) (ps : List Piece) (first behind : ℕ) → AllWithin (λ p. piece_end p ≤ from) ps 0 first → AllWithin (λ p. to < piece_end p) ps behind (length ps)
    → ((j : ℕ) (d : Piece) → first ≤ j → j < behind → (get_or ps j d).mark ≡ Acked) → list_any (is_owed from to) ps ≡ false
none_owed_at from to ps first behind low high acked =
    none_any (is_owed from to) ps (λ j d h. elim (cases_lt j first) [
      | inl before ↦ not_owed from to (get_or ps j d) (inl (low j d (omega arith) before))
      | inr on ↦ elim (cases_lt j behind) [
        | inl inside ↦ rw (acked j d on inside) (and_right (nat_lt from (get_or ps j d).end && nat_le (get_or ps j d).end to) false refl)
        | inr past ↦ not_owed from to (get_or ps j d) (inr (high j d past h))
      ]
    ])

-- the end of a piece is a cut
pub end_is_in : (ps : List Piece) (i k : ℕ) (x : Piece) → i < length ps → x ≡ get_or ps i x → x.end ≡ k → In k (map (λ (p : Piece). p.end) ps)
end_is_in [] i k x some is end = absurd (omega arith)
end_is_in (p ∷ ps) zero k x some is end = inl (sym (ap piece_end is) ∙ end)
end_is_in (p ∷ ps) (suc i) k x some is end = inr (end_is_in ps i k x (omega arith) is end)
