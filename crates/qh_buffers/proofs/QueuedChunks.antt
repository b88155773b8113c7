-- Pieces that stand in a queue, and a map of them.
use Rattle.std.proofs.Common.{◌≡◌, ℕ, ◌+◌, ◌-◌, ◌<◌, ◌≤◌, ◌^◌, ◌==◌, false, List, [], ◌∷◌, ◌++◌, suc, length, get_or, take, drop, refl, sym, ap, ◌∙◌, subst, arith, inl, inr}
use Rattle.std.proofs.lemmas.Bool.{cases_lt, lt-ltb, le-ltb}
use Rattle.std.proofs.lemmas.List.{take_more, length-drop, get_or_read, append-nil}
use Rattle.qh_buffers.specs.declared.assembler.Chunk.{Chunk}
use Rattle.qh_buffers.specs.Assembler.{pieces, end_of, end_behind, chunk_at, after_front, AreInOrder, AreStored, AreQueuedOrStored}
use Rattle.qh_buffers.proofs.ChunkLaws.{end_le, order_front, order_rest, order_join, order_take, order_lower, order_at}
use Rattle.qh_buffers.proofs.StoredPieces.{Entry, piece_again, stored_order, put, put_behind}

-- a queue with pieces is all that waits
pub none_stored : (queue : List Chunk) (es : List Entry) → AreQueuedOrStored queue es → 0 < length queue → es ≡ []
none_stored queue es waits some =
    elim waits.one [
      | inl none ↦ let e = ap (λ (l : List Chunk). length l) none in absurd (omega arith)
      | inr none ↦ none
    ]

-- what has a length
pub is_some_length : (n : ℕ) → (n == 0) ≡ false → 0 < n
is_some_length n h = grind (arith, h)

pub no_entries : (es : List Entry) → length es ≡ 0 → es ≡ []
no_entries [] h = refl
no_entries (e ∷ es) h = absurd (omega arith)

-- a piece that begins behind all that waits goes to the back of the queue
pub queued_more : (queue : List Chunk) (es : List Entry) (new : Chunk) → AreQueuedOrStored queue es → es ≡ [] → 0 < length new.bytes → end_of new < 2 ^ 62 → end_behind 0 queue ≤ new.offset → AreQueuedOrStored (queue ++ new ∷ []) es
queued_more queue es new waits none some fits behind = record {
  in_order = order_join queue (new ∷ []) 0 waits.in_order (behind, some, fits, tt);
  stored = waits.stored;
  one = inr none;
}

pub only_queue : (queue : List Chunk) (es : List Entry) → es ≡ [] → queue ++ pieces es ≡ queue
only_queue queue es none = ap (λ (l : List Entry). queue ++ pieces l) none ∙ append-nil queue

pub all_in_order : (queue : List Chunk) (es : List Entry) → AreQueuedOrStored queue es → AreInOrder 0 (queue ++ pieces es)
all_in_order queue es waits =
    elim waits.one [
      | inl none ↦ subst (λ (l : List Chunk). AreInOrder 0 (l ++ pieces es)) (sym none) (stored_order es 0 waits.stored)
      | inr none ↦ subst (λ (l : List Chunk). AreInOrder 0 l) (sym (only_queue queue es none)) waits.in_order
    ]

-- ---- the last piece

end_of_last : (cs : List Chunk) (low : ℕ) (d : Chunk) → 0 < length cs → end_behind low cs ≡ end_of (get_or cs (length cs - 1) d)
end_of_last [] low d some = absurd (omega arith)
end_of_last (c ∷ []) low d some = refl
end_of_last (c ∷ e ∷ cs) low d some =
    let n : length (c ∷ e ∷ cs) - 1 ≡ suc (length (e ∷ cs) - 1) = omega arith in
    end_of_last (e ∷ cs) (end_of c) d (omega arith) ∙ sym (ap (λ (i : ℕ). end_of (get_or (c ∷ e ∷ cs) i d)) n)

pub last_is : (cs : List Chunk) (n : ℕ) (last : Chunk) → n ≡ length cs → 0 < length cs → last ≡ get_or cs (n - 1) last → AreInOrder 0 cs
    → (end_of last < 2 ^ 62) × (end_of last ≡ end_behind 0 cs)
last_is cs n last size some is order =
    let i : ℕ = length cs - 1 in
    let at : n - 1 ≡ i = omega arith in
    let here : last ≡ get_or cs i last = is ∙ ap (λ (j : ℕ). get_or cs j last) at in
    let read : last ≡ chunk_at cs i = get_or_read cs i last (omega arith) here (record { offset = 0; bytes = [] }) in
    (rw read (order_at cs i 0 order (omega arith)).2, ap end_of here ∙ sym (end_of_last cs 0 last some))

-- ---- what is left without the first bytes

pub after_in_order : (cs : List Chunk) (low n : ℕ) → AreInOrder low cs → AreInOrder low (after_front n cs)
after_in_order [] low n order = tt
after_in_order (c ∷ cs) low n order =
    elim (cases_lt n (length c.bytes)) [
      | inl less ↦
          let d = length-drop n c.bytes in
          let e : c.offset + n + length (drop n c.bytes) ≡ end_of c = omega arith in
          rw (lt-ltb n (length c.bytes) less) (omega (arith, order.0), omega arith, rw e order.2, rw e order.3)
      | inr all ↦
          let m : ℕ = n - length c.bytes in
          rw (le-ltb n (length c.bytes) all) (order_lower (after_front m cs) low (end_of c) (omega (arith, order.0)) (after_in_order cs (end_of c) m order.3))
    ]

-- ---- a map of the pieces

abbrev pub entries_of : List Chunk → List Entry
entries_of [] = []
entries_of (c ∷ cs) = (end_of c, c.bytes) ∷ entries_of cs

pub entries_stored : (cs : List Chunk) (low : ℕ) → AreInOrder low cs → AreStored low (entries_of cs)
entries_stored [] low order = tt
entries_stored (c ∷ cs) low order = (omega (arith, order.0), order.1, order.2, entries_stored cs (end_of c) order.3)

pub entries_pieces : (cs : List Chunk) → pieces (entries_of cs) ≡ cs
entries_pieces [] = refl
entries_pieces (c ∷ cs) = ap (λ (p : Chunk). p ∷ pieces (entries_of cs)) (piece_again c) ∙ ap (λ (l : List Chunk). c ∷ l) (entries_pieces cs)

put_last : (cs : List Chunk) (low : ℕ) (c : Chunk) → AreInOrder low (cs ++ c ∷ []) → put (entries_of cs) c ≡ entries_of (cs ++ c ∷ [])
put_last [] low c order = refl
put_last (d ∷ cs) low c order =
    let rest = order_rest cs (c ∷ []) (end_of d) order.3 in
    let above : end_of d < end_of c = omega (arith, end_le cs (end_of d) (order_front cs (c ∷ []) (end_of d) order.3), rest.0, rest.1) in
    put_behind (end_of d, d.bytes) (entries_of cs) c above ∙ ap (λ (l : List Entry). (end_of d, d.bytes) ∷ l) (put_last cs (end_of d) c order.3)

pub put_next : (cs : List Chunk) (i : ℕ) (d : Chunk) → i < length cs → AreInOrder 0 cs → put (entries_of (take i cs)) (get_or cs i d) ≡ entries_of (take (i + 1) cs)
put_next cs i d within order =
    let more : take (i + 1) cs ≡ take i cs ++ get_or cs i d ∷ [] = take_more cs i d within in
    let front : AreInOrder 0 (take i cs ++ get_or cs i d ∷ []) = subst (λ (l : List Chunk). AreInOrder 0 l) more (order_take cs (i + 1) 0 order) in
    put_last (take i cs) 0 (get_or cs i d) front ∙ sym (ap entries_of more)
