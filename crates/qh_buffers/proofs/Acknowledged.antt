-- What acknowledging or losing a span leaves.
use Rattle.std.proofs.Common.{◌≡◌, ℕ, ◌+◌, ◌-◌, ◌<◌, ◌≤◌, Bool, true, false, cond, List, [], ◌∷◌, length, map, drop, refl, sym, ap, ◌∙◌, arith, inl, inr, Option, Some, None, nat_lt, nat_le}
use Prim.Native.Nat.{zero, suc}
use Rattle.std.specs.List.{slice_get}
use Rattle.std.proofs.lemmas.Bool.{cases_lt, cases_Bool, le-ltb, lt-ltb, leb-true, ltb-true, and_parts}
use Rattle.std.proofs.lemmas.List.{length-map}
use Rattle.qh_buffers.specs.declared.send_buffer.Mark.{Mark}
use Rattle.qh_buffers.specs.declared.send_buffer.Mark.TheVariants.{Sent, Queued, Acked}
use Rattle.qh_buffers.specs.declared.send_buffer.Piece.{Piece}
use Rattle.qh_buffers.specs.declared.send_buffer.segments.Segment.{Segment}
use Rattle.qh_buffers.specs.SendBuffer.{pieces_end, is_acked_mark, is_between, requeued, IsSpan, IsAcknowledged, IsQueuedAgain}
use Rattle.qh_buffers.specs.SendState.{Rises, piece_end, first_queued, marked, mark_between, unacked_pieces, acked_to, held, segments_behind, Keeps}
use Rattle.qh_buffers.proofs.Pieces.{Cut, mark_from, end_rises}
use Rattle.qh_buffers.proofs.MarkedPieces.{mark_in-marked, acked_each, requeued_each, rises-marked, pieces_end-marked, cut-marked, is_first_acked-requeued}
use Rattle.qh_buffers.proofs.QueuedPieces.{first_queued-acked}
use Rattle.qh_buffers.proofs.ChangedPieces.{first_queued-unacked, mark_from-unacked, acked_rises, rises-unacked, pieces_end-unacked, cut-unacked, is_first_acked-unacked, first_unacked}
use Rattle.qh_buffers.proofs.Segments.{joined-behind, held-behind, length-held}

either : (b : Bool) (x y : Option Mark) → x ≡ y → y ≡ cond b x y
either true x y h = sym h
either false x y h = refl

-- the marks of a span change, at each offset
marks_at : (f : Option Mark → Option Mark) (m : Mark) (ps : List Piece) (a from to k : ℕ) → ((x : Mark) → f (Some x) ≡ Some (marked m x)) → f (Some Acked) ≡ Some Acked
    → Rises piece_end a ps → Cut a ps from → Cut a ps to
    → mark_from a (map (mark_between m from to) ps) k ≡ cond (is_between from to k) (f (mark_from a ps k)) (mark_from a ps k)
marks_at f m ps a from to k each kept rises low high = elim (cases_lt k a) [
  | inl before ↦ rw (lt-ltb k a before) (either (is_between from to k) (f (Some Acked)) (Some Acked) kept)
  | inr on ↦ rw (le-ltb k a on) (mark_in-marked f m ps a from to k each rises low high on)
]

-- the fields after a span was acknowledged: qs are the pieces with its marks, and rs those that stay
pub record Releases (a from to : ℕ) (ss : List Segment) (ps : List Piece) (b : ℕ) (ts : List Segment) (qs rs : List Piece) : Type 0 where
  pub marks : qs ≡ map (mark_between Acked from to) ps
  pub start : b ≡ acked_to a qs
  pub pieces : rs ≡ unacked_pieces qs
  pub segments : ts ≡ segments_behind b ss

-- the facts of the pieces that stay
pub record Stays (a e : ℕ) (ps : List Piece) (b : ℕ) (rs : List Piece) : Type 0 where
  pub low : a ≤ b
  pub high : b ≤ e
  pub rises : Rises piece_end b rs
  pub end_is : pieces_end b rs ≡ pieces_end a ps

pub what_stays : (a from to e i b : ℕ) (ss ts : List Segment) (ps qs rs : List Piece) → Keeps a e ss ps i → Releases a from to ss ps b ts qs rs → Stays a e ps b rs
what_stays a from to e i b ss ts ps qs rs keeps new =
    let marked = rises-marked Acked from to a ps keeps.rises in
    let up : Rises piece_end a qs = rw new.marks marked in
    let rises : Rises piece_end b rs = rw (new.pieces, new.start) (rises-unacked qs a up) in
    let end_is : pieces_end b rs ≡ pieces_end a ps = rw (new.pieces, new.start) (pieces_end-unacked qs a ∙ ap (pieces_end a) new.marks ∙ pieces_end-marked Acked from to a ps) in
    let low : a ≤ b = rw new.start (acked_rises qs a up) in
    let within = end_rises rs b rises in
    record { low = low; high = omega (arith, keeps.within); rises = rises; end_is = end_is }

pub keeps_released : (a from to e i j b : ℕ) (ss ts : List Segment) (ps qs rs : List Piece) → Keeps a e ss ps i → Releases a from to ss ps b ts qs rs → j ≡ first_queued rs → Keeps b e ts rs j
keeps_released a from to e i j b ss ts ps qs rs keeps new next =
    let stays = what_stays a from to e i b ss ts ps qs rs keeps new in
    record {
      joined = rw new.segments (joined-behind ss a b e keeps.joined stays.low stays.high);
      rises = stays.rises;
      is_first_owed = rw new.pieces (is_first_acked-unacked qs);
      within = omega (arith, keeps.within, stays.end_is);
      small = keeps.small;
      is_next = next;
    }

-- where to look for the next queued piece
pub next_released : (i : ℕ) (from to : ℕ) (ps qs rs : List Piece) → i ≡ first_queued ps → qs ≡ map (mark_between Acked from to) ps → rs ≡ unacked_pieces qs → i - (length ps - length rs) ≤ first_queued rs
next_released i from to ps qs rs is marks pieces =
    let low : first_queued ps ≤ first_queued qs = rw marks (first_queued-acked from to ps) in
    let gone : first_queued qs + length rs ≡ first_queued rs + length qs = rw pieces (first_queued-unacked qs) in
    let same : length qs ≡ length ps = ap length marks ∙ length-map ps (mark_between Acked from to) in
    omega arith

pub fewer_unacked : (ps : List Piece) → length (unacked_pieces ps) ≤ length ps
fewer_unacked [] = omega arith
fewer_unacked (p ∷ ps) = elim (cases_Bool (is_acked_mark (Some p.mark))) [
  | inl t ↦ let rest = fewer_unacked ps in rw t (omega arith)
  | inr t ↦ rw t (omega arith)
]

slice_get-drop : (n : ℕ) (xs : List ℕ) (i : ℕ) → slice_get (drop n xs) i ≡ slice_get xs (n + i)
slice_get-drop zero xs i = ap (slice_get xs) (omega arith)
slice_get-drop (suc n) [] i = refl
slice_get-drop (suc n) (x ∷ xs) i =
    let next : suc (n + i) ≡ suc n + i = omega arith in
    slice_get-drop n xs i ∙ ap (slice_get (x ∷ xs)) next

-- a byte that is still held
pub byte_kept : (xs ys : List ℕ) (a b k : ℕ) → ys ≡ drop (b - a) xs → a ≤ b → b ≤ k
    → cond (nat_lt k b) None (slice_get ys (k - b)) ≡ cond (nat_lt k a) None (slice_get xs (k - a))
byte_kept xs ys a b k is low on =
    let at : b - a + (k - b) ≡ k - a = omega arith in
    rw (le-ltb k b on, le-ltb k a (omega arith), is) (slice_get-drop (b - a) xs (k - b) ∙ ap (slice_get xs) at)

pub is_acknowledged : (a from to e i b : ℕ) (ss ts : List Segment) (ps qs rs : List Piece) → Keeps a e ss ps i → Releases a from to ss ps b ts qs rs
    → IsSpan (record { start = a; bytes = held a ss; pieces = ps }) from to
    → IsAcknowledged (record { start = a; bytes = held a ss; pieces = ps }) (record { start = b; bytes = held b ts; pieces = rs }) from to
is_acknowledged a from to e i b ss ts ps qs rs keeps new span =
    let stays = what_stays a from to e i b ss ts ps qs rs keeps new in
    let later : Keeps b e ts rs (first_queued rs) = keeps_released a from to e i (first_queued rs) b ss ts ps qs rs keeps new refl in
    let marked = rises-marked Acked from to a ps keeps.rises in
    let up : Rises piece_end a qs = rw new.marks marked in
    let bytes : held b ts ≡ drop (b - a) (held a ss) = rw new.segments (held-behind ss a b e keeps.joined stays.low stays.high) in
    record {
      marks = λ k.
          let same : mark_from b rs k ≡ mark_from a qs k = rw (new.pieces, new.start) (mark_from-unacked qs a k up) in
          same ∙ ap (λ (xs : List Piece). mark_from a xs k) new.marks
          ∙ marks_at (λ _. Some Acked) Acked ps a from to k acked_each refl keeps.rises span.is_cut_from span.is_cut_to;
      freed = first_unacked rs b stays.rises later.is_first_owed;
      rises = stays.low;
      bytes_are = λ k on. byte_kept (held a ss) (held b ts) a b k bytes stays.low on;
      taken_is = length-held ts b e later.joined ∙ sym (length-held ss a e keeps.joined);
      sent_is = stays.end_is;
      cuts = λ k h. rw (new.pieces, new.start) (cut-unacked qs a k up (rw new.marks (cut-marked Acked from to a k ps h)));
    }

-- the fields after a span was lost
pub keeps_requeued : (a from to e i j : ℕ) (ss : List Segment) (ps qs : List Piece) → Keeps a e ss ps i → qs ≡ map (mark_between Queued from to) ps → j ≡ first_queued qs → Keeps a e ss qs j
keeps_requeued a from to e i j ss ps qs keeps marks next =
    let end_is = pieces_end-marked Queued from to a ps in
    record {
      joined = keeps.joined;
      rises = rw marks (rises-marked Queued from to a ps keeps.rises);
      is_first_owed = rw marks (is_first_acked-requeued from to ps keeps.is_first_owed);
      within = rw marks (omega (arith, keeps.within));
      small = keeps.small;
      is_next = next;
    }

pub is_queued_again : (a from to : ℕ) (bytes : List ℕ) (ps qs : List Piece) → Rises piece_end a ps → qs ≡ map (mark_between Queued from to) ps
    → IsSpan (record { start = a; bytes = bytes; pieces = ps }) from to
    → IsQueuedAgain (record { start = a; bytes = bytes; pieces = ps }) (record { start = a; bytes = bytes; pieces = qs }) from to
is_queued_again a from to bytes ps qs rises marks span = record {
  marks = λ k. rw marks (marks_at requeued Queued ps a from to k requeued_each refl rises span.is_cut_from span.is_cut_to);
  start_is = refl;
  bytes_are = refl;
  cuts = λ k h. rw marks (cut-marked Queued from to a k ps h);
}

-- where a span is acknowledged nothing changes
acked_stays : (o : Option Mark) → is_acked_mark o ≡ true → o ≡ requeued o
acked_stays None h = cc
acked_stays (Some Sent) h = cc
acked_stays (Some Queued) h = cc
acked_stays (Some Acked) h = refl

pub nothing_queued_again : (a from to : ℕ) (bytes : List ℕ) (ps : List Piece) → ((k : ℕ) → from ≤ k → k < to → is_acked_mark (mark_from a ps k) ≡ true)
    → IsQueuedAgain (record { start = a; bytes = bytes; pieces = ps }) (record { start = a; bytes = bytes; pieces = ps }) from to
nothing_queued_again a from to bytes ps acked = record {
  marks = λ k. elim (cases_Bool (is_between from to k)) [
    | inl t ↦
        let ends = and_parts (nat_le from k) (nat_lt k to) t in
        rw t (acked_stays (mark_from a ps k) (acked k (leb-true from k ends.0) (ltb-true k to ends.1)))
    | inr t ↦ rw t
  ];
  start_is = refl;
  bytes_are = refl;
  cuts = λ k h. h;
}
