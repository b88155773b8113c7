-- What waits to be sent of a stream, and what handing it out leaves.
use Rattle.std.proofs.Common.{◌≡◌, ℕ, ◌+◌, ◌-◌, ◌<◌, ◌≤◌, Bool, true, false, cond, List, [], ◌∷◌, ◌++◌, length, take, get_or, min, refl, sym, ap, ◌∙◌, arith, inl, inr, Option, Some, None, nat_lt}
use Prim.Native.Nat.{zero, suc}
use Rattle.std.specs.List.{list_any}
use Rattle.std.proofs.lemmas.Bool.{cases_lt, le-ltb, lt-ltb}
use Rattle.std.proofs.lemmas.List.{take_all}
use Rattle.qh_buffers.specs.declared.send_buffer.Mark.{Mark}
use Rattle.qh_buffers.specs.declared.send_buffer.Mark.TheVariants.{Sent, Acked}
use Rattle.qh_buffers.specs.declared.send_buffer.Piece.{Piece}
use Rattle.qh_buffers.specs.SendBuffer.{pieces_end, mark_in, is_acked_mark, waits, is_between, IsHandedOut}
use Rattle.qh_buffers.specs.SendState.{Rises, piece_end, first_queued, sent_again, is_owed}
use Rattle.qh_buffers.proofs.Pieces.{Cut, mark_from, end_rises, take_rises, begin_after, mark_later, end_is_cut, take_is_cut, between_low}
use Rattle.qh_buffers.proofs.MarkedPieces.{owed_byte, none_owed}
use Rattle.qh_buffers.proofs.QueuedPieces.{none_waits, first_is_queued}
use Rattle.qh_buffers.proofs.ChangedPieces.{mark_in-push, cut-push, in_at_push, mark_in-sent_again, cut-sent_again, in_at_sent_again}

-- the marks from the start of the pieces on, and before it
mark_on : (ps : List Piece) (a k : ℕ) → a ≤ k → mark_from a ps k ≡ mark_in ps k
mark_on ps a k h = rw (le-ltb k a h)

mark_before : (ps : List Piece) (a k : ℕ) → k < a → mark_from a ps k ≡ Some Acked
mark_before ps a k h = rw (lt-ltb k a h)

mark_past : (ps : List Piece) (a k : ℕ) → Rises piece_end a ps → pieces_end a ps ≤ k → mark_in ps k ≡ None
mark_past [] a k rises h = refl
mark_past (p ∷ ps) a k rises h =
    let low = end_rises ps p.end rises.1 in
    mark_later p ps k (omega arith) ∙ mark_past ps p.end k rises.1 h

pub new_waits : (ps : List Piece) (a k : ℕ) (t : Bool) → Rises piece_end a ps → pieces_end a ps ≤ k → waits (mark_from a ps k) t ≡ t
new_waits ps a k t rises h =
    let low = end_rises ps a rises in
    ap (λ (o : Option Mark). waits o t) (mark_on ps a k (omega arith) ∙ mark_past ps a k rises h)

-- no byte before the first queued piece waits
pub front_is_sent : (ps : List Piece) (a i k : ℕ) (t : Bool) → i ≤ first_queued ps → k < pieces_end a (take i ps) → waits (mark_from a ps k) t ≡ false
front_is_sent ps a i k t low h = elim (cases_lt k a) [
  | inl before ↦ ap (λ (o : Option Mark). waits o t) (mark_before ps a k before)
  | inr on ↦ ap (λ (o : Option Mark). waits o t) (mark_on ps a k on) ∙ none_waits ps a i k t low on h
]

pub all_is_sent : (ps : List Piece) (a k : ℕ) (t : Bool) → first_queued ps ≡ length ps → k < pieces_end a ps → waits (mark_from a ps k) t ≡ false
all_is_sent ps a k t none h =
    let whole : take (length ps) ps ≡ ps = take_all (length ps) ps (omega arith) in
    let inside : k < pieces_end a (take (length ps) ps) = rw whole h in
    front_is_sent ps a (length ps) k t (omega arith) inside

-- where all was sent and no piece is queued, no byte waits
pub nothing_waits : (ps : List Piece) (a to k : ℕ) → Rises piece_end a ps → first_queued ps ≡ length ps → to ≤ pieces_end a ps → waits (mark_from a ps k) (nat_lt k to) ≡ false
nothing_waits ps a to k rises none all = elim (cases_lt k (pieces_end a ps)) [
  | inl inside ↦ all_is_sent ps a k (nat_lt k to) none inside
  | inr past ↦ new_waits ps a k (nat_lt k to) rises past ∙ le-ltb k to (omega arith)
]

-- a piece isn't empty
pub begins_before : (ps : List Piece) (a i : ℕ) (d : Piece) → Rises piece_end a ps → i < length ps → pieces_end a (take i ps) < (get_or ps i d).end
begins_before [] a i d rises h = absurd (omega arith)
begins_before (p ∷ ps) a zero d rises h = rises.0
begins_before (p ∷ ps) a (suc i) d rises h = begins_before ps p.end i d rises.1 (omega arith)

-- each byte of the first queued piece waits
pub queued_waits : (ps : List Piece) (a k : ℕ) (t : Bool) (d : Piece) → Rises piece_end a ps → first_queued ps < length ps
    → pieces_end a (take (first_queued ps) ps) ≤ k → k < (get_or ps (first_queued ps) d).end → waits (mark_from a ps k) t ≡ true
queued_waits ps a k t d rises some low high =
    let begin = take_rises ps a (first_queued ps) rises in
    ap (λ (o : Option Mark). waits o t) (mark_on ps a k (omega arith) ∙ first_is_queued ps a k d rises some low high)

pub queued_at : (ps : List Piece) (a i k : ℕ) (t : Bool) (d : Piece) → Rises piece_end a ps → i ≡ first_queued ps → i < length ps
    → pieces_end a (take i ps) ≤ k → k < (get_or ps i d).end → waits (mark_from a ps k) t ≡ true
queued_at ps a i k t d rises is some low high =
    queued_waits ps a k t d rises (omega arith) (rw (← is) low) (rw (← is) high)

pub lost_waits : (ps : List Piece) (a to i : ℕ) → Rises piece_end a ps → i ≡ first_queued ps → i < length ps → (k : ℕ) × (waits (mark_from a ps k) (nat_lt k to) ≡ true)
lost_waits ps a to i rises is some =
    let k = pieces_end a (take i ps) in
    let d : Piece = record { end = 0; mark = Sent } in
    (k, queued_at ps a i k (nat_lt k to) d rises is some (omega arith) (begins_before ps a i d rises some))

pub rest_waits : (ps : List Piece) (a to : ℕ) → Rises piece_end a ps → pieces_end a ps < to → (k : ℕ) × (waits (mark_from a ps k) (nat_lt k to) ≡ true)
rest_waits ps a to rises left =
    let k = pieces_end a ps in
    (k, new_waits ps a k (nat_lt k to) rises (omega arith) ∙ lt-ltb k to left)

-- handing out bytes that were never sent
pub marks-push : (ps : List Piece) (a to k : ℕ) → Rises piece_end a ps
    → mark_from a (ps ++ record { end = to; mark = Sent } ∷ []) k ≡ cond (is_between (pieces_end a ps) to k) (Some Sent) (mark_from a ps k)
marks-push ps a to k rises = elim (cases_lt k a) [
  | inl before ↦
      let low = end_rises ps a rises in
      rw (between_low (pieces_end a ps) to k (omega arith)) (mark_before (ps ++ record { end = to; mark = Sent } ∷ []) a k before ∙ sym (mark_before ps a k before))
  | inr on ↦
      mark_on (ps ++ record { end = to; mark = Sent } ∷ []) a k on ∙ mark_in-push ps (record { end = to; mark = Sent }) a k rises on
      ∙ ap (λ (o : Option Mark). cond (is_between (pieces_end a ps) to k) (Some Sent) o) (sym (mark_on ps a k on))
]

pub new_is_handed_out : (ps : List Piece) (bytes : List ℕ) (a room from to : ℕ) → Rises piece_end a ps → first_queued ps ≡ length ps
    → 0 < room → from ≡ pieces_end a ps → from < a + length bytes → to ≡ from + min (a + length bytes - from) room
    → IsHandedOut (record { start = a; bytes = bytes; pieces = ps }) (record { start = a; bytes = bytes; pieces = ps ++ record { end = to; mark = Sent } ∷ [] }) room from to
new_is_handed_out ps bytes a room from to rises none some begin left end = record {
  some = omega arith;
  fits = omega arith;
  queued = λ k low high. new_waits ps a k (nat_lt k (a + length bytes)) rises (omega arith) ∙ lt-ltb k (a + length bytes) (omega arith);
  is_first = λ k h. all_is_sent ps a k (nat_lt k (a + length bytes)) none (omega arith);
  longest = elim (cases_lt (a + length bytes - from) room) [ inl all ↦ inr (inl (omega arith)) | inr part ↦ inl (omega arith) ];
  marks = λ k. rw begin (marks-push ps a to k rises);
  start_is = refl;
  bytes_are = refl;
  is_span = record {
    order = omega arith;
    is_cut_from = rw begin (cut-push ps (record { end = to; mark = Sent }) a (pieces_end a ps) (end_is_cut ps a rises));
    is_cut_to = inr (in_at_push ps (record { end = to; mark = Sent }));
  };
  cuts = λ k h. cut-push ps (record { end = to; mark = Sent }) a k h;
}

-- handing out a piece that is to be sent again
pub marks-sent_again : (ps : List Piece) (a to i k : ℕ) (d : Piece) → Rises piece_end a ps → i < length ps
    → pieces_end a (take i ps) < to → to ≤ (get_or ps i d).end
    → mark_from a (sent_again to i ps) k ≡ cond (is_between (pieces_end a (take i ps)) to k) (Some Sent) (mark_from a ps k)
marks-sent_again ps a to i k d rises some low high = elim (cases_lt k a) [
  | inl before ↦
      let begin = take_rises ps a i rises in
      rw (between_low (pieces_end a (take i ps)) to k (omega arith)) (mark_before (sent_again to i ps) a k before ∙ sym (mark_before ps a k before))
  | inr on ↦
      mark_on (sent_again to i ps) a k on ∙ mark_in-sent_again ps a to i k d rises some low high on
      ∙ ap (λ (o : Option Mark). cond (is_between (pieces_end a (take i ps)) to k) (Some Sent) o) (sym (mark_on ps a k on))
]

pub lost_is_handed_out : (ps : List Piece) (bytes : List ℕ) (a room i from to : ℕ) (x : Piece) → Rises piece_end a ps → i ≡ first_queued ps → i < length ps → x ≡ get_or ps i x
    → 0 < room → from ≡ pieces_end a (take i ps) → to ≡ from + min (x.end - from) room
    → IsHandedOut (record { start = a; bytes = bytes; pieces = ps }) (record { start = a; bytes = bytes; pieces = sent_again to i ps }) room from to
lost_is_handed_out ps bytes a room i from to x rises first some is positive begin end =
    let ends : x.end ≡ (get_or ps i x).end = ap piece_end is in
    let wide = begins_before ps a i x rises some in
    let low : pieces_end a (take i ps) < to = omega arith in
    let high : to ≤ (get_or ps i x).end = omega arith in
    record {
      some = omega arith;
      fits = omega arith;
      queued = λ k above below. queued_at ps a i k (nat_lt k (a + length bytes)) x rises first some (omega arith) (omega arith);
      is_first = λ k h. front_is_sent ps a i k (nat_lt k (a + length bytes)) (omega arith) (omega arith);
      longest = elim (cases_lt (x.end - from) room) [
        | inl all ↦
            let whole : to ≡ pieces_end a (take (suc i) ps) = omega (arith, begin_after ps a i x some) in
            inr (inr (rw whole (take_is_cut ps a (suc i) rises)))
        | inr part ↦ inl (omega arith)
      ];
      marks = λ k. rw begin (marks-sent_again ps a to i k x rises some low high);
      start_is = refl;
      bytes_are = refl;
      is_span = record {
        order = omega arith;
        is_cut_from = rw begin (cut-sent_again ps a to i (pieces_end a (take i ps)) (take_is_cut ps a i rises));
        is_cut_to = inr (in_at_sent_again ps to i x some high);
      };
      cuts = λ k h. cut-sent_again ps a to i k h;
    }

-- whether some byte of a span isn't acknowledged
pub owed_from : (ps : List Piece) (a from to : ℕ) → Rises piece_end a ps → list_any (is_owed from to) ps ≡ true
    → (k : ℕ) × (from ≤ k) × (k < to) × (is_acked_mark (mark_from a ps k) ≡ false)
owed_from ps a from to rises h =
    let w = owed_byte ps a from to rises h in
    (w.0, w.2, w.3, ap is_acked_mark (mark_on ps a w.0 w.1) ∙ w.4)

pub none_owed_from : (ps : List Piece) (a from to : ℕ) → Rises piece_end a ps → Cut a ps from → Cut a ps to → list_any (is_owed from to) ps ≡ false
    → (k : ℕ) → from ≤ k → k < to → is_acked_mark (mark_from a ps k) ≡ true
none_owed_from ps a from to rises low high h k fk kt = elim (cases_lt k a) [
  | inl before ↦ ap is_acked_mark (mark_before ps a k before)
  | inr on ↦ ap is_acked_mark (mark_on ps a k on) ∙ none_owed ps a from to k rises low high h on fk kt
]
