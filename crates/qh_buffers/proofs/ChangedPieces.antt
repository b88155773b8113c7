-- What is left where pieces are let go, where one joins, and where one is sent again.
use Rattle.std.proofs.Common.{◌≡◌, ℕ, ◌+◌, ◌<◌, ◌≤◌, Bool, true, false, cond, List, [], ◌∷◌, ◌++◌, length, map, take, get_or, refl, sym, ap, ◌∙◌, arith, inl, inr, Option, Some, nat_lt}
use Prim.Native.Nat.{zero, suc}
use Rattle.std.proofs.lemmas.Bool.{cases_lt, cases_Bool, le-ltb, lt-ltb}
use Rattle.qh_spec.specs.Lists.{In}
use Rattle.qh_buffers.specs.declared.send_buffer.Mark.{Mark}
use Rattle.qh_buffers.specs.declared.send_buffer.Mark.TheVariants.{Sent, Queued, Acked}
use Rattle.qh_buffers.specs.declared.send_buffer.Piece.{Piece}
use Rattle.qh_buffers.specs.SendBuffer.{pieces_end, mark_in, is_acked_mark, is_between}
use Rattle.qh_buffers.specs.SendState.{Rises, piece_end, is_queued_mark, first_queued, is_first_acked, unacked_pieces, acked_to, sent_again}
use Rattle.qh_buffers.proofs.Pieces.{Cut, mark_from, end_rises, take_rises, cut_later, between_true, between_low, between_high}

-- pieces that are let go
acked_mark : (x : Mark) → is_acked_mark (Some x) ≡ true → x ≡ Acked
acked_mark Sent h = cc
acked_mark Queued h = cc
acked_mark Acked h = refl

same_acked : (b : Bool) (o : Option Mark) → o ≡ Some Acked → cond b (Some Acked) o ≡ Some Acked
same_acked true o h = refl
same_acked false o h = h

skip_acked : (p : Piece) (ps : List Piece) (a k : ℕ) → Rises piece_end a (p ∷ ps) → is_acked_mark (Some p.mark) ≡ true → mark_from p.end ps k ≡ mark_from a (p ∷ ps) k
skip_acked p ps a k rises t = elim (cases_lt k p.end) [
  | inl first ↦
      rw (lt-ltb k p.end first) (sym (same_acked (nat_lt k a) (Some p.mark) (ap (λ (x : Mark). Some x) (acked_mark p.mark t))))
  | inr later ↦ rw (le-ltb k p.end later, le-ltb k a (omega (arith, rises.0)))
]

pub mark_from-unacked : (ps : List Piece) (a k : ℕ) → Rises piece_end a ps → mark_from (acked_to a ps) (unacked_pieces ps) k ≡ mark_from a ps k
mark_from-unacked [] a k rises = refl
mark_from-unacked (p ∷ ps) a k rises = elim (cases_Bool (is_acked_mark (Some p.mark))) [
  | inl t ↦ rw t (mark_from-unacked ps p.end k rises.1 ∙ skip_acked p ps a k rises t)
  | inr t ↦ rw t
]

pub acked_rises : (ps : List Piece) (a : ℕ) → Rises piece_end a ps → a ≤ acked_to a ps
acked_rises [] a rises = omega arith
acked_rises (p ∷ ps) a rises = elim (cases_Bool (is_acked_mark (Some p.mark))) [
  | inl t ↦ let rest = acked_rises ps p.end rises.1 in rw t (omega (arith, rises.0))
  | inr t ↦ rw t (omega arith)
]

pub rises-unacked : (ps : List Piece) (a : ℕ) → Rises piece_end a ps → Rises piece_end (acked_to a ps) (unacked_pieces ps)
rises-unacked [] a rises = tt
rises-unacked (p ∷ ps) a rises = elim (cases_Bool (is_acked_mark (Some p.mark))) [
  | inl t ↦ rw t (rises-unacked ps p.end rises.1)
  | inr t ↦ rw t rises
]

pub pieces_end-unacked : (ps : List Piece) (a : ℕ) → pieces_end (acked_to a ps) (unacked_pieces ps) ≡ pieces_end a ps
pieces_end-unacked [] a = refl
pieces_end-unacked (p ∷ ps) a = elim (cases_Bool (is_acked_mark (Some p.mark))) [
  | inl t ↦ rw t (pieces_end-unacked ps p.end)
  | inr t ↦ rw t
]

pub cut-unacked : (ps : List Piece) (a k : ℕ) → Rises piece_end a ps → Cut a ps k → Cut (acked_to a ps) (unacked_pieces ps) k
cut-unacked [] a k rises h = h
cut-unacked (p ∷ ps) a k rises h = elim (cases_Bool (is_acked_mark (Some p.mark))) [
  | inl t ↦ rw t (cut-unacked ps p.end k rises.1 (cut_later p ps a k rises.0 h))
  | inr t ↦ rw t h
]

pub is_first_acked-unacked : (ps : List Piece) → is_first_acked (unacked_pieces ps) ≡ false
is_first_acked-unacked [] = refl
is_first_acked-unacked (p ∷ ps) = elim (cases_Bool (is_acked_mark (Some p.mark))) [
  | inl t ↦ rw t (is_first_acked-unacked ps)
  | inr t ↦ rw t t
]

-- what is let go isn't queued
acked_not_queued : (x : Mark) → is_acked_mark (Some x) ≡ true → is_queued_mark x ≡ false
acked_not_queued Sent h = cc
acked_not_queued Queued h = cc
acked_not_queued Acked h = refl

pub first_queued-unacked : (ps : List Piece) → first_queued ps + length (unacked_pieces ps) ≡ first_queued (unacked_pieces ps) + length ps
first_queued-unacked [] = refl
first_queued-unacked (p ∷ ps) = elim (cases_Bool (is_acked_mark (Some p.mark))) [
  | inl t ↦ let rest = first_queued-unacked ps in rw (t, acked_not_queued p.mark t) (omega arith)
  | inr t ↦ rw t
]

-- the byte at which the pieces begin isn't acknowledged, where the first piece isn't
pub first_unacked : (ps : List Piece) (a : ℕ) → Rises piece_end a ps → is_first_acked ps ≡ false → is_acked_mark (mark_from a ps a) ≡ false
first_unacked [] a rises h = rw (le-ltb a a (omega arith))
first_unacked (p ∷ ps) a rises h = rw (le-ltb a a (omega arith), lt-ltb a p.end rises.0) h

-- a piece that joins at the end
pub rises-push : (ps : List Piece) (x : Piece) (a : ℕ) → Rises piece_end a ps → pieces_end a ps < x.end → Rises piece_end a (ps ++ x ∷ [])
rises-push [] x a rises h = (h, tt)
rises-push (p ∷ ps) x a rises h = (rises.0, rises-push ps x p.end rises.1 h)

pub pieces_end-push : (ps : List Piece) (x : Piece) (a : ℕ) → pieces_end a (ps ++ x ∷ []) ≡ x.end
pieces_end-push [] x a = refl
pieces_end-push (p ∷ ps) x a = pieces_end-push ps x p.end

pub mark_in-push : (ps : List Piece) (x : Piece) (a k : ℕ) → Rises piece_end a ps → a ≤ k
    → mark_in (ps ++ x ∷ []) k ≡ cond (is_between (pieces_end a ps) x.end k) (Some x.mark) (mark_in ps k)
mark_in-push [] x a k rises above = elim (cases_lt k x.end) [
  | inl first ↦ rw (between_true a x.end k above first, lt-ltb k x.end first)
  | inr later ↦ rw (between_high a x.end k later, le-ltb k x.end later)
]
mark_in-push (p ∷ ps) x a k rises above = elim (cases_lt k p.end) [
  | inl first ↦
      let low = end_rises ps p.end rises.1 in
      rw (lt-ltb k p.end first, between_low (pieces_end p.end ps) x.end k (omega arith))
  | inr later ↦ rw (le-ltb k p.end later) (mark_in-push ps x p.end k rises.1 later)
]

in-append : (k : ℕ) (ps qs : List Piece) → In k (map (λ (p : Piece). p.end) ps) → In k (map (λ (p : Piece). p.end) (ps ++ qs))
in-append k [] qs h = absurd h
in-append k (p ∷ ps) qs h = elim h [ inl same ↦ inl same | inr later ↦ inr (in-append k ps qs later) ]

pub cut-push : (ps : List Piece) (x : Piece) (a k : ℕ) → Cut a ps k → Cut a (ps ++ x ∷ []) k
cut-push ps x a k h = elim h [ inl low ↦ inl low | inr at ↦ inr (in-append k ps (x ∷ []) at) ]

pub in_at_push : (ps : List Piece) (x : Piece) → In x.end (map (λ (p : Piece). p.end) (ps ++ x ∷ []))
in_at_push [] x = inl refl
in_at_push (p ∷ ps) x = inr (in_at_push ps x)

pub first_queued-push : (ps : List Piece) (end : ℕ) → first_queued ps ≡ length ps → first_queued (ps ++ record { end = end; mark = Sent } ∷ []) ≡ length ps + 1
first_queued-push [] end h = refl
first_queued-push (p ∷ ps) end h = elim (cases_Bool (is_queued_mark p.mark)) [
  | inl t ↦ let e = rw t at h in absurd (omega arith)
  | inr t ↦
      let e : suc (first_queued ps) ≡ suc (length ps) = rw t at h in
      let rest = first_queued-push ps end (omega arith) in
      rw t (omega arith)
]

pub is_first_acked-push : (ps : List Piece) (end : ℕ) → is_first_acked ps ≡ false → is_first_acked (ps ++ record { end = end; mark = Sent } ∷ []) ≡ false
is_first_acked-push [] end h = refl
is_first_acked-push (p ∷ ps) end h = h

-- a piece that is sent again
pub mark_in-sent_again : (ps : List Piece) (a to i k : ℕ) (d : Piece) → Rises piece_end a ps → i < length ps
    → pieces_end a (take i ps) < to → to ≤ (get_or ps i d).end → a ≤ k
    → mark_in (sent_again to i ps) k ≡ cond (is_between (pieces_end a (take i ps)) to k) (Some Sent) (mark_in ps k)
mark_in-sent_again [] a to i k d rises some low high above = absurd (omega arith)
mark_in-sent_again (p ∷ ps) a to zero k d rises some low high above = elim (cases_lt to p.end) [
  | inl part ↦ elim (cases_lt k to) [
    | inl first ↦ rw (lt-ltb to p.end part, between_true a to k above first, lt-ltb k to first)
    | inr later ↦ rw (lt-ltb to p.end part, between_high a to k later, le-ltb k to later)
  ]
  | inr whole ↦
      let same : to ≡ p.end = omega arith in
      elim (cases_lt k p.end) [
        | inl first ↦ rw (le-ltb to p.end whole, lt-ltb k p.end first, between_true a to k above (omega arith))
        | inr later ↦ rw (le-ltb to p.end whole, le-ltb k p.end later, between_high a to k (omega arith))
      ]
]
mark_in-sent_again (p ∷ ps) a to (suc i) k d rises some low high above = elim (cases_lt k p.end) [
  | inl first ↦
      let begin = take_rises ps p.end i rises.1 in
      rw (lt-ltb k p.end first, between_low (pieces_end p.end (take i ps)) to k (omega arith))
  | inr later ↦ rw (le-ltb k p.end later) (mark_in-sent_again ps p.end to i k d rises.1 (omega arith) low high later)
]

pub rises-sent_again : (ps : List Piece) (a to i : ℕ) → Rises piece_end a ps → pieces_end a (take i ps) < to → Rises piece_end a (sent_again to i ps)
rises-sent_again [] a to i rises low = tt
rises-sent_again (p ∷ ps) a to zero rises low = elim (cases_lt to p.end) [
  | inl part ↦ rw (lt-ltb to p.end part) (low, (part, rises.1))
  | inr whole ↦ rw (le-ltb to p.end whole) rises
]
rises-sent_again (p ∷ ps) a to (suc i) rises low = (rises.0, rises-sent_again ps p.end to i rises.1 low)

pub pieces_end-sent_again : (ps : List Piece) (a to i : ℕ) → pieces_end a (sent_again to i ps) ≡ pieces_end a ps
pieces_end-sent_again [] a to i = refl
pieces_end-sent_again (p ∷ ps) a to zero = elim (cases_Bool (nat_lt to p.end)) [ inl t ↦ rw t | inr t ↦ rw t ]
pieces_end-sent_again (p ∷ ps) a to (suc i) = pieces_end-sent_again ps p.end to i

in-sent_again : (k : ℕ) (ps : List Piece) (to i : ℕ) → In k (map (λ (p : Piece). p.end) ps) → In k (map (λ (p : Piece). p.end) (sent_again to i ps))
in-sent_again k [] to i h = h
in-sent_again k (p ∷ ps) to zero h = elim (cases_Bool (nat_lt to p.end)) [ inl t ↦ rw t (inr h) | inr t ↦ rw t h ]
in-sent_again k (p ∷ ps) to (suc i) h = elim h [ inl same ↦ inl same | inr later ↦ inr (in-sent_again k ps to i later) ]

pub cut-sent_again : (ps : List Piece) (a to i k : ℕ) → Cut a ps k → Cut a (sent_again to i ps) k
cut-sent_again ps a to i k h = elim h [ inl low ↦ inl low | inr at ↦ inr (in-sent_again k ps to i at) ]

pub in_at_sent_again : (ps : List Piece) (to i : ℕ) (d : Piece) → i < length ps → to ≤ (get_or ps i d).end → In to (map (λ (p : Piece). p.end) (sent_again to i ps))
in_at_sent_again [] to i d some high = absurd (omega arith)
in_at_sent_again (p ∷ ps) to zero d some high = elim (cases_lt to p.end) [
  | inl part ↦ rw (lt-ltb to p.end part) (inl refl)
  | inr whole ↦ rw (le-ltb to p.end whole) (inl (omega arith))
]
in_at_sent_again (p ∷ ps) to (suc i) d some high = inr (in_at_sent_again ps to i d (omega arith) high)

pub first_queued-sent_again : (ps : List Piece) (to i : ℕ) → i ≤ first_queued ps → i < length ps → i + 1 ≤ first_queued (sent_again to i ps)
first_queued-sent_again [] to i low some = absurd (omega arith)
first_queued-sent_again (p ∷ ps) to zero low some = elim (cases_Bool (nat_lt to p.end)) [ inl t ↦ rw t (omega arith) | inr t ↦ rw t (omega arith) ]
first_queued-sent_again (p ∷ ps) to (suc i) low some = elim (cases_Bool (is_queued_mark p.mark)) [
  | inl t ↦ let e = rw t at low in absurd (omega arith)
  | inr t ↦
      let e : suc i ≤ suc (first_queued ps) = rw t at low in
      let rest = first_queued-sent_again ps to i (omega arith) (omega arith) in
      rw t (omega arith)
]

pub is_first_acked-sent_again : (ps : List Piece) (to i : ℕ) → is_first_acked ps ≡ false → is_first_acked (sent_again to i ps) ≡ false
is_first_acked-sent_again [] to i h = h
is_first_acked-sent_again (p ∷ ps) to zero h = elim (cases_Bool (nat_lt to p.end)) [ inl t ↦ rw t | inr t ↦ rw t ]
is_first_acked-sent_again (p ∷ ps) to (suc i) h = h
