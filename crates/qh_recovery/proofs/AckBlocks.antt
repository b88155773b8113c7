-- The ranges as an ACK frame has them.
use Rattle.std.proofs.Common.{◌≡◌, ◌⊎◌, ℕ, suc, ◌+◌, ◌-◌, ◌*◌, ◌/◌, ◌<◌, ◌≤◌, ◌^◌, true, List, [], ◌∷◌, ◌++◌, length, take, drop, set, slice_get, MatchOption, Some, refl, sym, ap, ◌∙◌, subst, arith, inl, inr, length-append}
use Rattle.std.specs.Prelude.{◌↔◌}
use Rattle.std.proofs.lemmas.List.{take_more_set}
use Rattle.std.proofs.lemmas.Option.{slice_get_within, get_or_from_slice_get}
use Rattle.std.proofs.Math.Seq.{drop-cons}
use Rattle.std.proofs.lemmas.Bool.{lt-ltb, or_cases, or_left, or_right, false_from_ne_true}
use Rattle.qh_spec.specs.QuicFrames.{Number, Ranges, shape_of}
use Rattle.qh_spec.specs.Varint.{varint}
use Rattle.qh_frame.specs.AckWritten.{AreBelow, AreApart, IsInOne, gaps, ack_frame}
use Rattle.qh_frame.specs.FrameBytes.{numbers_bytes, frame_bytes, IsPut}
use Rattle.qh_frame.specs.declared.ack.AckRange.{AckRange}
use Rattle.qh_frame.proofs.AcksWritten.{ack_covers}
use Rattle.qh_frame.proofs.FramesWritten.{varint_short}
use Rattle.qh_buffers.specs.Ranges.{PlainRange, is_in, has, start_behind, IsGreatest, range_at}
use Rattle.qh_buffers.specs.Ranges.{AreApart as AreApartRanges}
use Rattle.qh_buffers.proofs.RangeLaws.{inside, some_at}
use Rattle.qh_buffers.proofs.RangeCounts.{in_start, in_end}
use Rattle.qh_recovery.specs.PendingAcks.{AreAcked, IsAckPut, AreFew, ack_range, ack_ranges}

-- the least number of the last range, or what they are below
least_behind : ℕ → List AckRange → ℕ
least_behind above [] = above
least_behind above (a ∷ more) = least_behind a.least more

below_join : (above : ℕ) (more : List AckRange) (a : AckRange) → AreBelow above more → a.least ≤ a.greatest → a.greatest + 2 ≤ least_behind above more → AreBelow above (more ++ a ∷ [])
unfolding least_behind
below_join above [] a below order high = (order, high, tt)
below_join above (b ∷ more) a below order high = (below.0, below.1, below_join b.least more a below.2 order high)

least_join : (above : ℕ) (more : List AckRange) (a : AckRange) → least_behind above (more ++ a ∷ []) ≡ a.least
unfolding least_behind
least_join above [] a = refl
least_join above (b ∷ more) a = least_join b.least more a

-- they stand in order, the greatest first
blocks_below : (rs : List PlainRange) (low above : ℕ) → AreApartRanges low rs → start_behind low rs ≤ above → AreBelow above (ack_ranges rs) × (low ≤ least_behind above (ack_ranges rs))
unfolding least_behind
blocks_below [] low above apart high = (tt, high)
blocks_below (r ∷ rs) low above apart high =
    let later = blocks_below rs (r.end + 1) above apart.2 high in
    let below : AreBelow above (ack_ranges rs) = later.0 in
    let least : r.end + 1 ≤ least_behind above (ack_ranges rs) = later.1 in
    let some : r.start < r.end = apart.1 in
    let from : low ≤ r.start = apart.0 in (
      below_join above (ack_ranges rs) (ack_range r) below (omega (arith, some)) (omega (arith, some, least)),
      omega (arith, from, least_join above (ack_ranges rs) (ack_range r)),
    )

ends_below : (rs : List PlainRange) (low top : ℕ) → AreApartRanges low rs → ((k : ℕ) → has rs k ≡ true → k < top) → low ≤ top + 1 → start_behind low rs ≤ top + 1
ends_below [] low top apart below h = h
ends_below (r ∷ rs) low top apart below h =
    let last = below (r.end - 1) (or_left (is_in r (r.end - 1)) (has rs (r.end - 1)) (inside r (r.end - 1) (omega (arith, apart.1)) (omega (arith, apart.1)))) in
    ends_below rs (r.end + 1) top apart.2 (λ k q. below k (or_right (is_in r k) (has rs k) q)) (omega (arith, last))

blocks_length : (rs : List PlainRange) → length (ack_ranges rs) ≡ length rs
blocks_length [] = refl
blocks_length (r ∷ rs) = omega (arith, blocks_length rs, length-append (ack_ranges rs) (ack_range r ∷ []))

apart_of : (blocks : List AckRange) → 0 < length blocks → AreBelow (2 ^ 62 + 1) blocks → AreApart blocks
apart_of [] some below = absurd (omega arith)
apart_of (a ∷ more) some below = let high = below.1 in (below.0, omega (arith, high), below.2)

pub blocks_apart : (rs : List PlainRange) → AreApartRanges 0 rs → AreFew rs → 0 < length rs → AreApart (ack_ranges rs)
blocks_apart rs apart few some =
    apart_of (ack_ranges rs) (omega (arith, blocks_length rs)) (blocks_below rs 0 (2 ^ 62 + 1) apart (ends_below rs 0 (2 ^ 62) apart few.below (omega arith))).0

-- they have the same numbers
in_both : (xs : List AckRange) (a : AckRange) (n : ℕ) → IsInOne (xs ++ a ∷ []) n ↔ (IsInOne xs n ⊎ ((a.least ≤ n) × (n ≤ a.greatest)))
in_both [] a n = (λ h. elim h [ inl here ↦ inr here | inr none ↦ absurd none ], λ h. elim h [ inl none ↦ absurd none | inr here ↦ inl here ])
in_both (x ∷ xs) a n =
    let rest = in_both xs a n in (
      λ h. elim h [ inl here ↦ inl (inl here) | inr later ↦ elim (rest.0 later) [ inl q ↦ inl (inr q) | inr q ↦ inr q ] ],
      λ h. elim h [ inl front ↦ elim front [ inl here ↦ inl here | inr q ↦ inr (rest.1 (inl q)) ] | inr q ↦ inr (rest.1 (inr q)) ],
    )

blocks_have : (rs : List PlainRange) (low n : ℕ) → AreApartRanges low rs → IsInOne (ack_ranges rs) n ↔ (has rs n ≡ true)
blocks_have [] low n apart = (λ h. absurd h, λ h. cc)
blocks_have (r ∷ rs) low n apart =
    let rest = blocks_have rs (r.end + 1) n apart.2 in
    let split = in_both (ack_ranges rs) (ack_range r) n in
    let some : r.start < r.end = apart.1 in (
      λ h. elim (split.0 h) [
        | inl q ↦ or_right (is_in r n) (has rs n) (rest.0 q)
        | inr q ↦ or_left (is_in r n) (has rs n) (inside r n q.0 (let high = q.1 in omega (arith, high, some)))
      ],
      λ h. elim (or_cases (is_in r n) (has rs n) h) [
        | inl here ↦ split.1 (inr (in_start r n here, omega (arith, in_end r n here)))
        | inr q ↦ split.1 (inl (rest.1 q))
      ],
    )

in_below : (above : ℕ) (blocks : List AckRange) (n : ℕ) → AreBelow above blocks → IsInOne blocks n → n + 2 ≤ above
in_below above [] n below none = absurd none
in_below above (a ∷ more) n below (inl here) = let high = below.1 in omega (arith, high, here.1)
in_below above (a ∷ more) n below (inr later) =
    let order = below.0 in
    let high = below.1 in
    omega (arith, order, high, in_below a.least more n below.2 later)

first_greatest : (numbers : List PlainRange) (blocks : List AckRange) → AreApart blocks → ((n : ℕ) → IsInOne blocks n ↔ (has numbers n ≡ true)) → MatchOption (slice_get blocks 0) ⊥ (λ a. IsGreatest numbers a.greatest)
first_greatest numbers [] apart same = absurd apart
first_greatest numbers (a ∷ more) apart same =
    let order : a.least ≤ a.greatest = apart.0 in
    record {
      is_there = (same a.greatest).0 (inl (order, omega arith));
      is_last = λ j past. false_from_ne_true (has numbers j) (λ h. elim ((same j).1 h) [
        | inl here ↦ omega (arith, here.1)
        | inr later ↦ omega (arith, order, in_below a.least more j apart.2 later)
      ]);
    }

pub blocks_acked : (rs : List PlainRange) → AreApartRanges 0 rs → AreFew rs → 0 < length rs → AreAcked rs (ack_ranges rs)
blocks_acked rs apart few some = record {
  apart = blocks_apart rs apart few some;
  numbers_are = λ n. blocks_have rs 0 n apart;
  greatest_first = first_greatest rs (ack_ranges rs) (blocks_apart rs apart few some) (λ n. blocks_have rs 0 n apart);
}

-- how long the frame is
varint_one : (n : ℕ) → n < 64 → length (varint n) ≡ 1
unfolding varint
varint_one n h = rw (lt-ltb n (2 ^ 6) h)

gaps_length : (above : ℕ) (blocks : List AckRange) → length (gaps above blocks) ≡ 2 * length blocks
gaps_length above [] = refl
gaps_length above (a ∷ more) = let l = gaps_length a.least more in omega (arith, l)

numbers_size : (ns : List ℕ) → length (numbers_bytes ns) ≤ 8 * length ns
numbers_size [] = omega arith
numbers_size (n ∷ ns) = let l = numbers_size ns in omega (arith, l, varint_short n, length-append (varint n) (numbers_bytes ns))

ack_shape : shape_of 2 ≡ Some (Number ∷ Number ∷ Ranges ∷ [])
unfolding shape_of
ack_shape = refl

frame_size : (a : AckRange) (more : List AckRange) → length more ≤ 31 → length (frame_bytes (ack_frame 0 (a ∷ more))) ≤ 515
unfolding frame_bytes
frame_size a more h =
    let ns : List ℕ = gaps a.least more in
    let f : ℕ = a.greatest - a.least in
    let len : length ns ≡ 2 * length more = gaps_length a.least more in
    let m : ℕ = length (f ∷ ns) / 2 in
    rw ack_shape
    (omega (
      arith,
      len,
      numbers_size ns,
      varint_one 2 (omega arith),
      varint_one 0 (omega arith),
      varint_one m (omega (arith, len)),
      varint_short a.greatest,
      varint_short f,
      length-append (varint 2) (varint a.greatest ++ (varint 0 ++ ((varint m ++ (varint f ++ numbers_bytes ns)) ++ []))),
      length-append (varint a.greatest) (varint 0 ++ ((varint m ++ (varint f ++ numbers_bytes ns)) ++ [])),
      length-append (varint 0) ((varint m ++ (varint f ++ numbers_bytes ns)) ++ []),
      length-append (varint m ++ (varint f ++ numbers_bytes ns)) [],
      length-append (varint m) (varint f ++ numbers_bytes ns),
      length-append (varint f) (numbers_bytes ns),
    ))

short_put : (blocks : List AckRange) (old new : List ℕ) (most : ℕ) → AreApart blocks → length blocks ≤ 32 → IsPut old new (ack_frame 0 blocks) most → IsPut old new (ack_frame 0 blocks) 515
short_put [] old new most apart few put = absurd apart
short_put (a ∷ more) old new most apart few put = record { whole = put.whole; is = put.is; size = frame_size a more (omega arith) }

pub put_is : (rs : List PlainRange) (blocks : List AckRange) (old new : List ℕ) (most : ℕ) → AreApartRanges 0 rs → AreFew rs → 0 < length rs → blocks ≡ ack_ranges rs → IsPut old new (ack_frame 0 blocks) most → IsAckPut rs old new
put_is rs blocks old new most apart few some same put = record {
  ranges = ack_ranges rs;
  are_acked = blocks_acked rs apart few some;
  covers = λ n.
      let cover = ack_covers 0 n (ack_ranges rs) (blocks_apart rs apart few some) in
      let have = blocks_have rs 0 n apart in
      (λ h. have.0 (cover.0 h), λ h. cover.1 (have.1 h));
  is_put =
      short_put (ack_ranges rs) old new most (blocks_apart rs apart few some) (omega (arith, blocks_length rs, few.few))
      (subst (λ (bs : List AckRange). IsPut old new (ack_frame 0 bs) most) same put);
}

-- one more range is written
pub block_step : (rs : List PlainRange) (blocks : List AckRange) (a : AckRange) (i n : ℕ) → n ≡ length rs → i < n → i < length blocks → a ≡ ack_range (range_at rs (n - 1 - i)) → take i blocks ≡ ack_ranges (drop (n - i) rs)
    → take (i + 1) (set blocks i a) ≡ ack_ranges (drop (n - (i + 1)) rs)
block_step rs blocks a i n count within room is before =
    let j : ℕ = n - (i + 1) in
    let here : n - 1 - i ≡ j = omega arith in
    let next : suc j ≡ n - i = omega arith in
    let split : drop j rs ≡ range_at rs j ∷ drop (n - i) rs = drop-cons rs j (record { start = 0; end = 0 }) (omega arith) ∙ ap (λ (k : ℕ). range_at rs j ∷ drop k rs) next in
    take_more_set blocks i a room
    ∙ ap (λ (more : List AckRange). more ++ a ∷ []) before
    ∙ ap (λ (b : AckRange). ack_ranges (drop (n - i) rs) ++ b ∷ []) (is ∙ ap (λ (k : ℕ). ack_range (range_at rs k)) here)
    ∙ sym (ap ack_ranges split)

pub block_at_is : (rs : List PlainRange) (r : PlainRange) (i : ℕ) → AreApartRanges 0 rs → slice_get rs i ≡ Some r → (range_at rs i ≡ r) × (1 ≤ r.end)
block_at_is rs r i apart at =
    let is : range_at rs i ≡ r = get_or_from_slice_get rs i r (record { start = 0; end = 0 }) at in
    let some = (some_at rs i 0 apart (slice_get_within rs i r at)).1 in
    let low : (range_at rs i).start < (range_at rs i).end = some in
    (is, subst (λ (p : PlainRange). 1 ≤ p.end) is (omega (arith, low)))
