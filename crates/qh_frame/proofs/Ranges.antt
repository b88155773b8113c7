-- The tests of ranges tell what the definitions say.
use Rattle.std.proofs.Common.{◌≡◌, ℕ, ◌+◌, ◌-◌, ◌/◌, ◌<◌, ◌≤◌, ◌^◌, false, true, ◌==◌, nat_lt, nat_le, List, [], ◌∷◌, length, Option, Some, None, refl, arith, subst, Bool}
use Rattle.std.specs.Prelude.{◌&&◌, MatchBool, if◌then◌else◌}
use Rattle.std.proofs.lemmas.Bool.{lt-ltb, ltb-true, leb-true, le-leb}
use Rattle.qh_spec.specs.Acknowledged.{AreRanges}
use Rattle.qh_spec.specs.FrameViews.{stream_values}
use Rattle.qh_spec.specs.QuicFrame.{StreamFrame, has_bit}
use Rattle.qh_spec.specs.QuicFrames.{Value, Num, Text, Nums}
use Rattle.qh_frame.specs.Range.{IsStreamInRange, IsCryptoInRange, IsTokenInRange, IsAckInRange, IsCountInRange, IsNewIdInRange, AreInRange, stream_in_range, crypto_in_range, token_in_range, are_ranges, ack_in_range, count_in_range, new_id_in_range, in_range}

-- a test that tells whether something holds
pub record Tells (b : Bool) (P : Type 0) : Type 0 where
  pub yes : b ≡ true → P
  pub back : P → b ≡ true

lt_tells : (a b : ℕ) → Tells (nat_lt a b) (a < b)
lt_tells a b = record { yes = ltb-true a b; back = lt-ltb a b }

le_tells : (a b : ℕ) → Tells (nat_le a b) (a ≤ b)
le_tells a b = record { yes = leb-true a b; back = le-leb a b }

always : Tells true (Unit {0})
always = record { yes = λ e. tt; back = λ u. refl }

both_tell : (a b : Bool) (P Q : Type 0) → Tells a P → Tells b Q → Tells (a && b) (P × Q)
both_tell true b P Q p q = record { yes = λ e. (p.yes refl, q.yes e); back = λ h. q.back h.1 }
both_tell false b P Q p q = record { yes = λ e. cc; back = λ h. p.back h.0 }

if_tells : (c a b : Bool) (P Q : Type 0) → Tells a P → Tells b Q → Tells (if c then a else b) (MatchBool c P Q)
if_tells true a b P Q p q = p
if_tells false a b P Q p q = q

stream_tells : (s : Option StreamFrame) → Tells (stream_in_range s) (IsStreamInRange s)
stream_tells None = always
stream_tells (Some s) = lt_tells (s.offset + length s.payload) (2 ^ 62)

crypto_tells : (values : List Value) → Tells (crypto_in_range values) (IsCryptoInRange values)
crypto_tells (Num offset ∷ Text payload ∷ more) = lt_tells (offset + length payload) (2 ^ 62)
crypto_tells _ = always

token_tells : (values : List Value) → Tells (token_in_range values) (IsTokenInRange values)
token_tells (Text token ∷ more) = le_tells 1 (length token)
token_tells _ = always

count_tells : (values : List Value) → Tells (count_in_range values) (IsCountInRange values)
count_tells (Num count ∷ more) = le_tells count (2 ^ 60)
count_tells _ = always

new_id_tells : (values : List Value) → Tells (new_id_in_range values) (IsNewIdInRange values)
new_id_tells (Num sequence ∷ Num prior ∷ Text id ∷ more) = record {
  yes = λ e.
      let first = both_tell (nat_le prior sequence) (nat_le 1 (length id) && nat_le (length id) 20) _ _ (le_tells prior sequence)
      (both_tell (nat_le 1 (length id)) (nat_le (length id) 20) _ _ (le_tells 1 (length id)) (le_tells (length id) 20)) in
      let all = first.yes e in
      (all.0, all.1.0, all.1.1);
  back = λ h.
      let first = both_tell (nat_le prior sequence) (nat_le 1 (length id) && nat_le (length id) 20) _ _ (le_tells prior sequence)
      (both_tell (nat_le 1 (length id)) (nat_le (length id) 20) _ _ (le_tells 1 (length id)) (le_tells (length id) 20)) in
      first.back (h.0, (h.1, h.2));
}
new_id_tells _ = always

-- one range and the ranges below it
next_range : (greatest range gap : ℕ) (more : List ℕ) → Tells (are_ranges (greatest - (2 + gap + range)) more) (AreRanges (greatest - (2 + gap + range)) more)
    → Tells (nat_le (2 + gap + range) greatest && are_ranges (greatest - (2 + gap + range)) more) (AreRanges greatest (range ∷ gap ∷ more))
next_range greatest range gap more t =
    let both = both_tell (nat_le (2 + gap + range) greatest) (are_ranges (greatest - (2 + gap + range)) more) _ _ (le_tells (2 + gap + range) greatest) t in
    record {
      yes = λ e. let all = both.yes e in let fits = all.0 in (greatest - (2 + gap + range), omega (arith, fits), all.1);
      back = λ h. let sum = h.1 in let same : h.0 ≡ greatest - (2 + gap + range) = omega (arith, sum) in both.back (omega (arith, sum), subst (λ (n : ℕ). AreRanges n more) same h.2);
    }

pub ranges_tell : (ranges : List ℕ) (greatest : ℕ) → Tells (are_ranges greatest ranges) (AreRanges greatest ranges)
unfolding are_ranges
ranges_tell [] greatest = record { yes = λ e. cc; back = λ h. absurd h }
ranges_tell (range ∷ []) greatest = le_tells range greatest
ranges_tell (range ∷ gap ∷ more) greatest = next_range greatest range gap more (ranges_tell more (greatest - (2 + gap + range)))

ack_tells : (values : List Value) → Tells (ack_in_range values) (IsAckInRange values)
ack_tells (Num greatest ∷ delay ∷ Nums ranges ∷ more) = ranges_tell ranges greatest
ack_tells _ = always

pub range_tells : (kind : ℕ) (values : List Value) → Tells (in_range kind values) (AreInRange kind values)
range_tells kind values =
    if_tells (kind / 8 == 1) _ _ _ _ (stream_tells (stream_values (has_bit 1 kind) values))
    (if_tells (kind / 2 == 1) _ _ _ _ (ack_tells values)
    (if_tells (kind == 6) _ _ _ _ (crypto_tells values)
    (if_tells (kind == 7) _ _ _ _ (token_tells values)
    (if_tells (kind / 2 == 9) _ _ _ _ (count_tells values)
    (if_tells (kind / 2 == 11) _ _ _ _ (count_tells values)
    (if_tells (kind == 24) _ _ _ _ (new_id_tells values) always))))))
