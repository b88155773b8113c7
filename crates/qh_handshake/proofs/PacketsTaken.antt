-- The packets that are taken out one after another, their count, and whether one of them bears the hello.
use Rattle.std.proofs.Common.{◌≡◌, ◌⊎◌, ◌↔◌, ℕ, ◌+◌, ◌<◌, ◌≤◌, ◌==◌, nat_lt, Bool, true, false, not, ◌||◌, [], ◌∷◌, ◌++◌, length, Option, Some, None, refl, sym, ap, ◌∙◌, inl, inr, arith, length-append}
use Rattle.std.proofs.lemmas.Bool.{cases_lt}
use Rattle.std.proofs.lemmas.List.Folds.{list_any-append}
use Rattle.qh_frame.specs.Plain.{ack_of, IsCovered}
use Rattle.qh_frame.specs.declared.ack.Ack.{Ack}
use Rattle.qh_handshake.specs.Settled.{AreTaken, Packets, any_bears, bears_hello}
use Rattle.qh_handshake.specs.declared.initial_space.HelloFrame.{HelloFrame}
use Rattle.qh_handshake.proofs.TakenOut.{AreSoFar, none_so_far, one_more, all_taken, and_more, one_fewer}
use Rattle.qh_recovery.specs.SentPackets.{packet_at, without, HasInstead, NoneIs, IsLeast, IsWithin}
use Rattle.qh_recovery.specs.declared.sent_packets.SentPacket.{SentPacket}
use Rattle.qh_spec.specs.Acknowledged.{Covers}

or_false : (b : Bool) → (b || false) ≡ b
or_false true = refl
or_false false = refl

not_zero : (n : ℕ) → not (n == 0) ≡ nat_lt 0 n
not_zero n = grind arith

-- what the test for no frames says of the hello
pub bears_if : (packet : SentPacket HelloFrame) (is_empty : Bool) → is_empty ≡ (packet.frames.len == 0) → not is_empty ≡ bears_hello packet
bears_if packet is_empty is =
    let len = packet.frames.ok.0 in
    ap not is ∙ not_zero packet.frames.len ∙ ap (λ (n : ℕ). nat_lt 0 n) (omega (arith, len))

-- what was done so far
pub record IsTakenSoFar (P : ℕ → SentPacket HelloFrame → Type 0) (old now : Packets) (has_hello : Bool) : Type 0 where
  pub taken : Packets
  pub packets : AreSoFar P old now taken
  pub count : length old ≡ length now + length taken
  pub bears : has_hello ≡ any_bears taken

pub none_taken_yet : (P : ℕ → SentPacket HelloFrame → Type 0) (es : Packets) → IsTakenSoFar P es es false
none_taken_yet P es = record { taken = []; packets = none_so_far P es; count = omega arith; bears = refl }

-- one more packet
pub one_more_taken : (P : ℕ → SentPacket HelloFrame → Type 0) (old now new : Packets) (has_hello is_empty : Bool) (number : ℕ) (packet : SentPacket HelloFrame) → IsTakenSoFar P old now has_hello
    → IsLeast P now number packet × (new ≡ without number now) → HasInstead now new number None → is_empty ≡ (packet.frames.len == 0) → IsTakenSoFar P old new (has_hello || not is_empty)
one_more_taken P old now new has_hello is_empty number packet so_far found left empty =
    let least = found.0 in
    let fewer = one_fewer now number packet least.is_out in
    let count = ap (λ (l : Packets). length l) found.1 in
    let longer = length-append so_far.taken ((number, packet) ∷ []) in
    let before = so_far.count in
    record {
      taken = so_far.taken ++ (number, packet) ∷ [];
      packets = one_more P old now new so_far.taken number packet so_far.packets least.is_out least.holds left;
      count = omega (arith, fewer, count, longer, before);
      bears = ap (λ (b : Bool). b || not is_empty) so_far.bears
          ∙ ap (λ (b : Bool). any_bears so_far.taken || b) (bears_if packet is_empty empty ∙ sym (or_false (bears_hello packet)))
          ∙ sym (list_any-append (λ (e : ℕ × SentPacket HelloFrame). bears_hello e.1) so_far.taken ((number, packet) ∷ []));
    }

-- a packet that is taken out is one fewer
pub smaller : (P : ℕ → SentPacket HelloFrame → Type 0) (now new : Packets) (number : ℕ) (packet : SentPacket HelloFrame) → IsLeast P now number packet × (new ≡ without number now) → length new < length now
smaller P now new number packet found =
    let fewer = one_fewer now number packet found.0.is_out in
    let count = ap (λ (l : Packets). length l) found.1 in
    omega (arith, fewer, count)

-- all that are so were taken out, and no others
pub record IsTaken (P : ℕ → SentPacket HelloFrame → Type 0) (old new : Packets) (has_hello : Bool) : Type 0 where
  pub taken : Packets
  pub packets : AreTaken P old new taken
  pub count : length old ≡ length new + length taken
  pub bears : has_hello ≡ any_bears taken

pub taken_at_end : (P : ℕ → SentPacket HelloFrame → Type 0) (old now : Packets) (has_hello : Bool) → IsTakenSoFar P old now has_hello → NoneIs P now → IsTaken P old now has_hello
taken_at_end P old now has_hello so_far none = record {
  taken = so_far.taken;
  packets = all_taken P old now so_far.taken so_far.packets none;
  count = so_far.count;
  bears = so_far.bears;
}

-- ---- the ranges of an ACK one after another

-- the numbers at or below the greatest that the ranges that are left cover
abbrev pub ranges_left : Option Ack → ℕ
ranges_left None = 0
ranges_left (Some a) = a.greatest + 1

abbrev IsAcked : Ack → ℕ → SentPacket HelloFrame → Type 0
IsAcked ack k q = Covers (ack_of ack) k

-- of the packets that are out those are still covered that the ranges that are left cover
pub record AreRangesSoFar (ack : Ack) (rest : Option Ack) (old now : Packets) (has_hello : Bool) : Type 0 where
  pub so_far : IsTakenSoFar (IsAcked ack) old now has_hello
  pub covered : (n : ℕ) → IsCovered rest n → Covers (ack_of ack) n
  pub left : (k : ℕ) (q : SentPacket HelloFrame) → packet_at now k ≡ Some q → Covers (ack_of ack) k → IsCovered rest k

pub no_range_yet : (ack : Ack) (es : Packets) → AreRangesSoFar ack (Some ack) es es false
no_range_yet ack es = record {
  so_far = none_taken_yet (IsAcked ack) es;
  covered = λ n there. there;
  left = λ k q there is_covered. is_covered;
}

within_or_not : (least greatest k : ℕ) (q : SentPacket HelloFrame) → IsWithin least greatest k q ⊎ (IsWithin least greatest k q → ⊥)
within_or_not least greatest k q = elim (cases_lt k least) [
  | inl under ↦ inr (λ within. omega (arith, under, within.0))
  | inr above ↦ elim (cases_lt greatest k) [
    | inl past ↦ inr (λ within. omega (arith, past, within.1))
    | inr below ↦ inl (above, below)
  ]
]

-- one more range
pub one_more_range : (ack : Ack) (rest below : Option Ack) (least greatest : ℕ) (old now new taken : Packets) (has_hello has_more : Bool) → AreRangesSoFar ack rest old now has_hello
    → ((n : ℕ) → IsCovered rest n ↔ (((least ≤ n) × (n ≤ greatest)) ⊎ IsCovered below n))
    → AreTaken (IsWithin least greatest) now new taken → length now ≡ length new + length taken → has_more ≡ any_bears taken
    → AreRangesSoFar ack below old new (has_hello || has_more)
one_more_range ack rest below least greatest old now new taken has_hello has_more ranges covers more count bears =
    let so_far = ranges.so_far in
    let longer = length-append so_far.taken taken in
    let before = so_far.count in
    record {
      so_far = record {
        taken = so_far.taken ++ taken;
        packets = and_more (IsAcked ack) (IsWithin least greatest) old now new so_far.taken taken so_far.packets more (λ k q within. ranges.covered k ((covers k).1 (inl within))) (within_or_not least greatest);
        count = omega (arith, before, count, longer);
        bears = ap (λ (b : Bool). b || has_more) so_far.bears
            ∙ ap (λ (b : Bool). any_bears so_far.taken || b) bears
            ∙ sym (list_any-append (λ (e : ℕ × SentPacket HelloFrame). bears_hello e.1) so_far.taken taken);
      };
      covered = λ n there. ranges.covered n ((covers n).1 (inr there));
      left = λ k q there is_covered.
          let was = (more.left k q).0 there in
          elim ((covers k).0 (ranges.left k q was.0 is_covered)) [ inl within ↦ absurd (was.1 within) | inr beyond ↦ beyond ];
    }

pub ranges_at_end : (ack : Ack) (old now : Packets) (has_hello : Bool) → AreRangesSoFar ack None old now has_hello → IsTaken (IsAcked ack) old now has_hello
ranges_at_end ack old now has_hello ranges = taken_at_end (IsAcked ack) old now has_hello ranges.so_far (λ k q there is_covered. ranges.left k q there is_covered)
