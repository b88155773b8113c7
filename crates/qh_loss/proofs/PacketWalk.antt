-- Packets one after another, from the least number.
use Rattle.std.proofs.Common.{◌≡◌, ◌⊎◌, ℕ, ◌+◌, ◌<◌, ◌≤◌, Bool, true, cond, [], ◌∷◌, ◌++◌, Some, None, nat_cmp, Less, refl, sym, ap, ◌∙◌, inl, inr, arith, subst, append_assoc}
use Rattle.std.proofs.lemmas.List.{append-nil}
use Rattle.std.specs.List.{All}
use Rattle.std.specs.List.Sorted.{IsStrictlySortedBy}
use Rattle.std.specs.Map.{keys_of}
use Rattle.std.specs.BTreeMap.{is_at}
use Rattle.std.proofs.lemmas.Bool.{cases_Bool, cases_lt}
use Rattle.std.proofs.lemmas.Option.{none-some, same_Some}
use Rattle.std.proofs.lemmas.List.Elements.{All-head, All-tail}
use Rattle.std.proofs.lemmas.Map.Keys.{sorted_tail}
use Rattle.std.proofs.lemmas.Map.Views.{All-after_first}
use Rattle.qh_recovery.specs.SentPackets.{packet_at, NoneIs, IsNext, IsBelow, IsFrom, IsLeast}
use Rattle.qh_recovery.specs.declared.sent_packets.SentPacket.{SentPacket}
use Rattle.qh_recovery.proofs.SentLists.{first_at}
use Rattle.qh_streams.specs.declared.frames.SentFrame.{SentFrame}
use Rattle.qh_loss.proofs.FramesOut.{Packets}

-- the packets below a number, and those from it on
pub record IsSplit (packets before after : Packets) (at : ℕ) : Type 0 where
  pub whole : packets ≡ before ++ after
  pub below : IsNext at before
  pub above : NoneIs (IsBelow at) after
  pub rising : IsStrictlySortedBy nat_cmp (keys_of after)

same_number : (n k : ℕ) → is_at (nat_cmp n) k ≡ true → k ≡ n
same_number n k h = grind (arith, h)

found_in : (es more : Packets) (k : ℕ) (q : SentPacket SentFrame) → packet_at (es ++ more) k ≡ Some q → (packet_at es k ≡ Some q) ⊎ (packet_at more k ≡ Some q)
found_in [] more k q there = inr there
found_in (e ∷ es) more k q there = elim (cases_Bool (is_at (nat_cmp k) e.0)) [
  | inl here ↦ inl (ap (λ (b : Bool). cond b (Some e.1) (packet_at es k)) here ∙ (sym (ap (λ (b : Bool). cond b (Some e.1) (packet_at (es ++ more) k)) here) ∙ there))
  | inr apart ↦ elim (found_in es more k q (sym (ap (λ (b : Bool). cond b (Some e.1) (packet_at (es ++ more) k)) apart) ∙ there)) [
    | inl first ↦ inl (ap (λ (b : Bool). cond b (Some e.1) (packet_at es k)) apart ∙ first)
    | inr second ↦ inr second
  ]
]

-- what isn't found among the first is found among the others
found_behind : (es more : Packets) (k : ℕ) (q : SentPacket SentFrame) → ((p : SentPacket SentFrame) → packet_at es k ≡ Some p → ⊥) → packet_at more k ≡ Some q → packet_at (es ++ more) k ≡ Some q
found_behind [] more k q none there = there
found_behind (e ∷ es) more k q none there = elim (cases_Bool (is_at (nat_cmp k) e.0)) [
  | inl here ↦ absurd (none e.1 (ap (λ (b : Bool). cond b (Some e.1) (packet_at es k)) here))
  | inr apart ↦ ap (λ (b : Bool). cond b (Some e.1) (packet_at (es ++ more) k)) apart
      ∙ found_behind es more k q (λ p found. none p (ap (λ (b : Bool). cond b (Some e.1) (packet_at es k)) apart ∙ found)) there
]

-- what is found among those behind the first has a greater number
less_is : (n k : ℕ) → nat_cmp n k ≡ Less → n < k
less_is n k h = grind (arith, h)

is_above : (n : ℕ) (es : Packets) → All (λ (j : ℕ). nat_cmp n j ≡ Less) (keys_of es) → (k : ℕ) (q : SentPacket SentFrame) → packet_at es k ≡ Some q → n < k
is_above n [] all k q there = absurd (none-some q there)
is_above n (e ∷ es) all k q there = elim (cases_Bool (is_at (nat_cmp k) e.0)) [
  | inl here ↦ subst (λ (j : ℕ). n < j) (same_number k e.0 here) (less_is n e.0 (All-head (λ (j : ℕ). nat_cmp n j ≡ Less) e.0 (keys_of es) all))
  | inr apart ↦ is_above n es (All-tail (λ (j : ℕ). nat_cmp n j ≡ Less) e.0 (keys_of es) all) k q (sym (ap (λ (b : Bool). cond b (Some e.1) (packet_at es k)) apart) ∙ there)
]

-- the first of them is this packet
pub record IsNextPacket (packets before after : Packets) (number : ℕ) (packet : SentPacket SentFrame) : Type 0 where
  pub rest : Packets
  pub whole : packets ≡ before ++ (number, packet) ∷ rest
  pub after_is : after ≡ (number, packet) ∷ rest
  pub split : IsSplit packets (before ++ (number, packet) ∷ []) rest (number + 1)

module _ (packets before : Packets) (e : ℕ × SentPacket SentFrame) (rest : Packets) (at : ℕ) (split : IsSplit packets before (e ∷ rest) at) where
  first_from : at ≤ e.0
  first_from = elim (cases_lt e.0 at) [ inl under ↦ absurd (split.above e.0 e.1 (first_at e rest) under) | inr from ↦ from ]

  first_out : packet_at packets e.0 ≡ Some e.1
  first_out = rw split.whole (found_behind before (e ∷ rest) e.0 e.1 (λ p found. let under = split.below e.0 p found in let from = first_from in omega (arith, under, from)) (first_at e rest))

  behind_first : (k : ℕ) (q : SentPacket SentFrame) → packet_at rest k ≡ Some q → e.0 < k
  behind_first = is_above e.0 rest (All-after_first nat_cmp e.0 (keys_of rest) split.rising)

  first_is : (number : ℕ) (packet : SentPacket SentFrame) → IsLeast (IsFrom at) packets number packet → (number ≡ e.0) × (packet ≡ e.1)
  first_is number packet least =
      let least_is = least.is_least e.0 e.1 first_out first_from in
      elim (found_in before (e ∷ rest) number packet (subst (λ (l : Packets). packet_at l number ≡ Some packet) split.whole least.is_out)) [
        | inl under ↦ let less = split.below number packet under in let from = least.holds in absurd (omega (arith, less, from))
        | inr found ↦ elim (cases_Bool (is_at (nat_cmp number) e.0)) [
          | inl here ↦ (sym (same_number number e.0 here), sym (same_Some e.1 packet (sym (ap (λ (b : Bool). cond b (Some e.1) (packet_at rest number)) here) ∙ found)))
          | inr apart ↦
              let more = behind_first number packet (sym (ap (λ (b : Bool). cond b (Some e.1) (packet_at rest number)) apart) ∙ found) in
              absurd (omega (arith, more, least_is))
        ]
      ]

  below_more : (k : ℕ) (q : SentPacket SentFrame) → packet_at (before ++ e ∷ []) k ≡ Some q → k < e.0 + 1
  below_more k q there = elim (found_in before (e ∷ []) k q there) [
    | inl first ↦ let less = split.below k q first in let from = first_from in omega (arith, less, from)
    | inr last ↦ elim (cases_Bool (is_at (nat_cmp k) e.0)) [
      | inl here ↦ let same = same_number k e.0 here in omega (arith, same)
      | inr apart ↦ absurd (none-some q (sym (ap (λ (b : Bool). cond b (Some e.1) None) apart) ∙ last))
    ]
  ]

  split_more : IsSplit packets (before ++ e ∷ []) rest (e.0 + 1)
  split_more = record {
    whole = split.whole ∙ sym (append_assoc before (e ∷ []) rest);
    below = below_more;
    above = λ k q there under. let more = behind_first k q there in omega (arith, more, under);
    rising = sorted_tail nat_cmp e.0 (keys_of rest) split.rising;
  }

pub next_packet : (packets before after : Packets) (at number : ℕ) (packet : SentPacket SentFrame) → IsSplit packets before after at → IsLeast (IsFrom at) packets number packet
    → IsNextPacket packets before after number packet
next_packet packets before [] at number packet split least = elim (found_in before [] number packet (subst (λ (l : Packets). packet_at l number ≡ Some packet) split.whole least.is_out)) [
  | inl under ↦ let less = split.below number packet under in let from = least.holds in absurd (omega (arith, less, from))
  | inr none ↦ absurd (none-some packet none)
]
next_packet packets before (e ∷ rest) at number packet split least =
    let same = first_is packets before e rest at split number packet least in
    rw (same.0, same.1) (record {
      rest = rest;
      whole = split.whole;
      after_is = refl;
      split = split_more packets before e rest at split;
    })

-- none is left
pub all_before : (packets before after : Packets) (at : ℕ) → IsSplit packets before after at → NoneIs (IsFrom at) packets → packets ≡ before
all_before packets before [] at split none = split.whole ∙ append-nil before
all_before packets before (e ∷ rest) at split none = absurd (none e.0 e.1 (first_out packets before e rest at split) (first_from packets before e rest at split))

pub split_at_first : (packets : Packets) → IsStrictlySortedBy nat_cmp (keys_of packets) → IsSplit packets [] packets 0
split_at_first packets rising = record {
  whole = refl;
  below = λ k q there. absurd (none-some q there);
  above = λ k q there under. omega (arith, under);
  rising = rising;
}
