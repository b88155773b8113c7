-- The packets that are out as a list by their numbers: the look-up, one more at the end, and one that is taken out.
use Rattle.std.proofs.Common.{◌≡◌, ◌⊎◌, ℕ, ◌+◌, ◌-◌, ◌<◌, ◌≤◌, min, Bool, true, false, cond, List, [], ◌∷◌, ◌++◌, length, Option, Some, None, MatchOption, is_some, IsSome, option_map, unwrap_or, nat_cmp, Ordering, Greater, refl, sym, ap, ◌∙◌, arith, inl, inr}
use Rattle.std.specs.BTreeMap.{is_at, insert_entry}
use Rattle.std.specs.List.{sum_by}
use Rattle.std.specs.Ordering.{match_ordering, is_lt}
use Rattle.std.proofs.lemmas.Bool.{cases_Bool, cases_eq}
use Rattle.std.proofs.lemmas.List.Sums.{sum_by-cons, sum_by_push}
use Rattle.std.proofs.lemmas.Map.Keys.{ge_from_not_lt}
use Rattle.qh_base.specs.declared.time.Moment.{Moment}
use Rattle.qh_recovery.specs.declared.sent_packets.SentPacket.{SentPacket}
use Rattle.qh_recovery.specs.SentPackets.{packet_at, without, bytes_in_flight, frame_count, NoneIs, IsGreatest, IsNext, IsFrom, IsBelow, IsReordered, IsLossTime, overdue_at}

greater_is : (m n : ℕ) → n < m → nat_cmp m n ≡ Greater
greater_is m n h = grind (arith, h)

at_itself : (n : ℕ) → is_at (nat_cmp n) n ≡ true
at_itself n = grind arith

le_or_eq : (k n : ℕ) → k < n + 1 → (k < n) ⊎ (k ≡ n)
le_or_eq k n h = elim (cases_eq k n) [
  | inl same ↦ inr same
  | inr apart ↦ inl (omega (arith, h, apart))
]

below_or_not : (k n : ℕ) → (k < n) ⊎ (n ≤ k)
below_or_not k n = grind arith

-- if no answer means this, it means that
pub none_means : {X A B : Type 0} (P : X → Type 0) (o : Option X) → (A → B) → MatchOption o A P → MatchOption o B P
none_means P None f was = f was
none_means P (Some x) f was = was

module _ {F : Type 0} where
  -- the first is found by its number
  pub first_at : (e : ℕ × SentPacket F) (es : List (ℕ × SentPacket F)) → packet_at (e ∷ es) e.0 ≡ Some e.1
  first_at e es = ap (λ (b : Bool). cond b (Some e.1) (packet_at es e.0)) (at_itself e.0)

  -- what is found among the others, or the first, is found by the same number
  found_at : (e : ℕ × SentPacket F) (es : List (ℕ × SentPacket F)) (k : ℕ) (q : SentPacket F) → packet_at es k ≡ Some q
      → (r : SentPacket F) × (packet_at (e ∷ es) k ≡ Some r)
  found_at e es k q there = elim (cases_Bool (is_at (nat_cmp k) e.0)) [
    | inl here ↦ (e.1, ap (λ (b : Bool). cond b (Some e.1) (packet_at es k)) here)
    | inr apart ↦ (q, ap (λ (b : Bool). cond b (Some e.1) (packet_at es k)) apart ∙ there)
  ]

  -- a packet with a number above all others goes to the end
  pub appended : (es : List (ℕ × SentPacket F)) (number : ℕ) (packet : SentPacket F) → IsNext number es → insert_entry nat_cmp es number packet ≡ es ++ (number, packet) ∷ []
  appended [] number packet next = refl
  appended (e ∷ es) number packet next =
      let rest = insert_entry nat_cmp es number packet in
      let above = next e.0 e.1 (first_at e es) in
      ap (λ (o : Ordering). match_ordering o ((number, packet) ∷ e ∷ es) ((e.0, packet) ∷ es) (e ∷ rest)) (greater_is number e.0 above)
      ∙ ap (λ (l : List (ℕ × SentPacket F)). e ∷ l) (appended es number packet (λ k q there. let more = found_at e es k q there in next k more.0 more.1))

  -- a sum over the packets: one more at the end
  appended_sum : (f : SentPacket F → ℕ) (es : List (ℕ × SentPacket F)) (number : ℕ) (packet : SentPacket F) → IsNext number es
      → sum_by (λ (e : ℕ × SentPacket F). f e.1) (insert_entry nat_cmp es number packet) ≡ sum_by (λ (e : ℕ × SentPacket F). f e.1) es + f packet
  appended_sum f es number packet next =
      ap (sum_by (λ (e : ℕ × SentPacket F). f e.1)) (appended es number packet next) ∙ sum_by_push (λ (e : ℕ × SentPacket F). f e.1) es (number, packet)

  -- what one that is taken out adds is part of it
  taken_sum : (f : SentPacket F → ℕ) (es : List (ℕ × SentPacket F)) (number : ℕ) (packet : SentPacket F) → packet_at es number ≡ Some packet
      → sum_by (λ (e : ℕ × SentPacket F). f e.1) (without number es) + f packet ≡ sum_by (λ (e : ℕ × SentPacket F). f e.1) es
  taken_sum f [] number packet was = absurd (cc)
  taken_sum f (e ∷ es) number packet was =
      let whole = sum_by-cons (λ (e : ℕ × SentPacket F). f e.1) e es in
      elim (cases_Bool (is_at (nat_cmp number) e.0)) [
        | inl here ↦
            let is : Some e.1 ≡ Some packet = sym (ap (λ (b : Bool). cond b (Some e.1) (packet_at es number)) here) ∙ was in
            let own : f e.1 ≡ f packet = ap (λ (o : Option (SentPacket F)). unwrap_or (option_map f o) 0) is in
            let left = ap (λ (b : Bool). sum_by (λ (e : ℕ × SentPacket F). f e.1) (cond b es (e ∷ without number es))) here in
            omega (arith, whole, left, own)
        | inr apart ↦
            let there : packet_at es number ≡ Some packet = sym (ap (λ (b : Bool). cond b (Some e.1) (packet_at es number)) apart) ∙ was in
            let left = ap (λ (b : Bool). sum_by (λ (e : ℕ × SentPacket F). f e.1) (cond b es (e ∷ without number es))) apart in
            omega (arith, whole, left, sum_by-cons (λ (e : ℕ × SentPacket F). f e.1) e (without number es), taken_sum f es number packet there)
      ]

  pub appended_bytes : (es : List (ℕ × SentPacket F)) (number : ℕ) (packet : SentPacket F) → IsNext number es
      → bytes_in_flight (insert_entry nat_cmp es number packet) ≡ bytes_in_flight es + packet.size
  appended_bytes es number packet next = appended_sum (λ p. p.size) es number packet next

  pub appended_frames : (es : List (ℕ × SentPacket F)) (number : ℕ) (packet : SentPacket F) → IsNext number es
      → frame_count (insert_entry nat_cmp es number packet) ≡ frame_count es + length packet.frames.items
  appended_frames es number packet next = appended_sum (λ p. length p.frames.items) es number packet next

  pub taken_bytes : (es : List (ℕ × SentPacket F)) (number : ℕ) (packet : SentPacket F) → packet_at es number ≡ Some packet
      → bytes_in_flight (without number es) + packet.size ≡ bytes_in_flight es
  taken_bytes es number packet was = taken_sum (λ p. p.size) es number packet was

  pub taken_frames : (es : List (ℕ × SentPacket F)) (number : ℕ) (packet : SentPacket F) → packet_at es number ≡ Some packet
      → frame_count (without number es) + length packet.frames.items ≡ frame_count es
  taken_frames es number packet was = taken_sum (λ p. length p.frames.items) es number packet was

  -- if none is at or above 0, there is none
  pub none_out : (es : List (ℕ × SentPacket F)) → NoneIs (IsFrom 0) es → es ≡ []
  none_out [] none = refl
  none_out (e ∷ es) none = absurd (none e.0 e.1 (first_at e es) (omega arith))

  -- the last is the greatest
  pub last_is : (es : List (ℕ × SentPacket F)) (number : ℕ) (packet : SentPacket F) → packet_at es number ≡ Some packet
      → ((k : ℕ) → IsSome (packet_at es k) → is_lt (nat_cmp number k) ≡ false) → IsGreatest es number packet
  last_is es number packet there above = record {
    is_out = there;
    is_greatest = λ k q out. ge_from_not_lt number k (above k (ap (λ (o : Option (SentPacket F)). is_some o) out));
  }

  -- ---- the time of loss

  -- none is so far below that its number tells
  pub none_far : (es : List (ℕ × SentPacket F)) (largest near : ℕ) → near ≡ largest - 2 → NoneIs (IsReordered largest) es → NoneIs (IsBelow near) es
  none_far es largest near near_is none = λ k q there below. none k q there (omega (arith, below, near_is))

  -- the moment stays, if the next one comes no earlier
  time_kept : (es : List (ℕ × SentPacket F)) (number delay moment : ℕ) → IsLossTime es number delay moment
      → ((q : SentPacket F) → packet_at es number ≡ Some q → moment ≤ overdue_at delay q) → IsLossTime es (number + 1) delay moment
  time_kept es number delay moment was later = record {
    number = was.number;
    packet = was.packet;
    is_out = was.is_out;
    is_below = omega (arith, was.is_below);
    is_then = was.is_then;
    is_earliest = λ k q there below. elim (le_or_eq k number below) [
      | inl less ↦ was.is_earliest k q there less
      | inr same ↦ later q (ap (packet_at es) (sym same) ∙ there)
    ];
  }

  -- the next one's moment is taken, if the others come no earlier
  time_taken : (es : List (ℕ × SentPacket F)) (number delay moment : ℕ) (packet : SentPacket F) → packet_at es number ≡ Some packet → moment ≡ overdue_at delay packet
      → ((k : ℕ) (q : SentPacket F) → packet_at es k ≡ Some q → k < number → moment ≤ overdue_at delay q) → IsLossTime es (number + 1) delay moment
  time_taken es number delay moment packet out then later = record {
    number = number;
    packet = packet;
    is_out = out;
    is_below = omega arith;
    is_then = then;
    is_earliest = λ k q there below. elim (le_or_eq k number below) [
      | inl less ↦ later k q there less
      | inr same ↦
          let is : packet ≡ q = ap (λ (o : Option (SentPacket F)). unwrap_or o packet) (sym out ∙ ap (packet_at es) (sym same) ∙ there) in
          let at = ap (overdue_at delay) is in
          omega (arith, then, at)
    ];
  }

  abbrev IsEarliest : List (ℕ × SentPacket F) → (number delay : ℕ) → Option Moment → Type 0
  IsEarliest es number delay o = MatchOption o (NoneIs (IsBelow number) es) (λ t. IsLossTime es number delay t.0)

  without_next : (es : List (ℕ × SentPacket F)) (number delay : ℕ) (one : Option Moment) → packet_at es number ≡ None → IsEarliest es number delay one → IsEarliest es (number + 1) delay one
  without_next es number delay None none was = λ k q there below. elim (le_or_eq k number below) [
    | inl less ↦ was k q there less
    | inr same ↦ let here : packet_at es number ≡ Some q = ap (packet_at es) (sym same) ∙ there in absurd (cc)
  ]
  without_next es number delay (Some t) none was = time_kept es number delay t.0 was (λ q there. absurd (cc))

  with_next : (es : List (ℕ × SentPacket F)) (number delay : ℕ) (one new : Option Moment) (b : Moment) (packet : SentPacket F) → packet_at es number ≡ Some packet → b.0 ≡ overdue_at delay packet
      → (one ≡ None → new ≡ Some b) → ((a : Moment) → one ≡ Some a → option_map (λ (t : Moment). t.0) new ≡ Some (min a.0 b.0))
      → IsEarliest es number delay one → IsEarliest es (number + 1) delay new
  with_next es number delay None new b packet out is none some was =
      rw (none refl) (time_taken es number delay b.0 packet out is (λ k q there below. absurd (was k q there below)))
  with_next es number delay (Some a) None b packet out is none some was = absurd (let e = some a refl in cc)
  with_next es number delay (Some a) (Some t) b packet out is none some was =
      let least : t.0 ≡ min a.0 b.0 = ap (λ (o : Option ℕ). unwrap_or o t.0) (some a refl) in
      elim (below_or_not b.0 a.0) [
        | inl less ↦
            let same : t.0 ≡ b.0 = omega (arith, least, less) in
            time_taken es number delay t.0 packet out (same ∙ is) (λ k q there below. let later = was.is_earliest k q there below in omega (arith, same, less, later))
        | inr not_less ↦
            let same : t.0 ≡ a.0 = omega (arith, least, not_less) in
            rw same (time_kept es number delay a.0 was (λ q there.
            let here : packet ≡ q = ap (λ (o : Option (SentPacket F)). unwrap_or o packet) (sym out ∙ there) in
            let at = ap (overdue_at delay) here in
            omega (arith, not_less, is, at)))
      ]

  -- the earliest with the next one's moment, if it has one
  pub time_more : (es : List (ℕ × SentPacket F)) (number delay : ℕ) (one other new : Option Moment)
      → option_map (λ (t : Moment). t.0) other ≡ option_map (overdue_at delay) (packet_at es number)
      → (one ≡ None → new ≡ other) → (other ≡ None → new ≡ one) → ((a b : Moment) → one ≡ Some a → other ≡ Some b → option_map (λ (t : Moment). t.0) new ≡ Some (min a.0 b.0))
      → IsEarliest es number delay one → IsEarliest es (number + 1) delay new
  time_more es number delay one None new is first second both was = elim (packet_at es number) as (λ (o : Option (SentPacket F)). packet_at es number ≡ o → None ≡ option_map (overdue_at delay) o → IsEarliest es (number + 1) delay new) [
    | None ↦ λ e none. rw (second refl) (without_next es number delay one e was)
    | Some packet ↦ λ e none. absurd (cc)
  ] refl is
  time_more es number delay one (Some b) new is first second both was = elim (packet_at es number) as (λ (o : Option (SentPacket F)). packet_at es number ≡ o → Some b.0 ≡ option_map (overdue_at delay) o → IsEarliest es (number + 1) delay new) [
    | None ↦ λ e some. absurd (cc)
    | Some packet ↦ λ e some. with_next es number delay one new b packet e (ap (λ (o : Option ℕ). unwrap_or o b.0) some) first (λ a there. both a b there refl) was
  ] refl is
