-- Packets that are taken out one after another.
use Rattle.std.proofs.Common.{◌≡◌, ◌⊎◌, ℕ, ◌+◌, ◌==◌, if◌then◌else◌, Bool, [], ◌∷◌, ◌++◌, length, Option, Some, None, refl, sym, ap, ◌∙◌, inl, inr, arith, subst, length-append}
use Rattle.std.specs.List.{All}
use Rattle.std.proofs.lemmas.Bool.{cases_Bool, both_ways, eqb-true, eq-eqb}
use Rattle.std.proofs.lemmas.Option.{none-some, same_Some}
use Rattle.std.proofs.lemmas.List.Elements.{All-nil, All-cons, All-head, All-tail}
use Rattle.qh_spec.specs.Lists.{In, Distinct}
use Rattle.qh_spec.proofs.Members.{in_left, in_right, in_split}
use Rattle.qh_recovery.specs.SentPackets.{packet_at, without, HasInstead, NoneIs}
use Rattle.qh_recovery.specs.declared.sent_packets.SentPacket.{SentPacket}
use Rattle.qh_recovery.proofs.SentFrames.{parted}
use Rattle.qh_handshake.specs.Settled.{AreTaken, Packets}
use Rattle.qh_handshake.specs.declared.initial_space.HelloFrame.{HelloFrame}

-- ---- lists

all_in : (R : ℕ × SentPacket HelloFrame → Type 0) (es : Packets) → ((e : ℕ × SentPacket HelloFrame) → In e es → R e) → All R es
all_in R [] holds = All-nil R
all_in R (e ∷ es) holds = All-cons R e es (holds e (inl refl)) (all_in R es (λ d there. holds d (inr there)))

in_all : (R : ℕ × SentPacket HelloFrame → Type 0) (es : Packets) → All R es → (e : ℕ × SentPacket HelloFrame) → In e es → R e
in_all R [] all e there = absurd there
in_all R (d ∷ es) all e (inl same) = subst R same (All-head R d es all)
in_all R (d ∷ es) all e (inr there) = in_all R es (All-tail R d es all) e there

distinct_both : (es more : Packets) → Distinct es → Distinct more → ((e : ℕ × SentPacket HelloFrame) → In e es → In e more → ⊥) → Distinct (es ++ more)
distinct_both [] more first second apart = second
distinct_both (e ∷ es) more first second apart = (
  λ there. elim (in_split e es more there) [ inl again ↦ first.0 again | inr behind ↦ apart e (inl refl) behind ],
  distinct_both es more first.1 second (λ d here behind. apart d (inr here) behind),
)

-- one is taken out
pub one_fewer : (es : Packets) (number : ℕ) (packet : SentPacket HelloFrame) → packet_at es number ≡ Some packet → length (without number es) + 1 ≡ length es
one_fewer es number packet there =
    let parts = parted es number packet there in
    let whole = ap (λ (l : Packets). length l) parts.whole ∙ length-append parts.before ((number, packet) ∷ parts.after) in
    let rest = ap (λ (l : Packets). length l) parts.rest ∙ length-append parts.before parts.after in
    omega (arith, whole, rest)

-- ---- what was taken out so far

pub record AreSoFar (P : ℕ → SentPacket HelloFrame → Type 0) (old now taken : Packets) : Type 0 where
  pub are_so : (k : ℕ) (q : SentPacket HelloFrame) → In (k, q) taken → (packet_at old k ≡ Some q) × P k q
  pub kept : (k : ℕ) (q : SentPacket HelloFrame) → packet_at now k ≡ Some q → packet_at old k ≡ Some q
  pub each : (k : ℕ) (q : SentPacket HelloFrame) → packet_at old k ≡ Some q → (packet_at now k ≡ Some q) ⊎ In (k, q) taken
  pub gone : (k : ℕ) (q : SentPacket HelloFrame) → In (k, q) taken → packet_at now k ≡ None
  pub once : Distinct taken

pub none_so_far : (P : ℕ → SentPacket HelloFrame → Type 0) (es : Packets) → AreSoFar P es es []
none_so_far P es = record {
  are_so = λ k q there. absurd there;
  kept = λ k q there. there;
  each = λ k q there. inl there;
  gone = λ k q there. absurd there;
  once = tt;
}

-- a number that is out no more, and the others
instead_of : (k number : ℕ) (was now : Option (SentPacket HelloFrame)) → now ≡ (if k == number then None else was) → ((k ≡ number) × (now ≡ None)) ⊎ ((k ≡ number → ⊥) × (now ≡ was))
instead_of k number was now e = elim (cases_Bool (k == number)) [
  | inl same ↦ inl (eqb-true k number same, e ∙ ap (λ (b : Bool). if b then None else was) same)
  | inr apart ↦ inr (λ same. both_ways (k == number) apart (eq-eqb k number same), e ∙ ap (λ (b : Bool). if b then None else was) apart)
]

module _ (P : ℕ → SentPacket HelloFrame → Type 0) (old now new taken : Packets) (number : ℕ) (packet : SentPacket HelloFrame)
    (so_far : AreSoFar P old now taken) (there : packet_at now number ≡ Some packet) (is_so : P number packet) (left : HasInstead now new number None) where
  still : (k : ℕ) (q : SentPacket HelloFrame) → packet_at new k ≡ Some q → packet_at now k ≡ Some q
  still k q after = elim (instead_of k number (packet_at now k) (packet_at new k) (left k)) [
    | inl same ↦ absurd (none-some q (sym same.1 ∙ after))
    | inr apart ↦ sym apart.1 ∙ after
  ]

  each_more : (k : ℕ) (q : SentPacket HelloFrame) → packet_at now k ≡ Some q → (packet_at new k ≡ Some q) ⊎ In (k, q) (taken ++ (number, packet) ∷ [])
  each_more k q before = elim (instead_of k number (packet_at now k) (packet_at new k) (left k)) [
    | inl same ↦
        let is : packet ≡ q = same_Some packet q (sym there ∙ ap (packet_at now) (sym same.0) ∙ before) in
        let pair : (number, packet) ≡ (k, q) = ap (λ (n : ℕ). (n, packet)) (sym same.0) ∙ ap (λ (p : SentPacket HelloFrame). (k, p)) is in
        inr (in_right (k, q) taken ((number, packet) ∷ []) (inl pair))
    | inr apart ↦ inl (apart.1 ∙ before)
  ]

  is_new : (e : ℕ × SentPacket HelloFrame) → In e taken → In e ((number, packet) ∷ []) → ⊥
  is_new e before (inl same) = none-some packet (sym (so_far.gone number packet (subst (λ (d : ℕ × SentPacket HelloFrame). In d taken) (sym same) before)) ∙ there)
  is_new e before (inr none) = none

  last_is : (R : ℕ → SentPacket HelloFrame → Type 0) → R number packet → (k : ℕ) (q : SentPacket HelloFrame) → In {X = ℕ × SentPacket HelloFrame} (k, q) ((number, packet) ∷ []) → R k q
  last_is R holds k q (inl same) = subst (λ (d : ℕ × SentPacket HelloFrame). R d.0 d.1) same holds
  last_is R holds k q (inr none) = absurd none

  still_gone : (k : ℕ) → packet_at now k ≡ None → packet_at new k ≡ None
  still_gone k before = elim (instead_of k number (packet_at now k) (packet_at new k) (left k)) [
    | inl same ↦ same.1
    | inr apart ↦ apart.1 ∙ before
  ]

  number_gone : packet_at new number ≡ None
  number_gone = elim (instead_of number number (packet_at now number) (packet_at new number) (left number)) [
    | inl same ↦ same.1
    | inr apart ↦ absurd (apart.0 refl)
  ]

  pub one_more : AreSoFar P old new (taken ++ (number, packet) ∷ [])
  one_more = record {
    are_so = λ k q among. elim (in_split (k, q) taken ((number, packet) ∷ []) among) [
      | inl before ↦ so_far.are_so k q before
      | inr last ↦ last_is (λ n p. (packet_at old n ≡ Some p) × P n p) (so_far.kept number packet there, is_so) k q last
    ];
    kept = λ k q after. so_far.kept k q (still k q after);
    each = λ k q was. elim (so_far.each k q was) [
      | inl before ↦ each_more k q before
      | inr among ↦ inr (in_left (k, q) taken ((number, packet) ∷ []) among)
    ];
    gone = λ k q among. elim (in_split (k, q) taken ((number, packet) ∷ []) among) [
      | inl before ↦ still_gone k (so_far.gone k q before)
      | inr last ↦ last_is (λ n p. packet_at new n ≡ None) number_gone k q last
    ];
    once = distinct_both taken ((number, packet) ∷ []) so_far.once (λ none. none, tt) is_new;
  }

-- none that is so is left
pub all_taken : (P : ℕ → SentPacket HelloFrame → Type 0) (old now taken : Packets) → AreSoFar P old now taken → NoneIs P now → AreTaken P old now taken
all_taken P old now taken so_far none = record {
  are_so = all_in (λ e. (packet_at old e.0 ≡ Some e.1) × P e.0 e.1) taken (λ e there. so_far.are_so e.0 e.1 there);
  all = λ k q was is_so. elim (so_far.each k q was) [ inl there ↦ absurd (none k q there is_so) | inr among ↦ among ];
  once = so_far.once;
  left = λ k q. (
    λ there. (so_far.kept k q there, λ is_so. none k q there is_so),
    λ was. elim (so_far.each k q was.0) [ inl there ↦ there | inr among ↦ absurd (was.1 (so_far.are_so k q among).1) ],
  );
}

-- more were taken out, all that are so in another way
module _ (P Q : ℕ → SentPacket HelloFrame → Type 0) (old now new taken more : Packets) (so_far : AreSoFar P old now taken) (also : AreTaken Q now new more)
    (are_those : (k : ℕ) (q : SentPacket HelloFrame) → Q k q → P k q) (either : (k : ℕ) (q : SentPacket HelloFrame) → Q k q ⊎ (Q k q → ⊥)) where
  those : (k : ℕ) (q : SentPacket HelloFrame) → In (k, q) more → (packet_at now k ≡ Some q) × Q k q
  those k q there = in_all (λ e. (packet_at now e.0 ≡ Some e.1) × Q e.0 e.1) more also.are_so (k, q) there

  out_no_more : (k : ℕ) (o : Option (SentPacket HelloFrame)) → packet_at new k ≡ o → ((q : SentPacket HelloFrame) → packet_at new k ≡ Some q → ⊥) → packet_at new k ≡ None
  out_no_more k None is none = is
  out_no_more k (Some q) is none = absurd (none q is)

  gone_more : (k : ℕ) (q : SentPacket HelloFrame) → In (k, q) more → packet_at new k ≡ None
  gone_more k q among = out_no_more k (packet_at new k) refl (λ p there.
      let was = (also.left k p).0 there in
      let before = those k q among in
      let same : q ≡ p = same_Some q p (sym before.0 ∙ was.0) in
      was.1 (subst (Q k) same before.1))

  pub and_more : AreSoFar P old new (taken ++ more)
  and_more = record {
    are_so = λ k q among. elim (in_split (k, q) taken more among) [
      | inl before ↦ so_far.are_so k q before
      | inr last ↦ let found = those k q last in (so_far.kept k q found.0, are_those k q found.1)
    ];
    kept = λ k q after. so_far.kept k q ((also.left k q).0 after).0;
    each = λ k q was. elim (so_far.each k q was) [
      | inl before ↦ elim (either k q) [
        | inl is_so ↦ inr (in_right (k, q) taken more (also.all k q before is_so))
        | inr not_so ↦ inl ((also.left k q).1 (before, not_so))
      ]
      | inr among ↦ inr (in_left (k, q) taken more among)
    ];
    gone = λ k q among. elim (in_split (k, q) taken more among) [
      | inl before ↦ out_no_more k (packet_at new k) refl (λ p there. none-some p (sym (so_far.gone k q before) ∙ ((also.left k p).0 there).0))
      | inr last ↦ gone_more k q last
    ];
    once = distinct_both taken more so_far.once also.once (λ e before last. none-some e.1 (sym (so_far.gone e.0 e.1 before) ∙ (those e.0 e.1 last).0));
  }
