-- What holds of each frame in the packets that are out, when a packet comes or is taken out.
use Rattle.std.proofs.Common.{◌≡◌, ℕ, Bool, true, cond, List, [], ◌∷◌, ◌++◌, Option, Some, unwrap_or, nat_cmp, sym, ap, ap₂, arith, ◌∙◌, inl, inr, ◌↔◌}
use Rattle.std.specs.List.{All}
use Rattle.std.specs.BTreeMap.{is_at}
use Rattle.std.proofs.lemmas.Bool.{cases_Bool}
use Rattle.std.proofs.lemmas.List.Elements.{All-nil, All-cons, All-head, All-tail}
use Rattle.qh_recovery.specs.declared.sent_packets.SentPacket.{SentPacket}
use Rattle.qh_recovery.specs.SentPackets.{packet_at, without, AllFrames, IsParted}

same_number : (n k : ℕ) → is_at (nat_cmp n) k ≡ true → k ≡ n
same_number n k h = grind (arith, h)

-- a packet that is out stands between those that are left without it
pub parted : {F : Type 0} (es : List (ℕ × SentPacket F)) (number : ℕ) (packet : SentPacket F) → packet_at es number ≡ Some packet → IsParted es number packet
parted [] number packet was = absurd (cc)
parted {F} (e ∷ es) number packet was = elim (cases_Bool (is_at (nat_cmp number) e.0)) [
  | inl here ↦
      let is : e.1 ≡ packet = ap (λ (o : Option (SentPacket F)). unwrap_or o e.1) (sym (ap (λ (b : Bool). cond b (Some e.1) (packet_at es number)) here) ∙ was) in
      record {
        before = [];
        after = es;
        whole = ap₂ (λ (k : ℕ) (q : SentPacket F). (k, q) ∷ es) (same_number number e.0 here) is;
        rest = ap (λ (b : Bool). cond b es (e ∷ without number es)) here;
      }
  | inr apart ↦
      let there : packet_at es number ≡ Some packet = sym (ap (λ (b : Bool). cond b (Some e.1) (packet_at es number)) apart) ∙ was in
      let more = parted es number packet there in
      record {
        before = e ∷ more.before;
        after = more.after;
        whole = ap (λ (l : List (ℕ × SentPacket F)). e ∷ l) more.whole;
        rest = ap (λ (b : Bool). cond b es (e ∷ without number es)) apart ∙ ap (λ (l : List (ℕ × SentPacket F)). e ∷ l) more.rest;
      }
]

module _ {F : Type 0} (P : F → Type 0) where
  abbrev Fine : ℕ × SentPacket F → Type 0
  Fine e = All P e.1.frames.items

  -- the frames of the first packet, and those of the others
  pub first_frames : (e : ℕ × SentPacket F) (es : List (ℕ × SentPacket F)) → AllFrames P (e ∷ es) ↔ (All P e.1.frames.items × AllFrames P es)
  first_frames e es = (λ all. (All-head Fine e es all, All-tail Fine e es all), λ parts. All-cons Fine e es parts.0 parts.1)

  swapped : {A B C : Type 0} → (A × (B × C)) ↔ (B × (A × C))
  swapped = (λ p. (p.1.0, (p.0, p.1.1)), λ p. (p.1.0, (p.0, p.1.1)))

  -- the frames of all packets are those of one that is taken out, and those of the rest
  pub taken_frames : (es : List (ℕ × SentPacket F)) (number : ℕ) (packet : SentPacket F) → packet_at es number ≡ Some packet
      → AllFrames P es ↔ (All P packet.frames.items × AllFrames P (without number es))
  taken_frames [] number packet was = absurd (cc)
  taken_frames (e ∷ es) number packet was = elim (cases_Bool (is_at (nat_cmp number) e.0)) [
    | inl here ↦
        let is : e.1 ≡ packet = ap (λ (o : Option (SentPacket F)). unwrap_or o e.1) (sym (ap (λ (b : Bool). cond b (Some e.1) (packet_at es number)) here) ∙ was) in
        rw (here, sym is) (first_frames e es)
    | inr apart ↦
        let there : packet_at es number ≡ Some packet = sym (ap (λ (b : Bool). cond b (Some e.1) (packet_at es number)) apart) ∙ was in
        let rest = taken_frames es number packet there in
        let whole = first_frames e es in
        let left = first_frames e (without number es) in
        rw apart ((
          λ all. let two = whole.0 all in let more = rest.0 two.1 in (more.0, left.1 (two.0, more.1)),
          λ parts. let two = left.0 parts.1 in whole.1 (two.0, rest.1 (parts.0, two.1)),
        ))
  ]

  -- the frames with those of a packet at the end
  pub added_frames : (es : List (ℕ × SentPacket F)) (e : ℕ × SentPacket F) → AllFrames P (es ++ e ∷ []) ↔ (AllFrames P es × All P e.1.frames.items)
  added_frames [] e = (λ all. (All-nil Fine, All-head Fine e [] all), λ parts. All-cons Fine e [] parts.1 (All-nil Fine))
  added_frames (f ∷ es) e =
      let rest = added_frames es e in
      let whole = first_frames f (es ++ e ∷ []) in
      let left = first_frames f es in (
        λ all. let two = whole.0 all in let more = rest.0 two.1 in (left.1 (two.0, more.0), more.1),
        λ parts. let two = left.0 parts.0 in whole.1 (two.0, rest.1 (two.1, parts.1)),
      )
