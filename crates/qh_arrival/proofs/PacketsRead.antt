-- A packet whose number is told by its low four bytes opens, with its number and its frames.
use Rattle.std.proofs.Common.{◌≡◌, ℕ, ◌+◌, ◌/◌, ◌%◌, ◌^◌, ◌<◌, ◌≤◌, Bool, List, ◌∷◌, ◌++◌, length, append_assoc, refl, sym, ap, subst, ◌∙◌, inl, inr, arith}
use Rattle.std.proofs.lemmas.Bool.{cases_lt}
use Rattle.qh_arrival.specs.Taking.{IsTold}
use Rattle.qh_conduct.proofs.PacketsKept.{only_packet}
use Rattle.qh_conduct.specs.Announced.{MakesTags}
use Rattle.qh_conduct.specs.Restarting.{AcceptsWhatIsMade}
use Rattle.qh_core.specs.Progress.{NumberedPacket}
use Rattle.qh_owing.proofs.OwingPackets.{low_value}
use Rattle.qh_owing.specs.Ledger.{IsSentIn}
use Rattle.qh_packet.proofs.Packets.{only_content, parts_of}
use Rattle.qh_packet.specs.Packet.{IsOpened, low_bytes, short_of}
use Rattle.qh_recovery.proofs.PacketNumbers.{expanded, found}
use Rattle.qh_recovery.specs.PacketNumber.{IsCandidate, IsExpanded}
use Rattle.qh_spec.proofs.PacketLaws.{tag_length}
use Rattle.qh_spec.specs.Datagram.{Packet, HasPacket}
use Rattle.qh_spec.specs.Packet.{IsShortPacket, ShortPacket, be_value, short_packet}
use Rattle.qh_spec.specs.declared.sides.Side.{Side}
use Rattle.qh_spec.specs.declared.sides.Space.{Space}
use Rattle.qh_spec.specs.declared.sides.Space.TheVariants.{Data}

-- ---- the number

low_four : (n : ℕ) → be_value (low_bytes n) ≡ n % 2 ^ 32
low_four n = let low = low_value n in omega (arith, low)

-- it lies within half a window of the expected one
record IsNearBy (e n : ℕ) : Type 0 where
  above : e < n + 2 ^ 31
  below : n ≤ e + 2 ^ 31
  expected : e ≤ 2 ^ 62

near_by : (e n : ℕ) → n < 2 ^ 62 → IsTold e n → IsNearBy e n
near_by e n fits (inl same) = record { above = omega (arith, same); below = omega (arith, same); expected = omega (arith, same, fits) }
near_by e n fits (inr small) = record { above = omega (arith, small.1); below = omega (arith, small.0); expected = omega (arith, small.0, small.1) }

candidate_four : (e n : ℕ) → n < 2 ^ 62 → IsCandidate e (be_value (low_bytes n)) 4 n
candidate_four e n fits = let low = low_four n in record { same_low = omega (arith, low); number = λ h. fits }

expanded_four : (e n : ℕ) → n < 2 ^ 62 → IsNearBy e n → IsExpanded e (be_value (low_bytes n)) 4 n
expanded_four e n fits by =
    let low = low_four n in
    let above = by.above in
    let below = by.below in
    expanded e (be_value (low_bytes n)) 4 n (omega arith) (omega arith) (omega (arith, low)) by.expected
    (record {
      steps = elim (cases_lt (n / 2 ^ 32) (e / 2 ^ 32)) [
        | inl under ↦ inr (inr (omega (arith, low, above, below, under)))
        | inr most ↦ elim (cases_lt (e / 2 ^ 32) (n / 2 ^ 32)) [
          | inl over ↦ inr (inl (omega (arith, low, above, below, over), fits))
          | inr least ↦ inl (omega (arith, low, above, below, most, least))
        ]
      ];
      near = inl (omega (arith, above), omega (arith, below));
    })

only_four : (e n m : ℕ) → n < 2 ^ 62 → IsNearBy e n → IsExpanded e (be_value (low_bytes n)) 4 m → m ≡ n
only_four e n m fits by is =
    let above = by.above in
    let below = by.below in
    found e (be_value (low_bytes n)) 4 m n (omega arith) (omega arith) is (candidate_four e n fits) (omega (arith, above)) (omega (arith, below))

-- ---- the packet

module _ (sealed : Side → Space → ℕ → List ℕ) (tags : MakesTags sealed) (from : Side) (own : ℕ) (d : List ℕ) (q : NumberedPacket) (s : IsSentIn sealed from own d q) where
  abbrev id : List ℕ
  id = s.destination

  abbrev tag : List ℕ
  tag = sealed from Data q.number

  -- the number of its packet is that of its tag
  pub number_is : (p : Packet) → HasPacket own p d → p.number ≡ q.number
  number_is p came =
      let there : HasPacket (length id) p d = subst (λ (z : ℕ). HasPacket z p d) (sym s.length_is) came in
      let tagged = tags from q.number s.below in
      let parts = only_content (length id) q.number id s.bytes tag d p refl (tag_length tag from Data q.number tagged) s.is there in
      ap (λ (z : Packet). z.number) (only_packet id from q.number s.bytes tag p.frames tagged parts.1 p (subst (λ (z : List ℕ). HasPacket (length id) p z) s.is there))

  abbrev short : ShortPacket
  short = short_of id q.number s.bytes tag

  whole : d ≡ short_packet short
  whole = s.is ∙ ap (λ (z : List ℕ). 67 ∷ z) (append_assoc id (low_bytes q.number) (s.bytes ++ tag))

  fits : IsShortPacket (length id) short
  fits = record { destination = refl; some_number = omega arith; short_number = omega arith; tag = tag_length tag from Data q.number (tags from q.number s.below) }

  module _ (accepts : Side → Space → ℕ → List ℕ → Bool) (e : ℕ) (told : IsTold e q.number) where
    opens_at : AcceptsWhatIsMade accepts sealed → IsOpened accepts (length id) from e d q.number s.bytes
    opens_at takes = record {
      packet = short;
      is = record { whole = whole; fits = fits };
      expanded = expanded_four e q.number s.below (near_by e q.number s.below told);
      is_number = s.below;
      accepted = takes from q.number s.below;
      frames_are = refl;
    }

    pub opens : AcceptsWhatIsMade accepts sealed → IsOpened accepts own from e d q.number s.bytes
    opens takes = subst (λ (z : ℕ). IsOpened accepts z from e d q.number s.bytes) s.length_is (opens_at takes)

    -- and with no other number, and no other frames
    pub opens_once : (number : ℕ) (frames : List ℕ) → IsOpened accepts own from e d number frames → (number ≡ q.number) × (s.bytes ≡ frames)
    opens_once number frames is =
        let parts = parts_of accepts (length id) from e d short number frames fits whole (subst (λ (z : ℕ). IsOpened accepts z from e d number frames) (sym s.length_is) is) in
        (only_four e q.number number s.below (near_by e q.number s.below told) parts.expanded, parts.frames_are)
