-- The ack-eliciting packets that are out: sent, and neither acknowledged nor lost (RFC 9002, section 6 and appendix A.1). They
-- are seen as a list of their numbers with what is kept of each, the numbers rising.
use Rattle.std.specs.Prelude.{◌≡◌, ◌⊎◌, ℕ, ◌+◌, ◌-◌, ◌<◌, ◌≤◌, ◌^◌, ◌==◌, min, if◌then◌else◌, List, ◌++◌, ◌∷◌, length, Option, Some}
use Rattle.std.specs.List.{sum_by, All}
use Rattle.std.specs.Ordering.{nat_cmp}
use Rattle.std.specs.BTreeMap.{is_at}
use Rattle.std.specs.Map.{lookup, remove_entry}
use Rattle.qh_base.specs.declared.time.Moment.{Moment}
use Rattle.qh_recovery.specs.declared.sent_packets.SentPacket.{SentPacket}

module _ {F : Type 0} where
  -- the packet with a number; none if it isn't out
  abbrev pub packet_at : List (ℕ × SentPacket F) → (number : ℕ) → Option (SentPacket F)
  packet_at packets number = lookup (is_at (nat_cmp number)) packets

  -- one number has this packet now, or none, and each other number has what it had
  abbrev pub HasInstead : (old new : List (ℕ × SentPacket F)) (number : ℕ) → Option (SentPacket F) → Type 0
  HasInstead old new number packet = (k : ℕ) → packet_at new k ≡ (if k == number then packet else packet_at old k)

  -- all but the packet with a number
  abbrev pub without : (number : ℕ) → List (ℕ × SentPacket F) → List (ℕ × SentPacket F)
  without number packets = remove_entry (is_at (nat_cmp number)) packets

  -- the sum of the sizes (RFC 9002, appendix B.2)
  abbrev pub bytes_in_flight : List (ℕ × SentPacket F) → ℕ
  bytes_in_flight packets = sum_by (λ e. e.1.size) packets

  -- how many frames are kept of all packets
  abbrev pub frame_count : List (ℕ × SentPacket F) → ℕ
  frame_count packets = sum_by (λ e. length e.1.frames.items) packets

  -- a packet stands between those that are left without it
  pub record IsParted (packets : List (ℕ × SentPacket F)) (number : ℕ) (packet : SentPacket F) : Type 0 where
    pub before : List (ℕ × SentPacket F)
    pub after : List (ℕ × SentPacket F)
    pub whole : packets ≡ before ++ (number, packet) ∷ after
    pub rest : without number packets ≡ before ++ after

  -- this holds of each frame in each packet that is out
  abbrev pub AllFrames : (F → Type 0) → List (ℕ × SentPacket F) → Type 0
  AllFrames P packets = All (λ e. All P e.1.frames.items) packets

  -- ---- which packets are out

  -- this holds of no packet that is out
  abbrev pub NoneIs : (ℕ → SentPacket F → Type 0) → List (ℕ × SentPacket F) → Type 0
  NoneIs P packets = (k : ℕ) (q : SentPacket F) → packet_at packets k ≡ Some q → P k q → ⊥

  -- of the packets that are out and of which this holds, it is the one with the least number
  pub record IsLeast (P : ℕ → SentPacket F → Type 0) (packets : List (ℕ × SentPacket F)) (number : ℕ) (packet : SentPacket F) : Type 0 where
    pub is_out : packet_at packets number ≡ Some packet
    pub holds : P number packet
    pub is_least : (k : ℕ) (q : SentPacket F) → packet_at packets k ≡ Some q → P k q → number ≤ k

  -- it is out, and none that is out has a greater number
  pub record IsGreatest (packets : List (ℕ × SentPacket F)) (number : ℕ) (packet : SentPacket F) : Type 0 where
    pub is_out : packet_at packets number ≡ Some packet
    pub is_greatest : (k : ℕ) (q : SentPacket F) → packet_at packets k ≡ Some q → k ≤ number

  -- the moment at which the packet with the greatest number was sent
  pub record IsLastSent (packets : List (ℕ × SentPacket F)) (moment : Moment) : Type 0 where
    pub number : ℕ
    pub packet : SentPacket F
    pub is_last : IsGreatest packets number packet
    pub is_then : moment ≡ packet.time_sent

  -- each number that is out is below this one
  abbrev pub IsNext : (number : ℕ) → List (ℕ × SentPacket F) → Type 0
  IsNext number packets = (k : ℕ) (q : SentPacket F) → packet_at packets k ≡ Some q → k < number

  -- at or above a number
  abbrev pub IsFrom : (number : ℕ) → ℕ → SentPacket F → Type 0
  IsFrom number k q = number ≤ k

  -- below a number
  abbrev pub IsBelow : (number : ℕ) → ℕ → SentPacket F → Type 0
  IsBelow number k q = k < number

  -- in a range of an ACK frame, which has its ends (RFC 9000, section 19.3.1)
  abbrev pub IsWithin : (least greatest : ℕ) → ℕ → SentPacket F → Type 0
  IsWithin least greatest k q = (least ≤ k) × (k ≤ greatest)

  -- ---- loss (RFC 9002, section 6.1)

  -- sent kPacketThreshold packets, which are 3, before one that is acknowledged (section 6.1.1)
  abbrev pub IsReordered : (largest_acked : ℕ) → ℕ → SentPacket F → Type 0
  IsReordered largest_acked k q = k + 3 ≤ largest_acked

  -- sent before one that is acknowledged, and longer ago than the delay (section 6.1.2); no time has passed if it was sent
  -- later than now
  abbrev pub IsOverdue : (largest_acked now delay : ℕ) → ℕ → SentPacket F → Type 0
  IsOverdue largest_acked now delay k q = (k < largest_acked) × (delay < now - q.time_sent.0)

  abbrev pub IsLost : (largest_acked now delay : ℕ) → ℕ → SentPacket F → Type 0
  IsLost largest_acked now delay k q = IsReordered largest_acked k q ⊎ IsOverdue largest_acked now delay k q

  -- the first moment at which it is longer ago than the delay, or the last moment that there is
  abbrev pub overdue_at : (delay : ℕ) → SentPacket F → ℕ
  overdue_at delay q = min (2 ^ 64 - 1) (q.time_sent.0 + delay + 1)

  -- the earliest such moment, of the packets that are out and sent before one that is acknowledged
  pub record IsLossTime (packets : List (ℕ × SentPacket F)) (largest_acked delay moment : ℕ) : Type 0 where
    pub number : ℕ
    pub packet : SentPacket F
    pub is_out : packet_at packets number ≡ Some packet
    pub is_below : number < largest_acked
    pub is_then : moment ≡ overdue_at delay packet
    pub is_earliest : (k : ℕ) (q : SentPacket F) → packet_at packets k ≡ Some q → k < largest_acked → moment ≤ overdue_at delay q
