-- The space once a packet was made, or none.
use Rattle.std.proofs.Common.{◌≡◌, ◌⊎◌, ℕ, ◌+◌, ◌-◌, ◌<◌, ◌≤◌, ◌^◌, ◌==◌, nat_lt, Bool, true, false, List, [], ◌∷◌, ◌++◌, length, Option, Some, None, if◌then◌else◌, refl, sym, ap, ◌∙◌, arith, inl, inr, subst}
use Rattle.std.specs.Bool.{MatchBool}
use Rattle.std.proofs.lemmas.Bool.{cases_Bool, eqb-true, both_ways}
use borrow.Author.Tests.{ltb-true, ltb-false}
use Rattle.std.proofs.lemmas.List.{append-nil, length-append}
use Rattle.qh_loss.specs.Owed.{AreOwed, frames_out}
use Rattle.qh_loss.proofs.FramesOut.{Packets, frames_more, sent_owed}
use Rattle.qh_recovery.specs.PendingAcks.{PlainPendingAcks}
use Rattle.qh_recovery.specs.SentPackets.{packet_at, HasInstead}
use Rattle.qh_recovery.specs.declared.sent_packets.SentPacket.{SentPacket}
use Rattle.qh_space.specs.Sending.{may_elicit, due_bytes, with_sent, AreElicitingPut, IsAckFirst, IsPacketMade, IsQuiet}
use Rattle.qh_space.specs.Space.{IsSpace}
use Rattle.qh_space.specs.declared.data_space.DataSpace.{DataSpace}
use Rattle.qh_space.proofs.PacketFrames.{none_written_by, same_by}
use Rattle.qh_streams.specs.Streams.{PlainStreams, AreAllOut, AreShared, IsIdle, KeepsOut}
use Rattle.qh_streams.specs.Tracked.{AreTracked}
use Rattle.qh_streams.specs.declared.frames.SentFrame.{SentFrame}

nothing_appended : (front more whole : List ℕ) → whole ≡ front ++ more → length whole ≤ length front → whole ≡ front
nothing_appended front [] whole e short = e ∙ append-nil front
nothing_appended front (n ∷ ns) whole e short =
    let sum = ap length e ∙ length-append front (n ∷ ns) in
    absurd (omega (arith, sum, short))

by_match : (b : Bool) (P Q : Type 0) → (b ≡ true → P) → (b ≡ false → Q) → MatchBool b P Q
by_match true P Q if_true if_false = if_true refl
by_match false P Q if_true if_false = if_false refl

in_match : (b : Bool) (P Q : Type 0) → MatchBool b P Q → b ≡ false → Q
in_match true P Q both e = absurd (both_ways true e refl)
in_match false P Q both e = both

-- a packet that is out is the last one, or was out before
last_or_before : (old new : Packets) (number : ℕ) (packet : SentPacket SentFrame) → HasInstead old new number (Some packet) → (k : ℕ) (q : SentPacket SentFrame) → packet_at new k ≡ Some q
    → (k ≡ number) ⊎ (packet_at old k ≡ Some q)
last_or_before old new number packet has k q there = elim (cases_Bool (k == number)) [
  | inl same ↦ inl (eqb-true k number same)
  | inr apart ↦ inr (ap (λ (b : Bool). if b then Some packet else packet_at old k) (sym apart) ∙ (sym (has k) ∙ there))
]

-- without a frame nothing more is owed
owed_without : (s : PlainStreams) (packets : Packets) (number : ℕ) (packet : SentPacket SentFrame) → packet.frames.items ≡ [] → AreOwed s (packets ++ (number, packet) ∷ []) → AreOwed s packets
owed_without s packets number packet none owed =
    let same : frames_out (packets ++ (number, packet) ∷ []) ≡ frames_out packets = frames_more packets number packet ∙ (ap (λ (l : List SentFrame). frames_out packets ++ l) none ∙ append-nil (frames_out packets)) in
    record {
      tracked = subst (λ (l : List SentFrame). AreTracked s l) same owed.tracked;
      out = subst (λ (l : List SentFrame). AreAllOut s l) same owed.out;
    }

-- nor with one that has none
owed_with : (s : PlainStreams) (packets : Packets) (number : ℕ) (packet : SentPacket SentFrame) → packet.frames.items ≡ [] → AreOwed s packets → AreOwed s (packets ++ (number, packet) ∷ [])
owed_with s packets number packet none owed =
    let same : frames_out (packets ++ (number, packet) ∷ []) ≡ frames_out packets = frames_more packets number packet ∙ (ap (λ (l : List SentFrame). frames_out packets ++ l) none ∙ append-nil (frames_out packets)) in
    record {
      tracked = subst (λ (l : List SentFrame). AreTracked s l) (sym same) owed.tracked;
      out = subst (λ (l : List SentFrame). AreAllOut s l) (sym same) owed.out;
    }

-- the space once a packet was sent of which nothing is kept
pub bare_space : (old new : DataSpace) (packet : SentPacket SentFrame) → packet.frames.items ≡ [] → IsSpace old → old.next_number < 2 ^ 62 → new ≡ with_sent old packet true
    → HasInstead old.sent new.sent old.next_number (Some packet) → IsSpace new
bare_space old new packet none space below is has =
    let has_packet : HasInstead old.sent (old.sent ++ (old.next_number, packet) ∷ []) old.next_number (Some packet) = subst (λ (l : Packets). HasInstead old.sent l old.next_number (Some packet)) (ap (λ (s : DataSpace). s.sent) is) has in
    subst (λ (m : DataSpace). IsSpace m) (sym is) (record {
      owed = owed_with old.streams old.sent old.next_number packet none space.owed;
      next = λ k q there. elim (last_or_before old.sent _ old.next_number packet has_packet k q there) [
        | inl same ↦ omega (arith, same)
        | inr before ↦ let less = space.next k q before in omega (arith, less)
      ];
      bound = omega (arith, below);
      acked = λ n e. let less = space.acked n e in omega (arith, less);
      in_order = λ n e k q there late. elim (last_or_before old.sent _ old.next_number packet has_packet k q there) [
        | inl same ↦ let less = space.acked n e in absurd (omega (arith, same, less, late))
        | inr before ↦ space.in_order n e k q before late
      ];
      due = space.due;
    })

-- the packets that are out once this one was made
abbrev pub with_packet : Packets → (number : ℕ) → SentPacket SentFrame → Bool → Packets
with_packet packets number packet true = packets ++ (number, packet) ∷ []
with_packet packets number packet false = packets

abbrev pub sent_acks : PlainPendingAcks → PlainPendingAcks
sent_acks acks = record acks { is_due = false }

module _ (old : DataSpace) (streams : PlainStreams) (ping : Bool) (response : Option (List ℕ)) (packet : SentPacket SentFrame) (space : IsSpace old) where
  -- it is a space afterwards
  space_after : (b : Bool) → old.next_number < 2 ^ 62 → AreOwed streams (with_packet old.sent old.next_number packet b)
      → (b ≡ true → HasInstead old.sent (with_packet old.sent old.next_number packet b) old.next_number (Some packet))
      → IsSpace (record (with_sent (record old { streams = streams; is_ping_due = ping; path_response = response }) packet b) { acks = sent_acks old.acks })
  space_after true below owed has = record {
    owed = owed;
    next = λ k q there. elim (last_or_before old.sent _ old.next_number packet (has refl) k q there) [
      | inl same ↦ omega (arith, same)
      | inr before ↦ let less = space.next k q before in omega (arith, less)
    ];
    bound = omega (arith, below);
    acked = λ n is. let less = space.acked n is in omega (arith, less);
    in_order = λ n is k q there late. elim (last_or_before old.sent _ old.next_number packet (has refl) k q there) [
      | inl same ↦ let less = space.acked n is in absurd (omega (arith, same, less, late))
      | inr before ↦ space.in_order n is k q before late
    ];
    due = λ e. absurd (both_ways false refl e);
  }
  space_after false below owed has = record {
    owed = owed;
    next = λ k q there. let less = space.next k q there in omega (arith, less);
    bound = omega (arith, below);
    acked = λ n is. let less = space.acked n is in omega (arith, less);
    in_order = space.in_order;
    due = λ e. absurd (both_ways false refl e);
  }

has_same : (old old' new new' : Packets) (number number' : ℕ) (packet : SentPacket SentFrame) → old ≡ old' → new ≡ new' → number ≡ number' → HasInstead old new number (Some packet)
    → HasInstead old' new' number' (Some packet)
has_same old old' new new' number number' packet same_old same_new same_number has = rw (← same_old, ← same_new, ← same_number) has

-- the space once this packet was made
abbrev pub once_made : DataSpace → SentPacket SentFrame → Bool → DataSpace
once_made s packet b = record (with_sent s packet b) { acks = sent_acks s.acks }

sent_once : (s : DataSpace) (packet : SentPacket SentFrame) (b : Bool) → (once_made s packet b).sent ≡ with_packet s.sent s.next_number packet b
sent_once s packet true = refl
sent_once s packet false = refl

module _ (room : ℕ) (old mid : DataSpace) (out_mid out_new : List ℕ) (packet : SentPacket SentFrame)
    (put : may_elicit old ≡ true → AreElicitingPut room old mid out_mid out_new packet.frames.items) (none : may_elicit old ≡ false → (mid ≡ old) × (out_new ≡ out_mid)) where
  -- only the streams and what was due are others
  mid_is : mid ≡ record old { streams = mid.streams; is_ping_due = mid.is_ping_due; path_response = mid.path_response }
  mid_is = elim (cases_Bool (may_elicit old)) [
    | inl may ↦ rw ((put may).rest_is) refl
    | inr not ↦ rw ((none not).0) refl
  ]

  -- the next number stays until the packet is counted
  pub next_kept : mid.next_number ≡ old.next_number
  next_kept = ap (λ (m : DataSpace). m.next_number) mid_is

  none_appended : length out_new ≤ length out_mid → out_new ≡ out_mid
  none_appended short = elim (cases_Bool (may_elicit old)) [
    | inl may ↦
        let written = (put may).streams in
        let due = due_bytes old in
        let first = length-append out_mid due in
        let whole = nothing_appended (out_mid ++ due) written.bytes out_new written.out_is (omega (arith, first, short)) in
        nothing_appended out_mid due out_new whole short
    | inr not ↦ (none not).1
  ]

  no_frames : may_elicit old ≡ true → length out_new ≤ length out_mid → packet.frames.items ≡ []
  no_frames may short =
      let due = due_bytes old in
      let first = length-append out_mid due in
      none_written_by (room - length due) old.streams mid.streams (out_mid ++ due) out_new packet.frames.items (put may).streams (omega (arith, first, short))

  streams_same : length out_new ≤ length out_mid → mid.streams ≡ old.streams
  streams_same short = elim (cases_Bool (may_elicit old)) [
    | inl may ↦
        let due = due_bytes old in
        let first = length-append out_mid due in
        same_by (room - length due) old.streams mid.streams (out_mid ++ due) out_new packet.frames.items (put may).streams (omega (arith, first, short))
    | inr not ↦ ap (λ (m : DataSpace). m.streams) (none not).0
  ]

  module _ (owed : AreOwed old.streams old.sent) (out : AreAllOut mid.streams packet.frames.items) (keeps : KeepsOut old.streams mid.streams) where
    owed_out : (number : ℕ) → may_elicit old ≡ true → AreOwed mid.streams (old.sent ++ (number, packet) ∷ [])
    owed_out number may =
        let due = due_bytes old in
        sent_owed (room - length due) old.streams mid.streams (out_mid ++ due) out_new number packet old.sent (put may).streams out keeps owed

    pub owed_still : length out_new ≤ length out_mid → AreOwed mid.streams old.sent
    owed_still short = elim (cases_Bool (may_elicit old)) [
      | inl may ↦ owed_without mid.streams old.sent 0 packet (no_frames may short) (owed_out 0 may)
      | inr not ↦ rw ((none not).0) owed
    ]

    owed_after : (number : ℕ) (b : Bool) → b ≡ nat_lt (length out_mid) (length out_new) → AreOwed mid.streams (with_packet old.sent number packet b)
    owed_after number true e = elim (cases_Bool (may_elicit old)) [
      | inl may ↦ owed_out number may
      | inr not ↦ let same = ap length ((none not).1) in let less = ltb-true (length out_mid) (length out_new) (sym e) in absurd (omega (arith, same, less))
    ]
    owed_after number false e = owed_still (ltb-false (length out_mid) (length out_new) (sym e))

  module _ (new : DataSpace) (below : old.next_number < 2 ^ 62) (from to : ℕ) (from_is : from ≡ length out_mid) (to_is : to ≡ length out_new)
      (new_is : new ≡ once_made mid packet (nat_lt from to)) (has : nat_lt from to ≡ true → HasInstead mid.sent new.sent mid.next_number (Some packet)) where
    -- a packet was made, and it is a space afterwards
    pub space_made : IsSpace old → AreAllOut mid.streams packet.frames.items → KeepsOut old.streams mid.streams → IsSpace new
    space_made space out keeps =
        let b = nat_lt from to in
        let less : DataSpace = record old { streams = mid.streams; is_ping_due = mid.is_ping_due; path_response = mid.path_response } in
        let is : new ≡ once_made less packet b = new_is ∙ ap (λ (m : DataSpace). once_made m packet b) mid_is in
        let sent_is : new.sent ≡ with_packet old.sent old.next_number packet b = ap (λ (m : DataSpace). m.sent) is ∙ sent_once less packet b in
        subst (λ (m : DataSpace). IsSpace m) (sym is)
        (space_after old mid.streams mid.is_ping_due mid.path_response packet space b below (owed_after space.owed out keeps old.next_number b (ap (λ (n : ℕ). nat_lt n to) from_is ∙ ap (λ (n : ℕ). nat_lt (length out_mid) n) to_is))
        (λ e. has_same mid.sent old.sent new.sent (with_packet old.sent old.next_number packet b) mid.next_number old.next_number packet
        (ap (λ (m : DataSpace). m.sent) mid_is) sent_is (ap (λ (m : DataSpace). m.next_number) mid_is) (has e)))

    -- what the packet is
    pub packet_made : (now overhead most : ℕ) (out_old : List ℕ) → IsAckFirst old out_old out_mid → room ≡ most - (length out_mid - length out_old) → packet.time_sent.0 ≡ now
        → packet.size ≡ overhead + (length out_new - length out_old) → length out_old < length out_new → length out_new ≤ length out_old + most
        → (1143 ≤ most → may_elicit old ≡ true → AreShared old.streams mid.streams packet.frames.items) → IsPacketMade now overhead most old new out_old out_new
    packet_made now overhead most out_old ack room_is time_is size_is some fits shared = record {
      out_mid = out_mid;
      mid = mid;
      packet = packet;
      ack = ack;
      eliciting = rw (← room_is) (by_match (may_elicit old) _ _ put none);
      new_is = (rw (from_is, to_is) at new_is) ∙ ap (λ (a : PlainPendingAcks). record (with_sent mid packet (nat_lt (length out_mid) (length out_new))) { acks = sent_acks a }) (ap (λ (m : DataSpace). m.acks) mid_is);
      time_is = time_is;
      size_is = size_is;
      some = some;
      fits = fits;
      shared = shared;
    }

  module _ (out_old : List ℕ) (ack : IsAckFirst old out_old out_mid) (some : old.acks.is_due ≡ true → length out_old < length out_mid) (grown : length out_mid ≤ length out_new)
      (none_out : length out_new ≤ length out_old) where
    not_due : old.acks.is_due ≡ false
    not_due = elim (cases_Bool old.acks.is_due) [
      | inl due ↦ let more = some due in absurd (omega (arith, more, grown, none_out))
      | inr not ↦ not
    ]

    no_ack : out_mid ≡ out_old
    no_ack = in_match old.acks.is_due _ _ ack not_due

    still : out_new ≡ out_mid
    still = let same = ap length no_ack in none_appended (omega (arith, same, none_out))

    -- no packet was made, and the streams are as they were
    streams_still : mid.streams ≡ old.streams
    streams_still = let short = ap length still in streams_same (omega (arith, short))

    -- no packet was made, and it is a space afterwards
    pub space_kept : IsSpace old → AreAllOut mid.streams packet.frames.items → KeepsOut old.streams mid.streams → IsSpace mid
    space_kept space out keeps =
        let short = ap length still in
        let owed = owed_still space.owed out keeps (omega (arith, short)) in
        subst (λ (m : DataSpace). IsSpace m) (sym mid_is) (record {
          owed = owed;
          next = space.next;
          bound = space.bound;
          acked = space.acked;
          in_order = space.in_order;
          due = space.due;
        })

    module _ (idle : out_new ≡ out_mid → may_elicit old ≡ true → (old.is_ping_due ≡ false) × (old.path_response ≡ None) × IsIdle mid.streams) where
      -- nothing changed
      same : mid ≡ old
      same = elim (cases_Bool (may_elicit old)) [
        | inl may ↦
            let was = idle still may in
            (put may).rest_is
            ∙ (ap (λ (p : Bool). record old { streams = mid.streams; is_ping_due = p; path_response = None }) (sym was.0)
            ∙ (ap (λ (r : Option (List ℕ)). record old { streams = mid.streams; path_response = r }) (sym was.1)
            ∙ ap (λ (s : PlainStreams). record old { streams = s }) streams_still))
        | inr not ↦ (none not).0
      ]

      quiet : IsQuiet old
      quiet = record {
        ack = not_due;
        ping = λ may. (idle still may).0;
        response = λ may. (idle still may).1;
        streams = λ may. subst IsIdle streams_still (idle still may).2;
      }

      -- nothing was to be sent
      pub none_made : (out_new ≡ out_old) × (mid ≡ old) × ((old.next_number ≡ 2 ^ 62) ⊎ IsQuiet old)
      none_made = (still ∙ no_ack, same, inr quiet)
