-- The Initial space once a packet was made, or none.
use Rattle.std.proofs.Common.{◌≡◌, ◌⊎◌, ℕ, ◌+◌, ◌-◌, ◌<◌, ◌≤◌, ◌^◌, ◌==◌, nat_le, nat_lt, min, Bool, true, false, ◌&&◌, List, [], ◌∷◌, ◌++◌, length, Some, if◌then◌else◌, refl, sym, ap, ◌∙◌, arith, inl, inr, subst}
use Rattle.std.specs.Bool.{MatchBool}
use Rattle.std.proofs.lemmas.Bool.{cases_Bool, eqb-true, eq-eqb, both_ways, le-leb}
use Rattle.std.proofs.lemmas.List.{append-nil, length-append}
use Rattle.qh_base.specs.declared.time.Moment.{Moment}
use Rattle.qh_frame.specs.FrameBytes.{frame_bytes}
use Rattle.qh_handshake.specs.InitialSpace.{IsInitialSpace}
use Rattle.qh_handshake.specs.Sending.{IsAckFirst, IsPacketMade, IsQuiet, bytes_if, counted, eliciting_bytes, hello_frame_bytes, hello_if, is_waiting, ping_bytes, writes_hello}
use Rattle.qh_handshake.specs.Settled.{IsHelloOut, Packets, bears_hello}
use Rattle.qh_handshake.specs.declared.initial_space.HelloFrame.{HelloFrame}
use Rattle.qh_handshake.specs.declared.initial_space.HelloState.{HelloState}
use Rattle.qh_handshake.specs.declared.initial_space.HelloState.TheVariants.{Waits, Out}
use Rattle.qh_handshake.specs.declared.initial_space.InitialSpace.{InitialSpace}
use Rattle.qh_recovery.specs.SentPackets.{packet_at, HasInstead, IsNext}
use Rattle.qh_recovery.specs.declared.sent_packets.SentPacket.{SentPacket}
use Rattle.qh_spec.specs.Greeted.{crypto_frame}
use Rattle.qh_spec.specs.QuicFrames.{IsQuicFrame}
use Rattle.qh_spec.specs.Varint.{varint}

-- a packet that is out is the last one, or was out before
last_or_before : (old new : Packets) (number : ℕ) (packet : SentPacket HelloFrame) → HasInstead old new number (Some packet) → (k : ℕ) (q : SentPacket HelloFrame) → packet_at new k ≡ Some q
    → (k ≡ number) ⊎ (packet_at old k ≡ Some q)
last_or_before old new number packet has k q there = elim (cases_Bool (k == number)) [
  | inl same ↦ inl (eqb-true k number same)
  | inr apart ↦ inr (ap (λ (b : Bool). if b then Some packet else packet_at old k) (sym apart) ∙ (sym (has k) ∙ there))
]

-- the last one is out
last_out : (old new : Packets) (number : ℕ) (packet : SentPacket HelloFrame) → HasInstead old new number (Some packet) → packet_at new number ≡ Some packet
last_out old new number packet has = has number ∙ ap (λ (b : Bool). if b then Some packet else packet_at old number) (eq-eqb number number refl)

-- and those that were
still_out : (old new : Packets) (number : ℕ) (packet : SentPacket HelloFrame) → HasInstead old new number (Some packet) → IsNext number old → IsHelloOut old → IsHelloOut new
still_out old new number packet has next out = record {
  number = out.number;
  packet = out.packet;
  is_out = elim (cases_Bool (out.number == number)) [
    | inl same ↦
        let less = next out.number out.packet out.is_out in
        let is = eqb-true out.number number same in
        absurd (omega (arith, less, is))
    | inr apart ↦ has out.number ∙ (ap (λ (b : Bool). if b then Some packet else packet_at old out.number) apart ∙ out.is_out)
  ];
  bears = out.bears;
}

-- the hello is out if the last packet bears it, or it was out
hello_out : (old new : Packets) (number : ℕ) (packet : SentPacket HelloFrame) (has_hello : Bool) (state : HelloState) → HasInstead old new number (Some packet) → IsNext number old
    → has_hello ≡ bears_hello packet → (state ≡ Out → IsHelloOut old) → (if has_hello then Out else state) ≡ Out → IsHelloOut new
hello_out old new number packet true state has next bears out e = record { number = number; packet = packet; is_out = last_out old new number packet has; bears = sym bears }
hello_out old new number packet false state has next bears out e = still_out old new number packet has next (out e)

-- the space once a packet was made
abbrev pub once_made : InitialSpace → SentPacket HelloFrame → (is_eliciting has_hello : Bool) → (now : Moment) → InitialSpace
once_made s packet is_eliciting has_hello now = record (counted s packet is_eliciting has_hello) { acks = record s.acks { is_due = false }; last_active = now }

pub space_made : (s : InitialSpace) (packet : SentPacket HelloFrame) (is_eliciting has_hello : Bool) (now : Moment) → IsInitialSpace s → s.next_number < 2 ^ 62 → has_hello ≡ bears_hello packet
    → (is_eliciting ≡ true → HasInstead s.sent (s.sent ++ (s.next_number, packet) ∷ []) s.next_number (Some packet)) → IsInitialSpace (once_made s packet is_eliciting has_hello now)
space_made s packet true has_hello now space below bears has = record {
  out = hello_out s.sent _ s.next_number packet has_hello s.state (has refl) space.next bears space.out;
  next = λ k q there. elim (last_or_before s.sent _ s.next_number packet (has refl) k q there) [
    | inl same ↦ omega (arith, same)
    | inr before ↦ let less = space.next k q before in omega (arith, less)
  ];
  bound = omega (arith, below);
  acked = λ n is. let less = space.acked n is in omega (arith, less);
  in_order = λ n is k q there late. elim (last_or_before s.sent _ s.next_number packet (has refl) k q there) [
    | inl same ↦ let less = space.acked n is in absurd (omega (arith, same, less, late))
    | inr before ↦ space.in_order n is k q before late
  ];
  due = λ e. absurd (both_ways false refl e);
  short = space.short;
}
space_made s packet false has_hello now space below bears has = record {
  out = space.out;
  next = λ k q there. let less = space.next k q there in omega (arith, less);
  bound = omega (arith, below);
  acked = λ n is. let less = space.acked n is in omega (arith, less);
  in_order = space.in_order;
  due = λ e. absurd (both_ways false refl e);
  short = space.short;
}

-- ---- how the packet is counted

-- the number is taken, and no ACK is due
abbrev pub numbered : InitialSpace → (now : Moment) → InitialSpace
numbered s now = record s { acks = record s.acks { is_due = false }; next_number = s.next_number + 1; last_active = now }

-- the packet isn't ack-eliciting
pub made_bare : (s : InitialSpace) (packet : SentPacket HelloFrame) (is_eliciting has_hello : Bool) (now : Moment) → is_eliciting ≡ false → numbered s now ≡ once_made s packet is_eliciting has_hello now
made_bare s packet true has_hello now e = absurd (both_ways true e refl)
made_bare s packet false has_hello now e = refl

-- one that is out
abbrev pub eliciting : InitialSpace → (has_hello : Bool) → InitialSpace
eliciting s has_hello = record s {
  state = (if has_hello then Out else s.state);
  is_ping_due = false;
  is_probe_due = false;
  pto_count = (if s.is_probe_due then min (2 ^ 32 - 1) (s.pto_count + 1) else s.pto_count);
  probes_sent = (if s.is_probe_due then min (2 ^ 64 - 1) (s.probes_sent + 1) else s.probes_sent);
}

module _ (s mid new : InitialSpace) (sent : Packets) (packet : SentPacket HelloFrame) (is_eliciting has_hello : Bool) (now : Moment)
    (eliciting_is : is_eliciting ≡ true) (hello_is : has_hello ≡ bears_hello packet) (sent_is : sent ≡ s.sent ++ (s.next_number, packet) ∷ [])
    (mid_is : mid ≡ eliciting (record s { sent = sent }) has_hello) (new_is : new ≡ numbered mid now) where
  pub made_eliciting : new ≡ once_made s packet is_eliciting (bears_hello packet) now
  made_eliciting =
      new_is
      ∙ ap (λ (m : InitialSpace). numbered m now) mid_is
      ∙ ap (λ (l : Packets). numbered (eliciting (record s { sent = l }) has_hello) now) sent_is
      ∙ ap (λ (b : Bool). once_made s packet true b now) hello_is
      ∙ ap (λ (b : Bool). once_made s packet b (bears_hello packet) now) (sym eliciting_is)

  pub eliciting_space : HasInstead s.sent sent s.next_number (Some packet) → IsInitialSpace s → s.next_number < 2 ^ 62 → IsInitialSpace new
  eliciting_space has space below = subst IsInitialSpace (sym made_eliciting) (space_made s packet is_eliciting (bears_hello packet) now space below refl
      (λ _. subst (λ (l : Packets). HasInstead s.sent l s.next_number (Some packet)) sent_is has))

-- ---- what the packet is

ping_some : 0 < length ping_bytes
unfolding frame_bytes varint
ping_some = omega arith

pub same_test : (a b c d : ℕ) → a ≡ c → b ≡ d → nat_lt a b ≡ nat_lt c d
same_test a b c d first second = ap (λ (n : ℕ). nat_lt n b) first ∙ ap (λ (n : ℕ). nat_lt c n) second

is_nil : (ns : List ℕ) → length ns ≡ 0 → ns ≡ []
is_nil [] e = refl
is_nil (n ∷ ns) e = absurd (omega (arith, e))

in_match : (b : Bool) (P Q : Type 0) → MatchBool b P Q → b ≡ false → Q
in_match true P Q both e = absurd (both_ways true e refl)
in_match false P Q both e = both

-- whether the packet bears the hello
pub bears_if : (b : Bool) (frames : List HelloFrame) → frames ≡ hello_if b → nat_lt 0 (length frames) ≡ b
bears_if true frames is = ap (λ (l : List HelloFrame). nat_lt 0 (length l)) is
bears_if false frames is = ap (λ (l : List HelloFrame). nat_lt 0 (length l)) is

module _ (now : Moment) (room left : ℕ) (old : InitialSpace) (out_old out_mid out_new : List ℕ) (frames : List HelloFrame)
    (wide : 532 ≤ room) (space : IsInitialSpace old) (left_is : left ≡ room - (length out_mid - length out_old)) (ack : IsAckFirst old out_old out_mid)
    (acked : old.acks.is_due ≡ true → length out_old < length out_mid) (ack_fits : (length out_old ≤ length out_mid) × (length out_mid ≤ length out_old + 515))
    (put : out_new ≡ out_mid ++ eliciting_bytes old left) (hello : frames ≡ hello_if (writes_hello old (left - length (bytes_if old.is_ping_due ping_bytes))))
    (fits : length (eliciting_bytes old left) ≤ left) where
  sum : length out_new ≡ length out_mid + length (eliciting_bytes old left)
  sum = ap length put ∙ length-append out_mid (eliciting_bytes old left)

  pub packet_made : (new : InitialSpace) (packet : SentPacket HelloFrame) (is_eliciting : Bool) → packet.frames.items ≡ frames → packet.time_sent ≡ now → packet.size ≡ 1200
      → is_eliciting ≡ nat_lt (length out_mid) (length out_new) → new ≡ once_made old packet is_eliciting (nat_lt 0 (length frames)) now → (length out_new ≡ length out_old → ⊥)
      → (nat_lt 0 (length frames) ≡ true → (rest : List ℕ) → IsQuicFrame (hello_frame_bytes old.hello ++ rest) (crypto_frame 0 old.hello) rest)
      → IsPacketMade now room old new out_old out_new is_eliciting
  packet_made new packet is_eliciting frames_is time_is size_is eliciting_is new_is some read_back =
      let has_is = ap (λ (l : List HelloFrame). nat_lt 0 (length l)) frames_is in
      record {
        out_mid = out_mid;
        packet = packet;
        ack = ack;
        whole = rw left_is at put;
        eliciting_is = eliciting_is;
        hello_is = frames_is ∙ (rw left_is at hello);
        new_is = new_is ∙ ap (λ (b : Bool). once_made old packet is_eliciting b now) (sym has_is);
        time_is = time_is;
        size_is = size_is;
        some = omega (arith, sum, some, ack_fits);
        fits = omega (arith, sum, fits, ack_fits, left_is, wide);
        read_back = λ e. read_back (sym has_is ∙ e);
      }

  module _ (some : nat_lt 0 (length frames) ≡ true → 0 < length (eliciting_bytes old left)) (none : length out_new ≡ length out_old) where
    no_bytes : length (eliciting_bytes old left) ≡ 0
    no_bytes = omega (arith, sum, none, ack_fits)

    not_due : old.acks.is_due ≡ false
    not_due = elim (cases_Bool old.acks.is_due) [
      | inl due ↦ let more = acked due in absurd (omega (arith, more, sum, none))
      | inr not ↦ not
    ]

    no_ping : old.is_ping_due ≡ false
    no_ping = elim (cases_Bool old.is_ping_due) [
      | inl due ↦
          let both = length-append (bytes_if old.is_ping_due ping_bytes) (bytes_if (writes_hello old (left - length (bytes_if old.is_ping_due ping_bytes))) (hello_frame_bytes old.hello)) in
          let one = ap (λ (b : Bool). length (bytes_if b ping_bytes)) due in
          absurd (omega (arith, both, one, ping_some, no_bytes))
      | inr not ↦ not
    ]

    no_hello : old.state ≡ Waits → ⊥
    no_hello waits =
        let bytes = ap (λ (b : Bool). length (bytes_if b ping_bytes)) no_ping in
        let short = space.short in
        let enough : 17 + length old.hello ≤ left - length (bytes_if old.is_ping_due ping_bytes) = omega (arith, bytes, short, wide, left_is, sum, none, ack_fits) in
        let writes : writes_hello old (left - length (bytes_if old.is_ping_due ping_bytes)) ≡ true =
        ap (λ (st : HelloState). is_waiting st && nat_le (17 + length old.hello) (left - length (bytes_if old.is_ping_due ping_bytes))) waits ∙ le-leb _ _ enough in
        let more = some (bears_if _ frames hello ∙ writes) in
        omega (arith, more, no_bytes)

    -- nothing was to be sent
    pub none_made : (out_new ≡ out_old) × (old ≡ old) × ((old.next_number ≡ 2 ^ 62) ⊎ IsQuiet old)
    none_made = (
      put ∙ ap (λ (l : List ℕ). out_mid ++ l) (is_nil (eliciting_bytes old left) no_bytes) ∙ append-nil out_mid ∙ in_match old.acks.is_due _ _ ack not_due,
      refl,
      inr (record { ack = not_due; ping = no_ping; hello = no_hello }),
    )
