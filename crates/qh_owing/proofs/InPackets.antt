-- What counts as sent of the sending halves stands in packets that are out, by their numbers.
use Rattle.std.proofs.Common.{◌≡◌, ◌⊎◌, ℕ, ◌+◌, ◌<◌, nat_lt, nat_cmp, cond, Bool, true, false, List, [], ◌∷◌, ◌++◌, length, Option, Some, None, unwrap_or, refl, sym, ap, subst, ◌∙◌, inl, inr, arith}
use Rattle.std.specs.Prelude.{MatchBool}
use Rattle.std.specs.BTreeMap.{is_at}
use Rattle.std.proofs.lemmas.Bool.{cases_Bool, ltb-false}
use Rattle.std.proofs.lemmas.List.{length-append}
use Rattle.qh_loss.specs.Owed.{frames_out}
use Rattle.qh_loss.specs.Settled.{AreTaken}
use Rattle.qh_owing.specs.Owing.{AreInPackets, IsInPacket}
use Rattle.qh_recovery.specs.SentPackets.{IsNext, packet_at}
use Rattle.qh_recovery.specs.declared.sent_packets.SentPacket.{SentPacket}
use Rattle.qh_space.proofs.PacketFrames.{none_written_by}
use Rattle.qh_space.specs.Sending.{AreElicitingPut, due_bytes}
use Rattle.qh_space.specs.declared.data_space.DataSpace.{DataSpace}
use Rattle.qh_spec.proofs.Members.{in_left, in_more, in_right}
use Rattle.qh_spec.specs.Lists.{In}
use Rattle.qh_streams.proofs.StreamsTracked.{Has, HasOfHalf, IsSent, Keeps, OfHalf, Owed, byte, end, end_sent, is_end_sent, is_reset_sent, reset, reset_sent, sender}
use Rattle.qh_streams.proofs.StreamsTrackedSettled.{acked_drops, lost_drops}
use Rattle.qh_streams.proofs.StreamsTrackedSteps.{written_adds}
use Rattle.qh_streams.specs.Streams.{PlainStreams, AreAcked, AreLost, AreWritten}
use Rattle.qh_streams.specs.Streams.AreAcked.{none as none_acked, more as more_acked}
use Rattle.qh_streams.specs.Streams.AreLost.{none as none_lost, more as more_lost}
use Rattle.qh_streams.specs.Streams.AreWritten.{none as none_written, more as more_written}
use Rattle.qh_streams.specs.Tracked.{HasReset}
use Rattle.qh_streams.specs.declared.frames.SentFrame.{SentFrame}

abbrev pub Packets : Type 0
Packets = List (ℕ × SentPacket SentFrame)

-- ---- told by what a half has

abbrev pub Stand : PlainStreams → Packets → Type 0
Stand s packets = (id : ℕ) (o : OfHalf) → IsSent s (sender id o) → IsInPacket (HasOfHalf id o) packets

pub stands : (s : PlainStreams) (packets : Packets) (next : ℕ) → AreInPackets s packets next → Stand s packets
stands s packets next p id (byte n) w = p.bytes id n w.half w.is w.sent.0 w.sent.1
stands s packets next p id end w = p.ends id w.half w.is (end_sent w.half.state w.sent)
stands s packets next p id reset w = reset_sent w.half.state (IsInPacket (HasReset id) packets) w.sent (λ code e. p.resets id code w.half w.is e)

pub in_packets : (s : PlainStreams) (packets : Packets) (next : ℕ) → Stand s packets → IsNext next packets → AreInPackets s packets next
in_packets s packets next all below = record {
  bytes = λ id n h is live mark. all id (byte n) (record { half = h; is = is; sent = (live, mark) });
  ends = λ id h is e. all id end (record { half = h; is = is; sent = ap is_end_sent e });
  resets = λ id code h is e. all id reset (record { half = h; is = is; sent = ap is_reset_sent e });
  below = below;
}

-- what counts as sent of a half did so before
abbrev pub SendsNoMore : (old new : PlainStreams) → Type 0
SendsNoMore old new = (id : ℕ) (o : OfHalf) → IsSent new (sender id o) → IsSent old (sender id o)

pub no_more : (old new : PlainStreams) → Keeps old new → SendsNoMore old new
no_more old new keeps id o w = keeps (sender id o) w

pub kept_in : (old new : PlainStreams) (packets : Packets) (next : ℕ) → SendsNoMore old new → AreInPackets old packets next → AreInPackets new packets next
kept_in old new packets next less p = in_packets new packets next (λ id o w. stands old packets next p id o (less id o w)) p.below

-- ---- frames that are acknowledged or lost

-- what counts as sent then did so before, and isn't in these frames
abbrev pub Leaves : (old new : PlainStreams) → List SentFrame → Type 0
Leaves old new fs = (o : Owed) → IsSent new o → IsSent old o × ((f : SentFrame) → In f fs → Has o f → ⊥)

leaves_more : (old mid new : PlainStreams) (front : List SentFrame) (f : SentFrame) → Leaves old mid front → ((o : Owed) → IsSent new o → IsSent mid o × (Has o f → ⊥)) → Leaves old new (front ++ f ∷ [])
leaves_more old mid new front f before last o w =
    let d = last o w in
    let r = before o d.0 in (
      r.0,
      λ g among has. elim (in_more g f front among) [
        | inl earlier ↦ r.1 g earlier has
        | inr same ↦ d.1 (subst (λ (x : SentFrame). Has o x) (sym same) has)
      ],
    )

pub acked_leave : (old new : PlainStreams) (fs : List SentFrame) → AreAcked old new fs → Leaves old new fs
acked_leave old new fs (none_acked _) o w = (w, λ f among has. among)
acked_leave old new fs (more_acked _ mid _ front f before last) o w = leaves_more old mid new front f (acked_leave old mid front before) (acked_drops mid new f last) o w

pub lost_leave : (old new : PlainStreams) (fs : List SentFrame) → AreLost old new fs → Leaves old new fs
lost_leave old new fs (none_lost _) o w = (w, λ f among has. among)
lost_leave old new fs (more_lost _ mid _ front f before last) o w = leaves_more old mid new front f (lost_leave old mid front before) (lost_drops mid new f last) o w

in_out : (es : Packets) (number : ℕ) (packet : SentPacket SentFrame) (f : SentFrame) → In (number, packet) es → In f packet.frames.items → In f (frames_out es)
in_out [] number packet f there among = there
in_out (e ∷ es) number packet f (inl same) among = in_left f e.1.frames.items (frames_out es) (subst (λ (d : ℕ × SentPacket SentFrame). In f d.1.frames.items) (sym same) among)
in_out (e ∷ es) number packet f (inr there) among = in_right f e.1.frames.items (frames_out es) (in_out es number packet f there among)

-- the packets that are so go, with their frames
pub taken_in : (P : ℕ → SentPacket SentFrame → Type 0) (old new taken : Packets) (before after : PlainStreams) (next : ℕ) → AreTaken P old new taken → Leaves before after (frames_out taken)
    → AreInPackets before old next → AreInPackets after new next
taken_in P old new taken before after next a leaves p = in_packets after new next (λ id o w.
    let g = leaves (sender id o) w in
    let q = stands before old next p id o g.0 in
    record {
      number = q.number;
      packet = q.packet;
      is_out = (a.left q.number q.packet).1 (q.is_out, λ so. g.1 q.frame (in_out taken q.number q.packet q.frame (a.all q.number q.packet q.is_out so) q.among) q.holds);
      frame = q.frame;
      among = q.among;
      holds = q.holds;
    }) (λ k q there. p.below k q ((a.left k q).0 there).0)

-- ---- frames that are handed over

written_sends : (room : ℕ) (old new : PlainStreams) (fs : List SentFrame) (bytes : List ℕ) → AreWritten room old new fs bytes → (o : Owed) → IsSent new o
    → IsSent old o ⊎ ((f : SentFrame) × In f fs × Has o f)
written_sends room old new fs bytes (none_written _ _) o w = inl w
written_sends room old new fs bytes (more_written _ _ mid _ f gs rest first fits back behind) o w = elim (written_sends _ mid new gs rest behind o w) [
  | inl before ↦ elim (written_adds old mid room f first o before) [ inl earlier ↦ inl earlier | inr has ↦ inr (f, inl refl, has) ]
  | inr later ↦ inr (later.0, inr later.1, later.2)
]

-- ---- packets that go out

same_number : (n k : ℕ) → is_at (nat_cmp n) k ≡ true → k ≡ n
same_number n k h = grind (arith, h)

-- what is out is the last packet, or was out before
pub last_or_before : (es : Packets) (number k : ℕ) (packet q : SentPacket SentFrame) → packet_at (es ++ (number, packet) ∷ []) k ≡ Some q → (packet_at es k ≡ Some q) ⊎ ((number ≡ k) × (packet ≡ q))
last_or_before [] number k packet q there = elim (cases_Bool (is_at (nat_cmp k) number)) [
  | inl here ↦ inr (same_number k number here, ap (λ (o : Option (SentPacket SentFrame)). unwrap_or o packet) (sym (ap (λ (b : Bool). cond b (Some packet) None) here) ∙ there))
  | inr apart ↦ let none : None ≡ Some q = sym (ap (λ (b : Bool). cond b (Some packet) None) apart) ∙ there in cc
]
last_or_before (e ∷ es) number k packet q there = elim (cases_Bool (is_at (nat_cmp k) e.0)) [
  | inl here ↦ inl (ap (λ (b : Bool). cond b (Some e.1) (packet_at es k)) here ∙ (sym (ap (λ (b : Bool). cond b (Some e.1) (packet_at (es ++ (number, packet) ∷ []) k)) here) ∙ there))
  | inr apart ↦ elim (last_or_before es number k packet q (sym (ap (λ (b : Bool). cond b (Some e.1) (packet_at (es ++ (number, packet) ∷ []) k)) apart) ∙ there)) [
    | inl before ↦ inl (ap (λ (b : Bool). cond b (Some e.1) (packet_at es k)) apart ∙ before)
    | inr last ↦ inr last
  ]
]

found_before : (es : Packets) (number k : ℕ) (packet q : SentPacket SentFrame) → packet_at es k ≡ Some q → packet_at (es ++ (number, packet) ∷ []) k ≡ Some q
found_before [] number k packet q there = absurd (cc)
found_before (e ∷ es) number k packet q there = elim (cases_Bool (is_at (nat_cmp k) e.0)) [
  | inl here ↦ ap (λ (b : Bool). cond b (Some e.1) (packet_at (es ++ (number, packet) ∷ []) k)) here ∙ (sym (ap (λ (b : Bool). cond b (Some e.1) (packet_at es k)) here) ∙ there)
  | inr apart ↦ ap (λ (b : Bool). cond b (Some e.1) (packet_at (es ++ (number, packet) ∷ []) k)) apart
      ∙ found_before es number k packet q (sym (ap (λ (b : Bool). cond b (Some e.1) (packet_at es k)) apart) ∙ there)
]

at_itself : (n : ℕ) → is_at (nat_cmp n) n ≡ true
at_itself n = grind arith

found_last : (es : Packets) (number : ℕ) (packet : SentPacket SentFrame) → packet_at es number ≡ None → packet_at (es ++ (number, packet) ∷ []) number ≡ Some packet
found_last [] number packet none = ap (λ (b : Bool). cond b (Some packet) None) (at_itself number)
found_last (e ∷ es) number packet none = elim (cases_Bool (is_at (nat_cmp number) e.0)) [
  | inl here ↦ let both : Some e.1 ≡ None = sym (ap (λ (b : Bool). cond b (Some e.1) (packet_at es number)) here) ∙ none in absurd (cc)
  | inr apart ↦ ap (λ (b : Bool). cond b (Some e.1) (packet_at (es ++ (number, packet) ∷ []) number)) apart
      ∙ found_last es number packet (sym (ap (λ (b : Bool). cond b (Some e.1) (packet_at es number)) apart) ∙ none)
]

none_there : (packets : Packets) (next : ℕ) (o : Option (SentPacket SentFrame)) → packet_at packets next ≡ o → IsNext next packets → packet_at packets next ≡ None
none_there packets next None e below = e
none_there packets next (Some q) e below = let less = below next q e in absurd (omega (arith, less))

-- what counts as sent behind a packet did so before, or is in the packet
abbrev pub SendsIn : (old new : PlainStreams) → List SentFrame → Type 0
SendsIn old new fs = (o : Owed) → IsSent new o → IsSent old o ⊎ ((f : SentFrame) × In f fs × Has o f)

pub put_sends : (may : Bool) (room : ℕ) (old mid : DataSpace) (out_mid after : List ℕ) (fs : List SentFrame) → MatchBool may (AreElicitingPut room old mid out_mid after fs) ((mid ≡ old) × (after ≡ out_mid))
    → SendsIn old.streams mid.streams fs
put_sends true room old mid out_mid after fs put o w =
    let p = put.streams in
    elim (written_sends _ old.streams mid.streams p.frames p.bytes p.written o w) [
      | inl before ↦ inl before
      | inr in_it ↦ inr (in_it.0, subst (λ (l : List SentFrame). In in_it.0 l) (sym p.sent_is) in_it.1, in_it.2)
    ]
put_sends false room old mid out_mid after fs none o w = inl (subst (λ (s : DataSpace). IsSent s.streams o) none.0 w)

-- where nothing was appended it has no frame
pub put_none : (may : Bool) (room : ℕ) (old mid : DataSpace) (out_mid after : List ℕ) (fs : List SentFrame) → MatchBool may (AreElicitingPut room old mid out_mid after fs) ((mid ≡ old) × (after ≡ out_mid))
    → nat_lt (length out_mid) (length after) ≡ false → SendsNoMore old.streams mid.streams
put_none true room old mid out_mid after fs put short id o w =
    let low = ltb-false (length out_mid) (length after) short in
    let sum = length-append out_mid (due_bytes old) in
    let empty = none_written_by _ old.streams mid.streams (out_mid ++ due_bytes old) after fs put.streams (omega (arith, low, sum)) in
    elim (put_sends true room old mid out_mid after fs put (sender id o) w) [
      | inl before ↦ before
      | inr in_it ↦ absurd (subst (λ (l : List SentFrame). In in_it.0 l) empty in_it.1)
    ]
put_none false room old mid out_mid after fs none short id o w = subst (λ (s : DataSpace). IsSent s.streams (sender id o)) none.0 w

module _ (old : PlainStreams) (packets : Packets) (next : ℕ) (p : AreInPackets old packets next) (packet : SentPacket SentFrame) where
  last_below : (k : ℕ) (q : SentPacket SentFrame) → packet_at (packets ++ (next, packet) ∷ []) k ≡ Some q → k < next + 1
  last_below k q there = elim (last_or_before packets next k packet q there) [
    | inl before ↦ let low = p.below k q before in omega (arith, low)
    | inr last ↦ let same = last.0 in omega (arith, same)
  ]

  pub sent_in : (new : PlainStreams) → SendsIn old new packet.frames.items → AreInPackets new (packets ++ (next, packet) ∷ []) (next + 1)
  sent_in new sends = in_packets new (packets ++ (next, packet) ∷ []) (next + 1) (λ id o w. elim (sends (sender id o) w) [
    | inl before ↦
        let q = stands old packets next p id o before in
        record { number = q.number; packet = q.packet; is_out = found_before packets next q.number packet q.packet q.is_out; frame = q.frame; among = q.among; holds = q.holds }
    | inr in_it ↦ record {
      number = next;
      packet = packet;
      is_out = found_last packets next packet (none_there packets next (packet_at packets next) refl p.below);
      frame = in_it.0;
      among = in_it.1;
      holds = in_it.2;
    }
  ]) last_below

  pub not_sent_in : (new : PlainStreams) → SendsNoMore old new → AreInPackets new packets (next + 1)
  not_sent_in new less = in_packets new packets (next + 1) (λ id o w. stands old packets next p id o (less id o w)) (λ k q there. let low = p.below k q there in omega (arith, low))
