-- Where nothing was written yet and no stream opened, an end keeps within any limits.
use Rattle.std.proofs.Common.{◌≡◌, ℕ, ◌≤◌, ◌^◌, min, max, Bool, true, false, List, [], length, Some, sym, ap, ◌∙◌, arith}
use Rattle.qh_spec.specs.Transcript.{Act}
use Rattle.qh_half.specs.Send.{PlainSend}
use Rattle.qh_halves.specs.SendHalves.{half_in}
use Rattle.qh_streams.specs.declared.frames.PeerLimits.{PeerLimits}
use Rattle.qh_streams.specs.declared.frames.StreamFrame.{StreamFrame}
use Rattle.qh_streams.specs.Streams.{PlainStreams, counts_of, with_peer}
use Rattle.qh_transcript.specs.Sending.{WriteNothing}
use Rattle.qh_transcript.specs.Within.{KeepsWithin, greatest, data_given, count_given, first_count}
use Rattle.qh_transcript.proofs.WithinArrivals.{first_below}
use Rattle.qh_transcript.proofs.WithinKept.{none_in_all}

-- no stream was opened, and the counts that are permitted are at most the peer's first ones
pub record IsUnused (s : PlainStreams) : Type 0 where
  pub no_half : s.send.halves ≡ []
  pub data_sent : s.send.data_sent ≡ 0
  pub max_data : s.send.max_data ≤ s.peer.max_data
  pub opened : (b : Bool) → (counts_of s b).opened ≡ 0
  pub max_opened : (b : Bool) → (counts_of s b).max_opened ≤ first_count s b

zero_below : (n bound : ℕ) → n ≡ 0 → n ≤ bound
zero_below n bound e = omega (arith, e)

first_then : (n first bound : ℕ) → n ≤ first → first ≤ bound → n ≤ bound
first_then n first bound low up = omega (arith, low, up)

pub unused : (s : PlainStreams) (frames : List StreamFrame) (t : List Act) → IsUnused s → WriteNothing t → KeepsWithin s frames t
unused s frames t u none =
    let all = none_in_all t none.bytes in
    record {
      all_bytes = zero_below _ _ all;
      stream_bytes = λ k. zero_below _ _ (ap length (none.bytes k));
      count = λ b. zero_below _ _ (u.opened b);
      max_data = first_then s.send.max_data s.peer.max_data (greatest data_given s.peer.max_data frames) u.max_data (first_below data_given s.peer.max_data frames);
      taken = u.data_sent ∙ sym all;
      credit = zero_below _ _ u.data_sent;
      halves = λ k h is. absurd (no_half k h (sym (ap (λ (hs : List (ℕ × PlainSend)). half_in hs k) u.no_half) ∙ is));
      max_opened = λ b. first_then (counts_of s b).max_opened (first_count s b) (greatest (count_given b) (first_count s b) frames) (u.max_opened b) (first_below (count_given b) (first_count s b) frames);
    } where
      no_half : (k : ℕ) (h : PlainSend) → half_in [] k ≡ Some h → ⊥
      no_half k h e = cc

pub fresh : (s : PlainStreams) (frames : List StreamFrame) (t : List Act) → s.send.halves ≡ [] → s.send.max_data ≡ 0 → s.send.data_sent ≡ 0
    → ((b : Bool) → ((counts_of s b).opened ≡ 0) × ((counts_of s b).max_opened ≡ 0)) → WriteNothing t → KeepsWithin s frames t
fresh s frames t no_half max_data data_sent counts none =
    unused s frames t (record { no_half = no_half; data_sent = data_sent; max_data = zero_below _ _ max_data; opened = λ b. (counts b).0; max_opened = λ b. zero_below _ _ (counts b).1 }) none

greater : (a b n : ℕ) → a ≡ 0 → n ≤ b → max a n ≤ b
greater a b n e h = omega (arith, e, h)

pub with_first : (s : PlainStreams) (peer : PeerLimits) (frames : List StreamFrame) (t : List Act) → s.send.halves ≡ [] → s.send.max_data ≡ 0 → s.send.data_sent ≡ 0
    → ((b : Bool) → ((counts_of s b).opened ≡ 0) × ((counts_of s b).max_opened ≡ 0)) → WriteNothing t → KeepsWithin (with_peer s peer) frames t
with_first s peer frames t no_half max_data data_sent counts none =
    unused (with_peer s peer) frames t (record { no_half = no_half; data_sent = data_sent; max_data = greater _ _ _ max_data (omega arith); opened = opened; max_opened = permitted }) none where
      opened : (b : Bool) → (counts_of (with_peer s peer) b).opened ≡ 0
      opened true = (counts true).0
      opened false = (counts false).0

      least : (n m : ℕ) → min n m ≤ n
      least n m = omega arith

      permitted : (b : Bool) → (counts_of (with_peer s peer) b).max_opened ≤ first_count (with_peer s peer) b
      permitted true = greater s.bi.max_opened peer.max_bidi (min peer.max_bidi (2 ^ 60)) (counts true).1 (least peer.max_bidi (2 ^ 60))
      permitted false = greater s.uni.max_opened peer.max_uni (min peer.max_uni (2 ^ 60)) (counts false).1 (least peer.max_uni (2 ^ 60))
