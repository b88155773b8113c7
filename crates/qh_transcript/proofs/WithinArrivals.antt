-- Streams that are opened and streams that arrive: an end keeps within the limits that the peer gave.
use Rattle.std.proofs.Common.{◌≡◌, ℕ, ◌+◌, ◌<◌, ◌≤◌, ◌==◌, max, Bool, true, false, List, [], ◌∷◌, length, Some, None, if◌then◌else◌, refl, sym, ap, subst, ◌∙◌, arith, inl, inr}
use Rattle.std.proofs.lemmas.Bool.{cases_Bool, eqb-true}
use Rattle.std.proofs.lemmas.Option.{same_Some}
use Rattle.qh_spec.specs.declared.sides.Dir.{Dir}
use Rattle.qh_spec.specs.StreamId.{stream_id}
use Rattle.qh_spec.specs.Transcript.{Act, written}
use Rattle.qh_buffers.specs.SendBuffer.{taken_to}
use Rattle.qh_half.specs.Send.{PlainSend, new_send}
use Rattle.qh_halves.specs.declared.counts.StreamCounts.{StreamCounts}
use Rattle.qh_halves.specs.Counts.{is_own, is_bi, index_of, has_send}
use Rattle.qh_halves.specs.SendHalves.{PlainSendHalves}
use Rattle.qh_streams.specs.declared.frames.StreamFrame.{StreamFrame}
use Rattle.qh_streams.specs.Streams.{PlainStreams, counts_of, was_opened, is_two_way, first_limit, AreOpened, IsOpened, HasArrived, arrives_with, with_opened}
use Rattle.qh_streams.proofs.StreamsArrived.{closed_before}
use Rattle.qh_streams.proofs.StreamsOpened.{bi_id}
use Rattle.qh_transcript.specs.Within.{KeepsWithin, greatest, stream_given, count_given, first_count}
use Rattle.qh_transcript.proofs.WithinKept.{KeepsShared, within, at_counts, peer_after}

-- ---- the greatest limit

max_below : (a b n : ℕ) → n ≤ b → n ≤ max a b
max_below a b n h = omega (arith, h)

pub first_below : (given : StreamFrame → ℕ) (first : ℕ) (fs : List StreamFrame) → first ≤ greatest given first fs
first_below given first [] = omega arith
first_below given first (f ∷ fs) = max_below (given f) (greatest given first fs) first (first_below given first fs)

-- one more frame takes no limit back
pub more : (s : PlainStreams) (f : StreamFrame) (frames : List StreamFrame) (t : List Act) → KeepsWithin s frames t → KeepsWithin s (f ∷ frames) t
more s f frames t p = record {
  all_bytes = max_below _ _ _ p.all_bytes;
  stream_bytes = λ k. max_below _ _ _ (p.stream_bytes k);
  count = λ b. max_below _ _ _ (p.count b);
  max_data = max_below _ _ _ p.max_data;
  taken = p.taken;
  credit = p.credit;
  halves = λ k h is. let was = p.halves k h is in (was.0, max_below _ _ _ was.1);
  max_opened = λ b. max_below _ _ _ (p.max_opened b);
}

-- ---- streams get their halves

-- a half that is new took nothing, and has the peer's first limit
new_half_is : (b : Bool) (limit bound : ℕ) (h : PlainSend) → (if b then Some (new_send limit) else None) ≡ Some h → limit ≤ bound → (taken_to h.buffer ≡ 0) × (h.max_data ≤ bound)
new_half_is true limit bound h e below = subst (λ (h : PlainSend). (taken_to h.buffer ≡ 0) × (h.max_data ≤ bound)) (same_Some (new_send limit) h e) (refl, below)
new_half_is false limit bound h e below = absurd (cc)

are_opened : (old new : PlainStreams) (frames : List StreamFrame) (t : List Act) (are_new : ℕ → Bool) → AreOpened old new are_new → ((k : ℕ) → are_new k ≡ true → written t k ≡ [])
    → new.side ≡ old.side → new.peer ≡ old.peer → ((b : Bool) → (counts_of new b).max_opened ≡ (counts_of old b).max_opened)
    → ((b : Bool) → (counts_of new b).opened ≤ greatest (count_given b) (first_count old b) frames) → KeepsWithin old frames t → KeepsWithin new frames t
are_opened old new frames t are_new o none side peer max_opened opened p =
    let shared : KeepsShared old.send new.send = record { max_data = ap (λ (s : PlainSendHalves). s.max_data) o.send_rest; data_sent = ap (λ (s : PlainSendHalves). s.data_sent) o.send_rest } in
    within old new frames t side peer shared (λ k h is. elim (cases_Bool (are_new k)) [
      | inl fresh ↦
          let first = new_half_is (has_send old.side k) (first_limit old k) (greatest (stream_given k) (first_limit old k) frames) h (sym (rw fresh at (o.send_is k)) ∙ is) (first_below (stream_given k) (first_limit old k) frames) in
          (first.0 ∙ sym (ap length (none k fresh)), first.1)
      | inr there ↦ p.halves k h (sym (rw there at (o.send_is k)) ∙ is)
    ]) opened (λ b. rw (max_opened b) (p.max_opened b)) p

-- ---- this end opens one

pub opened : (old new : PlainStreams) (frames : List StreamFrame) (t : List Act) (id : ℕ) (dir : Dir) → id ≡ stream_id old.side dir (counts_of old (is_two_way dir)).opened
    → (counts_of old (is_two_way dir)).opened < (counts_of old (is_two_way dir)).max_opened → written t id ≡ []
    → IsOpened old new id → KeepsWithin old frames t → KeepsWithin new frames t
opened old new frames t id dir id_is room none o p =
    let bi : is_bi id ≡ is_two_way dir = ap is_bi id_is ∙ bi_id old.side dir (counts_of old (is_two_way dir)).opened in
    let mid : PlainStreams = record old { send = new.send; recv = new.recv } in
    let c = with_opened (counts_of old (is_bi id)) in
    let at = peer_after new mid (is_bi id) c o.rest_is in
    let permitted : (counts_of old (is_bi id)).opened < (counts_of old (is_bi id)).max_opened = rw bi room in
    let most = p.max_opened (is_bi id) in
    are_opened old new frames t (λ k. k == id) o.halves
    (λ k same. subst (λ (k : ℕ). written t k ≡ []) (sym (eqb-true k id same)) none)
    at.0 at.1
    (λ b. ap (λ (s : PlainStreams). (counts_of s b).max_opened) o.rest_is ∙ at_counts (λ b c. c.max_opened ≡ (counts_of old b).max_opened) mid (is_bi id) b c refl refl)
    (λ b. subst (λ (s : PlainStreams). (counts_of s b).opened ≤ greatest (count_given b) (first_count old b) frames) (sym o.rest_is)
    (at_counts (λ b c. c.opened ≤ greatest (count_given b) (first_count old b) frames) mid (is_bi id) b c (omega (arith, permitted, most)) (p.count b)))
    p

-- ---- streams of the peer's arrive

pub arrived : (old new : PlainStreams) (frames : List StreamFrame) (t : List Act) (id : ℕ) → (was_opened old id ≡ false → is_own old.side id ≡ false)
    → ((k : ℕ) → was_opened old k ≡ false → written t k ≡ []) → HasArrived old new id → KeepsWithin old frames t → KeepsWithin new frames t
arrived old new frames t id not_own none a p = elim (cases_Bool (was_opened old id)) [
  | inl known ↦ rw (a.known known) p
  | inr fresh ↦
      let own = not_own fresh in
      let rest = a.rest_is fresh in
      let mid : PlainStreams = record old { send = new.send; recv = new.recv; events = _ } in
      let c : StreamCounts = record (counts_of old (is_bi id)) { arrived = index_of id + 1 } in
      let at = peer_after new mid (is_bi id) c rest in
      are_opened old new frames t (arrives_with old id) (a.halves fresh)
      (λ k there. none k (closed_before old id (is_bi id) own refl k there))
      at.0 at.1
      (λ b. ap (λ (s : PlainStreams). (counts_of s b).max_opened) rest ∙ at_counts (λ b c. c.max_opened ≡ (counts_of old b).max_opened) mid (is_bi id) b c refl refl)
      (λ b. subst (λ (s : PlainStreams). (counts_of s b).opened ≤ greatest (count_given b) (first_count old b) frames) (sym rest)
      (at_counts (λ b c. c.opened ≤ greatest (count_given b) (first_count old b) frames) mid (is_bi id) b c (p.count (is_bi id)) (p.count b)))
      p
]
