-- Streams that are opened and streams that arrive, and frames that come: what was written is kept.
use Rattle.std.proofs.Common.{◌≡◌, ℕ, ◌+◌, ◌≤◌, ◌==◌, nat_lt, Bool, true, false, not, List, [], ◌++◌, length, Option, Some, None, if◌then◌else◌, refl, sym, ap, subst, ◌∙◌, arith, inl, inr}
use Rattle.std.proofs.lemmas.Bool.{false≢true, cases_Bool, eqb-true, lt-ltb, le-ltb, ltb-false}
use Rattle.qh_half.specs.Send.{new_send}
use Rattle.qh_halves.specs.Counts.{AreNoFewer, is_own, is_bi, index_of, has_send, has_recv, with_max_opened}
use Rattle.qh_halves.specs.SendHalves.{PlainSendHalves}
use Rattle.qh_halves.specs.declared.counts.StreamCounts.{StreamCounts}
use Rattle.qh_owing.proofs.KeptHalves.{limit_quiet, new_keeps, stopped_quiet}
use Rattle.qh_owing.proofs.KeptStreams.{counts_kept, kept, quiet, step_or_absent, step_sends}
use Rattle.qh_owing.specs.Owing.{AreKept, KeepsStream}
use Rattle.qh_spec.specs.StreamId.{stream_id}
use Rattle.qh_spec.specs.Transcript.{Act, finished, was_reset, written}
use Rattle.qh_spec.specs.declared.sides.Dir.{Dir}
use Rattle.qh_streams.proofs.StreamsArrived.{closed_before, open_after}
use Rattle.qh_streams.proofs.StreamsKept.{later_counts, still_opened}
use Rattle.qh_streams.proofs.StreamsOpened.{own_id, bi_id, index_id, opened_is}
use Rattle.qh_streams.proofs.StreamsSettled.{closed_alone}
use Rattle.qh_streams.specs.Streams.{PlainStreams, Refusal, counts_of, with_counts, was_opened, is_two_way, counted_closed, first_limit, AreOpened, IsOpened, HasArrived, IsReceived, arrives_with, with_opened, available_events, refused, or_refusal, id_refusal, refusal_of}
use Rattle.qh_streams.specs.Streams.IsReceived.{stream as stream_received, reset as reset_received, stop as stop_received, stopped_before, max_data as max_data_received, max_stream_data as max_stream_data_received, max_streams as max_streams_received}
use Rattle.qh_streams.specs.declared.frames.StreamFrame.{StreamFrame}
use Rattle.qh_transcript.proofs.SendingFrames.{side_set, closed_opened}

-- ---- a stream of this end's that it never opened is refused

own_known : (has own known within : Bool) (frame : ℕ) → (if not has then refused 5 frame else if own then (if known then None else refused 5 frame) else (if within then None else refused 4 frame)) ≡ None
    → known ≡ false → own ≡ false
own_known false own known within frame e closed = absurd (cc)
own_known true false known within frame e closed = refl
own_known true true true within frame e closed = absurd (false≢true (sym closed))
own_known true true false within frame e closed = absurd (cc)

not_refused : (s : PlainStreams) (id : ℕ) (has : Bool) (frame : ℕ) → id_refusal s id has frame ≡ None → was_opened s id ≡ false → is_own s.side id ≡ false
not_refused s id has frame e closed = own_known has (is_own s.side id) (was_opened s id) (nat_lt (index_of id) (counts_of s (is_bi id)).announced.value) frame e closed

first_none : (a b : Option Refusal) → or_refusal a b ≡ None → a ≡ None
first_none None b e = refl
first_none (Some r) b e = absurd (cc)

counts_here : (s : PlainStreams) (two_way : Bool) (c : StreamCounts) → counts_of (with_counts s two_way c) two_way ≡ c
counts_here s true c = refl
counts_here s false c = refl

more_opened : (c : StreamCounts) → AreNoFewer c (with_opened c)
more_opened c = record { opened = omega arith; arrived = omega arith }

with_arrived : (c : StreamCounts) (n : ℕ) → c.arrived ≤ n → AreNoFewer c (record c { arrived = n })
with_arrived c n more = record { opened = omega arith; arrived = more }

module _ (Byte : ℕ → ℕ → Type 0) (End : ℕ → Type 0) (t : List Act) where
  abbrev Kept : PlainStreams → Type 0
  Kept s = AreKept Byte End t s

  -- ---- streams get their halves

  new_half : (k limit : ℕ) (has : Bool) → written t k ≡ [] → finished t k ≡ false
      → KeepsStream (Byte k) (End k) (length (written t k)) (finished t k) (was_reset t k) (if has then Some (new_send limit) else None)
  new_half k limit true none unended = new_keeps (Byte k) (End k) (length (written t k)) (finished t k) (was_reset t k) limit (ap length none) unended
  new_half k limit false none unended = record {
    half = tt;
    bytes = λ not n below. let empty = ap length none in absurd (omega (arith, empty, below));
    end = λ not was. absurd (false≢true (sym unended ∙ was));
  }

  are_opened : (old new : PlainStreams) (are_new : ℕ → Bool) → AreOpened old new are_new → ((k : ℕ) → are_new k ≡ true → was_opened old k ≡ false)
      → ((k : ℕ) → are_new k ≡ true → was_opened new k ≡ true) → ((k : ℕ) → was_opened old k ≡ true → was_opened new k ≡ true) → Kept old → Kept new
  are_opened old new are_new o before after later p = record {
    streams = λ k. elim (cases_Bool (are_new k)) [
      | inl fresh ↦
          let was = p.unopened k (before k fresh) in
          rw (o.send_is k, fresh) (new_half k (first_limit old k) (has_send old.side k) was.1 was.2)
      | inr there ↦ rw (o.send_is k, there) (p.streams k)
    ];
    unopened = λ k closed.
        let was = p.unopened k (earlier k closed) in
        elim (cases_Bool (are_new k)) [
          | inl fresh ↦ absurd (false≢true (sym closed ∙ after k fresh))
          | inr there ↦ (rw there at (o.send_is k) ∙ was.0, was.1, was.2)
        ];
  } where
    earlier : (k : ℕ) → was_opened new k ≡ false → was_opened old k ≡ false
    earlier k closed = elim (cases_Bool (was_opened old k)) [
      | inl there ↦ absurd (false≢true (sym closed ∙ later k there))
      | inr never ↦ never
    ]

  -- this end opens one
  pub opened : (old new : PlainStreams) (id : ℕ) (dir : Dir) → id ≡ stream_id old.side dir (counts_of old (is_two_way dir)).opened → IsOpened old new id → Kept old → Kept new
  opened old new id dir id_is o p =
      let n = (counts_of old (is_two_way dir)).opened in
      let own : is_own old.side id ≡ true = ap (is_own old.side) id_is ∙ own_id old.side dir n in
      let bi : is_bi id ≡ is_two_way dir = ap is_bi id_is ∙ bi_id old.side dir n in
      let index : index_of id ≡ n = ap index_of id_is ∙ index_id old.side dir n in
      let mid : PlainStreams = record old { send = new.send; recv = new.recv } in
      let c = with_opened (counts_of old (is_bi id)) in
      let more : n + 1 ≡ c.opened = ap (λ (b : Bool). (counts_of old b).opened + 1) (sym bi) in
      let closed : was_opened old id ≡ false = opened_is old id true (is_two_way dir) own bi ∙ le-ltb (index_of id) n (omega (arith, index)) in
      let there : was_opened new id ≡ true =
      ap (λ (s : PlainStreams). was_opened s id) o.rest_is
      ∙ opened_is (with_counts mid (is_bi id) c) id true (is_bi id) (ap (λ (s : _). is_own s id) (side_set mid (is_bi id) c) ∙ own) refl
      ∙ ap (λ (c : StreamCounts). nat_lt (index_of id) c.opened) (counts_here mid (is_bi id) c) ∙ lt-ltb (index_of id) c.opened (omega (arith, index, more)) in
      are_opened old new (λ k. k == id) o.halves
      (λ k same. subst (λ (k : ℕ). was_opened old k ≡ false) (sym (eqb-true k id same)) closed)
      (λ k same. subst (λ (k : ℕ). was_opened new k ≡ true) (sym (eqb-true k id same)) there)
      (λ k was. ap (λ (s : PlainStreams). was_opened s k) o.rest_is ∙ still_opened (later_counts mid (is_bi id) c (more_opened (counts_of old (is_bi id)))) k was)
      p

  -- streams of the peer's arrive
  arrived : (old new : PlainStreams) (id : ℕ) → (was_opened old id ≡ false → is_own old.side id ≡ false) → HasArrived old new id → Kept old → Kept new
  arrived old new id not_own a p = elim (cases_Bool (was_opened old id)) [
    | inl known ↦ rw (a.known known) p
    | inr fresh ↦
        let own = not_own fresh in
        let rest = a.rest_is fresh in
        let mid : PlainStreams = record old { send = new.send; recv = new.recv; events = _ } in
        let c : StreamCounts = record (counts_of old (is_bi id)) { arrived = index_of id + 1 } in
        let below = ltb-false (index_of id) (counts_of old (is_bi id)).arrived (sym (opened_is old id false (is_bi id) own refl) ∙ fresh) in
        are_opened old new (arrives_with old id) (a.halves fresh)
        (closed_before old id (is_bi id) own refl)
        (open_after old id (is_bi id) own refl new (ap (λ (s : PlainStreams). s.side) rest ∙ side_set mid (is_bi id) c)
        (ap (λ (s : PlainStreams). (counts_of s (is_bi id)).arrived) rest ∙ ap (λ (c : StreamCounts). c.arrived) (counts_here mid (is_bi id) c)))
        (λ k was. ap (λ (s : PlainStreams). was_opened s k) rest ∙ still_opened (later_counts mid (is_bi id) c (with_arrived (counts_of old (is_bi id)) (index_of id + 1) (omega (arith, below)))) k was)
        p
  ]

  -- ---- frames that come

  -- beside the receiving halves at most a count changes
  pub recv_alone : (mid new s : PlainStreams) (id : ℕ) (live : Bool) → new ≡ counted_closed s id live → s.send ≡ mid.send → ((k : ℕ) → was_opened s k ≡ was_opened mid k) → Kept mid → Kept new
  recv_alone mid new s id live rest send_is opened_is p =
      kept Byte End mid new t (ap (λ (s : PlainStreams). s.send.halves) rest ∙ ap (λ (h : PlainSendHalves). h.halves) ((closed_alone s id live).send_is ∙ send_is))
      (λ k. ap (λ (s : PlainStreams). was_opened s k) rest ∙ closed_opened s id live k ∙ opened_is k) p

  pub received : (old new : PlainStreams) (f : StreamFrame) → refusal_of old f ≡ None → IsReceived old new f → Kept old → Kept new
  received old new f taken (stream_received id offset payload fin r) p =
      let mid = arrived old r.mid id.0 (not_refused old id.0 (has_recv old.side id.0) 8 (first_none _ _ taken)) r.arrived p in
      recv_alone r.mid new _ id.0 _ r.rest_is refl (λ k. refl) mid
  received old new f taken (reset_received id code size r) p =
      let mid = arrived old r.mid id.0 (not_refused old id.0 (has_recv old.side id.0) 4 (first_none _ _ taken)) r.arrived p in
      recv_alone r.mid new _ id.0 _ r.rest_is refl (λ k. refl) mid
  received old new f taken (stop_received mid id code came step e) p =
      quiet Byte End mid new t (step_sends step) (λ k. ap (λ (s : PlainStreams). was_opened s k) e) (stopped_quiet code)
      (arrived old mid id.0 (not_refused old id.0 (has_send old.side id.0) 5 taken) came p)
  received old new f taken (stopped_before id code came was) p = arrived old new id.0 (not_refused old id.0 (has_send old.side id.0) 5 taken) came p
  received old new f taken (max_data_received limit e) p = kept Byte End old new t (ap (λ (s : PlainStreams). s.send.halves) e) (λ k. ap (λ (s : PlainStreams). was_opened s k) e) p
  received old new f taken (max_stream_data_received mid id limit came step unblocked e) p =
      quiet Byte End mid new t (step_or_absent step) (λ k. ap (λ (s : PlainStreams). was_opened s k) e) (limit_quiet limit)
      (arrived old mid id.0 (not_refused old id.0 (has_send old.side id.0) 17 taken) came p)
  received old new f taken (max_streams_received dir n e) p =
      let s : PlainStreams = record old { events = old.events ++ available_events (counts_of old (is_two_way dir)) n dir } in
      counts_kept Byte End old new t s (is_two_way dir) (with_max_opened n (counts_of old (is_two_way dir))) e refl (λ k. refl) refl refl p
