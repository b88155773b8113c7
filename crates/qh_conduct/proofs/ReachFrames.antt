-- What the streams know came in frames, with a frame that comes and isn't refused, and where this end opens a stream.
use Rattle.std.proofs.Common.{◌≡◌, ◌⊎◌, ℕ, ◌+◌, ◌<◌, ◌%◌, ◌==◌, nat_lt, max, Bool, true, false, List, ◌∷◌, ◌++◌, length, Some, None, if◌then◌else◌, refl, sym, ap, subst, ◌∙◌, arith, inl, inr}
use Rattle.std.proofs.lemmas.Bool.{and_from, cases_Bool, eq-eqb, false≢true, le-leb, ltb-false}
use Rattle.std.proofs.lemmas.Bool.Decides.{eqb_tells}
use Rattle.std.proofs.lemmas.Option.{same_Some}
use Rattle.qh_base.specs.declared.stream_id.StreamId.{StreamId}
use Rattle.qh_conduct.proofs.ReachLists.{any_first, grow}
use Rattle.qh_conduct.proofs.ReachSteps.{Continues, IsNewHalf, closed_untouched, continued, counts_untouched, more_reached, parts_untouched, quiet, untouched, untouched_by}
use Rattle.qh_conduct.specs.Reached.{AreReached, EndsAt, IsAny, Names, Reaches, end_of}
use Rattle.qh_half.specs.Recv.{PlainRecv, final_size, is_done, new_recv, reset_code, with_size, IsIngested, IsResetBy}
use Rattle.qh_half.specs.declared.recv.RecvState.{RecvState}
use Rattle.qh_half.specs.declared.recv.RecvState.TheVariants.{Recv, ResetRecvd}
use Rattle.qh_halves.specs.Counts.{has_recv, has_send, index_of, is_bi, is_own}
use Rattle.qh_halves.specs.RecvHalves.{PlainRecvHalves, IsRecvAbsent, IsRecvStep}
use Rattle.qh_halves.specs.declared.counts.StreamCounts.{StreamCounts}
use Rattle.qh_spec.specs.StreamId.{stream_id}
use Rattle.qh_spec.specs.declared.sides.Dir.{Dir}
use Rattle.qh_spec.specs.declared.sides.Side.{Side}
use Rattle.qh_streams.proofs.StreamsKept.{still_opened}
use Rattle.qh_streams.proofs.StreamsOpened.{opened_is}
use Rattle.qh_streams.specs.Streams.{PlainStreams, arrives_with, available_events, counted_closed, counts_of, is_live, is_two_way, readable_events, refusal_of, was_opened, with_counts, with_opened, HasArrived, IsOpened, IsReceived}
use Rattle.qh_streams.specs.Streams.IsReceived.{stream as stream_received, reset as reset_received, stop as stop_received, stopped_before, max_data as max_data_received, max_stream_data as max_stream_data_received, max_streams as max_streams_received}
use Rattle.qh_streams.specs.declared.frames.StreamFrame.{StreamFrame}
use Rattle.qh_streams.specs.declared.frames.StreamFrame.TheVariants as coming
use Rattle.qh_transcript.proofs.ReceivingOpened.{AddsNew, arrived_new, first_refusal, not_own, opened_new}

-- ---- streams get their halves

new_half : (b : Bool) (limit : ℕ) (h : PlainRecv) → (if b then Some (new_recv limit) else None) ≡ Some h → IsNewHalf h
new_half true limit h e = subst (λ (h : PlainRecv). IsNewHalf h) (same_Some (new_recv limit) h e) (record { end = refl; size = refl })
new_half false limit h e = absurd (cc)

adds_continues : (old new : PlainStreams) (are_new : ℕ → Bool) → AddsNew old new are_new → Continues old new
adds_continues old new are_new a = record {
  halves = λ k next is. elim (cases_Bool (are_new k)) [
    | inl among ↦ inr (a.before k among, new_half (has_recv old.side k) _ next (sym (rw among at (a.are_opened.recv_is k)) ∙ is))
    | inr apart ↦ inl (record { half = next; was = sym (rw apart at (a.are_opened.recv_is k)) ∙ is; step = record { end = refl; state = refl } })
  ];
  received = ap (λ (r : PlainRecvHalves). r.received) a.are_opened.recv_rest;
  opened = λ k none. elim (cases_Bool (was_opened old k)) [
    | inl was ↦ absurd (false≢true (sym none ∙ still_opened a.later k was))
    | inr not ↦ not
  ];
  side = a.later.side_is;
}

-- of one direction, or of the other
counts_at : (s : PlainStreams) (two_way : Bool) (c : StreamCounts) (b : Bool) → ((b ≡ two_way) × (counts_of (with_counts s two_way c) b ≡ c)) ⊎ (counts_of (with_counts s two_way c) b ≡ counts_of s b)
counts_at s true c true = inl (refl, refl)
counts_at s true c false = inr refl
counts_at s false c true = inr refl
counts_at s false c false = inl (refl, refl)

-- ---- this end opens one

pub opened_reached : (side : Side) (frames : List StreamFrame) (old new : PlainStreams) (id : ℕ) (dir : Dir) → id ≡ stream_id old.side dir (counts_of old (is_two_way dir)).opened → IsOpened old new id
    → AreReached side old frames → AreReached side new frames
opened_reached side frames old new id dir id_is o =
    let mid : PlainStreams = record old { send = new.send; recv = new.recv } in
    let c = with_opened (counts_of old (is_bi id)) in
    quiet side old new frames (adds_continues old new (λ k. k == id) (opened_new old new id dir id_is o))
    (λ b. ap (λ (s : PlainStreams). (counts_of s b).arrived) o.rest_is ∙ elim (counts_at mid (is_bi id) c b) [
      | inl here ↦ ap (λ (c : StreamCounts). c.arrived) here.1 ∙ ap (λ (b : Bool). (counts_of old b).arrived) (sym here.0)
      | inr other ↦ ap (λ (c : StreamCounts). c.arrived) other
    ])

-- ---- streams of the peer's arrive

module _ (side : Side) (f : StreamFrame) (frames : List StreamFrame) where
  arrived_reached : (old new : PlainStreams) (id : ℕ) → Names id f → (was_opened old id ≡ false → is_own old.side id ≡ false) → HasArrived old new id → AreReached side old (f ∷ frames) → AreReached side new (f ∷ frames)
  arrived_reached old new id names peers a p = elim (cases_Bool (was_opened old id)) [
    | inl known ↦ rw (a.known known) p
    | inr fresh ↦
        let own = peers fresh in
        let rest = a.rest_is fresh in
        let mid : PlainStreams = record old { send = new.send; recv = new.recv; events = _ } in
        let c : StreamCounts = record (counts_of old (is_bi id)) { arrived = index_of id + 1 } in
        continued side old new (f ∷ frames) (adds_continues old new (arrives_with old id) (arrived_new old new id own fresh a))
        (λ b i below.
        let now : i < (counts_of (with_counts mid (is_bi id) c) b).arrived = subst (λ (s : PlainStreams). i < (counts_of s b).arrived) rest below in
        elim (counts_at mid (is_bi id) c b) [
          | inl here ↦
              let bound : i < index_of id + 1 = subst (λ (c : StreamCounts). i < c.arrived) here.1 now in
              any_first f frames (record { stream = id; names = names; peers = ap (λ (s : Side). is_own s id) (sym p.side_is) ∙ own; direction = sym here.0; past = omega (arith, bound) })
          | inr other ↦ p.arrived b i (subst (λ (c : StreamCounts). i < c.arrived) other now)
        ]) p
  ]

  -- a stream that a frame names is there
  is_there : (old new : PlainStreams) (id : ℕ) → (was_opened old id ≡ false → is_own old.side id ≡ false) → HasArrived old new id → was_opened new id ≡ true
  is_there old new id peers a = elim (cases_Bool (was_opened old id)) [
    | inl known ↦ rw (a.known known) known
    | inr fresh ↦
        let own = peers fresh in
        let below = ltb-false (index_of id) (counts_of old (is_bi id)).arrived (sym (opened_is old id false (is_bi id) own refl) ∙ fresh) in
        (arrived_new old new id own fresh a).after id
        (and_from _ _ (eq-eqb (id % 4) (id % 4) refl) (and_from _ _ (le-leb (counts_of old (is_bi id)).arrived (index_of id) below) (le-leb (index_of id) (index_of id) (omega arith))))
  ]

  -- ---- a half that reaches farther, by the frame

  record Farther (id fresh : ℕ) (r next : PlainRecv) : Type 0 where
    end : next.end ≡ r.end + fresh
    reaches : (fresh ≡ 0) ⊎ Reaches id next.end f
    size : (n : ℕ) → final_size next.state ≡ Some n → (final_size r.state ≡ Some n) ⊎ EndsAt id n f

  unless_some : (b : Bool) (r g : PlainRecv) → (if b then None else Some r) ≡ Some g → r ≡ g
  unless_some true r g e = cc
  unless_some false r g e = cc

  farther_reached : {P : PlainRecv → PlainRecv → Type 0} (old s : PlainStreams) (id fresh : ℕ) → IsRecvStep P old.recv s.recv id fresh → ((r next : PlainRecv) → P r next → Farther id fresh r next)
      → s.side ≡ old.side → s.bi ≡ old.bi → s.uni ≡ old.uni → was_opened old id ≡ true → AreReached side old (f ∷ frames) → AreReached side s (f ∷ frames)
  farther_reached old s id fresh step farther side_same bi uni there p =
      let q = farther step.half step.next step.step in
      let reaches : (fresh ≡ 0) ⊎ IsAny (Reaches id step.next.end) (f ∷ frames) = elim q.reaches [ inl none ↦ inl none | inr far ↦ inr (any_first f frames far) ] in
      let g = grow (f ∷ frames) p.ends id step.half.end step.next.end fresh p.apart p.came (p.halves id step.half step.was) q.end reaches in
      let grown = g.1 in
      let more = ap (λ (r : PlainRecvHalves). r.received) step.rest_is in
      let total = grown.total in
      let was = p.total in
      record {
        side_is = side_same ∙ p.side_is;
        ends = g.0;
        apart = grown.apart;
        came = grown.came;
        total = more ∙ ap (λ (n : ℕ). n + fresh) was ∙ sym total;
        halves = λ k next is. elim (eqb_tells k id) [
          | inl here ↦
              let same = unless_some (is_done step.next) step.next next (sym (rw here.0 at (step.halves_are k)) ∙ is) in
              ap (λ (r : PlainRecv). r.end) (sym same) ∙ sym grown.here ∙ ap (λ (i : ℕ). end_of g.0 i) (sym here.1)
          | inr apart ↦ p.halves k next (sym (rw apart.0 at (step.halves_are k)) ∙ is) ∙ sym (grown.others k apart.0)
        ];
        unopened = λ k none.
            let before : was_opened old k ≡ false = rw (side_same, bi, uni) at none in
            elim (eqb_tells k id) [
              | inl here ↦ absurd (false≢true (sym before ∙ ap (λ (i : ℕ). was_opened old i) here.1 ∙ there))
              | inr apart ↦ grown.others k apart.0 ∙ p.unopened k before
            ];
        sizes = λ k n next is known. elim (eqb_tells k id) [
          | inl here ↦
              let same = unless_some (is_done step.next) step.next next (sym (rw here.0 at (step.halves_are k)) ∙ is) in
              subst (λ (i : ℕ). IsAny (EndsAt i n) (f ∷ frames)) (sym here.1) (elim (q.size n (ap (λ (r : PlainRecv). final_size r.state) same ∙ known)) [
                | inl before ↦ p.sizes id n step.half step.was before
                | inr now ↦ any_first f frames now
              ])
          | inr apart ↦ p.sizes k n next (sym (rw apart.0 at (step.halves_are k)) ∙ is) known
        ];
        arrived = λ b i below. p.arrived b i (rw (bi, uni) at below);
      }

  absent_reached : (old s : PlainStreams) (id : ℕ) → IsRecvAbsent old.recv s.recv id → s.side ≡ old.side → s.bi ≡ old.bi → s.uni ≡ old.uni → AreReached side old (f ∷ frames) → AreReached side s (f ∷ frames)
  absent_reached old s id a side_same bi uni =
      untouched side old s (f ∷ frames) (parts_untouched old s s refl (ap (λ (r : PlainRecvHalves). r.halves) a.same) (ap (λ (r : PlainRecvHalves). r.received) a.same) side_same bi uni)

-- ---- how far a frame reaches

-- as far as before, or as far as the frame
farther_by : (was to now fresh : ℕ) → now ≡ max was to → now ≡ was + fresh → (fresh ≡ 0) ⊎ (to ≡ now)
farther_by was to now fresh is sum = elim (cases_Bool (nat_lt was to)) [
  | inl less ↦ inr (grind (arith, less, is))
  | inr not ↦ inl (grind (arith, not, is, sum))
]

one_some : (a b : ℕ) → Some a ≡ Some b → a ≡ b
one_some a b e = cc

sized : (fin : Bool) (to n : ℕ) (was now : RecvState) → now ≡ (if fin then with_size to was else was) → final_size now ≡ Some n → (final_size was ≡ Some n) ⊎ ((fin ≡ true) × (to ≡ n))
sized false to n was now e known = inl (ap final_size (sym e) ∙ known)
sized true to n (Recv size) now e known = inr (refl, one_some to n (ap final_size (sym e) ∙ known))
sized true to n (ResetRecvd size code) now e known = inl (ap final_size (sym e) ∙ known)

resized : (code size n : ℕ) (was now : RecvState) → (reset_code was ≡ None → now ≡ ResetRecvd size code) → ((known : ℕ) → reset_code was ≡ Some known → now ≡ was) → final_size now ≡ Some n
    → (final_size was ≡ Some n) ⊎ (size ≡ n)
resized code size n (Recv known) now again kept is = inr (one_some size n (ap final_size (sym (again refl)) ∙ is))
resized code size n (ResetRecvd at known) now again kept is = inl (ap final_size (sym (kept known refl)) ∙ is)

piece_farther : (id : StreamId) (offset : ℕ) (payload : List ℕ) (fin : Bool) (side : Side) (frames : List StreamFrame) (fresh : ℕ) (r next : PlainRecv) → IsIngested r next (record { offset = offset; bytes = payload }) fin fresh
    → Farther side (coming.Stream id offset payload fin) frames id.0 fresh r next
piece_farther id offset payload fin side frames fresh r next p = record {
  end = p.fresh_is;
  reaches = elim (farther_by r.end (offset + length payload) next.end fresh p.end_is p.fresh_is) [ inl none ↦ inl none | inr to ↦ inr (refl, to) ];
  size = λ n known. elim (sized fin (offset + length payload) n r.state next.state p.state_is known) [ inl was ↦ inl was | inr now ↦ inr (refl, now.0, now.1) ];
}

reset_farther : (id : StreamId) (code size : ℕ) (side : Side) (frames : List StreamFrame) (fresh : ℕ) (r next : PlainRecv) → IsResetBy r next code size fresh
    → Farther side (coming.Reset id code size) frames id.0 fresh r next
reset_farther id code size side frames fresh r next p = record {
  end = p.fresh_is;
  reaches = inr (refl, sym p.end_is);
  size = λ n known. elim (resized code size n r.state next.state p.again p.kept known) [ inl was ↦ inl was | inr now ↦ inr (refl, now) ];
}

-- ---- a frame that comes

module _ (side : Side) (frames : List StreamFrame) where
  closed_reached : (f : StreamFrame) (s new : PlainStreams) (id : ℕ) (was_live : Bool) → new ≡ counted_closed s id was_live → AreReached side s (f ∷ frames) → AreReached side new (f ∷ frames)
  closed_reached f s new id was_live e = untouched side s new (f ∷ frames) (untouched_by s new _ e (closed_untouched s id was_live))

  parts_reached : (f : StreamFrame) (old new s : PlainStreams) → new ≡ s → s.recv.halves ≡ old.recv.halves → s.recv.received ≡ old.recv.received → s.side ≡ old.side → s.bi ≡ old.bi → s.uni ≡ old.uni
      → AreReached side old (f ∷ frames) → AreReached side new (f ∷ frames)
  parts_reached f old new s e halves received same bi uni = untouched side old new (f ∷ frames) (parts_untouched old new s e halves received same bi uni)

  pub received : (old new : PlainStreams) (f : StreamFrame) → refusal_of old f ≡ None → IsReceived old new f → AreReached side old frames → AreReached side new (f ∷ frames)
  received old new f ok (stream_received id offset payload fin r) p =
      let g : StreamFrame = coming.Stream id offset payload fin in
      let peers = not_own old id.0 (has_recv old.side id.0) 8 (first_refusal _ _ ok) in
      let s : PlainStreams = record r.mid { recv = new.recv; events = r.mid.events ++ readable_events old id } in
      let came = arrived_reached side g frames old r.mid id.0 refl peers r.arrived (more_reached side old g frames p) in
      closed_reached g s new id.0 (is_live r.mid id.0) r.rest_is (elim r.taken [
        | inl t ↦ farther_reached side g frames r.mid s id.0 t.fresh t.step (piece_farther id offset payload fin side frames t.fresh) refl refl refl (is_there side g frames old r.mid id.0 peers r.arrived) came
        | inr none ↦ absent_reached side g frames r.mid s id.0 none refl refl refl came
      ])
  received old new f ok (reset_received id code size r) p =
      let g : StreamFrame = coming.Reset id code size in
      let peers = not_own old id.0 (has_recv old.side id.0) 4 (first_refusal _ _ ok) in
      let s : PlainStreams = record r.mid { recv = new.recv; events = r.mid.events ++ readable_events old id } in
      let came = arrived_reached side g frames old r.mid id.0 refl peers r.arrived (more_reached side old g frames p) in
      closed_reached g s new id.0 (is_live r.mid id.0) r.rest_is (elim r.taken [
        | inl t ↦ farther_reached side g frames r.mid s id.0 t.fresh t.step (reset_farther id code size side frames t.fresh) refl refl refl (is_there side g frames old r.mid id.0 peers r.arrived) came
        | inr none ↦ absent_reached side g frames r.mid s id.0 none refl refl refl came
      ])
  received old new f ok (stop_received mid id code arrived step e) p =
      let g : StreamFrame = coming.Stop id code in
      parts_reached g mid new _ e refl refl refl refl refl
      (arrived_reached side g frames old mid id.0 refl (not_own old id.0 (has_send old.side id.0) 5 ok) arrived (more_reached side old g frames p))
  received old new f ok (stopped_before id code arrived was) p =
      let g : StreamFrame = coming.Stop id code in
      arrived_reached side g frames old new id.0 refl (not_own old id.0 (has_send old.side id.0) 5 ok) arrived (more_reached side old g frames p)
  received old new f ok (max_data_received limit e) p = parts_reached f old new _ e refl refl refl refl refl (more_reached side old f frames p)
  received old new f ok (max_stream_data_received mid id limit arrived step unblocked e) p =
      let g : StreamFrame = coming.MaxStreamData id limit in
      parts_reached g mid new _ e refl refl refl refl refl
      (arrived_reached side g frames old mid id.0 refl (not_own old id.0 (has_send old.side id.0) 17 ok) arrived (more_reached side old g frames p))
  received old new f ok (max_streams_received dir n e) p =
      let s : PlainStreams = record old { events = old.events ++ available_events (counts_of old (is_two_way dir)) n dir } in
      untouched side s new (f ∷ frames) (untouched_by s new _ e (counts_untouched s (is_two_way dir) _ refl refl))
      (parts_reached f old s s refl refl refl refl refl refl (more_reached side old f frames p))
