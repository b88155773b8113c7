-- What a frame that comes, and a call on the streams, leaves of what was announced.
use Rattle.std.proofs.Common.{◌≡◌, ℕ, ◌≤◌, ◌==◌, Bool, true, false, List, [], ◌∷◌, ◌++◌, Option, Some, None, is_some, if◌then◌else◌, refl, sym, ap, subst, ◌∙◌, arith, inl, inr}
use Rattle.std.specs.Prelude.{Result}
use Rattle.std.proofs.lemmas.Bool.{cases_Bool, false≢true}
use Rattle.qh_buffers.specs.declared.assembler.Chunk.{Chunk}
use Rattle.qh_conduct.proofs.StreamsGoOn.{GoOn, go_on, parts_go, recv_closed, recv_go, recv_none, recv_same, recv_step, same_counts_go, same_go, same_limit, send_go, step_or_absent}
use Rattle.qh_conduct.specs.Calls.{IsCall}
use Rattle.qh_conduct.specs.Calls.IsCall.{same as same_call, opened as opened_call, accepted as accepted_call, takes as takes_call, finishes as finishes_call, resets as resets_call, goes_first as goes_first_call, refused as refused_call, reads as reads_call, stops as stops_call, takes_reset as takes_reset_call, concurrent as concurrent_call, send_window as send_window_call, receive_window as receive_window_call, polls as polls_call}
use Rattle.qh_core.specs.Streams.{IsRead}
use Rattle.qh_half.specs.Recv.{PlainRecv, IsReadAnswer, new_recv}
use Rattle.qh_half.specs.Recv.IsReadAnswer.{bytes as bytes_read, nothing as nothing_read, end as end_read, reset as reset_read, blocked as none_read, memory as memory_read}
use Rattle.qh_half.specs.Send.{new_send}
use Rattle.qh_half.specs.declared.fault.ReadFault.{ReadFault}
use Rattle.qh_half.specs.declared.fault.WriteFault.{WriteFault}
use Rattle.qh_half.specs.declared.fault.WriteFault.TheVariants.{Blocked, Stopped, ClosedStream, Memory}
use Rattle.qh_halves.specs.Counts.{has_recv, has_send, is_bi, is_own, with_max_opened}
use Rattle.qh_halves.specs.RecvHalves.{PlainRecvHalves}
use Rattle.qh_halves.specs.SendHalves.{PlainSendHalves, write_limit}
use Rattle.qh_halves.specs.declared.counts.StreamCounts.{StreamCounts}
use Rattle.qh_halves.specs.declared.limit.AnnouncedLimit.{AnnouncedLimit}
use Rattle.qh_streams.proofs.StreamsKept.{send_halves_same, send_same, send_step}
use Rattle.qh_streams.specs.Streams.{PlainStreams, HasArrived, IsPolled, IsReceived, arrives_with, available_events, counts_of, dir_of, first_limit, is_live, is_two_way, refusal_of, still_blocked, was_opened, with_blocked, with_counts}
use Rattle.qh_streams.specs.Streams.IsPolled.{writable, queued, none as nothing}
use Rattle.qh_streams.specs.Streams.IsReceived.{stream as stream_received, reset as reset_received, stop as stop_received, stopped_before, max_data as max_data_received, max_stream_data as max_stream_data_received, max_streams as max_streams_received}
use Rattle.qh_streams.specs.declared.frames.StreamEvent.{StreamEvent}
use Rattle.qh_streams.specs.declared.frames.StreamEvent.TheVariants.{Opened}
use Rattle.qh_streams.specs.declared.frames.StreamFrame.{StreamFrame}
use Rattle.qh_transcript.proofs.ReceivingLists.{some_is}
use Rattle.qh_transcript.proofs.ReceivingOpened.{AddsNew, arrived_new, first_refusal, not_own, opened_new}

-- ---- streams that are new

some_where : {X : Type 0} (has : Bool) (x : X) → is_some (if has then Some x else None) ≡ true → has ≡ true
some_where true x there = refl
some_where false x there = absurd (false≢true there)

half_where : {X : Type 0} (has : Bool) (x half : X) → (if has then Some x else None) ≡ Some half → has ≡ true
half_where true x half there = refl
half_where false x half there = absurd (cc)

half_is : {X : Type 0} (has : Bool) (x half : X) → (if has then Some x else None) ≡ Some half → x ≡ half
half_is true x half there = some_is x half there
half_is false x half there = absurd (cc)

-- the first limit of a half that is new
pub limit_at_first : (has : Bool) (limit : ℕ) (half : PlainRecv) → (if has then Some (new_recv limit) else None) ≡ Some half → limit ≤ half.sent_max_stream_data
limit_at_first has limit half there = let same = ap (λ (h : PlainRecv). h.sent_max_stream_data) (half_is has (new_recv limit) half there) in omega (arith, same)

adds_go : (old new : PlainStreams) (are_new : ℕ → Bool) → AddsNew old new are_new → ((two_way : Bool) → (counts_of new two_way).announced ≡ (counts_of old two_way).announced) → GoOn old new
adds_go old new are_new p same = record {
  later = p.later;
  shared = let value = ap (λ (r : PlainRecvHalves). r.announced.value) p.are_opened.recv_rest in omega (arith, value);
  counts = λ two_way. let value = ap (λ (a : AnnouncedLimit). a.value) (same two_way) in omega (arith, value);
  bound = λ two_way below. let value = ap (λ (a : AnnouncedLimit). a.value) (same two_way) in omega (arith, value, below);
  send = λ k there. elim (cases_Bool (are_new k)) [
    | inl fresh ↦ inr (p.after k fresh, rw (p.later.side_is) (some_where (has_send old.side k) (new_send (first_limit old k)) (ap is_some (sym (rw fresh at (p.are_opened.send_is k))) ∙ there)))
    | inr apart ↦ inl (ap is_some (sym (rw apart at (p.are_opened.send_is k))) ∙ there)
  ];
  recv = λ k half is. elim (cases_Bool (are_new k)) [
    | inl fresh ↦
        let there = sym (rw fresh at (p.are_opened.recv_is k)) ∙ is in
        inr (record {
          before = p.before k fresh;
          reads = (p.after k fresh, rw (p.later.side_is) (half_where (has_recv old.side k) _ half there));
          limit = limit_at_first (has_recv old.side k) _ half there;
        })
    | inr apart ↦ inl (half, sym (rw apart at (p.are_opened.recv_is k)) ∙ is, omega arith)
  ];
  window = ap (λ (r : PlainRecvHalves). r.stream_window) p.are_opened.recv_rest;
}

same_announced : (s new : PlainStreams) (two_way : Bool) (c : StreamCounts) → new ≡ with_counts s two_way c → c.announced ≡ (counts_of s two_way).announced → (b : Bool) → (counts_of new b).announced ≡ (counts_of s b).announced
same_announced s new true c e same true = ap (λ (x : PlainStreams). x.bi.announced) e ∙ same
same_announced s new true c e same false = ap (λ (x : PlainStreams). x.uni.announced) e
same_announced s new false c e same true = ap (λ (x : PlainStreams). x.bi.announced) e
same_announced s new false c e same false = ap (λ (x : PlainStreams). x.uni.announced) e ∙ same

pub counts_beside : (old : PlainStreams) (send : PlainSendHalves) (recv : PlainRecvHalves) (events : List StreamEvent) (b : Bool) → counts_of (record old { send = send; recv = recv; events = events }) b ≡ counts_of old b
counts_beside old send recv events true = refl
counts_beside old send recv events false = refl

pub arrived_go : (old new : PlainStreams) (id : ℕ) → (was_opened old id ≡ false → is_own old.side id ≡ false) → HasArrived old new id → GoOn old new
arrived_go old new id peers a = elim (cases_Bool (was_opened old id)) [
  | inl known ↦ subst (λ (s : PlainStreams). GoOn old s) (sym (a.known known)) (same_go old)
  | inr fresh ↦ adds_go old new (arrives_with old id) (arrived_new old new id (peers fresh) fresh a)
      (let events = old.events ++ Opened (dir_of id) ∷ [] in
      λ b. same_announced (record old { send = new.send; recv = new.recv; events = events }) new (is_bi id) _ (a.rest_is fresh)
      (ap (λ (c : StreamCounts). c.announced) (sym (counts_beside old new.send new.recv events (is_bi id)))) b
      ∙ ap (λ (c : StreamCounts). c.announced) (counts_beside old new.send new.recv events b))
]

-- ---- frames that come

pub received_go : (old new : PlainStreams) (f : StreamFrame) → refusal_of old f ≡ None → IsReceived old new f → GoOn old new
received_go old new f free (stream_received id offset payload fin r) =
    let mid = r.mid in
    let first = arrived_go old mid id.0 (not_own old id.0 (has_recv old.side id.0) 8 (first_refusal _ _ free)) r.arrived in
    go_on old mid new (recv_closed mid new (record mid { recv = new.recv; events = _ }) id.0 (is_live mid id.0) r.rest_is
    (parts_go mid (record mid { recv = new.recv; events = _ }) refl refl refl (send_same refl) (elim r.taken [
      | inl taken ↦ recv_step taken.step (λ half next goes. same_limit half next (ap (λ (h : PlainRecv). h.sent_max_stream_data) goes.rest_is))
      | inr absent ↦ recv_none absent
    ]))) first
received_go old new f free (reset_received id code size r) =
    let mid = r.mid in
    let first = arrived_go old mid id.0 (not_own old id.0 (has_recv old.side id.0) 4 (first_refusal _ _ free)) r.arrived in
    go_on old mid new (recv_closed mid new (record mid { recv = new.recv; events = _ }) id.0 (is_live mid id.0) r.rest_is
    (parts_go mid (record mid { recv = new.recv; events = _ }) refl refl refl (send_same refl) (elim r.taken [
      | inl taken ↦ recv_step taken.step (λ half next goes. same_limit half next (ap (λ (h : PlainRecv). h.sent_max_stream_data) goes.rest_is))
      | inr absent ↦ recv_none absent
    ]))) first
received_go old new f free (stop_received mid id code came step e) =
    let first = arrived_go old mid id.0 (not_own old id.0 (has_send old.side id.0) 5 free) came in
    go_on old mid new (subst (λ (s : PlainStreams). GoOn mid s) (sym e) (parts_go mid (record mid { send = new.send; events = _ }) refl refl refl (send_step step) (recv_same mid.recv mid.recv refl (omega arith) refl))) first
received_go old new f free (stopped_before id code came was) = arrived_go old new id.0 (not_own old id.0 (has_send old.side id.0) 5 free) came
received_go old new f free (max_data_received limit e) =
    subst (λ (s : PlainStreams). GoOn old s) (sym e) (parts_go old (record old { send = record old.send { max_data = _ } }) refl refl refl (send_halves_same refl) (recv_same old.recv old.recv refl (omega arith) refl))
received_go old new f free (max_stream_data_received mid id limit came step unblocked e) =
    let first = arrived_go old mid id.0 (not_own old id.0 (has_send old.side id.0) 17 free) came in
    go_on old mid new (subst (λ (s : PlainStreams). GoOn mid s) (sym e) (parts_go mid (record mid { send = new.send; blocked = new.blocked }) refl refl refl (step_or_absent step) (recv_same mid.recv mid.recv refl (omega arith) refl))) first
received_go old new f free (max_streams_received dir count e) =
    let mid : PlainStreams = record old { events = old.events ++ available_events (counts_of old (is_two_way dir)) count dir } in
    let same = counts_beside old old.send old.recv mid.events (is_two_way dir) in
    subst (λ (s : PlainStreams). GoOn old s) (sym e)
    (go_on old mid (with_counts mid (is_two_way dir) (with_max_opened count (counts_of old (is_two_way dir))))
    (same_counts_go mid (is_two_way dir) (with_max_opened count (counts_of old (is_two_way dir))) (ap (λ (c : StreamCounts). c.opened) (sym same)) (ap (λ (c : StreamCounts). c.arrived) (sym same)) (ap (λ (c : StreamCounts). c.announced.value) (sym same)))
    (parts_go old mid refl refl refl (send_same refl) (recv_same old.recv old.recv refl (omega arith) refl)))

-- ---- calls

-- halves and limits stay
beside_go : (old new : PlainStreams) (blocked : List ℕ) (events : List StreamEvent) (send_window receive_window : ℕ)
    → new ≡ record old { blocked = blocked; events = events; send = record old.send { send_window = send_window }; recv = record old.recv { receive_window = receive_window } } → GoOn old new
beside_go old new blocked events send_window receive_window e = subst (λ (s : PlainStreams). GoOn old s) (sym e)
    (parts_go old (record old { blocked = blocked; events = events; send = record old.send { send_window = send_window }; recv = record old.recv { receive_window = receive_window } }) refl refl refl
    (send_halves_same refl) (recv_same old.recv (record old.recv { receive_window = receive_window }) refl (omega arith) refl))

told_go : (old new : PlainStreams) (blocked : List ℕ) (events : List StreamEvent) → new ≡ record old { blocked = blocked; events = events } → GoOn old new
told_go old new blocked events e = beside_go old new blocked events old.send.send_window old.recv.receive_window e

pub polled_go : (old new : PlainStreams) (o : Option StreamEvent) → IsPolled old new o → GoOn old new
polled_go old new _ (writable id front rest open_now blocked_is shut on e) = told_go old new rest old.events e
polled_go old new _ (queued event events left events_are e) = told_go old new (still_blocked old) events e
polled_go old new _ (nothing left empty e) = told_go old new (still_blocked old) old.events e

maybe_blocked : (old new : PlainStreams) (b : Bool) (blocked : List ℕ) → new ≡ (if b then record old { blocked = blocked } else old) → GoOn old new
maybe_blocked old new true blocked e = told_go old new blocked old.events e
maybe_blocked old new false blocked e = told_go old new old.blocked old.events e

blocked_go : (old new : PlainStreams) (id : ℕ) (e : WriteFault) → new ≡ with_blocked old id e → GoOn old new
blocked_go old new id Blocked e = maybe_blocked old new (write_limit old.send == 0) _ e
blocked_go old new id (Stopped code) e = told_go old new old.blocked old.events e
blocked_go old new id ClosedStream e = told_go old new old.blocked old.events e
blocked_go old new id Memory e = told_go old new old.blocked old.events e

answer_limit : (half next : PlainRecv) (max_length : ℕ) (answer : Result (Option Chunk) ReadFault) → IsReadAnswer half next max_length answer → half.sent_max_stream_data ≤ next.sent_max_stream_data
answer_limit half next max_length answer (bytes_read c some r) = same_limit half next (ap (λ (h : PlainRecv). h.sent_max_stream_data) r.rest_is)
answer_limit half next max_length answer (nothing_read none e c empty) = same_limit half next (ap (λ (h : PlainRecv). h.sent_max_stream_data) e)
answer_limit half next max_length answer (end_read some waits at_end e) = same_limit half next (ap (λ (h : PlainRecv). h.sent_max_stream_data) e)
answer_limit half next max_length answer (reset_read code some is e) = same_limit half next (ap (λ (h : PlainRecv). h.sent_max_stream_data) e)
answer_limit half next max_length answer (none_read some waits not_end none e) = same_limit half next (ap (λ (h : PlainRecv). h.sent_max_stream_data) e)
answer_limit half next max_length answer (memory_read wants e) = same_limit half next (ap (λ (h : PlainRecv). h.sent_max_stream_data) e)

read_go : (max_length : ℕ) (ordered : Bool) (id : ℕ) (answer : Result (Option Chunk) ReadFault) (old new : PlainStreams) → IsRead max_length ordered id answer old new → GoOn old new
read_go max_length ordered id answer old new r =
    let begun = recv_go old r.mid r.mid_is (recv_step r.begun (λ half next e. same_limit half next (ap (λ (h : PlainRecv). h.sent_max_stream_data) e))) in
    go_on old r.mid new (recv_closed r.mid new (record r.mid { recv = new.recv }) id (is_live r.mid id) r.new_is
    (recv_go r.mid (record r.mid { recv = new.recv }) refl (recv_step r.reads (λ half next a. answer_limit half next max_length answer a)))) begun

pub call_go : (old new : PlainStreams) → IsCall old new → GoOn old new
call_go old new (same_call e) = subst (λ (s : PlainStreams). GoOn old s) (sym e) (same_go old)
call_go old new (opened_call id dir is o) = adds_go old new (λ k. k == id) (opened_new old new id dir is o)
    (λ b. same_announced (record old { send = new.send; recv = new.recv }) new (is_bi id) _ o.rest_is (ap (λ (c : StreamCounts). c.announced) (sym (counts_beside old new.send new.recv old.events (is_bi id)))) b
    ∙ ap (λ (c : StreamCounts). c.announced) (counts_beside old new.send new.recv old.events b))
call_go old new (accepted_call dir e) = subst (λ (s : PlainStreams). GoOn old s) (sym e) (same_counts_go old (is_two_way dir) _ refl refl refl)
call_go old new (takes_call id count bytes step e) = send_go old new e (send_step step)
call_go old new (finishes_call id step e) = send_go old new e (send_step step)
call_go old new (resets_call id code step e) = send_go old new e (send_step step)
call_go old new (goes_first_call id priority step e) = send_go old new e (send_step step)
call_go old new (refused_call id fault e) = blocked_go old new id fault e
call_go old new (reads_call max_length ordered id answer r) = read_go max_length ordered id answer old new r
call_go old new (stops_call id code step e) = recv_closed old new (record old { recv = new.recv }) id (is_live old id) e
    (recv_go old (record old { recv = new.recv }) refl (recv_step step (λ half next stopped. same_limit half next (ap (λ (h : PlainRecv). h.sent_max_stream_data) stopped.rest_is))))
call_go old new (takes_reset_call id code step e) = recv_closed old new (record old { recv = new.recv }) id (is_live old id) e
    (recv_go old (record old { recv = new.recv }) refl (recv_step step (λ half next taken. same_limit half next (ap (λ (h : PlainRecv). h.sent_max_stream_data) taken.2))))
call_go old new (concurrent_call dir count e) = subst (λ (s : PlainStreams). GoOn old s) (sym e) (same_counts_go old (is_two_way dir) _ refl refl refl)
call_go old new (send_window_call bytes e) = beside_go old new old.blocked old.events bytes old.recv.receive_window e
call_go old new (receive_window_call bytes e) = beside_go old new old.blocked old.events old.send.send_window bytes e
call_go old new (polls_call o polled) = polled_go old new o polled
