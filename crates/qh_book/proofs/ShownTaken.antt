-- A frame that is taken brings its items.
use Rattle.std.proofs.Common.{◌≡◌, ◌⊎◌, ℕ, ◌+◌, ◌==◌, ◌^◌, min, max, Bool, true, false, not, List, ◌++◌, length, map, Option, Some, None, IfSome, if◌then◌else◌, refl, sym, ap, ◌∙◌, arith, inl, inr, subst}
use Rattle.std.proofs.lemmas.Bool.{eqb-true, false≢true}
use Rattle.std.proofs.lemmas.Option.{none-some}
use Rattle.qh_base.specs.declared.stream_id.StreamId.{StreamId}
use Rattle.qh_book.proofs.ShownFrames.{arrival_shown, brought_both, piece_shown, reset_brought}
use Rattle.qh_book.proofs.ShownRecvs.{RecvAlone, recv_closed}
use Rattle.qh_book.proofs.ShownRefusals.{half_page, no_half}
use Rattle.qh_book.proofs.ShownSends.{held_stepped, live_there, shown_half, step_page}
use Rattle.qh_book.specs.Book.{Book, with_send}
use Rattle.qh_book.specs.Items.{bring, bring_all, brought_send, item_of, on_send, or_first}
use Rattle.qh_book.specs.Pages.{SendPage, Tally, is_send_done, live_send}
use Rattle.qh_book.specs.Shown.{Note, ShowsStreams, send_page}
use Rattle.qh_book.specs.declared.item.Item.TheVariants as item
use Rattle.qh_half.specs.Send.{PlainSend, held}
use Rattle.qh_halves.specs.Counts.{has_recv, has_send, is_own, with_max_opened}
use Rattle.qh_halves.specs.SendHalves.{HasLimit, IsAbsent, IsStep, IsStoppedWith, PlainSendHalves, send_at, unacked}
use Rattle.qh_spec.specs.FrameTypes as frame_types
use Rattle.qh_spec.specs.declared.sides.Dir.{Dir}
use Rattle.qh_spec.specs.declared.sides.Dir.TheVariants.{Bi, Uni}
use Rattle.qh_streams.specs.Items.{arrival, items_of}
use Rattle.qh_streams.specs.Streams.{IsReceived, PlainStreams, Refusal, available_events, counts_of, id_refusal, is_two_way, or_refusal, refusal_of, size_refusal, was_opened, with_counts}
use Rattle.qh_streams.specs.Streams.IsReceived.{stream, reset, stop, stopped_before, max_data, max_stream_data, max_streams}
use Rattle.qh_streams.specs.declared.frames.StreamEvent.{StreamEvent}
use Rattle.qh_streams.specs.declared.frames.StreamFrame.{StreamFrame}

-- ---- events and writers that wait are in no book

pub shown_told : {notes : ℕ → Note} (s : PlainStreams) (b : Book) (events : List StreamEvent) (blocked : List ℕ) → ShowsStreams s notes b → ShowsStreams (record s { events = events; blocked = blocked }) notes b
shown_told s b events blocked shown = record {
  side = shown.side;
  sends = shown.sends;
  recvs = shown.recvs;
  unsent_sides = shown.unsent_sides;
  unread_sides = shown.unread_sides;
  pages = shown.pages;
  bi = shown.bi;
  uni = shown.uni;
  first_bi = shown.first_bi;
  first_uni = shown.first_uni;
  credit_to = shown.credit_to;
  taken = shown.taken;
  send_window = shown.send_window;
  unconfirmed = shown.unconfirmed;
}

alone_told : (s new : PlainStreams) (events : List StreamEvent) → RecvAlone (record s { events = events }) new → RecvAlone s new
alone_told s new events a = record { side = a.side; send = a.send; peer = a.peer; bi = a.bi; uni = a.uni }

-- ---- a sending half

brought_live : (f : SendPage → SendPage) (id : ℕ) (b : Book) (p : SendPage) → live_send (b.sends id) ≡ Some p → brought_send f id b ≡ with_send b id (f p)
brought_live f id b p is = ap (λ (o : Option SendPage). on_send f o id b) is

brought_gone : (f : SendPage → SendPage) (id : ℕ) (b : Book) → live_send (b.sends id) ≡ None → brought_send f id b ≡ b
brought_gone f id b is = ap (λ (o : Option SendPage). on_send f o id b) is

live_is : (o : Option SendPage) (p : SendPage) → live_send o ≡ Some p → o ≡ Some p
live_is None p is = absurd (none-some p is)
live_is (Some q) p is = cases (is_send_done q) is
  where
    cases : (done : Bool) → (if done then None else Some q) ≡ Some p → Some q ≡ Some p
    cases true e = absurd (none-some p e)
    cases false e = e

pub put_same : (b : Book) (id : ℕ) (p : SendPage) → b.sends id ≡ Some p → with_send b id p ≡ b
put_same b id p is = λ i. record b { sends = λ k. each k (k == id) (eqb-true k id) i }
  where
    each : (k : ℕ) (here : Bool) → (here ≡ true → k ≡ id) → (if here then Some p else b.sends k) ≡ b.sends k
    each k true same = sym is ∙ ap b.sends (sym (same refl))
    each k false same = refl

-- a step of the half at this id that holds as many bytes as before
step_brought : {notes : ℕ → Note} {P : PlainSend → PlainSend → Type 0} (mid new : PlainStreams) (b : Book) (id : StreamId) (f : SendPage → SendPage) → ShowsStreams mid notes b → (s : IsStep P mid.send new.send id.0 0) → new ≡ record mid { send = new.send }
    → held s.next ≡ held s.half → ((p : SendPage) → p ≡ send_page s.half → f p ≡ send_page s.next) → ShowsStreams new notes (brought_send f id.0 b)
step_brought {notes = notes} mid new b id f shown s rest holds page =
    let p = step_page mid new.send b id.0 0 shown s in
    let sum = held_stepped mid.send new.send id.0 0 s in
    let taken_is : b.taken ≡ mid.send.data_sent + 0 = omega (arith, shown.taken) in
    let held_is : b.unconfirmed ≡ unacked new.send.halves = omega (arith, holds, sum, shown.unconfirmed) in
    subst (λ (x : Book). ShowsStreams new notes x) (sym (brought_live f id.0 b p.0 (live_there (b.sends id.0) p.0 s.half p.1 p.3 p.2)))
    (shown_half mid new b id.0 0 (Some s.next) (f p.0) b.taken b.unconfirmed shown s.is rest (λ gone. absurd (none-some s.half (sym gone ∙ s.was))) (s.is_on, page p.0 p.3) taken_is held_is)

stop_shown : {notes : ℕ → Note} (mid new : PlainStreams) (b : Book) (id : StreamId) (code : ℕ) (events : List StreamEvent) → ShowsStreams mid notes b → (s : IsStep (IsStoppedWith code) mid.send new.send id.0 0) → new ≡ record mid { send = new.send; events = events }
    → ShowsStreams new notes (bring (item.Stop id code) b)
stop_shown mid new b id code events shown s rest =
    step_brought (record mid { events = events }) new b id (λ p. record p { stop_code = or_first p.stop_code code }) (shown_told mid b events mid.blocked shown) s rest (ap held s.step.1)
    (λ p is. ap (λ (q : SendPage). record q { stop_code = or_first q.stop_code code }) is ∙ ((λ i. record (send_page s.half) { stop_code = or_first (s.step.0 i) code }) ∙ sym (ap send_page s.step.1)))

stopped_shown : {notes : ℕ → Note} (new : PlainStreams) (b : Book) (id : StreamId) (code : ℕ) → ShowsStreams new notes b → IfSome (send_at new.send id.0) (λ h. (h.stop_reason ≡ None) → ⊥) → ShowsStreams new notes (bring (item.Stop id code) b)
stopped_shown {notes = notes} new b id code shown known = cases (send_at new.send id.0) refl known
  where
    f : SendPage → SendPage
    f p = record p { stop_code = or_first p.stop_code code }

    first_stays : (o : Option ℕ) → (o ≡ None → ⊥) → or_first o code ≡ o
    first_stays None h = absurd (h refl)
    first_stays (Some c) h = refl

    cases : (o : Option PlainSend) → send_at new.send id.0 ≡ o → IfSome o (λ h. (h.stop_reason ≡ None) → ⊥) → ShowsStreams new notes (bring (item.Stop id code) b)
    cases None is known = subst (λ (x : Book). ShowsStreams new notes x) (sym (brought_gone _ id.0 b (no_half new b id shown is))) shown
    cases (Some h) is known =
        let p = half_page new b id shown h is in
        let stays : or_first p.0.stop_code code ≡ p.0.stop_code = first_stays p.0.stop_code (λ none. known (sym p.2 ∙ none)) in
        let same : record p.0 { stop_code = or_first p.0.stop_code code } ≡ p.0 = (λ i. record p.0 { stop_code = stays i }) in
        subst (λ (x : Book). ShowsStreams new notes x) (sym (brought_live _ id.0 b p.0 p.1 ∙ (ap (with_send b id.0) same ∙ put_same b id.0 p.0 (live_is (b.sends id.0) p.0 p.1)))) shown

limit_shown : {notes : ℕ → Note} (mid new : PlainStreams) (b : Book) (id : StreamId) (limit : ℕ) → ShowsStreams mid notes b → IsStep (HasLimit limit) mid.send new.send id.0 0 ⊎ IsAbsent mid.send new.send id.0 → new ≡ record mid { send = new.send; blocked = new.blocked }
    → ShowsStreams new notes (bring (item.StreamCredit id limit) b)
limit_shown {notes = notes} mid new b id limit shown (inl s) rest =
    step_brought (record mid { blocked = new.blocked }) new b id (λ p. record p { credit_to = max p.credit_to limit }) (shown_told mid b mid.events new.blocked shown) s rest (ap held s.step)
    (λ p is. ap (λ (q : SendPage). record q { credit_to = max q.credit_to limit }) is ∙ sym (ap send_page s.step))
limit_shown {notes = notes} mid new b id limit shown (inr a) rest =
    let same : new ≡ record mid { blocked = new.blocked } = rest ∙ ap (λ (h : PlainSendHalves). record mid { send = h; blocked = new.blocked }) a.same in
    subst (λ (x : Book). ShowsStreams new notes x) (sym (brought_gone _ id.0 b (no_half mid b id shown a.none))) (subst (λ (s : PlainStreams). ShowsStreams s notes b) (sym same) (shown_told mid b mid.events new.blocked shown))

-- ---- limits of the connection

max_data_shown : {notes : ℕ → Note} (old : PlainStreams) (b : Book) (limit : ℕ) → ShowsStreams old notes b → ShowsStreams (record old { send = record old.send { max_data = max old.send.max_data limit } }) notes (bring (item.Credit limit) b)
max_data_shown old b limit shown = record {
  side = shown.side;
  sends = shown.sends;
  recvs = shown.recvs;
  unsent_sides = shown.unsent_sides;
  unread_sides = shown.unread_sides;
  pages = shown.pages;
  bi = shown.bi;
  uni = shown.uni;
  first_bi = shown.first_bi;
  first_uni = shown.first_uni;
  credit_to = ap (λ (n : ℕ). max n limit) shown.credit_to;
  taken = shown.taken;
  send_window = shown.send_window;
  unconfirmed = shown.unconfirmed;
}

max_streams_shown : {notes : ℕ → Note} (old : PlainStreams) (b : Book) (dir : Dir) (count : ℕ) → ShowsStreams old notes b → ShowsStreams (with_counts old (is_two_way dir) (with_max_opened count (counts_of old (is_two_way dir)))) notes (bring (item.Count dir count) b)
max_streams_shown old b Bi count shown = record {
  side = shown.side;
  sends = shown.sends;
  recvs = shown.recvs;
  unsent_sides = shown.unsent_sides;
  unread_sides = shown.unread_sides;
  pages = shown.pages;
  bi = ap (λ (t : Tally). record t { permitted = max t.permitted (min count (2 ^ 60)) }) shown.bi;
  uni = shown.uni;
  first_bi = shown.first_bi;
  first_uni = shown.first_uni;
  credit_to = shown.credit_to;
  taken = shown.taken;
  send_window = shown.send_window;
  unconfirmed = shown.unconfirmed;
}
max_streams_shown old b Uni count shown = record {
  side = shown.side;
  sends = shown.sends;
  recvs = shown.recvs;
  unsent_sides = shown.unsent_sides;
  unread_sides = shown.unread_sides;
  pages = shown.pages;
  bi = shown.bi;
  uni = ap (λ (t : Tally). record t { permitted = max t.permitted (min count (2 ^ 60)) }) shown.uni;
  first_bi = shown.first_bi;
  first_uni = shown.first_uni;
  credit_to = shown.credit_to;
  taken = shown.taken;
  send_window = shown.send_window;
  unconfirmed = shown.unconfirmed;
}

-- ---- frames

first_none : (o second : Option Refusal) → or_refusal o second ≡ None → o ≡ None
first_none None second h = refl
first_none (Some r) second h = h

ours_at : (has own opened : Bool) (a c : Option Refusal) (r s : Refusal) → (if not has then Some r else if own then (if opened then None else Some s) else c) ≡ None → own ≡ true → opened ≡ true
ours_at false own opened a c r s h up = absurd (none-some r (sym h))
ours_at true true true a c r s h up = refl
ours_at true true false a c r s h up = absurd (none-some s (sym h))
ours_at true false opened a c r s h up = absurd (false≢true up)

ours : (s : PlainStreams) (id : ℕ) (has : Bool) (frame : ℕ) → id_refusal s id has frame ≡ None → is_own s.side id ≡ true → was_opened s id ≡ true
ours s id has frame h = ours_at has (is_own s.side id) (was_opened s id) None _ _ _ h

pub received : {notes : ℕ → Note} (old new : PlainStreams) (b : Book) (frame : StreamFrame) → ShowsStreams old notes b → refusal_of old frame ≡ None → IsReceived old new frame → ShowsStreams new notes (bring_all (map item_of (items_of old frame)) b)
received {notes = notes} old new b _ shown none (stream id offset payload fin g) =
    let before = arrival_shown old g.mid b id shown (ours old id.0 (has_recv old.side id.0) frame_types.stream (first_none _ (size_refusal old id.0 (offset + length payload) fin frame_types.stream) none)) g.arrived in
    let alone = alone_told g.mid new _ (recv_closed _ new new.recv id.0 _ g.rest_is) in
    subst (λ (x : Book). ShowsStreams new notes x) (sym (brought_both (arrival old id) _ b)) (piece_shown g.mid new (bring_all (map item_of (arrival old id)) b) id before alone offset payload fin g.taken)
received {notes = notes} old new b _ shown none (reset id code size g) =
    let before = arrival_shown old g.mid b id shown (ours old id.0 (has_recv old.side id.0) frame_types.reset_stream (first_none _ (size_refusal old id.0 size true frame_types.reset_stream) none)) g.arrived in
    let alone = alone_told g.mid new _ (recv_closed _ new new.recv id.0 _ g.rest_is) in
    subst (λ (x : Book). ShowsStreams new notes x) (sym (brought_both (arrival old id) _ b)) (reset_brought g.mid new (bring_all (map item_of (arrival old id)) b) id before alone code size g.taken)
received {notes = notes} old new b _ shown none (stop mid id code arrived s rest) =
    let before = arrival_shown old mid b id shown (ours old id.0 (has_send old.side id.0) frame_types.stop_sending none) arrived in
    subst (λ (x : Book). ShowsStreams new notes x) (sym (brought_both (arrival old id) _ b)) (stop_shown mid new (bring_all (map item_of (arrival old id)) b) id code _ before s rest)
received {notes = notes} old new b _ shown none (stopped_before id code arrived known) =
    let before = arrival_shown old new b id shown (ours old id.0 (has_send old.side id.0) frame_types.stop_sending none) arrived in
    subst (λ (x : Book). ShowsStreams new notes x) (sym (brought_both (arrival old id) _ b)) (stopped_shown new (bring_all (map item_of (arrival old id)) b) id code before known)
received {notes = notes} old new b _ shown none (max_data limit is) = subst (λ (s : PlainStreams). ShowsStreams s notes (bring (item.Credit limit) b)) (sym is) (max_data_shown old b limit shown)
received {notes = notes} old new b _ shown none (max_stream_data mid id limit arrived s unblocked rest) =
    let before = arrival_shown old mid b id shown (ours old id.0 (has_send old.side id.0) frame_types.max_stream_data none) arrived in
    subst (λ (x : Book). ShowsStreams new notes x) (sym (brought_both (arrival old id) _ b)) (limit_shown mid new (bring_all (map item_of (arrival old id)) b) id limit before s rest)
received {notes = notes} old new b _ shown none (max_streams dir count is) =
    subst (λ (s : PlainStreams). ShowsStreams s notes (bring (item.Count dir count) b)) (sym is) (count_shown dir)
  where
    events : List StreamEvent
    events = old.events ++ available_events (counts_of old (is_two_way dir)) count dir

    count_shown : (d : Dir) → ShowsStreams (with_counts (record old { events = old.events ++ available_events (counts_of old (is_two_way dir)) count dir }) (is_two_way d) (with_max_opened count (counts_of old (is_two_way d)))) notes (bring (item.Count d count) b)
    count_shown Bi = max_streams_shown (record old { events = old.events ++ available_events (counts_of old (is_two_way dir)) count dir }) b Bi count (shown_told old b _ old.blocked shown)
    count_shown Uni = max_streams_shown (record old { events = old.events ++ available_events (counts_of old (is_two_way dir)) count dir }) b Uni count (shown_told old b _ old.blocked shown)
