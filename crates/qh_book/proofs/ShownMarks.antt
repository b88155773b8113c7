-- What is sent and lost, and what is acknowledged beside the bytes and ends of streams, is in no book.
use Rattle.std.proofs.Common.{◌≡◌, ◌⊎◌, ℕ, ◌+◌, ◌-◌, Bool, true, false, ◌&&◌, ◌||◌, [], length, map, Option, Some, None, is_some, if◌then◌else◌, refl, sym, ap, ◌∙◌, arith, inl, inr, subst}
use Rattle.std.proofs.lemmas.Bool.{cases_Bool}
use Rattle.std.proofs.lemmas.Option.{none-some}
use Rattle.qh_book.proofs.ShownConfirmed.{reset_acked, stream_acked}
use Rattle.qh_book.proofs.ShownFrames.{shown_kept}
use Rattle.qh_book.proofs.ShownRecvs.{RecvAlone}
use Rattle.qh_book.proofs.ShownSends.{held_stepped, shown_half, step_page}
use Rattle.qh_book.proofs.ShownStops.{shown_same}
use Rattle.qh_book.proofs.ShownTaken.{put_same}
use Rattle.qh_book.proofs.ShownWrites.{held_as}
use Rattle.qh_book.specs.Book.{Book}
use Rattle.qh_book.specs.Items.{bring_all, item_of}
use Rattle.qh_book.specs.Pages.{RecvPage, SendPage}
use Rattle.qh_book.specs.Shown.{Note, ShowsHalf, ShowsReading, ShowsRecv, ShowsStreams, is_mark_acked, send_page, state_of, tally_of}
use Rattle.qh_buffers.specs.Assembler.{PlainAssembler, to_give, was_given}
use Rattle.qh_buffers.specs.Ranges.{count_of}
use Rattle.qh_buffers.specs.declared.send_buffer.Mark.{Mark}
use Rattle.qh_buffers.specs.declared.send_buffer.Mark.TheVariants.{Sent, Queued, Acked}
use Rattle.qh_half.specs.Recv.{PlainRecv, final_size, is_done, reset_code}
use Rattle.qh_half.specs.Send.{IsEndOut, IsPieceOut, IsPieceQueued, PlainSend, held, is_reset, with_end_lost, with_end_sent, with_reset_lost, with_reset_mark}
use Rattle.qh_half.specs.declared.recv.StopFrame.{StopFrame}
use Rattle.qh_half.specs.declared.send.SendState.{SendState as HalfState}
use Rattle.qh_half.specs.declared.send.SendState.TheVariants.{Ready, DataSent, ResetSent}
use Rattle.qh_halves.specs.RecvHalves.{IsRecvAbsent, IsRecvStep, PlainRecvHalves, recv_at, unless_done}
use Rattle.qh_halves.specs.SendHalves.{GivesPiece, GivesReset, IsStep, PlainSendHalves, unacked}
use Rattle.qh_halves.specs.declared.counts.StreamCounts.{StreamCounts}
use Rattle.qh_spec.specs.declared.sides.Dir.{Dir}
use Rattle.qh_spec.specs.declared.sides.Dir.TheVariants.{Bi, Uni}
use Rattle.qh_streams.specs.Items.{confirmed_items}
use Rattle.qh_streams.specs.Streams.IsAckedFrame.{stream as acked_stream, reset as acked_reset, stop as acked_stop, max_data as acked_max_data, max_stream_data as acked_max_stream_data, max_streams as acked_max_streams}
use Rattle.qh_streams.specs.Streams.IsHandedOver.{stream as handed_stream, reset as handed_reset, stop as handed_stop, max_data as handed_max_data, max_stream_data as handed_max_stream_data, max_streams as handed_max_streams}
use Rattle.qh_streams.specs.Streams.IsLostFrame.{stream as lost_stream, reset as lost_reset, stop as lost_stop, max_data as lost_max_data, max_stream_data as lost_max_stream_data, max_streams as lost_max_streams}
use Rattle.qh_streams.specs.Streams.{IsAckedFrame, IsHandedOver, IsLostFrame, PlainStreams, max_frame_header, counts_of, is_two_way, with_counts}
use Rattle.qh_streams.specs.declared.frames.SentFrame.{SentFrame}

-- ---- receiving halves

-- nothing that the book shows changed
record IsMarked (r next : PlainRecv) : Type 0 where
  assembler : next.assembler ≡ r.assembler
  state : next.state ≡ r.state
  stopped : next.is_stopped ≡ r.is_stopped
  given : next.is_given ≡ r.is_given
  unordered : next.is_unordered ≡ r.is_unordered

marked_reading : (r next : PlainRecv) (p : RecvPage) → IsMarked r next → ShowsReading r p → ShowsReading next p
marked_reading r next p m x = record {
  state = x.state;
  unread = λ k. x.unread k ∙ ap (λ (a : PlainAssembler). to_give a k) (sym m.assembler);
  next = λ ordered. x.next (sym m.unordered ∙ ordered);
  was_read = λ k. x.was_read k ∙ ap (λ (a : PlainAssembler). was_given a k) (sym m.assembler);
  read = x.read ∙ ap (λ (a : PlainAssembler). count_of a.given) (sym m.assembler);
  end = x.end ∙ ap final_size (sym m.state);
  reset_code = x.reset_code ∙ ap reset_code (sym m.state);
  dry = x.dry;
  is_unordered = x.is_unordered ∙ sym m.unordered;
}

marked_half : (note : Note) (up : Bool) (r next : PlainRecv) (p : RecvPage) → IsMarked r next → ShowsHalf up note r p → ShowsHalf up note next p
marked_half note true r next p m x = x
marked_half note false r next p m x = (marked_reading r next p m x.0, x.1)

marked_recv : (note : Note) (r next : PlainRecv) (o : Option RecvPage) → IsMarked r next → ShowsRecv note (Some r) o → ShowsRecv note (unless_done next) o
marked_recv note r next None m x = absurd x
marked_recv note r next (Some p) m x = subst (λ (n : Option PlainRecv). ShowsRecv note n (Some p)) (sym (ap (λ (done : Bool). if done then None else Some next) on)) (on, half)
  where
    on : is_done next ≡ false
    on = (λ i. m.given i || (m.stopped i && is_some (final_size (m.state i)))) ∙ x.0

    half : ShowsHalf next.is_stopped note next p
    half = subst (λ (up : Bool). ShowsHalf up note next p) (sym m.stopped) (marked_half note r.is_stopped r next p m x.1)

recv_alone : (old new : PlainStreams) (r : PlainRecvHalves) → new ≡ record old { recv = r } → RecvAlone old new
recv_alone old new r is = subst (λ (n : PlainStreams). RecvAlone old n) (sym is) (record { side = refl; send = refl; peer = refl; bi = refl; uni = refl })

marks_shown : {notes : ℕ → Note} {P : PlainRecv → PlainRecv → Type 0} (old new : PlainStreams) (b : Book) (id : ℕ) → ShowsStreams old notes b → IsRecvStep P old.recv new.recv id 0 ⊎ IsRecvAbsent old.recv new.recv id → new ≡ record old { recv = new.recv }
    → ((r next : PlainRecv) → P r next → IsMarked r next) → ShowsStreams new notes b
marks_shown {notes = notes} old new b id shown (inl s) is marked =
    shown_kept old new b id (unless_done s.next) shown (recv_alone old new new.recv is) s.halves_are (λ none. absurd (none-some s.half (sym none ∙ s.was)))
    (marked_recv (notes id) s.half s.next (b.recvs id) (marked s.half s.next s.step) (subst (λ (o : Option PlainRecv). ShowsRecv (notes id) o (b.recvs id)) s.was (shown.recvs id)))
marks_shown old new b id shown (inr a) is marked = shown_same old new b shown (recv_alone old new new.recv is) (λ k. ap (λ (r : PlainRecvHalves). recv_at r k) a.same)

changed_marked : (r next other : PlainRecv) → next ≡ other → IsMarked r other → IsMarked r next
changed_marked r next other is m = subst (λ (x : PlainRecv). IsMarked r x) (sym is) m

-- a step by which only what was announced, and what is asked of the peer, changed
only_marks : (r : PlainRecv) (frame : Option StopFrame) (mark : Mark) (limit : ℕ) → IsMarked r (record r { stop_frame = frame; limit_mark = mark; sent_max_stream_data = limit })
only_marks r frame mark limit = record { assembler = refl; state = refl; stopped = refl; given = refl; unordered = refl }

-- ---- what this end announced

announced_recv : {notes : ℕ → Note} (old new : PlainStreams) (b : Book) (r : PlainRecvHalves) → ShowsStreams old notes b → new ≡ record old { recv = r } → ((k : ℕ) → recv_at r k ≡ recv_at old.recv k) → ShowsStreams new notes b
announced_recv old new b r shown is same = shown_same old new b shown (recv_alone old new r is) (λ k. ap (λ (s : PlainStreams). recv_at s.recv k) is ∙ same k)

announced_count : {notes : ℕ → Note} (old new : PlainStreams) (b : Book) (dir : Dir) (c : StreamCounts) → ShowsStreams old notes b → new ≡ with_counts old (is_two_way dir) c → tally_of c ≡ tally_of (counts_of old (is_two_way dir)) → ShowsStreams new notes b
announced_count old new b dir c shown is same = shown_same old new b shown (subst (λ (n : PlainStreams). RecvAlone old n) (sym is) (alone dir c same)) (λ k. ap (λ (s : PlainStreams). recv_at s.recv k) is ∙ kept dir c k)
  where
    alone : (d : Dir) (c : StreamCounts) → tally_of c ≡ tally_of (counts_of old (is_two_way d)) → RecvAlone old (with_counts old (is_two_way d) c)
    alone Bi c same = record { side = refl; send = refl; peer = refl; bi = same; uni = refl }
    alone Uni c same = record { side = refl; send = refl; peer = refl; bi = refl; uni = same }

    kept : (d : Dir) (c : StreamCounts) (k : ℕ) → recv_at (with_counts old (is_two_way d) c).recv k ≡ recv_at old.recv k
    kept Bi c k = refl
    kept Uni c k = refl

-- ---- sending halves

held_is : (h : PlainSend) → length (send_page h).unconfirmed ≡ held h
held_is h = held_as (is_reset h.state) h.buffer.bytes

-- a step that leaves the page as it was
pub page_kept : {notes : ℕ → Note} {P : PlainSend → PlainSend → Type 0} (old new : PlainStreams) (b : Book) (id : ℕ) → ShowsStreams old notes b → (s : IsStep P old.send new.send id 0) → new ≡ record old { send = new.send } → send_page s.next ≡ send_page s.half → ShowsStreams new notes b
page_kept {notes = notes} old new b id shown s rest same =
    let p = step_page old new.send b id 0 shown s in
    let sum = held_stepped old.send new.send id 0 s in
    let holds : held s.next ≡ held s.half = sym (held_is s.next) ∙ (ap (λ (q : SendPage). length q.unconfirmed) same ∙ held_is s.half) in
    let taken : b.taken ≡ old.send.data_sent + 0 = (let t = shown.taken in omega (arith, t)) in
    let now : b.unconfirmed ≡ unacked new.send.halves = omega (arith, holds, sum, shown.unconfirmed) in
    subst (λ (x : Book). ShowsStreams new notes x) (put_same b id p.0 p.1)
    (shown_half old new b id 0 (Some s.next) p.0 b.taken b.unconfirmed shown s.is rest (λ gone. absurd (none-some s.half (sym gone ∙ s.was))) (s.is_on, p.3 ∙ sym same) taken now)

-- the page of a half whose buffer holds the same bytes
record IsSameState (before after : HalfState) : Type 0 where
  state : state_of after ≡ state_of before
  mark : is_mark_acked after ≡ is_mark_acked before
  reset : is_reset after ≡ is_reset before

same_page : (h next : PlainSend) → next ≡ record h { buffer = next.buffer; state = next.state } → next.buffer.start ≡ h.buffer.start → next.buffer.bytes ≡ h.buffer.bytes → IsSameState h.state next.state → send_page next ≡ send_page h
same_page h next rest start bytes s = ap send_page rest ∙ (λ i. record (send_page h) {
  taken = start i + length (bytes i);
  unconfirmed = (if s.reset i then [] else bytes i);
  state = s.state i;
  is_confirmed = s.mark i;
})

end_sent : (fin : Bool) (state : HalfState) → IsSameState state (if fin then with_end_sent state else state)
end_sent false state = record { state = refl; mark = refl; reset = refl }
end_sent true Ready = record { state = refl; mark = refl; reset = refl }
end_sent true (DataSent Queued) = record { state = refl; mark = refl; reset = refl }
end_sent true (DataSent Sent) = record { state = refl; mark = refl; reset = refl }
end_sent true (DataSent Acked) = record { state = refl; mark = refl; reset = refl }
end_sent true (ResetSent code mark) = record { state = refl; mark = refl; reset = refl }

end_lost : (fin : Bool) (state : HalfState) → IsSameState state (if fin then with_end_lost state else state)
end_lost false state = record { state = refl; mark = refl; reset = refl }
end_lost true Ready = record { state = refl; mark = refl; reset = refl }
end_lost true (DataSent Queued) = record { state = refl; mark = refl; reset = refl }
end_lost true (DataSent Sent) = record { state = refl; mark = refl; reset = refl }
end_lost true (DataSent Acked) = record { state = refl; mark = refl; reset = refl }
end_lost true (ResetSent code mark) = record { state = refl; mark = refl; reset = refl }

pub lost_page : (h next : PlainSend) (from to : ℕ) (fin : Bool) → IsPieceQueued h next from to fin → send_page next ≡ send_page h
lost_page h next from to fin g = elim (cases_Bool (is_reset h.state)) [
  | inl up ↦ ap send_page (g.kept up)
  | inr off ↦ same_page h next g.rest_is (g.bytes_are off).start_is (g.bytes_are off).bytes_are (subst (λ (s : HalfState). IsSameState h.state s) (sym g.state_is) (end_lost fin h.state))
]

pub sent_page : (h next : PlainSend) (room from to : ℕ) (fin : Bool) → IsPieceOut h next room from to fin → send_page next ≡ send_page h
sent_page h next room from to fin g = same_page h next g.rest_is g.bytes_are.start_is g.bytes_are.bytes_are (subst (λ (s : HalfState). IsSameState h.state s) (sym g.state_is) (end_sent fin h.state))

pub end_sent_page : (h next : PlainSend) (from to : ℕ) (fin : Bool) → IsEndOut h next from to fin → send_page next ≡ send_page h
end_sent_page h next from to fin g = ap send_page g.new_is ∙ (let s = end_sent true h.state in (λ i. record (send_page h) { unconfirmed = (if s.reset i then [] else h.buffer.bytes); state = s.state i; is_confirmed = s.mark i }))

reset_lost : (state : HalfState) → IsSameState state (with_reset_lost state)
reset_lost Ready = record { state = refl; mark = refl; reset = refl }
reset_lost (DataSent mark) = record { state = refl; mark = refl; reset = refl }
reset_lost (ResetSent code Queued) = record { state = refl; mark = refl; reset = refl }
reset_lost (ResetSent code Sent) = record { state = refl; mark = refl; reset = refl }
reset_lost (ResetSent code Acked) = record { state = refl; mark = refl; reset = refl }

pub reset_lost_page : (h next : PlainSend) → next ≡ record h { state = with_reset_lost h.state } → send_page next ≡ send_page h
reset_lost_page h next is = ap send_page is ∙ (let s = reset_lost h.state in (λ i. record (send_page h) { unconfirmed = (if s.reset i then [] else h.buffer.bytes); state = s.state i; is_confirmed = s.mark i }))

-- ---- frames

unchanged : {notes : ℕ → Note} (old new : PlainStreams) (b : Book) (s : PlainSendHalves) → ShowsStreams old notes b → s ≡ old.send → new.send ≡ s → new ≡ record old { send = new.send } → ShowsStreams new notes b
unchanged {notes = notes} old new b s shown is same rest = subst (λ (t : PlainStreams). ShowsStreams t notes b) (sym (rest ∙ ap (λ (h : PlainSendHalves). record old { send = h }) (same ∙ is))) shown

pub frame_lost : {notes : ℕ → Note} (old new : PlainStreams) (b : Book) (f : SentFrame) → ShowsStreams old notes b → IsLostFrame old new f → ShowsStreams new notes b
frame_lost old new b _ shown (lost_stream id piece (inl s) is) = page_kept old new b id.0 shown s is (lost_page s.half s.next _ _ _ s.step)
frame_lost old new b _ shown (lost_stream id piece (inr a) is) = unchanged old new b old.send shown refl a.same is
frame_lost old new b _ shown (lost_reset id reset_frame (inl s) is) = page_kept old new b id.0 shown s is (reset_lost_page s.half s.next s.step)
frame_lost old new b _ shown (lost_reset id reset_frame (inr a) is) = unchanged old new b old.send shown refl a.same is
frame_lost old new b _ shown (lost_stop id code s is) = marks_shown old new b id.0 shown s is (λ r next step. changed_marked r next _ step (only_marks r _ _ _))
frame_lost old new b _ shown (lost_max_data limit is) = announced_recv old new b _ shown is (λ k. refl)
frame_lost old new b _ shown (lost_max_stream_data id limit s is) = marks_shown old new b id.0 shown s is (λ r next step. changed_marked r next _ step (only_marks r _ _ _))
frame_lost old new b _ shown (lost_max_streams dir count is) = announced_count old new b dir _ shown is refl

pub frame_handed : {notes : ℕ → Note} (old new : PlainStreams) (b : Book) (room : ℕ) (f : SentFrame) → ShowsStreams old notes b → IsHandedOver old new room f → ShowsStreams new notes b
frame_handed old new b room _ shown (handed_stream id piece s is) = page_kept old new b id.0 shown s.step is (gives s.step.half s.step.next s.step.step)
  where
    gives : (h next : PlainSend) → GivesPiece (room - max_frame_header) piece h next → send_page next ≡ send_page h
    gives h next (inl out) = sent_page h next _ _ _ _ out
    gives h next (inr out) = end_sent_page h next _ _ _ out
frame_handed old new b room _ shown (handed_reset id reset_frame s is) = page_kept old new b id.0 shown s.step is (gives s.step.half s.step.next s.step.step)
  where
    same : (state : HalfState) (code : ℕ) → state ≡ ResetSent code Queued → IsSameState state (with_reset_mark Sent state)
    same state code was = rw was (record { state = refl; mark = refl; reset = refl })

    gives : (h next : PlainSend) → GivesReset reset_frame h next → send_page next ≡ send_page h
    gives h next g = ap send_page g.2 ∙ (let s = same h.state reset_frame.code g.0 in (λ i. record (send_page h) { unconfirmed = (if s.reset i then [] else h.buffer.bytes); state = s.state i; is_confirmed = s.mark i }))
frame_handed old new b room _ shown (handed_stop id code s is) = marks_shown old new b id.0 shown (inl s) is (λ r next step. changed_marked r next _ step.2 (only_marks r _ _ _))
frame_handed old new b room _ shown (handed_max_stream_data id limit s is) = marks_shown old new b id.0 shown (inl s) is (λ r next step. changed_marked r next _ step.2 (only_marks r _ _ _))
frame_handed old new b room _ shown (handed_max_data limit known due is) = announced_recv old new b _ shown is (λ k. refl)
frame_handed old new b room _ shown (handed_max_streams dir count known due is) = announced_count old new b dir _ shown is refl

pub frame_acked : {notes : ℕ → Note} (old new : PlainStreams) (b : Book) (f : SentFrame) → ShowsStreams old notes b → IsAckedFrame old new f → ShowsStreams new notes (bring_all (map item_of (confirmed_items old new f)) b)
frame_acked old new b _ shown (acked_stream id piece finished s is) = stream_acked old new b id piece finished _ _ shown s is
frame_acked old new b _ shown (acked_reset id reset_frame gone s is) = reset_acked old new b id gone _ shown s is
frame_acked old new b _ shown (acked_stop id code s is) = marks_shown old new b id.0 shown s is (λ r next step. changed_marked r next _ step (only_marks r _ _ _))
frame_acked old new b _ shown (acked_max_data limit is) = announced_recv old new b _ shown is (λ k. refl)
frame_acked old new b _ shown (acked_max_stream_data id limit s is) = marks_shown old new b id.0 shown s is (λ r next step. changed_marked r next _ step (only_marks r _ _ _))
frame_acked old new b _ shown (acked_max_streams dir count is) = announced_count old new b dir _ shown is refl

-- ---- settings of which the peer is told

pub concurrent_shown : {notes : ℕ → Note} (s : PlainStreams) (b : Book) (dir : Dir) (count : ℕ) → ShowsStreams s notes b → ShowsStreams (with_counts s (is_two_way dir) (record (counts_of s (is_two_way dir)) { max_concurrent = count })) notes b
concurrent_shown s b dir count shown = announced_count s (with_counts s (is_two_way dir) (record (counts_of s (is_two_way dir)) { max_concurrent = count })) b dir (record (counts_of s (is_two_way dir)) { max_concurrent = count }) shown refl refl

pub receive_window_shown : {notes : ℕ → Note} (s : PlainStreams) (b : Book) (bytes : ℕ) → ShowsStreams s notes b → ShowsStreams (record s { recv = record s.recv { receive_window = bytes } }) notes b
receive_window_shown s b bytes shown = announced_recv s (record s { recv = record s.recv { receive_window = bytes } }) b (record s.recv { receive_window = bytes }) shown refl (λ k. refl)
