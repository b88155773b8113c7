-- A call on a sending half that a connection refuses is a step of the book too.
use Rattle.std.proofs.Common.{◌≡◌, ℕ, ◌==◌, Bool, true, false, ◌||◌, List, Option, Some, None, if◌then◌else◌, refl, sym, ap, ◌∙◌, inl}
use Rattle.std.proofs.lemmas.Bool.{false≢true}
use Rattle.std.proofs.lemmas.Option.{none-some, same_Some}
use Rattle.qh_base.specs.declared.stream_id.StreamId.{StreamId}
use Rattle.qh_book.proofs.ShownSends.{gone_page, live_there, open_there, page_there}
use Rattle.qh_book.proofs.ShownWrites.{reset_as, room_is, writing_as}
use Rattle.qh_book.specs.Book.{Book, room}
use Rattle.qh_book.specs.Interests.{waits}
use Rattle.qh_book.specs.Pages.{SendPage, is_writing, is_reset as is_page_reset, live_send, open_send}
use Rattle.qh_book.specs.Sending.{Finishes, Resets, Writes}
use Rattle.qh_book.specs.Shown.{Note, ShowsSend, ShowsStreams, finish_reply, send_page, write_reply}
use Rattle.qh_book.specs.declared.interest.Interest.TheVariants as waiting
use Rattle.qh_book.specs.declared.reply.Reply.TheVariants as reply
use Rattle.qh_half.specs.Send.{PlainSend, credit, is_done, is_ready, is_reset, stopped_or_blocked, stopped_or_closed}
use Rattle.qh_half.specs.declared.fault.WriteFault.{WriteFault}
use Rattle.qh_half.specs.declared.fault.WriteFault.TheVariants as write
use Rattle.qh_half.specs.declared.fault.FinishFault.{FinishFault}
use Rattle.qh_half.specs.declared.fault.FinishFault.TheVariants as finish
use Rattle.qh_halves.specs.SendHalves.{finish_fault_at, is_reset_refused_at, send_at, write_fault_at, write_limit}
use Rattle.qh_streams.specs.Streams.{PlainStreams}

-- ---- which half is at an id, and its page

data View (o : Option PlainSend) (q : Option SendPage) : Type 0 where
  gone : o ≡ None → live_send q ≡ None → open_send q ≡ None → View o q
  there : (h : PlainSend) (p : SendPage) → o ≡ Some h → q ≡ Some p → is_done h ≡ false → p ≡ send_page h → View o q

view : (o : Option PlainSend) (q : Option SendPage) → ShowsSend o q → View o q
view None q s = let g = gone_page q s in gone refl g.0 g.1
view (Some h) q s = let p = page_there q h s in there h p.0 refl p.1 p.2 p.3

-- ---- writes

blocked_view : (empty : Bool) (e : WriteFault) → (if empty then Some write.Blocked else None) ≡ Some e → (empty ≡ true) × (e ≡ write.Blocked)
blocked_view true e is = (refl, sym (same_Some _ _ is))
blocked_view false e is = absurd (none-some e is)

data WriteView (r : Bool) (stop : Option ℕ) (space : ℕ) (e : WriteFault) : Type 0 where
  closed : r ≡ false → e ≡ write.ClosedStream → WriteView r stop space e
  stopped : (code : ℕ) → r ≡ true → stop ≡ Some code → e ≡ write.Stopped code → WriteView r stop space e
  blocked : r ≡ true → stop ≡ None → (space == 0) ≡ true → e ≡ write.Blocked → WriteView r stop space e

write_view : (r : Bool) (stop : Option ℕ) (space : ℕ) (e : WriteFault) → (if r then stopped_or_blocked stop space else Some write.ClosedStream) ≡ Some e → WriteView r stop space e
write_view false stop space e is = closed refl (sym (same_Some _ _ is))
write_view true (Some code) space e is = stopped code refl refl (sym (same_Some _ _ is))
write_view true None space e is = let v = blocked_view (space == 0) e is in blocked refl refl v.0 v.1

not_open : (o : Option SendPage) (p : SendPage) (h : PlainSend) → o ≡ Some p → p ≡ send_page h → is_ready h.state ≡ false → open_send o ≡ None
not_open o p h is page off = let writing : is_writing p.state ≡ false = ap (λ (q : SendPage). is_writing q.state) page ∙ (writing_as h.state ∙ off) in rw is (rw writing refl)

module _ {notes : ℕ → Note} (T : Type 0) (s : PlainStreams) (b : Book) (id : StreamId) (shown : ShowsStreams s notes b) where
  pub write_refused : (payload : List ℕ) (e : WriteFault) → b.error ≡ None → write_fault_at s.send id.0 ≡ Some e → Writes {T = T} b id payload (write_reply e) b
  write_refused payload e none is = at (view (send_at s.send id.0) (b.sends id.0) (shown.sends id.0))
    where
      of_half : (h : PlainSend) (p : SendPage) → b.sends id.0 ≡ Some p → p ≡ send_page h → WriteView (is_ready h.state) h.stop_reason (credit h (write_limit s.send)) e → Writes {T = T} b id payload (write_reply e) b
      of_half h p q page (closed off e_is) = rw e_is (none, not_open (b.sends id.0) p h q page off, refl)
      of_half h p q page (stopped code on stop e_is) = rw e_is (p, none, open_there (b.sends id.0) p h q page on, ap (λ (x : SendPage). x.stop_code) page ∙ stop, refl)
      of_half h p q page (blocked on stop full e_is) = rw e_is (waits_now, refl)
        where
          space : (room b p == 0) ≡ true
          space = rw (room_is s b p h shown page) full

          free : p.stop_code ≡ None
          free = ap (λ (x : SendPage). x.stop_code) page ∙ stop

          waits_now : waits b (waiting.Write id) ≡ true
          waits_now = rw none (rw (open_there (b.sends id.0) p h q page on) (rw free (rw space refl)))

      at : View (send_at s.send id.0) (b.sends id.0) → Writes {T = T} b id payload (write_reply e) b
      at (gone o live open_is) = rw (sym (same_Some write.ClosedStream e (rw o at is))) (none, open_is, refl)
      at (there h p o q on page) = of_half h p q page (write_view (is_ready h.state) h.stop_reason (credit h (write_limit s.send)) e (rw o at is))

  pub finish_refused : (e : FinishFault) → finish_fault_at s.send id.0 ≡ Some e → Finishes {T = T} b id (finish_reply e) b
  finish_refused e is = at (view (send_at s.send id.0) (b.sends id.0) (shown.sends id.0))
    where
      closed_view : (r : Bool) → (if r then None else Some finish.ClosedStream) ≡ Some e → (r ≡ false) × (finish.ClosedStream ≡ e)
      closed_view true n = absurd (none-some e n)
      closed_view false n = (refl, same_Some _ _ n)

      of_half : (h : PlainSend) (p : SendPage) → b.sends id.0 ≡ Some p → is_done h ≡ false → p ≡ send_page h → (stop : Option ℕ) → h.stop_reason ≡ stop → stopped_or_closed stop h.state ≡ Some e → Finishes {T = T} b id (finish_reply e) b
      of_half h p q on page (Some code) stop n =
          let has : p.stop_code ≡ Some code = ap (λ (x : SendPage). x.stop_code) page ∙ stop in
          rw (sym (same_Some _ _ n)) (p, live_there (b.sends id.0) p h q page on, inl (rw has refl, refl))
      of_half h p q on page None stop n =
          let v = closed_view (is_ready h.state) n in
          let has : p.stop_code ≡ None = ap (λ (x : SendPage). x.stop_code) page ∙ stop in
          let off : is_writing p.state ≡ false = ap (λ (x : SendPage). is_writing x.state) page ∙ (writing_as h.state ∙ v.0) in
          rw (sym v.1) (rw (live_there (b.sends id.0) p h q page on) (rw has (rw off refl)), refl)

      at : View (send_at s.send id.0) (b.sends id.0) → Finishes {T = T} b id (finish_reply e) b
      at (gone o live open_is) = rw (sym (same_Some finish.ClosedStream e (rw o at is))) (rw live refl, refl)
      at (there h p o q on page) = of_half h p q on page h.stop_reason refl (rw o at is)

  pub reset_refused : (code : ℕ) → is_reset_refused_at s.send id.0 ≡ true → Resets {T = T} b id code reply.ClosedStream b
  reset_refused code is = at (view (send_at s.send id.0) (b.sends id.0) (shown.sends id.0))
    where
      either : (r d : Bool) → (r || d) ≡ true → d ≡ false → r ≡ true
      either true d h off = refl
      either false d h off = absurd (false≢true (sym off ∙ h))

      at : View (send_at s.send id.0) (b.sends id.0) → Resets {T = T} b id code reply.ClosedStream b
      at (gone o live open_is) = (rw live refl, refl)
      at (there h p o q on page) =
          let was : is_reset h.state ≡ true = either (is_reset h.state) (is_done h) (rw o at is) on in
          let reset : is_page_reset p.state ≡ true = ap (λ (x : SendPage). is_page_reset x.state) page ∙ (reset_as h.state ∙ was) in
          (rw (live_there (b.sends id.0) p h q page on) reset, refl)

module _ {notes : ℕ → Note} (s : PlainStreams) (b : Book) (id : StreamId) (shown : ShowsStreams s notes b) where
  pub no_half : send_at s.send id.0 ≡ None → live_send (b.sends id.0) ≡ None
  no_half is = at (view (send_at s.send id.0) (b.sends id.0) (shown.sends id.0))
    where
      at : View (send_at s.send id.0) (b.sends id.0) → live_send (b.sends id.0) ≡ None
      at (gone o live open_is) = live
      at (there h p o q on page) = absurd (none-some h (sym is ∙ o))

  -- what the half says of the peer's stop, and its priority
  pub half_page : (h : PlainSend) → send_at s.send id.0 ≡ Some h → (p : SendPage) × (live_send (b.sends id.0) ≡ Some p) × (p.stop_code ≡ h.stop_reason) × (p.priority ≡ h.priority)
  half_page h is = at (view (send_at s.send id.0) (b.sends id.0) (shown.sends id.0))
    where
      at : View (send_at s.send id.0) (b.sends id.0) → (p : SendPage) × (live_send (b.sends id.0) ≡ Some p) × (p.stop_code ≡ h.stop_reason) × (p.priority ≡ h.priority)
      at (gone o live open_is) = absurd (none-some h (sym o ∙ is))
      at (there g p o q on page) =
          let same : g ≡ h = same_Some g h (sym o ∙ is) in
          (p, live_there (b.sends id.0) p g q page on, ap (λ (x : SendPage). x.stop_code) page ∙ ap (λ (x : PlainSend). x.stop_reason) same, ap (λ (x : SendPage). x.priority) page ∙ ap (λ (x : PlainSend). x.priority) same)
