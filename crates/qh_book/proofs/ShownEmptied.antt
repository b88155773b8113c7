-- A connection that ended for want of memory: what its book is then, and what calls on receiving halves reply.
use Rattle.std.proofs.Common.{◌≡◌, ℕ, zero, suc, ◌<◌, ◌≤◌, Bool, true, false, ◌||◌, [], Option, Some, None, is_some, refl, ap, ◌∙◌, arith, inl, inr}
use Rattle.qh_base.specs.declared.connection_error.ConnectionError.{ConnectionError}
use Rattle.qh_base.specs.declared.connection_error.ConnectionError.TheVariants as error
use Rattle.qh_base.specs.declared.stream_id.StreamId.{StreamId}
use Rattle.qh_book.specs.Book.{Book, tally, with_recv}
use Rattle.qh_book.specs.Interests.{has_next, has_unread_below, is_blocked, is_out_of_order}
use Rattle.qh_book.specs.Items.{bring}
use Rattle.qh_book.specs.Pages.{RecvPage, ResetGiven, is_open, open_recv, unread_at}
use Rattle.qh_book.specs.Receiving.{in_mode, with_error, with_stopped}
use Rattle.qh_book.specs.Step.{Allows}
use Rattle.qh_book.specs.declared.call.Call.TheVariants as call
use Rattle.qh_book.specs.declared.item.Item.TheVariants as item
use Rattle.qh_book.specs.declared.reply.Reply.TheVariants as reply
use Rattle.qh_spec.specs.declared.sides.Dir.{Dir}
use Rattle.qh_spec.specs.declared.sides.Dir.TheVariants.{Bi, Uni}

pub none_waits : (b : Book) (dir : Dir) → (tally (bring (item.Lost error.Memory) b) dir).arrived ≤ (tally (bring (item.Lost error.Memory) b) dir).accepted
none_waits b Bi = omega arith
none_waits b Uni = omega arith

-- a reader finds nothing in a page without bytes, end and reset

none_below : (p : RecvPage) (end : ℕ) → ((k : ℕ) → unread_at p k ≡ None) → has_unread_below p end ≡ false
none_below p zero dry = refl
none_below p (suc k) dry = ap (λ (o : Option ℕ). is_some o || has_unread_below p k) (dry k) ∙ none_below p k dry

no_next : (p : RecvPage) (is_ordered : Bool) → ((k : ℕ) → unread_at p k ≡ None) → has_next p is_ordered ≡ false
no_next p true dry = ap (λ (o : Option ℕ). is_some o) (dry p.next)
no_next p false dry = none_below p p.unread_to dry

finds_nothing : (p : RecvPage) (is_ordered : Bool) → p.reset_code ≡ None → p.end ≡ None → ((k : ℕ) → unread_at p k ≡ None) → is_blocked p is_ordered ≡ true
finds_nothing p is_ordered none endless dry = let no = no_next p is_ordered dry in rw none (rw no (rw endless refl))

-- ---- a half that a handle holds

module _ (T : Type 0) (b : Book) (id : StreamId) (held : b.readers id.0 ≡ true) (p : RecvPage) where
  module _ (is : open_recv (b.recvs id.0) ≡ Some p) where
    pub read_lost : (max_length : ℕ) (is_ordered : Bool) (e : ConnectionError) → p.reset_code ≡ None → p.end ≡ None → ((k : ℕ) → unread_at p k ≡ None) → b.error ≡ Some e → 0 < max_length → is_out_of_order p is_ordered ≡ false
        → Allows {T = T} b (call.Read id max_length is_ordered) (reply.ConnectionLost e) (with_recv b id.0 (with_error (in_mode is_ordered p)))
    read_lost max_length is_ordered e none endless dry lost some can = rw held (inr (record { page = p; is_page = is; left = _; reads = (can, some, finds_nothing p is_ordered none endless dry, lost, refl); after = refl }))

    pub read_illegal : (max_length : ℕ) (is_ordered : Bool) → 0 < max_length → is_out_of_order p is_ordered ≡ true → Allows {T = T} b (call.Read id max_length is_ordered) reply.IllegalOrderedRead (with_recv b id.0 (with_error p))
    read_illegal max_length is_ordered some out = rw held (inr (record { page = p; is_page = is; left = _; reads = (out, some, refl); after = refl }))

    pub read_nothing : (is_ordered : Bool) (offset : ℕ) → Allows {T = T} b (call.Read id 0 is_ordered) (reply.Bytes offset []) (with_recv b id.0 (in_mode is_ordered p))
    read_nothing is_ordered offset = rw held (inr (record { page = p; is_page = is; left = _; reads = inl (refl, refl, refl); after = refl }))

    pub stop_taken : (code : ℕ) → Allows {T = T} b (call.Stop id code) reply.Done (with_recv b id.0 (with_stopped p))
    stop_taken code = rw held (p, is, refl)

    pub reset_lost : (e : ConnectionError) → p.reset_code ≡ None → b.error ≡ Some e → Allows {T = T} b (call.ReceivedReset id) (reply.ConnectionLost e) b
    reset_lost e none lost = rw held (p, is, none, lost, refl)

  module _ (is : b.recvs id.0 ≡ Some p) where
    pub shut_code : (code : ℕ) → p.reset_code ≡ Some code → Allows {T = T} b (call.ReceivedReset id) (reply.Code (Some code)) (with_recv b id.0 (record p { state = ResetGiven }))
    shut_code code has = rw held (p, is, has, refl)

    module _ (shut : is_open p.state ≡ false) where
      closed : open_recv (b.recvs id.0) ≡ None
      closed = rw is (rw shut refl)

      pub shut_read : (max_length : ℕ) (is_ordered : Bool) → 0 < max_length → Allows {T = T} b (call.Read id max_length is_ordered) reply.Ended b
      shut_read max_length is_ordered some = rw held (inl (closed, (some, ap is_some is), refl))

      pub shut_nothing : (is_ordered : Bool) (offset : ℕ) → Allows {T = T} b (call.Read id 0 is_ordered) (reply.Bytes offset []) b
      shut_nothing is_ordered offset = rw held (inl (closed, (refl, refl), refl))

      pub shut_stop : (code : ℕ) → Allows {T = T} b (call.Stop id code) reply.ClosedStream b
      shut_stop code = rw held (closed, refl)

      pub shut_none : p.reset_code ≡ None → Allows {T = T} b (call.ReceivedReset id) (reply.Code None) b
      shut_none none = rw held (rw is none, closed, refl)
