-- What calls on datagrams do to the connection.
use Rattle.std.proofs.Common.{◌≡◌, ℕ, Bool, true, false, not, List, ◌∷◌, [], ◌++◌, length, Option, Some, None, refl, sym, ap, ◌∙◌, subst}
use Rattle.qh_base.specs.declared.connection_error.ConnectionError.{ConnectionError}
use Rattle.qh_book.specs.declared.reply.Reply.{Reply}
use Rattle.qh_conn.specs.declared.connection.Connection.{Connection}
use Rattle.qh_datagrams.specs.Datagrams.{with_room}
use Rattle.qh_quinn.proofs.DatagramCalls.{with_datagrams}
use Rattle.qh_quinn.specs.Acting.{lost_or_pending}
use Rattle.qh_quinn.specs.Calls.{IsReceived, queued_behind}

-- it is queued behind the others, or in place of the oldest ones
queued_as : (wait : Bool) (payload : List ℕ) (room : ℕ) (queued after : List (List ℕ)) → (not wait ≡ false → after ≡ queued ++ payload ∷ []) → (not wait ≡ true → after ≡ with_room (length payload) room queued ++ payload ∷ []) → after ≡ queued_behind wait payload room queued
queued_as true payload room queued after kept dropped = kept refl
queued_as false payload room queued after kept dropped = dropped refl

pub queued : {S : Type 0} (payload : List ℕ) (wait : Bool) (old new : Connection S) → new ≡ record old { control = record old.control { datagrams = record old.control.datagrams { outgoing = new.control.datagrams.outgoing } } }
    → (not wait ≡ false → new.control.datagrams.outgoing ≡ old.control.datagrams.outgoing ++ payload ∷ [])
    → (not wait ≡ true → new.control.datagrams.outgoing ≡ with_room (length payload) old.control.datagram_send old.control.datagrams.outgoing ++ payload ∷ [])
    → new ≡ with_datagrams old (record old.control.datagrams { outgoing = queued_behind wait payload old.control.datagram_send old.control.datagrams.outgoing })
queued payload wait old new stayed kept dropped =
    stayed
    ∙ ap (λ (q : List (List ℕ)). with_datagrams old (record old.control.datagrams { outgoing = q })) (queued_as wait payload old.control.datagram_send old.control.datagrams.outgoing new.control.datagrams.outgoing kept dropped)

-- none came: the call is lost, or waits
pub received_none : {S T : Type 0} (r : Reply T) (error : Option ConnectionError) (old new : Connection S) → r ≡ lost_or_pending error → new ≡ old → IsReceived r old new
received_none {T = T} r error old new is same = subst (λ (x : Reply T). IsReceived x old new) (sym is) (at error)
  where
    at : (e : Option ConnectionError) → IsReceived {T = T} (lost_or_pending e) old new
    at None = same
    at (Some e) = same
