use Rattle.std.proofs.Common.{Some, inr, sym, ap, ◌∙◌}
use Rattle.qh_quinn_end.proofs.Bringing.{begins, on_err, to_attempts, to_connection, to_none, to_refusal, to_response}
use Rattle.qh_quinn_end.proofs.recv.RecvState.handle_datagram.Goals as goal
use Rattle.qh_quinn_end.proofs.recv.RecvState.handle_datagram.Goals.{in-Some-ConnectionEvent, in-Some-NewConnection+then-is_closed, in-Some-NewConnection+else-is_closed, in-Some-Response, in-None}

pub returns-in_err-handle-clause-unhandled : goal.returns-in_err-handle-clause-unhandled
returns-in_err-handle-clause-unhandled g c =
    on_err c.from_residual-in_err-handle.result (inr (c.handle.new.buf.items, c.in_err-handle.ensures.err))

pub refuse-requires-clause-pending : goal.refuse-requires-clause-pending
refuse-requires-clause-pending g c =
    (begins _ _ _ _ _ _ _ _ _ _ _ _ _ _ _ c.in-Some-NewConnection.incoming c.in_ok-handle.ensures.handled (c.in-Some-NewConnection.is ∙ ap Some c.in-Some-NewConnection.field-0-is)).0

pub refuse-requires-clause-empty : goal.refuse-requires-clause-empty
refuse-requires-clause-empty g c =
    (begins _ _ _ _ _ _ _ _ _ _ _ _ _ _ _ c.in-Some-NewConnection.incoming c.in_ok-handle.ensures.handled (c.in-Some-NewConnection.is ∙ ap Some c.in-Some-NewConnection.field-0-is)).1

pub returns-clause-brought : goal.returns-clause-brought
returns-clause-brought g c =
    let same = c.in_ok-reserve.ensures.same in
    let h = c.in_ok-handle.ensures.handled in
    elim c.match-branch-3.branch [
      | in-Some-ConnectionEvent w ↦
          let i = w.in-Some-ConnectionEvent in
          rw (w.self-is, w.endpoint-is, w.socket-is) (to_connection _ _ _ _ _ _ _ _ _ _ h _ _ same i.handle i.event _ _ (i.is ∙ ap Some i.field-0-is) w.send_reserved.ensures)
      | in-Some-NewConnection+then-is_closed w ↦
          let i = w.in-Some-NewConnection in
          rw (w.self-is, w.endpoint-is, w.socket-is) (to_refusal _ _ _ _ _ _ _ _ _ _ h _ _ same w.if-is_closed.true i.incoming _ _ _ _ (i.is ∙ ap Some i.field-0-is) w.refuse.ensures.refused)
      | in-Some-NewConnection+else-is_closed w ↦
          let i = w.in-Some-NewConnection in
          rw (w.self-is, w.endpoint-is, w.socket-is) (to_attempts _ _ _ _ _ _ _ _ _ _ h _ _ same w.if-is_closed.false i.incoming _ _ (i.is ∙ ap Some i.field-0-is) w.push_back_reserved.ensures.items)
      | in-Some-Response w ↦
          let i = w.in-Some-Response in
          rw (w.self-is, w.endpoint-is, w.socket-is) (to_response _ _ _ _ _ _ _ _ _ _ h _ _ same i.transmit _ _ _ (i.is ∙ ap Some i.field-0-is) (rw (sym w.deref.ensures.value) w.respond.ensures.response))
      | in-None w ↦ rw (w.self-is, w.endpoint-is, w.socket-is) (to_none _ _ _ _ _ _ _ _ _ _ h _ _ same _ w.in-None.is)
    ]
