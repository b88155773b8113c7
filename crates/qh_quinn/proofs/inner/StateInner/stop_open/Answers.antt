use Rattle.std.proofs.Common.{◌≡◌, ◌⊎◌, [], ◌∷◌, sym, ap, ◌∙◌, Some, None, is_some, false, true}
use Rattle.qh_book.specs.declared.call.Call.TheVariants as call
use Rattle.qh_book.specs.declared.reply.Reply.TheVariants as reply
use Rattle.qh_conn.specs.declared.connection.Connection.{Connection}
use Rattle.qh_halves.specs.RecvHalves.{Stops, TakesReset, is_closed_at}
use Rattle.qh_quinn.proofs.CallParts.{undone}
use Rattle.qh_quinn.proofs.CallReads.{called_woken, carries_as, carries_both, connection_kept}
use Rattle.qh_quinn.proofs.CallStops.{made_stop, stop_read, stop_wanting}
use Rattle.qh_quinn.proofs.CallStreams.{read_still, recv_changed, stops_in, stops_nothing, unread_wanting}
use Rattle.qh_quinn.proofs.LostReads.{lost_stop}
use Rattle.qh_quinn.proofs.ReadCalls.{greeted_if_held, never_closed_at, other_one}
use Rattle.qh_quinn.proofs.Recvs.{kept_woken, open_page, takes_at, takes_lost}
use Rattle.qh_quinn.proofs.StopCalls.{onward_both, ran, stop_untold}
use Rattle.qh_quinn.proofs.StopSteps.{stop_made, untold_open}
use Rattle.qh_quinn.proofs.Writes.{on_streams}
use Rattle.qh_quinn.proofs.inner.StateInner.stop_open.Goals as goal
use Rattle.qh_quinn.specs.Streaming.{StopsReading}
use Rattle.qh_spec.specs.Transcript.{Stopped, ReadReset}
use Rattle.qh_streams.specs.Streams.{counted_closed, is_live}

pub returns-then-is_emptied-clause-value : goal.returns-then-is_emptied-clause-value
returns-then-is_emptied-clause-value g c =
    let s = c.args.self.now in
    let a = c.args in
    takes_lost (call.Stop a.id a.code) reply.Done s c.keep.new.self a.id.0 a.reader (record a.reader { is_open = false }) c.requires.state (sym c.is_emptied.ensures ∙ c.if-is_emptied.true) c.keep.ensures.rest c.requires.there c.keep.ensures.readers
    (λ notes b shown e h. lost_stop b a.id.0 a.reader notes h e (call.Stop a.id a.code) reply.Done c.requires.opened (c.emptied_shown.ensures.stop b a.id a.code h.p h.held (open_page _ h.p h.page_is (h.opened ∙ c.requires.opened))))

pub returns-in-Ok-Some-clause-value : goal.returns-in-Ok-Some-clause-value
returns-in-Ok-Some-clause-value g c =
    let s = c.args.self.now in
    let a = c.args in
    let to = c.received_reset.new.self in
    let calm = sym c.is_emptied.ensures ∙ c.if-is_emptied.false in
    let reset = c.in-Ok-Some.reset in
    let taken = rw c.in-Ok-Some.field-0-is at c.in-Ok-Some.ensures.ok in
    let on = on_streams s.connection to (counted_closed (record s.connection.core.space.streams { recv = to.core.space.streams.recv }) a.id.0 (is_live s.connection.core.space.streams a.id.0)) taken.1 c.in-Ok-Some.ensures.rest in
    takes_at (call.Stop a.id a.code) reply.Done s c.keep-in-Ok-Some.new.self c.wake.new.self to None a.id.0 a.reader (record a.reader { is_open = false; code = Some reset }) c.requires.state calm
    (kept_woken s c.keep-in-Ok-Some.new.self c.wake.new.self to None c.keep-in-Ok-Some.ensures.rest c.wake.ensures) on.0 c.in-Ok-Some.ensures.whole c.requires.there c.keep-in-Ok-Some.ensures.readers
    (λ notes b shown streams h.
    stop_made b a.id to.core.space.streams notes a.reader h a.code (Some reset) c.requires.opened
    (c.stops_shown.ensures.reset s.connection.core.space.streams to.core.space.streams notes b a.id _ streams h.held on.1 a.code reset taken.0))

pub returns-in-Ok-None-clause-value : goal.returns-in-Ok-None-clause-value
returns-in-Ok-None-clause-value g c =
    let s = c.args.self.now in
    let a = c.args in
    let mid = c.received_reset.new.self in
    let to = c.stop.new.self in
    let calm = sym c.is_emptied.ensures ∙ c.if-is_emptied.false in
    let greeted = greeted_if_held s a.id.0 a.reader c.requires.state c.requires.there calm in
    let untold = rw c.in-Ok-None.field-0-is at c.in-Ok-None.ensures.ok in
    let first = on_streams s.connection mid (counted_closed (record s.connection.core.space.streams { recv = mid.core.space.streams.recv }) a.id.0 (is_live s.connection.core.space.streams a.id.0)) untold.1 c.in-Ok-None.ensures.rest in
    let stopped = ran c.stop.result c.stop.ensures.ok c.stop.ensures.fault
    (λ refused. untold_open s.connection.core.space.streams.recv mid.core.space.streams.recv a.id.0 untold.0 (other_one _ (ap (λ (x : Connection _). is_some x.handshake.peer) first.0 ∙ greeted) refused.0)) in
    let then_on = on_streams mid to (counted_closed (record mid.core.space.streams { recv = to.core.space.streams.recv }) a.id.0 (is_live mid.core.space.streams a.id.0)) stopped.1 c.stop.ensures.rest in
    takes_at (call.Stop a.id a.code) reply.Done s c.keep-in-Ok-None.new.self c.wake-in-Ok-None.new.self to None a.id.0 a.reader (record a.reader { is_open = false }) c.requires.state calm
    (kept_woken s c.keep-in-Ok-None.new.self c.wake-in-Ok-None.new.self to None c.keep-in-Ok-None.ensures.rest c.wake-in-Ok-None.ensures) (onward_both s.connection mid to first.0 then_on.0) c.stop.ensures.whole c.requires.there c.keep-in-Ok-None.ensures.readers
    (λ notes b shown streams h.
    stop_untold b a.id a.code s.connection.core.space.streams mid.core.space.streams to.core.space.streams notes a.reader h c.requires.opened streams untold.0
    (λ none. c.stops_shown.ensures.untold s.connection.core.space.streams mid.core.space.streams notes b a.id _ streams h.held first.1 untold.0 none)
    (λ e lost. c.stops_shown.ensures.lost s.connection.core.space.streams mid.core.space.streams notes b a.id _ streams h.held first.1 e untold.0 lost)
    stopped.0 (λ shows. c.stops_shown.ensures.stopped mid.core.space.streams to.core.space.streams notes b a.id _ shows h.held then_on.1 a.code stopped.0))

pub returns-in-Err-clause-value : goal.returns-in-Err-clause-value
returns-in-Err-clause-value g c =
    let s = c.args.self.now in
    let a = c.args in
    let calm = sym c.is_emptied.ensures ∙ c.if-is_emptied.false in
    absurd (never_closed_at s a.id.0 a.reader c.requires.state c.requires.there calm c.requires.opened (other_one _ (greeted_if_held s a.id.0 a.reader c.requires.state c.requires.there calm) c.in-Err.ensures.fault.0))

pub returns-then-is_emptied-clause-calls : goal.returns-then-is_emptied-clause-calls
returns-then-is_emptied-clause-calls g c =
    let s = c.args.self.now in
    let a = c.args in
    let wanting = sym c.is_emptied.ensures ∙ c.if-is_emptied.true in
    let same = connection_kept s c.keep.new.self s.connection c.keep.new.self.readers c.keep.ensures.rest in
    undone {T = g.row.T.Denot} (call.Stop a.id a.code) reply.Done s c.keep.new.self same (λ b shown. stop_wanting g.row.T.Denot a.id a.code s a.reader c.requires.there c.requires.opened wanting b shown)
    (stops_nothing a.id.0 s c.keep.new.self a.code (unread_wanting s a.id.0 wanting) same)

pub returns-in-Ok-Some-clause-calls : goal.returns-in-Ok-Some-clause-calls
returns-in-Ok-Some-clause-calls g c =
    let s = c.args.self.now in
    let a = c.args in
    let to = c.received_reset.new.self in
    let calm = sym c.is_emptied.ensures ∙ c.if-is_emptied.false in
    let reset = c.in-Ok-Some.reset in
    let taken = rw c.in-Ok-Some.field-0-is at c.in-Ok-Some.ensures.ok in
    called_woken {T = g.row.T.Denot} (call.Stop a.id a.code) reply.Done s c.wake.new.self to c.keep-in-Ok-Some.new.self.readers (ReadReset a.id.0 reset ∷ [])
    (stops_in a.id.0 s (record s { connection = to; readers = c.keep-in-Ok-Some.new.self.readers; driver = None }) a.code (read_still s a.id.0 a.reader c.requires.there calm c.requires.opened)
    (StopsReading.was_reset reset (recv_changed s.connection to c.in-Ok-Some.ensures.rest (TakesReset (Some reset)) a.id.0 taken.0 taken.1)))
    (kept_woken s c.keep-in-Ok-Some.new.self c.wake.new.self to None c.keep-in-Ok-Some.ensures.rest c.wake.ensures) (rw c.in-Ok-Some.field-0-is at c.in-Ok-Some.ensures.carries)
    (λ b shown. stop_read g.row.T.Denot a.id a.code s a.reader c.requires.there c.requires.opened calm taken.0.half (Some reset) taken.0.was taken.0.step.1 b shown)

pub returns-in-Ok-None-clause-calls : goal.returns-in-Ok-None-clause-calls
returns-in-Ok-None-clause-calls g c =
    let s = c.args.self.now in
    let a = c.args in
    let mid = c.received_reset.new.self in
    let to = c.stop.new.self in
    let calm = sym c.is_emptied.ensures ∙ c.if-is_emptied.false in
    let greeted = greeted_if_held s a.id.0 a.reader c.requires.state c.requires.there calm in
    let untold = rw c.in-Ok-None.field-0-is at c.in-Ok-None.ensures.ok in
    let first = on_streams s.connection mid (counted_closed (record s.connection.core.space.streams { recv = mid.core.space.streams.recv }) a.id.0 (is_live s.connection.core.space.streams a.id.0)) untold.1 c.in-Ok-None.ensures.rest in
    let never : ((is_some mid.handshake.peer ≡ false) ⊎ (is_closed_at mid.core.space.streams.recv a.id.0 ≡ true)) × (to ≡ mid) → ⊥ =
    λ refused. untold_open s.connection.core.space.streams.recv mid.core.space.streams.recv a.id.0 untold.0 (other_one _ (ap (λ (x : Connection _). is_some x.handshake.peer) first.0 ∙ greeted) refused.0) in
    let stopped = ran c.stop.result c.stop.ensures.ok c.stop.ensures.fault never in
    called_woken {T = g.row.T.Denot} (call.Stop a.id a.code) reply.Done s c.wake-in-Ok-None.new.self to c.keep-in-Ok-None.new.self.readers (Stopped a.id.0 a.code ∷ [])
    (stops_in a.id.0 s (record s { connection = to; readers = c.keep-in-Ok-None.new.self.readers; driver = None }) a.code (read_still s a.id.0 a.reader c.requires.there calm c.requires.opened)
    (StopsReading.stopped mid (recv_changed s.connection mid c.in-Ok-None.ensures.rest (TakesReset None) a.id.0 untold.0 untold.1) (recv_changed mid to c.stop.ensures.rest (Stops a.code) a.id.0 stopped.0 stopped.1)))
    (kept_woken s c.keep-in-Ok-None.new.self c.wake-in-Ok-None.new.self to None c.keep-in-Ok-None.ensures.rest c.wake-in-Ok-None.ensures)
    (carries_both s.connection mid to [] (Stopped a.id.0 a.code ∷ []) (rw c.in-Ok-None.field-0-is at c.in-Ok-None.ensures.carries)
    (carries_as mid to _ (Stopped a.id.0 a.code ∷ []) (sym (made_stop a.id.0 a.code c.stop.result c.stop.ensures.fault never)) c.stop.ensures.carries))
    (λ b shown. stop_read g.row.T.Denot a.id a.code s a.reader c.requires.there c.requires.opened calm untold.0.half None untold.0.was untold.0.step.1 b shown)

pub returns-in-Err-clause-calls : goal.returns-in-Err-clause-calls
returns-in-Err-clause-calls g c =
    let s = c.args.self.now in
    let a = c.args in
    let calm = sym c.is_emptied.ensures ∙ c.if-is_emptied.false in
    absurd (never_closed_at s a.id.0 a.reader c.requires.state c.requires.there calm c.requires.opened (other_one _ (greeted_if_held s a.id.0 a.reader c.requires.state c.requires.there calm) c.in-Err.ensures.fault.0))
