use Rattle.std.proofs.Common.{[], ◌∷◌, refl, Some, None, false, true}
use Rattle.qh_book.specs.declared.call.Call.TheVariants as call
use Rattle.qh_book.specs.declared.reply.Reply.TheVariants as reply
use Rattle.qh_halves.specs.RecvHalves.{TakesReset}
use Rattle.qh_quinn.proofs.CallReads.{called_woken, reset_quiet}
use Rattle.qh_quinn.proofs.CallStops.{reset_told}
use Rattle.qh_quinn.proofs.CallStreams.{asked, read_still, recv_changed, takes_in, takes_none}
use Rattle.qh_quinn.proofs.ReadCalls.{code_unknown, greeted_if_held, never_closed_at, other_one}
use Rattle.qh_quinn.proofs.Recvs.{kept_woken, takes_at}
use Rattle.qh_quinn.proofs.StopCalls.{untold_answers}
use Rattle.qh_quinn.proofs.StopSteps.{tell_made}
use Rattle.qh_quinn.proofs.Writes.{on_streams}
use Rattle.qh_quinn.proofs.inner.StateInner.reset_open.Goals as goal
use Rattle.qh_spec.specs.Transcript.{ReadReset}
use Rattle.qh_streams.specs.Streams.{counted_closed, is_live}

pub returns-in-Ok-Some-clause-value : goal.returns-in-Ok-Some-clause-value
returns-in-Ok-Some-clause-value g c =
    let s = c.args.self.now in
    let a = c.args in
    let to = c.received_reset.new.self in
    let code = c.in-Ok-Some.code in
    let taken = rw c.in-Ok-Some.field-0-is at c.in-Ok-Some.ensures.ok in
    let on = on_streams s.connection to (counted_closed (record s.connection.core.space.streams { recv = to.core.space.streams.recv }) a.id.0 (is_live s.connection.core.space.streams a.id.0)) taken.1 c.in-Ok-Some.ensures.rest in
    takes_at (call.ReceivedReset a.id) (reply.Code (Some code)) s c.keep.new.self c.wake.new.self to None a.id.0 a.reader (record a.reader { is_open = false; code = Some code; is_told = true }) c.requires.state c.requires.calm
    (kept_woken s c.keep.new.self c.wake.new.self to None c.keep.ensures.rest c.wake.ensures) on.0 c.in-Ok-Some.ensures.whole c.requires.there c.keep.ensures.readers
    (λ notes b shown streams h.
    tell_made b a.id to.core.space.streams notes a.reader h code
    (c.stops_shown.ensures.told s.connection.core.space.streams to.core.space.streams notes b a.id _ streams h.held on.1 code taken.0))

pub returns-in-Ok-None-clause-value : goal.returns-in-Ok-None-clause-value
returns-in-Ok-None-clause-value g c =
    let s = c.args.self.now in
    let a = c.args in
    let to = c.received_reset.new.self in
    let untold = rw c.in-Ok-None.field-0-is at c.in-Ok-None.ensures.ok in
    let on = on_streams s.connection to (counted_closed (record s.connection.core.space.streams { recv = to.core.space.streams.recv }) a.id.0 (is_live s.connection.core.space.streams a.id.0)) untold.1 c.in-Ok-None.ensures.rest in
    untold_answers a.id c.closed_or_waits.result s _ to a.reader c.requires.state c.requires.calm (greeted_if_held s a.id.0 a.reader c.requires.state c.requires.there c.requires.calm) c.requires.there refl on.0 c.in-Ok-None.ensures.whole c.closed_or_waits.ensures
    (λ notes b streams held none. c.stops_shown.ensures.untold s.connection.core.space.streams to.core.space.streams notes b a.id _ streams held on.1 untold.0 none)
    (λ notes b e streams held lost. c.stops_shown.ensures.lost s.connection.core.space.streams to.core.space.streams notes b a.id _ streams held on.1 e untold.0 lost)

pub returns-in-Err-clause-value : goal.returns-in-Err-clause-value
returns-in-Err-clause-value g c =
    let s = c.args.self.now in
    let a = c.args in
    absurd (never_closed_at s a.id.0 a.reader c.requires.state c.requires.there c.requires.calm c.requires.opened (other_one _ (greeted_if_held s a.id.0 a.reader c.requires.state c.requires.there c.requires.calm) c.in-Err.ensures.fault.0))

pub returns-in-Ok-Some-clause-calls : goal.returns-in-Ok-Some-clause-calls
returns-in-Ok-Some-clause-calls g c =
    let s = c.args.self.now in
    let a = c.args in
    let to = c.received_reset.new.self in
    let code = c.in-Ok-Some.code in
    let taken = rw c.in-Ok-Some.field-0-is at c.in-Ok-Some.ensures.ok in
    let asks = asked s a.id.0 a.reader c.requires.there (read_still s a.id.0 a.reader c.requires.there c.requires.calm c.requires.opened) (code_unknown s a.id.0 a.reader c.requires.state c.requires.there c.requires.calm c.requires.opened) in
    called_woken {T = g.row.T.Denot} (call.ReceivedReset a.id) (reply.Code (Some code)) s c.wake.new.self to c.keep.new.self.readers (ReadReset a.id.0 code ∷ [])
    (takes_in {T = g.row.T.Denot} a.id.0 s (record s { connection = to; readers = c.keep.new.self.readers; driver = None }) (reply.Code (Some code)) asks (recv_changed s.connection to c.in-Ok-Some.ensures.rest (TakesReset (Some code)) a.id.0 taken.0 taken.1))
    (kept_woken s c.keep.new.self c.wake.new.self to None c.keep.ensures.rest c.wake.ensures) (rw c.in-Ok-Some.field-0-is at c.in-Ok-Some.ensures.carries)
    (λ b shown. reset_told g.row.T.Denot a.id code s a.reader c.requires.there c.requires.opened b shown)

pub returns-in-Ok-None-clause-calls : goal.returns-in-Ok-None-clause-calls
returns-in-Ok-None-clause-calls g c =
    let s = c.args.self.now in
    let a = c.args in
    let to = c.received_reset.new.self in
    let untold = rw c.in-Ok-None.field-0-is at c.in-Ok-None.ensures.ok in
    let asks = asked s a.id.0 a.reader c.requires.there (read_still s a.id.0 a.reader c.requires.there c.requires.calm c.requires.opened) (code_unknown s a.id.0 a.reader c.requires.state c.requires.there c.requires.calm c.requires.opened) in
    reset_quiet {T = g.row.T.Denot} a.id c.closed_or_waits.result s (record s { connection = to }) to s.error c.closed_or_waits.ensures refl (rw c.in-Ok-None.field-0-is at c.in-Ok-None.ensures.carries)
    (takes_none a.id.0 s (record s { connection = to }) g.row.T.Denot asks (recv_changed s.connection to c.in-Ok-None.ensures.rest (TakesReset None) a.id.0 untold.0 untold.1))

pub returns-in-Err-clause-calls : goal.returns-in-Err-clause-calls
returns-in-Err-clause-calls g c =
    let s = c.args.self.now in
    let a = c.args in
    absurd (never_closed_at s a.id.0 a.reader c.requires.state c.requires.there c.requires.calm c.requires.opened (other_one _ (greeted_if_held s a.id.0 a.reader c.requires.state c.requires.there c.requires.calm) c.in-Err.ensures.fault.0))
