use Rattle.std.proofs.Common.{Some}
use Rattle.qh_book.specs.declared.call.Call.TheVariants as call
use Rattle.qh_book.specs.declared.reply.Reply.TheVariants as reply
use Rattle.qh_quinn.proofs.CallParts.{undone}
use Rattle.qh_quinn.proofs.CallReads.{connection_kept}
use Rattle.qh_quinn.proofs.CallStops.{told_again}
use Rattle.qh_quinn.proofs.CallStreams.{takes_nothing, unasked_known}
use Rattle.qh_quinn.proofs.StopCalls.{tells_code}
use Rattle.qh_quinn.proofs.inner.StateInner.tell_reset.Goals as goal

pub returns-clause-value : goal.returns-clause-value
returns-clause-value g c =
    let s = c.args.self.now in
    let a = c.args in
    tells_code a.id a.code s c.keep.new.self a.reader c.requires.state c.requires.there c.requires.known c.keep.ensures.rest c.keep.ensures.readers
    (λ notes b streams held closed known. c.closed_recvs_shown.ensures.code s.connection.core.space.streams notes b a.id a.code streams held closed known) (λ b p held page known. c.emptied_shown.ensures.shut_code b a.id p a.code held page known)

pub returns-clause-calls : goal.returns-clause-calls
returns-clause-calls g c =
    let s = c.args.self.now in
    let a = c.args in
    let to = c.keep.new.self in
    let same = connection_kept s to s.connection to.readers c.keep.ensures.rest in
    undone {T = g.row.T.Denot} (call.ReceivedReset a.id) (reply.Code (Some a.code)) s to same (λ b shown. told_again g.row.T.Denot a.id a.code s a.reader c.requires.there c.requires.state c.requires.known b shown)
    (takes_nothing {T = g.row.T.Denot} a.id.0 s to (reply.Code (Some a.code)) (unasked_known s a.id.0 a.reader a.code c.requires.there c.requires.known) same)
