use Rattle.std.proofs.Common.{◌≡◌, ◌==◌, [], ◌∷◌, Err, refl, sym, ap, ◌∙◌, inl, subst, Some, None, false, true}
use Rattle.qh_book.specs.declared.call.Call.TheVariants as call
use Rattle.qh_book.specs.declared.reply.Reply.TheVariants as reply
use Rattle.qh_conn.specs.declared.connection.Connection.{Connection}
use Rattle.qh_conn.specs.Whole.{CarriesOn}
use Rattle.qh_core.specs.declared.fault.TakeFault.{TakeFault}
use Rattle.qh_core.specs.declared.fault.TakeFault.TheVariants.{Read, Readable}
use Rattle.qh_core.specs.Follows.{take_acts}
use Rattle.qh_half.specs.declared.fault.ReadableFault.TheVariants as readable
use Rattle.qh_half.specs.declared.fault.ReadFault.TheVariants as fault
use Rattle.qh_quinn.proofs.CallReads.{called_woken, connection_kept, ended_read, read_none, read_quiet, same_by_streams}
use Rattle.qh_quinn.proofs.CallStreams.{read_still, reads_blocked, reads_illegal, reads_in}
use Rattle.qh_quinn.proofs.Moving.{onward, stays_same}
use Rattle.qh_quinn.proofs.OpenReads.{blocked_answers, fault_is, illegal_answers}
use Rattle.qh_quinn.proofs.ReadCalls.{begun_in, greeted_if_held, never_closed}
use Rattle.qh_quinn.proofs.ReadSteps.{begun, read_bytes, read_end, read_reset}
use Rattle.qh_quinn.proofs.Recvs.{read_at, takes_at}
use Rattle.qh_quinn.proofs.inner.StateInner.read_open.Goals as goal
use Rattle.qh_quinn.specs.Acting.{Stays}
use Rattle.qh_quinn.specs.declared.readers.Reader.{Reader}
use Rattle.qh_spec.specs.Transcript.{ReadEnd, ReadReset}
use Rattle.qh_streams.specs.Streams.{is_live}
use Rattle.qh_transcript.specs.Receiving.{piece_acts}

pub returns-in-Ok-Some-clause-value : goal.returns-in-Ok-Some-clause-value
returns-in-Ok-Some-clause-value g c =
    let s = c.args.self.now in
    let to = c.read.new.self in
    let a = c.args in
    let chunk = c.in-Ok-Some.chunk in
    let r = rw c.in-Ok-Some.field-0-is at c.in-Ok-Some.ensures.ok in
    rw c.in-Ok-Some.field-0-is
    (takes_at (call.Read a.id a.max_length a.is_ordered) (reply.Bytes chunk.offset chunk.bytes) s c.take.new.self c.take.new.self to None a.id.0 a.reader (begun a.reader a.is_ordered) c.requires.state c.requires.calm c.take.ensures.rest
    (onward s.connection to c.in-Ok-Some.ensures.streams c.in-Ok-Some.ensures.rest) c.in-Ok-Some.ensures.whole c.requires.there (rw c.begun-begun.ensures at c.take.ensures.readers)
    (λ notes b shown streams h.
    read_bytes b a.id a.max_length a.is_ordered a.reader notes to.core.space.streams h c.requires.opened chunk.offset chunk.bytes
    (c.reads_shown.ensures.bytes s.connection.core.space.streams r.mid to.core.space.streams notes b a.id a.max_length a.is_ordered (is_live r.mid a.id.0) streams h.held r.readable (begun_in a.is_ordered s.connection.core.space.streams.recv r.mid.recv a.id.0 r.begun) r.mid_is r.new_is chunk r.reads)))

pub returns-in-Ok-None-clause-value : goal.returns-in-Ok-None-clause-value
returns-in-Ok-None-clause-value g c =
    let s = c.args.self.now in
    let to = c.read.new.self in
    let a = c.args in
    let r = rw c.in-Ok-None.field-0-is at c.in-Ok-None.ensures.ok in
    takes_at (call.Read a.id a.max_length a.is_ordered) reply.Ended s c.take-in-Ok-None.new.self c.take-in-Ok-None.new.self to None a.id.0 a.reader (record (begun a.reader a.is_ordered) { is_open = false }) c.requires.state c.requires.calm c.take-in-Ok-None.ensures.rest
    (onward s.connection to c.in-Ok-None.ensures.streams c.in-Ok-None.ensures.rest) c.in-Ok-None.ensures.whole c.requires.there (rw (c.ended.ensures ∙ ap (λ (x : Reader). record x { is_open = false }) c.begun-begun.ensures) at c.take-in-Ok-None.ensures.readers)
    (λ notes b shown streams h.
    read_end b a.id a.max_length a.is_ordered a.reader notes to.core.space.streams h c.requires.opened (read_at notes s.connection.core.space.streams b a.id.0 h.p streams h.page_is (h.opened ∙ c.requires.opened)).noted.none
    (c.reads_shown.ensures.end s.connection.core.space.streams r.mid to.core.space.streams notes b a.id a.max_length a.is_ordered (is_live r.mid a.id.0) streams h.held r.readable (begun_in a.is_ordered s.connection.core.space.streams.recv r.mid.recv a.id.0 r.begun) r.mid_is r.new_is r.reads))

pub returns-in-Err-Readable-ClosedStream-clause-value : goal.returns-in-Err-Readable-ClosedStream-clause-value
returns-in-Err-Readable-ClosedStream-clause-value g c =
    let s = c.args.self.now in
    let a = c.args in
    let greeted = greeted_if_held s a.id.0 a.reader c.requires.state c.requires.there c.requires.calm in
    let r = fault_is a.max_length a.is_ordered a.id.0 s.connection c.read.new.self _ (Readable readable.ClosedStream) (c.in-Err-Readable-ClosedStream.field-0-is ∙ ap Readable c.in-Err-Readable-ClosedStream.field-0-0-is) greeted c.in-Err-Readable-ClosedStream.ensures.fault in
    absurd (never_closed s a.id.0 a.reader c.requires.state c.requires.there a.is_ordered c.requires.calm c.requires.opened r.0)

pub returns-in-Err-Readable-IllegalOrderedRead-clause-value : goal.returns-in-Err-Readable-IllegalOrderedRead-clause-value
returns-in-Err-Readable-IllegalOrderedRead-clause-value g c =
    let s = c.args.self.now in
    let to = c.read.new.self in
    let a = c.args in
    let greeted = greeted_if_held s a.id.0 a.reader c.requires.state c.requires.there c.requires.calm in
    let r = fault_is a.max_length a.is_ordered a.id.0 s.connection c.read.new.self _ (Readable readable.IllegalOrderedRead) (c.in-Err-Readable-IllegalOrderedRead.field-0-is ∙ ap Readable c.in-Err-Readable-IllegalOrderedRead.field-0-0-is) greeted c.in-Err-Readable-IllegalOrderedRead.ensures.fault in
    illegal_answers a.id a.max_length a.is_ordered c.read_illegal.result s c.read_illegal.new.self to a.reader c.requires.state c.requires.calm c.requires.there c.requires.opened c.read_illegal.ensures.rest
    (onward s.connection to c.in-Err-Readable-IllegalOrderedRead.ensures.streams c.in-Err-Readable-IllegalOrderedRead.ensures.rest) c.in-Err-Readable-IllegalOrderedRead.ensures.whole r.1 (rw c.begun-begun.ensures at c.read_illegal.ensures.readers) c.read_illegal.ensures.value
    (λ notes b streams held. c.reads_shown.ensures.nothing s.connection.core.space.streams notes b a.id a.is_ordered 0 streams held r.0)
    (λ notes b streams held some. c.reads_shown.ensures.illegal s.connection.core.space.streams notes b a.id a.max_length a.is_ordered streams held r.0 some)

pub returns-in-Ok-Some-reset_in-clause-value : goal.returns-in-Ok-Some-reset_in-clause-value
returns-in-Ok-Some-reset_in-clause-value g c =
    let s = c.args.self.now in
    let to = c.read.new.self in
    let a = c.args in
    let code = c.in-Ok-Some-reset_in.code in
    let take = c.take-in-Ok-Some-reset_in in
    let found : _ ≡ fault.Reset code = rw c.in-Ok-Some-reset_in.field-0-is at c.in-Ok-Some-reset_in.ensures in
    let is : c.in-Err-Read.fault ≡ fault.Reset code = let tied = c.in-Err-Read.fault-is in cc in
    let greeted = greeted_if_held s a.id.0 a.reader c.requires.state c.requires.there c.requires.calm in
    let r = fault_is a.max_length a.is_ordered a.id.0 s.connection to _ (Read (fault.Reset code)) (c.in-Err-Read.field-0-is ∙ ap Read is) greeted c.in-Err-Read.ensures.fault in
    let mode = begun_in a.is_ordered s.connection.core.space.streams.recv r.mid.recv a.id.0 r.begun in
    takes_at (call.Read a.id a.max_length a.is_ordered) (reply.Reset code) s take.new.self take.new.self to None a.id.0 a.reader (record (begun a.reader a.is_ordered) { is_open = false; code = Some code; is_told = true; gave_error = true }) c.requires.state c.requires.calm take.ensures.rest
    (onward s.connection to c.in-Err-Read.ensures.streams c.in-Err-Read.ensures.rest) c.in-Err-Read.ensures.whole c.requires.there (rw (c.reset_by.ensures ∙ ap (λ (x : Reader). record x { is_open = false; code = Some code; is_told = true; gave_error = true }) c.begun-begun.ensures) at take.ensures.readers)
    (λ notes b shown streams h.
    read_reset b a.id a.max_length a.is_ordered a.reader notes to.core.space.streams h c.requires.opened code
    (c.reads_shown.ensures.reset s.connection.core.space.streams r.mid to.core.space.streams notes b a.id a.max_length a.is_ordered (is_live r.mid a.id.0) streams h.held r.readable mode r.mid_is r.new_is code r.reads))

pub returns-in-Ok-None-reset_in-clause-value : goal.returns-in-Ok-None-reset_in-clause-value
returns-in-Ok-None-reset_in-clause-value g c =
    let s = c.args.self.now in
    let to = c.read.new.self in
    let a = c.args in
    let found : _ ≡ fault.Blocked = rw c.in-Ok-None-reset_in.field-0-is at c.in-Ok-None-reset_in.ensures in
    let is : c.in-Err-Read.fault ≡ fault.Blocked = let tied = c.in-Err-Read.fault-is in cc in
    let greeted = greeted_if_held s a.id.0 a.reader c.requires.state c.requires.there c.requires.calm in
    let r = fault_is a.max_length a.is_ordered a.id.0 s.connection to _ (Read fault.Blocked) (c.in-Err-Read.field-0-is ∙ ap Read is) greeted c.in-Err-Read.ensures.fault in
    let mode = begun_in a.is_ordered s.connection.core.space.streams.recv r.mid.recv a.id.0 r.begun in
    blocked_answers a.id a.max_length a.is_ordered c.read_blocked.result s c.read_blocked.new.self to a.reader c.requires.state c.requires.calm c.requires.there c.requires.opened c.read_blocked.ensures.rest
    (onward s.connection to c.in-Err-Read.ensures.streams c.in-Err-Read.ensures.rest) c.in-Err-Read.ensures.whole (rw c.begun-begun.ensures at c.read_blocked.ensures.readers) c.read_blocked.ensures.value
    (λ notes b streams held none. c.reads_shown.ensures.blocked s.connection.core.space.streams r.mid to.core.space.streams notes b a.id a.max_length a.is_ordered (is_live r.mid a.id.0) streams held r.readable mode r.mid_is r.new_is r.reads none)
    (λ notes b e streams held lost. c.reads_shown.ensures.lost s.connection.core.space.streams r.mid to.core.space.streams notes b a.id a.max_length a.is_ordered (is_live r.mid a.id.0) streams held r.readable mode r.mid_is r.new_is e r.reads lost)

pub returns-in-Err-clause-value : goal.returns-in-Err-clause-value
returns-in-Err-clause-value g c =
    let s = c.args.self.now in
    let found : _ ≡ fault.Memory = c.in-Err.ensures in
    let is : c.in-Err-Read.fault ≡ fault.Memory = let tied = c.in-Err-Read.fault-is in cc in
    let same = c.in-Err-Read.ensures.unread (c.in-Err-Read.field-0-is ∙ ap Read is) in
    subst (λ (x : Connection _). Stays s (record s { connection = x })) (sym same) (stays_same s c.requires.state)

pub returns-in-Ok-Some-clause-calls : goal.returns-in-Ok-Some-clause-calls
returns-in-Ok-Some-clause-calls g c =
    let s = c.args.self.now in
    let to = c.read.new.self in
    let a = c.args in
    let chunk = c.in-Ok-Some.chunk in
    let reads = read_still s a.id.0 a.reader c.requires.there c.requires.calm c.requires.opened in
    let r = rw c.in-Ok-Some.field-0-is at c.in-Ok-Some.ensures.ok in
    rw c.in-Ok-Some.field-0-is
    (called_woken {T = g.row.T.Denot} (call.Read a.id a.max_length a.is_ordered) (reply.Bytes chunk.offset chunk.bytes) s c.take.new.self to c.take.new.self.readers (piece_acts a.id.0 chunk.offset chunk.bytes)
    (reads_in {T = g.row.T.Denot} a.id.0 a.max_length a.is_ordered s (record s { connection = to; readers = c.take.new.self.readers; driver = None }) (reply.Bytes chunk.offset chunk.bytes) reads (inl (r, onward s.connection to c.in-Ok-Some.ensures.streams c.in-Ok-Some.ensures.rest)))
    c.take.ensures.rest (rw c.in-Ok-Some.field-0-is at c.in-Ok-Some.ensures.carries) (λ b shown. refl))

pub returns-in-Ok-None-clause-calls : goal.returns-in-Ok-None-clause-calls
returns-in-Ok-None-clause-calls g c =
    let s = c.args.self.now in
    let to = c.read.new.self in
    let a = c.args in
    let take = c.take-in-Ok-None in
    let reads = read_still s a.id.0 a.reader c.requires.there c.requires.calm c.requires.opened in
    let r = rw c.in-Ok-None.field-0-is at c.in-Ok-None.ensures.ok in
    called_woken {T = g.row.T.Denot} (call.Read a.id a.max_length a.is_ordered) reply.Ended s take.new.self to take.new.self.readers (ReadEnd a.id.0 ∷ [])
    (reads_in {T = g.row.T.Denot} a.id.0 a.max_length a.is_ordered s (record s { connection = to; readers = take.new.self.readers; driver = None }) reply.Ended reads (r, onward s.connection to c.in-Ok-None.ensures.streams c.in-Ok-None.ensures.rest))
    take.ensures.rest (rw c.in-Ok-None.field-0-is at c.in-Ok-None.ensures.carries) (λ b shown. ended_read s a.id.0 a.reader c.requires.there c.requires.opened b shown)

pub returns-in-Err-Readable-ClosedStream-clause-calls : goal.returns-in-Err-Readable-ClosedStream-clause-calls
returns-in-Err-Readable-ClosedStream-clause-calls g c =
    let s = c.args.self.now in
    let a = c.args in
    let greeted = greeted_if_held s a.id.0 a.reader c.requires.state c.requires.there c.requires.calm in
    let r = fault_is a.max_length a.is_ordered a.id.0 s.connection c.read.new.self _ (Readable readable.ClosedStream) (c.in-Err-Readable-ClosedStream.field-0-is ∙ ap Readable c.in-Err-Readable-ClosedStream.field-0-0-is) greeted c.in-Err-Readable-ClosedStream.ensures.fault in
    absurd (never_closed s a.id.0 a.reader c.requires.state c.requires.there a.is_ordered c.requires.calm c.requires.opened r.0)

pub returns-in-Err-Readable-IllegalOrderedRead-clause-calls : goal.returns-in-Err-Readable-IllegalOrderedRead-clause-calls
returns-in-Err-Readable-IllegalOrderedRead-clause-calls g c =
    let s = c.args.self.now in
    let to = c.read.new.self in
    let a = c.args in
    let greeted = greeted_if_held s a.id.0 a.reader c.requires.state c.requires.there c.requires.calm in
    let r = fault_is a.max_length a.is_ordered a.id.0 s.connection to _ (Readable readable.IllegalOrderedRead) (c.in-Err-Readable-IllegalOrderedRead.field-0-is ∙ ap Readable c.in-Err-Readable-IllegalOrderedRead.field-0-0-is) greeted c.in-Err-Readable-IllegalOrderedRead.ensures.fault in
    let same = same_by_streams s.connection to (onward s.connection to c.in-Err-Readable-IllegalOrderedRead.ensures.streams c.in-Err-Readable-IllegalOrderedRead.ensures.rest) r.1 in
    let kept = connection_kept s c.read_illegal.new.self to c.read_illegal.new.self.readers c.read_illegal.ensures.rest ∙ same in
    read_none {T = g.row.T.Denot} a.id a.max_length a.is_ordered c.read_illegal.result reply.IllegalOrderedRead (a.max_length == 0) s c.read_illegal.new.self c.read_illegal.ensures.value kept (λ b shown. refl)
    (reads_illegal {T = g.row.T.Denot} a.id.0 a.max_length a.is_ordered s c.read_illegal.new.self c.read_illegal.result c.read_illegal.ensures.value (read_still s a.id.0 a.reader c.requires.there c.requires.calm c.requires.opened) kept)

pub returns-in-Ok-Some-reset_in-clause-calls : goal.returns-in-Ok-Some-reset_in-clause-calls
returns-in-Ok-Some-reset_in-clause-calls g c =
    let s = c.args.self.now in
    let to = c.read.new.self in
    let a = c.args in
    let code = c.in-Ok-Some-reset_in.code in
    let take = c.take-in-Ok-Some-reset_in in
    let found : _ ≡ fault.Reset code = rw c.in-Ok-Some-reset_in.field-0-is at c.in-Ok-Some-reset_in.ensures in
    let is : c.in-Err-Read.fault ≡ fault.Reset code = let tied = c.in-Err-Read.fault-is in cc in
    let reads = read_still s a.id.0 a.reader c.requires.there c.requires.calm c.requires.opened in
    let greeted = greeted_if_held s a.id.0 a.reader c.requires.state c.requires.there c.requires.calm in
    let r = fault_is a.max_length a.is_ordered a.id.0 s.connection to _ (Read (fault.Reset code)) (c.in-Err-Read.field-0-is ∙ ap Read is) greeted c.in-Err-Read.ensures.fault in
    called_woken {T = g.row.T.Denot} (call.Read a.id a.max_length a.is_ordered) (reply.Reset code) s take.new.self to take.new.self.readers (ReadReset a.id.0 code ∷ [])
    (reads_in {T = g.row.T.Denot} a.id.0 a.max_length a.is_ordered s (record s { connection = to; readers = take.new.self.readers; driver = None }) (reply.Reset code) reads (r, onward s.connection to c.in-Err-Read.ensures.streams c.in-Err-Read.ensures.rest))
    take.ensures.rest (subst (λ (e : TakeFault). CarriesOn s.connection to (take_acts a.id.0 (Err e))) (c.in-Err-Read.field-0-is ∙ ap Read is) c.in-Err-Read.ensures.carries) (λ b shown. refl)

pub returns-in-Ok-None-reset_in-clause-calls : goal.returns-in-Ok-None-reset_in-clause-calls
returns-in-Ok-None-reset_in-clause-calls g c =
    let s = c.args.self.now in
    let to = c.read.new.self in
    let a = c.args in
    let found : _ ≡ fault.Blocked = rw c.in-Ok-None-reset_in.field-0-is at c.in-Ok-None-reset_in.ensures in
    let is : c.in-Err-Read.fault ≡ fault.Blocked = let tied = c.in-Err-Read.fault-is in cc in
    let reads = read_still s a.id.0 a.reader c.requires.there c.requires.calm c.requires.opened in
    let greeted = greeted_if_held s a.id.0 a.reader c.requires.state c.requires.there c.requires.calm in
    let r = fault_is a.max_length a.is_ordered a.id.0 s.connection to _ (Read fault.Blocked) (c.in-Err-Read.field-0-is ∙ ap Read is) greeted c.in-Err-Read.ensures.fault in
    let kept = connection_kept s c.read_blocked.new.self to c.read_blocked.new.self.readers c.read_blocked.ensures.rest in
    read_quiet {T = g.row.T.Denot} a.id a.max_length a.is_ordered c.read_blocked.result s c.read_blocked.new.self to s.error c.read_blocked.ensures.value kept
    (subst (λ (e : TakeFault). CarriesOn s.connection to (take_acts a.id.0 (Err e))) (c.in-Err-Read.field-0-is ∙ ap Read is) c.in-Err-Read.ensures.carries)
    (reads_blocked a.id.0 a.max_length a.is_ordered s c.read_blocked.new.self g.row.T.Denot to kept reads (r, onward s.connection to c.in-Err-Read.ensures.streams c.in-Err-Read.ensures.rest))

pub returns-in-Err-clause-calls : goal.returns-in-Err-clause-calls
returns-in-Err-clause-calls g c =
    let found : _ ≡ fault.Memory = c.in-Err.ensures in
    let is : c.in-Err-Read.fault ≡ fault.Memory = let tied = c.in-Err-Read.fault-is in cc in
    c.in-Err-Read.ensures.unread (c.in-Err-Read.field-0-is ∙ ap Read is)
