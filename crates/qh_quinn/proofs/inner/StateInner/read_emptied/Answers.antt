use Rattle.std.proofs.Common.{ℕ, refl, sym, ap, ◌∙◌, subst, Bool, ◌&&◌, true, [], Option}
use Rattle.qh_base.specs.declared.connection_error.ConnectionError.{ConnectionError}
use Rattle.qh_book.specs.Book.{with_recv}
use Rattle.qh_book.specs.declared.call.Call.TheVariants as call
use Rattle.qh_book.specs.declared.reply.Reply.{Reply}
use Rattle.qh_book.specs.declared.reply.Reply.TheVariants as reply
use Rattle.qh_book.specs.Receiving.{in_mode}
use Rattle.qh_book.specs.Step.{Allows}
use Rattle.qh_quinn.proofs.CallParts.{undone}
use Rattle.qh_quinn.proofs.CallReads.{carries_same, connection_kept, read_none, read_quiet}
use Rattle.qh_quinn.proofs.CallStreams.{gives_none, quiet_gives_none, reads_nothing, unread_wanting}
use Rattle.qh_quinn.proofs.LostReads.{dry, kept_then, lost_illegal, lost_nothing, lost_read}
use Rattle.qh_quinn.proofs.ReadCalls.{above}
use Rattle.qh_quinn.proofs.ReadSteps.{begun}
use Rattle.qh_quinn.proofs.Recvs.{open_page, takes_lost}
use Rattle.qh_quinn.proofs.inner.StateInner.read_emptied.Goals as goal
use Rattle.qh_quinn.specs.Acting.{IsAnswered, lost_or_pending}
use Rattle.qh_quinn.specs.declared.inner.StateInner.{StateInner}
use Rattle.qh_quinn.specs.declared.readers.Reader.{Reader}

pub returns-then-max_length-eq0-clause-value : goal.returns-then-max_length-eq0-clause-value
returns-then-max_length-eq0-clause-value g c =
    let s = c.args.self.now in
    let a = c.args in
    let zero = c.if-max_length-eq0.true in
    subst (λ (r : Reply _). IsAnswered (call.Read a.id a.max_length a.is_ordered) r s c.keep.new.self) (sym c.no_bytes.ensures)
    (takes_lost (call.Read a.id a.max_length a.is_ordered) (reply.Bytes 0 []) s c.keep.new.self a.id.0 a.reader (begun a.reader a.is_ordered) c.requires.state c.requires.emptied c.keep.ensures.rest c.requires.there (rw c.begun-begun.ensures at c.keep.ensures.readers)
    (λ notes b shown e h.
    lost_nothing b a.id.0 a.reader notes h e (call.Read a.id a.max_length a.is_ordered) (reply.Bytes 0 []) a.is_ordered c.requires.opened
    (subst (λ (n : ℕ). Allows {T = g.row.T.Denot} b (call.Read a.id n a.is_ordered) (reply.Bytes 0 []) (with_recv b a.id.0 (in_mode a.is_ordered h.p))) (sym zero)
    (c.emptied_shown.ensures.read_nothing b a.id a.is_ordered h.p 0 h.held (open_page _ h.p h.page_is (h.opened ∙ c.requires.opened))))))

pub returns-then-is_out_of_order-clause-value : goal.returns-then-is_out_of_order-clause-value
returns-then-is_out_of_order-clause-value g c =
    let s = c.args.self.now in
    let a = c.args in
    takes_lost (call.Read a.id a.max_length a.is_ordered) reply.IllegalOrderedRead s c.keep-then-is_out_of_order.new.self a.id.0 a.reader (record a.reader { gave_error = true }) c.requires.state c.requires.emptied c.keep-then-is_out_of_order.ensures.rest c.requires.there (rw c.failed.ensures at c.keep-then-is_out_of_order.ensures.readers)
    (λ notes b shown e h.
    lost_illegal b a.id.0 a.reader notes h e (call.Read a.id a.max_length a.is_ordered) reply.IllegalOrderedRead c.requires.opened
    (c.emptied_shown.ensures.read_illegal b a.id a.max_length a.is_ordered h.p h.held (open_page _ h.p h.page_is (h.opened ∙ c.requires.opened)) (above a.max_length c.if-max_length-eq0.false)
    (ap (λ (x : Bool). a.is_ordered && x) h.unordered ∙ sym c.is_out_of_order.ensures ∙ c.if-is_out_of_order.true)))

pub returns-clause-value : goal.returns-clause-value
returns-clause-value g c =
    let s = c.args.self.now in
    let a = c.args in
    let to = c.keep-2.new.self in
    let kept = kept_then s c.requires.state c.requires.emptied in
    let failed = c.failed-2.ensures ∙ ap (λ (x : Reader). record x { gave_error = true }) c.begun-begun.ensures in
    let error = ap (λ (x : StateInner _). x.error) c.keep-2.ensures.rest ∙ kept.1 in
    let lost = c.closed_or_waits.ensures ∙ ap (λ (o : Option ConnectionError). lost_or_pending {T = g.row.T.Denot} o) error in
    subst (λ (r : Reply _). IsAnswered (call.Read a.id a.max_length a.is_ordered) r s to) (sym lost)
    (takes_lost (call.Read a.id a.max_length a.is_ordered) (reply.ConnectionLost kept.0) s to a.id.0 a.reader (record (begun a.reader a.is_ordered) { gave_error = true }) c.requires.state c.requires.emptied c.keep-2.ensures.rest c.requires.there (rw failed at c.keep-2.ensures.readers)
    (λ notes b shown e h.
    let d = dry b a.id.0 a.reader notes h e c.requires.opened in
    lost_read b a.id.0 a.reader notes h e (call.Read a.id a.max_length a.is_ordered) (reply.ConnectionLost kept.0) a.is_ordered c.requires.opened
    (c.emptied_shown.ensures.read_lost b a.id a.max_length a.is_ordered h.p kept.0 h.held (open_page _ h.p h.page_is (h.opened ∙ c.requires.opened)) d.0.reset_code d.0.end d.0.unread (shown.error ∙ kept.1) (above a.max_length c.if-max_length-eq0.false)
    (ap (λ (x : Bool). a.is_ordered && x) h.unordered ∙ sym c.is_out_of_order.ensures ∙ c.if-is_out_of_order.false))))

pub returns-then-max_length-eq0-clause-calls : goal.returns-then-max_length-eq0-clause-calls
returns-then-max_length-eq0-clause-calls g c =
    let s = c.args.self.now in
    let a = c.args in
    let to = c.keep.new.self in
    let same = connection_kept s to s.connection to.readers c.keep.ensures.rest in
    read_none {T = g.row.T.Denot} a.id a.max_length a.is_ordered c.no_bytes.result reply.IllegalOrderedRead true s to c.no_bytes.ensures same (λ b shown. refl)
    (reads_nothing {T = g.row.T.Denot} a.id.0 a.max_length a.is_ordered s to c.no_bytes.result (gives_none {T = g.row.T.Denot} c.no_bytes.result reply.IllegalOrderedRead true c.no_bytes.ensures tt) (unread_wanting s a.id.0 c.requires.emptied) same)

pub returns-then-is_out_of_order-clause-calls : goal.returns-then-is_out_of_order-clause-calls
returns-then-is_out_of_order-clause-calls g c =
    let s = c.args.self.now in
    let a = c.args in
    let to = c.keep-then-is_out_of_order.new.self in
    let same = connection_kept s to s.connection to.readers c.keep-then-is_out_of_order.ensures.rest in
    undone {T = g.row.T.Denot} (call.Read a.id a.max_length a.is_ordered) reply.IllegalOrderedRead s to same (λ b shown. refl)
    (reads_nothing {T = g.row.T.Denot} a.id.0 a.max_length a.is_ordered s to reply.IllegalOrderedRead tt (unread_wanting s a.id.0 c.requires.emptied) same)

pub returns-clause-calls : goal.returns-clause-calls
returns-clause-calls g c =
    let s = c.args.self.now in
    let a = c.args in
    let to = c.keep-2.new.self in
    let same = connection_kept s to s.connection to.readers c.keep-2.ensures.rest in
    read_quiet {T = g.row.T.Denot} a.id a.max_length a.is_ordered c.closed_or_waits.result s to s.connection to.error c.closed_or_waits.ensures same (carries_same s.connection s.connection refl)
    (λ e. reads_nothing {T = g.row.T.Denot} a.id.0 a.max_length a.is_ordered s to (lost_or_pending e) (quiet_gives_none g.row.T.Denot e) (unread_wanting s a.id.0 c.requires.emptied) same)
