use Rattle.std.proofs.Common.{[], inl, refl, sym, ◌∙◌}
use Rattle.qh_quinn.proofs.CallReads.{carries_as, carries_same}
use Rattle.qh_quinn.proofs.CallRecvEnds.{end_stays, end_stops, half_stays, half_stops, stops_unlost}
use Rattle.qh_quinn.proofs.RecvEnds.{opened_by, recv_stays, recv_stops}
use Rattle.qh_quinn.proofs.inner.StateInner.end_reading.Goals as goal

pub stop_open-requires-clause-opened : goal.stop_open-requires-clause-opened
stop_open-requires-clause-opened g c =
    let a = c.args in
    opened_by a.self.now.error a.reader.is_open a.reader.gave_error (sym c.is_stopped_by_end.ensures ∙ c.if-is_stopped_by_end.true)

pub returns-then-is_stopped_by_end-clause-changed : goal.returns-then-is_stopped_by_end-clause-changed
returns-then-is_stopped_by_end-clause-changed g c =
    let a = c.args in
    recv_stops c.ends_shown.ensures.stop a.self.now c.stop_open.new.self a.id _ a.reader c.requires.state c.requires.there (sym c.is_stopped_by_end.ensures ∙ c.if-is_stopped_by_end.true) c.stop_open.ensures.value

pub returns-else-is_stopped_by_end-clause-changed : goal.returns-else-is_stopped_by_end-clause-changed
returns-else-is_stopped_by_end-clause-changed g c =
    let a = c.args in
    recv_stays c.ends_shown.ensures.stays a.self.now a.id.0 a.reader c.requires.state c.requires.there (sym c.is_stopped_by_end.ensures ∙ c.if-is_stopped_by_end.false)

pub returns-then-is_stopped_by_end-clause-carries : goal.returns-then-is_stopped_by_end-clause-carries
returns-then-is_stopped_by_end-clause-carries g c = λ b shown.
    let a = c.args in
    carries_as a.self.now.connection c.stop_open.new.self.connection _ _ (end_stops a.self.now a.id.0 a.reader c.requires.state c.requires.there c.from_u32.result c.from_u32.ensures (sym c.is_stopped_by_end.ensures ∙ c.if-is_stopped_by_end.true) b shown)
    (c.stop_open.ensures.calls.carries b shown)

pub returns-else-is_stopped_by_end-clause-carries : goal.returns-else-is_stopped_by_end-clause-carries
returns-else-is_stopped_by_end-clause-carries g c = λ b shown.
    let s = c.args.self.now in
    let a = c.args in
    carries_as s.connection s.connection [] _ (end_stays s a.id.0 a.reader c.requires.state c.requires.there (sym c.is_stopped_by_end.ensures ∙ c.if-is_stopped_by_end.false) b shown) (carries_same s.connection s.connection refl)

pub returns-then-is_stopped_by_end-clause-half : goal.returns-then-is_stopped_by_end-clause-half
returns-then-is_stopped_by_end-clause-half g c =
    let a = c.args in
    half_stops a.self.now a.id.0 a.reader c.requires.state c.requires.there c.from_u32.result c.stop_open.new.self c.from_u32.ensures (sym c.is_stopped_by_end.ensures ∙ c.if-is_stopped_by_end.true) c.stop_open.ensures.calls.called

pub returns-else-is_stopped_by_end-clause-half : goal.returns-else-is_stopped_by_end-clause-half
returns-else-is_stopped_by_end-clause-half g c =
    let a = c.args in
    half_stays a.self.now a.id.0 a.reader c.requires.state c.requires.there (sym c.is_stopped_by_end.ensures ∙ c.if-is_stopped_by_end.false)

pub returns-then-is_stopped_by_end-clause-lost : goal.returns-then-is_stopped_by_end-clause-lost
returns-then-is_stopped_by_end-clause-lost g c = λ lost.
    let a = c.args in
    absurd (stops_unlost a.self.now a.id.0 a.reader c.requires.state c.requires.there (sym c.is_stopped_by_end.ensures ∙ c.if-is_stopped_by_end.true) lost)

pub returns-else-is_stopped_by_end-clause-lost : goal.returns-else-is_stopped_by_end-clause-lost
returns-else-is_stopped_by_end-clause-lost g c = λ lost. refl

pub returns-then-is_stopped_by_end-clause-wakes : goal.returns-then-is_stopped_by_end-clause-wakes
returns-then-is_stopped_by_end-clause-wakes g c = c.stop_open.ensures.wakes

pub returns-else-is_stopped_by_end-clause-wakes : goal.returns-else-is_stopped_by_end-clause-wakes
returns-else-is_stopped_by_end-clause-wakes g c = inl refl

pub returns-then-is_stopped_by_end-clause-counts : goal.returns-then-is_stopped_by_end-clause-counts
returns-then-is_stopped_by_end-clause-counts g c = c.stop_open.ensures.counts

pub returns-else-is_stopped_by_end-clause-counts : goal.returns-else-is_stopped_by_end-clause-counts
returns-else-is_stopped_by_end-clause-counts g c = (refl, refl)
