use Rattle.qh_streams.proofs.StreamsPolled.{told_writable, told_queued, told_out}
use Rattle.qh_streams.proofs.streams.Streams.poll_event.Goals as goal

pub returns-in-Some-clause-told : goal.returns-in-Some-clause-told
returns-in-Some-clause-told c = told_writable _ _ c.in-Some.id (rw c.in-Some.is at c.poll_writable.ensures)

pub returns-in-Some-clause-keeps_out : goal.returns-in-Some-clause-keeps_out
returns-in-Some-clause-keeps_out c = told_out _ _ _ (told_writable _ _ c.in-Some.id (rw c.in-Some.is at c.poll_writable.ensures))

pub returns-clause-told : goal.returns-clause-told
returns-clause-told c =
    let none = rw (c.in_default.is, ← c.self.view_is) at c.poll_writable.ensures in
    told_queued _ _ none c.pop_front.result c.pop_front.new.self.items c.pop_front.ensures.items c.pop_front.ensures.rest

pub returns-clause-keeps_out : goal.returns-clause-keeps_out
returns-clause-keeps_out c =
    let none = rw (c.in_default.is, ← c.self.view_is) at c.poll_writable.ensures in
    told_out _ _ _ (told_queued _ _ none c.pop_front.result c.pop_front.new.self.items c.pop_front.ensures.items c.pop_front.ensures.rest)
