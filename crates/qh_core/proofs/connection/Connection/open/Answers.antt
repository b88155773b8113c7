use Rattle.std.proofs.Common.{inl, inr, sym}
use Rattle.std.proofs.lemmas.Bool.{both_ways}
use Rattle.qh_core.specs.Inner.{is_open}
use Rattle.qh_core.proofs.OpenCall.{open_go, open_connection, open_follows, open_unwritten}
use Rattle.qh_core.proofs.connection.Connection.open.Goals as goal

pub invariant_of-self : goal.invariant_of-self
invariant_of-self g c =
    let go = open_go c.self.inside.inner.space.streams c.open.new.self c.args.dir c.open.result c.open.ensures.some c.open.ensures.none c.open.ensures.err c.open.ensures.keeps_out in
    open_connection c.self.inside.inner c.open.new.self c.if-not-is_open.ensures go c.self.invariant

pub returns-clause-follows : goal.returns-clause-follows
returns-clause-follows g c = λ t f.
    let go = open_go c.self.inside.inner.space.streams c.open.new.self c.args.dir c.open.result c.open.ensures.some c.open.ensures.none c.open.ensures.err c.open.ensures.keeps_out in
    open_follows c.self.inside.inner c.open.new.self t c.if-not-is_open.ensures go c.self.invariant (rw c.self.view_is f)

pub returns-clause-unwritten : goal.returns-clause-unwritten
returns-clause-unwritten g c = rw (← c.self.view_is) (open_unwritten c.self.inside.inner c.open.new.self c.args.dir c.open.result c.if-not-is_open.ensures c.open.ensures.some c.self.invariant)

pub returns-clause-limited : goal.returns-clause-limited
returns-clause-limited g c = rw (← c.self.view_is) (λ limited. elim limited [
  | inl closed ↦ absurd (both_ways (is_open c.self.inside.inner.state) closed (sym c.if-not-is_open.ensures))
  | inr full ↦ c.open.ensures.limited full
])
