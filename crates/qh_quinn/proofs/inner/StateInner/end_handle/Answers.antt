use Rattle.std.proofs.Common.{◌-◌, refl, sym, ◌∙◌, arith}
use Rattle.qh_quinn.proofs.Closes.{closes_last, closes_none, counts}
use Rattle.qh_book.specs.declared.call.Call.TheVariants as call
use Rattle.qh_book.specs.declared.reply.Reply.TheVariants as reply
use Rattle.qh_quinn.proofs.CallParts.{undone}
use Rattle.qh_quinn.proofs.CallCloses.{last_ends, more_left}
use Rattle.qh_quinn.proofs.inner.StateInner.end_handle.Goals as goal

pub close-requires : goal.close-requires
close-requires g c =
    (counts (λ n. n - 1) c.args.self.now (record c.args.self.now { handles = c.saturating_sub-self.result }) c.requires
    (record { connection = refl; is_connected = refl; readers = refl; stable_id = refl; error = refl; handles = omega (arith, c.saturating_sub-self.ensures); waiting = refl })).state

pub returns-then-is_last-clause-changed : goal.returns-then-is_last-clause-changed
returns-then-is_last-clause-changed g c =
    closes_last c.args.self.now (record c.args.self.now { handles = c.saturating_sub-self.result }) c.close.new.self
    (counts (λ n. n - 1) c.args.self.now (record c.args.self.now { handles = c.saturating_sub-self.result }) c.requires
    (record { connection = refl; is_connected = refl; readers = refl; stable_id = refl; error = refl; handles = omega (arith, c.saturating_sub-self.ensures); waiting = refl }))
    c.close.ensures.changed (sym c.is_last.ensures ∙ c.if-is_last.true)

pub returns-else-is_last-clause-changed : goal.returns-else-is_last-clause-changed
returns-else-is_last-clause-changed g c =
    closes_none c.args.self.now (record c.args.self.now { handles = c.saturating_sub-self.result })
    (counts (λ n. n - 1) c.args.self.now (record c.args.self.now { handles = c.saturating_sub-self.result }) c.requires
    (record { connection = refl; is_connected = refl; readers = refl; stable_id = refl; error = refl; handles = omega (arith, c.saturating_sub-self.ensures); waiting = refl }))
    (sym c.is_last.ensures ∙ c.if-is_last.false)

pub returns-then-is_last-clause-calls : goal.returns-then-is_last-clause-calls
returns-then-is_last-clause-calls g c =
    let s = c.args.self.now in
    let h = c.close.ensures.calls in
    record {
      carries = λ b shown. h.carries (record b { handles = b.handles - 1 })
          ((counts (λ n. n - 1) s (record s { handles = c.saturating_sub-self.result }) c.requires
          (record { connection = refl; is_connected = refl; readers = refl; stable_id = refl; error = refl; handles = omega (arith, c.saturating_sub-self.ensures); waiting = refl })).each b shown);
      called = last_ends s.handles c.saturating_sub-self.result c.from_u32.result c.of.result s.error s.last_turn s.connection c.close.new.self.connection (omega (arith, c.saturating_sub-self.ensures)) (sym c.is_last.ensures ∙ c.if-is_last.true) c.from_u32.ensures c.of.ensures h.called;
      wakes = λ sends. h.wakes tt;
    }

pub returns-else-is_last-clause-calls : goal.returns-else-is_last-clause-calls
returns-else-is_last-clause-calls g c =
    let s = c.args.self.now in
    undone call.EndHandle reply.Done s (record s { handles = c.saturating_sub-self.result }) refl (λ b shown. refl)
    (more_left s.handles c.saturating_sub-self.result s.error s.last_turn s.connection s.connection (omega (arith, c.saturating_sub-self.ensures)) (sym c.is_last.ensures ∙ c.if-is_last.false) refl)
