use Rattle.std.proofs.Common.{refl, arith}
use Rattle.qh_connections.specs.Connections.{meta_at}
use Rattle.qh_conn.specs.declared.event.ConnectionEvent.TheVariants.{NewIdentifiers}
use Rattle.std.proofs.Common.{Some}
use Rattle.qh_endpoint_events.specs.Events.{IsDone}
use Rattle.qh_endpoint_events.proofs.Issuing.{present}
use Rattle.qh_endpoint_events.proofs.events.issue_all.Goals.{then-count-gt-SEQUENCES-via-then-count-gt-SEQUENCES, then-count-gt-SEQUENCES-via-else-count-gt-SEQUENCES+then-issued_by-count}
use Rattle.qh_endpoint_events.proofs.events.issue_all.Goals as goal

pub returns-then-count-gt-SEQUENCES-clause-done : goal.returns-then-count-gt-SEQUENCES-clause-done
returns-then-count-gt-SEQUENCES-clause-done g c =
    let p = present (meta_at c.args.connections.now c.args.handle) c.requires in
    IsDone.too_many c.args.now c.args.count p.0 p.1
    (elim c.then-count-gt-SEQUENCES.branch [
      | then-count-gt-SEQUENCES-via-then-count-gt-SEQUENCES w ↦ omega (arith, w.if-count-gt-SEQUENCES.true)
      | then-count-gt-SEQUENCES-via-else-count-gt-SEQUENCES+then-issued_by-count w ↦ omega (arith, w.if-count-gt-SEQUENCES.false, w.issued_by.ensures p.0 p.1, w.if-issued_by-count.true)
    ])
    refl

pub returns-in-Ok-clause-done : goal.returns-in-Ok-clause-done
returns-in-Ok-clause-done g c =
    let p = present (meta_at c.args.connections.now c.args.handle) c.requires in
    let e = c.in-Ok.ensures in
    IsDone.needed c.args.now c.args.count p.0 c.in-Ok.ids.items (Some (NewIdentifiers c.in-Ok.ids c.args.now)) p.1 (omega (arith, c.if-count-gt-SEQUENCES.false, c.issued_by.ensures p.0 p.1, c.if-issued_by-count.false)) e.all e.issued (refl, refl)

pub returns-in-Err-clause-wanting : goal.returns-in-Err-clause-wanting
returns-in-Err-clause-wanting g c = λ e. c.in-Err.ensures.wanting e c.args.now
