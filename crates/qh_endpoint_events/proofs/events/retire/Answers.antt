use Rattle.std.proofs.Common.{◌∷◌, ◌++◌, [], Bool, List, Some, refl, ap, sym, ◌∙◌, subst, inl, inr, arith}
use Rattle.qh_connections.specs.Connections.{id_at, meta_at, with_id}
use Rattle.qh_conn.specs.declared.event.ConnectionEvent.TheVariants.{NewIdentifiers}
use Rattle.qh_control.specs.declared.event.EndpointEvent.TheVariants.{RetireConnectionId}
use Rattle.qh_control.specs.declared.event.IssuedCid.{IssuedCid}
use Rattle.qh_endpoint_events.specs.Events.{IsDone, IsExhausted, IsWanting}
use Rattle.qh_endpoint_events.proofs.Issuing.{one_put, present}
use Rattle.qh_endpoint_events.proofs.Retiring.{no_id, retired_of, some_id}
use Rattle.qh_endpoint_events.proofs.Sequences.{had_yet}
use Rattle.qh_endpoint_events.proofs.events.retire.Goals.{then-not-allow_more-via-then-not-allow_more, then-not-allow_more-via-else-not-allow_more+then-issued_by-ge-SEQUENCES}
use Rattle.qh_endpoint_events.proofs.events.retire.Goals as goal

pub returns-then-not-has_id-clause-done : goal.returns-then-not-has_id-clause-done
returns-then-not-has_id-clause-done g c =
    let p = present (meta_at c.args.connections.now c.args.handle) c.requires in
    IsDone.not_there c.args.now c.args.sequence c.args.allow_more p.0 p.1 (no_id (id_at p.0 c.args.sequence) (◌∙◌ {A = Bool} (sym (c.has_id.ensures p.0 p.1)) c.if-not-has_id.true)) refl

pub returns-then-not-allow_more-clause-done : goal.returns-then-not-allow_more-clause-done
returns-then-not-allow_more-clause-done g c =
    let p = present (meta_at c.args.connections.now c.args.handle) c.requires in
    let o = some_id (id_at p.0 c.args.sequence) (◌∙◌ {A = Bool} (sym (c.has_id.ensures p.0 p.1)) c.if-not-has_id.false) in
    IsDone.retired c.args.now c.args.sequence c.args.allow_more p.0 o.0 p.1
    (elim c.then-not-allow_more.branch [
      | then-not-allow_more-via-then-not-allow_more w ↦ inl w.if-not-allow_more.true
      | then-not-allow_more-via-else-not-allow_more+then-issued_by-ge-SEQUENCES w ↦ inr (omega (arith, w.issued_by.ensures p.0 p.1, w.if-issued_by-ge-SEQUENCES.true))
    ])
    (record { there = o.1; routes = c.retire.ensures.routes p.0 o.0 p.1 o.1; meta = c.retire.ensures.meta p.0 p.1; ids = c.retire.ensures.ids })

pub returns-in-Ok-clause-done : goal.returns-in-Ok-clause-done
returns-in-Ok-clause-done g c =
    let old = c.args.connections.now in
    let p = present (meta_at old c.args.handle) c.requires in
    let o = some_id (id_at p.0 c.args.sequence) (◌∙◌ {A = Bool} (sym (c.has_id.ensures p.0 p.1)) c.if-not-has_id.false) in
    let one = c.in-Ok.ensures.issued in
    let mid = c.issue_into.new.connections in
    let put = one_put g.G.ConnectionIdGenerator.given g.G.ConnectionIdGenerator.cid_len g.G.ConnectionIdGenerator.validates c.args.handle one.2 p.0 p.1 in
    let had = had_yet p.0 one.0.id o.0 c.args.sequence (λ n above. c.are_connections.ensures.sound.below c.args.handle p.0 n p.1 above) o.1 in
    let event = Some (NewIdentifiers c.issue_into.new.ids c.args.now) in
    subst (λ (b : Bool). IsDone g.G.ConnectionIdGenerator.given g.G.ConnectionIdGenerator.cid_len g.G.ConnectionIdGenerator.validates c.args.handle old c.retire-in-Ok.new.self (RetireConnectionId c.args.now c.args.sequence b) event) (sym c.if-not-allow_more.false)
    (IsDone.replaced c.args.now c.args.sequence p.0 o.0 one.0 mid event p.1 (omega (arith, c.issued_by.ensures p.0 p.1, c.if-issued_by-ge-SEQUENCES.false)) one.2
    (record { there = had; routes = c.retire-in-Ok.ensures.routes (with_id p.0 one.0.id) o.0 put.there had; meta = c.retire-in-Ok.ensures.meta (with_id p.0 one.0.id) put.there; ids = c.retire-in-Ok.ensures.ids }) o.1
    (◌∙◌ {A = List IssuedCid} one.1 (ap (λ (ids : List IssuedCid). ids ++ one.0 ∷ []) c.new-ids.ensures.items), refl))

pub returns-in-Err-CidsExhausted-clause-exhausted : goal.returns-in-Err-CidsExhausted-clause-exhausted
returns-in-Err-CidsExhausted-clause-exhausted g c = λ e.
    let old = c.args.connections.now in
    let p = present (meta_at old c.args.handle) c.requires in
    let o = some_id (id_at p.0 c.args.sequence) (◌∙◌ {A = Bool} (sym (c.has_id.ensures p.0 p.1)) c.if-not-has_id.false) in
    let after = c.issue_into.new.connections in
    let kept = c.in-Err-CidsExhausted.ensures.err in
    let is = kept.metas c.args.handle ∙ p.1 in
    let end = c.retire-in-Err-CidsExhausted in
    subst (λ (b : Bool). IsExhausted g.G.ConnectionIdGenerator.given g.G.ConnectionIdGenerator.cid_len g.G.ConnectionIdGenerator.validates c.args.handle old end.new.self (RetireConnectionId c.args.now c.args.sequence b)) (sym c.if-not-allow_more.false)
    (IsExhausted.retired c.args.now c.args.sequence p.0 o.0 (record old { ids = after.ids }) p.1 (omega (arith, c.issued_by.ensures p.0 p.1, c.if-issued_by-ge-SEQUENCES.false)) (c.in-Err-CidsExhausted.ensures.exhausted c.in-Err-CidsExhausted.field-0-is) refl
    (retired_of g.G.ConnectionIdGenerator.given g.G.ConnectionIdGenerator.cid_len g.G.ConnectionIdGenerator.validates c.args.handle p.0 c.args.sequence o.0 o.1 old after end.new.self kept (end.ensures.meta p.0 is) (end.ensures.routes p.0 o.0 is o.1) end.ensures.ids))

pub returns-clause-wanting : goal.returns-clause-wanting
returns-clause-wanting g c = λ e.
    let old = c.args.connections.now in
    let p = present (meta_at old c.args.handle) c.requires in
    let o = some_id (id_at p.0 c.args.sequence) (◌∙◌ {A = Bool} (sym (c.has_id.ensures p.0 p.1)) c.if-not-has_id.false) in
    let after = c.issue_into.new.connections in
    subst (λ (b : Bool). IsWanting g.G.ConnectionIdGenerator.given g.G.ConnectionIdGenerator.cid_len g.G.ConnectionIdGenerator.validates c.args.handle old after (RetireConnectionId c.args.now c.args.sequence b)) (sym c.if-not-allow_more.false)
    (IsWanting.replaced c.args.now c.args.sequence p.0 o.0 p.1 (omega (arith, c.issued_by.ensures p.0 p.1, c.if-issued_by-ge-SEQUENCES.false)) o.1 (c.in-Err-Memory.ensures.wanting c.in-Err-Memory.field-0-is) c.in-Err-Memory.ensures.err)
