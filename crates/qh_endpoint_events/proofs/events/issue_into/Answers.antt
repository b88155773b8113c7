use Rattle.std.proofs.Common.{ℕ, ◌∷◌, ◌++◌, [], List, ap, ◌∙◌}
use Rattle.qh_connections.specs.Connections.{meta_at}
use Rattle.qh_control.specs.declared.event.IssuedCid.{IssuedCid}
use Rattle.qh_endpoint_events.proofs.Issuing.{one_issued, present}
use Rattle.qh_endpoint_events.proofs.events.issue_into.Goals as goal

pub returns-clause-issued : goal.returns-clause-issued
returns-clause-issued g c =
    let old = c.args.connections.now in
    let cid = c.issued.result in
    let p = present (meta_at old c.args.handle) c.requires.live in
    let e = c.in-Ok.ensures in (
      cid,
      ◌∙◌ {A = List IssuedCid} c.push_reserved.ensures.items (ap (λ (l : List IssuedCid). l ++ cid ∷ []) c.try_reserve.ensures.items),
      one_issued g.G.ConnectionIdGenerator.given g.G.ConnectionIdGenerator.cid_len g.G.ConnectionIdGenerator.validates c.args.handle cid c.in-Ok.id p.0 old c.issue.new.self p.1 (◌∙◌ {A = ℕ} c.issued.ensures.sequence (c.issued_by-sequence.ensures p.0 p.1)) c.issued.ensures.id c.issued.ensures.token e.fresh e.size e.own
          (record { same_len = e.same_len; kept = e.kept }) e.routes (e.meta p.0 p.1),
    )
