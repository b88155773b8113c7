use Rattle.std.proofs.Common.{◌≡◌, ◌∷◌, [], List, length, ap, sym, ◌∙◌, subst, arith, is_some}
use Rattle.qh_connections.specs.Connections.{meta_at}
use Rattle.qh_connections.specs.Ids.{IsSameSource}
use Rattle.qh_control.specs.declared.event.IssuedCid.{IssuedCid}
use Rattle.qh_endpoint_events.specs.Events.{AreIssued, IsExhausted, IsWanting}
use Rattle.qh_routes.specs.ConnectionMeta.{PlainMeta}
use Rattle.qh_endpoint_events.proofs.Issuing.{issued_then, more_issued, one_longer, present, same_meta, still_same}
use Rattle.qh_endpoint_events.proofs.events.issue_many.Goals as goal

pub loop-init : goal.loop-init
loop-init g c =
    let old = c.args.connections.now in
    record {
      issued = subst (λ (ids : List IssuedCid). AreIssued g.G.ConnectionIdGenerator.given g.G.ConnectionIdGenerator.cid_len g.G.ConnectionIdGenerator.validates c.args.handle ids old old) (sym c.new-ids.ensures.items) (AreIssued.none old);
      source = record { same_len = λ i. g.G.ConnectionIdGenerator.cid_len old.ids; kept = λ id own. own };
      size = ap (λ (ids : List IssuedCid). length ids) c.new-ids.ensures.items;
    }

pub issue_into-requires-clause-live : goal.issue_into-requires-clause-live
issue_into-requires-clause-live g c =
    let p = present (meta_at c.args.connections.now c.args.handle) c.requires.live in
    ap is_some (more_issued g.G.ConnectionIdGenerator.given g.G.ConnectionIdGenerator.cid_len g.G.ConnectionIdGenerator.validates c.args.handle c.loop.invariant.issued p.0 p.1).1

pub issue_into-requires-clause-room : goal.issue_into-requires-clause-room
issue_into-requires-clause-room g c = λ m is.
    let p = present (meta_at c.args.connections.now c.args.handle) c.requires.live in
    let r = more_issued g.G.ConnectionIdGenerator.given g.G.ConnectionIdGenerator.cid_len g.G.ConnectionIdGenerator.validates c.args.handle c.loop.invariant.issued p.0 p.1 in
    let same : r.0.cids_issued ≡ m.cids_issued = ap (λ (q : PlainMeta). q.cids_issued) (same_meta (meta_at c.loop.connections c.args.handle) r.0 m r.1 is) in
    omega (arith, same, r.2, c.loop.invariant.size, c.loop-test.true, c.requires.room p.0 p.1)

pub take_back-requires-clause-live : goal.take_back-requires-clause-live
take_back-requires-clause-live g c =
    let p = present (meta_at c.args.connections.now c.args.handle) c.requires.live in
    let r = more_issued g.G.ConnectionIdGenerator.given g.G.ConnectionIdGenerator.cid_len g.G.ConnectionIdGenerator.validates c.args.handle c.loop.invariant.issued p.0 p.1 in
    ap is_some (c.in-Err.ensures.err.metas c.args.handle ∙ r.1)

pub take_back-requires-clause-some : goal.take_back-requires-clause-some
take_back-requires-clause-some g c = λ m is.
    let p = present (meta_at c.args.connections.now c.args.handle) c.requires.live in
    let r = more_issued g.G.ConnectionIdGenerator.given g.G.ConnectionIdGenerator.cid_len g.G.ConnectionIdGenerator.validates c.args.handle c.loop.invariant.issued p.0 p.1 in
    let same : r.0.cids_issued ≡ m.cids_issued = ap (λ (q : PlainMeta). q.cids_issued) (same_meta (meta_at c.issue_into.new.connections c.args.handle) r.0 m (c.in-Err.ensures.err.metas c.args.handle ∙ r.1) is) in
    let size = ap (λ (ids : List IssuedCid). length ids) c.in-Err.ensures.kept in
    omega (arith, same, r.2, size, c.len.ensures)

pub returns-in-Err-clause-exhausted : goal.returns-in-Err-clause-exhausted
returns-in-Err-clause-exhausted g c = λ e now.
    let old = c.args.connections.now in
    let mid = c.loop.connections in
    let ids = c.loop.ids.items in
    let size = ap (λ (l : List IssuedCid). length l) c.in-Err.ensures.kept in
    let p = present (meta_at old c.args.handle) c.requires.live in
    IsExhausted.needed now c.args.count p.0 ids mid c.issue_into.new.connections p.1 (c.requires.room p.0 p.1) (omega (arith, c.loop.invariant.size, c.loop-test.true)) c.loop.invariant.issued (c.in-Err.ensures.exhausted e)
    (c.take_back.ensures.back ids old mid c.are_connections.ensures.sound c.loop.invariant.issued c.in-Err.ensures.err (omega (arith, c.len.ensures, size))) c.take_back.ensures.ids

pub returns-in-Err-clause-wanting : goal.returns-in-Err-clause-wanting
returns-in-Err-clause-wanting g c = λ e now.
    let old = c.args.connections.now in
    let mid = c.loop.connections in
    let ids = c.loop.ids.items in
    let size = ap (λ (l : List IssuedCid). length l) c.in-Err.ensures.kept in
    let p = present (meta_at old c.args.handle) c.requires.live in
    IsWanting.needed now c.args.count p.0 ids mid c.issue_into.new.connections p.1 (c.requires.room p.0 p.1) (omega (arith, c.loop.invariant.size, c.loop-test.true)) c.loop.invariant.issued (c.in-Err.ensures.wanting e)
    (c.take_back.ensures.back ids old mid c.are_connections.ensures.sound c.loop.invariant.issued c.in-Err.ensures.err (omega (arith, c.len.ensures, size))) c.take_back.ensures.ids

pub loop-preserved : goal.loop-preserved
loop-preserved g c =
    let old = c.args.connections.now in
    let new = c.issue_into.new.connections in
    let one = c.in_default.ensures.issued in
    record {
      issued = subst (λ (ids : List IssuedCid). AreIssued g.G.ConnectionIdGenerator.given g.G.ConnectionIdGenerator.cid_len g.G.ConnectionIdGenerator.validates c.args.handle ids old new) (sym {A = List IssuedCid} one.1)
          (issued_then g.G.ConnectionIdGenerator.given g.G.ConnectionIdGenerator.cid_len g.G.ConnectionIdGenerator.validates c.args.handle c.loop.invariant.issued (one.0 ∷ []) new one.2);
      source = still_same c.loop.invariant.source c.issue_into.ensures.source;
      size = one_longer c.loop.ids.items c.issue_into.new.ids.items one.0 c.loop.counter one.1 c.loop.invariant.size;
    }

pub returns-in-Err-clause-source : goal.returns-in-Err-clause-source
returns-in-Err-clause-source g c =
    let r = still_same c.loop.invariant.source c.issue_into.ensures.source in
    subst (IsSameSource g.G.ConnectionIdGenerator.cid_len g.G.ConnectionIdGenerator.validates c.args.connections.now.ids) (sym c.take_back.ensures.ids) r
