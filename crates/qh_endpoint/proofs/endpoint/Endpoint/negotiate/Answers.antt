use Rattle.std.proofs.Common.{refl, sym, ap, ◌∙◌, arith, rules, inl, inr}
use Rattle.qh_endpoint.proofs.Answers.{versions_told}
use Rattle.qh_endpoint.proofs.Kept.{err_at_server, is_absent, is_there}
use Rattle.qh_endpoint.specs.Handled.{silent}
use Rattle.qh_endpoint.proofs.endpoint.Endpoint.negotiate.Goals as goal
use Rattle.qh_endpoint.proofs.endpoint.Endpoint.negotiate.Goals.{then-is_none-via-then-is_none, then-is_none-via-else-is_none+then-size-lt-MIN_INITIAL_SIZE}

pub returns-then-is_none-clause-negotiated : goal.returns-then-is_none-clause-negotiated
returns-then-is_none-clause-negotiated g c = elim c.then-is_none.branch [
  | then-is_none-via-then-is_none w ↦ λ now datagram is. silent (inl (sym (ap (λ e. e.server) c.self.view_is) ∙ is_absent c.self.inside.server c.is_none.result c.is_none.ensures w.if-is_none.true)) refl c.requires.written
  | then-is_none-via-else-is_none+then-size-lt-MIN_INITIAL_SIZE w ↦ λ now datagram is. silent (inr (omega (arith, is, w.if-size-lt-MIN_INITIAL_SIZE.true))) refl c.requires.written
]

pub returns-clause-negotiated : goal.returns-clause-negotiated
returns-clause-negotiated g c = λ now datagram is. rw (sym c.self.view_is)
    (let server = is_there c.self.inside.server c.is_none.result c.is_none.ensures c.if-is_none.false in
    let put = c.in_ok-put_versions.ensures.ok in
    versions_told _ _ _ _ _ _ _ _ now c.args.addresses.now datagram _ _ c.args.buf.now.items c.put_versions.new.out.items c.len.result c.reply.result c.reply.ensures (search rules) c.requires.written
    c.args.version c.args.destination.now c.args.source.now server.0 server.1 (omega (arith, is, c.if-size-lt-MIN_INITIAL_SIZE.false)) (rw (sym (c.deref.ensures.value ∙ c.self.invariant)) put) refl)

pub returns-in_err-put_versions-clause-wanting : goal.returns-in_err-put_versions-clause-wanting
returns-in_err-put_versions-clause-wanting g c = rw (sym c.self.view_is) (err_at_server _ c.self.inside.server c.args.size (is_there c.self.inside.server c.is_none.result c.is_none.ensures c.if-is_none.false) (omega (arith, c.if-size-lt-MIN_INITIAL_SIZE.false)))
