use Rattle.std.proofs.Common.{◌≡◌, refl, sym, ap, subst, ◌∙◌, ◌++◌, ℕ, List, length, rules}
use Rattle.qh_base.specs.declared.path.FourTuple.{FourTuple}
use Rattle.qh_endpoint.proofs.Retries.{answered_of, exhausted_of, wanting_of, written_of}
use Rattle.qh_endpoint.specs.Closed.{reply_to}
use Rattle.qh_endpoint.specs.Endpoint.{PlainEndpoint}
use Rattle.qh_endpoint.specs.Retrying.{nonce_of, retry_token}
use Rattle.qh_packet.specs.Retry.{retry_bytes}
use Rattle.qh_token.specs.Token.{IsToken}
use Rattle.qh_endpoint.proofs.endpoint.Endpoint.write_retry.Goals as goal

pub returns-then-is_some-clause-none : goal.returns-then-is_some-clause-none
returns-then-is_some-clause-none g c = λ w there. answered_of g.K.G.ConnectionIdGenerator.cid_len g.K.G.ConnectionIdGenerator.validates _ _ w c.waiting_at-first.result.1 (c.waiting_at-first.ensures w there).1 c.args.self.now c.args.self.now c.if-is_some.ensures refl

pub returns-in_default-clause-none : goal.returns-in_default-clause-none
returns-in_default-clause-none g c = rw (sym c.self.view_is) (
    let e = c.self.inside in
    let old : PlainEndpoint g.row.K.Denot g.row.K-G.Denot g.row.K-R.Denot g.row.K-T.Denot =
    record { config = e.config; server = e.server; kit = e.kit; words = e.words; token_log = e.token_log; connections = e.connections; incoming = e.incoming; last_reset = e.last_reset } in
    let at = rw (sym c.self.view_is) at c.waiting_at-first.ensures in
    λ w there. exhausted_of g.K.G.ConnectionIdGenerator.cid_len g.K.G.ConnectionIdGenerator.validates _ _ w c.waiting_at-first.result.1 (at w there).1 old _ c.if-is_some.ensures c.draw_but.new.self c.draw_but.ensures.rest (c.in_default.ensures.none refl) refl)

pub returns-in_default-token-clause-none : goal.returns-in_default-token-clause-none
returns-in_default-token-clause-none g c = rw (sym c.self.view_is) (
    let e = c.self.inside in
    let old : PlainEndpoint g.row.K.Denot g.row.K-G.Denot g.row.K-R.Denot g.row.K-T.Denot =
    record { config = e.config; server = e.server; kit = e.kit; words = e.words; token_log = e.token_log; connections = e.connections; incoming = e.incoming; last_reset = e.last_reset } in
    let at = rw (sym c.self.view_is) at c.waiting_at-first.ensures in
    let t = c.token.ensures.token in
    λ w there. wanting_of g.K.G.ConnectionIdGenerator.cid_len g.K.G.ConnectionIdGenerator.validates _ _ w c.waiting_at-first.result.1 (at w there).1 old c.token.new.self c.if-is_some.ensures c.draw_but.new.self c.draw_but.ensures.rest c.token.ensures.rest c.in-Some.id c.in-Some.ensures.fresh t.0 t.1 t.4)

pub returns-in-Ok-put_retry-clause-put : goal.returns-in-Ok-put_retry-clause-put
returns-in-Ok-put_retry-clause-put g c = rw (sym c.self.view_is) (
    let e = c.self.inside in
    let old : PlainEndpoint g.row.K.Denot g.row.K-G.Denot g.row.K-R.Denot g.row.K-T.Denot =
    record { config = e.config; server = e.server; kit = e.kit; words = e.words; token_log = e.token_log; connections = e.connections; incoming = e.incoming; last_reset = e.last_reset } in
    let at = rw (sym c.self.view_is) at c.waiting_at-first.ensures in
    let size : c.len.result ≡ length c.put_retry.new.out.items = search rules in
    λ w there. (
      written_of g.K.G.ConnectionIdGenerator.cid_len g.K.G.ConnectionIdGenerator.validates _ _ w c.waiting_at-first.result.1 (at w there).1 old c.token.new.self c.if-is_some.ensures c.draw_but.new.self c.draw_but.ensures.rest c.token.ensures.rest c.in-Some.id c.in-Some.ensures.fresh
          c.args.now c.waiting_at-first.result.0 c.put_retry.new.out.items c.deref.result.now (at w there).0 c.in-Some.ensures.size c.in-Some.ensures.own
          (let t = c.in-Ok.ensures.token in (t.0, t.1, t.2, t.3, t.4, subst (λ (bytes : List ℕ). IsToken bytes (retry_token (nonce_of t.0 t.1) c.waiting_at-first.result.0.remote c.waiting_at-first.result.1.destination c.args.now)) (sym c.deref.ensures.value) t.5))
          (c.in-Ok-put_retry.ensures.ok ∙ ap (λ (z : List ℕ). z ++ retry_bytes c.waiting_at-first.result.1.source c.in-Some.id c.deref.result.now c.waiting_at-first.result.1.destination) c.requires.written),
      c.reply.ensures ∙ ap (λ (n : ℕ). reply_to c.waiting_at-first.result.0 n) size ∙ ap (λ (a : FourTuple). reply_to a (length c.put_retry.new.out.items)) (at w there).0,
    ))

pub returns-clause-none : goal.returns-clause-none
returns-clause-none g c = rw (sym c.self.view_is) (
    let e = c.self.inside in
    let old : PlainEndpoint g.row.K.Denot g.row.K-G.Denot g.row.K-R.Denot g.row.K-T.Denot =
    record { config = e.config; server = e.server; kit = e.kit; words = e.words; token_log = e.token_log; connections = e.connections; incoming = e.incoming; last_reset = e.last_reset } in
    let at = rw (sym c.self.view_is) at c.waiting_at-first.ensures in
    let t = c.token.ensures.token in
    λ w there. wanting_of g.K.G.ConnectionIdGenerator.cid_len g.K.G.ConnectionIdGenerator.validates _ _ w c.waiting_at-first.result.1 (at w there).1 old c.token.new.self c.if-is_some.ensures c.draw_but.new.self c.draw_but.ensures.rest c.token.ensures.rest c.in-Some.id c.in-Some.ensures.fresh t.0 t.1 t.4)
