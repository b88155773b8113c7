use Rattle.std.proofs.Common.{ap, sym, ◌∙◌, refl, arith}
use Rattle.qh_endpoint.proofs.Judged.{is_found, listed_is, unknown_here, refused_here}
use Rattle.qh_endpoint.specs.Stranger.{unable, reserved}
use Rattle.qh_endpoint.proofs.endpoint.Endpoint.judge_initial.Goals as goal

pub returns-in_default-clause-judged : goal.returns-in_default-clause-judged
returns-in_default-clause-judged g c = unknown_here _ _ _ _ _ _ _ _ c.args.version c.args.first c.args.destination.now c.args.source.now c.args.token.now c.id_of-id.result c.id_of-id.ensures
    (sym (ap (λ e. e.server) c.self.view_is) ∙ c.in_default.is)

pub returns-then-cannot_wait-clause-judged : goal.returns-then-cannot_wait-clause-judged
returns-then-cannot_wait-clause-judged g c = unable c.args.version c.args.first c.args.destination.now c.args.source.now c.args.token.now c.in-Some.server
    (sym (ap (λ e. e.server) c.self.view_is) ∙ c.in-Some.is) (c.if-cannot_wait.ensures.0 refl) refl

pub returns-then-not-is_first_id-clause-judged : goal.returns-then-not-is_first_id-clause-judged
returns-then-not-is_first_id-clause-judged g c = refused_here _ _ _ _ _ _ _ _ c.args.version c.args.first c.args.destination.now c.args.source.now c.args.token.now c.in-Some.server c.id_of-id.result c.id_of.result
    c.id_of-id.ensures c.id_of.ensures (sym (ap (λ e. e.server) c.self.view_is) ∙ c.in-Some.is) (λ w. let is = c.if-cannot_wait.ensures.1 w in cc) (λ f. let is = c.if-not-is_first_id.ensures.1 f in cc)

pub returns-then-first-ne0-clause-judged : goal.returns-then-first-ne0-clause-judged
returns-then-first-ne0-clause-judged g c = reserved c.args.version c.args.first c.args.destination.now c.args.source.now c.args.token.now c.in-Some.server
    (sym (ap (λ e. e.server) c.self.view_is) ∙ c.in-Some.is) (λ w. let is = c.if-cannot_wait.ensures.1 w in cc) (c.if-not-is_first_id.ensures.0 refl) (λ h. omega (arith, h, c.if-first-ne0.true)) refl

pub unwrap-version-requires : goal.unwrap-version-requires
unwrap-version-requires g c = is_found c.version_of.result c.args.version c.version_of.ensures.none (listed_is c.args.self.now.config.versions.items c.args.version c.requires.listed)
