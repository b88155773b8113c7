use Rattle.std.proofs.Common.{sym, subst, Ok, refl}
use Rattle.qh_incoming_token.proofs.Taken.{as_foreign, as_invalid, as_retry, as_used, as_valid, as_wanting, looked_as}
use Rattle.qh_incoming_token.specs.IncomingToken.{IsTakenFor, none}
use Rattle.qh_incoming_token.specs.declared.incoming_token.IncomingToken.{IncomingToken}
use Rattle.qh_parts.specs.declared.token_log.TokenFault.TheVariants as log
use Rattle.qh_incoming_token.proofs.incoming_token.IncomingToken.from_header.Goals as goal

pub returns-in_default : goal.returns-in_default
returns-in_default g c = subst (λ (z : IncomingToken). IsTakenFor g.L.TokenLog.limits g.L.TokenLog.stands c.args.lifetimes.now c.args.remote c.args.now c.args.dst_cid c.args.token.now c.args.log.now c.args.log.now (Ok z)) (sym c.unvalidated.ensures)
    (none c.in_default.ensures.none refl)

pub returns-then-counts_as_retry : goal.returns-then-counts_as_retry
returns-then-counts_as_retry g c = subst (λ (z : IncomingToken). IsTakenFor g.L.TokenLog.limits g.L.TokenLog.stands c.args.lifetimes.now c.args.remote c.args.now c.args.dst_cid c.args.token.now c.args.log.now c.args.log.now (Ok z)) (sym c.retried.ensures)
    (as_retry g.L.TokenLog.limits g.L.TokenLog.stands c.args.lifetimes.now c.args.remote c.args.now c.args.dst_cid c.args.token.now c.in-Some.token c.in-Some.ensures.found c.args.log.now c.in-Retry.address c.in-Retry.orig_dst_cid c.in-Retry.issued c.in-Retry.is
    (c.if-counts_as_retry.ensures.0 refl))

pub returns-else-counts_as_retry : goal.returns-else-counts_as_retry
returns-else-counts_as_retry g c = as_invalid g.L.TokenLog.limits g.L.TokenLog.stands c.args.lifetimes.now c.args.remote c.args.now c.args.dst_cid c.args.token.now c.in-Some.token c.in-Some.ensures.found c.args.log.now c.in-Retry.address c.in-Retry.orig_dst_cid c.in-Retry.issued c.in-Retry.is
    (λ p. let z = c.if-counts_as_retry.ensures.1 p in cc)

pub returns-then-not-is_of : goal.returns-then-not-is_of
returns-then-not-is_of g c = subst (λ (z : IncomingToken). IsTakenFor g.L.TokenLog.limits g.L.TokenLog.stands c.args.lifetimes.now c.args.remote c.args.now c.args.dst_cid c.args.token.now c.args.log.now c.args.log.now (Ok z)) (sym c.unvalidated-then-not-is_of.ensures)
    (as_foreign g.L.TokenLog.limits g.L.TokenLog.stands c.args.lifetimes.now c.args.remote c.args.now c.args.dst_cid c.args.token.now c.in-Some.token c.in-Some.ensures.found c.in-Validation.ip c.in-Validation.issued c.in-Validation.is c.args.log.now
    (λ p. let z = c.if-not-is_of.ensures.1 p in cc))

pub returns-in-Ok : goal.returns-in-Ok
returns-in-Ok g c = subst (λ (z : IncomingToken). IsTakenFor g.L.TokenLog.limits g.L.TokenLog.stands c.args.lifetimes.now c.args.remote c.args.now c.args.dst_cid c.args.token.now c.args.log.now c.check_and_insert-looked.new.self (Ok z)) (sym c.validated.ensures)
    (as_valid g.L.TokenLog.limits g.L.TokenLog.stands c.args.lifetimes.now c.args.remote c.args.now c.args.dst_cid c.args.token.now c.in-Some.token c.in-Some.ensures.found c.in-Validation.ip c.in-Validation.issued c.in-Validation.is c.args.log.now
    c.check_and_insert-looked.new.self (c.if-not-is_of.ensures.0 refl) (c.in-Ok.ensures.limits, c.in-Ok.ensures.answers))

pub returns-in-Reused : goal.returns-in-Reused
returns-in-Reused g c = subst (λ (z : IncomingToken). IsTakenFor g.L.TokenLog.limits g.L.TokenLog.stands c.args.lifetimes.now c.args.remote c.args.now c.args.dst_cid c.args.token.now c.args.log.now c.check_and_insert-looked.new.self (Ok z)) (sym c.unvalidated-in-Reused.ensures)
    (as_used g.L.TokenLog.limits g.L.TokenLog.stands c.args.lifetimes.now c.args.remote c.args.now c.args.dst_cid c.args.token.now c.in-Some.token c.in-Some.ensures.found c.in-Validation.ip c.in-Validation.issued c.in-Validation.is c.args.log.now
    c.check_and_insert-looked.new.self (c.if-not-is_of.ensures.0 refl)
    (looked_as g.L.TokenLog.limits g.L.TokenLog.stands c.args.log.now c.check_and_insert-looked.new.self _ c.in-Err.fault log.Reused c.in-Reused.is (c.in-Err.ensures.limits, c.in-Err.ensures.answers)))

pub returns-in-Memory : goal.returns-in-Memory
returns-in-Memory g c = as_wanting g.L.TokenLog.limits g.L.TokenLog.stands c.args.lifetimes.now c.args.remote c.args.now c.args.dst_cid c.args.token.now c.in-Some.token c.in-Some.ensures.found c.in-Validation.ip c.in-Validation.issued c.in-Validation.is c.args.log.now
    c.check_and_insert-looked.new.self (c.if-not-is_of.ensures.0 refl)
    (looked_as g.L.TokenLog.limits g.L.TokenLog.stands c.args.log.now c.check_and_insert-looked.new.self _ c.in-Err.fault log.Memory c.in-Memory.is (c.in-Err.ensures.limits, c.in-Err.ensures.answers))
