use Rattle.std.proofs.Common.{refl, sym, arith, rules, inl, inr}
use Rattle.qh_endpoint.proofs.Answers.{reset_sent}
use Rattle.qh_endpoint.specs.Handled.{none}
use Rattle.qh_endpoint.proofs.endpoint.Endpoint.stateless_reset.Goals as goal
use Rattle.qh_endpoint.proofs.endpoint.Endpoint.stateless_reset.Goals.{then-is_reset_early-via-then-is_reset_early, then-is_reset_early-via-else-is_reset_early+then-size-le-MAX_UNANSWERED}

pub returns-then-is_reset_early-clause-reset : goal.returns-then-is_reset_early-clause-reset
returns-then-is_reset_early-clause-reset g c = elim c.then-is_reset_early.branch [
  | then-is_reset_early-via-then-is_reset_early w ↦ λ datagram is. none (inl (w.if-is_reset_early.ensures.0 refl)) refl c.requires
  | then-is_reset_early-via-else-is_reset_early+then-size-le-MAX_UNANSWERED w ↦ λ datagram is. none (inr (omega (arith, is, w.if-size-le-MAX_UNANSWERED.true))) refl c.requires
]

pub returns-clause-reset : goal.returns-clause-reset
returns-clause-reset g c = λ datagram is. rw (sym c.self.view_is)
    (reset_sent _ _ _ _ _ _ _ _ c.args.now c.args.addresses.now datagram _ _ c.args.buf.now.items c.put_stateless_reset.new.out.items c.len.result c.reply.result c.reply.ensures (search rules) c.requires
    c.args.id.now c.args.size is c.stateless_resets.ensures.shorter (λ early. let late = (rw (sym c.self.view_is) at c.if-is_reset_early.ensures).1 early in cc) (omega (arith, c.if-size-le-MAX_UNANSWERED.false))
    (c.in_ok-put_stateless_reset.ensures.reset (c.in_ok-put_stateless_reset.ensures.answered.1 (omega (arith, c.if-size-le-MAX_UNANSWERED.false)))) refl)
