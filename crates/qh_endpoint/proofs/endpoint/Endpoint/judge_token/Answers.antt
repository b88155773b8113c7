use Rattle.std.proofs.Common.{sym, subst, refl, Err}
use Rattle.qh_endpoint.specs.Endpoint.{lifetimes_of}
use Rattle.qh_endpoint.specs.Stranger.{attempt, invalid, unnoted}
use Rattle.qh_incoming_token.specs.IncomingToken.{IsTakenFor}
use Rattle.qh_incoming_token.specs.declared.incoming_token.IncomingTokenFault.{IncomingTokenFault}
use Rattle.qh_packet.specs.Version.{number_of}
use Rattle.qh_endpoint.proofs.endpoint.Endpoint.judge_token.Goals as goal
use Rattle.qh_endpoint.proofs.endpoint.Endpoint.judge_token.Goals.{in-Ok, in-Err+in-InvalidRetryToken, in-Err+in-Memory}

pub returns-clause-judged : goal.returns-clause-judged
returns-clause-judged g c = rw (sym c.self.view_is) (elim c.match-taken.branch [
  | in-Ok w ↦ rw w.result-is (λ first size has can is_first bits. attempt (number_of c.args.version) first c.args.destination c.args.source c.args.token.now c.args.server c.args.version w.in-Ok.token refl has can is_first bits w.in-Ok.ensures refl)
  | in-Err+in-InvalidRetryToken w ↦ rw w.result-is (λ first size has can is_first bits. invalid (number_of c.args.version) first c.args.destination c.args.source c.args.token.now c.args.server (record { 0 = 11 }) refl has can is_first bits
      (subst (λ (z : IncomingTokenFault). IsTakenFor g.K.T.TokenLog.limits g.K.T.TokenLog.stands (lifetimes_of c.args.server) c.args.remote c.args.now c.args.destination c.args.token.now c.self.inside.token_log c.from_header-taken.new.log (Err z)) w.in-InvalidRetryToken.is w.in-Err.ensures) refl)
  | in-Err+in-Memory w ↦ rw w.result-is tt
])

pub returns-clause-err : goal.returns-clause-err
returns-clause-err g c = rw (sym c.self.view_is) (elim c.match-taken.branch [
  | in-Ok w ↦ rw w.result-is tt
  | in-Err+in-InvalidRetryToken w ↦ rw w.result-is tt
  | in-Err+in-Memory w ↦ rw w.result-is (λ first size has can is_first bits. unnoted (number_of c.args.version) first c.args.destination c.args.source c.args.token.now c.args.server has can is_first bits
      (subst (λ (z : IncomingTokenFault). IsTakenFor g.K.T.TokenLog.limits g.K.T.TokenLog.stands (lifetimes_of c.args.server) c.args.remote c.args.now c.args.destination c.args.token.now c.self.inside.token_log c.from_header-taken.new.log (Err z)) w.in-Memory.is w.in-Err.ensures) refl)
])
