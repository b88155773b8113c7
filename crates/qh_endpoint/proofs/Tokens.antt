-- What the tokens that an endpoint issued are taken for when they come back.
use Rattle.std.proofs.Common.{◌≡◌, ℕ, List, Result, Ok, Err, refl, sym, ap, subst}
use Rattle.std.specs.declared.net.socket_addr.SocketAddr.{SocketAddr}
use Rattle.qh_base.specs.declared.time.Moment.{Moment}
use Rattle.qh_incoming_token.specs.IncomingToken.{CountsAsRetry, IsOfSender, IsTakenFor, answered_by_log, foreign, invalid, logged, none, retried, retry, used, valid, wanting}
use Rattle.qh_incoming_token.specs.declared.incoming_token.IncomingToken.{IncomingToken}
use Rattle.qh_incoming_token.specs.declared.incoming_token.IncomingTokenFault.{IncomingTokenFault}
use Rattle.qh_incoming_token.specs.declared.incoming_token.TokenLifetimes.{TokenLifetimes}
use Rattle.qh_parts.specs.TokenLog.{IsLook}
use Rattle.qh_parts.specs.declared.token_log.TokenFault.{TokenFault}
use Rattle.qh_parts.specs.declared.token_log.TokenFault.TheVariants.{Memory, Reused}
use Rattle.qh_spec.specs.TokenFilter.{TokenLimits}
use Rattle.qh_spec.specs.TokenLog.{TokenLog}
use Rattle.qh_token.proofs.Forms.{token_once}
use Rattle.qh_token.specs.Token.{IsToken, Retry, TokenValue, Validation}

module _ {L : Type 0} (limits : L → TokenLimits) (stands : L → TokenLog → Type 0) (lifetimes : TokenLifetimes) (remote : SocketAddr) (now : Moment) (id bytes : List ℕ) (v : TokenValue) (is : IsToken bytes v) (before after : L) where
  same : (w : TokenValue) → IsToken bytes w → w ≡ v
  same w is_w = token_once bytes w v is_w is

  no_retry : v.kind ≡ Validation → (w : TokenValue) → IsToken bytes w → w.kind ≡ Retry → ⊥
  no_retry kind w is_w kind_w = let e : w ≡ v = same w is_w in let k = ap (λ (z : TokenValue). z.kind) e in cc

  no_validation : v.kind ≡ Retry → (w : TokenValue) → IsToken bytes w → w.kind ≡ Validation → ⊥
  no_validation kind w is_w kind_w = let e : w ≡ v = same w is_w in let k = ap (λ (z : TokenValue). z.kind) e in cc

  pub only_retried : v.kind ≡ Retry → CountsAsRetry v lifetimes remote now → (answer : Result IncomingToken IncomingTokenFault) → IsTakenFor limits stands lifetimes remote now id bytes before after answer
      → (answer ≡ Ok (retried id v.original)) × (after ≡ before)
  only_retried kind counts answer (none never kept) = absurd (never v is)
  only_retried kind counts answer (retry w is_w kind_w counts_w kept) = (ap (λ (z : TokenValue). Ok (retried id z.original)) (same w is_w), kept)
  only_retried kind counts answer (invalid w is_w kind_w bad kept) = absurd (bad (subst (λ (z : TokenValue). CountsAsRetry z lifetimes remote now) (sym (same w is_w)) counts))
  only_retried kind counts answer (foreign w is_w kind_w bad kept) = absurd (no_validation kind w is_w kind_w)
  only_retried kind counts answer (used w is_w kind_w sender look) = absurd (no_validation kind w is_w kind_w)
  only_retried kind counts answer (valid w is_w kind_w sender look) = absurd (no_validation kind w is_w kind_w)
  only_retried kind counts answer (wanting w is_w kind_w sender look) = absurd (no_validation kind w is_w kind_w)

  abbrev pub Looked : Result IncomingToken IncomingTokenFault → Type 0
  Looked answer = (look : Result (Unit {0}) TokenFault) × IsLook limits stands before (logged v lifetimes) look after × (answer ≡ answered_by_log id look)

  here : (look : Result (Unit {0}) TokenFault) (w : TokenValue) → IsToken bytes w → IsLook limits stands before (logged w lifetimes) look after → IsLook limits stands before (logged v lifetimes) look after
  here look w is_w looked = subst (λ (z : TokenValue). IsLook limits stands before (logged z lifetimes) look after) (same w is_w) looked

  pub by_the_log : v.kind ≡ Validation → IsOfSender v lifetimes.validation remote now → (answer : Result IncomingToken IncomingTokenFault) → IsTakenFor limits stands lifetimes remote now id bytes before after answer → Looked answer
  by_the_log kind sender answer (none never kept) = absurd (never v is)
  by_the_log kind sender answer (retry w is_w kind_w counts_w kept) = absurd (no_retry kind w is_w kind_w)
  by_the_log kind sender answer (invalid w is_w kind_w bad kept) = absurd (no_retry kind w is_w kind_w)
  by_the_log kind sender answer (foreign w is_w kind_w bad kept) = absurd (bad (subst (λ (z : TokenValue). IsOfSender z lifetimes.validation remote now) (sym (same w is_w)) sender))
  by_the_log kind sender answer (used w is_w kind_w sender_w look) = (Err Reused, here (Err Reused) w is_w look, refl)
  by_the_log kind sender answer (valid w is_w kind_w sender_w look) = (Ok tt, here (Ok tt) w is_w look, refl)
  by_the_log kind sender answer (wanting w is_w kind_w sender_w look) = (Err Memory, here (Err Memory) w is_w look, refl)
