-- What a log does at a token is what the filter does that takes it.
use Rattle.std.proofs.Common.{◌≡◌, ◌≢◌, ℕ, ◌≤◌, Bool, true, false, not, cond, ltb, Result, Ok, Err, sym, ap, ◌∙◌, subst}
use Rattle.std.proofs.lemmas.Bool.{ne_eqb, le-ltb}
use Rattle.qh_spec.specs.TokenFilter.{TokenLimits, TokenFilter, refuses, with_fingerprint}
use Rattle.qh_spec.specs.TokenLog.{Token, TokenLog, expiry, fingerprint, is_stale, moved, is_in_second, taking, accepts, turned, with_token}
use Rattle.qh_parts.specs.declared.token_log.TokenFault.{TokenFault}
use Rattle.qh_parts.specs.declared.token_log.TokenFault.TheVariants.{Reused, Memory}
use Rattle.qh_parts.specs.declared.bloom_token_log.BloomTokenLog.{BloomTokenLog}
use Rattle.qh_parts.specs.declared.bloom_token_log.filter.Filter.{Filter}
use Rattle.qh_parts.specs.BloomTokenLog.{log_limits, StandsFor}
use Rattle.qh_parts.specs.Filter.{IsKept, IsSeen}
use Rattle.qh_parts.specs.TokenLog.{IsLooked}

pub is_fresh : (l : TokenLog) (t : Token) → t.lifetime ≢ 0 → l.start ≤ expiry t → is_stale l t ≡ false
is_fresh l t ne le =
    ap (λ b. cond b true (ltb (expiry t) l.start)) (ne_eqb t.lifetime 0 ne) ∙ le-ltb (expiry t) l.start le

accepts_fresh : (limits : TokenLimits) (l : TokenLog) (t : Token) (f : TokenFilter) (b : Bool) → is_stale l t ≡ false → taking l t ≡ f → refuses limits f (fingerprint t) ≡ b → accepts limits l t ≡ not b
accepts_fresh limits l t f b fresh takes r =
    ap (λ z. cond z false (not (refuses limits (taking l t) (fingerprint t)))) fresh
    ∙ ap (λ g. not (refuses limits g (fingerprint t))) takes ∙ ap not r

turned_fresh : (l : TokenLog) (t : Token) → is_stale l t ≡ false → turned l t ≡ moved l t
turned_fresh l t fresh = ap (λ b. cond b l (moved l t)) fresh

-- at an answer of the filter f that takes the token
module _ (limits : TokenLimits) (l : TokenLog) (t : Token) (f : TokenFilter) (fresh : is_stale l t ≡ false) (takes : taking l t ≡ f) where
  looked : (Next : TokenLog → Type 0) (entered : TokenLog) → with_token limits l t ≡ entered → (r : Result (Unit {0}) TokenFault) (Then : TokenFilter → Type 0) → IsSeen limits f (fingerprint t) r Then → (Then f → Next (moved l t)) → (Then (with_fingerprint limits f (fingerprint t)) → Next entered) → IsLooked limits l t r Next
  looked Next entered e (Ok done) Then seen stays goes =
      let yes : accepts limits l t ≡ true = accepts_fresh limits l t f false fresh takes seen.0 in
      (yes, subst Next (sym (ap (λ b. cond b (with_token limits l t) (turned l t)) yes ∙ e)) (goes seen.1))
  looked Next entered e (Err Reused) Then seen stays goes =
      let no : accepts limits l t ≡ false = accepts_fresh limits l t f true fresh takes seen.0 in
      (no, subst Next (sym (ap (λ b. cond b (with_token limits l t) (turned l t)) no ∙ turned_fresh l t fresh)) (stays seen.1))
  looked Next entered e (Err Memory) Then seen stays goes =
      (accepts_fresh limits l t f false fresh takes seen.0, ap (λ g. g.is_bits) takes ∙ seen.1, subst Next (sym (turned_fresh l t fresh)) (stays seen.2))

abbrev first_replaced : TokenLog → TokenFilter → TokenLog
first_replaced l f = record l { first = f }

abbrev second_replaced : TokenLog → TokenFilter → TokenLog
second_replaced l f = record l { second = f }

-- at a log that stands for one whose periods have moved, and whose filter saw the token's fingerprint
module _ (limits : TokenLimits) (turned : BloomTokenLog) (kept : Filter) (l : TokenLog) (t : Token) (x : ℕ) (r : Result (Unit {0}) TokenFault) (same : log_limits turned ≡ limits) (stands : StandsFor turned (moved l t)) (fresh : is_stale l t ≡ false) (is : x ≡ fingerprint t) where
  abbrev Seen : TokenFilter → ℕ → Type 0
  Seen f n = IsSeen (log_limits turned) f n r (IsKept (log_limits turned) kept)

  entered : (b : Bool) → is_in_second l t ≡ b → with_token (log_limits turned) l t ≡ cond b (second_replaced (moved l t) (with_fingerprint (log_limits turned) (cond b (moved l t).second (moved l t).first) (fingerprint t))) (first_replaced (moved l t) (with_fingerprint (log_limits turned) (cond b (moved l t).second (moved l t).first) (fingerprint t)))
  entered b e =
      ap (λ z. cond z (second_replaced (moved l t) (with_fingerprint (log_limits turned) (cond z (moved l t).second (moved l t).first) (fingerprint t))) (first_replaced (moved l t) (with_fingerprint (log_limits turned) (cond z (moved l t).second (moved l t).first) (fingerprint t)))) e

  pub second_takes : is_in_second l t ≡ true → Seen (moved l t).second x → IsLooked limits l t r (StandsFor record turned { filter_2 = kept })
  second_takes e seen =
      subst (λ z. IsLooked z l t r (StandsFor record turned { filter_2 = kept })) same
      (looked (log_limits turned) l t (moved l t).second fresh (ap (λ b. cond b (moved l t).second (moved l t).first) e) (StandsFor record turned { filter_2 = kept }) _ (entered true e) r (IsKept (log_limits turned) kept)
      (subst (Seen (moved l t).second) is seen) (λ k. record { start = stands.start; first = stands.first; second = k }) (λ k. record { start = stands.start; first = stands.first; second = k }))

  pub first_takes : is_in_second l t ≡ false → Seen (moved l t).first x → IsLooked limits l t r (StandsFor record turned { filter_1 = kept })
  first_takes e seen =
      subst (λ z. IsLooked z l t r (StandsFor record turned { filter_1 = kept })) same
      (looked (log_limits turned) l t (moved l t).first fresh (ap (λ b. cond b (moved l t).second (moved l t).first) e) (StandsFor record turned { filter_1 = kept }) _ (entered false e) r (IsKept (log_limits turned) kept)
      (subst (Seen (moved l t).first) is seen) (λ k. record { start = stands.start; first = k; second = stands.second }) (λ k. record { start = stands.start; first = k; second = stands.second }))
