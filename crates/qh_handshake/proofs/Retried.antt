-- A Retry packet is read in one way, and so is one of version negotiation.
use Rattle.std.proofs.Common.{◌≡◌, ℕ, ◌+◌, Bool, true, false, not, List, ◌++◌, length, refl, sym, ap, ◌∙◌, arith, length-append, ◌==◌, [], ◌∷◌, subst, ◌≤◌}
use Rattle.std.specs.Prelude.{IsTrue, OnErr, Result, Ok, Err}
use Rattle.qh_handshake.specs.Incoming.{IsRetryFor}
use Rattle.qh_handshake.specs.declared.handshake.Handshake.{Handshake}
use Rattle.qh_packet.proofs.LongHeaders.{same_header}
use Rattle.qh_packet.specs.Retry.{IsRetryPacket, retry_tag_of}
use Rattle.qh_packet.specs.VersionNegotiation.{IsVersionNegotiation}
use Rattle.qh_spec.proofs.Cuts.{halves}

pub same_retry : (bytes d s t g d' s' t' g' : List ℕ) → IsRetryPacket bytes d s t g → IsRetryPacket bytes d' s' t' g' → (t ≡ t') × (g ≡ g')
same_retry bytes d s t g d' s' t' g' p q =
    let same = same_header bytes p.first 1 d s (t ++ g) q.first 1 d' s' (t' ++ g') p.header q.header in
    let lengths : length t + length g ≡ length t' + length g' = sym (length-append t g) ∙ ap length same.same_rest ∙ length-append t' g' in
    halves t g t' g' (omega (arith, lengths, p.tag_length, q.tag_length)) same.same_rest

pub same_listed : (bytes d s l d' s' l' : List ℕ) → IsVersionNegotiation bytes d s l → IsVersionNegotiation bytes d' s' l' → l ≡ l'
same_listed bytes d s l d' s' l' p q = (same_header bytes p.first 0 d s l q.first 0 d' s' l' p.header q.header).same_rest

pub not_true : (b : Bool) → b ≡ false → IsTrue b → ⊥
not_true true e h = cc
not_true false e h = cc

pub is_true : (b : Bool) → not b ≡ false → IsTrue b
is_true true e = refl
is_true false e = absurd (cc)

some_bytes : (bytes : List ℕ) → false ≡ (length bytes == 0) → 1 ≤ length bytes
some_bytes [] e = absurd (cc)
some_bytes (b ∷ bytes) e = omega arith

-- what was read is a Retry packet for this client
pub retry_for : (h : Handshake) (datagram d source token tag : List ℕ) → IsRetryPacket datagram d source token tag → tag ≡ retry_tag_of h.original_id → false ≡ (length token == 0) → length token ≤ 512
    → IsRetryFor h datagram source token
retry_for h datagram d source token tag p same some few = record {
  destination = d;
  is = subst (λ (g : List ℕ). IsRetryPacket datagram d source token g) same p;
  some = some_bytes token some;
  few = few;
}

pub on_err : {A E P : Type 0} (answer : Result A E) → P → OnErr answer P
on_err (Ok x) p = tt
on_err (Err e) p = p
