-- How an attempt is answered by a Retry packet, or isn't.
use Rattle.std.proofs.Common.{◌≡◌, ℕ, ◌<◌, ◌^◌, true, false, List, [], ◌∷◌, length, sym, ap, ◌∙◌, subst}
use Rattle.std.specs.Prelude.{is_some}
use Rattle.qh_base.specs.declared.path.FourTuple.{FourTuple}
use Rattle.qh_base.specs.declared.time.Moment.{Moment}
use Rattle.qh_connections.specs.Connections.{PlainConnections}
use Rattle.qh_connections.specs.Ids.{AreNoneFreshBut, IsFreshBut}
use Rattle.qh_endpoint.specs.Endpoint.{PlainEndpoint}
use Rattle.qh_endpoint.specs.Retrying.{IsNotRetried, IsRetryWritten, answered, none_fresh, nonce_of, retry_token, wanting}
use Rattle.qh_endpoint.specs.declared.incoming.FirstPacket.{FirstPacket}
use Rattle.qh_endpoint.specs.declared.incoming.Waiting.{Waiting}
use Rattle.qh_endpoint.specs.declared.retrying.RetryFault.TheVariants.{Answered, CidsExhausted, Memory}
use Rattle.qh_packet.specs.Retry.{retry_bytes}
use Rattle.qh_stateless.specs.Words.{and_words}
use Rattle.qh_token.specs.Token.{IsToken}

module _ {K G R T : Type 0} (cid_len : G → ℕ) (validates : G → List ℕ → Type 0) (given : G → List (List ℕ)) (drawn : R → List ℕ) (w : Waiting) (first : FirstPacket) (same : first ≡ w.first) (old new : PlainEndpoint K G R T) where
  pub answered_of : true ≡ is_some first.token.retry_src_cid → new ≡ old → IsNotRetried cid_len validates given drawn w old new Answered
  answered_of e rest = answered (ap (λ (p : FirstPacket). is_some p.token.retry_src_cid) (sym same) ∙ sym e) rest

  module _ (may : false ≡ is_some first.token.retry_src_cid) (ids : PlainConnections G) (only : ids ≡ record old.connections { ids = ids.ids }) where
    may_here : is_some w.first.token.retry_src_cid ≡ false
    may_here = ap (λ (p : FirstPacket). is_some p.token.retry_src_cid) (sym same) ∙ sym may

    pub exhausted_of : AreNoneFreshBut old.connections.routes first.destination (given old.connections.ids) (given ids.ids) → new ≡ record old { connections = ids } → IsNotRetried cid_len validates given drawn w old new CidsExhausted
    exhausted_of no_id is =
        let e : ids.ids ≡ new.connections.ids = sym (ap (λ (z : PlainEndpoint K G R T). z.connections.ids) is) in
        none_fresh may_here (subst (λ (z : G). AreNoneFreshBut old.connections.routes w.first.destination (given old.connections.ids) (given z)) e
        (subst (λ (p : FirstPacket). AreNoneFreshBut old.connections.routes p.destination (given old.connections.ids) (given ids.ids)) same no_id))
        (is ∙ ap (λ (z : PlainConnections G). record old { connections = z }) (only ∙ ap (λ (z : G). record old.connections { ids = z }) e))

    module _ (is : new ≡ record old { words = new.words; connections = ids }) (id : List ℕ) (fresh : IsFreshBut old.connections.routes first.destination (given old.connections.ids) (given ids.ids) id) where
      same_ids : ids.ids ≡ new.connections.ids
      same_ids = sym (ap (λ (z : PlainEndpoint K G R T). z.connections.ids) is)

      rest_of : new ≡ record old { words = new.words; connections = record old.connections { ids = new.connections.ids } }
      rest_of = is ∙ ap (λ (z : PlainConnections G). record old { words = new.words; connections = z }) (only ∙ ap (λ (z : G). record old.connections { ids = z }) same_ids)

      fresh_here : IsFreshBut old.connections.routes w.first.destination (given old.connections.ids) (given new.connections.ids) id
      fresh_here = subst (λ (z : G). IsFreshBut old.connections.routes w.first.destination (given old.connections.ids) (given z) id) same_ids
          (subst (λ (p : FirstPacket). IsFreshBut old.connections.routes p.destination (given old.connections.ids) (given ids.ids) id) same fresh)

      pub wanting_of : (high low : ℕ) → drawn new.words ≡ and_words (drawn old.words) (high ∷ low ∷ []) → IsNotRetried cid_len validates given drawn w old new Memory
      wanting_of high low words = wanting id high low may_here fresh_here words rest_of

      pub written_of : (now : Moment) (addresses : FourTuple) (written token : List ℕ) → addresses ≡ w.addresses → length id ≡ cid_len old.connections.ids → validates ids.ids id
          → (high low : ℕ) × (high < 2 ^ 64) × (low < 2 ^ 64) × (drawn new.words ≡ and_words (drawn old.words) (high ∷ low ∷ [])) × IsToken token (retry_token (nonce_of high low) addresses.remote first.destination now)
          → written ≡ retry_bytes first.source id token first.destination → IsRetryWritten cid_len validates given drawn now w old new written
      written_of now addresses written token at size own (high, low, high_fits, low_fits, words, token_is) written_is = record {
        may = may_here;
        id = id;
        fresh = fresh_here;
        size = size;
        own = subst (λ (z : G). validates z id) same_ids own;
        high = high;
        low = low;
        fits = (high_fits, low_fits);
        words = words;
        token = token;
        token_is = subst (λ (p : FirstPacket). IsToken token (retry_token (nonce_of high low) w.addresses.remote p.destination now)) same
            (subst (λ (a : FourTuple). IsToken token (retry_token (nonce_of high low) a.remote first.destination now)) at token_is);
        written_is = written_is ∙ ap (λ (p : FirstPacket). retry_bytes p.source id token p.destination) same;
        rest = rest_of;
      }
