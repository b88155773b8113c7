-- What is answered to a datagram.
use Rattle.std.proofs.Common.{◌≡◌, ℕ, ◌<◌, ◌≤◌, Bool, List, [], ◌++◌, length, Some, sym, ap, ◌∙◌, subst}
use Rattle.qh_base.specs.declared.path.FourTuple.{FourTuple}
use Rattle.qh_base.specs.declared.path.Transmit.{Transmit}
use Rattle.qh_base.specs.declared.time.Moment.{Moment}
use Rattle.qh_endpoint.specs.Endpoint.{PlainEndpoint, numbers}
use Rattle.qh_endpoint.specs.Handled.{IsNegotiated, IsReset, IsResetEarly, sent, told}
use Rattle.qh_endpoint.specs.declared.event.DatagramEvent.TheVariants.{Response}
use Rattle.qh_kit.specs.declared.config.ServerConfig.{ServerConfig}
use Rattle.qh_packet.specs.Session.{SealsTag}
use Rattle.qh_spec.specs.TokenFilter.{TokenLimits}
use Rattle.qh_spec.specs.TokenLog.{TokenLog}
use Rattle.qh_stateless.specs.Header.{IsFault}
use Rattle.qh_stateless.specs.Negotiation.{negotiation_bytes}
use Rattle.qh_stateless.specs.Reset.{IsReset as IsResetOf}
use Rattle.qh_stateless.specs.View.{fault_of}
use Rattle.qh_stateless.specs.Words.{and_word, and_words}
use Rattle.qh_stateless.specs.declared.header.HeaderFault.{HeaderFault}

pub same_fault : (n : ℕ) (versions : List ℕ) (grease : Bool) (bytes datagram : List ℕ) (f g : HeaderFault) → bytes ≡ datagram → f ≡ g → IsFault n versions grease bytes (fault_of f) → IsFault n versions grease datagram (fault_of g)
same_fault n versions grease bytes datagram f g e is h = subst (λ (z : List ℕ). IsFault n versions grease z (fault_of g)) e (subst (λ (z : HeaderFault). IsFault n versions grease bytes (fault_of z)) is h)

-- what is sent back has as many bytes as were written
abbrev pub IsSent : (addresses : FourTuple) (size : ℕ) → Transmit → Type 0
IsSent addresses size t = t ≡ record { destination = addresses.remote; size = size; src_ip = addresses.local_ip }

module _ {K G R T S : Type 0} (cid_len : G → ℕ) (validates : G → List ℕ → Type 0) (given : G → List (List ℕ)) (drawn : R → List ℕ) (limits : T → TokenLimits) (stands : T → TokenLog → Type 0) (key : S → List ℕ)
    (sealed : S → SealsTag) (now : Moment) (addresses : FourTuple) (datagram : List ℕ) (old new : PlainEndpoint K G R T) (out written : List ℕ) (size : ℕ) (t : Transmit) (is_sent : IsSent addresses size t) (size_is : size ≡ length written) (empty : out ≡ []) where
  pub reset_sent : (id : List ℕ) (count : ℕ) → length datagram ≡ count → ((cause_len : ℕ) (id words bytes : List ℕ) → IsResetOf cause_len id words bytes → (21 ≤ length bytes) × (length bytes < cause_len)) → (IsResetEarly {S = S} cid_len validates given drawn limits stands key sealed now addresses datagram old → ⊥) → 21 < count
      → ((words bytes : List ℕ) × (drawn new.words ≡ and_words (drawn old.words) words) × (written ≡ out ++ bytes) × IsResetOf count id words bytes)
      → new ≡ record old { words = new.words; last_reset = Some now }
      → IsReset {S = S} cid_len validates given drawn limits stands key sealed now addresses datagram id old new written (Some (Response t))
  reset_sent id count count_is shorter late above put rest =
      let bytes : written ≡ put.1 = put.3 ∙ ap (λ (z : List ℕ). z ++ put.1) empty in
      let of_count : IsResetOf count id put.0 written = subst (λ (z : List ℕ). IsResetOf count id put.0 z) (sym bytes) put.4 in
      rw (is_sent ∙ ap (λ (n : ℕ). record { destination = addresses.remote; size = n; src_ip = addresses.local_ip }) size_is)
      (sent put.0 late (subst (λ (n : ℕ). 21 < n) (sym count_is) above) put.2 (subst (λ (n : ℕ). IsResetOf n id put.0 written) (sym count_is) of_count)
      (subst (λ (n : ℕ). length written < n) (sym count_is) (shorter count id put.0 written of_count).1) rest)

  pub versions_told : (version : ℕ) (destination source : List ℕ) (server : ServerConfig) → old.server ≡ Some server → 1200 ≤ length datagram
      → ((word : ℕ) × (drawn new.words ≡ and_word (drawn old.words) word) × (written ≡ out ++ negotiation_bytes word version destination source (numbers old.config)))
      → new ≡ record old { words = new.words }
      → IsNegotiated {S = S} cid_len validates given drawn limits stands key sealed now addresses datagram version destination source old new written (Some (Response t))
  versions_told version destination source server has large put rest =
      rw (is_sent ∙ ap (λ (n : ℕ). record { destination = addresses.remote; size = n; src_ip = addresses.local_ip }) size_is)
      (told server put.0 has large put.1 (put.2 ∙ ap (λ (z : List ℕ). z ++ negotiation_bytes put.0 version destination source (numbers old.config)) empty) rest)
