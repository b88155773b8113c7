-- What a datagram does.
use Rattle.std.proofs.Common.{◌≡◌, ◌⊎◌, ℕ, ◌+◌, ◌-◌, ◌^◌, min, List, [], length, take, Option, Some, None, sym, ap, ◌∙◌, inl, inr, subst, arith}
use Rattle.std.specs.Prelude.{IfErr, IfOk, Result, Ok, Err}
use Rattle.qh_base.specs.declared.connection_error.ConnectionError.{ConnectionError}
use Rattle.qh_base.specs.declared.connection_error.ConnectionError.TheVariants.{Memory as Wanting, VersionMismatch}
use Rattle.qh_base.specs.declared.time.Moment.{Moment}
use Rattle.qh_handshake.specs.Handshake.{counted}
use Rattle.qh_handshake.specs.Incoming.{ArePacketsTaken, IsDatagramTaken, IsMismatch, IsRetryFor, IsSessionAfter, Learns, MayRetry, SessionView, received, restarted}
use Rattle.qh_handshake.specs.Incoming.IsDatagramTaken.{retry, mismatch, packets}
use Rattle.qh_handshake.specs.Lost.{AreInitialsLost, IsLost}
use Rattle.qh_handshake.specs.Lost.IsLost.{initials, retry as retry_lost}
use Rattle.qh_handshake.specs.declared.handshake.Handshake.{Handshake}
use Rattle.qh_handshake.specs.declared.initial_space.InitialSpace.{InitialSpace}
use Rattle.qh_packet.specs.Session.{AcceptsTag}

-- nothing is left of it
pub nothing_left : (n : ℕ) (bytes : List ℕ) → take (n - n) bytes ≡ []
nothing_left n bytes = let none : n - n ≡ 0 = omega arith in ap (λ (k : ℕ). take k bytes) none

-- a count and a size, as the code adds them
abbrev summed : (count size : ℕ) → ℕ
summed count size = min (count + size) (2 ^ 64 - 1)

sum_is : (count size : ℕ) → summed count size ≡ counted (count + size)
sum_is count size = omega arith

-- it is counted
received_is : (h : Handshake) (count size : ℕ) → count ≡ summed h.bytes_received size → record h { bytes_received = count } ≡ received size h
received_is h count size is = ap (λ (n : ℕ). record h { bytes_received = n }) (is ∙ sum_is h.bytes_received size)

-- it is a Retry packet that is taken
pub retried : (accepts : AcceptsTag) (now : Moment) (datagram rest : List ℕ) (h new : Handshake) (count : ℕ) (source token : List ℕ) → (s : InitialSpace) × MayRetry h s × IsRetryFor h datagram source token
    → count ≡ summed h.bytes_received (length datagram) → ((s : InitialSpace) → h.space ≡ Some s → new ≡ restarted now (record h { bytes_received = count }) s source token) → rest ≡ []
    → IsDatagramTaken accepts now datagram h new rest (Some source) None None
retried accepts now datagram rest h new count source token may is begun none =
    subst (λ (left : List ℕ). IsDatagramTaken accepts now datagram h new left (Some source) None None) (sym none)
    (retry may.0 source token may.1 may.2 (begun may.0 may.1.space ∙ ap (λ (g : Handshake). restarted now g may.0 source token) (received_is h count (length datagram) is)))

-- memory is wanting for one that is to be taken
pub retried_lost : (accepts : AcceptsTag) (now : Moment) (datagram : List ℕ) (h : Handshake) (count : ℕ) → (s : InitialSpace) × (source token : List ℕ) × MayRetry h s × IsRetryFor h datagram source token
    → count ≡ summed h.bytes_received (length datagram) → IsLost accepts now datagram h (record h { bytes_received = count }) None
retried_lost accepts now datagram h count may is = retry_lost may.0 may.1 may.2 may.3 may.4 (received_is h count (length datagram) is)

-- it is one of version negotiation
pub mismatched : (accepts : AcceptsTag) (now : Moment) (datagram : List ℕ) (h : Handshake) (count : ℕ) → IsMismatch h datagram → count ≡ summed h.bytes_received (length datagram)
    → IsDatagramTaken accepts now datagram h (record h { bytes_received = count }) [] None None (Some VersionMismatch)
mismatched accepts now datagram h count m is = mismatch m (received_is h count (length datagram) is)

-- or its Initial packets are taken
module _ {S : Type 0} (v : SessionView S) (now : Moment) (datagram : List ℕ) (h new : Handshake) (count : ℕ) (first last : S)
    (none : (s : InitialSpace) (source token : List ℕ) → MayRetry h s → IsRetryFor h datagram source token → ⊥) (other : IsMismatch h datagram → ⊥) (is : count ≡ summed h.bytes_received (length datagram)) where
  packets_so : (rest : List ℕ) (learned : Option (List ℕ)) (end : Option ConnectionError) → ArePacketsTaken (v.accepts first) now datagram rest (record h { bytes_received = count }) new learned end
      → IsDatagramTaken (v.accepts first) now datagram h new rest None learned end
  packets_so rest learned end t =
      packets rest learned end none other (subst (λ (g : Handshake). ArePacketsTaken (v.accepts first) now datagram rest g new learned end) (received_is h count (length datagram) is) t)

  pub packets_ok : {X : Type 0} (bytes_of : X → List ℕ) (answer : Result X ConnectionError)
      → IfOk answer (λ x. (learned : Option (List ℕ)) × ArePacketsTaken (v.accepts first) now datagram (bytes_of x) (record h { bytes_received = count }) new learned None × Learns v first last learned)
      → IfOk answer (λ x. (again learned : Option (List ℕ)) × IsDatagramTaken (v.accepts first) now datagram h new (bytes_of x) again learned None × IsSessionAfter v first last again learned)
  packets_ok bytes_of (Ok x) t = (None, t.0, packets_so (bytes_of x) t.0 None t.1, t.2)
  packets_ok bytes_of (Err e) t = tt

  pub packets_err : {X : Type 0} (answer : Result X ConnectionError)
      → IfErr answer (λ e. (e ≡ Wanting) ⊎ ((rest : List ℕ) × (learned : Option (List ℕ)) × ArePacketsTaken (v.accepts first) now datagram rest (record h { bytes_received = count }) new learned (Some e)
      × Learns v first last learned))
      → IfErr answer (λ e. (e ≡ Wanting) ⊎ ((rest : List ℕ) × (learned : Option (List ℕ)) × IsDatagramTaken (v.accepts first) now datagram h new rest None learned (Some e)
      × Learns v first last learned))
  packets_err (Ok x) t = tt
  packets_err (Err e) (inl wanting) = inl wanting
  packets_err (Err e) (inr t) = inr (t.0, t.1, packets_so t.0 t.1 (Some e) t.2, t.3)

  pub packets_lost : {X : Type 0} (answer : Result X ConnectionError)
      → IfErr answer (λ e. e ≡ Wanting → (learned : Option (List ℕ)) × AreInitialsLost (v.accepts first) now datagram (record h { bytes_received = count }) new learned × Learns v first last learned)
      → IfErr answer (λ e. e ≡ Wanting → (learned : Option (List ℕ)) × IsLost (v.accepts first) now datagram h new learned × Learns v first last learned)
  packets_lost (Ok x) lost = tt
  packets_lost (Err e) lost = λ wanting.
      let t = lost wanting in
      (t.0, initials t.0 none other (subst (λ (g : Handshake). AreInitialsLost (v.accepts first) now datagram g new t.0) (received_is h count (length datagram) is) t.1), t.2)
