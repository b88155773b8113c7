-- Which datagram goes where, and how attempts leave.
use Rattle.std.proofs.Common.{◌≡◌, ◌≢◌, ◌↔◌, ℕ, List, [], Option, Some, None, refl, subst, arith}
use Rattle.std.specs.Prelude.{IsSomeAnd}
use Rattle.qh_attempts.proofs.Names.{others_pending}
use Rattle.qh_attempts.specs.Attempts.{AreAttempts, IsLater, IsPending, PlainAttempt, PlainBuffers}
use Rattle.qh_attempts.specs.declared.incoming_buffers.AttemptKey.{AttemptKey}
use Rattle.qh_base.specs.declared.path.FourTuple.{FourTuple}
use Rattle.qh_base.specs.declared.time.Moment.{Moment}
use Rattle.qh_conn.specs.declared.event.ConnectionEvent.TheVariants.{Datagram}
use Rattle.qh_endpoint.specs.Endpoint.{PlainEndpoint, numbers}
use Rattle.qh_endpoint.specs.Handled.{IsHandled, IsKept, IsRoutedTo, malformed, unsupported, kept, connection, ignored, unknown, refused, attempt}
use Rattle.qh_endpoint.specs.Leaving.{HasLeft}
use Rattle.qh_endpoint.specs.declared.event.DatagramEvent.{DatagramEvent}
use Rattle.qh_endpoint.specs.declared.event.DatagramEvent.TheVariants.{ConnectionEvent}
use Rattle.qh_endpoint.specs.declared.incoming.Waiting.{Waiting}
use Rattle.qh_packet.specs.Session.{SealsTag}
use Rattle.qh_routes.proofs.Routing.{routed_once}
use Rattle.qh_routes.specs.Routes.{NoKeyTwice}
use Rattle.qh_routes.specs.declared.connection_handle.ConnectionHandle.{ConnectionHandle}
use Rattle.qh_routes.specs.declared.connection_index.RouteDatagramTo.{RouteDatagramTo}
use Rattle.qh_routes.specs.declared.connection_index.RouteDatagramTo.TheVariants as target
use Rattle.qh_spec.specs.TokenFilter.{TokenLimits}
use Rattle.qh_spec.specs.TokenLog.{TokenLog}
use Rattle.qh_stateless.proofs.Headers.{apart, one}
use Rattle.qh_stateless.specs.Header.{Header, IsHeader}

module _ {K G R T S : Type 0} (cid_len : G → ℕ) (validates : G → List ℕ → Type 0) (given : G → List (List ℕ)) (drawn : R → List ℕ) (limits : T → TokenLimits) (stands : T → TokenLog → Type 0) (key : S → List ℕ)
    (sealed : S → SealsTag) (now : Moment) (addresses : FourTuple) (datagram written : List ℕ) (old new : PlainEndpoint K G R T) (h : Header) (distinct : NoKeyTwice old.connections.routes)
    (is : IsHeader (cid_len old.connections.ids) (numbers old.config) old.config.grease_quic_bit datagram h) where
  abbrev pub Routed : Header → Option RouteDatagramTo → Type 0
  Routed k answer = IsRoutedTo {S = S} cid_len validates given drawn limits stands key sealed now addresses datagram old k answer

  same : (k : Header) (r s : Option RouteDatagramTo) → IsHeader (cid_len old.connections.ids) (numbers old.config) old.config.grease_quic_bit datagram k → Routed h r → Routed k s → r ≡ s
  same k r s other a b = routed_once distinct a (subst (λ (z : Header). Routed z s) (one (cid_len old.connections.ids) (numbers old.config) old.config.grease_quic_bit datagram k h other is) b)

  pub reached : (event : Option DatagramEvent) (handle : ConnectionHandle) → Routed h (Some (target.Connection handle)) → IsHandled {S = S} cid_len validates given drawn limits stands key sealed now addresses datagram old new written event
      → (event ≡ Some (ConnectionEvent handle (Datagram now addresses.remote datagram))) × (new ≡ old) × (written ≡ [])
  reached event handle route (malformed bad e none) = absurd (bad.no_header h is)
  reached event handle route (unsupported version d s event' bad negotiated) = absurd (apart _ _ _ _ _ _ _ h is bad)
  reached event handle route (kept k key' other to is_kept none) = absurd (let e = same k _ _ other route to in cc)
  reached event handle route (connection k handle' other to e none) = (let w = same k _ _ other route to in cc, e, none)
  reached event handle route (ignored k other to judged none) = absurd (let e = same k _ _ other route to in cc)
  reached event handle route (unknown k mid id event' other to judged reset) = absurd (let e = same k _ _ other route to in cc)
  reached event handle route (refused k mid d s code other to judged closed) = absurd (let e = same k _ _ other route to in cc)
  reached event handle route (attempt k mid first server incoming other to judged waiting none) = absurd (let e = same k _ _ other route to in cc)

  pub is_kept_for : (event : Option DatagramEvent) (at : ℕ) → Routed h (Some (target.Incoming at)) → IsHandled {S = S} cid_len validates given drawn limits stands key sealed now addresses datagram old new written event
      → IsKept at now addresses.remote datagram old new × (event ≡ None) × (written ≡ [])
  is_kept_for event at route (malformed bad e none) = absurd (bad.no_header h is)
  is_kept_for event at route (unsupported version d s event' bad negotiated) = absurd (apart _ _ _ _ _ _ _ h is bad)
  is_kept_for event at route (kept k key' other to is_kept none) = (let e : key' ≡ at = (let w = same k _ _ other route to in cc) in subst (λ (n : ℕ). IsKept n now addresses.remote datagram old new) e is_kept, refl, none)
  is_kept_for event at route (connection k handle' other to e none) = absurd (let w = same k _ _ other route to in cc)
  is_kept_for event at route (ignored k other to judged none) = absurd (let e = same k _ _ other route to in cc)
  is_kept_for event at route (unknown k mid id event' other to judged reset) = absurd (let e = same k _ _ other route to in cc)
  is_kept_for event at route (refused k mid d s code other to judged closed) = absurd (let e = same k _ _ other route to in cc)
  is_kept_for event at route (attempt k mid first server incoming other to judged waiting none) = absurd (let e = same k _ _ other route to in cc)

module _ {K G R T : Type 0} (name : AttemptKey) (attempt : PlainAttempt Waiting) (old new : PlainEndpoint K G R T) (left : HasLeft name attempt old new) where
  pub is_gone : IsPending new.incoming name → ⊥
  is_gone p = subst (λ o. IsSomeAnd o (λ a. a.number ≡ name.number)) left.gone.there p

  pub is_gone_for_ever : (later : PlainBuffers Waiting) → AreAttempts old.incoming → IsLater new.incoming later → IsPending later name → ⊥
  is_gone_for_ever later sound after p =
      let below = sound.given name.key attempt left.was in
      let number = left.number_is in
      let count = left.numbered in
      is_gone (after.waited name (omega (arith, below, number, count)) p)

  pub others_wait : (other : AttemptKey) → other.key ≢ name.key → IsPending new.incoming other ↔ IsPending old.incoming other
  others_wait other apart = others_pending old.incoming new.incoming name.key None other left.gone apart
