-- What a datagram that is handed to an endpoint leaves for others to do.
use Rattle.std.proofs.Common.{◌≡◌, ℕ, List, [], ◌∷◌, ◌++◌, Option, Some, None, Result, Ok, Err, OnErr, Bool, true, false, refl, sym, ap, subst}
use Rattle.std.specs.Prelude.{IsSomeAnd}
use Rattle.qh_attempts.specs.Attempts.{IsPending}
use Rattle.qh_base.specs.declared.path.FourTuple.{FourTuple}
use Rattle.qh_base.specs.declared.time.Moment.{Moment}
use Rattle.qh_endpoint.specs.Endpoint.{PlainEndpoint}
use Rattle.qh_endpoint.specs.Handled.{IsHandled, IsNegotiated, IsReset, malformed, unsupported, kept, connection, ignored, unknown, refused, attempt, silent, told, none, sent}
use Rattle.qh_endpoint.specs.declared.event.DatagramEvent.{DatagramEvent}
use Rattle.qh_endpoint.specs.declared.event.DatagramEvent.TheVariants.{ConnectionEvent, NewConnection, Response}
use Rattle.qh_endpoint.specs.declared.incoming.Incoming.{Incoming}
use Rattle.qh_base.specs.declared.path.Transmit.{Transmit}
use Rattle.qh_conn.specs.declared.event.ConnectionEvent.{ConnectionEvent as AnEvent}
use Rattle.qh_packet.specs.Session.{SealsTag}
use Rattle.qh_quinn_end.specs.Receiving.{Handles, IsBrought, IsRefused, IsResponse, KitView, PlainInbox, PlainOutlet}
use Rattle.qh_routes.specs.declared.connection_handle.ConnectionHandle.{ConnectionHandle}
use Rattle.qh_spec.specs.TokenFilter.{TokenLimits}
use Rattle.qh_spec.specs.TokenLog.{TokenLog}

pub on_err : {T E : Type 0} (r : Result T E) {X : Type 0} → X → OnErr r X
on_err (Ok x) h = tt
on_err (Err e) h = h

module _ {K G R T S : Type 0} (cid_len : G → ℕ) (validates : G → List ℕ → Type 0) (given : G → List (List ℕ)) (drawn : R → List ℕ) (limits : T → TokenLimits) (stands : T → TokenLog → Type 0) (key : S → List ℕ)
    (sealed : S → SealsTag) (now : Moment) (addresses : FourTuple) (datagram : List ℕ) where
  abbrev pub Waits : (new : PlainEndpoint K G R T) (written : List ℕ) → Incoming → Type 0
  Waits new written i = IsPending new.incoming i.key × (written ≡ [])

  negotiated_none : (version : ℕ) (d s : List ℕ) (old new : PlainEndpoint K G R T) (written : List ℕ) (event : Option DatagramEvent) (i : Incoming)
      → IsNegotiated {S = S} cid_len validates given drawn limits stands key sealed now addresses datagram version d s old new written event → event ≡ Some (NewConnection i) → ⊥
  negotiated_none version d s old new written event i (silent why same nothing) e = let w = e in cc
  negotiated_none version d s old new written event i (told server word a b c f g) e = let w = e in cc

  reset_none : (id : List ℕ) (old new : PlainEndpoint K G R T) (written : List ℕ) (event : Option DatagramEvent) (i : Incoming)
      → IsReset {S = S} cid_len validates given drawn limits stands key sealed now addresses datagram id old new written event → event ≡ Some (NewConnection i) → ⊥
  reset_none id old new written event i (none why same nothing) e = let w = e in cc
  reset_none id old new written event i (sent words a b c d f g) e = let w = e in cc

  -- an attempt that begins with a datagram waits then, and nothing is to be sent
  pub begins : (old new : PlainEndpoint K G R T) (written : List ℕ) (event : Option DatagramEvent) (i : Incoming) → IsHandled {S = S} cid_len validates given drawn limits stands key sealed now addresses datagram old new written event
      → event ≡ Some (NewConnection i) → Waits new written i
  begins old new written event i (malformed bad same nothing) e = absurd (let w = e in cc)
  begins old new written event i (unsupported version d s event' bad negotiated) e = absurd (negotiated_none version d s old new written event i negotiated e)
  begins old new written event i (kept k key' other to is_kept nothing) e = absurd (let w = e in cc)
  begins old new written event i (connection k handle other to same nothing) e = absurd (let w = e in cc)
  begins old new written event i (ignored k other to judged nothing) e = absurd (let w = e in cc)
  begins old new written event i (unknown k mid id event' other to judged reset) e = absurd (reset_none id mid new written event i reset e)
  begins old new written event i (refused k mid d s code other to judged closed) e = absurd (let w = e in cc)
  begins old new written event i (attempt k mid first server incoming other to judged waiting nothing) e =
      let same : incoming ≡ i = (let w = e in cc) in
      subst (λ (z : Incoming). Waits new written z) same (subst (λ o. IsSomeAnd o (λ a. a.number ≡ incoming.key.number)) (sym waiting.waits.there) refl, nothing)

module _ {K G R T S : Type 0} (v : KitView G R T S) (never_blocks : Type 0) (is_closed : Bool) (now : Moment) (addresses : FourTuple) (datagram : List ℕ) (old new : PlainEndpoint K G R T) (written : List ℕ) (seen : Option DatagramEvent)
    (handled : Handles v never_blocks is_closed now addresses datagram old new written seen) (before reserved : PlainInbox) (same : reserved ≡ before) where
  abbrev Brought : PlainEndpoint K G R T → (was is : PlainOutlet) → PlainInbox → Type 0
  Brought last was is after = IsBrought v never_blocks is_closed now addresses datagram old last was is before after

  is_event : (e : Option DatagramEvent) → seen ≡ e → Handles v never_blocks is_closed now addresses datagram old new written e
  is_event e is = subst (λ (z : Option DatagramEvent). Handles v never_blocks is_closed now addresses datagram old new written z) is handled

  pub to_connection : (handle : ConnectionHandle) (e : AnEvent) (o : PlainOutlet) (events : List (ConnectionHandle × AnEvent)) → seen ≡ Some (ConnectionEvent handle e) → events ≡ reserved.events ++ (handle, e) ∷ []
      → Brought new o o (record reserved { events = events })
  to_connection handle e o events is pushed =
      IsBrought.connection handle e written (is_event (Some (ConnectionEvent handle e)) is) refl (rw pushed (ap (λ (b : PlainInbox). record b { events = b.events ++ (handle, e) ∷ [] }) same))

  pub to_attempts : is_closed ≡ false → (i : Incoming) (o : PlainOutlet) (attempts : List Incoming) → seen ≡ Some (NewConnection i) → attempts ≡ reserved.attempts ++ i ∷ []
      → Brought new o o (record reserved { attempts = attempts })
  to_attempts opened i o attempts is pushed =
      IsBrought.attempt opened i written (is_event (Some (NewConnection i)) is) refl (rw pushed (ap (λ (b : PlainInbox). record b { attempts = b.attempts ++ i ∷ [] }) same))

  pub to_refusal : is_closed ≡ true → (i : Incoming) (last : PlainEndpoint K G R T) (was is : PlainOutlet) (after : PlainInbox) → seen ≡ Some (NewConnection i) → IsRefused v never_blocks i new last was is reserved after
      → Brought last was is after
  to_refusal closed i last was is after e refusal =
      IsBrought.refused closed i new written (is_event (Some (NewConnection i)) e) (subst (λ (b : PlainInbox). IsRefused v never_blocks i new last was is b after) same refusal)

  pub to_response : (transmit : Transmit) (was is : PlainOutlet) (after : PlainInbox) → seen ≡ Some (Response transmit) → IsResponse never_blocks transmit written was is reserved after → Brought new was is after
  to_response transmit was is after e response =
      IsBrought.response transmit written (is_event (Some (Response transmit)) e) (subst (λ (b : PlainInbox). IsResponse never_blocks transmit written was is b after) same response)

  pub to_none : (o : PlainOutlet) → seen ≡ None → Brought new o o reserved
  to_none o e = IsBrought.nothing written (is_event None e) refl same
