-- A connection's reset token takes the place of its earlier one.
use Rattle.std.proofs.Common.{◌≡◌, ◌≢◌, ◌⊎◌, ◌↔◌, ℕ, List, Option, Some, None, refl, sym, ◌∙◌, subst, inl, inr}
use Rattle.std.specs.declared.net.socket_addr.SocketAddr.{SocketAddr}
use Rattle.qh_base.specs.declared.shared.ResetToken.{ResetToken}
use Rattle.qh_connections.specs.Connections.{AreConnections, HasInstead, IsTokenReplaced, PlainConnections, again, first, later, meta_at}
use Rattle.qh_routes.specs.ConnectionMeta.{PlainMeta, keys_of_meta, token_keys}
use Rattle.qh_routes.specs.Routes.{IsAdded, IsRemovedOf, RouteKey, Routes, issued, reset}
use Rattle.qh_routes.specs.declared.connection_handle.ConnectionHandle.{ConnectionHandle}
use Rattle.qh_routes.specs.declared.connection_index.RouteDatagramTo.{RouteDatagramTo}
use Rattle.qh_routes.specs.declared.connection_index.RouteDatagramTo.TheVariants.{Connection}
use Rattle.qh_spec.specs.Lists.{In}
use Rattle.qh_connections.proofs.Kept.{IsConnection, are_changed, one_of, other_target, some_one}
use Rattle.qh_connections.proofs.Tracked.{led}

module _ (remote : SocketAddr) (token : ResetToken) (handle : ConnectionHandle) (old new : Routes) where
  abbrev key : RouteKey
  key = reset remote token.0

  added_back : (mid : Routes) → IsAdded key (Connection handle) old mid → (k : RouteKey) (t : RouteDatagramTo) → In (k, t) mid → ((k ≡ key) × (t ≡ Connection handle)) ⊎ In (k, t) old
  added_back mid added k t i = elim ((added k t).0 i) [ inl s ↦ inl s | inr o ↦ inr o.1 ]

  replaced_back : {earlier : Option (SocketAddr × ResetToken)} → IsTokenReplaced remote token handle old new earlier → (k : RouteKey) (t : RouteDatagramTo) → In (k, t) new → ((k ≡ key) × (t ≡ Connection handle)) ⊎ In (k, t) old
  replaced_back (first added) k t i = added_back new added k t i
  replaced_back (again earlier same added) k t i = added_back new added k t i
  replaced_back (later earlier mid apart added removed) k t i = added_back mid added k t ((removed k t).0 i).1

  replaced_ids : {earlier : Option (SocketAddr × ResetToken)} → IsTokenReplaced remote token handle old new earlier → (x : List ℕ) (t : RouteDatagramTo) → In (issued x, t) old → In (issued x, t) new
  replaced_ids (first added) x t i = (added (issued x) t).1 (inr (λ e. cc, i))
  replaced_ids (again earlier same added) x t i = (added (issued x) t).1 (inr (λ e. cc, i))
  replaced_ids (later earlier mid apart added removed) x t i = (removed (issued x) t).1 (λ e. let no = e.0 in cc, (added (issued x) t).1 (inr (λ e. cc, i)))

  -- the earlier one leads to it only where it is the one that it has now
  replaced_gone : {earlier : Option (SocketAddr × ResetToken)} → IsTokenReplaced remote token handle old new earlier → (k : RouteKey) → In k (token_keys earlier) → In (k, Connection handle) new → k ≡ key
  replaced_gone (first added) k h i = absurd h
  replaced_gone (again earlier same added) k h i = elim h [ inl e ↦ sym e ∙ same | inr n ↦ absurd n ]
  replaced_gone (later earlier mid apart added removed) k h i = elim h [ inl e ↦ absurd (((removed k (Connection handle)).0 i).0 (sym e, refl)) | inr n ↦ absurd n ]

abbrev pub with_token : PlainMeta → Option (SocketAddr × ResetToken) → PlainMeta
with_token m token = record m { reset_token = token }

pub are_replaced : {G : Type 0} (old new : PlainConnections G) (handle : ConnectionHandle) (m : PlainMeta) (remote : SocketAddr) (token : ResetToken) → AreConnections old → meta_at old handle ≡ Some m
    → HasInstead old new handle (Some (with_token m (Some (remote, token)))) → IsTokenReplaced remote token handle old.routes new.routes m.reset_token
    → ((t : Option (SocketAddr × ResetToken)) (k : RouteKey) → In k (keys_of_meta (with_token m t)) ↔ (In k (token_keys t) ⊎ In k (keys_of_meta (with_token m None)))) → AreConnections new
are_replaced old new handle m remote token ok there put replaced keys =
    let now : Option (SocketAddr × ResetToken) = Some (remote, token) in
    let one = one_of old handle m ok there in
    let ids = replaced_ids remote token handle old.routes new.routes replaced in
    are_changed old new handle (Some (with_token m now)) ok put
    (record {
      back = λ k h a i. elim (replaced_back remote token handle old.routes new.routes replaced k (Connection h) i) [ inl s ↦ absurd (other_target h handle a s.1) | inr o ↦ o ];
      ids = λ x h a i. ids x (Connection h) i;
    })
    (λ k i. elim (replaced_back remote token handle old.routes new.routes replaced k (Connection handle) i) [
      | inl s ↦ (keys now k).1 (inl (inl (sym s.0)))
      | inr o ↦ elim ((keys m.reset_token k).0 (led old handle m ok there k o)) [
        | inl t ↦ (keys now k).1 (inl (inl (sym (replaced_gone remote token handle old.routes new.routes replaced k t i))))
        | inr x ↦ (keys now k).1 (inr x)
      ]
    ])
    (some_one (with_token m now) (IsConnection new.routes handle) (record { leads = λ n x f some. ids x (Connection handle) (one.leads n x f some); below = one.below; apart = one.apart }))

module _ (remote : SocketAddr) (token : ResetToken) (handle : ConnectionHandle) (old new : Routes) where
  -- the earlier token is told by an equation
  pub replaced_none : (earlier : Option (SocketAddr × ResetToken)) → earlier ≡ None → IsAdded (reset remote token.0) (Connection handle) old new → IsTokenReplaced remote token handle old new earlier
  replaced_none earlier e added = subst (IsTokenReplaced remote token handle old new) (sym e) (first added)

  pub replaced_again : (earlier : Option (SocketAddr × ResetToken)) (from : SocketAddr) (before : ResetToken) → earlier ≡ Some (from, before) → reset from before.0 ≡ reset remote token.0
      → IsAdded (reset remote token.0) (Connection handle) old new → IsTokenReplaced remote token handle old new earlier
  replaced_again earlier from before e same added = subst (IsTokenReplaced remote token handle old new) (sym e) (again (from, before) same added)

  pub replaced_later : (earlier : Option (SocketAddr × ResetToken)) (from : SocketAddr) (before : ResetToken) (mid : Routes) → earlier ≡ Some (from, before) → reset from before.0 ≢ reset remote token.0
      → IsAdded (reset remote token.0) (Connection handle) old mid → IsRemovedOf (reset from before.0) (Connection handle) mid new → IsTokenReplaced remote token handle old new earlier
  replaced_later earlier from before mid e apart added removed = subst (IsTokenReplaced remote token handle old new) (sym e) (later (from, before) mid apart added removed)

  pub replaced_as : (m other : PlainMeta) → m ≡ other → IsTokenReplaced remote token handle old new m.reset_token → IsTokenReplaced remote token handle old new other.reset_token
  replaced_as m other same r = subst (λ (p : PlainMeta). IsTokenReplaced remote token handle old new p.reset_token) same r
