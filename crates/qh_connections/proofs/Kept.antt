-- What holds of the connections at any time holds after a change of some of the routes, and of what is kept of one connection.
use Rattle.std.proofs.Common.{◌≡◌, ◌≢◌, ℕ, ◌≤◌, Result, Ok, Err, OnOk, OnErr, List, [], ◌∷◌, Option, Some, None, IsSomeAnd, slice_index_or, refl, sym, ap, ◌∙◌, subst, inl, inr}
use Rattle.std.specs.Prelude.{IsOk}
use Rattle.std.proofs.lemmas.Bool.{cases_eq}
use Rattle.qh_connections.specs.Connections.{AreConnections, HasInstead, KeepsMetas, PlainConnections, id_at, meta_at}
use Rattle.qh_routes.specs.ConnectionMeta.{PlainMeta, keys_of_meta}
use Rattle.qh_routes.specs.Routes.{AreSameRoutes, IsAdded, IsRemovedOf, RouteKey, Routes, initial, issued}
use Rattle.qh_routes.specs.declared.connection_handle.ConnectionHandle.{ConnectionHandle}
use Rattle.qh_routes.specs.declared.connection_index.RouteDatagramTo.TheVariants.{Connection, Incoming}
use Rattle.qh_spec.specs.Lists.{In}

abbrev pub IsFoundBy : RouteKey → Option PlainMeta → Type 0
IsFoundBy k slot = IsSomeAnd slot (λ m. In k (keys_of_meta m))

pub same_handle : (a b : ConnectionHandle) → a.0 ≡ b.0 → a ≡ b
same_handle a b e = λ i. record { 0 = e i }

-- targets of different handles
pub other_target : (a b : ConnectionHandle) → a.0 ≢ b.0 → Connection a ≢ Connection b
other_target a b apart e = apart (let same : a ≡ b = cc in ap (λ (h : ConnectionHandle). h.0) same)

-- ---- no connection changes

-- no route to a connection is new, and no id of one has lost its route
pub record AreRoutesKept (old new : Routes) : Type 0 where
  pub back : (k : RouteKey) (h : ConnectionHandle) → In (k, Connection h) new → In (k, Connection h) old
  pub ids : (id : List ℕ) (h : ConnectionHandle) → In (issued id, Connection h) old → In (issued id, Connection h) new

pub same_kept : (old new : Routes) → AreSameRoutes old new → AreRoutesKept old new
same_kept old new same = record { back = λ k h i. same.none_new k (Connection h) i; ids = λ id h i. same.kept (issued id) (Connection h) i }

pub equal_kept : (old new : Routes) → new ≡ old → AreRoutesKept old new
equal_kept old new e = record {
  back = λ k h i. subst (λ (r : Routes). In (k, Connection h) r) e i;
  ids = λ id h i. subst (λ (r : Routes). In (issued id, Connection h) r) (sym e) i;
}

pub added_kept : (id : List ℕ) (n : ℕ) (old new : Routes) → IsAdded (initial id) (Incoming n) old new → AreRoutesKept old new
added_kept id n old new added = record {
  back = λ k h i. elim ((added k (Connection h)).0 i) [ inl same ↦ absurd (let no = same.1 in cc) | inr other ↦ other.1 ];
  ids = λ other h i. (added (issued other) (Connection h)).1 (inr (λ e. cc, i));
}

pub incoming_kept : {A E : Type 0} (r : Result A E) (id : List ℕ) (n : ℕ) (old new : Routes) → OnOk r (id ≢ [] → IsAdded (initial id) (Incoming n) old new) → (id ≡ [] → IsOk r × (new ≡ old)) → OnErr r (new ≡ old) → AreRoutesKept old new
incoming_kept (Ok x) [] n old new added empty unchanged = equal_kept old new (empty refl).1
incoming_kept (Ok x) (b ∷ id) n old new added empty unchanged = added_kept (b ∷ id) n old new (added (λ e. cc))
incoming_kept (Err e) id n old new added empty unchanged = equal_kept old new unchanged

pub removed_kept : (id : List ℕ) (n : ℕ) (old new : Routes) → IsRemovedOf (initial id) (Incoming n) old new → AreRoutesKept old new
removed_kept id n old new removed = record {
  back = λ k h i. ((removed k (Connection h)).0 i).1;
  ids = λ other h i. (removed (issued other) (Connection h)).1 (λ e. let no = e.0 in cc, i);
}

module _ {G : Type 0} (old new : PlainConnections G) (ok : AreConnections old) where
  pub are_kept : KeepsMetas old new → AreRoutesKept old.routes new.routes → AreConnections new
  are_kept metas routes = record {
    by_meta = λ k h i. subst (IsFoundBy k) (sym (metas h)) (ok.by_meta k h (routes.back k h i));
    leads = λ h m n id e f some. routes.ids id h (ok.leads h m n id (sym (metas h) ∙ e) f some);
    below = λ h m n e f. ok.below h m n (sym (metas h) ∙ e) f;
    apart = λ h m n other id e f g some. ok.apart h m n other id (sym (metas h) ∙ e) f g some;
  }

-- ---- one changes

-- what holds of one connection
pub record IsConnection (routes : Routes) (handle : ConnectionHandle) (m : PlainMeta) : Type 0 where
  pub leads : (sequence : ℕ) (id : List ℕ) → id_at m sequence ≡ Some id → id ≢ [] → In (issued id, Connection handle) routes
  pub below : (sequence : ℕ) → m.cids_issued ≤ sequence → id_at m sequence ≡ None
  pub apart : (sequence other : ℕ) (id : List ℕ) → id_at m sequence ≡ Some id → id_at m other ≡ Some id → id ≢ [] → sequence ≡ other

pub one_of : {G : Type 0} (c : PlainConnections G) (handle : ConnectionHandle) (m : PlainMeta) → AreConnections c → meta_at c handle ≡ Some m → IsConnection c.routes handle m
one_of c handle m ok e = record { leads = λ n id. ok.leads handle m n id e; below = λ n. ok.below handle m n e; apart = λ n other id. ok.apart handle m n other id e }

-- no route to another connection is new, and no id of another one has lost its route
pub record AreOthersKept (handle : ConnectionHandle) (old new : Routes) : Type 0 where
  pub back : (k : RouteKey) (h : ConnectionHandle) → h.0 ≢ handle.0 → In (k, Connection h) new → In (k, Connection h) old
  pub ids : (id : List ℕ) (h : ConnectionHandle) → h.0 ≢ handle.0 → In (issued id, Connection h) old → In (issued id, Connection h) new

module _ {G : Type 0} (old new : PlainConnections G) (handle : ConnectionHandle) (slot : Option PlainMeta) (ok : AreConnections old) (put : HasInstead old new handle slot) where
  slot_at : (h : ConnectionHandle) → h.0 ≡ handle.0 → meta_at new h ≡ slot
  slot_at h e = ap (λ (n : ℕ). slice_index_or new.metas n None) e ∙ put.there

  pub are_changed : AreOthersKept handle old.routes new.routes → ((k : RouteKey) → In (k, Connection handle) new.routes → IsFoundBy k slot) → ((m : PlainMeta) → slot ≡ Some m → IsConnection new.routes handle m)
      → AreConnections new
  are_changed others own one = record {
    by_meta = λ k h i. elim (cases_eq h.0 handle.0) [
      | inl e ↦ subst (IsFoundBy k) (sym (slot_at h e)) (own k (subst (λ (x : ConnectionHandle). In (k, Connection x) new.routes) (same_handle h handle e) i))
      | inr n ↦ subst (IsFoundBy k) (sym (put.others h n)) (ok.by_meta k h (others.back k h n i))
    ];
    leads = λ h m n id e f some. elim (cases_eq h.0 handle.0) [
      | inl s ↦ subst (λ (x : ConnectionHandle). In (issued id, Connection x) new.routes) (sym (same_handle h handle s)) ((one m (sym (slot_at h s) ∙ e)).leads n id f some)
      | inr a ↦ others.ids id h a (ok.leads h m n id (sym (put.others h a) ∙ e) f some)
    ];
    below = λ h m n e f. elim (cases_eq h.0 handle.0) [ inl s ↦ (one m (sym (slot_at h s) ∙ e)).below n f | inr a ↦ ok.below h m n (sym (put.others h a) ∙ e) f ];
    apart = λ h m n other id e f g some. elim (cases_eq h.0 handle.0) [
      | inl s ↦ (one m (sym (slot_at h s) ∙ e)).apart n other id f g some
      | inr a ↦ ok.apart h m n other id (sym (put.others h a) ∙ e) f g some
    ];
  }

-- one that is kept, and not forgotten
pub some_one : (m : PlainMeta) (P : PlainMeta → Type 0) → P m → (other : PlainMeta) → ◌≡◌ {A = Option PlainMeta} (Some m) (Some other) → P other
some_one m P p other e = let same : m ≡ other = cc in subst P same p
