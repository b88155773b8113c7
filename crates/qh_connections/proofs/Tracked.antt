-- An id gets a route to its connection, and a connection begins with its first id.
use Rattle.std.proofs.Common.{◌≡◌, ◌≢◌, ◌⊎◌, ◌↔◌, ℕ, ◌+◌, ◌-◌, ◌<◌, ◌^◌, min, true, false, Result, Ok, Err, OnOk, OnErr, List, [], ◌∷◌, ◌++◌, Some, None, refl, sym, ap, ◌∙◌, subst, arith, inl, inr}
use Rattle.std.specs.Prelude.{is_err}
use Rattle.std.specs.BTreeMap.{insert_entry}
use Rattle.std.specs.Ordering.{nat_cmp}
use Rattle.std.proofs.lemmas.Bool.{cases_eq}
use Rattle.qh_base.specs.declared.path.FourTuple.{FourTuple}
use Rattle.qh_connections.specs.Connections.{AreConnections, HasInstead, IsTracked, PlainConnections, first_meta, id_at, meta_at, with_id}
use Rattle.qh_connections.specs.Ids.{IsIssued}
use Rattle.qh_routes.specs.ConnectionMeta.{PlainMeta, initial_keys, issued_keys, keys_of_meta, token_keys}
use Rattle.qh_routes.specs.Routes.{AreSameRoutes, IsAdded, IsFirstAdded, IsRemovedOf, RouteKey, Routes, address_keys, conn_key, issued}
use Rattle.qh_routes.specs.declared.connection_handle.ConnectionHandle.{ConnectionHandle}
use Rattle.qh_routes.specs.declared.connection_index.RouteDatagramTo.{RouteDatagramTo}
use Rattle.qh_routes.specs.declared.connection_index.RouteDatagramTo.TheVariants.{Connection}
use Rattle.qh_spec.specs.Lists.{In}
use Rattle.qh_spec.specs.declared.sides.Side.{Side}
use Rattle.qh_spec.specs.declared.sides.Side.TheVariants.{Client, Server}
use Rattle.qh_spec.proofs.Members.{in_left, in_right}
use Rattle.qh_connections.proofs.Kept.{IsConnection, IsFoundBy, are_changed, one_of, other_target, some_one}
use Rattle.qh_connections.proofs.Sequences.{at, put_other, put_there}

abbrev IsFresh : Routes → List ℕ → Type 0
IsFresh routes id = IsIssued routes id → ⊥

at_key : (k l : RouteKey) (t : RouteDatagramTo) (routes : Routes) → k ≡ l → In (k, t) routes → In (l, t) routes
at_key k l t routes e i = subst (λ (x : RouteKey). In (x, t) routes) e i

pub tracked : (id : List ℕ) (handle : ConnectionHandle) (old new : Routes) → (id ≢ [] → IsAdded (issued id) (Connection handle) old new) → (id ≡ [] → new ≡ old) → IsTracked id handle old new
tracked [] handle old new added empty = empty refl
tracked (b ∷ id) handle old new added empty = added (λ e. cc)

tracked_back : (id : List ℕ) (handle : ConnectionHandle) (old new : Routes) → IsTracked id handle old new → (k : RouteKey) (t : RouteDatagramTo) → In (k, t) new
    → ((k ≡ issued id) × (t ≡ Connection handle)) ⊎ In (k, t) old
tracked_back [] handle old new same k t i = inr (subst (λ (r : Routes). In (k, t) r) same i)
tracked_back (b ∷ id) handle old new added k t i = elim ((added k t).0 i) [ inl s ↦ inl s | inr o ↦ inr o.1 ]

tracked_kept : (id : List ℕ) (handle : ConnectionHandle) (old new : Routes) → IsTracked id handle old new → IsFresh old id → (k : RouteKey) (t : RouteDatagramTo) → In (k, t) old → In (k, t) new
tracked_kept [] handle old new same fresh k t i = subst (λ (r : Routes). In (k, t) r) (sym same) i
tracked_kept (b ∷ id) handle old new added fresh k t i = (added k t).1 (inr (λ e. fresh (t, at_key k (issued (b ∷ id)) t old e i), i))

tracked_own : (id : List ℕ) (handle : ConnectionHandle) (old new : Routes) → IsTracked id handle old new → id ≢ [] → In (issued id, Connection handle) new
tracked_own [] handle old new same some = absurd (some refl)
tracked_own (b ∷ id) handle old new added some = (added (issued (b ∷ id)) (Connection handle)).1 (inl (refl, refl))

-- the route is taken back
pub untracked : (id : List ℕ) (handle : ConnectionHandle) (u v w : Routes) → IsFresh u id → IsTracked id handle u v → IsRemovedOf (issued id) (Connection handle) v w → AreSameRoutes u w
untracked id handle u v w fresh t removed = record {
  kept = λ k x i. (removed k x).1 (λ e. fresh (x, at_key k (issued id) x u e.0 i), tracked_kept id handle u v t fresh k x i);
  none_new = λ k x i.
      let r = (removed k x).0 i in
      elim (tracked_back id handle u v t k x r.1) [ inl s ↦ absurd (r.0 s) | inr o ↦ o ];
}

-- ---- what holds of a connection that gets an id

module _ (old new : Routes) (handle : ConnectionHandle) (m : PlainMeta) (id : List ℕ) (one : IsConnection old handle m) (fresh : IsFresh old id) where
  put_id_there : (n : ℕ) (x : List ℕ) → n ≡ m.cids_issued → id_at (with_id m id) n ≡ Some x → id ≡ x
  put_id_there n x e f =
      let now : Some id ≡ Some x = sym (put_there m.cids_issued id m.loc_cids) ∙ ap (at (insert_entry nat_cmp m.loc_cids m.cids_issued id)) (sym e) ∙ f in
      cc

  put_id_other : (n : ℕ) (x : List ℕ) → n ≢ m.cids_issued → id_at (with_id m id) n ≡ Some x → id_at m n ≡ Some x
  put_id_other n x apart f = sym (put_other n m.cids_issued id m.loc_cids apart) ∙ f

  -- it had the id under no sequence
  not_both : (n other : ℕ) (x : List ℕ) → n ≡ m.cids_issued → other ≢ m.cids_issued → id_at (with_id m id) n ≡ Some x → id_at (with_id m id) other ≡ Some x → x ≢ [] → ⊥
  not_both n other x e apart f g some =
      fresh (Connection handle, subst (λ (y : List ℕ). In (issued y, Connection handle) old) (sym (put_id_there n x e f)) (one.leads other x (put_id_other other x apart g) some))

  pub one_put : ((x : List ℕ) → In (issued x, Connection handle) old → In (issued x, Connection handle) new) → (id ≢ [] → In (issued id, Connection handle) new) → IsConnection new handle (with_id m id)
  one_put kept own = record {
    leads = λ n x f some. elim (cases_eq n m.cids_issued) [
      | inl e ↦ let same = put_id_there n x e f in subst (λ (y : List ℕ). In (issued y, Connection handle) new) same (own (λ z. some (sym same ∙ z)))
      | inr a ↦ kept x (one.leads n x (put_id_other n x a f) some)
    ];
    below = λ n above. put_other n m.cids_issued id m.loc_cids (λ e. absurd (omega (arith, e, above))) ∙ one.below n (omega (arith, above));
    apart = λ n other x f g some. elim (cases_eq n m.cids_issued) [
      | inl e ↦ elim (cases_eq other m.cids_issued) [ inl d ↦ e ∙ sym d | inr b ↦ absurd (not_both n other x e b f g some) ]
      | inr a ↦ elim (cases_eq other m.cids_issued) [ inl d ↦ absurd (not_both other n x d a g f some) | inr b ↦ one.apart n other x (put_id_other n x a f) (put_id_other other x b g) some ]
    ];
  }

-- what `put_id` makes of it
pub put_meta : (m real : PlainMeta) (sequence : ℕ) (id : List ℕ) → sequence ≡ m.cids_issued → m.cids_issued < 2 ^ 64 - 1
    → real ≡ record m { cids_issued = min (m.cids_issued + 1) (2 ^ 64 - 1); loc_cids = insert_entry nat_cmp m.loc_cids sequence id } → real ≡ with_id m id
put_meta m real sequence id at room is =
    let count : min (m.cids_issued + 1) (2 ^ 64 - 1) ≡ m.cids_issued + 1 = omega arith in
    is ∙ ap (λ (n : ℕ). record m { cids_issued = n; loc_cids = insert_entry nat_cmp m.loc_cids sequence id }) count ∙ ap (λ (n : ℕ). record m { cids_issued = m.cids_issued + 1; loc_cids = insert_entry nat_cmp m.loc_cids n id }) at

pub was_ok : {A E P : Type 0} (r : Result A E) → is_err r ≡ false → OnOk r P → P
was_ok (Ok x) e p = p
was_ok (Err x) e p = cc

pub was_err : {A E P : Type 0} (r : Result A E) → is_err r ≡ true → OnErr r P → P
was_err (Ok x) e p = cc
was_err (Err x) e p = p

-- a route to a connection is by what is kept of it
pub led : {G : Type 0} (c : PlainConnections G) (handle : ConnectionHandle) (m : PlainMeta) → AreConnections c → meta_at c handle ≡ Some m → (k : RouteKey) → In (k, Connection handle) c.routes → In k (keys_of_meta m)
led c handle m ok there k i = subst (IsFoundBy k) there (ok.by_meta k handle i)

pub are_issued : {G : Type 0} (old new : PlainConnections G) (handle : ConnectionHandle) (m : PlainMeta) (id : List ℕ) → AreConnections old → meta_at old handle ≡ Some m → IsFresh old.routes id
    → HasInstead old new handle (Some (with_id m id)) → IsTracked id handle old.routes new.routes → ((k : RouteKey) → In k (keys_of_meta (with_id m id)) ↔ ((k ≡ issued id) ⊎ In k (keys_of_meta m))) → AreConnections new
are_issued old new handle m id ok there fresh put t keys =
    let kept = tracked_kept id handle old.routes new.routes t fresh in
    are_changed old new handle (Some (with_id m id)) ok put
    (record {
      back = λ k h a i. elim (tracked_back id handle old.routes new.routes t k (Connection h) i) [ inl s ↦ absurd (other_target h handle a s.1) | inr o ↦ o ];
      ids = λ x h a i. kept (issued x) (Connection h) i;
    })
    (λ k i. elim (tracked_back id handle old.routes new.routes t k (Connection handle) i) [ inl s ↦ (keys k).1 (inl s.0) | inr o ↦ (keys k).1 (inr (led old handle m ok there k o)) ])
    (some_one (with_id m id) (IsConnection new.routes handle)
    (one_put old.routes new.routes handle m id (one_of old handle m ok there) fresh (λ x i. kept (issued x) (Connection handle) i) (tracked_own id handle old.routes new.routes t)))

-- ---- a connection begins

first_back : (side : Side) (init_cid : List ℕ) (handle : ConnectionHandle) (old new : Routes) → IsFirstAdded side init_cid (Connection handle) old new → (k : RouteKey) (t : RouteDatagramTo) → In (k, t) new
    → (In k (initial_keys side init_cid) × (t ≡ Connection handle)) ⊎ In (k, t) old
first_back Client init_cid handle old new same k t i = inr (subst (λ (r : Routes). In (k, t) r) same i)
first_back Server [] handle old new same k t i = inr (subst (λ (r : Routes). In (k, t) r) same i)
first_back Server (b ∷ id) handle old new added k t i = elim ((added k t).0 i) [ inl s ↦ inl (inl (sym s.0), s.1) | inr o ↦ inr o.1 ]

first_kept : (side : Side) (init_cid : List ℕ) (handle : ConnectionHandle) (old new : Routes) → IsFirstAdded side init_cid (Connection handle) old new → (x : List ℕ) (t : RouteDatagramTo) → In (issued x, t) old → In (issued x, t) new
first_kept Client init_cid handle old new same x t i = subst (λ (r : Routes). In (issued x, t) r) (sym same) i
first_kept Server [] handle old new same x t i = subst (λ (r : Routes). In (issued x, t) r) (sym same) i
first_kept Server (b ∷ id) handle old new added x t i = (added (issued x) t).1 (inr (λ e. cc, i))

module _ (addresses : FourTuple) where
  conn_issued : (id : List ℕ) (side : Side) (x : List ℕ) → issued x ≡ conn_key addresses id side → x ≡ id
  conn_issued [] Server x e = cc
  conn_issued [] Client x e = cc
  conn_issued (b ∷ id) side x e = cc

  conn_own : (id : List ℕ) (side : Side) → id ≢ [] → issued id ≡ conn_key addresses id side
  conn_own [] side some = absurd (some refl)
  conn_own (b ∷ id) side some = refl

  conn_found : (id : List ℕ) (side : Side) → In (conn_key addresses id side) (issued_keys (id ∷ []) ++ (address_keys addresses ++ token_keys None))
  conn_found [] Server = inr (inl refl)
  conn_found [] Client = inr (inr (inl refl))
  conn_found (b ∷ id) side = inl refl

abbrev none_yet : Side → (init_cid : List ℕ) → FourTuple → PlainMeta
none_yet side init_cid addresses = record { init_cid = init_cid; cids_issued = 0; loc_cids = []; addresses = addresses; side = side; reset_token = None }

none_issued : (routes : Routes) (handle : ConnectionHandle) (side : Side) (init_cid : List ℕ) (addresses : FourTuple) → IsConnection routes handle (none_yet side init_cid addresses)
none_issued routes handle side init_cid addresses = record { leads = λ n x f some. cc; below = λ n above. refl; apart = λ n other x f g some. cc }

module _ {G : Type 0} (old new : PlainConnections G) (handle : ConnectionHandle) (side : Side) (init_cid local_id : List ℕ) (addresses : FourTuple) (ok : AreConnections old) (free : meta_at old handle ≡ None) (fresh : IsFresh old.routes local_id)
    (between : Routes) (first : IsFirstAdded side init_cid (Connection handle) old.routes between) (added : IsAdded (conn_key addresses local_id side) (Connection handle) between new.routes) where
  ids_kept : (x : List ℕ) (t : RouteDatagramTo) → In (issued x, t) old.routes → In (issued x, t) new.routes
  ids_kept x t i = (added (issued x) t).1 (inr (
    λ e. fresh (t, at_key (issued x) (issued local_id) t old.routes (ap issued (conn_issued addresses local_id side x e)) i),
    first_kept side init_cid handle old.routes between first x t i,
  ))

  found_own : (k : RouteKey) → In (k, Connection handle) new.routes → In k (keys_of_meta (first_meta side init_cid local_id addresses))
  found_own k i =
      let rest = issued_keys (local_id ∷ []) ++ (address_keys addresses ++ token_keys None) in
      elim ((added k (Connection handle)).0 i) [
        | inl s ↦ subst (λ (x : RouteKey). In x (initial_keys side init_cid ++ rest)) (sym s.0) (in_right (conn_key addresses local_id side) (initial_keys side init_cid) rest (conn_found addresses local_id side))
        | inr o ↦ elim (first_back side init_cid handle old.routes between first k (Connection handle) o.1) [
          | inl s ↦ in_left k (initial_keys side init_cid) rest s.0
          | inr x ↦ absurd (subst (IsFoundBy k) free (ok.by_meta k handle x))
        ]
      ]

  other_back : (k : RouteKey) (h : ConnectionHandle) → h.0 ≢ handle.0 → In (k, Connection h) new.routes → In (k, Connection h) old.routes
  other_back k h a i = elim ((added k (Connection h)).0 i) [
    | inl s ↦ absurd (other_target h handle a s.1)
    | inr o ↦ elim (first_back side init_cid handle old.routes between first k (Connection h) o.1) [ inl s ↦ absurd (other_target h handle a s.1) | inr x ↦ x ]
  ]

  own_led : local_id ≢ [] → In (issued local_id, Connection handle) new.routes
  own_led some = (added (issued local_id) (Connection handle)).1 (inl (conn_own addresses local_id side some, refl))

  pub are_added : HasInstead old new handle (Some (first_meta side init_cid local_id addresses)) → AreConnections new
  are_added put = are_changed old new handle (Some (first_meta side init_cid local_id addresses)) ok put
      (record { back = other_back; ids = λ x h a i. ids_kept x (Connection h) i })
      found_own
      (some_one (first_meta side init_cid local_id addresses) (IsConnection new.routes handle)
      (one_put old.routes new.routes handle (none_yet side init_cid addresses) local_id (none_issued old.routes handle side init_cid addresses) fresh (λ x i. ids_kept x (Connection handle) i) own_led))
