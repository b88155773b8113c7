-- An id is taken from a connection, and a connection is forgotten.
use Rattle.std.proofs.Common.{◌≡◌, ◌≢◌, ◌⊎◌, ◌↔◌, ℕ, ◌+◌, ◌-◌, ◌≤◌, arith, List, Option, Some, None, refl, sym, ap, ◌∙◌, subst, inl, inr}
use Rattle.std.specs.BTreeMap.{insert_entry}
use Rattle.std.specs.List.Sorted.{IsStrictlySortedBy}
use Rattle.std.specs.Map.{keys_of}
use Rattle.std.specs.Ordering.{nat_cmp}
use Rattle.std.proofs.lemmas.Bool.{cases_eq}
use Rattle.qh_connections.specs.Connections.{AreConnections, HasInstead, IsConnectionRemoved, PlainConnections, id_at, meta_at, with_id}
use Rattle.qh_routes.specs.ConnectionMeta.{PlainMeta, keys_of_meta}
use Rattle.qh_routes.specs.Routes.{AreRemovedOf, IsRemovedOf, RouteKey, Routes, issued}
use Rattle.qh_routes.specs.declared.connection_handle.ConnectionHandle.{ConnectionHandle}
use Rattle.qh_routes.specs.declared.connection_index.RouteDatagramTo.TheVariants.{Connection}
use Rattle.qh_spec.specs.Lists.{In}
use Rattle.qh_connections.proofs.Kept.{AreOthersKept, IsConnection, are_changed, one_of, other_target, some_one}
use Rattle.qh_connections.proofs.Sequences.{Ids, at, put_there, taken_none, taken_other, taken_there, without}
use Rattle.qh_connections.proofs.Tracked.{led}

-- fewer ids were issued, and one isn't its any more
abbrev pub less : PlainMeta → (count sequence : ℕ) → PlainMeta
less m count sequence = record m { cids_issued = count; loc_cids = without m.loc_cids sequence }

-- each sequence that was given, but this one, is below the count
abbrev pub IsCount : PlainMeta → (count sequence : ℕ) → Type 0
IsCount m count sequence = (n : ℕ) → count ≤ n → n ≢ sequence → m.cids_issued ≤ n

module _ (m : PlainMeta) (count sequence : ℕ) (counted : IsCount m count sequence) where
  module _ (old new : Routes) (handle : ConnectionHandle) (id : List ℕ) (one : IsConnection old handle m) (had : id_at m sequence ≡ Some id) (sorted : IsStrictlySortedBy nat_cmp (keys_of m.loc_cids))
      (removed : IsRemovedOf (issued id) (Connection handle) old new) where
    gone : (n : ℕ) → n ≡ sequence → id_at (less m count sequence) n ≡ None
    gone n e = ap (at (without m.loc_cids sequence)) e ∙ taken_there sequence m.loc_cids sorted

    not_gone : (n : ℕ) (x : List ℕ) → n ≡ sequence → id_at (less m count sequence) n ≡ Some x → ⊥
    not_gone n x e f = let no : ◌≡◌ {A = Option (List ℕ)} None (Some x) = sym (gone n e) ∙ f in cc

    was : (n : ℕ) (x : List ℕ) → n ≢ sequence → id_at (less m count sequence) n ≡ Some x → id_at m n ≡ Some x
    was n x a f = sym (taken_other n sequence m.loc_cids a) ∙ f

    one_taken : IsConnection new handle (less m count sequence)
    one_taken = record {
      leads = λ n x f some. elim (cases_eq n sequence) [
        | inl e ↦ absurd (not_gone n x e f)
        | inr a ↦ (removed (issued x) (Connection handle)).1 (
          λ e. a (let same : x ≡ id = (let k = e.0 in cc) in one.apart n sequence x (was n x a f) (had ∙ ap (λ (y : List ℕ). Some y) (sym same)) some),
          one.leads n x (was n x a f) some,
        )
      ];
      below = λ n above. elim (cases_eq n sequence) [ inl e ↦ gone n e | inr a ↦ taken_other n sequence m.loc_cids a ∙ one.below n (counted n above a) ];
      apart = λ n other x f g some. elim (cases_eq n sequence) [
        | inl e ↦ absurd (not_gone n x e f)
        | inr a ↦ elim (cases_eq other sequence) [ inl e ↦ absurd (not_gone other x e g) | inr b ↦ one.apart n other x (was n x a f) (was other x b g) some ]
      ];
    }

  one_left : (routes : Routes) (handle : ConnectionHandle) → IsConnection routes handle m → id_at m sequence ≡ None → IsConnection routes handle (less m count sequence)
  one_left routes handle one none =
      let same : without m.loc_cids sequence ≡ m.loc_cids = taken_none sequence m.loc_cids none in
      record {
        leads = λ n x f some. one.leads n x (ap (λ (es : Ids). at es n) (sym same) ∙ f) some;
        below = λ n above. ap (λ (es : Ids). at es n) same ∙ elim (cases_eq n sequence) [ inl e ↦ ap (at m.loc_cids) e ∙ none | inr a ↦ one.below n (counted n above a) ];
        apart = λ n other x f g some. one.apart n other x (ap (λ (es : Ids). at es n) (sym same) ∙ f) (ap (λ (es : Ids). at es other) (sym same) ∙ g) some;
      }

removed_others : (key : RouteKey) (handle : ConnectionHandle) (old new : Routes) → IsRemovedOf key (Connection handle) old new → AreOthersKept handle old new
removed_others key handle old new removed = record {
  back = λ k h a i. ((removed k (Connection h)).0 i).1;
  ids = λ x h a i. (removed (issued x) (Connection h)).1 (λ e. other_target h handle a e.1, i);
}

module _ {G : Type 0} (old new : PlainConnections G) (handle : ConnectionHandle) (m : PlainMeta) (count sequence : ℕ) (ok : AreConnections old) (there : meta_at old handle ≡ Some m) (counted : IsCount m count sequence)
    (put : HasInstead old new handle (Some (less m count sequence))) where
  -- the id with the sequence, and its route
  pub are_taken : (id : List ℕ) → id_at m sequence ≡ Some id → IsStrictlySortedBy nat_cmp (keys_of m.loc_cids) → IsRemovedOf (issued id) (Connection handle) old.routes new.routes
      → ((k : RouteKey) → In k (keys_of_meta m) ↔ ((k ≡ issued id) ⊎ In k (keys_of_meta (less m count sequence)))) → AreConnections new
  are_taken id had sorted removed keys =
      are_changed old new handle (Some (less m count sequence)) ok put (removed_others (issued id) handle old.routes new.routes removed)
      (λ k i.
      let r = (removed k (Connection handle)).0 i in
      elim ((keys k).0 (led old handle m ok there k r.1)) [ inl e ↦ absurd (r.0 (e, refl)) | inr o ↦ o ])
      (some_one (less m count sequence) (IsConnection new.routes handle) (one_taken m count sequence counted old.routes new.routes handle id (one_of old handle m ok there) had sorted removed))

  -- there was none
  pub are_left : id_at m sequence ≡ None → new.routes ≡ old.routes → AreConnections new
  are_left none same =
      are_changed old new handle (Some (less m count sequence)) ok put
      (record { back = λ k h a i. subst (λ (r : Routes). In (k, Connection h) r) same i; ids = λ x h a i. subst (λ (r : Routes). In (issued x, Connection h) r) (sym same) i })
      (λ k i. subst (λ (es : Ids). In k (keys_of_meta (record m { loc_cids = es }))) (sym (taken_none sequence m.loc_cids none)) (led old handle m ok there k (subst (λ (r : Routes). In (k, Connection handle) r) same i)))
      (some_one (less m count sequence) (IsConnection new.routes handle)
      (subst (λ (r : Routes). IsConnection r handle (less m count sequence)) (sym same) (one_left m count sequence counted old.routes handle (one_of old handle m ok there) none)))

-- ---- a connection is forgotten

pub are_removed : {G : Type 0} (old new : PlainConnections G) (handle : ConnectionHandle) (keys : List RouteKey) → AreConnections old → HasInstead old new handle None → AreRemovedOf keys (Connection handle) old.routes new.routes
    → ((k : RouteKey) → In (k, Connection handle) new.routes → ⊥) → AreConnections new
are_removed old new handle keys ok put removed unreached =
    are_changed old new handle None ok put
    (record {
      back = λ k h a i. ((removed k (Connection h)).0 i).1;
      ids = λ x h a i. (removed (issued x) (Connection h)).1 (λ e. other_target h handle a e.1, i);
    })
    (λ k i. absurd (unreached k i))
    (λ m e. cc)

pub forgotten : {G : Type 0} (old new : PlainConnections G) (handle : ConnectionHandle) (m other : PlainMeta) → m ≡ other → HasInstead old new handle None → AreRemovedOf (keys_of_meta m) (Connection handle) old.routes new.routes
    → ((k : RouteKey) → In (k, Connection handle) new.routes → ⊥) → IsConnectionRemoved old new handle other
forgotten old new handle m other same put removed unreached =
    record { meta = put; routes = subst (λ (p : PlainMeta). AreRemovedOf (keys_of_meta p) (Connection handle) old.routes new.routes) same removed; unreached = unreached }

-- ---- an id is taken back

pub less_same : (m real : PlainMeta) (sequence : ℕ) → id_at m sequence ≡ None → real ≡ less m m.cids_issued sequence → real ≡ m
less_same m real sequence none is = is ∙ ap (λ (es : Ids). record m { loc_cids = es }) (taken_none sequence m.loc_cids none)

pub less_back : (was m real : PlainMeta) (id : List ℕ) → was ≡ with_id m id → without (insert_entry nat_cmp m.loc_cids m.cids_issued id) m.cids_issued ≡ m.loc_cids → real ≡ less was (was.cids_issued - 1) (was.cids_issued - 1)
    → real ≡ m
less_back was m real id same back is =
    let count : m.cids_issued + 1 - 1 ≡ m.cids_issued = omega arith in
    is
    ∙ ap (λ (p : PlainMeta). less p (p.cids_issued - 1) (p.cids_issued - 1)) same
    ∙ ap (λ (n : ℕ). less (with_id m id) n n) count
    ∙ ap (λ (es : Ids). record m { loc_cids = es }) back

-- it has its last id
pub last_id : (was m : PlainMeta) (id : List ℕ) → was ≡ with_id m id → id_at was (was.cids_issued - 1) ≡ Some id
last_id was m id same =
    let count : m.cids_issued + 1 - 1 ≡ m.cids_issued = omega arith in
    ap (λ (p : PlainMeta). id_at p (p.cids_issued - 1)) same ∙ ap (id_at (with_id m id)) count ∙ put_there m.cids_issued id m.loc_cids

-- two readings of its last id
pub same_last : (was m : PlainMeta) (o p : Option (List ℕ)) → was ≡ m → o ≡ id_at was (was.cids_issued - 1) → id_at m (m.cids_issued - 1) ≡ p → o ≡ p
same_last was m o p same taken e = taken ∙ ap (λ (q : PlainMeta). id_at q (q.cids_issued - 1)) same ∙ e
