-- Where the five maps stand among all routes.
use Rattle.std.proofs.Common.{◌≡◌, ◌≢◌, ◌↔◌, Bool, cond, List, [], ◌∷◌, ◌++◌, Option, Some, None, IsTrue, is_some, refl, sym, ◌∙◌, subst, inl, inr}
use Rattle.std.specs.Option.{option_map}
use Rattle.std.specs.List.{IsDistinct}
use Rattle.std.specs.List.Sorted.{IsStrictlySortedBy}
use Rattle.std.specs.Map.{keys_of, lookup}
use Rattle.std.specs.Ordering.{eq_by_cmp}
use Rattle.std.proofs.lemmas.Map.Keys.{IsDistinct-from_sorted}
use Rattle.qh_spec.specs.Lists.{In, Distinct}
use Rattle.qh_routes.specs.declared.connection_handle.ConnectionHandle.{ConnectionHandle}
use Rattle.qh_routes.specs.declared.connection_index.ConnectionIndex.TheInside.{Inside}
use Rattle.qh_routes.specs.declared.connection_index.RouteDatagramTo.{RouteDatagramTo}
use Rattle.qh_routes.specs.declared.connection_index.RouteDatagramTo.TheVariants.{Connection}
use Rattle.qh_routes.specs.Index.{AreMaps, Loses, Maps, id_cmp, id_eq, itself, pair_key, part, path_cmp, reset_cmp, reset_key, routes_of, socket_cmp}
use Rattle.qh_routes.specs.Routes.{RouteKey, issued, initial, remote, Routes, HasNoEmptyId, IsAdded, IsRemovedOf, IsRouted, none, found, next, NoKeyTwice}
use Rattle.qh_routes.proofs.Changes.{named_added, named_among, added_whole, removed_of_whole}
use Rattle.qh_routes.proofs.Keys.{keys_of_ids, keys_of_initials, keys_of_pairs, keys_of_remotes, keys_of_tokens}
use Rattle.qh_routes.proofs.Membership.{Absent, Joins, absent_append, at_key, distinct_append, joins_back, joins_front, joins_under, no_key_twice}
use Rattle.qh_routes.proofs.Parts.{AreKeys, absent_part, not_some, key_of_part, part_added, part_at, part_distinct, part_found, part_removed_of}

-- a map with the routes that aren't its own
pub record Place {K X : Type 0} (key : K → RouteKey) (target : X → RouteDatagramTo) (es : List (K × X)) (rest whole : Routes) : Type 0 where
  pub joined : Joins rest (part key target es) whole
  pub apart : (k : K) → Absent (key k) rest

-- ---- the five places

abbrev of_ids : Maps → Routes
of_ids m = part issued Connection m.ids

abbrev of_initials : Maps → Routes
of_initials m = part initial itself m.initials

abbrev of_pairs : Maps → Routes
of_pairs m = part pair_key Connection m.pairs

abbrev of_remotes : Maps → Routes
of_remotes m = part remote Connection m.remotes

abbrev of_tokens : Maps → Routes
of_tokens m = part reset_key Connection m.tokens

absent_four : (l : RouteKey) (a b c d : Routes) → Absent l a → Absent l b → Absent l c → Absent l d → Absent l (a ++ (b ++ (c ++ d)))
absent_four l a b c d x y z w = absent_append l a (b ++ (c ++ d)) x (absent_append l b (c ++ d) y (absent_append l c d z w))

abbrev pub beside_ids : Maps → Routes
beside_ids m = of_initials m ++ (of_pairs m ++ (of_remotes m ++ of_tokens m))

pub place_of_ids : (m : Maps) → Place issued Connection m.ids (beside_ids m) (routes_of m)
place_of_ids m = record {
  joined = joins_back (of_ids m) (of_initials m ++ (of_pairs m ++ (of_remotes m ++ (of_tokens m))));
  apart = λ l. absent_four (issued l) (of_initials m) (of_pairs m) (of_remotes m) (of_tokens m)
      (absent_part initial itself m.initials (issued l) (λ k e. cc)) (absent_part pair_key Connection m.pairs (issued l) (λ k e. cc)) (absent_part remote Connection m.remotes (issued l) (λ k e. cc)) (absent_part reset_key Connection m.tokens (issued l) (λ k e. cc));
}

abbrev pub beside_initials : Maps → Routes
beside_initials m = of_ids m ++ (of_pairs m ++ (of_remotes m ++ of_tokens m))

pub place_of_initials : (m : Maps) → Place initial itself m.initials (beside_initials m) (routes_of m)
place_of_initials m = record {
  joined = joins_under (of_ids m) (of_pairs m ++ (of_remotes m ++ (of_tokens m))) (of_initials m) (of_initials m ++ (of_pairs m ++ (of_remotes m ++ of_tokens m))) (joins_back (of_initials m) (of_pairs m ++ (of_remotes m ++ (of_tokens m))));
  apart = λ l. absent_four (initial l) (of_ids m) (of_pairs m) (of_remotes m) (of_tokens m)
      (absent_part issued Connection m.ids (initial l) (λ k e. cc)) (absent_part pair_key Connection m.pairs (initial l) (λ k e. cc)) (absent_part remote Connection m.remotes (initial l) (λ k e. cc)) (absent_part reset_key Connection m.tokens (initial l) (λ k e. cc));
}

abbrev pub beside_pairs : Maps → Routes
beside_pairs m = of_ids m ++ (of_initials m ++ (of_remotes m ++ of_tokens m))

pub place_of_pairs : (m : Maps) → Place pair_key Connection m.pairs (beside_pairs m) (routes_of m)
place_of_pairs m = record {
  joined = joins_under (of_ids m) (of_initials m ++ (of_remotes m ++ (of_tokens m))) (of_pairs m) (of_initials m ++ (of_pairs m ++ (of_remotes m ++ of_tokens m))) (joins_under (of_initials m) (of_remotes m ++ (of_tokens m)) (of_pairs m) (of_pairs m ++ (of_remotes m ++ of_tokens m)) (joins_back (of_pairs m) (of_remotes m ++ (of_tokens m))));
  apart = λ l. absent_four (pair_key l) (of_ids m) (of_initials m) (of_remotes m) (of_tokens m)
      (absent_part issued Connection m.ids (pair_key l) (λ k e. cc)) (absent_part initial itself m.initials (pair_key l) (λ k e. cc)) (absent_part remote Connection m.remotes (pair_key l) (λ k e. cc)) (absent_part reset_key Connection m.tokens (pair_key l) (λ k e. cc));
}

abbrev pub beside_remotes : Maps → Routes
beside_remotes m = of_ids m ++ (of_initials m ++ (of_pairs m ++ of_tokens m))

pub place_of_remotes : (m : Maps) → Place remote Connection m.remotes (beside_remotes m) (routes_of m)
place_of_remotes m = record {
  joined = joins_under (of_ids m) (of_initials m ++ (of_pairs m ++ (of_tokens m))) (of_remotes m) (of_initials m ++ (of_pairs m ++ (of_remotes m ++ of_tokens m))) (joins_under (of_initials m) (of_pairs m ++ (of_tokens m)) (of_remotes m) (of_pairs m ++ (of_remotes m ++ of_tokens m)) (joins_under (of_pairs m) (of_tokens m) (of_remotes m) (of_remotes m ++ of_tokens m) (joins_back (of_remotes m) (of_tokens m))));
  apart = λ l. absent_four (remote l) (of_ids m) (of_initials m) (of_pairs m) (of_tokens m)
      (absent_part issued Connection m.ids (remote l) (λ k e. cc)) (absent_part initial itself m.initials (remote l) (λ k e. cc)) (absent_part pair_key Connection m.pairs (remote l) (λ k e. cc)) (absent_part reset_key Connection m.tokens (remote l) (λ k e. cc));
}

abbrev pub beside_tokens : Maps → Routes
beside_tokens m = of_ids m ++ (of_initials m ++ (of_pairs m ++ of_remotes m))

pub place_of_tokens : (m : Maps) → Place reset_key Connection m.tokens (beside_tokens m) (routes_of m)
place_of_tokens m = record {
  joined = joins_under (of_ids m) (of_initials m ++ (of_pairs m ++ (of_remotes m))) (of_tokens m) (of_initials m ++ (of_pairs m ++ (of_remotes m ++ of_tokens m))) (joins_under (of_initials m) (of_pairs m ++ (of_remotes m)) (of_tokens m) (of_pairs m ++ (of_remotes m ++ of_tokens m)) (joins_under (of_pairs m) (of_remotes m) (of_tokens m) (of_remotes m ++ of_tokens m) (joins_front (of_remotes m) (of_tokens m))));
  apart = λ l. absent_four (reset_key l) (of_ids m) (of_initials m) (of_pairs m) (of_remotes m)
      (absent_part issued Connection m.ids (reset_key l) (λ k e. cc)) (absent_part initial itself m.initials (reset_key l) (λ k e. cc)) (absent_part pair_key Connection m.pairs (reset_key l) (λ k e. cc)) (absent_part remote Connection m.remotes (reset_key l) (λ k e. cc));
}

-- ---- no key stands twice

apart_by_key : (k l : RouteKey) (routes : Routes) → k ≡ l → Absent l routes → Absent k routes
apart_by_key k l routes e a t h = a t (at_key k l t routes e h)

pub all_distinct : (m : Maps) → AreMaps m → NoKeyTwice (routes_of m)
all_distinct m s =
    let d4 : Distinct (keys_of (of_tokens m)) = part_distinct (eq_by_cmp reset_cmp) reset_key Connection keys_of_tokens m.tokens (IsDistinct-from_sorted reset_cmp (keys_of m.tokens) s.tokens) in
    let d3 : Distinct (keys_of (of_remotes m ++ of_tokens m)) = distinct_append (of_remotes m) (of_tokens m) (part_distinct (eq_by_cmp socket_cmp) remote Connection keys_of_remotes m.remotes (IsDistinct-from_sorted socket_cmp (keys_of m.remotes) s.remotes)) d4
    (λ l u h. let r = key_of_part remote Connection m.remotes l u h in apart_by_key l (remote r.0) (of_tokens m) r.1 (absent_part reset_key Connection m.tokens (remote r.0) (λ k e. cc))) in
    let d2 : Distinct (keys_of (of_pairs m ++ (of_remotes m ++ of_tokens m))) = distinct_append (of_pairs m) (of_remotes m ++ of_tokens m) (part_distinct (eq_by_cmp path_cmp) pair_key Connection keys_of_pairs m.pairs (IsDistinct-from_sorted path_cmp (keys_of m.pairs) s.pairs)) d3
    (λ l u h. let r = key_of_part pair_key Connection m.pairs l u h in apart_by_key l (pair_key r.0) (of_remotes m ++ of_tokens m) r.1 (absent_append (pair_key r.0) (of_remotes m) (of_tokens m) (absent_part remote Connection m.remotes (pair_key r.0) (λ k e. cc)) (absent_part reset_key Connection m.tokens (pair_key r.0) (λ k e. cc)))) in
    let d1 : Distinct (keys_of (of_initials m ++ (of_pairs m ++ (of_remotes m ++ of_tokens m)))) = distinct_append (of_initials m) (of_pairs m ++ (of_remotes m ++ of_tokens m)) (part_distinct (eq_by_cmp id_cmp) initial itself keys_of_initials m.initials (IsDistinct-from_sorted id_cmp (keys_of m.initials) s.initials)) d2
    (λ l u h. let r = key_of_part initial itself m.initials l u h in apart_by_key l (initial r.0) (of_pairs m ++ (of_remotes m ++ of_tokens m)) r.1 (absent_append (initial r.0) (of_pairs m) (of_remotes m ++ (of_tokens m)) (absent_part pair_key Connection m.pairs (initial r.0) (λ k e. cc)) (absent_append (initial r.0) (of_remotes m) (of_tokens m) (absent_part remote Connection m.remotes (initial r.0) (λ k e. cc)) (absent_part reset_key Connection m.tokens (initial r.0) (λ k e. cc))))) in
    let d0 : Distinct (keys_of (of_ids m ++ (of_initials m ++ (of_pairs m ++ (of_remotes m ++ of_tokens m))))) = distinct_append (of_ids m) (of_initials m ++ (of_pairs m ++ (of_remotes m ++ of_tokens m))) (part_distinct id_eq issued Connection keys_of_ids m.ids s.ids) d1
    (λ l u h. let r = key_of_part issued Connection m.ids l u h in apart_by_key l (issued r.0) (of_initials m ++ (of_pairs m ++ (of_remotes m ++ of_tokens m))) r.1 (absent_append (issued r.0) (of_initials m) (of_pairs m ++ (of_remotes m ++ (of_tokens m))) (absent_part initial itself m.initials (issued r.0) (λ k e. cc)) (absent_append (issued r.0) (of_pairs m) (of_remotes m ++ (of_tokens m)) (absent_part pair_key Connection m.pairs (issued r.0) (λ k e. cc)) (absent_append (issued r.0) (of_remotes m) (of_tokens m) (absent_part remote Connection m.remotes (issued r.0) (λ k e. cc)) (absent_part reset_key Connection m.tokens (issued r.0) (λ k e. cc)))))) in
    no_key_twice (routes_of m) d0

-- ---- a map among the five

-- it is read and written, and its keys are those of its routes
pub record Slot {K X : Type 0} (IsSound : List K → Type 0) (eq : K → K → Bool) (key : K → RouteKey) (target : X → RouteDatagramTo) : Type 0 where
  pub entries : Maps → List (K × X)
  pub with_entries : Maps → List (K × X) → Maps
  pub beside : Maps → Routes
  pub keys : AreKeys K eq key
  pub place : (m : Maps) → Place key target (entries m) (beside m) (routes_of m)
  pub place_with : (m : Maps) (es : List (K × X)) → Place key target es (beside m) (routes_of (with_entries m es))
  pub distinct : (es : List (K × X)) → IsSound (keys_of es) → IsDistinct eq (keys_of es)
  pub sound : (m : Maps) → AreMaps m → IsSound (keys_of (entries m))
  pub sound_with : (m : Maps) (es : List (K × X)) → AreMaps m → IsSound (keys_of es) → HasNoEmptyId (routes_of (with_entries m es)) → AreMaps (with_entries m es)

abbrev pub slot_of_ids : Slot (IsDistinct id_eq) id_eq issued Connection
slot_of_ids = record {
  entries = λ m. m.ids;
  with_entries = λ m es. record m { ids = es };
  beside = beside_ids;
  keys = keys_of_ids;
  place = place_of_ids;
  place_with = λ m es. place_of_ids (record m { ids = es });
  distinct = λ es d. d;
  sound = λ m s. s.ids;
  sound_with = λ m es s d named. record { ids = d; initials = s.initials; pairs = s.pairs; remotes = s.remotes; tokens = s.tokens; named = named };
}

abbrev pub slot_of_initials : Slot (IsStrictlySortedBy id_cmp) (eq_by_cmp id_cmp) initial itself
slot_of_initials = record {
  entries = λ m. m.initials;
  with_entries = λ m es. record m { initials = es };
  beside = beside_initials;
  keys = keys_of_initials;
  place = place_of_initials;
  place_with = λ m es. place_of_initials (record m { initials = es });
  distinct = λ es d. IsDistinct-from_sorted id_cmp (keys_of es) d;
  sound = λ m s. s.initials;
  sound_with = λ m es s d named. record { ids = s.ids; initials = d; pairs = s.pairs; remotes = s.remotes; tokens = s.tokens; named = named };
}

abbrev pub slot_of_pairs : Slot (IsStrictlySortedBy path_cmp) (eq_by_cmp path_cmp) pair_key Connection
slot_of_pairs = record {
  entries = λ m. m.pairs;
  with_entries = λ m es. record m { pairs = es };
  beside = beside_pairs;
  keys = keys_of_pairs;
  place = place_of_pairs;
  place_with = λ m es. place_of_pairs (record m { pairs = es });
  distinct = λ es d. IsDistinct-from_sorted path_cmp (keys_of es) d;
  sound = λ m s. s.pairs;
  sound_with = λ m es s d named. record { ids = s.ids; initials = s.initials; pairs = d; remotes = s.remotes; tokens = s.tokens; named = named };
}

abbrev pub slot_of_remotes : Slot (IsStrictlySortedBy socket_cmp) (eq_by_cmp socket_cmp) remote Connection
slot_of_remotes = record {
  entries = λ m. m.remotes;
  with_entries = λ m es. record m { remotes = es };
  beside = beside_remotes;
  keys = keys_of_remotes;
  place = place_of_remotes;
  place_with = λ m es. place_of_remotes (record m { remotes = es });
  distinct = λ es d. IsDistinct-from_sorted socket_cmp (keys_of es) d;
  sound = λ m s. s.remotes;
  sound_with = λ m es s d named. record { ids = s.ids; initials = s.initials; pairs = s.pairs; remotes = d; tokens = s.tokens; named = named };
}

abbrev pub slot_of_tokens : Slot (IsStrictlySortedBy reset_cmp) (eq_by_cmp reset_cmp) reset_key Connection
slot_of_tokens = record {
  entries = λ m. m.tokens;
  with_entries = λ m es. record m { tokens = es };
  beside = beside_tokens;
  keys = keys_of_tokens;
  place = place_of_tokens;
  place_with = λ m es. place_of_tokens (record m { tokens = es });
  distinct = λ es d. IsDistinct-from_sorted reset_cmp (keys_of es) d;
  sound = λ m s. s.tokens;
  sound_with = λ m es s d named. record { ids = s.ids; initials = s.initials; pairs = s.pairs; remotes = s.remotes; tokens = d; named = named };
}

module _ {K X : Type 0} {IsSound : List K → Type 0} {eq : K → K → Bool} {key : K → RouteKey} {target : X → RouteDatagramTo} (o : Slot IsSound eq key target) (m : Maps) (s : AreMaps m) {old : Routes} (view : routes_of m ≡ old) where
  -- what a key leads to
  pub has : (k : K) (v : X) → lookup (eq k) (o.entries m) ≡ Some v → In (key k, target v) old
  has k v h = subst (λ (r : Routes). In (key k, target v) r) view (((o.place m).joined (key k, target v)).1 (inr (part_found eq key target o.keys (o.entries m) k v h)))

  pub leads : (k : K) (t : RouteDatagramTo) → In (key k, t) old → (v : X) × (t ≡ target v) × (lookup (eq k) (o.entries m) ≡ Some v)
  leads k t h =
      elim (((o.place m).joined (key k, t)).0 (subst (λ (r : Routes). In (key k, t) r) (sym view) h)) [
        | inl a ↦ absurd ((o.place m).apart k t a)
        | inr b ↦ part_at eq key target o.keys (o.entries m) (o.distinct (o.entries m) (o.sound m s)) k (key k) t (λ i. key k) b
      ]

  pub lacks : (k : K) → lookup (eq k) (o.entries m) ≡ None → Absent (key k) old
  lacks k n t h = let r = leads k t h in not_some {G = ⊥} r.0 (sym n ∙ r.2)

  by_value : (k : K) (v : Option X) → lookup (eq k) (o.entries m) ≡ v → IsRouted old (key k ∷ []) (option_map target v)
  by_value k None e = next (lacks k e) none
  by_value k (Some x) e = found (has k x e)

  -- what is found by it alone
  pub routed : (k : K) (r : Option RouteDatagramTo) → r ≡ option_map target (lookup (eq k) (o.entries m)) → IsRouted old (key k ∷ []) r
  routed k r e = subst (λ (r : Option RouteDatagramTo). IsRouted old (key k ∷ []) r) (sym e) (by_value k (lookup (eq k) (o.entries m)) refl)

  known_by : (k : K) (v : Option X) → lookup (eq k) (o.entries m) ≡ v → IsTrue (is_some v) ↔ ((t : RouteDatagramTo) × In (key k, t) old)
  known_by k None e = (λ h. cc, λ r. absurd (lacks k e r.0 r.1))
  known_by k (Some x) e = (λ h. (target x, has k x e), λ r. refl)

  -- whether something is
  pub known : (k : K) (r : Bool) → r ≡ is_some (lookup (eq k) (o.entries m)) → IsTrue r ↔ ((t : RouteDatagramTo) × In (key k, t) old)
  known k r e = subst (λ (r : Bool). IsTrue r ↔ ((t : RouteDatagramTo) × In (key k, t) old)) (sym e) (known_by k (lookup (eq k) (o.entries m)) refl)

  module _ (es : List (K × X)) (sound : IsSound (keys_of es)) where
    -- one more entry, or another value
    pub put : (k : K) (x : X) → issued [] ≢ key k → initial [] ≢ key k → ((q : K) → lookup (eq q) es ≡ cond (eq k q) (Some x) (lookup (eq q) (o.entries m)))
        → IsAdded (key k) (target x) old (routes_of (o.with_entries m es)) × AreMaps (o.with_entries m es)
    put k x a b u =
        let new = routes_of (o.with_entries m es) in
        let added = added_whole (o.beside m) (part key target (o.entries m)) (part key target es) (routes_of m) new (o.place m).joined (o.place_with m es).joined (key k) (target x) ((o.place m).apart k)
        (part_added eq key target o.keys (o.entries m) es k x (o.distinct (o.entries m) (o.sound m s)) (o.distinct es sound) u) in (
          subst (λ (r : Routes). IsAdded (key k) (target x) r new) view added,
          o.sound_with m es s sound (named_added (key k) (target x) (routes_of m) new a b added s.named),
        )

    -- one entry less, if the key leads to this value
    pub take_of : ((x y : X) → target x ≡ target y → x ≡ y) → (k : K) (x : X) → Loses eq k x (o.entries m) es → IsRemovedOf (key k) (target x) old (routes_of (o.with_entries m es)) × AreMaps (o.with_entries m es)
    take_of exact k x h =
        let new = routes_of (o.with_entries m es) in
        let removed = removed_of_whole (o.beside m) (part key target (o.entries m)) (part key target es) (routes_of m) new (o.place m).joined (o.place_with m es).joined (key k) (target x) ((o.place m).apart k)
        (part_removed_of eq key target o.keys exact (o.entries m) es k x (o.distinct (o.entries m) (o.sound m s)) (o.distinct es sound) h) in (
          subst (λ (r : Routes). IsRemovedOf (key k) (target x) r new) view removed,
          o.sound_with m es s sound (named_among (routes_of m) new (λ l t i. ((removed l t).0 i).1) s.named),
        )

pub connection_exact : (x y : ConnectionHandle) → Connection x ≡ Connection y → x ≡ y
connection_exact x y e = cc

pub map_itself : (r : Option RouteDatagramTo) → option_map itself r ≡ r
map_itself None = refl
map_itself (Some t) = refl

pub itself_exact : (x y : RouteDatagramTo) → itself x ≡ itself y → x ≡ y
itself_exact x y e = e

abbrev pub maps_of : Inside → Maps
maps_of x = record { ids = x.ids.entries; initials = x.initials.entries; pairs = x.pairs.entries; remotes = x.remotes.entries; tokens = x.tokens.entries }
