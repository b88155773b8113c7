-- What a key led to before is put back.
use Rattle.std.proofs.Common.{◌≡◌, ◌≢◌, ◌⊎◌, ℕ, Result, Ok, Err, OnOk, OnErr, List, [], ◌∷◌, bytes_eq, Option, None, Some, refl, sym, ap, ◌∙◌, subst, inl, inr}
use Rattle.std.proofs.lemmas.Bool.{both_ways, cases_Bool}
use Rattle.std.proofs.lemmas.Slice.Eq.{bytes_eq-Decides}
use Rattle.qh_spec.specs.Lists.{In}
use Rattle.qh_spec.specs.declared.sides.Side.{Side}
use Rattle.qh_spec.specs.declared.sides.Side.TheVariants.{Client, Server}
use Rattle.qh_routes.specs.declared.connection_handle.ConnectionHandle.{ConnectionHandle}
use Rattle.qh_routes.specs.declared.connection_index.RouteDatagramTo.{RouteDatagramTo}
use Rattle.qh_routes.specs.declared.connection_index.RouteDatagramTo.TheVariants.{Connection}
use Rattle.qh_routes.specs.Routes.{RouteKey, Routes, AreSameRoutes, IsAdded, IsFirstAdded, IsRemovedOf, IsRouted, NoKeyTwice, issued, initial, pair, remote, reset}
use Rattle.qh_routes.proofs.Keys.{initial_exact}
use Rattle.qh_routes.proofs.Membership.{Absent, at_key}
use Rattle.qh_routes.proofs.Routing.{answer_is_route, no_answer}

pub same_routes : (u v : Routes) → v ≡ u → AreSameRoutes u v
same_routes u v e = record {
  kept = λ k t i. subst (λ (r : Routes). In (k, t) r) (sym e) i;
  none_new = λ k t i. subst (λ (r : Routes). In (k, t) r) e i;
}

-- the key had no route
pub same_none : (key : RouteKey) (h : RouteDatagramTo) (u v w : Routes) → Absent key u → IsAdded key h u v → IsRemovedOf key h v w → AreSameRoutes u w
same_none key h u v w absent added removed = record {
  kept = λ k t i.
      let apart : k ≢ key = λ e. absent t (at_key k key t u e i) in
      (removed k t).1 (λ same. apart same.0, (added k t).1 (inr (apart, i)));
  none_new = λ k t i.
      let r = (removed k t).0 i in
      elim ((added k t).0 r.1) [ inl same ↦ absurd (r.0 same) | inr other ↦ other.1 ];
}

decide_initial : (id : List ℕ) (k : RouteKey) → (k ≡ initial id) ⊎ (k ≢ initial id)
decide_initial id (issued x) = inr (λ e. cc)
decide_initial id (initial x) = elim (cases_Bool (bytes_eq x id)) [
  | inl t ↦ inl (ap initial ((bytes_eq-Decides x id).0 t))
  | inr f ↦ inr (λ e. both_ways (bytes_eq x id) f ((bytes_eq-Decides x id).1 (initial_exact x id e)))
]
decide_initial id (pair x) = inr (λ e. cc)
decide_initial id (remote x) = inr (λ e. cc)
decide_initial id (reset x y) = inr (λ e. cc)

-- the key led to something, and does again
pub same_some : (id : List ℕ) (before h : RouteDatagramTo) (u v w : Routes) → NoKeyTwice u → In (initial id, before) u → IsAdded (initial id) h u v → IsAdded (initial id) before v w → AreSameRoutes u w
same_some id before h u v w once there added again = record {
  kept = λ k t i. elim (decide_initial id k) [
    | inl e ↦ (again k t).1 (inl (e, once.one (initial id) t before (at_key k (initial id) t u e i) there))
    | inr n ↦ (again k t).1 (inr (n, (added k t).1 (inr (n, i))))
  ];
  none_new = λ k t i. elim ((again k t).0 i) [
    | inl same ↦ at_key (initial id) k t u (sym same.0) (subst (λ (z : RouteDatagramTo). In (initial id, z) u) (sym same.1) there)
    | inr other ↦ elim ((added k t).0 other.1) [ inl same ↦ absurd (other.0 same.0) | inr older ↦ older.1 ]
  ];
}

pub put_back_same : (side : Side) (id : List ℕ) (h : ConnectionHandle) (earlier : Option RouteDatagramTo) (u v w : Routes) → NoKeyTwice u → IsRouted u (initial id ∷ []) earlier
    → IsFirstAdded side id (Connection h) u v → (side ≡ Client → w ≡ v) → (id ≡ [] → w ≡ v)
    → ((b : ℕ) (rest : List ℕ) → side ≡ Server → id ≡ b ∷ rest → earlier ≡ None → IsRemovedOf (initial id) (Connection h) v w)
    → ((t : RouteDatagramTo) (b : ℕ) (rest : List ℕ) → side ≡ Server → id ≡ b ∷ rest → earlier ≡ Some t → IsAdded (initial id) t v w) → AreSameRoutes u w
put_back_same Client id h earlier u v w once routed first client empty gone back = same_routes u w (client refl ∙ first)
put_back_same Server [] h earlier u v w once routed first client empty gone back = same_routes u w (empty refl ∙ first)
put_back_same Server (b ∷ id) h None u v w once routed first client empty gone back =
    same_none (initial (b ∷ id)) (Connection h) u v w (λ t i. no_answer routed (initial (b ∷ id)) t (inl refl) i) first (gone b id refl refl refl)
put_back_same Server (b ∷ id) h (Some t) u v w once routed first client empty gone back =
    let r = answer_is_route routed in
    let there : In (initial (b ∷ id), t) u = elim r.1 [ inl e ↦ at_key r.0 (initial (b ∷ id)) t u (sym e) r.2 | inr n ↦ absurd n ] in
    same_some (b ∷ id) t (Connection h) u v w once there first (back t b id refl refl refl)

-- behind the first of both changes, a server's first id leads to the connection
pub first_led : (side : Side) (id : List ℕ) (h : ConnectionHandle) (u v : Routes) → IsFirstAdded side id (Connection h) u v → (b : ℕ) (rest : List ℕ) → side ≡ Server → id ≡ b ∷ rest → In (initial id, Connection h) v
first_led Client id h u v first b rest server is = cc
first_led Server [] h u v first b rest server is = cc
first_led Server (c ∷ id) h u v first b rest server is = (first (initial (c ∷ id)) (Connection h)).1 (inl (refl, refl))

-- one of the ids of a server's first packets
pub first_of_server : (id : List ℕ) (t : RouteDatagramTo) (u v : Routes) → (id ≢ [] → IsAdded (initial id) t u v) → (id ≡ [] → v ≡ u) → IsFirstAdded Server id t u v
first_of_server [] t u v added empty = empty refl
first_of_server (b ∷ id) t u v added empty = added (λ e. cc)

-- a call that could only fail where something doesn't hold didn't fail
pub put_done : {A E P N : Type 0} (r : Result A E) → OnOk r P → OnErr r N → (N → ⊥) → P
put_done (Ok x) p n q = p
put_done (Err e) p n q = absurd (q n)
