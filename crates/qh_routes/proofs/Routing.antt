-- What the look-ups of a datagram give.
use Rattle.std.proofs.Common.{◌≡◌, ◌==◌, ◌-◌, ◌<◌, ◌≤◌, ℕ, nat_le, Bool, true, false, if◌then◌else◌, length, drop, List, [], ◌∷◌, ◌++◌, Option, Some, None, refl, sym, ap, arith, subst, inl, inr}
use Rattle.std.specs.declared.net.socket_addr.SocketAddr.{SocketAddr}
use Rattle.std.proofs.lemmas.Bool.{eqb-true, eqb-false, le-leb, lt-leb}
use Rattle.qh_base.specs.declared.path.FourTuple.{FourTuple}
use Rattle.qh_spec.specs.Lists.{In}
use Rattle.qh_routes.specs.declared.connection_index.RouteDatagramTo.{RouteDatagramTo}
use Rattle.qh_routes.specs.Routes.{RouteKey, Routes, NoKeyTwice, address_keys, connection_keys, id_keys, reset_keys, reset, IsRouted, none, found, next}
use Rattle.qh_routes.proofs.Membership.{at_key}

pub routed_once : {routes : Routes} {keys : List RouteKey} {r s : Option RouteDatagramTo} → NoKeyTwice routes → IsRouted routes keys r → IsRouted routes keys s → r ≡ s
routed_once n none none = refl
routed_once n (found {k} {keys} {t} i) (found {t = u} j) = ap (λ (x : RouteDatagramTo). Some x) (n.one k t u i j)
routed_once n (found {k} {keys} {t} i) (next lacks rest) = absurd (lacks t i)
routed_once n (next lacks rest) (found {t = u} j) = absurd (lacks u j)
routed_once n (next lacks rest) (next lacks' rest') = routed_once n rest rest'

pub answer_is_route : {routes : Routes} {keys : List RouteKey} {t : RouteDatagramTo} → IsRouted routes keys (Some t) → (k : RouteKey) × In k keys × In (k, t) routes
answer_is_route (found {k} i) = (k, inl refl, i)
answer_is_route (next lacks rest) = let r = answer_is_route rest in (r.0, inr r.1, r.2)

pub no_answer : {routes : Routes} {keys : List RouteKey} → IsRouted routes keys None → (k : RouteKey) (t : RouteDatagramTo) → In k keys → In (k, t) routes → ⊥
no_answer none k t h i = h
no_answer {routes} (next lacks rest) k t (inl e) i = lacks t (at_key k _ t routes (sym e) i)
no_answer (next lacks rest) k t (inr h) i = no_answer rest k t h i

-- what the first keys give, or if that is nothing the others
pub routed_first : {routes : Routes} {keys : List RouteKey} {t : RouteDatagramTo} → IsRouted routes keys (Some t) → (others : List RouteKey) → IsRouted routes (keys ++ others) (Some t)
routed_first (found i) others = found i
routed_first (next lacks rest) others = next lacks (routed_first rest others)

pub routed_then : {routes : Routes} {keys : List RouteKey} → IsRouted routes keys None → (others : List RouteKey) (r : Option RouteDatagramTo) → IsRouted routes others r → IsRouted routes (keys ++ others) r
routed_then none others r h = h
routed_then (next lacks rest) others r h = next lacks (routed_then rest others r h)

pub by_first : (routes : Routes) (id : List ℕ) (is_first other : Bool) (r : Option RouteDatagramTo) → is_first ≡ other → IsRouted routes (id_keys id other) r → IsRouted routes (id_keys id is_first) r
by_first routes id is_first other r e h = subst (λ (x : Bool). IsRouted routes (id_keys id x) r) (sym e) h

pub by_addresses : (routes : Routes) (addresses : FourTuple) (id : List ℕ) (is_first : Bool) (r : Option RouteDatagramTo) → (length id == 0) ≡ true → IsRouted routes (address_keys addresses) r → IsRouted routes (connection_keys addresses id is_first) r
by_addresses routes addresses [] is_first r e h = h
by_addresses routes addresses (b ∷ id) is_first r e h = absurd (omega (arith, eqb-true (length (b ∷ id)) 0 e))

pub by_id : (routes : Routes) (addresses : FourTuple) (id : List ℕ) (is_first : Bool) (r : Option RouteDatagramTo) → (length id == 0) ≡ false → IsRouted routes (id_keys id is_first) r → IsRouted routes (connection_keys addresses id is_first) r
by_id routes addresses [] is_first r e h = absurd (eqb-false 0 0 e refl)
by_id routes addresses (b ∷ id) is_first r e h = h

by_test : (routes : Routes) (b c : Bool) (keys : List RouteKey) (r : Option RouteDatagramTo) → b ≡ c → IsRouted routes (if c then keys else []) r → IsRouted routes (if b then keys else []) r
by_test routes b c keys r e h = subst (λ (x : Bool). IsRouted routes (if x then keys else []) r) (sym e) h

pub by_token : (routes : Routes) (address : SocketAddr) (bytes token : List ℕ) (r : Option RouteDatagramTo) → 16 ≤ length bytes → token ≡ drop (length bytes - 16) bytes → IsRouted routes (reset address token ∷ []) r → IsRouted routes (reset_keys address bytes) r
by_token routes address bytes token r l e h =
    by_test routes (nat_le 16 (length bytes)) true (reset address (drop (length bytes - 16) bytes) ∷ []) r (le-leb 16 (length bytes) l) (subst (λ (x : List ℕ). IsRouted routes (reset address x ∷ []) r) e h)

pub no_token : (routes : Routes) (address : SocketAddr) (bytes : List ℕ) → length bytes < 16 → IsRouted routes (reset_keys address bytes) None
no_token routes address bytes l = by_test routes (nat_le 16 (length bytes)) false (reset address (drop (length bytes - 16) bytes) ∷ []) None (lt-leb 16 (length bytes) l) none
