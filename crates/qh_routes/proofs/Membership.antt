-- What a list of routes has.
use Rattle.std.proofs.Common.{◌≡◌, ◌≢◌, ◌⊎◌, ◌↔◌, ◌==◌, ℕ, false, length, List, [], ◌∷◌, ◌++◌, sym, ap, ◌∙◌, subst, inl, inr}
use Rattle.std.proofs.lemmas.Bool.{both_ways}
use Rattle.std.specs.Map.{keys_of as keys_in}
use Rattle.qh_spec.specs.Lists.{In, Distinct}
use Rattle.qh_spec.proofs.Members.{in_left, in_right, in_split, in_map, from_map}
use Rattle.qh_routes.specs.declared.connection_index.RouteDatagramTo.{RouteDatagramTo}
use Rattle.qh_routes.specs.Routes.{RouteKey, Routes, NoKeyTwice}

-- the key has no route
abbrev pub Absent : RouteKey → Routes → Type 0
Absent key routes = (t : RouteDatagramTo) → In (key, t) routes → ⊥

pub at_key : (k l : RouteKey) (t : RouteDatagramTo) (routes : Routes) → k ≡ l → In (k, t) routes → In (l, t) routes
at_key k l t routes e h = subst (λ (x : RouteKey). In (x, t) routes) e h

pub in_head : (k : RouteKey) (t : RouteDatagramTo) (l : RouteKey) (u : RouteDatagramTo) → ◌≡◌ {A = RouteKey × RouteDatagramTo} (l, u) (k, t) → (k ≡ l) × (t ≡ u)
in_head k t l u e = (sym (ap (λ (p : RouteKey × RouteDatagramTo). p.0) e), sym (ap (λ (p : RouteKey × RouteDatagramTo). p.1) e))

pub absent_key : (k : RouteKey) (routes : Routes) → Absent k routes → In k (keys_in routes) → ⊥
absent_key k routes a h = let r = from_map (λ (p : RouteKey × RouteDatagramTo). p.0) k routes h in a r.0.1 (at_key r.0.0 k r.0.1 routes r.2 r.1)

key_in : (k : RouteKey) (t : RouteDatagramTo) (routes : Routes) → In (k, t) routes → In k (keys_in routes)
key_in k t routes h = in_map (λ (p : RouteKey × RouteDatagramTo). p.0) (k, t) routes h

pub absent_append : (k : RouteKey) (xs ys : Routes) → Absent k xs → Absent k ys → Absent k (xs ++ ys)
absent_append k xs ys a b t h = elim (in_split (k, t) xs ys h) [ inl x ↦ a t x | inr y ↦ b t y ]

-- a list has what two others have
abbrev pub Joins : {A : Type 0} → List A → List A → List A → Type 0
Joins {A} xs ys whole = (x : A) → In x whole ↔ (In x xs ⊎ In x ys)

pub joins_front : {A : Type 0} (xs ys : List A) → Joins xs ys (xs ++ ys)
joins_front xs ys x = (in_split x xs ys, λ s. elim s [ inl a ↦ in_left x xs ys a | inr b ↦ in_right x xs ys b ])

pub joins_back : {A : Type 0} (xs ys : List A) → Joins ys xs (xs ++ ys)
joins_back xs ys x = (
  λ h. elim (in_split x xs ys h) [ inl a ↦ inr a | inr b ↦ inl b ],
  λ s. elim s [ inl b ↦ in_right x xs ys b | inr a ↦ in_left x xs ys a ],
)

pub joins_under : {A : Type 0} (zs xs ys whole : List A) → Joins xs ys whole → Joins (zs ++ xs) ys (zs ++ whole)
joins_under zs xs ys whole j x = (
  λ h. elim (in_split x zs whole h) [
    | inl z ↦ inl (in_left x zs xs z)
    | inr w ↦ elim ((j x).0 w) [ inl a ↦ inl (in_right x zs xs a) | inr b ↦ inr b ]
  ],
  λ s. elim s [
    | inl a ↦ elim (in_split x zs xs a) [ inl z ↦ in_left x zs whole z | inr b ↦ in_right x zs whole ((j x).1 (inl b)) ]
    | inr b ↦ in_right x zs whole ((j x).1 (inr b))
  ],
)

-- an id that isn't empty
pub nonempty : (id : List ℕ) → (length id == 0) ≡ false → id ≢ []
nonempty id f e = both_ways (length id == 0) f (ap (λ (xs : List ℕ). length xs == 0) e)

-- ---- keys that differ

pub distinct_append : (xs ys : Routes) → Distinct (keys_in xs) → Distinct (keys_in ys) → ((k : RouteKey) (t : RouteDatagramTo) → In (k, t) xs → Absent k ys) → Distinct (keys_in (xs ++ ys))
distinct_append [] ys a b apart = b
distinct_append (x ∷ xs) ys a b apart = (
  absent_key x.0 (xs ++ ys) (absent_append x.0 xs ys (λ t h. a.0 (key_in x.0 t xs h)) (apart x.0 x.1 (inl cc))),
  distinct_append xs ys a.1 b (λ k t h. apart k t (inr h)),
)

pub one_route : (routes : Routes) → Distinct (keys_in routes) → (k : RouteKey) (t u : RouteDatagramTo) → In (k, t) routes → In (k, u) routes → t ≡ u
one_route [] d k t u a b = absurd a
one_route (x ∷ routes) d k t u (inl e) (inl f) = (in_head k t x.0 x.1 e).1 ∙ sym (in_head k u x.0 x.1 f).1
one_route (x ∷ routes) d k t u (inl e) (inr b) = absurd (d.0 (key_in x.0 u routes (at_key k x.0 u routes (in_head k t x.0 x.1 e).0 b)))
one_route (x ∷ routes) d k t u (inr a) (inl f) = absurd (d.0 (key_in x.0 t routes (at_key k x.0 t routes (in_head k u x.0 x.1 f).0 a)))
one_route (x ∷ routes) d k t u (inr a) (inr b) = one_route routes d.1 k t u a b

pub no_key_twice : (routes : Routes) → Distinct (keys_in routes) → NoKeyTwice routes
no_key_twice routes d = record { distinct = d; one = one_route routes d }
