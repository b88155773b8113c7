-- The routes that one of the maps keeps.
use Rattle.std.proofs.Common.{◌≡◌, ◌≢◌, ◌↔◌, Bool, true, false, cond, List, [], ◌∷◌, Some, None, sym, ap, ◌∙◌, subst, inl, inr}
use Rattle.std.specs.Cmp.{IsEquivalence}
use Rattle.std.specs.List.{IsDistinct}
use Rattle.std.specs.Map.{keys_of, lookup}
use Rattle.std.proofs.lemmas.Bool.{cases_Bool, both_ways, false_from_ne_true}
use Rattle.std.proofs.lemmas.Map.{lookup-none}
use Rattle.std.proofs.lemmas.Map.Entries.{lookup_head, lookup_tail, none_past_head}
use Rattle.std.proofs.lemmas.Map.Keys.{IsDistinct-tail}
use Rattle.qh_spec.specs.Lists.{In, Distinct}
use Rattle.qh_spec.proofs.Members.{from_map}
use Rattle.qh_routes.specs.declared.connection_index.RouteDatagramTo.{RouteDatagramTo}
use Rattle.qh_routes.specs.Index.{part, Loses}
use Rattle.qh_routes.specs.Routes.{RouteKey, Routes, IsAdded, IsRemovedOf}
use Rattle.qh_routes.proofs.Membership.{Absent, absent_key, in_head}

-- keys that are equal are one, and so are those of equal routes
pub record AreKeys (K : Type 0) (eq : K → K → Bool) (key : K → RouteKey) : Type 0 where
  pub laws : IsEquivalence eq
  pub exact : (a b : K) → eq a b ≡ true → a ≡ b
  pub key_exact : (a b : K) → key a ≡ key b → a ≡ b

pub in_as : (l k : RouteKey) (t u : RouteDatagramTo) (routes : Routes) → l ≡ k → t ≡ u → In (k, u) routes → In (l, t) routes
in_as l k t u routes a b h = subst (λ (x : RouteKey). In (x, t) routes) (sym a) (subst (λ (y : RouteDatagramTo). In (k, y) routes) (sym b) h)

some_is : {X : Type 0} (x y : X) → ◌≡◌ {A = _} (Some x) (Some y) → x ≡ y
some_is x y e = cc

pub not_some : {X : Type 0} {G : Type 0} (x : X) → None ≡ Some x → G
not_some x e = cc

-- each route of it has a key of its kind
pub key_of_part : {K X : Type 0} (key : K → RouteKey) (target : X → RouteDatagramTo) (es : List (K × X)) (l : RouteKey) (t : RouteDatagramTo) → In (l, t) (part key target es) → (k : K) × (l ≡ key k)
key_of_part {K} {X} key target es l t h = let r = from_map (λ (e : K × X). (key e.0, target e.1)) (l, t) es h in (r.0.0, (in_head l t (key r.0.0) (target r.0.1) r.2).0)

pub absent_part : {K X : Type 0} (key : K → RouteKey) (target : X → RouteDatagramTo) (es : List (K × X)) (l : RouteKey) → ((k : K) → l ≢ key k) → Absent l (part key target es)
absent_part key target es l apart t h = let r = key_of_part key target es l t h in apart r.0 r.1

-- the key has no route, and each other key leads where it did
abbrev IsRemoved : (key : RouteKey) → (old new : Routes) → Type 0
IsRemoved key old new = (k : RouteKey) (t : RouteDatagramTo) → In (k, t) new ↔ ((k ≢ key) × In (k, t) old)

module _ {K X : Type 0} (eq : K → K → Bool) (key : K → RouteKey) (target : X → RouteDatagramTo) (o : AreKeys K eq key) where
  pub part_found : (es : List (K × X)) (k : K) (v : X) → lookup (eq k) es ≡ Some v → In (key k, target v) (part key target es)
  part_found [] k v h = not_some v h
  part_found (e ∷ es) k v h = elim (cases_Bool (eq k e.0)) [
    | inl same ↦
        let k_is : k ≡ e.0 = o.exact k e.0 same in
        let v_is : e.1 ≡ v = some_is e.1 v (sym (ap (λ b. cond b (Some e.1) (lookup (eq k) es)) same) ∙ h) in
        inl (cc)
    | inr apart ↦ inr (part_found es k v (sym (ap (λ b. cond b (Some e.1) (lookup (eq k) es)) apart) ∙ h))
  ]

  none_behind : (e : K × X) (es : List (K × X)) → IsDistinct eq (keys_of (e ∷ es)) → (k : K) → eq k e.0 ≡ true → lookup (eq k) es ≡ None
  none_behind e es d k same = lookup-none (eq k) es (none_past_head o.laws k e es d same)

  pub part_read : (es : List (K × X)) → IsDistinct eq (keys_of es) → (l : RouteKey) (t : RouteDatagramTo) → In (l, t) (part key target es) → (k : K) × (v : X) × (l ≡ key k) × (t ≡ target v) × (lookup (eq k) es ≡ Some v)
  part_read [] d l t h = absurd h
  part_read (e ∷ es) d l t (inl h) =
      let is = in_head l t (key e.0) (target e.1) h in
      (e.0, e.1, is.0, is.1, lookup_head (eq e.0) e es (o.laws.refl e.0))
  part_read (e ∷ es) d l t (inr h) =
      let r = part_read es (IsDistinct-tail eq e.0 (keys_of es) d) l t h in
      let apart : eq r.0 e.0 ≡ false = false_from_ne_true (eq r.0 e.0) (λ same. not_some {G = ⊥} r.1 (sym (none_behind e es d r.0 same) ∙ r.4)) in
      (r.0, r.1, r.2, r.3, lookup_tail (eq r.0) e es apart ∙ r.4)

  -- what a key leads to
  pub part_at : (es : List (K × X)) → IsDistinct eq (keys_of es) → (k : K) (l : RouteKey) (t : RouteDatagramTo) → l ≡ key k → In (l, t) (part key target es) → (v : X) × (t ≡ target v) × (lookup (eq k) es ≡ Some v)
  part_at es d k l t e h =
      let r = part_read es d l t h in
      let k_is : r.0 ≡ k = o.key_exact r.0 k (sym r.2 ∙ e) in
      (r.1, r.3, ap (λ x. lookup (eq x) es) (sym k_is) ∙ r.4)

  pub part_lacks : (es : List (K × X)) → IsDistinct eq (keys_of es) → (k : K) → lookup (eq k) es ≡ None → Absent (key k) (part key target es)
  part_lacks es d k n t h =
      let r = part_at es d k (key k) t (λ i. key k) h in
      not_some {G = ⊥} r.0 (sym n ∙ r.2)

  pub part_distinct : (es : List (K × X)) → IsDistinct eq (keys_of es) → Distinct (keys_of (part key target es))
  part_distinct [] d = tt
  part_distinct (e ∷ es) d =
      let tail = IsDistinct-tail eq e.0 (keys_of es) d in
      (absent_key (key e.0) (part key target es) (part_lacks es tail e.0 (none_behind e es d e.0 (o.laws.refl e.0))), part_distinct es tail)

  -- keys that the test tells apart
  differ : (k q : K) (l : RouteKey) → eq k q ≡ false → l ≡ key q → l ≢ key k
  differ k q l apart e f = both_ways (eq k q) apart (subst (λ (x : K). eq k x ≡ true) (o.key_exact k q (sym f ∙ e)) (o.laws.refl k))

  apart_by : (k q : K) (l : RouteKey) → l ≡ key q → l ≢ key k → eq k q ≡ false
  apart_by k q l e n = false_from_ne_true (eq k q) (λ same. n (e ∙ ap key (sym (o.exact k q same))))

  pub part_added : (old new : List (K × X)) (k : K) (v : X) → IsDistinct eq (keys_of old) → IsDistinct eq (keys_of new)
      → ((q : K) → lookup (eq q) new ≡ cond (eq k q) (Some v) (lookup (eq q) old)) → IsAdded (key k) (target v) (part key target old) (part key target new)
  part_added old new k v d e u l t = (
    λ i. let r = part_read new e l t i in
        elim (cases_Bool (eq k r.0)) [
          | inl same ↦
              let v_is : r.1 ≡ v = some_is r.1 v (sym r.4 ∙ u r.0 ∙ ap (λ b. cond b (Some v) (lookup (eq r.0) old)) same) in
              inl (r.2 ∙ ap key (sym (o.exact k r.0 same)), r.3 ∙ ap target v_is)
          | inr apart ↦
              let before : lookup (eq r.0) old ≡ Some r.1 = sym (u r.0 ∙ ap (λ b. cond b (Some v) (lookup (eq r.0) old)) apart) ∙ r.4 in
              inr (differ k r.0 l apart r.2, in_as l (key r.0) t (target r.1) (part key target old) r.2 r.3 (part_found old r.0 r.1 before))
        ],
    λ s. elim s [
      | inl same ↦ in_as l (key k) t (target v) (part key target new) same.0 same.1 (part_found new k v (u k ∙ ap (λ b. cond b (Some v) (lookup (eq k) old)) (o.laws.refl k)))
      | inr other ↦
          let r = part_read old d l t other.1 in
          let apart = apart_by k r.0 l r.2 other.0 in
          in_as l (key r.0) t (target r.1) (part key target new) r.2 r.3 (part_found new r.0 r.1 (u r.0 ∙ ap (λ b. cond b (Some v) (lookup (eq r.0) old)) apart ∙ r.4))
    ],
  )

  part_removed : (old new : List (K × X)) (k : K) → IsDistinct eq (keys_of old) → IsDistinct eq (keys_of new)
      → ((q : K) → lookup (eq q) new ≡ cond (eq k q) None (lookup (eq q) old)) → IsRemoved (key k) (part key target old) (part key target new)
  part_removed old new k d e u l t = (
    λ i. let r = part_read new e l t i in
        let apart : eq k r.0 ≡ false = false_from_ne_true (eq k r.0) (λ same. not_some {G = ⊥} r.1 (sym (u r.0 ∙ ap (λ b. cond b None (lookup (eq r.0) old)) same) ∙ r.4)) in
        let before : lookup (eq r.0) old ≡ Some r.1 = sym (u r.0 ∙ ap (λ b. cond b None (lookup (eq r.0) old)) apart) ∙ r.4 in
        (differ k r.0 l apart r.2, in_as l (key r.0) t (target r.1) (part key target old) r.2 r.3 (part_found old r.0 r.1 before)),
    λ s. let r = part_read old d l t s.1 in
        let apart = apart_by k r.0 l r.2 s.0 in
        in_as l (key r.0) t (target r.1) (part key target new) r.2 r.3 (part_found new r.0 r.1 (u r.0 ∙ ap (λ b. cond b None (lookup (eq r.0) old)) apart ∙ r.4)),
  )

  pub part_removed_of : ((v w : X) → target v ≡ target w → v ≡ w) → (old new : List (K × X)) (k : K) (v : X) → IsDistinct eq (keys_of old) → IsDistinct eq (keys_of new)
      → Loses eq k v old new → IsRemovedOf (key k) (target v) (part key target old) (part key target new)
  part_removed_of target_exact old new k v d e (inl h) l t =
      let all = part_removed old new k d e h.1 l t in (
        λ i. (λ x. (all.0 i).0 x.0, (all.0 i).1),
        λ s. all.1 (λ l_is. let r = part_at old d k l t l_is s.1 in s.0 (l_is, r.1 ∙ ap target (some_is r.0 v (sym r.2 ∙ h.0))), s.1),
      )
  part_removed_of target_exact old new k v d e (inr h) l t =
      let back : In (l, t) (part key target new) → In (l, t) (part key target old) = λ i. subst (λ (es : List (K × X)). In (l, t) (part key target es)) h.1 i in (
        λ i. (
          λ x. let r = part_at old d k l t x.0 (back i) in h.0 (r.2 ∙ ap (λ w. Some w) (target_exact r.0 v (sym r.1 ∙ x.1))),
          back i,
        ),
        λ s. subst (λ (es : List (K × X)). In (l, t) (part key target es)) (sym h.1) s.1,
      )
