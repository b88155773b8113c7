-- A change of some of the routes is one of all of them.
use Rattle.std.proofs.Common.{◌≡◌, ◌≢◌, ◌==◌, ℕ, true, false, length, Result, Ok, Err, OnOk, OnErr, refl, arith, List, [], ◌∷◌, ◌++◌, sym, ap, subst, inl, inr}
use Rattle.std.proofs.lemmas.Bool.{eqb-true, eqb-false}
use Rattle.qh_base.specs.declared.path.FourTuple.{FourTuple}
use Rattle.qh_spec.specs.Lists.{In}
use Rattle.qh_spec.proofs.Members.{in_left, in_right, in_split}
use Rattle.qh_spec.specs.declared.sides.Side.{Side}
use Rattle.qh_spec.specs.declared.sides.Side.TheVariants.{Client, Server}
use Rattle.qh_routes.specs.declared.connection_index.RouteDatagramTo.{RouteDatagramTo}
use Rattle.qh_routes.specs.Routes.{RouteKey, Routes, IsAdded, IsRemovedOf, AreRemovedOf, HasNoEmptyId, conn_key, issued, initial, pair, remote}
use Rattle.qh_routes.proofs.Membership.{Absent, Joins, at_key}

module _ (xs ys zs v w : Routes) (before : Joins xs ys v) (after : Joins xs zs w) where
  pub added_whole : (key : RouteKey) (target : RouteDatagramTo) → Absent key xs → IsAdded key target ys zs → IsAdded key target v w
  added_whole key target absent h k t = (
    λ i. elim ((after (k, t)).0 i) [
      | inl a ↦ inr (λ e. absent t (at_key k key t xs e a), (before (k, t)).1 (inl a))
      | inr b ↦ elim ((h k t).0 b) [ inl same ↦ inl same | inr other ↦ inr (other.0, (before (k, t)).1 (inr other.1)) ]
    ],
    λ s. elim s [
      | inl same ↦ (after (k, t)).1 (inr ((h k t).1 (inl same)))
      | inr other ↦ elim ((before (k, t)).0 other.1) [ inl a ↦ (after (k, t)).1 (inl a) | inr b ↦ (after (k, t)).1 (inr ((h k t).1 (inr (other.0, b)))) ]
    ],
  )

  pub removed_of_whole : (key : RouteKey) (target : RouteDatagramTo) → Absent key xs → IsRemovedOf key target ys zs → IsRemovedOf key target v w
  removed_of_whole key target absent h k t = (
    λ i. elim ((after (k, t)).0 i) [
      | inl a ↦ (λ e. absent t (at_key k key t xs e.0 a), (before (k, t)).1 (inl a))
      | inr b ↦ (((h k t).0 b).0, (before (k, t)).1 (inr ((h k t).0 b).1))
    ],
    λ s. elim ((before (k, t)).0 s.1) [ inl a ↦ (after (k, t)).1 (inl a) | inr b ↦ (after (k, t)).1 (inr ((h k t).1 (s.0, b))) ],
  )

-- ---- an empty id has no route after it either

pub named_added : (key : RouteKey) (target : RouteDatagramTo) (v w : Routes) → issued [] ≢ key → initial [] ≢ key → IsAdded key target v w → HasNoEmptyId v → HasNoEmptyId w
named_added key target v w a b h n = record {
  as_issued = λ t i. elim ((h (issued []) t).0 i) [ inl same ↦ a same.0 | inr other ↦ n.as_issued t other.1 ];
  as_initial = λ t i. elim ((h (initial []) t).0 i) [ inl same ↦ b same.0 | inr other ↦ n.as_initial t other.1 ];
}

-- none is new
abbrev pub AreAmong : (w v : Routes) → Type 0
AreAmong w v = (k : RouteKey) (t : RouteDatagramTo) → In (k, t) w → In (k, t) v

pub named_among : (v w : Routes) → AreAmong w v → HasNoEmptyId v → HasNoEmptyId w
named_among v w h n = record { as_issued = λ t i. n.as_issued t (h (issued []) t i); as_initial = λ t i. n.as_initial t (h (initial []) t i) }

-- ---- several keys

pub keys_by : (keys others : List RouteKey) (target : RouteDatagramTo) (v w : Routes) → keys ≡ others → AreRemovedOf keys target v w → AreRemovedOf others target v w
keys_by keys others target v w e h = subst (λ (ks : List RouteKey). AreRemovedOf ks target v w) e h

pub none_removed : (target : RouteDatagramTo) (v : Routes) → AreRemovedOf [] target v v
none_removed target v k t = (λ i. (λ e. e.0, i), λ s. s.1)

pub all_removed : (keys others : List RouteKey) (target : RouteDatagramTo) (u v w : Routes) → AreRemovedOf keys target u v → AreRemovedOf others target v w → AreRemovedOf (keys ++ others) target u w
all_removed keys others target u v w a b k t = (
  λ i. let second = (b k t).0 i in
      let first = (a k t).0 second.1 in (
        λ e. elim (in_split k keys others e.0) [ inl x ↦ first.0 (x, e.1) | inr y ↦ second.0 (y, e.1) ],
        first.1,
      ),
  λ s. (b k t).1 (λ e. s.0 (in_right k keys others e.0, e.1), (a k t).1 (λ e. s.0 (in_left k keys others e.0, e.1), s.1)),
)

pub one_removed : (key : RouteKey) (target : RouteDatagramTo) (v w : Routes) → IsRemovedOf key target v w → AreRemovedOf (key ∷ []) target v w
one_removed key target v w h k t = (
  λ i. (λ e. elim e.0 [ inl same ↦ ((h k t).0 i).0 (sym same, e.1) | inr n ↦ absurd n ], ((h k t).0 i).1),
  λ s. (h k t).1 (λ e. s.0 (inl (sym e.0), e.1), s.1),
)

-- ---- answers that a call hands on

pub on_ok : {A E P Q : Type 0} (r : Result A E) → (P → Q) → OnOk r P → OnOk r Q
on_ok (Ok x) f h = f h
on_ok (Err e) f h = h

pub on_err : {A E P Q : Type 0} (r : Result A E) → (P → Q) → OnErr r P → OnErr r Q
on_err (Ok x) f h = h
on_err (Err e) f h = f h

pub at_err : {A E P : Type 0} (r : Result A E) → P → OnErr r P
at_err (Ok x) h = tt
at_err (Err e) h = h

-- ---- by what a connection is found from its beginning

pub added_as : (k l : RouteKey) (target : RouteDatagramTo) (v w : Routes) → k ≡ l → IsAdded l target v w → IsAdded k target v w
added_as k l target v w e h = subst (λ (x : RouteKey). IsAdded x target v w) (sym e) h

pub absent_as : (k l : RouteKey) (v : Routes) → k ≡ l → Absent l v → Absent k v
absent_as k l v e h = subst (λ (x : RouteKey). Absent x v) (sym e) h

module _ (addresses : FourTuple) where
  pub found_by_id : (id : List ℕ) (side : Side) → (length id == 0) ≡ false → conn_key addresses id side ≡ issued id
  found_by_id [] side e = absurd (eqb-false 0 0 e refl)
  found_by_id (b ∷ id) side e = refl

  pub found_by_pair : (id : List ℕ) (side : Side) → (length id == 0) ≡ true → side ≡ Server → conn_key addresses id side ≡ pair addresses
  found_by_pair [] side e s = ap (λ (x : Side). conn_key addresses [] x) s
  found_by_pair (b ∷ id) side e s = absurd (omega (arith, eqb-true (length (b ∷ id)) 0 e))

  pub found_by_remote : (id : List ℕ) (side : Side) → (length id == 0) ≡ true → side ≡ Client → conn_key addresses id side ≡ remote addresses.remote
  found_by_remote [] side e s = ap (λ (x : Side). conn_key addresses [] x) s
  found_by_remote (b ∷ id) side e s = absurd (omega (arith, eqb-true (length (b ∷ id)) 0 e))
