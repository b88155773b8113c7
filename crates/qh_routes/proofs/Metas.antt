-- By what a connection may be found, when its ids or its reset token change.
use Rattle.std.proofs.Common.{◌≡◌, ◌⊎◌, ◌↔◌, ℕ, Bool, true, false, cond, List, [], ◌∷◌, ◌++◌, Option, Some, None, refl, sym, ap, subst, inl, inr}
use Rattle.std.specs.declared.cmp.Ordering.{Ordering}
use Rattle.std.specs.declared.cmp.Ordering.TheVariants.{Less, Equal, Greater}
use Rattle.std.specs.declared.net.socket_addr.SocketAddr.{SocketAddr}
use Rattle.std.specs.BTreeMap.{insert_entry, is_at}
use Rattle.std.specs.Cmp.{nat_cmp_is}
use Rattle.std.specs.Map.{lookup, remove_entry, values_of}
use Rattle.std.specs.Ordering.{is_eq, match_ordering, nat_cmp}
use Rattle.qh_base.specs.declared.shared.ResetToken.{ResetToken}
use Rattle.qh_spec.specs.Lists.{In}
use Rattle.qh_spec.proofs.Members.{in_left, in_right, in_split}
use Rattle.qh_routes.specs.ConnectionMeta.{PlainMeta, initial_keys, issued_keys, keys_of_meta, token_keys}
use Rattle.qh_routes.specs.Routes.{RouteKey, address_keys, issued}
use Rattle.qh_routes.proofs.Membership.{joins_front, joins_under}
use Rattle.qh_routes.proofs.Parts.{not_some}

-- one more than another list
abbrev pub IsWith : RouteKey → List RouteKey → List RouteKey → Type 0
IsWith key keys others = (k : RouteKey) → In k others ↔ ((k ≡ key) ⊎ In k keys)

with_head : (key : RouteKey) (keys : List RouteKey) → IsWith key keys (key ∷ keys)
with_head key keys k = (λ h. elim h [ inl e ↦ inl (sym e) | inr a ↦ inr a ], λ s. elim s [ inl e ↦ inl (sym e) | inr a ↦ inr a ])

with_behind : (key other : RouteKey) (keys others : List RouteKey) → IsWith key keys others → IsWith key (other ∷ keys) (other ∷ others)
with_behind key other keys others w k = (
  λ h. elim h [ inl e ↦ inr (inl e) | inr b ↦ elim ((w k).0 b) [ inl e ↦ inl e | inr c ↦ inr (inr c) ] ],
  λ s. elim s [ inl e ↦ inr ((w k).1 (inl e)) | inr b ↦ elim b [ inl e ↦ inl e | inr c ↦ inr ((w k).1 (inr c)) ] ],
)

with_within : (key : RouteKey) (keys others front behind : List RouteKey) → IsWith key keys others → IsWith key (front ++ (keys ++ behind)) (front ++ (others ++ behind))
with_within key keys others front behind w k = (
  λ h. elim (in_split k front (others ++ behind) h) [
    | inl a ↦ inr (in_left k front (keys ++ behind) a)
    | inr b ↦ elim (in_split k others behind b) [
      | inl c ↦ elim ((w k).0 c) [ inl e ↦ inl e | inr d ↦ inr (in_right k front (keys ++ behind) (in_left k keys behind d)) ]
      | inr c ↦ inr (in_right k front (keys ++ behind) (in_right k keys behind c))
    ]
  ],
  λ s. elim s [
    | inl e ↦ in_right k front (others ++ behind) (in_left k others behind ((w k).1 (inl e)))
    | inr b ↦ elim (in_split k front (keys ++ behind) b) [
      | inl a ↦ in_left k front (others ++ behind) a
      | inr c ↦ elim (in_split k keys behind c) [
        | inl d ↦ in_right k front (others ++ behind) (in_left k others behind ((w k).1 (inr d)))
        | inr d ↦ in_right k front (others ++ behind) (in_right k others behind d)
      ]
    ]
  ],
)

abbrev ids_of : List (ℕ × List ℕ) → List RouteKey
ids_of es = issued_keys (values_of es)

by_order : (o : Ordering) (n : ℕ) (id : List ℕ) (e : ℕ × List ℕ) (es : List (ℕ × List ℕ)) (rest : List (ℕ × List ℕ)) → cond (is_eq o) (Some e.1) (lookup (is_at (nat_cmp n)) es) ≡ None
    → IsWith (issued id) (ids_of es) (ids_of rest) → IsWith (issued id) (ids_of (e ∷ es)) (ids_of (match_ordering o ((n, id) ∷ e ∷ es) ((e.0, id) ∷ es) (e ∷ rest)))
by_order Less n id e es rest h w = with_head (issued id) (ids_of (e ∷ es))
by_order Equal n id e es rest h w = not_some e.1 (sym h)
by_order Greater n id e es rest h w = with_behind (issued id) (issued e.1) (ids_of es) (ids_of rest) w

none_later : (o : Ordering) (n : ℕ) (e : ℕ × List ℕ) (es : List (ℕ × List ℕ)) → cond (is_eq o) (Some e.1) (lookup (is_at (nat_cmp n)) es) ≡ None → lookup (is_at (nat_cmp n)) es ≡ None
none_later Less n e es h = h
none_later Equal n e es h = not_some e.1 (sym h)
none_later Greater n e es h = h

ids_put : (n : ℕ) (id : List ℕ) (es : List (ℕ × List ℕ)) → lookup (is_at (nat_cmp n)) es ≡ None → IsWith (issued id) (ids_of es) (ids_of (insert_entry nat_cmp es n id))
ids_put n id [] h = with_head (issued id) []
ids_put n id (e ∷ es) h =
    by_order (nat_cmp n e.0) n id e es (insert_entry nat_cmp es n id) h (ids_put n id es (none_later (nat_cmp n e.0) n e es h))

by_place : (b : Bool) (n : ℕ) (id : List ℕ) (e : ℕ × List ℕ) (es : List (ℕ × List ℕ)) (rest : List (ℕ × List ℕ)) → cond b (Some e.1) (lookup (is_at (nat_cmp n)) es) ≡ Some id
    → (lookup (is_at (nat_cmp n)) es ≡ Some id → IsWith (issued id) (ids_of rest) (ids_of es)) → IsWith (issued id) (ids_of (cond b es (e ∷ rest))) (ids_of (e ∷ es))
by_place true n id e es rest h w =
    let same : e.1 ≡ id = cc in
    subst (λ (x : List ℕ). IsWith (issued x) (ids_of es) (issued e.1 ∷ ids_of es)) same (with_head (issued e.1) (ids_of es))
by_place false n id e es rest h w = with_behind (issued id) (issued e.1) (ids_of rest) (ids_of es) (w h)

ids_taken : (n : ℕ) (id : List ℕ) (es : List (ℕ × List ℕ)) → lookup (is_at (nat_cmp n)) es ≡ Some id → IsWith (issued id) (ids_of (remove_entry (is_at (nat_cmp n)) es)) (ids_of es)
ids_taken n id [] h = not_some id h
ids_taken n id (e ∷ es) h = by_place (is_at (nat_cmp n) e.0) n id e es (remove_entry (is_at (nat_cmp n)) es) h (ids_taken n id es)

pub keys_put : (m : PlainMeta) (issued_now n : ℕ) (id : List ℕ) → lookup (is_at (nat_cmp n)) m.loc_cids ≡ None
    → IsWith (issued id) (keys_of_meta m) (keys_of_meta (record m { cids_issued = issued_now; loc_cids = insert_entry nat_cmp m.loc_cids n id }))
keys_put m issued_now n id h =
    with_within (issued id) (ids_of m.loc_cids) (ids_of (insert_entry nat_cmp m.loc_cids n id)) (initial_keys m.side m.init_cid) (address_keys m.addresses ++ token_keys m.reset_token) (ids_put n id m.loc_cids h)

pub keys_taken : (m : PlainMeta) (n : ℕ) (id : List ℕ) → lookup (is_at (nat_cmp n)) m.loc_cids ≡ Some id
    → IsWith (issued id) (keys_of_meta (record m { loc_cids = remove_entry (is_at (nat_cmp n)) m.loc_cids })) (keys_of_meta m)
keys_taken m n id h =
    with_within (issued id) (ids_of (remove_entry (is_at (nat_cmp n)) m.loc_cids)) (ids_of m.loc_cids) (initial_keys m.side m.init_cid) (address_keys m.addresses ++ token_keys m.reset_token) (ids_taken n id m.loc_cids h)

pub keys_reset : (m : PlainMeta) (token : Option (SocketAddr × ResetToken)) → (k : RouteKey) → In k (keys_of_meta (record m { reset_token = token })) ↔ (In k (token_keys token) ⊎ In k (keys_of_meta (record m { reset_token = None })))
keys_reset m token k =
    let first = initial_keys m.side m.init_cid in
    let ids = ids_of m.loc_cids in
    let path = address_keys m.addresses in
    let tokens = token_keys token in
    let j = joins_under first (ids ++ path) tokens (ids ++ (path ++ tokens)) (joins_under ids path tokens (path ++ tokens) (joins_front path tokens)) in
    let l = joins_under first (ids ++ path) [] (ids ++ (path ++ [])) (joins_under ids path [] (path ++ []) (joins_front path [])) in (
      λ h. elim ((j k).0 h) [ inl a ↦ inr ((l k).1 (inl a)) | inr b ↦ inl b ],
      λ s. elim s [ inl b ↦ (j k).1 (inr b) | inr a ↦ elim ((l k).0 a) [ inl c ↦ (j k).1 (inl c) | inr n ↦ absurd n ] ],
    )

-- ---- an id that is taken back

nat_cmp_same : (n : ℕ) → nat_cmp n n ≡ Equal
nat_cmp_same n = sym (nat_cmp_is n n Equal refl)

taken_by : (o : Ordering) (n : ℕ) (id : List ℕ) (e : ℕ × List ℕ) (es rest : List (ℕ × List ℕ)) → nat_cmp n e.0 ≡ o → cond (is_eq o) (Some e.1) (lookup (is_at (nat_cmp n)) es) ≡ None → nat_cmp n n ≡ Equal
    → (lookup (is_at (nat_cmp n)) es ≡ None → remove_entry (is_at (nat_cmp n)) rest ≡ es)
    → remove_entry (is_at (nat_cmp n)) (match_ordering o ((n, id) ∷ e ∷ es) ((e.0, id) ∷ es) (e ∷ rest)) ≡ e ∷ es
taken_by Less n id e es rest is h same w = rw same refl
taken_by Equal n id e es rest is h same w = not_some e.1 (sym h)
taken_by Greater n id e es rest is h same w = rw is (ap (λ (z : List (ℕ × List ℕ)). e ∷ z) (w h))

pub put_taken : (n : ℕ) (id : List ℕ) (es : List (ℕ × List ℕ)) → lookup (is_at (nat_cmp n)) es ≡ None → remove_entry (is_at (nat_cmp n)) (insert_entry nat_cmp es n id) ≡ es
put_taken n id [] h = rw (nat_cmp_same n) refl
put_taken n id (e ∷ es) h = taken_by (nat_cmp n e.0) n id e es (insert_entry nat_cmp es n id) refl h (nat_cmp_same n) (put_taken n id es)
