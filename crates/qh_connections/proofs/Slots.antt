-- What is kept of the connections after a write of one.
use Rattle.std.proofs.Common.{◌≡◌, ℕ, List, Option, Some, None, slice_index_or, slice_set, refl, sym, ap, ◌∙◌, inl, inr}
use Rattle.std.specs.Prelude.{IsSome}
use Rattle.std.proofs.lemmas.Bool.{cases_eq}
use Rattle.slab.specs.Slab.{Slab, Updates, get, with_value}
use Rattle.slab.proofs.SlabLemmas.{Updates-with_value}
use Rattle.qh_connections.specs.Connections.{HasInstead, KeepsMetas, PlainConnections, id_at, meta_at}
use Rattle.qh_routes.specs.ConnectionMeta.{PlainMeta}
use Rattle.qh_routes.specs.Routes.{Routes}
use Rattle.qh_routes.specs.declared.connection_handle.ConnectionHandle.{ConnectionHandle}

present : (o : Option PlainMeta) (m : PlainMeta) → o ≡ Some m → IsSome o
present None m e = cc
present (Some x) m e = refl

-- one is written through `get_mut`
pub written : {G : Type 0} (s : Slab PlainMeta) (handle : ConnectionHandle) (was real now : PlainMeta) (u v : Routes) (a b : G) → get s handle.0 ≡ Some was → real ≡ now
    → HasInstead {G = G} (record { routes = u; metas = s.slots; ids = a }) (record { routes = v; metas = slice_set s.slots handle.0 (Some real); ids = b }) handle (Some now)
written s handle was real now u v a b there same =
    let is : Updates s (with_value s handle.0 real) handle.0 (Some real) = Updates-with_value s handle.0 real (present (get s handle.0) was there) in
    record { there = is.changed ∙ ap (λ (m : PlainMeta). Some m) same; others = λ other n. is.others other.0 n }

-- one is inserted where room was made before
pub inserted : {G : Type 0} (s mid new : Slab PlainMeta) (handle : ConnectionHandle) (key : ℕ) (real now : PlainMeta) (u v : Routes) (a b : G) → mid ≡ record s { capacity = mid.capacity } → key ≡ handle.0 → real ≡ now → Updates mid new key (Some real)
    → HasInstead {G = G} (record { routes = u; metas = s.slots; ids = a }) (record { routes = v; metas = new.slots; ids = b }) handle (Some now)
inserted s mid new handle key real now u v a b room at same is = record {
  there = ap (get new) (sym at) ∙ is.changed ∙ ap (λ (m : PlainMeta). Some m) same;
  others = λ other n. is.others other.0 (λ e. n (e ∙ at)) ∙ ap (λ (x : Slab PlainMeta). get x other.0) room;
}

-- what was there is written
pub same_metas : {G : Type 0} (old new : PlainConnections G) (handle : ConnectionHandle) (m : PlainMeta) → HasInstead old new handle (Some m) → meta_at old handle ≡ Some m → KeepsMetas old new
same_metas old new handle m put there h = elim (cases_eq h.0 handle.0) [
  | inl e ↦ ap (λ (n : ℕ). slice_index_or new.metas n None) e ∙ put.there ∙ sym there ∙ sym (ap (λ (n : ℕ). slice_index_or old.metas n None) e)
  | inr n ↦ put.others h n
]

-- two readings of one
pub same_meta : (o : Option PlainMeta) (m other : PlainMeta) → o ≡ Some m → o ≡ Some other → m ≡ other
same_meta o m other e f = cc

pub same_id : (m other : PlainMeta) (sequence : ℕ) (id x : List ℕ) → m ≡ other → id_at m sequence ≡ Some id → id_at other sequence ≡ Some x → id ≡ x
same_id m other sequence id x same e f = let g : Some id ≡ Some x = sym e ∙ ap (λ (p : PlainMeta). id_at p sequence) same ∙ f in cc
