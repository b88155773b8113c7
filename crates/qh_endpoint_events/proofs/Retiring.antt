-- An id is retired, and another takes its place.
use Rattle.std.proofs.Common.{◌≡◌, ℕ, true, false, is_some, List, Option, Some, None, refl, sym, ◌∙◌}
use Rattle.std.proofs.lemmas.Bool.{false≢true}
use Rattle.qh_connections.specs.Connections.{HasInstead, IsKept, PlainConnections, id_at, without_id}
use Rattle.qh_endpoint_events.specs.Events.{IsRetired}
use Rattle.qh_routes.specs.ConnectionMeta.{PlainMeta}
use Rattle.qh_routes.specs.Routes.{IsRemovedOf, issued}
use Rattle.qh_routes.specs.declared.connection_handle.ConnectionHandle.{ConnectionHandle}
use Rattle.qh_routes.specs.declared.connection_index.RouteDatagramTo.TheVariants.{Connection}

pub no_id : (o : Option (List ℕ)) → is_some o ≡ false → o ≡ None
no_id None h = refl
no_id (Some id) h = absurd (false≢true (sym h))

pub some_id : (o : Option (List ℕ)) → is_some o ≡ true → (id : List ℕ) × (o ≡ Some id)
some_id None h = absurd (false≢true h)
some_id (Some id) h = (id, refl)

module _ {G : Type 0} (given : G → List (List ℕ)) (cid_len : G → ℕ) (validates : G → List ℕ → Type 0) (handle : ConnectionHandle) (m : PlainMeta) (sequence : ℕ) (id : List ℕ) (had : id_at m sequence ≡ Some id) where
  -- from what is kept of the connections, but for the source of ids
  pub retired_of : (old after new : PlainConnections G) → IsKept old after → HasInstead after new handle (Some (without_id m sequence)) → IsRemovedOf (issued id) (Connection handle) after.routes new.routes → new.ids ≡ after.ids
      → IsRetired given cid_len validates handle m sequence id (record old { ids = after.ids }) new
  retired_of old after new kept put removed ids = record {
    there = had;
    routes = λ k t. (λ i. let r = (removed k t).0 i in (r.0, kept.routes.none_new k t r.1), λ i. (removed k t).1 (i.0, kept.routes.kept k t i.1));
    meta = record { there = put.there; others = λ other n. put.others other n ∙ kept.metas other };
    ids = ids;
  }
