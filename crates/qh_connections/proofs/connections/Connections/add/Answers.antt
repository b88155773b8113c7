use Rattle.std.proofs.Common.{◌≡◌, ◌+◌, ◌-◌, ◌^◌, min, None, sym, ap, ◌∙◌}
use Rattle.std.specs.BTreeMap.{insert_entry}
use Rattle.std.specs.Ordering.{nat_cmp}
use Rattle.slab.specs.Slab.{Slab, get}
use Rattle.qh_connections.specs.Connections.{PlainConnections, first_meta, meta_at}
use Rattle.qh_routes.specs.ConnectionMeta.{PlainMeta}
use Rattle.qh_routes.specs.declared.connection_handle.ConnectionHandle.{ConnectionHandle}
use Rattle.qh_connections.proofs.Kept.{are_kept, same_kept}
use Rattle.qh_connections.proofs.Slots.{inserted}
use Rattle.qh_connections.proofs.Tracked.{are_added}
use Rattle.qh_connections.proofs.connections.Connections.add.Goals as goal

pub invariant_of-self-in_err-insert_both : goal.invariant_of-self-in_err-insert_both
invariant_of-self-in_err-insert_both g c =
    let old : PlainConnections g.row.G.Denot = record { routes = c.self.inside.index; metas = c.self.inside.metas.slots; ids = c.self.inside.ids } in
    let new : PlainConnections g.row.G.Denot = record { routes = c.insert_both.new.self; metas = c.reserve.new.self.slots; ids = c.self.inside.ids } in
    are_kept old new c.self.invariant (λ h. ap (λ (s : Slab PlainMeta). get s h.0) c.reserve.ensures.rest_kept) (same_kept c.self.inside.index c.insert_both.new.self c.in_err-insert_both.ensures.unchanged)

pub invariant_of-self-2 : goal.invariant_of-self-2
invariant_of-self-2 g c =
    let old : PlainConnections g.row.G.Denot = record { routes = c.self.inside.index; metas = c.self.inside.metas.slots; ids = c.self.inside.ids } in
    let new : PlainConnections g.row.G.Denot = record { routes = c.insert_both.new.self; metas = c.insert_reserved.new.self.slots; ids = c.self.inside.ids } in
    let handle : ConnectionHandle = record { 0 = c.vacant_key.result } in
    let room = c.reserve.ensures.rest_kept in
    let free : meta_at old handle ≡ None = sym (ap (λ (s : Slab PlainMeta). get s handle.0) room) ∙ c.vacant_key.ensures.vacant in
    let meta : c.put_id.new.self ≡ first_meta c.args.side c.args.init_cid c.args.local_id c.args.addresses =
    c.in_ok-put_id.ensures.after ∙ ap (λ (m : PlainMeta). record m { cids_issued = min (m.cids_issued + 1) (2 ^ 64 - 1); loc_cids = insert_entry nat_cmp m.loc_cids 0 c.args.local_id }) c.new-meta.ensures in
    let added = c.in_ok-insert_both.ensures.added in
    are_added old new handle c.args.side c.args.init_cid c.args.local_id c.args.addresses c.self.invariant free (rw (sym c.self.view_is) at c.requires) added.0 added.1 added.2
    (inserted c.self.inside.metas c.reserve.new.self c.insert_reserved.new.self handle c.insert_reserved.result c.put_id.new.self (first_meta c.args.side c.args.init_cid c.args.local_id c.args.addresses) c.self.inside.index c.insert_both.new.self c.self.inside.ids c.self.inside.ids
    room (c.insert_reserved.ensures.key ∙ sym c.vacant_key.ensures.value) meta c.insert_reserved.ensures.updates)
