use Rattle.std.specs.Map.{values_of}
use Rattle.qh_routes.specs.declared.connection_index.RouteDatagramTo.TheVariants.{Connection}
use Rattle.qh_routes.specs.ConnectionMeta.{issued_keys}
use Rattle.qh_routes.specs.Routes.{Routes, AreRemovedOf}
use Rattle.qh_routes.proofs.connection_index.ConnectionIndex.remove_ids.Given as goal

abbrev pub invariant-loop-id : goal.invariant-loop-id
invariant-loop-id l =
    (final : Routes) → AreRemovedOf (issued_keys l.id-iterator) (Connection l.handle) l.self final → AreRemovedOf (issued_keys (values_of l.meta.loc_cids)) (Connection l.handle) l.fn.self final
