-- Ids that were issued are taken back, the last one first.
use Rattle.std.proofs.Common.{◌≡◌, ◌⊎◌, ℕ, ◌+◌, ◌≤◌, arith, List, [], ◌∷◌, length, Some, None, slice_index_or, sym, ap, ◌∙◌, subst, inl, inr}
use Rattle.std.proofs.lemmas.Bool.{cases_eq}
use Rattle.qh_connections.specs.Connections.{AreConnections, HasInstead, IsKept, IsTracked, KeepsMetas, PlainConnections, id_at, meta_at, with_id}
use Rattle.qh_connections.specs.Ids.{IsIssued}
use Rattle.qh_control.specs.declared.event.IssuedCid.{IssuedCid}
use Rattle.qh_endpoint_events.specs.Events.{AreIssued}
use Rattle.qh_routes.specs.ConnectionMeta.{PlainMeta}
use Rattle.qh_routes.specs.Routes.{AreSameRoutes, IsRemovedOf, RouteKey, Routes, issued}
use Rattle.qh_routes.specs.declared.connection_handle.ConnectionHandle.{ConnectionHandle}
use Rattle.qh_routes.specs.declared.connection_index.RouteDatagramTo.{RouteDatagramTo}
use Rattle.qh_routes.specs.declared.connection_index.RouteDatagramTo.TheVariants.{Connection}
use Rattle.qh_routes.proofs.Membership.{at_key}
use Rattle.qh_spec.specs.Lists.{In}
use Rattle.qh_endpoint_events.proofs.Issuing.{last_issued, unused_of}

tracked_back : (id : List ℕ) (handle : ConnectionHandle) (old new : Routes) → IsTracked id handle old new → (k : RouteKey) (t : RouteDatagramTo) → In (k, t) new
    → ((k ≡ issued id) × (t ≡ Connection handle)) ⊎ In (k, t) old
tracked_back [] handle old new same k t i = inr (subst (λ (r : Routes). In (k, t) r) same i)
tracked_back (b ∷ id) handle old new added k t i = elim ((added k t).0 i) [ inl s ↦ inl s | inr o ↦ inr o.1 ]

tracked_kept : (id : List ℕ) (handle : ConnectionHandle) (old new : Routes) → IsTracked id handle old new → (IsIssued old id → ⊥) → (k : RouteKey) (t : RouteDatagramTo) → In (k, t) old → In (k, t) new
tracked_kept [] handle old new same free k t i = subst (λ (r : Routes). In (k, t) r) (sym same) i
tracked_kept (b ∷ id) handle old new added free k t i = (added k t).1 (inr (λ e. free (t, at_key k (issued (b ∷ id)) t old e i), i))

-- the route of the id is taken away again
untracked : (id : List ℕ) (handle : ConnectionHandle) (old mid now next : Routes) → (IsIssued old id → ⊥) → IsTracked id handle old mid → AreSameRoutes mid now → IsRemovedOf (issued id) (Connection handle) now next
    → AreSameRoutes old next
untracked id handle old mid now next free tracked same removed = record {
  kept = λ k t i. (removed k t).1 (λ e. free (t, at_key k (issued id) t old e.0 i), same.kept k t (tracked_kept id handle old mid tracked free k t i));
  none_new = λ k t i.
      let r = (removed k t).0 i in
      elim (tracked_back id handle old mid tracked k t (same.none_new k t r.1)) [ inl s ↦ absurd (r.0 s) | inr o ↦ o ];
}

module _ {G : Type 0} where
  -- what is kept of the connection is what it was
  metas_back : (old mid now next : PlainConnections G) (handle : ConnectionHandle) (m with : PlainMeta) → meta_at old handle ≡ Some m → HasInstead old mid handle (Some with) → KeepsMetas mid now → HasInstead now next handle (Some m)
      → KeepsMetas old next
  metas_back old mid now next handle m with there put same back h = elim (cases_eq h.0 handle.0) [
    | inl e ↦ ap (λ (n : ℕ). slice_index_or next.metas n None) e ∙ back.there ∙ sym there ∙ sym (ap (λ (n : ℕ). slice_index_or old.metas n None) e)
    | inr n ↦ back.others h n ∙ same h ∙ put.others h n
  ]

module _ {G : Type 0} (given : G → List (List ℕ)) (cid_len : G → ℕ) (validates : G → List ℕ → Type 0) (handle : ConnectionHandle) where
  -- what taking one back does
  abbrev pub TakesBack : (now next : PlainConnections G) → Type 0
  TakesBack now next = (m : PlainMeta) (id : List ℕ) → meta_at now handle ≡ Some (with_id m id) → id_at m m.cids_issued ≡ None
      → HasInstead now next handle (Some m) × IsRemovedOf (issued id) (Connection handle) now.routes next.routes

  -- of the ids that were issued, count in number, the last ones are taken back
  abbrev pub AreTaken : (start now : PlainConnections G) (count taken : ℕ) → Type 0
  AreTaken start now count taken = (ids : List IssuedCid) (old mid : PlainConnections G) → AreConnections old → AreIssued given cid_len validates handle ids old mid → IsKept mid start → length ids ≡ count
      → (left : List IssuedCid) × (at : PlainConnections G) × AreIssued given cid_len validates handle left old at × IsKept at now × (length left + taken ≡ count)

  pub none_taken : (start : PlainConnections G) (count : ℕ) → AreTaken start start count 0
  none_taken start count ids old mid ok are kept size = (ids, mid, are, kept, omega (arith, size))

  pub one_taken : (start now next : PlainConnections G) (count taken : ℕ) → AreTaken start now count taken → taken + 1 ≤ count → TakesBack now next → AreTaken start next count (taken + 1)
  one_taken start now next count taken are_taken below takes ids old mid ok are kept size =
      let r = are_taken ids old mid ok are kept size in
      elim (last_issued given cid_len validates handle r.2 (unused_of given cid_len validates handle old ok)) [
        | inl none ↦ absurd (omega (arith, none.0, r.4, below))
        | inr last ↦
            let back = takes last.m last.id (r.3.metas handle ∙ last.put.there) (last.unused last.m.cids_issued (omega arith)) in (
              last.front,
              last.before,
              last.are,
              record {
                routes = untracked last.id handle last.before.routes r.1.routes now.routes next.routes last.free last.tracked r.3.routes back.1;
                metas = metas_back last.before r.1 now next handle last.m (with_id last.m last.id) last.there last.put r.3.metas back.0;
              },
              omega (arith, last.size, r.4),
            )
      ]

  pub all_taken : (start now : PlainConnections G) (count taken : ℕ) → AreTaken start now count taken → count ≤ taken
      → (ids : List IssuedCid) (old mid : PlainConnections G) → AreConnections old → AreIssued given cid_len validates handle ids old mid → IsKept mid start → length ids ≡ count → IsKept old now
  all_taken start now count taken are_taken above ids old mid ok are kept size =
      let r = are_taken ids old mid ok are kept size in
      elim (last_issued given cid_len validates handle r.2 (unused_of given cid_len validates handle old ok)) [
        | inl none ↦ subst (λ (c : PlainConnections G). IsKept c now) (sym none.1) r.3
        | inr last ↦ absurd (omega (arith, last.size, r.4, above))
      ]
