-- Ids are issued one after another.
use Rattle.std.proofs.Common.{◌≡◌, ◌⊎◌, ℕ, ◌+◌, arith, true, is_some, List, [], ◌∷◌, ◌++◌, length, Option, Some, None, refl, sym, ap, ◌∙◌, subst, inl, inr}
use Rattle.std.proofs.lemmas.Bool.{false≢true}
use Rattle.std.proofs.lemmas.List.{length-append}
use Rattle.qh_connections.specs.Connections.{AreConnections, HasInstead, IsTracked, PlainConnections, meta_at, with_id}
use Rattle.qh_connections.specs.Ids.{IsFreshId, IsIssued, IsSameSource}
use Rattle.qh_control.specs.declared.event.IssuedCid.{IssuedCid}
use Rattle.qh_endpoint_events.specs.Events.{AreIssued}
use Rattle.qh_routes.specs.ConnectionMeta.{PlainMeta}
use Rattle.qh_routes.specs.declared.connection_handle.ConnectionHandle.{ConnectionHandle}
use Rattle.qh_token.specs.Reset.{reset_token_of}
use Rattle.qh_endpoint_events.proofs.Sequences.{IsUnused, still_unused}

pub present : (o : Option PlainMeta) → is_some o ≡ true → (m : PlainMeta) × (o ≡ Some m)
present None h = absurd (false≢true h)
present (Some m) h = (m, refl)

-- two readings of one
pub same_meta : (o : Option PlainMeta) (m other : PlainMeta) → o ≡ Some m → o ≡ Some other → m ≡ other
same_meta o m other e f = cc

pub still_same : {G : Type 0} {cid_len : G → ℕ} {validates : G → List ℕ → Type 0} {old mid new : G} → IsSameSource cid_len validates old mid → IsSameSource cid_len validates mid new → IsSameSource cid_len validates old new
still_same one two = record { same_len = two.same_len ∙ one.same_len; kept = λ id own. two.kept id (one.kept id own) }

pub one_longer : (ids new : List IssuedCid) (cid : IssuedCid) (n : ℕ) → new ≡ ids ++ cid ∷ [] → length ids ≡ n → length new ≡ n + 1
one_longer ids new cid n is size =
    let all = length-append ids (cid ∷ []) in
    ap (λ (l : List IssuedCid). length l) is ∙ all ∙ omega (arith, size)

module _ {G : Type 0} (given : G → List (List ℕ)) (cid_len : G → ℕ) (validates : G → List ℕ → Type 0) (handle : ConnectionHandle) where
  pub one_issued : (cid : IssuedCid) (id : List ℕ) (m : PlainMeta) (old new : PlainConnections G) → meta_at old handle ≡ Some m → cid.sequence ≡ m.cids_issued → cid.id ≡ id → cid.reset_token.0 ≡ reset_token_of id
      → IsFreshId old.routes (given old.ids) (given new.ids) id → length id ≡ cid_len old.ids → validates new.ids id → IsSameSource cid_len validates old.ids new.ids → IsTracked id handle old.routes new.routes → HasInstead old new handle (Some (with_id m id)) → AreIssued given cid_len validates handle (cid ∷ []) old new
  one_issued cid id m old new there sequence is token fresh size own same tracked put =
      AreIssued.more cid [] m old new new there sequence (token ∙ ap reset_token_of (sym is))
      (subst (λ (x : List ℕ). IsFreshId old.routes (given old.ids) (given new.ids) x) (sym is) fresh)
      (subst (λ (x : List ℕ). length x ≡ cid_len old.ids) (sym is) size)
      (subst (validates new.ids) (sym is) own) same
      (subst (λ (x : List ℕ). IsTracked x handle old.routes new.routes) (sym is) tracked)
      (subst (λ (x : List ℕ). HasInstead old new handle (Some (with_id m x))) (sym is) put) (AreIssued.none new)

  pub issued_then : {ids : List IssuedCid} {old mid : PlainConnections G} → AreIssued given cid_len validates handle ids old mid → (others : List IssuedCid) (new : PlainConnections G) → AreIssued given cid_len validates handle others mid new
      → AreIssued given cid_len validates handle (ids ++ others) old new
  issued_then (AreIssued.none c) others new then = then
  issued_then (AreIssued.more cid cids m old mid last there sequence token fresh size own same tracked put rest) others new then =
      AreIssued.more cid (cids ++ others) m old mid new there sequence token fresh size own same tracked put (issued_then rest others new then)

  -- each of them has taken a sequence
  pub more_issued : {ids : List IssuedCid} {old new : PlainConnections G} → AreIssued given cid_len validates handle ids old new → (m : PlainMeta) → meta_at old handle ≡ Some m
      → (n : PlainMeta) × (meta_at new handle ≡ Some n) × (n.cids_issued ≡ m.cids_issued + length ids)
  more_issued (AreIssued.none c) m is = (m, is, omega arith)
  more_issued (AreIssued.more cid cids p old mid new there sequence token fresh size own same tracked put rest) m is =
      let r = more_issued rest (with_id p cid.id) put.there in
      let same : p.cids_issued ≡ m.cids_issued = ap (λ (q : PlainMeta). q.cids_issued) (same_meta (meta_at old handle) p m there is) in
      (r.0, r.1, omega (arith, r.2, same))

  -- no sequence of the connection's that wasn't given yet has an id
  abbrev pub HasUnused : PlainConnections G → Type 0
  HasUnused c = (m : PlainMeta) → meta_at c handle ≡ Some m → IsUnused m

  pub unused_of : (c : PlainConnections G) → AreConnections c → HasUnused c
  unused_of c ok m is n above = ok.below handle m n is above

  unused_then : (m : PlainMeta) (id : List ℕ) (old new : PlainConnections G) → meta_at old handle ≡ Some m → HasInstead old new handle (Some (with_id m id)) → HasUnused old → HasUnused new
  unused_then m id old new there put unused q is = subst IsUnused (same_meta (meta_at new handle) (with_id m id) q put.there is) (still_unused m id (unused m there))

  -- the one that was issued last
  pub record HasLast (ids : List IssuedCid) (old new : PlainConnections G) : Type 0 where
    pub front : List IssuedCid
    pub before : PlainConnections G
    pub id : List ℕ
    pub m : PlainMeta
    pub are : AreIssued given cid_len validates handle front old before
    pub size : length ids ≡ length front + 1
    pub there : meta_at before handle ≡ Some m
    pub unused : IsUnused m
    pub free : IsIssued before.routes id → ⊥
    pub tracked : IsTracked id handle before.routes new.routes
    pub put : HasInstead before new handle (Some (with_id m id))

  pub last_issued : {ids : List IssuedCid} {old new : PlainConnections G} → AreIssued given cid_len validates handle ids old new → HasUnused old → ((length ids ≡ 0) × (old ≡ new)) ⊎ HasLast ids old new
  last_issued (AreIssued.none c) unused = inl (refl, refl)
  last_issued (AreIssued.more cid cids m old mid new there sequence token fresh size own same tracked put rest) unused = elim (last_issued rest (unused_then m cid.id old mid there put unused)) [
    | inl none ↦ inr (record {
      front = [];
      before = old;
      id = cid.id;
      m = m;
      are = AreIssued.none old;
      size = omega (arith, none.0);
      there = there;
      unused = unused m there;
      free = fresh.free;
      tracked = subst (λ (c : PlainConnections G). IsTracked cid.id handle old.routes c.routes) none.1 tracked;
      put = subst (λ (c : PlainConnections G). HasInstead old c handle (Some (with_id m cid.id))) none.1 put;
    })
    | inr r ↦ inr (record {
      front = cid ∷ r.front;
      before = r.before;
      id = r.id;
      m = r.m;
      are = AreIssued.more cid r.front m old mid r.before there sequence token fresh size own same tracked put r.are;
      size = omega (arith, r.size);
      there = r.there;
      unused = r.unused;
      free = r.free;
      tracked = r.tracked;
      put = r.put;
    })
  ]

  -- after one
  pub one_put : {cid : IssuedCid} {old new : PlainConnections G} → AreIssued given cid_len validates handle (cid ∷ []) old new → (m : PlainMeta) → meta_at old handle ≡ Some m → HasInstead old new handle (Some (with_id m cid.id))
  one_put (AreIssued.more cid [] p old mid new there sequence token fresh size own same tracked put (AreIssued.none c)) m is =
      subst (λ (q : PlainMeta). HasInstead old mid handle (Some (with_id q cid.id))) (same_meta (meta_at old handle) p m there is) put
