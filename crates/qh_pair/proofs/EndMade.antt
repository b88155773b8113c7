-- An end that calls made another goes on standing to all that was done with it.
use Rattle.std.proofs.Common.{◌≡◌, true, ℕ, Option, Some, None, List, [], ◌++◌, refl, sym, ◌∙◌, ap, subst, append_assoc, append-nil, length}
use Rattle.std.specs.Prelude.{is_some}
use Rattle.std.proofs.lemmas.Bool.{false≢true}
use Rattle.qh_conn.specs.Same.{IsSameConnection}
use Rattle.qh_conn.specs.Whole.{CarriesOnBy, IsWhole, Stands as ConnStands}
use Rattle.qh_conn.specs.Parameters.{IsSaid}
use Rattle.qh_conn.specs.declared.config.ConnConfig.{ConnConfig}
use Rattle.qh_handshake.specs.GoesOn.{GoesOn}
use Rattle.qh_handshake.specs.declared.handshake.Handshake.{Handshake}
use Rattle.qh_hello.specs.declared.transport_parameters.TransportParameters.{TransportParameters}
use Rattle.qh_packet.specs.Session.{PlainKeys, plain_accepts, plain_sealed}
use Rattle.qh_spec.specs.Transcript.{Act}
use Rattle.qh_spec.specs.declared.sides.Side.{Side}
use Rattle.qh_pair.specs.EndCalls.{IsMadeBy}
use Rattle.qh_pair.specs.Ends.{End, HasKept, IsEndOf, Stands, StandsSince, key_of, own_id}
use Rattle.qh_pair.specs.declared.ends.Ids.{Ids}

-- one end stays that end
pub stays : (side : Side) (ids : Ids) (config : ConnConfig) (c d : End) → IsSameConnection key_of c d → IsWhole d → IsEndOf side ids config c → IsEndOf side ids config d
stays side ids config c d same whole e = record {
  as_long = e.as_long;
  config_is = same.config ∙ e.config_is;
  side_is = same.side ∙ e.side_is;
  local_is = same.local_id ∙ e.local_is;
  original_is = same.handshake.original_id ∙ e.original_is;
  said = subst (λ (z : TransportParameters). IsSaid config side (own_id side ids) ids.key z) (sym same.handshake.parameters) e.said;
  whole = whole;
}

known_goes : (h g : Handshake) (o : Option TransportParameters) → h.peer ≡ o → GoesOn h g → is_some h.peer ≡ true → is_some g.peer ≡ true
known_goes h g None e on some = absurd (false≢true (sym (ap is_some e) ∙ some))
known_goes h g (Some p) e on some = ap is_some (on.peer p e)

-- it knows its peer still
pub known_made : (c d : End) (acts : List Act) → IsMadeBy c d acts → is_some c.handshake.peer ≡ true → is_some d.handshake.peer ≡ true
known_made c d acts made = known_goes c.handshake d.handshake c.handshake.peer refl made.same.handshake

-- it stands to these acts more
pub since_on : (side : Side) (c d : End) (t acts : List Act) → CarriesOnBy plain_accepts plain_sealed c d acts → StandsSince side c t → StandsSince side d (t ++ acts)
since_on side c d t acts carries s = record {
  hello = s.hello;
  before = s.before;
  since = s.since ++ acts;
  are = ap (λ (z : List Act). z ++ acts) s.are ∙ append_assoc s.before s.since acts;
  dropped = s.dropped;
  stands = carries s.hello s.since s.stands;
}

-- where calls leave an end that stood somewhere
pub stands_on : (side : Side) (ids : Ids) (config : ConnConfig) (c d : End) (t acts : List Act) → IsMadeBy c d acts
    → Stands side ids config (Some c) t → Stands side ids config (Some d) (t ++ acts)
stands_on side ids config c d t acts made s =
    let of : IsEndOf side ids config c = s.0 in
    let own = subst (λ (z : Side). HasKept z (length ids.client) c t) (sym of.side_is) s.2 in
    let kept : HasKept c.core.side (length ids.client) d (t ++ acts)
    = made.kept (length ids.client) t (ap length of.local_is ∙ of.as_long) (subst (λ (z : Side). StandsSince z c t) (sym of.side_is) s.1) own in (
      stays side ids config c d made.same made.whole of,
      since_on side c d t acts made.carries s.1,
      subst (λ (z : Side). HasKept z (length ids.client) d (t ++ acts)) of.side_is kept,
    )

-- the same, where nothing was added
pub still_on : (side : Side) (ids : Ids) (config : ConnConfig) (c d : End) (t : List Act) → IsMadeBy c d [] → Stands side ids config (Some c) t → Stands side ids config (Some d) t
still_on side ids config c d t made s = subst (λ (z : List Act). Stands side ids config (Some d) z) (append-nil t) (stands_on side ids config c d t [] made s)

-- what `same_connection` says of one call behind another
abbrev pub StaysSame : Type 0
StaysSame = (key : PlainKeys → List ℕ) (old mid new : End) → IsSameConnection key old mid → IsSameConnection key mid new → IsSameConnection key old new

-- calls, and then others
pub made_both : StaysSame → (a b c : End) (x y : List Act) → IsMadeBy a b x → IsMadeBy b c y → IsMadeBy a c (x ++ y)
made_both both a b c x y f g = record {
  same = both key_of a b c f.same g.same;
  whole = g.whole;
  carries = λ hello t s.
      subst (λ (z : List Act). ConnStands plain_accepts plain_sealed hello c z) (append_assoc t x y) (g.carries hello (t ++ x) (f.carries hello t s));
  kept = λ k t long s h.
      let mid : HasKept a.core.side k b (t ++ x) = f.kept k t long s h in
      let next : HasKept b.core.side k c ((t ++ x) ++ y) = g.kept k (t ++ x) (ap length f.same.local_id ∙ long)
      (subst (λ (z : Side). StandsSince z b (t ++ x)) (sym f.same.side) (since_on a.core.side a b t x f.carries s)) (subst (λ (z : Side). HasKept z k b (t ++ x)) (sym f.same.side) mid) in
      subst (λ (z : List Act). HasKept a.core.side k c z) (append_assoc t x y) (subst (λ (z : Side). HasKept z k c ((t ++ x) ++ y)) f.same.side next);
}
