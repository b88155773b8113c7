-- What calls of a role on the streams of an end leave of it.
use Rattle.std.proofs.Common.{◌≡◌, true, Bool, List, [], ◌++◌, ℕ, Option, Some, None, refl, sym, ◌∙◌, ap, subst, append_assoc, length}
use Rattle.std.specs.Prelude.{is_some}
use Rattle.std.proofs.lemmas.Bool.{false≢true}
use Rattle.qh_conn.specs.Same.{IsSameConnection}
use Rattle.qh_conn.specs.Whole.{IsWhole, Stands as ConnStands}
use Rattle.qh_conn.specs.declared.config.ConnConfig.{ConnConfig}
use Rattle.qh_converse.specs.Converses.{Converses}
use Rattle.qh_core.specs.Inner.{is_open, with_streams}
use Rattle.qh_core.specs.Made.{AcceptsTags, AreMadeLocally, MakesTagsOf}
use Rattle.qh_core.specs.declared.inner.Inner.{Inner}
use Rattle.qh_handshake.specs.declared.handshake.Handshake.{Handshake}
use Rattle.qh_hello.specs.declared.transport_parameters.TransportParameters.{TransportParameters}
use Rattle.qh_packet.specs.Session.{PlainKeys, plain_accepts, plain_sealed}
use Rattle.qh_peers.proofs.GreetSealed.{quiet_sealed}
use Rattle.qh_peers.proofs.HonestOn.{streams_whole}
use Rattle.qh_peers.specs.Ends.{IsHonestEnd}
use Rattle.qh_roles.specs.Streams.{AreCalls}
use Rattle.qh_spec.specs.Lists.{In}
use Rattle.qh_spec.specs.Transcript.{Act, handed_out}
use Rattle.qh_spec.specs.declared.link.Event.{Event}
use Rattle.qh_spec.specs.declared.sides.Side.{Side}
use Rattle.qh_pair.specs.Ends.{End, IsEndOf, Stands, StandsSince, key_of}
use Rattle.qh_pair.specs.Sound.{AreSoundEnds, IsHeard}
use Rattle.qh_pair.specs.declared.ends.Ids.{Ids}
use Rattle.qh_pair.proofs.Dropped.{dropped_in, part_since, part_streams}
use Rattle.qh_pair.proofs.EndMade.{stays}
use Rattle.qh_pair.proofs.EndSounds.{KeepsNames, sound_acted}
use Rattle.qh_pair.proofs.KeptOpen.{LawfulOpen, kept_calls}
use Rattle.qh_pair.proofs.SameStreams.{SameStreams}

-- what `sends`, `honest_ends` and `same_connection` say of calls on streams, and `converses` of an open end
pub record CallLaws : Type 0 where
  pub called : (accepts : AcceptsTags PlainKeys) (sealed : MakesTagsOf PlainKeys) (hello : List ℕ) (h : Handshake) (c new : Inner PlainKeys) (k : Bool) (acts t : List Act) → AreMadeLocally c new acts → (h.peer ≡ None → acts ≡ [])
      → Converses accepts sealed hello h c k t → Converses accepts sealed hello h new k (t ++ acts)
  pub honest : (accepts : AcceptsTags PlainKeys) (sealed : MakesTagsOf PlainKeys) (hello : List ℕ) (c : End) (core : Inner PlainKeys) (acts t : List Act) → core ≡ with_streams c.core core.space.streams → handed_out acts ≡ []
      → ConnStands accepts sealed hello (record c { core = core }) (t ++ acts) → IsHonestEnd accepts sealed hello c t
      → IsHonestEnd accepts sealed hello (record c { core = core }) (t ++ acts)
  pub same : (key : PlainKeys → List ℕ) (c : End) (core : Inner PlainKeys) (acts : List Act) → AreMadeLocally c.core core acts → IsSameConnection key c (record c { core = core })
  pub lawful : LawfulOpen

-- what is known of all that was done is of the part that the streams see
pub part_same : (side : Side) (c : End) (t : List Act) (s : StandsSince side c t) → SameStreams s.stands.part t
part_same side c t s = subst (λ (z : List Act). SameStreams s.stands.part z) (sym s.are)
    (part_streams s.stands.part (s.before ++ s.since) (part_since s.before s.stands.part s.since (dropped_in side s.before s.dropped) s.stands.is_part))

up_streams : (c : End) (core : Inner PlainKeys) → core ≡ with_streams c.core core.space.streams → is_open c.core.state ≡ true → is_open core.state ≡ true
up_streams c core is up = ap (λ (z : Inner PlainKeys). is_open z.state) is ∙ up

-- calls of a role, which a greeted end took
pub record RoleCalled (c : End) (core : Inner PlainKeys) (acts : List Act) : Type 0 where
  pub is : core ≡ with_streams c.core core.space.streams
  pub greeted : is_some c.handshake.peer ≡ true
  pub made : AreMadeLocally c.core core acts
  pub calls : AreCalls acts

known : (o : Option TransportParameters) → is_some o ≡ true → o ≡ None → (acts : List Act) → acts ≡ []
known o some none acts = absurd (false≢true (sym (ap is_some none) ∙ some))

stands_called : CallLaws → (hello : List ℕ) (c : End) (core : Inner PlainKeys) (acts t : List Act) → RoleCalled c core acts → ConnStands plain_accepts plain_sealed hello c t
    → ConnStands plain_accepts plain_sealed hello (record c { core = core }) (t ++ acts)
stands_called laws hello c core acts t r s =
    laws.called plain_accepts plain_sealed hello c.handshake c.core core c.is_connected acts t r.made (λ none. known c.handshake.peer r.greeted none acts) s

pub role_stands : CallLaws → (side : Side) (ids : Ids) (config : ConnConfig) (c : End) (core : Inner PlainKeys) (t acts : List Act) → RoleCalled c core acts → is_open c.core.state ≡ true
    → Stands side ids config (Some c) t → Stands side ids config (Some (record c { core = core })) (t ++ acts)
role_stands laws side ids config c core t acts r up s =
    let d : End = record c { core = core } in
    let same : IsSameConnection key_of c d = laws.same key_of c core acts r.made in
    let whole : IsWhole d = streams_whole c core r.is s.0.whole in
    let of : IsEndOf side ids config d = stays side ids config c d same whole s.0 in
    let since : StandsSince side c t = s.1 in
    let stands : ConnStands plain_accepts plain_sealed since.hello d (since.since ++ acts) = stands_called laws since.hello c core acts since.since r since.stands in (
      of,
      record {
        hello = since.hello;
        before = since.before;
        since = since.since ++ acts;
        are = ap (λ (z : List Act). z ++ acts) since.are ∙ append_assoc since.before since.since acts;
        dropped = since.dropped;
        stands = stands;
      },
      kept_calls laws.lawful side (length ids.client) c d t acts same (up_streams c core r.is up) of.side_is (ap length of.local_is ∙ of.as_long) r.calls.1 since stands s.2,
    )

pub role_sound : CallLaws → (side : Side) (ids : Ids) (config : ConnConfig) (c : End) (core : Inner PlainKeys) (peer : Option End) (t u acts : List Act) → RoleCalled c core acts → IsWhole c
    → AreSoundEnds side ids config (Some c) peer t u → AreSoundEnds side ids config (Some (record c { core = core })) peer (t ++ acts) u
role_sound laws side ids config c core peer t u acts r whole s =
    let d : End = record c { core = core } in
    let after : IsWhole d = streams_whole c core r.is whole in
    let names : KeepsNames c d acts = record {
      same = laws.same key_of c core acts r.made;
      whole = after;
      peer = refl;
      retry = refl;
      remote = refl;
      none = r.calls.0;
      honest = λ hello w h. laws.honest plain_accepts plain_sealed hello c core acts w r.is r.calls.1 (stands_called laws hello c core acts w r h.stands) h;
      greets = record { can = λ peer h. h; sealed = λ w. quiet_sealed (plain_sealed c.core.session) c.core.side w acts r.calls.1 };
    } in
    sound_acted side ids config c d peer t u acts names (λ is alone x i. absurd (subst (λ (z : List (List ℕ)). In x z) r.calls.1 i)) s

pub role_heard : (side : Side) (k : ℕ) (config : ConnConfig) (c : End) (core : Inner PlainKeys) (events : List Event) → core ≡ with_streams c.core core.space.streams → IsHeard side k config c events
    → IsHeard side k config (record c { core = core }) events
role_heard side k config c core events is h = subst (λ (z : Inner PlainKeys). IsHeard side k config (record c { core = z }) events) (sym is)
    (record { timed = record { said = h.timed.said; ungreeted = h.timed.ungreeted; greeted = h.timed.greeted }; heard = h.heard; greets = h.greets })
