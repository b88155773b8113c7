-- What an end does that is asked for a datagram.
use Rattle.std.proofs.Common.{◌≡◌, ◌≤◌, inl, inr, Bool, true, false, List, [], ◌∷◌, ◌++◌, ℕ, Option, Some, None, refl, sym, ◌∙◌, ap, subst, append-nil, length}
use Rattle.std.specs.Prelude.{IfSome, Ok, drop, is_some}
use Rattle.std.proofs.lemmas.Bool.{false≢true}
use Rattle.qh_base.specs.declared.path.Transmit.{Transmit}
use Rattle.qh_base.specs.declared.time.Moment.{Moment}
use Rattle.qh_conn.specs.Outgoing.{IsSilent, IsStill, IsTransmitted, made_acts}
use Rattle.qh_conn.specs.Outgoing.{IsTransmitted as sent}
use Rattle.qh_conn.specs.Same.{IsSameConnection}
use Rattle.qh_conn.specs.Whole.{CarriesOnBy, IsWhole, Stands as ConnStands}
use Rattle.qh_conn.specs.declared.config.ConnConfig.{ConnConfig}
use Rattle.qh_core.specs.Inner.{is_open}
use Rattle.qh_core.specs.Made.{AcceptsTags, MakesTagsOf}
use Rattle.qh_handshake.specs.Incoming.{SessionView}
use Rattle.qh_packet.proofs.Sessions.{plain_makes}
use Rattle.qh_handshake.specs.declared.handshake.Handshake.{Handshake}
use Rattle.qh_packet.specs.Session.{MakesTags, PlainKeys, SealsTag, plain_accepts, plain_sealed}
use Rattle.qh_peers.specs.Ends.{IsHonestEnd}
use Rattle.qh_peers.specs.Greets.{AreInitialsSealed, CanBeGreeted}
use Rattle.qh_spec.specs.Transcript.{Act, HandedOut, handed_in}
use Rattle.qh_spec.specs.declared.sides.Side.{Side}
use Rattle.qh_spec.specs.declared.sides.Side.TheVariants.{Client}
use Rattle.qh_pair.specs.EndCalls.{IsMadeBy, KeepsGreetable, KeepsHonest, polled_acts}
use Rattle.qh_pair.specs.Ends.{End, key_of}
use Rattle.qh_pair.specs.Sound.{IsFirst}
use Rattle.qh_pair.specs.declared.ends.Ids.{Ids}
use Rattle.qh_pair.proofs.EndGiven.{plain_view}
use Rattle.qh_pair.proofs.EndSounds.{KeepsNames}
use Rattle.qh_pair.proofs.EndSteps.{AreFirsts}
use Rattle.qh_pair.proofs.EndSent.{LeavesOpen, PermitsMade, first_of, sent_leaves, still_leaves}
use Rattle.qh_pair.proofs.KeptLaws.{kept_still}
use Rattle.qh_pair.proofs.KeptOpen.{AnnouncedFirst, LawfulOpen, WithinOpen, kept_out}

-- what a call that was asked for a datagram did, and the datagram stands alone in the buffer
pub made_as : (o : Option Transmit) (found : Bool) (before after : List ℕ) → found ≡ is_some o → before ≡ [] → made_acts before after (Ok o) ≡ polled_acts after (Ok found)
made_as None found before after e b = ap (λ (z : Bool). polled_acts after (Ok z)) (sym e)
made_as (Some x) found before after e b = ap (λ (z : List ℕ). HandedOut (drop (length z) after) ∷ []) b ∙ ap (λ (z : Bool). polled_acts after (Ok z)) (sym e)

-- what was asked for, in cases
pub data Asks (now : Moment) (c d : End) (after : List ℕ) (found : Bool) : Type 0 where
  made : (before : List ℕ) (t : Transmit) → found ≡ true → before ≡ [] → IsTransmitted (plain_sealed c.core.session) now c d before after t → Asks now c d after found
  none : found ≡ false → IsStill c d → IsSilent c → Asks now c d after found

pub asked_as : (now : Moment) (c d : End) (o : Option Transmit) (found : Bool) (before after : List ℕ) → found ≡ is_some o → before ≡ [] → IfSome o (λ t. IsTransmitted (plain_sealed c.core.session) now c d before after t)
    → (o ≡ None → (after ≡ before) × IsSilent c × IsStill c d) → Asks now c d after found
asked_as now c d None found before after e b some none2 = let n = none2 refl in none e n.2 n.1
asked_as now c d (Some t) found before after e b some none2 = made before t e b some

pub asked_leaves : PermitsMade → (now : Moment) (c d : End) (after : List ℕ) (found : Bool) → is_open c.core.state ≡ true → Asks now c d after found → LeavesOpen now c d
asked_leaves permits now c d after found up (made before t e b is) = sent_leaves permits (plain_sealed c.core.session) now c d before after t up is
asked_leaves permits now c d after found up (none e still silent) = still_leaves now c d up still

-- what is known of all that was done holds on
kept_sent : LawfulOpen → WithinOpen → AnnouncedFirst → (c d : End) (x : List ℕ) → IsSameConnection key_of c d → IsWhole d → is_open d.core.state ≡ true → CarriesOnBy plain_accepts plain_sealed c d (HandedOut x ∷ [])
    → IsMadeBy c d (HandedOut x ∷ [])
kept_sent law within announced c d x same whole up carries = record {
  same = same;
  whole = whole;
  carries = carries;
  kept = λ k t long s h. kept_out law within announced c.core.side k c d t x same up same.side (ap length same.local_id ∙ long) s (carries s.hello s.since s.stands) h;
}

made_none : (c d : End) → IsSameConnection key_of c d → IsWhole d → CarriesOnBy plain_accepts plain_sealed c d [] → IsMadeBy c d []
made_none c d same whole carries = record { same = same; whole = whole; carries = carries; kept = λ k t long s h. kept_still c.core.side k c d t same s h }

pub asked_made : LawfulOpen → WithinOpen → AnnouncedFirst → (c d : End) (x : List ℕ) (found : Bool) → IsSameConnection key_of c d → IsWhole d → is_open d.core.state ≡ true
    → CarriesOnBy plain_accepts plain_sealed c d (polled_acts x (Ok found)) → IsMadeBy c d (polled_acts x (Ok found))
asked_made law within announced c d x true same whole up carries = kept_sent law within announced c d x same whole up carries
asked_made law within announced c d x false same whole up carries = made_none c d same whole carries

pub failed_made : (c d : End) → IsSameConnection key_of c d → IsWhole d → CarriesOnBy plain_accepts plain_sealed c d [] → IsMadeBy c d []
failed_made c d same whole carries = made_none c d same whole carries

-- what `honest_ends` says of a datagram that is handed out, or isn't
abbrev pub SentHonest : Type 0
SentHonest = (v : SessionView PlainKeys) (now : Moment) (before after hello : List ℕ) (transmit : Transmit) (c new : End) (t : List Act) → MakesTags (v.sealed c.core.session)
    → IsTransmitted (v.sealed c.core.session) now c new before after transmit → IsSameConnection v.key c new → IsWhole new → ConnStands v.accepts v.sealed hello new (t ++ HandedOut (drop (length before) after) ∷ [])
    → IsHonestEnd v.accepts v.sealed hello c t → IsHonestEnd v.accepts v.sealed hello new (t ++ HandedOut (drop (length before) after) ∷ [])

abbrev pub StillHonest : Type 0
StillHonest = (accepts : AcceptsTags PlainKeys) (sealed : MakesTagsOf PlainKeys) (hello : List ℕ) (c new : End) (t : List Act) → IsStill c new → IsWhole new → ConnStands accepts sealed hello new t
    → IsHonestEnd accepts sealed hello c t → IsHonestEnd accepts sealed hello new t

honest_sent : SentHonest → (now : Moment) (c d : End) (before x : List ℕ) (t : Transmit) → length c.core.session.key_id ≤ 20 → IsSameConnection key_of c d → IsWhole d → before ≡ []
    → CarriesOnBy plain_accepts plain_sealed c d (HandedOut x ∷ []) → IsTransmitted (plain_sealed c.core.session) now c d before x t → KeepsHonest c d (HandedOut x ∷ [])
honest_sent says now c d before x t short same whole b carries is hello w h =
    let alone : drop (length before) x ≡ x = ap (λ (z : List ℕ). drop (length z) x) b in
    subst (λ (z : List ℕ). IsHonestEnd plain_accepts plain_sealed hello d (w ++ HandedOut z ∷ [])) alone
    (says plain_view now before x hello t c d w (plain_makes c.core.session short) is same whole
    (subst (λ (z : List ℕ). ConnStands plain_accepts plain_sealed hello d (w ++ HandedOut z ∷ [])) (sym alone) (carries hello w h.stands)) h)

honest_still : StillHonest → (c d : End) → IsWhole d → CarriesOnBy plain_accepts plain_sealed c d [] → IsStill c d → KeepsHonest c d []
honest_still says c d whole carries still hello w h =
    let e = append-nil w in
    subst (λ (z : List Act). IsHonestEnd plain_accepts plain_sealed hello d z) (sym e)
    (says plain_accepts plain_sealed hello c d w still whole (subst (λ (z : List Act). ConnStands plain_accepts plain_sealed hello d z) e (carries hello w h.stands)) h)

pub asked_honest : SentHonest → StillHonest → (now : Moment) (c d : End) (x : List ℕ) (found : Bool) → length c.core.session.key_id ≤ 20 → IsSameConnection key_of c d → IsWhole d
    → CarriesOnBy plain_accepts plain_sealed c d (polled_acts x (Ok found)) → Asks now c d x found → KeepsHonest c d (polled_acts x (Ok found))
asked_honest sends rests now c d x true short same whole carries (made before t e b is) = honest_sent sends now c d before x t short same whole b carries is
asked_honest sends rests now c d x false short same whole carries (made before t e b is) = absurd (false≢true e)
asked_honest sends rests now c d x true short same whole carries (none e still silent) = absurd (false≢true (sym e))
asked_honest sends rests now c d x false short same whole carries (none e still silent) = honest_still rests c d whole carries still

-- what `can_greet` and `initials_sealed` say of a datagram that is handed out
abbrev pub SentCan : Type 0
SentCan = (sealed : SealsTag) (now : Moment) (old new : End) (before after : List ℕ) (transmit : Transmit) (peer : Handshake) → IsTransmitted sealed now old new before after transmit
    → CanBeGreeted old.handshake peer → CanBeGreeted new.handshake peer

abbrev pub SentSealed : Type 0
SentSealed = (sealed : SealsTag) (now : Moment) (before after : List ℕ) (transmit : Transmit) (c new : End) (t : List Act) → IsWhole c → IsTransmitted sealed now c new before after transmit
    → AreInitialsSealed sealed c.core.side t → AreInitialsSealed sealed c.core.side (t ++ HandedOut (drop (length before) after) ∷ [])

greetable_sent : SentCan → SentSealed → (now : Moment) (c d : End) (before x : List ℕ) (t : Transmit) → IsWhole c → before ≡ [] → IsTransmitted (plain_sealed c.core.session) now c d before x t
    → KeepsGreetable c d (HandedOut x ∷ [])
greetable_sent can seals now c d before x t whole b is = record {
  can = λ peer. can (plain_sealed c.core.session) now c d before x t peer is;
  sealed = λ w s. subst (λ (z : List ℕ). AreInitialsSealed (plain_sealed c.core.session) c.core.side (w ++ HandedOut z ∷ [])) (ap (λ (z : List ℕ). drop (length z) x) b)
      (seals (plain_sealed c.core.session) now before x t c d w whole is s);
}

greetable_still : (c d : End) → IsStill c d → KeepsGreetable c d []
greetable_still c d still = record {
  can = λ peer. subst (λ (z : Handshake). CanBeGreeted c.handshake peer → CanBeGreeted z peer) (sym (ap (λ (z : End). z.handshake) still.rest_is)) (λ h. h);
  sealed = λ w. subst (λ (z : List Act). AreInitialsSealed (plain_sealed c.core.session) c.core.side z) (sym (append-nil w));
}

pub asked_greetable : SentCan → SentSealed → (now : Moment) (c d : End) (x : List ℕ) (found : Bool) → IsWhole c → Asks now c d x found → KeepsGreetable c d (polled_acts x (Ok found))
asked_greetable can seals now c d x true whole (made before t e b is) = greetable_sent can seals now c d before x t whole b is
asked_greetable can seals now c d x false whole (made before t e b is) = absurd (false≢true e)
asked_greetable can seals now c d x true whole (none e still silent) = absurd (false≢true (sym e))
asked_greetable can seals now c d x false whole (none e still silent) = greetable_still c d still

-- a datagram of a client that knows nothing of its server is a first one
pub asked_first : (now : Moment) (c d : End) (x : List ℕ) (found : Bool) → IsWhole c → is_open c.core.state ≡ true → Asks now c d x found → found ≡ true → (ids : Ids) → c.core.side ≡ Client → c.core.local_id ≡ ids.client
    → c.handshake.remote_id ≡ ids.key → c.handshake.peer ≡ None → IsFirst ids x
asked_first now c d x found whole up (none e still silent) there ids side local remote unknown = absurd (false≢true (sym e ∙ there))
asked_first now c d x found whole up (made before t e b (sent.initial opened m is goes)) there ids side local remote unknown =
    first_of (plain_sealed c.core.session) now ids c.handshake d.handshake before x t.size (sym whole.sound.side_is ∙ side) (sym whole.sound.id_is ∙ local) remote whole.sound.handshake.token m b
asked_first now c d x found whole up (made before t e b (sent.close reason until said early is says m same goes)) there ids side local remote unknown = absurd (false≢true (sym (ap is_open is) ∙ up))
asked_first now c d x found whole up (made before t e b (sent.data_packet connected turns goes_out)) there ids side local remote unknown =
    absurd (false≢true (sym (ap is_some unknown) ∙ (whole.sound.connected connected).0))

-- ---- what the loop of a turn takes of it

pub made_next : (c d : End) (x : List ℕ) (found b : Bool) → found ≡ b → IsMadeBy c d (polled_acts x (Ok found)) → IsMadeBy c d (polled_acts x (Ok b))
made_next c d x found b e m = subst (λ (z : Bool). IsMadeBy c d (polled_acts x (Ok z))) e m

none_in : (x : List ℕ) (b : Bool) → handed_in (polled_acts x (Ok b)) ≡ []
none_in x true = refl
none_in x false = refl

-- what an end goes by stays behind one more datagram of its own
pub names_next : (c d : End) (x : List ℕ) (found b : Bool) → found ≡ b → IsMadeBy c d (polled_acts x (Ok found))
    → (d.handshake.peer ≡ c.handshake.peer) × (d.handshake.retry_id ≡ c.handshake.retry_id) × (d.handshake.remote_id ≡ c.handshake.remote_id)
    → KeepsHonest c d (polled_acts x (Ok found)) → KeepsGreetable c d (polled_acts x (Ok found)) → KeepsNames c d (polled_acts x (Ok b))
names_next c d x found b e m names honest greets = record {
  same = m.same;
  whole = m.whole;
  peer = names.0;
  retry = names.1;
  remote = names.2;
  none = none_in x b;
  honest = subst (λ (z : Bool). KeepsHonest c d (polled_acts x (Ok z))) e honest;
  greets = subst (λ (z : Bool). KeepsGreetable c d (polled_acts x (Ok z))) e greets;
}

-- what a client sends that is alone is a first datagram
pub firsts_next : (side : Side) (ids : Ids) (config : ConnConfig) (c : End) (x : List ℕ)
    → ((of : Ids) → c.core.side ≡ Client → c.core.local_id ≡ of.client → c.handshake.remote_id ≡ of.key → c.handshake.peer ≡ None → IsFirst of x) → (w : List Act) → AreFirsts side ids config c w (x ∷ [])
firsts_next side ids config c x first w is alone y i =
    elim i as (λ _. IsFirst ids y) [ inl e ↦ subst (λ (z : List ℕ). IsFirst ids z) e (first ids alone.of.side_is alone.of.local_is alone.there alone.unknown) | inr never ↦ absurd never ]
