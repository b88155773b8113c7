-- How an end of a pair stands behind what it did, and how many streams are counted then.
use Rattle.std.proofs.Common.{◌≡◌, inl, inr, Bool, true, false, List, [], ◌++◌, Option, Some, None, refl, sym, ◌∙◌, subst}
use Rattle.std.specs.Prelude.{is_some}
use Rattle.qh_base.specs.declared.connection_error.ConnectionError.{ConnectionError}
use Rattle.qh_base.specs.declared.connection_error.ConnectionError.TheVariants as lost
use Rattle.qh_base.specs.declared.time.Moment.{Moment}
use Rattle.qh_base.specs.declared.time.Span.{Span}
use Rattle.qh_conn.specs.declared.config.ConnConfig.{ConnConfig}
use Rattle.qh_roles.specs.Client.{PlainClient}
use Rattle.qh_roles.specs.Server.{PlainServer}
use Rattle.qh_roles.specs.Streams.{AreCalls}
use Rattle.qh_spec.specs.Transcript.{Act}
use Rattle.qh_spec.specs.declared.link.Event.{Event}
use Rattle.qh_spec.specs.declared.sides.Side.{Side}
use Rattle.qh_pair.specs.Ends.{AreDropped, End, IsWholeAt, Stands}
use Rattle.qh_pair.specs.Pair.{EndAt, HasAcceptedEnd, HasOpenedEnd, told_acts}
use Rattle.qh_pair.specs.Steps.{Did, HasAcceptedAll, HasOpenedAll, IsEndUndisturbed, IsNewEnd, IsOnSide}
use Rattle.qh_pair.specs.declared.ends.Ids.{Ids}
use Rattle.qh_pair.proofs.EndOpened.{new_stands}
use Rattle.qh_pair.proofs.Wire.{told_acts-silent, told_calls, told_if-append, told_weaker}

-- ---- counts

pub opened_weak : (c : PlainClient) (o : Option End) → HasOpenedAll c o → HasOpenedEnd c o
opened_weak c None h = h
opened_weak c (Some end) h = inr h.0

pub accepted_weak : (s : PlainServer) (o : Option End) → HasAcceptedAll s o → HasAcceptedEnd s o
accepted_weak s None h = h
accepted_weak s (Some end) h = inr h.0

pub opened_kept : (c : PlainClient) (now : Moment) (idle : Option Span) (old new : Option End) → IsEndUndisturbed true now idle old new → HasOpenedAll c old → HasOpenedAll c new
opened_kept c now idle None None u h = h
opened_kept c now idle None (Some d) u h = (u.opened.0 ∙ sym h, λ unknown. h)
opened_kept c now idle (Some b) None u h = absurd u
opened_kept c now idle (Some b) (Some d) u h = u.counts.opened c.next h

pub accepted_kept : (s : PlainServer) (now : Moment) (idle : Option Span) (old new : Option End) → IsEndUndisturbed true now idle old new → HasAcceptedAll s old → HasAcceptedAll s new
accepted_kept s now idle None None u h = h
accepted_kept s now idle None (Some d) u h = (u.accepted.0 ∙ sym h, λ unknown. h)
accepted_kept s now idle (Some b) None u h = absurd u
accepted_kept s now idle (Some b) (Some d) u h = u.counts.accepted s.accepted h

pub opened_after : (w : Bool) (c : PlainClient) (now : Moment) (idle : Option Span) (old new : Option End) → IsEndUndisturbed w now idle old new → HasOpenedAll c old → HasOpenedEnd c new
opened_after true c now idle old new u h = opened_weak c new (opened_kept c now idle old new u h)
opened_after false c now idle None None u h = h
opened_after false c now idle None (Some d) (inl u) h = inr (u.opened.0 ∙ sym h)
opened_after false c now idle None (Some d) (inr e) h = inl e
opened_after false c now idle (Some b) None u h = absurd u
opened_after false c now idle (Some b) (Some d) (inl u) h = inr (u.counts.opened c.next h).0
opened_after false c now idle (Some b) (Some d) (inr e) h = inl e

pub accepted_after : (w : Bool) (s : PlainServer) (now : Moment) (idle : Option Span) (old new : Option End) → IsEndUndisturbed w now idle old new → HasAcceptedAll s old → HasAcceptedEnd s new
accepted_after true s now idle old new u h = accepted_weak s new (accepted_kept s now idle old new u h)
accepted_after false s now idle None None u h = h
accepted_after false s now idle None (Some d) (inl u) h = inr (u.accepted.0 ∙ sym h)
accepted_after false s now idle None (Some d) (inr e) h = inl e
accepted_after false s now idle (Some b) None u h = absurd u
accepted_after false s now idle (Some b) (Some d) (inl u) h = inr (u.counts.accepted s.accepted h).0
accepted_after false s now idle (Some b) (Some d) (inr e) h = inl e

-- ---- the ends of a pair

-- an end with what it did
pub at_more : (w : Bool) (now : Moment) (side : Side) (ids : Ids) (config : ConnConfig) (old new : Option End) (events more : List Event) (t : List Act)
    → EndAt true side ids config old events t → (d : Did w now side ids config old new t more) → EndAt w side ids config new (events ++ more) (t ++ d.acts)
at_more w now side ids config old new events more t at did = record { stands = did.stands; told = told_if-append w side events more t did.acts at.told did.told }

-- an end at which nothing passed meanwhile
pub at_waits : (w : Bool) (side : Side) (ids : Ids) (config : ConnConfig) (c : Option End) (events more : List Event) (t : List Act)
    → told_acts side more ≡ [] → EndAt true side ids config c events t → EndAt w side ids config c (events ++ more) t
at_waits w side ids config c events more t silent at =
    record { stands = at.stands; told = told_weaker w side (events ++ more) t (at.told ∙ sym (told_acts-silent side events more silent)) }

-- an end that did what the wire doesn't see
pub at_acted : (side : Side) (ids : Ids) (config : ConnConfig) (old new : Option End) (events : List Event) (t acts : List Act)
    → EndAt true side ids config old events t → AreCalls acts → Stands side ids config new (t ++ acts) → EndAt true side ids config new events (t ++ acts)
at_acted side ids config old new events t acts at calls stands = record { stands = stands; told = told_calls true side events t acts calls at.told }

-- an end is opened
pub at_opened : (side : Side) (ids : Ids) (config : ConnConfig) (old : Option End) (now : Moment) (c : End) (events : List Event) (t : List Act)
    → old ≡ None → IsNewEnd side ids config now c → EndAt true side ids config old events t → EndAt true side ids config (Some c) events t
at_opened side ids config old now c events t none new at = record {
  stands = new_stands side ids config now c t new (subst (λ (z : Option End). Stands side ids config z t) none at.stands);
  told = at.told;
}

-- what an end did that isn't there
pub no_acts : (side : Side) (ids : Ids) (config : ConnConfig) (o : Option End) (t : List Act) → o ≡ None → Stands side ids config o t → AreDropped side t
no_acts side ids config o t none s = subst (λ (z : Option End). Stands side ids config z t) none s

pub whole_at : (side : Side) (ids : Ids) (config : ConnConfig) (o : Option End) (t : List Act) → Stands side ids config o t → IsWholeAt o
whole_at side ids config None t s = tt
whole_at side ids config (Some c) t s = s.0.whole

pub on_side : (side : Side) (ids : Ids) (config : ConnConfig) (o : Option End) (t : List Act) → Stands side ids config o t → IsOnSide side o
on_side side ids config None t s = tt
on_side side ids config (Some c) t s = s.0.side_is

none_memory : ◌≡◌ {A = Option ConnectionError} None (Some lost.Memory) → ⊥
none_memory e = cc

pub not_out_of_memory : (c : End) → c.core.error ≡ None → c.core.error ≡ Some lost.Memory → ⊥
not_out_of_memory c n e = absurd (none_memory (sym n ∙ e))

pub unset : (o : Option End) → is_some o ≡ false → o ≡ None
unset None e = refl
unset (Some c) e = cc

pub is_set : (o : Option End) → is_some o ≡ true → (c : End) × (o ≡ Some c)
is_set None e = cc
is_set (Some c) e = (c, refl)
