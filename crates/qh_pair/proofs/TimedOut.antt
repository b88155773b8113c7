-- An end that timed out waited for the idle time of the settings, over a link whose hellos leave that in force; and over any link for one.
use Rattle.std.proofs.Common.{◌≡◌, ◌≤◌, inl, inr, ℕ, List, ◌++◌, Option, Some, None, refl, sym, ◌∙◌, subst, arith, length}
use Rattle.std.specs.Prelude.{not}
use Rattle.qh_base.specs.declared.time.Span.{Span}
use Rattle.qh_conn.specs.declared.config.ConnConfig.{ConnConfig}
use Rattle.qh_spec.specs.Link.{given_to}
use Rattle.qh_spec.specs.Lists.{In}
use Rattle.qh_spec.specs.Record.{PlainEntry}
use Rattle.qh_spec.specs.Transcript.{Act, handed_in}
use Rattle.qh_spec.specs.declared.link.Event.{Event}
use Rattle.qh_spec.specs.declared.sides.Side.{Side}
use Rattle.qh_spec.specs.declared.sides.Side.TheVariants.{Client, Server}
use Rattle.qh_pair.specs.Clock.{HasPassed, HasTimedOut, IsTimedOutAt, end_at}
use Rattle.qh_pair.specs.Ends.{End, Stands}
use Rattle.qh_pair.specs.Hellos.{IsNoShorter, LeaveIdleTime}
use Rattle.qh_pair.specs.Pair.{IsRunning, PairState, Running, id_length}
use Rattle.qh_pair.specs.Settings.{whole_idle}
use Rattle.qh_pair.specs.Timed.{IsIdleOf}
use Rattle.qh_pair.specs.Turn.{HasWaitedFor, WasTimedOut}
use Rattle.qh_pair.specs.declared.ends.Ids.{Ids}
use Rattle.qh_pair.proofs.Hellos.{came_with}
use Rattle.qh_pair.proofs.IdleWhole.{whole_own}
use Rattle.qh_pair.proofs.Wire.{told_nearly, told_was_given}

-- the idle time of an end is no shorter than that of the settings
whole_by : (side : Side) (ids : Ids) (config : ConnConfig) (c : End) (t : List Act) (events : List Event) (idle : Option Span) (span : Span) → LeaveIdleTime (length ids.client) config events
    → Stands side ids config (Some c) t → ((d : List ℕ) → In d (handed_in t) → In d (given_to side events)) → IsIdleOf config.idle c idle → idle ≡ Some span → (w : Span) × (whole_idle config.idle ≡ Some w) × (w.0 ≤ span.0)
whole_by side ids config c t events idle span set s each (inl own) is = whole_own config.idle span (sym own ∙ is)
whole_by side ids config c t events idle span set s each (inr k) is =
    subst (λ (z : Option Span). IsNoShorter (whole_idle config.idle) z) (sym k.2 ∙ is) (set side k.0 (came_with side ids config c t events k.0 (length ids.client) s each k.1))

shorter : (idle own : Option Span) (moments : List ℕ) (p : HasPassed idle moments) → (w : Span) × (own ≡ Some w) × (w.0 ≤ p.span.0) → HasPassed own moments
shorter idle own moments p w = record {
  span = w.0;
  idle_is = w.1;
  first = p.first;
  rest = p.rest;
  begin = p.begin;
  front = p.front;
  last = p.last;
  end = p.end;
  passed = (let m = p.passed in let f = w.2 in omega (arith, m, f));
}

timed_at : (side : Side) (ids : Ids) (config : ConnConfig) (o : Option End) (t : List Act) (events : List Event) (moments : List ℕ) → LeaveIdleTime (length ids.client) config events → Stands side ids config o t
    → ((d : List ℕ) → In d (handed_in t) → In d (given_to side events)) → IsTimedOutAt config.idle moments o → HasPassed (whole_idle config.idle) moments
timed_at side ids config None t events moments set s each h = absurd h
timed_at side ids config (Some c) t events moments set s each h = shorter h.0 (whole_idle config.idle) moments h.2 (whole_by side ids config c t events h.0 h.2.span set s each h.1 h.2.idle_is)

by_side : (side : Side) (p : PairState) (events : List Event) (entries : List PlainEntry) (moments : List ℕ) → LeaveIdleTime (id_length p) p.config events → IsRunning (not p.is_over) p events entries → (h : HasTimedOut p moments) → h.side ≡ side
    → HasPassed (whole_idle p.config.idle) moments
by_side Client p events entries moments set run h is =
    timed_at Client p.ids p.config p.client_end run.client.acts events moments set run.client.at.stands (told_was_given Client events run.client.acts (told_nearly (not p.is_over) Client events run.client.acts run.client.at.told))
    (subst (λ (z : Side). IsTimedOutAt p.config.idle moments (end_at z p)) is h.at)
by_side Server p events entries moments set run h is =
    timed_at Server p.ids p.config p.server_end run.server.acts events moments set run.server.at.stands (told_was_given Server events run.server.acts (told_nearly (not p.is_over) Server events run.server.acts run.server.at.told))
    (subst (λ (z : Side). IsTimedOutAt p.config.idle moments (end_at z p)) is h.at)

pub timed_passed : (p : PairState) (events : List Event) (entries : List PlainEntry) (moments : List ℕ) → LeaveIdleTime (id_length p) p.config events → Running p events entries → HasTimedOut p moments → HasPassed (whole_idle p.config.idle) moments
unfolding Running
timed_passed p events entries moments set run h = by_side h.side p events entries moments set run.running h refl

-- ---- over any link

for_one : (own : Option Span) (o : Option End) (before after moments : List ℕ) → after ≡ before ++ moments → IsTimedOutAt own moments o → HasWaitedFor own before after
for_one own None before after moments are h = absurd h
for_one own (Some c) before after moments are h = elim h.1 as (λ _. HasWaitedFor own before after) [
  | inl is ↦ inl (record { moments = moments; are = are; passed = subst (λ (z : Option Span). HasPassed z moments) is h.2 })
  | inr k ↦ inr (k.0.max_idle_timeout, record { moments = moments; are = are; passed = subst (λ (z : Option Span). HasPassed z moments) k.2 h.2 })
]

pub waited_for : (p : PairState) (config : ConnConfig) (before after : List ℕ) → p.config ≡ config → WasTimedOut p before after → HasWaitedFor config.idle before after
waited_for p config before after is w =
    subst (λ (z : ConnConfig). HasWaitedFor z.idle before after) is (for_one p.config.idle (end_at w.timed_out.side p) before after w.moments w.are w.timed_out.at)
