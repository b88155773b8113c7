-- How an end that goes on over an honest link stays sound, and how it is lost.
use Rattle.std.proofs.Common.{◌≡◌, inl, inr, ◌^◌, ◌≤◌, true, List, [], ◌∷◌, ◌++◌, ℕ, Option, Some, None, Err, refl, sym, ◌∙◌, ap, subst, append-nil, arith, length}
use Rattle.std.specs.Prelude.{MatchOption, is_some}
use Rattle.qh_base.specs.declared.connection_error.ConnectionError.{ConnectionError}
use Rattle.qh_base.specs.declared.time.Moment.{Moment}
use Rattle.qh_base.specs.declared.time.Span.{Span}
use Rattle.qh_conduct.specs.Restarting.{IsCounting}
use Rattle.qh_conn.specs.declared.config.ConnConfig.{ConnConfig}
use Rattle.qh_core.specs.Inner.{is_open}
use Rattle.qh_converse.specs.Settled.{idle_of, milliseconds}
use Rattle.qh_hello.specs.declared.transport_parameters.TransportParameters.{TransportParameters}
use Rattle.qh_spec.specs.Honest.{IsHonest}
use Rattle.qh_spec.specs.Link.{given_to, moments_of, other, sent_by}
use Rattle.qh_spec.specs.Lists.{In}
use Rattle.qh_spec.specs.Transcript.{Act, handed_in, handed_out}
use Rattle.qh_spec.specs.declared.link.Event.{Event}
use Rattle.qh_spec.specs.declared.link.Event.TheVariants.{Given}
use Rattle.qh_spec.specs.declared.sides.Side.{Side}
use Rattle.qh_spec.specs.declared.sides.Side.TheVariants.{Client, Server}
use Rattle.qh_spec.proofs.EventLaws.{given_to-append, honest_all, sent_by-append}
use Rattle.qh_spec.proofs.Members.{in_right}
use Rattle.qh_pair.specs.Error.{error_of_loss}
use Rattle.qh_pair.specs.Ends.{End, Stands}
use Rattle.qh_pair.specs.Hellos.{AreGreetedAsSet}
use Rattle.qh_pair.specs.Pair.{EndAt, told_acts}
use Rattle.qh_pair.specs.Settings.{whole_idle}
use Rattle.qh_pair.specs.Sound.{AreBy, AreSound, AreSoundEnds, EndsFairly, IsAlone, IsGreetedAt, IsGreetedBehind, IsHeardAt, WasGreeted, last_of}
use Rattle.qh_pair.specs.Steps.{IsEndUndisturbed, IsLostFairly, IsNewEnd, IsRestartedAt, ended_by}
use Rattle.qh_pair.specs.Timed.{IsTimedBy}
use Rattle.qh_pair.specs.declared.ends.Ids.{Ids}
use Rattle.qh_pair.proofs.Heard.{counting_none, counting_silent, greeted_either, greeted_none, heard_first, heard_on, silent_given_to, silent_sent_by}
use Rattle.qh_pair.proofs.Hellos.{came_with, honest_as_set}
use Rattle.qh_pair.proofs.IdleWhole.{whole_in_force, whole_own}
use Rattle.qh_pair.proofs.Wire.{whole_in}

-- ---- datagrams that count, and that greet

-- what was known when nothing new was given
greets_waits : (k : ℕ) (side : Side) (events more : List Event) (Known : Type 0) → given_to side more ≡ [] → (WasGreeted k side events → Known) → WasGreeted k side (events ++ more) → Known
greets_waits k side events more Known none known w = elim (greeted_either k side events more w) as (λ _. Known) [ inl old ↦ known old | inr new ↦ absurd (greeted_none k side (given_to side events) more none new) ]

-- an end knows its peer by one of the old ones, or by one of the new ones
greets_goes : (k : ℕ) (side : Side) (events more : List Event) (t : List Act) (Known : Type 0) → handed_in t ≡ given_to side events → (WasGreeted k side events → Known) → (IsGreetedBehind k side (handed_in t) more → Known)
    → WasGreeted k side (events ++ more) → Known
greets_goes k side events more t Known given before now w = elim (greeted_either k side events more w) as (λ _. Known) [
  | inl old ↦ before old
  | inr new ↦ now (subst (λ (z : List (List ℕ)). IsGreetedBehind k side z more) (sym given) new)
]

-- nothing was done yet with an end that isn't there
pub none_done : (side : Side) (ids : Ids) (config : ConnConfig) (o peer : Option End) (t u : List Act) → AreSoundEnds side ids config o peer t u → o ≡ None → t ≡ []
none_done Client ids config None None t u s none = s.0
none_done Client ids config None (Some q) t u s none = absurd s
none_done Server ids config None None t u s none = s.1
none_done Server ids config None (Some q) t u s none = s.1
none_done side ids config (Some c) peer t u s none = cc

-- nothing passed at the end
pub heard_waits : (side : Side) (k : ℕ) (config : ConnConfig) (o : Option End) (events more : List Event) → told_acts side more ≡ [] → IsHeardAt side k config o events → IsHeardAt side k config o (events ++ more)
heard_waits side k config None events more silent h = tt
heard_waits side k config (Some c) events more silent h =
    record {
      timed = h.timed;
      heard = counting_silent k side events more (λ (m : ℕ). m ≤ c.core.idle.since.0) (silent_given_to side more silent) h.heard;
      greets = greets_waits k side events more (is_some c.handshake.peer ≡ true) (silent_given_to side more silent) h.greets;
    }

-- the end went on
pub heard_goes : (side : Side) (k : ℕ) (config : ConnConfig) (now : Moment) (old new : Option End) (events more : List Event) (t : List Act) → handed_in t ≡ given_to side events → AreBy now.0 (events ++ more)
    → IsEndUndisturbed true now config.idle old new → (old ≡ None → t ≡ []) → (IsGreetedBehind k side (handed_in t) more → IsGreetedAt new)
    → ((before after : List Event) (x : List ℕ) → more ≡ before ++ Given side x ∷ after → IsCounting k (other side) (handed_in t ++ given_to side before) x → IsRestartedAt now new)
    → IsHeardAt side k config old events → IsHeardAt side k config new (events ++ more)
heard_goes side k config now None None events more t given by u none greeted restarted h = tt
heard_goes side k config now None (Some d) events more t given by u none greeted restarted h = record {
  timed = u.timed;
  heard = heard_first k side now d events more u.since by;
  greets = greets_goes k side events more t (is_some d.handshake.peer ≡ true) given (λ w. absurd (greeted_none k side [] events (sym given ∙ ap handed_in (none refl)) w)) greeted;
}
heard_goes side k config now (Some c) None events more t given by u none greeted restarted h = absurd u
heard_goes side k config now (Some c) (Some d) events more t given by u none greeted restarted h = record {
  timed = u.times config.idle h.timed;
  heard = heard_on k side now c d events more t given by u h.heard restarted;
  greets = greets_goes k side events more t (is_some d.handshake.peer ≡ true) given (λ w. u.known (h.greets w)) greeted;
}

-- what an end is given over an honest link its peer handed out, which did nothing meanwhile
pub came : (side : Side) (events more : List Event) (u : List Act) → IsHonest (events ++ more) → handed_out u ≡ sent_by (other side) events → told_acts (other side) more ≡ []
    → (x : List ℕ) → In x (given_to side more) → In x (handed_out u)
came side events more u honest out silent x i =
    let sent : sent_by (other side) (events ++ more) ≡ handed_out u
    = sent_by-append (other side) events more ∙ (ap (λ (z : List (List ℕ)). sent_by (other side) events ++ z) (silent_sent_by (other side) more silent)
    ∙ (append-nil (sent_by (other side) events) ∙ sym out)) in
    subst (λ (z : List (List ℕ)). In x z) sent
    (honest_all side x (events ++ more) honest
    (subst (λ (z : List (List ℕ)). In x z) (sym (given_to-append side events more)) (in_right x (given_to side events) (given_to side more) i)))

-- ---- the client's end opens

alone_first : (ids : Ids) (config : ConnConfig) (now : Moment) (c : End) (t : List Act) → IsNewEnd Client ids config now c → (config.limits.max_bidi ≤ 2 ^ 60) × (config.limits.max_uni ≤ 2 ^ 60) → t ≡ [] → IsAlone ids config c t
alone_first ids config now c t new fits nothing = subst (λ (z : List Act). IsAlone ids config c z) (sym nothing)
    (record {
      of = new.of;
      fits = fits;
      hello = new.hello;
      honest = new.honest fits;
      key_is = new.key_is;
      unretried = new.unretried;
      unknown = new.unknown;
      there = new.there;
      nothing = refl;
      firsts = λ d i. absurd i;
      can = λ peer. new.can peer (λ server. let never : Client ≡ Server = server in cc);
      sealed = λ d i alone. absurd i;
    })

pub ends_open : (ids : Ids) (config : ConnConfig) (now : Moment) (c : End) (o s : Option End) (t u : List Act) → o ≡ None → IsNewEnd Client ids config now c
    → (config.limits.max_bidi ≤ 2 ^ 60) × (config.limits.max_uni ≤ 2 ^ 60) → AreSound ids config o s t u → AreSound ids config (Some c) s t u
ends_open ids config now c None None t u none new fits e = (alone_first ids config now c t new fits e.0, e.1)
ends_open ids config now c None (Some s) t u none new fits e = absurd e
ends_open ids config now c (Some b) s t u none new fits e = cc

pub heard_opens : (ids : Ids) (config : ConnConfig) (k : ℕ) (now : Moment) (c : End) (events : List Event) → IsNewEnd Client ids config now c → given_to Client events ≡ [] → IsHeardAt Client k config (Some c) events
heard_opens ids config k now c events new none = record {
  timed = new.timed;
  heard = counting_none k Client events (λ (m : ℕ). m ≤ c.core.idle.since.0) none;
  greets = λ w. absurd (greeted_none k Client [] events none w);
}

-- ---- how an end is lost

-- the idle time by which an end runs is no shorter than that of the settings, in whole milliseconds
pub timed_whole : (side : Side) (ids : Ids) (config : ConnConfig) (c : End) (t : List Act) (events : List Event) (span : Span) (o : Option TransportParameters) → AreGreetedAsSet (length ids.client) config events
    → Stands side ids config (Some c) t → ((d : List ℕ) → In d (handed_in t) → In d (given_to side events)) → IsTimedBy config.idle c → is_open c.core.state ≡ true → c.core.idle.timeout ≡ Some span
    → c.handshake.peer ≡ o → (w : Span) × (whole_idle config.idle ≡ Some w) × (w.0 ≤ span.0)
timed_whole side ids config c t events span None set s each timed up is known = whole_own config.idle span (sym (timed.ungreeted up known) ∙ is)
timed_whole side ids config c t events span (Some p) set s each timed up is known =
    let says : p.max_idle_timeout ≡ milliseconds config.idle = (set side p (came_with side ids config c t events p (length ids.client) s each known)).idle in
    whole_in_force config.idle span (subst (λ (z : ℕ). idle_of (milliseconds config.idle) z ≡ Some span) says (sym (timed.greeted p up known) ∙ is))

lost_fairly : (T : Type 0) (side : Side) (ids : Ids) (config : ConnConfig) (now : ℕ) (o : Option End) (events : List Event) (t : List Act) (e : ConnectionError) → last_of (moments_of events) ≡ now
    → AreGreetedAsSet (length ids.client) config events → Stands side ids config o t → ((d : List ℕ) → In d (handed_in t) → In d (given_to side events)) → IsHeardAt side (length ids.client) config o events
    → IsLostFairly now e o → EndsFairly {T = T} (length ids.client) config.idle events (Err (error_of_loss e))
lost_fairly T side ids config now None events t e last set s each h l = absurd l
lost_fairly T side ids config now (Some c) events t e last set s each h (inl memory) = subst (λ (z : ConnectionError). EndsFairly {T = T} (length ids.client) config.idle events (Err (error_of_loss z))) (sym memory) tt
lost_fairly T side ids config now (Some c) events t e last set s each h (inr l) =
    let w = timed_whole side ids config c t events l.1.span c.handshake.peer set s each h.timed l.1.up l.1.timeout_is refl in
    subst (λ (z : ConnectionError). EndsFairly {T = T} (length ids.client) config.idle events (Err (error_of_loss z))) (sym l.0)
    (record {
      side = side;
      span = w.0;
      idle_is = w.1;
      passed = λ before after x is counts.
          let m = h.heard before after x is counts in
          let p = l.1.passed in
          let f = w.2 in
          omega (arith, m, p, f, last);
    })

-- an exchange that its ends' losses end, the client's first
pub ends_fairly : (client server : Option ConnectionError) (ids : Ids) (config : ConnConfig) (now : ℕ) (old_c old_s : Option End) (P Q : Type 0) (events : List Event) (t u : List Act) → last_of (moments_of events) ≡ now
    → IsHonest events → EndAt true Client ids config old_c events t → EndAt true Server ids config old_s events u
    → IsHeardAt Client (length ids.client) config old_c events → IsHeardAt Server (length ids.client) config old_s events
    → MatchOption client P (λ e. IsLostFairly now e old_c) → MatchOption server Q (λ e. IsLostFairly now e old_s) → EndsFairly (length ids.client) config.idle events (ended_by client server)
ends_fairly (Some e) server ids config now old_c old_s P Q events t u last honest at to hc hs lc ls =
    lost_fairly (Unit {0}) Client ids config now old_c events t e last (honest_as_set true true ids config old_c old_s events t u honest at to) at.stands
    (λ d i. subst (λ (z : List (List ℕ)). In d z) (whole_in Client events t at.told) i) hc lc
ends_fairly None (Some e) ids config now old_c old_s P Q events t u last honest at to hc hs lc ls =
    lost_fairly (Unit {0}) Server ids config now old_s events u e last (honest_as_set true true ids config old_c old_s events t u honest at to) to.stands
    (λ d i. subst (λ (z : List (List ℕ)). In d z) (whole_in Server events u to.told) i) hs ls
ends_fairly None None ids config now old_c old_s P Q events t u last honest at to hc hs lc ls = tt
