-- The steps of a turn, one after another.
use Rattle.std.proofs.Common.{◌≡◌, ◌≤◌, Bool, true, false, List, [], ◌∷◌, ◌++◌, ℕ, Option, Some, Ok, Err, refl, sym, ◌∙◌, ap, subst, append_assoc, append-nil, arith}
use Rattle.std.specs.Prelude.{All, IfErr, IfOk, Result, not}
use Rattle.std.proofs.lemmas.List.Elements.{All-head, All-tail}
use Rattle.qh_base.specs.declared.connection_error.ConnectionError.{ConnectionError}
use Rattle.qh_base.specs.declared.time.Moment.{Moment}
use Rattle.qh_roles.specs.Server.{GrewByAnswers}
use Rattle.qh_service.specs.declared.service.Limits.{Limits}
use Rattle.qh_spec.specs.Fault.{CountsFaults}
use Rattle.qh_spec.specs.Link.{told}
use Rattle.qh_spec.specs.Message.{PlainMessage}
use Rattle.qh_spec.specs.declared.link.Event.{Event}
use Rattle.qh_spec.specs.Record.{PlainEntry}
use Rattle.qh_pair.specs.Clock.{HasTimedOut, ClocksOn}
use Rattle.qh_pair.specs.Errors.{IfProtocol, IfTimedOut}
use Rattle.qh_pair.specs.Pair.{PairState, GoesOn, IsRunning, KeepsGreeted, Running}
use Rattle.qh_pair.specs.Sound.{AreBy, IsGreetedAt, last_of}
use Rattle.qh_pair.specs.Steps.{AreTicking, BeginsAt, IsLastOf, IsLinkError, KeepsTicking, PairStep, TicksOn}
use Rattle.qh_pair.specs.Turn.{Adds}
use Rattle.qh_pair.specs.declared.error.ExchangeError.{ExchangeError}
use Rattle.qh_pair.specs.declared.error.ExchangeError.TheVariants as error
use Rattle.qh_pair.proofs.ClockSteps.{both_clocked, both_on, link_no_protocol, link_no_timeout}
use Rattle.qh_pair.proofs.Heard.{by_behind, honest_front, last_more}
use Rattle.qh_pair.proofs.PairSteps.{runs_over, soundly_over, step_at}

-- ---- the moments of a turn

all_middle : (before : List ℕ) (m : ℕ) (ms : List ℕ) (P : ℕ → Type 0) → All P (before ++ m ∷ ms) → P m
all_middle [] m ms P h = All-head P m ms h
all_middle (x ∷ xs) m ms P h = all_middle xs m ms P (All-tail P x (xs ++ m ∷ ms) h)

is_last : (old before moments : List ℕ) (now : ℕ) → old ≡ before ++ moments → All (λ (b : ℕ). b ≤ now) old → IsLastOf (moments ++ now ∷ []) now
is_last old before [] now e h = record { first = now; rest = []; begin = refl; front = []; end = refl; order = omega arith }
is_last old before (m ∷ ms) now e h = record {
  first = m;
  rest = ms ++ now ∷ [];
  begin = refl;
  front = m ∷ ms;
  end = refl;
  order = all_middle before m ms (λ (b : ℕ). b ≤ now) (subst (λ (z : List ℕ). All (λ (b : ℕ). b ≤ now) z) e h);
}

moments_more : (old after before moments more : List ℕ) → old ≡ before ++ moments → after ≡ old ++ more → after ≡ before ++ (moments ++ more)
moments_more old after before moments more e f = f ∙ (ap (λ (z : List ℕ). z ++ more) e ∙ append_assoc before moments more)

pub begins_err : (new : PairState) (old after before moments more : List ℕ) (e : ExchangeError) → after ≡ old ++ more → old ≡ before ++ moments → BeginsAt new before moments after (Err e)
begins_err new old after before moments more e f g = record { more = more; are = moments_more old after before moments more g f; begun = tt }

pub begins_ok : (p b : PairState) (old after before moments : List ℕ) (now : Moment) → after ≡ old ++ now.0 ∷ [] → old ≡ before ++ moments → All (λ (b : ℕ). b ≤ now.0) old
    → AreTicking p moments → KeepsTicking now.0 p b → BeginsAt b before moments after (Ok now)
begins_ok p b old after before moments now f g order t keeps =
    let last : IsLastOf (moments ++ now.0 ∷ []) now.0 = is_last old before moments now.0 g order in
    record {
      more = now.0 ∷ [];
      are = moments_more old after before moments (now.0 ∷ []) g f;
      begun = (last, keeps (moments ++ now.0 ∷ []) last (both_on p moments now.0 t));
    }

-- a turn that ended by a fault of its link, or for want of memory
pub ticks_link : (T : Type 0) (old new : PairState) (before moments after more : List ℕ) (e : ExchangeError) → IsLinkError e → after ≡ before ++ (moments ++ more)
    → TicksOn {T = T} old new before moments after (Err e)
ticks_link T old new before moments after more e link are = record { more = more; are = are; ticking = tt; timed_out = link_no_timeout T e (HasTimedOut new (moments ++ more)) link }

-- a turn in which an end was lost
pub ticks_lost : (old new : PairState) (before moments after more : List ℕ) (e : ExchangeError) → after ≡ before ++ (moments ++ more)
    → IfTimedOut {T = Unit {0}} (Err e) (HasTimedOut new (moments ++ more)) → TicksOn {T = Unit {0}} old new before moments after (Err e)
ticks_lost old new before moments after more e are timed = record { more = more; are = are; ticking = tt; timed_out = timed }

-- the last step of a turn
pub ticks_last : (now : ℕ) (old mid new : PairState) (before moments after more : List ℕ) (r : Result (Unit {0}) ExchangeError) → after ≡ before ++ (moments ++ more)
    → IfErr r IsLinkError → IfOk r (λ _. KeepsTicking now mid new) → IsLastOf (moments ++ more) now → AreTicking mid (moments ++ more) → TicksOn old new before moments after r
ticks_last now old mid new before moments after more (Ok x) are link keeps last t = record { more = more; are = are; ticking = keeps (moments ++ more) last t; timed_out = tt }
ticks_last now old mid new before moments after more (Err e) are link keeps last t = ticks_link (Unit {0}) old new before moments after more e link are

-- ---- how a turn ends

pub ok_always : {T E : Type 0} (r : Result T E) (P : Type 0) → P → IfOk r (λ _. P)
ok_always (Ok x) P p = p
ok_always (Err e) P p = tt

pub no_protocol : (r : Result (Unit {0}) ExchangeError) (P : ConnectionError → Type 0) → IfErr r IsLinkError → IfProtocol r P
no_protocol (Ok x) P h = tt
no_protocol (Err e) P h = link_no_protocol (Unit {0}) e P h

pub never_failed : (f g : ℕ) (failed : Bool) → failed ≡ false → g ≡ f → CountsFaults f g failed
never_failed f g failed none same = record { stays = omega (arith, same); cause = λ e. let x : true ≡ false = sym e ∙ none in cc; still = λ e. same }

pub grew_none : (Answer : PlainMessage → PlainMessage → Type 0) (r : List PlainEntry) → GrewByAnswers Answer r r
grew_none Answer r = record { fresh = []; longer = sym (append-nil r); each = λ e i. absurd i }

pub grew_same : (Answer : Limits → PlainMessage → PlainMessage → Type 0) (a b : Limits) (r s : List PlainEntry) → a ≡ b → GrewByAnswers (Answer a) r s → GrewByAnswers (Answer b) r s
grew_same Answer a b r s e g = subst (λ (z : Limits). GrewByAnswers (Answer z) r s) e g

-- ---- the moment of a step

-- a step at the last moment, and one that is said to be at it
pub begun : (now : ℕ) (before after : List ℕ) (w : Bool) (a b : PairState) (t u : Option (List Event)) (r s : List PlainEntry) (K : List Event → Type 0) → after ≡ before ++ now ∷ []
    → PairStep (last_of after) w a b t u r s K → PairStep now w a b t u r s K
begun now before after w a b t u r s K e p = step_at (last_of after) now w a b t u r s K (ap last_of e ∙ last_more before now) p

pub ended_at : (now : ℕ) (before after : List ℕ) (w : Bool) (a b : PairState) (t u : Option (List Event)) (r s : List PlainEntry) (K : List Event → Type 0) → after ≡ before ++ now ∷ []
    → PairStep now w a b t u r s K → PairStep (last_of after) w a b t u r s K
ended_at now before after w a b t u r s K e p = step_at now (last_of after) w a b t u r s K (sym (ap last_of e ∙ last_more before now)) p

-- ---- what a turn means

-- a turn that went well, the last round of which began at this moment
pub goes_well : (now : ℕ) (p b : PairState) (t u : Option (List Event)) (r s : List PlainEntry) (K : List Event → Type 0) → p.is_over ≡ false
    → ((es : List Event) → u ≡ Some es → AreBy now es) → PairStep now true (record p { is_over = true }) b t u r s K → GoesOn p t r (record b { is_over = false }) u s
unfolding Running
goes_well now p b t u r s K going by step = λ earlier events before entries run x y.
    let old : IsRunning true p events entries = subst (λ (z : Bool). IsRunning (not z) p events entries) going run.running in
    let over : IsRunning true (record p { is_over = true }) events entries = runs_over p true true events entries old in
    let told_is : u ≡ Some (earlier ++ (events ++ step.more))
    = step.told_is ∙ (ap (λ (z : Option (List Event)). told z step.more) x ∙ ap Some (append_assoc earlier events step.more)) in
    record {
      same_requests = step.same.requests;
      same_ids = step.same.ids;
      same_config = step.same.config;
      more = step.more;
      told_is = told_is;
      fresh = step.fresh;
      served_is = step.served_is ∙ (ap (λ (z : List PlainEntry). z ++ step.fresh) y ∙ append_assoc before entries step.fresh);
      running = record {
        running = runs_over b false true (events ++ step.more) (entries ++ step.fresh) (step.running events entries over);
        soundly = λ e honest.
            soundly_over b false (events ++ step.more) (entries ++ step.fresh)
            (step.soundly refl events entries honest (by_behind now earlier (events ++ step.more) (by (earlier ++ (events ++ step.more)) told_is))
            (soundly_over p true events entries (run.soundly going (honest_front events step.more honest))));
      };
    }

-- the same, where the pair is seen as another value that is equal
pub goes_well_as : (now : ℕ) (p v b : PairState) (t u : Option (List Event)) (r s : List PlainEntry) (K : List Event → Type 0) → v ≡ b → p.is_over ≡ false
    → ((es : List Event) → u ≡ Some es → AreBy now es) → PairStep now true (record p { is_over = true }) b t u r s K → GoesOn p t r (record v { is_over = false }) u s
goes_well_as now p v b t u r s K same going by step =
    goes_well now p v t u r s K going by (subst (λ (z : PairState). PairStep now true (record p { is_over = true }) z t u r s K) (sym same) step)

pub goes_ill : (now : ℕ) (p b : PairState) (t u : Option (List Event)) (r s : List PlainEntry) (K : List Event → Type 0) → p.is_over ≡ false
    → PairStep now false (record p { is_over = true }) b t u r s K → GoesOn p t r b u s
unfolding Running
goes_ill now p b t u r s K going step = λ earlier events before entries run x y.
    let old : IsRunning true p events entries = subst (λ (z : Bool). IsRunning (not z) p events entries) going run.running in
    record {
      same_requests = step.same.requests;
      same_ids = step.same.ids;
      same_config = step.same.config;
      more = step.more;
      told_is = step.told_is ∙ (ap (λ (z : Option (List Event)). told z step.more) x ∙ ap Some (append_assoc earlier events step.more));
      fresh = step.fresh;
      served_is = step.served_is ∙ (ap (λ (z : List PlainEntry). z ++ step.fresh) y ∙ append_assoc before entries step.fresh);
      running = record {
        running = subst (λ (z : Bool). IsRunning (not z) b (events ++ step.more) (entries ++ step.fresh)) (sym step.same.over)
            (step.running events entries (runs_over p true true events entries old));
        soundly = λ e. let over : true ≡ false = sym step.same.over ∙ e in cc;
      };
    }

pub adds : (now : ℕ) (w : Bool) (a b : PairState) (t u : Option (List Event)) (r s : List PlainEntry) (K Kind : List Event → Type 0)
    → PairStep now w a b t u r s K → ((x : List Event) → K x → Kind x) → Adds Kind t u
adds now w a b t u r s K Kind p kinds = λ events e. (p.more, p.told_is ∙ ap (λ (z : Option (List Event)). told z p.more) e, kinds p.more p.kind)

pub protocol_again : (T U : Type 0) (e : ExchangeError) (P : ConnectionError → Type 0) → IfProtocol {T = T} (Err e) P → IfProtocol {T = U} (Err e) P
protocol_again T U error.Link P h = tt
protocol_again T U error.Memory P h = tt
protocol_again T U error.TimedOut P h = tt
protocol_again T U error.OutOfRounds P h = tt
protocol_again T U (error.Invalid index) P h = tt
protocol_again T U (error.Protocol x) P h = h

pub timed_again : (T U : Type 0) (e : ExchangeError) (H : Type 0) → IfTimedOut {T = T} (Err e) H → IfTimedOut {T = U} (Err e) H
timed_again T U error.Link H h = tt
timed_again T U error.Memory H h = tt
timed_again T U error.TimedOut H h = h
timed_again T U error.OutOfRounds H h = tt
timed_again T U (error.Invalid index) H h = tt
timed_again T U (error.Protocol x) H h = tt

-- the clock of a turn that went well, and of one that didn't
pub clocked_well : (p b : PairState) (before moments after : List ℕ) (x : Unit {0}) (done : Bool) → TicksOn {T = Unit {0}} (record p { is_over = true }) b before moments after (Ok x)
    → ClocksOn p (record b { is_over = false }) before moments after (Ok done)
clocked_well p b before moments after x done t = record { more = t.more; are = t.are; clocked = both_clocked b false (moments ++ t.more) t.ticking; timed_out = tt }

-- an end that knew its peer still does, where a turn failed and where it didn't
pub known_ill : (p b : PairState) → KeepsGreeted (record p { is_over = true }) b → KeepsGreeted p b
known_ill p b k = record { client = k.client; server = k.server }

pub known_well_as : (p v b : PairState) → v ≡ b → KeepsGreeted (record p { is_over = true }) b → KeepsGreeted p (record v { is_over = false })
known_well_as p v b same k = record {
  client = λ known. subst (λ (z : PairState). IsGreetedAt z.client_end) (sym same) (k.client known);
  server = λ known. subst (λ (z : PairState). IsGreetedAt z.server_end) (sym same) (k.server known);
}

pub clocked_ill : (p b : PairState) (before moments after : List ℕ) (e : ExchangeError) → TicksOn {T = Unit {0}} (record p { is_over = true }) b before moments after (Err e)
    → ClocksOn {T = Bool} p b before moments after (Err e)
clocked_ill p b before moments after e t = record { more = t.more; are = t.are; clocked = tt; timed_out = timed_again (Unit {0}) Bool e (HasTimedOut b (moments ++ t.more)) t.timed_out }

pub clocked_well_as : (p v b : PairState) (before moments after : List ℕ) (x : Unit {0}) (done : Bool) → v ≡ b → TicksOn {T = Unit {0}} (record p { is_over = true }) b before moments after (Ok x)
    → ClocksOn p (record v { is_over = false }) before moments after (Ok done)
clocked_well_as p v b before moments after x done same t =
    clocked_well p v before moments after x done (subst (λ (z : PairState). TicksOn {T = Unit {0}} (record p { is_over = true }) z before moments after (Ok x)) (sym same) t)
