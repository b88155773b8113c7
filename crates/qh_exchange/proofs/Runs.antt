-- What an exchange of a script's requests leaves behind, where a service echoes over a link in memory.
use Rattle.std.proofs.Common.{◌≡◌, ℕ, List, [], ◌++◌, length, Option, Some, None, Result, Ok, Err, refl, sym, ap, ◌∙◌, subst}
use Rattle.std.specs.Prelude.{IfOk, IfErr, IsOk, All, flat_map}
use Rattle.qh_base.specs.declared.connection_error.ConnectionError.{ConnectionError}
use Rattle.qh_link.specs.ScriptLink.{PlainLink, plan_of}
use Rattle.qh_plain.specs.Undecided.{IsUndecidedList}
use Rattle.qh_roles.specs.Server.{GrewByAnswers}
use Rattle.qh_spec.specs.declared.link.Event.{Event}
use Rattle.qh_spec.specs.declared.link.Upset.{Upset}
use Rattle.qh_spec.specs.Config.{PlainConfig}
use Rattle.qh_spec.specs.Echoed.{HasMaps}
use Rattle.qh_spec.specs.Fault.{CountsFaults}
use Rattle.qh_spec.specs.Headline.{ServedOnce, AnsweredOnce}
use Rattle.qh_spec.specs.Honest.{IsHonest}
use Rattle.qh_spec.specs.Link.{moments_of}
use Rattle.qh_spec.specs.Lists.{In}
use Rattle.qh_spec.specs.Message.{PlainMessage}
use Rattle.qh_spec.specs.Record.{PlainEntry}
use Rattle.qh_spec.specs.Report.{entry_block, report_of}
use Rattle.qh_spec.specs.Schedule.{Plan, IsScheduled, IsUnforged}
use Rattle.qh_spec.specs.Script.{Script, rounds_of}
use Rattle.qh_spec.specs.Service.{echo}
use Rattle.qh_spec.specs.Validity.{IsFaultIndex, IsValidList}
use Rattle.qh_script.specs.Report.{HaveMaps, report_by}
use Rattle.qh_spec.proofs.Schedules.{unforged_is_honest}
use Rattle.qh_pair.specs.declared.error.ExchangeError.{ExchangeError}
use Rattle.qh_pair.specs.declared.error.ExchangeError.TheVariants.{Invalid, Link, TimedOut, OutOfRounds, Protocol, Memory}
use Rattle.qh_exchange.specs.declared.ending.Ending.{Ending}
use Rattle.qh_exchange.specs.declared.ending.Outcome.TheVariants.{Failed, Unlisted}
use Rattle.qh_exchange.specs.Ending.{status_of, text_of}
use Rattle.qh_exchange.specs.Endings.{EndsAnswered, EndsFailed, IsRunAs, listed, left_out, reported, wanting}
use Rattle.qh_pair.specs.Errors.{IfInvalid, IfLink, IfOutOfRounds, IfProtocol, IfTimedOut}
use Rattle.qh_exchange.specs.Exchange.{IsInvalidAnswer}
use Rattle.qh_pair.specs.Pair.{KeepWithin}
use Rattle.qh_exchange.specs.Program.{AreEchoes, HasRun, ScriptEnds, answered, failed, unlisted, unreported, neither}
use Rattle.qh_pair.specs.Hellos.{AreGreetedAsSet, AreGreetedFirst, AreSaidAsSet, HaveIdsOfLength, LeaveIdleTime}
use Rattle.qh_pair.specs.Settings.{conn_config, whole_idle}
use Rattle.qh_pair.specs.Sound.{EndsFairly}
use Rattle.qh_pair.specs.Turn.{AddsFault, EndsInFault, HasWaitedFor, RanOut, WasIdle, WasLost, has_link_failed}
use Rattle.qh_pair.proofs.Fairness.{fair_again}
use Rattle.qh_pair.proofs.Faults.{fault_again, fault_last, fault_whole}
use Rattle.qh_exchange.proofs.Endings.{ends_by, ends_done}
use Rattle.qh_exchange.proofs.Reported.{reported as told_of}

-- ---- what is known of an exchange

abbrev IsFaultOf : PlainConfig → List PlainMessage → ℕ → Type 0
IsFaultOf config requests index = IsFaultIndex config.max_requests config.max_field_section_size config.max_request_body requests index

abbrev IsValidAt : PlainConfig → List PlainMessage → Type 0
IsValidAt config requests = IsValidList config.max_requests config.max_field_section_size config.max_request_body requests

abbrev IsUndecidedAt : PlainConfig → List PlainMessage → Type 0
IsUndecidedAt config requests = IsUndecidedList config.max_requests config.max_field_section_size config.max_request_body requests

-- what the clauses of `exchange` say of a fresh link in memory and of a service that echoes and had served nothing
pub record Exchanged {V : Type 0} (items : V → List PlainMessage) (config : PlainConfig) (requests : List PlainMessage) (rounds : ℕ) (new : PlainLink) (after : List PlainEntry) (r : Result V ExchangeError) : Type 0 where
  pub answered : IsHonest new.events → IfOk r (λ v. AnsweredOnce config.local_id_len new.events requests [] after (items v))
  pub once : IsHonest new.events → ServedOnce config.local_id_len new.events requests [] after
  pub greeted : IsHonest new.events → AreGreetedFirst config.local_id_len new.events
  pub set : IsHonest new.events → AreGreetedAsSet config.local_id_len (conn_config config) new.events
  pub said : AreSaidAsSet config.local_id_len (conn_config config) new.events
  pub within : HaveIdsOfLength config.local_id_len new.events → KeepWithin config.local_id_len new.events
  pub count : IfOk r (λ v. length (items v) ≡ length requests)
  pub empty : requests ≡ [] → IsOk r × (new.events ≡ []) × (after ≡ [])
  pub invalid : IfInvalid r (λ index. IsFaultOf config requests index × (new.events ≡ []) × (after ≡ []))
  pub not_valid : (IsValidAt config requests → ⊥) → IsInvalidAnswer r (IsUndecidedAt config requests) × (new.events ≡ []) × (after ≡ [])
  pub answers : GrewByAnswers (λ q a. a ≡ echo config.max_response_body q) [] after
  pub cause : CountsFaults 0 new.faults (has_link_failed r)
  pub fault : IfLink r (EndsInFault new.events)
  pub timed_out : LeaveIdleTime config.local_id_len (conn_config config) new.events → IfTimedOut r (WasIdle (whole_idle (conn_config config).idle) [] (moments_of new.events))
  pub waited : IfTimedOut r (HasWaitedFor (conn_config config).idle [] (moments_of new.events))
  pub fair : IsHonest new.events → EndsFairly config.local_id_len (conn_config config).idle new.events r
  pub lost : IfProtocol r (WasLost config.local_id_len (conn_config config) requests (Some []) (Some new.events) [] after)
  pub out_of_rounds : IfOutOfRounds r (RanOut config.local_id_len (conn_config config) rounds requests (Some []) (Some new.events) [] (moments_of new.events) [] after)

-- the clauses of `exchange`, over a link in memory and with a service that echoes
pub record Clauses {V : Type 0} (items : V → List PlainMessage) (config : PlainConfig) (requests : List PlainMessage) (rounds : ℕ) (old new : PlainLink) (before after : List PlainEntry)
    (r : Result V ExchangeError) : Type 0 where
  pub answered : (events : List Event) → Some old.events ≡ Some [] → Some new.events ≡ Some events → IsHonest events
      → IfOk r (λ v. AnsweredOnce config.local_id_len events requests before after (items v))
  pub once : (events : List Event) → Some old.events ≡ Some [] → Some new.events ≡ Some events → IsHonest events
      → ServedOnce config.local_id_len events requests before after
  pub greeted : (earlier more : List Event) → Some old.events ≡ Some earlier → Some new.events ≡ Some (earlier ++ more) → IsHonest more → AreGreetedFirst config.local_id_len more
  pub set : (earlier more : List Event) → Some old.events ≡ Some earlier → Some new.events ≡ Some (earlier ++ more) → IsHonest more → AreGreetedAsSet config.local_id_len (conn_config config) more
  pub said : (earlier more : List Event) → Some old.events ≡ Some earlier → Some new.events ≡ Some (earlier ++ more) → AreSaidAsSet config.local_id_len (conn_config config) more
  pub within : (earlier more : List Event) → Some old.events ≡ Some earlier → Some new.events ≡ Some (earlier ++ more)
      → HaveIdsOfLength config.local_id_len more → KeepWithin config.local_id_len more
  pub count : IfOk r (λ v. length (items v) ≡ length requests)
  pub empty : requests ≡ [] → IsOk r × (new ≡ old) × (after ≡ before)
  pub invalid : IfInvalid r (λ index. IsFaultOf config requests index × (new ≡ old) × (after ≡ before))
  pub not_valid : (IsValidAt config requests → ⊥) → IsInvalidAnswer r (IsUndecidedAt config requests) × (new ≡ old) × (after ≡ before)
  pub answers : GrewByAnswers (λ q a. a ≡ echo config.max_response_body q) before after
  pub cause : CountsFaults old.faults new.faults (has_link_failed r)
  pub fault : IfLink r (AddsFault (Some old.events) (Some new.events))
  pub timed_out : (earlier more : List Event) → Some old.events ≡ Some earlier → Some new.events ≡ Some (earlier ++ more) → LeaveIdleTime config.local_id_len (conn_config config) more
      → IfTimedOut r (WasIdle (whole_idle (conn_config config).idle) (moments_of old.events) (moments_of new.events))
  pub waited : IfTimedOut r (HasWaitedFor (conn_config config).idle (moments_of old.events) (moments_of new.events))
  pub fair : (events : List Event) → Some old.events ≡ Some [] → Some new.events ≡ Some events → IsHonest events
      → EndsFairly config.local_id_len (conn_config config).idle events r
  pub lost : IfProtocol r (WasLost config.local_id_len (conn_config config) requests (Some old.events) (Some new.events) before after)
  pub out_of_rounds : IfOutOfRounds r (RanOut config.local_id_len (conn_config config) rounds requests (Some old.events) (Some new.events) (moments_of old.events) (moments_of new.events) before after)

invalid_weaker : {V : Type 0} (r : Result V ExchangeError) (P Q : ℕ → Type 0) → ((index : ℕ) → P index → Q index) → IfInvalid r P → IfInvalid r Q
invalid_weaker (Ok v) P Q f h = tt
invalid_weaker (Err (Invalid index)) P Q f h = f index h
invalid_weaker (Err Link) P Q f h = tt
invalid_weaker (Err TimedOut) P Q f h = tt
invalid_weaker (Err OutOfRounds) P Q f h = tt
invalid_weaker (Err (Protocol x)) P Q f h = tt
invalid_weaker (Err Memory) P Q f h = tt

-- the same, where nothing had happened on the link and nothing was served
exchanged : {V : Type 0} (items : V → List PlainMessage) (config : PlainConfig) (requests : List PlainMessage) (rounds : ℕ) (old new : PlainLink) (before after : List PlainEntry)
    (r : Result V ExchangeError) → old.events ≡ [] → old.faults ≡ 0 → before ≡ [] → Clauses items config requests rounds old new before after r
    → Exchanged items config requests rounds new after r
exchanged items config requests rounds old new before after r none never nothing x =
    let fresh : Some old.events ≡ Some [] = ap Some none in
    let unused : new ≡ old → new.events ≡ [] = λ e. ap (λ (l : PlainLink). l.events) e ∙ none in
    record {
      answered = λ h. subst (λ (z : List PlainEntry). IfOk r (λ v. AnsweredOnce config.local_id_len new.events requests z after (items v))) nothing (x.answered new.events fresh refl h);
      once = λ h. subst (λ (z : List PlainEntry). ServedOnce config.local_id_len new.events requests z after) nothing (x.once new.events fresh refl h);
      greeted = x.greeted [] new.events fresh refl;
      set = x.set [] new.events fresh refl;
      said = x.said [] new.events fresh refl;
      within = x.within [] new.events fresh refl;
      count = x.count;
      empty = λ e. let a = x.empty e in (a.0, unused a.1, a.2 ∙ nothing);
      invalid = invalid_weaker r (λ index. IsFaultOf config requests index × (new ≡ old) × (after ≡ before)) (λ index. IsFaultOf config requests index × (new.events ≡ []) × (after ≡ []))
          (λ index h. (h.0, unused h.1, h.2 ∙ nothing)) x.invalid;
      not_valid = λ n. let a = x.not_valid n in (a.0, unused a.1, a.2 ∙ nothing);
      answers = subst (λ (z : List PlainEntry). GrewByAnswers (λ q a. a ≡ echo config.max_response_body q) z after) nothing x.answers;
      cause = subst (λ (z : ℕ). CountsFaults z new.faults (has_link_failed r)) never x.cause;
      fault = fault_last r _ _ (fault_whole old.events new.events none) x.fault;
      timed_out = λ set. subst (λ (z : List Event). IfTimedOut r (WasIdle (whole_idle (conn_config config).idle) (moments_of z) (moments_of new.events))) none (x.timed_out [] new.events fresh refl set);
      waited = subst (λ (z : List Event). IfTimedOut r (HasWaitedFor (conn_config config).idle (moments_of z) (moments_of new.events))) none x.waited;
      fair = x.fair new.events fresh refl;
      lost = subst (λ (z : List PlainEntry). IfProtocol r (WasLost config.local_id_len (conn_config config) requests (Some []) (Some new.events) z after)) nothing
          (subst (λ (z : List Event). IfProtocol r (WasLost config.local_id_len (conn_config config) requests (Some z) (Some new.events) before after)) none x.lost);
      out_of_rounds = subst (λ (z : List PlainEntry). IfOutOfRounds r (RanOut config.local_id_len (conn_config config) rounds requests (Some []) (Some new.events) [] (moments_of new.events) z after)) nothing
          (subst (λ (z : List Event). IfOutOfRounds r (RanOut config.local_id_len (conn_config config) rounds requests (Some z) (Some new.events) (moments_of z) (moments_of new.events) before after)) none x.out_of_rounds);
    }

abbrev step_in : Option Plan → ℕ
step_in None = 0
step_in (Some p) = p.step

abbrev schedule_in : Option Plan → List Upset
schedule_in None = []
schedule_in (Some p) = p.schedule

-- ---- an error says the same of any value that isn't there

rounds_as : (V W : Type 0) (e : ExchangeError) (P : Type 0) → IfOutOfRounds {T = V} (Err e) P → IfOutOfRounds {T = W} (Err e) P
rounds_as V W (Invalid index) P h = tt
rounds_as V W Link P h = tt
rounds_as V W TimedOut P h = tt
rounds_as V W OutOfRounds P h = h
rounds_as V W (Protocol x) P h = tt
rounds_as V W Memory P h = tt

time_as : (V W : Type 0) (e : ExchangeError) (P : Type 0) → IfTimedOut {T = V} (Err e) P → IfTimedOut {T = W} (Err e) P
time_as V W (Invalid index) P h = tt
time_as V W Link P h = tt
time_as V W TimedOut P h = h
time_as V W OutOfRounds P h = tt
time_as V W (Protocol x) P h = tt
time_as V W Memory P h = tt

loss_as : (V W : Type 0) (e : ExchangeError) (P : ConnectionError → Type 0) → IfProtocol {T = V} (Err e) P → IfProtocol {T = W} (Err e) P
loss_as V W (Invalid index) P h = tt
loss_as V W Link P h = tt
loss_as V W TimedOut P h = tt
loss_as V W OutOfRounds P h = tt
loss_as V W (Protocol x) P h = h
loss_as V W Memory P h = tt

fault_as : (V W : Type 0) (e : ExchangeError) (P : ℕ → Type 0) → IfInvalid {T = V} (Err e) P → IfInvalid {T = W} (Err e) P
fault_as V W (Invalid index) P h = h
fault_as V W Link P h = tt
fault_as V W TimedOut P h = tt
fault_as V W OutOfRounds P h = tt
fault_as V W (Protocol x) P h = tt
fault_as V W Memory P h = tt

invalid_as : (V W : Type 0) (e : ExchangeError) (P : Type 0) → IsInvalidAnswer {T = V} (Err e) P → IsInvalidAnswer {T = W} (Err e) P
invalid_as V W (Invalid index) P h = tt
invalid_as V W Link P h = absurd h
invalid_as V W TimedOut P h = absurd h
invalid_as V W OutOfRounds P h = absurd h
invalid_as V W (Protocol x) P h = absurd h
invalid_as V W Memory P h = h

-- what a record that grew from nothing has
grown_echoes : (limit : ℕ) (after : List PlainEntry) → GrewByAnswers (λ q a. a ≡ echo limit q) [] after → AreEchoes limit after
grown_echoes limit after g e i = g.each e (subst (λ (z : List PlainEntry). In e z) g.longer i)

failed_is_no_answer : (V : Type 0) (x : ExchangeError) → IsOk {T = V} (Err x) → ⊥
failed_is_no_answer V x e = cc

-- ---- what a run leaves

ran_ok : {V : Type 0} (items : V → List PlainMessage) (s : Script) (new : PlainLink) (after : List PlainEntry) (v : V)
    → Exchanged items s.config s.requests (rounds_of s) new after (Ok v) → new.step ≡ s.step → new.schedule ≡ s.schedule → (IsUnforged s.schedule → IsHonest new.events)
    → HasRun s new after (Ok (items v))
ran_ok items s new after v x step schedule honest = record {
  step_is = step;
  schedule_is = schedule;
  served_once = λ u. x.once (honest u);
  answered_once = λ u. x.answered (honest u);
  echoes = grown_echoes s.config.max_response_body after x.answers;
  greeted_first = λ u. x.greeted (honest u);
  as_set = λ u. x.set (honest u);
  said_as_set = x.said;
  kept_within = x.within;
  count = x.count;
  empty = λ e. let a = x.empty e in (refl, a.1, a.2);
  cause = x.cause;
  fault = tt;
  invalid = tt;
  not_valid = λ n. let a = x.not_valid n in absurd a.0;
  timed_out = λ set. tt;
  waited = tt;
  fair = λ u. tt;
  lost = tt;
  out_of_rounds = tt;
}

ran_err : {V : Type 0} (items : V → List PlainMessage) (s : Script) (new : PlainLink) (after : List PlainEntry) (x : ExchangeError)
    → Exchanged items s.config s.requests (rounds_of s) new after (Err x) → new.step ≡ s.step → new.schedule ≡ s.schedule → (IsUnforged s.schedule → IsHonest new.events)
    → HasRun s new after (Err x)
ran_err {V} items s new after x known step schedule honest = record {
  step_is = step;
  schedule_is = schedule;
  served_once = λ u. known.once (honest u);
  answered_once = λ u. tt;
  echoes = grown_echoes s.config.max_response_body after known.answers;
  greeted_first = λ u. known.greeted (honest u);
  as_set = λ u. known.set (honest u);
  said_as_set = known.said;
  kept_within = known.within;
  count = tt;
  empty = λ e. let a = known.empty e in absurd (failed_is_no_answer V x a.0);
  cause = known.cause;
  fault = fault_again V (List PlainMessage) x _ _ (λ z. z) known.fault;
  invalid = fault_as V (List PlainMessage) x _ known.invalid;
  not_valid = λ n. let a = known.not_valid n in (invalid_as V (List PlainMessage) x _ a.0, a.1, a.2);
  timed_out = λ set. time_as V (List PlainMessage) x _ (known.timed_out set);
  waited = time_as V (List PlainMessage) x _ known.waited;
  fair = λ u. fair_again V (List PlainMessage) s.config.local_id_len (conn_config s.config).idle new.events x (known.fair (honest u));
  lost = loss_as V (List PlainMessage) x _ known.lost;
  out_of_rounds = rounds_as V (List PlainMessage) x _ known.out_of_rounds;
}

-- ---- how a run ends

-- how a run ends
abbrev pub RunsTo : Script → PlainLink → List PlainEntry → Ending → Type 0
RunsTo s new after w = ScriptEnds s new after (status_of w.last) (text_of w)

wanting_ends : (s : Script) (new : PlainLink) (after : List PlainEntry) (answers : List PlainMessage) (w : Ending) → HasRun s new after (Ok answers) → EndsFailed after Memory w
    → RunsTo s new after w
wanting_ends s new after answers w run (listed t l) = ends_by (ScriptEnds s new after) w (flat_map entry_block after) (Failed Memory) t l (unreported answers run)
wanting_ends s new after answers w run (left_out t l) = ends_by (ScriptEnds s new after) w [] (Unlisted Memory) t l (neither answers run)

answered_ends : (s : Script) (new : PlainLink) (after : List PlainEntry) (answers : List PlainMessage) (w : Ending) → HasRun s new after (Ok answers)
    → (HaveMaps after answers → IsUnforged s.schedule → report_by after answers ≡ report_of s.config.max_response_body s.requests) → EndsAnswered after answers w → RunsTo s new after w
answered_ends s new after answers w run told (reported t l maps) = ends_done (ScriptEnds s new after) w (report_by after answers) t l (answered answers run (told maps))
answered_ends s new after answers w run told (wanting f) = wanting_ends s new after answers w run f

failed_ends : (s : Script) (new : PlainLink) (after : List PlainEntry) (x : ExchangeError) (w : Ending) → HasRun s new after (Err x) → EndsFailed after x w → RunsTo s new after w
failed_ends s new after x w run (listed t l) = ends_by (ScriptEnds s new after) w (flat_map entry_block after) (Failed x) t l (failed x run)
failed_ends s new after x w run (left_out t l) = ends_by (ScriptEnds s new after) w [] (Unlisted x) t l (unlisted x run)

either_ends : {V : Type 0} (items : V → List PlainMessage) (s : Script) (new : PlainLink) (after : List PlainEntry) (r : Result V ExchangeError) (w : Ending)
    → Exchanged items s.config s.requests (rounds_of s) new after r → new.step ≡ s.step → new.schedule ≡ s.schedule → (IsUnforged s.schedule → IsHonest new.events)
    → All HasMaps s.requests → IfOk r (λ v. EndsAnswered after (items v) w) → IfErr r (λ x. EndsFailed after x w) → RunsTo s new after w
either_ends items s new after (Ok v) w x step schedule honest maps ok err =
    let run : HasRun s new after (Ok (items v)) = ran_ok items s new after v x step schedule honest in
    answered_ends s new after (items v) w run
    (λ have u. told_of s.config.local_id_len s.config.max_response_body new.events s.requests after (items v) (x.answered (honest u)) run.echoes maps have) ok
either_ends items s new after (Err e) w x step schedule honest maps ok err = failed_ends s new after e w (ran_err items s new after e x step schedule honest) err

-- a run of a script's requests, over a link that kept its plan
pub script_ends : {V : Type 0} (items : V → List PlainMessage) (s : Script) (config : PlainConfig) (requests : List PlainMessage) (rounds : ℕ) (old new : PlainLink) (before after : List PlainEntry)
    (r : Result V ExchangeError) (w : Ending) → IsRunAs s config requests rounds old → old.events ≡ [] → old.faults ≡ 0 → before ≡ []
    → Clauses items config requests rounds old new before after r → plan_of new ≡ plan_of old → IsScheduled new.step new.schedule new.events → All HasMaps requests
    → IfOk r (λ v. EndsAnswered after (items v) w) → IfErr r (λ x. EndsFailed after x w) → RunsTo s new after w
script_ends items s config requests rounds old new before after r w as_ none never nothing x plan scheduled maps ok err =
    let schedule : new.schedule ≡ s.schedule = ap schedule_in plan ∙ as_.schedule_is in
    either_ends items s new after r w
    (subst (λ (z : ℕ). Exchanged items s.config s.requests z new after r) as_.rounds_are
    (subst (λ (z : List PlainMessage). Exchanged items s.config z rounds new after r) as_.requests_are
    (subst (λ (z : PlainConfig). Exchanged items z requests rounds new after r) as_.config_is
    (exchanged items config requests rounds old new before after r none never nothing x))))
    (ap step_in plan ∙ as_.step_is) schedule
    (λ u. unforged_is_honest new.step new.schedule new.events scheduled (subst IsUnforged (sym schedule) u)) (subst (All HasMaps) as_.requests_are maps) ok err
