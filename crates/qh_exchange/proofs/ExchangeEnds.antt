-- How an exchange ends by the rounds of a pair before its first turn, and what it means then.
use Rattle.std.proofs.Common.{◌≡◌, ◌≢◌, ℕ, zero, suc, ◌<◌, List, [], ◌∷◌, ◌++◌, length, Option, Some, Ok, Err, refl, sym, ap, ◌∙◌, subst, arith, append-nil}
use Rattle.std.specs.Prelude.{IfErr, IfOk, Result, filter, is_some, map, slice_get}
use Rattle.std.proofs.lemmas.List.{append_cancel_left}
use Rattle.qh_conn.specs.declared.config.ConnConfig.{ConnConfig}
use Rattle.qh_roles.specs.Client.{held}
use Rattle.qh_service.specs.declared.service.Limits.{Limits}
use Rattle.qh_spec.specs.declared.link.Event.{Event}
use Rattle.qh_spec.specs.Headline.{ServedOnce, IsRecordedAnswer, AnsweredOnce}
use Rattle.qh_spec.specs.Honest.{IsHonest}
use Rattle.qh_spec.specs.Link.{given_to, other, sent_by}
use Rattle.qh_spec.specs.Lists.{In}
use Rattle.qh_spec.specs.declared.sides.Side.{Side}
use Rattle.qh_spec.specs.declared.sides.Side.TheVariants.{Client, Server}
use Rattle.qh_spec.specs.Message.{PlainMessage}
use Rattle.qh_spec.specs.Record.{PlainEntry}
use Rattle.qh_spec.proofs.HeadlineLaws.{served_nothing}
use Rattle.qh_pair.specs.declared.ends.Ids.{Ids}
use Rattle.qh_pair.specs.declared.error.ExchangeError.{ExchangeError}
use Rattle.qh_pair.specs.declared.error.ExchangeError.TheVariants as error
use Rattle.qh_pair.specs.Clock.{HasPassed, HasTimedOut}
use Rattle.qh_pair.specs.Errors.{EndsAs, IfInvalid, IfLink, IfOutOfRounds, IfProtocol, IfTimedOut}
use Rattle.qh_pair.specs.Full.{AreFullTurns}
use Rattle.qh_pair.specs.Hellos.{AreGreetedAsSet, AreGreetedFirst, AreSaidAsSet, HaveIdsOfLength, LeaveIdleTime}
use Rattle.qh_pair.specs.Pair.{PairState, Running, WentOn, GoesOn, Means, KeepWithin}
use Rattle.qh_pair.specs.Asked.{IsAsked}
use Rattle.qh_exchange.specs.Rounds.{IsRoundsError, IsRunOut, RoundsMade}
use Rattle.qh_pair.specs.Settings.{whole_idle}
use Rattle.qh_pair.specs.Turn.{IsProtocolLoss, RanOut, WasIdle, WasLost, WasMade, WasTimedOut}
use Rattle.qh_exchange.proofs.AskedLists.{no_such}
use Rattle.qh_pair.proofs.Faults.{fault_again}
use Rattle.qh_pair.proofs.Hellos.{none_greets}
use Rattle.qh_exchange.proofs.Rounds.{idle_of}

-- where a pair stands that went on from where nothing had happened
pub stands : (p q : PairState) (t u : Option (List Event)) (r s : List PlainEntry) → Running p [] [] → GoesOn p t r q u s
    → (events more : List Event) (fresh : List PlainEntry) → t ≡ Some events → u ≡ Some (events ++ more) → s ≡ r ++ fresh → Running q more fresh
stands p q t u r s run goes events more fresh te ue se =
    let x : WentOn p q events [] u r [] s = goes events [] r [] run (te ∙ ap Some (sym (append-nil events))) (sym (append-nil r)) in
    let a : Some (events ++ x.more) ≡ Some (events ++ more) = sym x.told_is ∙ ue in
    let b : events ++ x.more ≡ events ++ more = cc in
    let c : r ++ x.fresh ≡ r ++ fresh = sym x.served_is ∙ se in
    subst (λ (z : List Event). Running q z fresh) (append_cancel_left events x.more more b)
    (subst (λ (z : List PlainEntry). Running q x.more z) (append_cancel_left r x.fresh fresh c) x.running)

pub tells : (p q : PairState) (t u : Option (List Event)) (r s : List PlainEntry) → Running p [] [] → GoesOn p t r q u s
    → (events : List Event) → t ≡ Some events → (more : List Event) × (u ≡ Some (events ++ more))
tells p q t u r s run goes events te =
    let x : WentOn p q events [] u r [] s = goes events [] r [] run (te ∙ ap Some (sym (append-nil events))) (sym (append-nil r)) in
    (x.more, x.told_is)

-- what `pairs` says
abbrev pub MeanAll : Type 0
MeanAll = (p : PairState) (events : List Event) (before entries : List PlainEntry) → IsHonest events → Running p events entries → Means p events before entries

abbrev pub KeepAll : Type 0
KeepAll = (p : PairState) (events : List Event) (entries : List PlainEntry) → HaveIdsOfLength (length p.ids.client) events → Running p events entries → KeepWithin (length p.ids.client) events

abbrev pub TimedAll : Type 0
TimedAll = (p : PairState) (events : List Event) (entries : List PlainEntry) (moments : List ℕ) → LeaveIdleTime (length p.ids.client) p.config events → Running p events entries → HasTimedOut p moments
    → HasPassed (whole_idle p.config.idle) moments

concludes : (p q : PairState) (t u : Option (List Event)) (r s : List PlainEntry) → Running p [] [] → GoesOn p t r q u s
    → (events : List Event) → t ≡ Some [] → u ≡ Some events → (fresh : List PlainEntry) × (s ≡ r ++ fresh) × Running q events fresh × (q.client.requests ≡ p.client.requests) × (length q.ids.client ≡ length p.ids.client)
concludes p q t u r s run goes events te ue =
    let x : WentOn p q [] [] u r [] s = goes [] [] r [] run te (sym (append-nil r)) in
    let a : Some x.more ≡ Some events = sym x.told_is ∙ ue in
    let b : x.more ≡ events = cc in
    (x.fresh, x.served_is, subst (λ (z : List Event). Running q z x.fresh) b x.running, x.same_requests, ap (λ (z : Ids). length z.client) x.same_ids)

pub served_once : MeanAll → (k : ℕ) (p q : PairState) (requests : List PlainMessage) (t u : Option (List Event)) (r s : List PlainEntry)
    → Running p [] [] → p.client.requests ≡ requests → length p.ids.client ≡ k → GoesOn p t r q u s
    → (events : List Event) → t ≡ Some [] → u ≡ Some events → IsHonest events → ServedOnce k events requests r s
served_once means k p q requests t u r s run asked ids goes events te ue honest =
    let x = concludes p q t u r s run goes events te ue in
    let m : Means q events r x.0 = means q events r x.0 honest x.2 in
    subst (λ (z : List PlainEntry). ServedOnce k events requests r z) (sym x.1)
    (subst (λ (z : List PlainMessage). ServedOnce k events z r (r ++ x.0)) (x.3 ∙ asked)
    (subst (λ (z : ℕ). ServedOnce z events q.client.requests r (r ++ x.0)) (x.4 ∙ ids) m.served))

-- all answers are held
all_held : (xs : List PlainMessage) → filter is_some (map (λ (x : PlainMessage). Some x) xs) ≡ map (λ (x : PlainMessage). Some x) xs
all_held [] = refl
all_held (x ∷ xs) = ap (λ (z : List (Option PlainMessage)). Some x ∷ z) (all_held xs)

mapped_length : (xs : List PlainMessage) → length (map (λ (x : PlainMessage). Some x) xs) ≡ length xs
mapped_length [] = refl
mapped_length (x ∷ xs) = let e = mapped_length xs in omega (arith, e)

held_at : (xs : List PlainMessage) (index : ℕ) (x : PlainMessage) → slice_get xs index ≡ Some x → slice_get (map (λ (x : PlainMessage). Some x) xs) index ≡ Some (Some x)
held_at [] zero x e = cc
held_at [] (suc index) x e = cc
held_at (y ∷ xs) zero x e = ap Some e
held_at (y ∷ xs) (suc index) x e = held_at xs index x e

pub count_held : (items : List PlainMessage) (answers : List (Option PlainMessage)) (n : ℕ) → map (λ (x : PlainMessage). Some x) items ≡ answers → held answers ≡ n → length items ≡ n
count_held items answers n are count =
    sym (mapped_length items) ∙ (sym (ap length (all_held items)) ∙ (ap held are ∙ count))

pub answered_once : MeanAll → (k : ℕ) (p q : PairState) (requests items : List PlainMessage) (t u : Option (List Event)) (r s : List PlainEntry)
    → Running p [] [] → p.client.requests ≡ requests → length p.ids.client ≡ k → GoesOn p t r q u s → length items ≡ length requests → map (λ (x : PlainMessage). Some x) items ≡ q.client.answers
    → (events : List Event) → t ≡ Some [] → u ≡ Some events → IsHonest events → AnsweredOnce k events requests r s items
answered_once means k p q requests items t u r s run asked ids goes count are events te ue honest =
    let x = concludes p q t u r s run goes events te ue in
    let m : Means q events r x.0 = means q events r x.0 honest x.2 in
    let served : ServedOnce k events requests r s = served_once means k p q requests t u r s run asked ids goes events te ue honest in
    let same : x.0 ≡ served.grew.fresh = append_cancel_left r x.0 served.grew.fresh (sym x.1 ∙ served.grew.longer) in
    record {
      served = served;
      count = count;
      each = λ index answer at.
          subst (λ (z : List PlainEntry). IsRecordedAnswer k events z index answer) same
          (subst (λ (z : ℕ). IsRecordedAnswer z events x.0 index answer) (x.4 ∙ ids)
          (m.answered index answer (ap (λ (z : List (Option PlainMessage)). slice_get z index) (sym are) ∙ held_at items index answer at)));
    }

-- where a pair stands behind an exchange, which began with these ids and settings
record StandsAt (k : ℕ) (config : ConnConfig) (q : PairState) (more : List Event) : Type 0 where
  entries : List PlainEntry
  running : Running q more entries
  ids : length q.ids.client ≡ k
  conf : q.config ≡ config

stands_at : (k : ℕ) (config : ConnConfig) (p q : PairState) (t u : Option (List Event)) (r s : List PlainEntry) → Running p [] [] → length p.ids.client ≡ k → p.config ≡ config
    → GoesOn p t r q u s → (before more : List Event) → t ≡ Some before → u ≡ Some (before ++ more) → StandsAt k config q more
stands_at k config p q t u r s run ids conf goes before more te ue =
    let x : WentOn p q before [] u r [] s = goes before [] r [] run (te ∙ ap Some (sym (append-nil before))) (sym (append-nil r)) in
    let a : Some (before ++ x.more) ≡ Some (before ++ more) = sym x.told_is ∙ ue in
    let b : before ++ x.more ≡ before ++ more = cc in
    record {
      entries = x.fresh;
      running = subst (λ (z : List Event). Running q z x.fresh) (append_cancel_left before x.more more b) x.running;
      ids = ap (λ (z : Ids). length z.client) x.same_ids ∙ ids;
      conf = x.same_config ∙ conf;
    }

idle_as : (k : ℕ) (config : ConnConfig) (q : PairState) (more : List Event) → length q.ids.client ≡ k → q.config ≡ config → LeaveIdleTime k config more → LeaveIdleTime (length q.ids.client) q.config more
idle_as k config q more ids conf set = subst (λ (z : ConnConfig). LeaveIdleTime (length q.ids.client) z more) (sym conf) (subst (λ (z : ℕ). LeaveIdleTime z config more) (sym ids) set)

pub within_all : KeepAll → (k : ℕ) (config : ConnConfig) (p q : PairState) (t u : Option (List Event)) (r s : List PlainEntry) → Running p [] [] → length p.ids.client ≡ k → p.config ≡ config
    → GoesOn p t r q u s → (before more : List Event) → t ≡ Some before → u ≡ Some (before ++ more) → HaveIdsOfLength k more → KeepWithin k more
within_all keep k config p q t u r s run ids conf goes before more te ue set =
    let x : StandsAt k config q more = stands_at k config p q t u r s run ids conf goes before more te ue in
    subst (λ (z : ℕ). KeepWithin z more) x.ids (keep q more x.entries (subst (λ (z : ℕ). HaveIdsOfLength z more) (sym x.ids) set) x.running)

-- ---- what an honest link means for hellos

pub greeted_all : MeanAll → (k : ℕ) (p q : PairState) (t u : Option (List Event)) (r s : List PlainEntry) → Running p [] [] → length p.ids.client ≡ k → GoesOn p t r q u s
    → (before more : List Event) → t ≡ Some before → u ≡ Some (before ++ more) → IsHonest more → AreGreetedFirst k more
greeted_all means k p q t u r s run ids goes before more te ue honest =
    let x : StandsAt k p.config q more = stands_at k p.config p q t u r s run ids refl goes before more te ue in
    subst (λ (z : ℕ). AreGreetedFirst z more) x.ids (means q more [] x.entries honest x.running).greeted_first

pub set_all : MeanAll → (k : ℕ) (config : ConnConfig) (p q : PairState) (t u : Option (List Event)) (r s : List PlainEntry) → Running p [] [] → length p.ids.client ≡ k → p.config ≡ config → GoesOn p t r q u s
    → (before more : List Event) → t ≡ Some before → u ≡ Some (before ++ more) → IsHonest more → AreGreetedAsSet k config more
set_all means k config p q t u r s run ids conf goes before more te ue honest =
    let x : StandsAt k config q more = stands_at k config p q t u r s run ids conf goes before more te ue in
    subst (λ (z : ConnConfig). AreGreetedAsSet k z more) x.conf (subst (λ (z : ℕ). AreGreetedAsSet z q.config more) x.ids (means q more [] x.entries honest x.running).as_set)

-- ---- and any link, of what is said

abbrev pub SaidAll : Type 0
SaidAll = (p : PairState) (events : List Event) (entries : List PlainEntry) → Running p events entries → AreSaidAsSet (length p.ids.client) p.config events

pub said_all : SaidAll → (k : ℕ) (config : ConnConfig) (p q : PairState) (t u : Option (List Event)) (r s : List PlainEntry) → Running p [] [] → length p.ids.client ≡ k → p.config ≡ config → GoesOn p t r q u s
    → (before more : List Event) → t ≡ Some before → u ≡ Some (before ++ more) → AreSaidAsSet k config more
said_all says k config p q t u r s run ids conf goes before more te ue =
    let x : StandsAt k config q more = stands_at k config p q t u r s run ids conf goes before more te ue in
    subst (λ (z : ConnConfig). AreSaidAsSet k z more) x.conf (subst (λ (z : ℕ). AreSaidAsSet z q.config more) x.ids (says q more x.entries x.running))

-- ---- and for an idle time

pub idle_all : TimedAll → (k : ℕ) (config : ConnConfig) (p q : PairState) (t u : Option (List Event)) (r s : List PlainEntry) (m n : List ℕ) → Running p [] [] → length p.ids.client ≡ k → p.config ≡ config → GoesOn p t r q u s
    → (before more : List Event) → t ≡ Some before → u ≡ Some (before ++ more) → LeaveIdleTime k config more → WasTimedOut q m n → WasIdle (whole_idle config.idle) m n
idle_all timed k config p q t u r s m n run ids conf goes before more te ue set w =
    let x : StandsAt k config q more = stands_at k config p q t u r s run ids conf goes before more te ue in
    record {
      moments = w.moments;
      are = w.are;
      passed = subst (λ (z : ConnConfig). HasPassed (whole_idle z.idle) w.moments) x.conf (timed q more x.entries w.moments (idle_as k config q more x.ids x.conf set) x.running w.timed_out);
    }

nothing_sent : (front after : List Event) (x : Event) → [] ≡ front ++ x ∷ after → ⊥
nothing_sent [] after x e = cc
nothing_sent (y ∷ front) after x e = cc

nothing_given : (side : Side) → given_to side [] ≡ []
nothing_given Client = refl
nothing_given Server = refl

nothing_said : (side : Side) → sent_by side [] ≡ []
nothing_said Client = refl
nothing_said Server = refl

nothing_set : (k : ℕ) (config : ConnConfig) → AreGreetedAsSet k config []
nothing_set k config side p of = absurd (none_greets k (other side) p (given_to side []) (λ d i. subst (λ (z : List (List ℕ)). In d z) (nothing_given side) i) of)

-- nothing more was told
told_none : (t : Option (List Event)) (before more : List Event) → t ≡ Some before → t ≡ Some (before ++ more) → more ≡ []
told_none t before more te ue =
    let a : Some before ≡ Some (before ++ more) = sym te ∙ ue in
    let b : before ++ [] ≡ before ++ more = append-nil before ∙ (let c : before ≡ before ++ more = cc in c) in
    sym (append_cancel_left before [] more b)

pub within_none : (k : ℕ) (t : Option (List Event)) (before more : List Event) → t ≡ Some before → t ≡ Some (before ++ more) → KeepWithin k more
within_none k t before more te ue = λ front after side d e. absurd (nothing_sent front after _ (sym (told_none t before more te ue) ∙ e))

pub greeted_none : (k : ℕ) (t : Option (List Event)) (before more : List Event) → t ≡ Some before → t ≡ Some (before ++ more) → AreGreetedFirst k more
greeted_none k t before more te ue = λ front after side d e has. absurd (nothing_sent front after _ (sym (told_none t before more te ue) ∙ e))

pub set_none : (k : ℕ) (config : ConnConfig) (t : Option (List Event)) (before more : List Event) → t ≡ Some before → t ≡ Some (before ++ more) → AreGreetedAsSet k config more
set_none k config t before more te ue = subst (λ (z : List Event). AreGreetedAsSet k config z) (sym (told_none t before more te ue)) (nothing_set k config)

nothing_says : (k : ℕ) (config : ConnConfig) → AreSaidAsSet k config []
nothing_says k config side p of = absurd (none_greets k side p (sent_by side []) (λ d i. subst (λ (z : List (List ℕ)). In d z) (nothing_said side) i) of)

pub said_none : (k : ℕ) (config : ConnConfig) (t : Option (List Event)) (before more : List Event) → t ≡ Some before → t ≡ Some (before ++ more) → AreSaidAsSet k config more
said_none k config t before more te ue = subst (λ (z : List Event). AreSaidAsSet k config z) (sym (told_none t before more te ue)) (nothing_says k config)

-- nothing was asked, so nothing was answered
pub nothing_asked : (k : ℕ) (events : List Event) (requests : List PlainMessage) (r : List PlainEntry) → requests ≡ [] → AnsweredOnce k events requests r r []
nothing_asked k events requests r none = record {
  served = served_nothing k events requests r;
  count = ap length (sym none);
  each = λ index answer at. absurd (no_such index answer at);
}

-- what stays of a pair, whatever happens
pub record StaysPair (k : ℕ) (config : ConnConfig) (requests : List PlainMessage) (p q : PairState) : Type 0 where
  pub asked : p.client.requests ≡ requests
  pub ids : length p.ids.client ≡ k
  pub conf : p.config ≡ config
  pub same_requests : q.client.requests ≡ p.client.requests
  pub same_ids : q.ids ≡ p.ids
  pub same_config : q.config ≡ p.config

pub stays_pair : {len : ℕ} {config : ConnConfig} {limits : Limits} {requests : List PlainMessage} {p q : PairState} {rounds : ℕ} {t u : Option (List Event)} {m k : List ℕ} {r s : List PlainEntry} {result : Result (Unit {0}) ExchangeError}
    → IsAsked len config limits requests p → RoundsMade rounds p q t u m k r s result → StaysPair len config requests p q
stays_pair a made = record { asked = a.asked; ids = a.ids; conf = a.config_is; same_requests = made.requests; same_ids = made.ids; same_config = made.config_is }

made_by : (k : ℕ) (config : ConnConfig) (p q : PairState) (requests : List PlainMessage) (t u : Option (List Event)) (r s : List PlainEntry) → Running p [] [] → StaysPair k config requests p q
    → GoesOn p t r q u s → WasMade k config requests t u r s q
made_by k config p q requests t u r s run stays goes = record {
  asked = stays.same_requests ∙ stays.asked;
  config_is = stays.same_config ∙ stays.conf;
  ids = ap (λ (z : Ids). length z.client) stays.same_ids ∙ stays.ids;
  stands = stands p q t u r s run goes;
}

-- the error of a turn is that of the exchange
pub was_lost : (T U : Type 0) (e : ExchangeError) (k : ℕ) (config : ConnConfig) (p q : PairState) (requests : List PlainMessage) (t u : Option (List Event)) (r s : List PlainEntry)
    → Running p [] [] → StaysPair k config requests p q → GoesOn p t r q u s → IfProtocol {T = T} (Err e) (λ x. IsProtocolLoss x q)
    → IfProtocol {T = U} (Err e) (WasLost k config requests t u r s)
was_lost T U error.Link k config p q requests t u r s run stays goes h = tt
was_lost T U error.Memory k config p q requests t u r s run stays goes h = tt
was_lost T U error.TimedOut k config p q requests t u r s run stays goes h = tt
was_lost T U error.OutOfRounds k config p q requests t u r s run stays goes h = tt
was_lost T U (error.Invalid index) k config p q requests t u r s run stays goes h = tt
was_lost T U (error.Protocol x) k config p q requests t u r s run stays goes h = record { pair = q; made = made_by k config p q requests t u r s run stays goes; loss = h }

-- ---- how an exchange ends by them

-- what a result holds where it is well
abbrev pub held_by : (T E : Type 0) → Result T E → Type 0
held_by T E result = T

out_of : (T U : Type 0) (e : ExchangeError) (P Q : Type 0) → (P → Q) → IfOutOfRounds {T = T} (Err e) P → IfOutOfRounds {T = U} (Err e) Q
out_of T U error.Link P Q f h = tt
out_of T U error.Memory P Q f h = tt
out_of T U error.TimedOut P Q f h = tt
out_of T U error.OutOfRounds P Q f h = f h
out_of T U (error.Invalid index) P Q f h = tt
out_of T U (error.Protocol x) P Q f h = tt

pub ends_out : (U : Type 0) (e : ExchangeError) (len : ℕ) (config : ConnConfig) (rounds : ℕ) (p q : PairState) (requests : List PlainMessage) (t u : Option (List Event)) (m k : List ℕ) (r s : List PlainEntry)
    → requests ≢ [] → Running p [] [] → StaysPair len config requests p q → RoundsMade rounds p q t u m k r s (Err e) → IfOutOfRounds {T = U} (Err e) (RanOut len config rounds requests t u m k r s)
ends_out U e len config rounds p q requests t u m k r s some run stays made =
    out_of (Unit {0}) U e (IsRunOut rounds p q t u m k r) (RanOut len config rounds requests t u m k r s)
    (λ o. record {
      some = some;
      turns = o.turns;
      full = λ events te.
          subst (λ (z : List PlainMessage). (more : List Event) × (u ≡ Some (events ++ more)) × AreFullTurns z rounds [] more) stays.asked
          (o.full events [] r [] run (te ∙ ap Some (sym (append-nil events))) (sym (append-nil r)) events te);
      moments = o.moments;
      moments_are = o.moments_are;
      rounds_are = o.rounds_are;
      last = o.last;
      pair = q;
      made = made_by len config p q requests t u r s run stays made.goes;
      fewer = subst (λ (z : List PlainMessage). held q.client.answers < length z) (made.requests ∙ stays.asked) o.fewer;
    }) made.out

pub not_invalid : (U : Type 0) (e : ExchangeError) (P : ℕ → Type 0) → IsRoundsError e → IfInvalid {T = U} (Err e) P
not_invalid U error.Link P h = tt
not_invalid U error.Memory P h = tt
not_invalid U error.TimedOut P h = tt
not_invalid U error.OutOfRounds P h = tt
not_invalid U (error.Invalid index) P h = absurd h
not_invalid U (error.Protocol x) P h = tt

-- an exchange ends by what ended its rounds
pub ends_by : {U : Type 0} (made : Result (Unit {0}) ExchangeError) (result : Result U ExchangeError) (P : Result U ExchangeError → Type 0) → EndsAs made result
    → ((e : ExchangeError) → made ≡ Err e → P (Err e)) → ((u : Unit {0}) → made ≡ Ok u → P (Err error.Memory)) → ((x : U) (u : Unit {0}) → made ≡ Ok u → result ≡ Ok x → P (Ok x)) → P result
ends_by (Err e) (Err f) P is failed wants answers = subst (λ (z : ExchangeError). P (Err z)) (sym is) (failed e refl)
ends_by (Err e) (Ok x) P is failed wants answers = absurd is
ends_by (Ok u) (Err f) P is failed wants answers = subst (λ (z : ExchangeError). P (Err z)) (sym is) (wants u refl)
ends_by (Ok u) (Ok x) P is failed wants answers = answers x u refl refl

-- ---- what is known of the rounds is known of the exchange

pub invalid_by : {U : Type 0} (made : Result (Unit {0}) ExchangeError) (result : Result U ExchangeError) (P : ℕ → Type 0) → EndsAs made result → IfErr made IsRoundsError → IfInvalid result P
invalid_by {U} made result P ends rounds =
    ends_by made result (λ (z : Result U ExchangeError). IfInvalid z P) ends
    (λ e is. not_invalid U e P (subst (λ (z : Result (Unit {0}) ExchangeError). IfErr z IsRoundsError) is rounds)) (λ u is. tt) (λ x u is ok. tt)

pub fault_by : {U : Type 0} (made : Result (Unit {0}) ExchangeError) (result : Result U ExchangeError) (P : Type 0) → EndsAs made result → IfLink made P → IfLink result P
fault_by {U} made result P ends fault =
    ends_by made result (λ (z : Result U ExchangeError). IfLink z P) ends
    (λ e is. fault_again (Unit {0}) U e P P (λ z. z) (subst (λ (z : Result (Unit {0}) ExchangeError). IfLink z P) is fault)) (λ u is. tt) (λ x u is ok. tt)

pub idle_by : {U : Type 0} (made : Result (Unit {0}) ExchangeError) (result : Result U ExchangeError) (H G : Type 0) → EndsAs made result → (H → G) → IfTimedOut made H → IfTimedOut result G
idle_by {U} made result H G ends of timed =
    ends_by made result (λ (z : Result U ExchangeError). IfTimedOut z G) ends
    (λ e is. idle_of (Unit {0}) U e H G of (subst (λ (z : Result (Unit {0}) ExchangeError). IfTimedOut z H) is timed))
    (λ u is. tt) (λ x u is ok. tt)

pub lost_by : {U : Type 0} (made : Result (Unit {0}) ExchangeError) (result : Result U ExchangeError) (k : ℕ) (config : ConnConfig) (p q : PairState) (requests : List PlainMessage) (t u : Option (List Event)) (r s : List PlainEntry)
    → EndsAs made result → Running p [] [] → StaysPair k config requests p q → GoesOn p t r q u s → IfProtocol made (λ x. IsProtocolLoss x q)
    → IfProtocol result (WasLost k config requests t u r s)
lost_by {U} made result k config p q requests t u r s ends run stays goes lost =
    ends_by made result (λ (z : Result U ExchangeError). IfProtocol z (WasLost k config requests t u r s)) ends
    (λ e is. was_lost (Unit {0}) U e k config p q requests t u r s run stays goes (subst (λ (z : Result (Unit {0}) ExchangeError). IfProtocol z (λ x. IsProtocolLoss x q)) is lost))
    (λ v is. tt) (λ x v is ok. tt)

pub out_by : {U : Type 0} (made : Result (Unit {0}) ExchangeError) (result : Result U ExchangeError) (len : ℕ) (config : ConnConfig) (rounds : ℕ) (p q : PairState) (requests : List PlainMessage) (t u : Option (List Event)) (m k : List ℕ)
    (r s : List PlainEntry) → EndsAs made result → requests ≢ [] → Running p [] [] → StaysPair len config requests p q → RoundsMade rounds p q t u m k r s made
    → IfOutOfRounds result (RanOut len config rounds requests t u m k r s)
out_by {U} made result len config rounds p q requests t u m k r s ends some run stays rounds_made =
    ends_by made result (λ (z : Result U ExchangeError). IfOutOfRounds z (RanOut len config rounds requests t u m k r s)) ends
    (λ e is. ends_out U e len config rounds p q requests t u m k r s some run stays (subst (λ (z : Result (Unit {0}) ExchangeError). RoundsMade rounds p q t u m k r s z) is rounds_made))
    (λ v is. tt) (λ x v is ok. tt)

-- the answers of an exchange are those that the pair holds
pub count_by : {U : Type 0} (items : U → List PlainMessage) (made : Result (Unit {0}) ExchangeError) (result : Result U ExchangeError) (p q : PairState) (requests : List PlainMessage) → EndsAs made result
    → p.client.requests ≡ requests → q.client.requests ≡ p.client.requests → IfOk made (λ _. held q.client.answers ≡ length q.client.requests)
    → IfOk result (λ x. held q.client.answers ≡ length q.client.requests → map (λ (m : PlainMessage). Some m) (items x) ≡ q.client.answers) → IfOk result (λ x. length (items x) ≡ length requests)
count_by {U} items made result p q requests ends asked same all are =
    ends_by made result (λ (z : Result U ExchangeError). IfOk z (λ x. length (items x) ≡ length requests)) ends (λ e is. tt) (λ v is. tt)
    (λ x v is ok.
    let held_all : held q.client.answers ≡ length q.client.requests = subst (λ (z : Result (Unit {0}) ExchangeError). IfOk z (λ _. held q.client.answers ≡ length q.client.requests)) is all in
    let answers_are : map (λ (m : PlainMessage). Some m) (items x) ≡ q.client.answers
    = subst (λ (z : Result U ExchangeError). IfOk z (λ x. held q.client.answers ≡ length q.client.requests → map (λ (m : PlainMessage). Some m) (items x) ≡ q.client.answers)) ok are held_all in
    count_held (items x) q.client.answers (length q.client.requests) answers_are held_all ∙ ap length (same ∙ asked))

pub answered_by : {U : Type 0} (items : U → List PlainMessage) (made : Result (Unit {0}) ExchangeError) (result : Result U ExchangeError) → MeanAll → (k : ℕ) (p q : PairState) (requests : List PlainMessage)
    (t u : Option (List Event)) (r s : List PlainEntry) → EndsAs made result → Running p [] [] → p.client.requests ≡ requests → length p.ids.client ≡ k → GoesOn p t r q u s → q.client.requests ≡ p.client.requests
    → IfOk made (λ _. held q.client.answers ≡ length q.client.requests)
    → IfOk result (λ x. held q.client.answers ≡ length q.client.requests → map (λ (m : PlainMessage). Some m) (items x) ≡ q.client.answers)
    → (events : List Event) → t ≡ Some [] → u ≡ Some events → IsHonest events → IfOk result (λ x. AnsweredOnce k events requests r s (items x))
answered_by {U} items made result means k p q requests t u r s ends run asked ids goes same all are events te ue honest =
    ends_by made result (λ (z : Result U ExchangeError). IfOk z (λ x. AnsweredOnce k events requests r s (items x))) ends (λ e is. tt) (λ v is. tt)
    (λ x v is ok.
    let held_all : held q.client.answers ≡ length q.client.requests = subst (λ (z : Result (Unit {0}) ExchangeError). IfOk z (λ _. held q.client.answers ≡ length q.client.requests)) is all in
    let answers_are : map (λ (m : PlainMessage). Some m) (items x) ≡ q.client.answers
    = subst (λ (z : Result U ExchangeError). IfOk z (λ x. held q.client.answers ≡ length q.client.requests → map (λ (m : PlainMessage). Some m) (items x) ≡ q.client.answers)) ok are held_all in
    answered_once means k p q requests (items x) t u r s run asked ids goes
    (count_held (items x) q.client.answers (length q.client.requests) answers_are held_all ∙ ap length (same ∙ asked)) answers_are events te ue honest)
