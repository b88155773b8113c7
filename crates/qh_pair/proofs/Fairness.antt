-- Why a turn over an honest link ends, and that its moments are in order.
use Rattle.std.proofs.Common.{◌≡◌, inl, inr, ◌≤◌, Bool, true, false, length, List, [], ◌∷◌, ◌++◌, ℕ, Option, Some, Ok, Err, refl, sym, ◌∙◌, ap, subst, append_assoc, arith, rules}
use Rattle.std.specs.Prelude.{All, IfErr, Result}
use Rattle.std.proofs.lemmas.List.{append_cancel_left}
use Rattle.std.proofs.lemmas.List.Elements.{All-head, All-tail}
use Rattle.qh_base.specs.declared.time.Span.{Span}
use Rattle.qh_conn.specs.declared.config.ConnConfig.{ConnConfig}
use Rattle.qh_spec.specs.Honest.{IsHonest}
use Rattle.qh_spec.specs.Link.{moments_of, told}
use Rattle.qh_spec.specs.Lists.{In}
use Rattle.qh_spec.specs.Record.{PlainEntry}
use Rattle.qh_spec.specs.declared.link.Event.{Event}
use Rattle.qh_spec.proofs.EventLaws.{moments_of-append}
use Rattle.qh_spec.proofs.Members.{in_more}
use Rattle.qh_pair.specs.Pair.{IsFair, IsRunningSoundly, PairState, Running, RunsOn, id_length}
use Rattle.qh_pair.specs.Sound.{AreBy, EndsFairly, last_of}
use Rattle.qh_pair.specs.Steps.{IsLinkError, PairStep}
use Rattle.qh_pair.specs.declared.ends.Ids.{Ids}
use Rattle.qh_pair.specs.declared.error.ExchangeError.{ExchangeError}
use Rattle.qh_pair.specs.declared.error.ExchangeError.TheVariants as error
use Rattle.qh_pair.proofs.Heard.{by_behind, honest_front, last_more}
use Rattle.qh_pair.proofs.PairSteps.{soundly_over}

-- ---- moments

all_in : (P : ℕ → Type 0) (ms : List ℕ) (m : ℕ) → All P ms → In m ms → P m
all_in P [] m h i = absurd i
all_in P (n ∷ ms) m h (inl e) = subst P e (All-head P n ms h)
all_in P (n ∷ ms) m h (inr i) = all_in P ms m (All-tail P n ms h) i

-- no moment is after the last one
pub are_by : (moments : List ℕ) (now : ℕ) (es : List Event) → All (λ (b : ℕ). b ≤ now) moments → moments_of es ≡ moments ++ now ∷ [] → AreBy now es
are_by moments now es order is = λ m i.
    elim (in_more m now moments (subst (λ (z : List ℕ). In m z) is i)) [
      | inl a ↦ all_in (λ (b : ℕ). b ≤ now) moments m order a
      | inr e ↦ omega (arith, e)
    ]

-- a list tells the moments, none of which is after this one
pub told_by : (moments : List ℕ) (now : ℕ) (es : List Event) → All (λ (b : ℕ). b ≤ now) moments → moments_of es ≡ moments → AreBy now es
told_by moments now es order is = λ m i. all_in (λ (b : ℕ). b ≤ now) moments m order (subst (λ (z : List ℕ). In m z) is i)

all_more : (P : ℕ → Type 0) (ms : List ℕ) (m : ℕ) → All P ms → P m → All P (ms ++ m ∷ [])
all_more P [] m h p = search (rules, p)
all_more P (n ∷ ms) m h p = let i = all_more P ms m (All-tail P n ms h) p in search (rules, All-head P n ms h, i)

pub in_order : (before after : List ℕ) (now : ℕ) → after ≡ before ++ now ∷ [] → All (λ (b : ℕ). b ≤ now) before → All (λ (b : ℕ). b ≤ last_of after) after
in_order before after now e order =
    rw e (rw (last_more before now) (all_more (λ (b : ℕ). b ≤ now) before now order (omega arith)))

-- ---- how a turn ends

pub fair_link : (T : Type 0) (k : ℕ) (idle : Option Span) (events : List Event) (e : ExchangeError) → IsLinkError e → EndsFairly {T = T} k idle events (Err e)
fair_link T k idle events error.Link h = tt
fair_link T k idle events error.Memory h = tt
fair_link T k idle events error.TimedOut h = absurd h
fair_link T k idle events error.OutOfRounds h = absurd h
fair_link T k idle events (error.Invalid index) h = absurd h
fair_link T k idle events (error.Protocol x) h = absurd h

pub fair_last : (k : ℕ) (idle : Option Span) (events : List Event) (r : Result (Unit {0}) ExchangeError) → IfErr r IsLinkError → EndsFairly k idle events r
fair_last k idle events (Ok x) h = tt
fair_last k idle events (Err e) h = fair_link (Unit {0}) k idle events e h

-- an error says the same of any value that isn't there
pub fair_again : (T U : Type 0) (k : ℕ) (idle : Option Span) (events : List Event) (e : ExchangeError) → EndsFairly {T = T} k idle events (Err e) → EndsFairly {T = U} k idle events (Err e)
fair_again T U k idle events error.Link h = tt
fair_again T U k idle events error.Memory h = tt
fair_again T U k idle events error.TimedOut h = h
fair_again T U k idle events error.OutOfRounds h = tt
fair_again T U k idle events (error.Invalid index) h = tt
fair_again T U k idle events (error.Protocol x) h = absurd h

-- what two lists tell of which one goes on is the same
told_same : (front more other : List Event) (t u : Option (List Event)) → t ≡ Some front → u ≡ told t more → u ≡ Some (front ++ other) → more ≡ other
told_same front more other t u e f g =
    let h : Some (front ++ more) ≡ Some (front ++ other) = ap (λ (z : Option (List Event)). told z more) (sym e) ∙ (sym f ∙ g) in
    let i : front ++ more ≡ front ++ other = cc in
    append_cancel_left front more other i

-- the ends of a pair that is sound are ticked behind a step at which a round began
pub fair_tick : (now : ℕ) (old mid : PairState) (t u : Option (List Event)) (r s : List PlainEntry) (K : List Event → Type 0) (moments : List ℕ) (result : Result (Unit {0}) ExchangeError)
    → PairStep now true old mid t u r s K → ((es : List Event) → t ≡ Some es → moments_of es ≡ moments) → ((es : List Event) → u ≡ Some es → moments_of es ≡ moments ++ now ∷ [])
    → All (λ (b : ℕ). b ≤ now) moments
    → ((es : List Event) (entries : List PlainEntry) → IsHonest es → IsRunningSoundly mid es entries → last_of (moments_of es) ≡ now → EndsFairly (id_length mid) mid.config.idle es result)
    → (earlier events more : List Event) (entries : List PlainEntry) → IsRunningSoundly old events entries
    → t ≡ Some (earlier ++ events) → u ≡ Some (earlier ++ (events ++ more)) → IsHonest (events ++ more) → EndsFairly (id_length old) old.config.idle (events ++ more) result
fair_tick now old mid t u r s K moments result step before after order fair earlier events more entries sound told_t told_u honest =
    let front : earlier ++ (events ++ more) ≡ (earlier ++ events) ++ more = sym (append_assoc earlier events more) in
    let same : step.more ≡ more = told_same (earlier ++ events) step.more more t u told_t step.told_is (told_u ∙ ap Some front) in
    let all : moments_of (earlier ++ (events ++ more)) ≡ moments ++ now ∷ [] = after (earlier ++ (events ++ more)) told_u in
    let by : AreBy now (events ++ more) = by_behind now earlier (events ++ more) (are_by moments now (earlier ++ (events ++ more)) order all) in
    let here : IsRunningSoundly mid (events ++ more) (entries ++ step.fresh)
    = subst (λ (z : List Event). IsRunningSoundly mid (events ++ z) (entries ++ step.fresh)) same
    (step.soundly refl events entries (subst (λ (z : List Event). IsHonest (events ++ z)) (sym same) honest) (subst (λ (z : List Event). AreBy now (events ++ z)) (sym same) by) sound) in
    let one : moments_of more ≡ now ∷ []
    = append_cancel_left moments (moments_of more) (now ∷ [])
    (ap (λ (z : List ℕ). z ++ moments_of more) (sym (before (earlier ++ events) told_t)) ∙ (sym (moments_of-append (earlier ++ events) more) ∙ (ap moments_of (sym front) ∙ all))) in
    let last : last_of (moments_of (events ++ more)) ≡ now
    = ap last_of (moments_of-append events more ∙ ap (λ (z : List ℕ). moments_of events ++ z) one) ∙ last_more (moments_of events) now in
    subst (λ (z : Ids). EndsFairly (length z.client) old.config.idle (events ++ more) result) step.same.ids
    (subst (λ (z : ConnConfig). EndsFairly (id_length mid) z.idle (events ++ more) result) step.same.config (fair (events ++ more) (entries ++ step.fresh) honest here last))

-- what ends the steps of a turn ends the turn, of the pair that is seen as another value that is equal
pub fair_turn : (p v : PairState) (t u : Option (List Event)) (e : ExchangeError) → p ≡ v → p.is_over ≡ false
    → ((earlier events more : List Event) (entries : List PlainEntry) → IsRunningSoundly (record p { is_over = true }) events entries
    → t ≡ Some (earlier ++ events) → u ≡ Some (earlier ++ (events ++ more)) → IsHonest (events ++ more)
    → EndsFairly {T = Unit {0}} (id_length p) p.config.idle (events ++ more) (Err e))
    → IsFair {T = Bool} v t u (Err e)
unfolding Running
fair_turn p v t u e same going fair = λ earlier events more entries run told_t told_u honest.
    let old = subst (λ (z : PairState). RunsOn z events entries) (sym same) run in
    subst (λ (z : PairState). EndsFairly {T = Bool} (id_length z) z.config.idle (events ++ more) (Err e)) same
    (fair_again (Unit {0}) Bool (id_length p) p.config.idle (events ++ more) e
    (fair earlier events more entries (soundly_over p true events entries (old.soundly going (honest_front events more honest))) told_t told_u honest))
