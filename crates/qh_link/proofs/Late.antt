-- How what is late goes over one more event.
use Rattle.std.proofs.Common.{◌≡◌, ℕ, ◌+◌, zero, suc, Bool, true, false, not, cond, ◌&&◌, eqb, ltb, List, [], ◌∷◌, ◌++◌, length, map, filter, refl, sym, ◌∙◌, ap, arith}
use Rattle.std.proofs.lemmas.List.{map-append}
use Rattle.std.proofs.lemmas.List.Elements.{filter-append}
use Rattle.std.proofs.lemmas.Bool.Decides.{nat_tests}
use Rattle.qh_spec.specs.declared.sides.Side.{Side}
use Rattle.qh_spec.specs.declared.sides.Side.TheVariants.{Client, Server}
use Rattle.qh_spec.specs.declared.link.Event.{Event}
use Rattle.qh_spec.specs.declared.link.Event.TheVariants.{Sent}
use Rattle.qh_spec.specs.declared.link.Upset.{Upset}
use Rattle.qh_spec.specs.Link.{other, if_same_side}
use Rattle.qh_spec.specs.Schedule.{Flight, repeated, flights_of_send, flights, is_due, send_count, round_count, copies_of, delay_of}
use Rattle.qh_link.specs.declared.ways.Postponed.{Postponed}
use Rattle.qh_link.specs.Ways.{arriving, remaining}
use Rattle.qh_link.specs.ScriptLink.{is_late, late_after}
use Rattle.qh_link.proofs.Due.{flights_sent, ltb_above}

late_after-append : (r : ℕ) (s : Side) (fs gs : List Flight) → late_after r s (fs ++ gs) ≡ late_after r s fs ++ late_after r s gs
late_after-append r s fs gs =
    ap (map (λ (f : Flight). record { round = f.round; datagram = f.datagram })) (filter-append (is_late r s) fs gs)
    ∙ map-append (λ (f : Flight). record { round = f.round; datagram = f.datagram }) (filter (is_late r s) fs) (filter (is_late r s) gs)

abbrev flight : ℕ → Side → List ℕ → Flight
flight x t d = record { round = x; to = t; datagram = d }

abbrev pub postponed : ℕ → List ℕ → Postponed
postponed x d = record { round = x; datagram = d }

late_one : (c x r : ℕ) (s t : Side) (d : List ℕ) (fs : List Flight) (ps : List Postponed) → ltb r x ≡ true → late_after r s fs ≡ if_same_side s t ps [] → late_after r s (flight x t d ∷ fs) ≡ if_same_side s t (postponed x d ∷ ps) []
late_one c x r Client Client d fs ps e h = rw e (ap (λ (z : List Postponed). postponed x d ∷ z) h)
late_one c x r Client Server d fs ps e h = rw e h
late_one c x r Server Client d fs ps e h = rw e h
late_one c x r Server Server d fs ps e h = rw e (ap (λ (z : List Postponed). postponed x d ∷ z) h)

if_none : {X : Type 0} (s t : Side) → if_same_side {X = List X} s t [] [] ≡ []
if_none Client Client = refl
if_none Client Server = refl
if_none Server Client = refl
if_none Server Server = refl

late_repeated : (c x r : ℕ) (s t : Side) (d : List ℕ) → ltb r x ≡ true → late_after r s (repeated c (flight x t d)) ≡ if_same_side s t (repeated c (postponed x d)) []
late_repeated zero x r s t d e = sym (if_none s t)
late_repeated (suc c) x r s t d e = late_one c x r s t d _ _ e (late_repeated c x r s t d e)

late_if : (b : Bool) (c x r : ℕ) (s t : Side) (d : List ℕ) → ltb r x ≡ true → late_after r s (cond b [] (repeated c (flight x t d))) ≡ if_same_side s t (repeated (cond b 0 c) (postponed x d)) []
late_if true c x r s t d e = sym (if_none s t)
late_if false c x r s t d e = late_repeated c x r s t d e

pub late_sent : (u : List Upset) (es : List Event) (s t : Side) (d : List ℕ) → late_after (round_count es) t (flights u (es ++ Sent s d ∷ [])) ≡ late_after (round_count es) t (flights u es) ++ if_same_side t (other s) (repeated (cond (ltb 2048 (length d)) 0 (copies_of u (send_count es + 1))) (postponed (round_count es + 1 + delay_of u (send_count es + 1)) d)) []
late_sent u es s t d =
    ap (late_after (round_count es) t) (flights_sent u es s d)
    ∙ late_after-append (round_count es) t (flights u es) (flights_of_send u (round_count es) (send_count es + 1) s d)
    ∙ ap (λ (z : List Postponed). late_after (round_count es) t (flights u es) ++ z)
    (late_if (ltb 2048 (length d)) (copies_of u (send_count es + 1)) (round_count es + 1 + delay_of u (send_count es + 1)) (round_count es) t (other s) d (ltb_above _ _ (omega arith)))

-- what comes in the next round, and what comes after it
keep_step : (b c : Bool) (f : Flight) (p : Postponed → Bool) (fs : List Flight) (ps : List Postponed) → c ≡ (b && p (postponed f.round f.datagram)) → filter p ps ≡ map (λ (g : Flight). postponed g.round g.datagram) fs → filter p (cond b (postponed f.round f.datagram ∷ ps) ps) ≡ map (λ (g : Flight). postponed g.round g.datagram) (cond c (f ∷ fs) fs)
keep_step false c f p fs ps e h = rw e h
keep_step true c f p fs ps e h =
    rw e (elim (p (postponed f.round f.datagram)) as (λ z. cond z (postponed f.round f.datagram ∷ filter p ps) (filter p ps) ≡ map (λ (g : Flight). postponed g.round g.datagram) (cond z (f ∷ fs) fs)) [
      | true ↦ ap (λ (z : List Postponed). postponed f.round f.datagram ∷ z) h
      | false ↦ h
    ])

map_if : (b : Bool) (f : Flight) (fs : List Flight) → map (λ (g : Flight). postponed g.round g.datagram) (cond b (f ∷ fs) fs) ≡ cond b (postponed f.round f.datagram ∷ map (λ (g : Flight). postponed g.round g.datagram) fs) (map (λ (g : Flight). postponed g.round g.datagram) fs)
map_if true f fs = refl
map_if false f fs = refl

kept_of_late : (p : Postponed → Bool) (q : Flight → Bool) (r : ℕ) (s : Side) → ((f : Flight) → q f ≡ (is_late r s f && p (postponed f.round f.datagram))) → (fs : List Flight) → filter p (late_after r s fs) ≡ map (λ (g : Flight). postponed g.round g.datagram) (filter q fs)
kept_of_late p q r s e [] = refl
kept_of_late p q r s e (f ∷ fs) =
    ap (filter p) (map_if (is_late r s f) f (filter (is_late r s) fs))
    ∙ keep_step (is_late r s f) (q f) f p (filter q fs) (late_after r s fs) (e f) (kept_of_late p q r s e fs)

later_test : (a b c x : Bool) → c ≡ (a && not b) → (c && x) ≡ ((a && x) && not b)
later_test true true c x e = rw e (elim x as (λ y. false ≡ ((true && y) && not true)) [ true ↦ refl | false ↦ refl ])
later_test true false c x e = rw e (elim x as (λ y. y ≡ ((true && y) && not false)) [ true ↦ refl | false ↦ refl ])
later_test false b c x e = rw e refl

due_test : (a b x : Bool) → b ≡ (a && b) → (b && x) ≡ ((a && x) && b)
due_test true b x e = elim b as (λ y. (y && x) ≡ ((true && x) && y)) [ true ↦ elim x as (λ y. y ≡ (y && true)) [ true ↦ refl | false ↦ refl ] | false ↦ elim x as (λ y. false ≡ (y && false)) [ true ↦ refl | false ↦ refl ] ]
due_test false b x e = rw e refl

above_next : (r x : ℕ) → ltb (r + 1) x ≡ (ltb r x && not (eqb x (r + 1)))
above_next r x = grind (arith, nat_tests)

at_next : (r x : ℕ) → eqb x (r + 1) ≡ (ltb r x && eqb x (r + 1))
at_next r x = grind (arith, nat_tests)

pub remaining_is : (r : ℕ) (s : Side) (fs : List Flight) → remaining (r + 1) (late_after r s fs) ≡ late_after (r + 1) s fs
remaining_is r s fs =
    kept_of_late (λ (p : Postponed). not (eqb p.round (r + 1))) (is_late (r + 1) s) r s (λ f. later_test (ltb r f.round) (eqb f.round (r + 1)) (ltb (r + 1) f.round) (if_same_side s f.to true false) (above_next r f.round)) fs

datagrams_of : (fs : List Flight) → map (λ (p : Postponed). p.datagram) (map (λ (g : Flight). postponed g.round g.datagram) fs) ≡ map (λ (f : Flight). f.datagram) fs
datagrams_of [] = refl
datagrams_of (f ∷ fs) = ap (λ (z : List (List ℕ)). f.datagram ∷ z) (datagrams_of fs)

pub arriving_is : (r : ℕ) (s : Side) (fs : List Flight) → arriving (r + 1) (late_after r s fs) ≡ map (λ (f : Flight). f.datagram) (filter (is_due (r + 1) s) fs)
arriving_is r s fs =
    ap (map (λ (p : Postponed). p.datagram)) (kept_of_late (λ (p : Postponed). eqb p.round (r + 1)) (is_due (r + 1) s) r s (λ f. due_test (ltb r f.round) (eqb f.round (r + 1)) (if_same_side s f.to true false) (at_next r f.round)) fs)
    ∙ datagrams_of (filter (is_due (r + 1) s) fs)

pub repeated_more : {X : Type 0} (n : ℕ) (x : X) → repeated (n + 1) x ≡ repeated n x ++ x ∷ []
repeated_more zero x = refl
repeated_more (suc n) x =
    let e : suc n + 1 ≡ suc (n + 1) = omega arith in
    rw e (ap (λ z. x ∷ z) (repeated_more n x))
