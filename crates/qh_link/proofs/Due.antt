-- How what is due and what is late go over one more event.
use Rattle.std.proofs.Common.{◌≡◌, ℕ, ◌+◌, ◌<◌, ◌≤◌, zero, suc, Bool, true, false, cond, eqb, ltb, List, [], ◌∷◌, ◌++◌, length, map, filter, refl, sym, ◌∙◌, ap, arith, append_assoc, add-zero, zero-add}
use Rattle.std.proofs.lemmas.List.{append-nil}
use Rattle.std.proofs.lemmas.List.Elements.{filter-append}
use Rattle.std.proofs.lemmas.Bool.Decides.{nat_tests}
use Rattle.qh_spec.specs.declared.sides.Side.{Side}
use Rattle.qh_spec.specs.declared.link.Event.{Event}
use Rattle.qh_spec.specs.declared.link.Event.TheVariants.{Sent, Given, Dry, Round, Fault}
use Rattle.qh_spec.specs.declared.link.Upset.{Upset}
use Rattle.qh_spec.specs.Link.{other}
use Rattle.qh_spec.specs.Schedule.{Flight, repeated, flights_of_send, flights_from, flights, is_due, forged, due_through, send_count, round_count, copies_of, delay_of}

regroup : {X : Type 0} (a b c x : List X) → x ≡ b ++ c → a ++ x ≡ (a ++ b) ++ c
regroup a b c x e = ap (λ z. a ++ z) e ∙ sym (append_assoc a b c)

flights_from-append : (u : List Upset) (r n : ℕ) (es fs : List Event) → flights_from u r n (es ++ fs) ≡ flights_from u r n es ++ flights_from u (r + round_count es) (n + send_count es) fs
flights_from-append u r n [] fs = rw (add-zero r, add-zero n) refl
flights_from-append u r n (Sent s d ∷ es) fs =
    let e : n + 1 + send_count es ≡ n + (send_count es + 1) = omega arith in
    regroup (flights_of_send u r (n + 1) s d) (flights_from u r (n + 1) es) _ _
    (flights_from-append u r (n + 1) es fs ∙ ap (λ (k : ℕ). flights_from u r (n + 1) es ++ flights_from u (r + round_count es) k fs) e)
flights_from-append u r n (Given s d ∷ es) fs = flights_from-append u r n es fs
flights_from-append u r n (Dry s ∷ es) fs = flights_from-append u r n es fs
flights_from-append u r n (Round m ∷ es) fs =
    let e : r + 1 + round_count es ≡ r + suc (round_count es) = omega arith in
    flights_from-append u (r + 1) n es fs ∙ ap (λ (k : ℕ). flights_from u (r + 1) n es ++ flights_from u k (n + send_count es) fs) e
flights_from-append u r n (Fault ∷ es) fs =
    let e : n + 1 + send_count es ≡ n + (send_count es + 1) = omega arith in
    flights_from-append u r (n + 1) es fs ∙ ap (λ (k : ℕ). flights_from u r (n + 1) es ++ flights_from u (r + round_count es) k fs) e

flights_more : (u : List Upset) (es : List Event) (x : Event) → flights u (es ++ x ∷ []) ≡ flights u es ++ flights_from u (round_count es) (send_count es) (x ∷ [])
flights_more u es x =
    flights_from-append u 0 0 es (x ∷ [])
    ∙ ap (λ (k : ℕ). flights u es ++ flights_from u k (0 + send_count es) (x ∷ [])) (zero-add (round_count es))
    ∙ ap (λ (k : ℕ). flights u es ++ flights_from u (round_count es) k (x ∷ [])) (zero-add (send_count es))

pub flights_sent : (u : List Upset) (es : List Event) (s : Side) (d : List ℕ) → flights u (es ++ Sent s d ∷ []) ≡ flights u es ++ flights_of_send u (round_count es) (send_count es + 1) s d
flights_sent u es s d = flights_more u es (Sent s d) ∙ ap (λ (z : List Flight). flights u es ++ z) (append-nil _)

pub flights_given : (u : List Upset) (es : List Event) (s : Side) (d : List ℕ) → flights u (es ++ Given s d ∷ []) ≡ flights u es
flights_given u es s d = flights_more u es (Given s d) ∙ append-nil _

pub flights_dry : (u : List Upset) (es : List Event) (s : Side) → flights u (es ++ Dry s ∷ []) ≡ flights u es
flights_dry u es s = flights_more u es (Dry s) ∙ append-nil _

pub flights_round : (u : List Upset) (es : List Event) (m : ℕ) → flights u (es ++ Round m ∷ []) ≡ flights u es
flights_round u es m = flights_more u es (Round m) ∙ append-nil _

pub flights_fault : (u : List Upset) (es : List Event) → flights u (es ++ Fault ∷ []) ≡ flights u es
flights_fault u es = flights_more u es Fault ∙ append-nil _

-- what is due, over the flights alone
abbrev due_of : List Upset → List Flight → ℕ → Side → List (List ℕ)
due_of u fs r s = map (λ (f : Flight). f.datagram) (filter (is_due r s) fs) ++ forged u r s

abbrev through_of : List Upset → List Flight → ℕ → Side → List (List ℕ)
through_of u fs zero s = []
through_of u fs (suc r) s = through_of u fs r s ++ due_of u fs (suc r) s

through_is : (u : List Upset) (es : List Event) (r : ℕ) (s : Side) → due_through u es r s ≡ through_of u (flights u es) r s
through_is u es zero s = refl
through_is u es (suc r) s =
    ap (λ (z : List (List ℕ)). z ++ due_of u (flights u es) (suc r) s) (through_is u es r s)

pub through_same : (u : List Upset) (es fs : List Event) (r : ℕ) (s : Side) → flights u fs ≡ flights u es → due_through u fs r s ≡ due_through u es r s
through_same u es fs r s e =
    through_is u fs r s ∙ ap (λ (z : List Flight). through_of u z r s) e ∙ sym (through_is u es r s)

through_stays : (u : List Upset) (fs gs : List Flight) (r top : ℕ) (s : Side) → r ≤ top → ((k : ℕ) → k ≤ top → filter (is_due k s) gs ≡ []) → through_of u (fs ++ gs) r s ≡ through_of u fs r s
through_stays u fs gs zero top s l none = refl
through_stays u fs gs (suc r) top s l none =
    let a = through_stays u fs gs r top s (omega arith) none in
    let b = filter-append (is_due (suc r) s) fs gs ∙ ap (λ (z : List Flight). filter (is_due (suc r) s) fs ++ z) (none (suc r) l) ∙ append-nil (filter (is_due (suc r) s) fs) in
    ap (λ (z : List (List ℕ)). z ++ due_of u (fs ++ gs) (suc r) s) a
    ∙ ap (λ (z : List Flight). through_of u fs r s ++ (map (λ (f : Flight). f.datagram) z ++ forged u (suc r) s)) b

eqb_above : (a b : ℕ) → b < a → eqb a b ≡ false
eqb_above a b l = grind (arith, nat_tests)

pub ltb_above : (a b : ℕ) → a < b → ltb a b ≡ true
ltb_above a b l = grind (arith, nat_tests)

repeated_none : (p : Flight → Bool) (c : ℕ) (f : Flight) → p f ≡ false → filter p (repeated c f) ≡ []
repeated_none p zero f e = refl
repeated_none p (suc c) f e = rw e (repeated_none p c f e)

none_if : (p : Flight → Bool) (b : Bool) (gs : List Flight) → filter p gs ≡ [] → filter p (cond b [] gs) ≡ []
none_if p true gs e = refl
none_if p false gs e = e

sent_none_due : (u : List Upset) (top n k : ℕ) (s t : Side) (d : List ℕ) → k ≤ top → filter (is_due k t) (flights_of_send u top n s d) ≡ []
sent_none_due u top n k s t d l =
    let e : eqb (top + 1 + delay_of u n) k ≡ false = eqb_above _ _ (omega arith) in
    none_if (is_due k t) (ltb 2048 (length d)) _
    (repeated_none (is_due k t) (copies_of u n) (record { round = top + 1 + delay_of u n; to = other s; datagram = d }) (rw e refl))

-- a send puts nothing into the rounds that began
pub through_sent : (u : List Upset) (es : List Event) (s t : Side) (d : List ℕ) → due_through u (es ++ Sent s d ∷ []) (round_count es) t ≡ due_through u es (round_count es) t
through_sent u es s t d =
    through_is u (es ++ Sent s d ∷ []) (round_count es) t
    ∙ ap (λ (z : List Flight). through_of u z (round_count es) t) (flights_sent u es s d)
    ∙ through_stays u (flights u es) _ (round_count es) (round_count es) t (omega arith) (λ k l. sent_none_due u (round_count es) (send_count es + 1) k s t d l)
    ∙ sym (through_is u es (round_count es) t)
