-- What is due of a link with an empty schedule.
use Rattle.std.proofs.Common.{◌≡◌, ◌≢◌, inl, inr, ℕ, zero, suc, ◌+◌, ◌<◌, ◌≤◌, false, List, [], ◌∷◌, ◌++◌, length, nat_lt, refl, sym, ap, ◌∙◌, subst, arith}
use Rattle.std.specs.Prelude.{map, filter}
use Rattle.std.proofs.lemmas.Bool.{le-ltb}
use Rattle.std.proofs.lemmas.Bool.Decides.{eqb_tells}
use Rattle.std.proofs.lemmas.List.{append-nil}
use Rattle.std.proofs.Math.Nat.{add-zero, zero-add}
use Rattle.qh_spec.specs.declared.link.Event.{Event}
use Rattle.qh_spec.specs.declared.link.Event.TheVariants.{Sent, Given, Dry, Round, Fault}
use Rattle.qh_spec.specs.declared.sides.Side.{Side}
use Rattle.qh_spec.specs.declared.sides.Side.TheVariants.{Client, Server}
use Rattle.qh_spec.specs.Link.{other, if_same_side, sent_by}
use Rattle.qh_spec.specs.Lists.{In}
use Rattle.qh_spec.specs.Schedule.{Flight, flights_from, is_due, due_through, round_count}
use Rattle.qh_spec.specs.Turns.{before_round, up_to_round, due_to}
use Rattle.qh_spec.proofs.EventLaws.{if_same_side-append, sent_by-append}
use Rattle.qh_spec.proofs.Schedules.{sent_later}

-- ---- what is due of a list of flights

-- what a side is to be given of these flights up to round r
abbrev through : List Flight → ℕ → Side → List (List ℕ)
through fs zero s = []
through fs (suc r) s = through fs r s ++ map (λ (f : Flight). f.datagram) (filter (is_due (suc r) s) fs)

through_is : (es : List Event) (r : ℕ) (s : Side) → due_through [] es r s ≡ through (flights_from [] 0 0 es) r s
through_is es zero s = refl
through_is es (suc r) s =
    ap (λ (z : List (List ℕ)). z ++ (map (λ (f : Flight). f.datagram) (filter (is_due (suc r) s) (flights_from [] 0 0 es)) ++ [])) (through_is es r s)
    ∙ ap (λ (z : List (List ℕ)). through (flights_from [] 0 0 es) r s ++ z) (append-nil (map (λ (f : Flight). f.datagram) (filter (is_due (suc r) s) (flights_from [] 0 0 es))))

not_in_round : (r k : ℕ) (s t : Side) (d : List ℕ) → k ≢ r → is_due r s (record { round = k; to = t; datagram = d }) ≡ false
not_in_round r k s t d n = elim (eqb_tells k r) [ inl e ↦ absurd (n e.1) | inr e ↦ let f = e.0 in rw f ]

none_in_round : (fs : List Flight) (r : ℕ) (s : Side) → ((f : Flight) → In f fs → r < f.round) → filter (is_due r s) fs ≡ []
none_in_round [] r s late = refl
none_in_round (f ∷ fs) r s late =
    let first = late f (inl refl) in
    let e = not_in_round r f.round s f.to f.datagram (omega (arith, first)) in
    rw e (none_in_round fs r s (λ g i. late g (inr i)))

none_through : (fs : List Flight) (r : ℕ) (s : Side) → ((f : Flight) → In f fs → r < f.round) → through fs r s ≡ []
none_through fs zero s late = refl
none_through fs (suc r) s late =
    let before = none_through fs r s (λ f i. let l = late f i in omega (arith, l)) in
    let here = none_in_round fs (suc r) s late in
    rw (before, here)

-- a flight in the round that it comes in
in_its_round : (fs : List Flight) (k : ℕ) (s t : Side) (d : List ℕ)
    → map (λ (f : Flight). f.datagram) (filter (is_due k s) (record { round = k; to = t; datagram = d } ∷ fs))
    ≡ if_same_side s t (d ∷ map (λ (f : Flight). f.datagram) (filter (is_due k s) fs)) (map (λ (f : Flight). f.datagram) (filter (is_due k s) fs))
in_its_round fs k Client Client d = elim (eqb_tells k k) [ inl e ↦ let t = e.0 in rw t | inr e ↦ absurd (e.1 refl) ]
in_its_round fs k Client Server d = elim (eqb_tells k k) [ inl e ↦ let t = e.0 in rw t | inr e ↦ absurd (e.1 refl) ]
in_its_round fs k Server Client d = elim (eqb_tells k k) [ inl e ↦ let t = e.0 in rw t | inr e ↦ absurd (e.1 refl) ]
in_its_round fs k Server Server d = elim (eqb_tells k k) [ inl e ↦ let t = e.0 in rw t | inr e ↦ absurd (e.1 refl) ]

-- a flight in front of those that come no earlier comes first
first_through : (fs : List Flight) (r k : ℕ) (s t : Side) (d : List ℕ) → ((f : Flight) → In f fs → k ≤ f.round) → 1 ≤ k → k ≤ r
    → through (record { round = k; to = t; datagram = d } ∷ fs) r s ≡ if_same_side s t (d ∷ through fs r s) (through fs r s)
first_through fs zero k s t d late low high = absurd (omega arith)
first_through fs (suc r) k s t d late low high =
    let f : Flight = record { round = k; to = t; datagram = d } in
    let here : List (List ℕ) = map (λ (g : Flight). g.datagram) (filter (is_due (suc r) s) fs) in
    elim (eqb_tells k (suc r)) [
      | inl e ↦
          let is = e.1 in
          let none : through fs r s ≡ [] = none_through fs r s (λ g i. let l = late g i in omega (arith, l)) in
          let none_before : through (f ∷ fs) r s ≡ [] =
          none_through (f ∷ fs) r s
          (λ g i. elim i [ inl q ↦ let l = ap (λ (x : Flight). x.round) q in omega (arith, l) | inr j ↦ let l = late g j in omega (arith, l) ]) in
          rw (none, none_before)
          (subst (λ (z : ℕ). map (λ (g : Flight). g.datagram) (filter (is_due (suc r) s) (record { round = z; to = t; datagram = d } ∷ fs)) ≡ if_same_side s t (d ∷ here) here) (sym is)
          (in_its_round fs (suc r) s t d))
      | inr e ↦
          let before = first_through fs r k s t d late low (let n = e.1 in omega (arith, n)) in
          let not_here = not_in_round (suc r) k s t d e.1 in
          rw not_here (ap (λ (z : List (List ℕ)). z ++ here) before ∙ sym (if_same_side-append s t (d ∷ through fs r s) (through fs r s) here))
    ]

-- ---- what was sent, as flights

abbrev pub AreShort : List Event → Type 0
AreShort es = (s : Side) (d : List ℕ) → In d (sent_by s es) → length d ≤ 2048

-- where the schedule is empty, and events begin in round r
abbrev flown : ℕ → List Event → List Flight
flown r [] = []
flown r (Sent s d ∷ es) = record { round = r + 1; to = other s; datagram = d } ∷ flown r es
flown r (Given s d ∷ es) = flown r es
flown r (Dry s ∷ es) = flown r es
flown r (Round moment ∷ es) = flown (r + 1) es
flown r (Fault ∷ es) = flown r es

first_short : (s : Side) (d : List ℕ) (es : List Event) → AreShort (Sent s d ∷ es) → length d ≤ 2048
first_short Client d es short = short Client d (inl refl)
first_short Server d es short = short Server d (inl refl)

are_flown : (r n : ℕ) (es : List Event) → AreShort es → flights_from [] r n es ≡ flown r es
are_flown r n [] short = refl
are_flown r n (Sent s d ∷ es) short =
    let fits : nat_lt 2048 (length d) ≡ false = le-ltb 2048 (length d) (first_short s d es short) in
    let rest = are_flown r (n + 1) es (λ t b i. short t b (sent_later t s b d es i)) in
    let at = add-zero (r + 1) in
    rw (fits, at, rest)
are_flown r n (Given s d ∷ es) short = are_flown r n es short
are_flown r n (Dry s ∷ es) short = are_flown r n es short
are_flown r n (Round moment ∷ es) short = are_flown (r + 1) n es short
are_flown r n (Fault ∷ es) short = are_flown r (n + 1) es short

come_later : (r : ℕ) (es : List Event) (f : Flight) → In f (flown r es) → r + 1 ≤ f.round
come_later r [] f i = absurd i
come_later r (Sent s d ∷ es) f (inl e) = let l = ap (λ (x : Flight). x.round) e in omega (arith, l)
come_later r (Sent s d ∷ es) f (inr i) = come_later r es f i
come_later r (Given s d ∷ es) f i = come_later r es f i
come_later r (Dry s ∷ es) f i = come_later r es f i
come_later r (Round moment ∷ es) f i = let l = come_later (r + 1) es f i in omega (arith, l)
come_later r (Fault ∷ es) f i = come_later r es f i

-- ---- what was sent before the round that is on

before_none : (x : Event) (us : List Event) → before_round x us ≡ [] → us ≡ []
before_none x [] e = refl
before_none x (u ∷ us) e = absurd cc

before_some : (x : Event) (us : List Event) (y : Event) (ys : List Event) → before_round x us ≡ y ∷ ys → (z : Event) × (zs : List Event) × (us ≡ z ∷ zs)
before_some x [] y ys e = absurd cc
before_some x (u ∷ us) y ys e = (u, us, refl)

no_round : (es : List Event) → up_to_round es ≡ [] → round_count es ≡ 0
no_round [] e = refl
no_round (Round m ∷ es) e = absurd cc
no_round (Sent t d ∷ es) e = no_round es (before_none (Sent t d) (up_to_round es) e)
no_round (Given t d ∷ es) e = no_round es (before_none (Given t d) (up_to_round es) e)
no_round (Dry t ∷ es) e = no_round es (before_none (Dry t) (up_to_round es) e)
no_round (Fault ∷ es) e = no_round es (before_none Fault (up_to_round es) e)

a_round : (es : List Event) (y : Event) (ys : List Event) → up_to_round es ≡ y ∷ ys → 1 ≤ round_count es
a_round [] y ys e = absurd cc
a_round (Round m ∷ es) y ys e = omega arith
a_round (Sent t d ∷ es) y ys e = let b = before_some (Sent t d) (up_to_round es) y ys e in a_round es b.0 b.1 b.2
a_round (Given t d ∷ es) y ys e = let b = before_some (Given t d) (up_to_round es) y ys e in a_round es b.0 b.1 b.2
a_round (Dry t ∷ es) y ys e = let b = before_some (Dry t) (up_to_round es) y ys e in a_round es b.0 b.1 b.2
a_round (Fault ∷ es) y ys e = let b = before_some Fault (up_to_round es) y ys e in a_round es b.0 b.1 b.2

to_other : {X : Type 0} (s t : Side) (x y : X) → if_same_side s (other t) x y ≡ if_same_side (other s) t x y
to_other Client Client x y = refl
to_other Client Server x y = refl
to_other Server Client x y = refl
to_other Server Server x y = refl

silent : (s : Side) (x : Event) (us : List Event) → sent_by s (x ∷ []) ≡ [] → sent_by s (before_round x us) ≡ sent_by s us
silent s x [] e = refl
silent s x (u ∷ us) e = sent_by-append s (x ∷ []) (u ∷ us) ∙ ap (λ (z : List (List ℕ)). z ++ sent_by s (u ∷ us)) e

-- one more that is sent, where that holds of what is sent after it
one_sent : (r : ℕ) (t : Side) (d : List ℕ) (es us : List Event) (s : Side) → up_to_round es ≡ us
    → through (flown r es) (r + round_count es) s ≡ sent_by (other s) us
    → through (flown r (Sent t d ∷ es)) (r + round_count es) s ≡ sent_by (other s) (before_round (Sent t d) us)
one_sent r t d es [] s e later =
    let none = no_round es e in
    none_through (flown r (Sent t d ∷ es)) (r + round_count es) s (λ f i. let l = come_later r (Sent t d ∷ es) f i in omega (arith, l, none))
one_sent r t d es (u ∷ us) s e later =
    let some = a_round es u us e in
    first_through (flown r es) (r + round_count es) (r + 1) s (other t) d (come_later r es) (omega arith) (omega arith)
    ∙ ap (λ (z : List (List ℕ)). if_same_side s (other t) (d ∷ z) z) later
    ∙ to_other s t (d ∷ sent_by (other s) (u ∷ us)) (sent_by (other s) (u ∷ us))

-- what is due up to the round that is on is what was sent before it
due_is_sent : (r : ℕ) (es : List Event) (s : Side) → through (flown r es) (r + round_count es) s ≡ sent_by (other s) (up_to_round es)
due_is_sent r [] s = none_through [] (r + 0) s (λ f i. absurd i)
due_is_sent r (Sent t d ∷ es) s = one_sent r t d es (up_to_round es) s refl (due_is_sent r es s)
due_is_sent r (Given t d ∷ es) s = due_is_sent r es s ∙ sym (silent (other s) (Given t d) (up_to_round es) refl)
due_is_sent r (Dry t ∷ es) s = due_is_sent r es s ∙ sym (silent (other s) (Dry t) (up_to_round es) refl)
due_is_sent r (Fault ∷ es) s = due_is_sent r es s ∙ sym (silent (other s) Fault (up_to_round es) refl)
due_is_sent r (Round m ∷ es) s =
    let at : r + round_count (Round m ∷ es) ≡ r + 1 + round_count es = omega arith in
    ap (λ (z : ℕ). through (flown (r + 1) es) z s) at ∙ due_is_sent (r + 1) es s

pub due_now : (es : List Event) (s : Side) → AreShort es → due_through [] es (round_count es) s ≡ due_to s es
due_now es s short =
    through_is es (round_count es) s
    ∙ ap (λ (z : List Flight). through z (round_count es) s) (are_flown 0 0 es short)
    ∙ ap (λ (z : ℕ). through (flown 0 es) z s) (sym (zero-add (round_count es)))
    ∙ due_is_sent 0 es s
