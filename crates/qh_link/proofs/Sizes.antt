-- No datagram that a link in memory gives is longer than 2,048 bytes.
use Rattle.std.proofs.Common.{◌≡◌, ℕ, ◌+◌, ◌≤◌, zero, suc, Bool, true, false, cond, eqb, ltb, List, [], ◌∷◌, ◌++◌, length, map, filter, refl, sym, subst, arith, All}
use Rattle.std.proofs.lemmas.Bool.{ltb-false}
use Rattle.qh_spec.specs.declared.sides.Side.{Side}
use Rattle.qh_spec.specs.declared.sides.Side.TheVariants.{Client, Server}
use Rattle.qh_spec.specs.declared.link.Event.{Event}
use Rattle.qh_spec.specs.declared.link.Event.TheVariants.{Sent, Given, Dry, Round, Fault}
use Rattle.qh_spec.specs.declared.link.Upset.{Upset}
use Rattle.qh_spec.specs.declared.link.Upset.TheVariants.{Lose, Twice, Late, Fail, Forge}
use Rattle.qh_spec.specs.Link.{other, if_same_side, given_to}
use Rattle.qh_spec.specs.Schedule.{Flight, repeated, flights_of_send, flights_from, flights, is_due, forges, forged, due_through, round_count, copies_of, delay_of, IsUpset}
use Rattle.qh_link.specs.declared.ways.Ways.{Ways}
use Rattle.qh_link.specs.Ways.{ready_to}
use Rattle.qh_link.specs.ScriptLink.{IsKept}

abbrev Short : List (List ℕ) → Type 0
Short [] = Unit {0}
Short (d ∷ ds) = (length d ≤ 2048) × Short ds

abbrev ShortFlights : List Flight → Type 0
ShortFlights [] = Unit {0}
ShortFlights (f ∷ fs) = (length f.datagram ≤ 2048) × ShortFlights fs

Short-append : (xs ys : List (List ℕ)) → Short xs → Short ys → Short (xs ++ ys)
Short-append [] ys a b = b
Short-append (x ∷ xs) ys a b = (a.0, Short-append xs ys a.1 b)

Short-right : (xs ys : List (List ℕ)) → Short (xs ++ ys) → Short ys
Short-right [] ys a = a
Short-right (x ∷ xs) ys a = Short-right xs ys a.1

ShortFlights-append : (xs ys : List Flight) → ShortFlights xs → ShortFlights ys → ShortFlights (xs ++ ys)
ShortFlights-append [] ys a b = b
ShortFlights-append (x ∷ xs) ys a b = (a.0, ShortFlights-append xs ys a.1 b)

short_if : (b : Bool) (f : Flight) (fs : List Flight) → length f.datagram ≤ 2048 → Short (map (λ (g : Flight). g.datagram) fs) → Short (map (λ (g : Flight). g.datagram) (cond b (f ∷ fs) fs))
short_if true f fs a b = (a, b)
short_if false f fs a b = b

short_filter : (p : Flight → Bool) (fs : List Flight) → ShortFlights fs → Short (map (λ (g : Flight). g.datagram) (filter p fs))
short_filter p [] h = tt
short_filter p (f ∷ fs) h = short_if (p f) f (filter p fs) h.0 (short_filter p fs h.1)

short_repeated : (c : ℕ) (f : Flight) → length f.datagram ≤ 2048 → ShortFlights (repeated c f)
short_repeated zero f l = tt
short_repeated (suc c) f l = (l, short_repeated c f l)

short_unless : (b : Bool) (c : ℕ) (f : Flight) → ltb 2048 (length f.datagram) ≡ b → ShortFlights (cond b [] (repeated c f))
short_unless true c f e = tt
short_unless false c f e = short_repeated c f (ltb-false 2048 (length f.datagram) e)

short_sent : (u : List Upset) (r n : ℕ) (s : Side) (d : List ℕ) → ShortFlights (flights_of_send u r n s d)
short_sent u r n s d =
    short_unless (ltb 2048 (length d)) (copies_of u n) (record { round = r + 1 + delay_of u n; to = other s; datagram = d }) refl

short_flights : (u : List Upset) (r n : ℕ) (es : List Event) → ShortFlights (flights_from u r n es)
short_flights u r n [] = tt
short_flights u r n (Sent s d ∷ es) =
    ShortFlights-append (flights_of_send u r (n + 1) s d) (flights_from u r (n + 1) es) (short_sent u r (n + 1) s d) (short_flights u r (n + 1) es)
short_flights u r n (Given s d ∷ es) = short_flights u r n es
short_flights u r n (Dry s ∷ es) = short_flights u r n es
short_flights u r n (Round m ∷ es) = short_flights u (r + 1) n es
short_flights u r n (Fault ∷ es) = short_flights u r (n + 1) es

short_side : (s t : Side) (d : List ℕ) → length d ≤ 2048 → Short (if_same_side s t (d ∷ []) [])
short_side Client Client d l = (l, tt)
short_side Client Server d l = tt
short_side Server Client d l = tt
short_side Server Server d l = (l, tt)

short_round : (b : Bool) (ds : List (List ℕ)) → Short ds → Short (cond b ds [])
short_round true ds h = h
short_round false ds h = tt

short_forges : (r : ℕ) (s : Side) (x : Upset) → IsUpset x → Short (forges r s x)
short_forges r s (Lose which) h = tt
short_forges r s (Twice which) h = tt
short_forges r s (Late which rounds) h = tt
short_forges r s (Fail k) h = tt
short_forges r s (Forge round side bytes) h = short_round (eqb round r) (if_same_side s side (bytes ∷ []) []) (short_side s side bytes h.3)

short_forged : (u : List Upset) (r : ℕ) (s : Side) → All IsUpset u → Short (forged u r s)
short_forged [] r s h = tt
short_forged (x ∷ u) r s h =
    Short-append (forges r s x) (forged u r s) (short_forges r s x (h 0 x (omega arith))) (short_forged u r s (λ k d l. h (suc k) d (omega arith)))

short_due : (u : List Upset) (es : List Event) (r : ℕ) (s : Side) → All IsUpset u → Short (due_through u es r s)
short_due u es zero s h = tt
short_due u es (suc r) s h =
    Short-append (due_through u es r s) _ (short_due u es r s h)
    (Short-append (map (λ (g : Flight). g.datagram) (filter (is_due (suc r) s) (flights u es))) (forged u (suc r) s) (short_filter (is_due (suc r) s) (flights u es) (short_flights u 0 0 es)) (short_forged u (suc r) s h))

short_first : (s : Side) (d : List ℕ) (now ready : List (List ℕ)) → ready ≡ if_same_side s s (d ∷ []) [] ++ now → Short ready → length d ≤ 2048
short_first Client d now ready e h = let q : Short (d ∷ now) = subst Short e h in q.0
short_first Server d now ready e h = let q : Short (d ∷ now) = subst Short e h in q.0

pub taken_is_short : {step : ℕ} {u : List Upset} {es : List Event} {r n : ℕ} {w : Ways} → IsKept step u es r n w → (to : Side) (d : List ℕ) (now : List (List ℕ)) → ready_to w to ≡ if_same_side to to (d ∷ []) [] ++ now → length d ≤ 2048
taken_is_short {step} {u} {es} {r} {n} {w} k to d now e =
    short_first to d now (ready_to w to) e
    (Short-right (given_to to es) (ready_to w to) (subst Short (sym (k.ways_are to).ready_is) (short_due u es (round_count es) to k.entries)))
