-- A link with a schedule that forges nothing is honest.
use Rattle.std.proofs.Common.{◌≡◌, inl, inr, ℕ, zero, suc, ◌+◌, ◌==◌, Bool, true, false, List, [], ◌∷◌, length, nat_lt, refl, sym, ap, ◌∙◌, subst}
use Rattle.std.specs.Prelude.{map, filter}
use Rattle.std.proofs.lemmas.Bool.{cases_Bool, and_parts, false≢true}
use Rattle.qh_spec.specs.declared.link.Event.{Event}
use Rattle.qh_spec.specs.declared.link.Event.TheVariants.{Sent, Given, Dry, Round, Fault}
use Rattle.qh_spec.specs.declared.link.Upset.{Upset}
use Rattle.qh_spec.specs.declared.link.Upset.TheVariants.{Lose, Twice, Late, Fail, Forge}
use Rattle.qh_spec.specs.declared.sides.Side.{Side}
use Rattle.qh_spec.specs.declared.sides.Side.TheVariants.{Client, Server}
use Rattle.qh_spec.specs.Honest.{IsHonest}
use Rattle.qh_spec.specs.Link.{other, if_same_side, sent_by, given_to}
use Rattle.qh_spec.specs.Lists.{In}
use Rattle.qh_spec.specs.Schedule.{forged, Flight, repeated, copies_of, delay_of, flights_of_send, flights_from, flights, is_due, due_in, due_through, round_count, IsScheduled, IsUnforged}
use Rattle.qh_spec.proofs.Members.{in_split, in_at, from_map}

-- ---- lists

in_filter : {X : Type 0} (test : X → Bool) (x : X) (xs : List X) → In x (filter test xs) → In x xs × (test x ≡ true)
in_filter test x [] i = absurd i
in_filter test x (y ∷ ys) i =
    elim (cases_Bool (test y)) [
      | inl t ↦ elim (rw t at i) [ inl e ↦ (inl e, sym (ap test e) ∙ t) | inr r ↦ let w = in_filter test x ys r in (inr w.0, w.1) ]
      | inr f ↦ let w = in_filter test x ys (rw f at i) in (inr w.0, w.1)
    ]

in_repeated : {X : Type 0} (n : ℕ) (x y : X) → In y (repeated n x) → x ≡ y
in_repeated zero x y i = absurd i
in_repeated (suc n) x y (inl e) = e
in_repeated (suc n) x y (inr i) = in_repeated n x y i

-- ---- sides

same_side : (s t : Side) → if_same_side s t true false ≡ true → s ≡ t
same_side Client Client e = refl
same_side Server Server e = refl
same_side Client Server e = absurd (false≢true e)
same_side Server Client e = absurd (false≢true e)

other_twice : (s : Side) → other (other s) ≡ s
other_twice Client = refl
other_twice Server = refl

sent_first : (s : Side) (d : List ℕ) (es : List Event) → In d (sent_by s (Sent s d ∷ es))
sent_first Client d es = inl refl
sent_first Server d es = inl refl

pub sent_later : (s t : Side) (d b : List ℕ) (es : List Event) → In d (sent_by s es) → In d (sent_by s (Sent t b ∷ es))
sent_later Client Client d b es i = inr i
sent_later Client Server d b es i = i
sent_later Server Client d b es i = i
sent_later Server Server d b es i = inr i

-- ---- flights

-- the datagram was sent by the other side than the one to which it goes
abbrev WasSent : List Event → Flight → Type 0
WasSent es f = (s : Side) × (f.to ≡ other s) × In f.datagram (sent_by s es)

of_send : (schedule : List Upset) (r n : ℕ) (s : Side) (d : List ℕ) (f : Flight) → In f (flights_of_send schedule r n s d) → (other s ≡ f.to) × (d ≡ f.datagram)
of_send schedule r n s d f i =
    elim (cases_Bool (nat_lt 2048 (length d))) [
      | inl t ↦ absurd (rw t at i)
      | inr u ↦
          let one : Flight = record { round = r + 1 + delay_of schedule n; to = other s; datagram = d } in
          let same : one ≡ f = in_repeated (copies_of schedule n) one f (rw u at i) in
          (ap (λ (g : Flight). g.to) same, ap (λ (g : Flight). g.datagram) same)
    ]

was_sent : (schedule : List Upset) (r n : ℕ) (es : List Event) (f : Flight) → In f (flights_from schedule r n es) → WasSent es f
was_sent schedule r n [] f i = absurd i
was_sent schedule r n (Sent s d ∷ es) f i =
    elim (in_split f (flights_of_send schedule r (n + 1) s d) (flights_from schedule r (n + 1) es) i) [
      | inl a ↦
          let is = of_send schedule r (n + 1) s d f a in
          (s, sym is.0, subst (λ (z : List ℕ). In z (sent_by s (Sent s d ∷ es))) is.1 (sent_first s d es))
      | inr b ↦ let w = was_sent schedule r (n + 1) es f b in (w.0, w.1, sent_later w.0 s f.datagram d es w.2)
    ]
was_sent schedule r n (Given s d ∷ es) f i = was_sent schedule r n es f i
was_sent schedule r n (Dry s ∷ es) f i = was_sent schedule r n es f i
was_sent schedule r n (Round moment ∷ es) f i = was_sent schedule (r + 1) n es f i
was_sent schedule r n (Fault ∷ es) f i = was_sent schedule r (n + 1) es f i

-- ---- what is due

none_forged : (schedule : List Upset) (r : ℕ) (s : Side) (d : List ℕ) → IsUnforged schedule → In d (forged schedule r s) → ⊥
none_forged [] r s d u i = i
none_forged (Lose which ∷ us) r s d u i = none_forged us r s d (λ round side bytes h. u round side bytes (inr h)) i
none_forged (Twice which ∷ us) r s d u i = none_forged us r s d (λ round side bytes h. u round side bytes (inr h)) i
none_forged (Late which rounds ∷ us) r s d u i = none_forged us r s d (λ round side bytes h. u round side bytes (inr h)) i
none_forged (Fail k ∷ us) r s d u i = none_forged us r s d (λ round side bytes h. u round side bytes (inr h)) i
none_forged (Forge round side bytes ∷ us) r s d u i = u round side bytes (inl refl)

due_sent : (schedule : List Upset) (es : List Event) (r : ℕ) (s : Side) (d : List ℕ) → IsUnforged schedule → In d (due_in schedule es r s) → In d (sent_by (other s) es)
due_sent schedule es r s d u i =
    elim (in_split d (map (λ (f : Flight). f.datagram) (filter (is_due r s) (flights schedule es))) (forged schedule r s) i) [
      | inl a ↦
          let f = from_map (λ (f : Flight). f.datagram) d (filter (is_due r s) (flights schedule es)) a in
          let due = in_filter (is_due r s) f.0 (flights schedule es) f.1 in
          let w = was_sent schedule 0 0 es f.0 due.0 in
          let to : s ≡ f.0.to = same_side s f.0.to (and_parts (f.0.round == r) (if_same_side s f.0.to true false) due.1).1 in
          let by : w.0 ≡ other s = sym (other_twice w.0) ∙ ap other (sym w.1 ∙ sym to) in
          subst (λ (z : Side). In d (sent_by z es)) by (subst (λ (z : List ℕ). In z (sent_by w.0 es)) f.2 w.2)
      | inr b ↦ absurd (none_forged schedule r s d u b)
    ]

through_sent : (schedule : List Upset) (es : List Event) (r : ℕ) (s : Side) (d : List ℕ) → IsUnforged schedule → In d (due_through schedule es r s) → In d (sent_by (other s) es)
through_sent schedule es zero s d u i = absurd i
through_sent schedule es (suc r) s d u i =
    elim (in_split d (due_through schedule es r s) (due_in schedule es (suc r) s) i) [
      | inl a ↦ through_sent schedule es r s d u a
      | inr b ↦ due_sent schedule es (suc r) s d u b
    ]

pub unforged_is_honest : (step : ℕ) (schedule : List Upset) (es : List Event) → IsScheduled step schedule es → IsUnforged schedule → IsHonest es
unforged_is_honest step schedule es h u before after s d e =
    let due = due_through schedule before (round_count before) s in
    through_sent schedule before (round_count before) s d u (in_at due (length (given_to s before)) d (h before after (Given s d) e))
