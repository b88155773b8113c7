-- A link with an empty schedule and a step of 1 to 10 milliseconds is prompt.
use Rattle.std.proofs.Common.{◌≡◌, inl, inr, ℕ, ◌+◌, ◌-◌, ◌*◌, ◌^◌, ◌<◌, ◌≤◌, List, [], ◌∷◌, ◌++◌, length, refl, sym, ap, ◌∙◌, subst, arith, append_assoc, length-append}
use Rattle.std.specs.Prelude.{slice_get, Some, None}
use Rattle.std.proofs.lemmas.Bool.{false≢true}
use Rattle.std.proofs.lemmas.List.{append-nil}
use Rattle.std.proofs.Math.Nat.{add-zero}
use Rattle.qh_spec.specs.declared.link.Event.{Event}
use Rattle.qh_spec.specs.declared.link.Event.TheVariants.{Sent, Given, Dry, Round, Fault}
use Rattle.qh_spec.specs.declared.sides.Side.{Side}
use Rattle.qh_spec.specs.declared.sides.Side.TheVariants.{Client, Server}
use Rattle.qh_spec.specs.Honest.{Neighbours}
use Rattle.qh_spec.specs.Link.{other, sent_by, given_to, moments_of}
use Rattle.qh_spec.specs.Lists.{In}
use Rattle.qh_spec.specs.Schedule.{round_count, next_for, moment_of, Happens, IsScheduled}
use Rattle.qh_spec.specs.Turns.{before_round, up_to_round, due_to, IsPrompt}
use Rattle.qh_spec.proofs.EventLaws.{sent_by-append, given_to-append, moments_of-append}
use Rattle.qh_spec.proofs.Members.{in_left, in_right}
use Rattle.qh_spec.proofs.QuietDue.{AreShort, due_now}

-- ---- the round that is on, where one event follows

up_quiet : (es : List Event) (x : Event) → moments_of (x ∷ []) ≡ [] → up_to_round (es ++ x ∷ []) ≡ up_to_round es
up_quiet [] (Round m) e = absurd cc
up_quiet [] (Sent t d) e = refl
up_quiet [] (Given t d) e = refl
up_quiet [] (Dry t) e = refl
up_quiet [] Fault e = refl
up_quiet (Round m ∷ es) x e = ap (λ (z : List Event). Round m ∷ z) (up_quiet es x e)
up_quiet (Sent t d ∷ es) x e = ap (before_round (Sent t d)) (up_quiet es x e)
up_quiet (Given t d ∷ es) x e = ap (before_round (Given t d)) (up_quiet es x e)
up_quiet (Dry t ∷ es) x e = ap (before_round (Dry t)) (up_quiet es x e)
up_quiet (Fault ∷ es) x e = ap (before_round Fault) (up_quiet es x e)

before_one : (x : Event) (es : List Event) (m : ℕ) → before_round x (es ++ Round m ∷ []) ≡ x ∷ (es ++ Round m ∷ [])
before_one x [] m = refl
before_one x (e ∷ es) m = refl

up_round : (es : List Event) (m : ℕ) → up_to_round (es ++ Round m ∷ []) ≡ es ++ Round m ∷ []
up_round [] m = refl
up_round (Round n ∷ es) m = ap (λ (z : List Event). Round n ∷ z) (up_round es m)
up_round (Sent t d ∷ es) m = ap (before_round (Sent t d)) (up_round es m) ∙ before_one (Sent t d) es m
up_round (Given t d ∷ es) m = ap (before_round (Given t d)) (up_round es m) ∙ before_one (Given t d) es m
up_round (Dry t ∷ es) m = ap (before_round (Dry t)) (up_round es m) ∙ before_one (Dry t) es m
up_round (Fault ∷ es) m = ap (before_round Fault) (up_round es m) ∙ before_one Fault es m

-- the events up to the last round are a prefix of all
one_before : (x : Event) (us es : List Event) → (rest : List Event) × (es ≡ us ++ rest) → (rest : List Event) × (x ∷ es ≡ before_round x us ++ rest)
one_before x [] es r = (x ∷ es, refl)
one_before x (u ∷ us) es r = (r.0, ap (λ (z : List Event). x ∷ z) r.1)

up_prefix : (es : List Event) → (rest : List Event) × (es ≡ up_to_round es ++ rest)
up_prefix [] = ([], refl)
up_prefix (Round m ∷ es) = let r = up_prefix es in (r.0, ap (λ (z : List Event). Round m ∷ z) r.1)
up_prefix (Sent t d ∷ es) = one_before (Sent t d) (up_to_round es) es (up_prefix es)
up_prefix (Given t d ∷ es) = one_before (Given t d) (up_to_round es) es (up_prefix es)
up_prefix (Dry t ∷ es) = one_before (Dry t) (up_to_round es) es (up_prefix es)
up_prefix (Fault ∷ es) = one_before Fault (up_to_round es) es (up_prefix es)

-- ---- what was given is a prefix of what is due

abbrev IsFed : Side → List Event → Type 0
IsFed s es = (rest : List (List ℕ)) × (due_to s es ≡ given_to s es ++ rest)

at_seam : {X : Type 0} (xs ys : List X) (x : X) → slice_get (xs ++ ys) (length xs) ≡ Some x → (zs : List X) × (ys ≡ x ∷ zs)
at_seam [] [] x e = absurd cc
at_seam [] (y ∷ ys) x e = (ys, cc)
at_seam (z ∷ xs) ys x e = at_seam xs ys x e

at_end : {X : Type 0} (xs ys : List X) → slice_get (xs ++ ys) (length xs) ≡ None → ys ≡ []
at_end [] [] e = refl
at_end [] (y ∷ ys) e = absurd cc
at_end (z ∷ xs) ys e = at_end xs ys e

-- the place of the next datagram, in what is due
next_there : (es : List Event) (s : Side) → AreShort es → (fed : IsFed s es) → next_for [] es s ≡ slice_get (given_to s es ++ fed.0) (length (given_to s es))
next_there es s short fed = ap (λ (z : List (List ℕ)). slice_get z (length (given_to s es))) (due_now es s short ∙ fed.1)

gives_next : (es : List Event) (s : Side) (d : List ℕ) → AreShort es → IsFed s es → next_for [] es s ≡ Some d
    → (rest : List (List ℕ)) × (due_to s es ≡ given_to s es ++ d ∷ rest)
gives_next es s d short fed e =
    let more = at_seam (given_to s es) fed.0 d (sym (next_there es s short fed) ∙ e) in
    (more.0, fed.1 ∙ ap (λ (z : List (List ℕ)). given_to s es ++ z) more.1)

gives_none : (es : List Event) (s : Side) → AreShort es → IsFed s es → next_for [] es s ≡ None → due_to s es ≡ given_to s es
gives_none es s short fed e =
    let none = at_end (given_to s es) fed.0 (sym (next_there es s short fed) ∙ e) in
    fed.1 ∙ ap (λ (z : List (List ℕ)). given_to s es ++ z) none ∙ append-nil (given_to s es)

-- one more event keeps it
fed_still : (s : Side) (es : List Event) (x : Event) → moments_of (x ∷ []) ≡ [] → given_to s (x ∷ []) ≡ [] → IsFed s es → IsFed s (es ++ x ∷ [])
fed_still s es x quiet none fed =
    let given : given_to s (es ++ x ∷ []) ≡ given_to s es =
    given_to-append s es (x ∷ []) ∙ ap (λ (z : List (List ℕ)). given_to s es ++ z) none ∙ append-nil (given_to s es) in
    (fed.0, ap (sent_by (other s)) (up_quiet es x quiet) ∙ fed.1 ∙ ap (λ (z : List (List ℕ)). z ++ fed.0) (sym given))

fed_more : (s : Side) (es : List Event) (d : List ℕ) → AreShort es → given_to s (Given s d ∷ []) ≡ d ∷ [] → IsFed s es → next_for [] es s ≡ Some d → IsFed s (es ++ Given s d ∷ [])
fed_more s es d short one fed e =
    let next = gives_next es s d short fed e in
    let given : given_to s (es ++ Given s d ∷ []) ≡ given_to s es ++ d ∷ [] =
    given_to-append s es (Given s d ∷ []) ∙ ap (λ (z : List (List ℕ)). given_to s es ++ z) one in (
      next.0,
      ap (sent_by (other s)) (up_quiet es (Given s d) refl) ∙ next.1
          ∙ sym (append_assoc (given_to s es) (d ∷ []) next.0)
          ∙ ap (λ (z : List (List ℕ)). z ++ next.0) (sym given),
    )

fed_round : (s : Side) (es : List Event) (m : ℕ) → IsFed s es → IsFed s (es ++ Round m ∷ [])
fed_round s es m fed =
    let p = up_prefix es in
    let given : given_to s (es ++ Round m ∷ []) ≡ given_to s es = given_to-append s es (Round m ∷ []) ∙ append-nil (given_to s es) in
    let sent : sent_by (other s) es ≡ due_to s es ++ sent_by (other s) p.0 = ap (sent_by (other s)) p.1 ∙ sent_by-append (other s) (up_to_round es) p.0 in (
      fed.0 ++ sent_by (other s) p.0,
      ap (sent_by (other s)) (up_round es m)
          ∙ sent_by-append (other s) es (Round m ∷ [])
          ∙ append-nil (sent_by (other s) es)
          ∙ sent
          ∙ ap (λ (z : List (List ℕ)). z ++ sent_by (other s) p.0) fed.1
          ∙ append_assoc (given_to s es) fed.0 (sent_by (other s) p.0)
          ∙ ap (λ (z : List (List ℕ)). z ++ (fed.0 ++ sent_by (other s) p.0)) (sym given),
    )

fed_step : (step : ℕ) (s : Side) (es : List Event) (x : Event) → AreShort es → Happens step [] es x → IsFed s es → IsFed s (es ++ x ∷ [])
fed_step step s es (Round m) short h fed = fed_round s es m fed
fed_step step s es (Sent t d) short h fed = fed_still s es (Sent t d) refl refl fed
fed_step step s es (Dry t) short h fed = fed_still s es (Dry t) refl refl fed
fed_step step s es Fault short h fed = fed_still s es Fault refl refl fed
fed_step step Client es (Given Client d) short h fed = fed_more Client es d short refl fed h
fed_step step Client es (Given Server d) short h fed = fed_still Client es (Given Server d) refl refl fed
fed_step step Server es (Given Client d) short h fed = fed_still Server es (Given Client d) refl refl fed
fed_step step Server es (Given Server d) short h fed = fed_more Server es d short refl fed h

short_front : (es front after : List Event) → es ≡ front ++ after → AreShort es → AreShort front
short_front es front after e short s d i =
    short s d (subst (λ (z : List Event). In d (sent_by s z)) (sym e) (subst (λ (z : List (List ℕ)). In d z) (sym (sent_by-append s front after)) (in_left d (sent_by s front) (sent_by s after) i)))

fed_on : (step : ℕ) (s : Side) (es : List Event) → IsScheduled step [] es → AreShort es
    → (front more after : List Event) → es ≡ front ++ (more ++ after) → IsFed s front → IsFed s (front ++ more)
fed_on step s es h short front [] after e fed = rw append-nil fed
fed_on step s es h short front (x ∷ more) after e fed =
    let next = fed_step step s front x (short_front es front (x ∷ (more ++ after)) e short) (h front (more ++ after) x e) fed in
    let rest = fed_on step s es h short (front ++ x ∷ []) more after (e ∙ sym (append_assoc front (x ∷ []) (more ++ after))) next in
    subst (IsFed s) (append_assoc front (x ∷ []) more) rest

fed_before : (step : ℕ) (s : Side) (es : List Event) → IsScheduled step [] es → AreShort es → (front after : List Event) → es ≡ front ++ after → IsFed s front
fed_before step s es h short front after e = fed_on step s es h short [] front after e ([], refl)

-- ---- moments

next_to : (es front : List Event) (x : Event) (rest : List Event) → es ≡ front ++ x ∷ rest → es ≡ (front ++ x ∷ []) ++ rest
next_to es front x rest e = e ∙ sym (append_assoc front (x ∷ []) rest)

rounds_with : (front : List Event) (x : Event) → round_count (front ++ x ∷ []) ≡ round_count front + round_count (x ∷ [])
rounds_with front x = ap length (moments_of-append front (x ∷ [])) ∙ length-append (moments_of front) (moments_of (x ∷ []))

-- each is so many steps past 0, from the r-th on
abbrev AreSteps : (step r : ℕ) → List ℕ → Type 0
AreSteps step r [] = Unit {0}
AreSteps step r (m ∷ ms) = (m ≡ (r + 1) * (step * 1000000)) × AreSteps step (r + 1) ms

no_step : (step : ℕ) (front : List Event) (x : Event) (ms : List ℕ) → moments_of (x ∷ []) ≡ [] → AreSteps step (round_count (front ++ x ∷ [])) ms → AreSteps step (round_count front) ms
no_step step front x ms e a =
    subst (λ (z : ℕ). AreSteps step z ms) (rounds_with front x ∙ ap (λ (z : List ℕ). round_count front + length z) e ∙ add-zero (round_count front)) a

are_steps : (step : ℕ) (es : List Event) → IsScheduled step [] es → ((n : ℕ) → In n (moments_of es) → n < 2 ^ 62 - 1)
    → (front rest : List Event) → es ≡ front ++ rest → AreSteps step (round_count front) (moments_of rest)
are_steps step es h early front [] e = tt
are_steps step es h early front (Round m ∷ rest) e =
    let is : m ≡ moment_of step (round_count front + 1) = h front rest (Round m) e in
    let there : In m (moments_of es) =
    subst (λ (z : List Event). In m (moments_of z)) (sym e)
    (subst (λ (z : List ℕ). In m z) (sym (moments_of-append front (Round m ∷ rest))) (in_right m (moments_of front) (m ∷ moments_of rest) (inl refl))) in
    let bound = early m there in (
      omega (arith, is, bound),
      subst (λ (z : ℕ). AreSteps step z (moments_of rest)) (rounds_with front (Round m)) (are_steps step es h early (front ++ Round m ∷ []) rest (next_to es front (Round m) rest e)),
    )
are_steps step es h early front (Sent t d ∷ rest) e =
    no_step step front (Sent t d) (moments_of rest) refl (are_steps step es h early (front ++ Sent t d ∷ []) rest (next_to es front (Sent t d) rest e))
are_steps step es h early front (Given t d ∷ rest) e =
    no_step step front (Given t d) (moments_of rest) refl (are_steps step es h early (front ++ Given t d ∷ []) rest (next_to es front (Given t d) rest e))
are_steps step es h early front (Dry t ∷ rest) e =
    no_step step front (Dry t) (moments_of rest) refl (are_steps step es h early (front ++ Dry t ∷ []) rest (next_to es front (Dry t) rest e))
are_steps step es h early front (Fault ∷ rest) e =
    no_step step front Fault (moments_of rest) refl (are_steps step es h early (front ++ Fault ∷ []) rest (next_to es front Fault rest e))

near : (step r : ℕ) (ms : List ℕ) → 1 ≤ step → step ≤ 10 → AreSteps step r ms → Neighbours (λ m n. (m + 1000000 ≤ n) × (n ≤ m + 10000000)) ms
near step r [] low high a = tt
near step r (m ∷ []) low high a = tt
near step r (m ∷ n ∷ ms) low high a = ((let f = a.0 in let g = a.1.0 in omega (arith, f, g), let f = a.0 in let g = a.1.0 in omega (arith, f, g)), near step (r + 1) (n ∷ ms) low high a.1)

its_place : (x : Event) (es : List Event) → In x es → (before : List Event) × (after : List Event) × (es ≡ before ++ x ∷ after)
its_place x [] i = absurd i
its_place x (y ∷ es) (inl e) = ([], es, ap (λ (z : Event). z ∷ es) e)
its_place x (y ∷ es) (inr i) = let w = its_place x es i in (y ∷ w.0, w.1, ap (λ (z : List Event). y ∷ z) w.2)

pub quiet_is_prompt : (step : ℕ) (es : List Event) → 1 ≤ step → step ≤ 10 → IsScheduled step [] es
    → ((s : Side) (d : List ℕ) → In d (sent_by s es) → length d ≤ 2048) → ((n : ℕ) → In n (moments_of es) → n < 2 ^ 62 - 1) → IsPrompt es
quiet_is_prompt step es low high h short early = record {
  given = λ before after s d e.
      gives_next before s d (short_front es before (Given s d ∷ after) e short) (fed_before step s es h short before (Given s d ∷ after) e) (h before after (Given s d) e);
  dry = λ before after s e.
      gives_none before s (short_front es before (Dry s ∷ after) e short) (fed_before step s es h short before (Dry s ∷ after) e) (h before after (Dry s) e);
  no_fault = λ i. let w = its_place Fault es i in false≢true (h w.0 w.1 Fault w.2);
  steps = near step 0 (moments_of es) low high (are_steps step es h early [] es refl);
}
