-- Laws of lists of events.
use Rattle.std.proofs.Common.{◌≡◌, inl, inr, List, [], ◌∷◌, ◌++◌, ℕ, refl, sym, ◌∙◌, ap, subst}
use Rattle.qh_spec.specs.declared.sides.Side.{Side}
use Rattle.qh_spec.specs.declared.sides.Side.TheVariants.{Client, Server}
use Rattle.qh_spec.specs.Lists.{In}
use Rattle.std.specs.Prelude.{length, map, zero, suc}
use Rattle.std.proofs.Common.{length-append, arith}
use Rattle.qh_spec.proofs.Members.{in_left, in_right}
use Rattle.qh_spec.specs.Turns.{IsIntake, until_dry, full, IsWholeTurn, AreWholeTurns, before_round, up_to_round, IsPrompt}
use Rattle.qh_spec.specs.declared.link.Event.{Event}
use Rattle.qh_spec.specs.declared.link.Event.TheVariants.{Sent, Given, Dry, Round, Fault}
use Rattle.qh_spec.specs.Link.{if_same_side, sent_by, given_to, moments_of, other}
use Rattle.qh_spec.specs.Honest.{IsHonest}

pub if_same_side-append : {X : Type 0} (s t : Side) (xs ys zs : List X) → if_same_side s t (xs ++ zs) (ys ++ zs) ≡ if_same_side s t xs ys ++ zs
if_same_side-append Client Client xs ys zs = refl
if_same_side-append Client Server xs ys zs = refl
if_same_side-append Server Client xs ys zs = refl
if_same_side-append Server Server xs ys zs = refl

pub sent_by-append : (s : Side) (es fs : List Event) → sent_by s (es ++ fs) ≡ sent_by s es ++ sent_by s fs
sent_by-append s [] fs = refl
sent_by-append s (Sent t d ∷ es) fs =
    ap (λ (z : List (List ℕ)). if_same_side s t (d ∷ z) z) (sent_by-append s es fs) ∙ if_same_side-append s t (d ∷ sent_by s es) (sent_by s es) (sent_by s fs)
sent_by-append s (Given t d ∷ es) fs = sent_by-append s es fs
sent_by-append s (Dry t ∷ es) fs = sent_by-append s es fs
sent_by-append s (Round n ∷ es) fs = sent_by-append s es fs
sent_by-append s (Fault ∷ es) fs = sent_by-append s es fs

pub given_to-append : (s : Side) (es fs : List Event) → given_to s (es ++ fs) ≡ given_to s es ++ given_to s fs
given_to-append s [] fs = refl
given_to-append s (Sent t d ∷ es) fs = given_to-append s es fs
given_to-append s (Given t d ∷ es) fs =
    ap (λ (z : List (List ℕ)). if_same_side s t (d ∷ z) z) (given_to-append s es fs) ∙ if_same_side-append s t (d ∷ given_to s es) (given_to s es) (given_to s fs)
given_to-append s (Dry t ∷ es) fs = given_to-append s es fs
given_to-append s (Round n ∷ es) fs = given_to-append s es fs
given_to-append s (Fault ∷ es) fs = given_to-append s es fs

pub other_is_quiet : (s : Side) (d : List ℕ) → sent_by (other s) (Sent s d ∷ []) ≡ []
other_is_quiet Client d = refl
other_is_quiet Server d = refl

pub sent_one : (s : Side) (d : List ℕ) → sent_by s (Sent s d ∷ []) ≡ d ∷ []
sent_one Client d = refl
sent_one Server d = refl

pub given_one : (s : Side) (d : List ℕ) → given_to s (Given s d ∷ []) ≡ d ∷ []
given_one Client d = refl
given_one Server d = refl

-- a datagram that was given was given at some moment
given_when : (s : Side) (d : List ℕ) (es : List Event) → In d (given_to s es) → (before : List Event) × (after : List Event) × (es ≡ before ++ Given s d ∷ after)
given_when s d [] i = absurd i
given_when s d (Sent t x ∷ es) i = let r = given_when s d es i in (Sent t x ∷ r.0, r.1, ap (λ (z : List Event). Sent t x ∷ z) r.2)
given_when s d (Dry t ∷ es) i = let r = given_when s d es i in (Dry t ∷ r.0, r.1, ap (λ (z : List Event). Dry t ∷ z) r.2)
given_when s d (Round n ∷ es) i = let r = given_when s d es i in (Round n ∷ r.0, r.1, ap (λ (z : List Event). Round n ∷ z) r.2)
given_when s d (Fault ∷ es) i = let r = given_when s d es i in (Fault ∷ r.0, r.1, ap (λ (z : List Event). Fault ∷ z) r.2)
given_when Client d (Given Client x ∷ es) (inl e) = ([], es, ap (λ (z : List ℕ). Given Client z ∷ es) e)
given_when Client d (Given Client x ∷ es) (inr i) = let r = given_when Client d es i in (Given Client x ∷ r.0, r.1, ap (λ (z : List Event). Given Client x ∷ z) r.2)
given_when Client d (Given Server x ∷ es) i = let r = given_when Client d es i in (Given Server x ∷ r.0, r.1, ap (λ (z : List Event). Given Server x ∷ z) r.2)
given_when Server d (Given Client x ∷ es) i = let r = given_when Server d es i in (Given Client x ∷ r.0, r.1, ap (λ (z : List Event). Given Client x ∷ z) r.2)
given_when Server d (Given Server x ∷ es) (inl e) = ([], es, ap (λ (z : List ℕ). Given Server z ∷ es) e)
given_when Server d (Given Server x ∷ es) (inr i) = let r = given_when Server d es i in (Given Server x ∷ r.0, r.1, ap (λ (z : List Event). Given Server x ∷ z) r.2)

-- over an honest link each datagram that was given to an end was sent by the other
pub honest_all : (s : Side) (d : List ℕ) (es : List Event) → IsHonest es → In d (given_to s es) → In d (sent_by (other s) es)
honest_all s d es h i =
    let w = given_when s d es i in
    subst (λ (z : List Event). In d (sent_by (other s) z)) (sym w.2)
    (subst (λ (z : List (List ℕ)). In d z) (sym (sent_by-append (other s) w.0 (Given s d ∷ w.1)))
    (in_left d (sent_by (other s) w.0) (sent_by (other s) (Given s d ∷ w.1)) (h w.0 w.1 s d w.2)))

-- what was sent up to a round was sent
in_before : (s : Side) (d : List ℕ) (x : Event) (r es : List Event) → (In d (sent_by s r) → In d (sent_by s es)) → In d (sent_by s (before_round x r)) → In d (sent_by s (x ∷ es))
in_before s d x [] es f h = absurd h
in_before Client d (Sent Client b) (y ∷ r) es f (inl e) = inl e
in_before Client d (Sent Client b) (y ∷ r) es f (inr h) = inr (f h)
in_before Client d (Sent Server b) (y ∷ r) es f h = f h
in_before Server d (Sent Client b) (y ∷ r) es f h = f h
in_before Server d (Sent Server b) (y ∷ r) es f (inl e) = inl e
in_before Server d (Sent Server b) (y ∷ r) es f (inr h) = inr (f h)
in_before s d (Given t b) (y ∷ r) es f h = f h
in_before s d (Dry t) (y ∷ r) es f h = f h
in_before s d (Round n) (y ∷ r) es f h = f h
in_before s d Fault (y ∷ r) es f h = f h

due_was_sent : (s : Side) (d : List ℕ) (es : List Event) → In d (sent_by s (up_to_round es)) → In d (sent_by s es)
due_was_sent s d [] h = h
due_was_sent s d (Round n ∷ es) h = due_was_sent s d es h
due_was_sent s d (Sent t b ∷ es) h = in_before s d (Sent t b) (up_to_round es) es (due_was_sent s d es) h
due_was_sent s d (Given t b ∷ es) h = in_before s d (Given t b) (up_to_round es) es (due_was_sent s d es) h
due_was_sent s d (Dry t ∷ es) h = in_before s d (Dry t) (up_to_round es) es (due_was_sent s d es) h
due_was_sent s d (Fault ∷ es) h = in_before s d Fault (up_to_round es) es (due_was_sent s d es) h

-- a prompt link is honest
pub prompt_is_honest : (es : List Event) → IsPrompt es → IsHonest es
prompt_is_honest es p before after s d e =
    let g = p.given before after s d e in
    due_was_sent (other s) d before (subst (λ (z : List (List ℕ)). In d z) (sym g.1) (in_right d (given_to s before) (d ∷ g.0) (inl refl)))

-- whole turns have one round each
pub moments_of-append : (es fs : List Event) → moments_of (es ++ fs) ≡ moments_of es ++ moments_of fs
moments_of-append [] fs = refl
moments_of-append (Round n ∷ es) fs = ap (λ (z : List ℕ). n ∷ z) (moments_of-append es fs)
moments_of-append (Sent t d ∷ es) fs = moments_of-append es fs
moments_of-append (Given t d ∷ es) fs = moments_of-append es fs
moments_of-append (Dry t ∷ es) fs = moments_of-append es fs
moments_of-append (Fault ∷ es) fs = moments_of-append es fs

no_moment_given : (s : Side) (ds : List (List ℕ)) → moments_of (map (λ (d : List ℕ). Given s d) ds) ≡ []
no_moment_given s [] = refl
no_moment_given s (d ∷ ds) = no_moment_given s ds

no_moment_sent : (s : Side) (ds : List (List ℕ)) → moments_of (map (λ (d : List ℕ). Sent s d) ds) ≡ []
no_moment_sent s [] = refl
no_moment_sent s (d ∷ ds) = no_moment_sent s ds

no_moment_taken : (s : Side) (es : List Event) → IsIntake s es → moments_of es ≡ []
no_moment_taken s es (full ds l e) = ap moments_of e ∙ no_moment_given s ds
no_moment_taken s es (until_dry ds l e) =
    ap moments_of e ∙ moments_of-append (map (λ (d : List ℕ). Given s d) ds) (Dry s ∷ []) ∙ ap (λ (z : List ℕ). z ++ []) (no_moment_given s ds)

turn_moments : (es : List Event) (t : IsWholeTurn es) → moments_of es ≡ t.moment ∷ []
turn_moments es t =
    let a = no_moment_taken Client t.to_client t.client_takes in
    let b = no_moment_taken Server t.to_server t.server_takes in
    let c : moments_of t.by_client ≡ [] = ap moments_of t.client_sends.is ∙ no_moment_sent Client t.client_sends.sent in
    let d : moments_of t.by_server ≡ [] = ap moments_of t.server_sends.is ∙ no_moment_sent Server t.server_sends.sent in
    ap moments_of t.is ∙ ap (λ (z : List ℕ). t.moment ∷ z)
    (moments_of-append t.to_client (t.to_server ++ (t.by_client ++ t.by_server))
    ∙ ap (λ (z : List ℕ). z ++ moments_of (t.to_server ++ (t.by_client ++ t.by_server))) a
    ∙ moments_of-append t.to_server (t.by_client ++ t.by_server)
    ∙ ap (λ (z : List ℕ). z ++ moments_of (t.by_client ++ t.by_server)) b
    ∙ moments_of-append t.by_client t.by_server
    ∙ ap (λ (z : List ℕ). z ++ moments_of t.by_server) c ∙ d)

pub turns_have_rounds : (n : ℕ) (es : List Event) → AreWholeTurns n es → length (moments_of es) ≡ n
turns_have_rounds zero es t = ap (λ (z : List Event). length (moments_of z)) t
turns_have_rounds (suc n) es t =
    let here = ap length (turn_moments t.0 t.3) in
    let later = turns_have_rounds n t.1 t.4 in
    let whole = ap (λ (z : List Event). length (moments_of z)) t.2 ∙ ap length (moments_of-append t.0 t.1) in
    omega (arith, here, later, whole, length-append (moments_of t.0) (moments_of t.1))
