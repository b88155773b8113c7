-- What the wire saw, and what a link tells of a side, of two lists, one behind the other.
use Rattle.std.proofs.Common.{◌≡◌, Bool, true, false, List, [], ◌∷◌, ◌++◌, ℕ, refl, sym, ◌∙◌, ap, subst, append_assoc, append-nil}
use Rattle.std.proofs.lemmas.List.Elements.{filter-append}
use Rattle.qh_link.specs.Link.{fault_events}
use Rattle.qh_link.specs.declared.link.LinkFault.{LinkFault}
use Rattle.qh_link.specs.declared.link.LinkFault.TheVariants.{Failed, Memory}
use Rattle.qh_roles.specs.Streams.{AreCalls}
use Rattle.qh_spec.specs.Link.{if_same_side, other, given_to, sent_by}
use Rattle.qh_spec.specs.Lists.{In}
use Rattle.qh_spec.specs.Transcript.{Act, HandedIn, HandedOut, Wrote, Finished, Reset, Stopped, ReadBytes, ReadEnd, ReadReset, handed_in, handed_out}
use Rattle.qh_spec.specs.declared.link.Event.{Event}
use Rattle.qh_spec.specs.declared.link.Event.TheVariants.{Sent, Given, Dry, Round, Fault}
use Rattle.qh_spec.specs.declared.sides.Side.{Side}
use Rattle.qh_spec.specs.declared.sides.Side.TheVariants.{Client, Server}
use Rattle.qh_spec.proofs.Members.{in_left}
use Rattle.qh_spec.proofs.TranscriptLaws.{handed_in-append, handed_out-append}
use Rattle.qh_pair.specs.Pair.{IsTold, IsToldIf, all, unsent, is_wire, told_acts, wire}

-- ---- one list behind the other

pub wire-append : (t u : List Act) → wire (t ++ u) ≡ wire t ++ wire u
wire-append t u = filter-append is_wire t u

same_side-append : (s t : Side) (a : Act) (x y : List Act) → if_same_side s t (a ∷ (x ++ y)) (x ++ y) ≡ if_same_side s t (a ∷ x) x ++ y
same_side-append Client Client a x y = refl
same_side-append Client Server a x y = refl
same_side-append Server Client a x y = refl
same_side-append Server Server a x y = refl

pub told_acts-append : (s : Side) (es fs : List Event) → told_acts s (es ++ fs) ≡ told_acts s es ++ told_acts s fs
told_acts-append s [] fs = refl
told_acts-append s (Sent t d ∷ es) fs =
    ap (λ (z : List Act). if_same_side s t (HandedOut d ∷ z) z) (told_acts-append s es fs) ∙ same_side-append s t (HandedOut d) (told_acts s es) (told_acts s fs)
told_acts-append s (Given t d ∷ es) fs =
    ap (λ (z : List Act). if_same_side s t (HandedIn d ∷ z) z) (told_acts-append s es fs) ∙ same_side-append s t (HandedIn d) (told_acts s es) (told_acts s fs)
told_acts-append s (Dry t ∷ es) fs = told_acts-append s es fs
told_acts-append s (Round n ∷ es) fs = told_acts-append s es fs
told_acts-append s (Fault ∷ es) fs = told_acts-append s es fs

-- where both are so, so are the two one behind the other
pub wire_is_told : (s : Side) (x y : List Event) (t u : List Act) → wire t ≡ told_acts s x → wire u ≡ told_acts s y → wire (t ++ u) ≡ told_acts s (x ++ y)
wire_is_told s x y t u e f =
    wire-append t u ∙ (ap (λ (z : List Act). z ++ wire u) e ∙ (ap (λ (z : List Act). told_acts s x ++ z) f ∙ sym (told_acts-append s x y)))

is_told-append : (s : Side) (x y : List Event) (t u : List Act) → wire t ≡ told_acts s x → IsTold s y u → IsTold s (x ++ y) (t ++ u)
is_told-append s x y t u e (all f) = all (wire_is_told s x y t u e f)
is_told-append s x y t u e (unsent d f) =
    unsent d
    (wire-append t u
    ∙ (ap (λ (z : List Act). wire t ++ z) f
    ∙ (sym (append_assoc (wire t) (told_acts s y) (HandedOut d ∷ []))
    ∙ ap (λ (z : List Act). z ++ HandedOut d ∷ []) (ap (λ (z : List Act). z ++ told_acts s y) e ∙ sym (told_acts-append s x y)))))

-- whole, and then whole or nearly so
pub told_if-append : (is_whole : Bool) (s : Side) (x y : List Event) (t u : List Act) → wire t ≡ told_acts s x → IsToldIf is_whole s y u → IsToldIf is_whole s (x ++ y) (t ++ u)
told_if-append true s x y t u e f = wire_is_told s x y t u e f
told_if-append false s x y t u e f = is_told-append s x y t u e f

-- what is whole is nearly so
pub told_weaker : (is_whole : Bool) (s : Side) (x : List Event) (t : List Act) → wire t ≡ told_acts s x → IsToldIf is_whole s x t
told_weaker true s x t e = e
told_weaker false s x t e = all e

pub told_nearly : (is_whole : Bool) (s : Side) (x : List Event) (t : List Act) → IsToldIf is_whole s x t → IsTold s x t
told_nearly true s x t e = all e
told_nearly false s x t e = e

-- ---- calls on streams, which the wire doesn't see

pub calls_off : (t : List Act) → AreCalls t → wire t ≡ []
calls_off [] c = refl
calls_off (HandedIn d ∷ t) c = let e : d ∷ handed_in t ≡ [] = c.0 in cc
calls_off (HandedOut d ∷ t) c = let e : d ∷ handed_out t ≡ [] = c.1 in cc
calls_off (Wrote s b ∷ t) c = calls_off t c
calls_off (Finished s ∷ t) c = calls_off t c
calls_off (Reset s k ∷ t) c = calls_off t c
calls_off (Stopped s k ∷ t) c = calls_off t c
calls_off (ReadBytes s o b ∷ t) c = calls_off t c
calls_off (ReadEnd s ∷ t) c = calls_off t c
calls_off (ReadReset s k ∷ t) c = calls_off t c

pub wire-calls : (t u : List Act) → AreCalls u → wire (t ++ u) ≡ wire t
wire-calls t u c = wire-append t u ∙ (ap (λ (z : List Act). wire t ++ z) (calls_off u c) ∙ append-nil (wire t))

is_told_same : (s : Side) (x y : List Event) (t u : List Act) → told_acts s y ≡ told_acts s x → wire u ≡ wire t → IsTold s x t → IsTold s y u
is_told_same s x y t u e f (all g) = all (f ∙ (g ∙ sym e))
is_told_same s x y t u e f (unsent d g) = unsent d (f ∙ (g ∙ ap (λ (z : List Act). z ++ HandedOut d ∷ []) (sym e)))

-- it speaks of the wire and of what is told alone
pub told_same : (is_whole : Bool) (s : Side) (x y : List Event) (t u : List Act) → told_acts s y ≡ told_acts s x → wire u ≡ wire t → IsToldIf is_whole s x t → IsToldIf is_whole s y u
told_same true s x y t u e f g = f ∙ (g ∙ sym e)
told_same false s x y t u e f g = is_told_same s x y t u e f g

pub told_calls : (is_whole : Bool) (s : Side) (x : List Event) (t u : List Act) → AreCalls u → IsToldIf is_whole s x t → IsToldIf is_whole s x (t ++ u)
told_calls is_whole s x t u c g = told_same is_whole s x x t (t ++ u) refl (wire-calls t u c) g

-- events that tell nothing of a side
pub told_acts-silent : (s : Side) (x y : List Event) → told_acts s y ≡ [] → told_acts s (x ++ y) ≡ told_acts s x
told_acts-silent s x y e = told_acts-append s x y ∙ (ap (λ (z : List Act). told_acts s x ++ z) e ∙ append-nil (told_acts s x))

pub told_silent : (is_whole : Bool) (s : Side) (x y : List Event) (t : List Act) → told_acts s y ≡ [] → IsToldIf is_whole s x t → IsToldIf is_whole s (x ++ y) t
told_silent is_whole s x y t e g = told_same is_whole s x (x ++ y) t t (told_acts-silent s x y e) refl g

-- ---- what a link tells of a side, one event at a time

pub told_given : (s : Side) (d : List ℕ) → told_acts s (Given s d ∷ []) ≡ HandedIn d ∷ []
told_given Client d = refl
told_given Server d = refl

pub told_sent : (s : Side) (d : List ℕ) → told_acts s (Sent s d ∷ []) ≡ HandedOut d ∷ []
told_sent Client d = refl
told_sent Server d = refl

pub silent_given : (s : Side) (d : List ℕ) → told_acts (other s) (Given s d ∷ []) ≡ []
silent_given Client d = refl
silent_given Server d = refl

pub silent_sent : (s : Side) (d : List ℕ) → told_acts (other s) (Sent s d ∷ []) ≡ []
silent_sent Client d = refl
silent_sent Server d = refl

pub silent_fault : (s : Side) (e : LinkFault) → told_acts s (fault_events e) ≡ []
silent_fault s Failed = refl
silent_fault s Memory = refl

-- ---- the datagrams of both

pub handed_in-wire : (t : List Act) → handed_in (wire t) ≡ handed_in t
handed_in-wire [] = refl
handed_in-wire (HandedIn d ∷ t) = ap (λ (z : List (List ℕ)). d ∷ z) (handed_in-wire t)
handed_in-wire (HandedOut d ∷ t) = handed_in-wire t
handed_in-wire (Wrote s b ∷ t) = handed_in-wire t
handed_in-wire (Finished s ∷ t) = handed_in-wire t
handed_in-wire (Reset s k ∷ t) = handed_in-wire t
handed_in-wire (Stopped s k ∷ t) = handed_in-wire t
handed_in-wire (ReadBytes s o b ∷ t) = handed_in-wire t
handed_in-wire (ReadEnd s ∷ t) = handed_in-wire t
handed_in-wire (ReadReset s k ∷ t) = handed_in-wire t

pub handed_out-wire : (t : List Act) → handed_out (wire t) ≡ handed_out t
handed_out-wire [] = refl
handed_out-wire (HandedIn d ∷ t) = handed_out-wire t
handed_out-wire (HandedOut d ∷ t) = ap (λ (z : List (List ℕ)). d ∷ z) (handed_out-wire t)
handed_out-wire (Wrote s b ∷ t) = handed_out-wire t
handed_out-wire (Finished s ∷ t) = handed_out-wire t
handed_out-wire (Reset s k ∷ t) = handed_out-wire t
handed_out-wire (Stopped s k ∷ t) = handed_out-wire t
handed_out-wire (ReadBytes s o b ∷ t) = handed_out-wire t
handed_out-wire (ReadEnd s ∷ t) = handed_out-wire t
handed_out-wire (ReadReset s k ∷ t) = handed_out-wire t

pub handed_in-told : (s : Side) (es : List Event) → handed_in (told_acts s es) ≡ given_to s es
handed_in-told s [] = refl
handed_in-told Client (Sent Client d ∷ es) = handed_in-told Client es
handed_in-told Client (Sent Server d ∷ es) = handed_in-told Client es
handed_in-told Server (Sent Client d ∷ es) = handed_in-told Server es
handed_in-told Server (Sent Server d ∷ es) = handed_in-told Server es
handed_in-told Client (Given Client d ∷ es) = ap (λ (z : List (List ℕ)). d ∷ z) (handed_in-told Client es)
handed_in-told Client (Given Server d ∷ es) = handed_in-told Client es
handed_in-told Server (Given Client d ∷ es) = handed_in-told Server es
handed_in-told Server (Given Server d ∷ es) = ap (λ (z : List (List ℕ)). d ∷ z) (handed_in-told Server es)
handed_in-told s (Dry t ∷ es) = handed_in-told s es
handed_in-told s (Round n ∷ es) = handed_in-told s es
handed_in-told s (Fault ∷ es) = handed_in-told s es

pub handed_out-told : (s : Side) (es : List Event) → handed_out (told_acts s es) ≡ sent_by s es
handed_out-told s [] = refl
handed_out-told Client (Sent Client d ∷ es) = ap (λ (z : List (List ℕ)). d ∷ z) (handed_out-told Client es)
handed_out-told Client (Sent Server d ∷ es) = handed_out-told Client es
handed_out-told Server (Sent Client d ∷ es) = handed_out-told Server es
handed_out-told Server (Sent Server d ∷ es) = ap (λ (z : List (List ℕ)). d ∷ z) (handed_out-told Server es)
handed_out-told Client (Given Client d ∷ es) = handed_out-told Client es
handed_out-told Client (Given Server d ∷ es) = handed_out-told Client es
handed_out-told Server (Given Client d ∷ es) = handed_out-told Server es
handed_out-told Server (Given Server d ∷ es) = handed_out-told Server es
handed_out-told s (Dry t ∷ es) = handed_out-told s es
handed_out-told s (Round n ∷ es) = handed_out-told s es
handed_out-told s (Fault ∷ es) = handed_out-told s es

-- what is the same on the wire has the same datagrams
same_in : (s : Side) (es : List Event) (t u : List Act) → wire t ++ u ≡ told_acts s es → handed_in t ++ handed_in u ≡ given_to s es
same_in s es t u e =
    ap (λ (z : List (List ℕ)). z ++ handed_in u) (sym (handed_in-wire t)) ∙ (sym (handed_in-append (wire t) u) ∙ (ap handed_in e ∙ handed_in-told s es))

same_out : (s : Side) (es : List Event) (t u : List Act) → wire t ≡ told_acts s es ++ u → handed_out t ≡ sent_by s es ++ handed_out u
same_out s es t u e =
    sym (handed_out-wire t) ∙ (ap handed_out e ∙ (handed_out-append (told_acts s es) u ∙ ap (λ (z : List (List ℕ)). z ++ handed_out u) (handed_out-told s es)))

pub whole_in : (s : Side) (es : List Event) (t : List Act) → wire t ≡ told_acts s es → handed_in t ≡ given_to s es
whole_in s es t e = sym (handed_in-wire t) ∙ (ap handed_in e ∙ handed_in-told s es)

pub whole_out : (s : Side) (es : List Event) (t : List Act) → wire t ≡ told_acts s es → handed_out t ≡ sent_by s es
whole_out s es t e = sym (handed_out-wire t) ∙ (ap handed_out e ∙ handed_out-told s es)

-- what was handed in was given
pub told_was_given : (s : Side) (es : List Event) (t : List Act) → IsTold s es t → (d : List ℕ) → In d (handed_in t) → In d (given_to s es)
told_was_given s es t (all e) d i = subst (λ (z : List (List ℕ)). In d z) (whole_in s es t e) i
told_was_given s es t (unsent x e) d i =
    subst (λ (z : List (List ℕ)). In d z)
    (ap handed_in e ∙ (handed_in-append (told_acts s es) (HandedOut x ∷ []) ∙ (append-nil (handed_in (told_acts s es)) ∙ handed_in-told s es)))
    (subst (λ (z : List (List ℕ)). In d z) (sym (handed_in-wire t)) i)

-- what was sent was handed out
pub sent_was_told : (s : Side) (es : List Event) (t : List Act) → IsTold s es t → (d : List ℕ) → In d (sent_by s es) → In d (handed_out t)
sent_was_told s es t (all e) d i = subst (λ (z : List (List ℕ)). In d z) (sym (whole_out s es t e)) i
sent_was_told s es t (unsent x e) d i =
    subst (λ (z : List (List ℕ)). In d z) (sym (same_out s es t (HandedOut x ∷ []) e)) (in_left d (sent_by s es) (x ∷ []) i)
