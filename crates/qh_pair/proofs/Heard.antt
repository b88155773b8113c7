-- The datagrams of an end that count, of two lists of events, one behind the other.
use Rattle.std.proofs.Common.{◌≡◌, ◌⊎◌, inl, inr, ◌≤◌, List, [], ◌∷◌, ◌++◌, ℕ, refl, sym, ◌∙◌, ap, subst, append_assoc, arith}
use Rattle.qh_base.specs.declared.time.Moment.{Moment}
use Rattle.qh_conduct.specs.Restarting.{IsCounting}
use Rattle.qh_peers.specs.Greets.{IsGreeting}
use Rattle.qh_spec.specs.Honest.{IsHonest}
use Rattle.qh_spec.specs.Link.{given_to, moments_of, other, sent_by}
use Rattle.qh_spec.specs.Lists.{In}
use Rattle.qh_spec.specs.Transcript.{Act, handed_in, handed_out}
use Rattle.qh_spec.specs.declared.link.Event.{Event}
use Rattle.qh_spec.specs.declared.link.Event.TheVariants.{Given}
use Rattle.qh_spec.specs.declared.sides.Side.{Side}
use Rattle.qh_spec.specs.declared.sides.Side.TheVariants.{Client, Server}
use Rattle.qh_spec.proofs.EventLaws.{given_to-append, moments_of-append}
use Rattle.qh_spec.proofs.Members.{in_left, in_right}
use Rattle.qh_pair.specs.EndCalls.{IsUndisturbedBy}
use Rattle.qh_pair.specs.Ends.{End}
use Rattle.qh_pair.specs.Pair.{told_acts}
use Rattle.qh_pair.specs.Sound.{AreBy, AtCounting, IsGreetedBehind, WasGreeted, last_of}
use Rattle.qh_pair.proofs.Wire.{handed_in-told, handed_out-told}

-- a list that is cut is cut in its front, or behind it
pub cut_either : {X : Type 0} (xs ys before after : List X) (e : X) → xs ++ ys ≡ before ++ e ∷ after
    → ((rest : List X) × (xs ≡ before ++ e ∷ rest)) ⊎ ((front : List X) × (before ≡ xs ++ front) × (ys ≡ front ++ e ∷ after))
cut_either [] ys before after e is = inr (before, refl, is)
cut_either (x ∷ xs) ys [] after e is = inl (xs, let same : x ≡ e = cc in cc)
cut_either (x ∷ xs) ys (b ∷ before) after e is =
    let same : x ≡ b = cc in
    let rest : xs ++ ys ≡ before ++ e ∷ after = cc in
    elim (cut_either xs ys before after e rest) [
      | inl r ↦ inl (r.0, let f : xs ≡ before ++ e ∷ r.0 = r.1 in cc)
      | inr r ↦ inr (r.0, (let f : before ≡ xs ++ r.0 = r.1 in cc), r.2)
    ]

-- ---- honest links, and moments

pub honest_front : (events more : List Event) → IsHonest (events ++ more) → IsHonest events
honest_front events more h = λ before after s d e. h before (after ++ more) s d (ap (λ (z : List Event). z ++ more) e ∙ append_assoc before (Given s d ∷ after) more)

pub by_front : (now : ℕ) (events more : List Event) → AreBy now (events ++ more) → AreBy now events
by_front now events more h = λ m i. h m
    (subst (λ (z : List ℕ). In m z) (sym (moments_of-append events more)) (in_left m (moments_of events) (moments_of more) i))

pub by_behind : (now : ℕ) (earlier events : List Event) → AreBy now (earlier ++ events) → AreBy now events
by_behind now earlier events h = λ m i. h m
    (subst (λ (z : List ℕ). In m z) (sym (moments_of-append earlier events)) (in_right m (moments_of earlier) (moments_of events) i))

last_in : (ms : List ℕ) → (last_of ms ≡ 0) ⊎ In (last_of ms) ms
last_in [] = inl refl
last_in (m ∷ []) = inr (inl refl)
last_in (m ∷ n ∷ ns) = elim (last_in (n ∷ ns)) [ inl e ↦ inl e | inr i ↦ inr (inr i) ]

last_by : (now : ℕ) (events : List Event) → AreBy now events → last_of (moments_of events) ≤ now
last_by now events h = elim (last_in (moments_of events)) [ inl e ↦ omega (arith, e) | inr i ↦ h (last_of (moments_of events)) i ]

pub last_more : (ms : List ℕ) (m : ℕ) → last_of (ms ++ m ∷ []) ≡ m
last_more [] m = refl
last_more (n ∷ []) m = refl
last_more (n ∷ k ∷ ms) m = last_more (k ∷ ms) m

-- ---- events that tell nothing of a side

pub silent_given_to : (s : Side) (es : List Event) → told_acts s es ≡ [] → given_to s es ≡ []
silent_given_to s es e = sym (handed_in-told s es) ∙ ap handed_in e

pub silent_sent_by : (s : Side) (es : List Event) → told_acts s es ≡ [] → sent_by s es ≡ []
silent_sent_by s es e = sym (handed_out-told s es) ∙ ap handed_out e

given_first : (s : Side) (d : List ℕ) (es : List Event) → In d (given_to s (Given s d ∷ es))
given_first Client d es = inl refl
given_first Server d es = inl refl

none_given : (s : Side) (events before after : List Event) (d : List ℕ) → given_to s events ≡ [] → events ≡ before ++ Given s d ∷ after → ⊥
none_given s events before after d none e =
    subst (λ (z : List (List ℕ)). In d z) (sym (given_to-append s before (Given s d ∷ after)) ∙ (ap (given_to s) (sym e) ∙ none))
    (in_right d (given_to s before) (given_to s (Given s d ∷ after)) (given_first s d after))

-- ---- datagrams that greet

pub greeted_none : (k : ℕ) (side : Side) (came : List (List ℕ)) (events : List Event) → given_to side events ≡ [] → IsGreetedBehind k side came events → ⊥
greeted_none k side came events none w = none_given side events w.before w.after w.datagram none w.are

-- one that was given came among the old ones, or among the new ones
pub greeted_either : (k : ℕ) (side : Side) (events more : List Event) → WasGreeted k side (events ++ more) → WasGreeted k side events ⊎ IsGreetedBehind k side (given_to side events) more
greeted_either k side events more w = elim (cut_either events more w.before w.after (Given side w.datagram) w.are) [
  | inl r ↦ inl (record { before = w.before; after = r.0; datagram = w.datagram; are = r.1; greets = w.greets })
  | inr r ↦
      let greets = subst (λ (z : List (List ℕ)). IsGreeting k (other side) z w.datagram) (ap (given_to side) r.1 ∙ given_to-append side events r.0) w.greets in
      inr (record { before = r.0; after = w.after; datagram = w.datagram; are = r.2; greets = greets })
]

-- ---- datagrams that count

pub counting_none : (k : ℕ) (side : Side) (events : List Event) (P : ℕ → Type 0) → given_to side events ≡ [] → AtCounting k side events P
counting_none k side events P none = λ before after d is counts. absurd (none_given side events before after d none is)

-- what held at each datagram that counted holds still, and at each of the new ones
counting_more : (k : ℕ) (side : Side) (events more : List Event) (P : ℕ → Type 0) → AtCounting k side events P
    → ((before after : List Event) (d : List ℕ) → more ≡ before ++ Given side d ∷ after → IsCounting k (other side) (given_to side events ++ given_to side before) d
    → P (last_of (moments_of (events ++ before)))) → AtCounting k side (events ++ more) P
counting_more k side events more P old new = λ before after d is counts.
    elim (cut_either events more before after (Given side d) is) [
      | inl r ↦ old before r.0 d r.1 counts
      | inr r ↦
          subst (λ (z : List Event). P (last_of (moments_of z))) (sym r.1)
          (new r.0 after d r.2
          (subst (λ (z : List (List ℕ)). IsCounting k (other side) z d) (ap (given_to side) r.1 ∙ given_to-append side events r.0) counts))
    ]

pub counting_silent : (k : ℕ) (side : Side) (events more : List Event) (P : ℕ → Type 0) → given_to side more ≡ [] → AtCounting k side events P → AtCounting k side (events ++ more) P
counting_silent k side events more P none old =
    counting_more k side events more P old (λ before after d is counts. absurd (none_given side more before after d none is))

-- the idle time began no earlier than the last that counts
pub heard_on : (k : ℕ) (side : Side) (now : Moment) (c d : End) (events more : List Event) (t : List Act) → handed_in t ≡ given_to side events → AreBy now.0 (events ++ more)
    → IsUndisturbedBy now c d → AtCounting k side events (λ m. m ≤ c.core.idle.since.0)
    → ((before after : List Event) (x : List ℕ) → more ≡ before ++ Given side x ∷ after → IsCounting k (other side) (handed_in t ++ given_to side before) x → d.core.idle.since ≡ now)
    → AtCounting k side (events ++ more) (λ m. m ≤ d.core.idle.since.0)
heard_on k side now c d events more t given by runs old new =
    counting_more k side events more (λ (m : ℕ). m ≤ d.core.idle.since.0)
    (λ before after x is counts.
    let here = old before after x is counts in
    let late : last_of (moments_of before) ≤ now.0
    = last_by now.0 before (by_front now.0 before (Given side x ∷ after) (subst (λ (z : List Event). AreBy now.0 z) is (by_front now.0 events more by))) in
    elim runs.since [
      | inl e ↦ subst (λ (z : Moment). last_of (moments_of before) ≤ z.0) (sym e) here
      | inr e ↦ subst (λ (z : Moment). last_of (moments_of before) ≤ z.0) (sym e) late
    ])
    (λ before after x is counts.
    let restarted : d.core.idle.since ≡ now
    = new before after x is (subst (λ (z : List (List ℕ)). IsCounting k (other side) (z ++ given_to side before) x) (sym given) counts) in
    let late : last_of (moments_of (events ++ before)) ≤ now.0
    = last_by now.0 (events ++ before) (by_front now.0 (events ++ before) (Given side x ∷ after)
    (subst (λ (z : List Event). AreBy now.0 z) (ap (λ (z : List Event). events ++ z) is ∙ sym (append_assoc events before (Given side x ∷ after))) by)) in
    subst (λ (z : Moment). last_of (moments_of (events ++ before)) ≤ z.0) (sym restarted) late)

-- of an end that came to be meanwhile
pub heard_first : (k : ℕ) (side : Side) (now : Moment) (d : End) (events more : List Event) → d.core.idle.since ≡ now → AreBy now.0 (events ++ more) → AtCounting k side (events ++ more) (λ m. m ≤ d.core.idle.since.0)
heard_first k side now d events more since by = λ before after x is counts.
    subst (λ (z : Moment). last_of (moments_of before) ≤ z.0) (sym since)
    (last_by now.0 before (by_front now.0 before (Given side x ∷ after) (subst (λ (z : List Event). AreBy now.0 z) is by)))
