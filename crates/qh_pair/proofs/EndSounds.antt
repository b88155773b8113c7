-- An end that is given only what its peer sent stays sound.
use Rattle.std.proofs.Common.{◌≡◌, ◌⊎◌, inl, inr, ◌≤◌, Bool, true, false, List, [], ◌∷◌, ◌++◌, ℕ, Option, Some, None, refl, sym, ◌∙◌, ap, subst, append_assoc, append-nil, arith, length, length-append}
use Rattle.qh_base.specs.declared.time.Moment.{Moment}
use Rattle.qh_conduct.specs.Restarting.{IsCounting}
use Rattle.qh_conn.specs.Same.{IsSameConnection}
use Rattle.qh_conn.specs.Whole.{IsWhole}
use Rattle.qh_conn.specs.declared.config.ConnConfig.{ConnConfig}
use Rattle.qh_handshake.specs.GoesOn.{GoesOn}
use Rattle.qh_handshake.specs.Peers.{KnowsIds}
use Rattle.qh_handshake.specs.declared.handshake.Handshake.{Handshake}
use Rattle.qh_hello.specs.declared.transport_parameters.TransportParameters.{TransportParameters}
use Rattle.qh_packet.specs.Session.{PlainKeys, plain_accepts, plain_sealed}
use Rattle.qh_peers.proofs.GreetSealed.{quiet_sealed}
use Rattle.qh_peers.specs.Ends.{AreTwoEnds, ComesFromOrRetry, IsHonestEnd}
use Rattle.qh_peers.specs.Greets.{AreInitialsSealed, CanBeGreeted, IsGreeting}
use Rattle.qh_spec.proofs.EventLaws.{given_to-append}
use Rattle.qh_spec.proofs.Members.{in_left, in_right, in_split}
use Rattle.qh_spec.proofs.TranscriptLaws.{handed_in-append, handed_out-append}
use Rattle.qh_spec.specs.Link.{given_to, other}
use Rattle.qh_spec.specs.Lists.{In}
use Rattle.qh_spec.specs.Tag.{tag_bytes}
use Rattle.qh_spec.specs.Transcript.{Act, HandedIn, handed_in, handed_out}
use Rattle.qh_spec.specs.declared.link.Event.{Event}
use Rattle.qh_spec.specs.declared.link.Event.TheVariants.{Given}
use Rattle.qh_spec.specs.declared.sides.Side.{Side}
use Rattle.qh_spec.specs.declared.sides.Side.TheVariants.{Client, Server}
use Rattle.qh_pair.specs.EndCalls.{KeepsGreetable, KeepsHonest}
use Rattle.qh_pair.specs.Ends.{End, key_of, own_id}
use Rattle.qh_pair.specs.Pair.{told_acts, wire}
use Rattle.qh_pair.specs.Sound.{AreGreetable, AreSoundEnds, AreTwo, IsAlone, IsFirst, IsGreetedAt}
use Rattle.qh_pair.specs.Steps.{IsNewEnd, IsRestartedAt, IsTakenFrom, KeepsSound, StaysSound, TakesFrom}
use Rattle.qh_pair.specs.declared.ends.Ids.{Ids}
use Rattle.qh_pair.proofs.EndMade.{stays}
use Rattle.qh_pair.proofs.Wire.{handed_in-told, handed_in-wire}

-- the key of a session is short
pub key_short : (key : List ℕ) (s r : PlainKeys) → key ≡ s.key_id → s ≡ r → length key ≤ 20 → length r.key_id ≤ 20
key_short key s r e same short = subst (λ (z : List ℕ). length z ≤ 20) (e ∙ ap (λ (z : PlainKeys). z.key_id) same) short

pub other_twice : (s : Side) → other (other s) ≡ s
other_twice Client = refl
other_twice Server = refl

-- ---- where an event stands

-- an element of two lists stands in the first, or in the second
pub split_at : {X : Type 0} (x : X) (xs ys before after : List X) → xs ++ ys ≡ before ++ x ∷ after
    → ((rest : List X) × (xs ≡ before ++ x ∷ rest)) ⊎ ((front : List X) × (before ≡ xs ++ front) × (ys ≡ front ++ x ∷ after))
split_at x [] ys before after e = inr (before, refl, e)
split_at x (z ∷ xs) ys [] after e = inl (xs, cc)
split_at x (z ∷ xs) ys (w ∷ before) after e =
    let head : z ≡ w = cc in
    let tail : xs ++ ys ≡ before ++ x ∷ after = cc in
    elim (split_at x xs ys before after tail) [ inl r ↦ inl (r.0, cc (r.1, head)) | inr r ↦ inr (r.0, cc (r.1, head), r.2) ]

pub only_one : (x y : Event) (before after : List Event) → x ∷ [] ≡ before ++ y ∷ after → (before ≡ []) × (x ≡ y)
only_one x y [] after e = (refl, cc)
only_one x y (z ∷ before) after e = absurd (omega (arith, ap length e, length-append before (y ∷ after)))

pub given_here : (side : Side) (d : List ℕ) (after : List Event) → In d (given_to side (Given side d ∷ after))
given_here Client d after = inl refl
given_here Server d after = inl refl

pub was_given : (side : Side) (d : List ℕ) (more before after : List Event) → more ≡ before ++ Given side d ∷ after → In d (given_to side more)
was_given side d more before after e =
    subst (λ (z : List (List ℕ)). In d z) (sym (ap (given_to side) e ∙ given_to-append side before (Given side d ∷ after)))
    (in_right d (given_to side before) (given_to side (Given side d ∷ after)) (given_here side d after))

-- ---- two ends

-- the ids that one knows of the other are as they were
knows_on : (side : Side) (c d q : Handshake) → GoesOn c d → d.retry_id ≡ c.retry_id → KnowsIds c q side → KnowsIds d q side
knows_on Client c d q on retry k = (k.0 ∙ ap (λ (z : List ℕ). Some z) (sym on.original_id), k.1 ∙ sym retry)
knows_on Server c d q on retry k = tt

known_on : (side : Side) (c d q : Handshake) → GoesOn c d → KnowsIds q c side → KnowsIds q d side
known_on Client c d q on k =
    (ap (λ (z : TransportParameters). z.original_destination_connection_id) on.parameters ∙ k.0, ap (λ (z : TransportParameters). z.retry_source_connection_id) on.parameters ∙ k.1)
known_on Server c d q on k = tt

two_on : (hello peer_hello : List ℕ) (c d q : End) (t v u : List Act) → AreTwoEnds plain_accepts plain_sealed key_of hello peer_hello c q t u → IsHonestEnd plain_accepts plain_sealed hello d v
    → IsSameConnection key_of c d → d.handshake.retry_id ≡ c.handshake.retry_id → ComesFromOrRetry v u → ComesFromOrRetry u v → AreTwoEnds plain_accepts plain_sealed key_of hello peer_hello d q v u
two_on hello peer_hello c d q t v u two honest same retry came went = record {
  own = honest;
  peer = two.peer;
  sides = two.sides ∙ ap other (sym same.side);
  ids = subst (λ (z : Side). KnowsIds d.handshake q.handshake z) (sym same.side) (knows_on c.core.side c.handshake d.handshake q.handshake same.handshake retry two.ids);
  ids_back = known_on q.core.side c.handshake d.handshake q.handshake same.handshake two.ids_back;
  key_is = two.key_is ∙ sym (same.key_is retry);
  came = came;
  went = went;
}

two_turned : (hello peer_hello : List ℕ) (c q : End) (t u : List Act) → AreTwoEnds plain_accepts plain_sealed key_of hello peer_hello c q t u
    → AreTwoEnds plain_accepts plain_sealed key_of peer_hello hello q c u t
two_turned hello peer_hello c q t u two = record {
  own = two.peer;
  peer = two.own;
  sides = sym (other_twice c.core.side) ∙ ap other (sym two.sides);
  ids = two.ids_back;
  ids_back = two.ids;
  key_is = sym two.key_is;
  came = two.went;
  went = two.came;
}

-- what was handed out stays so
out_stays : (t acts u : List Act) → ComesFromOrRetry u t → ComesFromOrRetry u (t ++ acts)
out_stays t acts u went x i = elim (went x i) [
  | inl out ↦ inl (subst (λ (z : List (List ℕ)). In x z) (sym (handed_out-append t acts)) (in_left x (handed_out t) (handed_out acts) out))
  | inr retry ↦ inr retry
]

-- what came was handed out, and one more
in_came : (t u : List Act) (d : List ℕ) → ComesFromOrRetry t u → In d (handed_out u) → ComesFromOrRetry (t ++ HandedIn d ∷ []) u
in_came t u d came out x i =
    elim (in_split x (handed_in t) (d ∷ []) (subst (λ (z : List (List ℕ)). In x z) (handed_in-append t (HandedIn d ∷ [])) i)) [
      | inl a ↦ came x a
      | inr b ↦ inl (elim b as (λ _. In x (handed_out u)) [ inl e ↦ subst (λ (z : List ℕ). In z (handed_out u)) e out | inr none ↦ absurd none ])
    ]

in_none : (t acts u : List Act) → handed_in acts ≡ [] → ComesFromOrRetry t u → ComesFromOrRetry (t ++ acts) u
in_none t acts u none came x i = came x (subst (λ (z : List (List ℕ)). In x z) (handed_in-append t acts ∙ (ap (λ (z : List (List ℕ)). handed_in t ++ z) none ∙ append-nil (handed_in t))) i)

two_given : (hello peer_hello : List ℕ) (c d q : End) (t u : List Act) (x : List ℕ) → AreTwoEnds plain_accepts plain_sealed key_of hello peer_hello c q t u
    → IsHonestEnd plain_accepts plain_sealed hello d (t ++ HandedIn x ∷ []) → IsSameConnection key_of c d → d.handshake.retry_id ≡ c.handshake.retry_id → In x (handed_out u)
    → AreTwoEnds plain_accepts plain_sealed key_of hello peer_hello d q (t ++ HandedIn x ∷ []) u
two_given hello peer_hello c d q t u x two honest same retry i =
    two_on hello peer_hello c d q t (t ++ HandedIn x ∷ []) u two honest same retry (in_came t u x two.came i) (out_stays t (HandedIn x ∷ []) u two.went)

two_acted : (hello peer_hello : List ℕ) (c d q : End) (t u acts : List Act) → AreTwoEnds plain_accepts plain_sealed key_of hello peer_hello c q t u → KeepsHonest c d acts
    → IsSameConnection key_of c d → d.handshake.retry_id ≡ c.handshake.retry_id → handed_in acts ≡ [] → AreTwoEnds plain_accepts plain_sealed key_of hello peer_hello d q (t ++ acts) u
two_acted hello peer_hello c d q t u acts two honest same retry none =
    two_on hello peer_hello c d q t (t ++ acts) u two (honest hello t two.own) same retry (in_none t acts u none two.came) (out_stays t acts u two.went)

-- ---- two ends that can greet each other

-- a session with this key makes the same tags
sealed_on : (c d : End) (t : List Act) → key_of d.core.session ≡ key_of c.core.session → d.core.side ≡ c.core.side → AreInitialsSealed (plain_sealed c.core.session) c.core.side t
    → AreInitialsSealed (plain_sealed d.core.session) d.core.side t
sealed_on c d t key side s =
    subst (λ (z : Side). AreInitialsSealed (tag_bytes d.core.session.key_id) z t) (sym side)
    (subst (λ (z : List ℕ). AreInitialsSealed (tag_bytes z) c.core.side t) (sym key) s)

greetable_on : (c d q : End) (t v u : List Act) → IsSameConnection key_of c d → d.handshake.retry_id ≡ c.handshake.retry_id → CanBeGreeted d.handshake q.handshake → AreInitialsSealed (plain_sealed c.core.session) c.core.side v
    → AreGreetable c q t u → AreGreetable d q v u
greetable_on c d q t v u same retry can sealed g = record {
  own = can;
  peer = record { source = λ knows. g.peer.source knows ∙ sym same.handshake.local_id; space = g.peer.space };
  own_sealed = sealed_on c d v (same.key_is retry) same.side sealed;
  peer_sealed = g.peer_sealed;
}

pub both_turned : (c q : End) (t u : List Act) → AreTwo c q t u → AreTwo q c u t
both_turned c q t u two = record {
  hello = two.peer_hello;
  peer_hello = two.hello;
  ends = two_turned two.hello two.peer_hello c q t u two.ends;
  greets = record { own = two.greets.peer; peer = two.greets.own; own_sealed = two.greets.peer_sealed; peer_sealed = two.greets.own_sealed };
}

pub both_given : (c d q : End) (t u : List Act) (x : List ℕ) (two : AreTwo c q t u) → IsHonestEnd plain_accepts plain_sealed two.hello d (t ++ HandedIn x ∷ []) → IsSameConnection key_of c d
    → d.handshake.retry_id ≡ c.handshake.retry_id → CanBeGreeted d.handshake q.handshake → In x (handed_out u) → AreTwo d q (t ++ HandedIn x ∷ []) u
both_given c d q t u x two honest same retry can i = record {
  hello = two.hello;
  peer_hello = two.peer_hello;
  ends = two_given two.hello two.peer_hello c d q t u x two.ends honest same retry i;
  greets = greetable_on c d q t (t ++ HandedIn x ∷ []) u same retry can (quiet_sealed (plain_sealed c.core.session) c.core.side t (HandedIn x ∷ []) refl two.greets.own_sealed) two.greets;
}

-- ---- calls that hand no datagram in

-- what such calls leave of the names, and that they are a first datagram's of a client that is alone
pub record KeepsNames (c d : End) (acts : List Act) : Type 0 where
  pub same : IsSameConnection key_of c d
  pub whole : IsWhole d
  pub peer : d.handshake.peer ≡ c.handshake.peer
  pub retry : d.handshake.retry_id ≡ c.handshake.retry_id
  pub remote : d.handshake.remote_id ≡ c.handshake.remote_id
  pub none : handed_in acts ≡ []
  pub honest : KeepsHonest c d acts
  pub greets : KeepsGreetable c d acts

both_acted : (c d q : End) (t u acts : List Act) → KeepsNames c d acts → AreTwo c q t u → AreTwo d q (t ++ acts) u
both_acted c d q t u acts k two = record {
  hello = two.hello;
  peer_hello = two.peer_hello;
  ends = two_acted two.hello two.peer_hello c d q t u acts two.ends k.honest k.same k.retry k.none;
  greets = greetable_on c d q t (t ++ acts) u k.same k.retry (k.greets.can q.handshake two.greets.own) (k.greets.sealed t two.greets.own_sealed) two.greets;
}

alone_acted : (ids : Ids) (config : ConnConfig) (c d : End) (t acts : List Act) → KeepsNames c d acts → ((x : List ℕ) → In x (handed_out acts) → IsFirst ids x) → IsAlone ids config c t → IsAlone ids config d (t ++ acts)
alone_acted ids config c d t acts k firsts a = record {
  of = stays Client ids config c d k.same k.whole a.of;
  fits = a.fits;
  hello = a.hello;
  honest = k.honest a.hello t a.honest;
  key_is = k.same.key_is k.retry ∙ a.key_is;
  unretried = k.retry ∙ a.unretried;
  unknown = k.peer ∙ a.unknown;
  there = k.remote ∙ a.there;
  nothing = handed_in-append t acts ∙ (ap (λ (z : List (List ℕ)). z ++ handed_in acts) a.nothing ∙ k.none);
  firsts = λ x i. elim (in_split x (handed_out t) (handed_out acts) (subst (λ (z : List (List ℕ)). In x z) (handed_out-append t acts) i)) as (λ _. IsFirst ids x) [ inl l ↦ a.firsts x l | inr r ↦ firsts x r ];
  can = λ peer. k.greets.can peer (a.can peer);
  sealed = sealed_on c d (t ++ acts) (k.same.key_is k.retry) k.same.side (k.greets.sealed t a.sealed);
}

pub sound_acted : (side : Side) (ids : Ids) (config : ConnConfig) (c d : End) (peer : Option End) (t u acts : List Act) → KeepsNames c d acts
    → (side ≡ Client → IsAlone ids config c t → (x : List ℕ) → In x (handed_out acts) → IsFirst ids x)
    → AreSoundEnds side ids config (Some c) peer t u → AreSoundEnds side ids config (Some d) peer (t ++ acts) u
sound_acted Client ids config c d None t u acts k firsts s = (alone_acted ids config c d t acts k (firsts refl s.0) s.0, s.1)
sound_acted Client ids config c d (Some q) t u acts k firsts s = both_acted c d q t u acts k s
sound_acted Server ids config c d None t u acts k firsts s = absurd s
sound_acted Server ids config c d (Some q) t u acts k firsts s = both_turned d q (t ++ acts) u (both_acted c d q t u acts k (both_turned q c u t s))

-- ---- a datagram of the peer's

no_such : (x : List ℕ) (u : List Act) → u ≡ [] → In x (handed_out u) → ⊥
no_such x u none i = subst (λ (z : List Act). In x (handed_out z)) none i

-- the one datagram that was given counts, or greets, if one does
pub this_one : (K : ℕ → Side → List (List ℕ) → List ℕ → Type 0) (side : Side) (ids : Ids) (c q : End) (x g : List ℕ) (t : List Act) (before after : List Event) → length c.core.local_id ≡ length (own_id side ids)
    → c.core.side ≡ side → q.core.side ≡ other c.core.side → Given side x ∷ [] ≡ before ++ Given side g ∷ after → K (length (own_id side ids)) (other side) (handed_in t ++ given_to side before) g
    → K (length c.core.local_id) q.core.side (handed_in t) x
this_one K side ids c q x g t before after long is sides e counts =
    let one = only_one (Given side x) (Given side g) before after e in
    let which : x ≡ g = (let two : Given side x ≡ Given side g = one.1 in cc) in
    let came : handed_in t ++ given_to side before ≡ handed_in t = ap (λ (z : List Event). handed_in t ++ given_to side z) one.0 ∙ append-nil (handed_in t) in
    subst (λ (z : ℕ). K z q.core.side (handed_in t) x) (sym long)
    (subst (λ (z : List ℕ). K (length (own_id side ids)) q.core.side (handed_in t) z) (sym which)
    (subst (λ (z : Side). K (length (own_id side ids)) z (handed_in t) g) (ap other (sym is) ∙ sym sides)
    (subst (λ (z : List (List ℕ)). K (length (own_id side ids)) (other side) z g) came counts)))

pub sound_given : (now : Moment) (side : Side) (ids : Ids) (config : ConnConfig) (c d : End) (x : List ℕ) (t : List Act) → length c.core.local_id ≡ length (own_id side ids) → c.core.side ≡ side → TakesFrom now c d x
    → KeepsSound true now side ids config (Some c) (Some d) t (HandedIn x ∷ []) (Given side x ∷ [])
sound_given now Client ids config c d x t long is takes None u whole s given = absurd (no_such x u s.1 (given x (given_here Client x [])))
sound_given now Server ids config c d x t long is takes None u whole s given = absurd s
sound_given now Client ids config c d x t long is takes (Some q) u whole s given =
    let r = takes q t u s (given x (given_here Client x [])) in
    record {
      ends = r.ends;
      restarted = λ before after g e counts. r.restarted (this_one IsCounting Client ids c q x g t before after long is s.ends.sides e counts);
      greeted = λ w. r.greeted (this_one IsGreeting Client ids c q x w.datagram t w.before w.after long is s.ends.sides w.are w.greets);
    }
sound_given now Server ids config c d x t long is takes (Some q) u whole s given =
    let turned : AreTwo c q t u = both_turned q c u t s in
    let r : IsTakenFrom now c d q x t u = takes q t u turned (given x (given_here Server x [])) in
    record {
      ends = both_turned d q (t ++ HandedIn x ∷ []) u r.ends;
      restarted = λ before after g e counts. r.restarted (this_one IsCounting Server ids c q x g t before after long is turned.ends.sides e counts);
      greeted = λ w. r.greeted (this_one IsGreeting Server ids c q x w.datagram t w.before w.after long is turned.ends.sides w.are w.greets);
    }

-- ---- steps

-- where the call failed nothing is said
pub sound_failed : (now : Moment) (side : Side) (ids : Ids) (config : ConnConfig) (old new : Option End) (t acts : List Act) (more : List Event) → KeepsSound false now side ids config old new t acts more
sound_failed now side ids config old new t acts more peer u whole s given = cc

-- the end was given nothing
pub sound_ungiven : (now : Moment) (side : Side) (ids : Ids) (config : ConnConfig) (c d : End) (t acts : List Act) (more : List Event) → KeepsNames c d acts
    → (side ≡ Client → IsAlone ids config c t → (x : List ℕ) → In x (handed_out acts) → IsFirst ids x) → given_to side more ≡ []
    → KeepsSound true now side ids config (Some c) (Some d) t acts more
sound_ungiven now side ids config c d t acts more k firsts none peer u whole s given = record {
  ends = sound_acted side ids config c d peer t u acts k firsts s;
  restarted = λ before after g e counts. absurd (subst (λ (z : List (List ℕ)). In g z) none (was_given side g more before after e));
  greeted = λ w. absurd (subst (λ (z : List (List ℕ)). In w.datagram z) none (was_given side w.datagram more w.before w.after w.are));
}

-- nothing was done
pub sound_idle : (is_whole : Bool) (now : Moment) (side : Side) (ids : Ids) (config : ConnConfig) (o : Option End) (t : List Act) (more : List Event) → given_to side more ≡ []
    → KeepsSound is_whole now side ids config o o t [] more
sound_idle is_whole now side ids config o t more none peer u whole s given = record {
  ends = subst (λ (z : List Act). AreSoundEnds side ids config o peer z u) (sym (append-nil t)) s;
  restarted = λ before after g e counts. absurd (subst (λ (z : List (List ℕ)). In g z) none (was_given side g more before after e));
  greeted = λ w. absurd (subst (λ (z : List (List ℕ)). In w.datagram z) none (was_given side w.datagram more w.before w.after w.are));
}

-- what came before the second step, by the transcript and by the link
came_before : (side : Side) (tc acts : List Act) (x before front : List Event) → wire acts ≡ told_acts side x → before ≡ x ++ front
    → handed_in tc ++ given_to side before ≡ handed_in (tc ++ acts) ++ given_to side front
came_before side tc acts x before front told e =
    let by : handed_in acts ≡ given_to side x = sym (handed_in-wire acts) ∙ (ap handed_in told ∙ handed_in-told side x) in
    ap (λ (z : List Event). handed_in tc ++ given_to side z) e
    ∙ (ap (λ (z : List (List ℕ)). handed_in tc ++ z) (given_to-append side x front ∙ ap (λ (z : List (List ℕ)). z ++ given_to side front) (sym by))
    ∙ (sym (append_assoc (handed_in tc) (handed_in acts) (given_to side front)) ∙ ap (λ (z : List (List ℕ)). z ++ given_to side front) (sym (handed_in-append tc acts))))

-- one step behind another: a clock that was restarted runs from then, or from later in the same call, and an end that was greeted still is
pub sound_trans : (is_whole : Bool) (now : Moment) (side : Side) (ids : Ids) (config : ConnConfig) (a b c : Option End) (t f g : List Act) (x y : List Event) → (IsRestartedAt now b → IsRestartedAt now c)
    → (IsGreetedAt b → IsGreetedAt c) → wire f ≡ told_acts side x → KeepsSound true now side ids config a b t f x → KeepsSound is_whole now side ids config b c (t ++ f) g y → KeepsSound is_whole now side ids config a c t (f ++ g) (x ++ y)
sound_trans is_whole now side ids config a b c t f g x y runs knows told first second peer u whole s given =
    let in_first = λ (z : List ℕ) (i : In z (given_to side x)). given z (subst (λ (l : List (List ℕ)). In z l) (sym (given_to-append side x y)) (in_left z (given_to side x) (given_to side y) i)) in
    let in_second = λ (z : List ℕ) (i : In z (given_to side y)). given z (subst (λ (l : List (List ℕ)). In z l) (sym (given_to-append side x y)) (in_right z (given_to side x) (given_to side y) i)) in
    let one : StaysSound now side ids config b peer t f u x = first peer u refl s in_first in
    let two : StaysSound now side ids config c peer (t ++ f) g u y = second peer u whole one.ends in_second in
    record {
      ends = subst (λ (z : List Act). AreSoundEnds side ids config c peer z u) (append_assoc t f g) two.ends;
      restarted = λ before after d is counts. elim (split_at (Given side d) x y before after is) as (λ _. IsRestartedAt now c) [
        | inl r ↦ runs (one.restarted before r.0 d r.1 counts)
        | inr r ↦ two.restarted r.0 after d r.2 (subst (λ (z : List (List ℕ)). IsCounting (length (own_id side ids)) (other side) z d) (came_before side t f x before r.0 told r.1) counts)
      ];
      greeted = λ w. elim (split_at (Given side w.datagram) x y w.before w.after w.are) as (λ _. IsGreetedAt c) [
        | inl r ↦ knows (one.greeted (record { before = w.before; after = r.0; datagram = w.datagram; are = r.1; greets = w.greets }))
        | inr r ↦
            let greets = subst (λ (z : List (List ℕ)). IsGreeting (length (own_id side ids)) (other side) z w.datagram) (came_before side t f x w.before r.0 told r.1) w.greets in
            two.greeted (record { before = r.0; after = w.after; datagram = w.datagram; are = r.2; greets = greets })
      ];
    }

-- ---- the server's end opens

-- a client that is alone, and a server that is new, are two ends
pub two_first : (ids : Ids) (config : ConnConfig) (now : Moment) (c s : End) (t : List Act) → IsAlone ids config c t → IsNewEnd Server ids config now s → AreTwo c s t []
two_first ids config now c s t a new = record {
  hello = a.hello;
  peer_hello = new.hello;
  ends = record {
    own = a.honest;
    peer = new.honest a.fits;
    sides = new.of.side_is ∙ ap other (sym a.of.side_is);
    ids = subst (λ (z : Side). KnowsIds c.handshake s.handshake z) (sym a.of.side_is) (
      ap (λ (z : TransportParameters). z.original_destination_connection_id) new.of.said.is ∙ ap (λ (z : List ℕ). Some z) (sym a.of.original_is),
      ap (λ (z : TransportParameters). z.retry_source_connection_id) new.of.said.is ∙ sym a.unretried,
    );
    ids_back = subst (λ (z : Side). KnowsIds s.handshake c.handshake z) (sym new.of.side_is) tt;
    key_is = new.key_is ∙ sym a.key_is;
    came = λ x i. absurd (subst (λ (z : List (List ℕ)). In x z) a.nothing i);
    went = λ x i. absurd i;
  };
  greets = record {
    own = a.can s.handshake;
    peer = new.can c.handshake (λ is. sym a.of.whole.sound.id_is ∙ a.of.local_is);
    own_sealed = a.sealed;
    peer_sealed = λ x i alone. absurd i;
  };
}
