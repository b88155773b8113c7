-- How an end goes on.
use Rattle.std.proofs.Common.{◌≡◌, inl, inr, Bool, true, false, List, [], ◌∷◌, ◌++◌, ℕ, Option, Some, None, refl, sym, ◌∙◌, ap, subst, append_assoc, append-nil}
use Rattle.qh_base.specs.declared.connection_error.ConnectionError.TheVariants as lost
use Rattle.qh_base.specs.declared.time.Moment.{Moment}
use Rattle.qh_base.specs.declared.time.Span.{Span}
use Rattle.qh_conn.specs.declared.config.ConnConfig.{ConnConfig}
use Rattle.qh_link.specs.Link.{fault_events}
use Rattle.qh_link.specs.declared.link.LinkFault.{LinkFault}
use Rattle.qh_spec.specs.Link.{given_to, other, told}
use Rattle.qh_spec.specs.Lists.{In}
use Rattle.qh_spec.specs.Transcript.{Act, HandedOut, handed_in}
use Rattle.qh_spec.specs.declared.link.Event.{Event}
use Rattle.qh_spec.specs.declared.link.Event.TheVariants.{Sent, Given}
use Rattle.qh_spec.specs.declared.sides.Side.{Side}
use Rattle.qh_spec.specs.declared.sides.Side.TheVariants.{Client}
use Rattle.qh_pair.specs.EndCalls.{IsMadeBy, IsUndisturbedBy}
use Rattle.qh_pair.specs.Ends.{End, Stands}
use Rattle.qh_pair.specs.Pair.{IsToldIf, unsent, told_acts}
use Rattle.qh_pair.specs.Sound.{IsAlone, IsFirst, IsGreetedAt}
use Rattle.qh_pair.specs.Steps.{Did, EndStep, IsEndUndisturbed, IsOpenedAt, IsRestartedAt, KeepsSound}
use Rattle.qh_pair.specs.declared.ends.Ids.{Ids}
use Rattle.qh_pair.proofs.EndHandled.{by_trans, still_by}
use Rattle.qh_pair.proofs.EndMade.{known_made, stands_on}
use Rattle.qh_pair.proofs.EndSounds.{KeepsNames, sound_failed, sound_idle, sound_trans, sound_ungiven}
use Rattle.qh_pair.proofs.SameStreams.{quiet_more, quiet_nothing, quiet_out}
use Rattle.qh_pair.proofs.Wire.{handed_in-told, silent_fault, silent_given, silent_sent, told_acts-silent, told_if-append, told_sent, told_weaker}

-- ---- events

pub told-append : (t : Option (List Event)) (x y : List Event) → told (told t x) y ≡ told t (x ++ y)
told-append None x y = refl
told-append (Some es) x y = ap Some (append_assoc es x y)

pub told_nothing : (t : Option (List Event)) → t ≡ told t []
told_nothing None = refl
told_nothing (Some es) = ap Some (sym (append-nil es))

-- events that tell nothing of a side gave it nothing
given_none_told : (side : Side) (more : List Event) → told_acts side more ≡ [] → given_to side more ≡ []
given_none_told side more mine = sym (handed_in-told side more) ∙ ap handed_in mine

-- ---- what no datagram tells

pub end_undisturbed_refl : (is_whole : Bool) (now : Moment) (idle : Option Span) (o : Option End) → IsEndUndisturbed is_whole now idle o o
end_undisturbed_refl is_whole now idle None = tt
end_undisturbed_refl true now idle (Some c) = still_by now c
end_undisturbed_refl false now idle (Some c) = inl (still_by now c)

opened_on : (now : Moment) (idle : Option Span) (c d : End) → IsOpenedAt now idle c → IsUndisturbedBy now c d → IsOpenedAt now idle d
opened_on now idle c d o u = record {
  opened = u.counts.opened 0 o.opened;
  accepted = u.counts.accepted 0 o.accepted;
  timed = u.times idle o.timed;
  since = elim u.since as (λ _. d.core.idle.since ≡ now) [ inl e ↦ e ∙ o.since | inr e ↦ e ];
  timed_out = λ e. o.timed_out (u.timed_out e);
}

pub end_undisturbed_trans : (is_whole : Bool) (now : Moment) (idle : Option Span) (a b c : Option End) → IsEndUndisturbed true now idle a b → IsEndUndisturbed is_whole now idle b c → IsEndUndisturbed is_whole now idle a c
end_undisturbed_trans is_whole now idle None None None f g = tt
end_undisturbed_trans is_whole now idle None None (Some d) f g = g
end_undisturbed_trans is_whole now idle None (Some b) None f g = absurd g
end_undisturbed_trans true now idle None (Some b) (Some d) f g = opened_on now idle b d f g
end_undisturbed_trans false now idle None (Some b) (Some d) f (inl g) = inl (opened_on now idle b d f g)
end_undisturbed_trans false now idle None (Some b) (Some d) f (inr g) = inr g
end_undisturbed_trans is_whole now idle (Some a) None c f g = absurd f
end_undisturbed_trans is_whole now idle (Some a) (Some b) None f g = absurd g
end_undisturbed_trans true now idle (Some a) (Some b) (Some d) f g = by_trans now a b d f g
end_undisturbed_trans false now idle (Some a) (Some b) (Some d) f (inl g) = inl (by_trans now a b d f g)
end_undisturbed_trans false now idle (Some a) (Some b) (Some d) f (inr g) = inr g

-- a clock that was restarted in this call still is
restarted_on : (now : Moment) (idle : Option Span) (b c : Option End) → IsEndUndisturbed true now idle b c → IsRestartedAt now b → IsRestartedAt now c
restarted_on now idle None c u r = absurd r
restarted_on now idle (Some b) None u r = absurd u
restarted_on now idle (Some b) (Some d) u r = elim u.since as (λ _. d.core.idle.since ≡ now) [ inl e ↦ e ∙ r | inr e ↦ e ]

-- an end that was greeted still is
pub greeted_on : (now : Moment) (idle : Option Span) (b c : Option End) → IsEndUndisturbed true now idle b c → IsGreetedAt b → IsGreetedAt c
greeted_on now idle None c u g = absurd g
greeted_on now idle (Some b) None u g = absurd u
greeted_on now idle (Some b) (Some d) u g = u.known g

-- ---- steps

sound_more : (is_whole : Bool) (now : Moment) (side : Side) (ids : Ids) (config : ConnConfig) (a b c : Option End) (t f g : List Act) (x y : List Event) → IsEndUndisturbed is_whole now config.idle b c
    → IsToldIf true side x f → KeepsSound true now side ids config a b t f x → KeepsSound is_whole now side ids config b c (t ++ f) g y → KeepsSound is_whole now side ids config a c t (f ++ g) (x ++ y)
sound_more true now side ids config a b c t f g x y u told first second = sound_trans true now side ids config a b c t f g x y (restarted_on now config.idle b c u) (greeted_on now config.idle b c u) told first second
sound_more false now side ids config a b c t f g x y u told first second = sound_failed now side ids config a c t (f ++ g) (x ++ y)

-- one step after another, the first of them whole
pub end_trans : (is_whole : Bool) (now : Moment) (side : Side) (ids : Ids) (config : ConnConfig) (a b c : Option End) (t u v : Option (List Event)) (K M N : List Event → Type 0)
    → EndStep true now side ids config a b t u K → EndStep is_whole now side ids config b c u v M → ((x y : List Event) → K x → M y → N (x ++ y)) → EndStep is_whole now side ids config a c t v N
end_trans is_whole now side ids config a b c t u v K M N f g kinds = record {
  more = f.more ++ g.more;
  told_is = g.told_is ∙ (ap (λ (z : Option (List Event)). told z g.more) f.told_is ∙ told-append t f.more g.more);
  kind = kinds f.more g.more f.kind g.kind;
  silent = told_acts-silent (other side) f.more g.more g.silent ∙ f.silent;
  does = λ w s.
      let x : Did true now side ids config a b w f.more = f.does w s in
      let y : Did is_whole now side ids config b c (w ++ x.acts) g.more = g.does (w ++ x.acts) x.stands in
      record {
        acts = x.acts ++ y.acts;
        quiet = quiet_more x.acts y.acts x.quiet y.quiet;
        stands = subst (λ (z : List Act). Stands side ids config c z) (append_assoc w x.acts y.acts) y.stands;
        told = told_if-append is_whole side f.more g.more x.acts y.acts x.told y.told;
        sound = sound_more is_whole now side ids config a b c w x.acts y.acts f.more g.more g.undisturbed x.told x.sound y.sound;
      };
  undisturbed = end_undisturbed_trans is_whole now config.idle a b c f.undisturbed g.undisturbed;
  known = λ k. g.known (f.known k);
}

pub end_kind : (is_whole : Bool) (now : Moment) (side : Side) (ids : Ids) (config : ConnConfig) (a b : Option End) (t u : Option (List Event)) (K M : List Event → Type 0)
    → EndStep is_whole now side ids config a b t u K → ((x : List Event) → K x → M x) → EndStep is_whole now side ids config a b t u M
end_kind is_whole now side ids config a b t u K M f kinds =
    record { more = f.more; told_is = f.told_is; kind = kinds f.more f.kind; silent = f.silent; does = f.does; undisturbed = f.undisturbed; known = f.known }

pub end_fails : (now : Moment) (side : Side) (ids : Ids) (config : ConnConfig) (a b c : Option End) (t u v : Option (List Event)) (K M : List Event → Type 0)
    → EndStep true now side ids config a b t u K → EndStep false now side ids config b c u v M → EndStep false now side ids config a c t v (λ more. Unit {0})
end_fails now side ids config a b c t u v K M f g = end_trans false now side ids config a b c t u v K M (λ more. Unit {0}) f g (λ x y k m. tt)

-- the end did nothing
pub end_idle : (is_whole : Bool) (now : Moment) (side : Side) (ids : Ids) (config : ConnConfig) (o : Option End) (t u : Option (List Event)) (more : List Event) (K : List Event → Type 0)
    → u ≡ told t more → K more → told_acts side more ≡ [] → told_acts (other side) more ≡ [] → EndStep is_whole now side ids config o o t u K
end_idle is_whole now side ids config o t u more K e kind mine silent = record {
  more = more;
  told_is = e;
  kind = kind;
  silent = silent;
  does = λ w s. record {
    acts = [];
    quiet = quiet_nothing;
    stands = subst (λ (z : List Act). Stands side ids config o z) (sym (append-nil w)) s;
    told = told_weaker is_whole side more [] (sym mine);
    sound = sound_idle is_whole now side ids config o w more (given_none_told side more mine);
  };
  undisturbed = end_undisturbed_refl is_whole now config.idle o;
  known = λ k. k;
}

pub end_refl : (now : Moment) (side : Side) (ids : Ids) (config : ConnConfig) (o : Option End) (t : Option (List Event)) (K : List Event → Type 0) → K [] → EndStep true now side ids config o o t t K
end_refl now side ids config o t K kind = end_idle true now side ids config o t t [] K (told_nothing t) kind refl refl

-- the end was handed a datagram that it was given
pub end_given : (is_whole : Bool) (now : Moment) (side : Side) (ids : Ids) (config : ConnConfig) (a b : Option End) (t u : Option (List Event)) (datagram : List ℕ) (K : List Event → Type 0)
    → u ≡ told t (Given side datagram ∷ []) → K (Given side datagram ∷ [])
    → ((w : List Act) → Stands side ids config a w → Did is_whole now side ids config a b w (Given side datagram ∷ [])) → IsEndUndisturbed is_whole now config.idle a b → (IsGreetedAt a → IsGreetedAt b)
    → EndStep is_whole now side ids config a b t u K
end_given is_whole now side ids config a b t u datagram K e kind does rest known =
    record { more = Given side datagram ∷ []; told_is = e; kind = kind; silent = silent_given side datagram; does = does; undisturbed = rest; known = known }

-- what a client that is alone hands out is a first datagram
abbrev pub AreFirsts : Side → Ids → ConnConfig → End → List Act → List (List ℕ) → Type 0
AreFirsts side ids config c t out = side ≡ Client → IsAlone ids config c t → (x : List ℕ) → In x out → IsFirst ids x

-- the end handed out a datagram, which was sent
pub end_sent : (now : Moment) (side : Side) (ids : Ids) (config : ConnConfig) (c d : End) (t u : Option (List Event)) (datagram : List ℕ) (K : List Event → Type 0)
    → u ≡ told t (Sent side datagram ∷ []) → K (Sent side datagram ∷ []) → IsMadeBy c d (HandedOut datagram ∷ []) → IsUndisturbedBy now c d → KeepsNames c d (HandedOut datagram ∷ [])
    → ((w : List Act) → AreFirsts side ids config c w (datagram ∷ [])) → EndStep true now side ids config (Some c) (Some d) t u K
end_sent now side ids config c d t u datagram K e kind made rest names firsts = record {
  more = Sent side datagram ∷ [];
  told_is = e;
  kind = kind;
  silent = silent_sent side datagram;
  does = λ w s. record {
    acts = HandedOut datagram ∷ [];
    quiet = quiet_out datagram;
    stands = stands_on side ids config c d w (HandedOut datagram ∷ []) made s;
    told = sym (told_sent side datagram);
    sound = sound_ungiven now side ids config c d w (HandedOut datagram ∷ []) (Sent side datagram ∷ []) names (firsts w) refl;
  };
  undisturbed = rest;
  known = rest.known;
}

-- or the link didn't take it
pub end_unsent : (now : Moment) (side : Side) (ids : Ids) (config : ConnConfig) (c d : End) (t u : Option (List Event)) (datagram : List ℕ) (e : LinkFault) (K : List Event → Type 0)
    → u ≡ told t (fault_events e) → K (fault_events e) → IsMadeBy c d (HandedOut datagram ∷ []) → IsUndisturbedBy now c d → EndStep false now side ids config (Some c) (Some d) t u K
end_unsent now side ids config c d t u datagram e K is kind made rest = record {
  more = fault_events e;
  told_is = is;
  kind = kind;
  silent = silent_fault (other side) e;
  does = λ w s. record {
    acts = HandedOut datagram ∷ [];
    quiet = quiet_out datagram;
    stands = stands_on side ids config c d w (HandedOut datagram ∷ []) made s;
    told = unsent datagram (ap (λ (z : List Act). z ++ HandedOut datagram ∷ []) (sym (silent_fault side e)));
    sound = sound_failed now side ids config (Some c) (Some d) w (HandedOut datagram ∷ []) (fault_events e);
  };
  undisturbed = inl rest;
  known = rest.known;
}

-- the end has none to send
pub end_rests : (now : Moment) (side : Side) (ids : Ids) (config : ConnConfig) (c d : End) (t : Option (List Event)) (K : List Event → Type 0) → K [] → IsMadeBy c d [] → IsUndisturbedBy now c d → KeepsNames c d []
    → EndStep true now side ids config (Some c) (Some d) t t K
end_rests now side ids config c d t K kind made rest names = record {
  more = [];
  told_is = told_nothing t;
  kind = kind;
  silent = refl;
  does = λ w s. record {
    acts = [];
    quiet = quiet_nothing;
    stands = stands_on side ids config c d w [] made s;
    told = refl;
    sound = sound_ungiven now side ids config c d w [] [] names (λ is alone x i. absurd i) refl;
  };
  undisturbed = rest;
  known = rest.known;
}

-- or memory was wanting for it
pub end_wants : (now : Moment) (side : Side) (ids : Ids) (config : ConnConfig) (c d : End) (t : Option (List Event)) (K : List Event → Type 0) → K [] → IsMadeBy c d [] → d.core.error ≡ Some lost.Memory
    → EndStep false now side ids config (Some c) (Some d) t t K
end_wants now side ids config c d t K kind made failed = record {
  more = [];
  told_is = told_nothing t;
  kind = kind;
  silent = refl;
  does = λ w s. record {
    acts = [];
    quiet = quiet_nothing;
    stands = stands_on side ids config c d w [] made s;
    told = told_weaker false side [] [] refl;
    sound = sound_failed now side ids config (Some c) (Some d) w [] [];
  };
  undisturbed = inr failed;
  known = known_made c d [] made;
}
