-- A server's end that opens by a client's first datagram, and a datagram that is dropped before.
use Rattle.std.proofs.Common.{◌≡◌, inl, inr, Bool, true, false, List, [], ◌∷◌, ◌++◌, ℕ, Option, Some, None, refl, sym, ◌∙◌, ap, subst, append-nil, length}
use Rattle.std.specs.Prelude.{OnErr, OnOk, Result, Ok, Err}
use Rattle.qh_base.specs.declared.connection_error.ConnectionError.TheVariants as lost
use Rattle.qh_base.specs.declared.memory.Memory.{Memory as OutOfMemory}
use Rattle.qh_base.specs.declared.time.Moment.{Moment}
use Rattle.qh_base.specs.declared.time.Span.{Span}
use Rattle.qh_conn.specs.declared.config.ConnConfig.{ConnConfig}
use Rattle.qh_peers.specs.Greets.{IsGreeting}
use Rattle.qh_spec.specs.Lists.{In}
use Rattle.qh_spec.specs.Transcript.{Act, HandedIn, handed_in, handed_out}
use Rattle.qh_spec.specs.declared.link.Event.TheVariants.{Given}
use Rattle.qh_spec.specs.declared.sides.Side.{Side}
use Rattle.qh_spec.specs.declared.sides.Side.TheVariants.{Client, Server}
use Rattle.qh_pair.specs.EndCalls.{IsMadeBy, IsUndisturbedBy}
use Rattle.qh_pair.specs.Ends.{AreDropped, End, Stands}
use Rattle.qh_pair.specs.Sound.{AreSoundEnds, AreTwo, IsFirst}
use Rattle.qh_pair.specs.Steps.{Did, IsEndUndisturbed, IsNewEnd, IsOpenedAt, IsTakenFrom, StaysSound, TakesFrom, is_done}
use Rattle.qh_pair.specs.declared.ends.Ids.{Ids}
use Rattle.qh_pair.proofs.Dropped.{dropped_in, in_more_handed}
use Rattle.qh_pair.proofs.EndMade.{stands_on}
use Rattle.qh_pair.proofs.EndSounds.{both_turned, sound_given, this_one, two_first}
use Rattle.qh_pair.proofs.KeptOpen.{kept_first}
use Rattle.qh_pair.proofs.SameStreams.{quiet_in}
use Rattle.qh_pair.proofs.Wire.{told_given, told_weaker}

-- ---- an end that is there

-- where a datagram leaves an end that is there
pub did_given : (w : Bool) (now : Moment) (side : Side) (ids : Ids) (config : ConnConfig) (c d : End) (x : List ℕ) (t : List Act) → IsMadeBy c d (HandedIn x ∷ []) → (w ≡ true → TakesFrom now c d x)
    → Stands side ids config (Some c) t → Did w now side ids config (Some c) (Some d) t (Given side x ∷ [])
did_given w now side ids config c d x t made takes s = record {
  acts = HandedIn x ∷ [];
  quiet = quiet_in x;
  stands = stands_on side ids config c d t (HandedIn x ∷ []) made s;
  told = told_weaker w side (Given side x ∷ []) (HandedIn x ∷ []) (sym (told_given side x));
  sound = λ peer u whole.
      sound_given now side ids config c d x t (ap length s.0.local_is) s.0.side_is (takes whole) peer u refl;
}

pub undisturbed_given : {A : Type 0} (r : Result A OutOfMemory) (now : Moment) (idle : Option Span) (c d : End) → OnOk r (IsUndisturbedBy now c d) → OnErr r (d.core.error ≡ Some lost.Memory)
    → IsEndUndisturbed (is_done r) now idle (Some c) (Some d)
undisturbed_given (Ok x) now idle c d u e = u
undisturbed_given (Err f) now idle c d u e = inr e

-- what is known if the call went well
pub if_done : {A : Type 0} (r : Result A OutOfMemory) (P : Type 0) → OnOk r P → is_done r ≡ true → P
if_done (Ok x) P p e = p
if_done (Err f) P p e = absurd (let h : false ≡ true = e in cc)

-- ---- a datagram that is dropped

no_more : (t : List Act) (x : List ℕ) → AreDropped Server t → AreDropped Server (t ++ HandedIn x ∷ [])
no_more t x h = in_more_handed t x h

never_first : (ids : Ids) (config : ConnConfig) (peer : Option End) (t u : List Act) (x : List ℕ) → (IsFirst ids x → ⊥) → AreSoundEnds Server ids config None peer t u → In x (handed_out u) → ⊥
never_first ids config None t u x other_one s i = subst (λ (z : List Act). In x (handed_out z)) s.0 i
never_first ids config (Some c) t u x other_one s i = other_one (s.0.firsts x i)

-- it isn't a first one
pub did_drop : (now : Moment) (ids : Ids) (config : ConnConfig) (x : List ℕ) (t : List Act) → (IsFirst ids x → ⊥) → Stands Server ids config None t
    → Did true now Server ids config None None t (Given Server x ∷ [])
did_drop now ids config x t other_one s = record {
  acts = HandedIn x ∷ [];
  quiet = quiet_in x;
  stands = no_more t x s;
  told = sym (told_given Server x);
  sound = λ peer u whole sound given. absurd (never_first ids config peer t u x other_one sound (given x (inl refl)));
}

-- there was no memory for the end
pub did_fail : (now : Moment) (ids : Ids) (config : ConnConfig) (x : List ℕ) (t : List Act) → Stands Server ids config None t → Did false now Server ids config None None t (Given Server x ∷ [])
did_fail now ids config x t s = record {
  acts = HandedIn x ∷ [];
  quiet = quiet_in x;
  stands = no_more t x s;
  told = told_weaker false Server (Given Server x ∷ []) (HandedIn x ∷ []) (sym (told_given Server x));
  sound = λ peer u whole. absurd (let h : false ≡ true = whole in cc);
}

-- ---- an end that opens

-- a new end stands behind what was dropped
pub new_stands : (side : Side) (ids : Ids) (config : ConnConfig) (now : Moment) (c : End) (t : List Act) → IsNewEnd side ids config now c → AreDropped side t → Stands side ids config (Some c) t
new_stands side ids config now c t new dropped = (
  new.of,
  record { hello = new.hello; before = t; since = []; are = sym (append-nil t); dropped = dropped; stands = new.stands },
  kept_first side (length ids.client) c t (dropped_in side t dropped),
)

opened_sound : (now : Moment) (ids : Ids) (config : ConnConfig) (c d : End) (peer : Option End) (x : List ℕ) (t u : List Act) → IsNewEnd Server ids config now c → TakesFrom now c d x → d.core.idle.since ≡ now
    → AreSoundEnds Server ids config None peer t u → In x (handed_out u) → StaysSound now Server ids config (Some d) peer t (HandedIn x ∷ []) u (Given Server x ∷ [])
opened_sound now ids config c d None x t u new takes since s i = absurd (subst (λ (z : List Act). In x (handed_out z)) s.0 i)
opened_sound now ids config c d (Some q) x t u new takes since s i =
    let two : AreTwo c q [] u = both_turned q c u [] (two_first ids config now q c u s.0 new) in
    let r : IsTakenFrom now c d q x [] u = takes q [] u two i in
    record {
      ends = subst (λ (z : List Act). AreTwo q d u (z ++ HandedIn x ∷ [])) (sym s.1) (both_turned d q (HandedIn x ∷ []) u r.ends);
      restarted = λ before after g e counts. since;
      greeted = λ w. r.greeted (subst (λ (z : List Act). IsGreeting (length c.core.local_id) q.core.side (handed_in z) x) s.1
          (this_one IsGreeting Server ids c q x w.datagram t w.before w.after (ap length new.of.local_is) new.of.side_is two.ends.sides w.are w.greets));
    }

-- a server's end opens, and takes the datagram
pub did_open : (w : Bool) (now : Moment) (ids : Ids) (config : ConnConfig) (c d : End) (x : List ℕ) (t : List Act) → IsNewEnd Server ids config now c → IsMadeBy c d (HandedIn x ∷ []) → (w ≡ true → TakesFrom now c d x)
    → (w ≡ true → d.core.idle.since ≡ now) → Stands Server ids config None t → Did w now Server ids config None (Some d) t (Given Server x ∷ [])
did_open w now ids config c d x t new made takes since s = record {
  acts = HandedIn x ∷ [];
  quiet = quiet_in x;
  stands = stands_on Server ids config c d t (HandedIn x ∷ []) made (new_stands Server ids config now c t new s);
  told = told_weaker w Server (Given Server x ∷ []) (HandedIn x ∷ []) (sym (told_given Server x));
  sound = λ peer u whole sound given. opened_sound now ids config c d peer x t u new (takes whole) (since whole) sound (given x (inl refl));
}

-- what such an end has
pub opened_at : (now : Moment) (ids : Ids) (config : ConnConfig) (c d : End) → IsNewEnd Server ids config now c → IsUndisturbedBy now c d → IsOpenedAt now config.idle d
opened_at now ids config c d new u = record {
  opened = u.counts.opened 0 (new.opened, λ none. refl);
  accepted = u.counts.accepted 0 (new.accepted, λ none. refl);
  timed = u.times config.idle new.timed;
  since = elim u.since as (λ _. d.core.idle.since ≡ now) [ inl e ↦ e ∙ new.since | inr e ↦ e ];
  timed_out = λ e. let none : c.core.error ≡ None = new.not_lost in let is : c.core.error ≡ Some lost.TimedOut = u.timed_out e in cc;
}

pub undisturbed_open : {A : Type 0} (r : Result A OutOfMemory) (now : Moment) (ids : Ids) (config : ConnConfig) (c d : End) → IsNewEnd Server ids config now c → OnOk r (IsUndisturbedBy now c d) → OnErr r (d.core.error ≡ Some lost.Memory)
    → IsEndUndisturbed (is_done r) now config.idle None (Some d)
undisturbed_open (Ok x) now ids config c d new u e = opened_at now ids config c d new u
undisturbed_open (Err f) now ids config c d new u e = inr e

pub only_server : (side : Side) → (side ≡ Client → ⊥) → side ≡ Server
only_server Client other_one = absurd (other_one refl)
only_server Server other_one = refl

pub since_open : (now : Moment) (ids : Ids) (config : ConnConfig) (c d : End) → IsNewEnd Server ids config now c → IsUndisturbedBy now c d → d.core.idle.since ≡ now
since_open now ids config c d new u = (opened_at now ids config c d new u).since
