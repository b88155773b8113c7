-- Events are handed over one after another, and what is due is done.
use Rattle.std.proofs.Common.{◌≡◌, ℕ, true, List, [], ◌∷◌, ◌++◌, ◌⊎◌, inl, inr, Option, None, Result, Ok, Err, IsErr, IsErrAnd, OnOk, append-nil, append_assoc, refl, sym, ap, subst, ◌∙◌}
use Rattle.std.proofs.lemmas.Bool.{false≢true}
use Rattle.qh_conn.specs.Incoming.{IsEventHandled, acts_of}
use Rattle.qh_conn.specs.Whole.{CarriesOnBy, IsWhole, Stands, StandsStill}
use Rattle.qh_conn.specs.declared.connection.Connection.{Connection}
use Rattle.qh_conn.specs.declared.event.ConnectionEvent.{ConnectionEvent}
use Rattle.qh_core.specs.Inner.{is_open}
use Rattle.qh_core.specs.Made.{AcceptsTags, MakesTagsOf}
use Rattle.qh_handles.specs.declared.at.DriverPart.{DriverPart}
use Rattle.qh_handshake.specs.Incoming.{SessionView}
use Rattle.qh_quinn.proofs.Bringing.{Both, brings_then}
use Rattle.qh_quinn.proofs.StatesKept.{calm_if_open}
use Rattle.qh_quinn.specs.Turning.{AreHandled, AreLawful, IsBroughtBy, IsEnded, IsHandled, IsShown, acts_of_all, wanting}
use Rattle.qh_quinn.specs.declared.inner.StateInner.{StateInner}
use Rattle.qh_runtime.specs.declared.runtime.IoFault.{IoFault}
use Rattle.qh_runtime.specs.declared.runtime.IoFault.TheVariants as faults
use Rattle.qh_shown.specs.Brings.{EndsWanting}
use Rattle.qh_spec.specs.Transcript.{Act}

pub acts_more : (es : List ConnectionEvent) (e : ConnectionEvent) → acts_of_all (es ++ e ∷ []) ≡ acts_of_all es ++ acts_of e
acts_more [] e = append-nil (acts_of e)
acts_more (x ∷ xs) e = ap (λ (l : List Act). acts_of x ++ l) (acts_more xs e) ∙ sym (append_assoc (acts_of x) (acts_of_all xs) (acts_of e))

-- nothing more is said behind an error
pub unsaid : {T E : Type 0} (r : Result T E) (said : Type 0) → IsErr r → OnOk r said
unsaid (Ok x) said is = absurd (false≢true is)
unsaid (Err e) said is = tt

-- one more event was handed over
pub handled_on : {S : Type 0} (v : SessionView S) (es : List ConnectionEvent) (e : ConnectionEvent) (old mid new : Connection S) → AreHandled v es old mid → IsEventHandled v e mid new → AreHandled v (es ++ e ∷ []) old new
handled_on v [] e old mid new before is = (new, subst (λ (c : Connection _). IsEventHandled v e c new) before is, refl)
handled_on v (x ∷ xs) e old mid new before is = (before.0, before.1, handled_on v xs e before.0 mid new before.2 is)

module _ {S : Type 0} (accepts : AcceptsTags S) (sealed : MakesTagsOf S) where
  -- nothing is added
  pub carries_none : (old new : Connection S) → ((hello : List ℕ) (t : List Act) → Stands accepts sealed hello old t → Stands accepts sealed hello new t) → CarriesOnBy accepts sealed old new []
  carries_none old new h hello t s = subst (λ (z : List Act). Stands accepts sealed hello new z) (sym (append-nil t)) (h hello t s)

  pub carries_then : (old mid new : Connection S) (xs ys zs : List Act) → CarriesOnBy accepts sealed old mid xs → CarriesOnBy accepts sealed mid new ys → zs ≡ xs ++ ys → CarriesOnBy accepts sealed old new zs
  carries_then old mid new xs ys zs h k is hello t s =
      subst (λ (z : List Act). Stands accepts sealed hello new z) (append_assoc t xs ys ∙ ap (λ (z : List Act). t ++ z) (sym is)) (k hello (t ++ xs) (h hello t s))

  -- no event was handed over
  pub handled_none : (answer : Result (Unit {0}) IoFault) (old new : StateInner S) → new ≡ record old { connection = new.connection; events = new.events } → new.events.items ≡ old.events.items → IsWhole new.connection
      → StandsStill old.connection new.connection → IsBroughtBy answer old.connection new.connection → IsEnded old.connection new.connection → (h : IsHandled accepts sealed answer old new) × (h.handed ≡ [])
  handled_none answer old new same events whole stands brings ends = let h : IsHandled accepts sealed answer old new = record {
    same = same;
    whole = whole;
    handed = [];
    events = sym events;
    carries = λ law. carries_none old.connection new.connection (stands accepts sealed);
    brings = brings;
    ended = ends;
  } in (h, refl)

  -- one more was
  pub handled_more : Both S → (answer : Result (Unit {0}) IoFault) (old mid new : StateInner S) (event : ConnectionEvent) (h : IsHandled accepts sealed (Ok tt) old mid) → IsShown old.connection
      → new ≡ record mid { connection = new.connection; events = new.events } → mid.events.items ≡ event ∷ new.events.items → IsWhole new.connection
      → (AreLawful accepts sealed → CarriesOnBy accepts sealed mid.connection new.connection (acts_of event)) → IsBroughtBy answer mid.connection new.connection
      → IsEnded mid.connection new.connection → (k : IsHandled accepts sealed answer old new) × (k.handed ≡ h.handed ++ event ∷ [])
  handled_more law answer old mid new event h shown same events whole carries brings ends = let k : IsHandled accepts sealed answer old new = record {
    same = same ∙ ap (λ (z : StateInner S). record z { connection = new.connection; events = new.events }) h.same;
    whole = whole;
    handed = h.handed ++ event ∷ [];
    events = h.events ∙ (ap (λ (z : List ConnectionEvent). h.handed ++ z) events ∙ sym (append_assoc h.handed (event ∷ []) new.events.items));
    carries = λ lawful. carries_then old.connection mid.connection new.connection (acts_of_all h.handed) (acts_of event) (acts_of_all (h.handed ++ event ∷ [])) (h.carries lawful) (carries lawful) (acts_more h.handed event);
    brings = brings_then law answer old.connection mid.connection new.connection h.brings shown brings;
    ended = λ shut. ends (h.ended shut);
  } in (k, refl)

-- want of memory ended a connection that was open
pub wanting_brought : {S : Type 0} (answer : Result (Unit {0}) IoFault) (old new : Connection S) → IsErrAnd answer (λ e. e ≡ faults.Memory) → IsShown old → is_open old.core.state ≡ true → EndsWanting old new → IsBroughtBy answer old new
wanting_brought (Ok done) old new is s up ends = absurd is
wanting_brought (Err e) old new is s up ends =
    subst (λ (z : IoFault). IsBroughtBy (Err z) old new) (sym is) (wanting (calm_if_open s.told old s.notes s.b s.shows up) ends)

-- ---- what the driver owns

-- the poller is the one that it was, or gone
pub poller_on : {P : Type 0} (old mid new : Option P) → (mid ≡ old) ⊎ (mid ≡ None) → (new ≡ mid) ⊎ (new ≡ None) → (new ≡ old) ⊎ (new ≡ None)
poller_on old mid new (inl before) (inl after) = inl (after ∙ before)
poller_on old mid new (inr before) (inl after) = inr (after ∙ before)
poller_on old mid new before (inr after) = inr after

pub part_on : {X P : Type 0} (old mid new : DriverPart X P) → mid ≡ record old { poller = mid.poller } → new ≡ record mid { poller = new.poller } → new ≡ record old { poller = new.poller }
part_on {X = X} {P = P} old mid new before after = after ∙ ap (λ (z : DriverPart X P). record z { poller = new.poller }) before
