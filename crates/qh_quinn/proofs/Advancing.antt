-- The first half of a turn: events are handed over, what is due is done, and datagrams are sent.
use Rattle.std.proofs.Common.{◌≡◌, ◌⊎◌, ℕ, Bool, false, List, [], ◌∷◌, ◌++◌, Option, None, Some, Result, Ok, Err, IsErrAnd, OnOk, append_assoc, append-nil, refl, sym, ap, subst, inl, inr, ◌∙◌}
use Rattle.std.proofs.lemmas.Bool.{false≢true}
use Rattle.qh_conn.specs.Incoming.{acts_of}
use Rattle.qh_conn.specs.Whole.{CarriesOnBy}
use Rattle.qh_conn.specs.declared.connection.Connection.{Connection}
use Rattle.qh_conn.specs.declared.event.ConnectionEvent.{ConnectionEvent}
use Rattle.qh_core.specs.Event.{is_drained}
use Rattle.qh_core.specs.Made.{AcceptsTags, MakesTagsOf}
use Rattle.qh_handles.specs.Turns.{AreReady}
use Rattle.qh_handles.specs.declared.at.DriverPart.{DriverPart}
use Rattle.qh_quinn.proofs.Bringing.{Both, brings_then}
use Rattle.qh_quinn.proofs.Counting.{counted_none}
use Rattle.qh_quinn.proofs.Handling.{carries_then}
use Rattle.qh_quinn.proofs.StatesKept.{calm_by}
use Rattle.qh_quinn.specs.Turning.{HasMadeNone, HasSameCalls, IsAdvanced, IsCounted, IsHandled, IsShown, LeavesPoller, acts_of_all, waits_in}
use Rattle.qh_quinn.specs.declared.inner.StateInner.{StateInner}
use Rattle.qh_runtime.specs.declared.runtime.IoFault.{IoFault}
use Rattle.qh_runtime.specs.declared.runtime.IoFault.TheVariants as faults
use Rattle.qh_shown.specs.Connections.{is_wanting}
use Rattle.qh_spec.specs.Transcript.{Act}

acts_behind : (xs ys : List ConnectionEvent) → acts_of_all (xs ++ ys) ≡ acts_of_all xs ++ acts_of_all ys
acts_behind [] ys = refl
acts_behind (x ∷ xs) ys = ap (λ (l : List Act). acts_of x ++ l) (acts_behind xs ys) ∙ sym (append_assoc (acts_of x) (acts_of_all xs) (acts_of_all ys))

-- ---- answers

memory_is : (answer : Result (Unit {0}) IoFault) → IsErrAnd answer (λ e. e ≡ faults.Memory) → answer ≡ Err faults.Memory
memory_is (Ok done) is = absurd is
memory_is (Err e) is = ap Err is

-- ---- the poller

module _ {P : Type 0} (faults : P → ℕ) where
  -- the poller is there still, or gone
  pub counted_left : {X : Type 0} (failed : Bool) (n : ℕ) (old new : DriverPart X P) → failed ≡ false → new ≡ record old { poller = new.poller } → (new.poller ≡ old.poller) ⊎ (new.poller ≡ None)
      → IsCounted faults failed n n old.made new.made old.poller new.poller
  counted_left {X = X} failed n old new calm part left =
      subst (λ (f : Bool). IsCounted faults f n n old.made new.made old.poller new.poller) (sym calm) (subst (λ (m : ℕ). IsCounted faults false n n old.made m old.poller new.poller) (sym made) (at left))
    where
      made : new.made ≡ old.made
      made = ap (λ (p : DriverPart X P). p.made) part

      at : (new.poller ≡ old.poller) ⊎ (new.poller ≡ None) → IsCounted faults false n n old.made old.made old.poller new.poller
      at (inl same) = subst (λ (p : Option P). IsCounted faults false n n old.made old.made old.poller p) (sym same) (counted_none faults n old.made old.poller)
      at (inr none) =
          let h = counted_none faults n old.made old.poller in
          record { socket = h.socket; made = h.made; cause = λ is. absurd (false≢true is); still = λ is. LeavesPoller.gone none }

pub held_left : {X P : Type 0} (old new : DriverPart X P) → new ≡ record old { poller = new.poller } → new.is_held ≡ old.is_held
held_left {X = X} {P = P} old new part = ap (λ (p : DriverPart X P). p.is_held) part

ready_gone : {X P : Type 0} (socket_ready : X → Type 0) (poller_ready : P → Type 0) (socket : X) (before : Option P) → AreReady socket_ready poller_ready socket before → socket_ready socket
ready_gone socket_ready poller_ready socket None ready = ready
ready_gone socket_ready poller_ready socket (Some poller) ready = ready.0

pub ready_left : {X P : Type 0} (socket_ready : X → Type 0) (poller_ready : P → Type 0) (socket : X) (before after : Option P) → (after ≡ before) ⊎ (after ≡ None) → AreReady socket_ready poller_ready socket before
    → AreReady socket_ready poller_ready socket after
ready_left {P = P} socket_ready poller_ready socket before after (inl same) ready = subst (λ (p : Option P). AreReady socket_ready poller_ready socket p) (sym same) ready
ready_left {P = P} socket_ready poller_ready socket before after (inr none) ready = subst (λ (p : Option P). AreReady socket_ready poller_ready socket p) (sym none) (ready_gone socket_ready poller_ready socket before ready)

-- ---- connections

module _ {S : Type 0} where
  -- one that isn't drained is none that want of memory ended
  pub calm_undrained : (c : Connection S) → IsShown c → is_drained c.core.state ≡ false → is_wanting c ≡ false
  calm_undrained c h lives = calm_by (is_wanting c) (is_drained c.core.state) h.shows.drained lives

-- ---- states

module _ {S : Type 0} where
  pub handled_then : Both S → (accepts : AcceptsTags S) (sealed : MakesTagsOf S) (answer : Result (Unit {0}) IoFault) (a b c : StateInner S) → IsHandled accepts sealed (Ok tt) a b → IsShown a.connection → IsHandled accepts sealed answer b c
      → IsHandled accepts sealed answer a c
  handled_then law accepts sealed answer a b c x shown y = record {
    same = y.same ∙ ap (λ (z : StateInner S). record z { connection = c.connection; events = c.events }) x.same;
    whole = y.whole;
    handed = x.handed ++ y.handed;
    events = x.events ∙ (ap (λ (z : List ConnectionEvent). x.handed ++ z) y.events ∙ sym (append_assoc x.handed y.handed c.events.items));
    carries = λ lawful. carries_then accepts sealed a.connection b.connection c.connection (acts_of_all x.handed) (acts_of_all y.handed) (acts_of_all (x.handed ++ y.handed)) (x.carries lawful) (y.carries lawful) (acts_behind x.handed y.handed);
    brings = brings_then law answer a.connection b.connection c.connection x.brings shown y.brings;
    ended = λ shut. y.ended (x.ended shut);
  }

  same_calls : (old new to : StateInner S) → new ≡ to → HasSameCalls old to → HasSameCalls old new
  same_calls old new to is h = subst (λ (z : StateInner S). HasSameCalls old z) (sym is) h

  -- nothing was sent
  pub advanced_none : (accepts : AcceptsTags S) (sealed : MakesTagsOf S) (answer : Result (Unit {0}) IoFault) (a b : StateInner S) → IsHandled accepts sealed answer a b → ((answer ≡ Err faults.Memory → ⊥) → b.events.items ≡ [])
      → (h : IsAdvanced accepts sealed answer a b []) × (h.made ≡ [])
  advanced_none accepts sealed answer a b x all = let h : IsAdvanced accepts sealed answer a b [] = record {
    same = same_calls a b (record a { connection = b.connection; events = b.events }) x.same refl;
    last_turn = ap (λ (z : StateInner S). z.last_turn) x.same;
    whole = x.whole;
    handed = x.handed;
    made = [];
    events = x.events;
    all = all;
    carries = λ lawful. subst (λ (acts : List Act). CarriesOnBy accepts sealed a.connection b.connection acts) (sym (append-nil (acts_of_all x.handed))) (x.carries lawful);
    brings = x.brings;
    ended = x.ended;
    order = append-nil (waits_in a) ∙ sym (ap (λ (z : StateInner S). waits_in z) x.same);
  } in (h, refl)

  -- for want of memory
  pub advanced_wanting : (accepts : AcceptsTags S) (sealed : MakesTagsOf S) (answer : Result (Unit {0}) IoFault) (a b : StateInner S) → IsHandled accepts sealed answer a b → IsErrAnd answer (λ e. e ≡ faults.Memory)
      → (h : IsAdvanced accepts sealed answer a b []) × (h.made ≡ [])
  advanced_wanting accepts sealed answer a b x wanting = advanced_none accepts sealed answer a b x (λ other. absurd (other (memory_is answer wanting)))

  -- of one that isn't drained
  pub sent_undrained : {X P : Type 0} (answer : Result (Unit {0}) IoFault) (s : StateInner S) (part : DriverPart X P) → OnOk answer (part.keeps_going ≡ false → HasMadeNone s)
      → OnOk answer (is_drained s.connection.core.state ≡ false → part.keeps_going ≡ false → HasMadeNone s)
  sent_undrained (Ok done) s part h = λ lives. h
  sent_undrained (Err e) s part h = tt
