-- A turn in its order: events are handed over, then what is due is done, then datagrams are made.
use Rattle.std.proofs.Common.{◌≡◌, ◌<◌, ◌+◌, ℕ, Bool, true, false, List, [], ◌∷◌, ◌++◌, length, Option, None, Some, Result, Ok, Err, IsErrAnd, OnOk, is_some, append-nil, length-append, refl, sym, ap, subst, ◌∙◌, arith}
use Rattle.std.proofs.lemmas.Bool.{false≢true}
use Rattle.std.specs.Prelude.{MatchOption}
use Rattle.qh_base.specs.declared.path.Transmit.{Transmit}
use Rattle.qh_base.specs.declared.time.Moment.{Moment}
use Rattle.qh_conn.specs.Telling.{IsDueAt, IsFirstDue}
use Rattle.qh_conn.specs.Whole.{CarriesOnBy}
use Rattle.qh_conn.specs.declared.connection.Connection.{Connection}
use Rattle.qh_conn.specs.declared.event.ConnectionEvent.{ConnectionEvent}
use Rattle.qh_handles.specs.Turns.{AreReady, IsFull}
use Rattle.qh_handles.specs.declared.at.DriverPart.{DriverPart}
use Rattle.qh_handshake.specs.Incoming.{SessionView}
use Rattle.qh_quinn.proofs.Bringing.{Both, brings_then}
use Rattle.qh_quinn.proofs.Handling.{carries_then}
use Rattle.qh_quinn.proofs.SendingOn.{filled_by}
use Rattle.qh_quinn.specs.Turning.{AreHandled, HasSameCalls, IsAdvanced, IsBroughtBy, IsFilled, IsHandled, IsInOrder, IsSending, IsShown, IsTimedAt, acts_of_all, made_all, waiting_out, waits_in}
use Rattle.qh_quinn.specs.declared.inner.StateInner.{StateInner}
use Rattle.qh_runtime.specs.declared.runtime.IoFault.{IoFault}
use Rattle.qh_runtime.specs.declared.runtime.IoFault.TheVariants as faults
use Rattle.qh_runtime.specs.declared.runtime.OutMessage.{OutMessage}
use Rattle.qh_shown.specs.Brings.{IsLogging}

-- ---- what is due

module _ {S : Type 0} where
  pub due_first : (c : Connection S) (o : Option Moment) (t : Moment) → o ≡ Some t → MatchOption o ((moment : ℕ) → IsDueAt c moment → ⊥) (λ (x : Moment). IsFirstDue c x.0) → IsFirstDue c t.0
  due_first c o t is h = subst (λ (z : Option Moment). MatchOption z ((moment : ℕ) → IsDueAt c moment → ⊥) (λ (x : Moment). IsFirstDue c x.0)) is h

  pub not_due : (c : Connection S) (now : Moment) (o : Option Moment) → MatchOption o ((moment : ℕ) → IsDueAt c moment → ⊥) (λ (x : Moment). IsFirstDue c x.0) → ((t : Moment) → o ≡ Some t → now.0 < t.0)
      → (moment : ℕ) → IsDueAt c moment → now.0 < moment
  not_due c now None h later moment due = absurd (h moment due)
  not_due c now (Some t) h later moment due = omega (arith, later t refl, h.first moment due)

-- ---- how many were sent

pub full_off : (keeps_going : Bool) (out : List OutMessage) → keeps_going ≡ false → IsFull keeps_going out
full_off true out is = cc
full_off false out is = tt

pub full_at : (keeps_going : Bool) (out : List OutMessage) → length out ≡ 20 → IsFull keeps_going out
full_at true out is = is
full_at false out is = tt

pub ready_socket : {X P : Type 0} (socket_ready : X → Type 0) (poller_ready : P → Type 0) (socket : X) (poller : Option P) → AreReady socket_ready poller_ready socket poller → socket_ready socket
ready_socket socket_ready poller_ready socket None ready = ready
ready_socket socket_ready poller_ready socket (Some poller) ready = ready.0

pub length_then : (n : ℕ) (xs ys : List OutMessage) → length xs ≡ n → length ys ≡ 1 → length (xs ++ ys) ≡ n + 1
length_then n xs ys x y = omega (arith, length-append xs ys, x, y)

-- the datagram that waited is the one that was sent
pub one_out : (before after : Option Transmit) (a b : List ℕ) (out : List OutMessage) → waiting_out before a ≡ out ++ waiting_out after b → is_some before ≡ true → after ≡ None → length out ≡ 1
one_out None after a b out waits some none = absurd (false≢true some)
one_out (Some t) after a b out waits some none =
    let gone : length (waiting_out after b) ≡ 0 = ap (λ (o : Option Transmit). length (waiting_out o b)) none in
    omega (arith, ap (λ (l : List OutMessage). length l) waits, length-append out (waiting_out after b), gone)

pub never_ok : {T : Type 0} {goal : Type 0} {x : T} (P : IoFault → Type 0) (result : Result T IoFault) → IsErrAnd result P → result ≡ Ok x → goal
never_ok P (Ok y) err is = absurd err
never_ok P (Err e) err is = cc

-- a step of sending leaves what says that there is more
pub going_on : {X P : Type 0} (a b c : DriverPart X P) → b.keeps_going ≡ a.keeps_going → c ≡ record b { poller = c.poller; made = c.made } → a.keeps_going ≡ false → c.keeps_going ≡ false
going_on {X = X} {P = P} a b c before part off = ap (λ (z : DriverPart X P). z.keeps_going) part ∙ before ∙ off

-- ---- states

none_handed : (xs ys : List ConnectionEvent) → ys ≡ xs ++ ys → xs ≡ []
none_handed [] ys is = refl
none_handed (x ∷ xs) ys is = absurd (omega (arith, ap (λ (z : List ConnectionEvent). length z) is, length-append xs ys))

module _ {S : Type 0} where
  -- the log goes on where nothing failed
  pub logs_on : (answer : Result (Unit {0}) IoFault) (old new : Connection S) → IsBroughtBy answer old new → IsLogging old → OnOk answer (IsLogging new)
  logs_on (Ok done) old new brought logging = brought.brings.logging logging
  logs_on (Err e) old new brought logging = tt

  -- all events were handed over, and what was due was done
  timely : Both S → (v : SessionView S) (a b c : StateInner S) (x : IsHandled v.accepts v.sealed (Ok tt) a b) → AreHandled v x.handed a.connection b.connection → IsShown a.connection → IsHandled v.accepts v.sealed (Ok tt) b c → c.events ≡ b.events
      → (h : IsHandled v.accepts v.sealed (Ok tt) a c) × AreHandled v h.handed a.connection b.connection
  timely law v a b c x hands shown y events =
      let same : c.events.items ≡ b.events.items = ap (λ z. z.items) events in
      let none : y.handed ≡ [] = none_handed y.handed b.events.items (y.events ∙ ap (λ (l : List ConnectionEvent). y.handed ++ l) same) in
      let h : IsHandled v.accepts v.sealed (Ok tt) a c = record {
        same = y.same ∙ ap (λ (z : StateInner S). record z { connection = c.connection; events = c.events }) x.same;
        whole = y.whole;
        handed = x.handed;
        events = x.events ∙ ap (λ (l : List ConnectionEvent). x.handed ++ l) (sym same);
        carries = λ lawful.
            carries_then v.accepts v.sealed a.connection b.connection c.connection (acts_of_all x.handed) [] (acts_of_all x.handed) (x.carries lawful)
            (subst (λ (l : List ConnectionEvent). CarriesOnBy v.accepts v.sealed b.connection c.connection (acts_of_all l)) none (y.carries lawful)) (sym (append-nil (acts_of_all x.handed)));
        brings = brings_then law (Ok tt) a.connection b.connection c.connection x.brings shown y.brings;
        ended = λ shut. y.ended (x.ended shut);
      } in
      (h, hands)

  same_calls : (old new to : StateInner S) → new ≡ to → HasSameCalls old to → HasSameCalls old new
  same_calls old new to is h = subst (λ (z : StateInner S). HasSameCalls old z) (sym is) h

  -- nothing was sent then
  pub in_order_none : Both S → (v : SessionView S) (now : Moment) (a b c : StateInner S) (x : IsHandled v.accepts v.sealed (Ok tt) a b) → AreHandled v x.handed a.connection b.connection → IsShown a.connection
      → IsHandled v.accepts v.sealed (Ok tt) b c → c.events ≡ b.events → b.events.items ≡ [] → IsTimedAt now b.connection c.connection
      → (h : IsAdvanced v.accepts v.sealed (Ok tt) a c []) × (h.made ≡ []) × IsInOrder v now h.handed h.made a.connection c.connection
  in_order_none law v now a b c x hands shown y events all timed =
      let t = timely law v a b c x hands shown y events in
      let k = t.0 in
      let h : IsAdvanced v.accepts v.sealed (Ok tt) a c [] = record {
        same = same_calls a c (record a { connection = c.connection; events = c.events }) k.same refl;
        last_turn = ap (λ (z : StateInner S). z.last_turn) k.same;
        whole = k.whole;
        handed = k.handed;
        made = [];
        events = k.events;
        all = λ other. ap (λ z. z.items) events ∙ all;
        carries = λ lawful. subst (λ acts. CarriesOnBy v.accepts v.sealed a.connection c.connection acts) (sym (append-nil (acts_of_all k.handed))) (k.carries lawful);
        brings = k.brings;
        ended = k.ended;
        order = append-nil (waits_in a) ∙ sym (ap (λ (z : StateInner S). waits_in z) k.same);
      } in (
        h,
        refl,
        record { told = b.connection; hands = t.1; timed = c.connection; times = timed; fills = filled_by v.sealed now [] c.connection c.connection refl },
      )

  -- and then it was sent
  pub in_order_sent : Both S → (v : SessionView S) (now : Moment) (answer : Result (Unit {0}) IoFault) (a b c d : StateInner S) (out : List OutMessage) (x : IsHandled v.accepts v.sealed (Ok tt) a b)
      → AreHandled v x.handed a.connection b.connection → IsShown a.connection → IsHandled v.accepts v.sealed (Ok tt) b c → c.events ≡ b.events → b.events.items ≡ [] → IsTimedAt now b.connection c.connection
      → (z : IsSending v.accepts v.sealed answer c d out) → ((answer ≡ Err faults.Memory → ⊥) → IsFilled v.sealed now z.made c.connection d.connection)
      → (h : IsAdvanced v.accepts v.sealed answer a d out) × ((answer ≡ Err faults.Memory → ⊥) → IsInOrder v now h.handed h.made a.connection d.connection)
  in_order_sent law v now answer a b c d out x hands shown y events all timed z fills =
      let t = timely law v a b c x hands shown y events in
      let k = t.0 in
      let kept : d.events.items ≡ c.events.items = ap (λ (s : StateInner S). s.events.items) z.same in
      let h : IsAdvanced v.accepts v.sealed answer a d out = record {
        same = same_calls a d (record a { connection = d.connection; events = c.events; outgoing = d.outgoing; send_buffer = d.send_buffer })
            (z.same ∙ ap (λ (s : StateInner S). record s { connection = d.connection; outgoing = d.outgoing; send_buffer = d.send_buffer }) k.same) refl;
        last_turn = ap (λ (s : StateInner S). s.last_turn) z.same ∙ ap (λ (s : StateInner S). s.last_turn) k.same;
        whole = z.whole;
        handed = k.handed;
        made = z.made;
        events = k.events ∙ ap (λ (l : List ConnectionEvent). k.handed ++ l) (sym kept);
        all = λ other. kept ∙ ap (λ s. s.items) events ∙ all;
        carries = λ lawful.
            carries_then v.accepts v.sealed a.connection c.connection d.connection (acts_of_all k.handed) (made_all z.made) (acts_of_all k.handed ++ made_all z.made) (k.carries lawful) (z.carries lawful) refl;
        brings = brings_then law answer a.connection c.connection d.connection k.brings shown z.brings;
        ended = λ shut. z.ended (k.ended shut);
        order = ap (λ (l : List OutMessage). l ++ z.made) (sym (ap (λ (s : StateInner S). waits_in s) k.same)) ∙ z.order;
      } in (
        h,
        λ isnt. record { told = b.connection; hands = t.1; timed = c.connection; times = timed; fills = fills isnt },
      )
