-- A whole turn of the driver, out of its parts.
use Rattle.std.proofs.Common.{◌≡◌, ◌⊎◌, ◌≢◌, ◌≤◌, ℕ, Bool, true, false, ◌&&◌, ◌||◌, not, List, [], ◌++◌, length, map, Option, None, Some, Result, Ok, Err, OnOk, is_some, if◌then◌else◌, append-nil, refl, sym, ap, subst, inl, inr, ◌∙◌, arith}
use Rattle.std.proofs.lemmas.Bool.{false≢true}
use Rattle.std.specs.List.{filter}
use Rattle.futures.specs.declared.task.Poll.{Poll}
use Rattle.futures.specs.declared.task.Poll.TheVariants.{Pending, Ready}
use Rattle.qh_base.specs.declared.connection_error.ConnectionError.{ConnectionError}
use Rattle.qh_base.specs.declared.connection_error.ConnectionError.TheVariants as error
use Rattle.qh_base.specs.declared.path.Transmit.{Transmit}
use Rattle.qh_base.specs.declared.time.Moment.{Moment}
use Rattle.qh_base.specs.declared.transport_error.TransportError.{TransportError}
use Rattle.qh_book.specs.Book.{Book}
use Rattle.qh_book.specs.Interests.{settled, waits}
use Rattle.qh_book.specs.Items.{bring_all}
use Rattle.qh_book.specs.Step.{Drives, driven}
use Rattle.qh_book.specs.declared.item.Item.{Item}
use Rattle.qh_conn.specs.Items.{came}
use Rattle.qh_conn.specs.Whole.{Stands, StandsStill}
use Rattle.qh_conn.specs.declared.connection.Connection.{Connection}
use Rattle.qh_conn.specs.declared.event.ConnectionEvent.{ConnectionEvent}
use Rattle.qh_core.specs.Event.{is_drained}
use Rattle.qh_core.specs.Inner.{is_open}
use Rattle.qh_core.specs.declared.state.State.{State as CoreState}
use Rattle.qh_handles.specs.Turns.{turn_reply}
use Rattle.qh_handshake.specs.Incoming.{SessionView}
use Rattle.qh_quinn.proofs.StatesKept.{kept, kept_state, rest_by, rest_self}
use Rattle.qh_quinn.proofs.TakenUp.{drained_shut, if_failed, not_failed}
use Rattle.qh_quinn.proofs.Tellings.{told_state}
use Rattle.qh_quinn.specs.Acting.{IsChanged}
use Rattle.qh_quinn.specs.Losses.{lost_items, new_loss}
use Rattle.qh_quinn.specs.States.{IsState, Shows}
use Rattle.qh_quinn.specs.Telling.{AreTold}
use Rattle.qh_quinn.specs.Turning.{HasMadeNone, HasSentAll, IsAdvanced, IsErrorKept, IsHeeded, IsInOrder, IsTakenUp, IsTurned, IsTurnOf, acts_of_all, made_all, waiting_out, waits_in}
use Rattle.qh_quinn.specs.Waiting.{AreWoken, nudged_if}
use Rattle.qh_quinn.specs.declared.inner.StateInner.{StateInner}
use Rattle.qh_quinn.specs.declared.waiting.Waiting.{Waiting}
use Rattle.qh_runtime.specs.Socket.{has_failed, poll_failed}
use Rattle.qh_runtime.specs.declared.runtime.IoFault.{IoFault}
use Rattle.qh_runtime.specs.declared.runtime.IoFault.TheVariants as faults
use Rattle.qh_runtime.specs.declared.runtime.OutMessage.{OutMessage}
use Rattle.qh_shown.specs.Connections.{is_wanting}
use Rattle.qh_shown.specs.Items.{item_of}
use Rattle.qh_spec.specs.Codes as codes

-- ---- how it ends

-- how the answer stands to what was taken up, and to whether the connection is drained
pub record Ends (answer : Poll (Result (Unit {0}) IoFault)) (done : Result (Unit {0}) IoFault) (drained : Bool) : Type 0 where
  pub faulty : (fault : IoFault) → done ≡ Err fault → answer ≡ Ready (Err fault)
  pub faulted : (fault : IoFault) → answer ≡ Ready (Err fault) → done ≡ Err fault
  pub over : answer ≡ Ready (Ok tt) → drained ≡ true
  pub goes_on : answer ≡ Pending → (done ≡ Ok tt) × (drained ≡ false)
  pub failed : poll_failed answer ≡ true → done ≡ Err faults.Failed

pub ends_fault : (fault : IoFault) (done : Result (Unit {0}) IoFault) (drained : Bool) → done ≡ Err fault → Ends (Ready (Err fault)) done drained
ends_fault fault done drained is = record {
  faulty = λ other e. ap Ready (sym is ∙ e);
  faulted = λ other e. cc;
  over = λ e. cc;
  goes_on = λ e. cc;
  failed = λ e. is ∙ if_failed (Err fault) e;
}

pub ends_rest : (answer : Poll (Result (Unit {0}) IoFault)) (done : Result (Unit {0}) IoFault) (drained : Bool) → done ≡ Ok tt → (drained ≡ true → answer ≡ Ready (Ok tt)) → (drained ≡ false → answer ≡ Pending) → Ends answer done drained
ends_rest answer done drained is over goes_on = at drained refl
  where
    at : (d : Bool) → drained ≡ d → Ends answer done drained
    at true e = let a = over e in record {
      faulty = λ fault f. cc;
      faulted = λ fault f. cc;
      over = λ p. e;
      goes_on = λ p. cc;
      failed = λ p. absurd (false≢true (sym (ap (λ (z : Poll (Result (Unit {0}) IoFault)). poll_failed z) a) ∙ p));
    }
    at false e = let a = goes_on e in record {
      faulty = λ fault f. cc;
      faulted = λ fault f. cc;
      over = λ p. cc;
      goes_on = λ p. (is, e);
      failed = λ p. absurd (false≢true (sym (ap (λ (z : Poll (Result (Unit {0}) IoFault)). poll_failed z) a) ∙ p));
    }

-- the answer says that the socket failed exactly if what was taken up does
failed_alike : (answer : Poll (Result (Unit {0}) IoFault)) (done : Result (Unit {0}) IoFault) (drained : Bool) → Ends answer done drained → poll_failed answer ≡ has_failed done
failed_alike answer done drained ends = at (poll_failed answer) refl (has_failed done) refl
  where
    at : (p : Bool) → poll_failed answer ≡ p → (d : Bool) → has_failed done ≡ d → p ≡ d
    at true p true d = refl
    at true p false d = absurd (false≢true (sym d ∙ ap has_failed (ends.failed p)))
    at false p true d = absurd (false≢true (sym p ∙ ap (λ (z : Poll (Result (Unit {0}) IoFault)). poll_failed z) (ends.faulty faults.Failed (if_failed done d))))
    at false p false d = refl

lost_if : (loss : Option ConnectionError) (up : Bool) → is_some loss ≡ not up → up ≡ false → is_some loss ≡ true
lost_if loss up is shut = is ∙ ap not shut

sent_by : (sent : Result (Unit {0}) IoFault) (made : Type 0) → sent ≡ Ok tt → OnOk sent made → made
sent_by sent made is h = subst (λ (z : Result (Unit {0}) IoFault). OnOk z made) is h

-- what the answer of a turn is to the book
drives : (T : Type 0) (answer : Poll (Result (Unit {0}) IoFault)) (b : Book) (items : List Item) (loss : Option ConnectionError) → (bring_all items b).error ≡ loss → (answer ≡ Ready (Ok tt) → is_some loss ≡ true)
    → (poll_failed answer ≡ true → (e : TransportError) × (loss ≡ Some (error.TransportError e)) × (e.code.0 ≡ codes.internal_error)) → Drives {T = T} b items (turn_reply {T = T} answer) (driven items b)
drives T Pending b items loss is over failed = refl
drives T (Ready (Ok done)) b items loss is over failed = (ap is_some is ∙ over refl, refl)
drives T (Ready (Err faults.Failed)) b items loss is over failed = let e = failed refl in (e.0, is ∙ e.1, e.2, refl)
drives T (Ready (Err faults.WouldBlock)) b items loss is over failed = refl
drives T (Ready (Err faults.Reset)) b items loss is over failed = refl
drives T (Ready (Err faults.Memory)) b items loss is over failed = refl

-- at most one waits for the socket
one_waits : (o : Option Transmit) (bytes : List ℕ) → length (waiting_out o bytes) ≤ 1
one_waits None bytes = omega arith
one_waits (Some t) bytes = omega arith

-- ---- its second half

module _ {S : Type 0} where
  -- What was brought is taken up, calls are woken, and the driver waits or not.
  pub record IsEnding (sent done : Result (Unit {0}) IoFault) (s a t w f : StateInner S) : Type 0 where
    pub taken : IsTakenUp done s t
    pub other : sent ≢ Err faults.Failed → (done ≡ sent) × AreTold a.is_connected a.connection t.is_connected t.connection × (t.outgoing ≡ a.outgoing)
    pub failed : sent ≡ Err faults.Failed → (t.outgoing ≡ None) × ((done ≡ sent) ⊎ ((done ≡ Ok tt) × (is_drained t.connection.core.state ≡ true)))
    pub stands : StandsStill a.connection t.connection
    pub rest : t ≡ record a { connection = t.connection; is_connected = t.is_connected; error = t.error; waiting = t.waiting; outgoing = t.outgoing }
    pub wakes : IsChanged settled t w
    pub woken : w ≡ record t { waiting = w.waiting }
    pub left : f ≡ record w { driver = f.driver }

  -- a socket that failed isn't gone on with
  unfailed : (sent done : Result (Unit {0}) IoFault) (s a t w f : StateInner S) → IsEnding sent done s a t w f → done ≡ Ok tt → is_drained w.connection.core.state ≡ false → sent ≢ Err faults.Failed
  unfailed sent done s a t w f h ok lives failed = at (h.failed failed).1
    where
      at : (done ≡ sent) ⊎ ((done ≡ Ok tt) × (is_drained t.connection.core.state ≡ true)) → ⊥
      at (inl same) = let k : Ok tt ≡ Err faults.Failed = sym ok ∙ same ∙ failed in cc
      at (inr over) = false≢true (sym lives ∙ ap (λ (z : StateInner S). is_drained z.connection.core.state) h.woken ∙ over.1)

  -- nor does one that wants memory
  wants : (sent done : Result (Unit {0}) IoFault) (s a t w f : StateInner S) → IsEnding sent done s a t w f → done ≡ Err faults.Memory → sent ≢ Err faults.Failed
  wants sent done s a t w f h is failed = at (h.failed failed).1
    where
      at : (done ≡ sent) ⊎ ((done ≡ Ok tt) × (is_drained t.connection.core.state ≡ true)) → ⊥
      at (inl same) = let k : Err faults.Memory ≡ Err faults.Failed = sym is ∙ same ∙ failed in cc
      at (inr over) = let k : Err faults.Memory ≡ Ok tt = sym is ∙ over.0 in cc

  ending_state : (sent done : Result (Unit {0}) IoFault) (s a t w f : StateInner S) → IsEnding sent done s a t w f → IsState f
  ending_state sent done s a t w f h =
      kept_state w f (rest_by w f (record w { connection = w.connection; driver = f.driver }) h.left (rest_self w {connection = w.connection} {driver = f.driver})) (ap (λ (z : StateInner S). z.connection) h.left) h.wakes.state

  ending_shows : (sent done : Result (Unit {0}) IoFault) (s a t w f : StateInner S) → IsEnding sent done s a t w f → (b : Book) → Shows w b → Shows f b
  ending_shows sent done s a t w f h =
      kept w f (rest_by w f (record w { connection = w.connection; driver = f.driver }) h.left (rest_self w {connection = w.connection} {driver = f.driver})) (ap (λ (z : StateInner S). z.connection) h.left)

  ending_connection : (sent done : Result (Unit {0}) IoFault) (s a t w f : StateInner S) → IsEnding sent done s a t w f → f.connection ≡ t.connection
  ending_connection sent done s a t w f h = ap (λ (z : StateInner S). z.connection) h.left ∙ ap (λ (z : StateInner S). z.connection) h.woken

  -- what is new of the loss is what it was before calls were woken
  loss_is : (sent done : Result (Unit {0}) IoFault) (answer : Poll (Result (Unit {0}) IoFault)) (s a t w f : StateInner S) → IsEnding sent done s a t w f → Ends answer done (is_drained w.connection.core.state)
      → new_loss (poll_failed answer) s f ≡ new_loss (has_failed done) s t
  loss_is sent done answer s a t w f h ends =
      ap (λ (p : Bool). new_loss p s f) (failed_alike answer done (is_drained w.connection.core.state) ends)
      ∙ ap (λ (c : Connection S). if has_failed done || (not (is_some s.error) || (not (is_wanting s.connection) && is_wanting c)) then f.error else None) (ending_connection sent done s a t w f h)
      ∙ ap (λ (e : Option ConnectionError). if has_failed done || (not (is_some s.error) || (not (is_wanting s.connection) && is_wanting t.connection)) then e else None)
      (ap (λ (z : StateInner S). z.error) h.left ∙ ap (λ (z : StateInner S). z.error) h.woken)

  turned_each : (T : Type 0) (sent done : Result (Unit {0}) IoFault) (answer : Poll (Result (Unit {0}) IoFault)) (now : Moment) (s a t w f : StateInner S) (h : IsEnding sent done s a t w f) → Ends answer done (is_drained w.connection.core.state)
      → (b : Book) → Shows s b → IsTurnOf T now answer (map item_of h.taken.items ++ lost_items (new_loss (poll_failed answer) s f)) b f
  turned_each T sent done answer now s a t w f h ends b shown =
      let items : List Item = map item_of h.taken.items ++ lost_items (new_loss (poll_failed answer) s f) in
      let led : Shows t (bring_all items b) = subst (λ (l : Option ConnectionError). Shows t (bring_all (map item_of h.taken.items ++ lost_items l) b)) (sym (loss_is sent done answer s a t w f h ends)) (h.taken.each b shown) in
      let here : Shows f (driven items b) = ending_shows sent done s a t w f h (driven items b) (h.wakes.each (bring_all items b) led) in
      let state = ending_state sent done s a t w f h in
      record {
        after = driven items b;
        steps = drives T answer b items f.error here.shows.error
            (λ is. lost_if f.error (is_open f.connection.core.state) state.lost (drained_shut f.connection.core.state (ap (λ (z : StateInner S). is_drained z.connection.core.state) h.left ∙ ends.over is)))
            (λ is. let e = h.taken.failed (ends.failed is) in (e.0, ap (λ (z : StateInner S). z.error) h.left ∙ ap (λ (z : StateInner S). z.error) h.woken ∙ e.1, e.2));
        shows = here;
      }

  -- the datagram that waited is dropped if the socket failed
  abbrev dropped_if : Bool → StateInner S → List OutMessage
  dropped_if true s = waits_in s
  dropped_if false s = []

  left_waiting : (sent done : Result (Unit {0}) IoFault) (s a t w f : StateInner S) → IsEnding sent done s a t w f → (failed : Bool) → has_failed sent ≡ failed → waits_in a ≡ dropped_if failed a ++ waits_in f
  left_waiting sent done s a t w f h failed is = at failed is
    where
      out : f.outgoing ≡ t.outgoing
      out = ap (λ (z : StateInner S). z.outgoing) h.left ∙ ap (λ (z : StateInner S). z.outgoing) h.woken

      bytes : f.send_buffer.items ≡ a.send_buffer.items
      bytes = ap (λ (z : StateInner S). z.send_buffer.items) h.left ∙ ap (λ (z : StateInner S). z.send_buffer.items) h.woken ∙ ap (λ (z : StateInner S). z.send_buffer.items) h.rest

      at : (failed : Bool) → has_failed sent ≡ failed → waits_in a ≡ dropped_if failed a ++ waits_in f
      at true e =
          let none : f.outgoing ≡ None = out ∙ (h.failed (if_failed sent e)).0 in
          let gone : waits_in f ≡ [] = ap (λ (o : Option Transmit). waiting_out o f.send_buffer.items) none in
          sym (append-nil (waits_in a)) ∙ ap (λ (l : List OutMessage). waits_in a ++ l) (sym gone)
      at false e =
          let same : f.outgoing ≡ a.outgoing = out ∙ (h.other (not_failed sent e)).2 in
          sym (ap (λ (o : Option Transmit). waiting_out o f.send_buffer.items) same ∙ ap (λ (l : List ℕ). waiting_out a.outgoing l) bytes)

  few_dropped : (failed : Bool) (a : StateInner S) → length (dropped_if failed a) ≤ 1
  few_dropped true a = one_waits a.outgoing a.send_buffer.items
  few_dropped false a = omega arith

  none_dropped : (sent : Result (Unit {0}) IoFault) (a : StateInner S) → sent ≢ Err faults.Failed → dropped_if (has_failed sent) a ≡ []
  none_dropped sent a isnt = at (has_failed sent) refl
    where
      at : (failed : Bool) → has_failed sent ≡ failed → dropped_if failed a ≡ []
      at true e = absurd (isnt (if_failed sent e))
      at false e = refl

  -- one that goes on, or wants memory, isn't one whose socket failed
  unbroken : (sent done : Result (Unit {0}) IoFault) (answer : Poll (Result (Unit {0}) IoFault)) (s a t w f : StateInner S) → IsEnding sent done s a t w f → Ends answer done (is_drained w.connection.core.state)
      → (answer ≡ Pending) ⊎ (answer ≡ Ready (Err faults.Memory)) → sent ≢ Err faults.Failed
  unbroken sent done answer s a t w f h ends (inl is) = let e = ends.goes_on is in unfailed sent done s a t w f h e.0 e.1
  unbroken sent done answer s a t w f h ends (inr is) = wants sent done s a t w f h (ends.faulted faults.Memory is)

  wanting_on : (sent done : Result (Unit {0}) IoFault) (answer : Poll (Result (Unit {0}) IoFault)) (s a t w f : StateInner S) → IsEnding sent done s a t w f → Ends answer done (is_drained w.connection.core.state) → sent ≡ Err faults.Memory → answer ≡ Ready (Err faults.Memory)
  wanting_on sent done answer s a t w f h ends is =
      let isnt : sent ≢ Err faults.Failed = λ failed. let k : Err faults.Memory ≡ Err faults.Failed = sym is ∙ failed in cc in
      ends.faulty faults.Memory ((h.other isnt).0 ∙ is)

  -- calls that are woken, and the driver that waits, change nothing of it
  heeded_still : (now : Moment) (failed was : Bool) (c : Connection S) (t w f : StateInner S) → w ≡ record t { waiting = w.waiting } → f ≡ record w { driver = f.driver } → IsHeeded now failed was c t → IsHeeded now failed was c f
  heeded_still now failed was c t w f woken left h =
      let k : IsHeeded now failed was c w = subst (λ (z : StateInner S). IsHeeded now failed was c z) (sym woken) (record { lost = h.lost; fails = h.fails; other = h.other; tells = h.tells }) in
      subst (λ (z : StateInner S). IsHeeded now failed was c z) (sym left) (record { lost = k.lost; fails = k.fails; other = k.other; tells = k.tells })

  -- who is woken
  pub woken_on : (a t w f : StateInner S) (state : IsState t) → t.waiting.items ≡ nudged_if a.connection.is_data_due a.waiting.items
      → ((b : Book) → Shows t b → w.waiting.items ≡ filter (λ (x : Waiting). waits b x.interest) t.waiting.items) → f ≡ record w { driver = f.driver } → AreWoken a.connection.is_data_due a.waiting.items f.waiting.items
  woken_on a t w f state nudged kept left = (
    λ i. waits state.book i,
    ap (λ (z : StateInner S). z.waiting.items) left ∙ kept state.book state.shown ∙ ap (λ (ws : List Waiting). filter (λ (x : Waiting). waits state.book x.interest) ws) nudged,
  )

  kept_still : (s t w f : StateInner S) → w ≡ record t { waiting = w.waiting } → f ≡ record w { driver = f.driver } → IsErrorKept s t → IsErrorKept s f
  kept_still s t w f woken left h =
      let k : IsErrorKept s w = subst (λ (z : StateInner S). IsErrorKept s z) (sym woken) (record { stays = h.stays; lost = h.lost }) in
      subst (λ (z : StateInner S). IsErrorKept s z) (sym left) (record { stays = k.stays; lost = k.lost })

  pub turned : (T : Type 0) (v : SessionView S) (sent done : Result (Unit {0}) IoFault) (answer : Poll (Result (Unit {0}) IoFault)) (now : Moment) (is_held : Bool) (out : List OutMessage) (s a t w f : StateInner S)
      (advanced : IsAdvanced v.accepts v.sealed sent (record s { last_turn = now }) a out) → length out ≤ 20 → (is_held ≡ true → (advanced.made ≡ []) × (out ≡ []))
      → ((sent ≡ Err faults.Memory → ⊥) → IsInOrder v now advanced.handed advanced.made s.connection a.connection) → IsEnding sent done s a t w f → Ends answer done (is_drained w.connection.core.state)
      → IsHeeded now (has_failed done) a.is_connected a.connection t → (has_failed done ≡ false → s.error ≡ a.error → IsErrorKept s t) → AreWoken a.connection.is_data_due a.waiting.items f.waiting.items
      → IsTurned T v s now is_held out answer f
  turned T v sent done answer now is_held out s a t w f advanced few held ordered h ends heeded kept_error woken =
      let events : f.events.items ≡ a.events.items = ap (λ (z : StateInner S). z.events.items) h.left ∙ ap (λ (z : StateInner S). z.events.items) h.woken ∙ ap (λ (z : StateInner S). z.events.items) h.rest in
      let same : f.connection ≡ t.connection = ap (λ (z : StateInner S). z.connection) h.left ∙ ap (λ (z : StateInner S). z.connection) h.woken in
      let failed : poll_failed answer ≡ has_failed done = failed_alike answer done (is_drained w.connection.core.state) ends in
      let drained : is_drained f.connection.core.state ≡ is_drained w.connection.core.state = ap (λ (z : StateInner S). is_drained z.connection.core.state) h.left in
      record {
        items = h.taken.items;
        logs = ap came (ending_connection sent done s a t w f h) ∙ h.taken.logs;
        each = turned_each T sent done answer now s a t w f h ends;
        state = ending_state sent done s a t w f h;
        handles = (
          ap (λ (z : StateInner S). z.handles) h.left ∙ ap (λ (z : StateInner S). z.handles) h.woken ∙ ap (λ (z : StateInner S). z.handles) h.rest ∙ ap (λ (z : StateInner S). z.handles) advanced.same,
          ap (λ (z : StateInner S). z.readers) h.left ∙ ap (λ (z : StateInner S). z.readers) h.woken ∙ ap (λ (z : StateInner S). z.readers) h.rest ∙ ap (λ (z : StateInner S). z.readers) advanced.same,
          ap (λ (z : StateInner S). z.stable_id) h.left ∙ ap (λ (z : StateInner S). z.stable_id) h.woken ∙ ap (λ (z : StateInner S). z.stable_id) h.rest ∙ ap (λ (z : StateInner S). z.stable_id) advanced.same,
        );
        handed = advanced.handed;
        made = advanced.made;
        dropped = dropped_if (has_failed sent) a;
        events = advanced.events ∙ ap (λ (l : List ConnectionEvent). advanced.handed ++ l) (sym events);
        all = λ isnt. events ∙ advanced.all (λ is. isnt (wanting_on sent done answer s a t w f h ends is));
        carries = λ lawful hello acts stood. subst (λ (z : Connection S). Stands v.accepts v.sealed hello z (acts ++ (acts_of_all advanced.handed ++ made_all advanced.made))) (sym same) (h.stands v.accepts v.sealed hello (acts ++ (acts_of_all advanced.handed ++ made_all advanced.made)) (advanced.carries lawful hello acts stood));
        in_order = λ isnt. (
          a.connection,
          ordered (λ is. isnt (wanting_on sent done answer s a t w f h ends is)),
          subst (λ (x : Bool). IsHeeded now x s.is_connected a.connection f) (sym failed)
              (subst (λ (was : Bool). IsHeeded now (has_failed done) was a.connection f) (ap (λ (z : StateInner S). z.is_connected) advanced.same) (heeded_still now (has_failed done) a.is_connected a.connection t w f h.woken h.left heeded)),
          subst (λ (ws : List Waiting). AreWoken a.connection.is_data_due ws f.waiting.items) (ap (λ (z : StateInner S). z.waiting.items) advanced.same) woken,
        );
        error = λ is. kept_still s t w f h.woken h.left (kept_error (sym failed ∙ is) (sym (ap (λ (z : StateInner S). z.error) advanced.same)));
        order = advanced.order ∙ ap (λ (l : List OutMessage). out ++ l) (left_waiting sent done s a t w f h (has_failed sent) refl);
        none_dropped = λ is. none_dropped sent a (unbroken sent done answer s a t w f h ends is);
        few_dropped = few_dropped (has_failed sent) a;
        last_turn = ap (λ (z : StateInner S). z.last_turn) h.left ∙ ap (λ (z : StateInner S). z.last_turn) h.woken ∙ ap (λ (z : StateInner S). z.last_turn) h.rest ∙ advanced.last_turn;
        few = few;
        held = held;
        drained = λ is. drained ∙ ends.over is;
        goes_on = λ is. drained ∙ (ends.goes_on is).1;
      }

  -- ---- what it sends

  -- one that goes on was sent without a fault
  pub goes_on_sent : (sent done : Result (Unit {0}) IoFault) (answer : Poll (Result (Unit {0}) IoFault)) (s a t w f : StateInner S) (made : Type 0) → IsEnding sent done s a t w f → Ends answer done (is_drained w.connection.core.state) → OnOk sent made → answer ≡ Pending → made
  goes_on_sent sent done answer s a t w f made h ends sends is =
      let e = ends.goes_on is in
      let k = h.other (unfailed sent done s a t w f h e.0 e.1) in
      sent_by sent made (sym k.0 ∙ e.0) sends

  pub sends_all : (sent done : Result (Unit {0}) IoFault) (answer : Poll (Result (Unit {0}) IoFault)) (keeps_going : Bool) (s a t w f : StateInner S) → IsEnding sent done s a t w f → Ends answer done (is_drained w.connection.core.state)
      → OnOk sent (is_drained a.connection.core.state ≡ false → keeps_going ≡ false → HasMadeNone a) → answer ≡ Pending → keeps_going ≡ false → HasSentAll f
  sends_all sent done answer keeps_going s a t w f h ends sends is calm =
      let e = ends.goes_on is in
      let k = h.other (unfailed sent done s a t w f h e.0 e.1) in
      let state = told_state a.is_connected a.connection t.is_connected t.connection k.1 in
      let lives : is_drained a.connection.core.state ≡ false = sym (ap (λ (z : CoreState). is_drained z) state.0) ∙ sym (ap (λ (z : StateInner S). is_drained z.connection.core.state) h.woken) ∙ e.1 in
      let m : HasMadeNone a = sent_by sent (is_drained a.connection.core.state ≡ false → keeps_going ≡ false → HasMadeNone a) (sym k.0 ∙ e.0) sends lives calm in
      record {
        none_waits = ap (λ (z : StateInner S). z.outgoing) h.left ∙ ap (λ (z : StateInner S). z.outgoing) h.woken ∙ k.2 ∙ m.none_waits;
        before = m.before;
        silent = m.silent;
        mid = a.connection;
        still = m.still;
        was_told = a.is_connected;
        log = f.connection.control.log;
        told = subst (λ (z : StateInner S). AreTold a.is_connected a.connection z.is_connected z.connection) (sym h.left) (subst (λ (z : StateInner S). AreTold a.is_connected a.connection z.is_connected z.connection) (sym h.woken) k.1);
      }
