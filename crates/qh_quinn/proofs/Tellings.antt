-- What is told to the application changes nothing of what a book shows.
use Rattle.std.proofs.Common.{◌≡◌, ℕ, ◌+◌, ◌<◌, ◌≤◌, Bool, true, false, not, List, [], ◌∷◌, ◌++◌, length, Option, None, Some, is_some, ◌==◌, if◌then◌else◌, refl, sym, ap, subst, ◌∙◌, arith}
use Rattle.std.proofs.lemmas.Bool.{false≢true}
use Rattle.qh_book.specs.Book.{Book}
use Rattle.qh_book.specs.Shown.{Note}
use Rattle.qh_conn.specs.Items.{came}
use Rattle.qh_conn.specs.Telling.{IsTold}
use Rattle.qh_conn.specs.Whole.{StandsStill}
use Rattle.qh_conn.specs.declared.connection.Connection.{Connection}
use Rattle.qh_conn.specs.declared.event.Event.{Event}
use Rattle.qh_conn.specs.declared.event.Event.TheVariants as event
use Rattle.qh_core.specs.Event.{IsPolledEvent}
use Rattle.qh_core.specs.declared.event.Event.{Event as CoreEvent}
use Rattle.qh_core.specs.declared.event.Event.TheVariants as core_event
use Rattle.qh_core.specs.declared.inner.Inner.{Inner}
use Rattle.qh_halves.specs.SendHalves.{write_limit}
use Rattle.qh_quinn.specs.Telling.{AreTold}
use Rattle.qh_quinn.specs.Waiting.{nudged_if}
use Rattle.qh_quinn.specs.declared.waiting.Waiting.{Waiting}
use Rattle.qh_shown.specs.Brings.{IsLogging, TellsOf, is_told}
use Rattle.qh_shown.specs.Connections.{ShowsConnection}
use Rattle.qh_streams.specs.Streams.{IsPolled, PlainStreams, still_blocked}
use Rattle.qh_streams.specs.declared.frames.StreamEvent.{StreamEvent}

-- what a law says of what is told
abbrev pub Tells : (S : Type 0) → Type 0
Tells S = (told : Option Event) (old new : Connection S) → IsTold old new told → TellsOf told old new

module _ {S : Type 0} where
  pub told_shows : Tells S → (was : Bool) (old : Connection S) (is : Bool) (new : Connection S) → AreTold was old is new → (notes : ℕ → Note) (b : Book) → ShowsConnection was old notes b → ShowsConnection is new notes b
  told_shows law _ _ _ _ (AreTold.none was old) notes b h = h
  told_shows law _ _ _ _ (AreTold.more was old mid_told mid new told before told_is stands) notes b h = (law told mid new told_is).shows mid_told notes b (told_shows law was old mid_told mid before notes b h)

  pub told_logging : Tells S → (was : Bool) (old : Connection S) (is : Bool) (new : Connection S) → AreTold was old is new → IsLogging old → IsLogging new
  told_logging law _ _ _ _ (AreTold.none was old) h = h
  told_logging law _ _ _ _ (AreTold.more was old mid_told mid new told before told_is stands) h = (law told mid new told_is).logging (told_logging law was old mid_told mid before h)

  pub told_logs : Tells S → (was : Bool) (old : Connection S) (is : Bool) (new : Connection S) → AreTold was old is new → came new ≡ came old
  told_logs law _ _ _ _ (AreTold.none was old) = refl
  told_logs law _ _ _ _ (AreTold.more was old mid_told mid new told before told_is stands) = (law told mid new told_is).logs ∙ told_logs law was old mid_told mid before

  core_state : (old new : Inner S) (told : Option CoreEvent) → IsPolledEvent old new told → (new.state ≡ old.state) × (new.error ≡ old.error)
  core_state old new told (IsPolledEvent.stream e is rest) = (ap (λ (z : Inner S). z.state) rest, ap (λ (z : Inner S). z.error) rest)
  core_state old new told (IsPolledEvent.lost mid error is has untold rest) = (ap (λ (z : Inner S). z.state) rest, ap (λ (z : Inner S). z.error) rest)
  core_state old new told (IsPolledEvent.none is quiet rest) = (ap (λ (z : Inner S). z.state) rest, ap (λ (z : Inner S). z.error) rest)

  one_state : (old new : Connection S) (told : Option Event) → IsTold old new told → (new.core.state ≡ old.core.state) × (new.core.error ≡ old.core.error)
  one_state old new told (IsTold.handshake_data due rest) = (ap (λ (z : Connection S). z.core.state) rest, ap (λ (z : Connection S). z.core.error) rest)
  one_state old new told (IsTold.connected quiet due rest) = (ap (λ (z : Connection S). z.core.state) rest, ap (λ (z : Connection S). z.core.error) rest)
  one_state old new told (IsTold.received quiet silent due rest) = (ap (λ (z : Connection S). z.core.state) rest, ap (λ (z : Connection S). z.core.error) rest)
  one_state old new told (IsTold.unblocked quiet silent still due rest) = (ap (λ (z : Connection S). z.core.state) rest, ap (λ (z : Connection S). z.core.error) rest)
  one_state old new told (IsTold.of_core told_core quiet silent still calm is rest) = core_state old.core new.core told_core is

  -- the connection is as open as before, and its error is the same
  pub told_state : (was : Bool) (old : Connection S) (is : Bool) (new : Connection S) → AreTold was old is new → (new.core.state ≡ old.core.state) × (new.core.error ≡ old.core.error)
  told_state _ _ _ _ (AreTold.none was old) = (refl, refl)
  told_state _ _ _ _ (AreTold.more was old mid_told mid new told before told_is stands) =
      let one = one_state mid new told told_is in
      let all = told_state was old mid_told mid before in
      (one.0 ∙ all.0, one.1 ∙ all.1)

  core_named : (old new : Inner S) (told : Option CoreEvent) → IsPolledEvent old new told → (new.side ≡ old.side) × (new.addresses ≡ old.addresses)
  core_named old new told (IsPolledEvent.stream e is rest) = (ap (λ (z : Inner S). z.side) rest, ap (λ (z : Inner S). z.addresses) rest)
  core_named old new told (IsPolledEvent.lost mid error is has untold rest) = (ap (λ (z : Inner S). z.side) rest, ap (λ (z : Inner S). z.addresses) rest)
  core_named old new told (IsPolledEvent.none is quiet rest) = (ap (λ (z : Inner S). z.side) rest, ap (λ (z : Inner S). z.addresses) rest)

  rest_named : (old new to : Connection S) → to.config ≡ old.config → to.core ≡ old.core → new ≡ to → (new.config ≡ old.config) × (new.core.side ≡ old.core.side) × (new.core.addresses ≡ old.core.addresses)
  rest_named old new to config core is =
      (ap (λ (z : Connection S). z.config) is ∙ config, ap (λ (z : Connection S). z.core.side) is ∙ ap (λ (z : Inner S). z.side) core, ap (λ (z : Connection S). z.core.addresses) is ∙ ap (λ (z : Inner S). z.addresses) core)

  one_named : (old new : Connection S) (told : Option Event) → IsTold old new told → (new.config ≡ old.config) × (new.core.side ≡ old.core.side) × (new.core.addresses ≡ old.core.addresses)
  one_named old new told (IsTold.handshake_data due rest) = rest_named old new _ refl refl rest
  one_named old new told (IsTold.connected quiet due rest) = rest_named old new _ refl refl rest
  one_named old new told (IsTold.received quiet silent due rest) = rest_named old new _ refl refl rest
  one_named old new told (IsTold.unblocked quiet silent still due rest) = rest_named old new _ refl refl rest
  one_named old new told (IsTold.of_core told_core quiet silent still calm is rest) = let core = core_named old.core new.core told_core is in (ap (λ (z : Connection S). z.config) rest, core.0, core.1)

  -- what its opening book has is the same
  pub told_named : (was : Bool) (old : Connection S) (is : Bool) (new : Connection S) → AreTold was old is new → (new.config ≡ old.config) × (new.core.side ≡ old.core.side) × (new.core.addresses ≡ old.core.addresses)
  told_named _ _ _ _ (AreTold.none was old) = (refl, refl, refl)
  told_named _ _ _ _ (AreTold.more was old mid_told mid new told before told_is stands) =
      let one = one_named mid new told told_is in
      let all = told_named was old mid_told mid before in
      (one.0 ∙ all.0, one.1 ∙ all.1, one.2 ∙ all.2)

  pub told_stands : (was : Bool) (old : Connection S) (is : Bool) (new : Connection S) → AreTold was old is new → StandsStill old new
  told_stands _ _ _ _ (AreTold.none was old) = λ accepts sealed hello t h. h
  told_stands _ _ _ _ (AreTold.more was old mid_told mid new told before told_is stands) = λ accepts sealed hello t h. stands accepts sealed hello t (told_stands was old mid_told mid before accepts sealed hello t h)

-- ---- how much is left to be told

abbrev pub bit : Bool → ℕ
bit true = 1
bit false = 0

abbrev pub streams_left : PlainStreams → ℕ
streams_left s = length s.blocked + length s.events

abbrev pub core_left : {S : Type 0} → Inner S → ℕ
core_left c = streams_left c.space.streams + bit (not c.is_lost_told)

abbrev pub told_left : {S : Type 0} → Connection S → ℕ
told_left c = bit c.is_data_due + (bit c.is_connected_due + (bit c.control.is_datagram_due + (bit c.control.is_unblocked_due + core_left c.core)))

shorter : (front : List ℕ) (id : ℕ) (rest : List ℕ) → length rest < length (front ++ id ∷ rest)
shorter [] id rest = omega arith
shorter (x ∷ front) id rest = let h = shorter front id rest in omega arith

still_less : (s : PlainStreams) → length (still_blocked s) ≤ length s.blocked
still_less s = at (write_limit s.send == 0)
  where
    at : (none : Bool) → length (if none then s.blocked else []) ≤ length s.blocked
    at true = omega arith
    at false = omega arith

polled_less : (old new : PlainStreams) (e : StreamEvent) → IsPolled old new (Some e) → streams_left new < streams_left old
polled_less old new _ (IsPolled.writable id front rest room is none writable new_is) =
    let h = shorter front id.0 rest in
    rw new_is (let k = ap length is in omega (arith, h, k))
polled_less old new _ (IsPolled.queued e es none is new_is) =
    let h = still_less old in
    rw new_is (let k = ap length is in omega (arith, h, k))

polled_none : (old new : PlainStreams) → IsPolled old new None → streams_left new ≤ streams_left old
polled_none old new (IsPolled.none none is new_is) = let h = still_less old in rw new_is (omega (arith, h))

module _ {S : Type 0} where
  core_less : (old new : Inner S) (told : CoreEvent) → IsPolledEvent old new (Some told) → core_left new < core_left old
  core_less old new told (IsPolledEvent.stream e is rest) = let h = polled_less old.space.streams new.space.streams e is in let k = ap (λ (z : Inner S). z.is_lost_told) rest in rw k (omega (arith, h))
  core_less old new told (IsPolledEvent.lost mid error is has untold rest) = let h = polled_none old.space.streams mid is in rw (rest, untold) (omega (arith, h))

  -- each event that is told leaves less to be told
  pub told_less : (old new : Connection S) (told : Option Event) → IsTold old new told → is_some told ≡ true → told_left new < told_left old
  told_less old new told (IsTold.handshake_data due rest) some = rw (rest, due) (omega arith)
  told_less old new told (IsTold.connected quiet due rest) some = rw (rest, due) (omega arith)
  told_less old new told (IsTold.received quiet silent due rest) some = rw (rest, due) (omega arith)
  told_less old new told (IsTold.unblocked quiet silent still due rest) some = rw (rest, due) (omega arith)
  told_less old new told (IsTold.of_core (Some e) quiet silent still calm is rest) some = let h = core_less old.core new.core e is in rw rest (omega (arith, h))
  told_less old new told (IsTold.of_core None quiet silent still calm is rest) some = absurd (false≢true some)

module _ {S : Type 0} where
  pub tell_on : (was : Bool) (old : Connection S) (is : Bool) (mid new : Connection S) (told : Option Event) → AreTold was old is mid → IsTold mid new told → StandsStill mid new → (now : Bool) → now ≡ is_told is told → AreTold was old now new
  tell_on was old is mid new told before told_is stands now e = subst (λ (z : Bool). AreTold was old z new) (sym e) (AreTold.more was old is mid new told before told_is stands)

  -- once nothing is left to be told, it was told whether the handshake is complete
  pub told_due : (old new : Connection S) (told : Option Event) → IsTold old new told → is_some told ≡ false → new.is_connected_due ≡ false
  told_due old new told (IsTold.handshake_data due rest) none = absurd (false≢true (sym none))
  told_due old new told (IsTold.connected quiet due rest) none = absurd (false≢true (sym none))
  told_due old new told (IsTold.received quiet silent due rest) none = absurd (false≢true (sym none))
  told_due old new told (IsTold.unblocked quiet silent still due rest) none = absurd (false≢true (sym none))
  told_due old new told (IsTold.of_core (Some e) quiet silent still calm is rest) none = absurd (false≢true (sym none))
  told_due old new told (IsTold.of_core None quiet silent still calm is rest) none = ap (λ (z : Connection S). z.is_connected_due) rest ∙ silent

-- ---- who is woken by it

-- those that wait for what the handshake tells, by the event that it is there
abbrev pub woken_by : Option Event → List Waiting → List Waiting
woken_by (Some event.HandshakeDataReady) ws = nudged_if true ws
woken_by other ws = ws

pub unwoken : (e : Event) → (e ≡ event.HandshakeDataReady → ⊥) → (ws : List Waiting) → woken_by (Some e) ws ≡ ws
unwoken event.HandshakeDataReady isnt ws = absurd (isnt refl)
unwoken other isnt ws = refl

module _ {S : Type 0} where
  -- the same are to be woken before and behind it
  pub told_woken : (old new : Connection S) (told : Option Event) (ws : List Waiting) → IsTold old new told → nudged_if new.is_data_due (woken_by told ws) ≡ nudged_if old.is_data_due ws
  told_woken old new told ws (IsTold.handshake_data due rest) = ap (λ (z : Connection S). nudged_if z.is_data_due (nudged_if true ws)) rest ∙ sym (ap (λ (d : Bool). nudged_if d ws) due)
  told_woken old new told ws (IsTold.connected quiet due rest) = ap (λ (z : Connection S). nudged_if z.is_data_due ws) rest
  told_woken old new told ws (IsTold.received quiet silent due rest) = ap (λ (z : Connection S). nudged_if z.is_data_due ws) rest
  told_woken old new told ws (IsTold.unblocked quiet silent still due rest) = ap (λ (z : Connection S). nudged_if z.is_data_due ws) rest
  told_woken old new told ws (IsTold.of_core (Some (core_event.ConnectionLost e)) quiet silent still calm is rest) = ap (λ (z : Connection S). nudged_if z.is_data_due ws) rest
  told_woken old new told ws (IsTold.of_core (Some (core_event.Stream e)) quiet silent still calm is rest) = ap (λ (z : Connection S). nudged_if z.is_data_due ws) rest
  told_woken old new told ws (IsTold.of_core None quiet silent still calm is rest) = ap (λ (z : Connection S). nudged_if z.is_data_due ws) rest

  -- once nothing is left to be told, they were
  pub data_told : (old new : Connection S) (told : Option Event) → IsTold old new told → is_some told ≡ false → old.is_data_due ≡ false
  data_told old new told (IsTold.handshake_data due rest) none = absurd (false≢true (sym none))
  data_told old new told (IsTold.connected quiet due rest) none = quiet
  data_told old new told (IsTold.received quiet silent due rest) none = quiet
  data_told old new told (IsTold.unblocked quiet silent still due rest) none = quiet
  data_told old new told (IsTold.of_core e quiet silent still calm is rest) none = quiet

-- no other event tells that it is
pub untold : (e : Event) → (e ≡ event.Connected → ⊥) → (was : Bool) → is_told was (Some e) ≡ was
untold event.Connected isnt was = absurd (isnt refl)
untold other isnt was = refl
