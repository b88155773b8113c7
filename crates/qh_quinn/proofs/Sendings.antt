-- A datagram is made, and waits for the socket, or goes.
use Rattle.std.proofs.Common.{◌≡◌, ℕ, Bool, true, false, List, [], ◌∷◌, ◌++◌, Option, Some, None, Result, Ok, Err, IfSome, IsErr, is_some, append-nil, refl, sym, ap, subst, inl, inr, ◌∙◌}
use Rattle.std.proofs.lemmas.Bool.{false≢true}
use Rattle.qh_base.specs.declared.memory.Memory.{Memory as OutOfMemory}
use Rattle.qh_base.specs.declared.path.Transmit.{Transmit}
use Rattle.qh_base.specs.declared.time.Moment.{Moment}
use Rattle.qh_conn.specs.Outgoing.{IsSilent, IsStill, IsTransmitted, made_acts}
use Rattle.qh_conn.specs.Unread.{EndsUnsent, HasFailed, IsUnsent}
use Rattle.qh_conn.specs.Whole.{CarriesOnBy, IsWhole}
use Rattle.qh_conn.specs.declared.connection.Connection.{Connection}
use Rattle.qh_core.specs.Inner.{is_open}
use Rattle.qh_core.specs.Made.{AcceptsTags, MakesTagsOf}
use Rattle.qh_handles.specs.Turns.{AreSent}
use Rattle.qh_handshake.specs.Outgoing.{IsCloseUnsent}
use Rattle.qh_handshake.specs.declared.handshake.Handshake.{Handshake}
use Rattle.qh_packet.specs.Session.{SealsTag}
use Rattle.qh_quinn.proofs.Handling.{carries_none}
use Rattle.qh_quinn.specs.Turning.{AreLawful, AreMade, HasMadeNone, IsBrought, IsBroughtBy, IsEnded, IsFilled, IsSending, ended, made_all, some, waiting_out, waits_in, wanting}
use Rattle.qh_quinn.specs.declared.inner.StateInner.{StateInner}
use Rattle.qh_runtime.specs.Socket.{with_sent}
use Rattle.qh_runtime.specs.declared.runtime.IoFault.{IoFault}
use Rattle.qh_runtime.specs.declared.runtime.OutMessage.{OutMessage}
use Rattle.qh_shown.specs.Brings.{Brings, BringsSome, EndsWanting}
use Rattle.qh_shown.specs.Connections.{is_wanting}
use Rattle.qh_spec.specs.Transcript.{Act}

-- what laws say of a datagram that is sent, of none, and of want of memory for one
abbrev pub Sends : (S : Type 0) → Type 0
Sends S = (sealed : SealsTag) (now : Moment) (old new : Connection S) (before after : List ℕ) (transmit : Transmit) → IsWhole old → IsTransmitted sealed now old new before after transmit → BringsSome old new

abbrev pub IsQuiet : (S : Type 0) → Type 0
IsQuiet S = (old new : Connection S) → IsStill old new → Brings [] old new

abbrev pub Unsents : (S : Type 0) → Type 0
Unsents S = (now : Moment) (old mid new : Connection S) → IsWhole old → IsWhole new → IsUnsent now old mid → HasFailed mid new → EndsWanting old new

abbrev pub Closings : (S : Type 0) → Type 0
Closings S = (old new : Connection S) → new ≡ record old { handshake = new.handshake } → new.handshake.peer ≡ old.handshake.peer → Brings [] old new

none_waits : (o : Option Transmit) (bytes : List ℕ) → is_some o ≡ false → waiting_out o bytes ≡ []
none_waits None bytes none = refl
none_waits (Some t) bytes none = absurd (false≢true (sym none))

none_is : (o : Option Transmit) → is_some o ≡ false → o ≡ None
none_is None none = refl
none_is (Some t) none = absurd (false≢true (sym none))

made_is : (before bytes : List ℕ) (o : Option Transmit) → before ≡ [] → made_acts before bytes (Ok o) ≡ made_all (waiting_out o bytes)
made_is before bytes None none = refl
made_is before bytes (Some t) none = rw none refl

-- an error is no answer
pub never_made : {T : Type 0} {E : Type 0} {goal : Type 0} {x : T} (r : Result T E) → IsErr r → r ≡ Ok x → goal
never_made (Ok y) err is = absurd (false≢true err)
never_made (Err e) err is = cc

same_peer : (old new : Handshake) → IsCloseUnsent old new → new.peer ≡ old.peer
same_peer old new (IsCloseUnsent.same is) = ap (λ (z : Handshake). z.peer) is
same_peer old new (IsCloseUnsent.used space has unlimited fits is) = ap (λ (z : Handshake). z.peer) is

module _ {S : Type 0} where
  -- what a datagram brings, if one was made
  pub sent_brings : Sends S → IsQuiet S → (sealed : SealsTag) (now : Moment) (old new : Connection S) (before after : List ℕ) (o : Option Transmit) → IsWhole old → IfSome o (λ t. IsTransmitted sealed now old new before after t)
      → (o ≡ None → IsStill old new) → BringsSome old new
  sent_brings sends quiet sealed now old new before after (Some t) whole sent none = sends sealed now old new before after t whole sent
  sent_brings sends quiet sealed now old new before after None whole sent none = record { items = []; brings = quiet old new (none refl) }

  -- and what want of memory for one
  pub unsent_brings : Unsents S → Closings S → (now : Moment) (old mid new : Connection S) → IsWhole old → IsWhole new → is_wanting old ≡ false → IsUnsent now old mid → (EndsUnsent old → HasFailed mid new)
      → (is_open old.core.state ≡ false → old.is_connected ≡ false → IsCloseUnsent old.handshake new.handshake × (new ≡ record old { handshake = new.handshake })) → IsBrought old new
  unsent_brings unsents closings now old mid new whole after calm unsent fails closing = at (is_open old.core.state) refl old.is_connected refl
    where
      ends : EndsUnsent old → IsBrought old new
      ends e = wanting calm (unsents now old mid new whole after unsent (fails e))

      at : (up : Bool) → is_open old.core.state ≡ up → (connected : Bool) → old.is_connected ≡ connected → IsBrought old new
      at true up connected is = ends (inl up)
      at false shut true is = ends (inr is)
      at false shut false is = let k = closing shut is in some (record { items = []; brings = closings old new k.1 (same_peer old.handshake new.handshake k.0) })

  -- the datagram that was made
  made_one : (sealed : MakesTagsOf S) (now : Moment) (old new : Connection S) (before bytes : List ℕ) (o : Option Transmit) → before ≡ [] → IfSome o (λ t. IsTransmitted (sealed old.core.session) now old new before bytes t) → is_some o ≡ true
      → AreMade sealed now (waiting_out o bytes) old new
  made_one sealed now old new before bytes None cleared sent is = absurd (false≢true is)
  made_one sealed now old new before bytes (Some t) cleared sent is = (new, subst (λ (l : List ℕ). IsTransmitted (sealed old.core.session) now old new l bytes t) cleared sent, refl)

  -- or there was nothing to be sent
  filled_one : (sealed : MakesTagsOf S) (now : Moment) (old new : Connection S) (before bytes : List ℕ) (o : Option Transmit) → before ≡ [] → IfSome o (λ t. IsTransmitted (sealed old.core.session) now old new before bytes t)
      → (o ≡ None → IsSilent old × IsStill old new) → IsFilled sealed now (waiting_out o bytes) old new
  filled_one sealed now old new before bytes None cleared sent none = record { filled = old; makes = refl; ends = inr (none refl) }
  filled_one sealed now old new before bytes (Some t) cleared sent none = record { filled = new; makes = made_one sealed now old new before bytes (Some t) cleared sent refl; ends = inl refl }

-- the call that wasn't done
pub any_ended : {T : Type 0} {S : Type 0} (r : Result T OutOfMemory) (old new : Connection S) → IsErr r → IsBrought old new → IsBroughtBy (ended r) old new
any_ended (Ok x) old new is h = absurd (false≢true is)
any_ended (Err e) old new is h = h

module _ {S : Type 0} (accepts : AcceptsTags S) (sealed : MakesTagsOf S) where
  -- one waits already
  pub sending_still : (s : StateInner S) → IsWhole s.connection → BringsSome s.connection s.connection → (now : Moment) → (h : IsSending accepts sealed (Ok tt) s s []) × AreMade sealed now h.made s.connection s.connection
  sending_still s whole brings now = let h : IsSending accepts sealed (Ok tt) s s [] = record {
    same = refl;
    whole = whole;
    made = [];
    carries = λ law. carries_none accepts sealed s.connection s.connection (λ hello t h. h);
    brings = brings;
    ended = λ shut. shut;
    order = append-nil (waits_in s);
  } in (h, refl)

  -- none is made for want of memory
  pub sending_none : (answer : Result (Unit {0}) IoFault) (old new : StateInner S) → new ≡ record old { connection = new.connection; outgoing = new.outgoing; send_buffer = new.send_buffer } → new.outgoing ≡ old.outgoing → is_some old.outgoing ≡ false
      → IsWhole new.connection → (AreLawful accepts sealed → CarriesOnBy accepts sealed old.connection new.connection []) → IsBroughtBy answer old.connection new.connection
      → IsEnded old.connection new.connection → IsSending accepts sealed answer old new []
  sending_none answer old new same kept none whole carries brings ends = record {
    same = same;
    whole = whole;
    made = [];
    carries = carries;
    brings = brings;
    ended = ends;
    order = ap (λ (z : List OutMessage). z ++ []) (none_waits old.outgoing old.send_buffer.items none) ∙ sym (none_waits new.outgoing new.send_buffer.items (ap is_some kept ∙ none));
  }

  -- one is made, if there is anything to be sent
  pub sending_made : (now : Moment) (old new : StateInner S) (before : List ℕ) → new ≡ record old { connection = new.connection; outgoing = new.outgoing; send_buffer = new.send_buffer } → is_some old.outgoing ≡ false → before ≡ []
      → IsWhole new.connection → (AreLawful accepts sealed → CarriesOnBy accepts sealed old.connection new.connection (made_acts before new.send_buffer.items (Ok new.outgoing))) → BringsSome old.connection new.connection
      → IsEnded old.connection new.connection → IfSome new.outgoing (λ t. IsTransmitted (sealed old.connection.core.session) now old.connection new.connection before new.send_buffer.items t)
      → (new.outgoing ≡ None → IsSilent old.connection × IsStill old.connection new.connection)
      → (h : IsSending accepts sealed (Ok tt) old new []) × (is_some new.outgoing ≡ true → AreMade sealed now h.made old.connection new.connection) × IsFilled sealed now h.made old.connection new.connection
  sending_made now old new before same none cleared whole carries brings ends sent silent = let h : IsSending accepts sealed (Ok tt) old new [] = record {
    same = same;
    whole = whole;
    made = waits_in new;
    carries = λ law. subst (λ (z : List Act). CarriesOnBy accepts sealed old.connection new.connection z) (made_is before new.send_buffer.items new.outgoing cleared) (carries law);
    brings = brings;
    ended = ends;
    order = ap (λ (z : List OutMessage). z ++ waits_in new) (none_waits old.outgoing old.send_buffer.items none);
  } in (
    h,
    made_one sealed now old.connection new.connection before new.send_buffer.items new.outgoing cleared sent,
    filled_one sealed now old.connection new.connection before new.send_buffer.items new.outgoing cleared sent silent,
  )

-- there was nothing to be sent
pub made_none : {S : Type 0} (s : StateInner S) (before : Connection S) → is_some s.outgoing ≡ false → (s.outgoing ≡ None → IsSilent before × IsStill before s.connection) → HasMadeNone s
made_none s before none h =
    let is = none_is s.outgoing none in
    record { none_waits = is; before = before; silent = (h is).0; still = (h is).1 }

-- it goes to the socket
pub sent_one : (t : Transmit) (bytes : List ℕ) (old new : Option (List OutMessage)) → new ≡ with_sent t bytes old → AreSent (record { transmit = t; bytes = bytes } ∷ []) old new
sent_one t bytes None new is = is
sent_one t bytes (Some sent) new is = is
