-- Calls that read and send datagrams are steps of each book that shows the state.
use Rattle.std.proofs.Common.{◌≡◌, ℕ, ◌+◌, ◌<◌, ◌≤◌, Bool, true, false, not, List, [], ◌∷◌, ◌++◌, length, Option, None, Some, is_some, refl, sym, ap, subst, ◌∙◌}
use Rattle.qh_book.specs.Book.{Book}
use Rattle.qh_book.specs.Datagrams.{SendsDatagram}
use Rattle.qh_book.specs.Shown.{DatagramBounds, IsDatagramStep, Note, ShowsDatagrams}
use Rattle.qh_book.specs.Step.{Allows}
use Rattle.qh_book.specs.declared.call.Call.{Call}
use Rattle.qh_book.specs.declared.call.Call.TheVariants as call
use Rattle.qh_book.specs.declared.reply.Reply.{Reply}
use Rattle.qh_book.specs.declared.reply.Reply.TheVariants as reply
use Rattle.qh_conn.specs.Whole.{IsWhole}
use Rattle.qh_conn.specs.declared.connection.Connection.{Connection}
use Rattle.qh_control.specs.Datagrams.{IsSendFault}
use Rattle.qh_control.specs.declared.datagrams.DatagramFault.{DatagramFault}
use Rattle.qh_control.specs.declared.datagrams.DatagramFault.TheVariants as fault
use Rattle.qh_core.specs.Inner.{is_open}
use Rattle.qh_datagrams.specs.Datagrams.{PlainDatagrams, bytes_of, with_room}
use Rattle.qh_quinn.proofs.StatesKept.{HasSameRest, moved, state_by, streams_beside}
use Rattle.qh_quinn.specs.Acting.{IsAllowed, IsAnswered}
use Rattle.qh_quinn.specs.States.{IsState, Shows}
use Rattle.qh_quinn.specs.declared.inner.StateInner.{StateInner}
use Rattle.qh_shown.specs.Brings.{IsLogging}
use Rattle.qh_shown.specs.Connections.{IsUngreeted, ShowsConnection, bounds_of, is_wanting}

-- its datagrams alone go on
abbrev pub with_datagrams : {S : Type 0} → Connection S → PlainDatagrams → Connection S
with_datagrams c d = record c { control = record c.control { datagrams = d } }

pub no_longer : {A : Type 0} (o : Option A) → (o ≡ None → ⊥) → is_some o ≡ true
no_longer None off = absurd (off refl)
no_longer (Some x) off = refl

-- nothing of them changed but whether one was refused for want of room
pub blocked_step : {T : Type 0} (d : PlainDatagrams) (l : DatagramBounds) (b : Book) (call : Call) (r : Reply T) (blocked : Bool) → ShowsDatagrams d l b → Allows b call r b → IsDatagramStep b call r (record d { is_send_blocked = blocked }) l
blocked_step d l b call r blocked shown allows = record { after = b; allows = allows; shows = record { datagrams = shown.datagrams; queued = shown.queued; receive = shown.receive; send = shown.send; most = shown.most }; rest = refl }

module _ {S : Type 0} where
  ungreeted_still : (c : Connection S) (d : PlainDatagrams) → IsUngreeted c → IsUngreeted (with_datagrams c d)
  ungreeted_still c d u = record { streams = u.streams; side = u.side; window = u.window; log = u.log; most = u.most }

  goes_on : (was_told : Bool) (c : Connection S) (notes : ℕ → Note) (b : Book) (d : PlainDatagrams) (datagrams : List (List ℕ)) (queued : List ℕ) → is_wanting c ≡ false
      → ShowsDatagrams d (bounds_of c.control) (record b { datagrams = datagrams; queued = queued }) → ShowsConnection was_told c notes b → ShowsConnection was_told (with_datagrams c d) notes (record b { datagrams = datagrams; queued = queued })
  goes_on was_told c notes b d datagrams queued calm shown h = record {
    side = h.side;
    addresses = h.addresses;
    connected = h.connected;
    drained = h.drained;
    live = λ still. let l = h.live calm in record { streams = streams_beside c.core.space.streams notes b l.streams; datagrams = shown; kept = l.kept; ungreeted = λ none. ungreeted_still c d (l.ungreeted none) };
    emptied = λ wanting. let z : false ≡ true = sym calm ∙ wanting in absurd (cc);
  }

  step_shows : {T : Type 0} (old new : StateInner S) (call : Call) (r : Reply T) (d : PlainDatagrams) → HasSameRest old new → is_wanting old.connection ≡ false → new.connection ≡ with_datagrams old.connection d
      → (b : Book) → Shows old b → IsDatagramStep b call r d (bounds_of old.connection.control) → IsAllowed call r b new
  step_shows old new call r d rest calm is b h step =
      let after : Book = record b { datagrams = step.after.datagrams; queued = step.after.queued } in
      let shown : ShowsDatagrams d (bounds_of old.connection.control) after = subst (λ (z : Book). ShowsDatagrams d (bounds_of old.connection.control) z) step.rest step.shows in
      let goes : ShowsConnection old.is_connected new.connection h.notes after =
      subst (λ (z : Connection S). ShowsConnection old.is_connected z h.notes after) (sym is) (goes_on old.is_connected old.connection h.notes b d step.after.datagrams step.after.queued calm shown h.shows.connection) in
      record {
        after = step.after;
        allows = step.allows;
        shows = subst (λ (z : Book). Shows new z) (sym step.rest)
            (record { notes = h.notes; shows = moved old new h.notes b step.after.datagrams step.after.queued b.send_window rest h.shows (ap (λ (z : Connection S). is_wanting z) is) goes });
      }

  -- of such a connection as the state has
  abbrev pub StepsDatagrams : {T : Type 0} (s : StateInner S) (call : Call) (r : Reply T) (d : PlainDatagrams) → Type 0
  StepsDatagrams s call r d = (b : Book) → ShowsDatagrams s.connection.control.datagrams (bounds_of s.connection.control) b → b.error ≡ s.error → IsDatagramStep b call r d (bounds_of s.connection.control)

  pub datagram_answers : {T : Type 0} (old new : StateInner S) (call : Call) (r : Reply T) (d : PlainDatagrams) → IsState old → IsWhole new.connection → HasSameRest old new → is_wanting old.connection ≡ false → new.connection ≡ with_datagrams old.connection d
      → StepsDatagrams old call r d → IsAnswered call r old new
  datagram_answers old new call r d h whole rest calm is steps =
      let each = λ (b : Book) (shown : Shows old b). step_shows old new call r d rest calm is b shown (steps b (shown.shows.connection.live calm).datagrams shown.shows.error) in
      record {
        each = each;
        state = state_by old new h whole (ap (λ (z : Connection S). is_open z.core.state) is) (ap (λ (z : Connection S). z.is_connected_due) is) (subst (λ (z : Connection S). IsLogging z) (sym is) h.logging) rest.error (each h.book h.shown).after (each h.book h.shown).shows;
      }

  -- none waits to be read
  pub none_waits : (s : StateInner S) (b : Book) → Shows s b → (is_wanting s.connection ≡ false → s.connection.control.datagrams.incoming ≡ []) → b.datagrams ≡ []
  none_waits s b h none = by (is_wanting s.connection) refl
    where
      by : (wanting : Bool) → is_wanting s.connection ≡ wanting → b.datagrams ≡ []
      by true is = (h.shows.connection.emptied is).datagrams
      by false is = (h.shows.connection.live is).datagrams.datagrams ∙ none is

unwaited : (wait : Bool) → not wait ≡ false → wait ≡ true
unwaited true is = refl
unwaited false is = let z : true ≡ false = is in cc

-- the laws of a book by which one is queued, or waits
abbrev Queued : (T : Type 0) → Type 0
Queued T = (d new : PlainDatagrams) (l : DatagramBounds) (b : Book) (payload : List ℕ) (most : ℕ) → ShowsDatagrams d l b → b.error ≡ None → is_some l.receive ≡ true → l.most ≡ Some most → length payload ≤ most
    → bytes_of d.outgoing + length payload ≤ l.send → new ≡ record d { outgoing = d.outgoing ++ payload ∷ [] } → IsDatagramStep {T = T} b (call.SendDatagram payload true) reply.Done new l

abbrev Pushed : (T : Type 0) → Type 0
Pushed T = (d new : PlainDatagrams) (l : DatagramBounds) (b : Book) (payload : List ℕ) (most : ℕ) → ShowsDatagrams d l b → b.error ≡ None → is_some l.receive ≡ true → l.most ≡ Some most → length payload ≤ most
    → new ≡ record d { outgoing = with_room (length payload) l.send d.outgoing ++ payload ∷ [] } → IsDatagramStep {T = T} b (call.SendDatagram payload false) reply.Done new l

abbrev Waits : (T : Type 0) → Type 0
Waits T = (d : PlainDatagrams) (l : DatagramBounds) (b : Book) (payload : List ℕ) (most : ℕ) → ShowsDatagrams d l b → b.error ≡ None → is_some l.receive ≡ true → l.most ≡ Some most → length payload ≤ most
    → l.send < bytes_of d.outgoing + length payload → SendsDatagram {T = T} b payload true reply.Pending b

-- one is queued, or the oldest queued ones are dropped for it
pub sent_steps : {S T : Type 0} → Queued T → Pushed T → (s : StateInner S) (payload : List ℕ) (wait : Bool) (outgoing : List (List ℕ)) → s.error ≡ None
    → (not wait ≡ false → (bytes_of s.connection.control.datagrams.outgoing + length payload ≤ s.connection.control.datagram_send) × (outgoing ≡ s.connection.control.datagrams.outgoing ++ payload ∷ []))
    → (not wait ≡ true → outgoing ≡ with_room (length payload) s.connection.control.datagram_send s.connection.control.datagrams.outgoing ++ payload ∷ [])
    → (s.connection.control.datagram_receive ≡ None → ⊥) × ((most : ℕ) × (s.connection.control.peer_datagram ≡ Some most) × (length payload ≤ most))
    → StepsDatagrams {T = T} s (call.SendDatagram payload wait) reply.Done (record s.connection.control.datagrams { outgoing = outgoing })
sent_steps queued pushed s payload true outgoing none kept dropped taken = λ b shown error.
    let d = s.connection.control.datagrams in
    queued d (record d { outgoing = outgoing }) (bounds_of s.connection.control) b payload taken.1.0 shown (error ∙ none) (no_longer s.connection.control.datagram_receive taken.0) taken.1.1 taken.1.2 (kept refl).0
    (ap (λ (z : List (List ℕ)). record d { outgoing = z }) (kept refl).1)
sent_steps queued pushed s payload false outgoing none kept dropped taken = λ b shown error.
    let d = s.connection.control.datagrams in
    pushed d (record d { outgoing = outgoing }) (bounds_of s.connection.control) b payload taken.1.0 shown (error ∙ none) (no_longer s.connection.control.datagram_receive taken.0) taken.1.1 taken.1.2
    (ap (λ (z : List (List ℕ)). record d { outgoing = z }) (dropped refl))

-- there is no room for it: it waits
pub waits_steps : {S T : Type 0} → Waits T → (s : StateInner S) (payload : List ℕ) (wait : Bool) (e : DatagramFault) (back : List ℕ) → s.error ≡ None → e ≡ fault.Blocked back
    → IsSendFault s.connection.control.datagram_receive s.connection.control.peer_datagram s.connection.control.datagram_send (not wait) s.connection.control.datagrams payload e
    → StepsDatagrams {T = T} s (call.SendDatagram payload wait) reply.Pending (record s.connection.control.datagrams { is_send_blocked = true })
waits_steps {T = T} law s payload wait e back none is refused = λ b shown error.
    let d = s.connection.control.datagrams in
    let f : IsSendFault s.connection.control.datagram_receive s.connection.control.peer_datagram s.connection.control.datagram_send (not wait) d payload (fault.Blocked back) =
    subst (λ (z : DatagramFault). IsSendFault s.connection.control.datagram_receive s.connection.control.peer_datagram s.connection.control.datagram_send (not wait) d payload z) is refused in
    blocked_step d (bounds_of s.connection.control) b (call.SendDatagram payload wait) reply.Pending true shown
    (subst (λ (z : Bool). SendsDatagram {T = T} b payload z reply.Pending b) (sym (unwaited wait f.3))
    (law d (bounds_of s.connection.control) b payload f.1.0 shown (error ∙ none) (no_longer s.connection.control.datagram_receive f.0) f.1.1 f.1.2 f.4))
