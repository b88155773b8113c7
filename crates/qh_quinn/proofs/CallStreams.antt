-- What a call makes of the streams of a connection, and whether it reads a half.
use Rattle.std.proofs.Common.{◌≡◌, ℕ, ◌==◌, ◌&&◌, Bool, true, false, not, [], Option, Some, None, Err, is_some, if◌then◌else◌, refl, sym, ap, ◌∙◌, inr, subst}
use Rattle.std.proofs.lemmas.Bool.{eqb-true}
use Rattle.std.specs.Prelude.{MatchBool}
use Rattle.qh_base.specs.declared.connection_error.ConnectionError.{ConnectionError}
use Rattle.qh_book.specs.declared.reply.Reply.{Reply}
use Rattle.qh_book.specs.declared.reply.Reply.TheVariants as reply
use Rattle.qh_conn.specs.declared.connection.Connection.{Connection}
use Rattle.qh_core.specs.Inner.{with_streams}
use Rattle.qh_core.specs.declared.inner.Inner.{Inner}
use Rattle.qh_half.specs.Recv.{PlainRecv}
use Rattle.qh_half.specs.Send.{PlainSend}
use Rattle.qh_half.specs.declared.fault.ReadFault.TheVariants as read_faults
use Rattle.qh_halves.specs.RecvHalves.{IsRecvStep, TakesReset}
use Rattle.qh_halves.specs.SendHalves.{IsStep}
use Rattle.qh_quinn.specs.Acting.{lost_or_pending}
use Rattle.qh_quinn.specs.Readers.{code_of, reader_in}
use Rattle.qh_quinn.specs.Streaming.{AcceptsOne, GivesNone, IsRecvChange, IsSendChange, ReadsBy, ReadsIn, ReadsOne, StopsOne, StopsReading, TakesResetOf, asks_reset, is_reader_open, is_reader_untold, is_reading, told_code}
use Rattle.qh_quinn.specs.declared.inner.StateInner.{StateInner}
use Rattle.qh_quinn.specs.declared.readers.Reader.{Reader}
use Rattle.qh_shown.specs.Connections.{is_wanting}
use Rattle.qh_spec.specs.declared.sides.Dir.{Dir}
use Rattle.qh_streams.specs.Streams.{counted_closed, is_live}

no_second : (x : Bool) → (x && false) ≡ false
no_second true = refl
no_second false = refl

module _ {S : Type 0} (old new : Connection S) (rest : new ≡ record old { core = new.core }) where
  pub core_is : (core : Inner S) → new.core ≡ core → new ≡ record old { core = core }
  core_is core is = rest ∙ ap (λ (k : Inner S). record old { core = k }) is

  pub send_changed : (P : PlainSend → PlainSend → Type 0) (id taken : ℕ) → IsStep P old.core.space.streams.send new.core.space.streams.send id taken
      → new.core ≡ with_streams old.core (record old.core.space.streams { send = new.core.space.streams.send }) → IsSendChange P id taken old new
  send_changed P id taken step is = record { step = step; rest = core_is (with_streams old.core (record old.core.space.streams { send = new.core.space.streams.send })) is }

  pub recv_changed : (P : PlainRecv → PlainRecv → Type 0) (id : ℕ) → IsRecvStep P old.core.space.streams.recv new.core.space.streams.recv id 0
      → new.core ≡ with_streams old.core (counted_closed (record old.core.space.streams { recv = new.core.space.streams.recv }) id (is_live old.core.space.streams id)) → IsRecvChange P id old new
  recv_changed P id step is = record { step = step; rest = core_is (with_streams old.core (counted_closed (record old.core.space.streams { recv = new.core.space.streams.recv }) id (is_live old.core.space.streams id))) is }

-- no stream is accepted: the call is lost, or waits
pub accepts_none : {S T : Type 0} (dir : Dir) (r : Reply T) (error : Option ConnectionError) (old new : Connection S) → r ≡ lost_or_pending error → new ≡ old → AcceptsOne dir r old new
accepts_none {T = T} dir r error old new is same = subst (λ (x : Reply T). AcceptsOne dir x old new) (sym is) (at error)
  where
    at : (e : Option ConnectionError) → AcceptsOne {T = T} dir (lost_or_pending e) old new
    at None = same
    at (Some e) = same

-- ---- whether a half is read

module _ {S : Type 0} (s : StateInner S) (id : ℕ) where
  pub unread_unheld : reader_in s.readers id ≡ None → is_reading s id ≡ false
  unread_unheld none = ap (λ (o : Option Reader). not (is_wanting s.connection) && is_reader_open o) none ∙ no_second (not (is_wanting s.connection))

  pub unread_wanting : is_wanting s.connection ≡ true → is_reading s id ≡ false
  unread_wanting wanting = ap (λ (w : Bool). not w && is_reader_open (reader_in s.readers id)) wanting

  pub unread_shut : (reader : Reader) → reader_in s.readers id ≡ Some reader → reader.is_open ≡ false → is_reading s id ≡ false
  unread_shut reader there shut =
      ap (λ (o : Option Reader). not (is_wanting s.connection) && is_reader_open o) there ∙ ap (λ (x : Bool). not (is_wanting s.connection) && x) shut ∙ no_second (not (is_wanting s.connection))

  pub read_still : (reader : Reader) → reader_in s.readers id ≡ Some reader → is_wanting s.connection ≡ false → reader.is_open ≡ true → is_reading s id ≡ true
  read_still reader there calm opened = ap (λ (w : Bool). not w && is_reader_open (reader_in s.readers id)) calm ∙ ap (λ (o : Option Reader). is_reader_open o) there ∙ opened

  -- one that isn't read isn't asked for its reset
  pub unasked : is_reading s id ≡ false → asks_reset s id ≡ false
  unasked off = ap (λ (x : Bool). x && is_reader_untold (reader_in s.readers id)) off

  -- nor is one whose code is known
  pub unasked_known : (reader : Reader) (code : ℕ) → reader_in s.readers id ≡ Some reader → code_of (is_wanting s.connection) reader ≡ Some code → asks_reset s id ≡ false
  unasked_known reader code there known = at (is_wanting s.connection) refl
    where
      at : (w : Bool) → is_wanting s.connection ≡ w → asks_reset s id ≡ false
      at true wanting = unasked (unread_wanting wanting)
      at false calm =
          ap (λ (o : Option Reader). is_reading s id && is_reader_untold o) there
          ∙ ap (λ (o : Option ℕ). is_reading s id && not (is_some o)) (ap (λ (w : Bool). code_of w reader) (sym calm) ∙ known)
          ∙ no_second (is_reading s id)

  pub asked : (reader : Reader) → reader_in s.readers id ≡ Some reader → is_reading s id ≡ true → reader.code ≡ None → asks_reset s id ≡ true
  asked reader there reads unknown =
      ap (λ (x : Bool). x && is_reader_untold (reader_in s.readers id)) reads ∙ ap (λ (o : Option Reader). is_reader_untold o) there ∙ ap (λ (o : Option ℕ). not (is_some o)) unknown

-- ---- what a call on a half that is read does, and on one that isn't

module _ {T : Type 0} where
  -- a reply of no bytes gives none, and so does another one
  pub gives_none : (r other : Reply T) (none : Bool) → r ≡ (if none then reply.Bytes 0 [] else other) → GivesNone other → GivesNone r
  gives_none r other none is h = subst (λ (x : Reply T). GivesNone x) (sym is) (at none)
    where
      at : (x : Bool) → GivesNone {T = T} (if x then reply.Bytes 0 [] else other)
      at true = refl
      at false = h

pub quiet_gives_none : (T : Type 0) (e : Option ConnectionError) → GivesNone {T = T} (lost_or_pending e)
quiet_gives_none T None = tt
quiet_gives_none T (Some e) = tt

module _ {S T : Type 0} (id max_length : ℕ) (is_ordered : Bool) (old new : StateInner S) where
  pub reads_nothing : (r : Reply T) → GivesNone r → is_reading old id ≡ false → new.connection ≡ old.connection → ReadsOne id max_length is_ordered r old new
  reads_nothing r none off same = subst (λ (x : Bool). MatchBool x (ReadsIn id max_length is_ordered r old.connection new.connection) (GivesNone r × (new.connection ≡ old.connection))) (sym off) (none, same)

  pub reads_in : (r : Reply T) → is_reading old id ≡ true → ReadsIn id max_length is_ordered r old.connection new.connection → ReadsOne id max_length is_ordered r old new
  reads_in r on reads = subst (λ (x : Bool). MatchBool x (ReadsIn id max_length is_ordered r old.connection new.connection) (GivesNone r × (new.connection ≡ old.connection))) (sym on) reads

  -- it is refused, unless it is of no bytes
  pub reads_illegal : (r : Reply T) → r ≡ (if max_length == 0 then reply.Bytes 0 [] else reply.IllegalOrderedRead) → is_reading old id ≡ true → new.connection ≡ old.connection → ReadsOne id max_length is_ordered r old new
  reads_illegal r is on same = reads_in r on (subst (λ (x : Reply T). ReadsIn id max_length is_ordered x old.connection new.connection) (sym is) (at (max_length == 0) refl))
    where
      at : (none : Bool) → (max_length == 0) ≡ none → ReadsIn {T = T} id max_length is_ordered (if none then reply.Bytes 0 [] else reply.IllegalOrderedRead) old.connection new.connection
      at true e = inr (eqb-true max_length 0 e, refl, same)
      at false e = same

-- one that finds nothing waits, or the connection is lost
module _ {S : Type 0} (id max_length : ℕ) (is_ordered : Bool) (old new : StateInner S) where
  pub reads_blocked : (T : Type 0) (to : Connection S) → new.connection ≡ to → is_reading old id ≡ true → ReadsBy id max_length is_ordered (Err read_faults.Blocked) old.connection to → (e : Option ConnectionError) → ReadsOne id max_length is_ordered (lost_or_pending {T = T} e) old new
  reads_blocked T to is on reads e = reads_in {T = T} id max_length is_ordered old new (lost_or_pending e) on (at e)
    where
      here : ReadsBy id max_length is_ordered (Err read_faults.Blocked) old.connection new.connection
      here = subst (λ (c : Connection S). ReadsBy id max_length is_ordered (Err read_faults.Blocked) old.connection c) (sym is) reads

      at : (e : Option ConnectionError) → ReadsIn id max_length is_ordered (lost_or_pending {T = T} e) old.connection new.connection
      at None = here
      at (Some e) = here

module _ {S : Type 0} (id : ℕ) (old new : StateInner S) where
  pub stops_nothing : (code : ℕ) → is_reading old id ≡ false → new.connection ≡ old.connection → StopsOne id code old new
  stops_nothing code off same = subst (λ (x : Bool). MatchBool x (StopsReading id code old.connection new.connection) (new.connection ≡ old.connection)) (sym off) same

  pub stops_in : (code : ℕ) → is_reading old id ≡ true → StopsReading id code old.connection new.connection → StopsOne id code old new
  stops_in code on stops = subst (λ (x : Bool). MatchBool x (StopsReading id code old.connection new.connection) (new.connection ≡ old.connection)) (sym on) stops

module _ {S T : Type 0} (id : ℕ) (old new : StateInner S) where
  pub takes_nothing : (r : Reply T) → asks_reset old id ≡ false → new.connection ≡ old.connection → TakesResetOf id r old new
  takes_nothing r off same = subst (λ (x : Bool). MatchBool x (IsRecvChange (TakesReset (told_code r)) id old.connection new.connection) (new.connection ≡ old.connection)) (sym off) same

  pub takes_in : (r : Reply T) → asks_reset old id ≡ true → IsRecvChange (TakesReset (told_code r)) id old.connection new.connection → TakesResetOf id r old new
  takes_in r on takes = subst (λ (x : Bool). MatchBool x (IsRecvChange (TakesReset (told_code r)) id old.connection new.connection) (new.connection ≡ old.connection)) (sym on) takes

-- no reset came
module _ {S : Type 0} (id : ℕ) (old new : StateInner S) where
  pub takes_none : (T : Type 0) → asks_reset old id ≡ true → IsRecvChange (TakesReset None) id old.connection new.connection → (e : Option ConnectionError) → TakesResetOf id (lost_or_pending {T = T} e) old new
  takes_none T on takes None = takes_in {T = T} id old new reply.Pending on takes
  takes_none T on takes (Some e) = takes_in {T = T} id old new (reply.ConnectionLost e) on takes
