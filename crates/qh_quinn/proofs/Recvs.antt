-- Calls on receiving halves that handles hold.
use Rattle.std.proofs.Common.{◌≡◌, ℕ, ◌≤◌, ◌==◌, Bool, true, false, ◌&&◌, ◌||◌, Option, Some, None, if◌then◌else◌, refl, sym, ap, ◌∙◌, subst}
use Rattle.std.proofs.lemmas.Bool.{eq-eqb, eqb-true, false≢true}
use Rattle.futures.specs.declared.task.waker.Waker.{Waker}
use Rattle.std.specs.Prelude.{MatchBool}
use Rattle.qh_book.specs.Book.{Book, tally, with_recv}
use Rattle.qh_book.specs.Pages.{RecvPage, is_open, open_recv}
use Rattle.qh_book.specs.Shown.{IsNoted, IsShut, IsStreamStep, Note, ShowsHalf, ShowsReading, ShowsRecv, ShowsStreams, noted}
use Rattle.qh_book.specs.Step.{Allows}
use Rattle.qh_book.specs.declared.call.Call.{Call}
use Rattle.qh_book.specs.declared.reply.Reply.{Reply}
use Rattle.qh_conn.specs.Whole.{IsWhole}
use Rattle.qh_conn.specs.declared.connection.Connection.{Connection}
use Rattle.qh_half.specs.Recv.{PlainRecv, is_closed}
use Rattle.qh_halves.specs.RecvHalves.{recv_at}
use Rattle.qh_quinn.proofs.Holding.{IsHeld, held_by, readers_put, untouched_put}
use Rattle.qh_quinn.proofs.Moving.{IsMoved, IsOnward, answered, received}
use Rattle.qh_quinn.specs.Acting.{IsAnswered}
use Rattle.qh_quinn.specs.Readers.{EndsBare, HoldsReader, note_of, reader_in, with_reader}
use Rattle.qh_quinn.specs.States.{IsState, ShowsWith}
use Rattle.qh_quinn.specs.declared.readers.Reader.{Reader}
use Rattle.qh_quinn.specs.declared.inner.StateInner.{StateInner}
use Rattle.qh_shown.specs.Connections.{IsDry, IsEmptied, ShowsLost, bounds_of, is_wanting}
use Rattle.qh_spec.specs.declared.sides.Dir.{Dir}
use Rattle.qh_spec.specs.declared.sides.Dir.TheVariants.{Bi, Uni}
use Rattle.qh_streams.specs.Streams.{PlainStreams}

-- ---- the half of a page

-- the page is open: the connection has the half, which isn't closed
pub record IsOpenHalf (s : PlainStreams) (k : ℕ) (note : Note) (p : RecvPage) : Type 0 where
  pub half : PlainRecv
  pub there : recv_at s.recv k ≡ Some half
  pub opened : is_closed half ≡ false
  pub stopped : half.is_stopped ≡ false
  pub reading : ShowsReading half p
  pub noted : IsNoted note p

or_false : (x y : Bool) → (x || y) ≡ false → x ≡ false
or_false true y h = h
or_false false y h = refl

open_in : (note : Note) (o : Option PlainRecv) (p : RecvPage) → is_open p.state ≡ true → ShowsRecv note o (Some p) → (h : PlainRecv) × (o ≡ Some h) × (is_closed h ≡ false) × (h.is_stopped ≡ false) × ShowsReading h p × IsNoted note p
open_in note None p opened shut = absurd (false≢true (sym shut.shut ∙ opened))
open_in note (Some h) p opened s = at h.is_stopped refl s.1
  where
    at : (stopped : Bool) → h.is_stopped ≡ stopped → ShowsHalf stopped note h p → (g : PlainRecv) × (Some h ≡ Some g) × (is_closed g ≡ false) × (g.is_stopped ≡ false) × ShowsReading g p × IsNoted note p
    at true is shut = absurd (false≢true (sym shut.shut ∙ opened))
    at false is half = (h, refl, rw is (or_false h.is_given (h.is_stopped && _) s.0), is, half.0, half.1)

pub read_at : (notes : ℕ → Note) (s : PlainStreams) (b : Book) (k : ℕ) (p : RecvPage) → ShowsStreams s notes b → b.recvs k ≡ Some p → is_open p.state ≡ true → IsOpenHalf s k (notes k) p
read_at notes s b k p shown is opened =
    let h = open_in (notes k) (recv_at s.recv k) p opened (subst (λ (o : Option RecvPage). ShowsRecv (notes k) (recv_at s.recv k) o) is (shown.recvs k)) in
    record { half = h.0; there = h.1; opened = h.2; stopped = h.3; reading = h.4; noted = h.5 }

shut_in : (note : Note) (o : Option PlainRecv) (p : RecvPage) → is_open p.state ≡ false → ShowsRecv note o (Some p) → IsShut note p
shut_in note None p shut s = s
shut_in note (Some h) p shut s = at h.is_stopped s.1
  where
    at : (stopped : Bool) → ShowsHalf stopped note h p → IsShut note p
    at true half = half
    at false half = absurd (false≢true (sym shut ∙ ap is_open half.0.state))

lost_shut : (note : Note) (p : RecvPage) → is_open p.state ≡ false → ShowsLost note (Some p) → IsShut note p
lost_shut note p shut s = subst (λ (x : Bool). MatchBool x (IsDry p × (note.code ≡ None) × (note.is_told ≡ false)) (IsShut note p)) shut s

pub lost_open : (note : Note) (p : RecvPage) → is_open p.state ≡ true → ShowsLost note (Some p) → IsDry p × (note.code ≡ None) × (note.is_told ≡ false)
lost_open note p opened s = subst (λ (x : Bool). MatchBool x (IsDry p × (note.code ≡ None) × (note.is_told ≡ false)) (IsShut note p)) opened s

pub open_page : (o : Option RecvPage) (p : RecvPage) → o ≡ Some p → is_open p.state ≡ true → open_recv o ≡ Some p
open_page o p is opened = rw is (rw opened refl)

module _ {S : Type 0} where
  pub holder : (notes : ℕ → Note) (s : StateInner S) (b : Book) (k : ℕ) (r : Reader) → ShowsWith notes s b → reader_in s.readers k ≡ Some r → IsHeld (is_wanting s.connection) r (notes k) (b.readers k) (b.recvs k)
  holder notes s b k r shown there = held_by (is_wanting s.connection) (reader_in s.readers k) r (b.readers k) (notes k) (b.recvs k) there (shown.readers k)

  -- a half that isn't read any more
  pub shut_at : (notes : ℕ → Note) (s : StateInner S) (b : Book) (k : ℕ) (p : RecvPage) → ShowsWith notes s b → b.recvs k ≡ Some p → is_open p.state ≡ false → IsShut (notes k) p
  shut_at notes s b k p shown is shut = at (is_wanting s.connection) refl
    where
      at : (w : Bool) → is_wanting s.connection ≡ w → IsShut (notes k) p
      at true e = lost_shut (notes k) p shut (subst (λ (o : Option RecvPage). ShowsLost (notes k) o) is ((shown.connection.emptied e).recvs k))
      at false e = shut_in (notes k) (recv_at s.connection.core.space.streams.recv k) p shut (subst (λ (o : Option RecvPage). ShowsRecv (notes k) (recv_at s.connection.core.space.streams.recv k) o) is ((shown.connection.live e).streams.recvs k))

-- ---- a call that changes the page of a half that a handle holds

pub record IsHeldStep {T : Type 0} (b : Book) (c : Call) (r : Reply T) (id : ℕ) (new : PlainStreams) (notes : ℕ → Note) (left : Reader) : Type 0 where
  pub next : ℕ → Note
  pub step : IsStreamStep b c r new next
  pub q : RecvPage
  pub after_is : step.after ≡ with_recv b id q
  pub others : (k : ℕ) → (k == id) ≡ false → next k ≡ notes k
  pub noted : next id ≡ note_of false left
  pub opened : is_open q.state ≡ left.is_open
  pub unordered : q.is_unordered ≡ left.is_unordered
  pub ended : EndsBare left q

-- the same once want of memory ended the connection
pub record IsLostStep {T : Type 0} (b : Book) (c : Call) (r : Reply T) (id : ℕ) (left : Reader) : Type 0 where
  pub note : Note
  pub q : RecvPage
  pub allows : Allows b c r (with_recv b id q)
  pub shows : ShowsLost note (Some q)
  pub noted : note ≡ note_of true left
  pub opened : is_open q.state ≡ left.is_open
  pub unordered : q.is_unordered ≡ left.is_unordered
  pub ended : EndsBare left q

pub noted_other : (notes : ℕ → Note) (id : ℕ) (note : Note) (k : ℕ) → (k == id) ≡ false → noted notes id note k ≡ notes k
noted_other notes id note k other = rw other refl

pub noted_here : (notes : ℕ → Note) (id : ℕ) (note : Note) → noted notes id note id ≡ note
noted_here notes id note = let e : (id == id) ≡ true = eq-eqb id id refl in rw e refl

module _ {S : Type 0} where
  pub takes : {T : Type 0} (c : Call) (r : Reply T) (old new : StateInner S) (id : ℕ) (reader left : Reader) → IsState old → is_wanting old.connection ≡ false → IsMoved old new → new.handles ≡ old.handles → IsWhole new.connection
      → reader_in old.readers id ≡ Some reader
      → ((k : ℕ) → reader_in new.readers k ≡ (if k == id then with_reader left (reader_in old.readers k) else reader_in old.readers k))
      → ((notes : ℕ → Note) (b : Book) → ShowsWith notes old b → ShowsStreams old.connection.core.space.streams notes b → IsHeld false reader (notes id) (b.readers id) (b.recvs id) → IsHeldStep {T = T} b c r id new.connection.core.space.streams notes left)
      → IsAnswered c r old new
  takes c r old new id reader left state calm is handles whole there put each =
      answered c r old new state is whole
      (λ b shown.
      let h = subst (λ (w : Bool). IsHeld w reader (shown.notes id) (b.readers id) (b.recvs id)) calm (holder shown.notes old b id reader shown.shows there) in
      let made = each shown.notes b shown.shows (shown.shows.connection.live calm).streams h in
      record {
        after = made.step.after;
        allows = made.step.allows;
        shows = record {
          notes = made.next;
          shows = received shown.notes made.next old new b made.step.after id made.q reader left is handles shown.shows calm made.step.shows made.after_is there put made.others made.noted made.opened made.unordered made.ended;
        };
      })

  lost_shows : (notes : ℕ → Note) (old new : StateInner S) (b : Book) (id : ℕ) (note : Note) (q : RecvPage) (reader left : Reader) → is_wanting old.connection ≡ true → new ≡ record old { readers = new.readers } → ShowsWith notes old b
      → reader_in old.readers id ≡ Some reader
      → ((k : ℕ) → reader_in new.readers k ≡ (if k == id then with_reader left (reader_in old.readers k) else reader_in old.readers k))
      → ShowsLost note (Some q) → note ≡ note_of true left → is_open q.state ≡ left.is_open → q.is_unordered ≡ left.is_unordered → EndsBare left q → ShowsWith (noted notes id note) new (with_recv b id q)
  lost_shows notes old new b id note q reader left wanting is shown there put shows note_is opened unordered ended =
      let before : (k : ℕ) → HoldsReader true (reader_in old.readers k) (b.readers k) (notes k) (b.recvs k) =
      λ k. subst (λ (w : Bool). HoldsReader w (reader_in old.readers k) (b.readers k) (notes k) (b.recvs k)) wanting (shown.readers k) in
      let after = readers_put true notes (noted notes id note) old.readers new.readers b id reader left q before there put (noted_other notes id note) (noted_here notes id note ∙ note_is) opened unordered ended in
      let h = held_by true (reader_in old.readers id) reader (b.readers id) (notes id) (b.recvs id) there (before id) in
      let e = shown.connection.emptied wanting in
      subst (λ (s : StateInner S). ShowsWith (noted notes id note) s (with_recv b id q)) (sym is)
      (record {
        connection = record {
          side = shown.connection.side;
          addresses = shown.connection.addresses;
          connected = shown.connection.connected;
          drained = shown.connection.drained;
          live = λ calm. absurd (false≢true (sym calm ∙ wanting));
          emptied = λ _. record {
            emptied = e.emptied;
            sends = e.sends;
            recvs = λ k. at k (k == id) (eqb-true k id);
            accepted = accepted_at;
            datagrams = e.datagrams;
            queued = e.queued;
            receive = e.receive;
            send = e.send;
            most = e.most;
          };
        };
        readers = λ k. subst (λ (w : Bool). HoldsReader w (reader_in new.readers k) (b.readers k) (noted notes id note k) ((with_recv b id q).recvs k)) (sym wanting) (after k);
        untouched = untouched_put b id q h.held shown.untouched;
        stable_id = shown.stable_id;
        error = shown.error;
        handles = shown.handles;
        interests = shown.interests;
      })
    where
      accepted_at : (dir : Dir) → (tally (with_recv b id q) dir).arrived ≤ (tally (with_recv b id q) dir).accepted
      accepted_at Bi = (shown.connection.emptied wanting).accepted Bi
      accepted_at Uni = (shown.connection.emptied wanting).accepted Uni

      at : (k : ℕ) (here : Bool) → (here ≡ true → k ≡ id) → ShowsLost (if here then note else notes k) (if here then Some q else b.recvs k)
      at k true same = shows
      at k false same = (shown.connection.emptied wanting).recvs k

  pub takes_lost : {T : Type 0} (c : Call) (r : Reply T) (old new : StateInner S) (id : ℕ) (reader left : Reader) → IsState old → is_wanting old.connection ≡ true → new ≡ record old { readers = new.readers } → reader_in old.readers id ≡ Some reader
      → ((k : ℕ) → reader_in new.readers k ≡ (if k == id then with_reader left (reader_in old.readers k) else reader_in old.readers k))
      → ((notes : ℕ → Note) (b : Book) → ShowsWith notes old b → IsEmptied (bounds_of old.connection.control) notes b → IsHeld true reader (notes id) (b.readers id) (b.recvs id) → IsLostStep {T = T} b c r id left) → IsAnswered c r old new
  takes_lost c r old new id reader left state wanting is there put each =
      answered c r old new state (as_moved is) (subst (λ (s : StateInner S). IsWhole s.connection) (sym is) state.whole)
      (λ b shown.
      let h = subst (λ (w : Bool). IsHeld w reader (shown.notes id) (b.readers id) (b.recvs id)) wanting (holder shown.notes old b id reader shown.shows there) in
      let made = each shown.notes b shown.shows (shown.shows.connection.emptied wanting) h in
      record {
        after = with_recv b id made.q;
        allows = made.allows;
        shows = record {
          notes = noted shown.notes id made.note;
          shows = lost_shows shown.notes old new b id made.note made.q reader left wanting is shown.shows there put made.shows made.noted made.opened made.unordered made.ended;
        };
      })
    where
      as_moved : new ≡ record old { readers = new.readers } → IsMoved old new
      as_moved e = rw e refl

  -- so it is where the connection, the readers and the driver's waker alone changed
  pub takes_at : {T : Type 0} (c : Call) (r : Reply T) (old kept new : StateInner S) (to : Connection S) (driver : Option Waker) (id : ℕ) (reader left : Reader) → IsState old → is_wanting old.connection ≡ false
      → new ≡ record old { connection = to; readers = kept.readers; driver = driver } → IsOnward old.connection to → IsWhole to → reader_in old.readers id ≡ Some reader
      → ((k : ℕ) → reader_in kept.readers k ≡ (if k == id then with_reader left (reader_in old.readers k) else reader_in old.readers k))
      → ((notes : ℕ → Note) (b : Book) → ShowsWith notes old b → ShowsStreams old.connection.core.space.streams notes b → IsHeld false reader (notes id) (b.readers id) (b.recvs id) → IsHeldStep {T = T} b c r id to.core.space.streams notes left)
      → IsAnswered c r old new
  takes_at c r old kept new to driver id reader left state calm is on whole there put each =
      subst (λ (s : StateInner S). IsAnswered c r old s) (sym is)
      (takes c r old (record old { connection = to; readers = kept.readers; driver = driver }) id reader left state calm
      (ap (λ (x : Connection S). record old { connection = x; readers = kept.readers; driver = driver }) on) refl whole there put each)

  -- what is kept of a half changed, and then the driver was woken
  pub kept_woken : (old kept new : StateInner S) (to : Connection S) (driver : Option Waker) → kept ≡ record old { connection = to; readers = kept.readers } → new ≡ record kept { driver = driver } → new ≡ record old { connection = to; readers = kept.readers; driver = driver }
  kept_woken old kept new to driver is woken = woken ∙ ap (λ (s : StateInner S). record s { driver = driver }) is
