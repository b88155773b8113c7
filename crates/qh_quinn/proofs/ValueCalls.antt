-- Values that are told of a connection, and its settings.
use Rattle.std.proofs.Common.{◌≡◌, ℕ, ◌+◌, ◌-◌, Bool, true, false, List, [], ◌∷◌, length, map, sum, fold, Option, None, Some, is_some, if◌then◌else◌, refl, sym, ap, subst, ◌∙◌, arith}
use Rattle.std.specs.Option.{option_map}
use Rattle.qh_book.specs.Book.{Book, datagram_room}
use Rattle.qh_book.specs.Shown.{AreFirst, Note, ShowsStreams}
use Rattle.qh_book.specs.Values.{with_setting}
use Rattle.qh_book.specs.declared.call.Setting.TheVariants as setting
use Rattle.qh_conn.specs.Greeting.{early_concurrent, or_set, with_concurrent}
use Rattle.qh_conn.specs.Whole.{IsWhole}
use Rattle.qh_conn.specs.declared.connection.Connection.{Connection}
use Rattle.qh_conn.specs.declared.connection.EarlyLimits.{EarlyLimits}
use Rattle.qh_core.specs.Inner.{is_open, with_streams}
use Rattle.qh_core.specs.declared.inner.Inner.{Inner}
use Rattle.qh_datagrams.specs.Datagrams.{bytes_of}
use Rattle.qh_quinn.proofs.StatesKept.{HasSameRest, accepted_beside, datagrams_beside, moved, state_by}
use Rattle.qh_quinn.specs.Acting.{IsChanged}
use Rattle.qh_quinn.specs.States.{IsState, Shows}
use Rattle.qh_quinn.specs.declared.inner.StateInner.{StateInner}
use Rattle.qh_shown.specs.Brings.{IsLogging}
use Rattle.qh_shown.specs.Connections.{IsUngreeted, ShowsConnection, bounds_of, is_wanting}
use Rattle.qh_spec.specs.declared.sides.Dir.{Dir}
use Rattle.qh_spec.specs.declared.sides.Dir.TheVariants.{Bi, Uni}
use Rattle.qh_streams.specs.Streams.{PlainStreams}

bytes_from : (n : ℕ) (xs : List (List ℕ)) → fold (λ a x. a + x) n (map (λ (payload : List ℕ). length payload) xs) ≡ fold (λ a (x : List ℕ). a + length x) n xs
bytes_from n [] = refl
bytes_from n (x ∷ xs) = bytes_from (n + length x) xs

all_bytes : (xs : List (List ℕ)) → sum (map (λ (payload : List ℕ). length payload) xs) ≡ bytes_of xs
all_bytes xs = bytes_from 0 xs

pub same_size : (o : Option ℕ) → option_map (λ n. n) o ≡ o
same_size None = refl
same_size (Some n) = refl

concurrent_first : (dir : Dir) (count : ℕ) (s : PlainStreams) → AreFirst s → AreFirst (with_concurrent dir count s)
concurrent_first Bi count s f = record { sends = f.sends; recvs = f.recvs; bi = f.bi; uni = f.uni; first_bi = f.first_bi; first_uni = f.first_uni; credit_to = f.credit_to; taken = f.taken; unconfirmed = f.unconfirmed }
concurrent_first Uni count s f = record { sends = f.sends; recvs = f.recvs; bi = f.bi; uni = f.uni; first_bi = f.first_bi; first_uni = f.first_uni; credit_to = f.credit_to; taken = f.taken; unconfirmed = f.unconfirmed }

concurrent_side : (dir : Dir) (count : ℕ) (s : PlainStreams) → (with_concurrent dir count s).side ≡ s.side
concurrent_side Bi count s = refl
concurrent_side Uni count s = refl

concurrent_send : (dir : Dir) (count : ℕ) (s : PlainStreams) → (with_concurrent dir count s).send ≡ s.send
concurrent_send Bi count s = refl
concurrent_send Uni count s = refl

concurrent_early : (dir : Dir) (count : ℕ) (e : EarlyLimits) → (early_concurrent dir count e).send_window ≡ e.send_window
concurrent_early Bi count e = refl
concurrent_early Uni count e = refl

if_unknown : {P X : Type 0} (peer : Option P) (kept set : X) → peer ≡ None → (if is_some peer then kept else set) ≡ set
if_unknown None kept set none = refl
if_unknown (Some p) kept set none = cc

first_window : (s : PlainStreams) (bytes : ℕ) → AreFirst s → AreFirst (record s { send = record s.send { send_window = bytes } })
first_window s bytes f = record { sends = f.sends; recvs = f.recvs; bi = f.bi; uni = f.uni; first_bi = f.first_bi; first_uni = f.first_uni; credit_to = f.credit_to; taken = f.taken; unconfirmed = f.unconfirmed }

first_receive : (s : PlainStreams) (bytes : ℕ) → AreFirst s → AreFirst (record s { recv = record s.recv { receive_window = bytes } })
first_receive s bytes f = record { sends = f.sends; recvs = f.recvs; bi = f.bi; uni = f.uni; first_bi = f.first_bi; first_uni = f.first_uni; credit_to = f.credit_to; taken = f.taken; unconfirmed = f.unconfirmed }

module _ {S : Type 0} where
  pub datagram_room_is : (s : StateInner S) (b : Book) → Shows s b → (n : ℕ) → (is_wanting s.connection ≡ false → n ≡ s.connection.control.datagram_send - bytes_of s.connection.control.datagrams.outgoing)
      → (is_wanting s.connection ≡ true → n ≡ s.connection.control.datagram_send) → n ≡ datagram_room b
  datagram_room_is s b h n live emptied = by (is_wanting s.connection) refl
    where
      by : (wanting : Bool) → is_wanting s.connection ≡ wanting → n ≡ datagram_room b
      by true is = let e = h.shows.connection.emptied is in rw (e.send, e.queued) (let z : n ≡ s.connection.control.datagram_send = emptied is in omega arith)
      by false is = let d = (h.shows.connection.live is).datagrams in rw (d.send, d.queued, all_bytes) (live is)

  pub most_is : (s : StateInner S) (b : Book) → Shows s b → s.connection.control.peer_datagram ≡ b.max_datagram_size
  most_is s b h = by (is_wanting s.connection) refl
    where
      by : (wanting : Bool) → is_wanting s.connection ≡ wanting → s.connection.control.peer_datagram ≡ b.max_datagram_size
      by true is = sym (h.shows.connection.emptied is).most
      by false is = sym (h.shows.connection.live is).datagrams.most

  -- ---- settings

  -- the streams have these limits, kept for later too if the peer's hello wasn't read yet
  pub record IsSet (streams : PlainStreams) (early : EarlyLimits) (old new : Connection S) : Type 0 where
    pub core : new.core ≡ with_streams old.core streams
    pub rest : new ≡ record old { core = new.core; early = (if is_some old.handshake.peer then old.early else early) }

  abbrev limited : Connection S → PlainStreams → EarlyLimits → Connection S
  limited c streams early = record c { core = with_streams c.core streams; early = (if is_some c.handshake.peer then c.early else early) }

  set_is : (streams : PlainStreams) (early : EarlyLimits) (old new : Connection S) → IsSet streams early old new → new ≡ limited old streams early
  set_is streams early old new h = h.rest ∙ ap (λ (z : Inner S). record old { core = z; early = (if is_some old.handshake.peer then old.early else early) }) h.core

  -- what is set holds on for one whose peer's hello wasn't read
  abbrev SetsUngreeted : Connection S → PlainStreams → EarlyLimits → Type 0
  SetsUngreeted c streams early = (c.handshake.peer ≡ None → IsUngreeted c → IsUngreeted (limited c streams early))

  set_shows : (was_told : Bool) (c : Connection S) (notes : ℕ → Note) (b : Book) (streams : PlainStreams) (early : EarlyLimits) (window : ℕ) → (ShowsStreams c.core.space.streams notes b → ShowsStreams streams notes (record b { send_window = window }))
      → SetsUngreeted c streams early → ShowsConnection was_told c notes b → ShowsConnection was_told (limited c streams early) notes (record b { send_window = window })
  set_shows was_told c notes b streams early window shows ungreeted h = record {
    side = h.side;
    addresses = h.addresses;
    connected = h.connected;
    drained = h.drained;
    live = λ calm. let l = h.live calm in record {
      streams = shows l.streams;
      datagrams = datagrams_beside c.control.datagrams (bounds_of c.control) b l.datagrams;
      kept = l.kept;
      ungreeted = λ none. ungreeted none (l.ungreeted none);
    };
    emptied = λ wanting. let e = h.emptied wanting in record {
      emptied = e.emptied;
      sends = e.sends;
      recvs = e.recvs;
      accepted = accepted_beside b (record b { send_window = window }) refl refl e.accepted;
      datagrams = e.datagrams;
      queued = e.queued;
      receive = e.receive;
      send = e.send;
      most = e.most;
    };
  }

  setting_shows : (old new : StateInner S) (streams : PlainStreams) (early : EarlyLimits) (window : ℕ → ℕ) → HasSameRest old new → IsSet streams early old.connection new.connection → SetsUngreeted old.connection streams early
      → ((notes : ℕ → Note) (b : Book) → ShowsStreams old.connection.core.space.streams notes b → ShowsStreams streams notes (record b { send_window = window b.send_window }))
      → (b : Book) → Shows old b → Shows new (record b { send_window = window b.send_window })
  setting_shows old new streams early window rest is ungreeted shows b h = record {
    notes = h.notes;
    shows = moved old new h.notes b b.datagrams b.queued (window b.send_window) rest h.shows (ap (λ (z : Connection S). is_wanting z) (set_is streams early old.connection new.connection is))
        (subst (λ (z : Connection S). ShowsConnection old.is_connected z h.notes (record b { send_window = window b.send_window })) (sym (set_is streams early old.connection new.connection is))
        (set_shows old.is_connected old.connection h.notes b streams early (window b.send_window) (shows h.notes b) ungreeted h.shows.connection));
  }

  sets : (old new : StateInner S) (streams : PlainStreams) (early : EarlyLimits) (window : ℕ → ℕ) → IsState old → IsWhole new.connection → HasSameRest old new → IsSet streams early old.connection new.connection → SetsUngreeted old.connection streams early
      → ((notes : ℕ → Note) (b : Book) → ShowsStreams old.connection.core.space.streams notes b → ShowsStreams streams notes (record b { send_window = window b.send_window }))
      → IsChanged (λ b. record b { send_window = window b.send_window }) old new
  sets old new streams early window h whole rest is ungreeted shows =
      let each = setting_shows old new streams early window rest is ungreeted shows in
      let all = set_is streams early old.connection new.connection is in
      record {
        each = each;
        state = state_by old new h whole (ap (λ (z : Connection S). is_open z.core.state) all) (ap (λ (z : Connection S). z.is_connected_due) all) (subst (λ (z : Connection S). IsLogging z) (sym all) h.logging) rest.error (record h.book { send_window = window h.book.send_window }) (each h.book h.shown);
      }

  ungreeted_count : (c : Connection S) (dir : Dir) (count : ℕ) → SetsUngreeted c (with_concurrent dir count c.core.space.streams) (early_concurrent dir count c.early)
  ungreeted_count c dir count none u = record {
    streams = concurrent_first dir count c.core.space.streams u.streams;
    side = concurrent_side dir count c.core.space.streams ∙ u.side;
    window = ap (λ (z : _). z.send_window) (concurrent_send dir count c.core.space.streams) ∙ u.window
        ∙ ap (λ (z : Option ℕ). or_set z c.core.config.limits.send_window) (sym (ap (λ (z : EarlyLimits). z.send_window) (if_unknown c.handshake.peer c.early (early_concurrent dir count c.early) none) ∙ concurrent_early dir count c.early));
    log = u.log;
    most = u.most;
  }

  ungreeted_window : (c : Connection S) (bytes : ℕ) → SetsUngreeted c (record c.core.space.streams { send = record c.core.space.streams.send { send_window = bytes } }) (record c.early { send_window = Some bytes })
  ungreeted_window c bytes none u = record {
    streams = first_window c.core.space.streams bytes u.streams;
    side = u.side;
    window = sym (ap (λ (z : EarlyLimits). or_set z.send_window c.core.config.limits.send_window) (if_unknown c.handshake.peer c.early (record c.early { send_window = Some bytes }) none));
    log = u.log;
    most = u.most;
  }

  ungreeted_receive : (c : Connection S) (bytes : ℕ) → SetsUngreeted c (record c.core.space.streams { recv = record c.core.space.streams.recv { receive_window = bytes } }) (record c.early { receive_window = Some bytes })
  ungreeted_receive c bytes none u = record {
    streams = first_receive c.core.space.streams bytes u.streams;
    side = u.side;
    window = u.window ∙ sym (ap (λ (z : EarlyLimits). or_set z.send_window c.core.config.limits.send_window) (if_unknown c.handshake.peer c.early (record c.early { receive_window = Some bytes }) none));
    log = u.log;
    most = u.most;
  }

  pub sets_count : (old new : StateInner S) (dir : Dir) (count : ℕ) → ((s : PlainStreams) (notes : ℕ → Note) (b : Book) → ShowsStreams s notes b → ShowsStreams (with_concurrent dir count s) notes b)
      → IsState old → IsWhole new.connection → HasSameRest old new → IsSet (with_concurrent dir count old.connection.core.space.streams) (early_concurrent dir count old.connection.early) old.connection new.connection → IsChanged (λ b. b) old new
  sets_count old new dir count law h whole rest is =
      sets old new _ _ (λ n. n) h whole rest is (ungreeted_count old.connection dir count) (λ notes b shown. law old.connection.core.space.streams notes b shown)

  pub sets_window : (old new : StateInner S) (bytes : ℕ) → ((s : PlainStreams) (notes : ℕ → Note) (b : Book) → ShowsStreams s notes b → ShowsStreams (record s { send = record s.send { send_window = bytes } }) notes (with_setting (setting.SendWindow bytes) b))
      → IsState old → IsWhole new.connection → HasSameRest old new
      → IsSet (record old.connection.core.space.streams { send = record old.connection.core.space.streams.send { send_window = bytes } }) (record old.connection.early { send_window = Some bytes }) old.connection new.connection
      → IsChanged (with_setting (setting.SendWindow bytes)) old new
  sets_window old new bytes law h whole rest is =
      sets old new _ _ (λ n. bytes) h whole rest is (ungreeted_window old.connection bytes) (λ notes b shown. law old.connection.core.space.streams notes b shown)

  pub sets_receive : (old new : StateInner S) (bytes : ℕ) → ((s : PlainStreams) (notes : ℕ → Note) (b : Book) → ShowsStreams s notes b → ShowsStreams (record s { recv = record s.recv { receive_window = bytes } }) notes b)
      → IsState old → IsWhole new.connection → HasSameRest old new
      → IsSet (record old.connection.core.space.streams { recv = record old.connection.core.space.streams.recv { receive_window = bytes } }) (record old.connection.early { receive_window = Some bytes }) old.connection new.connection
      → IsChanged (λ b. b) old new
  sets_receive old new bytes law h whole rest is =
      sets old new _ _ (λ n. n) h whole rest is (ungreeted_receive old.connection bytes) (λ notes b shown. law old.connection.core.space.streams notes b shown)
