-- How a history begins: the log of a connection is taken.
use Rattle.std.proofs.Common.{◌≡◌, ℕ, Bool, true, List, [], ◌∷◌, ◌++◌, map, Option, None, Some, is_some, refl, sym, ap, subst, ◌∙◌, inl}
use Rattle.std.proofs.lemmas.Option.{none-some, same_Some}
use Rattle.std.specs.Option.{option_map}
use Rattle.qh_base.specs.declared.connection_error.ConnectionError.{ConnectionError}
use Rattle.qh_base.specs.declared.time.Moment.{Moment}
use Rattle.qh_book.specs.Book.{Book}
use Rattle.qh_book.specs.History.{PlainEntry}
use Rattle.qh_book.specs.Shown.{Note}
use Rattle.qh_book.specs.Step.{driven}
use Rattle.qh_book.specs.declared.call.Call.TheVariants as call
use Rattle.qh_book.specs.declared.reply.Reply.TheVariants as reply
use Rattle.qh_conn.specs.Items.{came}
use Rattle.qh_conn.specs.Whole.{IsWhole}
use Rattle.qh_conn.specs.declared.connection.Connection.{Connection}
use Rattle.qh_control.specs.Items.{Entries, items_of, kept_in, logged, streamed}
use Rattle.qh_control.specs.declared.items.ConnectionItem.{ConnectionItem}
use Rattle.qh_control.specs.declared.items.LogEntry.{LogEntry}
use Rattle.qh_quinn.specs.Losses.{lost_items}
use Rattle.qh_quinn.specs.Recording.{IsRecorded, IsUnused, items_kept}
use Rattle.qh_quinn.specs.States.{IsState, Shows}
use Rattle.qh_quinn.specs.declared.inner.StateInner.{StateInner}
use Rattle.qh_shown.specs.Connections.{ShowsConnection, opening_book}
use Rattle.qh_shown.specs.Items.{item_of}

abbrev emptied : Option (List ConnectionItem) → Option (List ConnectionItem)
emptied log = option_map (λ _. []) log

is_on : (log : Option (List ConnectionItem)) → is_some (emptied log) ≡ true → is_some log ≡ true
is_on None is = is
is_on (Some log) is = refl

emptied_log : (log : Option (List ConnectionItem)) (more items : List ConnectionItem) → (is_some (emptied log) ≡ true → more ≡ []) → logged log more ≡ Some items → logged (emptied log) more ≡ Some []
emptied_log None more items none is = absurd (none-some items is)
emptied_log (Some log) more items none is = ap Some (none refl)

-- the first entry of a history
pub first_entry : {T : Type 0} (now : Moment) (error lost : Option ConnectionError) (items : List ConnectionItem) (entries : List LogEntry) (before after : List (PlainEntry T))
    → after ≡ before ++ record { call = call.Drive now; reply = reply.Pending; items = items_kept entries lost } ∷ [] → before ≡ [] → items_of entries ≡ items → lost ≡ error
    → after ≡ record { call = call.Drive now; reply = reply.Pending; items = map item_of items ++ lost_items error } ∷ []
first_entry {T} now error lost items entries before after is none kept why = is ∙ rw (none, kept, why) refl

module _ {S : Type 0} where
  abbrev log_taken : Connection S → Connection S
  log_taken c = record c { control = record c.control { log = emptied c.control.log } }

  -- ---- what is shown of it is the same

  connection_shown : (was_told : Bool) (c : Connection S) (notes : ℕ → Note) (b : Book) → ShowsConnection was_told c notes b → ShowsConnection was_told (log_taken c) notes b
  connection_shown was_told c notes b h = record {
    side = h.side;
    addresses = h.addresses;
    connected = h.connected;
    drained = h.drained;
    live = λ calm. let l = h.live calm in record {
      streams = l.streams;
      datagrams = l.datagrams;
      kept = l.kept;
      ungreeted = λ none. let u = l.ungreeted none in record { streams = u.streams; side = u.side; window = u.window; log = u.log; most = u.most };
    };
    emptied = h.emptied;
  }

  taken_shown : (s : StateInner S) (b : Book) → Shows s b → Shows (record s { connection = log_taken s.connection }) b
  taken_shown s b h = record {
    notes = h.notes;
    shows = record {
      connection = connection_shown s.is_connected s.connection h.notes b h.shows.connection;
      readers = h.shows.readers;
      untouched = h.shows.untouched;
      stable_id = h.shows.stable_id;
      error = h.shows.error;
      handles = h.shows.handles;
      interests = h.shows.interests;
    };
  }

  pub taken_state : (s : StateInner S) (to : Connection S) → to ≡ log_taken s.connection → IsWhole to → IsState s → IsState (record s { connection = to })
  taken_state s to is whole h = subst (λ (c : Connection S). IsState (record s { connection = c })) (sym is) (record {
    whole = subst (λ (c : Connection S). IsWhole c) is whole;
    lost = h.lost;
    told = h.told;
    logging = λ up greeted on. h.logging up greeted (is_on s.connection.control.log on);
    book = h.book;
    shown = taken_shown s h.book h.shown;
  })

  -- ---- what is in it

  none_came : (c : Connection S) (items : List ConnectionItem) → IsWhole (log_taken c) → came c ≡ Some items → came (log_taken c) ≡ Some []
  none_came c items whole is = emptied_log c.control.log (streamed c.core.space.log) items (λ on. whole.current (inl on)) is

  -- what was taken is what came
  pub kept_are : (taken : Option (Entries)) (entries : Entries) (c : Connection S) (items : List ConnectionItem) → taken ≡ Some entries → kept_in taken ≡ came c → came c ≡ Some items → items_of entries.items ≡ items
  kept_are taken entries c items is kept logged = same_Some (items_of entries.items) items (sym (ap kept_in is) ∙ kept ∙ logged)

  pub not_off : {X : Type 0} (taken : Option (Entries)) (c : Connection S) (items : List ConnectionItem) → taken ≡ None → kept_in taken ≡ came c → came c ≡ Some items → X
  not_off taken c items is kept logged = absurd (none-some items (sym (ap kept_in is) ∙ kept ∙ logged))

  -- ---- the history

  pub recorded : {T : Type 0} (s : StateInner S) (to : Connection S) (history : List (PlainEntry T)) (u : IsUnused s) → to ≡ log_taken s.connection → IsWhole to
      → history ≡ record { call = call.Drive s.last_turn; reply = reply.Pending; items = map item_of u.items ++ lost_items s.error } ∷ [] → IsRecorded (record s { connection = to }) history
  recorded {T} s to history u is whole entry =
      subst (λ (c : Connection S). IsRecorded (record s { connection = c }) history) (sym is)
      (subst (λ (es : List (PlainEntry T)). IsRecorded (record s { connection = log_taken s.connection }) es) (sym entry)
      (record {
        first = opening_book s.connection s.stable_id;
        is_first = record {
          side = s.connection.core.side;
          addresses = s.connection.core.addresses;
          stable_id = s.stable_id;
          send_window = s.connection.config.limits.send_window;
          datagram_receive = s.connection.config.datagram_receive;
          datagram_send = s.connection.config.datagram_send;
          is = refl;
        };
        last = driven (map item_of u.items ++ lost_items s.error) (opening_book s.connection s.stable_id);
        replays = (driven (map item_of u.items ++ lost_items s.error) (opening_book s.connection s.stable_id), refl, refl);
        shows = taken_shown s (driven (map item_of u.items ++ lost_items s.error) (opening_book s.connection s.stable_id)) u.shows;
        taken = none_came s.connection u.items (subst (λ (c : Connection S). IsWhole c) is whole) u.logged;
      }))
