-- A state behind what a turn brought: what holds between two turns holds of it.
use Rattle.std.proofs.Common.{◌≡◌, ◌⊎◌, Bool, true, false, not, List, [], ◌∷◌, ◌++◌, map, Option, None, Some, is_some, append-nil, refl, sym, ap, subst, inl, inr, ◌∙◌}
use Rattle.std.proofs.lemmas.Bool.{false≢true}
use Rattle.qh_base.specs.declared.connection_error.ConnectionError.{ConnectionError}
use Rattle.qh_base.specs.declared.connection_error.ConnectionError.TheVariants as error
use Rattle.qh_base.specs.declared.transport_error.TransportError.{TransportError}
use Rattle.qh_book.specs.Book.{Book}
use Rattle.qh_book.specs.Items.{bring_all, is_memory}
use Rattle.qh_book.specs.declared.item.Item.{Item}
use Rattle.qh_book.specs.declared.item.Item.TheVariants as item
use Rattle.qh_conn.specs.Items.{came}
use Rattle.qh_conn.specs.Whole.{IsWhole}
use Rattle.qh_conn.specs.declared.connection.Connection.{Connection}
use Rattle.qh_control.specs.Items.{logged}
use Rattle.qh_control.specs.declared.items.ConnectionItem.{ConnectionItem}
use Rattle.qh_core.specs.Inner.{is_open}
use Rattle.qh_quinn.proofs.Moving.{calm_if_none}
use Rattle.qh_quinn.proofs.TakingUp.{IsBeside, lives_lost, lives_on, lives_wanting, wanting_kept}
use Rattle.qh_quinn.proofs.Tellings.{Tells, told_logging, told_logs, told_shows, told_state}
use Rattle.qh_quinn.specs.Losses.{lost_items}
use Rattle.qh_quinn.specs.States.{IsState, Shows}
use Rattle.qh_quinn.specs.Telling.{AreTold}
use Rattle.qh_quinn.specs.Turning.{IsBrought, some, wanting}
use Rattle.qh_quinn.specs.declared.inner.StateInner.{StateInner}
use Rattle.qh_shown.specs.Brings.{BringsSome, EndsWanting, IsLogging}
use Rattle.qh_shown.specs.Connections.{is_wanting, is_wanting_in, spared_all}
use Rattle.qh_shown.specs.Items.{brought, item_of}

wanting_error : (o : Option ConnectionError) → is_wanting_in o ≡ true → o ≡ Some error.Memory
wanting_error (Some error.Memory) is = refl
wanting_error None is = absurd (false≢true is)
wanting_error (Some other) is = absurd (false≢true is)

memory_wanting : (e : ConnectionError) → is_memory e ≡ is_wanting_in (Some e)
memory_wanting e = refl

pub lost_by_core : (error : Option ConnectionError) (up : Bool) → (up ≡ true → error ≡ None) → (up ≡ false → is_some error ≡ true) → is_some error ≡ not up
lost_by_core error true lives lost = ap is_some (lives refl)
lost_by_core error false lives lost = lost refl

module _ {S : Type 0} where
  -- The connection of a state went on to this one, and what was due then was told to the application. Beside its connection, and the error that is kept,
  -- the state is the same.
  pub record IsToldOn (first : StateInner S) (mid : Connection S) (new : StateInner S) : Type 0 where
    pub beside : IsBeside first new
    pub told : AreTold first.is_connected mid new.is_connected new.connection
    pub whole : IsWhole new.connection
    pub due : new.connection.is_connected_due ≡ false
    pub lives : is_open new.connection.core.state ≡ true → new.connection.core.error ≡ None
    pub lost : is_open new.connection.core.state ≡ false → is_some new.connection.core.error ≡ true

  same_wanting : (first : StateInner S) (mid : Connection S) (new : StateInner S) → IsToldOn first mid new → is_wanting new.connection ≡ is_wanting mid
  same_wanting first mid new on = ap is_wanting_in (told_state first.is_connected mid new.is_connected new.connection on.told).1

  same_open : (first : StateInner S) (mid : Connection S) (new : StateInner S) → IsToldOn first mid new → is_open new.connection.core.state ≡ is_open mid.core.state
  same_open first mid new on = ap is_open (told_state first.is_connected mid new.is_connected new.connection on.told).0

  -- These items came last in the connection's log, and they lead, with the loss behind them if it is new, from each book that shows the state to one that
  -- shows the new one.
  pub record Leads (loss : Option ConnectionError) (old new : StateInner S) : Type 0 where
    pub items : List ConnectionItem
    pub logs : came new.connection ≡ logged (came old.connection) items
    pub each : (b : Book) → Shows old b → Shows new (bring_all (map item_of items ++ lost_items loss) b)

  some_leads : Tells S → (first new : StateInner S) (mid : Connection S) → BringsSome first.connection mid → IsToldOn first mid new → new.error ≡ first.error → Leads None first new
  some_leads law first new mid s on kept = record {
    items = s.items;
    logs = told_logs law first.is_connected mid new.is_connected new.connection on.told ∙ s.brings.logs;
    each = λ b h. subst (λ (items : List Item). Shows new (bring_all items b)) (sym (append-nil (map item_of s.items)))
        (record {
          notes = h.notes;
          shows = lives_on s.items first new mid h.notes b on.beside s.brings h.shows (λ c. told_shows law first.is_connected mid new.is_connected new.connection on.told h.notes c) (same_wanting first mid new on) kept;
        });
  }

  some_lost : Tells S → (first new : StateInner S) (mid : Connection S) (e : ConnectionError) → BringsSome first.connection mid → IsToldOn first mid new → new.error ≡ Some e → is_memory e ≡ false → Leads (Some e) first new
  some_lost law first new mid e s on kept calm = record {
    items = s.items;
    logs = told_logs law first.is_connected mid new.is_connected new.connection on.told ∙ s.brings.logs;
    each = λ b h. record {
      notes = h.notes;
      shows = lives_lost s.items first new mid h.notes b e on.beside s.brings h.shows (λ c. told_shows law first.is_connected mid new.is_connected new.connection on.told h.notes c) (same_wanting first mid new on) kept calm;
    };
  }

  wanting_leads : Tells S → (first new : StateInner S) (mid : Connection S) → is_wanting first.connection ≡ false → EndsWanting first.connection mid → IsToldOn first mid new → new.error ≡ new.connection.core.error → Leads (Some error.Memory) first new
  wanting_leads law first new mid calm e on kept =
      let is : is_wanting new.connection ≡ true = same_wanting first mid new on ∙ e.wanting in
      record {
        items = e.items;
        logs = told_logs law first.is_connected mid new.is_connected new.connection on.told ∙ e.logs;
        each = λ b h. record {
          notes = spared_all h.notes (brought e.items b);
          shows = lives_wanting first new mid h.notes b e on.beside h.shows calm (λ notes c. told_shows law first.is_connected mid new.is_connected new.connection on.told notes c) is (kept ∙ wanting_error new.connection.core.error is);
        };
      }

  -- ---- the error of the connection is kept from then on: none was, or want of memory ended it now

  abbrev pub IsNews : (first new : StateInner S) → Type 0
  IsNews first new = (first.error ≡ None) ⊎ ((is_wanting first.connection ≡ false) × (is_wanting new.connection ≡ true))

  calm_first : (first new : StateInner S) → IsState first → IsNews first new → is_wanting first.connection ≡ false
  calm_first first new state (inl none) = calm_if_none first state none
  calm_first first new state (inr both) = both.0

  pub reason_leads : Tells S → (first new : StateInner S) (mid : Connection S) → IsState first → IsNews first new → IsBrought first.connection mid → IsToldOn first mid new → new.error ≡ new.connection.core.error → Leads new.error first new
  reason_leads law first new mid state news (wanting calm e) on kept =
      subst (λ (loss : Option ConnectionError). Leads loss first new) (sym (kept ∙ wanting_error new.connection.core.error (same_wanting first mid new on ∙ e.wanting))) (wanting_leads law first new mid calm e on kept)
  reason_leads law first new mid state news (some s) on kept = at news new.connection.core.error refl
    where
      calm : is_wanting new.connection ≡ false
      calm = same_wanting first mid new on
          ∙ (wanting_kept s.items first.connection mid first.is_connected state.shown.notes state.book s.brings state.shown.shows.connection ∙ calm_first first new state news)

      at : IsNews first new → (o : Option ConnectionError) → new.connection.core.error ≡ o → Leads new.error first new
      at (inl none) None is = subst (λ (loss : Option ConnectionError). Leads loss first new) (sym (kept ∙ is)) (some_leads law first new mid s on (kept ∙ (is ∙ sym none)))
      at news (Some e) is = subst (λ (loss : Option ConnectionError). Leads loss first new) (sym (kept ∙ is)) (some_lost law first new mid e s on (kept ∙ is) (sym (ap is_wanting_in is) ∙ calm))
      at (inr both) None is = absurd (false≢true (sym calm ∙ both.1))

  -- ---- the error stays

  pub kept_leads : Tells S → (first new : StateInner S) (mid : Connection S) → IsState first → (is_wanting first.connection ≡ false → is_wanting new.connection ≡ false) → IsBrought first.connection mid → IsToldOn first mid new
      → new.error ≡ first.error → Leads None first new
  kept_leads law first new mid state calm (some s) on kept = some_leads law first new mid s on kept
  kept_leads law first new mid state calm (wanting was e) on kept = absurd (false≢true (sym (calm was) ∙ (same_wanting first mid new on ∙ e.wanting)))

  -- ---- the socket failed

  pub failed_leads : Tells S → (first new : StateInner S) (mid : Connection S) (e : TransportError) → BringsSome first.connection mid → IsToldOn first mid new → new.error ≡ Some (error.TransportError e) → Leads (Some (error.TransportError e)) first new
  failed_leads law first new mid e s on kept = some_lost law first new mid (error.TransportError e) s on kept refl

  -- ---- what holds of the state then

  pub led_state : Tells S → (loss : Option ConnectionError) (first new : StateInner S) (mid : Connection S) → IsState first → Leads loss first new → IsToldOn first mid new → is_some new.error ≡ not (is_open new.connection.core.state) → IsLogging mid
      → IsState new
  led_state law loss first new mid state leads on lost logging = record {
    whole = on.whole;
    lost = lost;
    told = on.due;
    logging = told_logging law first.is_connected mid new.is_connected new.connection on.told logging;
    book = bring_all (map item_of leads.items ++ lost_items loss) state.book;
    shown = leads.each state.book state.shown;
  }

  pub reason_lost : (first new : StateInner S) (mid : Connection S) → IsToldOn first mid new → new.error ≡ new.connection.core.error → is_some new.error ≡ not (is_open new.connection.core.state)
  reason_lost first new mid on kept = ap is_some kept ∙ lost_by_core new.connection.core.error (is_open new.connection.core.state) on.lives on.lost
