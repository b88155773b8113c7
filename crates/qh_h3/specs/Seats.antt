-- What the handles of a connection share, and what a seat knows of it (own).
use Rattle.std.specs.Prelude.{◌≡◌, ℕ, Bool, true, false, ◌||◌, Option, Some, None, Result, Ok, Err}
use Rattle.atomic_table.specs.Seated.{TableId}
use Rattle.once_cell.specs.declared.race.note.Note.{Note}
use Rattle.qh_base.specs.declared.memory.Memory.{Memory}
use Rattle.qh_h3wire.specs.Settings.{PlainSettings}
use Rattle.qh_h3wire.specs.SettingsValue.{plain_of, default_settings}
use Rattle.qh_h3wire.specs.declared.settings.Settings.{Settings}
use Rattle.qh_h3.specs.Known.{IsOffered, first_of}
use Rattle.qh_h3.specs.declared.error.ErrorOrigin.{ErrorOrigin}
use Rattle.qh_h3.specs.declared.error.StreamError.{StreamError}
use Rattle.qh_h3.specs.declared.error.StreamError.TheVariants.{RemoteClosing}
use Rattle.qh_h3.specs.declared.shared_state.flag.Sight.{Sight}

-- which state it is: its two cells, and the table of its flag
pub record StateId : Type 0 where
  pub error : ℕ
  pub settings : ℕ
  pub closing : TableId

abbrev pub state_id : ℕ → ℕ → TableId → StateId
state_id error settings closing = record { error = error; settings = settings; closing = closing }

pub record Seated : Type 0 where
  -- the state that it is a seat of
  pub state : StateId
  -- the connection's error, once it knows one
  pub error : Option ErrorOrigin
  -- the error that it set, or that a seat which it took in had set
  pub own_error : Option ErrorOrigin
  -- the peer's settings, once it knows them
  pub settings : Option Settings
  -- the settings that it set, or that a seat which it took in had set
  pub own_settings : Option Settings
  -- it saw that the connection closes
  pub is_closing : Bool
  -- it said so, or a seat that it took in did
  pub has_closed : Bool
  -- there never was another seat of the state
  pub is_alone : Bool

abbrev pub seated : Note ErrorOrigin → Option ErrorOrigin → Note Settings → Option Settings → TableId → Sight → Seated
seated e own_error s own_settings closing v = record {
  state = state_id e.cell s.cell closing;
  error = e.known;
  own_error = own_error;
  settings = s.known;
  own_settings = own_settings;
  is_closing = v.saw;
  has_closed = v.own;
  is_alone = v.alone;
}

-- `new`
abbrev pub first_seat : StateId → Seated
first_seat id = record { state = id; error = None; own_error = None; settings = None; own_settings = None; is_closing = false; has_closed = false; is_alone = true }

-- the seat with another knowledge of the error, and of the settings
abbrev pub with_error : Seated → Option ErrorOrigin → Option ErrorOrigin → Seated
with_error s error own = record s { error = error; own_error = own }

abbrev pub with_settings : Seated → Option Settings → Option Settings → Seated
with_settings s settings own = record s { settings = settings; own_settings = own }

-- `set_conn_error`: the error was offered, and nothing else changed
pub record OffersError (error : ErrorOrigin) (old new : Seated) : Type 0 where
  pub offered : IsOffered error old.error new.error old.own_error new.own_error
  pub rest : new ≡ with_error old new.error new.own_error

-- `set_closing`
abbrev pub closed_by : Seated → Seated
closed_by s = record s { is_closing = true; has_closed = true }

-- `is_closing`: what it saw it sees again, and a seat that is alone sees what it did
pub record FindsClosing (old new : Seated) : Type 0 where
  pub stays : old.is_closing ≡ true → new.is_closing ≡ true
  pub alone : old.is_alone ≡ true → new.is_closing ≡ old.has_closed
  pub rest : new ≡ record old { is_closing = new.is_closing }

abbrev pub closing_answer : Bool → Option StreamError
closing_answer true = Some RemoteClosing
closing_answer false = None

-- `split`: what the seat keeps, and the new seat
abbrev pub split_off : Seated → Seated
split_off s = record s { is_alone = false }

abbrev pub other_seat : Seated → Seated
other_seat s = record s { own_error = None; own_settings = None; has_closed = false; is_alone = false }

-- `join`, after which it knows this error and these settings
abbrev pub joined : Seated → Seated → Option ErrorOrigin → Option Settings → Seated
joined s t error settings = record {
  state = s.state;
  error = error;
  own_error = first_of s.own_error t.own_error;
  settings = settings;
  own_settings = first_of s.own_settings t.own_settings;
  is_closing = s.is_closing || t.is_closing;
  has_closed = s.has_closed || t.has_closed;
  is_alone = false;
}

-- what is answered once this is known; without it memory was wanted
abbrev pub error_answer : Option ErrorOrigin → Result ErrorOrigin Memory
error_answer (Some e) = Ok e
error_answer None = Err (record {})

abbrev pub set_answer : Option Settings → Result (Unit {0}) Memory
set_answer (Some s) = Ok tt
set_answer None = Err (record {})

-- the settings that count
abbrev pub settings_of : Option Settings → PlainSettings
settings_of (Some s) = plain_of s
settings_of None = default_settings
