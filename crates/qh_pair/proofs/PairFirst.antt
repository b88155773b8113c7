-- A pair before its first turn.
use Rattle.std.proofs.Common.{◌≡◌, ◌≤◌, Bool, true, List, [], ◌∷◌, Option, Some, None, refl, sym, subst, arith, length}
use Rattle.std.specs.Prelude.{not}
use Rattle.qh_roles.specs.Client.{PlainClient, Asking, held}
use Rattle.qh_roles.specs.Server.{Serving}
use Rattle.qh_spec.specs.Config.{Fits, PlainConfig}
use Rattle.qh_spec.specs.Message.{PlainMessage}
use Rattle.qh_spec.specs.Record.{PlainEntry}
use Rattle.qh_spec.specs.Transcript.{Act}
use Rattle.qh_spec.specs.declared.link.Event.{Event}
use Rattle.qh_spec.specs.declared.sides.Side.TheVariants.{Client, Server}
use Rattle.qh_pair.specs.Ends.{End, Stands}
use Rattle.qh_pair.specs.Pair.{HasAcceptedEnd, HasOpenedEnd, IsRunning, IsRunningSoundly, PairState, Running, id_length}
use Rattle.qh_pair.specs.Settings.{conn_config}
use Rattle.qh_pair.specs.Sound.{AreSound, IsHeardAt}
use Rattle.qh_pair.specs.Steps.{HasAcceptedAll, HasOpenedAll, HasRun}
use Rattle.qh_pair.proofs.EndsAt.{no_acts}
use Rattle.qh_pair.proofs.Wire.{told_weaker}

-- a pair before anything passed
pub runs_first : (w : Bool) (p : PairState) → p.client_end ≡ None → p.server_end ≡ None → Asking p.client [] → p.client.next ≡ 0 → Serving p.server [] [] → p.server.accepted ≡ 0 → IsRunning w p [] []
runs_first w p none_c none_s asking next serving accepted = record {
  client = record {
    acts = [];
    at = record { stands = subst (λ (z : Option End). Stands Client p.ids p.config z []) (sym none_c) refl; told = told_weaker w Client [] [] refl };
    asking = asking;
    opened = subst (λ (z : Option End). HasOpenedEnd p.client z) (sym none_c) next;
  };
  server = record {
    acts = [];
    at = record { stands = subst (λ (z : Option End). Stands Server p.ids p.config z []) (sym none_s) tt; told = told_weaker w Server [] [] refl };
    serving = serving;
    accepted = subst (λ (z : Option End). HasAcceptedEnd p.server z) (sym none_s) accepted;
  };
}

pub run_first : (p : PairState) → p.client_end ≡ None → p.server_end ≡ None → Asking p.client [] → p.client.next ≡ 0 → length p.client.answers ≡ length p.client.requests
    → Serving p.server [] [] → p.server.accepted ≡ 0 → HasRun p
run_first p none_c none_s asking next places serving accepted = record {
  events = [];
  entries = [];
  running = runs_first true p none_c none_s asking next serving accepted;
  counted = λ e. record {
    client = subst (λ (z : Option End). HasOpenedAll p.client z) (sym none_c) next;
    server = subst (λ (z : Option End). HasAcceptedAll p.server z) (sym none_s) accepted;
  };
  places = places;
}

-- the requests come before anything was done
pub asks_first : (w : Bool) (p : PairState) (c : PlainClient) (events : List Event) (entries : List PlainEntry) → p.client_end ≡ None → Asking c [] → c.next ≡ 0
    → IsRunning w p events entries → IsRunning w (record p { client = c }) events entries
asks_first w p c events entries none asking next run = record {
  client = record {
    acts = run.client.acts;
    at = run.client.at;
    asking = subst (λ (z : List Act). Asking c z) (sym (no_acts Client p.ids p.config p.client_end run.client.acts none run.client.at.stands)) asking;
    opened = subst (λ (z : Option End). HasOpenedEnd c z) (sym none) next;
  };
  server = record { acts = run.server.acts; at = run.server.at; serving = run.server.serving; accepted = run.server.accepted };
}

pub asks_run : (p : PairState) (c : PlainClient) → p.client_end ≡ None → Asking c [] → c.next ≡ 0 → length c.answers ≡ length c.requests → HasRun p → HasRun (record p { client = c })
asks_run p c none asking next places run = record {
  events = run.events;
  entries = run.entries;
  running = asks_first true p c run.events run.entries none asking next run.running;
  counted = λ e. record { client = subst (λ (z : Option End). HasOpenedAll c z) (sym none) next; server = (run.counted e).server };
  places = places;
}

-- no end is there, and its settings fit
none_sound : (p : PairState) → p.client_end ≡ None → p.server_end ≡ None → AreSound p.ids p.config p.client_end p.server_end [] []
none_sound p none_c none_s = subst (λ (z : Option End). AreSound p.ids p.config z p.server_end [] []) (sym none_c) (subst (λ (z : Option End). AreSound p.ids p.config None z [] []) (sym none_s) (refl, refl))

pub first_soundly : (p : PairState) (config : PlainConfig) → p.client_end ≡ None → p.server_end ≡ None → Asking p.client [] → p.client.next ≡ 0 → Serving p.server [] [] → p.server.accepted ≡ 0
    → p.config ≡ conn_config config → Fits config → length p.ids.server ≡ length p.ids.client → IsRunningSoundly p [] []
unfolding runs_first
first_soundly p config none_c none_s asking next serving accepted is fits same =
    let bidi = fits.windows.bidi.1 in
    let uni = fits.windows.uni.1 in
    record {
      run = runs_first true p none_c none_s asking next serving accepted;
      sound = record {
        fits = rw is (omega (arith, bidi), omega (arith, uni));
        lengths = same;
        ends = none_sound p none_c none_s;
        client = subst (λ (z : Option End). IsHeardAt Client (id_length p) p.config z []) (sym none_c) tt;
        server = subst (λ (z : Option End). IsHeardAt Server (id_length p) p.config z []) (sym none_s) tt;
      };
    }

pub first_running : (p : PairState) → IsRunning (not p.is_over) p [] [] → IsRunningSoundly p [] [] → Running p [] []
unfolding Running
first_running p run s = record { running = run; soundly = λ e honest. s }

asks_soundly : (p : PairState) (c : PlainClient) (events : List Event) (entries : List PlainEntry) → p.client_end ≡ None → Asking c [] → c.next ≡ 0 → IsRunningSoundly p events entries
    → IsRunningSoundly (record p { client = c }) events entries
unfolding asks_first
asks_soundly p c events entries none asking next s = record {
  run = asks_first true p c events entries none asking next s.run;
  sound = record { fits = s.sound.fits; lengths = s.sound.lengths; ends = s.sound.ends; client = s.sound.client; server = s.sound.server };
}

pub asked_running : (p : PairState) (c : PlainClient) (events : List Event) (entries : List PlainEntry) → p.client_end ≡ None → Asking c [] → c.next ≡ 0
    → Running p events entries → Running (record p { client = c }) events entries
unfolding Running
asked_running p c events entries none asking next run = record {
  running = asks_first (not p.is_over) p c events entries none asking next run.running;
  soundly = λ e honest. asks_soundly p c events entries none asking next (run.soundly e honest);
}

-- no more answers are held than there are places for them
held_within : (answers : List (Option PlainMessage)) → held answers ≤ length answers
held_within [] = omega arith
held_within (None ∷ xs) = let i = held_within xs in omega (arith, i)
held_within (Some x ∷ xs) = let i = held_within xs in omega (arith, i)

pub held_few : (answers : List (Option PlainMessage)) (requests : List PlainMessage) → length answers ≡ length requests → held answers ≤ length requests
held_few answers requests same = let i = held_within answers in omega (arith, same, i)
