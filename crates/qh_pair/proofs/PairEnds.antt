-- The steps of the ends of a pair: each goes on, the client's opens, or both do what is due.
use Rattle.std.proofs.Common.{◌≡◌, inl, inr, Bool, true, false, List, [], ◌++◌, ℕ, Option, Some, None, refl, sym, ◌∙◌, ap, subst, append-nil}
use Rattle.std.specs.Prelude.{MatchOption, length}
use Rattle.qh_base.specs.declared.connection_error.ConnectionError.{ConnectionError}
use Rattle.qh_base.specs.declared.time.Moment.{Moment}
use Rattle.qh_conduct.specs.Restarting.{IsCounting}
use Rattle.qh_conn.specs.declared.config.ConnConfig.{ConnConfig}
use Rattle.qh_roles.specs.Client.{PlainClient}
use Rattle.qh_roles.specs.Server.{PlainServer}
use Rattle.qh_spec.specs.Honest.{IsHonest}
use Rattle.qh_spec.specs.Link.{given_to}
use Rattle.qh_spec.specs.Record.{PlainEntry}
use Rattle.qh_spec.specs.Transcript.{Act, handed_in}
use Rattle.qh_spec.specs.declared.link.Event.{Event}
use Rattle.qh_spec.specs.declared.sides.Side.{Side}
use Rattle.qh_spec.specs.declared.sides.Side.TheVariants.{Client, Server}
use Rattle.qh_pair.specs.Ends.{End, own_id}
use Rattle.qh_pair.specs.Pair.{HasAcceptedEnd, HasOpenedEnd, IsRunning, IsRunningSoundly, PairState, id_length}
use Rattle.qh_pair.specs.Sound.{AreBy, AreSoundEnds, IsGreetedAt, IsGreetedBehind, IsHeardAt}
use Rattle.qh_pair.specs.Steps.{Did, EndStep, EndTicked, HasAcceptedAll, HasOpenedAll, IsCounted, IsEndUndisturbed, IsLostFairly, IsNewEnd, IsStill, KeepsCountsAt, PairStep, StaysSound, ended_by, is_done}
use Rattle.qh_pair.specs.Turn.{IsLostWith, IsNotLost}
use Rattle.qh_pair.specs.declared.ends.Ids.{Ids}
use Rattle.qh_pair.proofs.EndsAt.{accepted_after, accepted_kept, at_more, at_opened, at_waits, no_acts, not_out_of_memory, opened_after, opened_kept}
use Rattle.qh_pair.proofs.PairSounds.{came, ends_open, heard_goes, heard_opens, heard_waits, none_done}
use Rattle.qh_pair.proofs.PairSteps.{step_passes}
use Rattle.qh_pair.proofs.SameStreams.{asking_same, quiet_same, serving_same}
use Rattle.qh_pair.proofs.Wire.{whole_in, whole_out}

-- ---- the client's end goes on

client_runs : (w : Bool) (now : Moment) (p : PairState) (c : Option End) (t u : Option (List Event)) (K : List Event → Type 0) (events : List Event) (entries : List PlainEntry) → HasOpenedAll p.client p.client_end
    → (st : EndStep w now Client p.ids p.config p.client_end c t u K) → IsRunning true p events entries → IsRunning w (record p { client_end = c }) (events ++ st.more) entries
client_runs w now p c t u K events entries counted st run =
    let did : Did w now Client p.ids p.config p.client_end c run.client.acts st.more = st.does run.client.acts run.client.at.stands in
    record {
      client = record {
        acts = run.client.acts ++ did.acts;
        at = at_more w now Client p.ids p.config p.client_end c events st.more run.client.acts run.client.at did;
        asking = asking_same p.client run.client.acts (run.client.acts ++ did.acts) (quiet_same run.client.acts did.acts did.quiet) run.client.asking;
        opened = opened_after w p.client now p.config.idle p.client_end c st.undisturbed counted;
      };
      server = record {
        acts = run.server.acts;
        at = at_waits w Server p.ids p.config p.server_end events st.more run.server.acts st.silent run.server.at;
        serving = run.server.serving;
        accepted = run.server.accepted;
      };
    }

client_soundly : (w : Bool) (now : Moment) (p : PairState) (c : Option End) (t u : Option (List Event)) (K : List Event → Type 0) (events : List Event) (entries : List PlainEntry) → w ≡ true → HasOpenedAll p.client p.client_end
    → (st : EndStep w now Client p.ids p.config p.client_end c t u K) → IsHonest (events ++ st.more) → AreBy now.0 (events ++ st.more) → IsRunningSoundly p events entries
    → IsRunningSoundly (record p { client_end = c }) (events ++ st.more) entries
unfolding client_runs
client_soundly false now p c t u K events entries whole counted st honest by s = cc
client_soundly true now p c t u K events entries whole counted st honest by s =
    let run : IsRunning true p events entries = s.run in
    let did : Did true now Client p.ids p.config p.client_end c run.client.acts st.more = st.does run.client.acts run.client.at.stands in
    let given : handed_in run.client.acts ≡ given_to Client events = whole_in Client events run.client.acts run.client.at.told in
    let sound : StaysSound now Client p.ids p.config c p.server_end run.client.acts did.acts run.server.acts st.more
    = did.sound p.server_end run.server.acts refl s.sound.ends
    (came Client events st.more run.server.acts honest (whole_out Server events run.server.acts run.server.at.told) st.silent) in
    record {
      run = client_runs true now p c t u K events entries counted st run;
      sound = record {
        fits = s.sound.fits;
        lengths = s.sound.lengths;
        ends = sound.ends;
        client = heard_goes Client (id_length p) p.config now p.client_end c events st.more run.client.acts given by st.undisturbed
            (none_done Client p.ids p.config p.client_end p.server_end run.client.acts run.server.acts s.sound.ends) sound.greeted sound.restarted s.sound.client;
        server = heard_waits Server (id_length p) p.config p.server_end events st.more st.silent s.sound.server;
      };
    }

pub step_client : (w : Bool) (now : Moment) (p : PairState) (c : Option End) (t u : Option (List Event)) (r : List PlainEntry) (K : List Event → Type 0)
    → IsCounted p → EndStep w now Client p.ids p.config p.client_end c t u K → PairStep now.0 w p (record p { client_end = c }) t u r r K
step_client w now p c t u r K counted st = record {
  same = record { requests = refl; places = refl; ids = refl; config = refl; limits = refl; over = refl; known = record { client = st.known; server = λ k. k } };
  more = st.more;
  told_is = st.told_is;
  kind = st.kind;
  fresh = [];
  served_is = sym (append-nil r);
  running = λ events entries run. subst (λ (z : List PlainEntry). IsRunning w (record p { client_end = c }) (events ++ st.more) z) (sym (append-nil entries)) (client_runs w now p c t u K events entries counted.client st run);
  counted = λ e. record {
    client = opened_kept p.client now p.config.idle p.client_end c (subst (λ (z : Bool). IsEndUndisturbed z now p.config.idle p.client_end c) e st.undisturbed) counted.client;
    server = counted.server;
  };
  soundly = λ whole events entries honest by s.
      subst (λ (z : List PlainEntry). IsRunningSoundly (record p { client_end = c }) (events ++ st.more) z) (sym (append-nil entries)) (client_soundly w now p c t u K events entries whole counted.client st honest by s);
}

-- ---- the server's end goes on

server_runs : (w : Bool) (now : Moment) (p : PairState) (c : Option End) (t u : Option (List Event)) (K : List Event → Type 0) (events : List Event) (entries : List PlainEntry) → HasAcceptedAll p.server p.server_end
    → (st : EndStep w now Server p.ids p.config p.server_end c t u K) → IsRunning true p events entries → IsRunning w (record p { server_end = c }) (events ++ st.more) entries
server_runs w now p c t u K events entries counted st run =
    let did : Did w now Server p.ids p.config p.server_end c run.server.acts st.more = st.does run.server.acts run.server.at.stands in
    record {
      client = record {
        acts = run.client.acts;
        at = at_waits w Client p.ids p.config p.client_end events st.more run.client.acts st.silent run.client.at;
        asking = run.client.asking;
        opened = run.client.opened;
      };
      server = record {
        acts = run.server.acts ++ did.acts;
        at = at_more w now Server p.ids p.config p.server_end c events st.more run.server.acts run.server.at did;
        serving = serving_same p.server entries run.server.acts (run.server.acts ++ did.acts) (quiet_same run.server.acts did.acts did.quiet) run.server.serving;
        accepted = accepted_after w p.server now p.config.idle p.server_end c st.undisturbed counted;
      };
    }

server_soundly : (w : Bool) (now : Moment) (p : PairState) (c : Option End) (t u : Option (List Event)) (K : List Event → Type 0) (events : List Event) (entries : List PlainEntry) → w ≡ true → HasAcceptedAll p.server p.server_end
    → (st : EndStep w now Server p.ids p.config p.server_end c t u K) → IsHonest (events ++ st.more) → AreBy now.0 (events ++ st.more) → IsRunningSoundly p events entries
    → IsRunningSoundly (record p { server_end = c }) (events ++ st.more) entries
unfolding server_runs
server_soundly false now p c t u K events entries whole counted st honest by s = cc
server_soundly true now p c t u K events entries whole counted st honest by s =
    let run : IsRunning true p events entries = s.run in
    let did : Did true now Server p.ids p.config p.server_end c run.server.acts st.more = st.does run.server.acts run.server.at.stands in
    let given : handed_in run.server.acts ≡ given_to Server events = whole_in Server events run.server.acts run.server.at.told in
    let sound : StaysSound now Server p.ids p.config c p.client_end run.server.acts did.acts run.client.acts st.more
    = did.sound p.client_end run.client.acts refl s.sound.ends
    (came Server events st.more run.client.acts honest (whole_out Client events run.client.acts run.client.at.told) st.silent) in
    let long : length (own_id Server p.ids) ≡ length p.ids.client = s.sound.lengths in
    record {
      run = server_runs true now p c t u K events entries counted st run;
      sound = record {
        fits = s.sound.fits;
        lengths = s.sound.lengths;
        ends = sound.ends;
        client = heard_waits Client (id_length p) p.config p.client_end events st.more st.silent s.sound.client;
        server = heard_goes Server (id_length p) p.config now p.server_end c events st.more run.server.acts given by st.undisturbed
            (none_done Server p.ids p.config p.server_end p.client_end run.server.acts run.client.acts s.sound.ends)
            (λ w. sound.greeted (subst (λ (z : ℕ). IsGreetedBehind z Server (handed_in run.server.acts) st.more) (sym long) w))
            (λ before after x is counts. sound.restarted before after x is (subst (λ (z : ℕ). IsCounting z Client (handed_in run.server.acts ++ given_to Server before) x) (sym long) counts)) s.sound.server;
      };
    }

pub step_server : (w : Bool) (now : Moment) (p : PairState) (c : Option End) (t u : Option (List Event)) (r : List PlainEntry) (K : List Event → Type 0)
    → IsCounted p → EndStep w now Server p.ids p.config p.server_end c t u K → PairStep now.0 w p (record p { server_end = c }) t u r r K
step_server w now p c t u r K counted st = record {
  same = record { requests = refl; places = refl; ids = refl; config = refl; limits = refl; over = refl; known = record { client = λ k. k; server = st.known } };
  more = st.more;
  told_is = st.told_is;
  kind = st.kind;
  fresh = [];
  served_is = sym (append-nil r);
  running = λ events entries run. subst (λ (z : List PlainEntry). IsRunning w (record p { server_end = c }) (events ++ st.more) z) (sym (append-nil entries)) (server_runs w now p c t u K events entries counted.server st run);
  counted = λ e. record {
    client = counted.client;
    server = accepted_kept p.server now p.config.idle p.server_end c (subst (λ (z : Bool). IsEndUndisturbed z now p.config.idle p.server_end c) e st.undisturbed) counted.server;
  };
  soundly = λ whole events entries honest by s.
      subst (λ (z : List PlainEntry). IsRunningSoundly (record p { server_end = c }) (events ++ st.more) z) (sym (append-nil entries)) (server_soundly w now p c t u K events entries whole counted.server st honest by s);
}

-- ---- the client's end opens

opens_run : (p : PairState) (now : Moment) (c : End) (events : List Event) (entries : List PlainEntry) → p.client.next ≡ 0 → p.client_end ≡ None → IsNewEnd Client p.ids p.config now c → IsRunning true p events entries
    → IsRunning true (record p { client_end = Some c }) events entries
opens_run p now c events entries zero none new run = record {
  client = record {
    acts = run.client.acts;
    at = at_opened Client p.ids p.config p.client_end now c events run.client.acts none new run.client.at;
    asking = run.client.asking;
    opened = inr (new.opened ∙ sym zero);
  };
  server = record { acts = run.server.acts; at = run.server.at; serving = run.server.serving; accepted = run.server.accepted };
}

pub still_opens_client : (p : PairState) (now : Moment) (c : End) → IsCounted p → p.client_end ≡ None → IsNewEnd Client p.ids p.config now c → IsStill p (record p { client_end = Some c })
unfolding opens_run
still_opens_client p now c counted none new =
    let zero : p.client.next ≡ 0 = subst (λ (z : Option End). HasOpenedAll p.client z) none counted.client in
    record {
      same = record { requests = refl; places = refl; ids = refl; config = refl; limits = refl; over = refl; known = record { client = λ k. absurd (subst IsGreetedAt none k); server = λ k. k } };
      running = λ events entries run. opens_run p now c events entries zero none new run;
      counted = record { client = (new.opened ∙ sym zero, λ unknown. zero); server = counted.server };
      soundly = λ events entries s.
          let nothing : s.run.client.acts ≡ [] = no_acts Client p.ids p.config p.client_end s.run.client.acts none s.run.client.at.stands in
          record {
            run = opens_run p now c events entries zero none new s.run;
            sound = record {
              fits = s.sound.fits;
              lengths = s.sound.lengths;
              ends = ends_open p.ids p.config now c p.client_end p.server_end s.run.client.acts s.run.server.acts none new s.sound.fits s.sound.ends;
              client = heard_opens p.ids p.config (id_length p) now c events new (sym (whole_in Client events s.run.client.acts s.run.client.at.told) ∙ ap handed_in nothing);
              server = s.sound.server;
            };
          };
    }

-- ---- what is due

-- what was due was done, or memory was wanting for it
opened_ticked : (c : PlainClient) (old new : Option End) → KeepsCountsAt old new → HasOpenedAll c old → HasOpenedEnd c new
opened_ticked c None None k h = h
opened_ticked c None (Some d) k h = absurd k
opened_ticked c (Some b) None k h = absurd k
opened_ticked c (Some b) (Some d) (inl e) h = inl e
opened_ticked c (Some b) (Some d) (inr k) h = inr (k.opened c.next h).0

accepted_ticked : (s : PlainServer) (old new : Option End) → KeepsCountsAt old new → HasAcceptedAll s old → HasAcceptedEnd s new
accepted_ticked s None None k h = h
accepted_ticked s None (Some d) k h = absurd k
accepted_ticked s (Some b) None k h = absurd k
accepted_ticked s (Some b) (Some d) (inl e) h = inl e
accepted_ticked s (Some b) (Some d) (inr k) h = inr (k.accepted s.accepted h).0

opened_stays : (c : PlainClient) (old new : Option End) → KeepsCountsAt old new → IsNotLost new → HasOpenedAll c old → HasOpenedAll c new
opened_stays c None None k n h = h
opened_stays c None (Some d) k n h = absurd k
opened_stays c (Some b) None k n h = absurd k
opened_stays c (Some b) (Some d) (inl e) n h = absurd (not_out_of_memory d n e)
opened_stays c (Some b) (Some d) (inr k) n h = k.opened c.next h

accepted_stays : (s : PlainServer) (old new : Option End) → KeepsCountsAt old new → IsNotLost new → HasAcceptedAll s old → HasAcceptedAll s new
accepted_stays s None None k n h = h
accepted_stays s None (Some d) k n h = absurd k
accepted_stays s (Some b) None k n h = absurd k
accepted_stays s (Some b) (Some d) (inl e) n h = absurd (not_out_of_memory d n e)
accepted_stays s (Some b) (Some d) (inr k) n h = k.accepted s.accepted h

both_well : (client server : Option ConnectionError) → is_done (ended_by client server) ≡ true → (client ≡ None) × (server ≡ None)
both_well (Some e) server d = cc
both_well None (Some e) d = cc
both_well None None d = (refl, refl)

ticks_run : (now : ℕ) (p : PairState) (c d : Option End) (events : List Event) (entries : List PlainEntry) → IsCounted p → EndTicked now Client p.client_end c → EndTicked now Server p.server_end d → IsRunning true p events entries
    → IsRunning true (record p { client_end = c; server_end = d }) events entries
ticks_run now p c d events entries counted tc ts run = record {
  client = record {
    acts = run.client.acts;
    at = record { stands = tc.stands p.ids p.config run.client.acts run.client.at.stands; told = run.client.at.told };
    asking = run.client.asking;
    opened = opened_ticked p.client p.client_end c tc.counts counted.client;
  };
  server = record {
    acts = run.server.acts;
    at = record { stands = ts.stands p.ids p.config run.server.acts run.server.at.stands; told = run.server.at.told };
    serving = run.server.serving;
    accepted = accepted_ticked p.server p.server_end d ts.counts counted.server;
  };
}

-- what a moment that is due leaves of sound ends, and of what was heard
abbrev pub TicksSound : (now : ℕ) → Side → Option ConnectionError → (old new : Option End) → Type 0
TicksSound now side e old new = (ids : Ids) (config : ConnConfig) (peer : Option End) (t u : List Act) → AreSoundEnds side ids config old peer t u
    → MatchOption e (AreSoundEnds side ids config new peer t u) (λ x. IsLostFairly now x old)

abbrev pub TicksHeard : Side → Option ConnectionError → (old new : Option End) → Type 0
TicksHeard side e old new = (k : ℕ) (config : ConnConfig) (events : List Event) → e ≡ None → IsHeardAt side k config old events → IsHeardAt side k config new events

-- each end did what was due
pub step_ticks : (now : ℕ) (p : PairState) (c d : Option End) (client server : Option ConnectionError) (t : Option (List Event)) (r : List PlainEntry) → IsCounted p
    → EndTicked now Client p.client_end c → EndTicked now Server p.server_end d → MatchOption client (IsNotLost c) (λ e. IsLostWith e c) → MatchOption server (IsNotLost d) (λ e. IsLostWith e d)
    → TicksSound now Client client p.client_end c → TicksSound now Server server p.server_end d → TicksHeard Client client p.client_end c → TicksHeard Server server p.server_end d
    → PairStep now (is_done (ended_by client server)) p (record p { client_end = c; server_end = d }) t t r r (λ more. more ≡ [])
unfolding ticks_run
step_ticks now p c d client server t r counted tc ts lc ls fc fs hc hs =
    step_passes now (is_done (ended_by client server)) p (record p { client_end = c; server_end = d }) t r (λ more. more ≡ [])
    (record {
      same = record { requests = refl; places = refl; ids = refl; config = refl; limits = refl; over = refl; known = record { client = tc.known; server = ts.known } };
      running = λ events entries run. ticks_run now p c d events entries counted tc ts run;
      counted = λ e.
          let well = both_well client server e in
          record {
            client = opened_stays p.client p.client_end c tc.counts (subst (λ (z : Option ConnectionError). MatchOption z (IsNotLost c) (λ x. IsLostWith x c)) well.0 lc) counted.client;
            server = accepted_stays p.server p.server_end d ts.counts (subst (λ (z : Option ConnectionError). MatchOption z (IsNotLost d) (λ x. IsLostWith x d)) well.1 ls) counted.server;
          };
    })
    (λ e events entries s.
    let well = both_well client server e in
    let first : AreSoundEnds Client p.ids p.config c p.server_end s.run.client.acts s.run.server.acts
    = subst (λ (z : Option ConnectionError). MatchOption z (AreSoundEnds Client p.ids p.config c p.server_end s.run.client.acts s.run.server.acts) (λ x. IsLostFairly now x p.client_end)) well.0
    (fc p.ids p.config p.server_end s.run.client.acts s.run.server.acts s.sound.ends) in
    let second : AreSoundEnds Server p.ids p.config d c s.run.server.acts s.run.client.acts
    = subst (λ (z : Option ConnectionError). MatchOption z (AreSoundEnds Server p.ids p.config d c s.run.server.acts s.run.client.acts) (λ x. IsLostFairly now x p.server_end)) well.1
    (fs p.ids p.config c s.run.server.acts s.run.client.acts first) in
    record {
      run = ticks_run now p c d events entries counted tc ts s.run;
      sound = record {
        fits = s.sound.fits;
        lengths = s.sound.lengths;
        ends = second;
        client = hc (id_length p) p.config events well.0 s.sound.client;
        server = hs (id_length p) p.config events well.1 s.sound.server;
      };
    })
    refl
