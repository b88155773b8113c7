-- How a pair goes on, step by step.
use Rattle.std.proofs.Common.{◌≡◌, Bool, true, false, List, [], ◌++◌, ℕ, Option, Some, None, refl, sym, ◌∙◌, ap, subst, append_assoc, append-nil}
use Rattle.std.specs.Prelude.{length}
use Rattle.qh_spec.specs.Honest.{IsHonest}
use Rattle.qh_spec.specs.Link.{told}
use Rattle.qh_spec.specs.Message.{PlainMessage}
use Rattle.qh_spec.specs.Record.{PlainEntry}
use Rattle.qh_spec.specs.Transcript.{Act}
use Rattle.qh_spec.specs.declared.link.Event.{Event}
use Rattle.qh_spec.specs.declared.sides.Side.TheVariants.{Client, Server}
use Rattle.qh_pair.specs.Pair.{IsRunning, IsRunningSoundly, PairState, id_length, told_acts, wire}
use Rattle.qh_pair.specs.Sound.{AreBy}
use Rattle.qh_pair.specs.Steps.{HasRun, IsCounted, IsSamePair, IsStill, PairStep}
use Rattle.qh_pair.proofs.EndsAt.{at_waits}
use Rattle.qh_pair.proofs.Heard.{by_front, honest_front}
use Rattle.qh_pair.proofs.PairSounds.{heard_waits}
use Rattle.qh_pair.proofs.Wire.{told_acts-append, told_weaker}
use Rattle.qh_pair.proofs.WireEvents.{client_silent, retold, retold_own, server_silent}

pub weaker : (w : Bool) (p : PairState) (events : List Event) (entries : List PlainEntry) → IsRunning true p events entries → IsRunning w p events entries
weaker w p events entries run = record {
  client = record {
    acts = run.client.acts;
    at = record { stands = run.client.at.stands; told = told_weaker w Client events run.client.acts run.client.at.told };
    asking = run.client.asking;
    opened = run.client.opened;
  };
  server = record {
    acts = run.server.acts;
    at = record { stands = run.server.at.stands; told = told_weaker w Server events run.server.acts run.server.at.told };
    serving = run.server.serving;
    accepted = run.server.accepted;
  };
}

weakest : (w : Bool) (p : PairState) (events : List Event) (entries : List PlainEntry) → IsRunning w p events entries → IsRunning false p events entries
weakest true p events entries run = weaker false p events entries run
weakest false p events entries run = run

pub runs_over : (p : PairState) (over w : Bool) (events : List Event) (entries : List PlainEntry) → IsRunning w p events entries → IsRunning w (record p { is_over = over }) events entries
runs_over p over w events entries run = record {
  client = record { acts = run.client.acts; at = run.client.at; asking = run.client.asking; opened = run.client.opened };
  server = record { acts = run.server.acts; at = run.server.at; serving = run.server.serving; accepted = run.server.accepted };
}

pub soundly_over : (p : PairState) (over : Bool) (events : List Event) (entries : List PlainEntry) → IsRunningSoundly p events entries → IsRunningSoundly (record p { is_over = over }) events entries
unfolding runs_over
soundly_over p over events entries s = record {
  run = runs_over p over true events entries s.run;
  sound = record { fits = s.sound.fits; lengths = s.sound.lengths; ends = s.sound.ends; client = s.sound.client; server = s.sound.server };
}

-- whatever of its last act is told, some events tell of all that it did
pub has_run : (w : Bool) (p : PairState) (events : List Event) (entries : List PlainEntry) → p.is_over ≡ true → length p.client.answers ≡ length p.client.requests → IsRunning w p events entries → HasRun p
has_run w p events entries over places run =
    let c : List Act = run.client.acts in
    let s : List Act = run.server.acts in
    let told_c : wire c ≡ told_acts Client (retold Client c ++ retold Server s)
    = sym (told_acts-append Client (retold Client c) (retold Server s)
    ∙ (ap (λ (z : List Act). told_acts Client (retold Client c) ++ z) (server_silent s) ∙ (append-nil (told_acts Client (retold Client c)) ∙ sym (retold_own Client c)))) in
    let told_s : wire s ≡ told_acts Server (retold Client c ++ retold Server s)
    = sym (told_acts-append Server (retold Client c) (retold Server s)
    ∙ (ap (λ (z : List Act). z ++ told_acts Server (retold Server s)) (client_silent c) ∙ sym (retold_own Server s))) in
    record {
      events = retold Client c ++ retold Server s;
      entries = entries;
      running = record {
        client = record { acts = c; at = record { stands = run.client.at.stands; told = told_c }; asking = run.client.asking; opened = run.client.opened };
        server = record { acts = s; at = record { stands = run.server.at.stands; told = told_s }; serving = run.server.serving; accepted = run.server.accepted };
      };
      counted = λ e. let f : true ≡ false = sym over ∙ e in cc;
      places = places;
    }

-- ---- the pair's steps

pub same_refl : (p : PairState) → IsSamePair p p
same_refl p = record { requests = refl; places = refl; ids = refl; config = refl; limits = refl; over = refl; known = record { client = λ k. k; server = λ k. k } }

pub same_trans : (a b c : PairState) → IsSamePair a b → IsSamePair b c → IsSamePair a c
same_trans a b c f g = record {
  requests = g.requests ∙ f.requests;
  places = g.places ∙ f.places;
  ids = g.ids ∙ f.ids;
  config = g.config ∙ f.config;
  limits = g.limits ∙ f.limits;
  over = g.over ∙ f.over;
  known = record { client = λ k. g.known.client (f.known.client k); server = λ k. g.known.server (f.known.server k) };
}

told_twice : (t : Option (List Event)) (x y : List Event) → told (told t x) y ≡ told t (x ++ y)
told_twice None x y = refl
told_twice (Some es) x y = ap Some (append_assoc es x y)

pub told_nothing : (t : Option (List Event)) → t ≡ told t []
told_nothing None = refl
told_nothing (Some es) = ap Some (sym (append-nil es))

-- one step after another

-- one step after another
pub step_trans : (now : ℕ) (w : Bool) (a b c : PairState) (t u v : Option (List Event)) (r s q : List PlainEntry) (K M N : List Event → Type 0)
    → PairStep now true a b t u r s K → PairStep now w b c u v s q M → ((x y : List Event) → K x → M y → N (x ++ y)) → PairStep now w a c t v r q N
step_trans now w a b c t u v r s q K M N f g kinds = record {
  same = same_trans a b c f.same g.same;
  more = f.more ++ g.more;
  told_is = g.told_is ∙ (ap (λ (z : Option (List Event)). told z g.more) f.told_is ∙ told_twice t f.more g.more);
  kind = kinds f.more g.more f.kind g.kind;
  fresh = f.fresh ++ g.fresh;
  served_is = g.served_is ∙ (ap (λ (z : List PlainEntry). z ++ g.fresh) f.served_is ∙ append_assoc r f.fresh g.fresh);
  running = λ events entries run.
      subst (λ (z : List Event). IsRunning w c z (entries ++ (f.fresh ++ g.fresh))) (append_assoc events f.more g.more)
      (subst (λ (z : List PlainEntry). IsRunning w c ((events ++ f.more) ++ g.more) z) (append_assoc entries f.fresh g.fresh)
      (g.running (events ++ f.more) (entries ++ f.fresh) (f.running events entries run)));
  counted = g.counted;
  soundly = λ whole events entries honest by s.
      let all : (events ++ f.more) ++ g.more ≡ events ++ (f.more ++ g.more) = append_assoc events f.more g.more in
      let honest_all : IsHonest ((events ++ f.more) ++ g.more) = subst IsHonest (sym all) honest in
      let by_all : AreBy now ((events ++ f.more) ++ g.more) = subst (λ (z : List Event). AreBy now z) (sym all) by in
      subst (λ (z : List Event). IsRunningSoundly c z (entries ++ (f.fresh ++ g.fresh))) all
      (subst (λ (z : List PlainEntry). IsRunningSoundly c ((events ++ f.more) ++ g.more) z) (append_assoc entries f.fresh g.fresh)
      (g.soundly whole (events ++ f.more) (entries ++ f.fresh) honest_all by_all
      (f.soundly refl events entries (honest_front (events ++ f.more) g.more honest_all) (by_front now (events ++ f.more) g.more by_all) s)));
}

pub step_kind : (now : ℕ) (w : Bool) (a b : PairState) (t u : Option (List Event)) (r s : List PlainEntry) (K M : List Event → Type 0)
    → PairStep now w a b t u r s K → ((x : List Event) → K x → M x) → PairStep now w a b t u r s M
step_kind now w a b t u r s K M p kinds = record {
  same = p.same;
  more = p.more;
  told_is = p.told_is;
  kind = kinds p.more p.kind;
  fresh = p.fresh;
  served_is = p.served_is;
  running = p.running;
  counted = p.counted;
  soundly = p.soundly;
}

-- a step is made at the moment that is told otherwise
pub step_at : (now later : ℕ) (w : Bool) (a b : PairState) (t u : Option (List Event)) (r s : List PlainEntry) (K : List Event → Type 0) → now ≡ later
    → PairStep now w a b t u r s K → PairStep later w a b t u r s K
step_at now later w a b t u r s K e p = subst (λ (z : ℕ). PairStep z w a b t u r s K) e p

-- a step behind which something else failed, or that failed
pub step_fails : (now later : ℕ) (w : Bool) (a b : PairState) (t u : Option (List Event)) (r s : List PlainEntry) (K M : List Event → Type 0)
    → PairStep now w a b t u r s K → ((x : List Event) → K x → M x) → PairStep later false a b t u r s M
step_fails now later w a b t u r s K M p kinds = record {
  same = p.same;
  more = p.more;
  told_is = p.told_is;
  kind = kinds p.more p.kind;
  fresh = p.fresh;
  served_is = p.served_is;
  running = λ events entries run. weakest w b (events ++ p.more) (entries ++ p.fresh) (p.running events entries run);
  counted = λ e. cc;
  soundly = λ e. cc;
}

-- what no link tells and no service records leaves of a pair, whose ends may be lost by it
pub record Passes (is_whole : Bool) (old new : PairState) : Type 0 where
  pub same : IsSamePair old new
  pub running : (events : List Event) (entries : List PlainEntry) → IsRunning true old events entries → IsRunning true new events entries
  pub counted : is_whole ≡ true → IsCounted new

pub step_passes : (now : ℕ) (w : Bool) (a b : PairState) (t : Option (List Event)) (r : List PlainEntry) (K : List Event → Type 0) → Passes w a b
    → (w ≡ true → (events : List Event) (entries : List PlainEntry) → IsRunningSoundly a events entries → IsRunningSoundly b events entries) → K [] → PairStep now w a b t t r r K
step_passes now w a b t r K passes soundly kind = record {
  same = passes.same;
  more = [];
  told_is = told_nothing t;
  kind = kind;
  fresh = [];
  served_is = sym (append-nil r);
  running = λ events entries run.
      subst (λ (z : List Event). IsRunning w b z (entries ++ [])) (sym (append-nil events))
      (subst (λ (z : List PlainEntry). IsRunning w b events z) (sym (append-nil entries)) (weaker w b events entries (passes.running events entries run)));
  counted = passes.counted;
  soundly = λ whole events entries honest by s.
      subst (λ (z : List Event). IsRunningSoundly b z (entries ++ [])) (sym (append-nil events))
      (subst (λ (z : List PlainEntry). IsRunningSoundly b events z) (sym (append-nil entries)) (soundly whole events entries s));
}

pub step_still : (now : ℕ) (a b : PairState) (t : Option (List Event)) (r : List PlainEntry) (K : List Event → Type 0) → IsStill a b → K [] → PairStep now true a b t t r r K
step_still now a b t r K still kind =
    step_passes now true a b t r K (record { same = still.same; running = still.running; counted = λ e. still.counted }) (λ e. still.soundly) kind

pub still_trans : (a b c : PairState) → IsStill a b → IsStill b c → IsStill a c
still_trans a b c f g = record {
  same = same_trans a b c f.same g.same;
  running = λ events entries run. g.running events entries (f.running events entries run);
  counted = g.counted;
  soundly = λ events entries s. g.soundly events entries (f.soundly events entries s);
}

-- a step behind which nothing passed
pub step_rests : (now : ℕ) (a b c : PairState) (t u : Option (List Event)) (r s : List PlainEntry) (K : List Event → Type 0)
    → PairStep now true a b t u r s K → IsStill b c → PairStep now true a c t u r s K
step_rests now a b c t u r s K p g = record {
  same = same_trans a b c p.same g.same;
  more = p.more;
  told_is = p.told_is;
  kind = p.kind;
  fresh = p.fresh;
  served_is = p.served_is;
  running = λ events entries run. g.running (events ++ p.more) (entries ++ p.fresh) (p.running events entries run);
  counted = λ e. g.counted;
  soundly = λ whole events entries honest by o. g.soundly (events ++ p.more) (entries ++ p.fresh) (p.soundly whole events entries honest by o);
}

-- what each step leaves
pub run_by_step : (now : ℕ) (w : Bool) (a b : PairState) (t u : Option (List Event)) (r s : List PlainEntry) (K : List Event → Type 0)
    → a.is_over ≡ true → HasRun a → PairStep now w a b t u r s K → HasRun b
run_by_step now w a b t u r s K over run p =
    has_run w b (run.events ++ p.more) (run.entries ++ p.fresh) (p.same.over ∙ over) (p.same.places ∙ (run.places ∙ ap (λ (z : List PlainMessage). length z) (sym p.same.requests))) (p.running run.events run.entries run.running)

pub run_by_rest : (a b : PairState) → a.is_over ≡ true → HasRun a → IsStill a b → HasRun b
run_by_rest a b over run p = has_run true b run.events run.entries (p.same.over ∙ over) (p.same.places ∙ (run.places ∙ ap (λ (z : List PlainMessage). length z) (sym p.same.requests))) (p.running run.events run.entries run.running)

-- a round began, or the link failed
waits_run : (w : Bool) (p : PairState) (events more : List Event) (entries : List PlainEntry) → told_acts Client more ≡ [] → told_acts Server more ≡ [] → IsRunning true p events entries → IsRunning w p (events ++ more) entries
waits_run w p events more entries cs ss run = record {
  client = record {
    acts = run.client.acts;
    at = at_waits w Client p.ids p.config p.client_end events more run.client.acts cs run.client.at;
    asking = run.client.asking;
    opened = run.client.opened;
  };
  server = record {
    acts = run.server.acts;
    at = at_waits w Server p.ids p.config p.server_end events more run.server.acts ss run.server.at;
    serving = run.server.serving;
    accepted = run.server.accepted;
  };
}

waits_soundly : (p : PairState) (events more : List Event) (entries : List PlainEntry) → told_acts Client more ≡ [] → told_acts Server more ≡ [] → IsRunningSoundly p events entries → IsRunningSoundly p (events ++ more) entries
unfolding waits_run
waits_soundly p events more entries cs ss s = record {
  run = waits_run true p events more entries cs ss s.run;
  sound = record {
    fits = s.sound.fits;
    lengths = s.sound.lengths;
    ends = s.sound.ends;
    client = heard_waits Client (id_length p) p.config p.client_end events more cs s.sound.client;
    server = heard_waits Server (id_length p) p.config p.server_end events more ss s.sound.server;
  };
}

pub step_waits : (now : ℕ) (w : Bool) (p : PairState) (t u : Option (List Event)) (r : List PlainEntry) (more : List Event) (K : List Event → Type 0)
    → IsCounted p → told_acts Client more ≡ [] → told_acts Server more ≡ [] → u ≡ told t more → K more → PairStep now w p p t u r r K
step_waits now w p t u r more K counted cs ss e kind = record {
  same = same_refl p;
  more = more;
  told_is = e;
  kind = kind;
  fresh = [];
  served_is = sym (append-nil r);
  running = λ events entries run. subst (λ (z : List PlainEntry). IsRunning w p (events ++ more) z) (sym (append-nil entries)) (waits_run w p events more entries cs ss run);
  counted = λ e. counted;
  soundly = λ whole events entries honest by s.
      subst (λ (z : List PlainEntry). IsRunningSoundly p (events ++ more) z) (sym (append-nil entries)) (waits_soundly p events more entries cs ss s);
}
