-- How far the lines of a text were judged by an outline.
use Rattle.std.proofs.Common.{◌≡◌, ℕ, ◌+◌, ◌<◌, ◌≤◌, List, ◌∷◌, length, sym, ◌∙◌, subst}
use Rattle.qh_spec.specs.Config.{PlainConfig, Fits, FitVersions}
use Rattle.qh_spec.specs.Lines.{lines}
use Rattle.qh_spec.specs.Script.{Script, empty_script, max_script, IsTaken, IsScript, IsRefusedAt, at_line, unfit}
use Rattle.qh_script.specs.Config.{FitsBesides, unversioned}
use Rattle.qh_script.specs.Outline.{AreOutlined, IsOutline, IsOutlined, PlainOutline}
use Rattle.qh_script.specs.Script.{IsFirstRefused, RefusesLine, RefusesScript}
use Rattle.qh_script.specs.declared.script.ScriptError.{ScriptError}
use Rattle.qh_script.specs.declared.script.ScriptError.TheVariants.{Refused, Memory}
use Rattle.qh_script.proofs.Reading.{Seen, seen_none, seen_more, seen_all, seen_count, seen_refused}

pub record SeenOutlined (text rest : List ℕ) (s : Script) (o : PlainOutline) (count : ℕ) : Type 0 where
  pub now : Script
  pub seen : Seen IsTaken text rest s now count
  pub outline : IsOutline o now

pub outlined_none : (text : List ℕ) (s : Script) (o : PlainOutline) → IsOutline o s → SeenOutlined text text s o 0
outlined_none text s o h = record { now = s; seen = seen_none IsTaken text s; outline = h }

pub outlined_more : (text rest line behind : List ℕ) (s : Script) (o p : PlainOutline) (n : ℕ) → SeenOutlined text rest s o n → lines rest ≡ line ∷ lines behind
    → length behind < length rest → ((t : Script) → IsOutline o t → IsOutlined line t p) → SeenOutlined text behind s p (n + 1)
outlined_more text rest line behind s o p n q cut shorter taken =
    let t = taken q.now q.outline in
    record { now = t.next; seen = seen_more IsTaken text rest line behind s q.now t.next n q.seen cut shorter t.taken; outline = t.outline }

pub outlined_all : (text rest : List ℕ) (s : Script) (o : PlainOutline) (n : ℕ) → SeenOutlined text rest s o n → length rest ≡ 0 → AreOutlined text s o n
outlined_all text rest s o n q none = record {
  end = q.now;
  taken = seen_all IsTaken text rest s q.now n q.seen none;
  outline = q.outline;
  count = seen_count IsTaken text rest s q.now n q.seen none;
}

pub outlined_refused : (text rest line behind : List ℕ) (s : Script) (o : PlainOutline) (n : ℕ) → SeenOutlined text rest s o n → lines rest ≡ line ∷ lines behind
    → ((t u : Script) → IsOutline o t → IsTaken line t u → ⊥) → IsFirstRefused IsTaken text s (n + 1)
outlined_refused text rest line behind s o n q cut never =
    seen_refused IsTaken text rest line behind s q.now n q.seen cut (λ u. never q.now u q.outline)

-- ---- the settings

fits_versioned : (c : PlainConfig) → FitVersions c → FitsBesides (unversioned c) → Fits c
fits_versioned c v f = record {
  sizes = record { requests = f.sizes.requests; section = f.sizes.section; request_body = f.sizes.request_body; response_body = f.sizes.response_body };
  ids = record { local = f.ids.local; first = f.ids.first };
  versions = v;
  times = record { idle = f.times.idle; rtt = f.times.rtt };
  windows = record {
    bidi = f.windows.bidi;
    uni = f.windows.uni;
    receive = f.windows.receive;
    stream = f.windows.stream;
    send = f.windows.send;
    initial = f.windows.initial;
  };
  attempts = record { incoming = f.attempts.incoming; buffer = f.attempts.buffer; buffer_total = f.attempts.buffer_total; retry = f.attempts.retry };
}

fits_unversioned : (c : PlainConfig) → Fits c → FitsBesides (unversioned c)
fits_unversioned c f = record {
  sizes = record { requests = f.sizes.requests; section = f.sizes.section; request_body = f.sizes.request_body; response_body = f.sizes.response_body };
  ids = record { local = f.ids.local; first = f.ids.first };
  times = record { idle = f.times.idle; rtt = f.times.rtt };
  windows = record {
    bidi = f.windows.bidi;
    uni = f.windows.uni;
    receive = f.windows.receive;
    stream = f.windows.stream;
    send = f.windows.send;
    initial = f.windows.initial;
  };
  attempts = record { incoming = f.attempts.incoming; buffer = f.attempts.buffer; buffer_total = f.attempts.buffer_total; retry = f.attempts.retry };
}

-- ---- the text

pub judged_script : (text : List ℕ) (o : PlainOutline) (n : ℕ) (config : PlainConfig) → length text ≤ max_script → AreOutlined text empty_script o n → config ≡ o.config
    → FitsBesides config → (s : Script) × IsScript text s
judged_script text o n config short a same f =
    let besides = subst (λ (x : PlainConfig). FitsBesides x) (same ∙ a.outline.config) f in
    (a.end, record { short = short; taken = a.taken; fits = fits_versioned a.end.config a.outline.versions besides })

pub judged_unfit : (text : List ℕ) (o : PlainOutline) (n : ℕ) (config : PlainConfig) → length text ≤ max_script → AreOutlined text empty_script o n → config ≡ o.config
    → (FitsBesides config → ⊥) → IsRefusedAt text (n + 1)
judged_unfit text o n config short a same never =
    subst (λ (m : ℕ). IsRefusedAt text (m + 1)) (sym a.count)
    (unfit a.end short a.taken
    (λ f. never (subst (λ (x : PlainConfig). FitsBesides x) (sym (same ∙ a.outline.config)) (fits_unversioned a.end.config f))))

pub judged_refused : (text : List ℕ) (e : ScriptError) → length text ≤ max_script → RefusesLine IsTaken text empty_script e → RefusesScript text e
judged_refused text (Refused n) short p =
    subst (λ (m : ℕ). IsRefusedAt text m) (sym p.count) (at_line p.front p.line p.rest p.mid short p.is p.taken p.refused)
judged_refused text Memory short p = absurd p
