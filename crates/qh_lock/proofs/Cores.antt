-- The rule in the form in which the steps are proved: what it says of one view in one record, and each place of the
-- history counted once.
use Rattle.std.proofs.Common.{◌≡◌, ◌⊎◌, ℕ, suc, zero, ◌+◌, ◌<◌, ◌≤◌, ◌^◌, List, [], ◌∷◌, length, true, Option, Some, None, refl, sym, ap, arith}
use mathlib.Core.Option.{some, some-ne-none, some-injective}
use mathlib.Core.Logic.{dite}
use native.Mathlib.Decide.{dec_lt}
use lib.ListN.{get_elem?}
use Rattle.atomic_table.specs.Table.{State}
use Rattle.qh_lock.specs.declared.view.View.{View}
use Rattle.qh_lock.specs.Places.{total, times, once_below, StartsWith}
use Rattle.qh_lock.specs.Turns.{Each, Apart, tickets, longest, AtHome, Away, InTurn}
use Rattle.qh_lock.proofs.Counts.{total_some, below_most, below_yes, below_no, starts_length, starts_whole, longer_starts, longer_length}

module _ {E : Type 0} where
  -- what the rule says of one view
  pub record Fits (next serving : ℕ) (log : List E) (v : View E) : Type 0 where
    pub front : StartsWith log v.seen
    pub heard : StartsWith log v.told
    pub less : length v.told ≤ length v.seen
    pub own : (n : ℕ) → 0 < times n v.own → n < length v.seen
    pub held : (t : ℕ) → v.ticket ≡ Some t → (serving ≤ t) × (t < next)
    pub served : v.turn ≡ true → v.ticket ≡ Some serving
    pub gone : v.parts ≡ 0 → (v.ticket ≡ None) × (v.own ≡ [])

  longest_starts : (log : List E) (views : List (View E)) → Each (λ v. StartsWith log v.seen) views → StartsWith log (longest views)
  longest_starts log [] all = (log, refl)
  longest_starts log (v ∷ vs) all = longer_starts log v.seen (longest vs) (all 0 v refl) (longest_starts log vs (λ j u at. all (suc j) u at))

  longest_long : (views : List (View E)) (j : ℕ) (v : View E) → get_elem? views j ≡ some v → length v.seen ≤ length (longest views)
  longest_long [] j v at = absurd (some-ne-none v (sym at))
  longest_long (x ∷ xs) zero v at =
      let same : length x.seen ≡ length v.seen = ap (λ (u : View E). length u.seen) (some-injective x v at) in
      let long = longer_length x.seen (longest xs) in omega (arith, long.0)
  longest_long (x ∷ xs) (suc j) v at = let h = longest_long xs j v at in let long = longer_length x.seen (longest xs) in omega (arith, long.1)

  -- a history of which each place is some view's own is the longest that was seen
  newest : (log : List E) (views : List (View E)) → Each (λ v. StartsWith log v.seen) views → Each (λ v. (n : ℕ) → 0 < times n v.own → n < length v.seen) views
      → ((n : ℕ) → n < length log → 0 < total (λ (v : View E). times n v.own) views) → log ≡ longest views
  newest log views prefixes seen_own owned = starts_whole log (longest views) (longest_starts log views prefixes) (dite (dec_lt (length (longest views)) (length log))
      (λ more.
      let n : ℕ = length (longest views) in
      let who = total_some (λ (v : View E). times n v.own) views (owned n more) in
      let short = seen_own who.0 who.1 who.2 n who.3 in
      let long = longest_long views who.0 who.1 who.2 in absurd (omega arith))
      (λ no_more. omega arith))

module _ {T E : Type 0} (history : T → List E) (ready : T → Type 0) where
  pub record Core (s : State (Option T) (View E)) : Type 0 where
    pub next : ℕ
    pub serving : ℕ
    pub log : List E
    pub words : s.words ≡ next ∷ serving ∷ []
    pub fits : Each (Fits next serving log) s.views
    pub apart : Apart s.views
    pub counted : serving + total tickets s.views ≡ next
    pub covered : (n : ℕ) → total (λ v. times n v.own) s.views ≡ once_below n (length log)
    pub parted : total (λ v. v.parts) s.views ≡ 2 ^ 64
    pub place : AtHome history ready s log ⊎ Away history ready s log

  pub core_of : (s : State (Option T) (View E)) → InTurn history ready s → Core s
  core_of s r = record {
    next = r.next;
    serving = r.serving;
    log = r.log;
    words = r.words;
    fits = λ j v at. record {
      front = r.prefixes j v at;
      heard = (r.heard j v at).0;
      less = (r.heard j v at).1;
      own = r.seen_own j v at;
      held = r.between j v at;
      served = r.served j v at;
      gone = r.gone j v at;
    };
    apart = r.distinct;
    counted = r.counted;
    covered = λ n.
        let f : View E → ℕ = λ v. times n v.own in
        let long : length r.log ≡ length (longest s.views) = ap length r.newest in
        dite (dec_lt n (length r.log))
        (λ below. let some_own : 0 < total f s.views = r.covered n (omega arith) in let one : total f s.views ≤ 1 = r.once n in let b = below_yes n (length r.log) below in omega arith)
        (λ not_below. let b = below_no n (length r.log) (omega arith) in dite (dec_lt 0 (total f s.views))
        (λ some_own. let who = total_some f s.views some_own in
        let less = r.seen_own who.0 who.1 who.2 n who.3 in
        let short = starts_length r.log who.1.seen (r.prefixes who.0 who.1 who.2) in absurd (omega arith))
        (λ none_own. omega arith));
    parted = r.parted;
    place = r.away;
  }

  pub rule_of : (s : State (Option T) (View E)) → Core s → InTurn history ready s
  rule_of s k =
      let newest_is : k.log ≡ longest s.views = newest k.log s.views (λ j v at. (k.fits j v at).front) (λ j v at. (k.fits j v at).own)
      (λ n below. let c = k.covered n in let b = below_yes n (length k.log) below in omega arith) in
      record {
        next = k.next;
        serving = k.serving;
        log = k.log;
        words = k.words;
        distinct = k.apart;
        between = λ j v at. (k.fits j v at).held;
        counted = k.counted;
        away = k.place;
        prefixes = λ j v at. (k.fits j v at).front;
        once = λ n. let c = k.covered n in let m = below_most n (length k.log) in omega arith;
        covered = λ n below. let long : length k.log ≡ length (longest s.views) = ap length newest_is in let c = k.covered n in let b = below_yes n (length k.log) (omega arith) in omega arith;
        newest = newest_is;
        served = λ j v at. (k.fits j v at).served;
        seen_own = λ j v at. (k.fits j v at).own;
        heard = λ j v at. ((k.fits j v at).heard, (k.fits j v at).less);
        parted = k.parted;
        gone = λ j v at. (k.fits j v at).gone;
      }
