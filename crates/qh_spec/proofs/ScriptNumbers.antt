-- Rows of lines of a script that set a number.
use Rattle.std.proofs.Common.{◌≡◌, ℕ, ◌+◌, ◌<◌, ◌≤◌, ◌-◌, ◌^◌, List, [], ◌∷◌, ◌++◌, length, codes, decimal, rules, refl, sym, subst, arith}
use Rattle.std.specs.Fmt.{digits}
use Rattle.qh_spec.specs.declared.script.Setting.{Setting}
use Rattle.qh_spec.specs.declared.script.Setting.TheVariants.{Section, Response, Idle, Rtt, Rounds, Step}
use Rattle.qh_spec.specs.Config.{default_config, Fits}
use Rattle.qh_spec.specs.Lines.{lines}
use Rattle.qh_spec.specs.MessageRows.{a_target}
use Rattle.qh_spec.specs.Script.{Script, empty_script, set_number, max_script, IsTaken, AreTaken, IsScript, IsRefusedAt, at_line, unfit}
use Rattle.qh_spec.specs.ScriptLine.{Request, Set, setting_word, setting_bound, IsLine, worded, set}
use Rattle.qh_spec.specs.ScriptRows.{small_script}
use Rattle.qh_spec.proofs.LineLaws.{set_only}
use Rattle.qh_spec.proofs.ScriptBounds.{IsBounded, line_bounded}
use Rattle.qh_spec.proofs.ScriptRows.{default_fits, get_line}

-- a text of one line that sets a number
abbrev text_of : Setting → ℕ → List ℕ
text_of x n = setting_word x ++ 32 ∷ decimal n

taken_number : (x : Setting) (n : ℕ) (s : Script) → n < setting_bound x → IsTaken (text_of x n) s (set_number x n s)
taken_number x n s bound = record { line = Set x n; is = worded (setting_word x) (decimal n) (Set x n) refl (set x n refl refl bound); makes = refl }

-- one line that sets a number
are_taken : (x : Setting) (n : ℕ) (text : List ℕ) → text ≡ text_of x n → lines text ≡ text ∷ [] → n < setting_bound x → AreTaken (lines text) empty_script (set_number x n empty_script)
are_taken x n text is one bound =
    subst (λ (ls : List (List ℕ)). AreTaken ls empty_script (set_number x n empty_script)) (sym one)
    (set_number x n empty_script, subst (λ (z : List ℕ). IsTaken z empty_script (set_number x n empty_script)) (sym is) (taken_number x n empty_script bound), refl)

is_number : (x : Setting) (n : ℕ) (text : List ℕ) → text ≡ text_of x n → lines text ≡ text ∷ [] → length text ≤ max_script
    → n < setting_bound x → Fits (set_number x n empty_script).config → IsScript text (set_number x n empty_script)
is_number x n text is one short bound fits = record { short = short; taken = are_taken x n text is one bound; fits = fits }

-- the settings don't fit then
unfit_number : (x : Setting) (n : ℕ) (text : List ℕ) → text ≡ text_of x n → lines text ≡ text ∷ [] → length text ≤ max_script
    → n < setting_bound x → (Fits (set_number x n empty_script).config → ⊥) → IsRefusedAt text 2
unfit_number x n text is one short bound never =
    subst (λ (ls : List (List ℕ)). IsRefusedAt text (length ls + 1)) one (unfit (set_number x n empty_script) short (are_taken x n text is one bound) never)

-- a number that its word doesn't take
no_number : (x : Setting) (n : ℕ) (text : List ℕ) → text ≡ text_of x n → lines text ≡ text ∷ [] → length text ≤ max_script
    → n < 2 ^ 64 → setting_bound x ≤ n → IsRefusedAt text 1
no_number x n text is one short low bound =
    at_line [] text [] empty_script short one refl
    (λ t taken.
    let there : IsLine (text_of x n) taken.line = subst (λ (z : List ℕ). IsLine z taken.line) is taken.is in
    let same = set_only x n taken.line low there in
    let bounded : n < setting_bound x = subst IsBounded same (line_bounded (text_of x n) taken.line there) in
    omega (arith, bounded, bound))

-- ---- rows

pub idle_is : IsScript (codes "idle 9223372036854775807") (set_number Idle (2 ^ 63 - 1) empty_script)
unfolding digits default_config
idle_is =
    is_number Idle (2 ^ 63 - 1) (codes "idle 9223372036854775807") refl refl (omega arith) (omega arith)
    (record { sizes = search rules; ids = search rules; versions = search rules; times = search rules; windows = search rules; attempts = search rules })

pub idle_refused : IsRefusedAt (codes "idle 9223372036854775808") 1
unfolding digits
idle_refused = no_number Idle (2 ^ 63) (codes "idle 9223372036854775808") refl refl (omega arith) (omega arith) (omega arith)

pub endless_is : IsScript (codes "idle 0") (set_number Idle 0 empty_script)
unfolding digits default_config
endless_is =
    is_number Idle 0 (codes "idle 0") refl refl (omega arith) (omega arith)
    (record { sizes = search rules; ids = search rules; versions = search rules; times = search rules; windows = search rules; attempts = search rules })

pub rtt_is : IsScript (codes "rtt 10000") (set_number Rtt 10000 empty_script)
unfolding digits default_config
rtt_is =
    is_number Rtt 10000 (codes "rtt 10000") refl refl (omega arith) (omega arith)
    (record { sizes = search rules; ids = search rules; versions = search rules; times = search rules; windows = search rules; attempts = search rules })

pub rtt_unfit : IsRefusedAt (codes "rtt 10001") 2
unfolding digits
rtt_unfit = unfit_number Rtt 10001 (codes "rtt 10001") refl refl (omega arith) (omega arith) (λ f. let long = f.times.rtt.1 in omega arith)

pub longest_unfit : IsRefusedAt (codes "rtt 9223372036854775807") 2
unfolding digits
longest_unfit =
    unfit_number Rtt (2 ^ 63 - 1) (codes "rtt 9223372036854775807") refl refl (omega arith) (omega arith) (λ f. let long = f.times.rtt.1 in omega arith)

pub rtt_refused : IsRefusedAt (codes "rtt 9223372036854775808") 1
unfolding digits
rtt_refused = no_number Rtt (2 ^ 63) (codes "rtt 9223372036854775808") refl refl (omega arith) (omega arith) (omega arith)

pub step_is : IsScript (codes "step 10000") (set_number Step 10000 empty_script)
unfolding digits
step_is = is_number Step 10000 (codes "step 10000") refl refl (omega arith) (omega arith) default_fits

pub step_refused : IsRefusedAt (codes "step 10001") 1
unfolding digits
step_refused = no_number Step 10001 (codes "step 10001") refl refl (omega arith) (omega arith) (omega arith)

pub rounds_is : IsScript (codes "rounds 281474976710655") (set_number Rounds (2 ^ 48 - 1) empty_script)
unfolding digits
rounds_is = is_number Rounds (2 ^ 48 - 1) (codes "rounds 281474976710655") refl refl (omega arith) (omega arith) default_fits

pub rounds_refused : IsRefusedAt (codes "rounds 281474976710656") 1
unfolding digits
rounds_refused = no_number Rounds (2 ^ 48) (codes "rounds 281474976710656") refl refl (omega arith) (omega arith) (omega arith)

-- ---- three lines

pub small_is : IsScript (codes "section 4096" ++ 10 ∷ codes "response 1000" ++ 10 ∷ codes "request GET https://a.test/") small_script
unfolding digits default_config
small_is = record {
  short = omega arith;
  taken = (
    set_number Section 4096 empty_script,
    taken_number Section 4096 empty_script (omega arith),
    (
      set_number Response 1000 (set_number Section 4096 empty_script),
      taken_number Response 1000 (set_number Section 4096 empty_script) (omega arith),
      (small_script, record { line = Request (codes "GET") a_target; is = get_line; makes = refl }, refl),
    ),
  );
  fits = record { sizes = search rules; ids = search rules; versions = search rules; times = search rules; windows = search rules; attempts = search rules };
}
