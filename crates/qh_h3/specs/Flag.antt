-- The closing flag. The table has one word, which is 0 until the flag is set and 1 from then on.
use Rattle.std.specs.Prelude.{◌≡◌, ◌<◌, ◌⊎◌, ℕ, zero, suc, List, [], ◌∷◌, length, Bool, true, false, ◌||◌}
use mathlib.Core.Option.{some}
use lib.ListN.{get_elem?}
use Rattle.atomic_table.specs.Table.{State, Me, Step}
use Rattle.qh_h3.specs.declared.shared_state.flag.Sight.{Sight}

abbrev pub sight : (saw own alone : Bool) → Sight
sight saw own alone = record { saw = saw; own = own; alone = alone }

-- ---- what a step makes of a view

-- the first seat
abbrev pub opened : Sight
opened = sight false false true

-- it sets the flag
abbrev pub raised : Sight → Sight
raised v = sight true true v.alone

-- it finds this in the word
abbrev pub found : ℕ → Sight → Sight
found zero v = v
found (suc n) v = sight true v.own v.alone

-- split: what the seat keeps, and the new seat's view
abbrev pub kept : Sight → Sight
kept v = sight v.saw v.own false

abbrev pub given : Sight → Sight
given v = sight v.saw false false

-- join
abbrev pub both : Sight → Sight → Sight
both v w = sight (v.saw || w.saw) (v.own || w.own) false

-- what is left of a seat that was taken in
abbrev pub spent : Sight
spent = sight false false false

-- ---- what a step tells its caller

abbrev pub was_set : {S : Type 0} → Step S → Me S Sight → ℕ → Me S Sight → Type 0
was_set st m r m' = m' ≡ (raised m.0, m.1)

-- Who saw the flag finds it, who set it saw it, and who is alone finds it only if it set it.
abbrev pub looked : {S : Type 0} → Step S → Me S Sight → ℕ → Me S Sight → Type 0
looked st m r m' = (m' ≡ (found r m.0, m.1)) × (m.0.saw ≡ true → 0 < r) × (m.0.own ≡ true → m.0.saw ≡ true) × (m.0.alone ≡ true → 0 < r → m.0.own ≡ true)

-- ---- the rule

abbrev pub Each : (Sight → Type 0) → List Sight → Type 0
Each P views = (j : ℕ) (v : Sight) → get_elem? views j ≡ some v → P v

-- some view set the flag
abbrev pub WasSet : List Sight → Type 0
WasSet views = (j : ℕ) × (v : Sight) × (get_elem? views j ≡ some v) × (v.own ≡ true)

pub record IsFlag (s : State ℕ Sight) : Type 0 where
  pub word : ℕ
  pub words : s.words ≡ word ∷ []
  -- It is 0, or it is 1 and some view set it.
  pub one : (word ≡ 0) ⊎ ((word ≡ 1) × WasSet s.views)
  -- Whoever saw it set finds it so,
  pub seen : Each (λ v. v.saw ≡ true → 0 < word) s.views
  -- whoever set it saw it,
  pub saw : Each (λ v. v.own ≡ true → v.saw ≡ true) s.views
  -- and a seat that is alone has the only view.
  pub alone : Each (λ v. v.alone ≡ true → length s.views ≡ 1) s.views
