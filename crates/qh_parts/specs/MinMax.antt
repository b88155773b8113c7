-- The greatest measurement of the last ten rounds, in three samples.
use Rattle.std.specs.Prelude.{ℕ, ◌-◌, ◌≤◌, ◌==◌, nat_lt, nat_le, Bool, ◌&&◌, ◌||◌, List, [], ◌∷◌, if◌then◌else◌}
use Rattle.qh_parts.specs.declared.min_max.Sample.{Sample}
use Rattle.qh_parts.specs.declared.min_max.Samples.{Samples}

-- all three are this one
abbrev pub all_three : Sample → Samples
all_three x = record { first = x; second = x; third = x }

-- before any measurement
abbrev pub no_samples : Samples
no_samples = all_three (record { round = 0; value = 0 })

-- a new one stands in the place of the third
abbrev pub with_third : Samples → Sample → Samples
with_third s x = record { first = s.first; second = s.second; third = x }

-- in the places of the second and the third
abbrev pub with_second : Samples → Sample → Samples
with_second s x = record { first = s.first; second = x; third = x }

-- behind the second and the third
abbrev pub without_first : Samples → Sample → Samples
without_first s x = record { first = s.second; second = s.third; third = x }

-- how many rounds the second of two comes after the first
abbrev pub age : Sample → Sample → ℕ
age old x = x.round - old.round

-- nothing that was kept counts beside the new one: there was nothing, the new one is as great as the first, or even the
-- third is of more than ten rounds ago
abbrev pub starts_anew : Samples → Sample → Bool
starts_anew s x = (s.first.value == 0) || nat_le s.first.value x.value || nat_lt 10 (age s.third x)

-- behind the first it stands in the place of what isn't greater
unfoldable pub ranked : Samples → Sample → Samples
ranked s x =
    if nat_le s.second.value x.value then with_second s x
    else if nat_le s.third.value x.value then with_third s x
    else s

-- the first goes, and so does the one behind it where it is of more than ten rounds ago
unfoldable pub moved_on : Samples → Sample → Samples
moved_on s x =
    if nat_lt 10 (age s.second x) then without_first (without_first s x) x
    else without_first s x

-- as rounds go by: a first of more than ten rounds ago goes; where the second is of its round, the new one takes that
-- place after more than two rounds, and the third's place, where the third is of the second's round, after more than five
unfoldable pub aged : Samples → Sample → Samples
aged s x =
    if nat_lt 10 (age s.first x) then moved_on s x
    else if (s.second.round == s.first.round) && nat_lt 2 (age s.first x) then with_second s x
    else if (s.third.round == s.second.round) && nat_lt 5 (age s.first x) then with_third s x
    else s

-- the samples after one more
unfoldable pub with_sample : Samples → Sample → Samples
with_sample s x = if starts_anew s x then all_three x else aged (ranked s x) x

-- the samples after a measurement in a round
abbrev pub updated : Samples → (round measurement : ℕ) → Samples
updated s round measurement = with_sample s (record { round = round; value = measurement })

abbrev pub list_of : Samples → List Sample
list_of s = s.first ∷ s.second ∷ s.third ∷ []

-- their rounds never fall
pub record IsInOrder (s : Samples) : Type 0 where
  pub second : s.first.round ≤ s.second.round
  pub third : s.second.round ≤ s.third.round
