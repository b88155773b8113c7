-- Where rows stand in the static table.
use Rattle.std.specs.Prelude.{ℕ, ◌+◌, Bool, false, List, [], ◌∷◌, Option, Some, None, bytes_eq, slice_get, slice_index_or, length, if◌then◌else◌}
use Rattle.qh_spec.specs.Fields.{Field}
use Rattle.qh_spec.specs.StaticTable.{static_table}

abbrev pub has_name : List ℕ → Field → Bool
has_name name row = bytes_eq row.name name

abbrev pub has_value : List ℕ → Field → Bool
has_value value row = bytes_eq row.value value

-- there is a row, and it passes the test
abbrev pub passes : (Field → Bool) → Option Field → Bool
passes p None = false
passes p (Some f) = p f

-- the indexes of the rows that pass, where the first has the index `k`
abbrev pub places : (Field → Bool) → ℕ → List Field → List ℕ
places p k [] = []
places p k (f ∷ fs) = if p f then k ∷ places p (k + 1) fs else places p (k + 1) fs

-- the first of these rows has this name
abbrev pub first_has : List ℕ → List ℕ → Bool
first_has [] name = false
first_has (index ∷ rows) name = passes (has_name name) (slice_get static_table index)

-- the first of the lists of rows whose first row has this name
abbrev pub rows_among : List (List ℕ) → List ℕ → List ℕ
rows_among [] name = []
rows_among (rows ∷ more) name = if first_has rows name then rows else rows_among more name

-- those of the name's length
abbrev pub rows_by_length : List (List (List ℕ)) → List ℕ → List ℕ
rows_by_length by_length name = rows_among (slice_index_or by_length (length name) []) name

-- the first of these rows that has this value
abbrev pub row_with : List ℕ → List ℕ → Option ℕ
row_with [] value = None
row_with (index ∷ rows) value = if passes (has_value value) (slice_get static_table index) then Some index else row_with rows value
