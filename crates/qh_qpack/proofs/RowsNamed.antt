-- The rows of the static table that have a name.
use Rattle.std.proofs.Common.{◌≡◌, ℕ, zero, suc, ◌+◌, ◌<◌, true, false, List, [], ◌∷◌, length, get_or, drop, map, refl, arith, Bor}
use Rattle.qh_qpack.specs.Places.{first_has, rows_among}

abbrev lists : List (Bor (List ℕ)) → List (List ℕ)
lists names = map (λ r. r.now) names

abbrev nothing : Bor (List ℕ)
nothing = record { ref_ptr = (0, 0); now = [] }

-- the next of the lists, and those behind it
next_list : (names : List (Bor (List ℕ))) (i : ℕ) → i < length names → drop i (lists names) ≡ (get_or names i nothing).now ∷ drop (i + 1) (lists names)
next_list [] i l = absurd (omega arith)
next_list (r ∷ names) zero l = refl
next_list (r ∷ names) (suc i) l =
    let e : suc i + 1 ≡ suc (i + 1) = omega arith in
    rw e (next_list names i (omega arith))

pub list_found : (names : List (Bor (List ℕ))) (i : ℕ) (name : List ℕ) → i < length names → first_has (get_or names i nothing).now name ≡ true
    → rows_among (drop i (lists names)) name ≡ rows_among (lists names) name → (get_or names i nothing).now ≡ rows_among (lists names) name
list_found names i name l t e = let n = next_list names i l in let d = rw n at e in rw t at d

pub list_passed : (names : List (Bor (List ℕ))) (i : ℕ) (name : List ℕ) → i < length names → first_has (get_or names i nothing).now name ≡ false
    → rows_among (drop i (lists names)) name ≡ rows_among (lists names) name → rows_among (drop (i + 1) (lists names)) name ≡ rows_among (lists names) name
list_passed names i name l t e = let n = next_list names i l in let d = rw n at e in rw t at d
