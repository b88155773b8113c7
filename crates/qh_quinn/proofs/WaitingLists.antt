-- Waiting calls in a list.
use Rattle.std.proofs.Common.{◌≡◌, ◌≢◌, ◌≤◌, ◌<◌, ℕ, zero, suc, ◌==◌, ◌&&◌, ◌||◌, Bool, true, false, List, [], ◌∷◌, ◌++◌, length, take, drop, slice_index_or, slice_set, Option, None, Some, if◌then◌else◌, refl, sym, ap, subst, ◌∙◌, ⊎_elim, arith}
use Rattle.std.proofs.lemmas.Bool.{cases_eq}
use Rattle.std.proofs.lemmas.Bool.Decides.{Decides-eqb}
use Rattle.std.proofs.lemmas.Option.{slice_get_within}
use Rattle.std.specs.Prelude.{IsSomeAnd, slice_get}
use Rattle.futures.specs.declared.task.waker.Waker.{Waker}
use Rattle.qh_book.specs.Interests.{is_same}
use Rattle.qh_book.specs.declared.interest.Interest.{Interest}
use Rattle.qh_book.specs.declared.interest.Interest.TheVariants as interest
use Rattle.qh_quinn.specs.Waiting.{KeepsOthers, interests_in, is_among, nudged_at, nudged_if, nudged_one}
use Rattle.qh_quinn.specs.declared.waiting.Waiting.{Waiting}

-- another waker at a place
pub armed_same : (ws : List Waiting) (at : ℕ) (other : Waiting) (task : ℕ) (waker : Option Waker)
    → interests_in (slice_set ws at (record { interest = (slice_index_or ws at other).interest; task = task; waker = waker })) ≡ interests_in ws
armed_same [] zero other task waker = refl
armed_same [] (suc at) other task waker = refl
armed_same (w ∷ ws) zero other task waker = refl
armed_same (w ∷ ws) (suc at) other task waker = ap (λ (is : List Interest). w.interest ∷ is) (armed_same ws at other task waker)

-- the other places are as they were
pub others_set : (ws : List Waiting) (at k : ℕ) (w : Waiting) → k ≢ at → slice_get (slice_set ws at w) k ≡ slice_get ws k
others_set [] zero k w isnt = refl
others_set [] (suc at) k w isnt = refl
others_set (v ∷ ws) zero zero w isnt = absurd (isnt refl)
others_set (v ∷ ws) zero (suc k) w isnt = refl
others_set (v ∷ ws) (suc at) zero w isnt = refl
others_set (v ∷ ws) (suc at) (suc k) w isnt = others_set ws at k w (λ is. isnt (ap suc is))

-- ---- who is woken

-- the first ones were
abbrev pub nudged_front : (n : ℕ) → List Waiting → List Waiting
nudged_front zero ws = ws
nudged_front (suc n) [] = []
nudged_front (suc n) (w ∷ ws) = nudged_one w ∷ nudged_front n ws

pub nudged_more : (n : ℕ) (ws : List Waiting) → nudged_at n (nudged_front n ws) ≡ nudged_front (suc n) ws
nudged_more zero [] = refl
nudged_more zero (w ∷ ws) = refl
nudged_more (suc n) [] = refl
nudged_more (suc n) (w ∷ ws) = ap (λ (vs : List Waiting). nudged_one w ∷ vs) (nudged_more n ws)

pub nudged_past : (n : ℕ) (ws : List Waiting) → length ws ≤ n → nudged_front n ws ≡ nudged_if true ws
nudged_past zero [] le = refl
nudged_past zero (w ∷ ws) le = absurd (omega (arith, le))
nudged_past (suc n) [] le = refl
nudged_past (suc n) (w ∷ ws) le = ap (λ (vs : List Waiting). nudged_one w ∷ vs) (nudged_past n ws (omega (arith, le)))

pub nudged_long : (ws : List Waiting) → length (nudged_if true ws) ≡ length ws
nudged_long [] = refl
nudged_long (w ∷ ws) = ap suc (nudged_long ws)

-- the one at a place is such a task, or isn't
pub nudged_set : (ws : List Waiting) (at : ℕ) (other another : Waiting) → at < length ws → (slice_index_or ws at another).interest ≡ interest.HandshakeData
    → slice_set ws at (record (slice_index_or ws at other) { waker = None }) ≡ nudged_at at ws
nudged_set [] zero other another le is = refl
nudged_set [] (suc at) other another le is = refl
nudged_set (w ∷ ws) zero other another le is = rw (ap (λ (i : Interest). is_same i interest.HandshakeData) is) refl
nudged_set (w ∷ ws) (suc at) other another le is = ap (λ (vs : List Waiting). w ∷ vs) (nudged_set ws at other another (omega (arith, le)) is)

not_data : (i : Interest) → i ≢ interest.HandshakeData → is_same i interest.HandshakeData ≡ false
not_data interest.Connecting isnt = refl
not_data interest.HandshakeData isnt = absurd (isnt refl)
not_data (interest.Open dir) isnt = refl
not_data (interest.Accept dir) isnt = refl
not_data (interest.Read id is_ordered) isnt = refl
not_data (interest.Write id) isnt = refl
not_data (interest.Stopped id) isnt = refl
not_data (interest.ReceivedReset id) isnt = refl
not_data interest.ReadDatagram isnt = refl
not_data (interest.SendDatagram size) isnt = refl
not_data interest.Closed isnt = refl

pub kept_at : (ws : List Waiting) (at : ℕ) (other : Waiting) → (slice_index_or ws at other).interest ≢ interest.HandshakeData → ws ≡ nudged_at at ws
kept_at [] at other isnt = refl
kept_at (w ∷ ws) zero other isnt = rw (not_data w.interest isnt) refl
kept_at (w ∷ ws) (suc at) other isnt = ap (λ (vs : List Waiting). w ∷ vs) (kept_at ws at other isnt)

-- the calls that wait are the same
pub nudged_calls : (due : Bool) (ws : List Waiting) → interests_in (nudged_if due ws) ≡ interests_in ws
nudged_calls false ws = refl
nudged_calls true [] = refl
nudged_calls true (w ∷ ws) = rw (same (is_same w.interest interest.HandshakeData), nudged_calls true ws) refl
  where
    same : (is : Bool) → (if is then record w { waker = None } else w).interest ≡ w.interest
    same true = refl
    same false = refl

-- the whole of a list was written back
pub written_back : {X : Type 0} (xs ys : List X) → length xs ≡ length ys → take (length ys) (xs ++ drop (length xs) ys) ≡ xs
written_back [] [] e = refl
written_back [] (y ∷ ys) e = absurd (omega arith)
written_back (x ∷ xs) [] e = absurd (omega arith)
written_back (x ∷ xs) (y ∷ ys) e = ap (λ (zs : List _). x ∷ zs) (written_back xs ys (omega arith))

pub length_in : (ws : List Waiting) → length (interests_in ws) ≡ length ws
length_in [] = refl
length_in (w ∷ ws) = ap suc (length_in ws)

-- a call that waits is among those that wait
pub found_among : ((i j : Interest) → is_same i j ≡ true → i ≡ j) → (ws : List Waiting) (at : ℕ) (i j : Interest) → IsSomeAnd (slice_get ws at) (λ w. is_same w.interest i ≡ true) → is_same i j ≡ true → is_among j ws ≡ true
found_among equal [] at i j found same = absurd found
found_among equal (w ∷ ws) zero i j found same = let e : w.interest ≡ i = equal w.interest i found in rw e (grind arith)
found_among equal (w ∷ ws) (suc at) i j found same = grind (arith, found_among equal ws at i j found same)

pub or_there : (a b : Bool) → (b ≡ true → a ≡ true) → a ≡ (a || b)
or_there true b h = refl
or_there false true h = h refl
or_there false false h = refl

pub among_last : (ws : List Waiting) (w : Waiting) (j : Interest) → is_among j (ws ++ w ∷ []) ≡ (is_among j ws || is_same w.interest j)
among_last [] w j = grind arith
among_last (v ∷ ws) w j = grind (arith, among_last ws w j)

-- where a task stands with a call, the call stands
pub found_call : (o : Option Waiting) (i : Interest) (task : ℕ) → IsSomeAnd o (λ w. (is_same w.interest i ≡ true) × (w.task ≡ task)) → IsSomeAnd o (λ w. is_same w.interest i ≡ true)
found_call None i task found = absurd found
found_call (Some w) i task found = found.0

-- only the entry of a task with a call changes
pub keeps_at : (old new : List Waiting) (at : ℕ) (i : Interest) (task : ℕ) → IsSomeAnd (slice_get old at) (λ w. (is_same w.interest i ≡ true) × (w.task ≡ task))
    → ((k : ℕ) → k ≢ at → slice_get new k ≡ slice_get old k) → KeepsOthers i task old new
keeps_at old new at i task found same = λ k w there other.
    ⊎_elim (λ is. absurd (other (both w (subst (λ (o : Option Waiting). IsSomeAnd o (λ v. (is_same v.interest i ≡ true) × (v.task ≡ task))) (ap (slice_get old) (sym is) ∙ there) found))))
    (λ isnt. same k isnt ∙ there) (cases_eq k at)
  where
    both : (w : Waiting) → (is_same w.interest i ≡ true) × (w.task ≡ task) → is_same w.interest i && (w.task == task) ≡ true
    both w h = rw (h.0, (Decides-eqb w.task task).1 h.1) refl

-- or one is added, and changes
pub keeps_before : (old mid new : List Waiting) (v : Waiting) (at : ℕ) (i : Interest) (task : ℕ) → mid ≡ old ++ v ∷ [] → at ≡ length old
    → ((k : ℕ) → k ≢ at → slice_get new k ≡ slice_get mid k) → KeepsOthers i task old new
keeps_before old mid new v at i task added last same = λ k w there other.
    same k (λ is. below old k w there (is ∙ last)) ∙ ap (λ (l : List Waiting). slice_get l k) added ∙ get_front old k w there
  where
    below : (ws : List Waiting) (k : ℕ) (w : Waiting) → slice_get ws k ≡ Some w → k ≢ length ws
    below ws k w there is = omega (arith, slice_get_within ws k w there)

    get_front : (ws : List Waiting) (k : ℕ) (w : Waiting) → slice_get ws k ≡ Some w → slice_get (ws ++ v ∷ []) k ≡ Some w
    get_front [] k w there = cc
    get_front (u ∷ ws) zero w there = there
    get_front (u ∷ ws) (suc k) w there = get_front ws k w there
