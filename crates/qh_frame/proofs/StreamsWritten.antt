-- A STREAM frame is written as its form.
use Rattle.std.proofs.Common.{◌≡◌, ℕ, ◌+◌, ◌≤◌, ◌<◌, ◌^◌, true, false, List, [], ◌∷◌, ◌++◌, length, Some, refl, sym, ap, ◌∙◌, arith, subst, Bool, append_assoc}
use Rattle.std.specs.Prelude.{if◌then◌else◌}
use Rattle.std.proofs.lemmas.Bool.{eq-eqb}
use Rattle.qh_frame.proofs.Shapes.{not_it}
use Rattle.qh_frame.specs.FrameBytes.{IsPut, numbers_bytes}
use Rattle.qh_frame.proofs.FramesWritten.{one_counted_put, two_counted_put}
use Rattle.qh_frame.specs.WrittenForm.{stream_form}
use Rattle.qh_spec.specs.QuicFrames.{Number, Counted, Num, Text, QuicFrame, shape_of}

pub start_shape : (fin : Bool) (k : ℕ) → k ≡ 10 + 0 + (if fin then 1 else 0) → shape_of k ≡ Some (Number ∷ Counted ∷ [])
unfolding shape_of
start_shape true k e = ap shape_of e ∙ refl
start_shape false k e = ap shape_of e ∙ refl

pub later_shape : (fin : Bool) (k : ℕ) → k ≡ 10 + 4 + (if fin then 1 else 0) → shape_of k ≡ Some (Number ∷ Number ∷ Counted ∷ [])
unfolding shape_of
later_shape true k e = ap shape_of e ∙ refl
later_shape false k e = ap shape_of e ∙ refl

-- a greater bound
looser : (old new : List ℕ) (f : QuicFrame) (most more : ℕ) → most ≤ more → IsPut old new f most → IsPut old new f more
looser old new f most more h p = let size = p.size in record { whole = p.whole; is = p.is; size = omega (arith, size, h) }

pub start_put : (old new : List ℕ) (fin : Bool) (k n id offset : ℕ) (payload : List ℕ) → k ≡ 10 + 0 + (if fin then 1 else 0) → n ≡ id → offset ≡ 0
    → IsPut old new (record { kind = k; values = Num n ∷ Text payload ∷ [] }) (17 + length payload)
    → IsPut old new (stream_form (record { id = id; offset = offset; payload = payload; fin = fin })) (25 + length payload)
start_put old new fin k n id offset payload k_is n_is zero p =
    rw (eq-eqb offset 0 zero)
    (looser old new _ (17 + length payload) (25 + length payload) (omega arith)
    (subst (λ (z : ℕ). IsPut old new (record { kind = 10 + 0 + (if fin then 1 else 0); values = Num z ∷ Text payload ∷ [] }) (17 + length payload)) n_is
    (subst (λ (z : ℕ). IsPut old new (record { kind = z; values = Num n ∷ Text payload ∷ [] }) (17 + length payload)) k_is p)))

pub later_put : (old new : List ℕ) (fin : Bool) (k n id offset : ℕ) (payload : List ℕ) → k ≡ 10 + 4 + (if fin then 1 else 0) → n ≡ id → (offset ≡ 0 → ⊥)
    → IsPut old new (record { kind = k; values = Num n ∷ Num offset ∷ Text payload ∷ [] }) (25 + length payload)
    → IsPut old new (stream_form (record { id = id; offset = offset; payload = payload; fin = fin })) (25 + length payload)
later_put old new fin k n id offset payload k_is n_is some p =
    rw (not_it offset 0 some)
    (subst (λ (z : ℕ). IsPut old new (record { kind = 10 + 4 + (if fin then 1 else 0); values = Num z ∷ Num offset ∷ Text payload ∷ [] }) (25 + length payload)) n_is
    (subst (λ (z : ℕ). IsPut old new (record { kind = z; values = Num n ∷ Num offset ∷ Text payload ∷ [] }) (25 + length payload)) k_is p))

-- the head alone, and a payload behind it
behind : (old mid head t : List ℕ) → mid ≡ old ++ head → mid ++ t ≡ old ++ (head ++ t)
behind old mid head t e = ap (λ (x : List ℕ). x ++ t) e ∙ append_assoc old head t

pub start_head_put : (old mid : List ℕ) (fin : Bool) (k id offset n : ℕ) → k ≡ 10 + 0 + (if fin then 1 else 0) → offset ≡ 0 → k < 64 → id < 2 ^ 62 → n < 2 ^ 62
    → mid ≡ old ++ numbers_bytes (k ∷ id ∷ n ∷ []) → (payload : List ℕ) → length payload ≡ n
    → IsPut old (mid ++ payload) (stream_form (record { id = id; offset = offset; payload = payload; fin = fin })) (25 + n)
start_head_put old mid fin k id offset n k_is zero small id_small n_small mid_is payload n_is =
    let short : length payload < 2 ^ 62 = omega (arith, n_is, n_small) in
    let whole : mid ++ payload ≡ old ++ (numbers_bytes (k ∷ id ∷ length payload ∷ []) ++ payload) =
    behind old mid (numbers_bytes (k ∷ id ∷ length payload ∷ [])) payload (mid_is ∙ ap (λ (z : ℕ). old ++ numbers_bytes (k ∷ id ∷ z ∷ [])) (sym n_is)) in
    subst (λ (z : ℕ). IsPut old (mid ++ payload) (stream_form (record { id = id; offset = offset; payload = payload; fin = fin })) (25 + z)) n_is
    (start_put old (mid ++ payload) fin k id id offset payload k_is refl zero
    (one_counted_put old (mid ++ payload) k id id payload small (start_shape fin k k_is) refl id_small short whole))

pub later_head_put : (old mid : List ℕ) (fin : Bool) (k id offset n : ℕ) → k ≡ 10 + 4 + (if fin then 1 else 0) → (offset ≡ 0 → ⊥) → k < 64 → id < 2 ^ 62 → offset < 2 ^ 62 → n < 2 ^ 62
    → mid ≡ old ++ numbers_bytes (k ∷ id ∷ offset ∷ n ∷ []) → (payload : List ℕ) → length payload ≡ n
    → IsPut old (mid ++ payload) (stream_form (record { id = id; offset = offset; payload = payload; fin = fin })) (25 + n)
later_head_put old mid fin k id offset n k_is some small id_small offset_small n_small mid_is payload n_is =
    let short : length payload < 2 ^ 62 = omega (arith, n_is, n_small) in
    let whole : mid ++ payload ≡ old ++ (numbers_bytes (k ∷ id ∷ offset ∷ length payload ∷ []) ++ payload) =
    behind old mid (numbers_bytes (k ∷ id ∷ offset ∷ length payload ∷ [])) payload (mid_is ∙ ap (λ (z : ℕ). old ++ numbers_bytes (k ∷ id ∷ offset ∷ z ∷ [])) (sym n_is)) in
    subst (λ (z : ℕ). IsPut old (mid ++ payload) (stream_form (record { id = id; offset = offset; payload = payload; fin = fin })) (25 + z)) n_is
    (later_put old (mid ++ payload) fin k id id offset payload k_is refl some
    (two_counted_put old (mid ++ payload) k id offset id offset payload small (later_shape fin k k_is) refl refl id_small offset_small short whole))

-- the type takes one byte
pub small : (fin : Bool) (k bit : ℕ) → bit ≤ 4 → k ≡ 10 + bit + (if fin then 1 else 0) → k < 64
small true k bit h e = omega (arith, h, e)
small false k bit h e = omega (arith, h, e)
