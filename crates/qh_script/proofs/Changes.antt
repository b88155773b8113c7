-- The last request, changed in its place.
use Rattle.std.proofs.Common.{◌≡◌, ℕ, zero, suc, ◌+◌, ◌%◌, List, [], ◌∷◌, ◌++◌, length, get_or, set, Option, Some, None, Result, OnOk, IfErr, refl, sym, ap, ◌∙◌, arith, add-one, add-zero}
use Rattle.std.proofs.lemmas.Result.{on_ok_weaker, IfErr-weaker}
use Rattle.qh_spec.specs.Message.{PlainMessage}
use Rattle.qh_spec.specs.Script.{change_last, filling}
use Rattle.qh_script.specs.declared.script.untaken.Untaken.{Untaken}
use Rattle.qh_script.specs.declared.script.untaken.Untaken.TheVariants as untaken
use Rattle.qh_script.specs.Script.{WhenRefused}

-- what is known of a refusal, carried over
pub refused_weaker : {P Q : Type 0} (e : Untaken) → (P → Q) → WhenRefused e P → WhenRefused e Q
refused_weaker untaken.Refused f p = f p
refused_weaker untaken.Memory f p = tt

-- the last request, where it was changed
pub changed : (f : PlainMessage → Option PlainMessage) (ms : List PlainMessage) (m n : PlainMessage) (k : ℕ) → k + 1 ≡ length ms → m ≡ get_or ms k m → f m ≡ Some n
    → change_last f ms ≡ Some (set ms k n)
changed f [] m n k len is e = absurd (omega arith)
changed f (x ∷ []) m n zero len is e = let here : f x ≡ Some n = ap f (sym is) ∙ e in rw here refl
changed f (x ∷ []) m n (suc k) len is e = absurd (omega arith)
changed f (x ∷ y ∷ ms) m n zero len is e = absurd (omega arith)
changed f (x ∷ y ∷ ms) m n (suc k) len is e = rw (changed f (y ∷ ms) m n k (omega arith) is e) refl

unchanged : (f : PlainMessage → Option PlainMessage) (ms : List PlainMessage) (m : PlainMessage) (k : ℕ) → k + 1 ≡ length ms → m ≡ get_or ms k m → f m ≡ None
    → change_last f ms ≡ None
unchanged f [] m k len is e = absurd (omega arith)
unchanged f (x ∷ []) m zero len is e = let here : f x ≡ None = ap f (sym is) ∙ e in rw here refl
unchanged f (x ∷ []) m (suc k) len is e = absurd (omega arith)
unchanged f (x ∷ y ∷ ms) m zero len is e = absurd (omega arith)
unchanged f (x ∷ y ∷ ms) m (suc k) len is e = rw (unchanged f (y ∷ ms) m k (omega arith) is e) refl

-- where the last was changed, the list was
pub last_changed : {T E : Type 0} (r : Result T E) (f : PlainMessage → Option PlainMessage) (ms : List PlainMessage) (m n : PlainMessage) (k : ℕ) → k + 1 ≡ length ms
    → m ≡ get_or ms k m → OnOk r (f m ≡ Some n) → OnOk r (change_last f ms ≡ Some (set ms k n))
last_changed r f ms m n k len is done = on_ok_weaker r (λ e. changed f ms m n k len is e) done

-- where it wasn't, the list isn't
pub last_refused : {T : Type 0} (r : Result T Untaken) (f : PlainMessage → Option PlainMessage) (ms : List PlainMessage) (m : PlainMessage) (k : ℕ) → k + 1 ≡ length ms
    → m ≡ get_or ms k m → IfErr r (λ e. WhenRefused e (f m ≡ None)) → IfErr r (λ e. WhenRefused e (change_last f ms ≡ None))
last_refused r f ms m k len is failed =
    IfErr-weaker r (λ e. WhenRefused e (f m ≡ None)) (λ e. WhenRefused e (change_last f ms ≡ None))
    (λ e. refused_weaker e (λ (none : f m ≡ None). unchanged f ms m k len is none)) failed

filling_suc : (j n : ℕ) → filling j (suc n) ≡ filling j n ++ (97 + (j + n) % 26) ∷ []
filling_suc j zero = rw (add-zero j) refl
filling_suc j (suc n) =
    let e : j + 1 + n ≡ j + suc n = omega arith in
    ap (λ (z : List ℕ). (97 + j % 26) ∷ z) (filling_suc (j + 1) n) ∙ ap (λ (m : ℕ). (97 + j % 26) ∷ (filling (j + 1) n ++ (97 + m % 26) ∷ [])) e

-- one byte more
pub filling_more : (n : ℕ) → filling 0 (n + 1) ≡ filling 0 n ++ (97 + n % 26) ∷ []
filling_more n =
    let e : 0 + n ≡ n = omega arith in
    rw (add-one n) (filling_suc 0 n ∙ ap (λ (m : ℕ). filling 0 n ++ (97 + m % 26) ∷ []) e)
