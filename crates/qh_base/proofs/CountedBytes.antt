-- Numbers, and bytes behind their length, are read from the front.
use Rattle.std.proofs.Common.{◌≡◌, ℕ, ◌<◌, ◌≤◌, List, length, take, drop, sym, ap, ◌∙◌, arith, refl, subst, length-append}
use Rattle.std.specs.Prelude.{Option, Some, None, IfNone}
use Rattle.std.proofs.lemmas.List.{take-append-drop, take_at, length-take-le}
use Rattle.qh_spec.proofs.FrameLaws.{numbers_agree}
use Rattle.qh_spec.specs.QuicFrames.{Counted, Text, IsNumber, IsValue}
use Rattle.qh_spec.specs.Varint.{IsVarint}

pub at_none : {A : Type 0} {P : Type 0} (o : Option A) → P → IfNone o P
at_none None p = p
at_none (Some x) p = tt

pub number_here : (bytes : List ℕ) (n size : ℕ) → IsVarint (take size bytes) n → IsNumber bytes n (drop size bytes)
number_here bytes n size is = (take size bytes, sym (take-append-drop size bytes), is)

pub no_number : (bytes : List ℕ) → ((n k : ℕ) → IsVarint (take k bytes) n → ⊥) → (n : ℕ) (rest : List ℕ) → IsNumber bytes n rest → ⊥
no_number bytes never n rest i =
    let front : take (length i.0) bytes ≡ i.0 = ap (take (length i.0)) i.1 ∙ take_at i.0 rest (length i.0) refl in
    never n (length i.0) (subst (λ (z : List ℕ). IsVarint z n) (sym front) i.2)

pub counted_here : (bytes rest : List ℕ) (n : ℕ) → IsNumber bytes n rest → n ≤ length rest → IsValue Counted bytes (Text (take n rest)) (drop n rest)
counted_here bytes rest n i fits =
    (rest, subst (λ (m : ℕ). IsNumber bytes m rest) (sym (length-take-le n rest fits)) i, sym (take-append-drop n rest))

pub no_count : (bytes : List ℕ) → ((n : ℕ) (rest : List ℕ) → IsNumber bytes n rest → ⊥) → (text rest : List ℕ) → IsValue Counted bytes (Text text) rest → ⊥
no_count bytes never text rest c = never (length text) c.0 c.1

pub too_few : (bytes rest : List ℕ) (n : ℕ) → IsNumber bytes n rest → length rest < n → (text more : List ℕ) → IsValue Counted bytes (Text text) more → ⊥
too_few bytes rest n i few text more c =
    let r = numbers_agree bytes c.0 rest (length text) n c.1 i in
    let same = r.0 in
    let total = ap length (sym r.1 ∙ c.2) in
    let parts = length-append text more in
    omega (arith, same, total, parts, few)
