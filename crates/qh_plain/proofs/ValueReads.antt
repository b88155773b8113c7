-- Steps of reading values.
use Rattle.std.proofs.Common.{◌≡◌, ℕ, ◌<◌, ◌≤◌, List, [], ◌∷◌, ◌++◌, length, take, refl, sym, ap, ◌∙◌, arith, subst, append_assoc, append-nil, length-append}
use Rattle.std.proofs.lemmas.List.{take_at}
use Rattle.qh_spec.specs.Varint.{IsVarint}
use Rattle.qh_spec.specs.QuicFrames.{Number, Counted, Ranges, Value, Num, Text, Nums, IsNumber, AreNumbers, IsValue}
use Rattle.qh_spec.proofs.FrameLaws.{numbers_agree}

-- a number would be a front of the bytes
pub no_number : (bytes : List ℕ) → ((n k : ℕ) → IsVarint (take k bytes) n → ⊥) → (n : ℕ) (rest : List ℕ) → IsNumber bytes n rest → ⊥
no_number bytes none n rest p =
    let front : take (length p.0) bytes ≡ p.0 = ap (take (length p.0)) p.1 ∙ take_at p.0 rest (length p.0) refl in
    none n (length p.0) (subst (λ (z : List ℕ). IsVarint z n) (sym front) p.2)

-- where the count isn't there, or the bytes behind it aren't
pub no_count : (bytes : List ℕ) → ((n : ℕ) (rest : List ℕ) → IsNumber bytes n rest → ⊥) → (t rest : List ℕ) → IsValue Counted bytes (Text t) rest → ⊥
no_count bytes none t rest p = none (length t) p.0 p.1

-- these numbers were read from the front of the bytes, and the rest is left
pub record NumbersRead (bytes rest ns : List ℕ) : Type 0 where
  pub into : (more x : List ℕ) → AreNumbers rest more x → AreNumbers bytes (ns ++ more) x
  pub back : (ms x : List ℕ) → length ns ≤ length ms → AreNumbers bytes ms x → (later : List ℕ) × (ms ≡ ns ++ later) × AreNumbers rest later x

one_later : (rest after : List ℕ) (n : ℕ) (ns ms later x : List ℕ) → IsNumber rest n after → length ns < length ms → ms ≡ ns ++ later → AreNumbers rest later x
    → (more : List ℕ) × (ms ≡ (ns ++ n ∷ []) ++ more) × AreNumbers after more x
one_later rest after n ns ms [] x is l e p = let sizes = ap length e in absurd (omega (arith, length-append ns []))
one_later rest after n ns ms (m ∷ more) x is l e p =
    let r = numbers_agree rest p.0 after m n p.1 is in
    (more, e ∙ ap (λ (z : ℕ). ns ++ z ∷ more) r.0 ∙ sym (append_assoc ns (n ∷ []) more), subst (λ (z : List ℕ). AreNumbers z more x) r.1 p.2)

pub one_number_more : (bytes rest after ns : List ℕ) (n : ℕ) → IsNumber rest n after → NumbersRead bytes rest ns → NumbersRead bytes after (ns ++ n ∷ [])
one_number_more bytes rest after ns n is r = record {
  into = λ more x p. subst (λ (z : List ℕ). AreNumbers bytes z x) (sym (append_assoc ns (n ∷ []) more)) (r.into (n ∷ more) x (after, is, p));
  back = λ ms x l p.
      let less : length ns < length ms = omega (arith, length-append ns (n ∷ [])) in
      let b = r.back ms x (omega arith) p in
      one_later rest after n ns ms b.0 x is less b.1 b.2;
}

pub numbers_found : (bytes rest ns : List ℕ) → NumbersRead bytes rest ns → AreNumbers bytes ns rest
numbers_found bytes rest ns r = subst (λ (z : List ℕ). AreNumbers bytes z rest) (append-nil ns) (r.into [] rest refl)

not_here : (rest : List ℕ) → ((n : ℕ) (x : List ℕ) → IsNumber rest n x → ⊥) → (ns ms later x : List ℕ) → length ns < length ms → ms ≡ ns ++ later → AreNumbers rest later x → ⊥
not_here rest none ns ms [] x l e p = let sizes = ap length e in absurd (omega (arith, length-append ns []))
not_here rest none ns ms (m ∷ more) x l e p = none m p.0 p.1

pub no_numbers : (bytes rest ns : List ℕ) (count : ℕ) → length ns < count → NumbersRead bytes rest ns → ((n : ℕ) (x : List ℕ) → IsNumber rest n x → ⊥)
    → (ms x : List ℕ) → length ms ≡ count → AreNumbers bytes ms x → ⊥
no_numbers bytes rest ns count l r none ms x e p =
    let less : length ns < length ms = omega arith in
    let b = r.back ms x (omega arith) p in
    not_here rest none ns ms b.0 x less b.1 b.2

pub no_ranges : (bytes : List ℕ) → ((n : ℕ) (rest : List ℕ) → IsNumber bytes n rest → ⊥) → (ns rest : List ℕ) → IsValue Ranges bytes (Nums ns) rest → ⊥
no_ranges bytes none ns rest p = none p.0 p.1 p.2

-- of a part that holds no such value, none is read
pub only_numbers : (bytes : List ℕ) → ((n : ℕ) (rest : List ℕ) → IsNumber bytes n rest → ⊥) → (v : Value) (rest : List ℕ) → IsValue Number bytes v rest → ⊥
only_numbers bytes none (Num n) rest p = none n rest p
only_numbers bytes none (Text t) rest p = p
only_numbers bytes none (Nums ns) rest p = p

pub only_ranges : (bytes : List ℕ) → ((ns rest : List ℕ) → IsValue Ranges bytes (Nums ns) rest → ⊥) → (v : Value) (rest : List ℕ) → IsValue Ranges bytes v rest → ⊥
only_ranges bytes none (Num n) rest p = p
only_ranges bytes none (Text t) rest p = p
only_ranges bytes none (Nums ns) rest p = none ns rest p
