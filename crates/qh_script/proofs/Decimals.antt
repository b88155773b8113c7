-- Texts of decimal numbers.
use Rattle.std.proofs.Common.{◌≡◌, ℕ, zero, suc, ◌+◌, ◌-◌, ◌*◌, ◌^◌, ◌<◌, ◌≤◌, List, [], ◌∷◌, length, get_or, take, sym, ap, ◌∙◌, decimal, arith}
use Rattle.std.specs.Int.{IsInRange}
use Rattle.std.specs.Char.{digit_value}
use Rattle.std.specs.Str.Parse.{AllDigits, digits_value}
use Rattle.std.proofs.lemmas.List.{take_all}
use Rattle.std.proofs.lemmas.Str.{digit_value_digit}
use Rattle.std.proofs.lemmas.Int.Digits.{digits_value_more, digits_more}
use Rattle.std.proofs.lemmas.Str.Parse.{digit_at, digits_value-take-le, numerals_by_value, tells_digits, digit_from_value}
use Rattle.std.proofs.lemmas.Fmt.{decimal_is_IsNumeral, decimal_nonempty, decimal_digit, first_decimal, decimal_injective, decimal-digits_value}
use Rattle.qh_script.specs.Line.{HasNoSpace, IsNumber, IsNoNumber}

-- what was read so far
pub record IsReadTo (text : List ℕ) (i number : ℕ) : Type 0 where
  pub digits : AllDigits 10 (take i text)
  pub value : number ≡ digits_value 10 (take i text)
  pub fits : number < 2 ^ 64

digit-value : (c : ℕ) → 48 ≤ c → c ≤ 57 → digit_value c ≡ c - 48
digit-value c low high = omega (arith, digit_value_digit c (low, high))

pub read_more : (text : List ℕ) (i number next : ℕ) → i < length text → IsReadTo text i number → 48 ≤ get_or text i 0 → get_or text i 0 ≤ 57 → next ≡ number * 10 + (get_or text i 0 - 48) → next < 2 ^ 64 → IsReadTo text (i + 1) next
read_more text i number next l r low high e fits =
    let d : digit_value (get_or text i 0) ≡ get_or text i 0 - 48 = digit-value _ low high in
    record {
      digits = digits_more 10 text i l r.digits (omega arith);
      value = omega (arith, digits_value_more 10 text i l, r.value);
      fits = fits;
    }

-- a text that is empty, has a leading zero, another byte or too many digits is no number
pub no_number_empty : (text : List ℕ) → length text ≡ 0 → IsNoNumber text
no_number_empty text e n s is = omega (arith, decimal_nonempty n (omega arith), ap length is)

leading : (n : ℕ) → n < 2 ^ 64 → 1 < length (decimal n) → get_or (decimal n) 0 0 ≡ 48 → ⊥
leading zero s l z = omega (arith, ap length (decimal_digit 0 (omega arith)))
leading (suc n) s l z = omega (arith, first_decimal (suc n) (omega arith) (omega arith))

pub no_number_zero : (text : List ℕ) → 1 < length text → get_or text 0 0 ≡ 48 → IsNoNumber text
no_number_zero text l z n s is = leading n s (rw is at l) (rw is at z)

pub digits_of_number : (text : List ℕ) (n : ℕ) → n < 2 ^ 64 → text ≡ decimal n → AllDigits 10 text × (digits_value 10 text ≡ n)
digits_of_number text n s is = let d = decimal_is_IsNumeral n (omega arith) in (rw is d.0.1, rw is d.1)

pub no_number_byte : (text : List ℕ) (i : ℕ) → i < length text → (IsInRange 48 57 (get_or text i 0) → ⊥) → IsNoNumber text
no_number_byte text i l h n s is = h (digit_at text i (digits_of_number text n s is).0 l)

-- ten times what was read so far is too much already
pub no_number_many : (text : List ℕ) (i number : ℕ) → i < length text → IsReadTo text i number → 2 ^ 64 ≤ number * 10 + (get_or text i 0 - 48)
    → 48 ≤ get_or text i 0 → get_or text i 0 ≤ 57 → IsNoNumber text
no_number_many text i number l r many low high n s is =
    omega
    (arith, digits_value-take-le 10 text (i + 1) (omega arith), digits_value_more 10 text i l, r.value, digit-value (get_or text i 0) low high, (digits_of_number text n s is).1)

one_byte : (text : List ℕ) → 0 < length text → (1 < length text → ⊥) → length text ≡ 1
one_byte text some none = omega (arith, none)

pub number_end : (text : List ℕ) (number : ℕ) → IsReadTo text (length text) number → 0 < length text → ((1 < length text) × (get_or text 0 0 ≡ 48) → ⊥) → IsNumber text number
number_end text number r some none =
    let all : take (length text) text ≡ text = take_all (length text) text (omega arith) in
    let digits : AllDigits 10 text = rw all at r.digits in
    let value : number ≡ digits_value 10 text = rw all at r.value in
    let one : get_or text 0 0 ≡ 48 → length text ≡ 1 = λ z. one_byte text some (λ l. none (l, z)) in
    let is : decimal (digits_value 10 text) ≡ text = decimal-digits_value (numerals_by_value (AllDigits 10) tells_digits) text digits some one (omega (arith, value, r.fits)) in
    (sym is ∙ ap decimal (sym value), r.fits)

digits_no_space : (ds : List ℕ) → AllDigits 10 ds → HasNoSpace ds
digits_no_space [] h = tt
digits_no_space (d ∷ ds) h = let r = digit_from_value d h.0 in ((λ e. omega (arith, r.0, e)), digits_no_space ds h.1)

pub decimal_no_space : (n : ℕ) → n < 2 ^ 64 → HasNoSpace (decimal n)
decimal_no_space n s = let d = decimal_is_IsNumeral n (omega arith) in digits_no_space (decimal n) d.0.1

pub same_number : (m n : ℕ) → m < 2 ^ 64 → n < 2 ^ 64 → decimal m ≡ decimal n → m ≡ n
same_number m n s t e = decimal_injective m n (omega arith) (omega arith) e

pub no_number_below : (text : List ℕ) (number end : ℕ) → IsNumber text number → end ≤ number → (n : ℕ) → IsNumber text n → n < end → ⊥
no_number_below text number end is high n other low = omega (arith, same_number n number other.1 is.1 (sym other.0 ∙ is.0))

-- words that are the same one by one
pub two_words : (a b c d : List ℕ) → a ≡ c → b ≡ d → ◌≡◌ {A = List (List ℕ)} (a ∷ b ∷ []) (c ∷ d ∷ [])
two_words a b c d e f = ap (λ (z : List ℕ). z ∷ b ∷ []) e ∙ ap (λ (z : List ℕ). c ∷ z ∷ []) f

pub three_words : (a b c d e f : List ℕ) → a ≡ d → b ≡ e → c ≡ f → ◌≡◌ {A = List (List ℕ)} (a ∷ b ∷ c ∷ []) (d ∷ e ∷ f ∷ [])
three_words a b c d e f x y z = ap (λ (w : List ℕ). w ∷ b ∷ c ∷ []) x ∙ ap (λ (w : List (List ℕ)). d ∷ w) (two_words b c e f y z)
