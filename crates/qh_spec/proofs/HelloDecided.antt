-- Bytes are a hello of a side or they aren't: a hello is read from the front, and each part has one reading.
use Rattle.std.proofs.Common.{◌≡◌, ◌⊎◌, inl, inr, ℕ, zero, suc, ◌+◌, ◌<◌, ◌≤◌, ◌^◌, List, [], ◌∷◌, ◌++◌, length, get_or, take, drop, Option, Some, None, refl, sym, ap, ◌∙◌, arith, subst, append-nil, length-append}
use Rattle.std.specs.Int.{w16, w32, w64, to_be_bytes}
use Rattle.std.proofs.lemmas.Bool.{cases_lt, cases_eq}
use Rattle.std.proofs.lemmas.List.{take-append-drop, length-take, take_at}
use Rattle.qh_spec.specs.Hello.{Parameter, IsParameter, AreParameters, Hello, IsHelloOf, hello_byte}
use Rattle.qh_spec.specs.Varint.{IsVarint, one, two, four, eight}
use Rattle.qh_spec.specs.declared.sides.Side.{Side}
use Rattle.qh_spec.proofs.Cuts.{halves, varints_agree}
use Rattle.qh_spec.proofs.HelloLaws.{parameter_agrees}
use Rattle.qh_spec.proofs.Varints.{varint_at, spelled_read, one_form, no_empty_varint}

-- ---- numbers

pub bytes_decided : (xs ys : List ℕ) → (xs ≡ ys) ⊎ (xs ≡ ys → ⊥)
bytes_decided [] [] = inl refl
bytes_decided [] (y ∷ ys) = inr (λ e. let l : 0 ≡ length (y ∷ ys) = ap length e in omega (arith, l))
bytes_decided (x ∷ xs) [] = inr (λ e. let l : length (x ∷ xs) ≡ 0 = ap length e in omega (arith, l))
bytes_decided (x ∷ xs) (y ∷ ys) =
    elim (cases_eq x y) [
      | inl h ↦ elim (bytes_decided xs ys) [
        | inl t ↦ inl cc
        | inr n ↦ inr (λ e. n cc)
      ]
      | inr n ↦ inr (λ e. n cc)
    ]

-- a bound and an equation, both or not
both_decided : (n bound : ℕ) (xs ys : List ℕ) → ((n < bound) × (xs ≡ ys)) ⊎ (n < bound → xs ≡ ys → ⊥)
both_decided n bound xs ys =
    elim (cases_lt n bound) [
      | inl h ↦ elim (bytes_decided xs ys) [
        | inl e ↦ inl (h, e)
        | inr f ↦ inr (λ l e. f e)
      ]
      | inr g ↦ inr (λ l e. omega (arith, l, g))
    ]

no_form : (bytes : List ℕ) (n : ℕ) → (n < 2 ^ 6 → bytes ≡ n ∷ [] → ⊥) → (n < 2 ^ 14 → bytes ≡ to_be_bytes w16 (2 ^ 14 + n) → ⊥)
    → (n < 2 ^ 30 → bytes ≡ to_be_bytes w32 (2 ^ 31 + n) → ⊥) → (n < 2 ^ 62 → bytes ≡ to_be_bytes w64 (2 ^ 63 + 2 ^ 62 + n) → ⊥) → IsVarint bytes n → ⊥
no_form bytes n a b c d (one l e) = a l e
no_form bytes n a b c d (two l e) = b l e
no_form bytes n a b c d (four l e) = c l e
no_form bytes n a b c d (eight l e) = d l e

varint_decided : (bytes : List ℕ) (n : ℕ) → IsVarint bytes n ⊎ (IsVarint bytes n → ⊥)
varint_decided bytes n =
    elim (both_decided n (2 ^ 6) bytes (n ∷ [])) [
      | inl h ↦ inl (one h.0 h.1)
      | inr a ↦ elim (both_decided n (2 ^ 14) bytes (to_be_bytes w16 (2 ^ 14 + n))) [
        | inl h ↦ inl (two h.0 h.1)
        | inr b ↦ elim (both_decided n (2 ^ 30) bytes (to_be_bytes w32 (2 ^ 31 + n))) [
          | inl h ↦ inl (four h.0 h.1)
          | inr c ↦ elim (both_decided n (2 ^ 62) bytes (to_be_bytes w64 (2 ^ 63 + 2 ^ 62 + n))) [
            | inl h ↦ inl (eight h.0 h.1)
            | inr d ↦ inr (no_form bytes n a b c d)
          ]
        ]
      ]
    ]

-- a number stands in front of the bytes
pub record HasNumber (bytes : List ℕ) : Type 0 where
  pub number : ℕ
  pub front : List ℕ
  pub rest : List ℕ
  pub whole : bytes ≡ front ++ rest
  pub is : IsVarint front number

no_reading : (bytes : List ℕ) → varint_at bytes ≡ None → HasNumber bytes → ⊥
no_reading bytes e h =
    let r : varint_at bytes ≡ Some (h.number, length h.front) = ap varint_at h.whole ∙ spelled_read h.front h.rest h.number h.is in
    cc

one_reading : (bytes : List ℕ) (n len : ℕ) → varint_at bytes ≡ Some (n, len) → (IsVarint (take len bytes) n → ⊥) → HasNumber bytes → ⊥
one_reading bytes n len e never h =
    let r : varint_at bytes ≡ Some (h.number, length h.front) = ap varint_at h.whole ∙ spelled_read h.front h.rest h.number h.is in
    let both : ◌≡◌ {A = Option (ℕ × ℕ)} (Some (n, len)) (Some (h.number, length h.front)) = sym e ∙ r in
    let pair : (n, len) ≡ (h.number, length h.front) = cc in
    let number : n ≡ h.number = ap (λ (z : ℕ × ℕ). z.0) pair in
    let size : len ≡ length h.front = ap (λ (z : ℕ × ℕ). z.1) pair in
    let front : take len bytes ≡ h.front = ap (take len) h.whole ∙ take_at h.front h.rest len (sym size) in
    never (subst (λ (z : List ℕ). IsVarint z n) (sym front) (subst (λ (m : ℕ). IsVarint h.front m) (sym number) h.is))

number_at : (bytes : List ℕ) (o : Option (ℕ × ℕ)) → varint_at bytes ≡ o → HasNumber bytes ⊎ (HasNumber bytes → ⊥)
number_at bytes None e = inr (no_reading bytes e)
number_at bytes (Some p) e =
    elim (varint_decided (take p.1 bytes) p.0) [
      | inl v ↦ inl (record { number = p.0; front = take p.1 bytes; rest = drop p.1 bytes; whole = sym (take-append-drop p.1 bytes); is = v })
      | inr n ↦ inr (one_reading bytes p.0 p.1 e n)
    ]

pub number_decided : (bytes : List ℕ) → HasNumber bytes ⊎ (HasNumber bytes → ⊥)
number_decided bytes = number_at bytes (varint_at bytes) refl

-- the bytes are exactly one number, or no number
pub whole_number_decided : (bytes : List ℕ) → ((n : ℕ) × IsVarint bytes n) ⊎ ((n : ℕ) → IsVarint bytes n → ⊥)
whole_number_decided bytes =
    elim (number_decided bytes) [
      | inr never ↦ inr (λ n v. never (record { number = n; front = bytes; rest = []; whole = sym (append-nil bytes); is = v }))
      | inl h ↦ elim (bytes_decided h.front bytes) [
        | inl e ↦ inl (h.number, subst (λ (z : List ℕ). IsVarint z h.number) e h.is)
        | inr never ↦ inr (λ n v. never (one_form h.front bytes h.rest [] h.number n h.is v (sym h.whole ∙ sym (append-nil bytes))).0)
      ]
    ]

some_byte : (bytes : List ℕ) (n : ℕ) → IsVarint bytes n → 0 < length bytes
some_byte [] n v = absurd (no_empty_varint n v)
some_byte (b ∷ bytes) n v = omega arith

-- ---- a number, and as many bytes behind it

pub record HasCounted (bytes : List ℕ) : Type 0 where
  pub front : List ℕ
  pub value : List ℕ
  pub rest : List ℕ
  pub whole : bytes ≡ front ++ (value ++ rest)
  pub is : IsVarint front (length value)

counted_here : (bytes : List ℕ) (h : HasNumber bytes) → h.number ≤ length h.rest → HasCounted bytes
counted_here bytes h l =
    let t : length (take h.number h.rest) ≡ h.number = (let a = length-take h.number h.rest in omega (arith, a, l)) in
    record {
      front = h.front;
      value = take h.number h.rest;
      rest = drop h.number h.rest;
      whole = h.whole ∙ ap (λ (z : List ℕ). h.front ++ z) (sym (take-append-drop h.number h.rest));
      is = subst (λ (n : ℕ). IsVarint h.front n) (sym t) h.is;
    }

too_few : (bytes : List ℕ) (h : HasNumber bytes) → length h.rest < h.number → HasCounted bytes → ⊥
too_few bytes h l c =
    let r = varints_agree h.front h.rest c.front (c.value ++ c.rest) h.number (length c.value) h.is c.is (sym h.whole ∙ c.whole) in
    let a = ap length r.1 in
    let b = length-append c.value c.rest in
    let n = r.0 in
    omega (arith, a, b, n, l)

pub counted_decided : (bytes : List ℕ) → HasCounted bytes ⊎ (HasCounted bytes → ⊥)
counted_decided bytes =
    elim (number_decided bytes) [
      | inr never ↦ inr (λ c. never (record { number = length c.value; front = c.front; rest = c.value ++ c.rest; whole = c.whole; is = c.is }))
      | inl h ↦ elim (cases_lt (length h.rest) h.number) [
        | inl l ↦ inr (too_few bytes h l)
        | inr l ↦ inl (counted_here bytes h l)
      ]
    ]

-- one reading of a counted value
pub counted_agree : (bytes : List ℕ) (c d : HasCounted bytes) → (c.value ≡ d.value) × (c.rest ≡ d.rest)
counted_agree bytes c d =
    let r = varints_agree c.front (c.value ++ c.rest) d.front (d.value ++ d.rest) (length c.value) (length d.value) c.is d.is (sym c.whole ∙ d.whole) in
    halves c.value c.rest d.value d.rest r.0 r.1

-- ---- parameters

record HasParameter (bytes : List ℕ) : Type 0 where
  parameter : Parameter
  rest : List ℕ
  is : IsParameter bytes parameter rest

value_of_id : (bytes : List ℕ) (h : HasNumber bytes) → (HasCounted h.rest → ⊥) → HasParameter bytes → ⊥
value_of_id bytes h never p =
    let tail : List ℕ = p.is.length_bytes ++ (p.parameter.value ++ p.rest) in
    let r = varints_agree h.front h.rest p.is.id_bytes tail h.number p.parameter.id h.is p.is.id_is (sym h.whole ∙ p.is.whole) in
    never (record { front = p.is.length_bytes; value = p.parameter.value; rest = p.rest; whole = r.1; is = p.is.length_is })

parameter_decided : (bytes : List ℕ) → HasParameter bytes ⊎ (HasParameter bytes → ⊥)
parameter_decided bytes =
    elim (number_decided bytes) [
      | inr never ↦ inr (λ p. never (record { number = p.parameter.id; front = p.is.id_bytes; rest = p.is.length_bytes ++ (p.parameter.value ++ p.rest); whole = p.is.whole; is = p.is.id_is }))
      | inl h ↦ elim (counted_decided h.rest) [
        | inr never ↦ inr (value_of_id bytes h never)
        | inl c ↦ inl (record {
          parameter = record { id = h.number; value = c.value };
          rest = c.rest;
          is = record {
            id_bytes = h.front;
            length_bytes = c.front;
            whole = h.whole ∙ ap (λ (z : List ℕ). h.front ++ z) c.whole;
            id_is = h.is;
            length_is = c.is;
          };
        })
      ]
    ]

shorter : (bytes : List ℕ) (p : HasParameter bytes) → length p.rest < length bytes
shorter bytes p =
    let tail : List ℕ = p.is.length_bytes ++ (p.parameter.value ++ p.rest) in
    let a = ap length p.is.whole in
    let b = length-append p.is.id_bytes tail in
    let c = length-append p.is.length_bytes (p.parameter.value ++ p.rest) in
    let d = length-append p.parameter.value p.rest in
    let some = some_byte p.is.id_bytes p.parameter.id p.is.id_is in
    omega (arith, a, b, c, d, some)

abbrev pub Parameters : List ℕ → Type 0
Parameters bytes = (ps : List Parameter) × AreParameters bytes ps

no_first : (b : ℕ) (bytes : List ℕ) → (HasParameter (b ∷ bytes) → ⊥) → (ps : List Parameter) → AreParameters (b ∷ bytes) ps → ⊥
no_first b bytes never [] e = let l : length (b ∷ bytes) ≡ 0 = ap length e in absurd (omega (arith, l))
no_first b bytes never (p ∷ ps) a = never (record { parameter = p; rest = a.0; is = a.1 })

no_more : (b : ℕ) (bytes : List ℕ) (p : HasParameter (b ∷ bytes)) → (Parameters p.rest → ⊥) → (ps : List Parameter) → AreParameters (b ∷ bytes) ps → ⊥
no_more b bytes p never [] e = let l : length (b ∷ bytes) ≡ 0 = ap length e in absurd (omega (arith, l))
no_more b bytes p never (q ∷ qs) a =
    let r = parameter_agrees (b ∷ bytes) q p.parameter a.0 p.rest a.1 p.is in
    never (qs, subst (λ (z : List ℕ). AreParameters z qs) r.1 a.2)

parameters_decided : (fuel : ℕ) (bytes : List ℕ) → length bytes ≤ fuel → Parameters bytes ⊎ (Parameters bytes → ⊥)
parameters_decided fuel [] l = inl ([], refl)
parameters_decided zero (b ∷ bytes) l = absurd (omega (arith, l))
parameters_decided (suc fuel) (b ∷ bytes) l =
    elim (parameter_decided (b ∷ bytes)) [
      | inr never ↦ inr (λ a. no_first b bytes never a.0 a.1)
      | inl p ↦ elim (parameters_decided fuel p.rest (let s = shorter (b ∷ bytes) p in omega (arith, l, s))) [
        | inl r ↦ inl (p.parameter ∷ r.0, (p.rest, p.is, r.1))
        | inr never ↦ inr (λ a. no_more b bytes p never a.0 a.1)
      ]
    ]

-- ---- a hello

abbrev pub AHello : Side → List ℕ → Type 0
AHello side bytes = (h : Hello) × IsHelloOf side bytes h

-- what stands behind the first byte of a hello
name_there : (side : Side) (b : ℕ) (bytes : List ℕ) → AHello side (b ∷ bytes) → (b ≡ hello_byte side) × HasCounted bytes
name_there side b bytes a =
    let i = a.1.0 in
    let first : b ≡ hello_byte a.0.sender = ap (λ (z : List ℕ). get_or z 0 0) i.whole in (
      first ∙ ap hello_byte a.1.1,
      record { front = i.name_length; value = a.0.server_name; rest = i.parameters_length ++ i.parameter_bytes; whole = ap (λ (z : List ℕ). drop 1 z) i.whole; is = i.name_is },
    )

-- and behind the name
pub rest_there : (side : Side) (b : ℕ) (bytes : List ℕ) (c : HasCounted bytes) → AHello side (b ∷ bytes)
    → (d : HasCounted c.rest) × (d.rest ≡ []) × Parameters d.value
unfolding name_there
rest_there side b bytes c a =
    let i = a.1.0 in
    let r = counted_agree bytes c (name_there side b bytes a).1 in (
      record { front = i.parameters_length; value = i.parameter_bytes; rest = []; whole = r.1 ∙ ap (λ (z : List ℕ). i.parameters_length ++ z) (sym (append-nil i.parameter_bytes)); is = i.length_is },
      refl,
      (a.0.parameters, i.parameters),
    )

hello_there : (side : Side) (b : ℕ) (bytes : List ℕ) (c : HasCounted bytes) (d : HasCounted c.rest) → b ≡ hello_byte side → d.rest ≡ [] → Parameters d.value → AHello side (b ∷ bytes)
hello_there side b bytes c d e none ps =
    let tail : c.rest ≡ d.front ++ d.value = d.whole ∙ ap (λ (z : List ℕ). d.front ++ (d.value ++ z)) none ∙ ap (λ (z : List ℕ). d.front ++ z) (append-nil d.value) in
    let behind : bytes ≡ c.front ++ (c.value ++ (d.front ++ d.value)) = c.whole ∙ ap (λ (z : List ℕ). c.front ++ (c.value ++ z)) tail in (
      record { sender = side; server_name = c.value; parameters = ps.0 },
      (
        record {
          name_length = c.front;
          parameters_length = d.front;
          parameter_bytes = d.value;
          whole = ap (λ (z : List ℕ). b ∷ z) behind ∙ ap (λ (z : ℕ). z ∷ (c.front ++ (c.value ++ (d.front ++ d.value)))) e;
          name_is = c.is;
          length_is = d.is;
          parameters = ps.1;
        },
        refl,
      ),
    )

behind_name : (side : Side) (b : ℕ) (bytes : List ℕ) (c : HasCounted bytes) (d : HasCounted c.rest) → b ≡ hello_byte side → AHello side (b ∷ bytes) ⊎ (AHello side (b ∷ bytes) → ⊥)
behind_name side b bytes c d e =
    elim (bytes_decided d.rest []) [
      | inr never ↦ inr (λ a. let r = rest_there side b bytes c a in never ((counted_agree c.rest d r.0).1 ∙ r.1))
      | inl none ↦ elim (parameters_decided (length d.value) d.value (omega arith)) [
        | inl ps ↦ inl (hello_there side b bytes c d e none ps)
        | inr never ↦ inr (λ a. let r = rest_there side b bytes c a in never (r.2.0, subst (λ (z : List ℕ). AreParameters z r.2.0) (sym (counted_agree c.rest d r.0).0) r.2.1))
      ]
    ]

pub no_hello_here : (side : Side) → AHello side [] → ⊥
no_hello_here side a =
    let i = a.1.0 in
    let l : 0 ≡ length (hello_byte a.0.sender ∷ (i.name_length ++ (a.0.server_name ++ (i.parameters_length ++ i.parameter_bytes)))) = ap length i.whole in
    omega (arith, l)

pub hello_decided : (side : Side) (bytes : List ℕ) → AHello side bytes ⊎ (AHello side bytes → ⊥)
hello_decided side [] = inr (no_hello_here side)
hello_decided side (b ∷ bytes) =
    elim (cases_eq b (hello_byte side)) [
      | inr never ↦ inr (λ a. never (name_there side b bytes a).0)
      | inl e ↦ elim (counted_decided bytes) [
        | inr never ↦ inr (λ a. never (name_there side b bytes a).1)
        | inl c ↦ elim (counted_decided c.rest) [
          | inr never ↦ inr (λ a. never (rest_there side b bytes c a).0)
          | inl d ↦ behind_name side b bytes c d e
        ]
      ]
    ]
