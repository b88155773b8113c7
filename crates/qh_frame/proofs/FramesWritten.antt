-- What is written of a frame is the frame, whatever follows, and takes few bytes.
use Rattle.std.proofs.Common.{◌≡◌, ℕ, zero, suc, ◌+◌, ◌*◌, ◌/◌, ◌^◌, ◌<◌, ◌≤◌, false, List, [], ◌∷◌, ◌++◌, length, refl, sym, ap, ◌∙◌, inl, inr, arith, Option, Some, Result, Ok, Err, subst, append_assoc, length-append}
use Rattle.std.specs.Prelude.{OnOk, if◌then◌else◌}
use Rattle.std.specs.List.{AllByRecursion}
use Rattle.std.specs.Result.{is_err, is_ok}
use Rattle.std.proofs.lemmas.Bool.{cases_lt, lt-ltb, le-ltb}
use Rattle.std.proofs.lemmas.List.{append-nil}
use Rattle.qh_spec.proofs.Varints.{varint_spelled}
use Rattle.std.specs.Prelude.{replicate}
use Rattle.qh_spec.specs.QuicFrames.{AreQuicFrames, Part, Number, Fixed, Counted, ShortCounted, Left, Ranges, Value, Num, Text, Nums, QuicFrame, IsNumber, AreNumbers, IsValue, AreValues, IsQuicFrame, shape_of}
use Rattle.qh_spec.specs.Varint.{varint, one}
use Rattle.qh_frame.specs.FrameBytes.{numbers_bytes, value_bytes, values_bytes, fields_bytes, frame_bytes, IsPut}

number_is : (n : ℕ) (rest : List ℕ) → n < 2 ^ 62 → IsNumber (varint n ++ rest) n rest
number_is n rest h = (varint n, refl, varint_spelled n h)

-- what a value must keep to have a form
abbrev pub HasForm : Part → Value → Type 0
HasForm Number (Num n) = n < 2 ^ 62
HasForm (Fixed n) (Text t) = length t ≡ n
HasForm Counted (Text t) = length t < 2 ^ 62
HasForm ShortCounted (Text t) = length t < 256
HasForm Ranges (Nums ns) = (k : ℕ) × (length ns ≡ 1 + 2 * k) × (k < 2 ^ 62) × AllByRecursion (λ n. n < 2 ^ 62) ns
HasForm _ _ = ⊥

abbrev pub HaveForms : List Part → List Value → Type 0
HaveForms [] [] = Unit {0}
HaveForms (part ∷ parts) (v ∷ vs) = HasForm part v × HaveForms parts vs
HaveForms _ _ = ⊥

numbers_are : (ns rest : List ℕ) → AllByRecursion (λ n. n < 2 ^ 62) ns → AreNumbers (numbers_bytes ns ++ rest) ns rest
numbers_are [] rest h = refl
numbers_are (n ∷ ns) rest h = (
  numbers_bytes ns ++ rest,
  subst (λ (z : List ℕ). IsNumber z n (numbers_bytes ns ++ rest)) (sym (append_assoc (varint n) (numbers_bytes ns) rest)) (number_is n (numbers_bytes ns ++ rest) h.0),
  numbers_are ns rest h.1,
)

value_is : (part : Part) (v : Value) (rest : List ℕ) → HasForm part v → IsValue part (value_bytes part v ++ rest) v rest
value_is Number (Num n) rest h = number_is n rest h
value_is (Fixed n) (Text t) rest h = (refl, h)
value_is Counted (Text t) rest h = (t ++ rest, subst (λ (z : List ℕ). IsNumber z (length t) (t ++ rest)) (sym (append_assoc (varint (length t)) t rest)) (number_is (length t) (t ++ rest) h), refl)
value_is ShortCounted (Text t) rest h = (refl, h)
value_is Number (Text t) rest h = absurd h
value_is Number (Nums ns) rest h = absurd h
value_is (Fixed n) (Num m) rest h = absurd h
value_is (Fixed n) (Nums ns) rest h = absurd h
value_is Counted (Num m) rest h = absurd h
value_is Counted (Nums ns) rest h = absurd h
value_is ShortCounted (Num m) rest h = absurd h
value_is ShortCounted (Nums ns) rest h = absurd h
value_is Left v rest h = absurd h
value_is Ranges (Num m) rest h = absurd h
value_is Ranges (Text t) rest h = absurd h
value_is Ranges (Nums ns) rest h =
    let len = h.1 in
    let half : length ns / 2 ≡ h.0 = omega (arith, len) in (
      h.0,
      numbers_bytes ns ++ rest,
      subst (λ (z : List ℕ). IsNumber z h.0 (numbers_bytes ns ++ rest)) (sym (append_assoc (varint (length ns / 2)) (numbers_bytes ns) rest))
          (subst (λ (k : ℕ). IsNumber (varint k ++ (numbers_bytes ns ++ rest)) h.0 (numbers_bytes ns ++ rest)) (sym half) (number_is h.0 (numbers_bytes ns ++ rest) h.2)),
      numbers_are ns rest h.3,
      len,
    )

values_are : (parts : List Part) (vs : List Value) (rest : List ℕ) → HaveForms parts vs → AreValues parts (values_bytes parts vs ++ rest) vs rest
values_are [] [] rest h = refl
values_are [] (v ∷ vs) rest h = absurd h
values_are (part ∷ parts) [] rest h = absurd h
values_are (part ∷ parts) (v ∷ vs) rest h = (
  values_bytes parts vs ++ rest,
  subst (λ (z : List ℕ). IsValue part z v (values_bytes parts vs ++ rest)) (sym (append_assoc (value_bytes part v) (values_bytes parts vs) rest)) (value_is part v (values_bytes parts vs ++ rest) h.0),
  values_are parts vs rest h.1,
)

pub written_frame : (kind : ℕ) (shape : List Part) (vs : List Value) (rest : List ℕ) → kind < 2 ^ 62 → shape_of kind ≡ Some shape → HaveForms shape vs
    → IsQuicFrame (frame_bytes (record { kind = kind; values = vs }) ++ rest) (record { kind = kind; values = vs }) rest
unfolding frame_bytes
written_frame kind shape vs rest small shaped h = rw shaped (record {
  fields = values_bytes shape vs ++ rest;
  shape = shape;
  kind = subst (λ (z : List ℕ). IsNumber z kind (values_bytes shape vs ++ rest)) (sym (append_assoc (varint kind) (values_bytes shape vs) rest)) (number_is kind (values_bytes shape vs ++ rest) small);
  shaped = shaped;
  values = values_are shape vs rest h;
})

-- a number takes eight bytes at most, and one below 64 takes one
pub varint_short : (n : ℕ) → length (varint n) ≤ 8
unfolding varint
varint_short n =
    elim (cases_lt n (2 ^ 6)) [
      | inl h ↦ rw (lt-ltb n (2 ^ 6) h) (omega arith)
      | inr g ↦ elim (cases_lt n (2 ^ 14)) [
        | inl h ↦ rw (le-ltb n (2 ^ 6) g, lt-ltb n (2 ^ 14) h) (omega arith)
        | inr g' ↦ elim (cases_lt n (2 ^ 30)) [
          | inl h ↦ rw (le-ltb n (2 ^ 6) g, le-ltb n (2 ^ 14) g', lt-ltb n (2 ^ 30) h) (omega arith)
          | inr g'' ↦ rw (le-ltb n (2 ^ 6) g, le-ltb n (2 ^ 14) g', le-ltb n (2 ^ 30) g'') (omega arith)
        ]
      ]
    ]

pub varint_one : (n : ℕ) → n < 64 → varint n ≡ n ∷ []
unfolding varint
varint_one n h = rw (lt-ltb n 64 h) refl

-- what an answer that is no error says
pub on_ok : {A E : Type 0} {P : Type 0} (r : Result A E) → false ≡ is_err r → OnOk r P → P
on_ok (Ok x) e p = p
on_ok (Err x) e p = cc

pub map_ok : {A E : Type 0} {P Q : Type 0} (r : Result A E) → OnOk r P → (P → Q) → OnOk r Q
map_ok (Ok x) p f = f p
map_ok (Err x) p f = tt

-- what was appended, where it is told by cases
pub appended : {A E : Type 0} (r : Result A E) (mid new x : List ℕ) → false ≡ is_err r → new ≡ (if is_ok r then mid ++ x else mid) → new ≡ mid ++ x
appended (Ok a) mid new x e h = h
appended (Err b) mid new x e h = cc

-- a frame whose bytes were appended
pub is_put : (old new : List ℕ) (kind : ℕ) (shape : List Part) (vs : List Value) (most : ℕ) → kind < 64 → shape_of kind ≡ Some shape → HaveForms shape vs
    → new ≡ old ++ (varint kind ++ values_bytes shape vs) → 1 + length (values_bytes shape vs) ≤ most → IsPut old new (record { kind = kind; values = vs }) most
unfolding frame_bytes
is_put old new kind shape vs most small shaped forms whole size =
    let bytes : frame_bytes (record { kind = kind; values = vs }) ≡ varint kind ++ values_bytes shape vs = ap (λ (o : Option (List Part)). varint kind ++ fields_bytes o vs) shaped in
    let one : length (varint kind) ≡ 1 = ap length (varint_one kind small) in
    record {
      whole = whole ∙ ap (λ (z : List ℕ). old ++ z) (sym bytes);
      is = λ rest. written_frame kind shape vs rest (omega (arith, small)) shaped forms;
      size = let long = ap length bytes in let sum = length-append (varint kind) (values_bytes shape vs) in omega (arith, long, sum, one, size);
    }

-- frames of numbers alone
pub one_put : (old new : List ℕ) (kind a n : ℕ) → kind < 64 → shape_of kind ≡ Some (Number ∷ []) → a ≡ n → a < 2 ^ 62
    → new ≡ old ++ numbers_bytes (kind ∷ a ∷ []) → IsPut old new (record { kind = kind; values = Num n ∷ [] }) 9
one_put old new kind a n small shaped is bound whole =
    subst (λ (m : ℕ). IsPut old new (record { kind = kind; values = Num m ∷ [] }) 9) is
    (is_put old new kind (Number ∷ []) (Num a ∷ []) 9 small shaped (bound, tt) whole
    (omega (arith, length-append (varint a) [], varint_short a)))

pub two_put : (old new : List ℕ) (kind a b n m : ℕ) → kind < 64 → shape_of kind ≡ Some (Number ∷ Number ∷ []) → a ≡ n → b ≡ m → a < 2 ^ 62 → b < 2 ^ 62
    → new ≡ old ++ numbers_bytes (kind ∷ a ∷ b ∷ []) → IsPut old new (record { kind = kind; values = Num n ∷ Num m ∷ [] }) 17
two_put old new kind a b n m small shaped a_is b_is a_bound b_bound whole =
    subst (λ (z : ℕ). IsPut old new (record { kind = kind; values = Num n ∷ Num z ∷ [] }) 17) b_is
    (subst (λ (z : ℕ). IsPut old new (record { kind = kind; values = Num z ∷ Num b ∷ [] }) 17) a_is
    (is_put old new kind (Number ∷ Number ∷ []) (Num a ∷ Num b ∷ []) 17 small shaped (a_bound, (b_bound, tt)) whole
    (omega (arith, length-append (varint a) (varint b ++ []), length-append (varint b) [], varint_short a, varint_short b))))

pub three_put : (old new : List ℕ) (kind a b c n m k : ℕ) → kind < 64 → shape_of kind ≡ Some (Number ∷ Number ∷ Number ∷ []) → a ≡ n → b ≡ m → c ≡ k → a < 2 ^ 62 → b < 2 ^ 62 → c < 2 ^ 62
    → new ≡ old ++ numbers_bytes (kind ∷ a ∷ b ∷ c ∷ []) → IsPut old new (record { kind = kind; values = Num n ∷ Num m ∷ Num k ∷ [] }) 25
three_put old new kind a b c n m k small shaped a_is b_is c_is a_bound b_bound c_bound whole =
    subst (λ (z : ℕ). IsPut old new (record { kind = kind; values = Num n ∷ Num m ∷ Num z ∷ [] }) 25) c_is
    (subst (λ (z : ℕ). IsPut old new (record { kind = kind; values = Num n ∷ Num z ∷ Num c ∷ [] }) 25) b_is
    (subst (λ (z : ℕ). IsPut old new (record { kind = kind; values = Num z ∷ Num b ∷ Num c ∷ [] }) 25) a_is
    (is_put old new kind (Number ∷ Number ∷ Number ∷ []) (Num a ∷ Num b ∷ Num c ∷ []) 25 small shaped (a_bound, (b_bound, (c_bound, tt))) whole
    (omega (arith, length-append (varint a) (varint b ++ (varint c ++ [])), length-append (varint b) (varint c ++ []), length-append (varint c) [], varint_short a, varint_short b, varint_short c)))))

-- frames of numbers and bytes behind their length
counted_size : (t : List ℕ) → length ((varint (length t) ++ t) ++ []) ≤ 8 + length t
counted_size t = omega (arith, length-append (varint (length t) ++ t) [], length-append (varint (length t)) t, varint_short (length t))

pub counted_put : (old new : List ℕ) (kind : ℕ) (t : List ℕ) → kind < 64 → shape_of kind ≡ Some (Counted ∷ []) → length t < 2 ^ 62
    → new ≡ old ++ (numbers_bytes (kind ∷ length t ∷ []) ++ t) → IsPut old new (record { kind = kind; values = Text t ∷ [] }) (9 + length t)
counted_put old new kind t small shaped bound whole =
    is_put old new kind (Counted ∷ []) (Text t ∷ []) (9 + length t) small shaped (bound, tt)
    (whole ∙ ap (λ (z : List ℕ). old ++ z) (simp (append_assoc, append-nil) refl))
    (omega (arith, counted_size t))

pub one_counted_put : (old new : List ℕ) (kind a n : ℕ) (t : List ℕ) → kind < 64 → shape_of kind ≡ Some (Number ∷ Counted ∷ []) → a ≡ n → a < 2 ^ 62 → length t < 2 ^ 62
    → new ≡ old ++ (numbers_bytes (kind ∷ a ∷ length t ∷ []) ++ t) → IsPut old new (record { kind = kind; values = Num n ∷ Text t ∷ [] }) (17 + length t)
one_counted_put old new kind a n t small shaped a_is a_bound bound whole =
    subst (λ (z : ℕ). IsPut old new (record { kind = kind; values = Num z ∷ Text t ∷ [] }) (17 + length t)) a_is
    (is_put old new kind (Number ∷ Counted ∷ []) (Num a ∷ Text t ∷ []) (17 + length t) small shaped (a_bound, (bound, tt))
    (whole ∙ ap (λ (z : List ℕ). old ++ z) (simp (append_assoc, append-nil) refl))
    (omega (arith, length-append (varint a) ((varint (length t) ++ t) ++ []), varint_short a, counted_size t)))

pub two_counted_put : (old new : List ℕ) (kind a b n m : ℕ) (t : List ℕ) → kind < 64 → shape_of kind ≡ Some (Number ∷ Number ∷ Counted ∷ []) → a ≡ n → b ≡ m → a < 2 ^ 62 → b < 2 ^ 62 → length t < 2 ^ 62
    → new ≡ old ++ (numbers_bytes (kind ∷ a ∷ b ∷ length t ∷ []) ++ t) → IsPut old new (record { kind = kind; values = Num n ∷ Num m ∷ Text t ∷ [] }) (25 + length t)
two_counted_put old new kind a b n m t small shaped a_is b_is a_bound b_bound bound whole =
    subst (λ (z : ℕ). IsPut old new (record { kind = kind; values = Num n ∷ Num z ∷ Text t ∷ [] }) (25 + length t)) b_is
    (subst (λ (z : ℕ). IsPut old new (record { kind = kind; values = Num z ∷ Num b ∷ Text t ∷ [] }) (25 + length t)) a_is
    (is_put old new kind (Number ∷ Number ∷ Counted ∷ []) (Num a ∷ Num b ∷ Text t ∷ []) (25 + length t) small shaped (a_bound, (b_bound, (bound, tt)))
    (whole ∙ ap (λ (z : List ℕ). old ++ z) (simp (append_assoc, append-nil) refl))
    (omega (arith, length-append (varint a) (varint b ++ ((varint (length t) ++ t) ++ [])), length-append (varint b) ((varint (length t) ++ t) ++ []), varint_short a, varint_short b, counted_size t))))

-- a frame with no fields, and one of eight bytes
empty_shape : shape_of 1 ≡ Some []
unfolding shape_of
empty_shape = refl

pub ping_put : (old new : List ℕ) → new ≡ old ++ numbers_bytes (1 ∷ []) → IsPut old new (record { kind = 1; values = [] }) 1
ping_put old new whole = is_put old new 1 [] [] 1 (omega arith) empty_shape tt whole (omega arith)

path_shape : shape_of 27 ≡ Some (Fixed 8 ∷ [])
unfolding shape_of
path_shape = refl

pub path_put : (old new t : List ℕ) → length t ≡ 8 → new ≡ old ++ (numbers_bytes (27 ∷ []) ++ t) → IsPut old new (record { kind = 27; values = Text t ∷ [] }) 9
path_put old new t l whole =
    is_put old new 27 (Fixed 8 ∷ []) (Text t ∷ []) 9 (omega arith) path_shape (l, tt)
    (whole ∙ ap (λ (z : List ℕ). old ++ z) (simp append-nil refl))
    (omega (arith, length-append t [], l))

-- a connection id and its token
id_shape : shape_of 24 ≡ Some (Number ∷ Number ∷ ShortCounted ∷ Fixed 16 ∷ [])
unfolding shape_of
id_shape = refl

pub new_id_put : (old mid new : List ℕ) (sequence prior n m k : ℕ) (id text token : List ℕ) → sequence ≡ n → prior ≡ m → sequence < 2 ^ 62 → prior < 2 ^ 62 → k ≡ length id → text ≡ id → length id ≤ 20 → length token ≡ 16
    → mid ≡ old ++ (numbers_bytes (24 ∷ sequence ∷ prior ∷ k ∷ []) ++ text) → new ≡ mid ++ token
    → IsPut old new (record { kind = 24; values = Num n ∷ Num m ∷ Text id ∷ Text token ∷ [] }) (34 + length id)
new_id_put old mid new sequence prior n m k id text token n_is m_is n_bound m_bound k_is text_is short token_is first second =
    let one : varint k ≡ length id ∷ [] = ap varint k_is ∙ varint_one (length id) (omega (arith, short)) in
    let whole : new ≡ old ++ (varint 24 ++ values_bytes (Number ∷ Number ∷ ShortCounted ∷ Fixed 16 ∷ []) (Num sequence ∷ Num prior ∷ Text id ∷ Text token ∷ [])) =
    second ∙ ap (λ (z : List ℕ). z ++ token) first ∙ rw (one, text_is) (simp (append_assoc, append-nil) refl) in
    subst (λ (z : ℕ). IsPut old new (record { kind = 24; values = Num n ∷ Num z ∷ Text id ∷ Text token ∷ [] }) (34 + length id)) m_is
    (subst (λ (z : ℕ). IsPut old new (record { kind = 24; values = Num z ∷ Num prior ∷ Text id ∷ Text token ∷ [] }) (34 + length id)) n_is
    (is_put old new 24 (Number ∷ Number ∷ ShortCounted ∷ Fixed 16 ∷ []) (Num sequence ∷ Num prior ∷ Text id ∷ Text token ∷ []) (34 + length id) (omega arith) id_shape
    (n_bound, (m_bound, (omega (arith, short), (token_is, tt)))) whole
    (omega (
      arith,
      length-append (varint sequence) (varint prior ++ ((length id ∷ id) ++ (token ++ []))),
      length-append (varint prior) ((length id ∷ id) ++ (token ++ [])),
      length-append (length id ∷ id) (token ++ []),
      length-append token [],
      varint_short sequence,
      varint_short prior,
      token_is,
    ))))

-- padding in front of frames
padding_shape : shape_of 0 ≡ Some []
unfolding shape_of
padding_shape = refl

one_padding : (rest : List ℕ) → IsQuicFrame (0 ∷ rest) (record { kind = 0; values = [] }) rest
one_padding rest = record { fields = rest; shape = []; kind = (0 ∷ [], refl, one (omega arith) refl); shaped = padding_shape; values = refl }

pub padding_frames : (n : ℕ) (rest : List ℕ) (fs : List QuicFrame) → AreQuicFrames rest fs → AreQuicFrames (replicate n 0 ++ rest) (replicate n (record { kind = 0; values = [] }) ++ fs)
padding_frames zero rest fs are = are
padding_frames (suc n) rest fs are = (replicate n 0 ++ rest, one_padding (replicate n 0 ++ rest), padding_frames n rest fs are)
