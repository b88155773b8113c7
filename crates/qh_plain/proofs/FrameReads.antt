-- Steps of reading frames.
use Rattle.std.proofs.Common.{◌≡◌, ℕ, ◌+◌, ◌<◌, ◌≤◌, List, [], ◌∷◌, ◌++◌, length, drop, get_or, refl, sym, ap, ◌∙◌, arith, subst, append_assoc, append-nil, length-append, drop-cons, add-one, ◌==◌, true, false}
use Rattle.std.specs.Prelude.{map}
use Rattle.std.proofs.lemmas.Bool.{eqb-true}
use Rattle.std.proofs.lemmas.List.{drop_all}
use Rattle.qh_plain.specs.declared.packets.value.Part.{Part as KeptPart}
use Rattle.qh_plain.specs.Packets.{part_of}
use Rattle.qh_spec.specs.QuicFrames.{Part, Number, Fixed, Counted, ShortCounted, Left, Ranges, Value, Num, Text, Nums, QuicFrame, IsNumber, AreNumbers, IsValue, AreValues, IsQuicFrame, AreQuicFrames}
use Rattle.qh_spec.proofs.Varints.{no_empty_varint}
use Rattle.qh_spec.specs.Varint.{IsVarint}
use Rattle.qh_spec.proofs.FrameLaws.{quic_frame_agrees}
use Rattle.qh_plain.proofs.ValueLaws.{value_agree}

-- these values were read from the front of the bytes; fields of these shapes and the rest are left
pub record ValuesRead (all left : List Part) (bytes rest : List ℕ) (vs : List Value) : Type 0 where
  pub into : (more : List Value) (x : List ℕ) → AreValues left rest more x → AreValues all bytes (vs ++ more) x
  pub back : (ws : List Value) (x : List ℕ) → AreValues all bytes ws x → (later : List Value) × (ws ≡ vs ++ later) × AreValues left rest later x

one_later : (p : Part) (left : List Part) (rest after : List ℕ) (v : Value) (vs ws later : List Value) (x : List ℕ) → IsValue p rest v after → ws ≡ vs ++ later → AreValues (p ∷ left) rest later x
    → (more : List Value) × (ws ≡ (vs ++ v ∷ []) ++ more) × AreValues left after more x
one_later p left rest after v vs ws [] x is e h = absurd h
one_later p left rest after v vs ws (w ∷ more) x is e h =
    let r = value_agree p rest w v h.0 after h.1 is in
    (more, e ∙ ap (λ (z : Value). vs ++ z ∷ more) r.0 ∙ sym (append_assoc vs (v ∷ []) more), subst (λ (z : List ℕ). AreValues left z more x) r.1 h.2)

pub one_value_more : (all : List Part) (p : Part) (left : List Part) (bytes rest after : List ℕ) (v : Value) (vs : List Value) → IsValue p rest v after
    → ValuesRead all (p ∷ left) bytes rest vs → ValuesRead all left bytes after (vs ++ v ∷ [])
one_value_more all p left bytes rest after v vs is r = record {
  into = λ more x h. subst (λ (z : List Value). AreValues all bytes z x) (sym (append_assoc vs (v ∷ []) more)) (r.into (v ∷ more) x (after, is, h));
  back = λ ws x h. let b = r.back ws x h in one_later p left rest after v vs ws b.0 x is b.1 b.2;
}

pub values_found : (all : List Part) (bytes rest : List ℕ) (vs : List Value) → ValuesRead all [] bytes rest vs → AreValues all bytes vs rest
values_found all bytes rest vs r = subst (λ (z : List Value). AreValues all bytes z rest) (append-nil vs) (r.into [] rest refl)

not_here : (p : Part) (left : List Part) (rest : List ℕ) → ((v : Value) (x : List ℕ) → IsValue p rest v x → ⊥) → (later : List Value) (x : List ℕ) → AreValues (p ∷ left) rest later x → ⊥
not_here p left rest none [] x h = h
not_here p left rest none (v ∷ later) x h = none v h.0 h.1

-- a number takes a byte
some_front : (front bytes rest : List ℕ) (n : ℕ) → bytes ≡ front ++ rest → IsVarint front n → length rest < length bytes
some_front [] bytes rest n e is = absurd (no_empty_varint n is)
some_front (x ∷ front) bytes rest n e is = let sizes = ap length e in omega (arith, length-append (x ∷ front) rest)

number_shorter : (bytes : List ℕ) (n : ℕ) (rest : List ℕ) → IsNumber bytes n rest → length rest < length bytes
number_shorter bytes n rest p = some_front p.0 bytes rest n p.1 p.2

numbers_shorter : (bytes ns rest : List ℕ) → AreNumbers bytes ns rest → length rest ≤ length bytes
numbers_shorter bytes [] rest p = let sizes = ap length p in omega arith
numbers_shorter bytes (n ∷ ns) rest p =
    let first = number_shorter bytes n p.0 p.1 in
    let more = numbers_shorter p.0 ns rest p.2 in
    omega arith

value_shorter : (part : Part) (bytes : List ℕ) (v : Value) (rest : List ℕ) → IsValue part bytes v rest → length rest ≤ length bytes
value_shorter Number bytes (Num n) rest p = let h = number_shorter bytes n rest p in omega arith
value_shorter Number bytes (Text t) rest p = absurd p
value_shorter Number bytes (Nums ns) rest p = absurd p
value_shorter (Fixed k) bytes (Text t) rest p = let sizes = ap length p.0 in omega (arith, length-append t rest)
value_shorter (Fixed k) bytes (Num n) rest p = absurd p
value_shorter (Fixed k) bytes (Nums ns) rest p = absurd p
value_shorter Counted bytes (Text t) rest p =
    let h = number_shorter bytes (length t) p.0 p.1 in
    let sizes = ap length p.2 in
    omega (arith, length-append t rest)
value_shorter Counted bytes (Num n) rest p = absurd p
value_shorter Counted bytes (Nums ns) rest p = absurd p
value_shorter ShortCounted bytes (Text t) rest p = let sizes = ap length p.0 in omega (arith, length-append t rest)
value_shorter ShortCounted bytes (Num n) rest p = absurd p
value_shorter ShortCounted bytes (Nums ns) rest p = absurd p
value_shorter Left bytes (Text t) rest p = let sizes = ap length p.1 in omega arith
value_shorter Left bytes (Num n) rest p = absurd p
value_shorter Left bytes (Nums ns) rest p = absurd p
value_shorter Ranges bytes (Nums ns) rest p =
    let h = number_shorter bytes p.0 p.1 p.2 in
    let more = numbers_shorter p.1 ns rest p.3 in
    omega arith
value_shorter Ranges bytes (Num n) rest p = absurd p
value_shorter Ranges bytes (Text t) rest p = absurd p

values_shorter : (parts : List Part) (bytes : List ℕ) (vs : List Value) (rest : List ℕ) → AreValues parts bytes vs rest → length rest ≤ length bytes
values_shorter [] bytes [] rest p = let sizes = ap length p in omega arith
values_shorter [] bytes (v ∷ vs) rest p = absurd p
values_shorter (part ∷ parts) bytes [] rest p = absurd p
values_shorter (part ∷ parts) bytes (v ∷ vs) rest p =
    let first = value_shorter part bytes v p.0 p.1 in
    let more = values_shorter parts p.0 vs rest p.2 in
    omega arith

pub frame_shorter : (bytes : List ℕ) (f : QuicFrame) (rest : List ℕ) → IsQuicFrame bytes f rest → length rest < length bytes
frame_shorter bytes f rest p =
    let first = number_shorter bytes f.kind p.fields p.kind in
    let more = values_shorter p.shape p.fields f.values rest p.values in
    omega arith

pub no_kind : (bytes : List ℕ) → ((n : ℕ) (rest : List ℕ) → IsNumber bytes n rest → ⊥) → (f : QuicFrame) (rest : List ℕ) → IsQuicFrame bytes f rest → ⊥
no_kind bytes none f rest p = none f.kind p.fields p.kind

-- these frames were read from the front of the bytes, and the rest is left
pub record FramesRead (bytes rest : List ℕ) (fs : List QuicFrame) : Type 0 where
  pub into : (more : List QuicFrame) → AreQuicFrames rest more → AreQuicFrames bytes (fs ++ more)
  pub back : (gs : List QuicFrame) → AreQuicFrames bytes gs → (later : List QuicFrame) × (gs ≡ fs ++ later) × AreQuicFrames rest later

one_frame_later : (rest after : List ℕ) (f : QuicFrame) (fs gs later : List QuicFrame) → 0 < length rest → IsQuicFrame rest f after → gs ≡ fs ++ later → AreQuicFrames rest later
    → (more : List QuicFrame) × (gs ≡ (fs ++ f ∷ []) ++ more) × AreQuicFrames after more
one_frame_later rest after f fs gs [] some is e p = let sizes = ap length p in absurd (omega arith)
one_frame_later rest after f fs gs (g ∷ more) some is e p =
    let r = quic_frame_agrees rest g f p.0 after p.1 is in
    (more, e ∙ ap (λ (z : QuicFrame). fs ++ z ∷ more) r.0 ∙ sym (append_assoc fs (f ∷ []) more), subst (λ (z : List ℕ). AreQuicFrames z more) r.1 p.2)

pub one_frame_more : (bytes rest after : List ℕ) (f : QuicFrame) (fs : List QuicFrame) → 0 < length rest → IsQuicFrame rest f after → FramesRead bytes rest fs → FramesRead bytes after (fs ++ f ∷ [])
one_frame_more bytes rest after f fs some is r = record {
  into = λ more p. subst (λ (z : List QuicFrame). AreQuicFrames bytes z) (sym (append_assoc fs (f ∷ []) more)) (r.into (f ∷ more) (after, is, p));
  back = λ gs p. let b = r.back gs p in one_frame_later rest after f fs gs b.0 some is b.1 b.2;
}

nothing : (rest : List ℕ) → length rest ≡ 0 → rest ≡ []
nothing [] e = refl
nothing (x ∷ rest) e = absurd (omega arith)

pub frames_found : (bytes rest : List ℕ) (fs : List QuicFrame) → length rest ≡ 0 → FramesRead bytes rest fs → AreQuicFrames bytes fs
frames_found bytes rest fs none r = subst (λ (z : List QuicFrame). AreQuicFrames bytes z) (append-nil fs) (r.into [] (nothing rest none))

no_frame_here : (rest : List ℕ) → 0 < length rest → ((f : QuicFrame) (x : List ℕ) → IsQuicFrame rest f x → ⊥) → (later : List QuicFrame) → AreQuicFrames rest later → ⊥
no_frame_here rest some none [] p = let sizes = ap length p in absurd (omega arith)
no_frame_here rest some none (g ∷ later) p = none g p.0 p.1

pub no_frames : (bytes rest : List ℕ) (fs : List QuicFrame) → 0 < length rest → FramesRead bytes rest fs → ((f : QuicFrame) (x : List ℕ) → IsQuicFrame rest f x → ⊥)
    → (gs : List QuicFrame) → AreQuicFrames bytes gs → ⊥
no_frames bytes rest fs some r none gs p = let b = r.back gs p in no_frame_here rest some none b.0 b.2

-- what the test for an empty slice tells
pub some_of : (xs : List ℕ) → false ≡ (length xs == 0) → 0 < length xs
some_of [] e = cc
some_of (x ∷ xs) e = omega arith

pub none_of : (xs : List ℕ) → true ≡ (length xs == 0) → length xs ≡ 0
none_of xs e = eqb-true (length xs) 0 (sym e)

-- the rest of the shapes begins with the next
pub next_part : (shape : List KeptPart) (i : ℕ) (d : KeptPart) → i < length shape → map part_of (drop i shape) ≡ part_of (get_or shape i d) ∷ map part_of (drop (i + 1) shape)
next_part shape i d h = rw (add-one, drop-cons shape i d)

pub no_parts_left : (shape : List KeptPart) (i : ℕ) → length shape ≤ i → map part_of (drop i shape) ≡ []
no_parts_left shape i h = rw drop_all

pub next_value : (shape : List KeptPart) (i : ℕ) (d : KeptPart) (bytes rest after : List ℕ) (v : Value) (vs : List Value) → i < length shape
    → IsValue (part_of (get_or shape i d)) rest v after → ValuesRead (map part_of shape) (map part_of (drop i shape)) bytes rest vs
    → ValuesRead (map part_of shape) (map part_of (drop (i + 1) shape)) bytes after (vs ++ v ∷ [])
next_value shape i d bytes rest after v vs h is r =
    one_value_more (map part_of shape) (part_of (get_or shape i d)) (map part_of (drop (i + 1) shape)) bytes rest after v vs is
    (subst (λ (z : List Part). ValuesRead (map part_of shape) z bytes rest vs) (next_part shape i d h) r)
