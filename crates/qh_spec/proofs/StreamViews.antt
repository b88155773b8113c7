-- The STREAM frames of the grammar of all frames are those of their own definition.
use Rattle.std.proofs.Common.{◌≡◌, ℕ, ◌+◌, ◌-◌, ◌/◌, ◌<◌, zero, suc, Bool, true, false, List, [], ◌∷◌, ◌++◌, length, Option, Some, inl, inr, refl, sym, ap, ◌∙◌, arith, subst, append-nil}
use Rattle.std.specs.Prelude.{MatchBool, ◌==◌, if◌then◌else◌}
use Rattle.std.proofs.lemmas.Bool.{eq-eqb}
use Rattle.std.proofs.lemmas.Bool.Decides.{eqb_tells}
use Rattle.qh_spec.specs.FrameViews.{stream_of, stream_values}
use Rattle.qh_spec.specs.QuicFrame.{StreamFrame, IsStreamFrame, has_bit}
use Rattle.qh_spec.specs.QuicFrames.{Part, Number, Counted, Left, Value, Num, Text, Nums, QuicFrame, stream_shape, shape_of, AreValues, IsQuicFrame}
use Rattle.qh_spec.specs.Varint.{IsVarint}

shape_from_eight : (j : ℕ) → j < 8 → shape_of (8 + j) ≡ Some (stream_shape (has_bit 4 (8 + j)) (has_bit 2 (8 + j)))
unfolding shape_of
shape_from_eight zero h = refl
shape_from_eight (suc zero) h = refl
shape_from_eight (suc (suc zero)) h = refl
shape_from_eight (suc (suc (suc zero))) h = refl
shape_from_eight (suc (suc (suc (suc zero)))) h = refl
shape_from_eight (suc (suc (suc (suc (suc zero))))) h = refl
shape_from_eight (suc (suc (suc (suc (suc (suc zero)))))) h = refl
shape_from_eight (suc (suc (suc (suc (suc (suc (suc zero))))))) h = refl
shape_from_eight (suc (suc (suc (suc (suc (suc (suc (suc j)))))))) h = absurd (omega arith)

stream_shape_is : (k : ℕ) → k / 8 ≡ 1 → shape_of k ≡ Some (stream_shape (has_bit 4 k) (has_bit 2 k))
stream_shape_is k e =
    let is : 8 + (k - 8) ≡ k = omega (arith, e) in
    subst (λ (z : ℕ). shape_of z ≡ Some (stream_shape (has_bit 4 z) (has_bit 2 z))) is (shape_from_eight (k - 8) (omega (arith, e)))

-- the fields of a STREAM frame in bytes, as its own definition has them
record StreamParts (with_offset with_length : Bool) (fields : List ℕ) (s : StreamFrame) (rest : List ℕ) : Type 0 where
  id_bytes : List ℕ
  offset_bytes : List ℕ
  length_bytes : List ℕ
  whole : fields ≡ id_bytes ++ (offset_bytes ++ (length_bytes ++ (s.payload ++ rest)))
  id_is : IsVarint id_bytes s.id
  offset_is : MatchBool with_offset (IsVarint offset_bytes s.offset) ((offset_bytes ≡ []) × (s.offset ≡ 0))
  length_is : MatchBool with_length (IsVarint length_bytes (length s.payload)) ((length_bytes ≡ []) × (rest ≡ []))

-- a first field that is a number
record NumberFirst (parts : List Part) (bytes : List ℕ) (vs : List Value) (rest : List ℕ) : Type 0 where
  n : ℕ
  more : List Value
  front : List ℕ
  mid : List ℕ
  is : vs ≡ Num n ∷ more
  whole : bytes ≡ front ++ mid
  number : IsVarint front n
  others : AreValues parts mid more rest

read_number : (parts : List Part) (bytes : List ℕ) (vs : List Value) (rest : List ℕ) → AreValues (Number ∷ parts) bytes vs rest → NumberFirst parts bytes vs rest
read_number parts bytes [] rest h = absurd h
read_number parts bytes (Text t ∷ vs) rest h = absurd h.1
read_number parts bytes (Nums ns ∷ vs) rest h = absurd h.1
read_number parts bytes (Num n ∷ vs) rest h =
    let number = h.1 in
    record { n = n; more = vs; front = number.0; mid = h.0; is = refl; whole = number.1; number = number.2; others = h.2 }

-- the last field
record TextLast (with_length : Bool) (bytes : List ℕ) (vs : List Value) (rest : List ℕ) : Type 0 where
  text : List ℕ
  length_bytes : List ℕ
  is : vs ≡ Text text ∷ []
  whole : bytes ≡ length_bytes ++ (text ++ rest)
  length_is : MatchBool with_length (IsVarint length_bytes (length text)) ((length_bytes ≡ []) × (rest ≡ []))

abbrev last_shape : Bool → List Part
last_shape with_length = if with_length then Counted ∷ [] else Left ∷ []

read_last : (with_length : Bool) (bytes : List ℕ) (vs : List Value) (rest : List ℕ) → AreValues (last_shape with_length) bytes vs rest → TextLast with_length bytes vs rest
read_last true bytes [] rest h = absurd h
read_last true bytes (Num n ∷ vs) rest h = absurd h.1
read_last true bytes (Nums ns ∷ vs) rest h = absurd h.1
read_last true bytes (Text t ∷ v ∷ vs) rest h = absurd h.2
read_last true bytes (Text t ∷ []) rest h =
    let value = h.1 in
    let count = value.1 in
    record {
      text = t;
      length_bytes = count.0;
      is = refl;
      whole = count.1 ∙ ap (λ (z : List ℕ). count.0 ++ z) (value.2 ∙ ap (λ (z : List ℕ). t ++ z) h.2);
      length_is = count.2;
    }
read_last false bytes [] rest h = absurd h
read_last false bytes (Num n ∷ vs) rest h = absurd h.1
read_last false bytes (Nums ns ∷ vs) rest h = absurd h.1
read_last false bytes (Text t ∷ v ∷ vs) rest h = absurd h.2
read_last false bytes (Text t ∷ []) rest h =
    let value = h.1 in
    let none : rest ≡ [] = sym h.2 ∙ value.1 in
    record {
      text = t;
      length_bytes = [];
      is = refl;
      whole = value.0 ∙ sym (append-nil t) ∙ ap (λ (z : List ℕ). t ++ z) (sym none);
      length_is = (refl, none);
    }

read_parts : (with_offset with_length fin : Bool) (fields rest : List ℕ) (vs : List Value) (s : StreamFrame) → AreValues (stream_shape with_offset with_length) fields vs rest
    → stream_values fin vs ≡ Some s → StreamParts with_offset with_length fields s rest × (s.fin ≡ fin)
read_parts true with_length fin fields rest vs s h e =
    let a = read_number (Number ∷ last_shape with_length) fields vs rest h in
    let b = read_number (last_shape with_length) a.mid a.more rest a.others in
    let c = read_last with_length b.mid b.more rest b.others in
    let all : vs ≡ Num a.n ∷ Num b.n ∷ Text c.text ∷ [] = a.is ∙ ap (λ (z : List Value). Num a.n ∷ z) (b.is ∙ ap (λ (z : List Value). Num b.n ∷ z) c.is) in
    let found : StreamFrame = record { id = a.n; offset = b.n; payload = c.text; fin = fin } in
    let some : ◌≡◌ {A = Option StreamFrame} (Some found) (Some s) = sym (ap (stream_values fin) all) ∙ e in
    let same : found ≡ s = cc in
    subst (λ (z : StreamFrame). StreamParts true with_length fields z rest × (z.fin ≡ fin)) same (
      record {
        id_bytes = a.front;
        offset_bytes = b.front;
        length_bytes = c.length_bytes;
        whole = a.whole ∙ ap (λ (z : List ℕ). a.front ++ z) (b.whole ∙ ap (λ (z : List ℕ). b.front ++ z) c.whole);
        id_is = a.number;
        offset_is = b.number;
        length_is = c.length_is;
      },
      refl,
    )
read_parts false with_length fin fields rest vs s h e =
    let a = read_number (last_shape with_length) fields vs rest h in
    let c = read_last with_length a.mid a.more rest a.others in
    let all : vs ≡ Num a.n ∷ Text c.text ∷ [] = a.is ∙ ap (λ (z : List Value). Num a.n ∷ z) c.is in
    let found : StreamFrame = record { id = a.n; offset = 0; payload = c.text; fin = fin } in
    let some : ◌≡◌ {A = Option StreamFrame} (Some found) (Some s) = sym (ap (stream_values fin) all) ∙ e in
    let same : found ≡ s = cc in
    subst (λ (z : StreamFrame). StreamParts false with_length fields z rest × (z.fin ≡ fin)) same (
      record {
        id_bytes = a.front;
        offset_bytes = [];
        length_bytes = c.length_bytes;
        whole = a.whole ∙ ap (λ (z : List ℕ). a.front ++ z) c.whole;
        id_is = a.number;
        offset_is = (refl, refl);
        length_is = c.length_is;
      },
      refl,
    )

-- each STREAM frame of the grammar is one of the frame's own definition
pub stream_there : (bytes rest : List ℕ) (f : QuicFrame) (s : StreamFrame) → IsQuicFrame bytes f rest → stream_of f ≡ Some s → IsStreamFrame bytes s rest
stream_there bytes rest f s p e =
    elim (eqb_tells (f.kind / 8) 1) [
      | inr other ↦ let t = other.0 in let none = rw t at e in cc
      | inl found_stream ↦
          let t = found_stream.0 in
          let values : stream_values (has_bit 1 f.kind) f.values ≡ Some s = rw t at e in
          let shapes : ◌≡◌ {A = Option (List Part)} (Some p.shape) (Some (stream_shape (has_bit 4 f.kind) (has_bit 2 f.kind))) = sym p.shaped ∙ stream_shape_is f.kind found_stream.1 in
          let shape : p.shape ≡ stream_shape (has_bit 4 f.kind) (has_bit 2 f.kind) = cc in
          let mine = subst (λ (z : List Part). AreValues z p.fields f.values rest) shape p.values in
          let parts = read_parts (has_bit 4 f.kind) (has_bit 2 f.kind) (has_bit 1 f.kind) p.fields rest f.values s mine values in
          let found = parts.0 in
          let number = p.kind in
          record {
            kind = f.kind;
            kind_bytes = number.0;
            id_bytes = found.id_bytes;
            offset_bytes = found.offset_bytes;
            length_bytes = found.length_bytes;
            whole = number.1 ∙ ap (λ (z : List ℕ). number.0 ++ z) found.whole;
            kind_is = number.2;
            is_stream = found_stream.1;
            id_is = found.id_is;
            offset_is = found.offset_is;
            length_is = found.length_is;
            fin_is = parts.1;
          }
    ]

write_last : (with_length : Bool) (bytes length_bytes t rest : List ℕ) → bytes ≡ length_bytes ++ (t ++ rest)
    → MatchBool with_length (IsVarint length_bytes (length t)) ((length_bytes ≡ []) × (rest ≡ [])) → AreValues (last_shape with_length) bytes (Text t ∷ []) rest
write_last true bytes length_bytes t rest e m = (rest, (t ++ rest, (length_bytes, e, m), refl), refl)
write_last false bytes length_bytes t rest e m =
    (rest, (e ∙ ap (λ (z : List ℕ). z ++ (t ++ rest)) m.0 ∙ ap (λ (z : List ℕ). t ++ z) m.1 ∙ append-nil t, m.1), refl)

write_parts : (with_offset with_length fin : Bool) (fields rest : List ℕ) (s : StreamFrame) → StreamParts with_offset with_length fields s rest → s.fin ≡ fin
    → (vs : List Value) × AreValues (stream_shape with_offset with_length) fields vs rest × (stream_values fin vs ≡ Some s)
write_parts true with_length fin fields rest s p e = (
  Num s.id ∷ Num s.offset ∷ Text s.payload ∷ [],
  (
    p.offset_bytes ++ (p.length_bytes ++ (s.payload ++ rest)),
    (p.id_bytes, p.whole, p.id_is),
    (
      p.length_bytes ++ (s.payload ++ rest),
      (p.offset_bytes, refl, p.offset_is),
      write_last with_length (p.length_bytes ++ (s.payload ++ rest)) p.length_bytes s.payload rest refl p.length_is,
    ),
  ),
  ap (λ (z : Bool). Some (record { id = s.id; offset = s.offset; payload = s.payload; fin = z })) (sym e),
)
write_parts false with_length fin fields rest s p e =
    let none = p.offset_is in (
      Num s.id ∷ Text s.payload ∷ [],
      (
        p.length_bytes ++ (s.payload ++ rest),
        (p.id_bytes, p.whole ∙ ap (λ (z : List ℕ). p.id_bytes ++ (z ++ (p.length_bytes ++ (s.payload ++ rest)))) none.0, p.id_is),
        write_last with_length (p.length_bytes ++ (s.payload ++ rest)) p.length_bytes s.payload rest refl p.length_is,
      ),
      ap (λ (z : Bool). Some (record { id = s.id; offset = 0; payload = s.payload; fin = z })) (sym e)
          ∙ ap (λ (z : ℕ). Some (record { id = s.id; offset = z; payload = s.payload; fin = s.fin })) (sym none.1),
    )

-- and each of the frame's own definition is one of the grammar
pub stream_back : (bytes rest : List ℕ) (s : StreamFrame) → IsStreamFrame bytes s rest → (f : QuicFrame) × IsQuicFrame bytes f rest × (stream_of f ≡ Some s)
stream_back bytes rest s q =
    let fields : List ℕ = q.id_bytes ++ (q.offset_bytes ++ (q.length_bytes ++ (s.payload ++ rest))) in
    let parts : StreamParts (has_bit 4 q.kind) (has_bit 2 q.kind) fields s rest = record {
      id_bytes = q.id_bytes;
      offset_bytes = q.offset_bytes;
      length_bytes = q.length_bytes;
      whole = refl;
      id_is = q.id_is;
      offset_is = q.offset_is;
      length_is = q.length_is;
    } in
    let w = write_parts (has_bit 4 q.kind) (has_bit 2 q.kind) (has_bit 1 q.kind) fields rest s parts q.fin_is in
    let t : (q.kind / 8 == 1) ≡ true = eq-eqb (q.kind / 8) 1 q.is_stream in (
      record { kind = q.kind; values = w.0 },
      record {
        fields = fields;
        shape = stream_shape (has_bit 4 q.kind) (has_bit 2 q.kind);
        kind = (q.kind_bytes, q.whole, q.kind_is);
        shaped = stream_shape_is q.kind q.is_stream;
        values = w.1;
      },
      rw t w.2,
    )
