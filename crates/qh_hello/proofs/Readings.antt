-- The parts of a hello are read from the front.
use Rattle.std.proofs.Common.{◌≡◌, ℕ, ◌<◌, List, [], ◌∷◌, ◌++◌, length, get_or, drop, refl, sym, ap, ◌∙◌, arith, subst, append-nil, length-append}
use Rattle.qh_hello.specs.Parts.{IsCounted, IsSplit}
use Rattle.qh_spec.proofs.Cuts.{halves, varints_agree}
use Rattle.qh_spec.proofs.HelloDecided.{no_hello_here}
use Rattle.qh_spec.proofs.Varints.{no_empty_varint}
use Rattle.qh_spec.specs.Hello.{Parameter, IsParameter, AreParameters, Hello, IsHelloOf, hello_byte}
use Rattle.qh_spec.specs.QuicFrames.{IsNumber}
use Rattle.qh_spec.specs.Varint.{IsVarint}
use Rattle.qh_spec.specs.declared.sides.Side.{Side}

-- ---- bytes behind their length

pub counted_from : (bytes front value rest : List ℕ) → bytes ≡ front ++ (value ++ rest) → IsVarint front (length value) → IsCounted bytes value rest
counted_from bytes front value rest whole is = (value ++ rest, (front, whole, is), refl)

pub counted_whole : (bytes value rest : List ℕ) → (c : IsCounted bytes value rest) → bytes ≡ c.1.0 ++ (value ++ rest)
counted_whole bytes value rest c = c.1.1 ∙ ap (λ (z : List ℕ). c.1.0 ++ z) c.2

pub counted_agree : (bytes v x w y : List ℕ) → IsCounted bytes v x → IsCounted bytes w y → (v ≡ w) × (x ≡ y)
counted_agree bytes v x w y c d =
    let r = varints_agree c.1.0 (v ++ x) d.1.0 (w ++ y) (length v) (length w) c.1.2 d.1.2 (sym (counted_whole bytes v x c) ∙ counted_whole bytes w y d) in
    halves v x w y r.0 r.1

-- ---- parameters

pub parameter_here : (bytes mid value rest : List ℕ) (id : ℕ) → IsNumber bytes id mid → IsCounted mid value rest → IsParameter bytes (record { id = id; value = value }) rest
parameter_here bytes mid value rest id i c = record {
  id_bytes = i.0;
  length_bytes = c.1.0;
  whole = i.1 ∙ ap (λ (z : List ℕ). i.0 ++ z) (counted_whole mid value rest c);
  id_is = i.2;
  length_is = c.1.2;
}

some_byte : (bytes : List ℕ) (n : ℕ) → IsVarint bytes n → 0 < length bytes
some_byte [] n v = absurd (no_empty_varint n v)
some_byte (b ∷ bytes) n v = omega arith

pub parameter_shorter : (bytes mid value rest : List ℕ) (id : ℕ) → IsNumber bytes id mid → IsCounted mid value rest → length rest < length bytes
parameter_shorter bytes mid value rest id i c =
    let a = ap length i.1 in
    let b = length-append i.0 mid in
    let d = ap length (counted_whole mid value rest c) in
    let e = length-append c.1.0 (value ++ rest) in
    let f = length-append value rest in
    let some = some_byte i.0 id i.2 in
    omega (arith, a, b, d, e, f, some)

pub no_id : (bytes : List ℕ) → ((n : ℕ) (rest : List ℕ) → IsNumber bytes n rest → ⊥) → (p : Parameter) (rest : List ℕ) → IsParameter bytes p rest → ⊥
no_id bytes never p rest i = never p.id (i.length_bytes ++ (p.value ++ rest)) (i.id_bytes, i.whole, i.id_is)

pub no_value : (bytes mid : List ℕ) (id : ℕ) → IsNumber bytes id mid → ((value rest : List ℕ) → IsCounted mid value rest → ⊥) → (p : Parameter) (rest : List ℕ) → IsParameter bytes p rest → ⊥
no_value bytes mid id i never p rest j =
    let r = varints_agree i.0 mid j.id_bytes (j.length_bytes ++ (p.value ++ rest)) id p.id i.2 j.id_is (sym i.1 ∙ j.whole) in
    never p.value rest (counted_from mid j.length_bytes p.value rest r.1 j.length_is)

-- ---- a hello

-- what stands behind the first byte of a hello
pub record HasParts (first : ℕ) (rest : List ℕ) (sender : Side) (h : Hello) : Type 0 where
  pub first_is : first ≡ hello_byte sender
  pub parameters_length : List ℕ
  pub parameter_bytes : List ℕ
  pub name : IsCounted rest h.server_name (parameters_length ++ parameter_bytes)
  pub counted : IsCounted (parameters_length ++ parameter_bytes) parameter_bytes []
  pub parameters : AreParameters parameter_bytes h.parameters

pub parts_there : (first : ℕ) (rest : List ℕ) (sender : Side) (h : Hello) → IsHelloOf sender (first ∷ rest) h → HasParts first rest sender h
parts_there first rest sender h a =
    let i = a.0 in
    let same : first ≡ hello_byte h.sender = ap (λ (z : List ℕ). get_or z 0 0) i.whole in
    record {
      first_is = same ∙ ap hello_byte a.1;
      parameters_length = i.parameters_length;
      parameter_bytes = i.parameter_bytes;
      name = counted_from rest i.name_length h.server_name (i.parameters_length ++ i.parameter_bytes) (ap (λ (z : List ℕ). drop 1 z) i.whole) i.name_is;
      counted = counted_from (i.parameters_length ++ i.parameter_bytes) i.parameters_length i.parameter_bytes [] (ap (λ (z : List ℕ). i.parameters_length ++ z) (sym (append-nil i.parameter_bytes))) i.length_is;
      parameters = i.parameters;
    }

pub split_here : (sender : Side) (bytes rest name mid values : List ℕ) (ps : List Parameter) → bytes ≡ hello_byte sender ∷ rest → IsCounted rest name mid → IsCounted mid values [] → AreParameters values ps
    → (h : Hello) × IsSplit sender bytes name values h
split_here sender bytes rest name mid values ps whole c d are =
    let tail : mid ≡ d.1.0 ++ values = counted_whole mid values [] d ∙ ap (λ (z : List ℕ). d.1.0 ++ z) (append-nil values) in
    let behind : rest ≡ c.1.0 ++ (name ++ (d.1.0 ++ values)) = counted_whole rest name mid c ∙ ap (λ (z : List ℕ). c.1.0 ++ (name ++ z)) tail in (
      record { sender = sender; server_name = name; parameters = ps },
      record {
        is = (
          record {
            name_length = c.1.0;
            parameters_length = d.1.0;
            parameter_bytes = values;
            whole = whole ∙ ap (λ (z : List ℕ). hello_byte sender ∷ z) behind;
            name_is = c.1.2;
            length_is = d.1.2;
            parameters = are;
          },
          refl,
        );
        name_is = refl;
        parameters = are;
      },
    )

pub no_bytes : (sender : Side) (bytes : List ℕ) → length bytes ≡ 0 → (h : Hello) → IsHelloOf sender bytes h → ⊥
no_bytes sender [] e h i = no_hello_here sender (h, i)
no_bytes sender (b ∷ bytes) e h i = omega (arith, e)

pub other_byte : (sender : Side) (first : ℕ) (rest : List ℕ) → (first ≡ hello_byte sender → ⊥) → (h : Hello) → IsHelloOf sender (first ∷ rest) h → ⊥
other_byte sender first rest other h i = other (parts_there first rest sender h i).first_is

pub no_name : (sender : Side) (first : ℕ) (rest : List ℕ) → ((value more : List ℕ) → IsCounted rest value more → ⊥) → (h : Hello) → IsHelloOf sender (first ∷ rest) h → ⊥
no_name sender first rest never h i =
    let p = parts_there first rest sender h i in
    never h.server_name (p.parameters_length ++ p.parameter_bytes) p.name

pub no_values : (sender : Side) (first : ℕ) (rest name mid : List ℕ) → IsCounted rest name mid → ((value more : List ℕ) → IsCounted mid value more → ⊥) → (h : Hello) → IsHelloOf sender (first ∷ rest) h → ⊥
no_values sender first rest name mid c never h i =
    let p = parts_there first rest sender h i in
    let r = counted_agree rest h.server_name (p.parameters_length ++ p.parameter_bytes) name mid p.name c in
    never p.parameter_bytes [] (subst (λ (z : List ℕ). IsCounted z p.parameter_bytes []) r.1 p.counted)

-- the bytes of the parameters are those that were counted, and nothing stands behind them
pub values_are : (sender : Side) (first : ℕ) (rest name mid values more : List ℕ) → IsCounted rest name mid → IsCounted mid values more → (h : Hello) → IsHelloOf sender (first ∷ rest) h
    → AreParameters values h.parameters × (more ≡ [])
values_are sender first rest name mid values more c d h i =
    let p = parts_there first rest sender h i in
    let r = counted_agree rest h.server_name (p.parameters_length ++ p.parameter_bytes) name mid p.name c in
    let s = counted_agree mid p.parameter_bytes [] values more (subst (λ (z : List ℕ). IsCounted z p.parameter_bytes []) r.1 p.counted) d in
    (subst (λ (z : List ℕ). AreParameters z h.parameters) s.0 p.parameters, sym s.1)

pub bytes_left : (sender : Side) (first : ℕ) (rest name mid values more : List ℕ) → IsCounted rest name mid → IsCounted mid values more → (more ≡ [] → ⊥) → (h : Hello) → IsHelloOf sender (first ∷ rest) h → ⊥
bytes_left sender first rest name mid values more c d some h i = some (values_are sender first rest name mid values more c d h i).1

pub no_parameters : (sender : Side) (first : ℕ) (rest name mid values more : List ℕ) → IsCounted rest name mid → IsCounted mid values more → ((ps : List Parameter) → AreParameters values ps → ⊥) → (h : Hello) → IsHelloOf sender (first ∷ rest) h → ⊥
no_parameters sender first rest name mid values more c d never h i = never h.parameters (values_are sender first rest name mid values more c d h i).0
