-- A hello has one reading, and what is written is read.
use Rattle.std.proofs.Common.{◌≡◌, ℕ, ◌<◌, ◌^◌, List, [], ◌∷◌, ◌++◌, length, get_or, drop, Option, Some, None, refl, sym, ap, ◌∙◌, arith, subst, append_assoc}
use Rattle.std.specs.Prelude.{flat_map, MatchOption}
use Rattle.std.specs.List.{AllByRecursion}
use Rattle.qh_spec.specs.declared.sides.Side.{Side}
use Rattle.qh_spec.specs.declared.sides.Side.TheVariants.{Client, Server}
use Rattle.qh_spec.specs.Varint.{IsVarint, varint}
use Rattle.qh_spec.proofs.Cuts.{halves, inner, varints_agree, empty_front}
use Rattle.qh_spec.proofs.Varints.{varint_spelled, one_form, no_empty_varint}
use Rattle.qh_spec.specs.Hello.{Parameter, IsParameter, AreParameters, Hello, IsHello, HasSpelling, hello_byte, hello_bytes, parameter_bytes, value_of, SaysNumber, SaysLimits, SaysDatagramSize, SaysResetToken, FirstLimits}
use Rattle.qh_spec.specs.ParameterIds as parameter_ids

parameters_one : (p q : Parameter) → p.id ≡ q.id → p.value ≡ q.value → p ≡ q
parameters_one p q e f =
    let pair : (p.id, p.value) ≡ (q.id, q.value) = cc in
    ap (λ (z : ℕ × List ℕ). record { id = z.0; value = z.1 }) pair

pub parameter_agrees : (bytes : List ℕ) (p q : Parameter) (x y : List ℕ) → IsParameter bytes p x → IsParameter bytes q y → (p ≡ q) × (x ≡ y)
parameter_agrees bytes p q x y i j =
    let ids = varints_agree i.id_bytes (i.length_bytes ++ (p.value ++ x)) j.id_bytes (j.length_bytes ++ (q.value ++ y)) p.id q.id i.id_is j.id_is (sym i.whole ∙ j.whole) in
    let lens = varints_agree i.length_bytes (p.value ++ x) j.length_bytes (q.value ++ y) (length p.value) (length q.value) i.length_is j.length_is ids.1 in
    let cut = halves p.value x q.value y lens.0 lens.1 in
    (parameters_one p q ids.0 cut.0, cut.1)

pub no_parameter_here : (p : Parameter) (rest : List ℕ) → IsParameter [] p rest → ⊥
no_parameter_here p rest i =
    no_empty_varint p.id (subst (λ (z : List ℕ). IsVarint z p.id) (empty_front i.id_bytes (i.length_bytes ++ (p.value ++ rest)) i.whole) i.id_is)

parameters_agree : (bytes : List ℕ) (ps qs : List Parameter) → AreParameters bytes ps → AreParameters bytes qs → ps ≡ qs
parameters_agree bytes [] [] p q = refl
parameters_agree bytes [] (g ∷ gs) p q = absurd (no_parameter_here g q.0 (subst (λ (z : List ℕ). IsParameter z g q.0) p q.1))
parameters_agree bytes (f ∷ fs) [] p q = absurd (no_parameter_here f p.0 (subst (λ (z : List ℕ). IsParameter z f p.0) q p.1))
parameters_agree bytes (f ∷ fs) (g ∷ gs) p q =
    let r = parameter_agrees bytes f g p.0 q.0 p.1 q.1 in
    let s : fs ≡ gs = parameters_agree q.0 fs gs (subst (λ (z : List ℕ). AreParameters z fs) r.1 p.2) q.2 in
    let h : f ≡ g = r.0 in
    cc

pub side_agrees : (s t : Side) → hello_byte s ≡ hello_byte t → s ≡ t
side_agrees Client Client e = refl
side_agrees Server Server e = refl
side_agrees Client Server e = absurd (omega arith)
side_agrees Server Client e = absurd (omega arith)

hellos_one : (h g : Hello) → h.sender ≡ g.sender → h.server_name ≡ g.server_name → h.parameters ≡ g.parameters → h ≡ g
hellos_one h g e f p =
    let all : ◌≡◌ {A = Side × List ℕ × List Parameter} (h.sender, h.server_name, h.parameters) (g.sender, g.server_name, g.parameters) = cc in
    ap (λ (z : Side × List ℕ × List Parameter). record { sender = z.0; server_name = z.1; parameters = z.2 }) all

-- no hello begins another
pub hello_agrees : (a b x y : List ℕ) (h g : Hello) → IsHello a h → IsHello b g → a ++ x ≡ b ++ y → (h ≡ g) × (x ≡ y)
hello_agrees a b x y h g i j e =
    let ti : List ℕ = h.server_name ++ (i.parameters_length ++ i.parameter_bytes) in
    let tj : List ℕ = g.server_name ++ (j.parameters_length ++ j.parameter_bytes) in
    let both : hello_byte h.sender ∷ ((i.name_length ++ ti) ++ x) ≡ hello_byte g.sender ∷ ((j.name_length ++ tj) ++ y)
    = ap (λ (z : List ℕ). z ++ x) (sym i.whole) ∙ e ∙ ap (λ (z : List ℕ). z ++ y) j.whole in
    let first : hello_byte h.sender ≡ hello_byte g.sender = ap (λ (z : List ℕ). get_or z 0 0) both in
    let rest : (i.name_length ++ ti) ++ x ≡ (j.name_length ++ tj) ++ y = ap (λ (z : List ℕ). drop 1 z) both in
    let names = varints_agree i.name_length (ti ++ x) j.name_length (tj ++ y) (length h.server_name) (length g.server_name) i.name_is j.name_is (inner i.name_length ti x j.name_length tj y rest) in
    let name = halves h.server_name ((i.parameters_length ++ i.parameter_bytes) ++ x) g.server_name ((j.parameters_length ++ j.parameter_bytes) ++ y) names.0
    (inner h.server_name (i.parameters_length ++ i.parameter_bytes) x g.server_name (j.parameters_length ++ j.parameter_bytes) y names.1) in
    let lens = varints_agree i.parameters_length (i.parameter_bytes ++ x) j.parameters_length (j.parameter_bytes ++ y) (length i.parameter_bytes) (length j.parameter_bytes) i.length_is j.length_is
    (inner i.parameters_length i.parameter_bytes x j.parameters_length j.parameter_bytes y name.1) in
    let last = halves i.parameter_bytes x j.parameter_bytes y lens.0 lens.1 in
    let all = parameters_agree j.parameter_bytes h.parameters g.parameters (subst (λ (z : List ℕ). AreParameters z h.parameters) last.0 i.parameters) j.parameters in
    (hellos_one h g (side_agrees h.sender g.sender first) name.0 all, last.1)

-- ---- what is written

parameter_written : (p : Parameter) (rest : List ℕ) → p.id < 2 ^ 62 → length p.value < 2 ^ 62 → IsParameter (parameter_bytes p ++ rest) p rest
parameter_written p rest id len = record {
  id_bytes = varint p.id;
  length_bytes = varint (length p.value);
  whole = append_assoc (varint p.id) (varint (length p.value) ++ p.value) rest ∙ ap (λ (z : List ℕ). varint p.id ++ z) (append_assoc (varint (length p.value)) p.value rest);
  id_is = varint_spelled p.id id;
  length_is = varint_spelled (length p.value) len;
}

parameters_written : (ps : List Parameter) → AllByRecursion (λ (p : Parameter). (p.id < 2 ^ 62) × (length p.value < 2 ^ 62)) ps → AreParameters (flat_map parameter_bytes ps) ps
parameters_written [] all = refl
parameters_written (p ∷ ps) all = (flat_map parameter_bytes ps, parameter_written p (flat_map parameter_bytes ps) all.0.0 all.0.1, parameters_written ps all.1)

pub hello_written : (h : Hello) → HasSpelling h → IsHello (hello_bytes h) h
hello_written h s = record {
  name_length = varint (length h.server_name);
  parameters_length = varint (length (flat_map parameter_bytes h.parameters));
  parameter_bytes = flat_map parameter_bytes h.parameters;
  whole = refl;
  name_is = varint_spelled (length h.server_name) s.name;
  length_is = varint_spelled (length (flat_map parameter_bytes h.parameters)) s.all;
  parameters = parameters_written h.parameters s.parameters;
}

pub hello_read_back : (h g : Hello) (a x y : List ℕ) → HasSpelling h → IsHello a g → hello_bytes h ++ x ≡ a ++ y → g ≡ h
hello_read_back h g a x y s i e = sym (hello_agrees (hello_bytes h) a x y h g (hello_written h s) i e).0

-- ---- what it says

one_value : (o : Option (List ℕ)) (default m n : ℕ) → MatchOption o (m ≡ default) (λ value. IsVarint value m) → MatchOption o (n ≡ default) (λ value. IsVarint value n) → m ≡ n
one_value None default m n p q = p ∙ sym q
one_value (Some value) default m n p q = (one_form value value [] [] m n p q refl).1

pub one_number : (id default m n : ℕ) (h : Hello) → SaysNumber id default h m → SaysNumber id default h n → m ≡ n
one_number id default m n h p q = one_value (value_of id h.parameters) default m n p q

pub one_limits : (h : Hello) (l m : FirstLimits) → SaysLimits h l → SaysLimits h m → l ≡ m
one_limits h l m p q =
    let a : l.max_data ≡ m.max_data = one_number parameter_ids.initial_max_data 0 l.max_data m.max_data h p.max_data q.max_data in
    let b : l.bidi_local ≡ m.bidi_local = one_number parameter_ids.initial_max_stream_data_bidi_local 0 l.bidi_local m.bidi_local h p.bidi_local q.bidi_local in
    let c : l.bidi_remote ≡ m.bidi_remote = one_number parameter_ids.initial_max_stream_data_bidi_remote 0 l.bidi_remote m.bidi_remote h p.bidi_remote q.bidi_remote in
    let d : l.uni ≡ m.uni = one_number parameter_ids.initial_max_stream_data_uni 0 l.uni m.uni h p.uni q.uni in
    let e : l.max_bidi ≡ m.max_bidi = one_number parameter_ids.initial_max_streams_bidi 0 l.max_bidi m.max_bidi h p.max_bidi q.max_bidi in
    let f : l.max_uni ≡ m.max_uni = one_number parameter_ids.initial_max_streams_uni 0 l.max_uni m.max_uni h p.max_uni q.max_uni in
    let all : ◌≡◌ {A = ℕ × ℕ × ℕ × ℕ × ℕ × ℕ} (l.max_data, l.bidi_local, l.bidi_remote, l.uni, l.max_bidi, l.max_uni) (m.max_data, m.bidi_local, m.bidi_remote, m.uni, m.max_bidi, m.max_uni) = cc in
    ap (λ (z : ℕ × ℕ × ℕ × ℕ × ℕ × ℕ). record { max_data = z.0; bidi_local = z.1; bidi_remote = z.2; uni = z.3; max_bidi = z.4; max_uni = z.5 }) all

not_none : {X : Type 0} (o : Option X) (x : X) → o ≡ None → o ≡ Some x → ⊥
not_none o x p q = cc

some_same : (o : Option (List ℕ)) (v w : List ℕ) → o ≡ Some v → o ≡ Some w → v ≡ w
some_same o v w p q = cc

pub one_size : (h : Hello) (m n : Option ℕ) → SaysDatagramSize h m → SaysDatagramSize h n → m ≡ n
one_size h None None p q = refl
one_size h None (Some n) p q = absurd (not_none (value_of parameter_ids.max_datagram_frame_size h.parameters) q.0 p q.1)
one_size h (Some m) None p q = absurd (not_none (value_of parameter_ids.max_datagram_frame_size h.parameters) p.0 q p.1)
one_size h (Some m) (Some n) p q =
    let same : p.0 ≡ q.0 = some_same (value_of parameter_ids.max_datagram_frame_size h.parameters) p.0 q.0 p.1 q.1 in
    let e : m ≡ n = (one_form p.0 q.0 [] [] m n p.2 q.2 (ap (λ (z : List ℕ). z ++ []) same)).1 in
    ap (λ (z : ℕ). Some z) e

pub one_token : (h : Hello) (m n : Option (List ℕ)) → SaysResetToken h m → SaysResetToken h n → m ≡ n
one_token h m n p q = sym p ∙ q
