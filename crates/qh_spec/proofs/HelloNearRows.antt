-- Bytes that are no hello.
use Rattle.std.proofs.Common.{◌≡◌, ℕ, ◌+◌, ◌<◌, ◌^◌, List, [], ◌∷◌, ◌++◌, length, get_or, refl, sym, ap, ◌∙◌, arith, subst, append-nil, length-append}
use Rattle.std.specs.Int.{w16, w32, w64, to_be_bytes}
use Rattle.qh_spec.specs.Hello.{Parameter, AreParameters, Hello, IsHelloOf, HasSpelling, hello_byte, hello_bytes}
use Rattle.qh_spec.specs.HelloFaults.{IdsUsed, NotAHello, LongName, IsHelloFault}
use Rattle.qh_spec.specs.HelloRows.{client_hello_bytes, short_hello}
use Rattle.qh_spec.specs.Varint.{IsVarint, one, two, four, eight}
use Rattle.qh_spec.specs.declared.sides.Side.{Side}
use Rattle.qh_spec.specs.declared.sides.Side.TheVariants.{Client, Server}
use Rattle.qh_spec.proofs.Cuts.{varints_agree}
use Rattle.qh_spec.proofs.HelloDecided.{AHello, HasCounted, Parameters, counted_agree, rest_there, no_hello_here}
use Rattle.qh_spec.proofs.HelloFaultLaws.{first_is, not_a_hello}
use Rattle.qh_spec.proofs.HelloLaws.{hello_agrees, hello_written}
use Rattle.qh_spec.proofs.HelloRows.{to_hello}

some_rest : (rest : List ℕ) → 0 < length rest → rest ≡ [] → ⊥
some_rest rest l e = let n : length rest ≡ 0 = ap length e in omega (arith, l, n)

pub cut_none : (s : Side) (used : IdsUsed) (front rest : List ℕ) (h : Hello) → IsHelloOf s (front ++ rest) h → 0 < length rest → IsHelloFault s used front NotAHello
cut_none s used front rest h i l =
    not_a_hello s used front (λ g j. some_rest rest l (hello_agrees front (front ++ rest) rest [] g h j.0 i.0 (sym (append-nil (front ++ rest)))).1)

pub left_over_none : (s : Side) (used : IdsUsed) (bytes rest : List ℕ) (h : Hello) → IsHelloOf s bytes h → 0 < length rest → IsHelloFault s used (bytes ++ rest) NotAHello
left_over_none s used bytes rest h i l =
    not_a_hello s used (bytes ++ rest) (λ g j. some_rest rest l (hello_agrees bytes (bytes ++ rest) rest [] h g i.0 j.0 (sym (append-nil (bytes ++ rest)))).1)

pub wrong_side_none : (used : IdsUsed) → IsHelloFault Server used client_hello_bytes NotAHello
wrong_side_none used =
    not_a_hello Server used client_hello_bytes
    (λ g j. let first : 1 ≡ hello_byte g.sender = ap (λ (z : List ℕ). get_or z 0 0) j.0.whole in let side : hello_byte g.sender ≡ 2 = ap hello_byte j.1 in omega (arith, first, side))

pub nothing_none : (s : Side) (used : IdsUsed) → IsHelloFault s used [] NotAHello
nothing_none s used = not_a_hello s used [] (λ g j. no_hello_here s (g, j))

-- the parameters of a hello without a name
short_parameters : (s : Side) (bytes : List ℕ) → length bytes < 2 ^ 6 → AHello s (short_hello s bytes) → Parameters bytes
short_parameters s bytes few a =
    let name : HasCounted (0 ∷ length bytes ∷ bytes) = record { front = 0 ∷ []; value = []; rest = length bytes ∷ bytes; whole = refl; is = one (omega arith) refl } in
    let mine : HasCounted (length bytes ∷ bytes) = record { front = length bytes ∷ []; value = bytes; rest = []; whole = ap (λ (z : List ℕ). length bytes ∷ z) (sym (append-nil bytes)); is = one few refl } in
    let r = rest_there s (hello_byte s) (0 ∷ length bytes ∷ bytes) name a in
    (r.2.0, subst (λ (z : List ℕ). AreParameters z r.2.0) (sym (counted_agree (length bytes ∷ bytes) mine r.0).0) r.2.1)

-- a value that is cut
no_cut_value : (ps : List Parameter) → AreParameters (15 ∷ 3 ∷ 192 ∷ 1 ∷ []) ps → ⊥
no_cut_value [] e = let l : 4 ≡ 0 = ap length e in omega (arith, l)
no_cut_value (p ∷ ps) a =
    let i = a.1 in
    let ids = varints_agree (15 ∷ []) (3 ∷ 192 ∷ 1 ∷ []) i.id_bytes (i.length_bytes ++ (p.value ++ a.0)) 15 p.id (one (omega arith) refl) i.id_is i.whole in
    let lens = varints_agree (3 ∷ []) (192 ∷ 1 ∷ []) i.length_bytes (p.value ++ a.0) 3 (length p.value) (one (omega arith) refl) i.length_is ids.1 in
    let all : 2 ≡ length (p.value ++ a.0) = ap length lens.1 in
    let both = length-append p.value a.0 in
    let three = lens.0 in
    omega (arith, all, both, three)

pub cut_value_none : (used : IdsUsed) → IsHelloFault Client used (short_hello Client (15 ∷ 3 ∷ 192 ∷ 1 ∷ [])) NotAHello
cut_value_none used =
    not_a_hello Client used (short_hello Client (15 ∷ 3 ∷ 192 ∷ 1 ∷ []))
    (λ g j. let r = short_parameters Client (15 ∷ 3 ∷ 192 ∷ 1 ∷ []) (omega arith) (g, j) in no_cut_value r.0 r.1)

-- an id that is cut
no_cut_number : (a x : List ℕ) (n : ℕ) → 64 ∷ [] ≡ a ++ x → IsVarint a n → ⊥
no_cut_number a x n e (one l f) =
    let first : 64 ≡ n = ap (λ (z : List ℕ). get_or z 0 0) (e ∙ ap (λ (z : List ℕ). z ++ x) f) in
    omega (arith, l, first)
no_cut_number a x n e (two l f) =
    let size : 1 ≡ length (to_be_bytes w16 (2 ^ 14 + n) ++ x) = ap length (e ∙ ap (λ (z : List ℕ). z ++ x) f) in
    omega (arith, size)
no_cut_number a x n e (four l f) =
    let size : 1 ≡ length (to_be_bytes w32 (2 ^ 31 + n) ++ x) = ap length (e ∙ ap (λ (z : List ℕ). z ++ x) f) in
    omega (arith, size)
no_cut_number a x n e (eight l f) =
    let size : 1 ≡ length (to_be_bytes w64 (2 ^ 63 + 2 ^ 62 + n) ++ x) = ap length (e ∙ ap (λ (z : List ℕ). z ++ x) f) in
    omega (arith, size)

no_cut_id : (ps : List Parameter) → AreParameters (64 ∷ []) ps → ⊥
no_cut_id [] e = let l : 1 ≡ 0 = ap length e in omega (arith, l)
no_cut_id (p ∷ ps) a = let i = a.1 in no_cut_number i.id_bytes (i.length_bytes ++ (p.value ++ a.0)) p.id i.whole i.id_is

pub cut_id_none : (used : IdsUsed) → IsHelloFault Client used (short_hello Client (64 ∷ [])) NotAHello
cut_id_none used =
    not_a_hello Client used (short_hello Client (64 ∷ []))
    (λ g j. let r = short_parameters Client (64 ∷ []) (omega arith) (g, j) in no_cut_id r.0 r.1)

-- a long name
pub long_name_is : (used : IdsUsed) (h : Hello) → HasSpelling h → 255 < length h.server_name → IsHelloFault h.sender used (hello_bytes h) LongName
long_name_is used h s l =
    first_is h.sender used (hello_bytes h) h LongName (hello_written h s, refl) (record { broken = λ k. omega (arith, k, l); below = to_hello used h })
