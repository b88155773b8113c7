-- Parameters are written one after another.
use Rattle.std.proofs.Common.{◌≡◌, ℕ, ◌<◌, ◌^◌, List, [], ◌∷◌, ◌++◌, length, Result, Ok, Err, sym, ap, ◌∙◌, arith, subst, append_assoc, append-nil, length-append}
use Rattle.std.specs.Prelude.{flat_map, OnOk}
use Rattle.std.proofs.lemmas.Grind.{flat_map-append}
use Rattle.qh_hello.proofs.Sizes.{parameters_size}
use Rattle.qh_hello.specs.Greetings.{greeting, first_parameters, last_parameters, limits_of, parameters_of, token_of}
use Rattle.qh_hello.specs.Put.{IsPut}
use Rattle.qh_hello.specs.declared.transport_parameters.TransportParameters.{TransportParameters}
use Rattle.qh_spec.specs.Hello.{IsSayable, hello_byte, hello_bytes, hello_of, Parameter, parameter_bytes, number_parameter, bytes_if_some, limit_parameters}
use Rattle.qh_spec.specs.ParameterIds as parameter_ids
use Rattle.qh_spec.specs.Varint.{varint}
use Rattle.qh_spec.specs.declared.sides.Side.{Side}

pub map_ok : {A E : Type 0} {P Q : Type 0} (r : Result A E) → OnOk r P → (P → Q) → OnOk r Q
map_ok (Ok x) p f = f p
map_ok (Err x) p f = tt

pub put_then : (old mid new : List ℕ) (ps qs : List Parameter) → IsPut old mid ps → IsPut mid new qs → IsPut old new (ps ++ qs)
put_then old mid new ps qs p q = record {
  whole = q.whole ∙ ap (λ (z : List ℕ). z ++ flat_map parameter_bytes qs) p.whole ∙ append_assoc old (flat_map parameter_bytes ps) (flat_map parameter_bytes qs)
      ∙ ap (λ (z : List ℕ). old ++ z) (sym (flat_map-append parameter_bytes ps qs));
}

-- a parameter, in its parts
pub bytes_put : (old one two new value : List ℕ) (id i s : ℕ) → i ≡ id → s ≡ length value → one ≡ old ++ varint i → two ≡ one ++ varint s → new ≡ two ++ value
    → IsPut old new (record { id = id; value = value } ∷ [])
bytes_put old one two new value id i s same size a b c =
    let p : Parameter = record { id = id; value = value } in
    let i_is : varint i ≡ varint id = ap varint same in
    let s_is : varint s ≡ varint (length value) = ap varint size in
    let front : two ≡ (old ++ varint id) ++ varint (length value) =
    b ∙ ap (λ (z : List ℕ). z ++ varint s) (a ∙ ap (λ (z : List ℕ). old ++ z) i_is) ∙ ap (λ (z : List ℕ). (old ++ varint id) ++ z) s_is in
    let whole : new ≡ old ++ parameter_bytes p =
    c ∙ ap (λ (z : List ℕ). z ++ value) front ∙ append_assoc (old ++ varint id) (varint (length value)) value ∙ append_assoc old (varint id) (varint (length value) ++ value) in
    record { whole = whole ∙ ap (λ (z : List ℕ). old ++ z) (sym (append-nil (parameter_bytes p))) }

pub number_put : (old one two new : List ℕ) (id n i s : ℕ) → i ≡ id → s ≡ length (varint n) → one ≡ old ++ varint i → two ≡ one ++ varint s → new ≡ two ++ varint n
    → IsPut old new (number_parameter id n ∷ [])
number_put old one two new id n i s same size a b c = bytes_put old one two new (varint n) id i s same size a b c

pub nothing_put : (old : List ℕ) → IsPut old old []
nothing_put old = record { whole = sym (append-nil old) }

pub six_put : (o a b c d e f : List ℕ) (p q r s t u : Parameter) → IsPut o a (p ∷ []) → IsPut a b (q ∷ []) → IsPut b c (r ∷ []) → IsPut c d (s ∷ []) → IsPut d e (t ∷ []) → IsPut e f (u ∷ [])
    → IsPut o f (p ∷ q ∷ r ∷ s ∷ t ∷ u ∷ [])
six_put o a b c d e f p q r s t u h i j k l m =
    put_then o a f (p ∷ []) (q ∷ r ∷ s ∷ t ∷ u ∷ []) h
    (put_then a b f (q ∷ []) (r ∷ s ∷ t ∷ u ∷ []) i
    (put_then b c f (r ∷ []) (s ∷ t ∷ u ∷ []) j
    (put_then c d f (s ∷ []) (t ∷ u ∷ []) k
    (put_then d e f (t ∷ []) (u ∷ []) l m))))

pub last_put : (o a b c d : List ℕ) (p q : Parameter) (r s : List Parameter) → IsPut o a (p ∷ []) → IsPut a b (q ∷ []) → IsPut b c r → IsPut c d s → IsPut o d (p ∷ q ∷ (r ++ s))
last_put o a b c d p q r s h i j k = put_then o a d (p ∷ []) (q ∷ (r ++ s)) h (put_then a b d (q ∷ []) (r ++ s) i (put_then b c d r s j k))

pub all_put : (old one two new : List ℕ) (t : TransportParameters) → IsPut old one (first_parameters t) → IsPut one two (limit_parameters (limits_of t)) → IsPut two new (last_parameters t)
    → IsPut old new (parameters_of t)
all_put old one two new t p q r =
    let rest : List Parameter = limit_parameters (limits_of t) ++ last_parameters t in
    let all : IsPut old new (first_parameters t ++ rest) = put_then old one new (first_parameters t) rest p (put_then one two new (limit_parameters (limits_of t)) (last_parameters t) q r) in
    subst (IsPut old new)
    (append_assoc (bytes_if_some parameter_ids.original_destination_connection_id t.original_destination_connection_id)
    (number_parameter parameter_ids.max_idle_timeout t.max_idle_timeout ∷ bytes_if_some parameter_ids.stateless_reset_token (token_of t.stateless_reset_token)) rest)
    all

-- the parameters of an end take few bytes
pub few_are_put : (sender : Side) (name old new bytes : List ℕ) (t : TransportParameters) → IsSayable (greeting sender name t) → old ≡ [] → IsPut old new (parameters_of t) → bytes ≡ new → length bytes < 2 ^ 62
few_are_put sender name old new bytes t s none p same =
    let few = parameters_size (greeting sender name t) s in
    let whole = ap length (same ∙ p.whole) in
    let parts = length-append old (flat_map parameter_bytes (parameters_of t)) in
    let empty = ap length none in
    omega (arith, few, whole, parts, empty)

-- a hello, in its parts
pub hello_put : (sender : Side) (name old new slice hello start values written none : List ℕ) (t : TransportParameters) → new ≡ old ++ slice → slice ≡ hello
    → hello ≡ start ++ (hello_byte sender ∷ (varint (length name) ++ (name ++ (varint (length values) ++ values)))) → start ≡ [] → values ≡ written → IsPut none written (parameters_of t) → none ≡ []
    → new ≡ old ++ hello_bytes (hello_of (greeting sender name t))
hello_put sender name old new slice hello start values written none t a b c d e p f =
    let body : values ≡ flat_map parameter_bytes (parameters_of t) = e ∙ p.whole ∙ ap (λ (z : List ℕ). z ++ flat_map parameter_bytes (parameters_of t)) f in
    let parts : hello ≡ hello_byte sender ∷ (varint (length name) ++ (name ++ (varint (length values) ++ values)))
    = c ∙ ap (λ (z : List ℕ). z ++ (hello_byte sender ∷ (varint (length name) ++ (name ++ (varint (length values) ++ values))))) d in
    a ∙ ap (λ (z : List ℕ). old ++ z) (b ∙ parts ∙ ap (λ (z : List ℕ). hello_byte sender ∷ (varint (length name) ++ (name ++ (varint (length z) ++ z)))) body)
