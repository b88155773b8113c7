-- How many bytes the hello of an end takes at most.
use Rattle.std.proofs.Common.{◌≡◌, ℕ, ◌+◌, ◌<◌, ◌≤◌, ◌^◌, nat_lt, true, List, [], ◌∷◌, ◌++◌, length, Option, Some, None, refl, ap, arith, length-append}
use Rattle.std.specs.Prelude.{flat_map}
use Rattle.std.proofs.lemmas.Bool.{lt-ltb}
use Rattle.qh_spec.proofs.HelloWritten.{varint_length, idle_on, limits_on, last}
use Rattle.qh_spec.specs.Hello.{Parameter, parameter_bytes, Greeting, number_parameter, bytes_if_some, number_if_some, hello_of, hello_bytes, IfThere, IsSayable}
use Rattle.qh_spec.specs.ParameterIds as parameter_ids
use Rattle.qh_spec.specs.Varint.{varint}

short_varint : (n : ℕ) → n < 2 ^ 6 → length (varint n) ≡ 1
unfolding varint
short_varint n low = let t : nat_lt n (2 ^ 6) ≡ true = lt-ltb n (2 ^ 6) low in rw t refl

-- a parameter takes two bytes beside its value
parameter_size : (id : ℕ) (value : List ℕ) (ps : List Parameter) → id < 2 ^ 6 → length value ≤ 20
    → length (flat_map parameter_bytes (record { id = id; value = value } ∷ ps)) ≡ 2 + length value + length (flat_map parameter_bytes ps)
parameter_size id value ps low few =
    let p : Parameter = record { id = id; value = value } in
    let a = length-append (parameter_bytes p) (flat_map parameter_bytes ps) in
    let b = length-append (varint id) (varint (length value) ++ value) in
    let c = length-append (varint (length value)) value in
    let d = short_varint id low in
    let e = short_varint (length value) (omega (arith, few)) in
    omega (arith, a, b, c, d, e)

number_size : (id n : ℕ) (ps : List Parameter) → id < 2 ^ 6 → length (flat_map parameter_bytes (number_parameter id n ∷ ps)) ≤ 10 + length (flat_map parameter_bytes ps)
number_size id n ps low =
    let few = varint_length n in
    let size = parameter_size id (varint n) ps low (omega (arith, few)) in
    omega (arith, few, size)

size_if_some : (id : ℕ) (o : Option (List ℕ)) (ps : List Parameter) → id < 2 ^ 6 → IfThere (λ (value : List ℕ). length value ≤ 20) o
    → length (flat_map parameter_bytes (bytes_if_some id o ++ ps)) ≤ 22 + length (flat_map parameter_bytes ps)
size_if_some id None ps low few = omega arith
size_if_some id (Some value) ps low few = let size = parameter_size id value ps low few in omega (arith, few, size)

number_size_if_some : (id : ℕ) (o : Option ℕ) → id < 2 ^ 6 → length (flat_map parameter_bytes (number_if_some id o)) ≤ 10
number_size_if_some id None low = omega arith
number_size_if_some id (Some n) low = let size = number_size id n [] low in omega (arith, size)

token_few : (o : Option (List ℕ)) → IfThere (λ (token : List ℕ). length token ≡ 16) o → IfThere (λ (value : List ℕ). length value ≤ 20) o
token_few None few = tt
token_few (Some token) few = omega (arith, few)

last_size : (g : Greeting) → IsSayable g → length (flat_map parameter_bytes (last g)) ≤ 32
last_size g s =
    let a = size_if_some parameter_ids.retry_source_connection_id g.retry_id (number_if_some parameter_ids.max_datagram_frame_size g.datagram) (omega arith) s.retry_id in
    let b = number_size_if_some parameter_ids.max_datagram_frame_size g.datagram (omega arith) in
    omega (arith, a, b)

limits_size : (g : Greeting) → IsSayable g → length (flat_map parameter_bytes (limits_on g)) ≤ 124
limits_size g s =
    let l = g.limits in
    let source : List Parameter = record { id = parameter_ids.initial_source_connection_id; value = g.source_id } ∷ last g in
    let p1 : List Parameter = number_parameter parameter_ids.active_connection_id_limit g.id_limit ∷ source in
    let p2 : List Parameter = number_parameter parameter_ids.initial_max_streams_uni l.max_uni ∷ p1 in
    let p3 : List Parameter = number_parameter parameter_ids.initial_max_streams_bidi l.max_bidi ∷ p2 in
    let p4 : List Parameter = number_parameter parameter_ids.initial_max_stream_data_uni l.uni ∷ p3 in
    let p5 : List Parameter = number_parameter parameter_ids.initial_max_stream_data_bidi_remote l.bidi_remote ∷ p4 in
    let p6 : List Parameter = number_parameter parameter_ids.initial_max_stream_data_bidi_local l.bidi_local ∷ p5 in
    let few = s.source_id in
    let a = parameter_size parameter_ids.initial_source_connection_id g.source_id (last g) (omega arith) few in
    let b = number_size parameter_ids.active_connection_id_limit g.id_limit source (omega arith) in
    let c = number_size parameter_ids.initial_max_streams_uni l.max_uni p1 (omega arith) in
    let d = number_size parameter_ids.initial_max_streams_bidi l.max_bidi p2 (omega arith) in
    let e = number_size parameter_ids.initial_max_stream_data_uni l.uni p3 (omega arith) in
    let f = number_size parameter_ids.initial_max_stream_data_bidi_remote l.bidi_remote p4 (omega arith) in
    let h = number_size parameter_ids.initial_max_stream_data_bidi_local l.bidi_local p5 (omega arith) in
    let i = number_size parameter_ids.initial_max_data l.max_data p6 (omega arith) in
    let j = last_size g s in
    omega (arith, few, a, b, c, d, e, f, h, i, j)

pub parameters_size : (g : Greeting) → IsSayable g → length (flat_map parameter_bytes (hello_of g).parameters) ≤ 178
parameters_size g s =
    let a = size_if_some parameter_ids.original_destination_connection_id g.original_id (idle_on g) (omega arith) s.original_id in
    let b = number_size parameter_ids.max_idle_timeout g.idle (bytes_if_some parameter_ids.stateless_reset_token g.reset_token ++ limits_on g) (omega arith) in
    let c = size_if_some parameter_ids.stateless_reset_token g.reset_token (limits_on g) (omega arith) (token_few g.reset_token s.reset_token) in
    let d = limits_size g s in
    omega (arith, a, b, c, d)

pub hello_size : (g : Greeting) → IsSayable g → length (hello_bytes (hello_of g)) ≤ 512
hello_size g s =
    let ps : List ℕ = flat_map parameter_bytes (hello_of g).parameters in
    let few = parameters_size g s in
    let name = s.name in
    let a = length-append (varint (length g.server_name)) (g.server_name ++ (varint (length ps) ++ ps)) in
    let b = length-append g.server_name (varint (length ps) ++ ps) in
    let c = length-append (varint (length ps)) ps in
    let d = varint_length (length g.server_name) in
    let e = varint_length (length ps) in
    omega (arith, few, name, a, b, c, d, e)

-- the bytes with it
pub size_with : (old new : List ℕ) (g : Greeting) → IsSayable g → new ≡ old ++ hello_bytes (hello_of g) → length new ≤ length old + 512
size_with old new g s e =
    let few = hello_size g s in
    let total = ap length e in
    let parts = length-append old (hello_bytes (hello_of g)) in
    omega (arith, few, total, parts)
