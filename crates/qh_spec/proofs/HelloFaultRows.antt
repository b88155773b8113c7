-- Worked hellos that are refused, each with its fault.
use Rattle.std.proofs.Common.{◌≡◌, inl, inr, ℕ, ◌+◌, ◌≤◌, ◌^◌, List, [], ◌∷◌, ◌++◌, length, Some, None, refl, sym, ap, arith}
use Rattle.qh_spec.specs.Hello.{Parameter, Hello}
use Rattle.qh_spec.specs.HelloFaults.{IdsUsed, RepeatedId, ServerOnly, NotANumber, OtherId, TokenLength, OutOfRange, IsHelloFault}
use Rattle.qh_spec.specs.HelloRows.{client_ids, short_hello, plain_hello, source_bytes, source, original_bytes, original, known_at_server, known_at_client, short_token}
use Rattle.qh_spec.specs.ParameterIds as parameter_ids
use Rattle.qh_spec.specs.Varint.{IsVarint, one, eight}
use Rattle.qh_spec.specs.declared.sides.Side.TheVariants.{Client, Server}
use Rattle.qh_spec.proofs.HelloAccepted.{rising_distinct}
use Rattle.qh_spec.proofs.HelloFaultLaws.{first_is, KeepsBelow}
use Rattle.qh_spec.proofs.HelloRows.{short_is, to_name, to_ids, to_server, to_numbers, to_used, to_token, not_client, distinct_two, silent}
use Rattle.qh_spec.proofs.Varints.{one_form, no_empty_varint}

-- what is given, beside a source id
abbrev empty_unknown : Parameter
empty_unknown = record { id = 27; value = [] }

abbrev unknown : Parameter
unknown = record { id = 27; value = 7 ∷ [] }

abbrev token : Parameter
token = record { id = parameter_ids.stateless_reset_token; value = short_token }

abbrev empty_retry : Parameter
empty_retry = record { id = parameter_ids.retry_source_connection_id; value = [] }

abbrev one_id : Parameter
one_id = record { id = parameter_ids.active_connection_id_limit; value = 1 ∷ [] }

abbrev many_streams : Parameter
many_streams = record { id = parameter_ids.initial_max_streams_bidi; value = 208 ∷ 0 ∷ 0 ∷ 0 ∷ 0 ∷ 0 ∷ 0 ∷ 1 ∷ [] }

-- ---- ids that stand twice, and what a client may not say

pub repeated_is : (used : IdsUsed) → IsHelloFault Client used (short_hello Client (source_bytes ++ source_bytes)) RepeatedId
repeated_is used =
    let h : Hello = plain_hello Client (source ∷ source ∷ []) in
    first_is Client used (short_hello Client (source_bytes ++ source_bytes)) h RepeatedId
    (short_is Client (source ∷ source ∷ []) ((omega arith, omega arith), ((omega arith, omega arith), tt)) (omega arith))
    (record { broken = λ d. d.0 (inl refl); below = to_name used h (omega arith) })

pub unknown_repeated_is : (used : IdsUsed) → IsHelloFault Client used (short_hello Client (27 ∷ 0 ∷ (source_bytes ++ 27 ∷ 1 ∷ 7 ∷ []))) RepeatedId
unknown_repeated_is used =
    let h : Hello = plain_hello Client (empty_unknown ∷ source ∷ unknown ∷ []) in
    first_is Client used (short_hello Client (27 ∷ 0 ∷ (source_bytes ++ 27 ∷ 1 ∷ 7 ∷ []))) h RepeatedId
    (short_is Client (empty_unknown ∷ source ∷ unknown ∷ []) ((omega arith, omega arith), ((omega arith, omega arith), ((omega arith, omega arith), tt))) (omega arith))
    (record { broken = λ d. d.0 (inr (inl refl)); below = to_name used h (omega arith) })

not_there : (v : List ℕ) → Some v ≡ None → ⊥
not_there v e = cc

pub token_from_client_is : (used : IdsUsed) → IsHelloFault Client used (short_hello Client (2 ∷ 15 ∷ (short_token ++ source_bytes))) ServerOnly
token_from_client_is used =
    let h : Hello = plain_hello Client (token ∷ source ∷ []) in
    first_is Client used (short_hello Client (2 ∷ 15 ∷ (short_token ++ source_bytes))) h ServerOnly
    (short_is Client (token ∷ source ∷ []) ((omega arith, omega arith), ((omega arith, omega arith), tt)) (omega arith))
    (record { broken = λ k. not_there short_token (k refl).1.0; below = to_ids used h (to_name used h (omega arith)) (distinct_two 2 15 (λ e. omega (arith, e))) })

pub original_from_client_is : (used : IdsUsed) → IsHelloFault Client used (short_hello Client (original_bytes ++ source_bytes)) ServerOnly
original_from_client_is used =
    let h : Hello = plain_hello Client (original ∷ source ∷ []) in
    first_is Client used (short_hello Client (original_bytes ++ source_bytes)) h ServerOnly
    (short_is Client (original ∷ source ∷ []) ((omega arith, omega arith), ((omega arith, omega arith), tt)) (omega arith))
    (record { broken = λ k. not_there original.value (k refl).0; below = to_ids used h (to_name used h (omega arith)) (distinct_two 0 15 (λ e. omega (arith, e))) })

-- ---- values that are no number

two_bytes_none : (n : ℕ) → IsVarint (5 ∷ 0 ∷ []) n → ⊥
two_bytes_none n v =
    let r = one_form (5 ∷ 0 ∷ []) (5 ∷ []) [] (0 ∷ []) n 5 v (one (omega arith) refl) refl in
    let l : 2 ≡ 1 = ap length r.0 in
    omega (arith, l)

-- a hello with this alone as its limit of all bytes
abbrev limit_of : List ℕ → Hello
limit_of value = plain_hello Client (record { id = parameter_ids.initial_max_data; value = value } ∷ [])

limit_server : (used : IdsUsed) (value : List ℕ) → KeepsBelow used (limit_of value) 4
limit_server used value =
    to_server used (limit_of value) (to_ids used (limit_of value) (to_name used (limit_of value) (omega arith)) (λ i. i, tt)) (λ e. (refl, (refl, (refl, tt))))

pub bytes_behind_is : (used : IdsUsed) → IsHelloFault Client used (short_hello Client (4 ∷ 2 ∷ 5 ∷ 0 ∷ [])) NotANumber
bytes_behind_is used =
    first_is Client used (short_hello Client (4 ∷ 2 ∷ 5 ∷ 0 ∷ [])) (limit_of (5 ∷ 0 ∷ [])) NotANumber
    (short_is Client (record { id = parameter_ids.initial_max_data; value = 5 ∷ 0 ∷ [] } ∷ []) ((omega arith, omega arith), tt) (omega arith))
    (record { broken = λ k. let v = k.1.0 in two_bytes_none v.0 v.1; below = limit_server used (5 ∷ 0 ∷ []) })

pub no_bytes_is : (used : IdsUsed) → IsHelloFault Client used (short_hello Client (4 ∷ 0 ∷ [])) NotANumber
no_bytes_is used =
    first_is Client used (short_hello Client (4 ∷ 0 ∷ [])) (limit_of []) NotANumber
    (short_is Client (record { id = parameter_ids.initial_max_data; value = [] } ∷ []) ((omega arith, omega arith), tt) (omega arith))
    (record { broken = λ k. let v = k.1.0 in no_empty_varint v.0 v.1; below = limit_server used [] })

-- ---- ids

another : (a : ℕ) (x y : List ℕ) → Some (a ∷ x) ≡ Some (a ∷ y) → length x ≡ 1 → length y ≡ 7 → ⊥
another a x y e l m = let same : x ≡ y = cc in let n : length x ≡ length y = ap length same in omega (arith, l, m, n)

silent_numbers : (used : IdsUsed) → KeepsBelow used silent 5
silent_numbers used =
    let ids = to_ids used silent (to_name used silent (omega arith)) (λ i. i, tt) in
    let server = to_server used silent ids (λ e. (refl, (refl, (refl, tt)))) in
    to_numbers used silent server (tt, (tt, (tt, (tt, (tt, (tt, (tt, (tt, (tt, tt)))))))))

pub another_source_is : IsHelloFault Client client_ids (short_hello Client source_bytes) OtherId
another_source_is =
    first_is Client client_ids (short_hello Client source_bytes) silent OtherId
    (short_is Client (source ∷ []) ((omega arith, omega arith), tt) (omega arith))
    (record { broken = λ i. another 192 (1 ∷ []) (0 ∷ 0 ∷ 0 ∷ 0 ∷ 0 ∷ 0 ∷ 0 ∷ []) i.source refl refl; below = silent_numbers client_ids })

pub no_source_is : IsHelloFault Client known_at_server (short_hello Client []) OtherId
no_source_is =
    let h : Hello = plain_hello Client [] in
    let used : IdsUsed = known_at_server in
    let server = to_server used h (to_ids used h (to_name used h (omega arith)) tt) (λ e. (refl, (refl, (refl, tt)))) in
    first_is Client used (short_hello Client []) h OtherId
    (short_is Client [] tt (omega arith))
    (record { broken = λ i. not_there (192 ∷ 1 ∷ []) (sym i.source); below = to_numbers used h server (tt, (tt, (tt, (tt, (tt, (tt, (tt, (tt, (tt, tt))))))))) })

pub no_original_is : IsHelloFault Server known_at_client (short_hello Server source_bytes) OtherId
no_original_is =
    let h : Hello = plain_hello Server (source ∷ []) in
    let used : IdsUsed = known_at_client in
    let server = to_server used h (to_ids used h (to_name used h (omega arith)) (λ i. i, tt)) (λ e. not_client Server refl e) in
    first_is Server used (short_hello Server source_bytes) h OtherId
    (short_is Server (source ∷ []) ((omega arith, omega arith), tt) (omega arith))
    (record { broken = λ i. not_there (208 ∷ 1 ∷ []) (sym i.original); below = to_numbers used h server (tt, (tt, (tt, (tt, (tt, (tt, (tt, (tt, (tt, tt))))))))) })

pub retry_not_due_is : IsHelloFault Server known_at_client (short_hello Server (original_bytes ++ (source_bytes ++ 16 ∷ 0 ∷ []))) OtherId
retry_not_due_is =
    let h : Hello = plain_hello Server (original ∷ source ∷ empty_retry ∷ []) in
    let used : IdsUsed = known_at_client in
    let ids = to_ids used h (to_name used h (omega arith)) (rising_distinct 0 h.parameters (omega arith, (omega arith, (omega arith, tt)))) in
    let server = to_server used h ids (λ e. not_client Server refl e) in
    first_is Server used (short_hello Server (original_bytes ++ (source_bytes ++ 16 ∷ 0 ∷ []))) h OtherId
    (short_is Server (original ∷ source ∷ empty_retry ∷ []) ((omega arith, omega arith), ((omega arith, omega arith), ((omega arith, omega arith), tt))) (omega arith))
    (record { broken = λ i. not_there [] i.retry; below = to_numbers used h server (tt, (tt, (tt, (tt, (tt, (tt, (tt, (tt, (tt, tt))))))))) })

-- ---- a token, and numbers out of their range

pub token_length_is : IsHelloFault Server known_at_client (short_hello Server (original_bytes ++ (2 ∷ 15 ∷ (short_token ++ source_bytes)))) TokenLength
token_length_is =
    let h : Hello = plain_hello Server (original ∷ token ∷ source ∷ []) in
    let used : IdsUsed = known_at_client in
    let ids = to_ids used h (to_name used h (omega arith)) (rising_distinct 0 h.parameters (omega arith, (omega arith, (omega arith, tt)))) in
    let server = to_server used h ids (λ e. not_client Server refl e) in
    let values = to_numbers used h server (tt, (tt, (tt, (tt, (tt, (tt, (tt, (tt, (tt, tt))))))))) in
    first_is Server used (short_hello Server (original_bytes ++ (2 ∷ 15 ∷ (short_token ++ source_bytes)))) h TokenLength
    (short_is Server (original ∷ token ∷ source ∷ []) ((omega arith, omega arith), ((omega arith, omega arith), ((omega arith, omega arith), tt))) (omega arith))
    (record { broken = λ k. let l : 15 ≡ 16 = k in omega (arith, l); below = to_used used h values (record { original = refl; source = refl; retry = refl }) })

-- a client's hello with a source id and one number more keeps the rules before that of ranges
abbrev with_number : Parameter → Hello
with_number p = plain_hello Client (source ∷ p ∷ [])

pub few_ids_is : IsHelloFault Client known_at_server (short_hello Client (source_bytes ++ 14 ∷ 1 ∷ 1 ∷ [])) OutOfRange
few_ids_is =
    let h : Hello = with_number one_id in
    let used : IdsUsed = known_at_server in
    let ids = to_ids used h (to_name used h (omega arith)) (distinct_two 15 14 (λ e. omega (arith, e))) in
    let server = to_server used h ids (λ e. (refl, (refl, (refl, tt)))) in
    let values = to_numbers used h server (tt, (tt, (tt, (tt, (tt, (tt, (tt, ((1, one (omega arith) refl), (tt, tt))))))))) in
    first_is Client used (short_hello Client (source_bytes ++ 14 ∷ 1 ∷ 1 ∷ [])) h OutOfRange
    (short_is Client (source ∷ one_id ∷ []) ((omega arith, omega arith), ((omega arith, omega arith), tt)) (omega arith))
    (record {
      broken = λ r. let l : 2 ≤ 1 = r.id_limit 1 (one (omega arith) refl) in omega (arith, l);
      below = to_token used h (to_used used h values (record { original = refl; source = refl; retry = refl })) tt;
    })

pub many_streams_is : IsHelloFault Client known_at_server (short_hello Client (source_bytes ++ 8 ∷ 8 ∷ 208 ∷ 0 ∷ 0 ∷ 0 ∷ 0 ∷ 0 ∷ 0 ∷ 1 ∷ [])) OutOfRange
many_streams_is =
    let h : Hello = with_number many_streams in
    let used : IdsUsed = known_at_server in
    let ids = to_ids used h (to_name used h (omega arith)) (distinct_two 15 8 (λ e. omega (arith, e))) in
    let server = to_server used h ids (λ e. (refl, (refl, (refl, tt)))) in
    let values = to_numbers used h server (tt, (tt, (tt, (tt, (tt, ((2 ^ 60 + 1, eight (omega arith) refl), (tt, (tt, (tt, tt))))))))) in
    first_is Client used (short_hello Client (source_bytes ++ 8 ∷ 8 ∷ 208 ∷ 0 ∷ 0 ∷ 0 ∷ 0 ∷ 0 ∷ 0 ∷ 1 ∷ [])) h OutOfRange
    (short_is Client (source ∷ many_streams ∷ []) ((omega arith, omega arith), ((omega arith, omega arith), tt)) (omega arith))
    (record {
      broken = λ r. let l : 2 ^ 60 + 1 ≤ 2 ^ 60 = r.max_bidi (2 ^ 60 + 1) (eight (omega arith) refl) in omega (arith, l);
      below = to_token used h (to_used used h values (record { original = refl; source = refl; retry = refl })) tt;
    })
