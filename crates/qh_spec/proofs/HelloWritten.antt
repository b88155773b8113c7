-- What the hello of a greeting says, and that it has a spelling.
use Rattle.std.proofs.Common.{◌≡◌, ℕ, ◌+◌, ◌*◌, ◌<◌, ◌≤◌, ◌^◌, ◌==◌, nat_lt, true, false, inl, inr, List, [], ◌∷◌, ◌++◌, length, Option, Some, None, refl, sym, ◌∙◌, arith, subst, length-append}
use Rattle.std.specs.Prelude.{flat_map, MatchOption}
use Rattle.std.specs.List.{AllByRecursion}
use Rattle.std.proofs.lemmas.Bool.{cases_lt, lt-ltb, le-ltb}
use Rattle.qh_spec.specs.ParameterIds as parameter_ids
use Rattle.qh_spec.specs.Hello.{Parameter, Hello, HasSpelling, parameter_bytes, value_of, SaysNumber, SaysLimits, SaysIdleTimeout, SaysIdLimit, SaysDatagramSize, FirstLimits, Greeting, number_parameter, bytes_if_some, number_if_some, limit_parameters, hello_of, IfThere, IsSayable}
use Rattle.qh_spec.specs.Varint.{IsVarint, varint}
use Rattle.qh_spec.proofs.Varints.{varint_spelled}

-- ---- the value of each parameter

skipped : (id other : ℕ) (o : Option (List ℕ)) (ps : List Parameter) → (other == id) ≡ false → value_of id (bytes_if_some other o ++ ps) ≡ value_of id ps
skipped id other None ps e = refl
skipped id other (Some value) ps e = rw e refl

found : (id : ℕ) (o : Option (List ℕ)) (ps : List Parameter) → (id == id) ≡ true → value_of id ps ≡ None → value_of id (bytes_if_some id o ++ ps) ≡ o
found id None ps e none = none
found id (Some value) ps e none = rw e refl

no_number : (id other : ℕ) (o : Option ℕ) → (other == id) ≡ false → value_of id (number_if_some other o) ≡ None
no_number id other None e = refl
no_number id other (Some n) e = rw e refl

-- the parameters from the retry source id on, from the first limit on, and from the idle timeout on
abbrev pub last : Greeting → List Parameter
last g = bytes_if_some parameter_ids.retry_source_connection_id g.retry_id ++ number_if_some parameter_ids.max_datagram_frame_size g.datagram

abbrev pub limits_on : Greeting → List Parameter
limits_on g = limit_parameters g.limits ++ (number_parameter parameter_ids.active_connection_id_limit g.id_limit ∷ record { id = parameter_ids.initial_source_connection_id; value = g.source_id } ∷ last g)

abbrev pub idle_on : Greeting → List Parameter
idle_on g = number_parameter parameter_ids.max_idle_timeout g.idle ∷ (bytes_if_some parameter_ids.stateless_reset_token g.reset_token ++ limits_on g)

none_last : (g : Greeting) (id : ℕ) → (parameter_ids.retry_source_connection_id == id) ≡ false → (parameter_ids.max_datagram_frame_size == id) ≡ false → value_of id (last g) ≡ None
none_last g id e f =
    skipped id parameter_ids.retry_source_connection_id g.retry_id (number_if_some parameter_ids.max_datagram_frame_size g.datagram) e
    ∙ no_number id parameter_ids.max_datagram_frame_size g.datagram f

-- what isn't one of the first three is one of the limits or behind them
pub from_limits : (g : Greeting) (id : ℕ) → (parameter_ids.original_destination_connection_id == id) ≡ false → (parameter_ids.max_idle_timeout == id) ≡ false → (parameter_ids.stateless_reset_token == id) ≡ false
    → value_of id (hello_of g).parameters ≡ value_of id (limits_on g)
from_limits g id a b c =
    skipped id parameter_ids.original_destination_connection_id g.original_id (idle_on g) a
    ∙ rw b (skipped id parameter_ids.stateless_reset_token g.reset_token (limits_on g) c)

pub original_value : (g : Greeting) → value_of parameter_ids.original_destination_connection_id (hello_of g).parameters ≡ g.original_id
original_value g =
    found parameter_ids.original_destination_connection_id g.original_id (idle_on g) refl
    (skipped parameter_ids.original_destination_connection_id parameter_ids.stateless_reset_token g.reset_token (limits_on g) refl ∙ none_last g parameter_ids.original_destination_connection_id refl refl)

pub idle_value : (g : Greeting) → value_of parameter_ids.max_idle_timeout (hello_of g).parameters ≡ Some (varint g.idle)
idle_value g = skipped parameter_ids.max_idle_timeout parameter_ids.original_destination_connection_id g.original_id (idle_on g) refl

pub token_value : (g : Greeting) → value_of parameter_ids.stateless_reset_token (hello_of g).parameters ≡ g.reset_token
token_value g =
    skipped parameter_ids.stateless_reset_token parameter_ids.original_destination_connection_id g.original_id (idle_on g) refl
    ∙ found parameter_ids.stateless_reset_token g.reset_token (limits_on g) refl (none_last g parameter_ids.stateless_reset_token refl refl)

pub source_value : (g : Greeting) → value_of parameter_ids.initial_source_connection_id (hello_of g).parameters ≡ Some g.source_id
source_value g = from_limits g parameter_ids.initial_source_connection_id refl refl refl

pub retry_value : (g : Greeting) → value_of parameter_ids.retry_source_connection_id (hello_of g).parameters ≡ g.retry_id
retry_value g =
    from_limits g parameter_ids.retry_source_connection_id refl refl refl
    ∙ found parameter_ids.retry_source_connection_id g.retry_id (number_if_some parameter_ids.max_datagram_frame_size g.datagram) refl
    (no_number parameter_ids.retry_source_connection_id parameter_ids.max_datagram_frame_size g.datagram refl)

pub datagram_value : (g : Greeting) → value_of parameter_ids.max_datagram_frame_size (hello_of g).parameters ≡ value_of parameter_ids.max_datagram_frame_size (number_if_some parameter_ids.max_datagram_frame_size g.datagram)
datagram_value g =
    from_limits g parameter_ids.max_datagram_frame_size refl refl refl
    ∙ skipped parameter_ids.max_datagram_frame_size parameter_ids.retry_source_connection_id g.retry_id (number_if_some parameter_ids.max_datagram_frame_size g.datagram) refl

pub id_limit_value : (g : Greeting) → value_of parameter_ids.active_connection_id_limit (hello_of g).parameters ≡ Some (varint g.id_limit)
id_limit_value g = from_limits g parameter_ids.active_connection_id_limit refl refl refl

-- ---- what it says

says_at : (id default n : ℕ) (h : Hello) → n < 2 ^ 62 → value_of id h.parameters ≡ Some (varint n) → SaysNumber id default h n
says_at id default n h bound e = subst (λ (o : Option (List ℕ)). MatchOption o (n ≡ default) (λ value. IsVarint value n)) (sym e) (varint_spelled n bound)

pub says_limits : (g : Greeting) → IsSayable g → SaysLimits (hello_of g) g.limits
says_limits g s =
    let few_bidi : g.limits.max_bidi < 2 ^ 62 = (let b = s.limits.max_bidi in omega (arith, b)) in
    let few_uni : g.limits.max_uni < 2 ^ 62 = (let b = s.limits.max_uni in omega (arith, b)) in
    record {
      max_data = says_at parameter_ids.initial_max_data 0 g.limits.max_data (hello_of g) s.limits.max_data (from_limits g parameter_ids.initial_max_data refl refl refl);
      bidi_local = says_at parameter_ids.initial_max_stream_data_bidi_local 0 g.limits.bidi_local (hello_of g) s.limits.bidi_local (from_limits g parameter_ids.initial_max_stream_data_bidi_local refl refl refl);
      bidi_remote = says_at parameter_ids.initial_max_stream_data_bidi_remote 0 g.limits.bidi_remote (hello_of g) s.limits.bidi_remote (from_limits g parameter_ids.initial_max_stream_data_bidi_remote refl refl refl);
      uni = says_at parameter_ids.initial_max_stream_data_uni 0 g.limits.uni (hello_of g) s.limits.uni (from_limits g parameter_ids.initial_max_stream_data_uni refl refl refl);
      max_bidi = says_at parameter_ids.initial_max_streams_bidi 0 g.limits.max_bidi (hello_of g) few_bidi (from_limits g parameter_ids.initial_max_streams_bidi refl refl refl);
      max_uni = says_at parameter_ids.initial_max_streams_uni 0 g.limits.max_uni (hello_of g) few_uni (from_limits g parameter_ids.initial_max_streams_uni refl refl refl);
    }

pub says_idle : (g : Greeting) → IsSayable g → SaysIdleTimeout (hello_of g) g.idle
says_idle g s = says_at parameter_ids.max_idle_timeout 0 g.idle (hello_of g) s.idle (idle_value g)

pub says_id_limit : (g : Greeting) → IsSayable g → SaysIdLimit (hello_of g) g.id_limit
says_id_limit g s = says_at parameter_ids.active_connection_id_limit 2 g.id_limit (hello_of g) s.id_limit (id_limit_value g)

says_size : (o : Option ℕ) (h : Hello) → IfThere (λ (n : ℕ). n < 2 ^ 62) o → value_of parameter_ids.max_datagram_frame_size h.parameters ≡ value_of parameter_ids.max_datagram_frame_size (number_if_some parameter_ids.max_datagram_frame_size o) → SaysDatagramSize h o
says_size None h s e = e
says_size (Some n) h s e = (varint n, e, varint_spelled n s)

pub says_datagram : (g : Greeting) → IsSayable g → SaysDatagramSize (hello_of g) g.datagram
says_datagram g s = says_size g.datagram (hello_of g) s.datagram (datagram_value g)

-- ---- it has a spelling

pub varint_length : (n : ℕ) → length (varint n) ≤ 8
unfolding varint
varint_length n =
    elim (cases_lt n (2 ^ 6)) [
      | inl h ↦ let t : nat_lt n (2 ^ 6) ≡ true = lt-ltb n (2 ^ 6) h in rw t (omega arith)
      | inr g ↦ let t : nat_lt n (2 ^ 6) ≡ false = le-ltb n (2 ^ 6) g in
          elim (cases_lt n (2 ^ 14)) [
            | inl h ↦ let u : nat_lt n (2 ^ 14) ≡ true = lt-ltb n (2 ^ 14) h in rw (t, u) (omega arith)
            | inr g ↦ let u : nat_lt n (2 ^ 14) ≡ false = le-ltb n (2 ^ 14) g in
                elim (cases_lt n (2 ^ 30)) [
                  | inl h ↦ let v : nat_lt n (2 ^ 30) ≡ true = lt-ltb n (2 ^ 30) h in rw (t, u, v) (omega arith)
                  | inr g ↦ let v : nat_lt n (2 ^ 30) ≡ false = le-ltb n (2 ^ 30) g in rw (t, u, v) (omega arith)
                ]
          ]
    ]

-- a parameter with a known id and a value of at most 20 bytes
abbrev IsSmall : Parameter → Type 0
IsSmall p = (p.id < 2 ^ 62) × (length p.value ≤ 20)

small_bytes : (id : ℕ) (o : Option (List ℕ)) (ps : List Parameter) → id < 2 ^ 62 → IfThere (λ (value : List ℕ). length value ≤ 20) o → AllByRecursion IsSmall ps → AllByRecursion IsSmall (bytes_if_some id o ++ ps)
small_bytes id None ps i s all = all
small_bytes id (Some value) ps i s all = ((i, s), all)

small_number : (id n : ℕ) → id < 2 ^ 62 → IsSmall (number_parameter id n)
small_number id n i = let l = varint_length n in (i, omega (arith, l))

small_last_number : (id : ℕ) (o : Option ℕ) → id < 2 ^ 62 → AllByRecursion IsSmall (number_if_some id o)
small_last_number id None i = tt
small_last_number id (Some n) i = (small_number id n i, tt)

token_small : (o : Option (List ℕ)) → IfThere (λ (token : List ℕ). length token ≡ 16) o → IfThere (λ (value : List ℕ). length value ≤ 20) o
token_small None s = tt
token_small (Some token) s = omega (arith, s)

all_small : (g : Greeting) → IsSayable g → AllByRecursion IsSmall (hello_of g).parameters
all_small g s =
    let l : FirstLimits = g.limits in
    let ends = small_bytes parameter_ids.retry_source_connection_id g.retry_id (number_if_some parameter_ids.max_datagram_frame_size g.datagram) (omega arith) s.retry_id
    (small_last_number parameter_ids.max_datagram_frame_size g.datagram (omega arith)) in
    let limits : AllByRecursion IsSmall (limits_on g) = (
      small_number parameter_ids.initial_max_data l.max_data (omega arith),
      (
        small_number parameter_ids.initial_max_stream_data_bidi_local l.bidi_local (omega arith),
        (
          small_number parameter_ids.initial_max_stream_data_bidi_remote l.bidi_remote (omega arith),
          (
            small_number parameter_ids.initial_max_stream_data_uni l.uni (omega arith),
            (
              small_number parameter_ids.initial_max_streams_bidi l.max_bidi (omega arith),
              (
                small_number parameter_ids.initial_max_streams_uni l.max_uni (omega arith),
                (small_number parameter_ids.active_connection_id_limit g.id_limit (omega arith), ((omega arith, s.source_id), ends)),
              ),
            ),
          ),
        ),
      ),
    ) in
    let tokens = small_bytes parameter_ids.stateless_reset_token g.reset_token (limits_on g) (omega arith) (token_small g.reset_token s.reset_token) limits in
    small_bytes parameter_ids.original_destination_connection_id g.original_id (idle_on g) (omega arith) s.original_id
    (small_number parameter_ids.max_idle_timeout g.idle (omega arith), tokens)

spelled_small : (ps : List Parameter) → AllByRecursion IsSmall ps → AllByRecursion (λ (p : Parameter). (p.id < 2 ^ 62) × (length p.value < 2 ^ 62)) ps
spelled_small [] all = tt
spelled_small (p ∷ ps) all = let few = all.0.1 in ((all.0.0, omega (arith, few)), spelled_small ps all.1)

length_small : (ps : List Parameter) → AllByRecursion IsSmall ps → length (flat_map parameter_bytes ps) ≤ 36 * length ps
length_small [] all = omega arith
length_small (p ∷ ps) all =
    let more = length_small ps all.1 in
    let few = all.0.1 in
    let a = length-append (parameter_bytes p) (flat_map parameter_bytes ps) in
    let b = length-append (varint p.id) (varint (length p.value) ++ p.value) in
    let c = length-append (varint (length p.value)) p.value in
    let d = varint_length p.id in
    let e = varint_length (length p.value) in
    omega (arith, more, few, a, b, c, d, e)

few_bytes : (id : ℕ) (o : Option (List ℕ)) (ps : List Parameter) → length (bytes_if_some id o ++ ps) ≤ 1 + length ps
few_bytes id None ps = omega arith
few_bytes id (Some value) ps = omega arith

few_numbers : (id : ℕ) (o : Option ℕ) → length (number_if_some id o) ≤ 1
few_numbers id None = omega arith
few_numbers id (Some n) = omega arith

few_parameters : (g : Greeting) → length (hello_of g).parameters ≤ 13
few_parameters g =
    let a = few_bytes parameter_ids.original_destination_connection_id g.original_id (idle_on g) in
    let b = few_bytes parameter_ids.stateless_reset_token g.reset_token (limits_on g) in
    let c = few_bytes parameter_ids.retry_source_connection_id g.retry_id (number_if_some parameter_ids.max_datagram_frame_size g.datagram) in
    let d = few_numbers parameter_ids.max_datagram_frame_size g.datagram in
    omega (arith, a, b, c, d)

pub has_spelling : (g : Greeting) → IsSayable g → HasSpelling (hello_of g)
has_spelling g s =
    let small = all_small g s in
    let total = length_small (hello_of g).parameters small in
    let count = few_parameters g in
    let name = s.name in
    record {
      name = omega (arith, name);
      parameters = spelled_small (hello_of g).parameters small;
      all = omega (arith, total, count);
    }
