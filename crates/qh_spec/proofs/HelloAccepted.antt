-- The hello that an end writes is acceptable to a reader that knows its ids.
use Rattle.std.proofs.Common.{◌≡◌, inl, inr, ℕ, ◌+◌, ◌<◌, ◌≤◌, ◌^◌, List, [], ◌∷◌, ◌++◌, length, Option, Some, None, refl, sym, ◌∙◌, arith, subst}
use Rattle.std.specs.Prelude.{map}
use Rattle.std.specs.List.{AllByRecursion}
use Rattle.qh_spec.specs.Hello.{Parameter, Hello, hello_bytes, value_of, Greeting, bytes_if_some, number_if_some, hello_of, IfThere, IsSayable}
use Rattle.qh_spec.specs.HelloFaults.{IdsUsed, HelloFault, NotAHello, LongName, RepeatedId, ServerOnly, NotANumber, OtherId, TokenLength, OutOfRange, server_only, numbers, HasDistinctIds, IsAbsent, IsNumberOrAbsent, IsInRange, Keeps, IsAcceptable}
use Rattle.qh_spec.specs.Lists.{In, Distinct}
use Rattle.qh_spec.specs.ParameterIds as parameter_ids
use Rattle.qh_spec.specs.Varint.{IsVarint, varint}
use Rattle.qh_spec.specs.declared.sides.Side.TheVariants.{Client}
use Rattle.qh_spec.proofs.HelloLaws.{hello_written, one_number}
use Rattle.qh_spec.proofs.HelloWritten.{last, limits_on, idle_on, has_spelling, says_limits, says_id_limit, from_limits, original_value, idle_value, token_value, source_value, retry_value, datagram_value, id_limit_value}
use Rattle.qh_spec.proofs.Varints.{varint_spelled}

-- ---- no id stands twice, since they rise

abbrev pub AreRising : ℕ → List Parameter → Type 0
AreRising least [] = Unit {0}
AreRising least (p ∷ ps) = (least ≤ p.id) × AreRising (p.id + 1) ps

rising_less : (m n : ℕ) (ps : List Parameter) → m ≤ n → AreRising n ps → AreRising m ps
rising_less m n [] l r = tt
rising_less m n (p ∷ ps) l r = (let a = r.0 in omega (arith, l, a), r.1)

rising_bytes : (least id : ℕ) (o : Option (List ℕ)) (ps : List Parameter) → least ≤ id → AreRising (id + 1) ps → AreRising least (bytes_if_some id o ++ ps)
rising_bytes least id None ps l r = rising_less least (id + 1) ps (omega (arith, l)) r
rising_bytes least id (Some value) ps l r = (l, r)

rising_number : (least id : ℕ) (o : Option ℕ) → least ≤ id → AreRising least (number_if_some id o)
rising_number least id None l = tt
rising_number least id (Some n) l = (l, tt)

abbrev pub ids_of : List Parameter → List ℕ
ids_of ps = map (λ (p : Parameter). p.id) ps

none_below : (x least : ℕ) (ps : List Parameter) → x < least → AreRising least ps → In x (ids_of ps) → ⊥
none_below x least [] l r i = i
none_below x least (p ∷ ps) l r (inl e) = let a = r.0 in omega (arith, l, a, e)
none_below x least (p ∷ ps) l r (inr i) = none_below x (p.id + 1) ps (let a = r.0 in omega (arith, l, a)) r.1 i

pub rising_distinct : (least : ℕ) (ps : List Parameter) → AreRising least ps → Distinct (ids_of ps)
rising_distinct least [] r = tt
rising_distinct least (p ∷ ps) r = (λ i. none_below p.id (p.id + 1) ps (omega arith) r.1 i, rising_distinct (p.id + 1) ps r.1)

distinct_ids : (g : Greeting) → HasDistinctIds (hello_of g)
distinct_ids g =
    let ends : AreRising 16 (last g) = rising_bytes 16 parameter_ids.retry_source_connection_id g.retry_id (number_if_some parameter_ids.max_datagram_frame_size g.datagram) (omega arith)
    (rising_number 17 parameter_ids.max_datagram_frame_size g.datagram (omega arith)) in
    let limits : AreRising 3 (limits_on g) = (omega arith, (omega arith, (omega arith, (omega arith, (omega arith, (omega arith, (omega arith, (omega arith, ends)))))))) in
    let tokens = rising_bytes 2 parameter_ids.stateless_reset_token g.reset_token (limits_on g) (omega arith) limits in
    rising_distinct 0 (hello_of g).parameters (rising_bytes 0 parameter_ids.original_destination_connection_id g.original_id (idle_on g) (omega arith) (omega arith, tokens))

-- ---- each number is one

number_there : (h : Hello) (id n : ℕ) → n < 2 ^ 62 → value_of id h.parameters ≡ Some (varint n) → IsNumberOrAbsent h id
number_there h id n bound e = subst (IfThere (λ (value : List ℕ). (m : ℕ) × IsVarint value m)) (sym e) (n, varint_spelled n bound)

size_there : (o : Option ℕ) → IfThere (λ (n : ℕ). n < 2 ^ 62) o
    → IfThere (λ (value : List ℕ). (m : ℕ) × IsVarint value m) (value_of parameter_ids.max_datagram_frame_size (number_if_some parameter_ids.max_datagram_frame_size o))
size_there None s = tt
size_there (Some n) s = (n, varint_spelled n s)

are_numbers : (g : Greeting) → IsSayable g → AllByRecursion (IsNumberOrAbsent (hello_of g)) numbers
are_numbers g s =
    let h : Hello = hello_of g in
    let bidi = s.limits.max_bidi in
    let uni = s.limits.max_uni in
    let size : IsNumberOrAbsent h parameter_ids.max_datagram_frame_size
    = subst (IfThere (λ (value : List ℕ). (m : ℕ) × IsVarint value m)) (sym (datagram_value g)) (size_there g.datagram s.datagram) in (
      number_there h parameter_ids.max_idle_timeout g.idle s.idle (idle_value g),
      (
        number_there h parameter_ids.initial_max_data g.limits.max_data s.limits.max_data (from_limits g parameter_ids.initial_max_data refl refl refl),
        (
          number_there h parameter_ids.initial_max_stream_data_bidi_local g.limits.bidi_local s.limits.bidi_local (from_limits g parameter_ids.initial_max_stream_data_bidi_local refl refl refl),
          (
            number_there h parameter_ids.initial_max_stream_data_bidi_remote g.limits.bidi_remote s.limits.bidi_remote (from_limits g parameter_ids.initial_max_stream_data_bidi_remote refl refl refl),
            (
              number_there h parameter_ids.initial_max_stream_data_uni g.limits.uni s.limits.uni (from_limits g parameter_ids.initial_max_stream_data_uni refl refl refl),
              (
                number_there h parameter_ids.initial_max_streams_bidi g.limits.max_bidi (omega (arith, bidi)) (from_limits g parameter_ids.initial_max_streams_bidi refl refl refl),
                (
                  number_there h parameter_ids.initial_max_streams_uni g.limits.max_uni (omega (arith, uni)) (from_limits g parameter_ids.initial_max_streams_uni refl refl refl),
                  (number_there h parameter_ids.active_connection_id_limit g.id_limit s.id_limit (id_limit_value g), (size, tt)),
                ),
              ),
            ),
          ),
        ),
      ),
    )

-- ---- the other rules

none_of_servers : (g : Greeting) → IsSayable g → g.sender ≡ Client → AllByRecursion (IsAbsent (hello_of g)) server_only
none_of_servers g s e = let none = s.client e in (original_value g ∙ none.0, (token_value g ∙ none.1, (retry_value g ∙ none.2, tt)))

in_range : (g : Greeting) → IsSayable g → IsInRange (hello_of g)
in_range g s =
    let says = says_limits g s in
    let some = s.some_ids in
    let bidi = s.limits.max_bidi in
    let uni = s.limits.max_uni in
    record {
      id_limit = λ n k. let e = one_number parameter_ids.active_connection_id_limit 2 n g.id_limit (hello_of g) k (says_id_limit g s) in omega (arith, e, some);
      max_bidi = λ n k. let e = one_number parameter_ids.initial_max_streams_bidi 0 n g.limits.max_bidi (hello_of g) k says.max_bidi in omega (arith, e, bidi);
      max_uni = λ n k. let e = one_number parameter_ids.initial_max_streams_uni 0 n g.limits.max_uni (hello_of g) k says.max_uni in omega (arith, e, uni);
    }

-- the ids that a greeting gives
abbrev given_ids : Greeting → IdsUsed
given_ids g = record { original = g.original_id; source = g.source_id; retry = g.retry_id }

keeps_all : (g : Greeting) → IsSayable g → (rule : HelloFault) → Keeps (given_ids g) (hello_of g) rule
keeps_all g s NotAHello = tt
keeps_all g s LongName = s.name
keeps_all g s RepeatedId = distinct_ids g
keeps_all g s ServerOnly = λ e. none_of_servers g s e
keeps_all g s NotANumber = are_numbers g s
keeps_all g s OtherId = record { original = original_value g; source = source_value g; retry = retry_value g }
keeps_all g s TokenLength = subst (IfThere (λ (token : List ℕ). length token ≡ 16)) (sym (token_value g)) s.reset_token
keeps_all g s OutOfRange = in_range g s

pub written_acceptable : (g : Greeting) → IsSayable g → IsAcceptable g.sender (given_ids g) (hello_bytes (hello_of g)) (hello_of g)
written_acceptable g s = record { is = (hello_written (hello_of g) (has_spelling g s), refl); keeps = keeps_all g s }
