-- Worked hellos, and what they say.
use Rattle.std.proofs.Common.{◌≡◌, inl, inr, ℕ, ◌<◌, ◌≤◌, ◌^◌, List, [], ◌∷◌, ◌++◌, length, None, refl, sym, ◌∙◌, arith}
use Rattle.std.specs.Prelude.{flat_map}
use Rattle.std.specs.List.{AllByRecursion}
use Rattle.qh_spec.specs.Hello.{Parameter, IsParameter, AreParameters, Hello, IsHello, IsHelloOf, SaysNumber, SaysLimits, SaysIdleTimeout, SaysIdLimit, SaysDatagramSize, SaysSourceId}
use Rattle.qh_spec.specs.HelloFaults.{IdsUsed, HelloFault, NotAHello, LongName, RepeatedId, ServerOnly, NotANumber, OtherId, TokenLength, OutOfRange, server_only, numbers, HasDistinctIds, IsAbsent, IsNumberOrAbsent, HasIdsUsed, HasWholeToken, IsInRange, Keeps, IsAcceptable}
use Rattle.qh_spec.specs.HelloRows.{client_hello_bytes, client_hello, client_limits, client_ids, short_hello, plain_hello, source_bytes, source, original_bytes, original, least_ids, most_streams, known_at_server, known_at_client}
use Rattle.qh_spec.specs.Lists.{Distinct}
use Rattle.qh_spec.specs.ParameterIds as parameter_ids
use Rattle.qh_spec.specs.Varint.{one, two, four, eight}
use Rattle.qh_spec.specs.declared.sides.Side.{Side}
use Rattle.qh_spec.specs.declared.sides.Side.TheVariants.{Client, Server}
use Rattle.qh_spec.proofs.HelloAccepted.{rising_distinct}
use Rattle.qh_spec.proofs.HelloFaultLaws.{KeepsBelow, one_further, few_places}
use Rattle.qh_spec.proofs.HelloLaws.{one_number}

-- ---- short parameters: an id and a length of one byte each

abbrev pub IsTiny : Parameter → Type 0
IsTiny p = (p.id < 2 ^ 6) × (length p.value < 2 ^ 6)

abbrev pub tiny_bytes : Parameter → List ℕ
tiny_bytes p = p.id ∷ length p.value ∷ p.value

tiny_is : (p : Parameter) (rest : List ℕ) → IsTiny p → IsParameter (p.id ∷ length p.value ∷ (p.value ++ rest)) p rest
tiny_is p rest t = record { id_bytes = p.id ∷ []; length_bytes = length p.value ∷ []; whole = refl; id_is = one t.0 refl; length_is = one t.1 refl }

pub tiny_are : (ps : List Parameter) → AllByRecursion IsTiny ps → AreParameters (flat_map tiny_bytes ps) ps
tiny_are [] t = refl
tiny_are (p ∷ ps) t = (flat_map tiny_bytes ps, tiny_is p (flat_map tiny_bytes ps) t.0, tiny_are ps t.1)

pub short_is : (s : Side) (ps : List Parameter) → AllByRecursion IsTiny ps → length (flat_map tiny_bytes ps) < 2 ^ 6 → IsHelloOf s (short_hello s (flat_map tiny_bytes ps)) (plain_hello s ps)
short_is s ps t few = (
  record {
    name_length = 0 ∷ [];
    parameters_length = length (flat_map tiny_bytes ps) ∷ [];
    parameter_bytes = flat_map tiny_bytes ps;
    whole = refl;
    name_is = one (omega arith) refl;
    length_is = one few refl;
    parameters = tiny_are ps t;
  },
  refl,
)

-- ---- rules that are kept, one behind the other

pub to_hello : (used : IdsUsed) (h : Hello) → KeepsBelow used h 1
to_hello used h = one_further used h NotAHello (λ rule l. absurd (omega (arith, l))) tt

pub to_name : (used : IdsUsed) (h : Hello) → length h.server_name ≤ 255 → KeepsBelow used h 2
to_name used h l = one_further used h LongName (to_hello used h) l

pub to_ids : (used : IdsUsed) (h : Hello) → KeepsBelow used h 2 → HasDistinctIds h → KeepsBelow used h 3
to_ids used h b k = one_further used h RepeatedId b k

pub to_server : (used : IdsUsed) (h : Hello) → KeepsBelow used h 3 → (h.sender ≡ Client → AllByRecursion (IsAbsent h) server_only) → KeepsBelow used h 4
to_server used h b k = one_further used h ServerOnly b k

pub to_numbers : (used : IdsUsed) (h : Hello) → KeepsBelow used h 4 → AllByRecursion (IsNumberOrAbsent h) numbers → KeepsBelow used h 5
to_numbers used h b k = one_further used h NotANumber b k

pub to_used : (used : IdsUsed) (h : Hello) → KeepsBelow used h 5 → HasIdsUsed used h → KeepsBelow used h 6
to_used used h b k = one_further used h OtherId b k

pub to_token : (used : IdsUsed) (h : Hello) → KeepsBelow used h 6 → HasWholeToken h → KeepsBelow used h 7
to_token used h b k = one_further used h TokenLength b k

pub to_range : (used : IdsUsed) (h : Hello) → KeepsBelow used h 7 → IsInRange h → (rule : HelloFault) → Keeps used h rule
to_range used h b k rule = one_further used h OutOfRange b k rule (few_places rule)

pub not_client : {X : Type 0} (s : Side) → s ≡ Server → s ≡ Client → X
not_client s e f = absurd (let wrong : Server ≡ Client = sym e ∙ f in cc)

pub range_of : (h : Hello) (ids bidi uni : ℕ) → SaysIdLimit h ids → 2 ≤ ids → SaysNumber parameter_ids.initial_max_streams_bidi 0 h bidi → bidi ≤ 2 ^ 60
    → SaysNumber parameter_ids.initial_max_streams_uni 0 h uni → uni ≤ 2 ^ 60 → IsInRange h
range_of h ids bidi uni a la b lb c lc = record {
  id_limit = λ n k. let e = one_number parameter_ids.active_connection_id_limit 2 n ids h k a in omega (arith, e, la);
  max_bidi = λ n k. let e = one_number parameter_ids.initial_max_streams_bidi 0 n bidi h k b in omega (arith, e, lb);
  max_uni = λ n k. let e = one_number parameter_ids.initial_max_streams_uni 0 n uni h k c in omega (arith, e, lc);
}

pub distinct_two : (a b : ℕ) → (b ≡ a → ⊥) → Distinct (a ∷ b ∷ [])
distinct_two a b n = (λ i. elim i [ inl e ↦ n e | inr m ↦ m ], (λ i. i, tt))

pub distinct_three : (a b c : ℕ) → (b ≡ a → ⊥) → (c ≡ a → ⊥) → (c ≡ b → ⊥) → Distinct (a ∷ b ∷ c ∷ [])
distinct_three a b c n m k = (λ i. elim i [ inl e ↦ n e | inr j ↦ elim j [ inl e ↦ m e | inr l ↦ l ] ], distinct_two b c k)

-- ---- a client's hello

pub client_is : IsHello client_hello_bytes client_hello
client_is = record {
  name_length = 6 ∷ [];
  parameters_length = 31 ∷ [];
  parameter_bytes = flat_map tiny_bytes client_hello.parameters;
  whole = refl;
  name_is = one (omega arith) refl;
  length_is = one (omega arith) refl;
  parameters = tiny_are client_hello.parameters (
    (omega arith, omega arith),
    ((omega arith, omega arith), ((omega arith, omega arith), ((omega arith, omega arith), ((omega arith, omega arith), ((omega arith, omega arith), tt))))),
  );
}

pub client_says : SaysLimits client_hello client_limits
client_says = record {
  max_data = two (omega arith) refl;
  bidi_local = refl;
  bidi_remote = refl;
  uni = refl;
  max_bidi = two (omega arith) refl;
  max_uni = refl;
}

pub client_others : SaysIdleTimeout client_hello 30000 × SaysIdLimit client_hello 8 × SaysDatagramSize client_hello None × SaysSourceId client_hello client_ids.source
client_others = (four (omega arith) refl, two (omega arith) refl, refl, refl)

pub near_client_others : (SaysIdleTimeout client_hello 0 → ⊥) × (SaysIdLimit client_hello 2 → ⊥)
near_client_others = (
  λ s. let e : 0 ≡ 30000 = one_number parameter_ids.max_idle_timeout 0 0 30000 client_hello s client_others.0 in omega (arith, e),
  λ s. let e : 2 ≡ 8 = one_number parameter_ids.active_connection_id_limit 2 2 8 client_hello s client_others.1 in omega (arith, e),
)

client_numbers : AllByRecursion (IsNumberOrAbsent client_hello) numbers
client_numbers = (
  (30000, four (omega arith) refl),
  ((1000, two (omega arith) refl), (tt, (tt, (tt, ((100, two (omega arith) refl), (tt, ((8, two (omega arith) refl), (tt, tt)))))))),
)

pub client_acceptable : IsAcceptable Client client_ids client_hello_bytes client_hello
client_acceptable =
    let ids : KeepsBelow client_ids client_hello 3 = to_ids client_ids client_hello (to_name client_ids client_hello (omega arith))
    (rising_distinct 0 client_hello.parameters (omega arith, (omega arith, (omega arith, (omega arith, (omega arith, (omega arith, tt))))))) in
    let server = to_server client_ids client_hello ids (λ e. (refl, (refl, (refl, tt)))) in
    let used = to_used client_ids client_hello (to_numbers client_ids client_hello server client_numbers) (record { original = refl; source = refl; retry = refl }) in
    record {
      is = (client_is, refl);
      keeps = to_range client_ids client_hello (to_token client_ids client_hello used tt)
          (range_of client_hello 8 100 0 client_others.1 (omega arith) client_says.max_bidi (omega arith) refl (omega arith));
    }

-- ---- a hello that says as little as it may

abbrev pub silent : Hello
silent = plain_hello Client (source ∷ [])

pub silent_says : SaysLimits silent (record { max_data = 0; bidi_local = 0; bidi_remote = 0; uni = 0; max_bidi = 0; max_uni = 0 })
    × SaysIdleTimeout silent 0 × SaysIdLimit silent 2 × SaysDatagramSize silent None
silent_says = (record { max_data = refl; bidi_local = refl; bidi_remote = refl; uni = refl; max_bidi = refl; max_uni = refl }, refl, refl, refl)

pub silent_acceptable : IsAcceptable Client known_at_server (short_hello Client source_bytes) silent
silent_acceptable =
    let ids = to_ids known_at_server silent (to_name known_at_server silent (omega arith)) (λ i. i, tt) in
    let server = to_server known_at_server silent ids (λ e. (refl, (refl, (refl, tt)))) in
    let values = to_numbers known_at_server silent server (tt, (tt, (tt, (tt, (tt, (tt, (tt, (tt, (tt, tt))))))))) in
    let used = to_used known_at_server silent values (record { original = refl; source = refl; retry = refl }) in
    record {
      is = short_is Client (source ∷ []) ((omega arith, omega arith), tt) (omega arith);
      keeps = to_range known_at_server silent (to_token known_at_server silent used tt) (range_of silent 2 0 0 refl (omega arith) refl (omega arith) refl (omega arith));
    }

abbrev server_hello : Hello
server_hello = plain_hello Server (source ∷ original ∷ [])

pub server_acceptable : IsAcceptable Server known_at_client (short_hello Server (source_bytes ++ original_bytes)) server_hello
server_acceptable =
    let ids = to_ids known_at_client server_hello (to_name known_at_client server_hello (omega arith)) (distinct_two 15 0 (λ e. omega (arith, e))) in
    let server = to_server known_at_client server_hello ids (λ e. not_client Server refl e) in
    let values = to_numbers known_at_client server_hello server (tt, (tt, (tt, (tt, (tt, (tt, (tt, (tt, (tt, tt))))))))) in
    let used = to_used known_at_client server_hello values (record { original = refl; source = refl; retry = refl }) in
    record {
      is = short_is Server (source ∷ original ∷ []) ((omega arith, omega arith), ((omega arith, omega arith), tt)) (omega arith);
      keeps = to_range known_at_client server_hello (to_token known_at_client server_hello used tt) (range_of server_hello 2 0 0 refl (omega arith) refl (omega arith) refl (omega arith));
    }

abbrev bounds_hello : Hello
bounds_hello = plain_hello Client (source ∷ least_ids ∷ most_streams ∷ [])

pub bounds_acceptable : IsAcceptable Client known_at_server (short_hello Client (source_bytes ++ 14 ∷ 1 ∷ 2 ∷ 9 ∷ 8 ∷ 208 ∷ 0 ∷ 0 ∷ 0 ∷ 0 ∷ 0 ∷ 0 ∷ 0 ∷ [])) bounds_hello
bounds_acceptable =
    let ids = to_ids known_at_server bounds_hello (to_name known_at_server bounds_hello (omega arith)) (distinct_three 15 14 9 (λ e. omega (arith, e)) (λ e. omega (arith, e)) (λ e. omega (arith, e))) in
    let server = to_server known_at_server bounds_hello ids (λ e. (refl, (refl, (refl, tt)))) in
    let values = to_numbers known_at_server bounds_hello server (tt, (tt, (tt, (tt, (tt, (tt, ((2 ^ 60, eight (omega arith) refl), ((2, one (omega arith) refl), (tt, tt))))))))) in
    let used = to_used known_at_server bounds_hello values (record { original = refl; source = refl; retry = refl }) in
    record {
      is = short_is Client (source ∷ least_ids ∷ most_streams ∷ []) ((omega arith, omega arith), ((omega arith, omega arith), ((omega arith, omega arith), tt))) (omega arith);
      keeps = to_range known_at_server bounds_hello (to_token known_at_server bounds_hello used tt)
          (range_of bounds_hello 2 0 (2 ^ 60) (one (omega arith) refl) (omega arith) refl (omega arith) (eight (omega arith) refl) (omega arith));
    }
