-- Bytes have a fault or are acceptable, and not both.
use Rattle.std.proofs.Common.{◌≡◌, ◌⊎◌, inl, inr, ℕ, ◌+◌, ◌<◌, ◌≤◌, ◌^◌, ◌==◌, List, [], ◌∷◌, length, Option, Some, None, refl, sym, ap, ◌∙◌, arith, subst}
use Rattle.std.specs.Prelude.{map, MatchOption, if◌then◌else◌}
use Rattle.std.specs.List.{AllByRecursion}
use Rattle.std.proofs.lemmas.Bool.{cases_lt, cases_eq}
use Rattle.qh_spec.specs.Hello.{Parameter, Hello, IsHelloOf, value_of, SaysNumber, IfThere}
use Rattle.qh_spec.specs.HelloFaults.{IdsUsed, HelloFault, NotAHello, LongName, RepeatedId, ServerOnly, NotANumber, OtherId, TokenLength, OutOfRange, place_of, server_only, numbers, IsAbsent, IsNumberOrAbsent, HasIdsUsed, IsInRange, Keeps, IsAcceptable, HasHelloFault, IsHelloFault}
use Rattle.qh_spec.specs.Lists.{In, Distinct}
use Rattle.qh_spec.specs.ParameterIds as parameter_ids
use Rattle.qh_spec.specs.Varint.{IsVarint}
use Rattle.qh_spec.specs.declared.sides.Side.{Side}
use Rattle.qh_spec.specs.declared.sides.Side.TheVariants.{Client, Server}
use Rattle.qh_spec.proofs.HelloDecided.{bytes_decided, whole_number_decided, hello_decided}
use Rattle.qh_spec.proofs.HelloLaws.{hello_agrees, one_number}

-- bytes are one hello
pub one_hello : (side : Side) (bytes : List ℕ) (g h : Hello) → IsHelloOf side bytes g → IsHelloOf side bytes h → g ≡ h
one_hello side bytes g h p q = (hello_agrees bytes bytes [] [] g h p.0 q.0 refl).0

-- a hello that keeps the rule doesn't have its fault
pub no_fault : (side : Side) (used : IdsUsed) (bytes : List ℕ) (h : Hello) (fault : HelloFault) → IsHelloOf side bytes h → Keeps used h fault → HasHelloFault side used bytes fault → ⊥
no_fault side used bytes h NotAHello i k f = f h i
no_fault side used bytes h LongName i k f = f.2 (subst (λ (z : Hello). Keeps used z LongName) (one_hello side bytes h f.0 i f.1) k)
no_fault side used bytes h RepeatedId i k f = f.2 (subst (λ (z : Hello). Keeps used z RepeatedId) (one_hello side bytes h f.0 i f.1) k)
no_fault side used bytes h ServerOnly i k f = f.2 (subst (λ (z : Hello). Keeps used z ServerOnly) (one_hello side bytes h f.0 i f.1) k)
no_fault side used bytes h NotANumber i k f = f.2 (subst (λ (z : Hello). Keeps used z NotANumber) (one_hello side bytes h f.0 i f.1) k)
no_fault side used bytes h OtherId i k f = f.2 (subst (λ (z : Hello). Keeps used z OtherId) (one_hello side bytes h f.0 i f.1) k)
no_fault side used bytes h TokenLength i k f = f.2 (subst (λ (z : Hello). Keeps used z TokenLength) (one_hello side bytes h f.0 i f.1) k)
no_fault side used bytes h OutOfRange i k f = f.2 (subst (λ (z : Hello). Keeps used z OutOfRange) (one_hello side bytes h f.0 i f.1) k)

pub exclusive : (side : Side) (used : IdsUsed) (bytes : List ℕ) (h : Hello) (fault : HelloFault) → IsAcceptable side used bytes h → HasHelloFault side used bytes fault → ⊥
exclusive side used bytes h fault a f = no_fault side used bytes h fault a.is (a.keeps fault) f

pub one_acceptable : (side : Side) (used : IdsUsed) (bytes : List ℕ) (g h : Hello) → IsAcceptable side used bytes g → IsAcceptable side used bytes h → g ≡ h
one_acceptable side used bytes g h a b = one_hello side bytes g h a.is b.is

-- ---- each rule is kept or broken

fault_at : ℕ → HelloFault
fault_at n =
    if n == 0 then NotAHello else if n == 1 then LongName else if n == 2 then RepeatedId else if n == 3 then ServerOnly
    else if n == 4 then NotANumber else if n == 5 then OtherId else if n == 6 then TokenLength else OutOfRange

place_back : (f : HelloFault) → fault_at (place_of f) ≡ f
unfolding fault_at
place_back NotAHello = refl
place_back LongName = refl
place_back RepeatedId = refl
place_back ServerOnly = refl
place_back NotANumber = refl
place_back OtherId = refl
place_back TokenLength = refl
place_back OutOfRange = refl

pub same_place : (f g : HelloFault) → place_of f ≡ place_of g → f ≡ g
same_place f g e = sym (place_back f) ∙ ap fault_at e ∙ place_back g

pub few_places : (f : HelloFault) → place_of f < 8
few_places NotAHello = omega arith
few_places LongName = omega arith
few_places RepeatedId = omega arith
few_places ServerOnly = omega arith
few_places NotANumber = omega arith
few_places OtherId = omega arith
few_places TokenLength = omega arith
few_places OutOfRange = omega arith

pub one_fault : (side : Side) (used : IdsUsed) (bytes : List ℕ) (f g : HelloFault) → IsHelloFault side used bytes f → IsHelloFault side used bytes g → f ≡ g
one_fault side used bytes f g p q =
    elim (cases_lt (place_of f) (place_of g)) [
      | inl l ↦ absurd (q.first f l p.has)
      | inr l ↦ elim (cases_lt (place_of g) (place_of f)) [
        | inl m ↦ absurd (p.first g m q.has)
        | inr m ↦ same_place f g (omega (arith, l, m))
      ]
    ]

in_decided : (x : ℕ) (xs : List ℕ) → In x xs ⊎ (In x xs → ⊥)
in_decided x [] = inr (λ h. h)
in_decided x (y ∷ xs) =
    elim (cases_eq y x) [
      | inl e ↦ inl (inl e)
      | inr n ↦ elim (in_decided x xs) [
        | inl h ↦ inl (inr h)
        | inr m ↦ inr (λ h. elim h [ inl e ↦ n e | inr i ↦ m i ])
      ]
    ]

distinct_decided : (xs : List ℕ) → Distinct xs ⊎ (Distinct xs → ⊥)
distinct_decided [] = inl tt
distinct_decided (x ∷ xs) =
    elim (in_decided x xs) [
      | inl h ↦ inr (λ d. d.0 h)
      | inr n ↦ elim (distinct_decided xs) [
        | inl d ↦ inl (n, d)
        | inr m ↦ inr (λ d. m d.1)
      ]
    ]

all_decided : (P : ℕ → Type 0) → ((x : ℕ) → P x ⊎ (P x → ⊥)) → (xs : List ℕ) → AllByRecursion P xs ⊎ (AllByRecursion P xs → ⊥)
all_decided P decide [] = inl tt
all_decided P decide (x ∷ xs) =
    elim (decide x) [
      | inr n ↦ inr (λ a. n a.0)
      | inl h ↦ elim (all_decided P decide xs) [
        | inl a ↦ inl (h, a)
        | inr m ↦ inr (λ a. m a.1)
      ]
    ]

option_decided : (o p : Option (List ℕ)) → (o ≡ p) ⊎ (o ≡ p → ⊥)
option_decided None None = inl refl
option_decided None (Some y) = inr (λ e. cc)
option_decided (Some x) None = inr (λ e. cc)
option_decided (Some x) (Some y) =
    elim (bytes_decided x y) [
      | inl e ↦ inl (ap (λ (z : List ℕ). Some z) e)
      | inr n ↦ inr (λ e. n cc)
    ]

there_decided : (P : List ℕ → Type 0) → ((x : List ℕ) → P x ⊎ (P x → ⊥)) → (o : Option (List ℕ)) → IfThere P o ⊎ (IfThere P o → ⊥)
there_decided P decide None = inl tt
there_decided P decide (Some x) = decide x

is_number_decided : (value : List ℕ) → ((n : ℕ) × IsVarint value n) ⊎ (((n : ℕ) × IsVarint value n) → ⊥)
is_number_decided value = elim (whole_number_decided value) [ inl v ↦ inl v | inr never ↦ inr (λ v. never v.0 v.1) ]

server_only_decided : (h : Hello) (s : Side) → h.sender ≡ s → Keeps (record { original = None; source = []; retry = None }) h ServerOnly ⊎ (Keeps (record { original = None; source = []; retry = None }) h ServerOnly → ⊥)
server_only_decided h Server e = inl (λ f. absurd (let wrong : Server ≡ Client = sym e ∙ f in cc))
server_only_decided h Client e =
    elim (all_decided (IsAbsent h) (λ id. option_decided (value_of id h.parameters) None) server_only) [
      | inl a ↦ inl (λ f. a)
      | inr never ↦ inr (λ k. never (k e))
    ]

ids_decided : (used : IdsUsed) (h : Hello) → HasIdsUsed used h ⊎ (HasIdsUsed used h → ⊥)
ids_decided used h =
    elim (option_decided (value_of parameter_ids.original_destination_connection_id h.parameters) used.original) [
      | inr never ↦ inr (λ i. never i.original)
      | inl a ↦ elim (option_decided (value_of parameter_ids.initial_source_connection_id h.parameters) (Some used.source)) [
        | inr never ↦ inr (λ i. never i.source)
        | inl b ↦ elim (option_decided (value_of parameter_ids.retry_source_connection_id h.parameters) used.retry) [
          | inr never ↦ inr (λ i. never i.retry)
          | inl c ↦ inl (record { original = a; source = b; retry = c })
        ]
      ]
    ]

-- the number that a hello says, where the value is one
said_by : (o : Option (List ℕ)) (default : ℕ) → IfThere (λ (value : List ℕ). (n : ℕ) × IsVarint value n) o → (n : ℕ) × MatchOption o (n ≡ default) (λ value. IsVarint value n)
said_by None default h = (default, refl)
said_by (Some value) default h = h

bound_decided : (id default : ℕ) (h : Hello) (P : ℕ → Type 0) → ((n : ℕ) → P n ⊎ (P n → ⊥)) → IsNumberOrAbsent h id
    → ((n : ℕ) → SaysNumber id default h n → P n) ⊎ (((n : ℕ) → SaysNumber id default h n → P n) → ⊥)
bound_decided id default h P decide there =
    let said = said_by (value_of id h.parameters) default there in
    elim (decide said.0) [
      | inl p ↦ inl (λ n s. subst P (one_number id default said.0 n h said.1 s) p)
      | inr never ↦ inr (λ f. never (f said.0 said.1))
    ]

at_most_decided : (bound n : ℕ) → (n ≤ bound) ⊎ (n ≤ bound → ⊥)
at_most_decided bound n = elim (cases_lt bound n) [ inl l ↦ inr (λ g. omega (arith, l, g)) | inr l ↦ inl l ]

at_least_decided : (bound n : ℕ) → (bound ≤ n) ⊎ (bound ≤ n → ⊥)
at_least_decided bound n = elim (cases_lt n bound) [ inl l ↦ inr (λ g. omega (arith, l, g)) | inr l ↦ inl l ]

range_decided : (h : Hello) → AllByRecursion (IsNumberOrAbsent h) numbers → IsInRange h ⊎ (IsInRange h → ⊥)
range_decided h all =
    elim (bound_decided parameter_ids.active_connection_id_limit 2 h (λ (n : ℕ). 2 ≤ n) (at_least_decided 2) all.1.1.1.1.1.1.1.0) [
      | inr never ↦ inr (λ r. never r.id_limit)
      | inl a ↦ elim (bound_decided parameter_ids.initial_max_streams_bidi 0 h (λ (n : ℕ). n ≤ 2 ^ 60) (at_most_decided (2 ^ 60)) all.1.1.1.1.1.0) [
        | inr never ↦ inr (λ r. never r.max_bidi)
        | inl b ↦ elim (bound_decided parameter_ids.initial_max_streams_uni 0 h (λ (n : ℕ). n ≤ 2 ^ 60) (at_most_decided (2 ^ 60)) all.1.1.1.1.1.1.0) [
          | inr never ↦ inr (λ r. never r.max_uni)
          | inl c ↦ inl (record { id_limit = a; max_bidi = b; max_uni = c })
        ]
      ]
    ]

-- ---- the first that is broken

abbrev pub KeepsBelow : IdsUsed → Hello → ℕ → Type 0
KeepsBelow used h n = (rule : HelloFault) → place_of rule < n → Keeps used h rule

-- the first rule that is broken
pub record IsFirstBroken (used : IdsUsed) (h : Hello) (fault : HelloFault) : Type 0 where
  pub broken : Keeps used h fault → ⊥
  pub below : KeepsBelow used h (place_of fault)

abbrev IsKeptTo : IdsUsed → Hello → ℕ → Type 0
IsKeptTo used h n = KeepsBelow used h n ⊎ ((fault : HelloFault) × IsFirstBroken used h fault)

pub one_further : (used : IdsUsed) (h : Hello) (rule : HelloFault) → KeepsBelow used h (place_of rule) → Keeps used h rule → KeepsBelow used h (place_of rule + 1)
one_further used h rule below kept other l =
    elim (cases_lt (place_of other) (place_of rule)) [
      | inl m ↦ below other m
      | inr m ↦ subst (λ (z : HelloFault). Keeps used h z) (same_place rule other (omega (arith, l, m))) kept
    ]

kept_on : (used : IdsUsed) (h : Hello) (rule : HelloFault) → (Keeps used h rule ⊎ (Keeps used h rule → ⊥)) → KeepsBelow used h (place_of rule) → IsKeptTo used h (place_of rule + 1)
kept_on used h rule (inl k) below = inl (one_further used h rule below k)
kept_on used h rule (inr never) below = inr (rule, record { broken = never; below = below })

then_kept : (used : IdsUsed) (h : Hello) (rule : HelloFault) → (KeepsBelow used h (place_of rule) → Keeps used h rule ⊎ (Keeps used h rule → ⊥)) → IsKeptTo used h (place_of rule) → IsKeptTo used h (place_of rule + 1)
then_kept used h rule decide (inl below) = kept_on used h rule (decide below) below
then_kept used h rule decide (inr b) = inr b

first_broken : (used : IdsUsed) (h : Hello) → IsKeptTo used h 8
first_broken used h =
    let none : IsKeptTo used h 0 = inl (λ rule l. absurd (omega (arith, l))) in
    let hello : IsKeptTo used h 1 = then_kept used h NotAHello (λ b. inl tt) none in
    let name : IsKeptTo used h 2 = then_kept used h LongName (λ b. at_most_decided 255 (length h.server_name)) hello in
    let ids : IsKeptTo used h 3 = then_kept used h RepeatedId (λ b. distinct_decided (map (λ (p : Parameter). p.id) h.parameters)) name in
    let server : IsKeptTo used h 4 = then_kept used h ServerOnly (λ b. server_only_decided h h.sender refl) ids in
    let values : IsKeptTo used h 5 = then_kept used h NotANumber (λ b. all_decided (IsNumberOrAbsent h) (λ id. there_decided (λ (value : List ℕ). (n : ℕ) × IsVarint value n) is_number_decided (value_of id h.parameters)) numbers) server in
    let same : IsKeptTo used h 6 = then_kept used h OtherId (λ b. ids_decided used h) values in
    let token : IsKeptTo used h 7 = then_kept used h TokenLength (λ b. there_decided (λ (token : List ℕ). length token ≡ 16) (λ token. cases_eq (length token) 16) (value_of parameter_ids.stateless_reset_token h.parameters)) same in
    then_kept used h OutOfRange (λ b. range_decided h (b NotANumber (omega arith))) token

broken_is : (side : Side) (used : IdsUsed) (bytes : List ℕ) (h : Hello) (fault : HelloFault) → IsHelloOf side bytes h → (Keeps used h fault → ⊥) → HasHelloFault side used bytes fault
broken_is side used bytes h NotAHello i never = absurd (never tt)
broken_is side used bytes h LongName i never = (h, i, never)
broken_is side used bytes h RepeatedId i never = (h, i, never)
broken_is side used bytes h ServerOnly i never = (h, i, never)
broken_is side used bytes h NotANumber i never = (h, i, never)
broken_is side used bytes h OtherId i never = (h, i, never)
broken_is side used bytes h TokenLength i never = (h, i, never)
broken_is side used bytes h OutOfRange i never = (h, i, never)

-- the first rule that a hello breaks is the fault of its bytes
pub first_is : (side : Side) (used : IdsUsed) (bytes : List ℕ) (h : Hello) (fault : HelloFault) → IsHelloOf side bytes h → IsFirstBroken used h fault → IsHelloFault side used bytes fault
first_is side used bytes h fault i b = record {
  has = broken_is side used bytes h fault i b.broken;
  first = λ earlier l f. no_fault side used bytes h earlier i (b.below earlier l) f;
}

pub not_a_hello : (side : Side) (used : IdsUsed) (bytes : List ℕ) → ((h : Hello) → IsHelloOf side bytes h → ⊥) → IsHelloFault side used bytes NotAHello
not_a_hello side used bytes never = record { has = never; first = λ earlier l f. omega (arith, l) }

abbrev Either : Side → IdsUsed → List ℕ → Type 0
Either side used bytes = ((h : Hello) × IsAcceptable side used bytes h) ⊎ ((fault : HelloFault) × IsHelloFault side used bytes fault)

kept_or_broken : (side : Side) (used : IdsUsed) (bytes : List ℕ) (h : Hello) → IsHelloOf side bytes h → IsKeptTo used h 8 → Either side used bytes
kept_or_broken side used bytes h i (inl below) = inl (h, record { is = i; keeps = λ rule. below rule (few_places rule) })
kept_or_broken side used bytes h i (inr b) = inr (b.0, first_is side used bytes h b.0 i b.1)

pub either : (side : Side) (used : IdsUsed) (bytes : List ℕ) → Either side used bytes
either side used bytes =
    elim (hello_decided side bytes) [
      | inr never ↦ inr (NotAHello, not_a_hello side used bytes (λ h i. never (h, i)))
      | inl a ↦ kept_or_broken side used bytes a.0 a.1 (first_broken used a.0)
    ]
