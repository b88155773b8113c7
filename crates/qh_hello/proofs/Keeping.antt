-- Which rules a hello keeps, and the first that it breaks.
use Rattle.std.proofs.Common.{◌≡◌, ℕ, ◌<◌, ◌≤◌, ◌^◌, List, [], length, take, drop, Option, Some, None, sym, ap, ◌∙◌, arith, subst, append-nil}
use Rattle.std.specs.Prelude.{MatchOption, IfNone}
use Rattle.std.specs.List.{AllByRecursion}
use Rattle.std.proofs.lemmas.List.{take-append-drop, length-take-le}
use Rattle.qh_base.proofs.CountedBytes.{no_number}
use Rattle.qh_hello.specs.Numbers.{SaysNumbers}
use Rattle.qh_hello.specs.Parts.{IsSplit, HasDistinctFront}
use Rattle.qh_hello.specs.Refusals.{KeepsLater, BreaksLater, IsRefused}
use Rattle.qh_hello.specs.declared.hello.HelloError.TheVariants.{Memory}
use Rattle.qh_hello.specs.declared.rules.Numbers.{Numbers}
use Rattle.qh_spec.proofs.HelloFaultLaws.{first_is}
use Rattle.qh_spec.proofs.HelloLaws.{one_number}
use Rattle.qh_spec.proofs.Varints.{one_form}
use Rattle.qh_spec.specs.Hello.{Hello, IfThere, SaysDatagramSize, SaysResetToken, value_of}
use Rattle.qh_spec.specs.HelloFaults.{IdsUsed, HelloFault, NotAHello, LongName, RepeatedId, ServerOnly, NotANumber, OtherId, TokenLength, OutOfRange, place_of, numbers, HasDistinctIds, IsNumberOrAbsent, HasWholeToken, IsInRange, Keeps, IsAcceptable, IsHelloFault}
use Rattle.qh_spec.specs.ParameterIds as parameter_ids
use Rattle.qh_spec.specs.Varint.{IsVarint}
use Rattle.qh_spec.specs.declared.sides.Side.{Side}

-- ---- values

pub no_whole : (bytes : List ℕ) → ((n k : ℕ) → IsVarint (take k bytes) n → ⊥) → (n : ℕ) → IsVarint bytes n → ⊥
no_whole bytes never n v = no_number bytes never n [] (bytes, sym (append-nil bytes), v)

-- a number with bytes behind it isn't one
pub bytes_behind : (bytes : List ℕ) (m size : ℕ) → size ≤ length bytes → IsVarint (take size bytes) m → size < length bytes → (n : ℕ) → IsVarint bytes n → ⊥
bytes_behind bytes m size fits front less n v =
    let same = (one_form (take size bytes) bytes (drop size bytes) [] m n front v (take-append-drop size bytes ∙ sym (append-nil bytes))).0 in
    let long = ap length same in
    let short = length-take-le size bytes fits in
    omega (arith, long, short, less)

pub map_none : {A : Type 0} {P Q : Type 0} (o : Option A) → IfNone o P → (P → Q) → IfNone o Q
map_none None p f = f p
map_none (Some x) p f = tt

pub not_number : (o : Option (List ℕ)) (value : List ℕ) → Some value ≡ o → ((n : ℕ) → IsVarint value n → ⊥) → IfThere (λ (v : List ℕ). (n : ℕ) × IsVarint v n) o → ⊥
not_number o value e never there =
    let r = subst (IfThere (λ (v : List ℕ). (n : ℕ) × IsVarint v n)) (sym e) there in
    never r.0 r.1

pub token_there : (h : Hello) (value token : List ℕ) → Some value ≡ value_of parameter_ids.stateless_reset_token h.parameters → length value ≡ 16 → token ≡ value
    → SaysResetToken h (Some token) × HasWholeToken h
token_there h value token e whole same = (
  sym e ∙ ap (λ (z : List ℕ). Some z) (sym same),
  subst (IfThere (λ (t : List ℕ). length t ≡ 16)) e whole,
)

-- ---- the numbers

there : (o : Option (List ℕ)) (default n : ℕ) → MatchOption o (n ≡ default) (λ value. IsVarint value n) → IfThere (λ (v : List ℕ). (m : ℕ) × IsVarint v m) o
there None default n s = tt
there (Some value) default n s = (n, s)

size_there : (h : Hello) (size : Option ℕ) → SaysDatagramSize h size → IsNumberOrAbsent h parameter_ids.max_datagram_frame_size
size_there h None s = subst (IfThere (λ (v : List ℕ). (m : ℕ) × IsVarint v m)) (sym s) tt
size_there h (Some n) s = subst (IfThere (λ (v : List ℕ). (m : ℕ) × IsVarint v m)) (sym s.1) (n, s.2)

pub are_numbers : (h : Hello) (n : Numbers) → SaysNumbers h n → AllByRecursion (IsNumberOrAbsent h) numbers
are_numbers h n s = (
  there (value_of parameter_ids.max_idle_timeout h.parameters) 0 n.max_idle_timeout s.idle,
  (
    there (value_of parameter_ids.initial_max_data h.parameters) 0 n.initial_max_data s.limits.max_data,
    (
      there (value_of parameter_ids.initial_max_stream_data_bidi_local h.parameters) 0 n.initial_max_stream_data_bidi_local s.limits.bidi_local,
      (
        there (value_of parameter_ids.initial_max_stream_data_bidi_remote h.parameters) 0 n.initial_max_stream_data_bidi_remote s.limits.bidi_remote,
        (
          there (value_of parameter_ids.initial_max_stream_data_uni h.parameters) 0 n.initial_max_stream_data_uni s.limits.uni,
          (
            there (value_of parameter_ids.initial_max_streams_bidi h.parameters) 0 n.initial_max_streams_bidi s.limits.max_bidi,
            (
              there (value_of parameter_ids.initial_max_streams_uni h.parameters) 0 n.initial_max_streams_uni s.limits.max_uni,
              (
                there (value_of parameter_ids.active_connection_id_limit h.parameters) 2 n.active_connection_id_limit s.id_limit,
                (size_there h n.max_datagram_frame_size s.datagram, tt),
              ),
            ),
          ),
        ),
      ),
    ),
  ),
)

abbrev pub AreInRange : Numbers → Type 0
AreInRange n = (2 ≤ n.active_connection_id_limit) × (n.initial_max_streams_bidi ≤ 2 ^ 60) × (n.initial_max_streams_uni ≤ 2 ^ 60)

pub in_range : (h : Hello) (n : Numbers) → SaysNumbers h n → AreInRange n → IsInRange h
in_range h n s r =
    let a = r.0 in
    let b = r.1 in
    let c = r.2 in
    record {
      id_limit = λ m k. let e = one_number parameter_ids.active_connection_id_limit 2 m n.active_connection_id_limit h k s.id_limit in omega (arith, e, a);
      max_bidi = λ m k. let e = one_number parameter_ids.initial_max_streams_bidi 0 m n.initial_max_streams_bidi h k s.limits.max_bidi in omega (arith, e, b);
      max_uni = λ m k. let e = one_number parameter_ids.initial_max_streams_uni 0 m n.initial_max_streams_uni h k s.limits.max_uni in omega (arith, e, c);
    }

pub out_of_range : (h : Hello) (n : Numbers) → SaysNumbers h n → (AreInRange n → ⊥) → IsInRange h → ⊥
out_of_range h n s never r =
    never (r.id_limit n.active_connection_id_limit s.id_limit, r.max_bidi n.initial_max_streams_bidi s.limits.max_bidi, r.max_uni n.initial_max_streams_uni s.limits.max_uni)

-- ---- the first rule that is broken

-- the later rules before the one at this place are kept
kept_below : (used : IdsUsed) (h : Hello) (n : ℕ) → (3 < n → Keeps used h ServerOnly) → (4 < n → Keeps used h NotANumber) → (5 < n → Keeps used h OtherId) → (6 < n → Keeps used h TokenLength) → (7 < n → Keeps used h OutOfRange)
    → (rule : HelloFault) → place_of RepeatedId < place_of rule → place_of rule < n → Keeps used h rule
kept_below used h n a b c d e NotAHello l m = tt
kept_below used h n a b c d e LongName l m = absurd (omega (arith, l))
kept_below used h n a b c d e RepeatedId l m = absurd (omega (arith, l))
kept_below used h n a b c d e ServerOnly l m = a m
kept_below used h n a b c d e NotANumber l m = b m
kept_below used h n a b c d e OtherId l m = c m
kept_below used h n a b c d e TokenLength l m = d m
kept_below used h n a b c d e OutOfRange l m = e m

pub breaks_ids : (used : IdsUsed) (h : Hello) → Keeps used h ServerOnly → Keeps used h NotANumber → (Keeps used h OtherId → ⊥) → BreaksLater used h OtherId
breaks_ids used h a b never = record {
  later = omega arith;
  broken = never;
  below = kept_below used h 5 (λ l. a) (λ l. b) (λ l. absurd (omega (arith, l))) (λ l. absurd (omega (arith, l))) (λ l. absurd (omega (arith, l)));
}

pub breaks_token : (used : IdsUsed) (h : Hello) → Keeps used h ServerOnly → Keeps used h NotANumber → Keeps used h OtherId → (Keeps used h TokenLength → ⊥) → BreaksLater used h TokenLength
breaks_token used h a b c never = record {
  later = omega arith;
  broken = never;
  below = kept_below used h 6 (λ l. a) (λ l. b) (λ l. c) (λ l. absurd (omega (arith, l))) (λ l. absurd (omega (arith, l)));
}

pub breaks_range : (used : IdsUsed) (h : Hello) → Keeps used h ServerOnly → Keeps used h NotANumber → Keeps used h OtherId → Keeps used h TokenLength → (Keeps used h OutOfRange → ⊥) → BreaksLater used h OutOfRange
breaks_range used h a b c d never = record {
  later = omega arith;
  broken = never;
  below = kept_below used h 7 (λ l. a) (λ l. b) (λ l. c) (λ l. d) (λ l. absurd (omega (arith, l)));
}

-- ---- the fault of the bytes

pub name_fault : (sender : Side) (used : IdsUsed) (bytes name values : List ℕ) (h : Hello) → IsSplit sender bytes name values h → 255 < length name → IsHelloFault sender used bytes LongName
name_fault sender used bytes name values h s long =
    let size = ap length s.name_is in
    first_is sender used bytes h LongName s.is (record { broken = λ k. omega (arith, k, size, long); below = below })
  where
    below : (rule : HelloFault) → place_of rule < 1 → Keeps used h rule
    below NotAHello l = tt
    below LongName l = absurd (omega (arith, l))
    below RepeatedId l = absurd (omega (arith, l))
    below ServerOnly l = absurd (omega (arith, l))
    below NotANumber l = absurd (omega (arith, l))
    below OtherId l = absurd (omega (arith, l))
    below TokenLength l = absurd (omega (arith, l))
    below OutOfRange l = absurd (omega (arith, l))

name_kept : (sender : Side) (bytes name values : List ℕ) (h : Hello) → IsSplit sender bytes name values h → length name ≤ 255 → length h.server_name ≤ 255
name_kept sender bytes name values h s few = let size = ap length s.name_is in omega (arith, size, few)

pub memory_lacks : (sender : Side) (used : IdsUsed) (bytes name values : List ℕ) (h : Hello) → IsSplit sender bytes name values h → length name ≤ 255 → HasDistinctFront h.parameters → IsRefused sender used bytes Memory
memory_lacks sender used bytes name values h s few front = (h, s.is, name_kept sender bytes name values h s few, front)

pub repeated_fault : (sender : Side) (used : IdsUsed) (bytes name values : List ℕ) (h : Hello) → IsSplit sender bytes name values h → length name ≤ 255 → (HasDistinctIds h → ⊥) → IsHelloFault sender used bytes RepeatedId
repeated_fault sender used bytes name values h s few never = first_is sender used bytes h RepeatedId s.is (record { broken = never; below = below })
  where
    below : (rule : HelloFault) → place_of rule < 2 → Keeps used h rule
    below NotAHello l = tt
    below LongName l = name_kept sender bytes name values h s few
    below RepeatedId l = absurd (omega (arith, l))
    below ServerOnly l = absurd (omega (arith, l))
    below NotANumber l = absurd (omega (arith, l))
    below OtherId l = absurd (omega (arith, l))
    below TokenLength l = absurd (omega (arith, l))
    below OutOfRange l = absurd (omega (arith, l))

pub later_fault : (sender : Side) (used : IdsUsed) (bytes name values : List ℕ) (h : Hello) (fault : HelloFault) → IsSplit sender bytes name values h → length name ≤ 255 → HasDistinctIds h → BreaksLater used h fault
    → IsHelloFault sender used bytes fault
later_fault sender used bytes name values h fault s few distinct b = first_is sender used bytes h fault s.is (record { broken = b.broken; below = below })
  where
    below : (rule : HelloFault) → place_of rule < place_of fault → Keeps used h rule
    below NotAHello l = tt
    below LongName l = name_kept sender bytes name values h s few
    below RepeatedId l = distinct
    below ServerOnly l = b.below ServerOnly (omega arith) l
    below NotANumber l = b.below NotANumber (omega arith) l
    below OtherId l = b.below OtherId (omega arith) l
    below TokenLength l = b.below TokenLength (omega arith) l
    below OutOfRange l = b.below OutOfRange (omega arith) l

pub acceptable : (sender : Side) (used : IdsUsed) (bytes name values : List ℕ) (h : Hello) → IsSplit sender bytes name values h → length name ≤ 255 → HasDistinctIds h → KeepsLater used h → IsAcceptable sender used bytes h
acceptable sender used bytes name values h s few distinct k = record { is = s.is; keeps = keeps }
  where
    keeps : (rule : HelloFault) → Keeps used h rule
    keeps NotAHello = tt
    keeps LongName = name_kept sender bytes name values h s few
    keeps RepeatedId = distinct
    keeps ServerOnly = k.server_only
    keeps NotANumber = k.numbers
    keeps OtherId = k.ids
    keeps TokenLength = k.token
    keeps OutOfRange = k.range
