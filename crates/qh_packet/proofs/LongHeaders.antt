-- A long header has one reading.
use Rattle.std.proofs.Common.{◌≡◌, ℕ, suc, ◌<◌, ◌≤◌, ◌^◌, List, ◌∷◌, ◌++◌, length, get_or, take, drop, sym, ap, ◌∙◌, arith, subst, append_assoc, inl, inr}
use Rattle.std.specs.Int.{w32, to_be_bytes, from_be_bytes}
use Rattle.std.proofs.lemmas.Bool.{cases_lt}
use Rattle.std.proofs.lemmas.List.{get_or-take, get_or_past, length-take, length-take-le, take-append-drop}
use Rattle.std.proofs.lemmas.Nat.{be_bytes_4, from_be_bytes-to_be_bytes_4}
use Rattle.qh_base.proofs.Varints.{IsBytes}
use Rattle.qh_spec.proofs.Cuts.{halves}
use Rattle.qh_packet.specs.LongHeader.{IsLongHeader, long_head}

pub front_bytes : (k : ℕ) (bytes : List ℕ) → k ≤ length bytes → IsBytes bytes → IsBytes (take k bytes)
front_bytes k bytes fits are i =
    elim (cases_lt i k) [
      | inl inside ↦ let e = get_or-take k bytes i 0 inside in omega (arith, are i)
      | inr past ↦ let e = get_or_past (take k bytes) i 0 (omega (arith, length-take k bytes)) in omega arith
    ]

-- the number of the first four bytes spells them
pub four_bytes : (bytes chunk : List ℕ) (n : ℕ) → IsBytes bytes → 4 ≤ length bytes → chunk ≡ take 4 bytes → n ≡ from_be_bytes w32 chunk → to_be_bytes w32 n ≡ chunk
four_bytes bytes chunk n are fits e is =
    be_bytes_4 chunk n (ap length e ∙ length-take-le 4 bytes fits) (subst IsBytes (sym e) (front_bytes 4 bytes fits are)) is

rest_bytes : (first : ℕ) (rest : List ℕ) → IsBytes (first ∷ rest) → IsBytes rest
rest_bytes first rest are i = are (suc i)

pub first_version : (bytes rest chunk more : List ℕ) (first n : ℕ) → IsBytes bytes → bytes ≡ first ∷ rest → 4 ≤ length rest → chunk ≡ take 4 rest → more ≡ drop 4 rest → n ≡ from_be_bytes w32 chunk
    → bytes ≡ first ∷ (to_be_bytes w32 n ++ more)
first_version bytes rest chunk more first n are e fits front back is =
    let spelled : to_be_bytes w32 n ≡ chunk = four_bytes rest chunk n (rest_bytes first rest (subst IsBytes e are)) fits front is in
    let whole : rest ≡ to_be_bytes w32 n ++ more = sym (take-append-drop 4 rest) ∙ ap (λ (z : List ℕ). z ++ drop 4 rest) (sym front ∙ sym spelled) ∙ ap (λ (z : List ℕ). to_be_bytes w32 n ++ z) (sym back) in
    e ∙ ap (λ (z : List ℕ). first ∷ z) whole

pub version_once : (m n : ℕ) → m < 2 ^ 32 → n < 2 ^ 32 → to_be_bytes w32 m ≡ to_be_bytes w32 n → m ≡ n
version_once m n a b e = sym (from_be_bytes-to_be_bytes_4 m a) ∙ ap (from_be_bytes w32) e ∙ from_be_bytes-to_be_bytes_4 n b

-- behind an id of the same place
pub after_id : (d r e q : List ℕ) → length d ∷ (d ++ r) ≡ length e ∷ (e ++ q) → (d ≡ e) × (r ≡ q)
after_id d r e q h =
    let lengths : length d ≡ length e = ap (λ (z : List ℕ). get_or z 0 0) h in
    let rest : d ++ r ≡ e ++ q = ap (λ (z : List ℕ). drop 1 z) h in
    halves d r e q lengths rest

-- the ids behind the version
abbrev pub ids_bytes : (d s r : List ℕ) → List ℕ
ids_bytes d s r = length d ∷ (d ++ (length s ∷ (s ++ r)))

pub long_whole : (first version : ℕ) (d s r : List ℕ) → long_head first version d s ++ r ≡ first ∷ (to_be_bytes w32 version ++ ids_bytes d s r)
long_whole first version d s r = ap (λ (z : List ℕ). first ∷ (to_be_bytes w32 version ++ (length d ∷ z))) (append_assoc d (length s ∷ s) r)

-- what stands behind the destination id
pub source_place : (bytes : List ℕ) (first version : ℕ) (d s r : List ℕ) (first' version' : ℕ) (ids e q : List ℕ) → IsLongHeader bytes first version d s r
    → bytes ≡ first' ∷ (to_be_bytes w32 version' ++ ids) → ids ≡ length e ∷ (e ++ q) → q ≡ length s ∷ (s ++ r)
source_place bytes first version d s r first' version' ids e q h whole is =
    let both : first ∷ (to_be_bytes w32 version ++ ids_bytes d s r) ≡ first' ∷ (to_be_bytes w32 version' ++ ids) = sym (long_whole first version d s r) ∙ sym h.whole ∙ whole in
    let same : ids_bytes d s r ≡ ids = ap (λ (z : List ℕ). drop 5 z) both in
    sym (after_id d (length s ∷ (s ++ r)) e q (same ∙ is)).1

pub record SameHeader (first version : ℕ) (d s r : List ℕ) (first' version' : ℕ) (d' s' r' : List ℕ) : Type 0 where
  pub same_first : first ≡ first'
  pub same_version : version ≡ version'
  pub same_destination : d ≡ d'
  pub same_source : s ≡ s'
  pub same_rest : r ≡ r'

pub same_header : (bytes : List ℕ) (first version : ℕ) (d s r : List ℕ) (first' version' : ℕ) (d' s' r' : List ℕ)
    → IsLongHeader bytes first version d s r → IsLongHeader bytes first' version' d' s' r' → SameHeader first version d s r first' version' d' s' r'
same_header bytes first version d s r first' version' d' s' r' h k =
    let both : first ∷ (to_be_bytes w32 version ++ ids_bytes d s r) ≡ first' ∷ (to_be_bytes w32 version' ++ ids_bytes d' s' r') =
    sym (long_whole first version d s r) ∙ sym h.whole ∙ k.whole ∙ long_whole first' version' d' s' r' in
    let ids = after_id d (length s ∷ (s ++ r)) d' (length s' ∷ (s' ++ r')) (ap (λ (z : List ℕ). drop 5 z) both) in
    let last = after_id s r s' r' ids.1 in
    record {
      same_first = ap (λ (z : List ℕ). get_or z 0 0) both;
      same_version = version_once version version' h.version_fits k.version_fits (ap (λ (z : List ℕ). take 4 (drop 1 z)) both);
      same_destination = ids.0;
      same_source = last.0;
      same_rest = last.1;
    }
