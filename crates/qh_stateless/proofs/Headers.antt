-- A datagram's header has one reading.
use Rattle.std.proofs.Common.{◌≡◌, ℕ, ◌<◌, ◌≤◌, Bool, List, ◌∷◌, ◌++◌, length, get_or, drop, sym, ap, ◌∙◌, arith, subst, inl, inr}
use Rattle.std.specs.Prelude.{◌⊎◌, Contains}
use Rattle.std.specs.Int.{w32, to_be_bytes}
use Rattle.qh_packet.proofs.InitialForms.{counted_at}
use Rattle.qh_packet.proofs.LongHeaders.{SameHeader, same_header, after_id, ids_bytes, long_whole}
use Rattle.qh_packet.specs.LongHeader.{IsLongHeader}
use Rattle.qh_spec.proofs.Cuts.{halves}
use Rattle.qh_spec.proofs.FrameLaws.{numbers_agree}
use Rattle.qh_spec.specs.QuicFrames.{Counted, Text, IsValue}
use Rattle.qh_stateless.specs.Header.{Header, Initial, ZeroRtt, Long, Short, IsHeader, IsInitial, IsListed, IsLong, IsMalformed, IsOtherLong, IsShort, IsTokenAndBody, IsUnsupported, IsZeroRtt, type_of}

-- the header behind a first byte that has the fixed bit
fixed : (g : Bool) (dg : List ℕ) (first version : ℕ) (d s r : List ℕ) → IsLong g dg first version d s r → IsLongHeader (192 ∷ drop 1 dg) 192 version d s r
fixed g dg first version d s r h = record {
  whole = ap (λ (z : List ℕ). 192 ∷ drop 1 z) h.whole;
  long_form = omega arith;
  first_fits = omega arith;
  version_fits = h.version_fits;
  destination_fits = h.destination_fits;
  source_fits = h.source_fits;
}

pub first_of : (g : Bool) (dg : List ℕ) (first version : ℕ) (d s r : List ℕ) → IsLong g dg first version d s r → get_or dg 0 0 ≡ first
first_of g dg first version d s r h = ap (λ (z : List ℕ). get_or z 0 0) h.whole

pub same_long : (g : Bool) (dg : List ℕ) (first version : ℕ) (d s r : List ℕ) (first' version' : ℕ) (d' s' r' : List ℕ)
    → IsLong g dg first version d s r → IsLong g dg first' version' d' s' r' → SameHeader first version d s r first' version' d' s' r'
same_long g dg first version d s r first' version' d' s' r' h k =
    let same = same_header (192 ∷ drop 1 dg) 192 version d s r 192 version' d' s' r' (fixed g dg first version d s r h) (fixed g dg first' version' d' s' r' k) in
    record {
      same_first = sym (first_of g dg first version d s r h) ∙ first_of g dg first' version' d' s' r' k;
      same_version = same.same_version;
      same_destination = same.same_destination;
      same_source = same.same_source;
      same_rest = same.same_rest;
    }

-- what stands behind the destination id
pub long_source : (g : Bool) (dg : List ℕ) (first version : ℕ) (d s r : List ℕ) (first' version' : ℕ) (ids e q : List ℕ) → IsLong g dg first version d s r
    → dg ≡ first' ∷ (to_be_bytes w32 version' ++ ids) → ids ≡ length e ∷ (e ++ q) → q ≡ length s ∷ (s ++ r)
long_source g dg first version d s r first' version' ids e q h whole is =
    let both : first ∷ (to_be_bytes w32 version ++ ids_bytes d s r) ≡ first' ∷ (to_be_bytes w32 version' ++ ids) = sym (long_whole first version d s r) ∙ sym h.whole ∙ whole in
    let same : ids_bytes d s r ≡ ids = ap (λ (z : List ℕ). drop 5 z) both in
    sym (after_id d (length s ∷ (s ++ r)) e q (same ∙ is)).1

-- counted bytes are read in one way
same_counted : (bytes v x w y : List ℕ) → IsValue Counted bytes (Text v) x → IsValue Counted bytes (Text w) y → v ≡ w
same_counted bytes v x w y p q =
    let r = numbers_agree bytes p.0 q.0 (length v) (length w) p.1 q.1 in
    (halves v x w y r.0 (sym p.2 ∙ r.1 ∙ q.2)).0

-- a header of each kind as a long one
pub record HasLong (g : Bool) (dg : List ℕ) : Type 0 where
  pub first : ℕ
  pub version : ℕ
  pub destination : List ℕ
  pub source : List ℕ
  pub rest : List ℕ
  pub long : IsLong g dg first version destination source rest

-- a header is a long one, or a short one
pub by_form : (n : ℕ) (vs : List ℕ) (g : Bool) (dg : List ℕ) (h : Header) → IsHeader n vs g dg h → HasLong g dg ⊎ ((first : ℕ) × (d : List ℕ) × IsShort n g dg first d)
by_form n vs g dg (Initial version first d s t) i = inl (record { first = first; version = version; destination = d; source = s; rest = i.after_source; long = i.long })
by_form n vs g dg (ZeroRtt version d s) i = inl (record { first = i.first; version = version; destination = d; source = s; rest = i.after_source; long = i.long })
by_form n vs g dg (Long version d s) i = inl (record { first = i.first; version = version; destination = d; source = s; rest = i.after_source; long = i.long })
by_form n vs g dg (Short first d) i = inr (first, d, i)

unsupported_long : (vs : List ℕ) (g : Bool) (dg : List ℕ) (version : ℕ) (d s : List ℕ) → IsUnsupported vs g dg version d s → HasLong g dg
unsupported_long vs g dg version d s i = record { first = i.first; version = version; destination = d; source = s; rest = i.after_source; long = i.long }

-- where neither form is there the header is malformed
pub neither : (n : ℕ) (vs : List ℕ) (g : Bool) (dg : List ℕ) → (HasLong g dg → ⊥) → ((first : ℕ) (d : List ℕ) → IsShort n g dg first d → ⊥) → IsMalformed n vs g dg
neither n vs g dg no_long no_short = record {
  no_header = λ h i. elim (by_form n vs g dg h i) [ inl l ↦ no_long l | inr s ↦ no_short s.0 s.1 s.2 ];
  no_version = λ version d s i. no_long (unsupported_long vs g dg version d s i);
}

-- the forms exclude one another
pub short_first : (n : ℕ) (g : Bool) (dg : List ℕ) (first : ℕ) (d : List ℕ) → IsShort n g dg first d → get_or dg 0 0 < 128
short_first n g dg first d i = let e : get_or dg 0 0 ≡ first = ap (λ (z : List ℕ). get_or z 0 0) i.whole in omega (arith, e, i.short_form)

pub long_first : (g : Bool) (dg : List ℕ) → HasLong g dg → 128 ≤ get_or dg 0 0
long_first g dg l = omega (arith, first_of g dg l.first l.version l.destination l.source l.rest l.long, l.long.long_form)

pub empty_malformed : (n : ℕ) (vs : List ℕ) (g : Bool) (dg : List ℕ) → length dg ≡ 0 → IsMalformed n vs g dg
empty_malformed n vs g dg none = neither n vs g dg (λ l. let e = ap length l.long.whole in omega (arith, none, e)) (λ first d s. let e = ap length s.whole in omega (arith, none, e))

pub no_short : (n : ℕ) (vs : List ℕ) (g : Bool) (dg : List ℕ) → get_or dg 0 0 < 128 → ((first : ℕ) (d : List ℕ) → IsShort n g dg first d → ⊥) → IsMalformed n vs g dg
no_short n vs g dg low none = neither n vs g dg (λ l. let high = long_first g dg l in omega (arith, low, high)) none

pub no_long : (n : ℕ) (vs : List ℕ) (g : Bool) (dg : List ℕ) → 128 ≤ get_or dg 0 0 → ((first version : ℕ) (d s r : List ℕ) → IsLong g dg first version d s r → ⊥) → IsMalformed n vs g dg
no_long n vs g dg high none = neither n vs g dg (λ l. none l.first l.version l.destination l.source l.rest l.long) (λ first d s. let low = short_first n g dg first d s in omega (arith, low, high))

-- an Initial whose token or length is cut
module _ (n : ℕ) (vs : List ℕ) (g : Bool) (dg : List ℕ) (first version : ℕ) (d s r : List ℕ) (long : IsLong g dg first version d s r) (listed : IsListed vs version) (initial : type_of first ≡ 0)
    (none : (token : List ℕ) → IsTokenAndBody r token → ⊥) where
  no_kind : (h : Header) → IsHeader n vs g dg h → ⊥
  no_kind (Initial version' first' d' s' t) i =
      let same = same_long g dg first version d s r first' version' d' s' i.after_source long i.long in
      none t (subst (λ (z : List ℕ). IsTokenAndBody z t) (sym same.same_rest) i.token_is)
  no_kind (ZeroRtt version' d' s') i =
      let same = same_long g dg first version d s r i.first version' d' s' i.after_source long i.long in
      let e = ap type_of same.same_first in
      let kind = i.type_is in
      omega (arith, initial, e, kind)
  no_kind (Long version' d' s') i =
      let same = same_long g dg first version d s r i.first version' d' s' i.after_source long i.long in
      let e = ap type_of same.same_first in
      elim i.kind [
        | inl zero ↦ listed.0 (same.same_version ∙ zero)
        | inr other ↦ let kind = other.1 in omega (arith, initial, e, kind)
      ]
  no_kind (Short first' d') i =
      let low = short_first n g dg first' d' i in
      let e = first_of g dg first version d s r long in
      let high = long.long_form in
      omega (arith, low, e, high)

  pub token_cut : IsMalformed n vs g dg
  token_cut = record {
    no_header = no_kind;
    no_version = λ version' d' s' i.
        let same = same_long g dg first version d s r i.first version' d' s' i.after_source long i.long in
        i.unlisted (subst (λ (z : ℕ). Contains vs z) same.same_version listed.1);
  }

-- ---- one reading

token_once : (r r' t t' : List ℕ) → r ≡ r' → IsTokenAndBody r t → IsTokenAndBody r' t' → t ≡ t'
token_once r r' t t' e i j = same_counted r' t i.after_token t' j.after_token (counted_at r r' t i.after_token e i.token_is) j.token_is

short_once : (n : ℕ) (g : Bool) (dg : List ℕ) (first first' : ℕ) (d d' : List ℕ) → IsShort n g dg first d → IsShort n g dg first' d' → (first ≡ first') × (d ≡ d')
short_once n g dg first first' d d' i j =
    let both : first ∷ (d ++ i.rest) ≡ first' ∷ (d' ++ j.rest) = sym i.whole ∙ j.whole in
    (ap (λ (z : List ℕ). get_or z 0 0) both, (halves d i.rest d' j.rest (i.length_is ∙ sym j.length_is) (ap (λ (z : List ℕ). drop 1 z) both)).0)

long_or_short : (n : ℕ) (vs : List ℕ) (g : Bool) (dg : List ℕ) (first : ℕ) (d : List ℕ) → HasLong g dg → IsShort n g dg first d → ⊥
long_or_short n vs g dg first d l s = let high = long_first g dg l in let low = short_first n g dg first d s in omega (arith, high, low)

-- the long kinds exclude one another
module _ (vs : List ℕ) (g : Bool) (dg : List ℕ) (v : ℕ) (d s : List ℕ) (v' : ℕ) (d' s' : List ℕ) where
  initial_or_zero_rtt : (f : ℕ) (t : List ℕ) → IsInitial vs g dg v f d s t → IsZeroRtt vs g dg v' d' s' → ⊥
  initial_or_zero_rtt f t i j =
      let same = same_long g dg f v d s i.after_source j.first v' d' s' j.after_source i.long j.long in
      let types = ap type_of same.same_first in
      let p = i.type_is in
      let q = j.type_is in
      omega (arith, types, p, q)

  initial_or_other : (f : ℕ) (t : List ℕ) → IsInitial vs g dg v f d s t → IsOtherLong vs g dg v' d' s' → ⊥
  initial_or_other f t i j =
      let same = same_long g dg f v d s i.after_source j.first v' d' s' j.after_source i.long j.long in
      let types = ap type_of same.same_first in
      let p = i.type_is in
      elim j.kind [ inl zero ↦ i.listed.0 (same.same_version ∙ zero) | inr other ↦ let q = other.1 in omega (arith, types, p, q) ]

  zero_rtt_or_other : IsZeroRtt vs g dg v d s → IsOtherLong vs g dg v' d' s' → ⊥
  zero_rtt_or_other i j =
      let same = same_long g dg i.first v d s i.after_source j.first v' d' s' j.after_source i.long j.long in
      let types = ap type_of same.same_first in
      let p = i.type_is in
      elim j.kind [ inl zero ↦ i.listed.0 (same.same_version ∙ zero) | inr other ↦ let q = other.1 in omega (arith, types, p, q) ]

initial_long : (vs : List ℕ) (g : Bool) (dg : List ℕ) (v f : ℕ) (d s t : List ℕ) → IsInitial vs g dg v f d s t → HasLong g dg
initial_long vs g dg v f d s t i = record { first = f; version = v; destination = d; source = s; rest = i.after_source; long = i.long }

zero_rtt_long : (vs : List ℕ) (g : Bool) (dg : List ℕ) (v : ℕ) (d s : List ℕ) → IsZeroRtt vs g dg v d s → HasLong g dg
zero_rtt_long vs g dg v d s i = record { first = i.first; version = v; destination = d; source = s; rest = i.after_source; long = i.long }

other_long : (vs : List ℕ) (g : Bool) (dg : List ℕ) (v : ℕ) (d s : List ℕ) → IsOtherLong vs g dg v d s → HasLong g dg
other_long vs g dg v d s i = record { first = i.first; version = v; destination = d; source = s; rest = i.after_source; long = i.long }

pub one : (n : ℕ) (vs : List ℕ) (g : Bool) (dg : List ℕ) (h k : Header) → IsHeader n vs g dg h → IsHeader n vs g dg k → h ≡ k
one n vs g dg (Initial v f d s t) (Initial v' f' d' s' t') i j =
    let same = same_long g dg f v d s i.after_source f' v' d' s' j.after_source i.long j.long in
    let a : v ≡ v' = same.same_version in
    let b : f ≡ f' = same.same_first in
    let x : d ≡ d' = same.same_destination in
    let y : s ≡ s' = same.same_source in
    let z : t ≡ t' = token_once i.after_source j.after_source t t' same.same_rest i.token_is j.token_is in
    cc
one n vs g dg (Initial v f d s t) (ZeroRtt v' d' s') i j = absurd (initial_or_zero_rtt vs g dg v d s v' d' s' f t i j)
one n vs g dg (Initial v f d s t) (Long v' d' s') i j = absurd (initial_or_other vs g dg v d s v' d' s' f t i j)
one n vs g dg (Initial v f d s t) (Short f' d') i j = absurd (long_or_short n vs g dg f' d' (initial_long vs g dg v f d s t i) j)
one n vs g dg (ZeroRtt v d s) (Initial v' f' d' s' t') i j = absurd (initial_or_zero_rtt vs g dg v' d' s' v d s f' t' j i)
one n vs g dg (ZeroRtt v d s) (ZeroRtt v' d' s') i j =
    let same = same_long g dg i.first v d s i.after_source j.first v' d' s' j.after_source i.long j.long in
    let a : v ≡ v' = same.same_version in
    let x : d ≡ d' = same.same_destination in
    let y : s ≡ s' = same.same_source in
    cc
one n vs g dg (ZeroRtt v d s) (Long v' d' s') i j = absurd (zero_rtt_or_other vs g dg v d s v' d' s' i j)
one n vs g dg (ZeroRtt v d s) (Short f' d') i j = absurd (long_or_short n vs g dg f' d' (zero_rtt_long vs g dg v d s i) j)
one n vs g dg (Long v d s) (Initial v' f' d' s' t') i j = absurd (initial_or_other vs g dg v' d' s' v d s f' t' j i)
one n vs g dg (Long v d s) (ZeroRtt v' d' s') i j = absurd (zero_rtt_or_other vs g dg v' d' s' v d s j i)
one n vs g dg (Long v d s) (Long v' d' s') i j =
    let same = same_long g dg i.first v d s i.after_source j.first v' d' s' j.after_source i.long j.long in
    let a : v ≡ v' = same.same_version in
    let x : d ≡ d' = same.same_destination in
    let y : s ≡ s' = same.same_source in
    cc
one n vs g dg (Long v d s) (Short f' d') i j = absurd (long_or_short n vs g dg f' d' (other_long vs g dg v d s i) j)
one n vs g dg (Short f d) (Initial v' f' d' s' t') i j = absurd (long_or_short n vs g dg f d (initial_long vs g dg v' f' d' s' t' j) i)
one n vs g dg (Short f d) (ZeroRtt v' d' s') i j = absurd (long_or_short n vs g dg f d (zero_rtt_long vs g dg v' d' s' j) i)
one n vs g dg (Short f d) (Long v' d' s') i j = absurd (long_or_short n vs g dg f d (other_long vs g dg v' d' s' j) i)
one n vs g dg (Short f d) (Short f' d') i j =
    let same = short_once n g dg f f' d d' i j in
    let a : f ≡ f' = same.0 in
    let x : d ≡ d' = same.1 in
    cc

-- a version is listed, or it isn't
unlisted : (vs : List ℕ) (version version' : ℕ) → IsListed vs version → version ≡ version' → (Contains vs version' → ⊥) → ⊥
unlisted vs version version' listed same none = none (subst (λ (z : ℕ). Contains vs z) same listed.1)

pub apart : (n version : ℕ) (vs : List ℕ) (g : Bool) (dg d s : List ℕ) (h : Header) → IsHeader n vs g dg h → IsUnsupported vs g dg version d s → ⊥
apart n v' vs g dg d' s' (Initial v f d s t) i u =
    let same = same_long g dg f v d s i.after_source u.first v' d' s' u.after_source i.long u.long in unlisted vs v v' i.listed same.same_version u.unlisted
apart n v' vs g dg d' s' (ZeroRtt v d s) i u =
    let same = same_long g dg i.first v d s i.after_source u.first v' d' s' u.after_source i.long u.long in unlisted vs v v' i.listed same.same_version u.unlisted
apart n v' vs g dg d' s' (Long v d s) i u =
    let same = same_long g dg i.first v d s i.after_source u.first v' d' s' u.after_source i.long u.long in
    elim i.kind [ inl zero ↦ u.other (sym same.same_version ∙ zero) | inr other ↦ unlisted vs v v' other.0 same.same_version u.unlisted ]
apart n v' vs g dg d' s' (Short f d) i u = long_or_short n vs g dg f d (unsupported_long vs g dg v' d' s' u) i

pub unsupported_once : (version other : ℕ) (vs : List ℕ) (g : Bool) (dg destination source d s : List ℕ) → IsUnsupported vs g dg version destination source → IsUnsupported vs g dg other d s
    → (version ≡ other) × (destination ≡ d) × (source ≡ s)
unsupported_once version other vs g dg destination source d s u w =
    let same = same_long g dg u.first version destination source u.after_source w.first other d s w.after_source u.long w.long in
    (same.same_version, same.same_destination, same.same_source)
