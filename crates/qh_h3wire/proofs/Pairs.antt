-- What is spelled as two numbers is read as them, and what is read is spelled so.
use Rattle.std.proofs.Common.{◌≡◌, ℕ, ◌+◌, ◌<◌, List, [], ◌∷◌, ◌++◌, length, take, drop, refl, sym, ap, ◌∙◌, arith, Option, Some, None, subst, append_assoc, length-append}
use Rattle.std.proofs.lemmas.List.{get_or-drop, take-append-drop, drop_at, length-take-le}
use Rattle.qh_base.specs.Varint.{varint_at}
use Rattle.qh_base.proofs.Varints.{IsBytes, read_spelled, spelled_read}
use Rattle.qh_spec.proofs.Varints.{no_empty_varint}
use Rattle.qh_spec.specs.Varint.{IsVarint}
use Rattle.qh_h3wire.specs.Chain.{◌>>=◌}
use Rattle.qh_h3wire.specs.Pair.{pair_at}
use Rattle.qh_h3wire.specs.declared.pair.Pair.{Pair}

bind_some : {A B : Type 0} (r : Option A) (f : A → Option B) (y : B) → (r >>= f) ≡ Some y → (x : A) × (r ≡ Some x) × (f x ≡ Some y)
bind_some None f y h = cc
bind_some (Some x) f y h = (x, refl, h)

pub rest_bytes : (k : ℕ) (bytes : List ℕ) → IsBytes bytes → IsBytes (drop k bytes)
rest_bytes k bytes are i = let e = get_or-drop k bytes i 0 in omega (arith, are (k + i))

-- a form has a byte
pub some_bytes : (bytes : List ℕ) (n : ℕ) → IsVarint bytes n → 0 < length bytes
some_bytes [] n p = absurd (no_empty_varint n p)
some_bytes (b ∷ bs) n p = omega arith

-- the two numbers in front, and what follows them
pub record Spelled (bytes : List ℕ) (p : Pair) : Type 0 where
  pub one : List ℕ
  pub two : List ℕ
  pub rest : List ℕ
  pub whole : bytes ≡ one ++ (two ++ rest)
  pub one_is : IsVarint one p.first
  pub two_is : IsVarint two p.second
  pub size_is : length one + length two ≡ p.size

spelled_of : (bytes : List ℕ) (one two : ℕ × ℕ) → IsBytes bytes → varint_at bytes ≡ Some one → varint_at (drop one.1 bytes) ≡ Some two
    → Spelled bytes (record { first = one.0; second = two.0; size = one.1 + two.1 })
spelled_of bytes one two are e f =
    let a = read_spelled bytes one are e in
    let b = read_spelled (drop one.1 bytes) two (rest_bytes one.1 bytes are) f in
    let la = length-take-le one.1 bytes a.fits in
    let lb = length-take-le two.1 (drop one.1 bytes) b.fits in
    record {
      one = take one.1 bytes;
      two = take two.1 (drop one.1 bytes);
      rest = drop two.1 (drop one.1 bytes);
      whole = sym (take-append-drop one.1 bytes) ∙ ap (λ (z : List ℕ). take one.1 bytes ++ z) (sym (take-append-drop two.1 (drop one.1 bytes)));
      one_is = a.spelled;
      two_is = b.spelled;
      size_is = omega arith;
    }

pub pair_spelled : (bytes : List ℕ) (p : Pair) → IsBytes bytes → pair_at bytes ≡ Some p → Spelled bytes p
unfolding pair_at
pair_spelled bytes p are h =
    let one = bind_some (varint_at bytes) _ p h in
    let two = bind_some (varint_at (drop one.0.1 bytes)) _ p one.2 in
    let same : ◌≡◌ {A = Pair} (record { first = one.0.0; second = two.0.0; size = one.0.1 + two.0.1 }) p = cc in
    subst (Spelled bytes) same (spelled_of bytes one.0 two.0 are one.1 two.1)

pair_steps : (bytes : List ℕ) (one two : ℕ × ℕ) → varint_at bytes ≡ Some one → varint_at (drop one.1 bytes) ≡ Some two
    → pair_at bytes ≡ Some (record { first = one.0; second = two.0; size = one.1 + two.1 })
unfolding pair_at
pair_steps bytes one two e f = rw (e, f) refl

pub pair_again : (a b rest : List ℕ) (m n : ℕ) → IsVarint a m → IsVarint b n → pair_at (a ++ (b ++ rest)) ≡ Some (record { first = m; second = n; size = length a + length b })
pair_again a b rest m n k l =
    pair_steps (a ++ (b ++ rest)) (m, length a) (n, length b) (spelled_read a (b ++ rest) m k)
    (ap varint_at (drop_at a (b ++ rest) (length a) refl) ∙ spelled_read b rest n l)

-- what stands behind the two numbers
pub rest_is : (bytes : List ℕ) (p : Pair) (s : Spelled bytes p) → drop p.size bytes ≡ s.rest
rest_is bytes p s =
    ap (drop p.size) (s.whole ∙ sym (append_assoc s.one s.two s.rest)) ∙ drop_at (s.one ++ s.two) s.rest p.size (length-append s.one s.two ∙ s.size_is)
