-- An ACK is written as its frame, and covers its ranges.
use Rattle.std.proofs.Common.{◌≡◌, ℕ, ◌+◌, ◌-◌, ◌*◌, ◌/◌, ◌<◌, ◌≤◌, ◌^◌, List, [], ◌∷◌, ◌++◌, length, Some, refl, sym, ap, ◌∙◌, inl, inr, arith, subst, append_assoc, length-append}
use Rattle.std.specs.List.{AllByRecursion}
use Rattle.std.specs.Prelude.{◌↔◌}
use Rattle.std.proofs.lemmas.List.{append-nil}
use Rattle.qh_frame.proofs.FramesWritten.{is_put, varint_short}
use Rattle.qh_frame.specs.AckWritten.{AreBelow, AreApart, IsInOne, gaps, ack_frame}
use Rattle.qh_frame.specs.FrameBytes.{numbers_bytes, IsPut}
use Rattle.qh_frame.specs.declared.ack.AckRange.{AckRange}
use Rattle.qh_spec.specs.Acknowledged.{InRange, InRanges, Covers}
use Rattle.qh_spec.specs.QuicFrames.{Number, Ranges, Num, Nums, shape_of}
use Rattle.qh_spec.specs.Varint.{varint}

gaps_length : (above : ℕ) (rs : List AckRange) → length (gaps above rs) ≡ 2 * length rs
gaps_length above [] = refl
gaps_length above (r ∷ more) = let l = gaps_length r.least more in omega (arith, l)

gaps_bound : (above : ℕ) (rs : List AckRange) → above < 2 ^ 62 → AreBelow above rs → AllByRecursion (λ n. n < 2 ^ 62) (gaps above rs)
gaps_bound above [] small h = tt
gaps_bound above (r ∷ more) small h =
    let low = h.0 in
    let high = h.1 in
    (omega (arith, small), (omega (arith, small, high), gaps_bound r.least more (omega (arith, small, low, high)) h.2))

few_ranges : (above : ℕ) (rs : List AckRange) → AreBelow above rs → 2 * length rs ≤ above
few_ranges above [] h = omega arith
few_ranges above (r ∷ more) h =
    let low = h.0 in
    let high = h.1 in
    let others = few_ranges r.least more h.2 in
    omega (arith, low, high, others)

numbers_size : (ns : List ℕ) → length (numbers_bytes ns) ≤ 8 * length ns
numbers_size [] = omega arith
numbers_size (n ∷ ns) = let l = numbers_size ns in omega (arith, l, varint_short n, length-append (varint n) (numbers_bytes ns))

ack_shape : shape_of 2 ≡ Some (Number ∷ Number ∷ Ranges ∷ [])
unfolding shape_of
ack_shape = refl

ack_bytes : (old mid new : List ℕ) (g d f k m : ℕ) (ns : List ℕ) → k ≡ m → mid ≡ old ++ numbers_bytes (2 ∷ g ∷ d ∷ k ∷ f ∷ []) → new ≡ mid ++ numbers_bytes ns
    → new ≡ old ++ (varint 2 ++ (varint g ++ (varint d ++ ((varint m ++ (varint f ++ numbers_bytes ns)) ++ []))))
ack_bytes old mid new g d f k m ns same first second =
    second ∙ ap (λ (z : List ℕ). z ++ numbers_bytes ns) (first ∙ ap (λ (z : ℕ). old ++ numbers_bytes (2 ∷ g ∷ d ∷ z ∷ f ∷ [])) same) ∙ simp (append_assoc, append-nil) refl

ack_size : (g d m f more : ℕ) (ns : List ℕ) → length ns ≡ 2 * more → 1 + length (varint g ++ (varint d ++ ((varint m ++ (varint f ++ numbers_bytes ns)) ++ []))) ≤ 17 + 16 * (1 + more)
ack_size g d m f more ns len =
    omega (
      arith,
      numbers_size ns,
      len,
      varint_short g,
      varint_short d,
      varint_short m,
      varint_short f,
      length-append (varint g) (varint d ++ ((varint m ++ (varint f ++ numbers_bytes ns)) ++ [])),
      length-append (varint d) ((varint m ++ (varint f ++ numbers_bytes ns)) ++ []),
      length-append (varint m ++ (varint f ++ numbers_bytes ns)) [],
      length-append (varint m) (varint f ++ numbers_bytes ns),
      length-append (varint f) (numbers_bytes ns),
    )

pub ack_put : (old mid new : List ℕ) (delay : ℕ) (r : AckRange) (more : List AckRange) → delay < 2 ^ 62 → AreApart (r ∷ more)
    → mid ≡ old ++ numbers_bytes (2 ∷ r.greatest ∷ delay ∷ length more ∷ (r.greatest - r.least) ∷ []) → new ≡ mid ++ numbers_bytes (gaps r.least more)
    → IsPut old new (ack_frame delay (r ∷ more)) (17 + 16 * length (r ∷ more))
ack_put old mid new delay r more small apart first second =
    let low = apart.0 in
    let high = apart.1 in
    let ns : List ℕ = gaps r.least more in
    let len : length ns ≡ 2 * length more = gaps_length r.least more in
    let least_small : r.least < 2 ^ 62 = omega (arith, low, high) in
    let few = few_ranges r.least more apart.2 in
    let half : length more ≡ length ((r.greatest - r.least) ∷ ns) / 2 = omega (arith, len) in
    let size = numbers_size ns in
    is_put old new 2 (Number ∷ Number ∷ Ranges ∷ []) (Num r.greatest ∷ Num delay ∷ Nums ((r.greatest - r.least) ∷ ns) ∷ []) (17 + 16 * length (r ∷ more)) (omega arith) ack_shape
    (high, (small, ((length more, omega (arith, len), omega (arith, few, least_small), (omega (arith, high), gaps_bound r.least more least_small apart.2)), tt)))
    (ack_bytes old mid new r.greatest delay (r.greatest - r.least) (length more) (length ((r.greatest - r.least) ∷ ns) / 2) ns half first second)
    (let bound = ack_size r.greatest delay (length ((r.greatest - r.least) ∷ ns) / 2) (r.greatest - r.least) (length more) ns len in omega (arith, bound))

pub ack_put_at : (old mid new : List ℕ) (delay : ℕ) (r : AckRange) (more ranges : List AckRange) → ranges ≡ r ∷ more → delay < 2 ^ 62 → AreApart ranges
    → mid ≡ old ++ numbers_bytes (2 ∷ r.greatest ∷ delay ∷ length more ∷ (r.greatest - r.least) ∷ []) → new ≡ mid ++ numbers_bytes (gaps r.least more)
    → IsPut old new (ack_frame delay ranges) (17 + 16 * length ranges)
ack_put_at old mid new delay r more ranges is small apart first second =
    subst (λ (z : List AckRange). IsPut old new (ack_frame delay z) (17 + 16 * length z)) (sym is)
    (ack_put old mid new delay r more small (subst AreApart is apart) first second)

in_first : (r : AckRange) (n : ℕ) → r.least ≤ r.greatest → InRange r.greatest (r.greatest - r.least) n → (r.least ≤ n) × (n ≤ r.greatest)
in_first r n order h = let sum = h.1 in let low = h.2 in (omega (arith, sum, low, order), h.3)

first_in : (r : AckRange) (n : ℕ) → r.least ≤ r.greatest → (r.least ≤ n) × (n ≤ r.greatest) → InRange r.greatest (r.greatest - r.least) n
first_in r n order h = (r.least, omega (arith, order), h.0, h.1)

there : (r : AckRange) (more : List AckRange) (n : ℕ) → r.least ≤ r.greatest → AreBelow r.least more → InRanges r.greatest ((r.greatest - r.least) ∷ gaps r.least more) n → IsInOne (r ∷ more) n
there r [] n order below h = inl (in_first r n order h)
there r (s ∷ more) n order below (inl h) = inl (in_first r n order h)
there r (s ∷ more) n order below (inr h) =
    let sum = h.1 in
    let high = below.1 in
    let same : h.0 ≡ s.greatest = omega (arith, sum, high, order) in
    inr (there s more n below.0 below.2 (subst (λ (z : ℕ). InRanges z ((s.greatest - s.least) ∷ gaps s.least more) n) same h.2))

back : (r : AckRange) (more : List AckRange) (n : ℕ) → r.least ≤ r.greatest → AreBelow r.least more → IsInOne (r ∷ more) n → InRanges r.greatest ((r.greatest - r.least) ∷ gaps r.least more) n
back r [] n order below (inl h) = first_in r n order h
back r [] n order below (inr none) = absurd none
back r (s ∷ more) n order below (inl h) = inl (first_in r n order h)
back r (s ∷ more) n order below (inr h) = let high = below.1 in inr (s.greatest, omega (arith, high, order), back s more n below.0 below.2 h)

pub ack_covers : (delay n : ℕ) (rs : List AckRange) → AreApart rs → Covers (ack_frame delay rs) n ↔ IsInOne rs n
ack_covers delay n [] apart = absurd apart
ack_covers delay n (r ∷ more) apart = (λ h. there r more n apart.0 apart.2 h.1, λ h. (refl, back r more n apart.0 apart.2 h))
