-- Worked numbers, and bytes that are none.
use Rattle.std.proofs.Common.{◌≡◌, ℕ, [], ◌∷◌, refl, arith}
use Rattle.qh_spec.specs.PrefixInteger.{IsPrefixed, short, long}
use Rattle.qh_spec.specs.Varint.{IsVarint, one, two, four, eight}
use Rattle.qh_spec.proofs.Cuts.{varints_agree, prefixed_agree}

-- the rows of RFC 9000, appendix A.1
pub varint_rows : IsVarint (194 ∷ 25 ∷ 124 ∷ 94 ∷ 255 ∷ 20 ∷ 232 ∷ 140 ∷ []) 151288809941952652 × IsVarint (157 ∷ 127 ∷ 62 ∷ 125 ∷ []) 494878333
    × IsVarint (123 ∷ 189 ∷ []) 15293 × IsVarint (37 ∷ []) 37 × IsVarint (64 ∷ 37 ∷ []) 37
varint_rows = (eight (omega arith) refl, four (omega arith) refl, two (omega arith) refl, one (omega arith) refl, two (omega arith) refl)

pub no_varint : IsVarint (64 ∷ 37 ∷ []) 38 → ⊥
no_varint h =
    let r = varints_agree (64 ∷ 37 ∷ []) [] (64 ∷ 37 ∷ []) [] 37 38 (two (omega arith) refl) h refl in
    let wrong : ◌≡◌ {A = ℕ} 37 38 = r.0 in
    absurd (omega arith)

-- the rows of RFC 7541, appendix C.1
pub prefixed_rows : IsPrefixed 0 5 (10 ∷ []) 10 × IsPrefixed 0 5 (31 ∷ 154 ∷ 10 ∷ []) 1337
prefixed_rows = (short (omega arith) refl, long (154 ∷ 10 ∷ []) 1306 refl (omega arith, omega arith, 10, omega arith, (omega arith, refl)) (omega arith) (omega arith))

pub no_prefixed : IsPrefixed 0 5 (31 ∷ 154 ∷ 10 ∷ []) 1338 → ⊥
no_prefixed h =
    let known = prefixed_rows in
    let r = prefixed_agree 0 5 (31 ∷ 154 ∷ 10 ∷ []) [] (31 ∷ 154 ∷ 10 ∷ []) [] 1337 1338 known.1 h refl in
    let wrong : ◌≡◌ {A = ℕ} 1337 1338 = r.0 in
    absurd (omega arith)
