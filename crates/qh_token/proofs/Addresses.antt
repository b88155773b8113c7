-- The octets of an address that was made of them.
use Rattle.std.proofs.Common.{◌≡◌, ℕ, suc, ◌+◌, ◌-◌, ◌*◌, ◌/◌, ◌%◌, ◌<◌, ◌≤◌, List, [], ◌∷◌, ◌++◌, length, take, drop, refl, sym, ap, ◌∙◌, arith, subst}
use Rattle.std.specs.Net.Addr.{octets_of, segments_of}
use Rattle.std.proofs.lemmas.List.{length-take-le, take-append-drop}
use Rattle.qh_token.proofs.Forms.{family_6}
use Rattle.qh_token.proofs.Numbers.{IsBytes, front_bytes}
use Rattle.qh_token.specs.Token.{family_byte}

octets_again : (n : ℕ) (xs : List ℕ) → length xs ≡ 2 * n → IsBytes xs → octets_of (segments_of xs) ≡ xs
octets_again n [] even small = refl
octets_again n (a ∷ []) even small = absurd (omega arith)
octets_again n (a ∷ b ∷ xs) even small =
    let low : b < 256 = small 1 in
    let high : (a * 256 + b) / 256 ≡ a = omega arith in
    let rest : (a * 256 + b) % 256 ≡ b = omega arith in
    λ i. high i ∷ rest i ∷ octets_again (n - 1) xs (omega arith) (λ k. small (suc (suc k))) i

-- an IPv6 address behind a 6
pub six : (bytes rest octets more segments : List ℕ) (six : ℕ) → IsBytes bytes → bytes ≡ six ∷ rest → six ≡ 6 → 16 ≤ length rest → octets ≡ take 16 rest → more ≡ drop 16 rest → segments ≡ segments_of octets
    → (bytes ≡ family_byte (octets_of segments) ∷ (octets_of segments ++ more)) × (length (octets_of segments) ≡ 16)
six bytes rest octets more segments first are e is fits front back made =
    let small : IsBytes rest = λ i. subst IsBytes e are (suc i) in
    let octets_are : IsBytes octets = subst IsBytes (sym front) (front_bytes 16 rest small) in
    let size : length octets ≡ 16 = ap length front ∙ length-take-le 16 rest fits in
    let same : octets_of segments ≡ octets = ap octets_of made ∙ octets_again 8 octets (omega (arith, size)) octets_are in
    let long : length (octets_of segments) ≡ 16 = ap length same ∙ size in
    let whole : rest ≡ octets_of segments ++ more = sym (take-append-drop 16 rest) ∙ ap (λ (z : List ℕ). z ++ drop 16 rest) (sym front ∙ sym same) ∙ ap (λ (z : List ℕ). octets_of segments ++ z) (sym back) in
    (e ∙ ap (λ (n : ℕ). n ∷ rest) (is ∙ sym (family_6 (octets_of segments) long)) ∙ ap (λ (z : List ℕ). family_byte (octets_of segments) ∷ z) whole, long)
