-- Pieces that are appended below a limit.
use Rattle.std.proofs.Common.{◌≡◌, ℕ, zero, suc, ◌-◌, List, [], ◌∷◌, ◌++◌, length, take, refl, ap, ◌∙◌, append_assoc, arith}

-- what is left of the limit after a first piece, of a second
pub take-append : (n : ℕ) (xs ys : List ℕ) → take n xs ++ take (n - length (take n xs)) ys ≡ take n (xs ++ ys)
take-append zero xs ys = refl
take-append (suc n) [] ys = let e : suc n - 0 ≡ suc n = omega arith in ap (λ (k : ℕ). take k ys) e
take-append (suc n) (x ∷ xs) ys =
    let e : suc n - suc (length (take n xs)) ≡ n - length (take n xs) = omega arith in
    let rest : take n xs ++ take (suc n - suc (length (take n xs))) ys ≡ take n (xs ++ ys) = rw e (take-append n xs ys) in
    ap (λ (l : List ℕ). x ∷ l) rest

-- a first piece
take_first : (n : ℕ) (none xs a : List ℕ) → none ≡ [] → a ≡ none ++ take (n - length none) xs → a ≡ take n xs
take_first n none xs a p q = let e : n - 0 ≡ n = omega arith in rw q (rw p (ap (λ (k : ℕ). take k xs) e))

-- three pieces
pub take-append_three : (n : ℕ) (xs ys zs none a b c : List ℕ) → none ≡ [] → a ≡ none ++ take (n - length none) xs
    → b ≡ a ++ take (n - length a) ys → c ≡ b ++ take (n - length b) zs → c ≡ take n (xs ++ (ys ++ zs))
take-append_three n xs ys zs none a b c o p q r =
    let first : a ≡ take n xs = take_first n none xs a o p in
    let second : b ≡ take n (xs ++ ys) = rw q (rw first (take-append n xs ys)) in
    let third : c ≡ take n ((xs ++ ys) ++ zs) = rw r (rw second (take-append n (xs ++ ys) zs)) in
    third ∙ ap (take n) (append_assoc xs ys zs)
