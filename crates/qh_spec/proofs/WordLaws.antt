-- Words ask for one thing at most.
use Rattle.std.proofs.Common.{◌≡◌, ℕ, ◌<◌, ◌≤◌, ◌^◌, List, [], ◌∷◌, codes, decimal, get_or, refl, sym, ap, ◌∙◌, arith}
use Rattle.std.specs.Fmt.{digits}
use Rattle.std.proofs.lemmas.Fmt.{decimal_injective, first_decimal}
use Rattle.qh_spec.specs.Words.{Command, Exchange, Make, Workers, IsCommand, exchange, make, workers, tokens, AreUnknown}

-- words that begin with another word
abbrev Apart : List ℕ → List ℕ → Type 0
Apart a b = (as_ bs : List (List ℕ)) → a ∷ as_ ≡ b ∷ bs → ⊥

exchange_make : Apart (codes "exchange") (codes "make")
exchange_make as_ bs e = absurd cc

exchange_workers : Apart (codes "exchange") (codes "workers")
exchange_workers as_ bs e = absurd cc

exchange_tokens : Apart (codes "exchange") (codes "tokens")
exchange_tokens as_ bs e = absurd cc

make_workers : Apart (codes "make") (codes "workers")
make_workers as_ bs e = absurd cc

make_tokens : Apart (codes "make") (codes "tokens")
make_tokens as_ bs e = absurd cc

workers_tokens : Apart (codes "workers") (codes "tokens")
workers_tokens as_ bs e = absurd cc

one_make : (n s m t : ℕ) → codes "make" ∷ decimal n ∷ decimal s ∷ [] ≡ codes "make" ∷ decimal m ∷ decimal t ∷ [] → n ≤ 10000 → m ≤ 10000 → s < 2 ^ 32 → t < 2 ^ 32
    → Make n s ≡ Make m t
one_make n s m t e a b c d =
    let counts : decimal n ≡ decimal m = cc in
    let seeds : decimal s ≡ decimal t = cc in
    ap (λ (k : ℕ). Make k s) (decimal_injective n m (omega arith) (omega arith) counts)
    ∙ ap (Make m) (decimal_injective s t (omega arith) (omega arith) seeds)

one_workers : (n m : ℕ) → codes "workers" ∷ decimal n ∷ [] ≡ codes "workers" ∷ decimal m ∷ [] → n ≤ 64 → m ≤ 64 → Workers n ≡ Workers m
one_workers n m e a b = let counts : decimal n ≡ decimal m = cc in ap Workers (decimal_injective n m (omega arith) (omega arith) counts)

pub one_command : (words : List (List ℕ)) (c d : Command) → IsCommand words c → IsCommand words d → c ≡ d
one_command words _ _ (exchange e) (exchange f) = refl
one_command words _ _ (exchange e) (make n s f low high small) = absurd (exchange_make _ _ (sym e ∙ f))
one_command words _ _ (exchange e) (workers n f low high) = absurd (exchange_workers _ _ (sym e ∙ f))
one_command words _ _ (exchange e) (tokens f) = absurd (exchange_tokens _ _ (sym e ∙ f))
one_command words _ _ (make n s e low high small) (exchange f) = absurd (exchange_make _ _ (sym f ∙ e))
one_command words _ _ (make n s e low high small) (make m t f some few less) = one_make n s m t (sym e ∙ f) high few small less
one_command words _ _ (make n s e low high small) (workers m f some few) = absurd (make_workers _ _ (sym e ∙ f))
one_command words _ _ (make n s e low high small) (tokens f) = absurd (make_tokens _ _ (sym e ∙ f))
one_command words _ _ (workers n e low high) (exchange f) = absurd (exchange_workers _ _ (sym f ∙ e))
one_command words _ _ (workers n e low high) (make m t f some few less) = absurd (make_workers _ _ (sym f ∙ e))
one_command words _ _ (workers n e low high) (workers m f some few) = one_workers n m (sym e ∙ f) high few
one_command words _ _ (workers n e low high) (tokens f) = absurd (workers_tokens _ _ (sym e ∙ f))
one_command words _ _ (tokens e) (exchange f) = absurd (exchange_tokens _ _ (sym f ∙ e))
one_command words _ _ (tokens e) (make m t f some few less) = absurd (make_tokens _ _ (sym f ∙ e))
one_command words _ _ (tokens e) (workers m f some few) = absurd (workers_tokens _ _ (sym f ∙ e))
one_command words _ _ (tokens e) (tokens f) = refl

-- ---- rows

pub exchange_is : IsCommand (codes "exchange" ∷ []) Exchange
exchange_is = exchange refl

pub make_is : IsCommand (codes "make" ∷ codes "10000" ∷ codes "0" ∷ []) (Make 10000 0)
unfolding digits
make_is = make 10000 0 refl (omega arith) (omega arith) (omega arith)

pub none_unknown : AreUnknown []
none_unknown _ (exchange e) = absurd cc
none_unknown _ (make n s e low high small) = absurd cc
none_unknown _ (workers n e low high) = absurd cc
none_unknown _ (tokens e) = absurd cc

pub misspelled_unknown : AreUnknown (codes "exchang" ∷ [])
misspelled_unknown _ (exchange e) = absurd cc
misspelled_unknown _ (make n s e low high small) = absurd cc
misspelled_unknown _ (workers n e low high) = absurd cc
misspelled_unknown _ (tokens e) = absurd cc

text_65 : decimal 65 ≡ codes "65"
unfolding digits
text_65 = refl

pub many_unknown : AreUnknown (codes "workers" ∷ codes "65" ∷ [])
many_unknown _ (exchange e) = absurd (exchange_workers _ _ (sym e))
many_unknown _ (make n s e low high small) = absurd (make_workers _ _ (sym e))
many_unknown _ (workers n e low high) =
    let text : codes "65" ≡ decimal n = cc in
    let is : 65 ≡ n = decimal_injective 65 n (omega arith) (omega arith) (text_65 ∙ text) in
    omega arith
many_unknown _ (tokens e) = absurd (workers_tokens _ _ e)

-- a number with a zero before it
pub zero_unknown : AreUnknown (codes "make" ∷ codes "01" ∷ codes "0" ∷ [])
zero_unknown _ (exchange e) = absurd (exchange_make _ _ (sym e))
zero_unknown _ (make n s e low high small) =
    let text : codes "01" ≡ decimal n = cc in
    let first : 48 ≡ get_or (decimal n) 0 0 = ap (λ (z : List ℕ). get_or z 0 0) text in
    omega (arith, first, first_decimal n (omega arith) (omega arith))
zero_unknown _ (workers n e low high) = absurd (make_workers _ _ e)
zero_unknown _ (tokens e) = absurd (make_tokens _ _ e)
