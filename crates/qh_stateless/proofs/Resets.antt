-- How long a reset is, and what stands at its ends.
use Rattle.std.proofs.Common.{◌≡◌, ℕ, ◌+◌, ◌-◌, ◌<◌, ◌≤◌, ◌/◌, ◌%◌, List, [], ◌∷◌, ◌++◌, length, get_or, drop, drop_at, replicate, refl, sym, ap, ◌∙◌, arith, append_assoc, length-append, length-drop}
use Rattle.std.proofs.lemmas.List.{append-nil, length-map, length-replicate, map-append}
use Rattle.qh_stateless.specs.Reset.{IsPaddingSize, short, long, IsReset, low_bytes_of, padding_of}
use Rattle.qh_stateless.specs.Words.{HasDrawn, and_word, and_words}
use Rattle.qh_token.specs.Reset.{reset_token_of}

token_length : (id : List ℕ) → length (reset_token_of id) ≡ 16
token_length id = omega (arith, length-append (replicate (14 - length id) 0) (drop (length id - 14) id), length-replicate {A = ℕ} (14 - length id) 0, length-drop (length id - 14) id)

padding_length : (words : List ℕ) → length (padding_of words) ≡ length words
padding_length [] = refl
padding_length (w ∷ ws) = let e = length-map ws (λ (v : ℕ). v % 256) in omega (arith, e)

-- the bounds of the padding
pub record IsBounded (cause_len size : ℕ) : Type 0 where
  pub least : 5 ≤ size
  pub most : size + 17 ≤ cause_len
  pub when_short : cause_len ≤ 42 → size + 17 ≡ cause_len
  pub when_long : 42 < cause_len → (25 ≤ size) × (size + 17 < cause_len)

pub size_bounds : (cause_len size : ℕ) (chooser : List ℕ) → 21 < cause_len → IsPaddingSize (cause_len - 16) chooser size → IsBounded cause_len size
size_bounds cause_len size chooser cause (short low none is) = record { least = omega arith; most = omega arith; when_short = λ s. omega arith; when_long = λ l. absurd (omega arith) }
size_bounds cause_len size chooser cause (long word high one is) =
    let room : 0 < cause_len - 16 - 1 - 25 = omega arith in
    let below : word % (cause_len - 16 - 1 - 25) < cause_len - 16 - 1 - 25 = omega (arith, room) in
    record { least = omega arith; most = omega arith; when_short = λ s. absurd (omega arith); when_long = λ l. (omega arith, omega arith) }

reset_length : (cause_len : ℕ) (id drawn bytes : List ℕ) → (r : IsReset cause_len id drawn bytes) → length bytes ≡ length r.words + 16
reset_length cause_len id drawn bytes r =
    let whole = ap length r.whole in
    let sum = length-append (padding_of r.words) (reset_token_of id) in
    let front = padding_length r.words in
    let end = token_length id in
    whole ∙ sum ∙ (let goal : length (padding_of r.words) + length (reset_token_of id) ≡ length r.words + 16 = omega (arith, front, end) in goal)

pub is_shorter : (cause_len : ℕ) (id drawn bytes : List ℕ) → IsReset cause_len id drawn bytes → (21 ≤ length bytes) × (length bytes < cause_len)
is_shorter cause_len id drawn bytes r =
    let size = reset_length cause_len id drawn bytes r in
    let b = size_bounds cause_len (length r.words) r.chooser r.long_cause r.size_is in
    let least = b.least in
    let most = b.most in
    (omega (arith, size, least), omega (arith, size, most))

pub short_length : (cause_len : ℕ) (id drawn bytes : List ℕ) → IsReset cause_len id drawn bytes → cause_len ≤ 42 → length bytes ≡ cause_len - 1
short_length cause_len id drawn bytes r s =
    let size = reset_length cause_len id drawn bytes r in
    let exact = (size_bounds cause_len (length r.words) r.chooser r.long_cause r.size_is).when_short s in
    omega (arith, size, exact)

pub long_length : (cause_len : ℕ) (id drawn bytes : List ℕ) → IsReset cause_len id drawn bytes → 42 < cause_len → (41 ≤ length bytes) × (length bytes < cause_len - 1)
long_length cause_len id drawn bytes r l =
    let size = reset_length cause_len id drawn bytes r in
    let bounds = (size_bounds cause_len (length r.words) r.chooser r.long_cause r.size_is).when_long l in
    let low = bounds.0 in
    let high = bounds.1 in
    (omega (arith, size, low), omega (arith, size, high))

first_byte : (words token : List ℕ) → 0 < length words → get_or (padding_of words ++ token) 0 0 / 64 ≡ 1
first_byte [] token some = absurd (omega arith)
first_byte (w ∷ ws) token some = omega arith

pub reset_first : (cause_len : ℕ) (id drawn bytes : List ℕ) → IsReset cause_len id drawn bytes → get_or bytes 0 0 / 64 ≡ 1
reset_first cause_len id drawn bytes r =
    let least = (size_bounds cause_len (length r.words) r.chooser r.long_cause r.size_is).least in
    let some : 0 < length r.words = omega (arith, least) in
    ap (λ (z : List ℕ). get_or z 0 0 / 64) r.whole ∙ first_byte r.words (reset_token_of id) some

pub reset_end : (cause_len : ℕ) (id drawn bytes : List ℕ) → IsReset cause_len id drawn bytes → drop (length bytes - 16) bytes ≡ reset_token_of id
reset_end cause_len id drawn bytes r =
    let size = reset_length cause_len id drawn bytes r in
    let front : length (padding_of r.words) ≡ length bytes - 16 = omega (arith, padding_length r.words, size) in
    ap (λ (z : List ℕ). drop (length bytes - 16) z) r.whole ∙ drop_at (padding_of r.words) (reset_token_of id) (length bytes - 16) front

-- bytes behind bytes
one_more : (given drawn now next : List ℕ) (w : ℕ) → now ≡ given ++ drawn → next ≡ now ++ w ∷ [] → next ≡ given ++ (drawn ++ w ∷ [])
one_more given drawn now next w e f = f ∙ ap (λ (z : List ℕ). z ++ w ∷ []) e ∙ append_assoc given drawn (w ∷ [])

-- words behind words
pub words_append : (given xs ys : List ℕ) → and_words given (xs ++ ys) ≡ and_words (and_words given xs) ys
words_append given [] ys = refl
words_append given (x ∷ xs) ys = words_append (and_word given x) xs ys

pub none_of_them : (most : ℕ) (given : List ℕ) → HasDrawn most given given
none_of_them most given = ([], omega arith, refl)

pub one_word : (most : ℕ) (old new : List ℕ) (word : ℕ) → 0 < most → new ≡ and_word old word → HasDrawn most old new
one_word most old new word some e = (word ∷ [], omega (arith, some), e)

pub then_drawn : (few more most : ℕ) (old mid new : List ℕ) → few + more ≤ most → HasDrawn few old mid → HasDrawn more mid new → HasDrawn most old new
then_drawn few more most old mid new room (front, few_are, e) (rest, more_are, f) =
    (front ++ rest, (let sum = length-append front rest in omega (arith, room, few_are, more_are, sum)), f ∙ ap (λ (z : List ℕ). and_words z rest) e ∙ sym (words_append old front rest))

-- those of the padding and the one that chooses its size
pub few_words : (cause_len size : ℕ) (chooser : List ℕ) → 21 < cause_len → IsPaddingSize (cause_len - 16) chooser size → length chooser + size ≤ cause_len - 16
few_words cause_len size chooser cause (short low none is) = let count : length chooser ≡ 0 = ap length none in omega (arith, count)
few_words cause_len size chooser cause (long word high one is) =
    let room : 0 < cause_len - 16 - 1 - 25 = omega arith in
    let below : word % (cause_len - 16 - 1 - 25) < cause_len - 16 - 1 - 25 = omega (arith, room) in
    let count : length chooser ≡ 1 = ap length one in
    omega (arith, below, count)

-- So many words were drawn, and their low bytes appended.
pub record IsDrawn (old now before after : List ℕ) (count : ℕ) : Type 0 where
  pub drawn : List ℕ
  pub given_are : now ≡ and_words old drawn
  pub count_is : length drawn ≡ count
  pub items_are : after ≡ before ++ low_bytes_of drawn

pub none_drawn : (given items : List ℕ) → IsDrawn given given items items 0
none_drawn given items = record { drawn = []; given_are = refl; count_is = refl; items_are = sym (append-nil items) }

pub one_drawn : (old now next before mid after : List ℕ) (count w : ℕ) → IsDrawn old now before mid count → next ≡ and_word now w → after ≡ mid ++ (w % 256) ∷ [] → IsDrawn old next before after (count + 1)
one_drawn old now next before mid after count w d e f =
    let size = d.count_is in
    let low : low_bytes_of (d.drawn ++ w ∷ []) ≡ low_bytes_of d.drawn ++ (w % 256) ∷ [] = map-append (λ (v : ℕ). v % 256) d.drawn (w ∷ []) in
    record {
      drawn = d.drawn ++ w ∷ [];
      given_are = e ∙ ap (λ (z : List ℕ). and_word z w) d.given_are ∙ sym (words_append old d.drawn (w ∷ []));
      count_is = omega (arith, length-append d.drawn (w ∷ []), size);
      items_are = one_more before (low_bytes_of d.drawn) mid after (w % 256) d.items_are f ∙ ap (λ (z : List ℕ). before ++ z) (sym low);
    }
