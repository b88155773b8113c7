-- Stateless resets (RFC 9000, section 10.3). How long they are, and of which words their padding is made, is own.
use Rattle.std.specs.Prelude.{◌≡◌, ℕ, ◌+◌, ◌-◌, ◌<◌, ◌≤◌, ◌%◌, List, [], ◌∷◌, ◌++◌, length, map}
use Rattle.qh_token.specs.Reset.{reset_token_of}

-- Where h is the length of the datagram that is answered less 16, there are h - 1 bytes of padding if that is at most 25. Else a word
-- chooses a number from 25 up to but without h - 1.
pub data IsPaddingSize (h : ℕ) (chooser : List ℕ) (size : ℕ) : Type 0 where
  short : h - 1 ≤ 25 → chooser ≡ [] → size ≡ h - 1 → IsPaddingSize h chooser size
  long : (word : ℕ) → 25 < h - 1 → chooser ≡ word ∷ [] → size ≡ 25 + word % (h - 1 - 25) → IsPaddingSize h chooser size

-- the low bytes of words, in order
abbrev pub low_bytes_of : (words : List ℕ) → List ℕ
low_bytes_of words = map (λ w. w % 256) words

-- The padding is made of as many words as it has bytes: of their low bytes in order, but that the top two bits of the first are 01.
abbrev pub padding_of : (words : List ℕ) → List ℕ
padding_of [] = []
padding_of (word ∷ words) = (64 + word % 64) ∷ low_bytes_of words

-- These bytes are a stateless reset for this connection id that answers a datagram of so many bytes, and these words were drawn for it.
pub record IsReset (cause_len : ℕ) (id drawn bytes : List ℕ) : Type 0 where
  pub chooser : List ℕ
  pub words : List ℕ
  pub drawn_are : drawn ≡ chooser ++ words
  pub long_cause : 21 < cause_len
  pub size_is : IsPaddingSize (cause_len - 16) chooser (length words)
  pub whole : bytes ≡ padding_of words ++ reset_token_of id
