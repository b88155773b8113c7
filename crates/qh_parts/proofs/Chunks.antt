-- The byte at a place after one more chunk.
use Rattle.std.proofs.Common.{◌≡◌, ℕ, ◌+◌, ◌<◌, List, [], ◌∷◌, ◌++◌, length, get_or, take, Option, Some, None, unwrap_or, refl, sym, ap, ◌∙◌}
use Rattle.std.specs.Option.{option_or}
use Rattle.std.proofs.lemmas.List.{take_more}
use Rattle.qh_buffers.specs.declared.assembler.Chunk.{Chunk}
use Rattle.qh_parts.specs.ReadToEndBuffer.{byte_of, last_byte, byte_at}

option_or-none : {A : Type 0} (o : Option A) → o ≡ option_or o None
option_or-none None = refl
option_or-none (Some x) = refl

option_or-assoc : {A : Type 0} (a b c : Option A) → option_or (option_or a b) c ≡ option_or a (option_or b c)
option_or-assoc None b c = refl
option_or-assoc (Some x) b c = refl

unwrap_or-option_or : {A : Type 0} (a b : Option A) (d : A) → unwrap_or (option_or a b) d ≡ unwrap_or a (unwrap_or b d)
unwrap_or-option_or None b d = refl
unwrap_or-option_or (Some x) b d = refl

last_byte-push : (cs : List Chunk) (c : Chunk) (place : ℕ) → last_byte (cs ++ c ∷ []) place ≡ option_or (byte_of c place) (last_byte cs place)
last_byte-push [] c place = option_or-none (byte_of c place)
last_byte-push (d ∷ ds) c place =
    ap (λ (o : Option ℕ). option_or o (byte_of d place)) (last_byte-push ds c place)
    ∙ option_or-assoc (byte_of c place) (last_byte ds place) (byte_of d place)

-- nothing covers a place before the first chunk
pub byte_at-none : (place : ℕ) → byte_at [] place ≡ 0
unfolding byte_at
byte_at-none place = refl

-- a chunk stands over those before it
pub byte_at-more : (cs : List Chunk) (i : ℕ) (c : Chunk) (place : ℕ) → i < length cs → c ≡ get_or cs i c → byte_at (take (i + 1) cs) place ≡ unwrap_or (byte_of c place) (byte_at (take i cs) place)
unfolding byte_at
byte_at-more cs i c place h is =
    ap (λ (ds : List Chunk). unwrap_or (last_byte ds place) 0) (take_more cs i c h ∙ ap (λ (x : Chunk). take i cs ++ x ∷ []) (sym is))
    ∙ ap (λ (o : Option ℕ). unwrap_or o 0) (last_byte-push (take i cs) c place)
    ∙ unwrap_or-option_or (byte_of c place) (last_byte (take i cs) place) 0
