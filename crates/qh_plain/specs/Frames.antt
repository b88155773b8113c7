-- The parts of a message in the frames of a request stream (RFC 9114, section 4.1), and reading them as functions on lists.
use Rattle.std.specs.Prelude.{◌≡◌, ℕ, ◌==◌, List, [], ◌∷◌, ◌++◌, map, drop, Option, Some, None, if◌then◌else◌}
use Rattle.std.specs.List.{concat}
use Rattle.qh_base.specs.Varint.{varint_at}
use Rattle.qh_plain.specs.Chain.{◌>>=◌}
use Rattle.qh_plain.specs.Sections.{counted}
use Rattle.qh_spec.specs.HttpFrame.{HttpFrame, AreHttpFrames, data_frame, headers_frame}
use Rattle.qh_spec.specs.HttpFrameTypes as types
use Rattle.qh_spec.specs.Spelling.{known_frames, trailer_frames}

-- the first section, the payloads of the DATA frames in one piece, and the last section where there is one
pub record Parts : Type 0 where
  pub section : List ℕ
  pub body : List ℕ
  pub last : Option (List ℕ)

-- A HEADERS frame, then DATA frames, then at most one HEADERS frame.
pub record AreInOrder (frames : List HttpFrame) (parts : Parts) : Type 0 where
  pub payloads : List (List ℕ)
  pub order : frames ≡ headers_frame parts.section ∷ (map data_frame payloads ++ trailer_frames parts.last)
  pub body : parts.body ≡ concat payloads

-- The bytes are frames, and those of known types are in order. Frames of unknown types stand anywhere.
pub record AreParts (bytes : List ℕ) (parts : Parts) : Type 0 where
  pub frames : List HttpFrame
  pub payloads : List (List ℕ)
  pub framed : AreHttpFrames bytes frames
  pub order : known_frames frames ≡ headers_frame parts.section ∷ (map data_frame payloads ++ trailer_frames parts.last)
  pub body : parts.body ≡ concat payloads

-- the number that begins the bytes, and what follows it
abbrev pub number_at : List ℕ → Option (ℕ × List ℕ)
number_at bytes = varint_at bytes >>= λ n. Some (n.0, drop n.1 bytes)

-- the frame that begins the bytes, and what follows it
abbrev pub frame_at : List ℕ → Option (HttpFrame × List ℕ)
frame_at bytes =
    number_at bytes >>= λ kind. (number_at kind.1 >>= λ count. (counted count.0 count.1 >>= λ p. Some (record { kind = kind.0; payload = p.0 }, p.1)))

-- the payloads of the DATA frames in front
abbrev pub data_payloads : List HttpFrame → List (List ℕ)
data_payloads [] = []
data_payloads (f ∷ fs) = if f.kind == types.data_ then f.payload ∷ data_payloads fs else []

-- what follows the DATA frames in front
abbrev pub after_data : List HttpFrame → List HttpFrame
after_data [] = []
after_data (f ∷ fs) = if f.kind == types.data_ then after_data fs else f ∷ fs

-- the section of the last frame, where there is one
abbrev pub last_at : List HttpFrame → Option (Option (List ℕ))
last_at [] = Some None
last_at (f ∷ []) = if f.kind == types.headers then Some (Some f.payload) else None
last_at (f ∷ g ∷ fs) = None

-- the parts of frames that are in order
abbrev pub parts_at : List HttpFrame → Option Parts
parts_at [] = None
parts_at (f ∷ fs) =
    if f.kind == types.headers then (last_at (after_data fs) >>= λ last. Some (record { section = f.payload; body = concat (data_payloads fs); last = last })) else None
