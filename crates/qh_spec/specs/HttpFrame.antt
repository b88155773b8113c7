-- Frames of HTTP/3 (RFC 9114, section 7.1).
use Rattle.std.specs.Prelude.{◌≡◌, ℕ, List, [], ◌∷◌, ◌++◌, length}
use Rattle.qh_spec.specs.HttpFrameTypes as types
use Rattle.qh_spec.specs.Varint.{IsVarint, varint}

pub record HttpFrame : Type 0 where
  pub kind : ℕ
  pub payload : List ℕ

-- a type, a length and that many bytes, the two numbers in any form
pub record IsHttpFrame (bytes : List ℕ) (f : HttpFrame) : Type 0 where
  pub kind_bytes : List ℕ
  pub length_bytes : List ℕ
  pub whole : bytes ≡ kind_bytes ++ (length_bytes ++ f.payload)
  pub kind_is : IsVarint kind_bytes f.kind
  pub length_is : IsVarint length_bytes (length f.payload)

-- the frames one after another, and nothing else
abbrev pub AreHttpFrames : List ℕ → List HttpFrame → Type 0
AreHttpFrames bytes [] = bytes ≡ []
AreHttpFrames bytes (f ∷ fs) = (front rest : List ℕ) × (bytes ≡ front ++ rest) × IsHttpFrame front f × AreHttpFrames rest fs

-- the form that is written, with the shortest numbers
abbrev pub http_frame : HttpFrame → List ℕ
http_frame f = varint f.kind ++ (varint (length f.payload) ++ f.payload)

-- DATA (section 7.2.1)
abbrev pub data_frame : List ℕ → HttpFrame
data_frame payload = record { kind = types.data_; payload = payload }

-- HEADERS (section 7.2.2)
abbrev pub headers_frame : List ℕ → HttpFrame
headers_frame section = record { kind = types.headers; payload = section }
