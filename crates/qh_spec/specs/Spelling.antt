-- Which bytes of a request stream spell a message (RFC 9114, section 4.1).
use Rattle.std.specs.Prelude.{◌≡◌, ℕ, ◌==◌, List, [], ◌∷◌, ◌++◌, map, filter, Option, Some, None}
use Rattle.std.specs.List.{concat, list_any}
use Rattle.qh_spec.specs.Fields.{Field}
use Rattle.qh_spec.specs.HttpFrame.{HttpFrame, AreHttpFrames, data_frame, headers_frame}
use Rattle.qh_spec.specs.HttpFrameTypes as types
use Rattle.qh_spec.specs.Meaning.{MeansHead, MeansFields, MeansTrailers}
use Rattle.qh_spec.specs.Message.{PlainMessage}
use Rattle.qh_spec.specs.Section.{IsSection}

-- the types of frames to which RFC 9114 gives a meaning (section 7.2), and those to which HTTP/2 gave one (section 7.2.8)
abbrev pub known_kinds : List ℕ
known_kinds =
    types.data_ ∷ types.headers ∷ types.cancel_push ∷ types.settings ∷ types.push_promise ∷ types.goaway ∷ types.max_push_id
    ∷ types.http2_priority ∷ types.http2_ping ∷ types.http2_window_update ∷ types.http2_continuation ∷ []

-- the frames without those of unknown types, which readers skip (section 9)
abbrev pub known_frames : List HttpFrame → List HttpFrame
known_frames frames = filter (λ (f : HttpFrame). list_any (λ k. k == f.kind) known_kinds) frames

-- the frame of the trailers, where there is one (section 4.1)
abbrev pub trailer_frames : Option (List ℕ) → List HttpFrame
trailer_frames None = []
trailer_frames (Some section) = headers_frame section ∷ []

-- A HEADERS frame, then DATA frames, then at most one HEADERS frame, with frames of unknown types anywhere. The first
-- section means the head and the fields, the DATA frames are the body, and the last section means the trailers.
pub record Spells (bytes : List ℕ) (m : PlainMessage) : Type 0 where
  pub frames : List HttpFrame
  pub section : List ℕ
  pub payloads : List (List ℕ)
  pub last : Option (List ℕ)
  pub fields : List Field
  pub framed : AreHttpFrames bytes frames
  pub order : known_frames frames ≡ headers_frame section ∷ (map data_frame payloads ++ trailer_frames last)
  pub is_section : IsSection section fields
  pub head : MeansHead fields m.head
  pub means : MeansFields fields m.fields
  pub body : m.body ≡ concat payloads
  pub trailers : MeansTrailers last m.trailers
