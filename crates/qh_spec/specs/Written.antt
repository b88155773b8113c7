-- The bytes that are written of a message, and what messages have, so that these bytes spell them (own).
use Rattle.std.specs.Prelude.{◌≡◌, ◌<◌, ◌^◌, ℕ, false, List, [], ◌∷◌, ◌++◌, length, map, flat_map, Option, Some, None}
use Rattle.std.specs.List.{AllByRecursion}
use Rattle.http_header.specs.HeaderMap.{Entries, keys}
use Rattle.http_header.specs.FieldValue.{FieldValue}
use Rattle.qh_spec.specs.Fields.{map_fields, message_fields, trailer_fields}
use Rattle.qh_spec.specs.HttpFrame.{HttpFrame, http_frame, data_frame, headers_frame}
use Rattle.qh_spec.specs.Lists.{Distinct}
use Rattle.qh_spec.specs.Meaning.{AreReadable, is_pseudo_name}
use Rattle.qh_spec.specs.Message.{PlainMessage}
use Rattle.qh_spec.specs.Section.{section_bytes}
use Rattle.qh_spec.specs.Size.{section_size}
use Rattle.qh_spec.specs.Spelling.{trailer_frames}

-- a body that isn't empty is one DATA frame (own)
abbrev pub body_payloads : List ℕ → List (List ℕ)
body_payloads [] = []
body_payloads (b ∷ bs) = (b ∷ bs) ∷ []

-- the section of the trailers, where there are any (own)
abbrev pub trailer_section : Option (Entries FieldValue) → Option (List ℕ)
trailer_section None = None
trailer_section (Some m) = Some (section_bytes (map_fields m))

-- the frames that are written of a message (RFC 9114, section 4.1)
abbrev pub message_frames : PlainMessage → List HttpFrame
message_frames m =
    headers_frame (section_bytes (message_fields m)) ∷ (map data_frame (body_payloads m.body) ++ trailer_frames (trailer_section m.trailers))

-- the bytes that are written of a message (own)
abbrev pub message_bytes : PlainMessage → List ℕ
message_bytes m = flat_map http_frame (message_frames m)

-- no name stands twice, and none is a pseudo field's, as in each map of the crate `http_header` (own)
pub record HasPlainNames (m : Entries FieldValue) : Type 0 where
  pub once : Distinct (keys m)
  pub plain : AllByRecursion (λ (k : List ℕ). is_pseudo_name k ≡ false) (keys m)

-- the same of trailers, and what is written of them can be read (own)
abbrev pub AreWritable : Option (Entries FieldValue) → Type 0
AreWritable None = Unit {0}
AreWritable (Some m) = HasPlainNames m × AreReadable (map_fields m)

-- what is written of the message can be read, and it isn't longer than a frame can be (own)
pub record IsWritable (m : PlainMessage) : Type 0 where
  pub names : HasPlainNames m.fields
  pub readable : AreReadable (message_fields m)
  pub trailers : AreWritable m.trailers
  pub fields_fit : section_size (message_fields m) < 2 ^ 61
  pub trailers_fit : section_size (trailer_fields m.trailers) < 2 ^ 61
  pub body_fits : length m.body < 2 ^ 62
