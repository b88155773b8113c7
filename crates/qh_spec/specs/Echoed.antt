-- Entries of a service that echoes, and their answers (own).
use Rattle.std.specs.Prelude.{◌≡◌, ℕ, ◌+◌, ◌*◌, List, [], ◌∷◌, IfSome}
use Rattle.http_header.specs.HeaderMap.{IsHeaderMap}
use Rattle.qh_spec.specs.Message.{PlainMessage}
use Rattle.qh_spec.specs.Record.{PlainEntry}
use Rattle.qh_spec.specs.Same.{SameMessage}
use Rattle.qh_spec.specs.Service.{echo}

-- in the maps of the message no name stands twice, and each has a value
pub record HasMaps (m : PlainMessage) : Type 0 where
  pub fields : IsHeaderMap m.fields
  pub trailers : IfSome m.trailers IsHeaderMap

-- the entry is that of the i-th request, which was echoed up to a limit, and the answer is its response
pub record IsEchoed (i limit : ℕ) (m : PlainMessage) (e : PlainEntry) (answer : PlainMessage) : Type 0 where
  pub stream_is : e.stream ≡ 4 * i
  pub asked : SameMessage e.request m
  pub response_is : e.response ≡ echo limit e.request
  pub told : SameMessage answer e.response

-- the entries and the answers are those of the requests from the i-th on, in their order
abbrev pub AreEchoed : (i limit : ℕ) → List PlainMessage → List PlainEntry → List PlainMessage → Type 0
AreEchoed i limit [] [] [] = Unit {0}
AreEchoed i limit (m ∷ ms) (e ∷ es) (a ∷ answers) =
    IsEchoed i limit m e a × HasMaps m × HasMaps e.request × HasMaps a × AreEchoed (i + 1) limit ms es answers
AreEchoed i limit [] [] (a ∷ answers) = ⊥
AreEchoed i limit [] (e ∷ es) answers = ⊥
AreEchoed i limit (m ∷ ms) [] answers = ⊥
AreEchoed i limit (m ∷ ms) (e ∷ es) [] = ⊥
