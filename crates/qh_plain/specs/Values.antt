-- Values as bytes.
use Rattle.std.specs.Prelude.{ℕ, List, map}
use Rattle.http_header.specs.FieldValue.{FieldValue}

abbrev pub bytes_of : List FieldValue → List (List ℕ)
bytes_of values = map (λ (v : FieldValue). v.bytes) values
