-- Sizes of messages, and how many rounds are enough for an exchange.
use Rattle.std.specs.Prelude.{ℕ, ◌+◌, ◌*◌, ◌-◌, ◌^◌, min, List, length, sum_by}
use Rattle.qh_spec.specs.Fields.{Field, message_fields, trailer_fields}
use Rattle.qh_spec.specs.Message.{PlainMessage}

-- the size of a field section (RFC 9114, section 4.2.2)
abbrev pub section_size : List Field → ℕ
section_size fields = sum_by (λ (f : Field). length f.name + length f.value + 32) fields

-- both sections, the body, and 64 for what frames it (own)
abbrev pub message_size : PlainMessage → ℕ
message_size m = section_size (message_fields m) + length m.body + section_size (trailer_fields m.trailers) + 64

-- how many rounds are enough where a section's size is at most `section` and a response's body at most `body` (own)
abbrev pub enough_rounds : (section body : ℕ) → List PlainMessage → ℕ
enough_rounds section body requests =
    min (2 ^ 64 - 1) (512 + 64 * length requests + 4 * (sum_by message_size requests + length requests * (2 * section + body + 64)))
