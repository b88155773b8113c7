-- What a session makes and takes for tags, and a plain session as a value.
use Rattle.std.specs.Prelude.{◌≡◌, ℕ, ◌<◌, ◌^◌, Bool, true, List, bytes_eq}
use Rattle.qh_spec.specs.Tag.{IsTag, tag_bytes}
use Rattle.qh_spec.specs.declared.sides.Side.{Side}
use Rattle.qh_spec.specs.declared.sides.Space.{Space}

-- whether it accepts a tag of a packet that has this sender, space and number
abbrev pub AcceptsTag : Type 0
AcceptsTag = Side → Space → ℕ → List ℕ → Bool

-- the tag that it makes of a packet
abbrev pub SealsTag : Type 0
SealsTag = Side → Space → ℕ → List ℕ

-- what it takes for a tag of a packet is one
abbrev pub NamesTags : (accepts : AcceptsTag) → Type 0
NamesTags accepts = (from : Side) (space : Space) (number : ℕ) (tag : List ℕ) → number < 2 ^ 62 → accepts from space number tag ≡ true → IsTag tag from space number

-- what it makes for a tag of a packet is one
abbrev pub MakesTags : (sealed : SealsTag) → Type 0
MakesTags sealed = (from : Side) (space : Space) (number : ℕ) → number < 2 ^ 62 → IsTag (sealed from space number) from space number

-- ---- without a cipher

pub record PlainKeys : Type 0 where
  pub key_id : List ℕ
  pub server_name : List ℕ
  pub knows_name : Bool

abbrev pub plain_accepts : PlainKeys → AcceptsTag
plain_accepts keys from space number tag = bytes_eq tag (tag_bytes keys.key_id from space number)

abbrev pub plain_sealed : PlainKeys → SealsTag
plain_sealed keys from space number = tag_bytes keys.key_id from space number
