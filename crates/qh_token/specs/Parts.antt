-- The parts of a token, before it is known whether they are one.
use Rattle.std.specs.Prelude.{◌≡◌, ℕ, ◌<◌, ◌≤◌, ◌^◌, List, [], length}
use Rattle.qh_token.specs.Token.{TokenKind, Retry, Validation, TokenValue, IsAddress, octets, token_bytes}
use Rattle.qh_token.specs.declared.parts.Kind.{Kind}
use Rattle.qh_token.specs.declared.parts.Kind.TheVariants as kind
use Rattle.qh_token.specs.declared.parts.Parts.{Parts}

abbrev pub kind_of : Kind → TokenKind
kind_of kind.Retry = Retry
kind_of kind.Validation = Validation

-- what they say
abbrev pub value_of_parts : Parts → TokenValue
value_of_parts p =
    record { nonce = p.nonce; kind = kind_of p.kind; address = octets p.ip; port = p.port; original = p.original.now; issued = p.issued.0 }

-- the bytes are these parts, however long the id is, and whatever a validation's port and id are
pub record AreParts (bytes : List ℕ) (v : TokenValue) : Type 0 where
  pub whole : bytes ≡ token_bytes v
  pub nonce_fits : v.nonce < 2 ^ 128
  pub address_fits : IsAddress v.address
  pub port_fits : v.port < 2 ^ 16
  pub issued_fits : v.issued < 2 ^ 64

-- the id isn't too long, and a validation has neither port nor id
pub record IsAllowed (v : TokenValue) : Type 0 where
  pub original_fits : length v.original ≤ 20
  pub validation : v.kind ≡ Validation → (v.port ≡ 0) × (v.original ≡ [])
