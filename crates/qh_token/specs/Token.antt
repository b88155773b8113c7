-- Tokens that show that a client receives at an address (RFC 9000, section 8.1; the form is own).
use Rattle.std.specs.Prelude.{◌≡◌, ◌⊎◌, ℕ, ◌<◌, ◌≤◌, ◌^◌, ◌==◌, List, [], ◌∷◌, ◌++◌, length, if◌then◌else◌}
use Rattle.std.specs.Int.{w16, w64, w128, to_be_bytes}
use Rattle.std.specs.Net.Addr.{ipv4_octets, ipv6_octets}
use Rattle.std.specs.Net.Socket.{socket_flowinfo, socket_ip, socket_port, socket_scope_id}
use Rattle.std.specs.declared.net.ip_addr.IpAddr.{IpAddr}
use Rattle.std.specs.declared.net.ip_addr.IpAddr.TheVariants.{V4, V6}
use Rattle.qh_token.specs.declared.token.Token.{Token}
use Rattle.qh_token.specs.declared.token.TokenPayload.{TokenPayload}
use Rattle.qh_token.specs.declared.token.TokenPayload.TheVariants as payload

-- for what a token was given: in a Retry packet, or to validate the address of a later connection
pub data TokenKind : Type 0 where
  Retry : TokenKind
  Validation : TokenKind

-- what a token says
pub record TokenValue : Type 0 where
  pub nonce : ℕ
  pub kind : TokenKind
  -- the four bytes of an IPv4 address, or the sixteen of an IPv6 address
  pub address : List ℕ
  pub port : ℕ
  -- the id to which the client's first Initial went
  pub original : List ℕ
  -- in nanoseconds
  pub issued : ℕ

abbrev pub kind_byte : TokenKind → ℕ
kind_byte Retry = 0
kind_byte Validation = 1

-- 4 or 6, by how many bytes the address has
abbrev pub family_byte : (address : List ℕ) → ℕ
family_byte address = if length address == 4 then 4 else 6

-- the bytes of an address of one of the families
abbrev pub IsAddress : List ℕ → Type 0
IsAddress address = (length address ≡ 4) ⊎ (length address ≡ 16)

-- the nonce in 16 bytes, the kind, 4 or 6, the address, the port in 2 bytes, the original id behind its length, the moment in 8
-- bytes, and 7E
abbrev pub token_bytes : TokenValue → List ℕ
token_bytes v =
    to_be_bytes w128 v.nonce ++ (kind_byte v.kind ∷ family_byte v.address ∷ (v.address ++ (to_be_bytes w16 v.port
    ++ (length v.original ∷ (v.original ++ (to_be_bytes w64 v.issued ++ 126 ∷ []))))))

-- what a token can say
pub record IsTokenValue (v : TokenValue) : Type 0 where
  pub nonce_fits : v.nonce < 2 ^ 128
  pub address_fits : IsAddress v.address
  pub port_fits : v.port < 2 ^ 16
  pub original_fits : length v.original ≤ 20
  pub issued_fits : v.issued < 2 ^ 64
  pub validation : v.kind ≡ Validation → (v.port ≡ 0) × (v.original ≡ [])

-- the bytes are a token that says this
pub record IsToken (bytes : List ℕ) (v : TokenValue) : Type 0 where
  pub whole : bytes ≡ token_bytes v
  pub fits : IsTokenValue v

-- ---- what a token of the code says

-- the bytes of an address
abbrev pub octets : IpAddr → List ℕ
octets (V4 ip) = ipv4_octets ip
octets (V6 ip) = ipv6_octets ip

-- what a payload says, with this nonce
abbrev pub said : (nonce : ℕ) → TokenPayload → TokenValue
said nonce (payload.Retry address original issued) =
    record { nonce = nonce; kind = Retry; address = octets (socket_ip address); port = socket_port address; original = original; issued = issued.0 }
said nonce (payload.Validation ip issued) =
    record { nonce = nonce; kind = Validation; address = octets ip; port = 0; original = []; issued = issued.0 }

-- all but the flow label and the scope of an IPv6 address
abbrev pub value_of : Token → TokenValue
value_of t = said t.nonce t.payload

-- the flow label and the scope of its address are 0
abbrev pub IsPlain : TokenPayload → Type 0
IsPlain (payload.Retry address original issued) = (socket_flowinfo address ≡ 0) × (socket_scope_id address ≡ 0)
IsPlain (payload.Validation ip issued) = Unit {0}
