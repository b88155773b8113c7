-- A handshake as a value, and what holds of it at every moment (RFC 9000, section 7).
use Rattle.std.specs.Prelude.{◌≡◌, ℕ, ◌+◌, ◌-◌, ◌*◌, ◌≤◌, ◌^◌, nat_lt, min, Bool, true, not, ◌&&◌, List, [], length, Option, Some, None, is_some, IfSome}
use Rattle.qh_handshake.specs.InitialSpace.{IsInitialSpace, stats_of}
use Rattle.qh_handshake.specs.Settled.{IsHelloOut}
use Rattle.qh_handshake.specs.declared.handshake.Handshake.{Handshake}
use Rattle.qh_handshake.specs.declared.initial_space.HelloState.TheVariants.{Held}
use Rattle.qh_handshake.specs.declared.initial_space.InitialSpace.{InitialSpace}
use Rattle.qh_handshake.specs.declared.initial_space.InitialStats.{InitialStats}
use Rattle.qh_hello.specs.Greetings.{greeting}
use Rattle.qh_spec.specs.Hello.{IsSayable, hello_bytes, hello_of}
use Rattle.qh_spec.specs.HelloFaults.{IdsUsed}
use Rattle.qh_spec.specs.declared.sides.Side.{Side}
use Rattle.qh_spec.specs.declared.sides.Side.TheVariants.{Client, Server}

-- the ids that were used, as the reader of the peer's hello knows them (section 7.3)
abbrev pub ids_at : Side → (original peer : List ℕ) → (retry : Option (List ℕ)) → IdsUsed
ids_at Client original peer retry = record { original = Some original; source = peer; retry = retry }
ids_at Server original peer retry = record { original = None; source = peer; retry = None }

abbrev pub ids_used : Handshake → IdsUsed
ids_used h = ids_at h.side h.original_id h.remote_id h.retry_id

-- a hello that is held is in no packet that is out
pub record IsHeld (s : InitialSpace) : Type 0 where
  pub held : s.state ≡ Held
  pub none_out : IsHelloOut s.sent → ⊥

-- the hello isn't held, and is this one
pub record IsSaid (hello : List ℕ) (s : InitialSpace) : Type 0 where
  pub released : s.state ≡ Held → ⊥
  pub hello_is : s.hello ≡ hello

-- the hello is as it was, and is held if it was, and only then
pub record KeepsHello (old new : InitialSpace) : Type 0 where
  pub hello : new.hello ≡ old.hello
  pub held : IsHeld old → IsHeld new
  pub released : new.state ≡ Held → old.state ≡ Held

-- The space is whole while it is there; a client that was greeted has none any more; a server that wasn't holds its hello, and one that was
-- says its parameters by it. A server knows its peer's id from the first; a client learns it from the first packet, and what it sends isn't
-- limited. An end says the source id of its packets, and a server the id to which the client's first packet went (section 7.3).
pub record IsHandshake (h : Handshake) : Type 0 where
  pub space : IfSome h.space IsInitialSpace
  pub token : length h.token ≤ 512
  pub server : h.side ≡ Server → (h.knows_peer ≡ true) × (h.token ≡ []) × IsSayable (greeting Server [] h.parameters)
  pub source : h.parameters.initial_source_connection_id ≡ h.local_id
  pub origin : h.side ≡ Server → h.parameters.original_destination_connection_id ≡ Some h.original_id
  pub validated : h.side ≡ Client → h.is_validated ≡ true
  pub greeted : h.side ≡ Client → is_some h.peer ≡ true → h.space ≡ None
  pub held : h.side ≡ Server → h.peer ≡ None → IfSome h.space IsHeld
  pub said : h.side ≡ Server → is_some h.peer ≡ true → IfSome h.space (IsSaid (hello_bytes (hello_of (greeting Server [] h.parameters))))

-- ---- the space is dropped

-- what was counted and measured in it: so far, or when it was dropped
abbrev pub stats_in : Option InitialSpace → (kept : InitialStats) → InitialStats
stats_in (Some s) kept = stats_of s
stats_in None kept = kept

-- the space isn't used any more, and what was counted and measured in it is kept
abbrev pub dropping : Handshake → Handshake
dropping h = record h { space = None; stats = stats_in h.space h.stats }

-- ---- the limit before the client's address is validated (section 8.1)

-- a datagram of 1,200 bytes more would be more than three times what came
abbrev pub is_limited : Handshake → Bool
is_limited h = not h.is_validated && nat_lt (min (2 ^ 64 - 1) (3 * h.bytes_received)) (h.bytes_sent + 1200)

-- a count saturates at the greatest number of its type
abbrev pub counted : ℕ → ℕ
counted n = min (2 ^ 64 - 1) n

-- the client's first packet went to this id, and was answered by a Retry packet from that one, if there is one
abbrev pub with_origin : Handshake → (original : List ℕ) → (retry : Option (List ℕ)) → (is_validated : Bool) → Handshake
with_origin h original retry is_validated = record h {
  original_id = original;
  is_validated = is_validated;
  parameters = record h.parameters { original_destination_connection_id = Some original; retry_source_connection_id = retry };
}
