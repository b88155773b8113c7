-- DATAGRAM frames of the application's (RFC 9221).
use Rattle.std.specs.Prelude.{◌≡◌, ℕ, ◌+◌, ◌<◌, ◌≤◌, Bool, false, List, length, take, Option, Some, None}
use Rattle.qh_control.specs.declared.datagrams.DatagramFault.{DatagramFault}
use Rattle.qh_control.specs.declared.datagrams.DatagramFault.TheVariants as fault
use Rattle.qh_datagrams.specs.Datagrams.{PlainDatagrams, bytes_of}

-- why a payload isn't queued, the first reason that holds; `own` is what this end takes, `peer` what the peer does
abbrev pub IsSendFault : (own peer : Option ℕ) → (room : ℕ) → (drop_old : Bool) → PlainDatagrams → (payload : List ℕ) → DatagramFault → Type 0
IsSendFault own peer room drop_old d payload fault.Disabled = own ≡ None
IsSendFault own peer room drop_old d payload fault.UnsupportedByPeer = (own ≡ None → ⊥) × (peer ≡ None)
IsSendFault own peer room drop_old d payload fault.TooLarge = (own ≡ None → ⊥) × ((most : ℕ) × (peer ≡ Some most) × (most < length payload))
IsSendFault own peer room drop_old d payload (fault.Blocked back) = (own ≡ None → ⊥) × ((most : ℕ) × (peer ≡ Some most) × (length payload ≤ most)) × (back ≡ payload) × (drop_old ≡ false) × (room < bytes_of d.outgoing + length payload)
IsSendFault own peer room drop_old d payload fault.Memory = (own ≡ None → ⊥) × ((most : ℕ) × (peer ≡ Some most) × (length payload ≤ most)) × (drop_old ≡ false → bytes_of d.outgoing + length payload ≤ room)

-- So many of the queued payloads, from the oldest on, are made ready for one packet, which may have room for about 1,143 bytes: more than one
-- only if they have no more together, and with one more, unless there are 64, they would.
pub record IsReady (outgoing : List (List ℕ)) (count : ℕ) : Type 0 where
  pub fits : 1 < count → bytes_of (take count outgoing) ≤ 1143
  pub most : count < 64 → count < length outgoing → 1143 < bytes_of (take (count + 1) outgoing)
