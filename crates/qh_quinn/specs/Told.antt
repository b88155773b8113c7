-- The values that calls are told which the book doesn't have.
use Rattle.std.specs.Prelude.{◌≡◌, ℕ, ◌+◌, ◌-◌, ◌^◌, Bool, false, List, Option, None, is_some, IfSome, min}
use Rattle.qh_base.specs.declared.connection_error.ConnectionError.{ConnectionError}
use Rattle.qh_book.specs.declared.call.Call.{Call}
use Rattle.qh_book.specs.declared.call.Call.TheVariants as call
use Rattle.qh_book.specs.declared.call.Getter.{Getter}
use Rattle.qh_book.specs.declared.call.Getter.TheVariants as getter
use Rattle.qh_book.specs.declared.reply.Reply.{Reply}
use Rattle.qh_book.specs.declared.reply.Reply.TheVariants as reply
use Rattle.qh_conn.specs.declared.connection.Connection.{Connection}
use Rattle.qh_core.specs.declared.stats.ConnectionStats.{ConnectionStats}
use Rattle.qh_handles.specs.declared.told.Told.{Told}
use Rattle.qh_handles.specs.declared.told.Told.TheVariants as told
use Rattle.qh_handshake.specs.Handshake.{stats_in}
use Rattle.qh_recovery.specs.Rtt.{rtt_of}

module _ {S : Type 0} where
  abbrev pub AreStats : Connection S → ConnectionStats → Type 0
  AreStats c stats = (stats.datagrams_sent ≡ c.udp_tx.datagrams) × (stats.datagrams_received ≡ c.udp_rx.datagrams) × (stats.bytes_sent ≡ c.udp_tx.bytes) × (stats.bytes_received ≡ c.udp_rx.bytes)
      × (stats.packets_lost ≡ min (2 ^ 64 - 1) (c.core.space.packets_lost + (stats_in c.handshake.space c.handshake.stats).packets_lost))
      × (stats.probes ≡ min (2 ^ 64 - 1) (c.core.space.probes_sent + (stats_in c.handshake.space c.handshake.stats).probes))

-- Of a session, whether it knows the peer's name, and that name; and of what the handshake tells, the name that it holds.
module _ {S D : Type 0} (knows : S → Bool) (name : S → List ℕ) (name_in : D → List ℕ) where
  -- what the handshake tells is there once the session knows it
  abbrev pub IsData : S → Option D → Type 0
  IsData s d = (is_some d ≡ knows s) × IfSome d (λ x. name_in x ≡ name s)

module _ {S D : Type 0} (knows : S → Bool) (name : S → List ℕ) (name_in : D → List ℕ) where
  abbrev pub IsValue : Connection S → Getter → Told D → Type 0
  IsValue c getter.Rtt (told.Rtt span) = span.0 ≡ rtt_of c.core.space.rtt
  IsValue c getter.MinRtt (told.MinRtt span) = span ≡ c.core.space.rtt.min
  IsValue c getter.Stats (told.Stats stats) = AreStats c stats
  IsValue c getter.CongestionState (told.CongestionState state) = state ≡ record { congestion_window = c.core.space.congestion.window; ssthresh = c.core.space.congestion.ssthresh }
  IsValue c getter.HandshakeData (told.HandshakeData d) = IsData knows name name_in c.core.session d
  IsValue c getter value = Unit {0}

module _ {S D : Type 0} (knows : S → Bool) (name : S → List ℕ) (name_in : D → List ℕ) where
  -- a call that is told a value of the connection is told that one; one that waits for what the handshake tells waits while the session doesn't know it and no error is kept
  abbrev pub TellsOf : Connection S → Option ConnectionError → Call → Reply (Told D) → Type 0
  TellsOf c error call.HandshakeData (reply.Told (told.HandshakeData d)) = IsData knows name name_in c.core.session d
  TellsOf c error call.HandshakeData reply.Pending = (knows c.core.session ≡ false) × (error ≡ None)
  TellsOf c error call.HandshakeData r = knows c.core.session ≡ false
  TellsOf c error (call.Get getter) (reply.Told value) = IsValue knows name name_in c getter value
  TellsOf c error other r = Unit {0}
