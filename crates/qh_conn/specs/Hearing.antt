-- How a connection stands to all that was done with it in the middle of a datagram (RFC 9000, section 12.2).
use Rattle.std.specs.Prelude.{◌≡◌, ℕ, Bool, false, List, [], Option, Result, OnOk, OnErr}
use Rattle.qh_base.specs.declared.connection_error.ConnectionError.{ConnectionError}
use Rattle.qh_base.specs.declared.memory.Memory.{Memory}
use Rattle.qh_base.specs.declared.time.Moment.{Moment}
use Rattle.qh_conn.specs.Whole.{Stands}
use Rattle.qh_conn.specs.declared.connection.Connection.{Connection}
use Rattle.qh_converse.specs.Converses.{Converses, Hears}
use Rattle.qh_core.specs.Inner.{is_open}
use Rattle.qh_core.specs.Made.{AcceptsTags, IsMadeLocally, MakesTagsOf}
use Rattle.qh_core.specs.declared.inner.Inner.{Inner}
use Rattle.qh_handshake.specs.Handshake.{dropping}
use Rattle.qh_handshake.specs.Incoming.{IsDatagramTaken}
use Rattle.qh_handshake.specs.declared.handshake.Handshake.{Handshake}
use Rattle.qh_packet.specs.Session.{AcceptsTag, NamesTags}
use Rattle.qh_spec.specs.Transcript.{Act}

module _ {S : Type 0} where
  -- a call of the end of the 1-RTT packets leaves how it stands in the middle of a datagram, whatever tags sessions take and make
  abbrev pub HearsStill : (old new : Inner S) → Type 0
  HearsStill old new = (accepts : AcceptsTags S) (sealed : MakesTagsOf S) (hello d : List ℕ) (h : Handshake) (k : Bool) (t : List Act) → Hears accepts sealed hello h old k t d
      → Hears accepts sealed hello h new k t d

module _ {S : Type 0} (accepts : AcceptsTags S) (sealed : MakesTagsOf S) where
  -- The handshake, as it was before, took a datagram. The end of the 1-RTT packets stands to all that was done before it as it did, and has
  -- not begun anew with what a hello says that the datagram completed.
  pub record HasRead (hello : List ℕ) (before : Handshake) (c : Connection S) (t : List Act) (datagram : List ℕ) : Type 0 where
    pub takes : AcceptsTag
    pub now : Moment
    pub rest : List ℕ
    pub retried : Option (List ℕ)
    pub learned : Option (List ℕ)
    pub end : Option ConnectionError
    pub named : NamesTags takes
    pub taken : IsDatagramTaken takes now datagram before c.handshake rest retried learned end
    pub stood : Converses accepts sealed hello before c.core c.is_connected t

  -- the end of the 1-RTT packets has begun, and hasn't heard the rest of the datagram
  abbrev pub HearsIt : (hello : List ℕ) → Connection S → List Act → (datagram : List ℕ) → Type 0
  HearsIt hello c t datagram = Hears accepts sealed hello c.handshake c.core c.is_connected t datagram

  -- it will stand so to all that was done with it once want of memory has ended it
  abbrev pub FailsTo : (hello : List ℕ) → Connection S → List Act → Type 0
  FailsTo hello c t = (core : Inner S) → IsMadeLocally c.core core [] → is_open core.state ≡ false → Converses accepts sealed hello (dropping c.handshake) core c.is_connected t

  -- it stands so to what was done, or will once it has ended
  abbrev pub StandsOrFails : Result Unit Memory → (hello : List ℕ) → Connection S → List Act → Type 0
  StandsOrFails result hello c t = OnOk result (Stands accepts sealed hello c t) × OnErr result (FailsTo hello c t)
