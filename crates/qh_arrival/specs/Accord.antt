-- How an end stands to all that was done with it, as one relation.
use Rattle.std.specs.Prelude.{ℕ, List, length}
use Rattle.qh_arrival.specs.Asked.{HasAsked}
use Rattle.qh_arrival.specs.Heard.{HasHeard, LimitsAreHeard}
use Rattle.qh_arrival.specs.Said.{HasSaid}
use Rattle.qh_conduct.specs.Behaves.{Behaves}
use Rattle.qh_conduct.specs.Restarting.{AreSealed}
use Rattle.qh_core.specs.Progress.{NumberedPacket}
use Rattle.qh_core.specs.declared.inner.Inner.{Inner}
use Rattle.qh_owing.specs.Ledger.{AreSent, HasLedger, IsLedger}
use Rattle.qh_owing.specs.Owing.{KeepsWhatIsOwed, Owes}
use Rattle.qh_packet.specs.Session.{AcceptsTag, MakesTags, NamesTags}
use Rattle.qh_spec.specs.Transcript.{Act, handed_out}
use Rattle.qh_spec.specs.declared.sides.Side.{Side}
use Rattle.qh_spec.specs.declared.sides.Space.{Space}

-- what a session takes for tags and what it makes are tags
pub record AreTags (accepts : AcceptsTag) (sealed : Side → Space → ℕ → List ℕ) : Type 0 where
  pub names : NamesTags accepts
  pub makes : MakesTags sealed

module _ {S : Type 0} (accepts : AcceptsTag) (sealed : Side → Space → ℕ → List ℕ) where
  -- It behaves to its peer, it forgets nothing that it owes, its packets are those that the datagrams tell, what it reset or stopped
  -- was asked for, the limits that it counts as announced were said, those that it knows of its peer were given, and each datagram that
  -- it handed out has the tag that its session makes.
  pub record Accords (c : Inner S) (t : List Act) : Type 0 where
    pub behaves : Behaves c t
    pub owes : Owes accepts c t
    pub ledger : HasLedger accepts sealed c t
    pub asked : HasAsked c t
    pub said : HasSaid c t
    pub heard : HasHeard accepts c t
    pub tagged : AreSealed sealed c t

  -- What that means of an open end: what is owed waits or is out; the datagrams that it handed out are the packets that it sent, one
  -- each, and those that it was handed in have the packets that it accepted; nothing that these brought is lost; and the limits that it
  -- knows of its peer are the first ones, or these gave them.
  pub record IsInAccord (c : Inner S) (t : List Act) : Type 0 where
    pub owed : KeepsWhatIsOwed accepts c t
    pub sent : List NumberedPacket
    pub sent_are : AreSent sealed c.side (length c.remote_id) (handed_out t) sent
    pub accepted : List NumberedPacket
    pub ledger : IsLedger accepts sealed c sent accepted t
    pub heard : LimitsAreHeard c ledger.accepted_are.packets
