-- Two ends of one connection (RFC 9000, sections 4.6 and 5.1).
use Rattle.std.specs.Prelude.{◌≡◌, ℕ, ◌≤◌, ◌^◌, List, length, Some, IsSomeAnd}
use Rattle.qh_core.specs.Config.{peer_of}
use Rattle.qh_core.specs.declared.config.ConnConfig.{ConnConfig}
use Rattle.qh_core.specs.declared.inner.Inner.{Inner}
use Rattle.qh_spec.specs.Link.{other}
use Rattle.qh_spec.specs.Lists.{In}
use Rattle.qh_spec.specs.Transcript.{Act, handed_in, handed_out}

-- what an end with the one config may send as the payload of a DATAGRAM frame, one with the other takes (RFC 9221, section 3)
abbrev pub TakesFrom : (taker sender : ConnConfig) → Type 0
TakesFrom taker sender = (n : ℕ) → sender.peer_datagram ≡ Some n → IsSomeAnd taker.datagram_receive (λ m. n ≤ m)

-- what came to each end was handed out by the other
pub record AreLinked (tc tp : List Act) : Type 0 where
  pub to : (d : List ℕ) → In d (handed_in tc) → In d (handed_out tp)
  pub from : (d : List ℕ) → In d (handed_in tp) → In d (handed_out tc)

module _ {S : Type 0} where
  -- The two are the ends of one connection: each sends to an id of the length that the other's ids have, and knows the other's first
  -- limits, whose counts of streams a limit can be (sections 4.6 and 18.2). Either takes the payloads of DATAGRAM frames that the other
  -- may send.
  pub record ArePeers (c p : Inner S) : Type 0 where
    pub sides : p.side ≡ other c.side
    pub there : length p.remote_id ≡ length c.local_id
    pub back : length c.remote_id ≡ length p.local_id
    pub known : p.config.peer ≡ peer_of c.config.limits
    pub knows : c.config.peer ≡ peer_of p.config.limits
    pub fits : (c.config.limits.max_bidi ≤ 2 ^ 60) × (c.config.limits.max_uni ≤ 2 ^ 60)
    pub fits_back : (p.config.limits.max_bidi ≤ 2 ^ 60) × (p.config.limits.max_uni ≤ 2 ^ 60)
    pub datagrams : TakesFrom c.config p.config
    pub datagrams_back : TakesFrom p.config c.config
