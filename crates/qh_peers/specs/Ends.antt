-- Two whole connections that are the two ends of one, over a link that gives each only what the other handed out, and Retry packets (RFC 9000,
-- sections 5.1, 5.1.1, 7.3, 7.4, 10.1, 10.3 and 17.2.5).
use Rattle.std.specs.Prelude.{◌≡◌, ◌⊎◌, ℕ, ◌^◌, ◌≤◌, min, true, List, None, IfSome}
use Rattle.std.specs.Option.{option_map}
use Rattle.qh_base.specs.declared.shared.ResetToken.{ResetToken}
use Rattle.qh_conn.specs.Whole.{IsWhole, Stands}
use Rattle.qh_conn.specs.declared.connection.Connection.{Connection}
use Rattle.qh_converse.specs.Settled.{milliseconds, peer_limits}
use Rattle.qh_core.specs.Config.{peer_of}
use Rattle.qh_core.specs.Inner.{is_open}
use Rattle.qh_core.specs.Made.{AcceptsTags, MakesTagsOf}
use Rattle.qh_handshake.specs.Peers.{KnowsIds}
use Rattle.qh_handshake.specs.Sends.{NeverCloses}
use Rattle.qh_packet.specs.Retry.{IsRetryPacket, retry_tag_of}
use Rattle.qh_peers.specs.Ids.{KeepsFewIds}
use Rattle.qh_spec.specs.Link.{other}
use Rattle.qh_spec.specs.Lists.{In}
use Rattle.qh_spec.specs.Transcript.{Act, handed_in, handed_out}
use Rattle.qh_token.specs.Reset.{reset_token_of}

-- a Retry packet as an endpoint sends it to a client (RFC 9000, section 17.2.5; the tag is own)
pub record IsRetry (datagram : List ℕ) : Type 0 where
  pub destination : List ℕ
  pub source : List ℕ
  pub token : List ℕ
  pub original : List ℕ
  pub is : IsRetryPacket datagram destination source token (retry_tag_of original)

-- each datagram that came was handed out by the other end, or is a Retry packet
abbrev pub ComesFromOrRetry : (own peer : List Act) → Type 0
ComesFromOrRetry own peer = (d : List ℕ) → In d (handed_in own) → In d (handed_out peer) ⊎ IsRetry d

module _ {S : Type 0} where
  -- What an end says in its hello is what it goes by: its initial limits, whose counts of streams a limit can be, no greater DATAGRAM frame than
  -- it takes, its idle time, that it keeps eight ids of its peer's, and the token of the stateless resets that belong to its own id.
  pub record SaysItsOwn (c : Connection S) : Type 0 where
    pub fits : (c.core.config.limits.max_bidi ≤ 2 ^ 60) × (c.core.config.limits.max_uni ≤ 2 ^ 60)
    pub limits : peer_limits c.handshake.parameters ≡ peer_of c.core.config.limits
    pub datagrams : c.handshake.parameters.max_datagram_frame_size ≡ option_map (λ (most : ℕ). min most 1200) c.core.config.datagram_receive
    pub idle : c.handshake.parameters.max_idle_timeout ≡ milliseconds c.config.idle
    pub ids : c.handshake.parameters.active_connection_id_limit ≡ 8
    pub token : IfSome c.handshake.parameters.stateless_reset_token (λ (k : ResetToken). k.0 ≡ reset_token_of c.handshake.local_id)

module _ {S : Type 0} (accepts : AcceptsTags S) (sealed : MakesTagsOf S) where
  -- An honest end that is open, by all that was done with it since it began with this hello: what it says is what it goes by, it announces at
  -- most eight ids and retires none, and its Initial packets closed nothing.
  pub record IsHonestEnd (hello : List ℕ) (c : Connection S) (t : List Act) : Type 0 where
    pub whole : IsWhole c
    pub stands : Stands accepts sealed hello c t
    pub says : SaysItsOwn c
    pub few : KeepsFewIds c t
    pub silent : NeverCloses c.core.side t
    pub up : is_open c.core.state ≡ true
    pub not_lost : c.core.error ≡ None

  -- The two are the ends of one connection: the server's hello says to which id the client's first packet went, and from which a Retry packet
  -- that it took; their sessions have one key; and what came to each was handed out by the other, or is a Retry packet, which an endpoint
  -- sends.
  pub record AreTwoEnds (key : S → List ℕ) (own_hello peer_hello : List ℕ) (c q : Connection S) (tc tq : List Act) : Type 0 where
    pub own : IsHonestEnd own_hello c tc
    pub peer : IsHonestEnd peer_hello q tq
    pub sides : q.core.side ≡ other c.core.side
    pub ids : KnowsIds c.handshake q.handshake c.core.side
    pub ids_back : KnowsIds q.handshake c.handshake q.core.side
    pub key_is : key q.core.session ≡ key c.core.session
    pub came : ComesFromOrRetry tc tq
    pub went : ComesFromOrRetry tq tc
