-- How a space stands to all that was done with its connection, apart from the connection around it.
use Rattle.std.proofs.Common.{◌≡◌, ◌⊎◌, ℕ, ◌≤◌, List, ◌∷◌, ◌++◌, length, Some, sym, ap, subst, ◌∙◌, inl, inr}
use Rattle.qh_base.specs.declared.connection_error.ConnectionError.TheVariants.{Memory}
use Rattle.qh_core.proofs.Ends.{same_of}
use Rattle.qh_core.specs.Follows.{Following, HasComing, HasFrame, HasNumber, IsWithinLimits, reset_frame}
use Rattle.qh_core.specs.Inner.{AreOf, IsSameEnd}
use Rattle.qh_core.specs.declared.config.ConnConfig.{ConnConfig}
use Rattle.qh_core.specs.declared.inner.Inner.{Inner}
use Rattle.qh_history.specs.Standing.{SameEnd, Stands}
use Rattle.qh_recovery.specs.Accepted.{Remembers}
use Rattle.qh_space.specs.declared.data_space.DataSpace.{DataSpace}
use Rattle.qh_spec.specs.Carried.{HasRun}
use Rattle.qh_spec.specs.Link.{other}
use Rattle.qh_spec.specs.Lists.{In}
use Rattle.qh_spec.specs.QuicFrame.{StreamFrame as Run}
use Rattle.qh_spec.specs.Transcript.{Act, HandedOut, handed_in, handed_out, written}
use Rattle.qh_spec.specs.declared.sides.Side.{Side}
use Rattle.qh_streams.specs.Streams.{PlainStreams}
use Rattle.qh_streams.specs.declared.frames.StreamFrame.{StreamFrame}
use Rattle.qh_transcript.specs.Receiving.{StandsIn}
use Rattle.qh_transcript.specs.Sending.{StandsOut}
use Rattle.qh_transcript.specs.Within.{KeepsWithin}

-- what Following says of the space that it names, for an end whose ids and whose peer's have these lengths
pub record FollowsOf (side : Side) (own peer : ℕ) (config : ConnConfig) (space : DataSpace) (t : List Act) : Type 0 where
  pub of : AreOf side config.peer space.streams
  pub datagrams : space.datagram_receive ≡ config.datagram_receive
  pub sent : List Run
  pub came : List Run
  pub is_sent : (run : Run) → HasRun peer (handed_out t) side run → In run sent
  pub has_come : (run : Run) → In run came → HasRun own (handed_in t) (other side) run
  pub stands : Stands space sent came t
  pub given : List StreamFrame
  pub gave : (f : StreamFrame) → In f given → HasComing own (handed_in t) (other side) f
  pub within : KeepsWithin space.streams given t
  pub resets : (id code size : ℕ) → HasFrame peer (handed_out t) side (reset_frame id code size) → size ≤ length (written t id)
  pub each_within : (before after : List Act) (datagram : List ℕ) → t ≡ before ++ HandedOut datagram ∷ after → IsWithinLimits own peer side config before datagram
  pub accepted : List ℕ
  pub remembers : Remembers accepted space.dedup
  pub numbers : (n : ℕ) → In n accepted → HasNumber own (handed_in t) (other side) n

module _ (side : Side) (own peer : ℕ) (config : ConnConfig) where
  -- a step of the space, where nothing is handed in or out
  abbrev pub stepped : (old new : DataSpace) (t : List Act) → SameEnd old new → new.dedup ≡ old.dedup → new.datagram_receive ≡ old.datagram_receive
      → ((sent came : List Run) → Stands old sent came t → Stands new sent came t) → ((given : List StreamFrame) → KeepsWithin old.streams given t → KeepsWithin new.streams given t)
      → FollowsOf side own peer config old t → FollowsOf side own peer config new t
  stepped old new t same dedup datagrams stand within p = record {
    of = same_of side config.peer old new same p.of;
    datagrams = datagrams ∙ p.datagrams;
    sent = p.sent;
    came = p.came;
    is_sent = p.is_sent;
    has_come = p.has_come;
    stands = stand p.sent p.came p.stands;
    given = p.given;
    gave = p.gave;
    within = within p.given p.within;
    resets = p.resets;
    each_within = p.each_within;
    accepted = p.accepted;
    remembers = rw dedup p.remembers;
    numbers = p.numbers;
  }

  -- the streams and the numbers that came are as they were
  pub same_streams : (old new : DataSpace) (t : List Act) → new.streams ≡ old.streams → new.dedup ≡ old.dedup → new.datagram_receive ≡ old.datagram_receive → FollowsOf side own peer config old t → FollowsOf side own peer config new t
  same_streams old new t same dedup datagrams p = stepped old new t (ap (λ (s : PlainStreams). s.side) same, ap (λ (s : PlainStreams). s.peer) same) dedup datagrams
      (λ sent came s. record { out = subst (λ (s : PlainStreams). StandsOut s sent t) (sym same) s.out; into = subst (λ (s : PlainStreams). StandsIn s came t) (sym same) s.into })
      (λ given w. subst (λ (s : PlainStreams). KeepsWithin s given t) (sym same) w) p

module _ {S : Type 0} where
  pub same_end : {old new : Inner S} → new.side ≡ old.side → new.local_id ≡ old.local_id → length new.remote_id ≡ length old.remote_id → new.config ≡ old.config → IsSameEnd old new
  same_end side local_id remote_length config = record { side = side; local_id = local_id; remote_length = remote_length; config = config }

  pub space_follows : (c : Inner S) (t : List Act) → (p : Following c t) → FollowsOf c.side (length c.local_id) (length c.remote_id) c.config p.space t
  space_follows c t p = record {
    of = p.of;
    datagrams = p.datagrams;
    sent = p.sent;
    came = p.came;
    is_sent = p.is_sent;
    has_come = p.has_come;
    stands = p.stands;
    given = p.given;
    gave = p.gave;
    within = p.within;
    resets = p.resets;
    each_within = p.each_within;
    accepted = p.accepted;
    remembers = p.remembers;
    numbers = p.numbers;
  }

  pub with_space : (c : Inner S) (t : List Act) (s : DataSpace) → (c.error ≡ Some Memory) ⊎ (c.space ≡ s) → FollowsOf c.side (length c.local_id) (length c.remote_id) c.config s t → Following c t
  with_space c t s is p = record {
    space = s;
    is_space = is;
    of = p.of;
    datagrams = p.datagrams;
    sent = p.sent;
    came = p.came;
    is_sent = p.is_sent;
    has_come = p.has_come;
    stands = p.stands;
    given = p.given;
    gave = p.gave;
    within = p.within;
    resets = p.resets;
    each_within = p.each_within;
    accepted = p.accepted;
    remembers = p.remembers;
    numbers = p.numbers;
  }

  -- what holds of a space at one state of an end makes the other state follow
  pub carried_on : (old new : Inner S) (t : List Act) (s : DataSpace) → IsSameEnd old new → (new.error ≡ Some Memory) ⊎ (new.space ≡ s)
      → FollowsOf old.side (length old.local_id) (length old.remote_id) old.config s t → Following new t
  carried_on old new t s same is p = with_space new t s is
      (subst (λ (x : Side). FollowsOf x (length new.local_id) (length new.remote_id) new.config s t) (sym same.side)
      (subst (λ (x : List ℕ). FollowsOf old.side (length x) (length new.remote_id) new.config s t) (sym same.local_id)
      (subst (λ (n : ℕ). FollowsOf old.side (length old.local_id) n new.config s t) (sym same.remote_length)
      (subst (λ (x : ConnConfig). FollowsOf old.side (length old.local_id) (length old.remote_id) x s t) (sym same.config) p))))

  -- nothing changed but what the relation doesn't speak of
  pub unchanged : (old new : Inner S) (t : List Act) → IsSameEnd old new → new.space ≡ old.space → (old.error ≡ Some Memory → new.error ≡ Some Memory) → Following old t → Following new t
  unchanged old new t same space failed p = carried_on old new t p.space same (elim p.is_space [ inl lost ↦ inl (failed lost) | inr is ↦ inr (space ∙ is) ]) (space_follows old t p)
