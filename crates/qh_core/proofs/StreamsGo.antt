-- A connection whose streams went on by a call of the application's.
use Rattle.std.proofs.Common.{◌≡◌, ℕ, List, [], ◌++◌, length, Some, refl, sym, ap, subst, ◌∙◌, inl, inr}
use Rattle.std.proofs.lemmas.List.{append-nil}
use Rattle.qh_base.specs.declared.connection_error.ConnectionError.TheVariants.{Memory}
use Rattle.qh_core.specs.Follows.{Following, Follows, HasComing, HasNumber}
use Rattle.qh_core.specs.Inner.{AreOf, HasNoHalf, IsConnection, with_streams}
use Rattle.qh_core.specs.declared.inner.Inner.{Inner}
use Rattle.qh_core.proofs.Followed.{carried_on, same_end, space_follows}
use Rattle.qh_core.proofs.Handed.{HandNothing, same_in, same_out, before_those, resets_on}
use Rattle.qh_history.specs.Standing.{Stands}
use Rattle.qh_recovery.specs.Accepted.{Remembers}
use Rattle.qh_space.proofs.StreamsStepped.{stepped}
use Rattle.qh_space.specs.declared.data_space.DataSpace.{DataSpace}
use Rattle.qh_spec.specs.Carried.{HasRun}
use Rattle.qh_spec.specs.Link.{other}
use Rattle.qh_spec.specs.QuicFrame.{StreamFrame as Run}
use Rattle.qh_spec.specs.Transcript.{Act}
use Rattle.qh_streams.specs.Streams.{PlainStreams, KeepsOut}
use Rattle.qh_streams.specs.Tracked.{AreTracked}
use Rattle.qh_streams.specs.declared.frames.SentFrame.{SentFrame}
use Rattle.qh_streams.specs.declared.frames.StreamFrame.{StreamFrame}
use Rattle.qh_transcript.specs.Receiving.{StandsIn}
use Rattle.qh_transcript.specs.Sending.{StandsOut}
use Rattle.qh_transcript.specs.Within.{KeepsWithin}

-- The streams go on so by a call that adds these acts: what is owed is queued or out, and how they stand to what was done goes on.
pub record StreamsGo (old new : PlainStreams) (u : List Act) : Type 0 where
  pub side : new.side ≡ old.side
  pub peer : new.peer ≡ old.peer
  pub tracked : (frames : List SentFrame) → AreTracked old frames → AreTracked new frames
  pub keeps : KeepsOut old new
  pub out : (sent : List Run) (t : List Act) → StandsOut old sent t → StandsOut new sent (t ++ u)
  pub into : (came : List Run) (t : List Act) → StandsIn old came t → StandsIn new came (t ++ u)
  pub within : (sent : List Run) (given : List StreamFrame) (t : List Act) → StandsOut old sent t → KeepsWithin old given t → KeepsWithin new given (t ++ u)
  pub handed : HandNothing u

-- nothing was done, and no stream has a half
pub record IsStill (new : PlainStreams) (u : List Act) : Type 0 where
  pub none : u ≡ []
  pub no_half : HasNoHalf new

-- so they go on, and where no stream has a half nothing is done
pub record IsCall (old new : PlainStreams) (u : List Act) : Type 0 where
  pub go : StreamsGo old new u
  pub still : HasNoHalf old → IsStill new u

-- what holds behind acts holds behind them and no others
pub behind : (P : List Act → Type 0) (t : List Act) → P t → P (t ++ [])
behind P t p = subst P (sym (append-nil t)) p

module _ {S : Type 0} where
  pub connection : (c : Inner S) (new : PlainStreams) (u : List Act) → StreamsGo c.space.streams new u → (c.error ≡ Some Memory → IsStill new u) → IsConnection c → IsConnection (with_streams c new)
  connection c new u go still p = record {
    space = stepped c.space new p.space go.tracked go.keeps;
    of = record { side_is = go.side ∙ p.of.side_is; peer_is = go.peer ∙ p.of.peer_is; said = p.of.said };
    not_lost = p.not_lost;
    lost = p.lost;
    drained = p.drained;
    no_half = λ failed. (still failed).no_half;
  }

  -- what a connection stands to that want of memory ended
  failed : (c : Inner S) (new : PlainStreams) (t : List Act) → c.error ≡ Some Memory → Following c t → Following (with_streams c new) t
  failed c new t error f = carried_on c (with_streams c new) t f.space (same_end refl refl refl refl) (inl error) (space_follows c t f)

  going : (c : Inner S) (new : PlainStreams) (u t : List Act) → StreamsGo c.space.streams new u → (f : Following c t) → c.space ≡ f.space → Following (with_streams c new) (t ++ u)
  going c new u t go f same =
      let of : AreOf c.side c.config.peer c.space.streams = subst (λ (s : DataSpace). AreOf c.side c.config.peer s.streams) (sym same) f.of in
      let stands : Stands c.space f.sent f.came t = subst (λ (s : DataSpace). Stands s f.sent f.came t) (sym same) f.stands in
      let came_is = sym (same_in t u go.handed.into) in
      record {
        space = record c.space { streams = new };
        is_space = inr refl;
        of = record { side_is = go.side ∙ of.side_is; peer_is = go.peer ∙ of.peer_is; said = of.said };
        datagrams = ap (λ (s : DataSpace). s.datagram_receive) same ∙ f.datagrams;
        sent = f.sent;
        came = f.came;
        is_sent = λ run has. f.is_sent run (subst (λ (z : List (List ℕ)). HasRun (length c.remote_id) z c.side run) (same_out t u go.handed.out) has);
        has_come = λ run is. subst (λ (z : List (List ℕ)). HasRun (length c.local_id) z (other c.side) run) came_is (f.has_come run is);
        stands = record { out = go.out f.sent t stands.out; into = go.into f.came t stands.into };
        given = f.given;
        gave = λ g is. subst (λ (z : List (List ℕ)). HasComing (length c.local_id) z (other c.side) g) came_is (f.gave g is);
        within = go.within f.sent f.given t stands.out (subst (λ (s : DataSpace). KeepsWithin s.streams f.given t) (sym same) f.within);
        resets = resets_on (length c.remote_id) c.side t u go.handed.out f.resets;
        each_within = λ before after d e. let r = before_those t u before after d go.handed.out e in f.each_within before r.0 d r.1;
        accepted = f.accepted;
        remembers = subst (λ (s : DataSpace). Remembers f.accepted s.dedup) (sym same) f.remembers;
        numbers = λ n is. subst (λ (z : List (List ℕ)). HasNumber (length c.local_id) z (other c.side) n) came_is (f.numbers n is);
      }

  pub follows : (c : Inner S) (new : PlainStreams) (u t : List Act) → StreamsGo c.space.streams new u → (c.error ≡ Some Memory → IsStill new u) → Follows c t → Follows (with_streams c new) (t ++ u)
  unfolding Follows
  follows c new u t go still f = elim f.is_space [
    | inl error ↦ subst (λ (v : List Act). Following (with_streams c new) v) (sym (append-nil t) ∙ ap (λ (u : List Act). t ++ u) (sym (still error).none)) (failed c new t error f)
    | inr same ↦ going c new u t go f same
  ]

  pub called : (c : Inner S) (new : PlainStreams) (u : List Act) → IsCall c.space.streams new u → IsConnection c → IsConnection (with_streams c new)
  called c new u call p = connection c new u call.go (λ failed. call.still (p.no_half failed)) p

  pub call_follows : (c : Inner S) (new : PlainStreams) (u t : List Act) → IsCall c.space.streams new u → IsConnection c → Follows c t → Follows (with_streams c new) (t ++ u)
  call_follows c new u t call p f = follows c new u t call.go (λ failed. call.still (p.no_half failed)) f

  pub quiet_follows : (c : Inner S) (new : PlainStreams) (t : List Act) → IsCall c.space.streams new [] → IsConnection c → Follows c t → Follows (with_streams c new) t
  quiet_follows c new t call p f = subst (λ (t : List Act). Follows (with_streams c new) t) (append-nil t) (call_follows c new [] t call p f)

  -- one that want of memory didn't end stands so to what was done
  pub record StandsNow (c : Inner S) (t : List Act) : Type 0 where
    pub sent : List Run
    pub came : List Run
    pub stands : Stands c.space sent came t

  pub stands_now : (c : Inner S) (t : List Act) → Follows c t → (c.error ≡ Some Memory → ⊥) → StandsNow c t
  unfolding Follows
  stands_now c t f lives = elim f.is_space [
    | inl error ↦ absurd (lives error)
    | inr same ↦ record { sent = f.sent; came = f.came; stands = subst (λ (s : DataSpace). Stands s f.sent f.came t) (sym same) f.stands }
  ]
