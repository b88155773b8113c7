-- Two honest ends stay so after each call that leaves them honest.
use Rattle.std.proofs.Common.{◌≡◌, ℕ, List, ◌++◌, Some, sym, ap, subst, ◌∙◌, inl, inr}
use Rattle.qh_conn.specs.Same.{IsSameConnection}
use Rattle.qh_conn.specs.declared.connection.Connection.{Connection}
use Rattle.qh_core.specs.Made.{AcceptsTags, MakesTagsOf}
use Rattle.qh_handshake.specs.Peers.{KnowsIds}
use Rattle.qh_handshake.specs.declared.handshake.Handshake.{Handshake}
use Rattle.qh_hello.specs.declared.transport_parameters.TransportParameters.{TransportParameters}
use Rattle.qh_peers.specs.Ends.{AreTwoEnds, ComesFromOrRetry, IsHonestEnd}
use Rattle.qh_spec.proofs.Members.{in_left, in_split}
use Rattle.qh_spec.proofs.TranscriptLaws.{handed_in-append, handed_out-append}
use Rattle.qh_spec.specs.Link.{other}
use Rattle.qh_spec.specs.Lists.{In}
use Rattle.qh_spec.specs.Transcript.{Act, handed_in, handed_out}
use Rattle.qh_spec.specs.declared.sides.Side.{Side}
use Rattle.qh_spec.specs.declared.sides.Side.TheVariants.{Client, Server}

-- the ids that the client used are the same
own_ids : (old new peer : Handshake) (side : Side) → new.original_id ≡ old.original_id → new.retry_id ≡ old.retry_id → KnowsIds old peer side → KnowsIds new peer side
own_ids old new peer Client original retry ids = (ids.0 ∙ ap Some (sym original), ids.1 ∙ sym retry)
own_ids old new peer Server original retry ids = ids

-- the server says the same of them
said_ids : (own old new : Handshake) (side : Side) → new.parameters ≡ old.parameters → KnowsIds own old side → KnowsIds own new side
said_ids own old new Client says ids =
    (ap (λ (p : TransportParameters). p.original_destination_connection_id) says ∙ ids.0, ap (λ (p : TransportParameters). p.retry_source_connection_id) says ∙ ids.1)
said_ids own old new Server says ids = ids

both_came : (t acts u : List Act) → ComesFromOrRetry t u → ComesFromOrRetry acts u → ComesFromOrRetry (t ++ acts) u
both_came t acts u before after d there = elim (in_split d (handed_in t) (handed_in acts) (subst (λ (z : List (List ℕ)). In d z) (handed_in-append t acts) there)) [
  | inl i ↦ before d i
  | inr i ↦ after d i
]

more_went : (t acts u : List Act) → ComesFromOrRetry u t → ComesFromOrRetry u (t ++ acts)
more_went t acts u went d there = elim (went d there) [
  | inl i ↦ inl (subst (λ (z : List (List ℕ)). In d z) (sym (handed_out-append t acts)) (in_left d (handed_out t) (handed_out acts) i))
  | inr r ↦ inr r
]

module _ {S : Type 0} (accepts : AcceptsTags S) (sealed : MakesTagsOf S) (key : S → List ℕ) where
  pub carried : (own_hello peer_hello : List ℕ) (c q new : Connection S) (tc tq acts : List Act) → AreTwoEnds accepts sealed key own_hello peer_hello c q tc tq → IsSameConnection key c new
      → new.handshake.retry_id ≡ c.handshake.retry_id → ComesFromOrRetry acts tq → IsHonestEnd accepts sealed own_hello new (tc ++ acts) → AreTwoEnds accepts sealed key own_hello peer_hello new q (tc ++ acts) tq
  carried own_hello peer_hello c q new tc tq acts e same retry comes honest = record {
    own = honest;
    peer = e.peer;
    sides = e.sides ∙ ap other (sym same.side);
    ids = subst (λ (s : Side). KnowsIds new.handshake q.handshake s) (sym same.side) (own_ids c.handshake new.handshake q.handshake c.core.side same.handshake.original_id retry e.ids);
    ids_back = said_ids q.handshake c.handshake new.handshake q.core.side same.handshake.parameters e.ids_back;
    key_is = e.key_is ∙ sym (same.key_is retry);
    came = both_came tc acts tq e.came comes;
    went = more_went tc acts tq e.went;
  }
