-- Behind the Initial packets of a datagram of its peer's an end knows of the peer what that says, and nothing ended it.
use Rattle.std.proofs.Common.{◌≡◌, ◌⊎◌, ℕ, List, [], ◌∷◌, ◌++◌, get_or, Option, Some, None, sym, ap, subst, ◌∙◌, inl, inr, arith}
use Rattle.std.specs.Prelude.{IfSome}
use Rattle.qh_arrival.specs.Accord.{AreTags}
use Rattle.qh_base.specs.declared.connection_error.ConnectionError.{ConnectionError}
use Rattle.qh_base.specs.declared.shared.ResetToken.{ResetToken}
use Rattle.qh_base.specs.declared.time.Moment.{Moment}
use Rattle.qh_conn.specs.Incoming.{is_reset_by}
use Rattle.qh_conn.specs.declared.connection.Connection.{Connection}
use Rattle.qh_converse.proofs.HandshakeDatagrams.{short_ends_none}
use Rattle.qh_converse.proofs.ShakeLaws.{out_kept, short_behind}
use Rattle.qh_core.specs.Made.{AcceptsTags, MakesTagsOf}
use Rattle.qh_handshake.proofs.FollowsIn.{taken_follows}
use Rattle.qh_handshake.proofs.GoingOn.{taken_goes}
use Rattle.qh_handshake.proofs.PeerDatagrams.{never_ended}
use Rattle.qh_handshake.proofs.PeerKnown.{same_said, same_source}
use Rattle.qh_handshake.specs.Incoming.{IsBehind, IsDatagramTaken, IsRetryFor}
use Rattle.qh_handshake.specs.Peers.{IsPeer, KnowsIds}
use Rattle.qh_handshake.specs.Sends.{NeverCloses}
use Rattle.qh_handshake.specs.declared.handshake.Handshake.{Handshake}
use Rattle.qh_hello.specs.declared.transport_parameters.TransportParameters.{TransportParameters}
use Rattle.qh_packet.specs.Session.{NamesTags}
use Rattle.qh_peers.proofs.EndFed.{not_retry}
use Rattle.qh_peers.proofs.EndKinds.{kind, tagged}
use Rattle.qh_peers.proofs.EndPeers.{ids, shakes}
use Rattle.qh_peers.proofs.EndRetry.{taken_retry}
use Rattle.qh_peers.proofs.ShakeOut.{shake_went}
use Rattle.qh_peers.proofs.TagEnds.{not_a_reset}
use Rattle.qh_peers.specs.Ends.{AreTwoEnds}
use Rattle.qh_peers.specs.Ids.{BelongsTo}
use Rattle.qh_spec.proofs.Members.{in_split}
use Rattle.qh_spec.proofs.TranscriptLaws.{handed_in-append}
use Rattle.qh_spec.specs.Link.{other}
use Rattle.qh_spec.specs.Lists.{In}
use Rattle.qh_spec.specs.Parted.{IsInitialAlone}
use Rattle.qh_spec.specs.Transcript.{Act, HandedIn, handed_in, handed_out}
use Rattle.qh_spec.specs.declared.sides.Side.{Side}
use Rattle.qh_spec.specs.declared.sides.Side.TheVariants.{Client, Server}
use Rattle.qh_token.specs.Reset.{reset_token_of}

-- one Initial packet is no Retry packet
alone_no_retry : (h : Handshake) (d source token : List ℕ) → IsInitialAlone d → IsRetryFor h d source token → ⊥
alone_no_retry h d source token a r =
    let mine : get_or d 0 0 ≡ a.first = ap (λ (z : List ℕ). get_or z 0 0) a.is.whole in
    let its : get_or d 0 0 ≡ r.is.first = ap (λ (z : List ℕ). get_or z 0 0) r.is.header.whole in
    let initial = a.is.initial_type in
    let retry = r.is.retry_type in
    absurd (omega (arith, mine, its, initial, retry))

ids_kept : (side : Side) (old new peer : Handshake) → new.original_id ≡ old.original_id → new.retry_id ≡ old.retry_id → KnowsIds old peer side → KnowsIds new peer side
ids_kept Client old new peer original retry k = (k.0 ∙ ap Some (sym original), k.1 ∙ sym retry)
ids_kept Server old new peer original retry k = k

belongs : (o : Option ResetToken) (id : List ℕ) → IfSome o (λ (k : ResetToken). k.0 ≡ reset_token_of id) → BelongsTo id o
belongs None id b = tt
belongs (Some k) id b = b

pub token_is : (o : Option ResetToken) (id : List ℕ) → BelongsTo id o → (k : ResetToken) → o ≡ Some k → k.0 ≡ reset_token_of id
token_is None id b k is = let z : None ≡ Some k = is in cc
token_is (Some t) id b k is = subst (λ (z : Option ResetToken). BelongsTo id z) is b

module _ {S : Type 0} (accepts : AcceptsTags S) (sealed : MakesTagsOf S) (key : S → List ℕ) (own_hello peer_hello : List ℕ) (c q : Connection S) (tc tq : List Act) (e : AreTwoEnds accepts sealed key own_hello peer_hello c q tc tq)
    (named : NamesTags (accepts c.core.session)) (tags : AreTags (accepts q.core.session) (sealed q.core.session)) (d : List ℕ) (among : In d (handed_out tq)) where
  pub unretried : (h : Handshake) (source token : List ℕ) → IsRetryFor h d source token → ⊥
  unretried h source token r = elim (kind accepts sealed key peer_hello q tq e.peer d among) [
    | inl (alone, _) ↦ alone_no_retry h d source token alone r
    | inr (short, _) ↦ not_retry h d source token short r
  ]

  came_last : (g : List ℕ) → In g (d ∷ []) → In g (handed_out e.peer.stands.shake) ⊎ IsBehind g
  came_last g i = elim i [
    | inl same ↦ subst (λ (z : List ℕ). In z (handed_out e.peer.stands.shake) ⊎ IsBehind z) same
        (elim (kind accepts sealed key peer_hello q tq e.peer d among) [ inl (_, h) ↦ inl h | inr (short, _) ↦ inr (short_behind d short) ])
    | inr none ↦ absurd none
  ]

  -- the handshake is still one of two ends
  pub fed_shakes : (now : Moment) (rest : List ℕ) (h : Handshake) (retried learned : Option (List ℕ)) (end : Option ConnectionError) → IsDatagramTaken (accepts c.core.session) now d c.handshake h rest retried learned end
      → IsPeer own_hello peer_hello h q.handshake (e.own.stands.shake ++ HandedIn d ∷ []) e.peer.stands.shake
  fed_shakes now rest h retried learned end taken =
      let on = taken_goes (accepts c.core.session) now d rest c.handshake h retried learned end taken in
      let old = shakes accepts sealed key own_hello peer_hello c q tc tq e in
      let retry = taken_retry (accepts c.core.session) now d rest c.handshake h retried learned end (λ _ source token _. unretried c.handshake source token) taken in
      record {
        side_is = old.side_is ∙ ap other (sym on.side);
        peer_whole = old.peer_whole;
        own_follows = taken_follows (accepts c.core.session) now d rest own_hello c.handshake h retried learned end e.own.stands.shake named taken e.own.stands.follows;
        peer_follows = old.peer_follows;
        peer_sends = old.peer_sends;
        ids = subst (λ (s : Side). KnowsIds h q.handshake s) (sym on.side) (ids_kept c.handshake.side c.handshake h q.handshake on.original_id retry (ids accepts sealed key own_hello peer_hello c q tc tq e));
        came = λ g i. elim (in_split g (handed_in e.own.stands.shake) (d ∷ []) (subst (λ (z : List (List ℕ)). In g z) (handed_in-append e.own.stands.shake (HandedIn d ∷ [])) i)) [
          | inl before ↦ old.came g before
          | inr last ↦ came_last g last
        ];
        went = λ g i. elim (old.went g i) [ inl h ↦ inl (out_kept g e.own.stands.shake (HandedIn d) h) | inr behind ↦ inr behind ];
      }

  -- the peer's hello says the token of its id
  pub fed_token : (now : Moment) (rest : List ℕ) (h : Handshake) (retried learned : Option (List ℕ)) (end : Option ConnectionError) → IsDatagramTaken (accepts c.core.session) now d c.handshake h rest retried learned end
      → (p : TransportParameters) → h.peer ≡ Some p → BelongsTo q.handshake.local_id p.stateless_reset_token × (h.remote_id ≡ q.handshake.local_id)
  fed_token now rest h retried learned end taken p is =
      let peer = fed_shakes now rest h retried learned end taken in
      let shake = e.own.stands.shake ++ HandedIn d ∷ [] in
      let said : p ≡ q.handshake.parameters = same_said own_hello peer_hello h q.handshake p shake e.peer.stands.shake peer is in
      let source = same_source own_hello peer_hello h q.handshake p shake e.peer.stands.shake peer is in (
        subst (λ (z : TransportParameters). BelongsTo q.handshake.local_id z.stateless_reset_token) (sym said) (belongs q.handshake.parameters.stateless_reset_token q.handshake.local_id e.peer.says.token),
        sym source ∙ e.peer.whole.sound.handshake.source,
      )

  -- it doesn't end as a stateless reset does
  pub unreset : (o : Option ResetToken) (id : List ℕ) → BelongsTo id o → is_reset_by o d → ⊥
  unreset o id belongs_to r =
      let t = tagged accepts sealed key peer_hello q tq e.peer tags d among in
      not_a_reset t.tag d id t.sender t.space t.number o t.is_tag t.ends (token_is o id belongs_to) r

  fewer_close : NeverCloses q.handshake.side e.peer.stands.shake
  fewer_close id_length f has closes =
      let among_whole = shake_went e.peer.stands.shake tq e.peer.stands.is_shake has.of.datagram has.of.among in
      e.peer.silent id_length f (record {
        of = record {
          datagram = has.of.datagram;
          among = among_whole;
          packet = has.of.packet;
          has = has.of.has;
          space_is = has.of.space_is;
          sender_is = has.of.sender_is ∙ sym e.peer.stands.begun.side_is;
        };
        frame_among = has.frame_among;
      }) closes

  -- and ends no handshake
  pub unended : (now : Moment) (h : Handshake) (rest : List ℕ) (retried learned : Option (List ℕ)) (error : ConnectionError)
      → IsDatagramTaken (accepts c.core.session) now d c.handshake h rest retried learned (Some error) → ⊥
  unended now h rest retried learned error taken = elim (kind accepts sealed key peer_hello q tq e.peer d among) [
    | inl (_, there) ↦ never_ended (accepts c.core.session) now d rest own_hello peer_hello c.handshake h q.handshake retried learned error e.own.stands.shake e.peer.stands.shake named
        (shakes accepts sealed key own_hello peer_hello c q tc tq e) fewer_close there taken
    | inr (short, _) ↦ short_ends_none (accepts c.core.session) now d rest c.handshake h retried learned error short taken
  ]
