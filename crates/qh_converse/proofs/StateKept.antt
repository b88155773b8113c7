-- A step of the handshake, and of the end of the 1-RTT packets, leaves what the end stands for by what was done so far.
use Rattle.std.proofs.Common.{◌≡◌, ℕ, Bool, true, false, List, [], ◌∷◌, ◌++◌, length, Option, Some, None, refl, sym, ap, subst, ◌∙◌}
use Rattle.std.proofs.lemmas.List.{append-nil}
use Rattle.std.proofs.lemmas.Option.{same_Some}
use Rattle.std.specs.Prelude.{not, ◌&&◌, is_some}
use Rattle.qh_conduct.proofs.BehavingEnds.{fresh_behaves}
use Rattle.qh_conduct.specs.Behaves.{Behaves}
use Rattle.qh_converse.proofs.AccordKept.{IsBeside, beside_accorded, fresh_accorded, locally_accorded, locally_behaves, made_accorded, shake_accorded}
use Rattle.qh_converse.proofs.HandshakeDatagrams.{IsStill, same_still}
use Rattle.qh_converse.proofs.IdleKept.{locally_runs, made_runs}
use Rattle.qh_converse.proofs.MadeOpens.{locally_opens, made_opens}
use Rattle.qh_converse.proofs.OrderSteps.{alone_orders, quiet_orders, same_orders}
use Rattle.qh_converse.proofs.ShakeLaws.{AreQuiet, shake_in}
use Rattle.qh_converse.specs.Converses.{AccordsByTags, IsBegun, IsInOrder, progress_of}
use Rattle.qh_converse.specs.Parts.{IsShakeOf}
use Rattle.qh_converse.specs.Settled.{IsSettledBy, idle_of, milliseconds}
use Rattle.qh_core.proofs.MadeTogether.{all_same, local_all, one_step}
use Rattle.qh_core.specs.Follows.{Follows}
use Rattle.qh_core.specs.Inner.{IsNewSpace, IsSameEnd, is_client, is_open}
use Rattle.qh_core.specs.Made.{AcceptsTags, AreMadeLocally, IsMade, MakesTagsOf}
use Rattle.qh_core.specs.declared.config.ConnConfig.{ConnConfig}
use Rattle.qh_core.specs.declared.inner.Inner.{Inner}
use Rattle.qh_handshake.specs.Follows.{Follows as FollowsShake}
use Rattle.qh_handshake.specs.declared.handshake.Handshake.{Handshake}
use Rattle.qh_hello.specs.declared.transport_parameters.TransportParameters.{TransportParameters}
use Rattle.qh_spec.proofs.HandshakeOrderLaws.{act_orders, sends_orders}
use Rattle.qh_spec.specs.Greeted.{HasGreetedInOrder, IsGreeted}
use Rattle.qh_spec.specs.HandshakeOrder.{Orders}
use Rattle.qh_spec.specs.Link.{other}
use Rattle.qh_spec.specs.Parted.{AreShort, IsInitialAlone}
use Rattle.qh_spec.specs.Transcript.{Act, HandedIn, HandedOut, handed_in}
use Rattle.qh_spec.specs.declared.sides.Side.{Side}
use Rattle.qh_spec.specs.declared.sides.Side.TheVariants.{Client, Server}

-- what is known to be there isn't missing
there : {X : Type 0} (o : Option X) → is_some o ≡ true → o ≡ None → ⊥
there o some none = let z : true ≡ false = sym some ∙ ap is_some none in cc

-- a client hears nothing before it is connected
hears_nothing : (m : Bool) (side : Side) → (m ≡ true → side ≡ Client) → m && not (is_client side) ≡ true → ⊥
hears_nothing false side client e = cc
hears_nothing true Client client e = cc
hears_nothing true Server client e = let z : Server ≡ Client = client refl in cc

is_heard : (k : Bool) (side : Side) → side ≡ Server → k ≡ true → k && not (is_client side) ≡ true
is_heard k Client server connected = let z : Client ≡ Server = server in cc
is_heard true Server server connected = refl
is_heard false Server server connected = cc

-- ---- what is settled

module _ {S : Type 0} where
  same_settled : (old new : Handshake) (p : TransportParameters) (c : Inner S) → IsStill old new → old.peer ≡ Some p → IsSettledBy old p c → IsSettledBy new p c
  same_settled old new p c s some b = record {
    limits = b.limits;
    there = b.there ∙ sym (ap (λ (id : List ℕ). length id) (s.remote (ap is_some some)));
    datagrams = b.datagrams;
    idle = b.idle ∙ sym (ap (λ (q : TransportParameters). idle_of q.max_idle_timeout p.max_idle_timeout) s.parameters);
  }

  same_settles : (h : Handshake) (p : TransportParameters) (c new : Inner S) → IsSameEnd c new → IsSettledBy h p c → IsSettledBy h p new
  same_settles h p c new same b = record {
    limits = ap (λ (k : ConnConfig). k.peer) same.config ∙ b.limits;
    there = same.remote_length ∙ b.there;
    datagrams = ap (λ (k : ConnConfig). k.peer_datagram) same.config ∙ b.datagrams;
    idle = ap (λ (k : ConnConfig). k.idle) same.config ∙ b.idle;
  }

  beside_settled : (h : Handshake) (p : TransportParameters) (old new : Inner S) → IsSettledBy h p old → IsSettledBy h p (record old { session = new.session; udp_rx = new.udp_rx; state = new.state })
  beside_settled h p old new b = record { limits = b.limits; there = b.there; datagrams = b.datagrams; idle = b.idle }

module _ {S : Type 0} (accepts : AcceptsTags S) (sealed : MakesTagsOf S) where
  -- ---- the end of the 1-RTT packets

  pub same_begun : (old new : Handshake) (c : Inner S) (part : List Act) → IsStill old new → IsBegun accepts sealed old c part → IsBegun accepts sealed new c part
  same_begun old new c part s b = record {
    side_is = b.side_is ∙ sym s.side;
    id_is = b.id_is ∙ sym s.id;
    behaves = b.behaves;
    accords = shake_accorded accepts sealed old new c part (λ greeted. ap (λ (o : Option TransportParameters). is_some o) s.peer ∙ greeted) b.accords;
    short = b.short;
    not_yet = λ e. b.not_yet (sym s.peer ∙ e);
    settled = λ p e up. same_settled old new p c s (sym s.peer ∙ e) (b.settled p (sym s.peer ∙ e) up);
    unsettled = λ e. b.unsettled (sym s.peer ∙ e) ∙ sym (ap (λ (q : TransportParameters). q.max_idle_timeout) s.parameters);
    runs = b.runs;
  }

  made_begun : (h : Handshake) (c new : Inner S) (part acts : List Act) → IsSameEnd c new → (is_open new.state ≡ true → is_open c.state ≡ true)
      → (is_open new.state ≡ true → new.idle.timeout ≡ c.idle.timeout) → Behaves new (part ++ acts) → AccordsByTags accepts sealed h new (part ++ acts) → AreShort (part ++ acts) → (h.peer ≡ None → acts ≡ []) → IsBegun accepts sealed h c part → IsBegun accepts sealed h new (part ++ acts)
  made_begun h c new part acts same opens runs behaves accords short quiet b = record {
    side_is = same.side ∙ b.side_is;
    id_is = same.local_id ∙ b.id_is;
    behaves = behaves;
    accords = accords;
    short = short;
    not_yet = λ e. ap (λ (z : List Act). z ++ acts) (b.not_yet e) ∙ quiet e;
    settled = λ p e up. same_settles h p c new same (b.settled p e (opens up));
    unsettled = λ e. ap (λ (k : ConnConfig). milliseconds k.idle) same.config ∙ b.unsettled e;
    runs = λ up. runs up ∙ b.runs (opens up) ∙ sym (ap (λ (k : ConnConfig). k.idle) same.config);
  }

  -- calls that hand no datagram in or out
  pub called_begun : (h : Handshake) (c new : Inner S) (part acts : List Act) → AreMadeLocally c new acts → AreShort (part ++ acts) → (h.peer ≡ None → acts ≡ []) → IsBegun accepts sealed h c part
      → IsBegun accepts sealed h new (part ++ acts)
  called_begun h c new part acts made short quiet b =
      made_begun h c new part acts (all_same accepts sealed c new acts (local_all accepts sealed c new acts made)).0 (locally_opens c new acts made) (locally_runs c new acts made)
      (locally_behaves c new acts part made b.behaves)
      (locally_accorded accepts sealed h c new acts part made b.accords) short quiet b

  -- one act more, of an end that was greeted
  pub acted_begun : (h : Handshake) (c new : Inner S) (part : List Act) (a : Act) → is_some h.peer ≡ true → IsMade accepts sealed c new (a ∷ []) → Behaves new (part ++ a ∷ [])
      → AreShort (part ++ a ∷ []) → IsBegun accepts sealed h c part → IsBegun accepts sealed h new (part ++ a ∷ [])
  acted_begun h c new part a greeted made behaves short b =
      made_begun h c new part (a ∷ []) made.1.same_end (made_opens accepts sealed c new (a ∷ []) made.0) (made_runs accepts sealed c new (a ∷ []) made.0) behaves
      (made_accorded accepts sealed h c new (a ∷ []) part greeted (one_step (IsMade accepts sealed) c new (a ∷ []) made) b.accords) short (λ e. absurd (there h.peer greeted e)) b

  -- none more, of an end that was greeted
  pub quiet_begun : (h : Handshake) (c new : Inner S) (part : List Act) → is_some h.peer ≡ true → IsMade accepts sealed c new [] → Behaves new (part ++ []) → IsBegun accepts sealed h c part
      → IsBegun accepts sealed h new part
  quiet_begun h c new part greeted made behaves b =
      subst (λ (z : List Act). IsBegun accepts sealed h new z) (append-nil part)
      (made_begun h c new part [] made.1.same_end (made_opens accepts sealed c new [] made.0) (made_runs accepts sealed c new [] made.0) behaves
      (made_accorded accepts sealed h c new [] part greeted (one_step (IsMade accepts sealed) c new [] made) b.accords)
      (subst (λ (z : List Act). AreShort z) (sym (append-nil part)) b.short) (λ e. absurd (there h.peer greeted e)) b)

  -- the end was greeted as its connection ended
  pub shut_begun : (old new : Handshake) (c : Inner S) (part : List Act) → new.side ≡ old.side → new.local_id ≡ old.local_id → is_open c.state ≡ false → is_some new.peer ≡ true
      → IsBegun accepts sealed old c part → IsBegun accepts sealed new c part
  shut_begun old new c part side id shut greeted b = record {
    side_is = b.side_is ∙ sym side;
    id_is = b.id_is ∙ sym id;
    behaves = b.behaves;
    accords = shake_accorded accepts sealed old new c part (λ _. greeted) b.accords;
    short = b.short;
    not_yet = λ e. absurd (there new.peer greeted e);
    settled = λ p e up. let z : true ≡ false = sym up ∙ shut in cc;
    unsettled = λ e. absurd (there new.peer greeted e);
    runs = b.runs;
  }

  -- an end of 1-RTT packets begins with what the hello that came settles
  pub greeted_begun : (h : Handshake) (c : Inner S) (p : TransportParameters) → c.side ≡ h.side → c.local_id ≡ h.local_id → h.peer ≡ Some p → IsSettledBy h p c
      → c.idle.timeout ≡ c.config.idle → IsNewSpace c.config c.side c.space → Follows c [] → IsBegun accepts sealed h c []
  greeted_begun h c p side id peer settled runs space follows = record {
    side_is = side;
    id_is = id;
    behaves = fresh_behaves c space follows;
    accords = fresh_accorded accepts sealed h c space follows;
    short = λ d i. absurd i;
    not_yet = λ e. let z : None ≡ Some p = sym e ∙ peer in cc;
    settled = λ r e _. subst (λ (z : TransportParameters). IsSettledBy h z c) (same_Some p r (sym peer ∙ e)) settled;
    unsettled = λ e. let z : None ≡ Some p = sym e ∙ peer in cc;
    runs = λ _. runs;
  }

  -- the end is the same but for its session, its counts and how far it is
  pub beside_begun : (h : Handshake) (old new : Inner S) (part : List Act) → IsBeside old new → (is_some h.peer ≡ true → (accepts new.session ≡ accepts old.session) × (sealed new.session ≡ sealed old.session))
      → Behaves new part → IsBegun accepts sealed h old part → IsBegun accepts sealed h new part
  beside_begun h old new part a tags behaves b = record {
    side_is = ap (λ (z : Inner S). z.side) a.rest_is ∙ b.side_is;
    id_is = ap (λ (z : Inner S). z.local_id) a.rest_is ∙ b.id_is;
    behaves = behaves;
    accords = beside_accorded accepts sealed h old new part a tags behaves b.accords;
    short = b.short;
    not_yet = b.not_yet;
    settled = λ q e up. subst (λ (z : Inner S). IsSettledBy h q z) (sym a.rest_is) (beside_settled h q old new (b.settled q e (a.opens up)));
    unsettled = λ e. ap (λ (z : Inner S). milliseconds z.config.idle) a.rest_is ∙ b.unsettled e;
    runs = λ up. ap (λ (z : Inner S). z.idle.timeout) a.rest_is ∙ b.runs (a.opens up) ∙ sym (ap (λ (z : Inner S). z.config.idle) a.rest_is);
  }

module _ {S : Type 0} where
  -- ---- the order

  pub same_order : (old new : Handshake) (c d : Inner S) (k : Bool) (t : List Act) → IsStill old new → d.local_id ≡ c.local_id → IsInOrder old c k t → IsInOrder new d k t
  same_order old new c d k t s local order n is =
      let greeted : is_some new.peer ≡ is_some old.peer = ap (λ (o : Option TransportParameters). is_some o) s.peer in
      subst (λ (id : List ℕ). Orders (length id) n (progress_of new k) t) (sym local)
      (same_orders (length c.local_id) n (progress_of old k) (progress_of new k) t s.side greeted (ap (λ (side : Side). k && not (is_client side)) s.side)
      (order n (λ e. is (greeted ∙ e) ∙ ap (λ (id : List ℕ). length id) (s.remote e))))

  pub came_order : (old new : Handshake) (c : Inner S) (k : Bool) (t : List Act) (d : List ℕ) → IsStill old new → IsInOrder old c k t → IsInOrder new c k (t ++ HandedIn d ∷ [])
  came_order old new c k t d s order n is =
      act_orders (length c.local_id) n (progress_of new k) t (HandedIn d) (λ g e. cc) (same_order old new c c k t s refl order n is)

  -- the end is greeted by a datagram; a server isn't connected by that
  pub greeted_order : (old new : Handshake) (c d : Inner S) (k m : Bool) (t : List Act) (g : List ℕ) → new.side ≡ old.side → old.peer ≡ None → (m ≡ true → new.side ≡ Client)
      → d.local_id ≡ c.local_id → IsGreeted (length d.local_id) (handed_in (t ++ HandedIn g ∷ [])) (other new.side) → IsInOrder old c k t → IsInOrder new d m (t ++ HandedIn g ∷ [])
  greeted_order old new c d k m t g side none client local greeted order n _ =
      let before = act_orders (length c.local_id) n (progress_of old k) t (HandedIn g) (λ x e. cc) (order n (λ e. absurd (there old.peer e none))) in
      record {
        greeted = λ _. greeted;
        heard = λ e. absurd (hears_nothing m new.side client e);
        order = subst (λ (s : Side). HasGreetedInOrder (length d.local_id) n s (t ++ HandedIn g ∷ [])) (sym side)
            (subst (λ (id : List ℕ). HasGreetedInOrder (length id) n old.side (t ++ HandedIn g ∷ [])) (sym local) before.order);
      }

  pub quiet_order : (h : Handshake) (c : Inner S) (k : Bool) (acts t : List Act) → AreQuiet acts → IsInOrder h c k t → IsInOrder h c k (t ++ acts)
  quiet_order h c k acts t quiet order n is = quiet_orders (length c.local_id) n (progress_of h k) acts t quiet (order n is)

  -- the handshake hands out one Initial packet
  pub alone_order : (hello : List ℕ) (old new : Handshake) (c : Inner S) (k : Bool) (shake t : List Act) (d : List ℕ) → IsStill old new → IsInitialAlone d
      → IsShakeOf shake t → FollowsShake hello new (shake ++ HandedOut d ∷ []) → IsInOrder old c k t → IsInOrder new c k (t ++ HandedOut d ∷ [])
  alone_order hello old new c k shake t d s alone is_shake follows order n is =
      alone_orders (length c.local_id) n (progress_of new k) t d alone
      (λ server from payload has. subst (λ (z : List (List ℕ)). IsGreeted (length c.local_id) z (other new.side)) (shake_in shake t is_shake)
      (follows.answers shake [] d refl server n from payload has (length c.local_id)))
      (same_order old new c c k t s refl order n is)

  -- the end hands out a 1-RTT packet
  pub sent_order : (h : Handshake) (c d : Inner S) (k : Bool) (t : List Act) (x : List ℕ) → is_some h.peer ≡ true → (h.side ≡ Server → k ≡ true) → d.local_id ≡ c.local_id
      → IsInOrder h c k t → IsInOrder h d k (t ++ HandedOut x ∷ [])
  sent_order h c d k t x greeted connected local order n is =
      sends_orders (length d.local_id) n (progress_of h k) t x (λ _. greeted) (λ server _. is_heard k h.side server (connected server)) (λ _ _ _ _. greeted)
      (same_order h h c d k t (same_still h h refl) local order n is)
