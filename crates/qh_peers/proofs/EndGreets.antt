-- A datagram of an honest peer's that greets an end is read there, and the peer's hello in it.
use Rattle.std.proofs.Common.{◌≡◌, ℕ, ◌<◌, ◌≤◌, ◌^◌, ◌-◌, true, false, List, [], ◌∷◌, ◌++◌, length, Option, None, Some, is_some, refl, sym, ap, subst, ◌∙◌, inl, inr, arith, append-nil}
use Rattle.std.proofs.lemmas.Bool.{cases_lt}
use Rattle.std.proofs.lemmas.Option.{none-some}
use Rattle.qh_arrival.specs.Accord.{AreTags}
use Rattle.qh_base.specs.declared.connection_error.ConnectionError.{ConnectionError}
use Rattle.qh_base.specs.declared.connection_error.ConnectionError.TheVariants.{VersionMismatch}
use Rattle.qh_base.specs.declared.time.Moment.{Moment}
use Rattle.qh_buffers.specs.Assembler.{or_byte, to_give}
use Rattle.qh_conn.specs.Incoming.{IsDatagramHandled}
use Rattle.qh_conn.specs.declared.connection.Connection.{Connection}
use Rattle.qh_converse.proofs.ShakeLaws.{shake_in}
use Rattle.qh_core.proofs.ExpectedNumbers.{expected_of}
use Rattle.qh_handshake.proofs.GoingOn.{taken_goes}
use Rattle.qh_handshake.proofs.OneForm.{ids_agree}
use Rattle.qh_handshake.proofs.PeerHellos.{its_form, same_byte}
use Rattle.qh_handshake.specs.Incoming.{ArePacketsTaken, Form, IsDatagramTaken, IsExpectedOf, IsInitialTaken, IsOldTo, IsOpenedBy, IsPacketHandled, SessionView, knowing, received}
use Rattle.qh_handshake.specs.Incoming.ArePacketsTaken.{done, more as one_more, ended as ended_by}
use Rattle.qh_handshake.specs.Incoming.IsDatagramTaken.{retry, mismatch, packets}
use Rattle.qh_handshake.specs.Incoming.IsInitialTaken.{gone, dropped, ended, handled}
use Rattle.qh_handshake.specs.Sends.{IsHonestDatagram}
use Rattle.qh_handshake.specs.declared.handshake.Handshake.{Handshake}
use Rattle.qh_handshake.specs.declared.initial_space.InitialSpace.{InitialSpace}
use Rattle.qh_packet.specs.Initial.{BeginsWithInitial}
use Rattle.qh_packet.specs.Packet.{IsInitialOpened}
use Rattle.qh_packet.specs.Session.{NamesTags}
use Rattle.qh_peers.proofs.EndErrors.{steps_know}
use Rattle.qh_peers.proofs.EndFed.{nothing_taken}
use Rattle.qh_peers.proofs.EndFedPeers.{fed_shakes, unended, unretried}
use Rattle.qh_peers.proofs.EndGreeted.{short_no_initial}
use Rattle.qh_peers.proofs.EndKinds.{greeted_or, kind, where_out}
use Rattle.qh_peers.proofs.EndPeers.{known as known_peer}
use Rattle.qh_peers.proofs.GreetFrames.{AreOf, HasWhole, packet_whole, read_greets}
use Rattle.qh_peers.proofs.GreetPackets.{body, opens, opens_as, packet_is}
use Rattle.qh_peers.specs.Ends.{AreTwoEnds}
use Rattle.qh_peers.specs.Greets.{AcceptsInitials, CanBeGreeted, IsGreeting, IsInitialSealed}
use Rattle.qh_recovery.specs.Accepted.{Remembers}
use Rattle.qh_spec.proofs.PacketLaws.{forms_agree}
use Rattle.qh_spec.specs.Greeted.{CarriesHello, crypto_frame}
use Rattle.qh_spec.specs.Link.{other}
use Rattle.qh_spec.specs.Lists.{In}
use Rattle.qh_spec.specs.Parted.{IsInitialAlone}
use Rattle.qh_spec.specs.QuicFrames.{AreQuicFrames}
use Rattle.qh_spec.specs.Transcript.{Act, HandedIn, handed_in, handed_out}
use Rattle.qh_spec.specs.declared.sides.Side.{Side}
use Rattle.qh_spec.specs.declared.sides.Side.TheVariants.{Server}

module _ {S : Type 0} (v : SessionView S) (own_hello peer_hello : List ℕ) (c q : Connection S) (tc tq : List Act) (e : AreTwoEnds v.accepts v.sealed v.key own_hello peer_hello c q tc tq)
    (named : NamesTags (v.accepts c.core.session)) (tags : AreTags (v.accepts q.core.session) (v.sealed q.core.session)) (now : Moment) (d : List ℕ) (among : In d (handed_out tq))
    (takes : AcceptsInitials (v.accepts c.core.session) (v.sealed q.core.session)) (are : IsInitialAlone d → IsInitialSealed (v.sealed q.core.session) q.core.side d) (can : CanBeGreeted c.handshake q.handshake)
    (g : IsGreeting (length c.core.local_id) q.core.side (handed_in tc) d) where
  -- ---- what it is

  alone : IsInitialAlone d × In d (handed_out e.peer.stands.shake)
  alone = elim (kind v.accepts v.sealed v.key peer_hello q tq e.peer d among) [
    | inl one ↦ one
    | inr (short, _) ↦ absurd (short_no_initial (length c.core.local_id) g.packet d short g.has g.space_is)
  ]

  abbrev s : IsInitialSealed (v.sealed q.core.session) q.core.side d
  s = are alone.0

  that : (g.packet.number ≡ s.number) × AreQuicFrames s.frames g.packet.frames
  that = packet_is (v.sealed q.core.session) tags.makes q.core.side d s (length c.core.local_id) g.packet d refl g.has g.space_is

  small : s.number < 2 ^ 31
  small = subst (λ (n : ℕ). n < 2 ^ 31) that.0 g.small

  sender_is : q.core.side ≡ other c.handshake.side
  sender_is = e.sides ∙ ap other e.own.stands.begun.side_is

  -- its CRYPTO frame bears the whole hello
  hello_there : In (crypto_frame 0 peer_hello) g.packet.frames
  hello_there =
      let says = e.peer.stands.follows.says (length c.core.local_id) g.offset g.payload (record {
        of = record { datagram = d; among = alone.1; packet = g.packet; has = g.has; space_is = g.space_is; sender_is = g.sender_is ∙ e.peer.stands.begun.side_is };
        frame_among = g.crypto;
      }) in
      subst (λ (n : ℕ). In (crypto_frame n peer_hello) g.packet.frames) says.0 (subst (λ (z : List ℕ). In (crypto_frame g.offset z) g.packet.frames) says.1 g.crypto)

  honest : (before : List Act) × IsHonestDatagram peer_hello (handed_in before) q.handshake d
  honest = let at = where_out e.peer.stands.shake d alone.1 in (at.0, e.peer.stands.sends.each at.0 at.1 d at.2)

  -- ---- its number is new

  module _ (space : InitialSpace) (is : c.handshake.space ≡ Some space) where
    came : (accepted : List ℕ) × Remembers accepted space.dedup × ((m : ℕ) → In m accepted → m < s.number)
    came =
        let a = e.own.stands.follows.accepted space is in (
          a.0,
          a.1,
          λ m i.
              let has = a.2 m (length c.core.local_id) i in
              subst (λ (n : ℕ). m < n) that.0 (g.above m (record {
                datagram = has.datagram;
                among = subst (λ (z : List (List ℕ)). In has.datagram z) (shake_in e.own.stands.shake tc e.own.stands.is_shake) has.among;
                packet = has.packet;
                has = has.has;
                space_is = has.space_is;
                sender_is = has.sender_is ∙ sym sender_is;
                number_is = has.number_is;
              })),
        )

    fresh : IsOldTo space s.number → ⊥
    fresh was = was came.0 came.1 (record { is_unseen = λ i. let z = came.2 s.number i in omega (arith, z); is_near = λ m i. let z = came.2 m i in omega (arith, z) })

    expected : (n : ℕ) × IsExpectedOf space n × (n ≤ s.number)
    expected =
        let one = expected_of (record c.core.space { dedup = space.dedup }) in
        let next = one.1 came.0 came.1 in (
          one.0,
          one.1,
          elim (cases_lt s.number one.0) [
            | inl less ↦ let last = came.2 (one.0 - 1) (next.is_least (omega (arith, less))) in absurd (omega (arith, last, less))
            | inr most ↦ most
          ],
        )

    -- ---- it is opened

    module _ (f : Form) (destination behind : List ℕ) (b : BeginsWithInitial d f.first destination f.source f.token f.body behind) where
      whole : d ++ [] ≡ b.front ++ behind
      whole = append-nil d ∙ b.whole

      form : (195 ≡ f.first) × (body (v.sealed q.core.session) tags.makes q.core.side d s ≡ f.body) × ([] ≡ behind)
      form = forms_agree d [] b.front behind 195 f.first (body (v.sealed q.core.session) tags.makes q.core.side d s) f.body s.form b.form whole

      token_is : q.core.side ≡ Server → f.token ≡ []
      token_is server =
          let ids = ids_agree d [] b.front behind 195 f.first (body (v.sealed q.core.session) tags.makes q.core.side d s) f.body s.form b.form whole in
          sym b.token_is ∙ sym ids.1 ∙ s.untokened server

      source_is : f.source ≡ q.handshake.local_id
      source_is = (honest.1.from f.first destination f.source f.token f.body behind b).0

      opened : IsOpenedBy (v.accepts c.core.session) (received (length d) c.handshake) space f s.number s.frames
      opened = record {
        untokened = λ client. token_is (sender_is ∙ ap other client);
        source_is = λ knows. source_is ∙ sym (can.source knows);
        expected = expected.0;
        is_expected = expected.1;
        opened = subst (λ (z : Side). IsInitialOpened (v.accepts c.core.session) z expected.0 f.first f.body s.number s.frames) sender_is
            (opens (v.sealed q.core.session) tags.makes q.core.side d s (v.accepts c.core.session) expected.0 f.first f.body form.0 form.1 (takes q.core.side s.number s.is_number) expected.2 small);
      }

      handled_whole : (mid : InitialSpace) (number : ℕ) (frames : List ℕ) → IsOpenedBy (v.accepts c.core.session) (received (length d) c.handshake) space f number frames
          → IsPacketHandled now number frames space mid None → HasWhole peer_hello mid
      handled_whole mid number frames o h =
          let parts = opens_as (v.sealed q.core.session) tags.makes q.core.side d s (v.accepts c.core.session) o.expected f.first f.body form.0 form.1 named number frames
          (subst (λ (z : Side). IsInitialOpened (v.accepts c.core.session) z o.expected f.first f.body number frames) (sym sender_is) o.opened) in
          packet_whole peer_hello now number frames space mid None g.packet.frames h refl (λ was. fresh (subst (λ (n : ℕ). IsOldTo space n) parts.0 was))
          (subst (λ (z : List ℕ). AreQuicFrames z g.packet.frames) (sym parts.1) that.1) hello_there

  -- ---- it is taken

  -- the CRYPTO bytes behind it are those of the peer's hello
  abbrev AreIts : Handshake → Type 0
  AreIts h = (space : InitialSpace) → h.space ≡ Some space → AreOf peer_hello space

  no_space : (o : Option InitialSpace) → is_some o ≡ true → o ≡ None → ⊥
  no_space o some none = let z : false ≡ true = sym (ap is_some none) ∙ some in cc

  initial_greets : c.handshake.peer ≡ None → (f : Form) (destination behind : List ℕ) (new : Handshake) (learned : Option (List ℕ)) (end : Option ConnectionError)
      → BeginsWithInitial d f.first destination f.source f.token f.body behind → IsInitialTaken (v.accepts c.core.session) now f (received (length d) c.handshake) new learned end → end ≡ None → AreIts new
      → is_some new.peer ≡ true
  initial_greets ungreeted f destination behind new learned end b (gone none _) fine its = absurd (no_space c.handshake.space (can.space ungreeted) none)
  initial_greets ungreeted f destination behind new learned end b (dropped space is none _) fine its = absurd (none s.number s.frames (opened space is f destination behind b))
  initial_greets ungreeted f destination behind new learned end b (ended space mid number frames error is o h _) fine its = absurd (none-some error (sym fine))
  initial_greets ungreeted f destination behind new learned end b (handled space mid number frames _ _ is o h read) fine its =
      read_greets peer_hello (knowing (received (length d) c.handshake) f.source mid) new mid learned end (its_form peer_hello q.handshake.side q.handshake.parameters e.peer.stands.follows.own) refl
      (handled_whole space is f destination behind b mid number frames o h) its read fine

  packets_greet : c.handshake.peer ≡ None → (bytes rest : List ℕ) (old new : Handshake) (learned : Option (List ℕ)) (end : Option ConnectionError) → bytes ≡ d → old ≡ received (length d) c.handshake
      → ArePacketsTaken (v.accepts c.core.session) now bytes rest old new learned end → end ≡ None → AreIts new → is_some new.peer ≡ true
  packets_greet ungreeted bytes rest old new learned end same is (done _ _ none) fine its =
      absurd (none d [] (body (v.sealed q.core.session) tags.makes q.core.side d s) 195 (same ∙ sym (append-nil d)) s.form)
  packets_greet ungreeted bytes rest old new learned end same is (one_more _ destination behind _ f _ mid _ first others _ b one later) fine its =
      let begins = subst (λ (z : List ℕ). BeginsWithInitial z f.first destination f.source f.token f.body behind) same b in
      let none : [] ≡ behind = (forms_agree d [] begins.front behind 195 f.first (body (v.sealed q.core.session) tags.makes q.core.side d s) f.body s.form begins.form (append-nil d ∙ begins.whole)).2 in
      let still : new ≡ mid = nothing_taken (v.accepts c.core.session) now behind rest mid new others end (sym none) later in
      ap (λ (h : Handshake). is_some h.peer) still
      ∙ initial_greets ungreeted f destination behind mid first None begins (subst (λ (h : Handshake). IsInitialTaken (v.accepts c.core.session) now f h mid first None) is one) refl
      (subst (λ (h : Handshake). AreIts h) still its)
  packets_greet ungreeted bytes rest old new learned end same is (ended_by _ destination behind f _ _ _ error b one) fine its = absurd (none-some error (sym fine))

  taken_greets : c.handshake.peer ≡ None → (h : Handshake) (rest : List ℕ) (retried learned : Option (List ℕ)) (end : Option ConnectionError)
      → IsDatagramTaken (v.accepts c.core.session) now d c.handshake h rest retried learned end → end ≡ None → AreIts h → is_some h.peer ≡ true
  taken_greets ungreeted h rest retried learned end (retry _ source token may for_it _) fine its =
      absurd (unretried v.accepts v.sealed v.key own_hello peer_hello c q tc tq e named tags d among c.handshake source token for_it)
  taken_greets ungreeted h rest retried learned end (mismatch is _) fine its = absurd (none-some VersionMismatch (sym fine))
  taken_greets ungreeted h rest retried learned end (packets _ _ _ no_retry no_mismatch all) fine its =
      packets_greet ungreeted d rest (received (length d) c.handshake) h learned end refl refl all fine its

  shake_greets : (h : Handshake) (rest : List ℕ) (retried learned : Option (List ℕ)) → IsDatagramTaken (v.accepts c.core.session) now d c.handshake h rest retried learned None → is_some h.peer ≡ true
  shake_greets h rest retried learned taken = elim (greeted_or c.handshake.peer) [
    | inl some ↦ let p = known_peer c.handshake.peer some in ap is_some ((taken_goes (v.accepts c.core.session) now d rest c.handshake h retried learned None taken).peer p.0 p.1)
    | inr none ↦
        let p = fed_shakes v.accepts v.sealed v.key own_hello peer_hello c q tc tq e named tags d among now rest h retried learned None taken in
        let heard = handed_in (e.own.stands.shake ++ HandedIn d ∷ []) in
        taken_greets none h rest retried learned None taken refl (λ space is k byte at.
        same_byte peer_hello q.handshake e.peer.stands.shake heard k byte p.peer_follows p.came
        (subst (λ (z : Side). CarriesHello 0 heard z k byte) (sym p.side_is)
        (p.own_follows.came space k byte 0 is (ap (λ (o : Option ℕ). or_byte o (to_give space.crypto.waiting k)) at))))
  ]

  -- so the end was greeted
  pub greets_so : (new : Connection S) → IsDatagramHandled v now d c new → is_some new.handshake.peer ≡ true
  greets_so new (IsDatagramHandled.closing shut _) = let z : true ≡ false = sym e.own.up ∙ shut in cc
  greets_so new (IsDatagramHandled.ended mid rest error _ fed _ _) =
      absurd (unended v.accepts v.sealed v.key own_hello peer_hello c q tc tq e named tags d among now fed.handshake rest fed.retried fed.learned error fed.taken)
  greets_so new (IsDatagramHandled.taken fed restarted met rest _ is again meets behind) =
      let same = steps_know (v.accepts met.core.session) now c.handshake (is_some c.handshake.peer) d rest fed restarted met new again meets behind in
      ap is_some same.peer ∙ ap (λ (z : Connection S). is_some z.handshake.peer) is.new_is ∙ shake_greets is.handshake rest is.retried is.learned is.taken
