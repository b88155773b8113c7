-- A packet of the peer's that is new is taken, and one that isn't came before.
use Rattle.std.proofs.Common.{◌≡◌, ℕ, suc, Bool, true, false, List, length, [], ◌∷◌, Some, refl, sym, ap, subst, ◌∙◌, inl, inr, arith}
use Rattle.std.proofs.lemmas.Bool.{both_ways, cases_Bool}
use Rattle.std.proofs.lemmas.Option.{same_Some}
use Rattle.std.specs.Prelude.{slice_get}
use Rattle.std.specs.declared.net.socket_addr.SocketAddr.{SocketAddr}
use Rattle.qh_arrival.proofs.PacketsRead.{number_is, opens, opens_once}
use Rattle.qh_arrival.specs.Taking.{IsReadable, IsTakenFrom}
use Rattle.qh_base.specs.declared.connection_error.ConnectionError.TheVariants.{Memory}
use Rattle.qh_base.specs.declared.time.Moment.{Moment}
use Rattle.qh_base.specs.declared.transport_error.TransportError.{TransportError}
use Rattle.qh_buffers.specs.Ranges.{has}
use Rattle.qh_conduct.specs.Announced.{MakesTags}
use Rattle.qh_conduct.specs.Peers.{AreLinked, ArePeers}
use Rattle.qh_conduct.specs.Restarting.{AcceptsWhatIsMade}
use Rattle.qh_core.proofs.ExpectedNumbers.{expected_of}
use Rattle.qh_core.specs.Follows.{Follows}
use Rattle.qh_core.specs.Inner.{is_open}
use Rattle.qh_core.specs.Progress.{NumberedPacket}
use Rattle.qh_core.specs.Receiving.{IsDatagramTaken, IsEventTaken, IsFaulted, IsNewTo, IsOldTo, IsOpenedBy, IsPacketHandled, IsPacketTaken, received}
use Rattle.qh_core.specs.Receiving.IsDatagramTaken.{dropped, handled as handled_one, told_again, closed_too, draining, drained}
use Rattle.qh_core.specs.Receiving.IsPacketHandled.{repeated, empty, faulty, unnoted, taken as taken_one}
use Rattle.qh_core.specs.declared.event.ConnectionEvent.TheVariants.{Datagram}
use Rattle.qh_core.specs.declared.inner.Inner.{Inner}
use Rattle.qh_core.specs.declared.state.State.{State}
use Rattle.qh_owing.proofs.LedgerNumbers.{sent_numbers}
use Rattle.qh_owing.specs.Ledger.{AreSent, IsSentIn}
use Rattle.qh_recovery.specs.Accepted.{IsNear, Remembers}
use Rattle.qh_spec.specs.Link.{other}
use Rattle.qh_spec.specs.Lists.{In}
use Rattle.qh_spec.specs.QuicFrames.{AreQuicFrames}
use Rattle.qh_spec.specs.Transcript.{Act, handed_in, handed_out}
use Rattle.qh_spec.specs.declared.sides.Side.{Side}
use Rattle.qh_spec.specs.declared.sides.Space.{Space}

-- ---- the packet that a datagram is

module _ {S : Type 0} (sealed : Side → Space → ℕ → List ℕ) where
  -- as the end that it is for sees it
  sent_to : (c p : Inner S) (datagrams : List (List ℕ)) (sent : List NumberedPacket) (packet : NumberedPacket) (k : ℕ) (d : List ℕ) → ArePeers c p
      → AreSent sealed p.side (length p.remote_id) datagrams sent → slice_get datagrams k ≡ Some d → slice_get sent k ≡ Some packet → IsSentIn sealed (other c.side) (length c.local_id) d packet
  sent_to c p datagrams sent packet k d peers are at is =
      let found = sent_numbers sealed p.side (length p.remote_id) datagrams sent k d are at in
      let same : found.0 ≡ packet = same_Some found.0 packet (sym found.1 ∙ is) in
      subst (λ (z : ℕ). IsSentIn sealed (other c.side) z d packet) peers.there
      (subst (λ (z : Side). IsSentIn sealed z (length p.remote_id) d packet) peers.sides
      (subst (λ (z : NumberedPacket). IsSentIn sealed p.side (length p.remote_id) d z) same found.3))

-- ---- numbers that were accepted

-- each entry has a place
at_place : (xs : List (List ℕ)) (x : List ℕ) → In x xs → (k : ℕ) × (slice_get xs k ≡ Some x)
at_place [] x there = absurd there
at_place (y ∷ xs) x (inl same) = (0, ap (λ (z : List ℕ). Some z) same)
at_place (y ∷ xs) x (inr later) = let rest = at_place xs x later in (suc rest.0, rest.1)

module _ {S : Type 0} where
  old_not_new : (c : Inner S) (accepted : List ℕ) (number : ℕ) → Remembers accepted c.space.dedup → IsNewTo c.space number → IsOldTo c.space number → ⊥
  old_not_new c accepted number known fresh old = old accepted known (fresh accepted known)

  -- what a connection that want of memory didn't end accepted
  some_memory : (c : Inner S) (t : List Act) → (c.error ≡ Some Memory → ⊥) → Follows c t → (accepted : List ℕ) × Remembers accepted c.space.dedup
  unfolding Follows
  some_memory c t lives f =
      let space : c.space ≡ f.space = elim f.is_space [ inl memory ↦ absurd (lives memory) | inr same ↦ same ] in
      (f.accepted, rw space f.remembers)

  -- a number that can be told is at most 128 below the greatest
  told_near : (c : Inner S) (number : ℕ) (accepted : List ℕ) → Remembers accepted c.space.dedup → IsReadable c number → IsNear accepted number
  told_near c number accepted known told m among =
      let e = expected_of c.space in
      let next = e.1 accepted known in
      let less = next.is_above m among in
      elim (told e.0 e.1) [ inl same ↦ omega (arith, less, same) | inr small ↦ omega (arith, less, small.1) ]

  -- one that is near and isn't new was accepted
  was_accepted : (c : Inner S) (number : ℕ) (accepted : List ℕ) → Remembers accepted c.space.dedup → IsNear accepted number → IsOldTo c.space number → In number accepted
  was_accepted c number accepted known near old =
      elim (cases_Bool (has c.space.dedup number)) [
        | inl there ↦ (known.agrees number near).0 there
        | inr apart ↦
            absurd (old accepted known (record {
              is_unseen = λ among. both_ways (has c.space.dedup number) apart ((known.agrees number near).1 among);
              is_near = near;
            }))
      ]

linked_from : (tc tp : List Act) → AreLinked tc tp → (d : List ℕ) → In d (handed_in tc) → In d (handed_out tp)
linked_from tc tp linked d among = linked.to d among

-- ---- one that is new

module _ {S : Type 0} (accepts : Side → Space → ℕ → List ℕ → Bool) (sealed : Side → Space → ℕ → List ℕ) (takes : AcceptsWhatIsMade accepts sealed) (tags : MakesTags sealed)
    (c new : Inner S) (now : Moment) (d : List ℕ) (packet : NumberedPacket) (s : IsSentIn sealed (other c.side) (length c.local_id) d packet) (told : IsReadable c packet.number)
    (up : is_open c.state ≡ true) (still : is_open new.state ≡ true) (fresh : IsNewTo c.space packet.number) (accepted : List ℕ) (known : Remembers accepted c.space.dedup) where
  is_opened : IsOpenedBy accepts c d packet.number s.bytes
  is_opened =
      let e = expected_of c.space in
      record { expected = e.0; is_expected = e.1; is = opens sealed tags (other c.side) (length c.local_id) d packet s accepts e.0 (told e.0 e.1) takes }

  same_number : (number : ℕ) (frames : List ℕ) → IsOpenedBy accepts c d number frames → (number ≡ packet.number) × (s.bytes ≡ frames)
  same_number number frames o = opens_once sealed tags (other c.side) (length c.local_id) d packet s accepts o.expected (told o.expected o.is_expected) number frames o.is

  not_faulted : (fault : TransportError) → IsFaulted now fault c new → ⊥
  not_faulted fault f = both_ways (is_open new.state) (ap (λ (x : Inner S). is_open x.state) f.closed.rest_is) still

  handled : (number : ℕ) (frames : List ℕ) → (number ≡ packet.number) × (s.bytes ≡ frames) → IsPacketHandled now number frames c new → IsTakenFrom now packet c new
  handled number frames same (repeated old _) = absurd (old_not_new c accepted number known (subst (λ (m : ℕ). IsNewTo c.space m) (sym same.0) fresh) old)
  handled number frames same (empty fault _ _ _ f) = absurd (not_faulted fault f)
  handled number frames same (faulty fault kind _ _ _ f) = absurd (not_faulted fault f)
  handled number frames same (unnoted fault _ _ _ _ f) = absurd (not_faulted fault f)
  handled number frames same (taken_one _ t) = record {
    bytes = frames;
    are = subst (λ (z : List ℕ). AreQuicFrames z packet.frames) same.1 s.are;
    taken = subst (λ (m : ℕ). IsPacketTaken now m frames c new) same.0 t;
  }

  shut : (state : State) → is_open state ≡ false → c.state ≡ state → ⊥
  shut state closed is = both_ways (is_open c.state) (ap is_open is ∙ closed) up

  is_taken : IsDatagramTaken accepts now d c new → IsTakenFrom now packet c new
  is_taken (dropped _ none _) = absurd (none packet.number s.bytes is_opened)
  is_taken (handled_one number frames _ o h) = handled number frames (same_number number frames o) h
  is_taken (told_again reason due until is _ _) = absurd (shut _ refl is)
  is_taken (closed_too reason due until is _ _) = absurd (shut _ refl is)
  is_taken (draining until is _) = absurd (shut _ refl is)
  is_taken (drained is _) = absurd (shut _ refl is)

module _ {S : Type 0} where
  pub new_taken : (accepts : Side → Space → ℕ → List ℕ → Bool) (sealed : Side → Space → ℕ → List ℕ) → AcceptsWhatIsMade accepts sealed → MakesTags sealed
      → (c p new : Inner S) (tc tp : List Act) (sent : List NumberedPacket) (packet : NumberedPacket) (k : ℕ) (now : Moment) (remote : SocketAddr) (datagram : List ℕ) → ArePeers c p
      → (c.error ≡ Some Memory → ⊥) → Follows c tc → AreSent sealed p.side (length p.remote_id) (handed_out tp) sent → slice_get (handed_out tp) k ≡ Some datagram → slice_get sent k ≡ Some packet → IsReadable c packet.number
      → is_open c.state ≡ true → IsEventTaken accepts (Datagram now remote datagram) c new → is_open new.state ≡ true → IsNewTo c.space packet.number
      → IsTakenFrom now packet (received (Datagram now remote datagram) c) new
  new_taken accepts sealed takes tags c p new tc tp sent packet k now remote datagram peers lives follows are at is told up event still fresh =
      let memory = some_memory c tc lives follows in
      is_taken accepts sealed takes tags (received (Datagram now remote datagram) c) new now datagram packet
      (sent_to sealed c p (handed_out tp) sent packet k datagram peers are at is) told up still fresh memory.0 memory.1 event

  -- ---- one that isn't

  -- a number that isn't new, though it is near, was accepted
  pub repeated_came : (sealed : Side → Space → ℕ → List ℕ) → MakesTags sealed → (c p : Inner S) (tc tp : List Act) (sent : List NumberedPacket) (packet : NumberedPacket) (k : ℕ) (datagram : List ℕ)
      → ArePeers c p → AreLinked tc tp → (c.error ≡ Some Memory → ⊥) → Follows c tc → AreSent sealed p.side (length p.remote_id) (handed_out tp) sent
      → slice_get (handed_out tp) k ≡ Some datagram → slice_get sent k ≡ Some packet → IsReadable c packet.number → IsOldTo c.space packet.number → In datagram (handed_in tc)
  unfolding Follows
  repeated_came sealed tags c p tc tp sent packet k datagram peers linked lives f are at is told old =
      let space : c.space ≡ f.space = elim f.is_space [ inl memory ↦ absurd (lives memory) | inr same ↦ same ] in
      let known : Remembers f.accepted c.space.dedup = rw space f.remembers in
      let among : In packet.number f.accepted = was_accepted c packet.number f.accepted known (told_near c packet.number f.accepted known told) old in
      let came = f.numbers packet.number among in
      let from : In came.datagram (handed_out tp) = linked_from tc tp linked came.datagram came.among in
      let place = at_place (handed_out tp) came.datagram from in
      let there = sent_numbers sealed p.side (length p.remote_id) (handed_out tp) sent place.0 came.datagram are place.1 in
      let here = sent_numbers sealed p.side (length p.remote_id) (handed_out tp) sent k datagram are at in
      let mine : here.0 ≡ packet = same_Some here.0 packet (sym here.1 ∙ is) in
      let seen = sent_to sealed c p (handed_out tp) sent there.0 place.0 came.datagram peers are place.1 there.1 in
      let number : came.packet.number ≡ there.0.number = number_is sealed tags (other c.side) (length c.local_id) came.datagram there.0 seen came.packet came.has in
      let same : place.0 ≡ k = sym there.2 ∙ (sym number ∙ (came.number_is ∙ (sym (ap (λ (z : NumberedPacket). z.number) mine) ∙ here.2))) in
      let one : came.datagram ≡ datagram = same_Some came.datagram datagram (sym place.1 ∙ (ap (λ (z : ℕ). slice_get (handed_out tp) z) same ∙ at)) in
      subst (λ (z : List ℕ). In z (handed_in tc)) one came.among
