-- What an end hands out has the tag of its session; and such a datagram that counts restarts the idle time of the end that it is for.
use Rattle.std.proofs.Common.{◌≡◌, ℕ, ◌-◌, ◌<◌, ◌≤◌, ◌^◌, Bool, true, false, List, [], ◌∷◌, ◌++◌, length, Some, refl, sym, ap, subst, ◌∙◌, inl, inr, arith, append_assoc}
use Rattle.std.specs.Prelude.{Ok, drop}
use Rattle.std.proofs.Math.Seq.{drop-append_seam}
use Rattle.std.proofs.lemmas.Bool.{both_ways, cases_lt}
use Rattle.std.proofs.lemmas.List.{append-nil}
use Rattle.std.specs.declared.net.socket_addr.SocketAddr.{SocketAddr}
use Rattle.qh_base.specs.declared.connection_error.ConnectionError.TheVariants.{Memory}
use Rattle.qh_base.specs.declared.path.Transmit.{Transmit}
use Rattle.qh_base.specs.declared.time.Moment.{Moment}
use Rattle.qh_base.specs.declared.transport_error.TransportError.{TransportError}
use Rattle.qh_conduct.proofs.PacketsKept.{only_packet}
use Rattle.qh_conduct.specs.Announced.{MakesTags}
use Rattle.qh_conduct.specs.Peers.{ArePeers}
use Rattle.qh_conduct.specs.Restarting.{AcceptsWhatIsMade, AreSealed, IsCounting, IsSealed, IsSealedTo}
use Rattle.qh_core.proofs.Ends.{goes_on_open}
use Rattle.qh_core.proofs.ExpectedNumbers.{expected_of}
use Rattle.qh_core.specs.Follows.{Follows, transmit_acts}
use Rattle.qh_core.specs.Inner.{IsSameEnd, is_open}
use Rattle.qh_core.specs.Receiving.{IsDatagramTaken, IsEventTaken, IsExpectedOf, IsFaulted, IsOpenedBy, IsPacketHandled, received}
use Rattle.qh_core.specs.Receiving.IsDatagramTaken.{dropped, handled as handled_one, told_again, closed_too, draining, drained}
use Rattle.qh_core.specs.Receiving.IsPacketHandled.{repeated, empty, faulty, unnoted, taken as taken_one}
use Rattle.qh_core.specs.Sending.{IsDatagramMade, datagram_of}
use Rattle.qh_core.specs.Timers.{restarted}
use Rattle.qh_core.specs.declared.event.ConnectionEvent.TheVariants.{Datagram}
use Rattle.qh_core.specs.declared.inner.Inner.{Inner}
use Rattle.qh_core.specs.declared.state.State.{State}
use Rattle.qh_packet.proofs.Packets.{only_content, parts_of}
use Rattle.qh_packet.specs.Packet.{IsOpened, low_bytes, short_of}
use Rattle.qh_recovery.proofs.PacketNumbers.{expanded, found}
use Rattle.qh_recovery.specs.Accepted.{IsNew, Remembers}
use Rattle.qh_recovery.specs.PacketNumber.{IsCandidate, IsExpanded}
use Rattle.qh_space.specs.declared.data_space.DataSpace.{DataSpace}
use Rattle.qh_spec.proofs.Members.{in_more}
use Rattle.qh_spec.proofs.PacketLaws.{tag_length}
use Rattle.qh_spec.proofs.TranscriptLaws.{handed_out-append}
use Rattle.qh_spec.specs.Datagram.{Packet, HasPacket}
use Rattle.qh_spec.specs.Link.{other}
use Rattle.qh_spec.specs.Lists.{In}
use Rattle.qh_spec.specs.Packet.{IsShortPacket, ShortPacket, be_value, short_packet}
use Rattle.qh_spec.specs.Transcript.{Act, HandedOut, handed_in, handed_out}
use Rattle.qh_spec.specs.declared.sides.Side.{Side}
use Rattle.qh_spec.specs.declared.sides.Space.{Space}
use Rattle.qh_spec.specs.declared.sides.Space.TheVariants.{Data}

-- ---- the number that is expected

-- it is no greater than a number above all that were accepted
no_greater : (s : DataSpace) (accepted : List ℕ) (n e : ℕ) → Remembers accepted s.dedup → ((m : ℕ) → In m accepted → m < n) → IsExpectedOf s e → e ≤ n
no_greater s accepted n e memory above is =
    let next = is accepted memory in
    elim (cases_lt n e) [
      | inl less ↦ let last = above (e - 1) (next.is_least (omega arith)) in absurd (omega arith)
      | inr most ↦ most
    ]

-- ---- a number below 2^31 that is no less than the expected one is told by its low four bytes

low_four : (n : ℕ) → n < 2 ^ 31 → be_value (low_bytes n) ≡ n
low_four n small = omega arith

candidate_four : (e n : ℕ) → n < 2 ^ 31 → IsCandidate e (be_value (low_bytes n)) 4 n
candidate_four e n small = let low = low_four n small in record { same_low = omega arith; number = λ h. omega arith }

expanded_four : (e n : ℕ) → e ≤ n → n < 2 ^ 31 → IsExpanded e (be_value (low_bytes n)) 4 n
expanded_four e n least small =
    let low = low_four n small in
    expanded e (be_value (low_bytes n)) 4 n (omega arith) (omega arith) (omega arith) (omega arith)
    (record { steps = inl (omega arith); near = inl (omega arith, omega arith) })

only_four : (e n m : ℕ) → e ≤ n → n < 2 ^ 31 → IsExpanded e (be_value (low_bytes n)) 4 m → m ≡ n
only_four e n m least small is = found e (be_value (low_bytes n)) 4 m n (omega arith) (omega arith) is (candidate_four e n small) (omega arith) (omega arith)

-- ---- a datagram with its tag

module _ (sealed : Side → Space → ℕ → List ℕ) (tags : MakesTags sealed) (from : Side) (id d : List ℕ) (s : IsSealed sealed from id d) where
  abbrev tag : List ℕ
  tag = sealed from Data s.number

  -- the number of its packet is that of its tag
  number_is : (p : Packet) → HasPacket (length id) p d → p.number ≡ s.number
  number_is p there =
      let tagged = tags from s.number s.is_number in
      let parts = only_content (length id) s.number id s.frames tag d p refl (tag_length tag from Data s.number tagged) s.is there in
      ap (λ (q : Packet). q.number) (only_packet id from s.number s.frames tag p.frames tagged parts.1 p (subst (λ (z : List ℕ). HasPacket (length id) p z) s.is there))

  abbrev short : ShortPacket
  short = short_of id s.number s.frames tag

  whole : d ≡ short_packet short
  whole = s.is ∙ ap (λ (z : List ℕ). 67 ∷ z) (append_assoc id (low_bytes s.number) (s.frames ++ tag))

  fits : IsShortPacket (length id) short
  fits = record { destination = refl; some_number = omega arith; short_number = omega arith; tag = tag_length tag from Data s.number (tags from s.number s.is_number) }

  module _ (accepts : Side → Space → ℕ → List ℕ → Bool) (e : ℕ) (least : e ≤ s.number) (small : s.number < 2 ^ 31) where
    opens : AcceptsWhatIsMade accepts sealed → IsOpened accepts (length id) from e d s.number s.frames
    opens takes = record {
      packet = short;
      is = record { whole = whole; fits = fits };
      expanded = expanded_four e s.number least small;
      is_number = s.is_number;
      accepted = takes from s.number s.is_number;
      frames_are = refl;
    }

    opens_once : (number : ℕ) (frames : List ℕ) → IsOpened accepts (length id) from e d number frames → number ≡ s.number
    opens_once number frames is = only_four e s.number number least small (parts_of accepts (length id) from e d short number frames fits whole is).expanded

-- ---- the end that it is for

module _ {S : Type 0} (accepts : Side → Space → ℕ → List ℕ → Bool) (sealed : Side → Space → ℕ → List ℕ) (takes : AcceptsWhatIsMade accepts sealed) (tags : MakesTags sealed) where
  -- it is above all that the end accepted
  record IsAbove (c : Inner S) (d : List ℕ) : Type 0 where
    id : List ℕ
    id_length : length id ≡ length c.local_id
    is : IsSealed sealed (other c.side) id d
    small : is.number < 2 ^ 31
    accepted : List ℕ
    remembers : Remembers accepted c.space.dedup
    above : (n : ℕ) → In n accepted → n < is.number

  module _ (c : Inner S) (d : List ℕ) (a : IsAbove c d) where
    abbrev n : ℕ
    n = a.is.number

    not_above : (e : ℕ) → IsExpectedOf c.space e → e ≤ n
    not_above e is = no_greater c.space a.accepted n e a.remembers a.above is

    is_opened : IsOpenedBy accepts c d n a.is.frames
    is_opened =
        let e = expected_of c.space in
        record {
          expected = e.0;
          is_expected = e.1;
          is = subst (λ (z : ℕ). IsOpened accepts z (other c.side) e.0 d n a.is.frames) a.id_length (opens sealed tags (other c.side) a.id d a.is accepts e.0 (not_above e.0 e.1) a.small takes);
        }

    same_number : (number : ℕ) (frames : List ℕ) → IsOpenedBy accepts c d number frames → number ≡ n
    same_number number frames o =
        opens_once sealed tags (other c.side) a.id d a.is accepts o.expected (not_above o.expected o.is_expected) a.small number frames
        (subst (λ (z : ℕ). IsOpened accepts z (other c.side) o.expected d number frames) (sym a.id_length) o.is)

    is_new : IsNew a.accepted n
    is_new = record { is_unseen = λ among. let less = a.above n among in absurd (omega arith); is_near = λ m among. omega (arith, a.above m among) }

    not_faulted : (now : Moment) (fault : TransportError) (new : Inner S) → IsFaulted now fault c new → is_open new.state ≡ true → ⊥
    not_faulted now fault new f up = both_ways (is_open new.state) (ap (λ (x : Inner S). is_open x.state) f.closed.rest_is) up

    handled : (now : Moment) (number : ℕ) (frames : List ℕ) (new : Inner S) → number ≡ n → is_open new.state ≡ true → IsPacketHandled now number frames c new → new.idle.since ≡ now
    handled now number frames new same up (repeated old _) = absurd (old a.accepted a.remembers (subst (λ (m : ℕ). IsNew a.accepted m) (sym same) is_new))
    handled now number frames new same up (empty fault _ _ _ f) = absurd (not_faulted now fault new f up)
    handled now number frames new same up (faulty fault kind _ _ _ f) = absurd (not_faulted now fault new f up)
    handled now number frames new same up (unnoted fault _ _ _ _ f) = absurd (not_faulted now fault new f up)
    handled now number frames new same up (taken_one _ t) =
        ap (λ (x : Inner S). x.idle.since) (goes_on_open now t.end (record c { space = t.space; idle = restarted now c.idle }) new t.goes_on up).1

    shut : (state : State) → is_open state ≡ false → c.state ≡ state → is_open c.state ≡ true → ⊥
    shut state closed is up = both_ways (is_open c.state) (ap is_open is ∙ closed) up

    taken : (now : Moment) (new : Inner S) → is_open c.state ≡ true → is_open new.state ≡ true → IsDatagramTaken accepts now d c new → new.idle.since ≡ now
    taken now new up still (dropped _ none _) = absurd (none n a.is.frames is_opened)
    taken now new up still (handled_one number frames _ o h) = handled now number frames new (same_number number frames o) still h
    taken now new up still (told_again reason due until is _ _) = absurd (shut _ refl is up)
    taken now new up still (closed_too reason due until is _ _) = absurd (shut _ refl is up)
    taken now new up still (draining until is _) = absurd (shut _ refl is up)
    taken now new up still (drained is _) = absurd (shut _ refl is up)

  came_by : (c p : Inner S) (tc : List Act) (datagram : List ℕ) (now : Moment) (remote : SocketAddr) → ArePeers c p → (c.error ≡ Some Memory → ⊥) → Follows c tc
      → IsSealedTo sealed p.side (length p.remote_id) datagram → IsCounting (length c.local_id) p.side (handed_in tc) datagram → IsAbove (received (Datagram now remote datagram) c) datagram
  unfolding Follows
  came_by c p tc datagram now remote peers lives follows is counts =
      let id = is.0 in
      let s : IsSealed sealed (other c.side) id datagram = rw (← peers.sides) (is.2) in
      let of_length : length id ≡ length c.local_id = is.1 ∙ peers.there in
      let counting : IsCounting (length c.local_id) (other c.side) (handed_in tc) datagram = rw (← peers.sides) counts in
      let same : counting.packet.number ≡ s.number = number_is sealed tags (other c.side) id datagram s counting.packet (subst (λ (z : ℕ). HasPacket z counting.packet datagram) (sym of_length) counting.has) in
      let small = counting.small in
      let space : c.space ≡ follows.space = elim follows.is_space [ inl memory ↦ absurd (lives memory) | inr is ↦ is ] in
      record {
        id = id;
        id_length = of_length;
        is = s;
        small = omega arith;
        accepted = follows.accepted;
        remembers = rw space follows.remembers;
        above = λ n among. let less = counting.above n (follows.numbers n among) in omega arith;
      }

-- ---- the laws

module _ {S : Type 0} where
  pub fresh_sealed : (sealed : Side → Space → ℕ → List ℕ) (c : Inner S) → AreSealed sealed c []
  fresh_sealed sealed c d among = absurd among

  same_sealed : (sealed : Side → Space → ℕ → List ℕ) (old new : Inner S) (d : List ℕ) → IsSameEnd old new → IsSealedTo sealed old.side (length old.remote_id) d → IsSealedTo sealed new.side (length new.remote_id) d
  same_sealed sealed old new d same is = rw (same.side, same.remote_length) is

  pub quiet_sealed : (sealed : Side → Space → ℕ → List ℕ) (old new : Inner S) (t u : List Act) → IsSameEnd old new → handed_out u ≡ [] → AreSealed sealed old t → AreSealed sealed new (t ++ u)
  quiet_sealed sealed old new t u same none are d among =
      let out : handed_out (t ++ u) ≡ handed_out t = handed_out-append t u ∙ ap (λ (l : List (List ℕ)). handed_out t ++ l) none ∙ append-nil (handed_out t) in
      same_sealed sealed old new d same (are d (subst (λ (l : List (List ℕ)). In d l) out among))

  pub made_sealed : (sealed : Side → Space → ℕ → List ℕ) (now : Moment) (old new : Inner S) (before after : List ℕ) (transmit : Transmit) (t : List Act)
      → IsDatagramMade sealed now old new before after transmit → IsSameEnd old new → AreSealed sealed old t → AreSealed sealed new (t ++ transmit_acts before after (Ok (Some transmit)))
  made_sealed sealed now old new before after transmit t m same are d among =
      let sent = drop (length before) after in
      let behind : sent ≡ datagram_of sealed old m.bytes.frames = ap (λ (z : List ℕ). drop (length before) z) m.bytes.after_is ∙ drop-append_seam before (datagram_of sealed old m.bytes.frames) in
      same_sealed sealed old new d same (elim (in_more d sent (handed_out t) (subst (λ (l : List (List ℕ)). In d l) (handed_out-append t (HandedOut sent ∷ [])) among)) [
        | inl earlier ↦ are d earlier
        | inr last ↦ (old.remote_id, refl, record { number = old.space.next_number; frames = m.bytes.frames; is_number = m.bytes.number; is = sym last ∙ behind })
      ])

  -- an end that want of memory ended needn't know what came
  pub restarted_since : (accepts : Side → Space → ℕ → List ℕ → Bool) (sealed : Side → Space → ℕ → List ℕ) → AcceptsWhatIsMade accepts sealed → MakesTags sealed
      → (c p new : Inner S) (tc tp : List Act) (now : Moment) (remote : SocketAddr) (datagram : List ℕ) → ArePeers c p → (c.error ≡ Some Memory → ⊥) → Follows c tc → AreSealed sealed p tp
      → is_open c.state ≡ true → In datagram (handed_out tp) → IsCounting (length c.local_id) p.side (handed_in tc) datagram
      → IsEventTaken accepts (Datagram now remote datagram) c new → is_open new.state ≡ true → new.idle.since ≡ now
  restarted_since accepts sealed takes tags c p new tc tp now remote datagram peers lives follows are up among counts event still =
      taken accepts sealed takes tags (received (Datagram now remote datagram) c) datagram (came_by accepts sealed takes tags c p tc datagram now remote peers lives follows (are datagram among) counts) now new up still event
