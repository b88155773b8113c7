-- A datagram of a handshake is one Initial packet, and no datagram that begins with a short header ends a handshake.
use Rattle.std.proofs.Common.{◌≡◌, ℕ, ◌+◌, true, false, List, [], ◌++◌, length, get_or, Option, Some, None, is_some, refl, sym, ap, subst, ◌∙◌, arith, append-nil}
use Rattle.qh_base.specs.declared.connection_error.ConnectionError.{ConnectionError}
use Rattle.qh_base.specs.declared.time.Moment.{Moment}
use Rattle.qh_converse.proofs.ShakeLaws.{short_behind}
use Rattle.qh_handshake.specs.Incoming.{ArePacketsTaken, IsBehind, IsDatagramTaken}
use Rattle.qh_handshake.specs.Incoming.ArePacketsTaken.{done, more, ended}
use Rattle.qh_handshake.specs.Incoming.IsDatagramTaken.{retry, mismatch, packets}
use Rattle.qh_handshake.specs.Follows.{Follows}
use Rattle.qh_handshake.specs.GoesOn.{GoesOn}
use Rattle.qh_handshake.specs.Handshake.{dropping}
use Rattle.qh_handshake.specs.Moments.{IsTimedOut}
use Rattle.qh_handshake.specs.Moments.IsTimedOut.{gone, recovery}
use Rattle.qh_handshake.specs.Outgoing.{IsCloseUnsent, IsUnsent}
use Rattle.qh_handshake.specs.Outgoing.IsCloseUnsent.{same as close_unchanged, used}
use Rattle.qh_handshake.specs.Outgoing.IsUnsent.{same as unchanged, lost}
use Rattle.qh_handshake.specs.Sends.{IsHonestDatagram, Sends}
use Rattle.qh_handshake.specs.declared.handshake.Handshake.{Handshake}
use Rattle.qh_hello.specs.declared.transport_parameters.TransportParameters.{TransportParameters}
use Rattle.qh_packet.specs.Session.{AcceptsTag}
use Rattle.qh_packet.specs.VersionNegotiation.{IsVersionNegotiation}
use Rattle.qh_spec.specs.Datagram.{Packet, HasPacket, IsInitialForm, one_rtt, initial, later}
use Rattle.qh_spec.specs.Parted.{IsInitialAlone, IsShort}
use Rattle.qh_spec.specs.Transcript.{Act}
use Rattle.qh_spec.specs.declared.sides.Space.TheVariants.{Initial, Data}

-- ---- what an honest handshake hands out

module _ (hello : List ℕ) (came : List (List ℕ)) (h : Handshake) (d : List ℕ) (honest : IsHonestDatagram hello came h d) where
  -- behind its first packet nothing stands
  first_alone : (front rest : List ℕ) (first : ℕ) (body : List ℕ) → d ≡ front ++ rest → IsInitialForm front first body → IsInitialAlone d
  first_alone front rest first body e i =
      let none : rest ≡ [] = (honest.from first i.destination i.source i.token body rest (record {
        front = front;
        whole = e;
        form = i;
        destination_is = refl;
        source_is = refl;
        token_is = refl;
      })).1 in
      let all : front ≡ d = sym (append-nil front) ∙ ap (λ (z : List ℕ). front ++ z) (sym none) ∙ sym e in
      record { first = first; body = body; is = subst (λ (z : List ℕ). IsInitialForm z first body) all i }

  packet_alone : (k : ℕ) (p : Packet) (x : List ℕ) → x ≡ d → HasPacket k p x → p.space ≡ Initial → IsInitialAlone d
  packet_alone k p x same (one_rtt b has) space = let z : Data ≡ Initial = sym has.content.space_is ∙ space in cc
  packet_alone k p x same (initial front rest b e i) space =
      first_alone front rest (191 + length i.number_bytes) (i.number_bytes ++ (i.frame_bytes ++ i.tag)) (sym same ∙ e) i.form
  packet_alone k p x same (later front rest b first body e i has) space = first_alone front rest first body (sym same ∙ e) i

  pub honest_alone : IsInitialAlone d
  honest_alone = let one = honest.has_one 0 in packet_alone 0 one.0 d refl one.1 (honest.packets 0 one.0 one.1).space_is

-- ---- what begins with a short header

packets_end : (accepts : AcceptsTag) (now : Moment) (d rest : List ℕ) (old new : Handshake) (learned : Option (List ℕ)) (end : Option ConnectionError) (e : ConnectionError)
    → end ≡ Some e → IsBehind d → ArePacketsTaken accepts now d rest old new learned end → ⊥
packets_end accepts now d rest old new _ _ e is behind (done _ _ _) = let z : None ≡ Some e = is in cc
packets_end accepts now d rest old new _ _ e is behind (more _ _ after _ f _ _ _ _ _ _ begins _ _) = behind begins.front after f.body f.first begins.whole begins.form
packets_end accepts now d rest old new _ _ e is behind (ended _ _ after f _ _ _ _ begins _) = behind begins.front after f.body f.first begins.whole begins.form

not_versions : (d destination source listed : List ℕ) → IsShort d → IsVersionNegotiation d destination source listed → ⊥
not_versions d destination source listed s v =
    let first : get_or d 0 0 ≡ v.first = ap (λ (z : List ℕ). get_or z 0 0) v.header.whole in
    let long = v.header.long_form in
    let low = s.1 in
    omega (arith, first, long, low)

not_ended : (accepts : AcceptsTag) (now : Moment) (d rest : List ℕ) (old new : Handshake) (retried learned : Option (List ℕ)) (end : Option ConnectionError) (e : ConnectionError)
    → end ≡ Some e → IsShort d → IsDatagramTaken accepts now d old new rest retried learned end → ⊥
not_ended accepts now d _ old new _ _ _ e is s (retry _ _ _ _ _ _) = let z : None ≡ Some e = is in cc
not_ended accepts now d _ old new _ _ _ e is s (mismatch m _) = not_versions d m.destination m.source m.listed s m.is
not_ended accepts now d _ old new _ _ _ e is s (packets rest learned end _ _ taken) = packets_end accepts now d rest _ new learned end e is (short_behind d s) taken

-- it ends no handshake
pub short_ends_none : (accepts : AcceptsTag) (now : Moment) (d rest : List ℕ) (old new : Handshake) (retried learned : Option (List ℕ)) (e : ConnectionError)
    → IsShort d → IsDatagramTaken accepts now d old new rest retried learned (Some e) → ⊥
short_ends_none accepts now d rest old new retried learned e s taken = not_ended accepts now d rest old new retried learned (Some e) e refl s taken

-- ---- steps without a datagram

known : (o : Option TransportParameters) → is_some o ≡ true → (p : TransportParameters) × (o ≡ Some p)
known None some = let z : false ≡ true = some in cc
known (Some p) some = (p, refl)

-- it is the same end, says the same, and knows the same of its peer; since it was greeted its packets go to the same id
pub record IsStill (old new : Handshake) : Type 0 where
  pub side : new.side ≡ old.side
  pub id : new.local_id ≡ old.local_id
  pub parameters : new.parameters ≡ old.parameters
  pub peer : new.peer ≡ old.peer
  pub remote : is_some old.peer ≡ true → new.remote_id ≡ old.remote_id

pub same_still : (h new : Handshake) → new ≡ h → IsStill h new
same_still h new is = record {
  side = ap (λ (z : Handshake). z.side) is;
  id = ap (λ (z : Handshake). z.local_id) is;
  parameters = ap (λ (z : Handshake). z.parameters) is;
  peer = ap (λ (z : Handshake). z.peer) is;
  remote = λ _. ap (λ (z : Handshake). z.remote_id) is;
}

pub still_by : (old new h : Handshake) → new ≡ h → IsStill old h → IsStill old new
still_by old new h is s = subst (λ (z : Handshake). IsStill old z) (sym is) s

-- a handshake that goes on from one that was greeted knows its peer by the same id
pub goes_still : (hello : List ℕ) (old new : Handshake) (t : List Act) → Follows hello old t → GoesOn old new → new.peer ≡ old.peer → IsStill old new
goes_still hello old new t f on peer = record {
  side = on.side;
  id = on.local_id;
  parameters = on.parameters;
  peer = peer;
  remote = λ greeted. let p = known old.peer greeted in (on.known (f.sourced p.0 p.1).1).1;
}

pub unsent_still : (now : Moment) (old new : Handshake) → IsUnsent now old new → IsStill old new
unsent_still now old new (unchanged is) = still_by old new old is (record { side = refl; id = refl; parameters = refl; peer = refl; remote = λ _. refl })
unsent_still now old new (lost _ _ _ _ _ _ _ _ is) = still_by old new _ is (record { side = refl; id = refl; parameters = refl; peer = refl; remote = λ _. refl })

pub close_unsent_still : (old new : Handshake) → IsCloseUnsent old new → IsStill old new
close_unsent_still old new (close_unchanged is) = still_by old new old is (record { side = refl; id = refl; parameters = refl; peer = refl; remote = λ _. refl })
close_unsent_still old new (used _ _ _ _ is) = still_by old new _ is (record { side = refl; id = refl; parameters = refl; peer = refl; remote = λ _. refl })

pub timed_still : (now : ℕ) (old new : Handshake) → IsTimedOut now old new → IsStill old new
timed_still now old new (gone _ is) = still_by old new old is (record { side = refl; id = refl; parameters = refl; peer = refl; remote = λ _. refl })
timed_still now old new (recovery _ _ _ _ _ _ is) = still_by old new _ is (record { side = refl; id = refl; parameters = refl; peer = refl; remote = λ _. refl })

-- the space is given up
pub dropped_follows : (hello : List ℕ) (h : Handshake) (t : List Act) → Follows hello h t → Follows hello (dropping h) t
dropped_follows hello h t f = record {
  own = f.own;
  kept = λ s e. let z : None ≡ Some s = e in cc;
  came = λ s k byte id_length e. let z : None ≡ Some s = e in cc;
  greeted = f.greeted;
  sourced = f.sourced;
  says = f.says;
  answers = f.answers;
  unsaid = f.unsaid;
  once = f.once;
  numbers = λ s id_length number e. let z : None ≡ Some s = e in cc;
  accepted = λ s e. let z : None ≡ Some s = e in cc;
  received = f.received;
  sent = f.sent;
  limit = f.limit;
}

pub dropped_sends : (hello : List ℕ) (h : Handshake) (t : List Act) → Sends hello h t → Sends hello (dropping h) t
dropped_sends hello h t p = record {
  each = λ before after d e. let o = p.each before after d e in record { has_one = o.has_one; from = o.from; packets = o.packets; some = o.some };
  acked = λ s number id_length e. let z : None ≡ Some s = e in cc;
}
