-- By what a datagram ends a connection; none of an honest peer's is a packet of version negotiation (RFC 9000, section 6.2).
use Rattle.std.proofs.Common.{◌≡◌, ◌⊎◌, ℕ, List, ◌++◌, length, Option, Some, refl, sym, ap, subst, ◌∙◌, inl, inr, get_or, arith}
use Rattle.std.proofs.lemmas.Option.{none-some, same_Some}
use Rattle.qh_base.specs.declared.connection_error.ConnectionClose.{ConnectionClose}
use Rattle.qh_base.specs.declared.connection_error.ConnectionError.{ConnectionError}
use Rattle.qh_base.specs.declared.connection_error.ConnectionError.TheVariants.{TransportError as Fault, ConnectionClosed, VersionMismatch}
use Rattle.qh_base.specs.declared.time.Moment.{Moment}
use Rattle.qh_base.specs.declared.transport_error.TransportError.{TransportError}
use Rattle.qh_handshake.specs.Incoming.{AreFramesTaken, ArePacketsTaken, Form, IsDatagramTaken, IsHelloRead, IsInitialTaken, IsMismatch, IsPacketHandled, knowing, received}
use Rattle.qh_handshake.specs.Incoming.AreFramesTaken.{none as none_taken, more as more_taken, closed as closed_taken, refused as refused_taken}
use Rattle.qh_handshake.specs.Incoming.ArePacketsTaken.{done, more as one_more, ended as ended_by}
use Rattle.qh_handshake.specs.Incoming.IsDatagramTaken.{retry, mismatch, packets}
use Rattle.qh_handshake.specs.Incoming.IsHelloRead.{gone as gone_before, known, cut, refused, at_client, at_server}
use Rattle.qh_handshake.specs.Incoming.IsInitialTaken.{gone, dropped, ended, handled}
use Rattle.qh_handshake.specs.Incoming.IsPacketHandled.{repeated, empty, faulty, unnoted, taken}
use Rattle.qh_handshake.specs.Sends.{IsHonestDatagram}
use Rattle.qh_handshake.specs.declared.handshake.Handshake.{Handshake}
use Rattle.qh_handshake.specs.declared.initial_space.InitialSpace.{InitialSpace}
use Rattle.qh_packet.specs.LongHeader.{IsLongHeader}
use Rattle.qh_packet.specs.Session.{AcceptsTag}
use Rattle.qh_packet.specs.VersionNegotiation.{IsVersionNegotiation}
use Rattle.qh_spec.specs.Datagram.{IsInitialForm, one_rtt, initial, later}

-- ---- an Initial packet ends the connection by a fault or by a close alone

pub data Ends : ConnectionError → Type 0 where
  by_fault : (e : TransportError) → Ends (Fault e)
  by_close : (c : ConnectionClose) → Ends (ConnectionClosed c)

not_versions : (e : ConnectionError) → Ends e → e ≡ VersionMismatch → ⊥
not_versions e (by_fault error) is = cc
not_versions e (by_close close) is = cc

ends_as : (error e : ConnectionError) → Ends error → Some error ≡ Some e → Ends e
ends_as error e ends is = subst Ends (same_Some error e is) ends

frames_end : (now : ℕ) (bytes : List ℕ) (old new : InitialSpace) (end : Option ConnectionError) (e : ConnectionError) → AreFramesTaken now bytes old new end → end ≡ Some e → Ends e
frames_end now bytes old new end e (none_taken _) is = absurd (none-some e is)
frames_end now bytes old new end e (more_taken _ rest f _ mid _ _ begins fits one behind) is = frames_end now rest mid new end e behind is
frames_end now bytes old new end e (closed_taken _ rest f _ _ said begins fits one) is = ends_as (ConnectionClosed said) e (by_close said) is
frames_end now bytes old new end e (refused_taken _ rest f _ error begins named refusal) is = ends_as (Fault error) e (by_fault error) is

packet_ends : (now : Moment) (number : ℕ) (frames : List ℕ) (old new : InitialSpace) (end : Option ConnectionError) (e : ConnectionError) → IsPacketHandled now number frames old new end → end ≡ Some e → Ends e
packet_ends now number frames old new end e (repeated is_old same) is = absurd (none-some e is)
packet_ends now number frames old new end e (empty error is_new none fault same) is = ends_as (Fault error) e (by_fault error) is
packet_ends now number frames old new end e (faulty error kind is_new fault code same) is = ends_as (Fault error) e (by_fault error) is
packet_ends now number frames old new end e (unnoted error is_eliciting is_new valid t same) is = ends_as (Fault error) e (by_fault error) is
packet_ends now number frames old new end e (taken mid is_eliciting _ is_new valid a t) is = frames_end now.0 frames mid new end e t is

-- the hello behind it by a fault alone
pub hello_ends : (old new : Handshake) (learned : Option (List ℕ)) (end : Option ConnectionError) (e : ConnectionError) → IsHelloRead old new learned end → end ≡ Some e → (error : TransportError) × (e ≡ Fault error)
hello_ends old new learned end e (gone_before none same) is = absurd (none-some e is)
hello_ends old new learned end e (known p has same) is = absurd (none-some e is)
hello_ends old new learned end e (cut s has none same) is = absurd (none-some e is)
hello_ends old new learned end e (refused s front rest kind error has unread whole form fault code same) is = (error, sym (same_Some (Fault error) e is))
hello_ends old new learned end e (at_client name p there client same) is = absurd (none-some e is)
hello_ends old new learned end e (at_server s name p there server has same) is = absurd (none-some e is)

module _ (accepts : AcceptsTag) (now : Moment) where
  initial_ends : (f : Form) (old new : Handshake) (learned : Option (List ℕ)) (end : Option ConnectionError) (e : ConnectionError) → IsInitialTaken accepts now f old new learned end → end ≡ Some e → Ends e
  initial_ends f old new learned end e (gone none same) is = absurd (none-some e is)
  initial_ends f old new learned end e (dropped s has none same) is = absurd (none-some e is)
  initial_ends f old new learned end e (ended s mid number frames error has opened h same) is = packet_ends now number frames s mid (Some error) e h is
  initial_ends f old new learned end e (handled s mid number frames _ _ has opened h read) is =
      let fault = hello_ends (knowing old f.source mid) new learned end e read is in subst Ends (sym fault.1) (by_fault fault.0)

  packets_end : (bytes rest : List ℕ) (old new : Handshake) (learned : Option (List ℕ)) (end : Option ConnectionError) (e : ConnectionError) → ArePacketsTaken accepts now bytes rest old new learned end
      → end ≡ Some e → Ends e
  packets_end bytes rest old new learned end e (done _ _ none) is = absurd (none-some e is)
  packets_end bytes rest old new learned end e (one_more _ destination behind _ f _ mid _ first others _ b one behind_it) is = packets_end behind rest mid new others end e behind_it is
  packets_end bytes rest old new learned end e (ended_by _ destination behind f _ _ _ error b one) is = initial_ends f old new learned (Some error) e one is

  -- and a packet of version negotiation by telling of other versions
  pub datagram_ends : (datagram rest : List ℕ) (old new : Handshake) (retried learned : Option (List ℕ)) (end : Option ConnectionError) (e : ConnectionError)
      → IsDatagramTaken accepts now datagram old new rest retried learned end → end ≡ Some e → Ends e ⊎ ((e ≡ VersionMismatch) × IsMismatch old datagram)
  datagram_ends datagram rest old new retried learned end e (retry s source token may has same) is = absurd (none-some e is)
  datagram_ends datagram rest old new retried learned end e (mismatch m same) is = inr (sym (same_Some VersionMismatch e is), m)
  datagram_ends datagram rest old new retried learned end e (packets _ _ _ no_retry no_mismatch all) is =
      inl (packets_end datagram rest (received (length datagram) old) new learned end e all is)

  -- a datagram that does is a packet of version negotiation
  pub tells_versions : (datagram rest : List ℕ) (old new : Handshake) (retried learned : Option (List ℕ))
      → IsDatagramTaken accepts now datagram old new rest retried learned (Some VersionMismatch) → IsMismatch old datagram
  tells_versions datagram rest old new retried learned came = elim (datagram_ends datagram rest old new retried learned (Some VersionMismatch) VersionMismatch came refl) [
    | inl ends ↦ absurd (not_versions VersionMismatch ends refl)
    | inr told ↦ told.1
  ]

-- ---- and an honest datagram has an Initial packet

-- its version is 1
other_version : (d front rest body destination source listed : List ℕ) (first first' : ℕ) → d ≡ front ++ rest → IsInitialForm front first body → IsLongHeader d first' 0 destination source listed → ⊥
other_version d front rest body destination source listed first first' whole form header =
    let one : get_or d 4 0 ≡ 1 = ap (λ (z : List ℕ). get_or z 4 0) whole ∙ ap (λ (z : List ℕ). get_or (z ++ rest) 4 0) form.whole in
    let zero : get_or d 4 0 ≡ 0 = ap (λ (z : List ℕ). get_or z 4 0) header.whole in
    omega (arith, one, zero)

pub no_negotiation : (hello : List ℕ) (came : List (List ℕ)) (h : Handshake) (d destination source listed : List ℕ) → IsHonestDatagram hello came h d
    → IsVersionNegotiation d destination source listed → ⊥
no_negotiation hello came h d destination source listed honest n =
    let one = honest.has_one 0 in
    let in_initial = (honest.packets 0 one.0 one.1).space_is in
    elim one.1 [
      | one_rtt _ is ↦ let e = is.content.space_is in cc
      | initial front rest _ whole is ↦ other_version d front rest _ destination source listed _ n.first whole is.form n.header
      | later front rest _ first body whole form has ↦ other_version d front rest body destination source listed first n.first whole form n.header
    ]
