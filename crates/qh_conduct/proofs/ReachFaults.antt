-- Why a connection is faulted: the frame of the datagram that its space refuses.
use Rattle.std.proofs.Common.{◌≡◌, ℕ, Bool, List, [], ◌∷◌, length, Option, Some, None, refl, sym, ap, subst, ◌∙◌, inl, inr}
use Rattle.qh_base.specs.TransportFault.{IsFault as HasCode}
use Rattle.std.specs.Option.{option_map}
use Rattle.qh_base.specs.declared.connection_error.ConnectionError.{ConnectionError}
use Rattle.qh_base.specs.declared.connection_error.ConnectionError.TheVariants as error
use Rattle.qh_base.specs.declared.time.Moment.{Moment}
use Rattle.qh_base.specs.declared.transport_error.TransportError.{TransportError}
use Rattle.qh_conduct.proofs.ReachConnections.{has_content}
use Rattle.qh_conduct.proofs.ReachSpaces.{first_is, frame_came}
use Rattle.qh_conduct.specs.Fitting.{HasRefused, IsFaultOf, empty as fault_empty, faulty as fault_faulty, refused as fault_refused}
use Rattle.qh_conduct.specs.Reached.{AreNamed}
use Rattle.qh_core.proofs.Ends.{goes_on_space}
use Rattle.qh_core.specs.Follows.{HasFrame}
use Rattle.qh_core.specs.Receiving.{AreFramesTaken, GoesOnWith, HasContent, IsDatagramTaken, IsFaulted, IsOpenedBy, IsPacketHandled}
use Rattle.qh_core.specs.Receiving.AreFramesTaken.{none as none_taken, more as more_taken, closed as closed_taken, refused as refused_taken}
use Rattle.qh_core.specs.Receiving.IsDatagramTaken.{dropped, handled, told_again, closed_too, draining as in_draining, drained as in_drained}
use Rattle.qh_core.specs.Receiving.IsPacketHandled.{repeated, empty, faulty, unnoted, taken as in_taken}
use Rattle.qh_core.specs.declared.inner.Inner.{Inner}
use Rattle.qh_frame.proofs.Named.{type_named}
use Rattle.qh_frame.specs.Plain.{plain_of}
use Rattle.qh_frame.specs.TypeOf.{named as frame_named}
use Rattle.qh_frame.specs.declared.frame.Frame.{Frame}
use Rattle.qh_frame.specs.declared.frame.Frame.TheVariants as kind
use Rattle.qh_space.specs.Receiving.{IsClosedBy, IsFrameTaken, frame_refusal}
use Rattle.qh_space.specs.Receiving.IsFrameTaken.{passive, streams, ack, challenge, close}
use Rattle.qh_space.specs.declared.data_space.DataSpace.{DataSpace}
use Rattle.qh_spec.specs.Codes as codes
use Rattle.qh_spec.specs.Link.{other}
use Rattle.qh_spec.specs.Lists.{In}
use Rattle.qh_spec.specs.QuicFrames.{QuicFrame, AreQuicFrames}
use Rattle.qh_spec.specs.declared.sides.Side.{Side}
use Rattle.qh_spec.specs.declared.sides.Space.{Space}
use Rattle.qh_streams.specs.Streams.{IsRefusal}
use Rattle.qh_streams.specs.declared.fault.StreamFault.TheVariants.{Transport}

-- ---- no frame that is taken is a fault

abbrev IsFault : Option ConnectionError → TransportError → Type 0
IsFault end e = end ≡ Some (error.TransportError e)

not_closed_by : (f : Frame) (e : TransportError) → IsClosedBy f (Some (error.TransportError e)) → ⊥
not_closed_by kind.Padding e h = cc
not_closed_by kind.Ping e h = cc
not_closed_by (kind.Ack a) e h = cc
not_closed_by (kind.ResetStream id code size) e h = cc
not_closed_by (kind.StopSending id code) e h = cc
not_closed_by (kind.Crypto offset payload) e h = cc
not_closed_by (kind.NewToken token) e h = cc
not_closed_by (kind.Stream stream) e h = cc
not_closed_by (kind.MaxData limit) e h = cc
not_closed_by (kind.MaxStreamData id limit) e h = cc
not_closed_by (kind.MaxStreams dir count) e h = cc
not_closed_by (kind.DataBlocked limit) e h = cc
not_closed_by (kind.StreamDataBlocked id limit) e h = cc
not_closed_by (kind.StreamsBlocked dir count) e h = cc
not_closed_by (kind.NewConnectionId sequence prior id token) e h = cc
not_closed_by (kind.RetireConnectionId sequence) e h = cc
not_closed_by (kind.PathChallenge bytes) e h = cc
not_closed_by (kind.PathResponse bytes) e h = cc
not_closed_by (kind.ConnectionClose code frame reason) e h = h
not_closed_by (kind.ApplicationClose code reason) e h = h
not_closed_by kind.HandshakeDone e h = cc
not_closed_by (kind.Datagram payload has_length) e h = cc

taken_no_fault : {X : Type 0} (now : ℕ) (old new : DataSpace) (f : Frame) (end : Option ConnectionError) (e : TransportError) → IsFrameTaken now old new f end → IsFault end e → X
taken_no_fault now old new f end e (passive _ _ _) h = absurd (cc)
taken_no_fault now old new f end e (streams _ _ _ _ _) h = absurd (cc)
taken_no_fault now old new f end e (ack _ _) h = absurd (cc)
taken_no_fault now old new f end e (challenge _ _) h = absurd (cc)
taken_no_fault now old new f end e (close _ by is _) h = absurd (not_closed_by f e (subst (λ (o : Option ConnectionError). IsClosedBy f o) h is))

same_fault : (d e : TransportError) → IsFault (Some (error.TransportError d)) e → d ≡ e
same_fault d e h = cc

-- ---- the frame that is refused

module _ (side : Side) (own : ℕ) (datagram : List ℕ) where
  pub frame_refused : (now : ℕ) (bytes : List ℕ) (old new : DataSpace) (taken : List Frame) (end : Option ConnectionError) (fs : List QuicFrame) (e : TransportError) → AreFramesTaken now bytes old new taken end → IsFault end e
      → AreQuicFrames bytes fs → ((q : QuicFrame) → In q fs → HasFrame own (datagram ∷ []) (other side) q) → HasRefused own (other side) datagram new e
  frame_refused now bytes old new taken end fs e (none_taken _) h are has = absurd (cc)
  frame_refused now bytes old new taken end fs e (more_taken _ rest f _ mid _ others _ begins ok one behind) h are has =
      let first = first_is side own (datagram ∷ []) bytes rest (plain_of f) fs begins are in
      frame_refused now rest mid new others end first.1 e behind h first.4 (λ q is. has q (subst (λ (z : List QuicFrame). In q z) (sym first.2) (inr is)))
  frame_refused now bytes old new taken end fs e (closed_taken _ rest f _ _ by begins ok one) h are has = taken_no_fault now old new f (Some by) e one h
  frame_refused now bytes old new taken end fs e (refused_taken _ rest f _ fault begins named refusal) h are has =
      let first = first_is side own (datagram ∷ []) bytes rest (plain_of f) fs begins are in
      let there : In first.0 fs = subst (λ (z : List QuicFrame). In first.0 z) (sym first.2) (inl refl) in
      let front = subst (λ (z : List QuicFrame). AreQuicFrames bytes z) first.2 are in
      record {
        frame = f;
        read = first.0;
        has = has first.0 there;
        form_is = first.3;
        type_is = type_named bytes front.1.fields first.0.kind f named front.1.kind;
        came = λ c is. frame_came side own (datagram ∷ []) f first.0 c is first.3 (has first.0 there);
        refused = subst (λ (e : TransportError). IsRefusal (Transport e) (frame_refusal old f)) (same_fault fault e h) refusal;
      }

-- ---- the connection

no_error : {X : Type 0} (o : Option ConnectionError) (e : TransportError) → o ≡ None → IsFault o e → X
no_error o e none some = absurd (cc)

module _ {S : Type 0} where
  pub content_frame : (c : Inner S) (datagram : List ℕ) (number : ℕ) (fs : List QuicFrame) → HasContent c datagram number fs
      → (q : QuicFrame) → In q fs → HasFrame (length c.local_id) (datagram ∷ []) (other c.side) q
  content_frame c d number fs has q there = record { datagram = d; among = inl refl; packet = _; has = has; space_is = refl; sender_is = refl; frame_among = there }

  error_of : (now : Moment) (end : Option ConnectionError) (old new : Inner S) (e : TransportError) → GoesOnWith now end old new → old.error ≡ None → IsFault new.error e → IsFault end e
  error_of now None old new e same none h = no_error old.error e none (ap (λ (c : Inner S). c.error) (sym same) ∙ h)
  error_of now (Some (error.TransportError d)) old new e f none h = sym (ap (λ (c : Inner S). c.error) f.closed.rest_is) ∙ h
  error_of now (Some error.VersionMismatch) old new e d none h = sym (ap (λ (c : Inner S). c.error) d.rest_is) ∙ h
  error_of now (Some (error.ConnectionClosed said)) old new e d none h = sym (ap (λ (c : Inner S). c.error) d.rest_is) ∙ h
  error_of now (Some (error.ApplicationClosed said)) old new e d none h = sym (ap (λ (c : Inner S). c.error) d.rest_is) ∙ h
  error_of now (Some error.Reset) old new e d none h = sym (ap (λ (c : Inner S). c.error) d.rest_is) ∙ h
  error_of now (Some error.TimedOut) old new e d none h = sym (ap (λ (c : Inner S). c.error) d.rest_is) ∙ h
  error_of now (Some error.LocallyClosed) old new e d none h = sym (ap (λ (c : Inner S). c.error) d.rest_is) ∙ h
  error_of now (Some error.CidsExhausted) old new e d none h = sym (ap (λ (c : Inner S). c.error) d.rest_is) ∙ h
  error_of now (Some error.Memory) old new e d none h = sym (ap (λ (c : Inner S). c.error) d.rest_is) ∙ h

  -- the error that a fault leaves is that fault
  told_fault : (now : Moment) (fault : TransportError) (old new : Inner S) (e : TransportError) → IsFaulted now fault old new → IsFault new.error e → fault ≡ e
  told_fault now fault old new e f h = same_fault fault e (sym (ap (λ (c : Inner S). c.error) f.closed.rest_is) ∙ h)

  module _ (accepts : Side → Space → ℕ → List ℕ → Bool) (now : Moment) (datagram : List ℕ) (named : AreNamed accepts) where
    packet_fault : (number : ℕ) (bytes : List ℕ) (old new : Inner S) (e : TransportError) → IsOpenedBy accepts old datagram number bytes → IsPacketHandled now number bytes old new → old.error ≡ None → IsFault new.error e
        → IsFaultOf accepts old new datagram e
    packet_fault number bytes old new e by (repeated is same) none h = no_error old.error e none (ap (λ (c : Inner S). c.error) (sym same) ∙ h)
    packet_fault number bytes old new e by (empty fault is no_byte says f) none h =
        fault_empty number (subst (λ (b : List ℕ). IsOpenedBy accepts old datagram number b) no_byte by) (subst (λ (x : TransportError). HasCode codes.protocol_violation None x) (told_fault now fault old new e f h) says)
    packet_fault number bytes old new e by (faulty fault kind is at says f) none h =
        fault_faulty number bytes kind by at (subst (λ (x : TransportError). HasCode codes.frame_encoding_error (option_map frame_named kind) x) (told_fault now fault old new e f h) says)
    packet_fault number bytes old new e by (unnoted fault eliciting is read at f) none h =
        let fs = read.frames in
        let has = has_content accepts old datagram number bytes fs named by read.are in
        fault_refused (rw (ap (λ (c : Inner S). c.space) f.closed.rest_is)
        (frame_refused old.side (length old.local_id) datagram now.0 bytes old.space old.space [] (Some (error.TransportError fault)) fs e at (ap (λ (x : TransportError). Some (error.TransportError x)) (told_fault now fault old new e f h)) read.are (content_frame old datagram number fs has)))
    packet_fault number bytes old new e by (in_taken is a) none h =
        let fs = a.surveyed.frames in
        let has = has_content accepts old datagram number bytes fs named by a.surveyed.are in
        let end = error_of now a.end _ new e a.goes_on none h in
        fault_refused (rw (goes_on_space now a.end _ new a.goes_on)
        (frame_refused old.side (length old.local_id) datagram now.0 bytes a.mid a.space a.taken a.end fs e a.are_taken end a.surveyed.are (content_frame old datagram number fs has)))

    pub datagram_fault : (old new : Inner S) (e : TransportError) → IsDatagramTaken accepts now datagram old new → old.error ≡ None → IsFault new.error e → IsFaultOf accepts old new datagram e
    datagram_fault old new e (dropped opened nothing same) none h = no_error old.error e none (ap (λ (c : Inner S). c.error) (sym same) ∙ h)
    datagram_fault old new e (handled number bytes opened by p) none h = packet_fault number bytes old new e by p none h
    datagram_fault old new e (told_again reason due until is nothing same) none h = no_error old.error e none (ap (λ (c : Inner S). c.error) (sym same) ∙ h)
    datagram_fault old new e (closed_too reason due until is brings same) none h = no_error old.error e none (ap (λ (c : Inner S). c.error) (sym same) ∙ h)
    datagram_fault old new e (in_draining until is same) none h = no_error old.error e none (ap (λ (c : Inner S). c.error) (sym same) ∙ h)
    datagram_fault old new e (in_drained is same) none h = no_error old.error e none (ap (λ (c : Inner S). c.error) (sym same) ∙ h)
