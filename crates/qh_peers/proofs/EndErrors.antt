-- What a datagram leaves of an end that it leaves open: why it would be lost, and what its handshake knows of the peer behind the Initial packets.
use Rattle.std.proofs.Common.{◌≡◌, ℕ, Bool, true, false, if◌then◌else◌, List, [], length, Option, None, Some, refl, sym, ap, ◌∙◌}
use Rattle.qh_base.specs.declared.time.Moment.{Moment}
use Rattle.qh_conn.specs.Greeting.{connected, with_core}
use Rattle.qh_conn.specs.Incoming.{AreFramesHandled, IsMet, IsRestTaken, IsRestarted, connected_if}
use Rattle.qh_conn.specs.Items.{noted, streams_taken}
use Rattle.qh_conn.specs.declared.connection.Connection.{Connection}
use Rattle.qh_control.specs.declared.items.ConnectionItem.{ConnectionItem}
use Rattle.qh_core.proofs.Ends.{goes_on_open}
use Rattle.qh_core.specs.Inner.{is_client, is_open}
use Rattle.qh_core.specs.Receiving.{IsDatagramTaken, IsPacketHandled, counted_in}
use Rattle.qh_core.specs.declared.inner.Inner.{Inner}
use Rattle.qh_core.specs.declared.state.State.{State}
use Rattle.qh_frame.specs.declared.frame.Frame.{Frame}
use Rattle.qh_handshake.specs.declared.handshake.Handshake.{Handshake}
use Rattle.qh_packet.specs.Session.{AcceptsTag}
use Rattle.qh_peers.proofs.EndOpen.{brought, connected_open}

-- what a handshake knows of the peer
pub record KnowsTheSame (old new : Handshake) : Type 0 where
  pub peer : new.peer ≡ old.peer
  pub remote_id : new.remote_id ≡ old.remote_id
  pub retry_id : new.retry_id ≡ old.retry_id

by_shake : (old new : Handshake) → new ≡ old → KnowsTheSame old new
by_shake old new is = record { peer = ap (λ (h : Handshake). h.peer) is; remote_id = ap (λ (h : Handshake). h.remote_id) is; retry_id = ap (λ (h : Handshake). h.retry_id) is }

both_know : (old mid new : Handshake) → KnowsTheSame old mid → KnowsTheSame mid new → KnowsTheSame old new
both_know old mid new a b = record { peer = b.peer ∙ a.peer; remote_id = b.remote_id ∙ a.remote_id; retry_id = b.retry_id ∙ a.retry_id }

module _ {S : Type 0} where
  closed_open : (old to : Inner S) → old ≡ to → is_open to.state ≡ false → is_open old.state ≡ true → ⊥
  closed_open old to is shut up = let z : true ≡ false = sym up ∙ ap (λ (c : Inner S). is_open c.state) is ∙ shut in cc

  -- ---- the error of the end of the 1-RTT packets

  packet_error : (now : Moment) (number : ℕ) (frames : List ℕ) (old new : Inner S) → is_open new.state ≡ true → IsPacketHandled now number frames old new → new.error ≡ old.error
  packet_error now number frames old new up (IsPacketHandled.repeated _ e) = ap (λ (c : Inner S). c.error) e
  packet_error now number frames old new up (IsPacketHandled.empty _ _ _ _ f) = absurd (closed_open new _ f.closed.rest_is refl up)
  packet_error now number frames old new up (IsPacketHandled.faulty _ _ _ _ _ f) = absurd (closed_open new _ f.closed.rest_is refl up)
  packet_error now number frames old new up (IsPacketHandled.unnoted _ _ _ _ _ f) = absurd (closed_open new _ f.closed.rest_is refl up)
  packet_error now number frames old new up (IsPacketHandled.taken _ t) = ap (λ (c : Inner S). c.error) (goes_on_open now t.end _ new t.goes_on up).1

  core_error : (accepts : AcceptsTag) (now : Moment) (d : List ℕ) (old new : Inner S) → is_open old.state ≡ true → is_open new.state ≡ true → IsDatagramTaken accepts now d old new → new.error ≡ old.error
  core_error accepts now d old new was up (IsDatagramTaken.dropped _ _ e) = ap (λ (c : Inner S). c.error) e
  core_error accepts now d old new was up (IsDatagramTaken.handled number frames _ _ handled) = packet_error now number frames old new up handled
  core_error accepts now d old new was up (IsDatagramTaken.told_again _ _ _ at _ _) = let z : true ≡ false = sym was ∙ ap (λ (s : State). is_open s) at in cc
  core_error accepts now d old new was up (IsDatagramTaken.closed_too _ _ _ at _ _) = let z : true ≡ false = sym was ∙ ap (λ (s : State). is_open s) at in cc
  core_error accepts now d old new was up (IsDatagramTaken.draining _ at _) = let z : true ≡ false = sym was ∙ ap (λ (s : State). is_open s) at in cc
  core_error accepts now d old new was up (IsDatagramTaken.drained at _) = let z : true ≡ false = sym was ∙ ap (λ (s : State). is_open s) at in cc

  taken_error : (log : Option (List ConnectionItem)) (c : Inner S) → (streams_taken log c).error ≡ c.error
  taken_error None c = refl
  taken_error (Some items) c = refl

  connected_when : (now : Moment) (b : Bool) (c : Connection S) → (if b then noted [] c else connected now c).core.error ≡ c.core.error
  connected_when now true c = taken_error c.control.log c.core
  connected_when now false c = taken_error c.control.log c.core

  greeted_when : (now : Moment) (b : Bool) (c : Connection S) → (if b then connected now c else c).core.error ≡ c.core.error
  greeted_when now true c = taken_error c.control.log c.core
  greeted_when now false c = refl

  met_error : (now : Moment) (was : Bool) (old new : Connection S) → IsMet now was old new → new.core.error ≡ old.core.error
  met_error now was old new (IsMet.before _ e) = ap (λ (z : Connection S). z.core.error) e
  met_error now was old new (IsMet.not_yet _ _ e) = ap (λ (z : Connection S). z.core.error) e
  met_error now was old new (IsMet.greeted _ g) =
      ap (λ (z : Connection S). z.core.error) g.new_is ∙ greeted_when now (is_client old.handshake.side) (with_core old g.core g.peer) ∙ ap (λ (z : Inner S). z.error) g.core_is.rest_is

  restarted_error : (now : Moment) (before : Handshake) (old new : Connection S) → IsRestarted now before old new → new.core.error ≡ old.core.error
  restarted_error now before old new (IsRestarted.heard _ e) = ap (λ (z : Connection S). z.core.error) e
  restarted_error now before old new (IsRestarted.quiet _ e) = ap (λ (z : Connection S). z.core.error) e

  -- the frames of its own leave it, and whether it is open
  frames_error : (now : Moment) (read : List Frame) (mid new : Connection S) → is_open new.core.state ≡ true → AreFramesHandled now read mid new → (is_open mid.core.state ≡ true) × (new.core.error ≡ mid.core.error)
  frames_error now read mid new up (AreFramesHandled.taken _ _ still _ e) = (still, ap (λ (z : Connection S). z.core.error) e)
  frames_error now read mid new up (AreFramesHandled.ended _ shut e) = let z : true ≡ false = sym up ∙ ap (λ (z : Connection S). is_open z.core.state) e ∙ shut in cc
  frames_error now read mid new up (AreFramesHandled.refused _ _ f _) = absurd (closed_open new.core _ f.closed.rest_is refl up)
  frames_error now read mid new up (AreFramesHandled.cut _ shut e) = let z : true ≡ false = sym up ∙ ap (λ (z : Connection S). is_open z.core.state) e ∙ shut in cc

  rest_error : (accepts : AcceptsTag) (now : Moment) (d rest : List ℕ) (old new : Connection S) → is_open old.core.state ≡ true → is_open new.core.state ≡ true → IsRestTaken accepts now d rest old new
      → new.core.error ≡ old.core.error
  rest_error accepts now d rest old new was up (IsRestTaken.nothing _ e) = ap (λ (z : Connection S). z.core.error) e
  rest_error accepts now d rest old new was up (IsRestTaken.ungreeted _ e) = ap (λ (z : Connection S). z.core.error) e
  rest_error accepts now d rest old new was up (IsRestTaken.unheard core _ taken _ _ e) =
      ap (λ (z : Connection S). z.core.error) e ∙ core_error accepts now rest (counted_in (length rest) old.core) core was (sym (ap (λ (z : Connection S). is_open z.core.state) e) ∙ up) taken
  rest_error accepts now d rest old new was up (IsRestTaken.reset core _ _ _ _ drains _) = absurd (closed_open new.core _ drains.rest_is refl up)
  rest_error accepts now d rest old new was up (IsRestTaken.accepted core frames read _ b _ _ handled) =
      let behind = record old { core = core } in
      let f = frames_error now read (connected_if now behind) new up handled in
      let still : is_open core.state ≡ true = sym (connected_open now behind) ∙ f.0 in
      f.1 ∙ connected_when now behind.is_connected behind ∙ core_error accepts now rest (counted_in (length rest) old.core) core was still (brought accepts now rest frames (counted_in (length rest) old.core) core b)

  pub steps_error : (accepts : AcceptsTag) (now : Moment) (before : Handshake) (was : Bool) (d rest : List ℕ) (old fed restarted met new : Connection S) → fed.core.error ≡ old.core.error → is_open met.core.state ≡ true
      → is_open new.core.state ≡ true → IsRestarted now before fed restarted → IsMet now was restarted met → IsRestTaken accepts now d rest met new → new.core.error ≡ old.core.error
  steps_error accepts now before was d rest old fed restarted met new first still up again meets takes =
      rest_error accepts now d rest met new still up takes ∙ met_error now was restarted met meets ∙ restarted_error now before fed restarted again ∙ first

  -- ---- the handshake

  connected_knows : (now : Moment) (b : Bool) (c : Connection S) → KnowsTheSame c.handshake (if b then noted [] c else connected now c).handshake
  connected_knows now true c = record { peer = refl; remote_id = refl; retry_id = refl }
  connected_knows now false c = record { peer = refl; remote_id = refl; retry_id = refl }

  greeted_knows : (now : Moment) (b : Bool) (c : Connection S) → KnowsTheSame c.handshake (if b then connected now c else c).handshake
  greeted_knows now true c = record { peer = refl; remote_id = refl; retry_id = refl }
  greeted_knows now false c = record { peer = refl; remote_id = refl; retry_id = refl }

  met_knows : (now : Moment) (was : Bool) (old new : Connection S) → IsMet now was old new → KnowsTheSame old.handshake new.handshake
  met_knows now was old new (IsMet.before _ e) = by_shake old.handshake new.handshake (ap (λ (z : Connection S). z.handshake) e)
  met_knows now was old new (IsMet.not_yet _ _ e) = by_shake old.handshake new.handshake (ap (λ (z : Connection S). z.handshake) e)
  met_knows now was old new (IsMet.greeted _ g) =
      let k = greeted_knows now (is_client old.handshake.side) (with_core old g.core g.peer) in
      let is = ap (λ (z : Connection S). z.handshake) g.new_is in
      record { peer = ap (λ (h : Handshake). h.peer) is ∙ k.peer; remote_id = ap (λ (h : Handshake). h.remote_id) is ∙ k.remote_id; retry_id = ap (λ (h : Handshake). h.retry_id) is ∙ k.retry_id }

  restarted_knows : (now : Moment) (before : Handshake) (old new : Connection S) → IsRestarted now before old new → KnowsTheSame old.handshake new.handshake
  restarted_knows now before old new (IsRestarted.heard _ e) = by_shake old.handshake new.handshake (ap (λ (z : Connection S). z.handshake) e)
  restarted_knows now before old new (IsRestarted.quiet _ e) = by_shake old.handshake new.handshake (ap (λ (z : Connection S). z.handshake) e)

  frames_know : (now : Moment) (read : List Frame) (mid new : Connection S) → AreFramesHandled now read mid new → new.handshake ≡ mid.handshake
  frames_know now read mid new (AreFramesHandled.taken _ _ _ _ e) = ap (λ (z : Connection S). z.handshake) e
  frames_know now read mid new (AreFramesHandled.ended _ _ e) = ap (λ (z : Connection S). z.handshake) e
  frames_know now read mid new (AreFramesHandled.refused _ _ _ e) = ap (λ (z : Connection S). z.handshake) e
  frames_know now read mid new (AreFramesHandled.cut _ _ e) = ap (λ (z : Connection S). z.handshake) e

  rest_knows : (accepts : AcceptsTag) (now : Moment) (d rest : List ℕ) (old new : Connection S) → IsRestTaken accepts now d rest old new → KnowsTheSame old.handshake new.handshake
  rest_knows accepts now d rest old new (IsRestTaken.nothing _ e) = by_shake old.handshake new.handshake (ap (λ (z : Connection S). z.handshake) e)
  rest_knows accepts now d rest old new (IsRestTaken.ungreeted _ e) = by_shake old.handshake new.handshake (ap (λ (z : Connection S). z.handshake) e)
  rest_knows accepts now d rest old new (IsRestTaken.unheard _ _ _ _ _ e) = by_shake old.handshake new.handshake (ap (λ (z : Connection S). z.handshake) e)
  rest_knows accepts now d rest old new (IsRestTaken.reset _ _ _ _ _ _ e) = by_shake old.handshake new.handshake (ap (λ (z : Connection S). z.handshake) e)
  rest_knows accepts now d rest old new (IsRestTaken.accepted core frames read _ _ _ _ handled) =
      let behind = record old { core = core } in
      let k = connected_knows now behind.is_connected behind in
      let is = frames_know now read (connected_if now behind) new handled in
      record { peer = ap (λ (h : Handshake). h.peer) is ∙ k.peer; remote_id = ap (λ (h : Handshake). h.remote_id) is ∙ k.remote_id; retry_id = ap (λ (h : Handshake). h.retry_id) is ∙ k.retry_id }

  pub steps_know : (accepts : AcceptsTag) (now : Moment) (before : Handshake) (was : Bool) (d rest : List ℕ) (fed restarted met new : Connection S) → IsRestarted now before fed restarted → IsMet now was restarted met
      → IsRestTaken accepts now d rest met new → KnowsTheSame fed.handshake new.handshake
  steps_know accepts now before was d rest fed restarted met new again meets takes =
      both_know fed.handshake met.handshake new.handshake (both_know fed.handshake restarted.handshake met.handshake (restarted_knows now before fed restarted again) (met_knows now was restarted met meets))
      (rest_knows accepts now d rest met new takes)
