-- A datagram of frames of a connection's own is sent.
use Rattle.std.proofs.Common.{◌≡◌, ℕ, ◌+◌, ◌-◌, ◌<◌, ◌≤◌, nat_le, Bool, true, false, List, [], ◌∷◌, ◌++◌, length, map, take, drop, zero, suc, None, refl, sym, ap, subst, ◌∙◌, arith}
use Rattle.std.specs.Prelude.{◌||◌, if◌then◌else◌}
use Rattle.qh_base.specs.declared.time.Moment.{Moment}
use Rattle.qh_conn.specs.Items.{noted_in}
use Rattle.qh_conn.specs.Outgoing.{AreOutgoing, IsDataTransmitted, handed_on}
use Rattle.qh_conn.specs.declared.connection.Connection.{Connection}
use Rattle.qh_control.specs.Queue.{PlainQueue, sent_in}
use Rattle.qh_control.specs.declared.control.ControlState.{ControlState}
use Rattle.qh_control.specs.declared.items.ConnectionItem.TheVariants as item
use Rattle.qh_core.specs.Control.{control_frame, fitting}
use Rattle.qh_core.specs.Sending.{IsControlSent}
use Rattle.qh_core.specs.declared.control.ControlFrame.{ControlFrame}
use Rattle.qh_core.specs.declared.control.ControlFrame.TheVariants as sending
use Rattle.qh_core.specs.declared.control.ControlSent.{ControlSent}
use Rattle.qh_core.specs.declared.inner.Inner.{Inner}
use Rattle.qh_frame.specs.FrameBytes.{frame_bytes}
use Rattle.qh_packet.specs.Session.{SealsTag}

one_more : (b : Bool) (n k : ℕ) → n ≤ k → (if b then 1 + n else 0) ≤ suc k
one_more true n k h = omega arith
one_more false n k h = omega arith

-- no more frames have room than there are
fitting_within : (room : ℕ) (frames : List ControlFrame) → fitting room frames ≤ length frames
fitting_within room [] = omega arith
fitting_within room (f ∷ fs) =
    one_more (nat_le (length (frame_bytes (control_frame f))) room) (fitting (room - length (frame_bytes (control_frame f))) fs) (length fs)
    (fitting_within (room - length (frame_bytes (control_frame f))) fs)

pub count_within : (room count : ℕ) (frames waiting : List ControlFrame) → count ≡ fitting room frames → frames ≡ waiting → count ≤ length waiting
count_within room count frames waiting is same =
    subst (λ (z : List ControlFrame). count ≤ length z) same (subst (λ (z : ℕ). z ≤ length frames) (sym is) (fitting_within room frames))

pub taken_within : (n : ℕ) (payloads : List (List ℕ)) → length (map (λ (payload : List ℕ). sending.Datagram payload) (take n payloads)) ≤ length payloads
taken_within zero payloads = omega arith
taken_within (suc n) [] = omega arith
taken_within (suc n) (p ∷ ps) = let h = taken_within n ps in omega (arith, h)

pub some_payload : (payloads : List (List ℕ)) → (payloads ≡ [] → ⊥) → 0 < length payloads
some_payload [] h = absurd (h refl)
some_payload (p ∷ ps) h = omega arith

module _ {S : Type 0} where
  pub waiting_sent : (sealed : SealsTag) (now : Moment) (old : Connection S) (core : Inner S) (mid q : PlainQueue) (frames : List ControlFrame) (before after : List ℕ) (sent : ControlSent)
      → frames ≡ mid.waiting → mid ≡ record old.control.queue { room = mid.room } → IsControlSent sealed now old.core core before after frames sent
      → q ≡ record mid { waiting = drop sent.count mid.waiting; sent = mid.sent ++ map (sent_in sent.number) (take sent.count mid.waiting); room = q.room }
      → IsDataTransmitted sealed now old (handed_on sent.transmit.size (record old { core = core; control = record old.control { queue = q }; is_control_next = false })) before after sent.transmit
  waiting_sent sealed now old core mid q frames before after sent frames_are mid_is control q_is =
      let waiting = ap (λ (z : PlainQueue). z.waiting) mid_is in
      IsDataTransmitted.control sent (subst (λ (z : List ControlFrame). IsControlSent sealed now old.core core before after z sent) (frames_are ∙ waiting) control) refl
      (ap (λ (z : PlainQueue). z.waiting) q_is ∙ ap (λ (z : List ControlFrame). drop sent.count z) waiting)
      (ap (λ (z : PlainQueue). z.sent) q_is ∙ ap (λ (z : PlainQueue). z.sent ++ map (sent_in sent.number) (take sent.count z.waiting)) mid_is) refl

  pub datagrams_out : (sealed : SealsTag) (now : Moment) (old new : Connection S) (core : Inner S) (control : ControlState) (frames : List ControlFrame) (before after : List ℕ) (sent : ControlSent)
      → old.control.queue.waiting ≡ [] → AreOutgoing old.control frames → IsControlSent sealed now old.core core before after frames sent
      → control ≡ record old.control {
        datagrams = record old.control.datagrams { outgoing = drop sent.count old.control.datagrams.outgoing; is_send_blocked = false };
        is_unblocked_due = old.control.datagrams.is_send_blocked || old.control.is_unblocked_due;
        log = None;
      }
      → new ≡ noted_in old.control.log (item.DatagramsSent sent.count ∷ []) (record old { core = core; control = control })
      → IsDataTransmitted sealed now old (handed_on sent.transmit.size (record new { is_control_next = false })) before after sent.transmit
  datagrams_out sealed now old new core control frames before after sent none out made_is control_is new_is =
      subst (λ (z : Connection S). IsDataTransmitted sealed now old (handed_on sent.transmit.size (record z { is_control_next = false })) before after sent.transmit) (sym new_is)
      (subst (λ (z : ControlState). IsDataTransmitted sealed now old (handed_on sent.transmit.size
      (record (noted_in old.control.log (item.DatagramsSent sent.count ∷ []) (record old { core = core; control = z })) { is_control_next = false })) before after sent.transmit)
      (sym control_is) (IsDataTransmitted.datagrams sent frames core none out made_is refl (record { waiting = refl; sent = refl }) refl))
