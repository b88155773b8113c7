-- What the frames of a connection's own do that come, beside those of streams and of acknowledgement: connection ids, tokens and datagrams
-- (RFC 9000, sections 5.1, 8.1.3, 13.3, 19.7, 19.15 and 19.16; RFC 9221).
use Rattle.std.specs.Prelude.{◌≡◌, ℕ, ◌+◌, ◌-◌, ◌≤◌, ◌<◌, ◌^◌, ◌==◌, nat_lt, nat_le, Bool, true, false, not, ◌&&◌, ◌||◌, List, [], ◌∷◌, ◌++◌, length, map, Option, Some, None, IfSome, IsSomeAnd, if◌then◌else◌}
use Rattle.std.specs.Borrow.{Bor}
use Rattle.std.specs.List.{AllByRecursion}
use Rattle.qh_base.specs.declared.shared.ResetToken.{ResetToken}
use Rattle.qh_base.specs.declared.time.Moment.{Moment}
use Rattle.qh_cids.specs.CidQueue.{Handled, PlainCids, held, handled, limit}
use Rattle.qh_cids.specs.CidState.{without}
use Rattle.qh_cids.specs.declared.cid_queue.RemoteCid.{RemoteCid}
use Rattle.qh_control.specs.Items.{logged}
use Rattle.qh_control.specs.Queue.{AreAcknowledged, AreSendable, retires}
use Rattle.qh_control.specs.declared.control.ControlState.{ControlState}
use Rattle.qh_control.specs.declared.event.EndpointEvent.{EndpointEvent}
use Rattle.qh_control.specs.declared.event.EndpointEvent.TheVariants as event
use Rattle.qh_control.specs.declared.event.IssuedCid.{IssuedCid}
use Rattle.qh_control.specs.declared.items.ConnectionItem.TheVariants as item
use Rattle.qh_core.specs.declared.control.ControlFrame.{ControlFrame}
use Rattle.qh_core.specs.declared.control.ControlFrame.TheVariants as sending
use Rattle.qh_datagrams.specs.Datagrams.{newest}
use Rattle.qh_frame.specs.declared.ack.Ack.{Ack}
use Rattle.qh_frame.specs.declared.frame.Frame.{Frame}
use Rattle.qh_frame.specs.declared.frame.Frame.TheVariants as kind
use Rattle.qh_spec.specs.Codes as codes
use Rattle.qh_spec.specs.FrameTypes as frame_types
use Rattle.qh_spec.specs.declared.sides.Side.{Side}
use Rattle.qh_streams.specs.Streams.{Refusal, refused}

-- while so many RETIRE_CONNECTION_ID frames await their acknowledgement no further id is taken (section 5.1.2; the number is quinn-proto's,
-- ten times the ids that are kept)
abbrev pub most_retires : ℕ
most_retires = 80

-- the id that a NEW_CONNECTION_ID frame bears
abbrev pub cid_of : (sequence : ℕ) → (id : List ℕ) → ResetToken → RemoteCid
cid_of sequence id token = record { sequence = sequence; id = id; reset_token = Some token }

-- what such a frame makes of the ids
abbrev pub renewed : ControlState → (sequence prior : ℕ) → (id : List ℕ) → ResetToken → Handled
renewed s sequence prior id token = handled (cid_of sequence id token) prior s.ids

-- ---- refusals

-- NEW_CONNECTION_ID that retires later ids (section 19.15); from a peer whose ids are empty (section 19.15); any, while too many retirements
-- await their acknowledgement (section 5.1.2); one with which there are more ids than this end keeps (section 5.1.1)
abbrev pub new_id_refusal : ControlState → (sequence prior : ℕ) → Handled → Option Refusal
new_id_refusal s sequence prior h =
    if nat_lt sequence prior then refused codes.frame_encoding_error frame_types.new_connection_id
    else if length s.ids.active.id == 0 then refused codes.protocol_violation frame_types.new_connection_id
    else if nat_le most_retires (retires s.queue) || nat_lt limit (held h.cids) then refused codes.connection_id_limit_error frame_types.new_connection_id
    else None

-- RETIRE_CONNECTION_ID to an end whose ids are empty, or of an id that it didn't issue (section 19.16)
abbrev pub retire_refusal : ControlState → (sequence : ℕ) → Option Refusal
retire_refusal s sequence =
    if s.own_ids.id_len == 0 then refused codes.protocol_violation frame_types.retire_connection_id
    else if nat_lt sequence s.own_ids.issued then None
    else refused codes.protocol_violation frame_types.retire_connection_id

abbrev pub control_refusal : ControlState → Frame → Option Refusal
control_refusal s (kind.NewConnectionId sequence prior id token) = new_id_refusal s sequence prior (renewed s sequence prior id token)
control_refusal s (kind.RetireConnectionId sequence) = retire_refusal s sequence
control_refusal s other = None

-- ---- what is taken

-- a RETIRE_CONNECTION_ID frame for each of these sequences
abbrev pub retiring : List ℕ → List ControlFrame
retiring = map (λ (sequence : ℕ). sending.RetireConnectionId sequence)

-- the endpoint learns a token, if there is one
abbrev pub token_event : ControlState → Option ResetToken → List EndpointEvent
token_event s None = []
token_event s (Some token) = event.ResetToken s.remote token ∷ []

-- the endpoint learns the token of an id that comes into use
abbrev pub token_events : ControlState → Handled → List EndpointEvent
token_events s h = if h.has_new_active then token_event s h.cids.active.reset_token else []

-- the endpoint learns that an id of this end's was retired, if it was active, and whether another may be issued
abbrev pub retired_events : Moment → ControlState → (sequence : ℕ) → List EndpointEvent
retired_events now s sequence =
    if length (without sequence s.own_ids.active) == length s.own_ids.active then []
    else event.RetireConnectionId now sequence (nat_lt (length (without sequence s.own_ids.active)) s.id_limit) ∷ []

-- a payload came; it waits to be read, and as few of the oldest as must go are dropped for it; and it is logged
abbrev pub with_datagram : (most : ℕ) → ControlState → (payload : List ℕ) → ControlState
with_datagram most s payload = record s {
  datagrams = record s.datagrams { incoming = newest most (s.datagrams.incoming ++ payload ∷ []) };
  is_datagram_due = (length s.datagrams.incoming == 0) || s.is_datagram_due;
  log = logged s.log (item.Datagram payload ∷ []);
}

-- the frames that change nothing
abbrev pub is_other : Frame → Bool
is_other (kind.NewConnectionId sequence prior id token) = false
is_other (kind.RetireConnectionId sequence) = false
is_other (kind.Ack a) = false
is_other (kind.NewToken token) = false
is_other (kind.Datagram payload has_length) = false
is_other other = true

-- What a frame does that isn't refused. Datagrams that are longer than this end takes don't come here: they are refused before.
pub data IsControlTaken (now : Moment) (old new : ControlState) : Frame → Type 0 where
  new_id : (sequence prior : ℕ) (id : List ℕ) (token : ResetToken)
      → new ≡ record old {
        ids = (renewed old sequence prior id token).cids;
        queue = record old.queue { waiting = old.queue.waiting ++ retiring (renewed old sequence prior id token).retired };
        endpoint_events = old.endpoint_events ++ token_events old (renewed old sequence prior id token);
      }
      → IsControlTaken now old new (kind.NewConnectionId sequence prior id token)
  retire : (sequence : ℕ)
      → new ≡ record old { own_ids = record old.own_ids { active = without sequence old.own_ids.active }; endpoint_events = old.endpoint_events ++ retired_events now old sequence }
      → IsControlTaken now old new (kind.RetireConnectionId sequence)
  ack : (a : Ack) → AreAcknowledged a old.queue new.queue → new ≡ record old { queue = new.queue } → IsControlTaken now old new (kind.Ack a)
  given : (token : Bor (List ℕ)) → new ≡ record old { token = Some token.now } → IsControlTaken now old new (kind.NewToken token)
  datagram : (payload : Bor (List ℕ)) (has_length : Bool) (most : ℕ) → old.datagram_receive ≡ Some most → length payload.now ≤ most → new ≡ with_datagram most old payload.now → IsControlTaken now old new (kind.Datagram payload has_length)
  undue : (payload : Bor (List ℕ)) (has_length : Bool) → ((most : ℕ) → old.datagram_receive ≡ Some most → most < length payload.now) → new ≡ old → IsControlTaken now old new (kind.Datagram payload has_length)
  passive : (f : Frame) → is_other f ≡ true → new ≡ old → IsControlTaken now old new f

-- something of it is to be kept
abbrev pub keeps : Frame → Bool
keeps (kind.NewConnectionId sequence prior id token) = true
keeps (kind.RetireConnectionId sequence) = true
keeps (kind.NewToken token) = true
keeps (kind.Datagram payload has_length) = true
keeps other = false

-- ---- ids

-- one id of the peer's is known, with sequence 0
abbrev pub first_ids : (id : List ℕ) → Option ResetToken → PlainCids
first_ids id token = record { active = record { sequence = 0; id = id; reset_token = token }; waiting = []; retire_prior_to = 0 }

-- the endpoint is asked for one id less than may be active at a time, if that is any, by an end whose ids aren't empty (section 5.1.1)
abbrev pub asked_events : Moment → ControlState → List EndpointEvent
asked_events now s = if (s.id_limit - 1 == 0) || (s.own_ids.id_len == 0) then [] else event.NeedIdentifiers now (s.id_limit - 1) ∷ []

-- an id that is the next by its sequence, which fits into a frame, and that is as long as this end's others, which aren't empty (own); and the
-- peer keeps one more than are active (section 5.1.1)
abbrev pub may_announce : ControlState → IssuedCid → Bool
may_announce s cid =
    (cid.sequence == s.own_ids.issued) && (nat_lt cid.sequence (2 ^ 62) && (not (length cid.id == 0) && ((length cid.id == s.own_ids.id_len) && nat_lt (length s.own_ids.active) s.id_limit)))

-- the frame that announces an id, and retires none (section 19.15)
abbrev pub announced : IssuedCid → ControlFrame
announced cid = sending.NewConnectionId cid.sequence 0 cid.id cid.reset_token

-- one that may be announced becomes active and is; any other changes nothing
abbrev pub with_issued : ControlState → IssuedCid → ControlState
with_issued s cid =
    if may_announce s cid then record s {
      own_ids = record s.own_ids { issued = s.own_ids.issued + 1; active = s.own_ids.active ++ cid.sequence ∷ [] };
      queue = record s.queue { waiting = s.queue.waiting ++ announced cid ∷ [] };
    } else s

-- each of them in turn
abbrev pub with_all_issued : ControlState → List IssuedCid → ControlState
with_all_issued s [] = s
with_all_issued s (cid ∷ cids) = with_all_issued (with_issued s cid) cids

-- ---- what the queue holds may be sent

-- the payload has at most the length that the peer takes, if it takes any
abbrev pub IsTakenBy : (peer_datagram : Option ℕ) → (payload : List ℕ) → Type 0
IsTakenBy peer_datagram payload = IsSomeAnd peer_datagram (λ most. length payload ≤ most)

-- This side may send each frame that waits or is out, to a peer that takes payloads of DATAGRAM frames up to this length, for which a packet
-- has room, and each payload that is queued is at most that long.
pub record IsSendable (side : Side) (peer_datagram : Option ℕ) (s : ControlState) : Type 0 where
  pub frames : AreSendable side peer_datagram s.queue
  pub peer : s.peer_datagram ≡ peer_datagram
  pub bounded : IfSome peer_datagram (λ most. most ≤ 1140)
  pub payloads : AllByRecursion (IsTakenBy peer_datagram) s.datagrams.outgoing

-- what may be sent before may be sent after
abbrev pub KeepsSendable : (side : Side) → (old new : ControlState) → Type 0
KeepsSendable side old new = (peer_datagram : Option ℕ) → IsSendable side peer_datagram old → IsSendable side peer_datagram new
