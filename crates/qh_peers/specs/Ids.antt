-- Two ends that announce at most eight connection ids, and ask for none to be retired (RFC 9000, sections 5.1.1, 5.1.2, 10.3, 19.15 and 19.16; the
-- number and the form of the token are own).
use Rattle.std.specs.Prelude.{◌≡◌, ◌≢◌, ℕ, ◌<◌, ◌≤◌, ◌^◌, true, List, [], ◌∷◌, length, Option, Some, None, is_some, All}
use Rattle.std.specs.List.{AllByRecursion}
use Rattle.qh_base.specs.declared.shared.ResetToken.{ResetToken}
use Rattle.qh_base.specs.declared.time.Moment.{Moment}
use Rattle.qh_cids.specs.CidQueue.{IsRising, PlainCids}
use Rattle.qh_cids.specs.declared.cid_queue.RemoteCid.{RemoteCid}
use Rattle.qh_conn.specs.Incoming.{AreFramesHandled, IsDatagramHandled, IsRestTaken}
use Rattle.qh_conn.specs.declared.connection.Connection.{Connection}
use Rattle.qh_control.specs.declared.control.ControlState.{ControlState}
use Rattle.qh_control.specs.declared.event.IssuedCid.{IssuedCid}
use Rattle.qh_control.specs.declared.queue.SentControl.{SentControl}
use Rattle.qh_core.specs.Control.{control_frame}
use Rattle.qh_core.specs.Follows.{HasFrame}
use Rattle.qh_core.specs.Inner.{is_open}
use Rattle.qh_core.specs.declared.control.ControlFrame.{ControlFrame}
use Rattle.qh_core.specs.declared.state.Close.TheVariants.{Application}
use Rattle.qh_core.specs.declared.state.State.{State}
use Rattle.qh_core.specs.declared.state.State.TheVariants.{Closed}
use Rattle.qh_frame.specs.Plain.{frame}
use Rattle.qh_frame.specs.declared.frame.Frame.{Frame}
use Rattle.qh_handshake.specs.Incoming.{SessionView}
use Rattle.qh_hello.specs.declared.transport_parameters.TransportParameters.{TransportParameters}
use Rattle.qh_packet.specs.Session.{AcceptsTag}
use Rattle.qh_spec.specs.FrameTypes as frame_types
use Rattle.qh_spec.specs.QuicFrames.{QuicFrame, Num, Text}
use Rattle.qh_spec.specs.Transcript.{Act, handed_out}
use Rattle.qh_spec.specs.declared.sides.Side.{Side}
use Rattle.qh_token.specs.Reset.{reset_token_of}

-- ---- what an end says

-- What a frame of an end whose ids have this length says of ids: it announces one with a sequence number below eight, as long as the others, with the
-- token of the stateless resets that belong to it, and by that none is to be retired; and it retires none.
pub record SaysFewIds (own_length : ℕ) (f : QuicFrame) : Type 0 where
  pub new_id : (sequence prior : ℕ) (id token : List ℕ) → f ≡ frame frame_types.new_connection_id (Num sequence ∷ Num prior ∷ Text id ∷ Text token ∷ [])
      → (sequence < 8) × (prior ≡ 0) × (length id ≡ own_length) × (1 ≤ length id) × (token ≡ reset_token_of id)
  pub no_retire : (sequence : ℕ) → f ≡ frame frame_types.retire_connection_id (Num sequence ∷ []) → ⊥

-- so does each frame in the 1-RTT packets of this sender's in the datagrams, read by an end whose ids have this length
abbrev pub SayFewIds : (own_length id_length : ℕ) → (datagrams : List (List ℕ)) → (sender : Side) → Type 0
SayFewIds own_length id_length datagrams sender = (f : QuicFrame) → HasFrame id_length datagrams sender f → SaysFewIds own_length f

-- the token, if there is one, belongs to the id
abbrev pub BelongsTo : (id : List ℕ) → Option ResetToken → Type 0
BelongsTo id None = Unit {0}
BelongsTo id (Some token) = token.0 ≡ reset_token_of id

-- so does the token of a hello that came, if one did, to the id from which it came
abbrev pub SaysOwnToken : (id : List ℕ) → Option TransportParameters → Type 0
SaysOwnToken id None = Unit {0}
SaysOwnToken id (Some p) = BelongsTo id p.stateless_reset_token

-- the token of each id that is issued belongs to it
abbrev pub HaveOwnTokens : List IssuedCid → Type 0
HaveOwnTokens = AllByRecursion (λ (cid : IssuedCid). cid.reset_token.0 ≡ reset_token_of cid.id)

-- ---- what an end keeps

-- an id of a peer that says few
pub record IsFewId (cid : RemoteCid) : Type 0 where
  pub below : cid.sequence < 8
  pub token : BelongsTo cid.id cid.reset_token

-- The ids of such a peer: their sequence numbers are below eight and all different, and none is to be retired.
pub record AreFewIds (q : PlainCids) : Type 0 where
  pub none_retired : q.retire_prior_to ≡ 0
  pub active : IsFewId q.active
  pub waiting : All IsFewId q.waiting
  pub rising : IsRising q.waiting
  pub others : All (λ (cid : RemoteCid). cid.sequence ≢ q.active.sequence) q.waiting

-- An end whose ids have this length, and such a peer: none of its own ids was retired, it has at most eight, and each of its frames that waits
-- or is out says few ids.
pub record HoldsFewIds (own_length : ℕ) (s : ControlState) : Type 0 where
  pub peers : AreFewIds s.ids
  pub id_len : s.own_ids.id_len ≡ own_length
  pub none_gone : length s.own_ids.active ≡ s.own_ids.issued
  pub few : s.own_ids.issued ≤ 8
  pub limit : s.id_limit ≤ 8
  pub waiting : AllByRecursion (λ (f : ControlFrame). SaysFewIds own_length (control_frame f)) s.queue.waiting
  pub sent : AllByRecursion (λ (f : SentControl). SaysFewIds own_length (control_frame f.frame)) s.queue.sent

-- the code with which the application closed fits into a frame (section 16)
abbrev pub HasCode : State → Type 0
HasCode (Closed (Application a) is_due until) = a.error_code < 2 ^ 62
HasCode other = Unit {0}

module _ {S : Type 0} where
  -- An end that announces few ids, by all that was done with it. Before it was greeted this is so of whatever length its peer's ids have. What a
  -- closed end keeps of ids doesn't matter: it sends nothing more but closes.
  pub record KeepsFewIds (c : Connection S) (t : List Act) : Type 0 where
    pub holds : is_open c.core.state ≡ true → HoldsFewIds (length c.core.local_id) c.control
    pub code : HasCode c.core.state
    pub said : (id_length : ℕ) → (is_some c.handshake.peer ≡ true → id_length ≡ length c.core.remote_id) → SayFewIds (length c.core.local_id) id_length (handed_out t) c.core.side

  -- whatever that depends on is the same, and an end that was greeted still is
  pub record HasSameIds (old new : Connection S) : Type 0 where
    pub greeted : is_some old.handshake.peer ≡ true → is_some new.handshake.peer ≡ true
    pub side : new.core.side ≡ old.core.side
    pub local_id : new.core.local_id ≡ old.core.local_id
    pub remote_length : length new.core.remote_id ≡ length old.core.remote_id
    pub state : new.core.state ≡ old.core.state
    pub ids : new.control.ids ≡ old.control.ids
    pub own_ids : new.control.own_ids ≡ old.control.own_ids
    pub id_limit : new.control.id_limit ≡ old.control.id_limit
    pub waiting : new.control.queue.waiting ≡ old.control.queue.waiting
    pub sent : new.control.queue.sent ≡ old.control.queue.sent

  -- ---- no frame is refused

  -- the end doesn't close because a frame of the connection's own is refused
  abbrev pub NoneIsRefused : {now : Moment} {read : List Frame} {mid new : Connection S} → AreFramesHandled now read mid new → Type 0
  NoneIsRefused (AreFramesHandled.taken _ _ _ _ _) = Unit {0}
  NoneIsRefused (AreFramesHandled.ended _ _ _) = Unit {0}
  NoneIsRefused (AreFramesHandled.refused _ _ _ _) = ⊥
  NoneIsRefused (AreFramesHandled.cut _ _ _) = Unit {0}

  -- the same of the frames of the packet that the rest of a datagram is, if it is one
  abbrev pub NoneIsRefusedBehind : {accepts : AcceptsTag} {now : Moment} {datagram rest : List ℕ} {old new : Connection S} → IsRestTaken accepts now datagram rest old new → Type 0
  NoneIsRefusedBehind (IsRestTaken.nothing _ _) = Unit {0}
  NoneIsRefusedBehind (IsRestTaken.ungreeted _ _) = Unit {0}
  NoneIsRefusedBehind (IsRestTaken.unheard _ _ _ _ _ _) = Unit {0}
  NoneIsRefusedBehind (IsRestTaken.reset _ _ _ _ _ _ _) = Unit {0}
  NoneIsRefusedBehind (IsRestTaken.accepted _ _ _ _ _ _ _ handled) = NoneIsRefused handled

  -- the same of the frames of a datagram
  abbrev pub NoneIsRefusedIn : {v : SessionView S} {now : Moment} {d : List ℕ} {old new : Connection S} → IsDatagramHandled v now d old new → Type 0
  NoneIsRefusedIn (IsDatagramHandled.closing _ _) = Unit {0}
  NoneIsRefusedIn (IsDatagramHandled.ended _ _ _ _ _ _ _) = Unit {0}
  NoneIsRefusedIn (IsDatagramHandled.taken _ _ _ _ _ _ _ _ taken) = NoneIsRefusedBehind taken
