-- A datagram carries on how a connection stands to all that was done with it.
use Rattle.std.proofs.Common.{◌≡◌, ℕ, ◌+◌, ◌-◌, ◌^◌, min, Bool, true, false, List, [], ◌∷◌, ◌++◌, length, get_or, Option, None, Some, is_some, Result, Ok, Err, refl, sym, ap, subst, ◌∙◌, arith}
use Rattle.std.proofs.Math.Nat.{min_comm}
use Rattle.std.proofs.lemmas.List.{append-nil}
use Rattle.std.specs.Prelude.{OnOk, OnErr}
use Rattle.qh_base.specs.declared.connection_error.ConnectionError.{ConnectionError}
use Rattle.qh_base.specs.declared.connection_error.ConnectionError.TheVariants.{TransportError as Fault}
use Rattle.qh_base.specs.declared.memory.Memory.{Memory as OutOfMemory}
use Rattle.qh_base.specs.declared.time.Moment.{Moment}
use Rattle.qh_conn.specs.Hearing.{FailsTo, HearsStill, StandsOrFails}
use Rattle.qh_conn.specs.Incoming.{IsShutConnected}
use Rattle.qh_conn.specs.Whole.{Stands}
use Rattle.qh_conn.specs.declared.connection.Connection.{Connection}
use Rattle.qh_converse.proofs.AccordKept.{IsBeside}
use Rattle.qh_converse.proofs.MidDatagram.{apart, calls, connects, counts, dropped, heard, stays, unheard}
use Rattle.qh_converse.specs.Converses.{Converses, Hears}
use Rattle.qh_core.proofs.MadeEnds.{event_made}
use Rattle.qh_core.specs.Event.{is_drained}
use Rattle.qh_core.specs.Follows.{Follows}
use Rattle.qh_core.specs.Inner.{IsFailedBy, IsSameEnd, is_open}
use Rattle.qh_core.specs.Made.{AcceptsTags, IsMade, IsMadeLocally, IsMadeOnStreams, MakesTagsOf}
use Rattle.qh_core.specs.Made.IsLocalCall.{on_streams}
use Rattle.qh_core.specs.Made.IsStreamCall.{unchanged}
use Rattle.qh_core.specs.Receiving.{BringsPacket, GoesOnWith, IsDatagramTaken, IsDatagramUnread, counted_in}
use Rattle.qh_core.specs.Timers.{IsUndisturbed, restarted}
use Rattle.qh_core.specs.declared.event.ConnectionEvent.TheVariants.{Datagram}
use Rattle.qh_core.specs.declared.inner.Inner.{Inner}
use Rattle.qh_core.specs.declared.state.Close.{Close}
use Rattle.qh_core.specs.declared.state.State.{State}
use Rattle.qh_core.specs.declared.state.State.TheVariants.{Closed, Drained, Draining, Established}
use Rattle.qh_handshake.specs.Handshake.{dropping}
use Rattle.qh_handshake.specs.declared.handshake.Handshake.{Handshake}
use Rattle.qh_packet.proofs.Packets.{has_packet}
use Rattle.qh_packet.specs.Frames.{AreValidFrames}
use Rattle.qh_packet.specs.Packet.{IsOpened}
use Rattle.qh_packet.specs.Session.{AcceptsTag, NamesTags}
use Rattle.qh_spec.proofs.Members.{in_last}
use Rattle.qh_spec.proofs.PartLaws.{ends_has}
use Rattle.qh_spec.proofs.TranscriptLaws.{handed_in-append}
use Rattle.qh_spec.specs.Greeted.{HasPacketOf}
use Rattle.qh_spec.specs.Link.{other}
use Rattle.qh_spec.specs.Lists.{In}
use Rattle.qh_spec.specs.Parted.{EndsWith, IsShort}
use Rattle.qh_spec.specs.QuicFrames.{AreQuicFrames}
use Rattle.qh_spec.specs.Transcript.{Act, HandedIn, handed_in}
use Rattle.qh_spec.specs.declared.sides.Side.{Side}
use Rattle.qh_spec.specs.declared.sides.Space.TheVariants.{Data}

-- ---- a 1-RTT packet behind the Initial packets of a datagram

-- what is opened begins with a short header
pub opened_short : (accepts : AcceptsTag) (id_length : ℕ) (sender : Side) (expected : ℕ) (d : List ℕ) (number : ℕ) (frames : List ℕ) → IsOpened accepts id_length sender expected d number frames → IsShort d
opened_short accepts id_length from expected d number frames o =
    let size = ap (λ (z : List ℕ). length z) o.is.whole in
    let first = ap (λ (z : List ℕ). get_or z 0 0) o.is.whole in
    let short = o.is.fits.short_number in (omega (arith, size), omega (arith, first, short))

-- such a packet, whose frames can be read, came
pub opened_came : (accepts : AcceptsTag) (id_length : ℕ) (sender : Side) (expected : ℕ) (tail d : List ℕ) (number : ℕ) (frames : List ℕ) (is_eliciting : Bool) (t : List Act) → NamesTags accepts
    → IsOpened accepts id_length sender expected tail number frames → AreValidFrames frames is_eliciting → EndsWith tail d
    → HasPacketOf id_length (handed_in (t ++ HandedIn d ∷ [])) sender Data
opened_came accepts id_length from expected tail d number frames is_eliciting t named o valid ends = record {
  datagram = d;
  among = subst (λ (z : List (List ℕ)). In d z) (sym (handed_in-append t (HandedIn d ∷ []))) (in_last d (handed_in t));
  packet = record { space = Data; sender = from; number = number; frames = valid.frames };
  has = ends_has id_length (record { space = Data; sender = from; number = number; frames = valid.frames }) tail d ends
      (has_packet id_length tail o.packet from expected number valid.frames o.is.fits o.is.whole (named from Data number o.packet.tag o.is_number o.accepted) o.expanded
      (subst (λ (z : List ℕ). AreQuicFrames z valid.frames) (sym o.frames_are) valid.are));
  space_is = refl;
  sender_is = refl;
}

pub open_lives : (s : State) → is_open s ≡ true → is_drained s ≡ false
open_lives Established up = refl
open_lives (Closed reason is_due until) up = let z : false ≡ true = up in cc
open_lives (Draining until) up = let z : false ≡ true = up in cc
open_lives Drained up = let z : false ≡ true = up in cc

not_drained : (s : State) (reason : Close) (is_due : Bool) (until : Moment) → s ≡ Closed reason is_due until → s ≡ Drained → ⊥
not_drained s reason is_due until was is = let z : Closed reason is_due until ≡ Drained = sym was ∙ is in cc

module _ {S : Type 0} where
  -- ---- calls of the end of the 1-RTT packets

  pub self_made : (c : Inner S) → IsMadeLocally c c []
  self_made c = (
    on_streams [] (unchanged refl),
    record { follows = λ t f. subst (λ (z : List Act). Follows c z) (sym (append-nil t)) f; same_end = record { side = refl; local_id = refl; remote_length = refl; config = refl }; same_session = refl },
  )

  pub streams_made : (c new : Inner S) → IsMadeOnStreams c new [] → IsMadeLocally c new []
  streams_made c new made = (on_streams [] made.0, made.1)

  pub hears_still : (c new : Inner S) → IsMadeLocally c new [] → HearsStill c new
  hears_still c new made accepts sealed hello d h k t p = calls accepts sealed hello d h c new k t made p

  -- what stands so will once want of memory has ended it
  pub fails_to : (accepts : AcceptsTags S) (sealed : MakesTagsOf S) (hello : List ℕ) (c : Connection S) (t : List Act) → Stands accepts sealed hello c t → FailsTo accepts sealed hello c t
  fails_to accepts sealed hello c t p core made shut =
      dropped accepts sealed hello c.handshake core c.is_connected t (stays accepts sealed hello c.handshake c.core core c.is_connected t made p)

  -- ---- the end of the 1-RTT packets takes what is behind the Initial packets

  abbrev pub IsTaken : (accepts : AcceptsTags S) → Moment → (tail : List ℕ) → (old new : Inner S) → Type 0
  IsTaken accepts now tail old new = IsDatagramTaken (accepts old.session) now tail (counted_in (length tail) old) new

  came_made : {X : Type 0} (accepts : AcceptsTags S) (sealed : MakesTagsOf S) (now : Moment) (tail : List ℕ) (r : Result X OutOfMemory) (old new : Inner S) → OnOk r (IsTaken accepts now tail old new)
      → OnOk r (IsUndisturbed now old new) → OnErr r (IsFailedBy (counted_in (length tail) old) new) → OnErr r (IsDatagramUnread (accepts old.session) now tail (counted_in (length tail) old))
      → ((t : List Act) → Follows old t → Follows new (t ++ HandedIn tail ∷ [])) → IsSameEnd old new → IsMade accepts sealed old new (HandedIn tail ∷ [])
  came_made accepts sealed now tail (Ok x) old new taken undisturbed failed wanting follows same =
      event_made accepts sealed (Datagram now old.addresses.remote tail) (Ok tt) old new taken undisturbed failed wanting follows same
  came_made accepts sealed now tail (Err e) old new taken undisturbed failed wanting follows same =
      event_made accepts sealed (Datagram now old.addresses.remote tail) (Err e) old new taken undisturbed failed wanting follows same

  counted_beside : (size : ℕ) (old new : Inner S) → new ≡ counted_in size old → IsBeside old new
  counted_beside size old new e = subst (λ (z : Inner S). IsBeside old z) (sym e) (record { rest_is = refl; opens = λ up. up; drained = λ is. is })

  told_beside : (size : ℕ) (old new : Inner S) (reason : Close) (is_due : Bool) (until : Moment) → old.state ≡ Closed reason is_due until
      → new ≡ record (counted_in size old) { state = Closed reason true until } → IsBeside old new
  told_beside size old new reason is_due until was e =
      subst (λ (z : Inner S). IsBeside old z) (sym e)
      (record { rest_is = refl; opens = λ up. let z : false ≡ true = up in cc; drained = λ is. absurd (not_drained old.state reason is_due until was is) })

  module _ (accepts : AcceptsTags S) (sealed : MakesTagsOf S) (now : Moment) (hello tail d : List ℕ) (h : Handshake) (old new : Inner S) (k : Bool) (t : List Act) (named : NamesTags (accepts old.session))
      (ends : EndsWith tail d) (greeted : is_some h.peer ≡ true) (p : Hears accepts sealed hello h old k t d) where
    by_packet : IsShort tail → IsMade accepts sealed old new (HandedIn tail ∷ []) → Converses accepts sealed hello h new k (t ++ HandedIn d ∷ [])
    by_packet short made = heard accepts sealed hello tail d h old new k t named ends short greeted made p

    by_nothing : IsBeside old new → new.session ≡ old.session → Converses accepts sealed hello h new k (t ++ HandedIn d ∷ [])
    by_nothing a same = apart accepts sealed hello h old new k (t ++ HandedIn d ∷ []) a (λ _. (ap accepts same, ap sealed same)) (unheard accepts sealed hello d h old k t p)

    by_taken : IsTaken accepts now tail old new → IsMade accepts sealed old new (HandedIn tail ∷ []) → Converses accepts sealed hello h new k (t ++ HandedIn d ∷ [])
    by_taken (IsDatagramTaken.dropped up none e) made = by_nothing (counted_beside (length tail) old new e) (ap (λ (z : Inner S). z.session) e)
    by_taken (IsDatagramTaken.handled number frames up o is) made = by_packet (opened_short _ _ _ _ tail number frames o.is) made
    by_taken (IsDatagramTaken.told_again reason is_due until was none e) made = by_nothing (told_beside (length tail) old new reason is_due until was e) (ap (λ (z : Inner S). z.session) e)
    by_taken (IsDatagramTaken.closed_too reason is_due until was brings e) made = by_packet (opened_short _ _ _ _ tail brings.number brings.bytes brings.opened.is) made
    by_taken (IsDatagramTaken.draining until was e) made = by_nothing (counted_beside (length tail) old new e) (ap (λ (z : Inner S). z.session) e)
    by_taken (IsDatagramTaken.drained was e) made = by_nothing (counted_beside (length tail) old new e) (ap (λ (z : Inner S). z.session) e)

    by_result : {X : Type 0} (r : Result X OutOfMemory) → OnOk r (IsTaken accepts now tail old new) → OnErr r (IsDatagramUnread (accepts old.session) now tail (counted_in (length tail) old))
        → IsMade accepts sealed old new (HandedIn tail ∷ []) → Converses accepts sealed hello h new k (t ++ HandedIn d ∷ [])
    by_result (Ok x) taken wanting made = by_taken taken made
    by_result (Err e) taken wanting made = by_packet (opened_short _ _ _ _ tail wanting.number wanting.frames wanting.is.is) made

    pub rest_heard : {X : Type 0} (r : Result X OutOfMemory) → OnOk r (IsTaken accepts now tail old new) → OnOk r (IsUndisturbed now old new)
        → OnErr r (IsFailedBy (counted_in (length tail) old) new) → OnErr r (IsDatagramUnread (accepts old.session) now tail (counted_in (length tail) old))
        → ((u : List Act) → Follows old u → Follows new (u ++ HandedIn tail ∷ [])) → IsSameEnd old new → Converses accepts sealed hello h new k (t ++ HandedIn d ∷ [])
    rest_heard r taken undisturbed failed wanting follows same = by_result r taken wanting (came_made accepts sealed now tail r old new taken undisturbed failed wanting follows same)

  -- a packet that was accepted came
  pub brought_came : (accepts : AcceptsTag) (now : Moment) (tail d frames : List ℕ) (old new : Inner S) (side : Side) (t : List Act) → NamesTags accepts → EndsWith tail d → IsSameEnd old new
      → old.side ≡ side → BringsPacket accepts now tail frames (counted_in (length tail) old) new → HasPacketOf (length new.local_id) (handed_in (t ++ HandedIn d ∷ [])) (other side) Data
  brought_came accepts now tail d frames old new side t named ends same side_is b =
      let u = handed_in (t ++ HandedIn d ∷ []) in
      subst (λ (z : List ℕ). HasPacketOf (length z) u (other side) Data) (sym same.local_id)
      (subst (λ (z : Side). HasPacketOf (length old.local_id) u (other z) Data) side_is
      (opened_came accepts (length old.local_id) (other old.side) b.is.expected tail d b.number frames b.taken.is_eliciting t named b.is.is b.taken.surveyed ends))

  -- the end that took it isn't drained
  goes_lives : (now : Moment) (end : Option ConnectionError) (old new : Inner S) → is_open old.state ≡ true → GoesOnWith now end old new → is_drained new.state ≡ false
  goes_lives now None old new up is = ap (λ (z : Inner S). is_drained z.state) is ∙ open_lives old.state up
  goes_lives now (Some (Fault e)) old new up f = ap (λ (z : Inner S). is_drained z.state) f.closed.rest_is
  goes_lives now (Some e) old new up d = ap (λ (z : Inner S). is_drained z.state) d.rest_is

  pub brought_lives : (accepts : AcceptsTag) (now : Moment) (tail frames : List ℕ) (old new : Inner S) → BringsPacket accepts now tail frames old new → is_drained new.state ≡ false
  brought_lives accepts now tail frames old new b = goes_lives now b.taken.end (record old { space = b.taken.space; idle = restarted now old.idle }) new b.opened b.taken.goes_on

  pub either_way : (accepts : AcceptsTags S) (sealed : MakesTagsOf S) (result : Result Unit OutOfMemory) (hello : List ℕ) (c : Connection S) (t : List Act) → Stands accepts sealed hello c t
      → StandsOrFails accepts sealed result hello c t
  either_way accepts sealed (Ok x) hello c t p = (p, tt)
  either_way accepts sealed (Err e) hello c t p = (tt, fails_to accepts sealed hello c t p)

  -- a server is connected
  pub connected_stands : (accepts : AcceptsTags S) (sealed : MakesTagsOf S) (hello : List ℕ) (old new : Connection S) (t : List Act) → new.handshake ≡ record (dropping old.handshake) { is_validated = true } → new.is_connected ≡ true
      → IsMadeLocally old.core new.core [] → HasPacketOf (length old.core.local_id) (handed_in t) (other old.handshake.side) Data → Stands accepts sealed hello old t → Stands accepts sealed hello new t
  connected_stands accepts sealed hello old new t handshake connected made has p =
      subst (λ (z : Handshake). Converses accepts sealed hello z new.core new.is_connected t) (sym handshake)
      (subst (λ (z : Bool). Converses accepts sealed hello (record (dropping old.handshake) { is_validated = true }) new.core z t) (sym connected)
      (stays accepts sealed hello (record (dropping old.handshake) { is_validated = true }) old.core new.core true t made (connects accepts sealed hello old.handshake old.core old.is_connected t has p)))

  -- ---- an end that closed

  pub counted_hears : (accepts : AcceptsTags S) (sealed : MakesTagsOf S) (hello : List ℕ) (c : Connection S) (n : ℕ) (t : List Act) (d : List ℕ) → n ≡ min (c.handshake.bytes_received + length d) (2 ^ 64 - 1)
      → Stands accepts sealed hello c t → Hears accepts sealed hello (record c.handshake { bytes_received = n }) c.core c.is_connected t d
  counted_hears accepts sealed hello c n t d same p =
      subst (λ (z : ℕ). Hears accepts sealed hello (record c.handshake { bytes_received = z }) c.core c.is_connected t d) (sym (same ∙ min_comm _ _))
      (counts accepts sealed hello d c.handshake c.core c.is_connected t p)

  pub shut_stands : (accepts : AcceptsTags S) (sealed : MakesTagsOf S) (takes : AcceptsTag) (hello tail d : List ℕ) (old mid : Connection S) (core : Inner S) (t : List Act) → NamesTags takes → EndsWith tail d
      → IsShutConnected takes tail old mid → core.local_id ≡ old.handshake.local_id → Converses accepts sealed hello old.handshake core old.is_connected (t ++ HandedIn d ∷ [])
      → Converses accepts sealed hello mid.handshake core mid.is_connected (t ++ HandedIn d ∷ [])
  shut_stands accepts sealed takes hello tail d old mid core t named ends (IsShutConnected.brought b e) id p =
      let u = t ++ HandedIn d ∷ [] in
      let has : HasPacketOf (length core.local_id) (handed_in u) (other old.handshake.side) Data =
      subst (λ (z : List ℕ). HasPacketOf (length z) (handed_in u) (other old.handshake.side) Data) (sym id)
      (opened_came takes (length old.handshake.local_id) (other old.handshake.side) 0 tail d b.number b.frames b.is_eliciting t named b.opened b.valid ends) in
      subst (λ (z : Connection S). Converses accepts sealed hello z.handshake core z.is_connected u) (sym e) (connects accepts sealed hello old.handshake core old.is_connected u has p)
  shut_stands accepts sealed takes hello tail d old mid core t named ends (IsShutConnected.still none e) id p =
      subst (λ (z : Connection S). Converses accepts sealed hello z.handshake core z.is_connected (t ++ HandedIn d ∷ [])) (sym e) p
