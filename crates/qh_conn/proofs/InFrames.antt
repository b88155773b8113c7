-- The frames of a packet that was accepted, as they are read again for what is the connection's own.
use Rattle.std.proofs.Common.{◌≡◌, ℕ, suc, zero, Bool, true, false, if◌then◌else◌, List, [], ◌∷◌, length, is_some, Option, None, Some, sym, ap, subst, ◌∙◌, ◌<◌, arith}
use Rattle.qh_base.specs.declared.connection_error.ConnectionError.{ConnectionError}
use Rattle.qh_base.specs.declared.time.Moment.{Moment}
use Rattle.qh_base.specs.declared.transport_error.TransportError.{TransportError}
use Rattle.qh_conn.proofs.InSound.{sound_core}
use Rattle.qh_conn.proofs.Noted.{taken_state}
use Rattle.qh_conn.specs.Greeting.{connected}
use Rattle.qh_conn.specs.Items.{noted}
use Rattle.qh_conn.specs.Incoming.{AreControlsTaken, AreFramesDone, AreFramesHandled, BeginsWithFrames, IsRestTaken, connected_if}
use Rattle.qh_conn.specs.Unread.{IsRestUnread}
use Rattle.qh_conn.specs.Whole.{IsSound, Stands}
use Rattle.qh_conn.specs.declared.connection.Connection.{Connection}
use Rattle.qh_control.specs.Control.{IsControlTaken, control_refusal, keeps}
use Rattle.qh_control.specs.Queue.{AreLost, PlainQueue}
use Rattle.qh_control.specs.declared.control.ControlState.{ControlState}
use Rattle.qh_converse.proofs.MidDatagram.{stays}
use Rattle.qh_converse.specs.Converses.{Converses}
use Rattle.qh_core.proofs.MadeEnds.{turned_made}
use Rattle.qh_core.specs.Event.{is_drained}
use Rattle.qh_core.specs.Follows.{Follows}
use Rattle.qh_core.specs.Inner.{IsSameEnd, is_open}
use Rattle.qh_core.specs.Made.{AcceptsTags, MakesTagsOf}
use Rattle.qh_core.specs.Made.IsTurned.{faulted}
use Rattle.qh_core.specs.Receiving.{AreFramesTaken, BringsPacket, IsFaulted, counted_in}
use Rattle.qh_core.specs.declared.inner.Inner.{Inner}
use Rattle.qh_frame.proofs.WrittenForms.{one_beginning}
use Rattle.qh_frame.specs.FrameAt.{Begins, HasNoFrame}
use Rattle.qh_frame.specs.Plain.{plain_of}
use Rattle.qh_frame.specs.declared.frame.Frame.{Frame}
use Rattle.qh_packet.specs.Session.{AcceptsTag}
use Rattle.qh_recovery.specs.SentPackets.{packet_at}
use Rattle.qh_space.specs.declared.data_space.DataSpace.{DataSpace}
use Rattle.qh_spec.specs.Transcript.{Act}
use Rattle.qh_streams.specs.Streams.{IsRefusal}
use Rattle.qh_streams.specs.declared.fault.StreamFault.{StreamFault}
use Rattle.qh_streams.specs.declared.fault.StreamFault.TheVariants.{Memory as Wanting, Transport}

pub of_taken : (now : ℕ) (bytes : List ℕ) (old new : DataSpace) (taken : List Frame) (end : Option ConnectionError) → AreFramesTaken now bytes old new taken end → BeginsWithFrames bytes taken
of_taken now _ _ _ _ _ (AreFramesTaken.none s) = BeginsWithFrames.none []
of_taken now _ _ _ _ _ (AreFramesTaken.more bytes rest frame old mid new taken end begins unrefused is later) =
    BeginsWithFrames.more bytes rest frame taken begins (of_taken now rest mid new taken end later)
of_taken now _ _ _ _ _ (AreFramesTaken.closed bytes rest frame old new e begins unrefused is) = BeginsWithFrames.more bytes rest frame [] begins (BeginsWithFrames.none rest)
of_taken now _ _ _ _ _ (AreFramesTaken.refused bytes rest frame s e begins kind is) = BeginsWithFrames.none bytes

-- frames with which the bytes begin, as many as the end of the 1-RTT packets took
abbrev pub IsRead : Moment → (bytes : List ℕ) → (count : ℕ) → (old new : ControlState) → Option StreamFault → Type 0
IsRead now bytes count old new end = (read : List Frame) × BeginsWithFrames bytes read × (length read ≡ count) × AreControlsTaken now read old new end

-- so many are left, and what is done with them comes behind what was done
abbrev pub IsReadUpTo : Moment → (bytes rest : List ℕ) → (count left : ℕ) → (old mid : ControlState) → Type 0
IsReadUpTo now bytes rest count left old mid = (mine : List Frame) (new : ControlState) (end : Option StreamFault) → BeginsWithFrames rest mine → length mine ≡ left
    → AreControlsTaken now mine mid new end → IsRead now bytes count old new end

abbrev pub AreReadUpTo : Moment → (bytes rest : List ℕ) → (left all : ℕ) → (old mid : ControlState) → Type 0
AreReadUpTo now bytes rest left all old mid = (taken : List Frame) → BeginsWithFrames bytes taken → all ≡ length taken
    → ((later : List Frame) × BeginsWithFrames rest later × (length later ≡ left)) × IsReadUpTo now bytes rest (length taken) left old mid

pub none_read : (now : Moment) (bytes : List ℕ) (all : ℕ) (s : ControlState) → AreReadUpTo now bytes bytes all all s s
none_read now bytes all s = λ taken are is. ((taken, are, sym is), λ mine new end begins long took. (mine, begins, long ∙ is, took))

later_frames : (rest behind : List ℕ) (f : Frame) (left next : ℕ) (later : List Frame) → Begins rest (plain_of f) behind → left ≡ suc next → BeginsWithFrames rest later → length later ≡ left
    → (others : List Frame) × BeginsWithFrames behind others × (length others ≡ next)
later_frames rest behind f left next [] begins is are long = let z : zero ≡ suc next = long ∙ is in cc
later_frames _ behind f left next (_ ∷ _) begins is (BeginsWithFrames.more rest after g others first are) long =
    (others, subst (λ (z : List ℕ). BeginsWithFrames z others) (sym (one_beginning rest behind after (plain_of f) (plain_of g) begins first).1) are, (let z : suc (length others) ≡ suc next = long ∙ is in cc))

pub one_more : (now : Moment) (bytes rest behind : List ℕ) (f : Frame) (left next all : ℕ) (old mid new : ControlState) → Begins rest (plain_of f) behind → left ≡ suc next → control_refusal mid f ≡ None
    → IsControlTaken now mid new f → AreReadUpTo now bytes rest left all old mid → AreReadUpTo now bytes behind next all old new
one_more now bytes rest behind f left next all old mid new begins is unrefused takes so = λ taken are count.
    let p = so taken are count in (
      later_frames rest behind f left next p.0.0 begins is p.0.1 p.0.2,
      λ mine last end others long took. p.1 (f ∷ mine) last end (BeginsWithFrames.more rest behind f mine begins others) (ap suc long ∙ sym is)
          (AreControlsTaken.more f mine mid new last end unrefused takes took),
    )

no_later : (rest : List ℕ) (left : ℕ) (later : List Frame) → BeginsWithFrames rest later → length later ≡ left → HasNoFrame rest → 0 < left → ⊥
no_later rest left [] are long none some = let z : zero ≡ left = long in omega (arith, z, some)
no_later _ left (_ ∷ _) (BeginsWithFrames.more rest after g others first are) long none some = none first.frame after first.is first.in_range

-- a frame begins what is left, while one is left
pub no_frame : (now : Moment) (bytes rest : List ℕ) (left all : ℕ) (old mid : ControlState) → AreReadUpTo now bytes rest left all old mid → HasNoFrame rest → 0 < left
    → (taken : List Frame) → BeginsWithFrames bytes taken → all ≡ length taken → ⊥
no_frame now bytes rest left all old mid so none some taken are count = let p = so taken are count in no_later rest left p.0.0 p.0.1 p.0.2 none some

pub all_read : (now : Moment) (bytes rest : List ℕ) (left all : ℕ) (old mid : ControlState) → AreReadUpTo now bytes rest left all old mid → left ≡ 0
    → (taken : List Frame) → BeginsWithFrames bytes taken → all ≡ length taken → IsRead now bytes (length taken) old mid None
all_read now bytes rest left all old mid so is taken are count = (so taken are count).1 [] mid None (BeginsWithFrames.none rest) (sym is) (AreControlsTaken.none mid)

-- one that is refused is the last of those that are looked at
pub refused_read : (now : Moment) (bytes rest behind : List ℕ) (f : Frame) (left next all : ℕ) (e : TransportError) (old mid : ControlState) → Begins rest (plain_of f) behind → left ≡ suc next
    → IsRefusal (Transport e) (control_refusal mid f) → AreReadUpTo now bytes rest left all old mid
    → (taken : List Frame) → BeginsWithFrames bytes taken → all ≡ length taken → IsRead now bytes (length taken) old mid (Some (Transport e))
refused_read now bytes rest behind f left next all e old mid begins is refusal so taken are count =
    let p = so taken are count in
    let o = later_frames rest behind f left next p.0.0 begins is p.0.1 p.0.2 in
    p.1 (f ∷ o.0) mid (Some (Transport e)) (BeginsWithFrames.more rest behind f o.0 begins o.1) (ap suc o.2 ∙ sym is) (AreControlsTaken.refused f o.0 mid e refusal)

-- one for which memory is wanting is the last of those that are looked at
pub cut_read : (now : Moment) (bytes rest behind : List ℕ) (f : Frame) (left next all : ℕ) (old mid new : ControlState) → Begins rest (plain_of f) behind → left ≡ suc next → control_refusal mid f ≡ None
    → keeps f ≡ true → new ≡ record mid { ids = new.ids; own_ids = new.own_ids; queue = new.queue } → AreReadUpTo now bytes rest left all old mid
    → (taken : List Frame) → BeginsWithFrames bytes taken → all ≡ length taken → IsRead now bytes (length taken) old new (Some Wanting)
cut_read now bytes rest behind f left next all old mid new begins is unrefused kept e so taken are count =
    let p = so taken are count in
    let o = later_frames rest behind f left next p.0.0 begins is p.0.1 p.0.2 in
    p.1 (f ∷ o.0) new (Some Wanting) (BeginsWithFrames.more rest behind f o.0 begins o.1) (ap suc o.2 ∙ sym is) (AreControlsTaken.cut f o.0 mid new unrefused kept e)

module _ {S : Type 0} where
  pub faulted_done : (now : Moment) (bytes : List ℕ) (count : ℕ) (e : TransportError) (old at tc : Connection S) (closed : Inner S) → tc ≡ at → at ≡ record old { control = at.control }
      → IsRead now bytes count old.control at.control (Some (Transport e)) → IsFaulted now e tc.core closed
      → (read : List Frame) × BeginsWithFrames bytes read × (length read ≡ count) × AreFramesDone now read old (record tc { core = closed })
  faulted_done now bytes count e old at tc closed same is r f = (
    r.0,
    r.1,
    r.2,
    AreFramesDone.refused e (subst (λ (z : Connection S). AreControlsTaken now r.0 old.control z.control (Some (Transport e))) (sym same) r.3)
        (subst (λ (z : Inner S). IsFaulted now e z closed) (ap (λ (z : Connection S). z.core) (same ∙ is)) f),
  )

  pub faulted_sound : (now : Moment) (e : TransportError) (at tc : Connection S) (closed : Inner S) → tc ≡ at → IsSound at → IsSameEnd tc.core closed → IsFaulted now e tc.core closed → IsSound (record tc { core = closed })
  faulted_sound now e at tc closed same s ends f = sound_core tc closed (subst (λ (z : Connection S). IsSound z) (sym same) s) ends
      (λ up. let z : true ≡ false = sym up ∙ ap (λ (z : Inner S). is_open z.state) f.closed.rest_is in cc)

  pub faulted_stands : (accepts : AcceptsTags S) (sealed : MakesTagsOf S) (now : Moment) (e : TransportError) (hello : List ℕ) (old at tc : Connection S) (closed : Inner S) (t : List Act) → tc ≡ at → at ≡ record old { control = at.control }
      → is_drained old.core.state ≡ false → IsFaulted now e tc.core closed → ((u : List Act) → Follows tc.core u → Follows closed u) → IsSameEnd tc.core closed → Stands accepts sealed hello old t
      → Converses accepts sealed hello tc.handshake closed tc.is_connected t
  faulted_stands accepts sealed now e hello old at tc closed t same is lives f follows ends p =
      let before = sym (same ∙ is) in
      stays accepts sealed hello tc.handshake tc.core closed tc.is_connected t
      (turned_made tc.core closed (faulted now e (subst (λ (z : Connection S). is_drained z.core.state ≡ false) before lives) f) follows ends) (subst (λ (z : Connection S). Stands accepts sealed hello z t) before p)

  abbrev pub AreDone : Moment → (bytes : List ℕ) → (count : ℕ) → (old new : Connection S) → Type 0
  AreDone now bytes count old new = (read : List Frame) × BeginsWithFrames bytes read × (length read ≡ count) × AreFramesDone now read old new

  closed_handled : (now : Moment) (read : List Frame) (be tf : Connection S) → AreFramesDone now read be tf → tf ≡ record be { core = tf.core; control = tf.control } → is_open tf.core.state ≡ false
      → AreFramesHandled now read be tf
  closed_handled now read be tf (AreFramesDone.done took same) rest shut =
      AreFramesHandled.ended took (sym (ap (λ (z : Inner S). is_open z.state) same) ∙ shut) (rest ∙ ap (λ (z : Inner S). record be { core = z; control = tf.control }) same)
  closed_handled now read be tf (AreFramesDone.refused e took f) rest shut = AreFramesHandled.refused e took f rest
  closed_handled now read be tf (AreFramesDone.cut took down same) rest shut = AreFramesHandled.cut took down (rest ∙ ap (λ (z : Inner S). record be { core = z; control = tf.control }) same)

  open_handled : (now : Moment) (read : List Frame) (be tf fi : Connection S) (q : PlainQueue) → AreFramesDone now read be tf → tf ≡ record be { core = tf.core; control = tf.control } → is_open tf.core.state ≡ true
      → fi ≡ record tf { core = record tf.core { remote_id = tf.control.ids.active.id } } → AreLost (λ (number : ℕ). is_some (packet_at fi.core.space.sent number)) fi.control.queue q
      → AreFramesHandled now read be (record fi { control = record fi.control { queue = q } })
  open_handled now read be tf fi q (AreFramesDone.done took same) rest up follows lost =
      AreFramesHandled.taken tf.control took (sym (ap (λ (z : Inner S). is_open z.state) same) ∙ up)
      (subst (λ (z : Inner S). AreLost (λ (number : ℕ). is_some (packet_at z.space.sent number)) tf.control.queue q) same
      (subst (λ (z : Connection S). AreLost (λ (number : ℕ). is_some (packet_at z.core.space.sent number)) z.control.queue q) follows lost))
      (ap (λ (z : Connection S). record z { control = record z.control { queue = q } }) follows
      ∙ (ap (λ (z : Connection S). record z { core = record z.core { remote_id = z.control.ids.active.id }; control = record z.control { queue = q } }) rest
      ∙ ap (λ (z : Inner S). record be { core = record z { remote_id = tf.control.ids.active.id }; control = record tf.control { queue = q } }) same))
  open_handled now read be tf fi q (AreFramesDone.refused e took f) rest up follows lost =
      let z : true ≡ false = sym up ∙ ap (λ (z : Inner S). is_open z.state) f.closed.rest_is in cc
  open_handled now read be tf fi q (AreFramesDone.cut took down same) rest up follows lost =
      let z : true ≡ false = sym up ∙ (ap (λ (z : Inner S). is_open z.state) same ∙ down) in cc

  -- of an end that is open then each was taken
  all_taken : (now : Moment) (read : List Frame) (be tf : Connection S) → AreFramesDone now read be tf → is_open tf.core.state ≡ true → AreControlsTaken now read be.control tf.control None
  all_taken now read be tf (AreFramesDone.done took same) up = took
  all_taken now read be tf (AreFramesDone.refused e took f) up = let z : true ≡ false = sym up ∙ ap (λ (z : Inner S). is_open z.state) f.closed.rest_is in cc
  all_taken now read be tf (AreFramesDone.cut took down same) up = let z : true ≡ false = sym up ∙ (ap (λ (z : Inner S). is_open z.state) same ∙ down) in cc

  -- an end that is connected now is as open as before
  if_open : (now : Moment) (c : Connection S) (b : Bool) → is_open (if b then noted [] c else connected now c).core.state ≡ is_open c.core.state
  if_open now c true = ap is_open (taken_state c.control.log c.core)
  if_open now c false = ap is_open (taken_state c.control.log c.core)

  open_as : (now : Moment) (core : Inner S) (old be : Connection S) → be ≡ connected_if now (record old { core = core }) → is_open be.core.state ≡ is_open core.state
  open_as now core old be is = ap (λ (z : Connection S). is_open z.core.state) is ∙ if_open now (record old { core = core }) old.is_connected

  pub rest_closed : (accepts : AcceptsTag) (now : Moment) (d rest frames : List ℕ) (old be tf : Connection S) (core : Inner S) (count : ℕ) → is_some old.handshake.peer ≡ true
      → (b : BringsPacket accepts now rest frames (counted_in (length rest) old.core) core) × (count ≡ length b.taken.taken) → be ≡ connected_if now (record old { core = core })
      → tf ≡ record be { core = tf.core; control = tf.control } → ((taken : List Frame) → BeginsWithFrames frames taken → count ≡ length taken → AreDone now frames (length taken) be tf)
      → is_open tf.core.state ≡ false → IsRestTaken accepts now d rest old tf
  rest_closed accepts now d rest frames old be tf core count greeted b connects only done shut =
      let r = done b.0.taken.taken (of_taken now.0 frames _ _ _ _ b.0.taken.are_taken) b.1 in
      IsRestTaken.accepted core frames r.0 greeted b.0 r.1 r.2 (subst (λ (z : Connection S). AreFramesHandled now r.0 z tf) connects (closed_handled now r.0 be tf r.3 only shut))

  pub rest_open : (accepts : AcceptsTag) (now : Moment) (d rest frames : List ℕ) (old be tf fi : Connection S) (q : PlainQueue) (core : Inner S) (count : ℕ) → is_some old.handshake.peer ≡ true
      → (b : BringsPacket accepts now rest frames (counted_in (length rest) old.core) core) × (count ≡ length b.taken.taken) → be ≡ connected_if now (record old { core = core })
      → tf ≡ record be { core = tf.core; control = tf.control } → ((taken : List Frame) → BeginsWithFrames frames taken → count ≡ length taken → AreDone now frames (length taken) be tf)
      → is_open tf.core.state ≡ true → fi ≡ record tf { core = record tf.core { remote_id = tf.control.ids.active.id } }
      → AreLost (λ (number : ℕ). is_some (packet_at fi.core.space.sent number)) fi.control.queue q → IsRestTaken accepts now d rest old (record fi { control = record fi.control { queue = q } })
  rest_open accepts now d rest frames old be tf fi q core count greeted b connects only done up follows lost =
      let r = done b.0.taken.taken (of_taken now.0 frames _ _ _ _ b.0.taken.are_taken) b.1 in
      IsRestTaken.accepted core frames r.0 greeted b.0 r.1 r.2
      (subst (λ (z : Connection S). AreFramesHandled now r.0 z (record fi { control = record fi.control { queue = q } })) connects (open_handled now r.0 be tf fi q r.3 only up follows lost))

  -- ---- want of memory for one of them, or behind them

  pub rest_cut : (accepts : AcceptsTag) (now : Moment) (rest frames : List ℕ) (old be tf : Connection S) (core : Inner S) (count : ℕ)
      → (b : BringsPacket accepts now rest frames (counted_in (length rest) old.core) core) × (count ≡ length b.taken.taken) → be ≡ connected_if now (record old { core = core })
      → tf ≡ record be { core = tf.core; control = tf.control } → (is_open tf.core.state ≡ true → tf.core ≡ be.core) → is_open tf.core.state ≡ true
      → ((taken : List Frame) → BeginsWithFrames frames taken → count ≡ length taken → IsRead now frames (length taken) be.control tf.control (Some Wanting)) → IsRestUnread accepts now rest old tf
  rest_cut accepts now rest frames old be tf core count b connects only same up cut =
      let r = cut b.0.taken.taken (of_taken now.0 frames _ _ _ _ b.0.taken.are_taken) b.1 in
      IsRestUnread.frame core frames r.0 b.0 r.1 r.2 (sym (open_as now core old be connects) ∙ (sym (ap (λ (z : Inner S). is_open z.state) (same up)) ∙ up))
      (subst (λ (z : Connection S). AreControlsTaken now r.0 z.control tf.control (Some Wanting)) connects r.3)
      (only ∙ (ap (λ (z : Inner S). record be { core = z; control = tf.control }) (same up) ∙ ap (λ (z : Connection S). record z { control = tf.control }) connects))

  pub rest_lost : (accepts : AcceptsTag) (now : Moment) (rest frames : List ℕ) (old be tf fi : Connection S) (q : PlainQueue) (core : Inner S) (count : ℕ)
      → (b : BringsPacket accepts now rest frames (counted_in (length rest) old.core) core) × (count ≡ length b.taken.taken) → be ≡ connected_if now (record old { core = core })
      → tf ≡ record be { core = tf.core; control = tf.control } → (is_open tf.core.state ≡ true → tf.core ≡ be.core) → is_open tf.core.state ≡ true
      → ((taken : List Frame) → BeginsWithFrames frames taken → count ≡ length taken → AreDone now frames (length taken) be tf)
      → fi ≡ record tf { core = record tf.core { remote_id = tf.control.ids.active.id } } → q ≡ fi.control.queue → IsRestUnread accepts now rest old (record fi { control = record fi.control { queue = q } })
  rest_lost accepts now rest frames old be tf fi q core count b connects only same up done follows still =
      let r = done b.0.taken.taken (of_taken now.0 frames _ _ _ _ b.0.taken.are_taken) b.1 in
      let is = ap (λ (z : PlainQueue). record fi { control = record fi.control { queue = z } }) still ∙ follows in
      subst (λ (z : Connection S). IsRestUnread accepts now rest old z) (sym is)
      (IsRestUnread.lost core frames r.0 b.0 r.1 r.2 (sym (open_as now core old be connects) ∙ (sym (ap (λ (z : Inner S). is_open z.state) (same up)) ∙ up))
      (subst (λ (z : Connection S). AreControlsTaken now r.0 z.control tf.control None) connects (all_taken now r.0 be tf r.3 up))
      (ap (λ (z : Connection S). record z { core = record z.core { remote_id = z.control.ids.active.id } }) only
      ∙ (ap (λ (z : Inner S). record be { core = record z { remote_id = tf.control.ids.active.id }; control = tf.control }) (same up)
      ∙ ap (λ (z : Connection S). record z { core = record z.core { remote_id = tf.control.ids.active.id }; control = tf.control }) connects)))
