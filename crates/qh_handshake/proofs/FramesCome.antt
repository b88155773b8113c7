-- The frames of a packet, taken one after another.
use Rattle.std.proofs.Common.{◌≡◌, ◌⊎◌, ℕ, Bool, List, [], ◌∷◌, Option, Some, None, refl, sym, ap, inl, inr, subst, arith, length, ◌∙◌}
use Rattle.std.specs.List.{AllByRecursion}
use Rattle.qh_base.specs.declared.connection_error.ConnectionClose.{ConnectionClose}
use Rattle.qh_base.specs.declared.connection_error.ConnectionError.{ConnectionError}
use Rattle.qh_base.specs.declared.connection_error.ConnectionError.TheVariants.{Memory as Wanting, TransportError as Fault, ConnectionClosed}
use Rattle.qh_base.specs.declared.transport_error.TransportError.{TransportError}
use Rattle.qh_frame.specs.FrameAt.{Begins, HasNoFrame}
use Rattle.qh_frame.specs.Plain.{plain_of}
use Rattle.qh_frame.specs.Range.{IsInRange}
use Rattle.qh_frame.specs.TypeOf.{HasType}
use Rattle.qh_frame.specs.declared.frame.Frame.{Frame}
use Rattle.qh_handshake.proofs.HelloHeld.{chain, frame_keeps, one_keeps}
use Rattle.qh_handshake.specs.Handshake.{KeepsHello}
use Rattle.qh_handshake.specs.Incoming.{AreFramesTaken, IsFirstRefused}
use Rattle.qh_handshake.specs.Incoming.AreFramesTaken.{none, more, closed, refused}
use Rattle.qh_handshake.specs.InitialSpace.{IsInitialSpace}
use Rattle.qh_handshake.specs.Unread.{StopsUnrefused}
use Rattle.qh_handshake.specs.Unread.StopsUnrefused.{here, behind as behind_taken}
use Rattle.qh_handshake.specs.Receiving.{IsFrameTaken, IsRefusedBy, KeepsAfter, frame_refusal}
use Rattle.qh_handshake.specs.declared.initial_space.InitialSpace.{InitialSpace}
use Rattle.qh_handshake.specs.declared.receiving.SpaceFault.{SpaceFault}
use Rattle.qh_handshake.specs.declared.receiving.SpaceFault.TheVariants.{Transport, Memory}
use Rattle.qh_packet.proofs.Surveys.{frame_takes}
use Rattle.qh_packet.specs.Frames.{AreValidFrames}
use Rattle.qh_spec.proofs.FrameLaws.{quic_frame_agrees}
use Rattle.qh_spec.specs.QuicFrames.{QuicFrame, AreQuicFrames}

-- the bytes are frames in range
pub record AreInRange (bytes : List ℕ) : Type 0 where
  pub frames : List QuicFrame
  pub are : AreQuicFrames bytes frames
  pub in_range : AllByRecursion IsInRange frames

-- so they are behind the first of them
pub range_behind : (bytes rest : List ℕ) (form : QuicFrame) → AreInRange bytes → Begins bytes form rest → AreInRange rest
range_behind bytes rest form h b = behind h.frames h.are h.in_range where
  behind : (fs : List QuicFrame) → AreQuicFrames bytes fs → AllByRecursion IsInRange fs → AreInRange rest
  behind [] are all = absurd (omega (arith, frame_takes bytes rest form b, ap length are))
  behind (f ∷ fs) are all = record {
    frames = fs;
    are = subst (λ (z : List ℕ). AreQuicFrames z fs) (quic_frame_agrees bytes f b.frame are.0 rest are.1 b.is).1 are.2;
    in_range = all.1;
  }

-- there is none where none can be read
pub range_none : (bytes : List ℕ) → AreInRange bytes → HasNoFrame bytes → bytes ≡ []
range_none bytes h unread = all h.frames h.are h.in_range where
  all : (fs : List QuicFrame) → AreQuicFrames bytes fs → AllByRecursion IsInRange fs → bytes ≡ []
  all [] are in_range = are
  all (f ∷ fs) are in_range = absurd (unread f are.0 are.1 in_range.0)

-- the frames in front of the rest were taken, none of them closed, and the rest are frames too
pub record AreTakenUpTo (now : ℕ) (bytes rest : List ℕ) (old mid : InitialSpace) : Type 0 where
  pub goes_on : (new : InitialSpace) (end : Option ConnectionError) → AreFramesTaken now rest mid new end → AreFramesTaken now bytes old new end
  pub stops : StopsUnrefused now rest mid → StopsUnrefused now bytes old
  pub left : AreInRange rest
  pub space : IsInitialSpace mid
  pub hello : KeepsHello old mid

pub taken_none : (now : ℕ) (bytes : List ℕ) (s : InitialSpace) (is_eliciting : Bool) → AreValidFrames bytes is_eliciting → IsInitialSpace s → AreTakenUpTo now bytes bytes s s
taken_none now bytes s is_eliciting h space = record {
  goes_on = λ new end t. t;
  stops = λ stop. stop;
  left = record { frames = h.frames; are = h.are; in_range = h.in_range };
  space = space;
  hello = one_keeps s s refl;
}

-- one more is taken
pub taken_more : (now : ℕ) (bytes rest behind : List ℕ) (old mid new : InitialSpace) (f : Frame) → AreTakenUpTo now bytes rest old mid → Begins rest (plain_of f) behind
    → frame_refusal mid f ≡ None → IsFrameTaken now mid new f None → IsInitialSpace new → AreTakenUpTo now bytes behind old new
taken_more now bytes rest behind old mid new f h b free step space = record {
  goes_on = λ last end t. h.goes_on last end (more rest behind f mid new last end b free step t);
  stops = λ stop. h.stops (behind_taken rest behind f mid new b free step stop);
  left = range_behind rest behind (plain_of f) h.left b;
  space = space;
  hello = chain old mid new h.hello (frame_keeps now mid new f None step);
}

-- all are taken
pub taken_all : (now : ℕ) (bytes rest : List ℕ) (old new : InitialSpace) → AreTakenUpTo now bytes rest old new → HasNoFrame rest → AreFramesTaken now bytes old new None
taken_all now bytes rest old new h unread = h.goes_on new None (subst (λ (z : List ℕ). AreFramesTaken now z new new None) (sym (range_none rest h.left unread)) (none new))

-- one closes
pub taken_closed : (now : ℕ) (bytes rest behind : List ℕ) (old mid new : InitialSpace) (f : Frame) (close : ConnectionClose) → AreTakenUpTo now bytes rest old mid → Begins rest (plain_of f) behind
    → frame_refusal mid f ≡ None → IsFrameTaken now mid new f (Some close) → AreFramesTaken now bytes old new (Some (ConnectionClosed close))
taken_closed now bytes rest behind old mid new f close h b free step = h.goes_on new (Some (ConnectionClosed close)) (closed rest behind f mid new close b free step)

-- one isn't taken
pub taken_refused : (now : ℕ) (bytes rest behind : List ℕ) (old mid new : InitialSpace) (f : Frame) (fault : SpaceFault) (e : ConnectionError) → AreTakenUpTo now bytes rest old mid
    → Begins rest (plain_of f) behind → HasType rest f → IsRefusedBy fault f (frame_refusal mid f) → KeepsAfter fault mid new f
    → ((t : TransportError) → fault ≡ Transport t → e ≡ Fault t) → (fault ≡ Memory → e ≡ Wanting) → (e ≡ Wanting) ⊎ AreFramesTaken now bytes old new (Some e)
taken_refused now bytes rest behind old mid new f (Transport t) e h b named r kept says wants =
    let end = says t refl in
    inr (subst (λ (x : ConnectionError). AreFramesTaken now bytes old new (Some x)) (sym end)
    (subst (λ (s : InitialSpace). AreFramesTaken now bytes old s (Some (Fault t))) (sym kept) (h.goes_on mid (Some (Fault t)) (refused rest behind f mid t b named r))))
taken_refused now bytes rest behind old mid new f Memory e h b named r kept says wants = inl (wants refl)

-- memory is wanting only for one that isn't refused
pub stops_at : (now : ℕ) (bytes rest after : List ℕ) (old mid : InitialSpace) (f : Frame) (fault : SpaceFault) (e : ConnectionError) → AreTakenUpTo now bytes rest old mid → Begins rest (plain_of f) after
    → IsRefusedBy fault f (frame_refusal mid f) → ((t : TransportError) → fault ≡ Transport t → e ≡ Fault t) → e ≡ Wanting → StopsUnrefused now bytes old
stops_at now bytes rest after old mid f (Transport t) e h b r says wanting = absurd (let both : Fault t ≡ Wanting = sym (says t refl) ∙ wanting in cc)
stops_at now bytes rest after old mid f Memory e h b r says wanting = h.stops (here rest after f mid b r)

-- bytes that are valid frames begin with one
pub first_read : (bytes : List ℕ) (is_eliciting : Bool) → AreValidFrames bytes is_eliciting → HasNoFrame bytes → ⊥
first_read bytes is_eliciting h unread = first h.frames h.are h.in_range h.some where
  first : (fs : List QuicFrame) → AreQuicFrames bytes fs → AllByRecursion IsInRange fs → (fs ≡ [] → ⊥) → ⊥
  first [] are all some = some refl
  first (f ∷ fs) are all some = unread f are.0 are.1 all.0

-- the first isn't taken
pub first_refused : (bytes rest : List ℕ) (old new : InitialSpace) (f : Frame) (fault : SpaceFault) (e : ConnectionError) → Begins bytes (plain_of f) rest → HasType bytes f
    → IsRefusedBy fault f (frame_refusal old f) → KeepsAfter fault old new f → ((t : TransportError) → fault ≡ Transport t → e ≡ Fault t) → (fault ≡ Memory → e ≡ Wanting)
    → (e ≡ Wanting) ⊎ ((t : TransportError) × (e ≡ Fault t) × IsFirstRefused bytes old t × (new ≡ old))
first_refused bytes rest old new f (Transport t) e b named r kept says wants = inr (t, says t refl, record { rest = rest; frame = f; begins = b; named_so = named; refusal = r }, kept)
first_refused bytes rest old new f Memory e b named r kept says wants = inl (wants refl)
