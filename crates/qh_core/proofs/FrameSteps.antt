-- The frames of a packet, taken one after another.
use Rattle.std.proofs.Common.{◌≡◌, ℕ, ◌+◌, ◌≤◌, Bool, List, [], ◌∷◌, ◌++◌, Option, Some, None, length, refl, sym, ap, ◌∙◌, inl, inr, subst, append_assoc, arith}
use Rattle.std.proofs.lemmas.List.{append-nil, length-append}
use Rattle.std.specs.List.{AllByRecursion}
use Rattle.std.specs.Prelude.{OnErr, Result, Ok, Err}
use Rattle.qh_base.specs.declared.connection_error.ConnectionError.{ConnectionError}
use Rattle.qh_base.specs.declared.connection_error.ConnectionError.TheVariants.{TransportError as Fault}
use Rattle.qh_base.specs.declared.transport_error.TransportError.{TransportError}
use Rattle.qh_core.specs.Receiving.{AreFramesTaken, StopsUnrefused}
use Rattle.qh_core.specs.Receiving.AreFramesTaken.{none, more, closed, refused}
use Rattle.qh_core.specs.Receiving.StopsUnrefused.{here, behind as behind_taken}
use Rattle.qh_frame.specs.FrameAt.{Begins, HasNoFrame}
use Rattle.qh_frame.specs.Plain.{plain_of}
use Rattle.qh_frame.specs.Range.{IsInRange}
use Rattle.qh_frame.specs.TypeOf.{HasType}
use Rattle.qh_frame.specs.declared.frame.Frame.{Frame}
use Rattle.qh_packet.proofs.Surveys.{frame_takes}
use Rattle.qh_packet.specs.Frames.{AreValidFrames}
use Rattle.qh_space.specs.Receiving.{IsFrameTaken, frame_refusal}
use Rattle.qh_space.specs.Space.{IsSpace}
use Rattle.qh_space.specs.declared.data_space.DataSpace.{DataSpace}
use Rattle.qh_spec.proofs.FrameLaws.{quic_frame_agrees}
use Rattle.qh_spec.specs.QuicFrames.{QuicFrame, AreQuicFrames}
use Rattle.qh_streams.specs.Streams.{IsRefusal, IsRefusedBy}
use Rattle.qh_streams.specs.declared.fault.StreamFault.{StreamFault}
use Rattle.qh_streams.specs.declared.fault.StreamFault.TheVariants.{Transport, Memory as Wanting}

-- the bytes are frames in range
pub record AreInRange (bytes : List ℕ) : Type 0 where
  pub frames : List QuicFrame
  pub are : AreQuicFrames bytes frames
  pub in_range : AllByRecursion IsInRange frames

-- so they are behind the first of them
pub range_behind : (bytes rest : List ℕ) (form : QuicFrame) → AreInRange bytes → Begins bytes form rest → AreInRange rest
range_behind bytes rest form h b = behind h.frames h.are h.in_range where
  behind : (fs : List QuicFrame) → AreQuicFrames bytes fs → AllByRecursion IsInRange fs → AreInRange rest
  behind [] are all = absurd (omega (arith, frame_takes bytes rest form b, ap length are))
  behind (f ∷ fs) are all = record {
    frames = fs;
    are = subst (λ (z : List ℕ). AreQuicFrames z fs) (quic_frame_agrees bytes f b.frame are.0 rest are.1 b.is).1 are.2;
    in_range = all.1;
  }

-- there is none where none can be read
pub range_none : (bytes : List ℕ) → AreInRange bytes → HasNoFrame bytes → bytes ≡ []
range_none bytes h unread = all h.frames h.are h.in_range where
  all : (fs : List QuicFrame) → AreQuicFrames bytes fs → AllByRecursion IsInRange fs → bytes ≡ []
  all [] are in_range = are
  all (f ∷ fs) are in_range = absurd (unread f are.0 are.1 in_range.0)

-- so many frames in front of the rest were taken, none of them closed, and the rest are frames too
pub record AreTakenUpTo (now count : ℕ) (bytes rest : List ℕ) (old mid : DataSpace) : Type 0 where
  pub taken : List Frame
  pub count_is : count ≡ length taken
  -- each of them has a byte
  pub below : count + length rest ≤ length bytes
  pub goes_on : (new : DataSpace) (later : List Frame) (end : Option ConnectionError) → AreFramesTaken now rest mid new later end → AreFramesTaken now bytes old new (taken ++ later) end
  pub stops : StopsUnrefused now rest mid → StopsUnrefused now bytes old
  pub left : AreInRange rest
  pub space : IsSpace mid

pub taken_none : (now : ℕ) (bytes : List ℕ) (s : DataSpace) (is_eliciting : _) → AreValidFrames bytes is_eliciting → IsSpace s → AreTakenUpTo now 0 bytes bytes s s
taken_none now bytes s is_eliciting h space = record {
  taken = [];
  count_is = refl;
  below = omega arith;
  goes_on = λ new later end t. t;
  stops = λ s. s;
  left = record { frames = h.frames; are = h.are; in_range = h.in_range };
  space = space;
}

-- one more is counted
one_longer : (count : ℕ) (fs : List Frame) (f : Frame) → count ≡ length fs → count + 1 ≡ length (fs ++ f ∷ [])
one_longer count fs f is = let sum = length-append fs (f ∷ []) in omega (arith, is, sum)

as_long : (count : ℕ) (fs : List Frame) → count ≡ length fs → count ≡ length (fs ++ [])
as_long count fs is = is ∙ ap length (sym (append-nil fs))

-- one more is taken
pub taken_more : (now count : ℕ) (bytes rest behind : List ℕ) (old mid new : DataSpace) (f : Frame) → AreTakenUpTo now count bytes rest old mid → Begins rest (plain_of f) behind
    → frame_refusal mid f ≡ None → IsFrameTaken now mid new f None → IsSpace new → AreTakenUpTo now (count + 1) bytes behind old new
taken_more now count bytes rest behind old mid new f h b free step space = record {
  taken = h.taken ++ f ∷ [];
  count_is = one_longer count h.taken f h.count_is;
  below = omega (arith, h.below, frame_takes rest behind (plain_of f) b);
  goes_on = λ last later end t.
      subst (λ (fs : List Frame). AreFramesTaken now bytes old last fs end) (sym (append_assoc h.taken (f ∷ []) later))
      (h.goes_on last (f ∷ later) end (more rest behind f mid new last later end b free step t));
  stops = λ s. h.stops (behind_taken rest behind f mid new b free step s);
  left = range_behind rest behind (plain_of f) h.left b;
  space = space;
}

-- what was taken in the end, and how many
abbrev pub HasTaken : (now count : ℕ) (bytes : List ℕ) (old new : DataSpace) (end : Option ConnectionError) → Type 0
HasTaken now count bytes old new end = (taken : List Frame) × AreFramesTaken now bytes old new taken end × (count ≡ length taken)

-- all are taken
pub taken_all : (now count : ℕ) (bytes rest : List ℕ) (old new : DataSpace) → AreTakenUpTo now count bytes rest old new → HasNoFrame rest → HasTaken now count bytes old new None
taken_all now count bytes rest old new h unread = (
  h.taken ++ [],
  h.goes_on new [] None (subst (λ (z : List ℕ). AreFramesTaken now z new new [] None) (sym (range_none rest h.left unread)) (none new)),
  as_long count h.taken h.count_is,
)

-- one closes
pub taken_closed : (now count : ℕ) (bytes rest behind : List ℕ) (old mid new : DataSpace) (f : Frame) (e : ConnectionError) → AreTakenUpTo now count bytes rest old mid → Begins rest (plain_of f) behind
    → frame_refusal mid f ≡ None → IsFrameTaken now mid new f (Some e) → HasTaken now (count + 1) bytes old new (Some e)
taken_closed now count bytes rest behind old mid new f e h b free step =
    (h.taken ++ f ∷ [], h.goes_on new (f ∷ []) (Some e) (closed rest behind f mid new e b free step), one_longer count h.taken f h.count_is)

-- one is refused
pub taken_refused : (now count : ℕ) (bytes rest behind : List ℕ) (old mid new : DataSpace) (f : Frame) (fault : StreamFault) (e : TransportError) → AreTakenUpTo now count bytes rest old mid
    → Begins rest (plain_of f) behind → HasType rest f → IsRefusedBy fault (frame_refusal mid f) → new ≡ mid → fault ≡ Transport e → HasTaken now count bytes old new (Some (Fault e))
taken_refused now count bytes rest behind old mid new f fault e h b named (inl wanting) same is = absurd (let both : Wanting ≡ Transport e = sym wanting.0 ∙ is in cc)
taken_refused now count bytes rest behind old mid new f fault e h b named (inr r) same is = (
  h.taken ++ [],
  subst (λ (s : DataSpace). AreFramesTaken now bytes old s (h.taken ++ []) (Some (Fault e))) (sym same)
      (h.goes_on mid [] (Some (Fault e)) (refused rest behind f mid e b named (subst (λ (x : StreamFault). IsRefusal x (frame_refusal mid f)) is r))),
  as_long count h.taken h.count_is,
)

-- memory is wanting only at one that isn't refused
pub unrefused : (s : DataSpace) (f : Frame) (fault : StreamFault) → IsRefusedBy fault (frame_refusal s f) → fault ≡ Wanting → frame_refusal s f ≡ None
unrefused s f fault (inl wanting) is = wanting.1
unrefused s f fault (inr r) is = absurd (subst (λ (x : StreamFault). IsRefusal x (frame_refusal s f)) is r)

pub stops_at : (now count : ℕ) (bytes rest after : List ℕ) (old mid : DataSpace) (f : Frame) (fault : StreamFault) → AreTakenUpTo now count bytes rest old mid → Begins rest (plain_of f) after
    → IsRefusedBy fault (frame_refusal mid f) → fault ≡ Wanting → StopsUnrefused now bytes old
stops_at now count bytes rest after old mid f fault h b r is = h.stops (here rest after f mid b (unrefused mid f fault r is))

-- bytes that are valid frames begin with one
pub first_read : (bytes : List ℕ) (is_eliciting : Bool) → AreValidFrames bytes is_eliciting → HasNoFrame bytes → ⊥
first_read bytes is_eliciting h unread = first h.frames h.are h.in_range h.some where
  first : (fs : List QuicFrame) → AreQuicFrames bytes fs → AllByRecursion IsInRange fs → (fs ≡ [] → ⊥) → ⊥
  first [] are all some = some refl
  first (f ∷ fs) are all some = unread f are.0 are.1 all.0

pub wants : {A E : Type 0} {P : Type 0} (r : Result A E) → P → OnErr r P
wants (Ok a) p = tt
wants (Err e) p = p

-- one that is refused alone
pub refused_first : (now : ℕ) (bytes rest : List ℕ) (s : DataSpace) (f : Frame) (fault : StreamFault) (e : TransportError) → Begins bytes (plain_of f) rest → HasType bytes f
    → IsRefusedBy fault (frame_refusal s f) → fault ≡ Transport e → AreFramesTaken now bytes s s [] (Some (Fault e))
refused_first now bytes rest s f fault e b named (inl wanting) is = absurd (let both : Wanting ≡ Transport e = sym wanting.0 ∙ is in cc)
refused_first now bytes rest s f fault e b named (inr r) is = refused bytes rest f s e b named (subst (λ (x : StreamFault). IsRefusal x (frame_refusal s f)) is r)
