-- Frames that are acknowledged or lost one after another.
use Rattle.std.proofs.Common.{◌≡◌, List, [], ◌∷◌, ◌++◌, Option, Some, None, refl, sym, ap, ◌∙◌, append_assoc}
use Rattle.std.specs.Prelude.{IfSome}
use Rattle.std.specs.Option.{option_to_list}
use Rattle.std.proofs.lemmas.List.{append-nil}
use Rattle.qh_streams.specs.declared.frames.SentFrame.{SentFrame}
use Rattle.qh_streams.specs.Streams.{PlainStreams, IsOut, KeepsOut, AreAllOut, IsAckedFrame, AreAcked, IsLostFrame, AreLost}
use Rattle.qh_streams.specs.Streams.AreAcked.{none as none_acked, more as more_acked}
use Rattle.qh_streams.specs.Streams.AreLost.{none as none_lost, more as more_lost}

-- Some of the frames are settled one after another, the others are left; what was out still is.
pub record AreSoFar (Settled : PlainStreams → PlainStreams → List SentFrame → Type 0) (old now : PlainStreams) (frames done left : List SentFrame) : Type 0 where
  pub settled : Settled old now done
  pub keeps_out : KeepsOut old now
  pub list_is : frames ≡ done ++ left

-- a frame behind others that are all out is out
pub is_out_behind : (s : PlainStreams) (done : List SentFrame) (f : SentFrame) (left : List SentFrame) → AreAllOut s (done ++ f ∷ left) → IsOut s f
is_out_behind s [] f left out = out.0
is_out_behind s (g ∷ done) f left out = is_out_behind s done f left out.1

pub next_out : {Settled : PlainStreams → PlainStreams → List SentFrame → Type 0} {old now : PlainStreams} {frames done left : List SentFrame} (f : SentFrame) (rest : List SentFrame)
    → AreSoFar Settled old now frames done left → left ≡ f ∷ rest → AreAllOut old frames → IsOut now f
next_out {old = old} {done = done} f rest so_far left_is out =
    let e = so_far.list_is in
    so_far.keeps_out f (is_out_behind old done f rest (rw (e, left_is) at out))

-- nothing is left
pub all_settled : {Settled : PlainStreams → PlainStreams → List SentFrame → Type 0} {old now : PlainStreams} {frames done left : List SentFrame}
    → AreSoFar Settled old now frames done left → left ≡ [] → Settled old now frames
all_settled {done = done} so_far none = rw (so_far.list_is, none, append-nil done) so_far.settled

list_behind : (done : List SentFrame) (f : SentFrame) (left rest frames : List SentFrame) → frames ≡ done ++ left → left ≡ f ∷ rest → frames ≡ (done ++ f ∷ []) ++ rest
list_behind done f left rest frames e left_is = rw (e, left_is) (sym (append_assoc done (f ∷ []) rest))

pub none_acked_yet : (s : PlainStreams) (frames left : List SentFrame) → frames ≡ left → AreSoFar AreAcked s s frames [] left
none_acked_yet s frames left e = record { settled = none_acked s; keeps_out = λ _ out. out; list_is = e }

pub one_more_acked : {old now new : PlainStreams} {frames done left : List SentFrame} (f : SentFrame) (rest : List SentFrame) → AreSoFar AreAcked old now frames done left → left ≡ f ∷ rest
    → IsAckedFrame now new f → KeepsOut now new → AreSoFar AreAcked old new frames (done ++ f ∷ []) rest
one_more_acked {old = old} {now = now} {new = new} {frames = frames} {done = done} {left = left} f rest so_far left_is acked keeps = record {
  settled = more_acked old now new done f so_far.settled acked;
  keeps_out = λ g out. keeps g (so_far.keeps_out g out);
  list_is = list_behind done f left rest frames so_far.list_is left_is;
}

pub none_lost_yet : (s : PlainStreams) (frames left : List SentFrame) → frames ≡ left → AreSoFar AreLost s s frames [] left
none_lost_yet s frames left e = record { settled = none_lost s; keeps_out = λ _ out. out; list_is = e }

pub one_more_lost : {old now new : PlainStreams} {frames done left : List SentFrame} (f : SentFrame) (rest : List SentFrame) → AreSoFar AreLost old now frames done left → left ≡ f ∷ rest
    → IsLostFrame now new f → KeepsOut now new → AreSoFar AreLost old new frames (done ++ f ∷ []) rest
one_more_lost {old = old} {now = now} {new = new} {frames = frames} {done = done} {left = left} f rest so_far left_is lost keeps = record {
  settled = more_lost old now new done f so_far.settled lost;
  keeps_out = λ g out. keeps g (so_far.keeps_out g out);
  list_is = list_behind done f left rest frames so_far.list_is left_is;
}

-- the last of frames that are all out is out, and no frames are all out
pub popped_is_out : (s : PlainStreams) (last : Option SentFrame) (rest frames : List SentFrame) → frames ≡ rest ++ option_to_list last → AreAllOut s frames → IfSome last (IsOut s)
popped_is_out s None rest frames e out = tt
popped_is_out s (Some f) rest frames e out = is_out_behind s rest f [] (rw e at out)

pub all_out_at_first : (s : PlainStreams) (frames : List SentFrame) → frames ≡ [] → AreAllOut s frames
all_out_at_first s frames e = rw e tt
