-- Frames that are written, lost or acknowledged one after another.
use Rattle.std.proofs.Common.{◌≡◌, ◌⊎◌, ℕ, List, [], ◌∷◌, ◌++◌, reverse, refl, sym, ap, ◌∙◌, inl, inr, append_assoc, subst}
use Rattle.std.proofs.lemmas.List.{append-nil, reverse-append}
use Rattle.qh_spec.specs.Lists.{In}
use Rattle.qh_streams.specs.declared.frames.SentFrame.{SentFrame}
use Rattle.qh_streams.specs.Streams.{PlainStreams, AreWritten, IsWrittenBy, AreHanded, AreTakenBack, AreLost, AreAcked}
use Rattle.qh_streams.specs.Streams.AreWritten.{none as none_written, more as more_written}
use Rattle.qh_streams.specs.Streams.AreHanded.{none as none_handed, more as more_handed}
use Rattle.qh_streams.specs.Streams.AreLost.{none as none_lost, more as more_lost}
use Rattle.qh_streams.specs.Streams.AreAcked.{none as none_acked, more as more_acked}
use Rattle.qh_streams.specs.Tracked.{AreTracked}
use Rattle.qh_streams.proofs.StreamsTracked.{adds_tracked, drops_tracked, any_order}
use Rattle.qh_streams.proofs.StreamsTrackedSteps.{written_adds}
use Rattle.qh_streams.proofs.StreamsTrackedSettled.{lost_drops, acked_drops}

-- a frame in front stands at the end as well
in_behind : (f g : SentFrame) (fs : List SentFrame) → In g fs → In g (fs ++ f ∷ [])
in_behind f g [] there = absurd there
in_behind f g (h ∷ fs) (inl same) = inl same
in_behind f g (h ∷ fs) (inr there) = inr (in_behind f g fs there)

at_end : (f : SentFrame) (fs : List SentFrame) → In f (fs ++ f ∷ [])
at_end f [] = inl refl
at_end f (h ∷ fs) = inr (at_end f fs)

front_to_end : (f : SentFrame) (fs : List SentFrame) (g : SentFrame) → In g (f ∷ fs) → In g (fs ++ f ∷ [])
front_to_end f fs g (inl same) = subst (λ (x : SentFrame). In x (fs ++ f ∷ [])) same (at_end f fs)
front_to_end f fs g (inr there) = in_behind f g fs there

all_written : (room : ℕ) (old new : PlainStreams) (fs : List SentFrame) (bytes : List ℕ) (out : List SentFrame) → AreWritten room old new fs bytes → AreTracked old out → AreTracked new (out ++ fs)
all_written room old new fs bytes out (none_written _ _) t = rw (append-nil out) t
all_written room old new fs bytes out (more_written _ _ mid _ f rest more handed fits back others) t =
    let here : AreTracked mid (out ++ f ∷ []) = any_order (front_to_end f out) (adds_tracked (written_adds old mid room f handed) t) in
    rw (append_assoc out (f ∷ []) rest) at (all_written _ mid new rest more (out ++ f ∷ []) others here)

pub written_by : (room : ℕ) (old new : PlainStreams) (bytes_old bytes_new : List ℕ) (sent_old sent_new : List SentFrame)
    → IsWrittenBy room old new bytes_old bytes_new sent_old sent_new → AreTracked old sent_old → AreTracked new sent_new
written_by room old new bytes_old bytes_new sent_old sent_new p t = rw p.sent_is (all_written room old new p.frames p.bytes sent_old p.written t)

pub lost_all : (old new : PlainStreams) (fs others : List SentFrame) → AreLost old new fs → AreTracked old (fs ++ others) → AreTracked new others
lost_all old new fs others (none_lost _) t = t
lost_all old new fs others (more_lost _ mid _ front f before lost) t =
    drops_tracked (lost_drops mid new f lost) (lost_all old mid front (f ∷ others) before (rw (append_assoc front (f ∷ []) others) at t))

pub acked_all : (old new : PlainStreams) (fs others : List SentFrame) → AreAcked old new fs → AreTracked old (fs ++ others) → AreTracked new others
acked_all old new fs others (none_acked _) t = t
acked_all old new fs others (more_acked _ mid _ front f before acked) t =
    drops_tracked (acked_drops mid new f acked) (acked_all old mid front (f ∷ others) before (rw (append_assoc front (f ∷ []) others) at t))

all_handed : (old new : PlainStreams) (fs others : List SentFrame) → AreHanded old new fs → AreTracked old others → AreTracked new (reverse fs ++ others)
all_handed old new fs others (none_handed _) t = t
all_handed old new fs others (more_handed room _ mid _ f rest handed behind) t =
    let turned = ap (λ (l : List SentFrame). l ++ others) (reverse-append (f ∷ []) rest) ∙ append_assoc (reverse rest) (f ∷ []) others in
    subst (λ (l : List SentFrame). AreTracked new l) (sym turned) (all_handed mid new rest (f ∷ others) behind (adds_tracked (written_adds old mid room f handed) t))

-- what was handed over and lost waits again
pub taken_back : (old new : PlainStreams) (others : List SentFrame) → AreTakenBack old new → AreTracked old others → AreTracked new others
taken_back old new others p t = lost_all p.mid new (reverse p.frames) others p.lost (all_handed old p.mid p.frames others p.handed t)
