-- Whether bytes are a 1-RTT packet whose frames can be read is one question, whatever way they are read.
use Rattle.std.proofs.Common.{◌≡◌, ℕ, List, [], ◌∷◌, false, Bool, Result, Ok, Err, IfErr, refl, sym, ap, ◌∙◌, subst, arith, length}
use Rattle.std.specs.Prelude.{is_ok}
use Rattle.std.specs.List.{AllByRecursion}
use Rattle.qh_frame.specs.declared.frame.FrameFault.{FrameFault}
use Rattle.qh_packet.proofs.Surveys.{frame_takes}
use Rattle.qh_spec.proofs.FrameLaws.{quic_frame_agrees}
use Rattle.qh_frame.specs.FrameAt.{HasNoFrame}
use Rattle.qh_frame.specs.Range.{IsInRange}
use Rattle.qh_frame.specs.WrittenForm.{written_form}
use Rattle.qh_packet.proofs.Packets.{parts_of}
use Rattle.qh_packet.specs.Frames.{AreValidFrames, BeginWithFrames, IsFaultyFrame}
use Rattle.qh_packet.specs.Packet.{IsOpened}
use Rattle.qh_packet.specs.Session.{AcceptsTag}
use Rattle.qh_packet.specs.declared.frames.PacketFault.{PacketFault}
use Rattle.qh_packet.specs.declared.frames.PacketFault.TheVariants as fault
use Rattle.qh_packet.specs.declared.frames.ValidFrames.{ValidFrames}
use Rattle.qh_spec.specs.QuicFrames.{QuicFrame, AreQuicFrames}
use Rattle.qh_spec.specs.declared.sides.Side.{Side}

-- the frames of a packet are found in one way
pub one_opening : (accepts : AcceptsTag) (id_length : ℕ) (sender : Side) (expected : ℕ) (datagram : List ℕ) (m n : ℕ) (xs ys : List ℕ)
    → IsOpened accepts id_length sender expected datagram m xs → IsOpened accepts id_length sender expected datagram n ys → xs ≡ ys
one_opening accepts id_length sender expected datagram m n xs ys p q =
    sym p.frames_are ∙ (parts_of accepts id_length sender expected datagram p.packet n ys p.is.fits p.is.whole q).frames_are

none_empty : (fs : List QuicFrame) → AreQuicFrames [] fs → AllByRecursion IsInRange fs → (fs ≡ [] → ⊥) → ⊥
none_empty [] are ranged some = some refl
none_empty (f ∷ fs) are ranged some = omega (arith, frame_takes [] are.0 (written_form f) (record { frame = f; is = are.1; in_range = ranged.0; form_is = refl }))

-- bytes that are frames in range aren't at fault
none_faulty : (bytes rest : List ℕ) (fs : List QuicFrame) → BeginWithFrames bytes rest → HasNoFrame rest → (rest ≡ [] → ⊥) → AreQuicFrames bytes fs → AllByRecursion IsInRange fs → ⊥
none_faulty bytes rest [] (BeginWithFrames.none _) never some are ranged = some are
none_faulty bytes rest (q ∷ qs) (BeginWithFrames.none _) never some are ranged = never q are.0 are.1 ranged.0
none_faulty bytes rest [] (BeginWithFrames.more _ mid _ f is in_range behind) never some are ranged =
    omega (arith, frame_takes bytes mid (written_form f) (record { frame = f; is = is; in_range = in_range; form_is = refl }), ap length are)
none_faulty bytes rest (q ∷ qs) (BeginWithFrames.more _ mid _ f is in_range behind) never some are ranged =
    let one = quic_frame_agrees bytes f q mid are.0 is are.1 in
    none_faulty mid rest qs behind never some (subst (λ (z : List ℕ). AreQuicFrames z qs) (sym one.1) are.2) ranged.1

pub invalid : (bytes : List ℕ) (e : Bool) (r : Result ValidFrames PacketFault) → (r ≡ Err fault.Empty → bytes ≡ []) → IfErr r (λ f. (g : FrameFault) → f ≡ fault.Frame g → IsFaultyFrame bytes g.frame)
    → AreValidFrames bytes e → is_ok r ≡ false → ⊥
invalid bytes e (Ok x) empty faulty valid is = cc
invalid bytes e (Err fault.Empty) empty faulty valid is = none_empty valid.frames (subst (λ (z : List ℕ). AreQuicFrames z valid.frames) (empty refl) valid.are) valid.in_range valid.some
invalid bytes e (Err (fault.Frame g)) empty faulty valid is =
    let f = faulty g refl in
    none_faulty bytes f.rest valid.frames f.behind f.none f.some valid.are valid.in_range

-- what is opened for an end is opened for what is known of it
pub opened_as : {S : Type 0} (accepts : S → AcceptsTag) (s t : S) (k l : ℕ) (side from : Side) (bytes : List ℕ) (number : ℕ) (frames : List ℕ) → t ≡ s → l ≡ k → from ≡ side
    → IsOpened (accepts s) k side 0 bytes number frames → IsOpened (accepts t) l from 0 bytes number frames
opened_as accepts s t k l side from bytes number frames same long sides is =
    subst (λ z. IsOpened (accepts z) l from 0 bytes number frames) (sym same)
    (subst (λ z. IsOpened (accepts s) z from 0 bytes number frames) (sym long) (subst (λ z. IsOpened (accepts s) k z 0 bytes number frames) (sym sides) is))
