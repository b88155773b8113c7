-- Each datagram that a handshake handed out was handed out by its end.
use Rattle.std.proofs.Common.{ℕ, List, [], ◌∷◌, refl, inl, inr}
use Rattle.qh_converse.proofs.ShakeLaws.{out_kept, out_last}
use Rattle.qh_converse.specs.Parts.{IsShakeOf}
use Rattle.qh_converse.specs.Parts.IsShakeOf.{none as no_shake, came, went, other as other_act}
use Rattle.qh_spec.proofs.PartLaws.{out_more}
use Rattle.qh_spec.specs.Lists.{In}
use Rattle.qh_spec.specs.Transcript.{Act, HandedIn, HandedOut, handed_out}

pub shake_went : (u t : List Act) → IsShakeOf u t → (d : List ℕ) → In d (handed_out u) → In d (handed_out t)
shake_went u t no_shake d i = absurd i
shake_went u t (came shake whole g p) d i = elim (out_more d shake (HandedIn g) [] refl i) [ inl h ↦ out_kept d whole (HandedIn g) (shake_went shake whole p d h) | inr h ↦ absurd h ]
shake_went u t (went shake whole g alone p) d i =
    elim (out_more d shake (HandedOut g) (g ∷ []) refl i) [ inl h ↦ out_kept d whole (HandedOut g) (shake_went shake whole p d h) | inr h ↦ out_last d whole g h ]
shake_went u t (other_act shake whole a quiet short p) d i = out_kept d whole a (shake_went shake whole p d i)
