-- Whatever transmit_control answers: how the connection stands to all that was done then.
use Rattle.std.proofs.Common.{◌≡◌, ℕ, List, ◌++◌, length, Option, Some, None, refl, sym, subst}
use Rattle.std.proofs.lemmas.List.{append-nil}
use Rattle.std.specs.Prelude.{IfOk, IfSome, OnErr, Result, Ok, Err}
use Rattle.qh_base.specs.declared.memory.Memory.{Memory as OutOfMemory}
use Rattle.qh_base.specs.declared.time.Moment.{Moment}
use Rattle.qh_core.proofs.ControlFrames.{open_reads_back}
use Rattle.qh_core.proofs.DatagramsGo.{made_end, made_follows}
use Rattle.qh_core.proofs.Followed.{same_end}
use Rattle.qh_core.proofs.PacketsCome.{failed_end, failed_follows}
use Rattle.qh_core.specs.Follows.{Following, Follows, control_acts}
use Rattle.qh_core.specs.Inner.{IsConnection, IsFailedBy, IsSameEnd}
use Rattle.qh_core.specs.Sending.{IsControlKept, IsControlSent}
use Rattle.qh_core.specs.declared.control.ControlFrame.{ControlFrame}
use Rattle.qh_core.specs.declared.control.ControlSent.{ControlSent}
use Rattle.qh_core.specs.declared.inner.Inner.{Inner}
use Rattle.qh_spec.specs.Transcript.{Act}
use Rattle.qh_spec.specs.declared.sides.Side.{Side}
use Rattle.qh_spec.specs.declared.sides.Space.{Space}
use Rattle.qh_spec.specs.declared.sides.Space.TheVariants.{Data}

module _ {S : Type 0} where
  -- what is known of the answer
  pub record IsControlled (sealed : Side → Space → ℕ → List ℕ) (now : Moment) (old new : Inner S) (before after : List ℕ) (frames : List ControlFrame) (answer : Result (Option ControlSent) OutOfMemory) : Type 0 where
    pub some : IfOk answer (λ o. IfSome o (λ sent. IsControlSent sealed now old new before after frames sent))
    pub tag : IfOk answer (λ o. IfSome o (λ sent. length (sealed old.side Data old.space.next_number) ≡ 32))
    pub none : IfOk answer (λ o. o ≡ None → (after ≡ before) × (new ≡ old) × IsControlKept old frames)
    pub err : OnErr answer ((after ≡ before) × IsFailedBy old new)

  module _ (sealed : Side → Space → ℕ → List ℕ) (now : Moment) (old new : Inner S) (before after : List ℕ) (frames : List ControlFrame) where
    following : (answer : Result (Option ControlSent) OutOfMemory) → IsControlled sealed now old new before after frames answer → IsConnection old → (t : List Act) → Following old t
        → Following new (t ++ control_acts before after answer)
    following (Ok (Some sent)) a c t p = made_follows sealed now old new before after sent.transmit t a.some.made a.tag (open_reads_back old.state a.some.opened) c p
    following (Ok None) a c t p = subst (λ (t : List Act). Following new t) (sym (append-nil t)) (subst (λ (c : Inner S). Following c t) (sym (a.none refl).1) p)
    following (Err e) a c t p = subst (λ (t : List Act). Following new t) (sym (append-nil t)) (failed_follows old new t a.err.1 p)

    pub controlled_follows : (answer : Result (Option ControlSent) OutOfMemory) → IsControlled sealed now old new before after frames answer → IsConnection old → (t : List Act) → Follows old t
        → Follows new (t ++ control_acts before after answer)
    unfolding Follows
    controlled_follows answer a c t p = following answer a c t p

    pub controlled_end : (answer : Result (Option ControlSent) OutOfMemory) → IsControlled sealed now old new before after frames answer → IsSameEnd old new
    controlled_end (Ok (Some sent)) a = made_end sealed now old new before after sent.transmit a.some.made
    controlled_end (Ok None) a = rw (a.none refl).1 (same_end refl refl refl refl)
    controlled_end (Err e) a = failed_end old new a.err.1
