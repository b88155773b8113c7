-- Whatever poll_transmit answers: how the connection stands to all that was done then.
use Rattle.std.proofs.Common.{◌≡◌, ℕ, List, ◌++◌, length, Option, Some, None, refl, sym, ap, subst, ◌∙◌, inl, inr}
use Rattle.std.proofs.lemmas.List.{append-nil}
use Rattle.std.specs.Prelude.{IfOk, IfSome, OnErr, Result, Ok, Err}
use Rattle.qh_base.specs.declared.memory.Memory.{Memory as OutOfMemory}
use Rattle.qh_base.specs.declared.path.Transmit.{Transmit}
use Rattle.qh_base.specs.declared.time.Moment.{Moment}
use Rattle.qh_core.proofs.DatagramsGo.{made_end, made_follows}
use Rattle.qh_core.proofs.Followed.{carried_on, same_end, space_follows, stepped}
use Rattle.qh_core.proofs.PacketsCome.{failed_end, failed_follows}
use Rattle.qh_core.specs.Follows.{Following, Follows, transmit_acts}
use Rattle.qh_core.specs.Inner.{IsConnection, IsFailedBy, IsSameEnd}
use Rattle.qh_core.specs.Sending.{ClosesReadBack, IsDatagramMade, NothingIsSent}
use Rattle.qh_core.specs.declared.inner.Inner.{Inner}
use Rattle.qh_history.proofs.SameEnd as same
use Rattle.qh_history.proofs.WithinLimits as limits
use Rattle.qh_space.specs.declared.data_space.DataSpace.{DataSpace}
use Rattle.qh_spec.specs.Transcript.{Act}
use Rattle.qh_spec.specs.declared.sides.Side.{Side}
use Rattle.qh_spec.specs.declared.sides.Space.{Space}
use Rattle.qh_spec.specs.declared.sides.Space.TheVariants.{Data}

module _ {S : Type 0} where
  -- ---- nothing is sent

  nothing_end : (old new : Inner S) → NothingIsSent old new → IsSameEnd old new
  nothing_end old new n = rw n.0 (same_end refl refl refl refl)

  nothing_follows : (old new : Inner S) (t : List Act) → NothingIsSent old new → Following old t → Following new t
  nothing_follows old new t n p = subst (λ (c : Inner S). Following c t) (sym n.0) p

  -- ---- whatever is answered

  -- what is known of the answer
  pub record IsTransmitted (sealed : Side → Space → ℕ → List ℕ) (now : Moment) (old new : Inner S) (before after : List ℕ) (answer : Result (Option Transmit) OutOfMemory) : Type 0 where
    pub some : IfOk answer (λ o. IfSome o (λ t. IsDatagramMade sealed now old new before after t))
    pub tag : IfOk answer (λ o. IfSome o (λ t. length (sealed old.side Data old.space.next_number) ≡ 32))
    pub read_back : IfOk answer (λ o. IfSome o (λ t. ClosesReadBack old.state))
    pub none : IfOk answer (λ o. o ≡ None → (after ≡ before) × NothingIsSent old new)
    pub err : OnErr answer ((after ≡ before) × IsFailedBy old new)

  module _ (sealed : Side → Space → ℕ → List ℕ) (now : Moment) (old new : Inner S) (before after : List ℕ) where
    following : (answer : Result (Option Transmit) OutOfMemory) → IsTransmitted sealed now old new before after answer → IsConnection old → (t : List Act) → Following old t
        → Following new (t ++ transmit_acts before after answer)
    following (Ok (Some transmit)) a c t p = made_follows sealed now old new before after transmit t a.some a.tag a.read_back c p
    following (Ok None) a c t p = subst (λ (t : List Act). Following new t) (sym (append-nil t)) (nothing_follows old new t (a.none refl).1 p)
    following (Err e) a c t p = subst (λ (t : List Act). Following new t) (sym (append-nil t)) (failed_follows old new t a.err.1 p)

    pub transmitted_follows : (answer : Result (Option Transmit) OutOfMemory) → IsTransmitted sealed now old new before after answer → IsConnection old → (t : List Act) → Follows old t
        → Follows new (t ++ transmit_acts before after answer)
    unfolding Follows
    transmitted_follows answer a c t p = following answer a c t p

    pub transmitted_end : (answer : Result (Option Transmit) OutOfMemory) → IsTransmitted sealed now old new before after answer → IsSameEnd old new
    transmitted_end (Ok (Some transmit)) a = made_end sealed now old new before after transmit a.some
    transmitted_end (Ok None) a = nothing_end old new (a.none refl).1
    transmitted_end (Err e) a = failed_end old new a.err.1
