use Rattle.std.proofs.Common.{◌≡◌, Bool, true, false, refl}
use Rattle.qh_base.specs.declared.time.Moment.{Moment}
use Rattle.qh_core.specs.Inner.{is_open}
use Rattle.qh_core.specs.Receiving.{IsClosedHeard}
use Rattle.qh_core.specs.Receiving.IsClosedHeard.{closed_too, draining, drained, told_again}
use Rattle.qh_core.specs.declared.inner.Inner.{Inner}
use Rattle.qh_core.specs.declared.state.Close.{Close}
use Rattle.qh_core.specs.declared.state.State.{State}
use Rattle.qh_core.specs.declared.state.State.TheVariants.{Established, Closed, Draining, Drained}
use Rattle.qh_core.proofs.inner.Inner.hear_closed.Goals as goal

-- an end that is drained, or that the peer closed, takes nothing
nothing_heard : {S : Type 0} (brings_close : Bool) (c : Inner S) (state : State) → c.state ≡ state → is_open state ≡ false
    → ((reason : Close) (is_due : Bool) (until : Moment) → state ≡ Closed reason is_due until → ⊥) → IsClosedHeard brings_close c c
nothing_heard brings_close c Established is shut other = absurd (let both : true ≡ false = shut in cc)
nothing_heard brings_close c (Closed reason is_due until) is shut other = absurd (other reason is_due until refl)
nothing_heard brings_close c (Draining until) is shut other = draining until is refl
nothing_heard brings_close c Drained is shut other = drained is refl

pub returns-then-brings_close : goal.returns-then-brings_close
returns-then-brings_close g c = closed_too c.in-Closed.reason c.in-Closed.is_close_due c.in-Closed.until c.in-Closed.is c.if-brings_close.true refl

pub returns-else-brings_close : goal.returns-else-brings_close
returns-else-brings_close g c = told_again c.in-Closed.reason c.in-Closed.is_close_due c.in-Closed.until c.in-Closed.is c.if-brings_close.false refl

pub returns-in_default : goal.returns-in_default
returns-in_default g c = nothing_heard c.args.brings_close c.args.self.now c.args.self.now.state refl c.requires c.in_default.not-Closed
