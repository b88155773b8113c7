-- What a handshake beside an end leaves of it: memory lacks, or it is the same end, with the same streams.
use Rattle.std.proofs.Common.{◌≡◌, ◌⊎◌, Bool, true, false, List, Option, refl, sym, ap, subst, ◌∙◌, inl, inr}
use Rattle.std.proofs.lemmas.Bool.{both_ways}
use Rattle.qh_base.specs.declared.connection_error.ConnectionError.{ConnectionError}
use Rattle.qh_core.specs.Event.{is_drained}
use Rattle.qh_core.specs.Inner.{IsFailedBy, IsSameEnd, is_open}
use Rattle.qh_core.specs.Made.{IsTurned}
use Rattle.qh_core.specs.Made.IsTurned.{faulted, draining, failed, close_told, closed_heard, packet_accepted, packet_sent, renamed, log_started, items_taken}
use Rattle.qh_core.specs.Receiving.{IsClosedHeard}
use Rattle.qh_core.specs.Receiving.IsClosedHeard.{told_again, closed_too, draining as still_draining, drained as still_drained}
use Rattle.qh_core.specs.Sending.{ClosesReadBack, without_close_due}
use Rattle.qh_core.specs.declared.inner.Inner.{Inner}
use Rattle.qh_core.specs.declared.state.Close.{Close}
use Rattle.qh_core.specs.declared.state.State.{State}
use Rattle.qh_core.specs.declared.state.State.TheVariants.{Established, Closed, Draining, Drained}
use Rattle.qh_streams.specs.declared.items.Item.{Item}

not_drained : (s : State) → is_drained s ≡ false → s ≡ Drained → ⊥
not_drained s lives is = both_ways (is_drained s) lives (ap is_drained is)

closed_lives : (s : State) (reason : Close) (is_due : Bool) (until : _) → s ≡ Closed reason is_due until → s ≡ Drained → ⊥
closed_lives s reason is_due until is drained = let both : Closed reason is_due until ≡ Drained = sym is ∙ drained in cc

told_open : (s : State) → is_open (without_close_due s) ≡ is_open s
told_open Established = refl
told_open (Closed reason is_due until) = refl
told_open (Draining until) = refl
told_open Drained = refl

-- an end that is open has no CONNECTION_CLOSE to send
pub open_back : (s : State) → is_open s ≡ true → ClosesReadBack s
open_back s up reason until is = absurd (both_ways (is_open s) (ap is_open is) up)

module _ {S : Type 0} where
  -- It is open only if it was, and one that is drained stays so, with its error. Of the space nothing but the log is another.
  pub record IsAside (old new : Inner S) : Type 0 where
    pub same : IsSameEnd old new
    pub log : Option (List Item)
    pub space : new.space ≡ record old.space { log = log }
    pub opens : is_open new.state ≡ true → is_open old.state ≡ true
    pub drained : old.state ≡ Drained → (new.state ≡ Drained) × (new.error ≡ old.error)

  at : (old new c : Inner S) → new ≡ c → IsAside old c → IsAside old new
  at old new c e a = subst (λ (z : Inner S). IsAside old z) (sym e) a

  itself : (old : Inner S) → IsAside old old
  itself old = record {
    same = record { side = refl; local_id = refl; remote_length = refl; config = refl };
    log = old.space.log;
    space = refl;
    opens = λ up. up;
    drained = λ is. (is, refl);
  }

  ended : (old : Inner S) (state : State) (error : Option ConnectionError) → is_open state ≡ false → (old.state ≡ Drained → ⊥) → IsAside old (record old { state = state; error = error })
  ended old state error down lives = record {
    same = record { side = refl; local_id = refl; remote_length = refl; config = refl };
    log = old.space.log;
    space = refl;
    opens = λ up. absurd (both_ways (is_open state) down up);
    drained = λ is. absurd (lives is);
  }

  shifted : (old : Inner S) (state : State) → (is_open state ≡ true → is_open old.state ≡ true) → (old.state ≡ Drained → state ≡ Drained) → IsAside old (record old { state = state })
  shifted old state opens stays = record {
    same = record { side = refl; local_id = refl; remote_length = refl; config = refl };
    log = old.space.log;
    space = refl;
    opens = opens;
    drained = λ is. (stays is, refl);
  }

  logged_so : (old : Inner S) (log : Option (List Item)) → IsAside old (record old { space = record old.space { log = log } })
  logged_so old log = record {
    same = record { side = refl; local_id = refl; remote_length = refl; config = refl };
    log = log;
    space = refl;
    opens = λ up. up;
    drained = λ is. (is, refl);
  }

  idle_so : (old : Inner S) (idle : _) → IsAside old (record old { idle = idle })
  idle_so old idle = record {
    same = record { side = refl; local_id = refl; remote_length = refl; config = refl };
    log = old.space.log;
    space = refl;
    opens = λ up. up;
    drained = λ is. (is, refl);
  }

  heard_aside : (brings_close : Bool) (old new : Inner S) → IsClosedHeard brings_close old new → IsAside old new
  heard_aside brings_close old new (told_again reason is_due until is no_close e) =
      at old new _ e (shifted old (Closed reason true until) (λ up. absurd (both_ways false refl up)) (λ drained. absurd (closed_lives old.state reason is_due until is drained)))
  heard_aside brings_close old new (closed_too reason is_due until is closes e) =
      at old new _ e (shifted old (Draining until) (λ up. absurd (both_ways false refl up)) (λ drained. absurd (closed_lives old.state reason is_due until is drained)))
  heard_aside brings_close old new (still_draining until is e) = at old new old e (itself old)
  heard_aside brings_close old new (still_drained is e) = at old new old e (itself old)

  pub turned_aside : (old new : Inner S) → IsTurned old new → IsFailedBy old new ⊎ IsAside old new
  turned_aside old new (faulted now e lives is) = inr (at old new _ is.closed.rest_is (ended old _ _ refl (not_drained old.state lives)))
  turned_aside old new (draining now e lives named is) = inr (at old new _ is.rest_is (ended old _ _ refl (not_drained old.state lives)))
  turned_aside old new (failed is lost probes) = inl is
  turned_aside old new (close_told e) =
      inr (at old new _ e (shifted old (without_close_due old.state) (λ up. sym (told_open old.state) ∙ up) (λ drained. ap without_close_due drained)))
  turned_aside old new (closed_heard brings_close shut is) = inr (heard_aside brings_close old new is)
  turned_aside old new (packet_accepted now e) = inr (at old new _ e (idle_so old _))
  turned_aside old new (packet_sent now e) = inr (at old new _ e (idle_so old _))
  turned_aside old new (renamed id same e) = inr (at old new _ e (record {
    same = record { side = refl; local_id = refl; remote_length = same; config = refl };
    log = old.space.log;
    space = refl;
    opens = λ up. up;
    drained = λ is. (is, refl);
  }))
  turned_aside old new (log_started unused arrived off e) = inr (at old new _ e (logged_so old _))
  turned_aside old new (items_taken e) = inr (at old new _ e (logged_so old _))
